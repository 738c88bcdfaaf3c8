use Rattle.fuse_device.proofs.DataLaws.{IsServable-serve_chain_data, servable_data}
use Rattle.daemon_core.proofs.tests.devices.stay.Goals as goal

pub returns : goal.returns
returns c = IsServable-serve_chain_data _ _ _ _ _ c.serve_chain_data.ensures.step c.serve_chain_data.ensures.memory c.requires

pub serve_chain_data-requires-clause-boards : goal.serve_chain_data-requires-clause-boards
serve_chain_data-requires-clause-boards c = servable_data _ _ _ _ c.requires
