use Rattle.fuse_device.proofs.Servable.{IsServable-serve_chain, servable_steps}
use Rattle.daemon_core.proofs.tests.devices.serve.Goals as goal

pub returns : goal.returns
returns c = IsServable-serve_chain _ _ _ _ _ c.serve_chain.ensures.step c.serve_chain.ensures.memory c.requires

pub serve_chain-requires-clause-boards : goal.serve_chain-requires-clause-boards
serve_chain-requires-clause-boards c = servable_steps _ _ _ _ c.requires
