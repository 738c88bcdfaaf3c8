use Rattle.fuse_codec.proofs.Prefixes as prefixes
use Rattle.fuse_codec.proofs.laws.no_prefix_requests.Goals as goal

pub returns : goal.returns
returns c = prefixes.no_prefix_requests
