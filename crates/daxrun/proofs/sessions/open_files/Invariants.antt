use Rattle.std.proofs.Common.{◌≡◌, length}
use Rattle.guest_wire.specs.Wires.{boards}
use Rattle.daxrun.specs.Carried.{names_of}
use Rattle.daxrun.specs.Requests.{IsLive}
use Rattle.daxrun.specs.Session.{IsSession, AreOpen}
use Rattle.daxrun.proofs.sessions.open_files.Given as goal

-- the files so far are open
abbrev pub invariant-loop-file : goal.invariant-loop-file
invariant-loop-file g l = record {
  count : length l.opened.items ≡ l.file-index;
  live : IsLive (g.W.Wire.wire l.client.wire) (boards l.files l.map);
  session : IsSession (names_of l.named) l.file-index (g.W.Wire.wire l.client.wire).state;
  handles : AreOpen l.opened.items (g.W.Wire.wire l.client.wire).state;
  same : l.files ≡ l.fn.files;
  window : l.map ≡ l.fn.map;
}
