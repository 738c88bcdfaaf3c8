-- A truncation: its request under the bar on the file, and the bar that is had and given back.
use Rattle.std.proofs.Common.{◌≡◌, ◌∙◌, ap, sym, refl, subst, arith, ℕ, ◌+◌, ◌-◌, ◌<◌, ◌≤◌, ◌^◌, Bool, true, false, length, Option, Some, None, Result, Ok, Err, inl, inr, is_some}
use Rattle.std.specs.Prelude.{◌||◌, nat_lt}
use Rattle.std.proofs.lemmas.Bool.{eq-eqb, le-ltb}
use Rattle.plain_file.specs.declared.operations.Op.{Op}
use Rattle.plain_file.specs.declared.operations.Op.TheVariants as ops
use Rattle.plain_file.specs.declared.operations.Way.{Way}
use Rattle.plain_file.specs.declared.operations.Way.TheVariants as ways
use Rattle.plain_file.specs.File.{max_file, answer}
use Rattle.plain_file.specs.Board.{FileView, FileHands, BoardView, is_file, file_may_apply, may_apply, file_at, applied, file_answer}
use Rattle.plain_file.specs.Counts.{more_by_one}
use Rattle.plain_file.specs.Turns.{leases_on, with_bar, refused_bar}
use Rattle.plain_file.proofs.OneFile.{file_at-with_file, file_at-with_other}
use Rattle.fuse_wire.specs.Layout.{FitsParts}
use Rattle.fuse_wire.specs.Attributes.{attr_rec, attr_out}
use Rattle.fuse_codec.specs.Grammar.{kind_of}
use Rattle.fuse_codec.specs.Opcodes.{reply_form}
use Rattle.fuse_codec.specs.Replies.{form_of, reply_parts, is_reply}
use Rattle.fuse_codec.specs.declared.replies.Reply.{Reply}
use Rattle.fuse_codec.specs.declared.replies.Reply.TheVariants as replies
use Rattle.fuse_device.specs.State.{State, World, made_at}
use Rattle.fuse_device.specs.DataSteps.{is_data, is_on_file}
use Rattle.fuse_device.specs.Requests.{answered, setattr, size_in, is_forget}
use Rattle.fuse_device.specs.Entries.{file_attr, attr_out_of}
use Rattle.fuse_device.specs.OpenFiles.{HasOpenFile}
use Rattle.fuse_device.proofs.OpenHandles.{is_known-open}
use Rattle.fuse_device.proofs.OpenHandles as handles
use Rattle.guest_wire.specs.declared.driver.FileRef.{FileRef}
use Rattle.guest_wire.specs.Requests.{message, setattr_request}
use Rattle.guest_dax.specs.Stands.{Stand}
use Rattle.guest_dax.proofs.Keeping.{KeepsMap-same}
use Rattle.guest_dax.proofs.Walking.{KeepsMap-pages}
use Rattle.guest_io.specs.declared.calls.Done.{Done}
use Rattle.guest_io.specs.declared.calls.Refusal.{Refusal}
use Rattle.guest_io.specs.declared.calls.Refusal.TheVariants as refusals
use Rattle.guest_io.specs.Calls.{Directs}
use Rattle.guest_io.specs.Requests.{SendsRest, IsUndone, Sends, answer_in}
use Rattle.guest_io.specs.Truncates.{Truncates}
use Rattle.guest_io.specs.Going.{StaysBoard, LeavesAll}
use Rattle.guest_io.proofs.Asked.{IsOnFile, GoesOver}
use Rattle.guest_io.proofs.OnFiles.{IsHandle, links_fit}
use Rattle.guest_io.proofs.DirectLaws.{long-set}
use Rattle.guest_io.proofs.Staying.{StaysBoard-kept, firsts-by}

-- ---- the request

pub truncate_reply : ℕ → ℕ → World → Reply
truncate_reply node size w = replies.Attr (attr_out_of (file_attr w.state node size))

or-true : (plain rest : Bool) → (plain || true || rest) ≡ true
or-true true rest = refl
or-true false rest = refl

-- under the bar on the file each operation is let through
may_apply-barred : (v : BoardView) (file : ℕ) (op : Op) → v.hands.bar ≡ Some file → may_apply v file op ≡ true
unfolding file_may_apply is_file
may_apply-barred v file op barred = rw (barred, eq-eqb file file refl) (or-true v.plain _)

truncate-over : (w : World) (unique : ℕ) (at : FileRef) (size : ℕ) → at.node < 2 ^ 64 → size ≤ max_file → GoesOver (message unique at.node (setattr_request at size)) (truncate_reply at.node size w)
unfolding truncate_reply file_attr kind_of reply_form form_of is_reply reply_parts attr_out attr_rec FitsParts
truncate-over w unique at size low small = record {
  good = refl;
  formed = refl;
  fits = (omega arith, (omega arith, (tt, (omega arith, (omega arith, (omega arith, (omega arith, (omega arith, (omega arith, (omega arith, (omega arith, (omega arith, (omega arith, (links_fit (is_some (made_at w.state at.node).name), (omega arith, (omega arith, (omega arith, (omega arith, (omega arith, tt)))))))))))))))))));
}

truncate-gives : (w : World) (at : FileRef) (file size : ℕ) → at.node ≡ file + 2 → HasOpenFile w.state at.node at.fh → size ≤ max_file → w.files.hands.bar ≡ Some file → answered w at.node (setattr_request at size) ≡ (Ok (truncate_reply at.node size w), record w { files = applied w.files file (ops.Truncate size) })
unfolding truncate_reply answered setattr file_answer answer size_in
truncate-gives w at file size e h small barred =
    let n : at.node - 2 ≡ file = omega (arith, e) in
    let known = is_known-open w.state at.node at.fh h in
    let on = handles.is_file w.state at.node h.made in
    let enough : nat_lt max_file size ≡ false = le-ltb _ _ small in
    let allowed = may_apply-barred w.files (at.node - 2) (ops.Truncate size) (barred ∙ ap (λ k. Some k) (sym n)) in
    subst (λ f. answered w at.node (setattr_request at size) ≡ (Ok (replies.Attr (attr_out_of (file_attr w.state at.node size))), record w { files = applied w.files f (ops.Truncate size) })) n (rw (known, h.handle, on, enough, allowed) refl)

pub truncate-on : (s : State) (bar : Option ℕ) (unique : ℕ) (at : FileRef) (file size : ℕ) → size ≤ max_file → bar ≡ Some file → IsHandle s at file → IsOnFile s bar (message unique at.node (setattr_request at size)) file (ops.Truncate size) (truncate_reply at.node size)
unfolding truncate_reply is_data is_on_file is_forget answer_in file_answer answer form_of file_attr
truncate-on s bar unique at file size small barred h =
    let e = h.node in
    let k = subst (λ n. HasOpenFile s n at.fh) (sym e) h.handle in
    record {
      taken = refl;
      on = refl;
      has_reply = refl;
      node = e;
      started = k.started;
      known = is_known-open s at.node at.fh k;
      gives = λ w same as_before. truncate-gives w at file size e (subst (λ d. HasOpenFile d at.node at.fh) (sym same) k) small (as_before ∙ barred);
      over = λ w low asked. truncate-over w unique at size low small;
      answers = λ w. refl;
      success = λ w. refl;
    }

-- ---- the bar is had, and given back

-- the stand under the bar on a file
abbrev pub under_bar : Stand → ℕ → Stand
under_bar s file = record s { files = with_bar s.files (Some file) }

no-bar : (h k : FileHands) (bar : Option ℕ) → h.bar ≡ None → k ≡ record h { bar = bar } → record k { bar = None } ≡ h
no-bar h k bar none e = ap (λ (x : FileHands). record x { bar = None }) e ∙ ap (λ (b : Option ℕ). record h { bar = b }) (sym none)

stays-barred : (v w : BoardView) (file : ℕ) → v.hands.bar ≡ None → StaysBoard (with_bar v (Some file)) w → StaysBoard v (with_bar w None)
stays-barred v w file none k = record { guest = k.guest; plain = k.plain; over = k.over; may_lease = k.may_lease; others = k.others; hands = no-bar v.hands w.hands (Some file) none k.hands; count = k.count; firsts = k.firsts }

leaves-under : (old new : Stand) (file call : ℕ) (way : Way) → old.files.hands.bar ≡ None → SendsRest (under_bar old file) call way new → LeavesAll old (record new { files = with_bar new.files None })
leaves-under old new file call way none k = record {
  wire = k.wire;
  files = stays-barred old.files new.files file none (StaysBoard-kept (with_bar old.files (Some file)) new.files call way k.files);
  map = KeepsMap-pages old.map new.map k.map;
  hands = k.map.hands;
}

pub leaves-barred : (old mid new : Stand) (file call : ℕ) (way : Way) (w : BoardView) → old.files.hands.bar ≡ None → mid ≡ under_bar old file → w ≡ with_bar new.files None → SendsRest mid call way new → LeavesAll old (record new { files = w })
leaves-barred old mid new file call way w none is back k =
    subst (λ (b : BoardView). LeavesAll old (record new { files = b })) (sym back) (leaves-under old new file call way none (subst (λ (s : Stand). SendsRest s call way new) is k))

-- ---- what was sent under it

directs-barred : (v w : BoardView) (file call : ℕ) (way : Way) (op : Op) (d : Done) → v.hands.bar ≡ None → Directs (with_bar v (Some file)) file call way op d w → Directs v file call way op d (with_bar w None)
directs-barred v w file call way op d none k = record { done = k.done; others = k.others; hands = no-bar v.hands w.hands (Some file) none k.hands; guest = k.guest; count = k.count; closes = k.closes }

undone-barred : (v w : BoardView) (file : ℕ) → IsUndone (with_bar v (Some file)) file w → IsUndone v file (with_bar w None)
undone-barred v w file k = record { more = k.more; others = k.others; history = k.history; own = k.own; stay = k.stay; notes = k.notes }

truncates-under : (old new : Stand) (file call size : ℕ) (r : Result Done Refusal) → old.files.hands.bar ≡ None → leases_on old.files file ≡ 0 → Sends (under_bar old file) file call (ops.Truncate size) ways.Req r new → Truncates old file call size r (record new { files = with_bar new.files None })
truncates-under old new file call size (Ok d) none free (newest, does) = (free, (newest, λ honest. directs-barred old.files new.files file call ways.Req (ops.Truncate size) d none (does honest)))
truncates-under old new file call size (Err (refusals.Busy looked)) none free h = (free, h)
truncates-under old new file call size (Err (refusals.Leased count)) none free h = absurd h
truncates-under old new file call size (Err (refusals.NoHold hold)) none free h = (free, h)
truncates-under old new file call size (Err (refusals.Past end)) none free h = (free, h)
truncates-under old new file call size (Err (refusals.Errno number)) none free h = (free, h)
truncates-under old new file call size (Err (refusals.BadReply bytes)) none free h = (free, h)
truncates-under old new file call size (Err refusals.WireFault) none free h = (free, h)
truncates-under old new file call size (Err refusals.Memory) none free h = (
  free,
  λ honest. elim (h honest) [
    | inl undone ↦ inl (undone-barred old.files new.files file undone)
    | inr made ↦ inr (made.0, directs-barred old.files new.files file call ways.Req (ops.Truncate size) made.0 none made.1)
  ],
)

pub truncates-barred : (old mid new : Stand) (file call size : ℕ) (r : Result Done Refusal) (w : BoardView) → old.files.hands.bar ≡ None → leases_on old.files file ≡ 0 → mid ≡ under_bar old file → w ≡ with_bar new.files None → Sends mid file call (ops.Truncate size) ways.Req r new → Truncates old file call size r (record new { files = w })
truncates-barred old mid new file call size r w none free is back h =
    subst (λ (b : BoardView). Truncates old file call size r (record new { files = b })) (sym back) (truncates-under old new file call size r none free (subst (λ (s : Stand). Sends s file call (ops.Truncate size) ways.Req r new) is h))

-- ---- the bar was refused

-- the file whose bar was refused
abbrev refused_file : BoardView → ℕ → ℕ → FileView
refused_file v file count = record (file_at v file) { refusals = more_by_one (file_at v file).refusals; refused = Some (record { count = count; own = leases_on v file }) }

stays-refused : (v : BoardView) (file count : ℕ) → file < length v.files → StaysBoard v (refused_bar v file count)
stays-refused v file count within = record {
  guest = refl;
  plain = refl;
  over = refl;
  may_lease = refl;
  others = refl;
  hands = refl;
  count = long-set v file (refused_file v file count);
  firsts = firsts-by v (refused_bar v file count) file (ap (λ (x : FileView). x.first) (file_at-with_file v file (refused_file v file count) within)) (λ f else. file_at-with_other v file f (refused_file v file count) else);
}

-- the stand after a refused bar
abbrev pub refused_under : Stand → ℕ → ℕ → Stand
refused_under s file count = record s { files = refused_bar s.files file count }

pub leaves-refused : (old new : Stand) (file count : ℕ) → file < length old.files.files → new ≡ refused_under old file count → LeavesAll old new
leaves-refused old new file count within is =
    subst (λ (s : Stand). LeavesAll old s) (sym is) (record {
      wire = record { honest = refl; over = refl; stays = refl; later = omega arith };
      files = stays-refused old.files file count within;
      map = KeepsMap-same old.map;
      hands = refl;
    })
