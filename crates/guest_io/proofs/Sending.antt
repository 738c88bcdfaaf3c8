-- What comes of one request about a file, over any wire.
use Rattle.std.proofs.Common.{◌≡◌, ◌∙◌, ap, sym, refl, subst, arith, ℕ, ◌+◌, ◌<◌, ◌≤◌, Bool, true, false, true≢false, List, length, Option, Some, None, Result, Ok, Err, inl, inr}
use Rattle.std.specs.Prelude.{◌⊎◌, IsSome, ℤ}
use Rattle.std.proofs.lemmas.Grind.{common_steps}
use Rattle.plain_file.specs.declared.operations.Op.{Op}
use Rattle.plain_file.specs.declared.operations.Op.TheVariants as ops
use Rattle.plain_file.specs.declared.operations.Way.{Way}
use Rattle.plain_file.specs.declared.operations.Answer.{Answer}
use Rattle.plain_file.specs.declared.operations.Applied.{Applied}
use Rattle.plain_file.specs.declared.operations.Entry.{Entry}
use Rattle.plain_file.specs.File.{max_file}
use Rattle.plain_file.specs.Board.{FileHands, BoardView, IsReady, file_at, size_of, applied, marked, file_answer, last_of}
use Rattle.plain_file.specs.Sound.{IsSoundBoard}
use Rattle.page_map.specs.Board.{RangesView}
use Rattle.fuse_codec.specs.Replies.{form_of}
use Rattle.fuse_codec.specs.declared.messages.Message.{Message}
use Rattle.fuse_codec.specs.declared.messages.Request.{Request}
use Rattle.fuse_codec.specs.declared.replies.Reply.{Reply}
use Rattle.fuse_codec.specs.declared.replies.Reply.TheVariants as replies
use Rattle.fuse_device.specs.State.{State, World}
use Rattle.fuse_device.specs.OpenFiles.{HasOpenFile}
use Rattle.fuse_device.specs.Promises.{Needs}
use Rattle.guest_wire.specs.Wires.{WireView, Boards, Sent, KeepsWire, boards, world_at}
use Rattle.guest_wire.specs.Keeps.{KeepsBoards, KeepsFiles}
use Rattle.guest_wire.specs.Requests.{CanAsk}
use Rattle.guest_wire.specs.Answers.{Answers, heard}
use Rattle.guest_wire.specs.declared.driver.FileRef.{FileRef}
use Rattle.guest_wire.specs.declared.wires.WireError.{WireError}
use Rattle.guest_wire.specs.declared.wires.WireRefusal.{WireRefusal}
use Rattle.guest_wire.specs.declared.wires.WireRefusal.TheVariants as wires
use Rattle.guest_dax.specs.Stands.{Stand, stand, Stands, IsServing, ref_at}
use Rattle.guest_dax.proofs.Walking.{not-true, CanAsk-stands}
use Rattle.guest_io.specs.declared.calls.Done.{Done}
use Rattle.guest_io.specs.declared.calls.Refusal.{Refusal}
use Rattle.guest_io.specs.declared.calls.Refusal.TheVariants as refusals
use Rattle.guest_io.specs.Calls.{Directs}
use Rattle.guest_io.specs.Requests.{IsHome, SendsRest, Sends, IsEntered, IsUndone, IsRefusalOf, answer_in}
use Rattle.guest_io.proofs.Asked.{IsOnFile, Carries, Sees, carries, hears, sees, mid, back, served_in}
use Rattle.guest_io.proofs.Entered.{directs-by, undone-by, undone-same, undone-unmarked, size-kept, ready-applied, last-one, own-within}
use Rattle.guest_io.proofs.DirectLaws.{Directs-unmarked}

-- ---- all that may be left over an honest wire

-- nothing was sent or carried out, or the file was seen, or the operation was applied
pub record Leaves (w : WireView) (old : World) (m : Message) (file : ℕ) (op : Op) (reply : World → Reply) (new : World) : Type 0 where
  pub state : new.state ≡ old.state
  pub files : (new.files ≡ old.files) ⊎ Sees w old file new ⊎ ((bytes : List ℕ) × Carries w old m file op reply bytes new)

leaves-carried : (w : WireView) (old : World) (m : Message) (file : ℕ) (op : Op) (reply : World → Reply) (bytes : List ℕ) (new : World) → Carries w old m file op reply bytes new → Leaves w old m file op reply new
leaves-carried w old m file op reply bytes new c = record { state = c.state; files = inr (inr (bytes, c)) }

leaves-seen : (w : WireView) (old : World) (m : Message) (file : ℕ) (op : Op) (reply : World → Reply) (new : World) → Sees w old file new → Leaves w old m file op reply new
leaves-seen w old m file op reply new c = record { state = c.state; files = inr (inl c) }

leaves-same : (w : WireView) (old : World) (m : Message) (file : ℕ) (op : Op) (reply : World → Reply) (new : World) → new ≡ old → Leaves w old m file op reply new
leaves-same w old m file op reply new e = record { state = ap (λ (v : World). v.state) e; files = inl (ap (λ (v : World). v.files) e) }

pub leaves : {S V : Type 0} (wire : S → WireView) (gives : S → Boards → Sent → Result (List ℕ) WireError → S → Boards → Type 0) (says : V → Reply → Type 0) (before : S) (old : Boards) (m : Message) (file : ℕ) (op : Op) (reply : World → Reply) (result : Result V WireRefusal) (after : S) (new : Boards)
    → Answers wire gives says before old m result after new → (wire before).honest ≡ true → IsOnFile (wire before).state old.files.hands.bar m file op reply → Leaves (wire before) (world_at (wire before) old) m file op reply (world_at (wire after) new)
leaves wire gives says before old m file op reply (Ok v) after new (bytes, came, judged) honest h =
    leaves-carried (wire before) (world_at (wire before) old) m file op reply bytes (world_at (wire after) new) (carries (wire before) (world_at (wire before) old) m file op reply bytes (world_at (wire after) new) refl came.spelled h (came.honest honest))
leaves wire gives says before old m file op reply (Err (wires.Errno number)) after new (bytes, came, judged) honest h =
    leaves-carried (wire before) (world_at (wire before) old) m file op reply bytes (world_at (wire after) new) (carries (wire before) (world_at (wire before) old) m file op reply bytes (world_at (wire after) new) refl came.spelled h (came.honest honest))
leaves wire gives says before old m file op reply (Err (wires.BadReply bad)) after new (not_honest, received) honest h = absurd (true≢false (sym honest ∙ not_honest))
leaves wire gives says before old m file op reply (Err wires.WireFault) after new (not_honest, rose, came) honest h = absurd (true≢false (sym honest ∙ not_honest))
leaves wire gives says before old m file op reply (Err wires.Memory) after new (inl unsent) honest h =
    leaves-same (wire before) (world_at (wire before) old) m file op reply (world_at (wire after) new) (rw (unsent.wire, unsent.boards) refl)
leaves wire gives says before old m file op reply (Err wires.Memory) after new (inr (inl came)) honest h = elim (came.honest honest) [
  | inl same ↦ leaves-same (wire before) (world_at (wire before) old) m file op reply (world_at (wire after) new) same
  | inr (inl seen) ↦ leaves-seen (wire before) (world_at (wire before) old) m file op reply (world_at (wire after) new) (sees (wire before) (world_at (wire before) old) m file op reply (world_at (wire after) new) came.spelled h seen)
  | inr (inr carried) ↦ leaves-carried (wire before) (world_at (wire before) old) m file op reply carried.0 (world_at (wire after) new) (carries (wire before) (world_at (wire before) old) m file op reply carried.0 (world_at (wire after) new) refl came.spelled h carried.1)
]
leaves wire gives says before old m file op reply (Err wires.Memory) after new (inr (inr (bytes, came))) honest h =
    leaves-carried (wire before) (world_at (wire before) old) m file op reply bytes (world_at (wire after) new) (carries (wire before) (world_at (wire before) old) m file op reply bytes (world_at (wire after) new) refl came.spelled h (came.honest honest))

-- ---- the guest stands as before

back-whole : (stays : Bool) (v w x : BoardView) (file : ℕ) (more : List Entry) → stays ≡ false → x ≡ back stays (mid stays v file more) file → x ≡ v
back-whole true v w x file more e h = absurd (true≢false e)
back-whole false v w x file more e h = h

done-whole : (stays : Bool) (v x : BoardView) (file : ℕ) (more : List Entry) (op : Op) → stays ≡ false → x ≡ back stays (applied (mid stays v file more) file op) file → x ≡ applied v file op
done-whole true v x file more op e h = absurd (true≢false e)
done-whole false v x file more op e h = h

ready-left : (w : WireView) (old : World) (m : Message) (file : ℕ) (op : Op) (reply : World → Reply) (new : World) → Leaves w old m file op reply new → w.stays ≡ false → old.files.plain ≡ true → (f : ℕ) → f < length old.files.files → IsReady old.files f → IsReady new.files f
ready-left w old m file op reply new l whole plain f within ready = elim l.files [
  | inl same ↦ subst (λ (v : BoardView). IsReady v f) (sym same) ready
  | inr (inl seen) ↦ subst (λ (v : BoardView). IsReady v f) (sym (back-whole w.stays old.files old.files new.files file seen.more whole seen.files)) ready
  | inr (inr carried) ↦ subst (λ (v : BoardView). IsReady v f) (sym (done-whole w.stays old.files new.files file carried.1.more op whole carried.1.files)) (ready-applied old.files file op f plain within ready)
]

serving-left : (s t : Stand) (refs : List FileRef) (call : ℕ) (way : Way) (m : Message) (file : ℕ) (op : Op) (reply : World → Reply) → SendsRest s call way t → IsServing s refs → (s.wire.stays ≡ false → s.files.plain ≡ true) → Leaves s.wire (world_at s.wire (boards (marked s.files call way) s.map)) m file op reply (world_at t.wire (boards t.files t.map)) → IsServing t refs
serving-left s t refs call way m file op reply k h plain l =
    let w = world_at s.wire (boards (marked s.files call way) s.map) in
    let x = world_at t.wire (boards t.files t.map) in
    record {
      there = rw (l.state, k.files.count) h.there;
      pages = k.map.count ∙ h.pages ∙ ap (λ (d : State). d.pages) (sym l.state);
      started = ap (λ (d : State). d.started) l.state ∙ h.started;
      ready = λ whole f within.
          let stays = sym k.wire.stays ∙ whole in
          let made : f < length s.wire.state.made = subst (λ (d : State). f < length d.made) l.state within in
          ready-left s.wire w m file op reply x l stays (plain stays) f (omega (arith, made, h.there)) (h.ready stays f made);
      nodes = h.nodes;
      handles = λ f within. subst (λ (d : State). HasOpenFile d (f + 2) (ref_at refs f).fh) (sym l.state) (h.handles f within);
    }

pub IsHome-sent : (s t : Stand) (refs : List FileRef) (call : ℕ) (way : Way) (m : Message) (file : ℕ) (op : Op) (reply : World → Reply) → IsHome s refs → SendsRest s call way t → (s.wire.honest ≡ true → Leaves s.wire (world_at s.wire (boards (marked s.files call way) s.map)) m file op reply (world_at t.wire (boards t.files t.map))) → IsHome t refs
IsHome-sent s t refs call way m file op reply h k l = record {
  stands = record {
    refs_of = h.stands.refs_of ∙ sym k.files.count;
    logs = ap (λ (r : RangesView). length r.logs) k.map.ranges ∙ h.stands.logs ∙ sym k.files.count;
    may_take = ap (λ (r : RangesView). r.may_take) k.map.ranges ∙ h.stands.may_take;
    turn = ap (λ (a : FileHands). a.turn) k.files.hands ∙ h.stands.turn;
    serving = λ honest. let before = sym k.wire.honest ∙ honest in serving-left s t refs call way m file op reply k (h.stands.serving before) (h.plain before) (l before);
  };
  plain = λ honest whole. k.files.plain ∙ h.plain (sym k.wire.honest ∙ honest) (sym k.wire.stays ∙ whole);
}

-- it can be asked
pub Stands-marked : (s : Stand) (refs : List FileRef) (call : ℕ) (way : Way) → Stands s refs → Stands (record s { files = marked s.files call way }) refs
Stands-marked s refs call way h = record {
  refs_of = h.refs_of;
  logs = h.logs;
  may_take = h.may_take;
  turn = h.turn;
  serving = λ honest. let k = h.serving honest in record { there = k.there; pages = k.pages; started = k.started; ready = k.ready; nodes = k.nodes; handles = k.handles };
}

-- ---- the entry that was made

-- over an honest wire the request made one entry, and this is its answer
pub record Enters (s : Stand) (file call : ℕ) (op : Op) (way : Way) (reply : Reply) (t : Stand) : Type 0 where
  pub place : ℕ
  pub directs : Directs s.files file call way op (record { place = place; answer = answer_in reply }) t.files

pub enters-carried : (s t : Stand) (call : ℕ) (way : Way) (m : Message) (file : ℕ) (op : Op) (reply : World → Reply) (bytes : List ℕ) → file < length s.files.files → s.files.hands.turn ≡ None → (s.wire.stays ≡ false → s.files.plain ≡ true) → IsSoundBoard t.files file → IsOnFile s.wire.state s.files.hands.bar m file op reply
    → (c : Carries s.wire (world_at s.wire (boards (marked s.files call way) s.map)) m file op reply bytes (world_at t.wire (boards t.files t.map))) → Enters s file call op way (reply (served_in s.wire.stays (world_at s.wire (boards (marked s.files call way) s.map)) file c.more)) t
enters-carried s t call way m file op reply bytes within free whole sound h c =
    let v = marked s.files call way in
    let u = served_in s.wire.stays (world_at s.wire (boards v s.map)) file c.more in
    let a : Applied = file_answer (file_at (mid s.wire.stays v file c.more) file) op in
    let made = directs-by s.wire.stays v file c.more op a within free c.others refl whole (subst (λ (b : BoardView). IsSoundBoard b file) c.files sound) in
    let there = subst (λ (b : BoardView). Directs v file call way op (record { place = a.place; answer = a.answer }) b) (sym c.files) made in
    record {
      place = a.place;
      directs = subst (λ (x : Answer). Directs s.files file call way op (record { place = a.place; answer = x }) t.files) (sym (h.answers u)) (Directs-unmarked s.files file call way op (record { place = a.place; answer = a.answer }) t.files there);
    }

newest-made : (s t : Stand) (file call : ℕ) (op : Op) (way : Way) (reply : Reply) → (k : Enters s file call op way reply t) → last_of (file_at t.files file).own ≡ Some k.place
newest-made s t file call op way reply k = ap last_of k.directs.done.own ∙ last-one (file_at s.files file).own k.place

fresh-made : (s t : Stand) (file call : ℕ) (op : Op) (way : Way) (reply : Reply) → IsSoundBoard s.files file → (k : Enters s file call op way reply t) → last_of (file_at s.files file).own ≡ Some k.place → ⊥
fresh-made s t file call op way reply sound k e =
    let low = own-within s.files.guest (file_at s.files file) k.place sound.sound.own e in
    let high : k.place ≡ length (file_at s.files file).history + length k.directs.done.more = k.directs.done.place ∙ grind (arith, common_steps) in
    omega (arith, low, high)

some-is : (x y : ℕ) (o : Option ℕ) → o ≡ Some x → o ≡ Some y → x ≡ y
some-is x y o e h = cc

pub Sends-entered : (s t : Stand) (file call : ℕ) (op : Op) (way : Way) (before : Option ℕ) (unique : ℕ) (reply : Reply) (result : Result Done Refusal) → IsSoundBoard s.files file → before ≡ last_of (file_at s.files file).own → IsEntered (file_at t.files file).own before unique reply result
    → (s.wire.honest ≡ true → Enters s file call op way reply t) → Sends s file call op way result t
Sends-entered s t file call op way before unique reply (Ok d) sound is (newest, new, answer) h = (
  (newest, λ e. new (is ∙ e)),
  λ honest.
      let k = h honest in
      let p : k.place ≡ d.place = some-is k.place d.place (last_of (file_at t.files file).own) (newest-made s t file call op way reply k) newest in
      subst (λ (x : Answer). Directs s.files file call way op (record { place = d.place; answer = x }) t.files) (sym answer) (subst (λ n. Directs s.files file call way op (record { place = n; answer = answer_in reply }) t.files) p k.directs),
)
Sends-entered s t file call op way before unique reply (Err (refusals.BadReply bytes)) sound is (nothing, e) h =
    not-true s.wire.honest (λ honest. let k = h honest in fresh-made s t file call op way reply sound k (sym is ∙ nothing k.place (newest-made s t file call op way reply k)))
Sends-entered s t file call op way before unique reply (Err refusals.Memory) sound is nothing h = λ honest. inr (record { place = (h honest).place; answer = answer_in reply }, (h honest).directs)
Sends-entered s t file call op way before unique reply (Err (refusals.Busy looked)) sound is e h = absurd e
Sends-entered s t file call op way before unique reply (Err (refusals.Errno number)) sound is e h = absurd e
Sends-entered s t file call op way before unique reply (Err (refusals.Leased count)) sound is e h = absurd e
Sends-entered s t file call op way before unique reply (Err (refusals.NoHold hold)) sound is e h = absurd e
Sends-entered s t file call op way before unique reply (Err (refusals.Past end)) sound is e h = absurd e
Sends-entered s t file call op way before unique reply (Err refusals.WireFault) sound is e h = absurd e

-- ---- the reply that is brought back

small-before : (s t : Stand) (call : ℕ) (way : Way) (m : Message) (file : ℕ) (op : Op) (reply : World → Reply) (bytes : List ℕ) → file < length s.files.files → IsSoundBoard t.files file → (c : Carries s.wire (world_at s.wire (boards (marked s.files call way) s.map)) m file op reply bytes (world_at t.wire (boards t.files t.map)))
    → op ≡ ops.Size → size_of (file_at (mid s.wire.stays (marked s.files call way) file c.more) file) ≤ max_file
small-before s t call way m file op reply bytes within sound c is =
    let same = size-kept s.wire.stays (marked s.files call way) file c.more op within is in
    subst (λ n. n ≤ max_file) (ap (λ (b : BoardView). size_of (file_at b file)) c.files ∙ same) sound.sound.small

same-reply : (a b : Reply) (o : Option Reply) → o ≡ Some a → o ≡ Some b → a ≡ b
same-reply a b o e h = cc

is-some : (n : ℤ) (r : Reply) → IsSome (form_of r) → r ≡ replies.Error n → ⊥
unfolding form_of
is-some n r some e = true≢false (sym (subst (λ (x : Reply). IsSome (form_of x)) e some))

-- a value was answered that says the reply
pub enters-answered : {S V : Type 0} (wire : S → WireView) (gives : S → Boards → Sent → Result (List ℕ) WireError → S → Boards → Type 0) (says : V → Reply → Type 0) (before : S) (old : Boards) (call : ℕ) (way : Way) (m : Message) (file : ℕ) (op : Op) (reply : World → Reply) (v : V) (said : Reply) (after : S) (new : Boards)
    → Answers wire gives says before (boards (marked old.files call way) old.map) m (Ok v) after new → ((r : Reply) → says v r → r ≡ said)
    → file < length old.files.files → old.files.hands.turn ≡ None → ((wire before).stays ≡ false → old.files.plain ≡ true) → IsSoundBoard new.files file → IsOnFile (wire before).state old.files.hands.bar m file op reply → (wire before).honest ≡ true → Enters (stand (wire before) old.files old.map) file call op way said (stand (wire after) new.files new.map)
enters-answered wire gives says before old call way m file op reply v said after new (bytes, came, (r, is, by)) to within free whole sound h honest =
    let s = stand (wire before) old.files old.map in
    let t = stand (wire after) new.files new.map in
    let w = world_at (wire before) (boards (marked old.files call way) old.map) in
    let x = world_at (wire after) new in
    let c = carries (wire before) w m file op reply bytes x refl came.spelled h (came.honest honest) in
    let heard_it = hears (wire before) w m file op reply bytes x refl came.spelled h c (small-before s t call way m file op reply bytes within sound c) in
    let e : reply (served_in (wire before).stays w file c.more) ≡ said = same-reply (reply (served_in (wire before).stays w file c.more)) r (heard m bytes) heard_it is ∙ to r by in
    subst (λ (y : Reply). Enters s file call op way y t) e (enters-carried s t call way m file op reply bytes within free whole sound h c)

-- ---- why it was refused

-- after want of memory: nothing, or its entry
undone-or-done : (s t : Stand) (call : ℕ) (way : Way) (m : Message) (file : ℕ) (op : Op) (reply : World → Reply) → file < length s.files.files → s.files.hands.turn ≡ None → (s.wire.stays ≡ false → s.files.plain ≡ true) → IsSoundBoard t.files file → IsOnFile s.wire.state s.files.hands.bar m file op reply
    → Leaves s.wire (world_at s.wire (boards (marked s.files call way) s.map)) m file op reply (world_at t.wire (boards t.files t.map)) → IsUndone s.files file t.files ⊎ ((d : Done) × Directs s.files file call way op d t.files)
undone-or-done s t call way m file op reply within free whole sound h l =
    let v = marked s.files call way in
    elim l.files [
      | inl same ↦ inl (undone-unmarked s.files call way file t.files (subst (λ (b : BoardView). IsUndone v file b) (sym same) (undone-same v file)))
      | inr (inl seen) ↦ inl (undone-unmarked s.files call way file t.files (subst (λ (b : BoardView). IsUndone v file b) (sym seen.files) (undone-by s.wire.stays v file seen.more within seen.others (subst (λ (b : BoardView). IsSoundBoard b file) seen.files sound))))
      | inr (inr carried) ↦
          let c = carried.1 in
          let k = enters-carried s t call way m file op reply carried.0 within free whole sound h c in
          inr (record { place = k.place; answer = answer_in (reply (served_in s.wire.stays (world_at s.wire (boards v s.map)) file c.more)) }, k.directs)
    ]

pub Sends-refused : {S V : Type 0} (wire : S → WireView) (gives : S → Boards → Sent → Result (List ℕ) WireError → S → Boards → Type 0) (says : V → Reply → Type 0) (before : S) (old : Boards) (call : ℕ) (way : Way) (m : Message) (file : ℕ) (op : Op) (reply : World → Reply) (refusal : WireRefusal) (after : S) (new : Boards) (e : Refusal)
    → Answers wire gives says before (boards (marked old.files call way) old.map) m (Err refusal) after new → IsRefusalOf refusal e
    → file < length old.files.files → old.files.hands.turn ≡ None → ((wire before).honest ≡ true → (wire before).stays ≡ false → old.files.plain ≡ true) → IsSoundBoard new.files file → ((wire before).honest ≡ true → IsOnFile (wire before).state old.files.hands.bar m file op reply) → Sends (stand (wire before) old.files old.map) file call op way (Err e) (stand (wire after) new.files new.map)
Sends-refused wire gives says before old call way m file op reply (wires.Errno number) after new e (bytes, came, is) of within free whole sound h =
    rw of (not-true (wire before).honest (λ honest.
    let s = stand (wire before) old.files old.map in
    let t = stand (wire after) new.files new.map in
    let w = world_at (wire before) (boards (marked old.files call way) old.map) in
    let x = world_at (wire after) new in
    let k = h honest in
    let c = carries (wire before) w m file op reply bytes x refl came.spelled k (came.honest honest) in
    let heard_it = hears (wire before) w m file op reply bytes x refl came.spelled k c (small-before s t call way m file op reply bytes within sound c) in
    is-some number (reply (served_in (wire before).stays w file c.more)) (k.success (served_in (wire before).stays w file c.more)) (same-reply (reply (served_in (wire before).stays w file c.more)) (replies.Error number) (heard m bytes) heard_it is)))
Sends-refused wire gives says before old call way m file op reply (wires.BadReply bad) after new e (not_honest, received) of within free whole sound h = rw of not_honest
Sends-refused wire gives says before old call way m file op reply wires.WireFault after new e (not_honest, rose, came) of within free whole sound h = rw of (not_honest, rose)
Sends-refused {V = V} wire gives says before old call way m file op reply wires.Memory after new e answer of within free whole sound h =
    let s = stand (wire before) old.files old.map in
    let t = stand (wire after) new.files new.map in
    let none : Result V WireRefusal = Err wires.Memory in
    rw of (λ honest. undone-or-done s t call way m file op reply within free (whole honest) sound (h honest) (leaves wire gives says before (boards (marked old.files call way) old.map) m file op reply none after new answer honest (h honest)))

-- ---- a call of the client, whose board was marked before it

-- one request about a file was sent, and succeeds where the wire is honest
pub record Asks {S V : Type 0} (wire : S → WireView) (gives : S → Boards → Sent → Result (List ℕ) WireError → S → Boards → Type 0) (says : V → Reply → Type 0) (before : S) (old : Boards) (call : ℕ) (way : Way) (m : Message) (file : ℕ) (op : Op) (reply : World → Reply) (result : Result V WireRefusal) (after : S) (new : Boards) : Type 0 where
  pub asked : BoardView
  pub marks : asked ≡ marked old.files call way
  pub answer : Answers wire gives says before (boards asked old.map) m result after new
  pub keeps : KeepsWire (wire before) (wire after)
  pub both : KeepsBoards (boards asked old.map) new
  pub within : file < length old.files.files
  pub free : old.files.hands.turn ≡ None
  pub whole : (wire before).honest ≡ true → (wire before).stays ≡ false → old.files.plain ≡ true
  pub sound : IsSoundBoard new.files file
  pub on_file : (wire before).honest ≡ true → IsOnFile (wire before).state old.files.hands.bar m file op reply

pub asks-rest : {S V : Type 0} (wire : S → WireView) (gives : S → Boards → Sent → Result (List ℕ) WireError → S → Boards → Type 0) (says : V → Reply → Type 0) (before : S) (old : Boards) (call : ℕ) (way : Way) (m : Message) (file : ℕ) (op : Op) (reply : World → Reply) (result : Result V WireRefusal) (after : S) (new : Boards)
    → Asks wire gives says before old call way m file op reply result after new → SendsRest (stand (wire before) old.files old.map) call way (stand (wire after) new.files new.map)
asks-rest wire gives says before old call way m file op reply result after new a = record { wire = a.keeps; files = subst (λ (v : BoardView). KeepsFiles v new.files) a.marks a.both.files; map = a.both.map }

pub asks-home : {S V : Type 0} (wire : S → WireView) (gives : S → Boards → Sent → Result (List ℕ) WireError → S → Boards → Type 0) (says : V → Reply → Type 0) (before : S) (old : Boards) (call : ℕ) (way : Way) (m : Message) (file : ℕ) (op : Op) (reply : World → Reply) (result : Result V WireRefusal) (after : S) (new : Boards) (refs : List FileRef)
    → Asks wire gives says before old call way m file op reply result after new → IsHome (stand (wire before) old.files old.map) refs → IsHome (stand (wire after) new.files new.map) refs
asks-home wire gives says before old call way m file op reply result after new refs a h =
    IsHome-sent (stand (wire before) old.files old.map) (stand (wire after) new.files new.map) refs call way m file op reply h (asks-rest wire gives says before old call way m file op reply result after new a)
    (λ honest. leaves wire gives says before (boards (marked old.files call way) old.map) m file op reply result after new (subst (λ (v : BoardView). Answers wire gives says before (boards v old.map) m result after new) a.marks a.answer) honest (a.on_file honest))

pub asks-answered : {S V : Type 0} (wire : S → WireView) (gives : S → Boards → Sent → Result (List ℕ) WireError → S → Boards → Type 0) (says : V → Reply → Type 0) (before : S) (old : Boards) (call : ℕ) (way : Way) (m : Message) (file : ℕ) (op : Op) (reply : World → Reply) (v : V) (said : Reply) (after : S) (new : Boards) (own : Option ℕ) (unique : ℕ) (result : Result Done Refusal)
    → Asks wire gives says before old call way m file op reply (Ok v) after new → ((r : Reply) → says v r → r ≡ said) → IsSoundBoard old.files file → own ≡ last_of (file_at old.files file).own → IsEntered (file_at new.files file).own own unique said result → Sends (stand (wire before) old.files old.map) file call op way result (stand (wire after) new.files new.map)
asks-answered {V = V} wire gives says before old call way m file op reply v said after new own unique result a to sound is entered_by =
    let ok : Result V WireRefusal = Ok v in
    Sends-entered (stand (wire before) old.files old.map) (stand (wire after) new.files new.map) file call op way own unique said result sound is entered_by
    (λ honest. enters-answered wire gives says before old call way m file op reply v said after new (subst (λ (b : BoardView). Answers wire gives says before (boards b old.map) m ok after new) a.marks a.answer) to a.within a.free (a.whole honest) a.sound (a.on_file honest) honest)

pub asks-refused : {S V : Type 0} (wire : S → WireView) (gives : S → Boards → Sent → Result (List ℕ) WireError → S → Boards → Type 0) (says : V → Reply → Type 0) (before : S) (old : Boards) (call : ℕ) (way : Way) (m : Message) (file : ℕ) (op : Op) (reply : World → Reply) (refusal : WireRefusal) (after : S) (new : Boards) (e : Refusal)
    → Asks wire gives says before old call way m file op reply (Err refusal) after new → IsRefusalOf refusal e → Sends (stand (wire before) old.files old.map) file call op way (Err e) (stand (wire after) new.files new.map)
asks-refused {V = V} wire gives says before old call way m file op reply refusal after new e a is =
    let bad : Result V WireRefusal = Err refusal in
    Sends-refused wire gives says before old call way m file op reply refusal after new e (subst (λ (b : BoardView). Answers wire gives says before (boards b old.map) m bad after new) a.marks a.answer) is a.within a.free a.whole a.sound a.on_file

-- the boards serve it
pub CanAsk-marked : (s : Stand) (refs : List FileRef) (call : ℕ) (way : Way) (asked : BoardView) (q : Request) → asked ≡ marked s.files call way → Needs s.wire.state asked s.map q → Stands s refs → CanAsk s.wire (boards asked s.map) q
CanAsk-marked s refs call way asked q e needs h =
    CanAsk-stands (record s { files = asked }) refs q needs (subst (λ (b : BoardView). Stands (record s { files = b }) refs) (sym e) (Stands-marked s refs call way h))
