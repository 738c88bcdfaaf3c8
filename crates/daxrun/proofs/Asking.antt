-- What the requests of a run make of a live wire, each of which succeeds.
use Rattle.std.proofs.Common.{◌≡◌, ◌∙◌, ap, refl, subst, arith, ℕ, ◌≤◌, ◌^◌, Bool, true, List, Option, Some, None, is_some, slice_set, Result, Ok, Err, if◌then◌else◌}
use Rattle.plain_file.specs.File.{max_file, answer}
use Rattle.plain_file.specs.Board.{file_at, size_of, with_note}
use Rattle.fuse_codec.specs.Replies.{form_of}
use Rattle.fuse_codec.specs.declared.messages.Request.TheVariants as asks
use Rattle.fuse_codec.specs.declared.replies.Reply.{Reply}
use Rattle.fuse_codec.specs.declared.replies.Reply.TheVariants as replies
use Rattle.fuse_wire.specs.declared.attributes.EntryOut.{EntryOut}
use Rattle.fuse_wire.specs.declared.inits.InitIn.{InitIn}
use Rattle.fuse_wire.specs.declared.inits.InitOut.{InitOut}
use Rattle.fuse_wire.specs.declared.opens.OpenOut.{OpenOut}
use Rattle.fuse_device.specs.State.{World, is_made, named, begun, looked_up, with_open}
use Rattle.fuse_device.specs.Checks.{is_known, may_open}
use Rattle.fuse_device.specs.Requests.{seen_size}
use Rattle.fuse_device.specs.Entries.{session_flags, init_out_with, entry_of, open_out_of}
use Rattle.fuse_device.proofs.OpenHandles.{is_file, init_succeeds, lookup_succeeds, open_succeeds}
use Rattle.guest_wire.specs.Keeps.{KeepsBoards}
use Rattle.guest_wire.specs.declared.wires.WireError.{WireError}
use Rattle.guest_wire.specs.declared.wires.WireRefusal.{WireRefusal}
use Rattle.guest_wire.specs.declared.wires.WireRefusal.TheVariants as refusals
use Rattle.guest_wire.specs.Wires.{WireView, Boards, Sent, world_at, KeepsWire}
use Rattle.guest_wire.specs.Requests.{message, init_request, open_request}
use Rattle.guest_wire.specs.Answers.{Answers, Succeeded, SaysOpened}
use Rattle.guest_wire.proofs.Hearing.{succeeded}
use Rattle.guest_wire.proofs.Serving.{IsServable-answer}
use Rattle.daxrun.specs.Requests.{IsLive, IsDoneOrMemory}
use Rattle.fuse_codec.specs.declared.messages.Message.{Message}

-- ---- what comes of any of them

-- a call's answer and what it leaves, where its request succeeds with this reply
pub record Finishes {V : Type 0} (says : V → Reply → Type 0) (reply : Reply) (wanted : World) (result : Result V WireRefusal) (new : World) : Type 0 where
  pub by : Succeeded says reply wanted result new

done_or_not : {V : Type 0} (says : V → Reply → Type 0) (reply : Reply) (wanted : World) (result : Result V WireRefusal) (new : World) → Succeeded says reply wanted result new → IsDoneOrMemory result
done_or_not says reply wanted (Ok v) new h = tt
done_or_not says reply wanted (Err (refusals.Errno number)) new h = h
done_or_not says reply wanted (Err (refusals.BadReply bad)) new h = h
done_or_not says reply wanted (Err refusals.WireFault) new h = h
done_or_not says reply wanted (Err refusals.Memory) new h = tt

pub done_or_memory : {V : Type 0} (says : V → Reply → Type 0) (reply : Reply) (wanted : World) (result : Result V WireRefusal) (new : World) → Finishes says reply wanted result new → IsDoneOrMemory result
done_or_memory says reply wanted result new h = done_or_not says reply wanted result new h.by

-- a value that says the reply, and what is left
pub record Done {V : Type 0} (says : V → Reply → Type 0) (reply : Reply) (wanted new : World) (v : V) : Type 0 where
  pub said : says v reply
  pub left : new ≡ wanted

pub done : {V : Type 0} (says : V → Reply → Type 0) (reply : Reply) (wanted : World) (result : Result V WireRefusal) (new : World) (v : V) → Finishes says reply wanted result new → result ≡ Ok v → Done says reply wanted new v
done {V} says reply wanted result new v h e =
    let k = subst (λ (r : Result V WireRefusal). Succeeded says reply wanted r new) e h.by in
    record { said = k.0; left = k.1 }

-- the wire stays live
pub live_again : {S V : Type 0} (wire : S → WireView) (gives : S → Boards → Sent → Result (List ℕ) WireError → S → Boards → Type 0) (says : V → Reply → Type 0) (before : S) (old : Boards) (m : Message) (result : Result V WireRefusal) (after : S) (new : Boards)
    → Answers wire gives says before old m result after new → KeepsWire (wire before) (wire after) → KeepsBoards old new → IsLive (wire before) old → IsLive (wire after) new
live_again wire gives says before old m result after new answer keeps boards live = record {
  honest = keeps.honest ∙ live.honest;
  whole = keeps.stays ∙ live.whole;
  alone = boards.files.over ∙ live.alone;
  servable = IsServable-answer wire gives says before old m result after new answer live.honest live.whole live.servable;
}

-- ---- each of them

-- a session of protocol 7.31 that asks for direct access or not
abbrev asked : Bool → InitIn
asked ask_map = record { major = 7; minor = 31; max_readahead = 131072; flags = if ask_map then 2 ^ 26 else 0; flags2 = None }

-- what the device tells of such a session
abbrev pub told_by : Bool → World → InitOut
told_by ask_map w = init_out_with (session_flags w.state.pages (asked ask_map)) (asked ask_map)

abbrev pub SaysInit : InitOut → Reply → Type 0
SaysInit out reply = reply ≡ replies.Init out

pub begins : {S : Type 0} (wire : S → WireView) (gives : S → Boards → Sent → Result (List ℕ) WireError → S → Boards → Type 0) (before : S) (old : Boards) (unique : ℕ) (ask_map : Bool) (result : Result InitOut WireRefusal) (after : S) (new : Boards)
    → Answers wire gives SaysInit before old (message unique 0 (init_request ask_map)) result after new → IsLive (wire before) old
    → Finishes SaysInit (replies.Init (told_by ask_map (world_at (wire before) old))) (record (world_at (wire before) old) { state = begun (wire before).state }) result (world_at (wire after) new)
unfolding form_of
begins wire gives before old unique ask_map result after new answer live =
    let w = world_at (wire before) old in
    record { by = succeeded wire gives SaysInit before old (message unique 0 (init_request ask_map)) (replies.Init (told_by ask_map w)) (record w { state = begun w.state }) result after new answer live.honest live.whole refl (init_succeeds w 0 (asked ask_map) refl (omega arith) (omega arith)) }

abbrev pub SaysEntry : EntryOut → Reply → Type 0
SaysEntry out reply = reply ≡ replies.Entry out

-- on a board over no table nobody sees that a size was looked at
seen_size_alone : (w : World) (i : ℕ) → w.files.over ≡ None → seen_size w i ≡ w
seen_size_alone w i alone =
    let f = with_note (size_of (file_at w.files i)) (file_at w.files i) in
    ap (λ (o : Option (List ℕ)). record w { files = record w.files { files = if is_some o then slice_set w.files.files i f else w.files.files } }) alone

pub finds : {S : Type 0} (wire : S → WireView) (gives : S → Boards → Sent → Result (List ℕ) WireError → S → Boards → Type 0) (before : S) (old : Boards) (unique : ℕ) (name : List ℕ) (i : ℕ) (result : Result EntryOut WireRefusal) (after : S) (new : Boards)
    → Answers wire gives SaysEntry before old (message unique 1 (asks.Lookup name)) result after new → IsLive (wire before) old
    → (wire before).state.started ≡ true → named (wire before).state name ≡ Some i → size_of (file_at old.files i) ≤ max_file
    → Finishes SaysEntry (replies.Entry (entry_of (wire before).state old.files i)) (record (world_at (wire before) old) { state = looked_up (wire before).state i }) result (world_at (wire after) new)
unfolding form_of
finds wire gives before old unique name i result after new answer live started found small =
    let w = world_at (wire before) old in
    let wanted : World → World = λ v. record v { state = looked_up w.state i } in
    let by = succeeded wire gives SaysEntry before old (message unique 1 (asks.Lookup name)) (replies.Entry (entry_of w.state w.files i)) (wanted (seen_size w i)) result after new answer live.honest live.whole refl (lookup_succeeds w name i started found live.servable.few small) in
    record { by = subst (λ v. Succeeded SaysEntry (replies.Entry (entry_of w.state w.files i)) (wanted v) result (world_at (wire after) new)) (seen_size_alone w i live.alone) by }

pub opens : {S : Type 0} (wire : S → WireView) (gives : S → Boards → Sent → Result (List ℕ) WireError → S → Boards → Type 0) (before : S) (old : Boards) (unique node : ℕ) (result : Result ℕ WireRefusal) (after : S) (new : Boards)
    → Answers wire gives SaysOpened before old (message unique node open_request) result after new → IsLive (wire before) old
    → (wire before).state.started ≡ true → is_known (wire before).state node ≡ true → is_made (wire before).state node ≡ true → may_open (wire before).state ≡ true
    → Finishes SaysOpened (replies.Opened (open_out_of (wire before).state)) (record (world_at (wire before) old) { state = with_open (wire before).state node }) result (world_at (wire after) new)
unfolding form_of
opens wire gives before old unique node result after new answer live started known made may =
    let w = world_at (wire before) old in
    record { by = succeeded wire gives SaysOpened before old (message unique node open_request) (replies.Opened (open_out_of w.state)) (record w { state = with_open w.state node }) result after new answer live.honest live.whole refl (open_succeeds w node (record { flags = 2; open_flags = 0 }) started known (is_file w.state node made) may) }

-- ---- what a reply says

pub entry_is : (r t : EntryOut) → replies.Entry r ≡ replies.Entry t → t ≡ r
entry_is r t e = cc

same_opened : (r t : OpenOut) → replies.Opened t ≡ replies.Opened r → r ≡ t
same_opened r t e = cc

pub opened_is : (fh : ℕ) (r : OpenOut) → SaysOpened fh (replies.Opened r) → fh ≡ r.fh
opened_is fh r (opened, e, is) = is ∙ ap (λ (o : OpenOut). o.fh) (same_opened opened r e)

pub same_place : (i k : ℕ) (o : Option ℕ) → o ≡ Some i → o ≡ Some k → i ≡ k
same_place i k o e h = cc
