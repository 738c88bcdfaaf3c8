-- Boards over which any request can be served stay so, whatever is asked.
use Rattle.std.proofs.Common.{◌≡◌, ◌∙◌, sym, refl, arith, ◌<◌, ◌≤◌, ℕ, ◌+◌, ◌-◌, ◌*◌, ◌==◌, Bool, true, false, true≢false, IsTrue, List, [], ◌∷◌, ◌++◌, length, map, get_or, set, length-set, replicate, Option, Some, None, is_some, Result, Ok, Err, OnOk, OnErr, inl, inr, not, nat_lt, ◌||◌, if◌then◌else◌}
use Rattle.std.proofs.lemmas.Bool.{cases_eq}
use Rattle.std.proofs.lemmas.Grind.{common_steps}
use Rattle.std.proofs.lemmas.List.{length-map, get_or-map, length-replicate, length-append, get_or-set_same, get_or-set_other}
use Rattle.std.specs.List.{list_all, IsDistinct}
use Rattle.std.specs.Str.{bytes_eq}
use Rattle.fuse_codec.specs.Reading.{message_of}
use Rattle.fuse_codec.specs.declared.errors.BadRequest.{BadRequest}
use Rattle.fuse_codec.specs.declared.messages.Message.{Message}
use Rattle.fuse_codec.specs.declared.messages.Request.{Request}
use Rattle.fuse_codec.specs.declared.messages.Request.TheVariants as asks
use Rattle.fuse_codec.specs.declared.replies.Reply.{Reply}
use Rattle.fuse_wire.specs.declared.errno.Errno.{Errno}
use Rattle.fuse_wire.specs.declared.errno.Errno.TheVariants.{EBUSY, EINVAL, ENOSPC, EMFILE, EPROTO}
use Rattle.fuse_wire.specs.declared.forgets.ForgetOne.{ForgetOne}
use Rattle.fuse_wire.specs.declared.inits.InitIn.{InitIn}
use Rattle.fuse_wire.specs.declared.mappings.RemoveOne.{RemoveOne}
use Rattle.fuse_wire.specs.declared.mappings.SetupIn.{SetupIn}
use Rattle.plain_file.specs.Board.{FileView, BoardView, IsReady, no_file, file_at, size_of, with_note, with_own, entry_of, file_answer, may_apply, applied}
use Rattle.plain_file.specs.Plain.{new_board}
use Rattle.plain_file.specs.Plain as plain
use Rattle.plain_file.specs.declared.operations.First.{First}
use Rattle.plain_file.specs.declared.operations.Answer.{Answer}
use Rattle.plain_file.specs.declared.operations.Op.{Op}
use Rattle.plain_file.specs.declared.refusals.Memory.{Memory}
use Rattle.page_map.specs.Board.{MapView, wiped, painted, is_whole, may_clear}
use Rattle.page_map.specs.Plain.{new_map}
use Rattle.page_map.specs.declared.pages.Page.{Page}
use Rattle.page_map.specs.declared.pages.Span.{Span}
use Rattle.fuse_codec.specs.declared.replies.Reply.TheVariants as gives
use Rattle.fuse_device.specs.State.{State, World, new_state, grants, made_at, counted_up, without_name, begun, with_made, with_new_file, new_file, with_open, without_open, looked_up, unlooked, cleared_window, all_cleared}
use Rattle.fuse_device.specs.Entries.{session_flags, init_out_with}
use Rattle.fuse_device.specs.declared.tables.MadeFile.{MadeFile}
use Rattle.fuse_device.specs.Checks.{Outcome, may_open, refuse, if_may_open}
use Rattle.fuse_device.specs.Requests.{done, applies, attr_of, opens, closes, seen_size, found, unlinked, opens_entry, makes_entry, created, resizes, forgotten, all_forgotten, span_of, is_bad_setup, init, destroy, getattr, setattr, open_file, open_dir, release, release_dir, sync, fallocate, read, write, lookup, unlink, create, forget, batch_forget, read_dir, setup, remove, answered, served}
use Rattle.fuse_device.specs.Steps.{Step, judged_message, judged, forgot, replied, header_at, is_forget_number, device_step}
use Rattle.fuse_device.specs.Promises.{IsServable, CanServe, CanStep, Needs, world}
use Rattle.fuse_device.proofs.Clears.{first_of_both, rest_of_both, wiped_len, painted_len, whole_window}

-- the device and its boards are servable after an outcome
pub record Serves (o : Outcome) : Type 0 where
  pub after : IsServable o.1

serves : (o : Outcome) → IsServable o.1 → Serves o
serves o h = record { after = h }

-- ---- the parts

-- a choice of two outcomes
if_keeps : (b : Bool) (x y : Outcome) → Serves x → Serves y → Serves (if b then x else y)
if_keeps true x y h k = h
if_keeps false x y h k = k

-- the same, where each outcome is asked for only where it is chosen
if_keeps_by : (b : Bool) (x y : Outcome) → Serves x → (b ≡ false → Serves y) → Serves (if b then x else y)
if_keeps_by true x y h k = h
if_keeps_by false x y h k = k refl

pub refuse_keeps : (bad : Bool) (e : Errno) (w : World) (rest : Outcome) → IsServable w → Serves rest → Serves (refuse bad e w rest)
refuse_keeps bad e w rest h k = if_keeps bad (Err e, w) rest (serves (Err e, w) h) k

-- another state, over the same boards
state_keeps : (w : World) (s : State) → IsServable w → s.pages ≡ w.state.pages → length s.made ≤ 16 → IsServable (record w { state = s })
state_keeps w s h pages few = record { plain = h.plain; enough = h.enough; ready = h.ready; few = few; free = h.free; pages = h.pages ∙ sym pages }

made_keeps : (w : World) (i : ℕ) (f : MadeFile) → IsServable w → IsServable (record w { state = with_made w.state i f })
made_keeps w i f h = state_keeps w (with_made w.state i f) h refl (rw (length-set w.state.made i f) h.few)

-- one place of a list is changed, and what holds at each place still does
everywhere-set : {A : Type 0} (P : A → Type 0) (xs : List A) (i : ℕ) (x d : A) → (i < length xs → P x) → ((k : ℕ) → k < length xs → P (get_or xs k d))
    → (k : ℕ) → k < length (set xs i x) → P (get_or (set xs i x) k d)
everywhere-set P xs i x d one all k within =
    let inside : k < length xs = rw (length-set xs i x) at within in
    elim (cases_eq k i) [
      | inl same ↦ rw (same, get_or-set_same xs i x d (rw same at inside)) (one (rw same at inside))
      | inr other ↦ rw (get_or-set_other xs i k x d other) (all k inside)
    ]

-- files after one operation
files_keeps : (w : World) (file : ℕ) (op : Op) → IsServable w → IsServable (record w { files = applied w.files file op })
files_keeps w file op h = record {
  plain = h.plain;
  enough = rw (length-set w.files.files file (with_own w.files.plain (entry_of w.files op) (file_at w.files file))) h.enough;
  ready = everywhere-set (λ (f : FileView). IsTrue f.ready) w.files.files file (with_own w.files.plain (entry_of w.files op) (file_at w.files file)) no_file (λ within. h.plain) h.ready;
  few = h.few;
  free = h.free;
  pages = h.pages;
}

-- files after one of them was looked at
if_both : {A : Type 0} (b : Bool) (P : A → Type 0) (x y : A) → P x → P y → P (if b then x else y)
if_both true P x y h k = h
if_both false P x y h k = k

size_keeps : (w : World) (file : ℕ) → IsServable w → IsServable (seen_size w file)
size_keeps w file h =
    let f = with_note (size_of (file_at w.files file)) (file_at w.files file) in
    let ready = everywhere-set (λ (g : FileView). IsTrue g.ready) w.files.files file f no_file (λ within. h.ready file within) h.ready in
    record {
      plain = h.plain;
      enough = if_both (is_some w.files.over) (λ (xs : List FileView). 16 ≤ length xs) (set w.files.files file f) w.files.files (rw (length-set w.files.files file f) h.enough) h.enough;
      ready = if_both (is_some w.files.over) (λ (xs : List FileView). (k : ℕ) → k < length xs → IsTrue (get_or xs k no_file).ready) (set w.files.files file f) w.files.files ready h.ready;
      few = h.few;
      free = h.free;
      pages = h.pages;
    }

applies_keeps : (w : World) (node : ℕ) (op : Op) (reply : Answer → Reply) → IsServable w → Serves (applies w node op reply)
applies_keeps w node op reply h =
    if_keeps (may_apply w.files (node - 2) op) (Ok (reply (file_answer (file_at w.files (node - 2)) op).answer), record w { files = applied w.files (node - 2) op }) (Err EBUSY, w) (record { after = files_keeps w (node - 2) op h }) (record { after = h })

attr_keeps : (w : World) (node : ℕ) → IsServable w → Serves (attr_of w node)
attr_keeps w node h = search (if_keeps, applies_keeps, serves, h)

-- the window after a part of it was cleared or set
wiped_keeps : (w : World) (moffset len : ℕ) → IsServable w → is_whole w.state.pages moffset len ≡ true → IsServable (record w { map = wiped w.map moffset len })
wiped_keeps w moffset len h whole = record {
  plain = h.plain;
  enough = h.enough;
  ready = h.ready;
  few = h.few;
  free = h.free;
  pages = wiped_len w.map (wiped w.map moffset len) moffset len w.state.pages h.pages whole refl ∙ h.pages;
}

painted_keeps : (w : World) (s : Span) → IsServable w → is_whole w.state.pages s.moffset s.len ≡ true → IsServable (record w { map = painted w.map s })
painted_keeps w s h whole = record {
  plain = h.plain;
  enough = h.enough;
  ready = h.ready;
  few = h.few;
  free = h.free;
  pages = painted_len w.map (painted w.map s) s w.state.pages h.pages whole refl ∙ h.pages;
}

all_cleared_keeps : (ones : List RemoveOne) (w : World) → IsServable w → list_all (λ one. is_whole w.state.pages one.moffset one.len) ones ≡ true → IsServable (record w { map = all_cleared w.map ones })
all_cleared_keeps [] w h whole = h
all_cleared_keeps (one ∷ ones) w h whole =
    let first = first_of_both (is_whole w.state.pages one.moffset one.len) (list_all (λ o. is_whole w.state.pages o.moffset o.len) ones) whole in
    let rest = rest_of_both (is_whole w.state.pages one.moffset one.len) (list_all (λ o. is_whole w.state.pages o.moffset o.len) ones) whole in
    all_cleared_keeps ones (record w { map = wiped w.map one.moffset one.len }) (wiped_keeps w one.moffset one.len h first) rest

if_len : (b : Bool) (x y : MapView) (n : ℕ) → length x.table ≡ n → (b ≡ false → length y.table ≡ n) → length (if b then x else y).table ≡ n
if_len true x y n h k = h
if_len false x y n h k = k refl

if_plain : (b : Bool) (x y : MapView) → y.plain ≡ x.plain → (if b then x else y).plain ≡ x.plain
if_plain true x y h = refl
if_plain false x y h = h

pub is_positive : (n : ℕ) → (n == 0) ≡ false → 0 < n
is_positive n h = grind (arith, common_steps, h)

cleared_len : (v : MapView) (pages : ℕ) → length v.table ≡ pages → length (cleared_window pages v).table ≡ pages
cleared_len v pages h = if_len (pages == 0) v (wiped v 0 (4096 * pages)) pages h (λ e. wiped_len v (wiped v 0 (4096 * pages)) 0 (4096 * pages) pages h (whole_window pages (is_positive pages e)) refl ∙ h)

cleared_plain : (v : MapView) (pages : ℕ) → (cleared_window pages v).plain ≡ v.plain
cleared_plain v pages = if_plain (pages == 0) v (wiped v 0 (4096 * pages)) refl

-- ---- states of one size

abbrev pub SameSize : State → State → Type 0
SameSize s t = (t.pages ≡ s.pages) × (length t.made ≡ length s.made)

sized_keeps : (w : World) (s : State) → IsServable w → SameSize w.state s → IsServable (record w { state = s })
sized_keeps w s h same = state_keeps w s h same.0 (rw same.1 h.few)

if_same : (b : Bool) (s t : State) → SameSize s t → SameSize s (if b then t else s)
if_same true s t h = h
if_same false s t h = (refl, refl)

pub forgotten_same : (s : State) (node n : ℕ) → SameSize s (forgotten s node n)
forgotten_same s node n = if_same _ s _ (refl, length-set s.made (node - 2) _)

pub all_forgotten_same : (ones : List ForgetOne) (s : State) → SameSize s (all_forgotten s ones)
all_forgotten_same [] s = (refl, refl)
all_forgotten_same (one ∷ ones) s =
    let first = forgotten_same s one.nodeid one.nlookup in
    let rest = all_forgotten_same ones (forgotten s one.nodeid one.nlookup) in
    (rest.0 ∙ first.0, rest.1 ∙ first.1)

-- ---- what requests do

opens_keeps : (w : World) (node : ℕ) → IsServable w → Serves (opens w node)
opens_keeps w node h = record { after = state_keeps w (with_open w.state node) h refl h.few }

closes_keeps : (w : World) (fh : ℕ) → IsServable w → Serves (closes w fh)
closes_keeps w fh h = record { after = state_keeps w (without_open w.state fh) h refl h.few }

found_keeps : (i : Option ℕ) (w : World) → IsServable w → Serves (found i w)
found_keeps None w h = record { after = h }
found_keeps (Some i) w h = record { after = made_keeps (seen_size w i) i (counted_up (made_at w.state (i + 2))) (size_keeps w i h) }

unlinked_keeps : (i : Option ℕ) (w : World) → IsServable w → Serves (unlinked i w)
unlinked_keeps None w h = record { after = h }
unlinked_keeps (Some i) w h = record { after = made_keeps w i (without_name (made_at w.state (i + 2))) h }

entry_keeps : (w : World) (i : ℕ) → IsServable w → Serves (opens_entry w i)
entry_keeps w i h = record { after = sized_keeps (seen_size w i) (with_open (looked_up w.state i) (i + 2)) (size_keeps w i h) (refl, length-set w.state.made i (counted_up (made_at w.state (i + 2)))) }

new_keeps : (w : World) (name : List ℕ) → IsServable w → length w.state.made < 16 → Serves (makes_entry w name)
new_keeps w name h few =
    let more : length (w.state.made ++ new_file name ∷ []) ≤ 16 = rw (length-append w.state.made (new_file name ∷ [])) (omega (arith, few)) in
    entry_keeps (record w { state = with_new_file w.state name }) (length w.state.made) (state_keeps w (with_new_file w.state name) h refl more)

is_few : (n : ℕ) → not (nat_lt n 16) ≡ false → n < 16
is_few n h = grind (arith, common_steps, h)

pub not_false : (b : Bool) → not b ≡ false → b ≡ true
not_false false h = absurd (true≢false h)
not_false true h = refl

created_keeps : (i : Option ℕ) (exclusive : Bool) (w : World) (name : List ℕ) → IsServable w → Serves (created i exclusive w name)
created_keeps (Some i) exclusive w name h = search (refuse_keeps, entry_keeps, h)
created_keeps None exclusive w name h =
    if_keeps_by (not (nat_lt (length w.state.made) 16)) (Err ENOSPC, w) (if_may_open w (makes_entry w name)) (record { after = h })
    (λ e. refuse_keeps (not (may_open w.state)) EMFILE w (makes_entry w name) h (new_keeps w name h (is_few (length w.state.made) e)))

resizes_keeps : (w : World) (node size : ℕ) → IsServable w → Serves (resizes w node size)
resizes_keeps w node size h = search (refuse_keeps, applies_keeps, h)

pub is_whole_setup : (pages : ℕ) (r : SetupIn) → is_bad_setup pages r ≡ false → is_whole pages r.moffset r.len ≡ true
is_whole_setup pages r h = grind (arith, common_steps, h)

-- the window of a SETUPMAPPING that is none of the bad ones
maps_keeps : (w : World) (node : ℕ) (r : SetupIn) → IsServable w → Serves (refuse (is_bad_setup w.state.pages r) EINVAL w (refuse (not ((grants w).may_set (span_of node r))) EBUSY w (done (record w { map = painted w.map (span_of node r) }))))
maps_keeps w node r h =
    let set : Outcome = done (record w { map = painted w.map (span_of node r) }) in
    let rest : Outcome = refuse (not ((grants w).may_set (span_of node r))) EBUSY w set in
    if_keeps_by (is_bad_setup w.state.pages r) (Err EINVAL, w) rest (record { after = h })
    (λ e. refuse_keeps (not ((grants w).may_set (span_of node r))) EBUSY w set h (record { after = painted_keeps w (span_of node r) h (is_whole_setup w.state.pages r e) }))

remove_keeps : (w : World) (ones : List RemoveOne) → IsServable w → Serves (remove w ones)
unfolding remove
remove_keeps w ones h =
    let whole : Bool = list_all (λ one. is_whole w.state.pages one.moffset one.len) ones in
    let may : Bool = list_all (λ one. (grants w).may_clear one.moffset one.len) ones in
    let cleared : Outcome = done (record w { map = all_cleared w.map ones }) in
    if_keeps_by (not whole) (Err EINVAL, w) (refuse (not may) EBUSY w cleared) (record { after = h })
    (λ e. refuse_keeps (not may) EBUSY w cleared h (record { after = all_cleared_keeps ones w h (not_false whole e) }))

destroy_keeps : (w : World) → IsServable w → Serves (destroy w)
unfolding destroy
destroy_keeps w h = record {
  after = record {
    plain = h.plain;
    enough = h.enough;
    ready = h.ready;
    few = rw (length-map w.state.made unlooked) h.few;
    free = cleared_plain w.map w.state.pages ∙ h.free;
    pages = cleared_len w.map w.state.pages h.pages;
  };
}

-- ---- any request

init_keeps : (w : World) (r : InitIn) → IsServable w → Serves (init w r)
unfolding init
init_keeps w r h =
    refuse_keeps (not (r.major == 7) || nat_lt r.minor 31) EPROTO w (Ok (gives.Init (init_out_with (session_flags w.state.pages r) r)), record w { state = begun w.state }) h
    (record { after = state_keeps w (begun w.state) h refl h.few })

answered_keeps : (w : World) (node : ℕ) (q : Request) → IsServable w → Serves (answered w node q)
unfolding answered getattr setattr open_file open_dir release release_dir sync fallocate read write lookup unlink create forget batch_forget read_dir setup
answered_keeps w node (asks.Lookup name) h = search (refuse_keeps, found_keeps, h)
answered_keeps w node (asks.Forget n) h = record { after = sized_keeps w (forgotten w.state node n) h (forgotten_same w.state node n) }
answered_keeps w node (asks.Getattr r) h = search (refuse_keeps, attr_keeps, h)
answered_keeps w node (asks.Setattr r) h = search (refuse_keeps, if_keeps, attr_keeps, resizes_keeps, h)
answered_keeps w node (asks.Unlink name) h = search (refuse_keeps, unlinked_keeps, h)
answered_keeps w node (asks.OpenFile r) h = search (refuse_keeps, opens_keeps, h)
answered_keeps w node (asks.Read r) h = search (refuse_keeps, applies_keeps, h)
answered_keeps w node (asks.Write r bytes) h = search (refuse_keeps, applies_keeps, h)
answered_keeps w node (asks.Release r) h = search (refuse_keeps, closes_keeps, h)
answered_keeps w node (asks.Fsync r) h = search (refuse_keeps, serves, h)
answered_keeps w node (asks.Flush r) h = search (refuse_keeps, serves, h)
answered_keeps w node (asks.Init r) h = init_keeps w r h
answered_keeps w node (asks.OpenDir r) h = search (refuse_keeps, opens_keeps, h)
answered_keeps w node (asks.ReadDir r) h = search (refuse_keeps, serves, h)
answered_keeps w node (asks.ReleaseDir r) h = search (refuse_keeps, closes_keeps, h)
answered_keeps w node (asks.Create r name) h = search (refuse_keeps, created_keeps, h)
answered_keeps w node asks.Destroy h = destroy_keeps w h
answered_keeps w node (asks.BatchForget ones) h = record { after = sized_keeps w (all_forgotten w.state ones) h (all_forgotten_same ones w.state) }
answered_keeps w node (asks.Fallocate r) h = search (refuse_keeps, serves, h)
answered_keeps w node (asks.Setup r) h = search (refuse_keeps, maps_keeps, h)
answered_keeps w node (asks.Remove ones) h = remove_keeps w ones h

served_keeps : (w : World) (m : Message) → IsServable w → Serves (served w m)
unfolding served
served_keeps w m h = search (if_keeps, answered_keeps, serves, h)

-- ---- one step

pub judged_keeps : (w : World) (room : ℕ) (d : Result Message BadRequest) → IsServable w → Serves (judged w room d)
unfolding judged_message
judged_keeps w room (Err bad) h = record { after = h }
judged_keeps w room (Ok m) h = search (refuse_keeps, served_keeps, h)

forgot_keeps : (w : World) (d : Result Message BadRequest) → IsServable w → IsServable (forgot w d)
forgot_keeps w (Err bad) h = h
forgot_keeps w (Ok m) h = (served_keeps w m h).after

pub step_keeps : (b : Bool) (x y : Step) → IsServable x.0 → IsServable y.0 → IsServable (if b then x else y).0
step_keeps true x y h k = h
step_keeps false x y h k = k

pub IsServable-device_step : (w : World) (readable : List ℕ) (room : ℕ) → IsServable w → IsServable (device_step w readable room).0
unfolding device_step
IsServable-device_step w readable room h =
    let none : Step = (w, []) in
    let forget : Step = (forgot w (message_of readable), []) in
    let reply : Step = replied (header_at readable).unique (judged w room (message_of readable)) in
    let roomy : Step = if nat_lt room 16 then none else reply in
    let long : Step = if is_forget_number (header_at readable).opcode then forget else roomy in
    step_keeps (nat_lt (length readable) 40) none long h (
    step_keeps (is_forget_number (header_at readable).opcode) forget roomy (forgot_keeps w (message_of readable) h) (
    step_keeps (nat_lt room 16) none reply h (judged_keeps w room (message_of readable) h).after))

-- so one chain can be served after the other
pub IsServable-serve_chain : (old new : World) (readable : List ℕ) (room : ℕ) (result : Result (List ℕ) Memory)
    → OnOk result (new ≡ (device_step old readable room).0) → OnErr result (new ≡ old) → IsServable old → IsServable new
IsServable-serve_chain old new readable room (Ok reply) step memory h = rw step (IsServable-device_step old readable room h)
IsServable-serve_chain old new readable room (Err e) step memory h = rw memory h

-- ---- such boards are what requests ask for

needs_met : (s : State) (files : BoardView) (map : MapView) (q : Request) → IsServable (world s files map) → Needs s files map q
unfolding Needs may_clear
needs_met s files map (asks.Create r name) h = λ few. (omega (arith, few, h.enough), h.ready (length s.made) (omega (arith, few, h.enough)))
needs_met s files map asks.Destroy h = λ some. rw h.free refl
needs_met s files map (asks.Lookup name) h = tt
needs_met s files map (asks.Forget n) h = tt
needs_met s files map (asks.Getattr r) h = tt
needs_met s files map (asks.Setattr r) h = tt
needs_met s files map (asks.Unlink name) h = tt
needs_met s files map (asks.OpenFile r) h = tt
needs_met s files map (asks.Read r) h = tt
needs_met s files map (asks.Write r bytes) h = tt
needs_met s files map (asks.Release r) h = tt
needs_met s files map (asks.Fsync r) h = tt
needs_met s files map (asks.Flush r) h = tt
needs_met s files map (asks.Init r) h = tt
needs_met s files map (asks.OpenDir r) h = tt
needs_met s files map (asks.ReadDir r) h = tt
needs_met s files map (asks.ReleaseDir r) h = tt
needs_met s files map (asks.BatchForget ones) h = tt
needs_met s files map (asks.Fallocate r) h = tt
needs_met s files map (asks.Setup r) h = tt
needs_met s files map (asks.Remove ones) h = tt

pub servable_serves : (s : State) (files : BoardView) (map : MapView) (q : Request) → IsServable (world s files map) → CanServe s files map q
servable_serves s files map q h = record {
  made = record {
    there = omega (arith, h.few, h.enough);
    ready = λ file within. h.ready file (omega (arith, within, h.few, h.enough));
  };
  pages = h.pages;
  needs = needs_met s files map q h;
}

pub servable_steps : (s : State) (files : BoardView) (map : MapView) (readable : List ℕ) → IsServable (world s files map) → CanStep s files map readable
servable_steps s files map readable h m e = servable_serves s files map m.body h

-- files on which nothing was done yet are ready
ready-new_board : (guest : ℕ) (firsts : List First) → (file : ℕ) → file < length (new_board guest firsts).files → IsReady (new_board guest firsts) file
ready-new_board guest firsts file within =
    let inside : file < length firsts = rw (length-map firsts plain.new_file) at within in
    rw (get_or-map plain.new_file firsts file (record { size = 0; fill = 0 }) no_file inside) refl

-- a device on which nothing was done yet, with enough files of its own
pub servable_at_start : (guest pages : ℕ) (names : List (List ℕ)) (firsts : List First) → length names ≤ 16 → 16 ≤ length firsts → IsServable (world (new_state pages names) (new_board guest firsts) (new_map pages))
servable_at_start guest pages names firsts few enough = record {
  plain = refl;
  enough = rw (length-map firsts plain.new_file) enough;
  ready = ready-new_board guest firsts;
  few = rw (length-map names new_file) few;
  free = refl;
  pages = length-map (replicate pages None) (λ (p : Option Page). Some p) ∙ length-replicate pages None;
}

-- a list of one name, or of none, has no name twice
pub one_distinct : (none names : List (List ℕ)) (name : List ℕ) → none ≡ [] → names ≡ none ++ name ∷ [] → IsDistinct bytes_eq names
unfolding IsDistinct
one_distinct none names name empty e = rw (e, empty) (tt, tt)

pub none_distinct : (names : List (List ℕ)) → names ≡ [] → IsDistinct bytes_eq names
unfolding IsDistinct
none_distinct names empty = rw empty tt
