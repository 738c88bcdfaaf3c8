-- A chain adds to the acts that the window shows what its request does, whatever is asked.
use Rattle.std.proofs.Common.{◌-◌, Option, Some, None, ◌≡◌, ◌∙◌, sym, refl, ℕ, ◌*◌, ◌^◌, ◌==◌, Bool, true, false, true≢false, not, ◌&&◌, ◌||◌, nat_lt, List, [], ◌∷◌, ◌++◌, length, map, Result, Ok, Err, if◌then◌else◌}
use Rattle.std.proofs.lemmas.List.{append-nil, append_assoc}
use Rattle.std.specs.List.{list_all}
use Rattle.fuse_codec.specs.Reading.{message_of}
use Rattle.fuse_codec.specs.declared.errors.BadRequest.{BadRequest}
use Rattle.fuse_codec.specs.declared.messages.Message.{Message}
use Rattle.fuse_codec.specs.declared.messages.Request.{Request}
use Rattle.fuse_codec.specs.declared.messages.Request.TheVariants as asks
use Rattle.fuse_codec.specs.declared.replies.Reply.{Reply}
use Rattle.fuse_wire.specs.declared.errno.Errno.{Errno}
use Rattle.fuse_wire.specs.declared.errno.Errno.TheVariants.{EIO, EBADF, EBUSY, ENOENT, EISDIR, EINVAL, EFBIG}
use Rattle.fuse_wire.specs.declared.mappings.RemoveOne.{RemoveOne}
use Rattle.fuse_wire.specs.declared.mappings.SetupIn.{SetupIn}
use Rattle.plain_file.specs.Board.{may_apply}
use Rattle.plain_file.specs.declared.operations.Answer.{Answer}
use Rattle.plain_file.specs.declared.operations.Op.{Op}
use Rattle.page_map.specs.Board.{MapView, Shows, painted, wiped, is_whole}
use Rattle.page_map.specs.Window.{Act, set, clear}
use Rattle.page_map.proofs.Showing.{AddsAct-painted, AddsAct-wiped}
use Rattle.fuse_device.specs.State.{State, World, grants, all_cleared}
use Rattle.fuse_device.specs.Checks.{Outcome, is_known, is_handle, is_past, refuse}
use Rattle.fuse_device.specs.Requests.{done, applies, attr_of, opens, closes, found, unlinked, opens_entry, makes_entry, created, resizes, span_of, is_bad_setup, init, destroy, getattr, setattr, open_file, open_dir, release, release_dir, sync, fallocate, read, write, lookup, unlink, create, forget, batch_forget, read_dir, setup, remove, answered, is_init, is_forget, served}
use Rattle.fuse_device.specs.Steps.{Step, wanted_room, judged_message, judged, forgot, replied, header_at, is_forget_number, device_step}
use Rattle.fuse_device.specs.Acts.{clear_of, request_acts, acts_if, acts_in, acts_of}
use Rattle.fuse_device.proofs.DataLaws.{forget_like}
use Rattle.fuse_device.proofs.Clears.{first_of_both, rest_of_both, wiped_len, whole_window}
use Rattle.fuse_device.proofs.Servable.{not_false, is_positive, is_whole_setup}

-- ---- requests that leave the window as it is

record Leaves (v : MapView) (o : Outcome) : Type 0 where
  pub stays : o.1.map ≡ v

leaves : (w : World) (r : Result Reply Errno) → Leaves w.map (r, w)
leaves w r = record { stays = refl }

state_leaves : (w : World) (s : State) (r : Result Reply Errno) → Leaves w.map (r, record w { state = s })
state_leaves w s r = record { stays = refl }

if_leaves : (v : MapView) (b : Bool) (x y : Outcome) → Leaves v x → Leaves v y → Leaves v (if b then x else y)
if_leaves v true x y h k = h
if_leaves v false x y h k = k

refuse_leaves : (bad : Bool) (e : Errno) (w : World) (rest : Outcome) → Leaves w.map rest → Leaves w.map (refuse bad e w rest)
refuse_leaves bad e w rest k = if_leaves w.map bad (Err e, w) rest (leaves w (Err e)) k

applies_leaves : (w : World) (node : ℕ) (op : Op) (reply : Answer → Reply) → Leaves w.map (applies w node op reply)
applies_leaves w node op reply = if_leaves w.map (may_apply w.files (node - 2) op) _ _ (record { stays = refl }) (record { stays = refl })

attr_leaves : (w : World) (node : ℕ) → Leaves w.map (attr_of w node)
attr_leaves w node = search (if_leaves, leaves, applies_leaves)

resizes_leaves : (w : World) (node size : ℕ) → Leaves w.map (resizes w node size)
resizes_leaves w node size = search (refuse_leaves, applies_leaves)

opens_leaves : (w : World) (node : ℕ) → Leaves w.map (opens w node)
opens_leaves w node = record { stays = refl }

closes_leaves : (w : World) (fh : ℕ) → Leaves w.map (closes w fh)
closes_leaves w fh = record { stays = refl }

found_leaves : (i : Option ℕ) (w : World) → Leaves w.map (found i w)
found_leaves None w = record { stays = refl }
found_leaves (Some i) w = record { stays = refl }

unlinked_leaves : (i : Option ℕ) (w : World) → Leaves w.map (unlinked i w)
unlinked_leaves None w = record { stays = refl }
unlinked_leaves (Some i) w = record { stays = refl }

entry_leaves : (w : World) (i : ℕ) → Leaves w.map (opens_entry w i)
entry_leaves w i = record { stays = refl }

new_leaves : (w : World) (name : List ℕ) → Leaves w.map (makes_entry w name)
new_leaves w name = record { stays = refl }

created_leaves : (i : Option ℕ) (exclusive : Bool) (w : World) (name : List ℕ) → Leaves w.map (created i exclusive w name)
created_leaves (Some i) exclusive w name = search (refuse_leaves, entry_leaves)
created_leaves None exclusive w name = search (refuse_leaves, new_leaves)

-- ---- acts that are added

-- the window after an outcome shows these acts besides, where it is a success
record Adds (v : MapView) (acts : List Act) (o : Outcome) : Type 0 where
  pub shown : (before : List Act) → Shows v before → Shows o.1.map (before ++ acts_if o.0 acts)

none_if : (r : Result Reply Errno) → acts_if r [] ≡ []
none_if (Ok reply) = refl
none_if (Err e) = refl

-- nothing is added where the window stays
leaves_adds : (v : MapView) (o : Outcome) → Leaves v o → Adds v [] o
leaves_adds v o h = record { shown = λ before s. rw (h.stays, none_if o.0, append-nil before) s }

if_adds : (v : MapView) (acts : List Act) (b : Bool) (x y : Outcome) → Adds v acts x → (b ≡ false → Adds v acts y) → Adds v acts (if b then x else y)
if_adds v acts true x y h k = h
if_adds v acts false x y h k = k refl

refused_adds : (w : World) (acts : List Act) (e : Errno) → Adds w.map acts (Err e, w)
refused_adds w acts e = record { shown = λ before s. rw (append-nil before) s }

refuse_adds : (bad : Bool) (e : Errno) (w : World) (acts : List Act) (rest : Outcome) → (bad ≡ false → Adds w.map acts rest) → Adds w.map acts (refuse bad e w rest)
refuse_adds bad e w acts rest k = if_adds w.map acts bad (Err e, w) rest (refused_adds w acts e) k

-- ---- the window

cleared_adds : (ones : List RemoveOne) (v : MapView) (pages : ℕ) (before : List Act) → length v.table ≡ pages → list_all (λ one. is_whole pages one.moffset one.len) ones ≡ true → Shows v before → Shows (all_cleared v ones) (before ++ map clear_of ones)
cleared_adds [] v pages before e whole s = rw (append-nil before) s
cleared_adds (one ∷ ones) v pages before e whole s =
    let first = first_of_both (is_whole pages one.moffset one.len) (list_all (λ o. is_whole pages o.moffset o.len) ones) whole in
    let rest = rest_of_both (is_whole pages one.moffset one.len) (list_all (λ o. is_whole pages o.moffset o.len) ones) whole in
    let here : Shows (wiped v one.moffset one.len) (before ++ clear_of one ∷ []) = AddsAct-wiped v one.moffset one.len (rw e first) before s in
    let all = cleared_adds ones (wiped v one.moffset one.len) pages (before ++ clear_of one ∷ []) (wiped_len v (wiped v one.moffset one.len) one.moffset one.len pages e first refl ∙ e) rest here in
    rw (append_assoc before (clear_of one ∷ []) (map clear_of ones)) at all

window_adds : (v : MapView) (pages : ℕ) (before : List Act) → length v.table ≡ pages → Shows v before
    → (none : Bool) → (pages == 0) ≡ none → Shows (if none then v else wiped v 0 (4096 * pages)) (before ++ (if none then [] else clear 0 (4096 * pages) ∷ []))
window_adds v pages before e s true z = rw (append-nil before) s
window_adds v pages before e s false z = AddsAct-wiped v 0 (4096 * pages) (rw e (whole_window pages (is_positive pages z))) before s

setup_adds : (w : World) (node : ℕ) (r : SetupIn) → length w.map.table ≡ w.state.pages → Adds w.map (set (span_of node r) ∷ []) (setup w node r)
unfolding setup
setup_adds w node r pages =
    let acts : List Act = set (span_of node r) ∷ [] in
    let done_so : Outcome = done (record w { map = painted w.map (span_of node r) }) in
    let may : Outcome = refuse (not ((grants w).may_set (span_of node r))) EBUSY w done_so in
    let whole : Outcome = refuse (is_bad_setup w.state.pages r) EINVAL w may in
    let fits : Outcome = refuse (is_past r.foffset r.len) EFBIG w whole in
    let handle : Outcome = refuse (not (r.fh == 2 ^ 64 - 1) && not (is_handle w.state r.fh node)) EBADF w fits in
    let file : Outcome = refuse (node == 1) EISDIR w handle in
    refuse_adds (not (is_known w.state node)) ENOENT w acts file (λ known.
    refuse_adds (node == 1) EISDIR w acts handle (λ other.
    refuse_adds (not (r.fh == 2 ^ 64 - 1) && not (is_handle w.state r.fh node)) EBADF w acts fits (λ held.
    refuse_adds (is_past r.foffset r.len) EFBIG w acts whole (λ small.
    refuse_adds (is_bad_setup w.state.pages r) EINVAL w acts may (λ good.
    refuse_adds (not ((grants w).may_set (span_of node r))) EBUSY w acts done_so (λ let_set.
    record { shown = AddsAct-painted w.map (span_of node r) (rw pages (is_whole_setup w.state.pages r good)) }
    ))))))

remove_adds : (w : World) (ones : List RemoveOne) → length w.map.table ≡ w.state.pages → Adds w.map (map clear_of ones) (remove w ones)
unfolding remove
remove_adds w ones pages =
    let whole : Bool = list_all (λ one. is_whole w.state.pages one.moffset one.len) ones in
    let may : Bool = list_all (λ one. (grants w).may_clear one.moffset one.len) ones in
    let cleared : Outcome = done (record w { map = all_cleared w.map ones }) in
    refuse_adds (not whole) EINVAL w (map clear_of ones) (refuse (not may) EBUSY w cleared) (λ e.
    refuse_adds (not may) EBUSY w (map clear_of ones) cleared (λ f.
    record { shown = λ before s. cleared_adds ones w.map w.state.pages before pages (not_false whole e) s }))

destroy_adds : (w : World) → length w.map.table ≡ w.state.pages → Adds w.map (if w.state.pages == 0 then [] else clear 0 (4096 * w.state.pages) ∷ []) (destroy w)
unfolding destroy
destroy_adds w pages = record { shown = λ before s. window_adds w.map w.state.pages before pages s (w.state.pages == 0) refl }

-- ---- any request

answered_adds : (w : World) (node : ℕ) (q : Request) → length w.map.table ≡ w.state.pages → Adds w.map (request_acts w.state node q) (answered w node q)
unfolding answered request_acts init getattr setattr open_file open_dir release release_dir sync fallocate read write lookup unlink create forget batch_forget read_dir
answered_adds w node (asks.Setup r) pages = setup_adds w node r pages
answered_adds w node (asks.Remove ones) pages = remove_adds w ones pages
answered_adds w node asks.Destroy pages = destroy_adds w pages
answered_adds w node (asks.Lookup name) pages = leaves_adds w.map _ (search (refuse_leaves, found_leaves))
answered_adds w node (asks.Forget n) pages = leaves_adds w.map _ (record { stays = refl })
answered_adds w node (asks.Getattr r) pages = leaves_adds w.map _ (search (refuse_leaves, attr_leaves))
answered_adds w node (asks.Setattr r) pages = leaves_adds w.map _ (search (refuse_leaves, if_leaves, attr_leaves, resizes_leaves))
answered_adds w node (asks.Unlink name) pages = leaves_adds w.map _ (search (refuse_leaves, unlinked_leaves))
answered_adds w node (asks.OpenFile r) pages = leaves_adds w.map _ (search (refuse_leaves, opens_leaves))
answered_adds w node (asks.Read r) pages = leaves_adds w.map _ (search (refuse_leaves, applies_leaves))
answered_adds w node (asks.Write r bytes) pages = leaves_adds w.map _ (search (refuse_leaves, applies_leaves))
answered_adds w node (asks.Release r) pages = leaves_adds w.map _ (search (refuse_leaves, closes_leaves))
answered_adds w node (asks.Fsync r) pages = leaves_adds w.map _ (search (refuse_leaves, leaves))
answered_adds w node (asks.Flush r) pages = leaves_adds w.map _ (search (refuse_leaves, leaves))
answered_adds w node (asks.Init r) pages = leaves_adds w.map _ (search (refuse_leaves, state_leaves))
answered_adds w node (asks.OpenDir r) pages = leaves_adds w.map _ (search (refuse_leaves, opens_leaves))
answered_adds w node (asks.ReadDir r) pages = leaves_adds w.map _ (search (refuse_leaves, leaves))
answered_adds w node (asks.ReleaseDir r) pages = leaves_adds w.map _ (search (refuse_leaves, closes_leaves))
answered_adds w node (asks.Create r name) pages = leaves_adds w.map _ (search (refuse_leaves, created_leaves))
answered_adds w node (asks.BatchForget ones) pages = leaves_adds w.map _ (record { stays = refl })
answered_adds w node (asks.Fallocate r) pages = leaves_adds w.map _ (search (refuse_leaves, leaves))

-- forgets do nothing to the window, whether or not they are carried out
forget_none : (s : State) (node : ℕ) (q : Request) → is_forget q ≡ true → request_acts s node q ≡ []
unfolding is_forget request_acts
forget_none s node (asks.Lookup name) h = refl
forget_none s node (asks.Forget n) h = refl
forget_none s node (asks.Getattr r) h = refl
forget_none s node (asks.Setattr r) h = refl
forget_none s node (asks.Unlink name) h = refl
forget_none s node (asks.OpenFile r) h = refl
forget_none s node (asks.Read r) h = refl
forget_none s node (asks.Write r bytes) h = refl
forget_none s node (asks.Release r) h = refl
forget_none s node (asks.Fsync r) h = refl
forget_none s node (asks.Flush r) h = refl
forget_none s node (asks.Init r) h = refl
forget_none s node (asks.OpenDir r) h = refl
forget_none s node (asks.ReadDir r) h = refl
forget_none s node (asks.ReleaseDir r) h = refl
forget_none s node (asks.Create r name) h = refl
forget_none s node asks.Destroy h = absurd (true≢false (sym h))
forget_none s node (asks.BatchForget ones) h = refl
forget_none s node (asks.Fallocate r) h = refl
forget_none s node (asks.Setup r) h = absurd (true≢false (sym h))
forget_none s node (asks.Remove ones) h = absurd (true≢false (sym h))

forget_adds : (w : World) (node : ℕ) (q : Request) → is_forget q ≡ true → Adds w.map (request_acts w.state node q) (done w)
forget_adds w node q h = rw (forget_none w.state node q h) (leaves_adds w.map (done w) (record { stays = refl }))

not_served_adds : (w : World) (node : ℕ) (q : Request) (forget : Bool) → is_forget q ≡ forget → Adds w.map (request_acts w.state node q) (if forget then done w else (Err EIO, w))
not_served_adds w node q true h = forget_adds w node q h
not_served_adds w node q false h = refused_adds w (request_acts w.state node q) EIO

served_adds : (w : World) (m : Message) → length w.map.table ≡ w.state.pages → Adds w.map (request_acts w.state m.head.nodeid m.body) (served w m)
unfolding served
served_adds w m pages =
    if_adds w.map (request_acts w.state m.head.nodeid m.body) (w.state.started || is_init m.body) (answered w m.head.nodeid m.body) _ (answered_adds w m.head.nodeid m.body pages)
    (λ late. not_served_adds w m.head.nodeid m.body (is_forget m.body) refl)

judged_adds : (w : World) (room : ℕ) (m : Message) → length w.map.table ≡ w.state.pages → Adds w.map (request_acts w.state m.head.nodeid m.body) (judged_message w room m)
unfolding judged_message
judged_adds w room m pages =
    let acts = request_acts w.state m.head.nodeid m.body in
    let small : Outcome = refuse (nat_lt room (wanted_room m.body)) EINVAL w (served w m) in
    refuse_adds (not (w.state.started || is_init m.body)) EIO w acts small (λ started.
    refuse_adds (nat_lt room (wanted_room m.body)) EINVAL w acts (served w m) (λ enough. served_adds w m pages))

-- ---- one step

any_adds : (w : World) (room : ℕ) (d : Result Message BadRequest) (before : List Act) → length w.map.table ≡ w.state.pages → Shows w.map before → Shows (judged w room d).1.map (before ++ acts_in w room d)
any_adds w room (Err bad) before pages s = rw (append-nil before) s
any_adds w room (Ok m) before pages s = (judged_adds w room m pages).shown before s

-- the window after a forget shows what it did
forgot_shows : (w : World) (d : Result Message BadRequest) (before : List Act) → length w.map.table ≡ w.state.pages
    → ((m : Message) → d ≡ Ok m → request_acts w.state m.head.nodeid m.body ≡ []) → Shows w.map before → Shows (forgot w d).map before
forgot_shows w (Err bad) before pages idle s = s
forgot_shows w (Ok m) before pages idle s =
    let added : Shows (served w m).1.map (before ++ acts_if (served w m).0 (request_acts w.state m.head.nodeid m.body)) = (served_adds w m pages).shown before s in
    rw (idle m refl, none_if (served w m).0, append-nil before) at added

idle_forget : (w : World) (readable : List ℕ) → is_forget_number (header_at readable).opcode ≡ true → (m : Message) → message_of readable ≡ Ok m → request_acts w.state m.head.nodeid m.body ≡ []
unfolding request_acts
idle_forget w readable forget m e = forget_like (λ q. request_acts w.state m.head.nodeid q ≡ []) (λ n. refl) (λ ones. refl) readable m e forget

step_shows : (b : Bool) (x y : Step) (before acts more : List Act) → Shows x.0.map (before ++ acts) → (b ≡ false → Shows y.0.map (before ++ more)) → Shows (if b then x else y).0.map (before ++ (if b then acts else more))
step_shows true x y before acts more h k = h
step_shows false x y before acts more h k = k refl

step_shows_by : (b : Bool) (x y : Step) (before acts more : List Act) → (b ≡ true → Shows x.0.map (before ++ acts)) → Shows y.0.map (before ++ more) → Shows (if b then x else y).0.map (before ++ (if b then acts else more))
step_shows_by true x y before acts more h k = h refl
step_shows_by false x y before acts more h k = k

-- whatever is asked, the window shows what it showed and then what the request does
pub device_step_shows : (w : World) (readable : List ℕ) (room : ℕ) (before : List Act) → length w.map.table ≡ w.state.pages → Shows w.map before
    → Shows (device_step w readable room).0.map (before ++ acts_of w readable room)
unfolding device_step acts_of
device_step_shows w readable room before pages s =
    let none : Step = (w, []) in
    let forget : Step = (forgot w (message_of readable), []) in
    let reply : Step = replied (header_at readable).unique (judged w room (message_of readable)) in
    let roomy : Step = if nat_lt room 16 then none else reply in
    let long : Step = if is_forget_number (header_at readable).opcode then forget else roomy in
    let acts : List Act = acts_in w room (message_of readable) in
    let room_acts : List Act = if nat_lt room 16 then [] else acts in
    let long_acts : List Act = if is_forget_number (header_at readable).opcode then [] else room_acts in
    let same : Shows w.map (before ++ []) = rw (append-nil before) s in
    step_shows (nat_lt (length readable) 40) none long before [] long_acts same (λ l.
    step_shows_by (is_forget_number (header_at readable).opcode) forget roomy before [] room_acts
    (λ f. rw (append-nil before) (forgot_shows w (message_of readable) before pages (idle_forget w readable f) s))
    (step_shows (nat_lt room 16) none reply before [] acts same (λ r. any_adds w room (message_of readable) before pages s)))
