-- Whatever is asked, the window maps files that were made, and no others.
use Rattle.std.proofs.Common.{◌≡◌, ◌∙◌, refl, arith, ◌<◌, ◌≤◌, ℕ, ◌+◌, ◌-◌, ◌*◌, ◌==◌, Bool, true, false, List, [], ◌∷◌, length, length-set, Option, Some, None, Result, Ok, Err, not, nat_lt, ◌||◌, ◌&&◌, ◌^◌, if◌then◌else◌}
use Rattle.std.proofs.lemmas.Grind.{common_steps}
use Rattle.std.proofs.lemmas.List.{length-map, length-append}
use Rattle.std.specs.List.{list_all}
use Rattle.fuse_codec.specs.Reading.{message_of}
use Rattle.fuse_codec.specs.declared.errors.BadRequest.{BadRequest}
use Rattle.fuse_codec.specs.declared.messages.Message.{Message}
use Rattle.fuse_codec.specs.declared.messages.Request.{Request}
use Rattle.fuse_codec.specs.declared.messages.Request.TheVariants as asks
use Rattle.fuse_codec.specs.declared.replies.Reply.{Reply}
use Rattle.fuse_codec.specs.declared.replies.Reply.TheVariants as gives
use Rattle.fuse_wire.specs.declared.errno.Errno.{Errno}
use Rattle.fuse_wire.specs.declared.errno.Errno.TheVariants.{ENOENT, EBADF, EBUSY, EISDIR, EINVAL, EFBIG, EPROTO}
use Rattle.fuse_wire.specs.declared.inits.InitIn.{InitIn}
use Rattle.fuse_wire.specs.declared.mappings.RemoveOne.{RemoveOne}
use Rattle.fuse_wire.specs.declared.mappings.SetupIn.{SetupIn}
use Rattle.plain_file.specs.Board.{file_at, file_answer, may_apply, applied}
use Rattle.plain_file.specs.declared.operations.Answer.{Answer}
use Rattle.plain_file.specs.declared.operations.Op.{Op}
use Rattle.page_map.specs.Board.{MapView, wiped, painted, is_whole, NamesFiles}
use Rattle.fuse_device.specs.State.{State, World, is_made, grants, made_at, counted_up, without_name, unlooked, begun, with_new_file, new_file, cleared_window, all_cleared}
use Rattle.fuse_device.specs.Entries.{session_flags, init_out_with}
use Rattle.fuse_device.specs.Checks.{Outcome, is_known, is_handle, is_past, refuse}
use Rattle.fuse_device.specs.Requests.{done, applies, attr_of, opens, closes, found, unlinked, opens_entry, makes_entry, created, resizes, span_of, is_bad_setup, init, destroy, getattr, setattr, open_file, open_dir, release, release_dir, sync, fallocate, read, write, lookup, unlink, create, forget, batch_forget, read_dir, setup, remove, answered, served}
use Rattle.fuse_device.specs.Steps.{Step, judged_message, judged, forgot, replied, header_at, is_forget_number, device_step}
use Rattle.page_map.proofs.Names.{NamesFiles-wiped, NamesFiles-painted}
use Rattle.fuse_device.specs.Promises.{IsServable}
use Rattle.fuse_device.proofs.Clears.{first_of_both, rest_of_both, wiped_len, whole_window}
use Rattle.fuse_device.proofs.Servable.{not_false, is_positive, is_whole_setup, forgotten_same, all_forgotten_same}

-- the window after an outcome maps files that are made then
pub record Names (o : Outcome) : Type 0 where
  pub after : NamesFiles (length o.1.state.made) o.1.map

-- the map is as long as the device says, and maps made files
pub record AreNamed (w : World) : Type 0 where
  pub pages : length w.map.table ≡ w.state.pages
  pub named : NamesFiles (length w.state.made) w.map

-- ---- maps

-- more files may be made
grown : (few more : ℕ) (v : MapView) → few ≤ more → NamesFiles few v → NamesFiles more v
grown few more v h k page p e = let both = k page p e in (both.0, omega (arith, both.1, h))

all_cleared_names : (ones : List RemoveOne) (v : MapView) (count pages : ℕ) → length v.table ≡ pages → list_all (λ one. is_whole pages one.moffset one.len) ones ≡ true → NamesFiles count v → NamesFiles count (all_cleared v ones)
all_cleared_names [] v count pages e whole h = h
all_cleared_names (one ∷ ones) v count pages e whole h =
    let first = first_of_both (is_whole pages one.moffset one.len) (list_all (λ o. is_whole pages o.moffset o.len) ones) whole in
    let rest = rest_of_both (is_whole pages one.moffset one.len) (list_all (λ o. is_whole pages o.moffset o.len) ones) whole in
    all_cleared_names ones (wiped v one.moffset one.len) count pages (wiped_len v (wiped v one.moffset one.len) one.moffset one.len pages e first refl ∙ e) rest
    (NamesFiles-wiped count v one.moffset one.len (rw e first) h)

if_map : (b : Bool) (x y : MapView) (count : ℕ) → NamesFiles count x → (b ≡ false → NamesFiles count y) → NamesFiles count (if b then x else y)
if_map true x y count h k = h
if_map false x y count h k = k refl

cleared_names : (v : MapView) (count pages : ℕ) → length v.table ≡ pages → NamesFiles count v → NamesFiles count (cleared_window pages v)
cleared_names v count pages e h = if_map (pages == 0) v (wiped v 0 (4096 * pages)) count h (λ some. NamesFiles-wiped count v 0 (4096 * pages) (rw e (whole_window pages (is_positive pages some))) h)

-- ---- outcomes

-- another state with at least as many files, over the same map
state_names : (w : World) (o : Outcome) → AreNamed w → o.1.map ≡ w.map → length w.state.made ≤ length o.1.state.made → Names o
state_names w o h same more = record { after = rw same (grown (length w.state.made) (length o.1.state.made) w.map more h.named) }

-- nothing that matters changes
same_names : (w : World) (r : Result Reply Errno) → AreNamed w → Names (r, w)
same_names w r h = record { after = h.named }

if_names : (b : Bool) (x y : Outcome) → Names x → Names y → Names (if b then x else y)
if_names true x y h k = h
if_names false x y h k = k

if_names_by : (b : Bool) (x y : Outcome) → Names x → (b ≡ false → Names y) → Names (if b then x else y)
if_names_by true x y h k = h
if_names_by false x y h k = k refl

pub refuse_names : (bad : Bool) (e : Errno) (w : World) (rest : Outcome) → AreNamed w → Names rest → Names (refuse bad e w rest)
refuse_names bad e w rest h k = if_names bad (Err e, w) rest (same_names w (Err e) h) k

refuse_names_by : (bad : Bool) (e : Errno) (w : World) (rest : Outcome) → AreNamed w → (bad ≡ false → Names rest) → Names (refuse bad e w rest)
refuse_names_by bad e w rest h k = if_names_by bad (Err e, w) rest (same_names w (Err e) h) k

applies_names : (w : World) (node : ℕ) (op : Op) (reply : Answer → Reply) → AreNamed w → Names (applies w node op reply)
applies_names w node op reply h =
    if_names (may_apply w.files (node - 2) op) (Ok (reply (file_answer (file_at w.files (node - 2)) op).answer), record w { files = applied w.files (node - 2) op }) (Err EBUSY, w)
    (record { after = h.named }) (record { after = h.named })

attr_names : (w : World) (node : ℕ) → AreNamed w → Names (attr_of w node)
attr_names w node h = search (if_names, applies_names, same_names, h)

resizes_names : (w : World) (node size : ℕ) → AreNamed w → Names (resizes w node size)
resizes_names w node size h = search (refuse_names, applies_names, h)

opens_names : (w : World) (node : ℕ) → AreNamed w → Names (opens w node)
opens_names w node h = record { after = h.named }

closes_names : (w : World) (fh : ℕ) → AreNamed w → Names (closes w fh)
closes_names w fh h = record { after = h.named }

found_names : (i : Option ℕ) (w : World) → AreNamed w → Names (found i w)
found_names None w h = record { after = h.named }
found_names (Some i) w h = record { after = rw (length-set w.state.made i (counted_up (made_at w.state (i + 2)))) h.named }

unlinked_names : (i : Option ℕ) (w : World) → AreNamed w → Names (unlinked i w)
unlinked_names None w h = record { after = h.named }
unlinked_names (Some i) w h = record { after = rw (length-set w.state.made i (without_name (made_at w.state (i + 2)))) h.named }

entry_names : (w : World) (i : ℕ) → AreNamed w → Names (opens_entry w i)
entry_names w i h = record { after = rw (length-set w.state.made i (counted_up (made_at w.state (i + 2)))) h.named }

one_more : (s : State) (name : List ℕ) → length s.made ≤ length (with_new_file s name).made
one_more s name = rw (length-append s.made (new_file name ∷ [])) (omega arith)

new_names : (w : World) (name : List ℕ) → AreNamed w → Names (makes_entry w name)
new_names w name h =
    entry_names (record w { state = with_new_file w.state name }) (length w.state.made)
    (record { pages = h.pages; named = grown (length w.state.made) (length (with_new_file w.state name).made) w.map (one_more w.state name) h.named })

created_names : (i : Option ℕ) (exclusive : Bool) (w : World) (name : List ℕ) → AreNamed w → Names (created i exclusive w name)
created_names (Some i) exclusive w name h = search (refuse_names, entry_names, h)
created_names None exclusive w name h = search (refuse_names, new_names, h)

-- ---- the window

-- a known node that isn't the directory's is a made file's
known_file : (s : State) (node : ℕ) → not (is_known s node) ≡ false → (node == 1) ≡ false → (2 ≤ node) × (node - 2 < length s.made)
unfolding is_known is_made
known_file s node known file = (grind (arith, common_steps, known, file), grind (arith, common_steps, known, file))

setup_names : (w : World) (node : ℕ) (r : SetupIn) → AreNamed w → Names (setup w node r)
unfolding setup
setup_names w node r h =
    let set : Outcome = done (record w { map = painted w.map (span_of node r) }) in
    let may : Outcome = refuse (not ((grants w).may_set (span_of node r))) EBUSY w set in
    let whole : Outcome = refuse (is_bad_setup w.state.pages r) EINVAL w may in
    let fits : Outcome = refuse (is_past r.foffset r.len) EFBIG w whole in
    let handle : Outcome = refuse (not (r.fh == 2 ^ 64 - 1) && not (is_handle w.state r.fh node)) EBADF w fits in
    let file : Outcome = refuse (node == 1) EISDIR w handle in
    refuse_names_by (not (is_known w.state node)) ENOENT w file h (λ known.
    refuse_names_by (node == 1) EISDIR w handle h (λ other.
    refuse_names (not (r.fh == 2 ^ 64 - 1) && not (is_handle w.state r.fh node)) EBADF w fits h (
    refuse_names (is_past r.foffset r.len) EFBIG w whole h (
    refuse_names_by (is_bad_setup w.state.pages r) EINVAL w may h (λ good.
    refuse_names (not ((grants w).may_set (span_of node r))) EBUSY w set h (
    let made = known_file w.state node known other in
    record { after = NamesFiles-painted (length w.state.made) w.map (span_of node r) (rw h.pages (is_whole_setup w.state.pages r good)) made.0 made.1 h.named }
    ))))))

remove_names : (w : World) (ones : List RemoveOne) → AreNamed w → Names (remove w ones)
unfolding remove
remove_names w ones h =
    let whole : Bool = list_all (λ one. is_whole w.state.pages one.moffset one.len) ones in
    let may : Bool = list_all (λ one. (grants w).may_clear one.moffset one.len) ones in
    let cleared : Outcome = done (record w { map = all_cleared w.map ones }) in
    refuse_names_by (not whole) EINVAL w (refuse (not may) EBUSY w cleared) h
    (λ e. refuse_names (not may) EBUSY w cleared h (record { after = all_cleared_names ones w.map (length w.state.made) w.state.pages h.pages (not_false whole e) h.named }))

destroy_names : (w : World) → AreNamed w → Names (destroy w)
unfolding destroy
destroy_names w h = record { after = rw (length-map w.state.made unlooked) (cleared_names w.map (length w.state.made) w.state.pages h.pages h.named) }

-- ---- any request

init_names : (w : World) (r : InitIn) → AreNamed w → Names (init w r)
unfolding init
init_names w r h =
    refuse_names (not (r.major == 7) || nat_lt r.minor 31) EPROTO w (Ok (gives.Init (init_out_with (session_flags w.state.pages r) r)), record w { state = begun w.state }) h
    (record { after = h.named })

answered_names : (w : World) (node : ℕ) (q : Request) → AreNamed w → Names (answered w node q)
unfolding answered getattr setattr open_file open_dir release release_dir sync fallocate read write lookup unlink create forget batch_forget read_dir
answered_names w node (asks.Lookup name) h = search (refuse_names, found_names, h)
answered_names w node (asks.Forget n) h = record { after = rw (forgotten_same w.state node n).1 h.named }
answered_names w node (asks.Getattr r) h = search (refuse_names, attr_names, h)
answered_names w node (asks.Setattr r) h = search (refuse_names, if_names, attr_names, resizes_names, h)
answered_names w node (asks.Unlink name) h = search (refuse_names, unlinked_names, h)
answered_names w node (asks.OpenFile r) h = search (refuse_names, opens_names, h)
answered_names w node (asks.Read r) h = search (refuse_names, applies_names, h)
answered_names w node (asks.Write r bytes) h = search (refuse_names, applies_names, h)
answered_names w node (asks.Release r) h = search (refuse_names, closes_names, h)
answered_names w node (asks.Fsync r) h = search (refuse_names, same_names, h)
answered_names w node (asks.Flush r) h = search (refuse_names, same_names, h)
answered_names w node (asks.Init r) h = init_names w r h
answered_names w node (asks.OpenDir r) h = search (refuse_names, opens_names, h)
answered_names w node (asks.ReadDir r) h = search (refuse_names, same_names, h)
answered_names w node (asks.ReleaseDir r) h = search (refuse_names, closes_names, h)
answered_names w node (asks.Create r name) h = search (refuse_names, created_names, h)
answered_names w node asks.Destroy h = destroy_names w h
answered_names w node (asks.BatchForget ones) h = record { after = rw (all_forgotten_same ones w.state).1 h.named }
answered_names w node (asks.Fallocate r) h = search (refuse_names, same_names, h)
answered_names w node (asks.Setup r) h = setup_names w node r h
answered_names w node (asks.Remove ones) h = remove_names w ones h

served_names : (w : World) (m : Message) → AreNamed w → Names (served w m)
unfolding served
served_names w m h = search (if_names, answered_names, same_names, h)

-- ---- one step

pub judged_names : (w : World) (room : ℕ) (d : Result Message BadRequest) → AreNamed w → Names (judged w room d)
unfolding judged_message
judged_names w room (Err bad) h = record { after = h.named }
judged_names w room (Ok m) h = search (refuse_names, served_names, h)

forgot_names : (w : World) (d : Result Message BadRequest) → AreNamed w → NamesFiles (length (forgot w d).state.made) (forgot w d).map
forgot_names w (Err bad) h = h.named
forgot_names w (Ok m) h = (served_names w m h).after

pub step_names : (b : Bool) (x y : Step) → NamesFiles (length x.0.state.made) x.0.map → NamesFiles (length y.0.state.made) y.0.map → NamesFiles (length (if b then x else y).0.state.made) (if b then x else y).0.map
step_names true x y h k = h
step_names false x y h k = k

pub NamesFiles-device_step : (w : World) (readable : List ℕ) (room : ℕ) → IsServable w → NamesFiles (length w.state.made) w.map
    → NamesFiles (length (device_step w readable room).0.state.made) (device_step w readable room).0.map
unfolding device_step
NamesFiles-device_step w readable room servable h =
    let all : AreNamed w = record { pages = servable.pages; named = h } in
    let none : Step = (w, []) in
    let forget : Step = (forgot w (message_of readable), []) in
    let reply : Step = replied (header_at readable).unique (judged w room (message_of readable)) in
    let roomy : Step = if nat_lt room 16 then none else reply in
    let long : Step = if is_forget_number (header_at readable).opcode then forget else roomy in
    step_names (nat_lt (length readable) 40) none long h (
    step_names (is_forget_number (header_at readable).opcode) forget roomy (forgot_names w (message_of readable) all) (
    step_names (nat_lt room 16) none reply h (judged_names w room (message_of readable) all).after))
