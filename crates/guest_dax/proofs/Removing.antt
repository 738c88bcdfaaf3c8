-- What is seen of a log after a range was taken from the tree.
use Rattle.std.proofs.Common.{◌≡◌, ◌∙◌, ap, sym, refl, subst, ℕ, zero, suc, ◌<◌, ◌==◌, Bool, true, false, cond, List, [], ◌∷◌, ◌++◌, length, get_or, slice_set, Option, Some, None, append_assoc, inl, inr, arith, Result, Ok, Err}
use Rattle.std.specs.Prelude.{unwrap_or, IfOk}
use Rattle.std.specs.List.{find}
use Rattle.std.proofs.lemmas.Bool.{cases_Bool}
use Rattle.std.proofs.lemmas.List.{append-nil}
use Rattle.std.proofs.lemmas.Grind.{common_steps}
use Rattle.page_map.specs.declared.ranges.LogEntry.{LogEntry}
use Rattle.page_map.specs.declared.ranges.LogEntry.TheVariants as entries
use Rattle.page_map.specs.Logs.{Slot, is_in, slot_in, slots_of}
use Rattle.page_map.specs.Board.{MapView, Hands, log_at}
use Rattle.range_tree.specs.Ranges.{tree_of, tree_slot, slot_at, removal, Enters, IsTaken}
use Rattle.guest_wire.specs.Keeps.{Begins}
use Rattle.guest_wire.specs.Wires.{WireView, Boards, Sent}
use Rattle.guest_wire.specs.declared.wires.WireError.{WireError}
use Rattle.guest_dax.specs.Reclaims.{EndsRemoved}
use Rattle.guest_dax.specs.Causes.{IsUnmapped}
use Rattle.guest_dax.specs.declared.refusals.DaxRefusal.{DaxRefusal}
use Rattle.guest_dax.specs.Freeing.{IsFreed}

eqb-same : (m n : ℕ) → (m == n) ≡ true → m ≡ n
eqb-same m n e = grind (arith, common_steps, e)

find-here : (b : Bool) (x s : Slot) (rest : Option Slot) → cond b (Some x) rest ≡ Some s → b ≡ true → x ≡ s
find-here true x s rest e h = cc
find-here false x s rest e h = absurd cc

find-later : (b : Bool) (x s : Slot) (rest : Option Slot) → cond b (Some x) rest ≡ Some s → b ≡ false → rest ≡ Some s
find-later true x s rest e h = absurd cc
find-later false x s rest e h = e

find-range : (slots : List Slot) (range : ℕ) (s : Slot) → find (is_in range) slots ≡ Some s → s.range ≡ range
find-range [] range s e = absurd cc
find-range (x ∷ xs) range s e = elim (cases_Bool (is_in range x)) [
  | inl k ↦ ap (λ (y : Slot). y.range) (sym (find-here (is_in range x) x s (find (is_in range) xs) e k)) ∙ eqb-same x.range range k
  | inr k ↦ find-range xs range s (find-later (is_in range x) x s (find (is_in range) xs) e k)
]

slot-range : (log : List LogEntry) (range : ℕ) (s : Slot) → slot_in log range ≡ Some s → s.range ≡ range
unfolding slot_in
slot-range log range s e = find-range (slots_of log) range s e

tree-range : (tree : Option ℕ) (logs : List (List LogEntry)) (range : ℕ) (s : Slot) → slot_at tree logs range ≡ Some s → s.range ≡ range
unfolding slot_at
tree-range None logs range s e = absurd cc
tree-range (Some file) logs range s e = slot-range (get_or logs file []) range s e

log-set : (logs : List (List LogEntry)) (file : ℕ) (l : List LogEntry) → file < length logs → get_or (slice_set logs file l) file [] ≡ l
log-set [] file l h = absurd (omega arith)
log-set (x ∷ xs) zero l h = refl
log-set (x ∷ xs) (suc file) l h = log-set xs file l (omega arith)

same-length : (l : List LogEntry) → length (l ++ []) ≡ length l
same-length l = ap (λ (x : List LogEntry). length x) (append-nil l)

-- a log that has grown by what a slot's removal adds
by-slot : (o : Option Slot) (range : ℕ) (old new : List LogEntry) → ((s : Slot) → o ≡ Some s → s.range ≡ range) → new ≡ old ++ removal o → length old < length new → new ≡ old ++ entries.Remove range ∷ []
unfolding removal
by-slot None range old new at is longer = absurd (omega (arith, longer, ap (λ (x : List LogEntry). length x) is, same-length old))
by-slot (Some s) range old new at is longer = is ∙ ap (λ (r : ℕ). old ++ entries.Remove r ∷ []) (at s refl)

length-set : (logs : List (List LogEntry)) (i : ℕ) (l : List LogEntry) → length (slice_set logs i l) ≡ length logs
length-set logs i l = grind (arith, common_steps)

-- the tree was entered, and the log is longer after the take
pub removed-under : (u : MapView) (file range before : ℕ) (v w : MapView) → file < length u.ranges.logs → Enters u file v → IsTaken v range w → before ≡ length (log_at v (tree_of v)) → before < length (log_at w file) → EndsRemoved u w file range
removed-under u file range before v w within enters t was longer =
    let tree : tree_of v ≡ file = ap (λ (m : MapView). unwrap_or m.hands.tree 0) enters.becomes.rest in
    let many : length v.ranges.logs ≡ length u.ranges.logs = ap (λ (m : MapView). length m.ranges.logs) enters.becomes.rest ∙ length-set u.ranges.logs file (log_at u file ++ enters.more) in
    let seen : log_at v file ≡ log_at u file ++ enters.more = ap (λ (m : MapView). log_at m file) enters.becomes.rest ∙ log-set u.ranges.logs file (log_at u file ++ enters.more) within in
    let left : log_at w file ≡ log_at v file ++ removal (tree_slot v range) =
    ap (λ (m : MapView). log_at m file) t.becomes.rest
    ∙ ap (λ (f : ℕ). get_or (slice_set v.ranges.logs f (log_at v f ++ removal (tree_slot v range))) file []) tree
    ∙ log-set v.ranges.logs file (log_at v file ++ removal (tree_slot v range)) (subst (λ (n : ℕ). file < n) (sym many) within) in
    let before_is : before ≡ length (log_at v file) = was ∙ ap (λ (f : ℕ). length (log_at v f)) tree in
    let grown : log_at w file ≡ log_at v file ++ entries.Remove range ∷ [] = by-slot (tree_slot v range) range (log_at v file) (log_at w file) (λ s e. tree-range v.hands.tree v.ranges.logs range s e) left (subst (λ (n : ℕ). n < length (log_at w file)) before_is longer) in
    record { more = enters.more; grown = grown ∙ ap (λ (l : List LogEntry). l ++ entries.Remove range ∷ []) seen ∙ append_assoc (log_at u file) enters.more (entries.Remove range ∷ []) }

-- the same seen from a board whose log was a front of it, and by one whose log is the same
pub EndsRemoved-after : (u v w : MapView) (file range : ℕ) → Begins (log_at u file) (log_at v file) → EndsRemoved v w file range → EndsRemoved u w file range
EndsRemoved-after u v w file range (more, e) r = record {
  more = more ++ r.more;
  grown = r.grown ∙ ap (λ (l : List LogEntry). l ++ (r.more ++ entries.Remove range ∷ [])) e ∙ append_assoc (log_at u file) more (r.more ++ entries.Remove range ∷ []) ∙ ap (λ (l : List LogEntry). log_at u file ++ l) (sym (append_assoc more r.more (entries.Remove range ∷ [])));
}

pub EndsRemoved-kept : (u v w : MapView) (file range : ℕ) → w.ranges.logs ≡ v.ranges.logs → EndsRemoved u v file range → EndsRemoved u w file range
EndsRemoved-kept u v w file range logs r = record { more = r.more; grown = ap (λ (ls : List (List LogEntry)). get_or ls file []) logs ∙ r.grown }

-- ---- the request by which it was unmapped

-- the range that was unmapped is the one that is moved
pub unmapped-moved : {S : Type 0} (wire : S → WireView) (gives : S → Boards → Sent → Result (List ℕ) WireError → S → Boards → Type 0) (before : S) (unique range : ℕ) (after : S) (now : ℕ) (h : Hands) → h.moves ≡ Some range → IsUnmapped wire gives before unique range after now → IsUnmapped wire gives before unique (unwrap_or h.moves 0) after now
unmapped-moved wire gives before unique range after now h moves u = subst (λ (o : Option ℕ). IsUnmapped wire gives before unique (unwrap_or o 0) after now) (sym moves) u

-- a range was freed by a request
abbrev pub FreedBy : {S : Type 0} → (S → WireView) → (S → Boards → Sent → Result (List ℕ) WireError → S → Boards → Type 0) → S → ℕ → S → ℕ → MapView → MapView → Type 0
FreedBy wire gives before unique after now u v = (f : IsFreed u v) × IsUnmapped wire gives before unique f.range after now

pub freed-by : {S : Type 0} (wire : S → WireView) (gives : S → Boards → Sent → Result (List ℕ) WireError → S → Boards → Type 0) (before : S) (unique : ℕ) (after : S) (now : ℕ) (u v : MapView) (file range : ℕ) → file < length u.ranges.logs → EndsRemoved u v file range → IsUnmapped wire gives before unique range after now → FreedBy wire gives before unique after now u v
freed-by wire gives before unique after now u v file range known removed h = (record { file = file; known = known; range = range; removed = removed }, h)

pub freed-by-later : {S : Type 0} (wire : S → WireView) (gives : S → Boards → Sent → Result (List ℕ) WireError → S → Boards → Type 0) (before : S) (unique : ℕ) (after : S) (now : ℕ) (u v w : MapView) → length v.ranges.logs ≡ length u.ranges.logs → ((file : ℕ) → Begins (log_at u file) (log_at v file)) → FreedBy wire gives before unique after now v w → FreedBy wire gives before unique after now u w
freed-by-later wire gives before unique after now u v w files logs (f, h) = freed-by wire gives before unique after now u w f.file f.range (subst (λ (n : ℕ). f.file < n) files f.known) (EndsRemoved-after u v w f.file f.range (logs f.file) f.removed) h

pub freed-by-kept : {S : Type 0} (wire : S → WireView) (gives : S → Boards → Sent → Result (List ℕ) WireError → S → Boards → Type 0) (before : S) (unique : ℕ) (after : S) (now : ℕ) (u v w : MapView) → w.ranges.logs ≡ v.ranges.logs → FreedBy wire gives before unique after now u v → FreedBy wire gives before unique after now u w
freed-by-kept wire gives before unique after now u v w logs (f, h) = freed-by wire gives before unique after now u w f.file f.range f.known (EndsRemoved-kept u v w f.file f.range logs f.removed) h

pub freed-by-later-if : {S : Type 0} (wire : S → WireView) (gives : S → Boards → Sent → Result (List ℕ) WireError → S → Boards → Type 0) (before : S) (unique : ℕ) (after : S) (now : ℕ) (u v w : MapView) (result : Result Bool DaxRefusal) → length v.ranges.logs ≡ length u.ranges.logs → ((file : ℕ) → Begins (log_at u file) (log_at v file)) → IfOk result (λ freed. freed ≡ true → FreedBy wire gives before unique after now v w) → IfOk result (λ freed. freed ≡ true → FreedBy wire gives before unique after now u w)
freed-by-later-if wire gives before unique after now u v w (Ok b) files logs h = λ freed. freed-by-later wire gives before unique after now u v w files logs (h freed)
freed-by-later-if wire gives before unique after now u v w (Err e) files logs h = tt
