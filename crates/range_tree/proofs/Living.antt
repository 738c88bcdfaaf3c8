-- What is placed at the end of a sound log is what is live there, by places of the log.
use Rattle.std.proofs.Common.{◌≡◌, ◌∙◌, ap, sym, refl, subst, ℕ, zero, suc, ◌+◌, ◌<◌, ◌≤◌, ◌==◌, ◌||◌, Bool, true, false, not, cond, nat_lt, is_none, List, [], ◌∷◌, ◌++◌, length, take, drop, get_or, slice_get, option_map, Option, Some, None, inl, inr, arith, append_assoc}
use Rattle.std.specs.List.{find, list_any, AllByRecursion}
use Rattle.std.proofs.lemmas.Grind.{common_steps}
use Rattle.std.proofs.lemmas.Bool.{cases_Bool, cases_lt, cases_eq, and_parts}
use Rattle.std.proofs.lemmas.List.{append-nil, take_all, drop-append-le, length-append}
use Rattle.std.proofs.lemmas.List.Folds.{list_any-append}
use Rattle.std.proofs.lemmas.Option.{slice_get_within, slice_get-get_or, get_or_from_slice_get}
use Rattle.page_map.specs.declared.pages.Mode.{Mode}
use Rattle.page_map.specs.declared.pages.Mode.TheVariants as modes
use Rattle.page_map.specs.declared.ranges.LogEntry.{LogEntry}
use Rattle.page_map.specs.declared.ranges.LogEntry.TheVariants as entries
use Rattle.page_map.specs.Logs.{Slot, is_of, is_in, is_writable, removes, upgrades, stays, is_written, places, upgraded, next_slots, slots_from, slots_of, placed_at, placed_of, may_follow, sound_from, sound}
use Rattle.range_tree.specs.Logs.{is_live, lasts, IsLivePlace, Finds}
use Rattle.range_tree.proofs.Finds.{find-append_some, find-append_none, find-map, find-filter, find-holds}
use Rattle.range_tree.proofs.Growing.{slots_of-append}
use Rattle.range_tree.proofs.Apart.{all_append, all_mono, all_map, all_filter, none_is, four}
use Rattle.range_tree.proofs.Live.{live_lasts, live_below}

-- ---- elements of a longer list

get_or-front : {X : Type 0} (xs ys : List X) (i : ℕ) (d : X) → i < length xs → get_or (xs ++ ys) i d ≡ get_or xs i d
get_or-front [] ys i d h = absurd (omega (arith, h))
get_or-front (x ∷ xs) ys zero d h = refl
get_or-front (x ∷ xs) ys (suc i) d h = get_or-front xs ys i d (omega (arith, h))

longer : (log : List LogEntry) (e : LogEntry) → length (log ++ e ∷ []) ≡ length log + 1
longer log e = length-append log (e ∷ [])

get-front : (log : List LogEntry) (e x : LogEntry) (k : ℕ) → slice_get log k ≡ Some x → slice_get (log ++ e ∷ []) k ≡ Some x
get-front log e x k is =
    let lo : k < length log = slice_get_within log k x is in
    slice_get-get_or (log ++ e ∷ []) k x (let n = longer log e in omega (arith, n, lo)) ∙ ap (λ y. Some y) (get_or-front log (e ∷ []) k x lo ∙ get_or_from_slice_get log k x x is)

get_or-end : (log : List LogEntry) (e d : LogEntry) → get_or (log ++ e ∷ []) (length log) d ≡ e
get_or-end [] e d = refl
get_or-end (x ∷ log) e d = get_or-end log e d

get-end : (log : List LogEntry) (e : LogEntry) → slice_get (log ++ e ∷ []) (length log) ≡ Some e
get-end log e = slice_get-get_or (log ++ e ∷ []) (length log) e (let n = longer log e in omega (arith, n)) ∙ ap (λ y. Some y) (get_or-end log e e)

get-back : (log : List LogEntry) (e x : LogEntry) (k : ℕ) → k < length log → slice_get (log ++ e ∷ []) k ≡ Some x → slice_get log k ≡ Some x
get-back log e x k lo is = slice_get-get_or log k x lo ∙ ap (λ y. Some y) (sym (get_or-front log (e ∷ []) k x lo) ∙ get_or_from_slice_get (log ++ e ∷ []) k x x is)

later-end : (log : List LogEntry) (e : LogEntry) (k : ℕ) → k < length log → drop (k + 1) (log ++ e ∷ []) ≡ drop (k + 1) log ++ e ∷ []
later-end log e k lo = drop-append-le (k + 1) log (e ∷ []) (omega (arith, lo))

or-false : (b : Bool) → (b || false) ≡ b
or-false true = refl
or-false false = refl

any-end : (p : LogEntry → Bool) (log : List LogEntry) (e : LogEntry) (k : ℕ) → k < length log → list_any p (drop (k + 1) (log ++ e ∷ [])) ≡ (list_any p (drop (k + 1) log) || p e)
any-end p log e k lo = ap (list_any p) (later-end log e k lo) ∙ (list_any-append p (drop (k + 1) log) (e ∷ []) ∙ ap (λ b. list_any p (drop (k + 1) log) || b) (or-false (p e)))

drop_past : (n : ℕ) (log : List LogEntry) → length log ≤ n → drop n log ≡ []
drop_past zero [] le = refl
drop_past zero (x ∷ log) le = absurd (omega (arith, le))
drop_past (suc n) [] le = refl
drop_past (suc n) (x ∷ log) le = drop_past n log (omega (arith, le))

or-parts : (a b : Bool) → (a || b) ≡ false → (a ≡ false) × (b ≡ false)
or-parts true b e = absurd (cc)
or-parts false b e = (refl, e)

-- ---- what is placed is live

-- the slot's place is an entry that no later one removes, and may be written as that and the later ones say
pub record IsLast (log : List LogEntry) (t : Slot) : Type 0 where
  pub at_first : Mode
  pub here : slice_get log t.entry ≡ Some (entries.Place t.chunk t.range at_first)
  pub left : list_any (removes t.range) (drop (t.entry + 1) log) ≡ false
  pub mode : is_writable t.mode ≡ (is_writable at_first || list_any (upgrades t.range) (drop (t.entry + 1) log))

or-assoc : (a b c : Bool) → ((a || b) || c) ≡ (a || (b || c))
or-assoc true b c = refl
or-assoc false b c = refl

-- one entry more that doesn't remove the slot, which may be written then as this mode says
last-more : (log : List LogEntry) (e : LogEntry) (t : Slot) (m : Mode) → IsLast log t → removes t.range e ≡ false → is_writable m ≡ (is_writable t.mode || upgrades t.range e) → IsLast (log ++ e ∷ []) (record t { mode = m })
last-more log e t m l kept raised =
    let lo : t.entry < length log = slice_get_within log t.entry _ l.here in
    record {
      at_first = l.at_first;
      here = get-front log e _ t.entry l.here;
      left = any-end (removes t.range) log e t.entry lo ∙ rw (l.left, kept) refl;
      mode = raised ∙ ap (λ b. b || upgrades t.range e) l.mode ∙ or-assoc (is_writable l.at_first) (list_any (upgrades t.range) (drop (t.entry + 1) log)) (upgrades t.range e) ∙ ap (λ b. is_writable l.at_first || b) (sym (any-end (upgrades t.range) log e t.entry lo));
    }

last-same : (log : List LogEntry) (e : LogEntry) (t : Slot) → IsLast log t → removes t.range e ≡ false → upgrades t.range e ≡ false → IsLast (log ++ e ∷ []) t
last-same log e t l kept none = last-more log e t t.mode l kept (sym (ap (λ b. is_writable t.mode || b) none ∙ or-false (is_writable t.mode)))

last-new : (log : List LogEntry) (c r : ℕ) (m : Mode) → IsLast (log ++ entries.Place c r m ∷ []) (record { chunk = c; range = r; mode = m; entry = length log })
last-new log c r m =
    let past : drop (length log + 1) (log ++ entries.Place c r m ∷ []) ≡ [] = drop_past (length log + 1) (log ++ entries.Place c r m ∷ []) (let n = longer log (entries.Place c r m) in omega (arith, n)) in
    record {
      at_first = m;
      here = get-end log (entries.Place c r m);
      left = ap (list_any (removes r)) past;
      mode = sym (ap (λ l. is_writable m || list_any (upgrades r) l) past ∙ or-false (is_writable m));
    }

eq-swap : (a b : ℕ) → (a == b) ≡ (b == a)
eq-swap a b = elim (cases_eq a b) [
  | inl e ↦ rw e refl
  | inr ne ↦ let x : (a == b) ≡ false = grind (arith, common_steps, ne) in let y : (b == a) ≡ false = grind (arith, common_steps, ne) in x ∙ sym y
]

raised-mode : (a : Bool) (m : Mode) → is_writable (cond a modes.W m) ≡ (is_writable m || a)
unfolding is_writable
raised-mode true modes.R = refl
raised-mode true modes.W = refl
raised-mode false modes.R = refl
raised-mode false modes.W = refl

not-true : (b : Bool) → not b ≡ true → b ≡ false
not-true true e = absurd (cc)
not-true false e = refl

step-lasts : (log : List LogEntry) (e : LogEntry) → AllByRecursion (IsLast log) (slots_of log) → AllByRecursion (IsLast (log ++ e ∷ [])) (next_slots (length log) (slots_of log) e)
unfolding next_slots removes upgrades
step-lasts log (entries.Place c r m) all = all_append (IsLast (log ++ entries.Place c r m ∷ [])) (slots_of log) (record { chunk = c; range = r; mode = m; entry = length log })
    (all_mono (IsLast log) (IsLast (log ++ entries.Place c r m ∷ [])) (λ t l. last-same log (entries.Place c r m) t l refl refl) (slots_of log) all) (last-new log c r m)
step-lasts log (entries.Upgrade r) all = all_map (IsLast log) (IsLast (log ++ entries.Upgrade r ∷ [])) (upgraded r)
    (λ t l. last-more log (entries.Upgrade r) t (upgraded r t).mode l refl (raised-mode (t.range == r) t.mode ∙ ap (λ b. is_writable t.mode || b) (eq-swap t.range r))) (slots_of log) all
step-lasts log (entries.Remove r) all = all_filter (IsLast log) (IsLast (log ++ entries.Remove r ∷ [])) (λ s. not (is_in r s))
    (λ t kept l. last-same log (entries.Remove r) t l (eq-swap r t.range ∙ not-true (t.range == r) kept) refl) (slots_of log) all

-- ---- what is live is placed

pub record HasSlot (slots : List Slot) (c r : ℕ) : Type 0 where
  pub slot : Slot
  pub found : find (is_of c) slots ≡ Some slot
  pub in_range : slot.range ≡ r

abbrev pub FindsLive : List LogEntry → Type 0
FindsLive log = (k c r : ℕ) (m : Mode) → slice_get log k ≡ Some (entries.Place c r m) → list_any (removes r) (drop (k + 1) log) ≡ false → HasSlot (slots_of log) c r

self : (n : ℕ) → (n == n) ≡ true
self n = grind (arith, common_steps)

has-more : (n : ℕ) (slots : List Slot) (e : LogEntry) (c r : ℕ) → HasSlot slots c r → removes r e ≡ false → HasSlot (next_slots n slots e) c r
unfolding next_slots removes
has-more n slots (entries.Place c2 r2 m) c r h kept = record { slot = h.slot; found = find-append_some (is_of c) slots _ h.slot h.found; in_range = h.in_range }
has-more n slots (entries.Upgrade r2) c r h kept = record { slot = upgraded r2 h.slot; found = find-map (is_of c) (upgraded r2) (is_of c) (λ y. refl) slots h.slot h.found; in_range = h.in_range }
has-more n slots (entries.Remove r2) c r h kept =
    let stays_in : not (is_in r2 h.slot) ≡ true = (let e : (h.slot.range == r2) ≡ false = ap (λ x. x == r2) h.in_range ∙ eq-swap r r2 ∙ kept in rw e refl) in
    record { slot = h.slot; found = find-filter (is_of c) (λ s. not (is_in r2 s)) slots h.slot h.found stays_in; in_range = h.in_range }

has-new : (ranges n : ℕ) (slots : List Slot) (c r : ℕ) (m : Mode) → may_follow ranges slots (entries.Place c r m) ≡ true → HasSlot (next_slots n slots (entries.Place c r m)) c r
unfolding next_slots may_follow
has-new ranges n slots c r m may =
    let f = four (nat_lt c 32) (nat_lt r ranges) (is_none (find (is_of c) slots)) (is_none (find (is_in r) slots)) may in
    let s : Slot = record { chunk = c; range = r; mode = m; entry = n } in
    let same : is_of c s ≡ true = self c in
    record { slot = s; found = find-append_none (is_of c) slots (s ∷ []) (none_is (find (is_of c) slots) f.0) ∙ rw same refl; in_range = refl }

step-found : (ranges : ℕ) (log : List LogEntry) (e : LogEntry) → FindsLive log → may_follow ranges (slots_of log) e ≡ true → FindsLive (log ++ e ∷ [])
step-found ranges log e h may k c r m at left = subst (λ l. HasSlot l c r) (sym (slots_of-append log e)) (elim (cases_lt k (length log)) [
  | inl lo ↦
      let parts = or-parts (list_any (removes r) (drop (k + 1) log)) (removes r e) (sym (any-end (removes r) log e k lo) ∙ left) in
      has-more (length log) (slots_of log) e c r (h k c r m (get-back log e (entries.Place c r m) k lo at) parts.0) parts.1
  | inr past ↦
      let below : k < length (log ++ e ∷ []) = slice_get_within (log ++ e ∷ []) k _ at in
      let same : length log ≡ k = (let n = longer log e in omega (arith, n, below, past)) in
      let is : Some e ≡ Some (entries.Place c r m) = sym (get-end log e) ∙ ap (slice_get (log ++ e ∷ [])) same ∙ at in
      let entry : entries.Place c r m ≡ e = cc in
      subst (λ x. HasSlot (next_slots (length log) (slots_of log) x) c r) entry (has-new ranges (length log) (slots_of log) c r m (rw entry may))
])

-- ---- over the whole log

pub record IsLogged (log : List LogEntry) : Type 0 where
  pub lasts : AllByRecursion (IsLast log) (slots_of log)
  pub live : FindsLive log

logged-next : (ranges : ℕ) (log : List LogEntry) (e : LogEntry) → IsLogged log → may_follow ranges (slots_of log) e ≡ true → IsLogged (log ++ e ∷ [])
logged-next ranges log e l may = record {
  lasts = subst (AllByRecursion (IsLast (log ++ e ∷ []))) (sym (slots_of-append log e)) (step-lasts log e l.lasts);
  live = step-found ranges log e l.live may;
}

logged-from : (ranges : ℕ) (front rest : List LogEntry) → IsLogged front → sound_from ranges (length front) (slots_of front) rest ≡ true → IsLogged (front ++ rest)
unfolding sound_from
logged-from ranges front [] l h = subst IsLogged (sym (append-nil front)) l
logged-from ranges front (e ∷ rest) l h =
    let p = and_parts (may_follow ranges (slots_of front) e) (sound_from ranges (length front + 1) (next_slots (length front) (slots_of front) e) rest) h in
    let more : sound_from ranges (length (front ++ e ∷ [])) (slots_of (front ++ e ∷ [])) rest ≡ true = rw (longer front e, slots_of-append front e) p.1 in
    subst IsLogged (append_assoc front (e ∷ []) rest) (logged-from ranges (front ++ e ∷ []) rest (logged-next ranges front e l p.0) more)

no-entry : (k : ℕ) (x : LogEntry) → slice_get [] k ≡ Some x → ⊥
no-entry k x e = let lo : k < length {A = LogEntry} [] = slice_get_within [] k x e in omega (arith, lo)

logged-nil : IsLogged []
unfolding slots_of slots_from
logged-nil = record { lasts = tt; live = λ k c r m at left. absurd (no-entry k _ at) }

pub logged : (ranges : ℕ) (log : List LogEntry) → sound ranges log ≡ true → IsLogged log
unfolding sound slots_of slots_from
logged ranges log is = logged-from ranges [] log logged-nil is

-- ---- what is found

between-all : (log : List LogEntry) (k : ℕ) → drop (k + 1) (take (length log) log) ≡ drop (k + 1) log
between-all log k = ap (drop (k + 1)) (take_all (length log) log (omega arith))

live-entry : (write : Bool) (log : List LogEntry) (chunk k : ℕ) (e : LogEntry) → slice_get log k ≡ Some e → is_live write log chunk k (length log) ≡ lasts write e chunk (drop (k + 1) log)
live-entry write log chunk k e at =
    live_lasts write log chunk k (length log) e (slice_get_within log k e at) (omega arith) ∙ ap (λ x. lasts write x chunk (drop (k + 1) (take (length log) log))) (get_or_from_slice_get log k e e at)
    ∙ ap (lasts write e chunk) (between-all log k)

found-live : (log : List LogEntry) (chunk : ℕ) (s : Slot) → IsLast log s → s.chunk ≡ chunk → IsLivePlace log chunk (placed_of s)
unfolding places stays is_written
found-live log chunk s l c =
    let at : slice_get log s.entry ≡ Some (entries.Place chunk s.range l.at_first) = l.here ∙ ap (λ n. Some (entries.Place n s.range l.at_first)) c in
    let own = self chunk in
    record {
      at_first = l.at_first;
      entry = at;
      live = live-entry false log chunk s.entry (entries.Place chunk s.range l.at_first) at ∙ rw (own, l.left) refl;
      written = l.mode ∙ sym (live-entry true log chunk s.entry (entries.Place chunk s.range l.at_first) at ∙ rw (own, l.left) refl);
    }

-- no entry places a chunk and lasts that isn't found
place-dead : (log : List LogEntry) (chunk k c r : ℕ) (m : Mode) → IsLogged log → find (is_of chunk) (slots_of log) ≡ None → slice_get log k ≡ Some (entries.Place c r m) → (c == chunk) ≡ true → not (list_any (removes r) (drop (k + 1) log)) ≡ true → ⊥
place-dead log chunk k c r m l none at same kept =
    let e : c ≡ chunk = grind (arith, common_steps, same) in
    let h : HasSlot (slots_of log) c r = l.live k c r m at (not-true (list_any (removes r) (drop (k + 1) log)) kept) in
    let n : None ≡ Some h.slot = sym none ∙ (ap (λ x. find (is_of x) (slots_of log)) (sym e) ∙ h.found) in
    cc

lasts-dead : (log : List LogEntry) (chunk k : ℕ) (e : LogEntry) → IsLogged log → find (is_of chunk) (slots_of log) ≡ None → slice_get log k ≡ Some e → lasts false e chunk (drop (k + 1) log) ≡ false
unfolding places stays
lasts-dead log chunk k (entries.Place c r m) l none at = elim (cases_Bool (c == chunk)) [
  | inl same ↦ elim (cases_Bool (not (list_any (removes r) (drop (k + 1) log)))) [
    | inl kept ↦ absurd (place-dead log chunk k c r m l none at same kept)
    | inr gone ↦ rw (same, gone) refl
  ]
  | inr other ↦ rw other refl
]
lasts-dead log chunk k (entries.Upgrade r) l none at = refl
lasts-dead log chunk k (entries.Remove r) l none at = refl

none-live : (log : List LogEntry) (chunk k : ℕ) → IsLogged log → find (is_of chunk) (slots_of log) ≡ None → is_live false log chunk k (length log) ≡ false
none-live log chunk k l none = elim (cases_lt k (length log)) [
  | inl lo ↦
      let at = slice_get-get_or log k (entries.Remove 0) lo in
      live-entry false log chunk k (get_or log k (entries.Remove 0)) at ∙ lasts-dead log chunk k (get_or log k (entries.Remove 0)) l none at
  | inr past ↦ live_below false log chunk k (length log) past
]

-- what is found for a chunk is its place that is live at the log's end
pub finds-placed : (ranges : ℕ) (log : List LogEntry) (chunk : ℕ) → sound ranges log ≡ true → Finds log chunk (placed_at log chunk)
unfolding Finds placed_at
finds-placed ranges log chunk is = go (find (is_of chunk) (slots_of log)) refl
  where
    l : IsLogged log
    l = logged ranges log is

    go : (o : Option Slot) → find (is_of chunk) (slots_of log) ≡ o → Finds log chunk (option_map placed_of o)
    go None e = λ k. none-live log chunk k l e
    go (Some s) e =
        let h = find-holds (is_of chunk) (IsLast log) (slots_of log) s e l.lasts in
        found-live log chunk s h.0 (grind (arith, common_steps, h.1))
