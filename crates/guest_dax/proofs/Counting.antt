-- Looking at all ranges, and counting those that are free.
use Rattle.std.proofs.Common.{◌≡◌, ◌∙◌, ap, sym, refl, subst, ℕ, zero, suc, ◌+◌, ◌*◌, ◌<◌, ◌≤◌, Bool, true, false, ◌&&◌, nat_lt, List, [], ◌∷◌, ◌++◌, length, filter, get_or, Option, None, Result, Ok, Err, is_some, inl, inr, arith, length-append}
use Rattle.std.specs.Prelude.{IsSome, ◌⊎◌}
use Rattle.std.specs.List.{list_all}
use Rattle.std.proofs.lemmas.Bool.{cases_Bool, cases_eq, lt-ltb}
use Rattle.plain_file.specs.Counts.{more_by_one}
use Rattle.page_map.specs.declared.ranges.RangeWord.{RangeWord}
use Rattle.page_map.specs.declared.ranges.RangeWord.TheVariants as words
use Rattle.page_map.specs.Board.{MapView, Noted}
use Rattle.range_tree.specs.Ranges.{range_count, look_at, Sees, Looks, forgot}
use Rattle.guest_dax.specs.declared.refusals.DaxRefusal.{DaxRefusal}
use Rattle.guest_dax.specs.Stands.{Stand, KeepsMap, Keeps}
use Rattle.guest_dax.specs.Looks.{NoLooks}
use Rattle.guest_dax.specs.Freeing.{IsFreed, Reclaims}
use Rattle.guest_dax.specs.Turning.{IsButLooks, is_free, IsCounted, IsCounting, Sweeps, HadNone, FreesOrNone, Turns}
use Rattle.guest_dax.proofs.Keeping.{KeepsMap-same, KeepsMap-both}
use Rattle.guest_dax.proofs.Searching.{Searches-look, look_at-looked}
use Rattle.guest_dax.proofs.Rounds.{pins-same, Caused-keeps}
use Rattle.guest_dax.proofs.FreeingLaws.{IsFreed-kept, IsPassed-same, freed-after}
use Rattle.guest_dax.proofs.Forgetting.{KeepsMap-forgot, hands-forgot, NoLooks-forgot}

sees-looks : (u : MapView) (ls : List (Option Noted)) (r : ℕ) (word : RangeWord) → Sees (record u { ranges = record u.ranges { looks = ls } }) r word → Sees u r word
sees-looks u ls r word s = record { moves = s.moves; own = s.own; pins = s.pins; names = s.names; tree = s.tree; alone = λ e. let a = s.alone e in record { pins = a.pins; mover = a.mover; logs = a.logs } }

sees-before : (u v : MapView) (r : ℕ) (word : RangeWord) → IsButLooks u v → Sees v r word → Sees u r word
sees-before u v r word e s = sees-looks u v.ranges.looks r word (subst (λ (m : MapView). Sees m r word) e s)

get-before : (ws : List RangeWord) (w : RangeWord) (r : ℕ) → r < length ws → get_or (ws ++ w ∷ []) r words.Free ≡ get_or ws r words.Free
get-before [] w r h = absurd (omega arith)
get-before (x ∷ xs) w zero h = refl
get-before (x ∷ xs) w (suc r) h = get-before xs w r (omega arith)

get-last : (ws : List RangeWord) (w : RangeWord) → get_or (ws ++ w ∷ []) (length ws) words.Free ≡ w
get-last [] w = refl
get-last (x ∷ xs) w = get-last xs w

count-free : (ws : List RangeWord) (w : RangeWord) → is_free w ≡ true → length (filter is_free (ws ++ w ∷ [])) ≡ length (filter is_free ws) + 1
count-free [] w e = rw e refl
count-free (x ∷ xs) w e = elim (cases_Bool (is_free x)) [
  | inl k ↦ rw k (ap (λ (n : ℕ). suc n) (count-free xs w e) ∙ omega arith)
  | inr k ↦ rw k (count-free xs w e)
]

count-other : (ws : List RangeWord) (w : RangeWord) → is_free w ≡ false → length (filter is_free (ws ++ w ∷ [])) ≡ length (filter is_free ws)
count-other [] w e = rw e refl
count-other (x ∷ xs) w e = elim (cases_Bool (is_free x)) [
  | inl k ↦ rw k (ap (λ (n : ℕ). suc n) (count-other xs w e))
  | inr k ↦ rw k (count-other xs w e)
]

few-free : (ws : List RangeWord) → length (filter is_free ws) ≤ length ws
few-free [] = omega arith
few-free (x ∷ xs) = elim (cases_Bool (is_free x)) [
  | inl k ↦ rw k (omega (arith, few-free xs))
  | inr k ↦ rw k (omega (arith, few-free xs))
]

pub counted-few : (v : MapView) (upto free : ℕ) → IsCounted v upto free → free ≤ upto
counted-few v upto free c = omega (arith, c.count, c.many, few-free c.seen)

pub counting-none : (v : MapView) → IsCounting v v 0 0
counting-none v = record { counted = record { seen = []; many = refl; each = λ r h. absurd (omega arith); count = refl }; rest = refl; looks = refl; noted = λ r h. absurd (omega arith) }

each-next : (u : MapView) (n : ℕ) (seen : List RangeWord) (w : RangeWord) → length seen ≡ n → ((r : ℕ) → r < n → Sees u r (get_or seen r words.Free)) → Sees u n w → (r : ℕ) → r < n + 1 → Sees u r (get_or (seen ++ w ∷ []) r words.Free)
each-next u n seen w many each last r h = elim (cases_eq r n) [
  | inl same ↦ subst (λ (k : ℕ). Sees u k (get_or (seen ++ w ∷ []) k words.Free)) (many ∙ sym same) (subst (λ (x : RangeWord). Sees u (length seen) x) (sym (get-last seen w)) (subst (λ (k : ℕ). Sees u k w) (sym many) last))
  | inr elsewhere ↦ subst (λ (x : RangeWord). Sees u r x) (sym (get-before seen w r (omega arith))) (each r (omega arith))
]

noted-next : (v w : MapView) (n : ℕ) (word : RangeWord) → n < length v.ranges.looks → Looks v n word w → ((r : ℕ) → r < n → IsSome (look_at v r)) → (r : ℕ) → r < n + 1 → IsSome (look_at w r)
noted-next v w n word within l before r h = elim (cases_eq r n) [
  | inl same ↦ subst (λ (o : Option Noted). IsSome o) (sym (ap (λ (k : ℕ). look_at w k) same ∙ ap (λ (m : MapView). look_at m n) l.noted ∙ look_at-looked v n word within)) refl
  | inr elsewhere ↦ subst (λ (o : Option Noted). IsSome o) (sym ((Searches-look v n word w l).other r elsewhere)) (before r (omega arith))
]

but-looks : (u v w : MapView) (n : ℕ) (word : RangeWord) → IsButLooks u v → Looks v n word w → IsButLooks u w
but-looks u v w n word rest l =
    l.noted ∙ ap (λ (ls : List (Option Noted)). record v { ranges = record v.ranges { looks = ls } }) (sym (ap (λ (m : MapView). m.ranges.looks) l.noted))
    ∙ ap (λ (m : MapView). record m { ranges = record m.ranges { looks = w.ranges.looks } }) rest

counting-by : (u v w : MapView) (n free more : ℕ) (word : RangeWord) (c : IsCounting u v n free) → n < length u.ranges.looks → Looks v n word w → more ≡ length (filter is_free (c.counted.seen ++ word ∷ [])) → IsCounting u w (n + 1) more
counting-by u v w n free more word c within l is = record {
  counted = record {
    seen = c.counted.seen ++ word ∷ [];
    many = length-append c.counted.seen (word ∷ []) ∙ ap (λ (k : ℕ). k + 1) c.counted.many;
    each = each-next u n c.counted.seen word c.counted.many c.counted.each (sees-before u v n word c.rest l.seen);
    count = is;
  };
  rest = but-looks u v w n word c.rest l;
  looks = (Searches-look v n word w l).looks ∙ c.looks;
  noted = noted-next v w n word (omega (arith, within, c.looks)) l c.noted;
}

pub counting-free : (u v w : MapView) (n free : ℕ) (word : RangeWord) → IsCounting u v n free → n < length u.ranges.looks → Looks v n word w → is_free word ≡ true → IsCounting u w (n + 1) (free + 1)
counting-free u v w n free word c within l e = counting-by u v w n free (free + 1) word c within l (ap (λ (k : ℕ). k + 1) c.counted.count ∙ sym (count-free c.counted.seen word e))

pub counting-other : (u v w : MapView) (n free : ℕ) (word : RangeWord) → IsCounting u v n free → n < length u.ranges.looks → Looks v n word w → is_free word ≡ false → IsCounting u w (n + 1) free
counting-other u v w n free word c within l e = counting-by u v w n free free word c within l (c.counted.count ∙ sym (count-other c.counted.seen word e))

pub counting-next : (u v w : MapView) (n free more : ℕ) (word : RangeWord) → IsCounting u v n free → n < length u.ranges.looks → Looks v n word w → (is_free word ≡ true → more ≡ free + 1) → (is_free word ≡ false → more ≡ free) → IsCounting u w (n + 1) more
counting-next u v w n free more word c within l one none = elim (cases_Bool (is_free word)) [
  | inl e ↦ subst (λ (k : ℕ). IsCounting u w (n + 1) k) (sym (one e)) (counting-free u v w n free word c within l e)
  | inr e ↦ subst (λ (k : ℕ). IsCounting u w (n + 1) k) (sym (none e)) (counting-other u v w n free word c within l e)
]

-- ---- the sweep

all-noted : (xs : List (Option Noted)) → ((r : ℕ) → r < length xs → IsSome (get_or xs r None)) → list_all is_some xs ≡ true
all-noted [] h = refl
all-noted (x ∷ xs) h = rw (h 0 (omega arith)) (all-noted xs (λ r k. h (suc r) (omega arith)))

KeepsMap-looks : (u v : MapView) → IsButLooks u v → KeepsMap u v
KeepsMap-looks u v e =
    let same = KeepsMap-same u in
    subst (λ (m : MapView). KeepsMap u m) (sym e) (record { plain = refl; over = refl; guest = refl; may_take = refl; others = refl; pages = refl; count = refl; files = refl; logs = same.logs; pins = same.pins; pinned = same.pinned })

count-looks : (u v : MapView) → IsButLooks u v → range_count v ≡ range_count u
count-looks u v e = ap (λ (m : MapView). range_count m) e

both-true : (a b : Bool) → a ≡ true → b ≡ true → (a && b) ≡ true
both-true a b e f = rw (e, f) refl

pub swept : (u v w : MapView) (free : ℕ) → 0 < range_count u → length u.ranges.looks ≡ range_count u → IsCounting u v (range_count u) free → w ≡ forgot v → Sweeps u free w
swept u v w free some long c e =
    let same : range_count v ≡ range_count u = count-looks u v c.rest in
    let noted : list_all is_some v.ranges.looks ≡ true = all-noted v.ranges.looks (λ r k. c.noted r (omega (arith, k, c.looks, long))) in
    let has : (nat_lt 0 (range_count v) && list_all is_some v.ranges.looks) ≡ true = both-true (nat_lt 0 (range_count v)) (list_all is_some v.ranges.looks) (lt-ltb 0 (range_count v) (omega (arith, same, some))) noted in
    let now : (forgot v).ranges.sweeps ≡ more_by_one v.ranges.sweeps = rw has refl in
    let is : w.ranges.sweeps ≡ more_by_one u.ranges.sweeps = ap (λ (m : MapView). m.ranges.sweeps) e ∙ now ∙ ap (λ (m : MapView). more_by_one m.ranges.sweeps) c.rest in
    record {
      counted = c.counted;
      keeps = KeepsMap-both u v w (KeepsMap-looks u v c.rest) (KeepsMap-forgot v w e);
      hands = hands-forgot v w e ∙ ap (λ (m : MapView). m.hands) c.rest;
      logs = ap (λ (m : MapView). m.ranges.logs) e ∙ ap (λ (m : MapView). m.ranges.logs) c.rest;
      looks = NoLooks-forgot v w e;
      rose = omega (arith, is);
      most = omega (arith, is);
    }

-- ---- what is left after one range more was freed, or none

pub freed-or-none : (s t : Stand) (freed : Bool) (w : MapView) → Reclaims s (Ok freed) t → w ≡ forgot t.map → (w.hands ≡ s.map.hands) × NoLooks w × (IsFreed s.map w ⊎ HadNone s.map)
freed-or-none s t true w (hands, looks, freed) e = (hands-forgot t.map w e ∙ hands, NoLooks-forgot t.map w e, inl (IsFreed-kept s.map t.map w (ap (λ (m : MapView). m.ranges.logs) e) freed))
freed-or-none s t false w (hands, passed) e = (hands-forgot t.map w e ∙ hands, NoLooks-forgot t.map w e, inr (t.map, passed))

pub freed-in : (u v w : MapView) → KeepsMap u v → v.hands ≡ u.hands → IsFreed v w ⊎ HadNone v → IsFreed u w ⊎ HadNone u
freed-in u v w k e h = elim h [
  | inl freed ↦ inl (freed-after u v w k freed)
  | inr none ↦ inr (none.0, λ r within. IsPassed-same u v none.0 none.0 r k (pins-same u.hands v.hands r (sym e)) refl (none.1 r (subst (λ (n : ℕ). r < n) (sym k.count) within)))
]

pub turned-on : (s t u : Stand) (free : ℕ) (result : Result (Unit {0}) DaxRefusal) → Sweeps s.map free t.map → Keeps s t → free * 5 < range_count s.map → FreesOrNone t result u → Turns s result u
turned-on s t u free (Ok x) sw k few (hands, looks, freed) = (hands ∙ sw.hands, looks, record { free = free; counted = sw.counted; enough = λ more. absurd (omega (arith, more, few)); few = λ _. freed-in s.map t.map u.map sw.keeps sw.hands freed })
turned-on s t u free (Err e) sw k few (hands, looks, caused) = (hands ∙ sw.hands, looks, Caused-keeps s t u e k caused)
