-- A live pair stays one when more is seen of the log.
use Rattle.std.proofs.Common.{◌≡◌, ◌∙◌, ap, sym, refl, subst, ℕ, zero, suc, ◌+◌, ◌<◌, ◌≤◌, Bool, true, true≢false, List, [], ◌∷◌, ◌++◌, length, take, drop, get_or, inl, inr, arith}
use Rattle.std.proofs.lemmas.Bool.{cases_lt}
use Rattle.std.proofs.lemmas.List.{length-append}
use Rattle.page_map.specs.declared.pages.Mode.{Mode}
use Rattle.page_map.specs.declared.ranges.LogEntry.{LogEntry}
use Rattle.page_map.specs.declared.ranges.LogEntry.TheVariants as entries
use Rattle.page_map.specs.Logs.{is_writable}
use Rattle.range_tree.specs.Logs.{is_live, lasts}
use Rattle.range_tree.proofs.Live.{live_lasts, live_below}
use Rattle.plain_file.specs.declared.operations.Through.{Through}
use Rattle.guest_wire.specs.Keeps.{Begins}
use Rattle.guest_io.specs.Calls.{IsThrough}

get-front : (xs ys : List LogEntry) (i : ℕ) (d : LogEntry) → i < length xs → get_or (xs ++ ys) i d ≡ get_or xs i d
get-front [] ys i d h = absurd (omega (arith, h))
get-front (x ∷ xs) ys zero d h = refl
get-front (x ∷ xs) ys (suc i) d h = get-front xs ys i d (omega (arith, h))

take-front : (xs ys : List LogEntry) (n : ℕ) → n ≤ length xs → take n (xs ++ ys) ≡ take n xs
take-front xs ys zero h = refl
take-front [] ys (suc n) h = absurd (omega (arith, h))
take-front (x ∷ xs) ys (suc n) h = ap (λ (l : List LogEntry). x ∷ l) (take-front xs ys n (omega (arith, h)))

live-grown : (write : Bool) (log more : List LogEntry) (chunk k m : ℕ) → m ≤ length log → is_live write log chunk k m ≡ true → is_live write (log ++ more) chunk k m ≡ true
live-grown write log more chunk k m few h = elim (cases_lt k m) [
  | inl lo ↦
      let d : LogEntry = entries.Remove 0 in
      let many : m ≤ length (log ++ more) = (let n = length-append log more in omega (arith, n, few)) in
      live_lasts write (log ++ more) chunk k m d lo many
      ∙ ap (λ e. lasts write e chunk (drop (k + 1) (take m (log ++ more)))) (get-front log more k d (omega (arith, lo, few)))
      ∙ ap (λ l. lasts write (get_or log k d) chunk (drop (k + 1) l)) (take-front log more m few)
      ∙ sym (live_lasts write log chunk k m d lo few)
      ∙ h
  | inr past ↦ absurd (true≢false (sym h ∙ live_below write log chunk k m past))
]

pub IsThrough-grown : (log new : List LogEntry) (chunk : ℕ) (mode : Mode) (t : Through) → Begins log new → t.upto ≤ length log → IsThrough log chunk mode t → IsThrough new chunk mode t
IsThrough-grown log new chunk mode t (more, e) few h = subst (λ (l : List LogEntry). IsThrough l chunk mode t) (sym e) (live-grown (is_writable mode) log more chunk t.entry t.upto few h)
