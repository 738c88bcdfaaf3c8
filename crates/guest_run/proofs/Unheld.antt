-- A guest that asks for no hold, and is alone, is never told to wait.
use Rattle.std.proofs.Common.{◌≡◌, ◌≢◌, ◌∙◌, ap, sym, subst, refl, ℕ, zero, suc, ◌+◌, ◌<◌, Bool, true, false, true≢false, List, [], ◌∷◌, length, slice_get, take, Option, Some, None, arith, inl, inr, if◌then◌else◌}
use Rattle.plain_file.specs.declared.operations.Entry.{Entry}
use Rattle.plain_file.specs.declared.operations.First.{First}
use Rattle.plain_file.specs.Board.{Note}
use Rattle.page_map.specs.declared.ranges.LogEntry.{LogEntry}
use Rattle.plain_text.specs.Options.{◌>>=◌}
use Rattle.dax_script.specs.Asks.{is_hold, hold_places, place_of_hold, held_by, held_of}
use Rattle.dax_script.specs.declared.scripts.Call.{Call}
use Rattle.dax_script.specs.declared.scripts.Call.TheVariants as calls
use Rattle.transcript_text.specs.declared.transcripts.Line.{Line}
use Rattle.transcript_text.specs.declared.transcripts.Line.TheVariants as lines
use Rattle.transcript_text.specs.declared.transcripts.Numbered.{Numbered}
use Rattle.dax_audit.specs.Guests.{is_given_up, line_in, grant_of, grant_in, had_grant}
use Rattle.dax_audit.specs.Rules.{is_truncating}
use Rattle.guest_run.specs.Runs.{IsBlocked, IsTold, IsRunFrom}
use Rattle.guest_run.specs.Working.{is_done_line, AllDone, had_from, holds_on, IsBarredBy, IsHeldRange, IsFair}
use Rattle.guest_run.proofs.Asking.{held_is_hold}
use Rattle.guest_run.proofs.Places.{none_is, some_is, within, found}

-- where no call asks for a hold, none is asked for
no_hold : (m : ℕ) (cs : List Call) (n : ℕ) (c : Call) → hold_places m cs ≡ [] → slice_get cs n ≡ Some c → is_hold c ≡ false
unfolding hold_places
no_hold m [] n c none at = absurd (none_is c at)
no_hold m (d ∷ cs) n c none at = by (is_hold d) refl n at none (no_hold (m + 1) cs)
  where
    by : (b : Bool) → is_hold d ≡ b → (n : ℕ) → slice_get (d ∷ cs) n ≡ Some c → (if b then m ∷ hold_places (m + 1) cs else hold_places (m + 1) cs) ≡ [] → ((n : ℕ) (c : Call) → hold_places (m + 1) cs ≡ [] → slice_get cs n ≡ Some c → is_hold c ≡ false) → is_hold c ≡ false
    by true e n at none rest = absurd cc
    by false e zero at none rest = ap is_hold (sym (some_is d c at)) ∙ e
    by false e (suc n) at none rest = rest n c none at

same_none : {A : Type 0} (b : Bool) (o : Option A) → o ≡ None → (if b then None else o) ≡ None
same_none true o e = refl
same_none false o e = e

module _ (cs : List Call) (none : hold_places 0 cs ≡ []) where
  nowhere : (hold : ℕ) → place_of_hold cs hold ≡ None
  nowhere hold = ap (λ (ps : List ℕ). slice_get ps hold) none

  not_held : (hold : ℕ) → held_by cs hold ≡ None
  not_held hold = ap (λ (o : Option ℕ). o >>= λ at. slice_get cs at >>= held_of) (nowhere hold)

  not_had : (ls : List Numbered) (hold n : ℕ) → had_grant cs ls hold n ≡ None
  not_had ls hold n =
      same_none (is_given_up cs ls hold n) (grant_in cs ls hold) (ap (λ (o : Option ℕ). o >>= λ at. line_in ls at >>= grant_of) (nowhere hold))

  none_from : (ls : List Numbered) (file n hold k : ℕ) → had_from cs ls file n hold k ≡ 0
  unfolding had_from
  none_from ls file n hold zero = refl
  none_from ls file n hold (suc k) = let rest = none_from ls file n (hold + 1) k in rw (not_had (take n ls) hold n) (omega (arith, rest))

  none_on : (ls : List Numbered) (file n : ℕ) → holds_on cs ls file n ≡ 0
  none_on ls file n = none_from ls file n 0 32

  module _ (ranges : ℕ) (logs : ℕ → List LogEntry) (ls : List Numbered) (fair : IsFair ranges logs cs ls) (more : ranges ≢ 1) where
    no_range : (n range : ℕ) → IsHeldRange logs cs ls n range → ⊥
    no_range n range h = none_is h.grant (sym (not_had (take n ls) h.hold n) ∙ h.had)

    -- one of two ranges isn't the one that may be missing
    not_stuck : (n : ℕ) (c : Call) (l : Numbered) → slice_get cs n ≡ Some c → slice_get ls n ≡ Some l → IsBlocked ranges n c l → ⊥
    not_stuck n c l at at' b =
        let up = fair.held_up n c l b.letters at at' (ap (λ (x : Numbered). x.line) b.line) in
        let two : 1 < ranges = (let s = b.some in at_least ranges s more) in
        pick up.missing (up.each) two
      where
        pick : (o : Option ℕ) → ((range : ℕ) → range < ranges → o ≢ Some range → IsHeldRange logs cs ls n range) → 1 < ranges → ⊥
        pick None each two = no_range n 0 (each 0 (omega (arith, two)) (λ e. none_is 0 e))
        pick (Some zero) each two = no_range n 1 (each 1 two (λ e. let z : 0 ≡ 1 = some_is 0 1 e in omega (arith, z)))
        pick (Some (suc r)) each two = no_range n 0 (each 0 (omega (arith, two)) (λ e. let z : suc r ≡ 0 = some_is (suc r) 0 e in omega (arith, z)))

        at_least : (r : ℕ) → 0 < r → r ≢ 1 → 1 < r
        at_least zero s m = absurd (omega (arith, s))
        at_least (suc zero) s m = absurd (m refl)
        at_least (suc (suc r)) s m = omega arith

    bars : (n count : ℕ) (c : Call) (l : Numbered) → slice_get cs n ≡ Some c → slice_get ls n ≡ Some l → is_truncating c ≡ true → l.line ≡ lines.Leased count → ⊥
    unfolding is_truncating IsBarredBy
    bars n count (calls.Truncate file size) l at at' is e =
        let k = subst (λ (x : Line). IsBarredBy (holds_on cs ls file n) x) e (fair.barred n file size l at at') in
        let z = none_on ls file n in
        let low = k.0 in
        omega (arith, low, z)
    bars n count (calls.Read file off len) l at at' is e = true≢false (sym is)
    bars n count (calls.Write file off xs) l at at' is e = true≢false (sym is)
    bars n count (calls.Fill file off len byte) l at at' is e = true≢false (sym is)
    bars n count (calls.Size file) l at at' is e = true≢false (sym is)
    bars n count (calls.Hold file chunk mode) l at at' is e = true≢false (sym is)
    bars n count (calls.Load hold off len) l at at' is e = true≢false (sym is)
    bars n count (calls.Store hold off xs) l at at' is e = true≢false (sym is)
    bars n count (calls.Release hold) l at at' is e = true≢false (sym is)

    told_done : (guest : ℕ) (first : ℕ → First) (h : ℕ → List Entry) (notes : ℕ → List Note) (n : ℕ) (c : Call) (l : Numbered) → slice_get cs n ≡ Some c → slice_get ls n ≡ Some l → IsTold guest ranges first h logs notes cs ls n c l → is_done_line l.line ≡ true
    unfolding is_done_line
    told_done guest first h notes n c l at at' (inl d) = ap (λ (x : Numbered). is_done_line x.line) d.line
    told_done guest first h notes n c l at at' (inr (inl g)) = absurd (true≢false (sym (held_is_hold c g.held g.asks) ∙ no_hold 0 cs n c none at))
    told_done guest first h notes n c l at at' (inr (inr (inl g))) = absurd (none_is g.grant (sym (not_had ls g.hold n) ∙ g.had))
    told_done guest first h notes n c l at at' (inr (inr (inr (inl b)))) = absurd (not_stuck n c l at at' b)
    told_done guest first h notes n c l at at' (inr (inr (inr (inr (inl b))))) = absurd (bars n b.count c l at at' b.truncates (ap (λ (x : Numbered). x.line) b.line))
    told_done guest first h notes n c l at at' (inr (inr (inr (inr (inr (inl b)))))) = absurd (none_is b.asked.at (sym (nowhere b.hold) ∙ b.asked.place))
    told_done guest first h notes n c l at at' (inr (inr (inr (inr (inr (inr b)))))) = absurd (none_is b.grant (sym (not_had ls b.hold n) ∙ b.had))

-- each call is done
pub unheld_done : (guest ranges : ℕ) (first : ℕ → First) (from : ℕ → ℕ) (h : ℕ → List Entry) (logs : ℕ → List LogEntry) (notes : ℕ → List Note) (cs : List Call) (ls : List Numbered) → IsRunFrom guest ranges first from h logs notes cs ls → length ls ≡ length cs → IsFair ranges logs cs ls → ranges ≢ 1 → hold_places 0 cs ≡ [] → AllDone ls
unheld_done guest ranges first from h logs notes cs ls run count fair more none n l at =
    let c = found cs n (let w = within ls n l at in omega (arith, w, count)) in
    told_done cs none ranges logs ls fair more guest first h notes n c.0 l c.1 at (run.told n c.0 l c.1 at)
