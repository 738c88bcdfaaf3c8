-- Calls that ask an operation of a file: what the audit makes of them, and of the ways that fit them.
use Rattle.std.proofs.Common.{◌≡◌, ⊎_elim, ◌∙◌, ap, sym, subst, refl, ℕ, zero, suc, ◌+◌, ◌*◌, ◌-◌, ◌<◌, ◌≤◌, ◌==◌, ◌||◌, nat_le, nat_lt, Bool, true, false, List, [], ◌∷◌, length, replicate, Option, Some, None, option_map, arith, if◌then◌else◌}
use Rattle.std.specs.List.{list_any, range_with_len}
use Rattle.std.proofs.lemmas.Bool.{eq-eqb, ne_eqb, le-leb, lt-ltb, and_from}
use Rattle.std.proofs.lemmas.List.{length-replicate}
use Rattle.plain_file.specs.declared.operations.Op.{Op}
use Rattle.plain_file.specs.declared.operations.Op.TheVariants as ops
use Rattle.plain_file.specs.declared.operations.Through.{Through}
use Rattle.plain_file.specs.declared.operations.Way.{Way}
use Rattle.plain_file.specs.declared.operations.Way.TheVariants as ways
use Rattle.plain_file.specs.File.{answer}
use Rattle.plain_file.specs.History.{size}
use Rattle.page_map.specs.declared.ranges.LogEntry.{LogEntry}
use Rattle.dax_script.specs.declared.scripts.Call.{Call}
use Rattle.dax_script.specs.declared.scripts.Call.TheVariants as calls
use Rattle.dax_script.specs.declared.asks.Held.{Held}
use Rattle.dax_script.specs.declared.asks.Target.{Target}
use Rattle.plain_text.specs.Options.{◌>>=◌}
use Rattle.dax_script.specs.Asks.{chunk_size, held_of, is_hold, held_by, whole_file, chunk_of_held, target, op_from, op_of, hold_in}
use Rattle.transcript_text.specs.declared.transcripts.Numbered.{Numbered}
use Rattle.dax_audit.specs.declared.verdicts.Grant.{Grant}
use Rattle.dax_audit.specs.Guests.{seen_before, grant_in}
use Rattle.dax_audit.specs.Tables.{end_of}
use Rattle.dax_audit.specs.Rules.{Past, answers_call, is_reading, is_writing, is_sizing, is_releasing, chunks, pairs_of, covers, same_through, is_fresh, write_way, hold_way, is_req, windowed, way_fits, access_end}
use Rattle.guest_run.specs.Runs.{Asked, on_file, through_hold, asked, FitsWindow, FitsWay, CoversOp, IsSeenBefore, IsThroughHold, Came}
use Rattle.guest_run.proofs.Places.{none_is, some_is, below_or_from}
use Rattle.guest_run.proofs.Granting.{had_granted}

-- it is on this file, where its offsets count from some place on, and asks this operation
pub record IsAsking (cs : List Call) (c : Call) (to : Asked) : Type 0 where
  pub at : Target
  pub aims : target cs c ≡ Some at
  pub file : at.file ≡ to.file
  pub op : op_of cs c ≡ Some to.op
  pub fits : (b : List ℕ) → answers_call c (answer b to.op) ≡ true

makes : (cs : List Call) (c : Call) (at : Target) (op : Op) (to : Asked) → on_file at.file op ≡ Some to → target cs c ≡ Some at → op_from at.start c ≡ Some op → ((b : List ℕ) → answers_call c (answer b op) ≡ true) → IsAsking cs c to
makes cs c at op to e aims from fits =
    subst (IsAsking cs c) (some_is (record { file = at.file; op = op }) to e) (record {
      at = at;
      aims = aims;
      file = refl;
      op = ap (λ (o : Option Target). o >>= λ t. op_from t.start c) aims ∙ from;
      fits = fits;
    })

at_start : (off : ℕ) → 0 + off ≡ off
at_start off = omega arith

-- what is asked through a hold is so through what was held
pub through_parts : (o : Option Held) (op : ℕ → Op) (to : Asked) → through_hold o op ≡ Some to → (held : Held) × (o ≡ Some held) × (on_file held.file (op (held.chunk * chunk_size)) ≡ Some to)
unfolding through_hold
through_parts None op to e = absurd (none_is to e)
through_parts (Some held) op to e = (held, refl, e)

pub asked_on_file : (cs : List Call) (c : Call) (to : Asked) → asked cs c ≡ Some to → IsAsking cs c to
unfolding asked target op_from answers_call is_reading is_writing is_sizing answer
asked_on_file cs (calls.Read file off len) to e = makes cs (calls.Read file off len) (whole_file file) (ops.Read off len) to e refl (ap (λ (o : ℕ). Some (ops.Read o len)) (at_start off)) (λ b. refl)
asked_on_file cs (calls.Write file off xs) to e = makes cs (calls.Write file off xs) (whole_file file) (ops.Write off xs) to e refl (ap (λ (o : ℕ). Some (ops.Write o xs)) (at_start off)) (λ b. refl)
asked_on_file cs (calls.Fill file off len byte) to e = makes cs (calls.Fill file off len byte) (whole_file file) (ops.Write off (replicate len byte)) to e refl (ap (λ (o : ℕ). Some (ops.Write o (replicate len byte))) (at_start off)) (λ b. refl)
asked_on_file cs (calls.Size file) to e = makes cs (calls.Size file) (whole_file file) ops.Size to e refl refl (λ b. refl)
asked_on_file cs (calls.Truncate file size) to e = makes cs (calls.Truncate file size) (whole_file file) (ops.Truncate size) to e refl refl (λ b. refl)
asked_on_file cs (calls.Hold file chunk mode) to e = absurd (none_is to e)
asked_on_file cs (calls.Load hold off len) to e =
    let h = through_parts (held_by cs hold) (λ start. ops.Read (start + off) len) to e in
    makes cs (calls.Load hold off len) (chunk_of_held h.0) (ops.Read (h.0.chunk * chunk_size + off) len) to h.2 (ap (option_map chunk_of_held) h.1) refl (λ b. refl)
asked_on_file cs (calls.Store hold off xs) to e =
    let h = through_parts (held_by cs hold) (λ start. ops.Write (start + off) xs) to e in
    makes cs (calls.Store hold off xs) (chunk_of_held h.0) (ops.Write (h.0.chunk * chunk_size + off) xs) to h.2 (ap (option_map chunk_of_held) h.1) refl (λ b. refl)
asked_on_file cs (calls.Release hold) to e = absurd (none_is to e)

-- a call that asks an operation gives no hold back
pub asked_keeps : (cs : List Call) (c : Call) (to : Asked) → asked cs c ≡ Some to → is_releasing c ≡ false
unfolding asked is_releasing
asked_keeps cs (calls.Read file off len) to e = refl
asked_keeps cs (calls.Write file off xs) to e = refl
asked_keeps cs (calls.Fill file off len byte) to e = refl
asked_keeps cs (calls.Size file) to e = refl
asked_keeps cs (calls.Truncate file size) to e = refl
asked_keeps cs (calls.Hold file chunk mode) to e = refl
asked_keeps cs (calls.Load hold off len) to e = refl
asked_keeps cs (calls.Store hold off xs) to e = refl
asked_keeps cs (calls.Release hold) to e = absurd (none_is to e)

-- an access through a hold ends where its operation does
pub access_ends : (cs : List Call) (c : Call) (hold : ℕ) (to : Asked) → hold_in c ≡ Some hold → asked cs c ≡ Some to → access_end (target cs c) c ≡ Some (end_of to.op)
unfolding asked hold_in target access_end end_of
access_ends cs (calls.Read file off len) hold to uses e = absurd (none_is hold uses)
access_ends cs (calls.Write file off xs) hold to uses e = absurd (none_is hold uses)
access_ends cs (calls.Fill file off len byte) hold to uses e = absurd (none_is hold uses)
access_ends cs (calls.Size file) hold to uses e = absurd (none_is hold uses)
access_ends cs (calls.Truncate file size) hold to uses e = absurd (none_is hold uses)
access_ends cs (calls.Hold file chunk mode) hold to uses e = absurd (none_is hold uses)
access_ends cs (calls.Load k off len) hold to uses e =
    let h = through_parts (held_by cs k) (λ start. ops.Read (start + off) len) to e in
    ap (λ (o : Option Held). access_end (option_map chunk_of_held o) (calls.Load k off len)) h.1 ∙ ap (λ (a : Asked). Some (end_of a.op)) (some_is (record { file = h.0.file; op = ops.Read (h.0.chunk * chunk_size + off) len }) to h.2)
access_ends cs (calls.Store k off xs) hold to uses e =
    let h = through_parts (held_by cs k) (λ start. ops.Write (start + off) xs) to e in
    ap (λ (o : Option Held). access_end (option_map chunk_of_held o) (calls.Store k off xs)) h.1 ∙ ap (λ (a : Asked). Some (end_of a.op)) (some_is (record { file = h.0.file; op = ops.Write (h.0.chunk * chunk_size + off) xs }) to h.2)
access_ends cs (calls.Release k) hold to uses e = absurd (none_is to e)

-- a call that asks to hold a chunk is a hold
pub held_is_hold : (c : Call) (held : Held) → held_of c ≡ Some held → is_hold c ≡ true
unfolding held_of is_hold
held_is_hold (calls.Hold file chunk mode) held e = refl
held_is_hold (calls.Read file off len) held e = absurd (none_is held e)
held_is_hold (calls.Write file off xs) held e = absurd (none_is held e)
held_is_hold (calls.Fill file off len byte) held e = absurd (none_is held e)
held_is_hold (calls.Size file) held e = absurd (none_is held e)
held_is_hold (calls.Truncate file size) held e = absurd (none_is held e)
held_is_hold (calls.Load hold off len) held e = absurd (none_is held e)
held_is_hold (calls.Store hold off xs) held e = absurd (none_is held e)
held_is_hold (calls.Release hold) held e = absurd (none_is held e)

-- ---- the ways of calls

or_true : (b : Bool) → (b || true) ≡ true
or_true true = refl
or_true false = refl

any_in_range : (test : ℕ → Bool) (a n i : ℕ) → i < n → test (a + i) ≡ true → list_any test (range_with_len a n) ≡ true
any_in_range test a zero i lt e = absurd (omega arith)
any_in_range test a (suc n) zero lt e = let z : a ≡ a + 0 = omega arith in ap (λ (b : Bool). b || list_any test (range_with_len (a + 1) n)) (ap test z ∙ e)
any_in_range test a (suc n) (suc i) lt e = let z : a + 1 + i ≡ a + suc i = omega arith in ap (λ (b : Bool). test a || b) (any_in_range test (a + 1) n i (omega arith) (ap test z ∙ e)) ∙ or_true (test a)

-- a number from `low` to `high` meets the test
pub any_from_to : (test : ℕ → Bool) (low high k : ℕ) → low ≤ k → k ≤ high → test k ≡ true → list_any test (range_with_len low (high + 1 - low)) ≡ true
any_from_to test low high k lo hi is =
    let at : low + (k - low) ≡ k = omega arith in
    any_in_range test low (high + 1 - low) (k - low) (omega arith) (ap test at ∙ is)

-- a size that the file had after k entries
fresh : (p : Past) (z low high k : ℕ) → low ≤ k → k ≤ high → size p.first p.history k ≡ z → is_fresh p z low high ≡ true
unfolding is_fresh
fresh p z low high k lo hi is = any_from_to (λ n. size p.first p.history n == z) low high k lo hi (eq-eqb (size p.first p.history k) z is)

write_fits : (p : Past) (seen : ℕ → Type 0) (low place off : ℕ) (xs : List ℕ) (way : Way) → ((k : ℕ) → seen k → low ≤ k) → FitsWindow p.first p.history p.log seen place (ops.Write off xs) way → write_way p low place off (length xs) way ≡ true
unfolding FitsWindow write_way
write_fits p seen low place off xs ways.Req up fits = absurd fits
write_fits p seen low place off xs (ways.ReqSaw z) up fits = let k = fits.1.0 in and_from (nat_lt z (off + length xs)) (is_fresh p z low place) (lt-ltb z (off + length xs) fits.0) (fresh p z low place k (up k fits.1.1) fits.1.2 fits.1.3)
write_fits p seen low place off xs (ways.Via a b) up fits =
    and_from (nat_le (off + length xs) (size p.first p.history place)) (covers true p.log (chunks off (length xs)) (pairs_of (ways.Via a b))) (le-leb (off + length xs) (size p.first p.history place) fits.0) fits.1

same_self : (k : Through) → same_through k k ≡ true
same_self k = and_from (k.entry == k.entry) (k.upto == k.upto) (eq-eqb k.entry k.entry refl) (eq-eqb k.upto k.upto refl)

-- an access through the pair of what is held fits
held_fits : (write : Bool) (log : List LogEntry) (o : Option Held) (given : Option Grant) (held : Held) (g : Grant) (off len : ℕ) (way : Way) → o ≡ Some held → given ≡ Some g → way ≡ ways.Via g.through None → covers write log (chunks (held.chunk * chunk_size + off) len) (g.through ∷ []) ≡ true → hold_way write log o given off len way ≡ true
unfolding hold_way pairs_of
held_fits write log o given held g off len way held_is granted is covered =
    (λ i. hold_way write log (held_is i) (granted i) off len (is i)) ∙ and_from (same_through g.through g.through) (covers write log (chunks (held.chunk * chunk_size + off) len) (g.through ∷ [])) (same_self g.through) covered

module _ (ranges : ℕ) (p : Past) (cs : List Call) (ls : List Numbered) (n place : ℕ) (way : Way) where
  -- the audit counts no more as seen before the call than any bound of it
  abbrev CountsSeen : ℕ → Type 0
  CountsSeen file = (k : ℕ) → IsSeenBefore cs ls file n k → seen_before cs ls file n ≤ k

  abbrev Plain : Asked → Type 0
  Plain to = FitsWay ranges p.first p.history p.log (IsSeenBefore cs ls to.file n) place to.op way

  abbrev Windowed : Asked → Type 0
  Windowed to = FitsWindow p.first p.history p.log (IsSeenBefore cs ls to.file n) place to.op way

  -- what the audit finds of the way of this call
  abbrev Right : Call → Asked → Type 0
  Right c to = way_fits ranges p cs ls to.file place n (Some c) way ≡ true

  with_ranges : (c : Call) (file : ℕ) → 0 < ranges → windowed p cs ls file place n c way ≡ true → way_fits ranges p cs ls file place n (Some c) way ≡ true
  with_ranges c file some e = ap (λ (b : Bool). if b then is_req way else windowed p cs ls file place n c way) (ne_eqb ranges 0 (λ z. absurd (omega (arith, z, some)))) ∙ e

  without_ranges : (c : Call) (file : ℕ) → ranges ≡ 0 → way ≡ ways.Req → way_fits ranges p cs ls file place n (Some c) way ≡ true
  unfolding is_req
  without_ranges c file none is = ap (λ (b : Bool). if b then is_req way else windowed p cs ls file place n c way) (eq-eqb ranges 0 none) ∙ ap is_req is

  -- a way that names no hold
  plain_right : (c : Call) (to : Asked) → (Windowed to → windowed p cs ls to.file place n c way ≡ true) → Plain to → Right c to
  plain_right c to holds fits = ⊎_elim
      (λ (some : 0 < ranges). with_ranges c to.file some (holds (fits.windowed some)))
      (λ (none : ranges ≤ 0). let z : ranges ≡ 0 = omega (arith, none) in without_ranges c to.file z (fits.without z))
      (below_or_from 0 ranges)

  plain_on : (c : Call) (file : ℕ) (op : Op) (to : Asked) → on_file file op ≡ Some to → CountsSeen to.file → Plain to
      → (CountsSeen file → Windowed (record { file = file; op = op }) → windowed p cs ls file place n c way ≡ true) → Right c to
  plain_on c file op to e up fits holds = plain_right c to
      (subst (λ (a : Asked). CountsSeen a.file → Windowed a → windowed p cs ls a.file place n c way ≡ true) (some_is (record { file = file; op = op }) to e) holds up) fits

  -- a way through a hold
  through_right : (write : Bool) (c : Call) (hold off len : ℕ) (held : Held) (op : Op) (to : Asked) → ((file : ℕ) → windowed p cs ls file place n c way ≡ hold_way write p.log (held_by cs hold) (grant_in cs ls hold) off len way)
      → held_by cs hold ≡ Some held → on_file held.file op ≡ Some to → ((g : Grant) → CoversOp p.log op (g.through ∷ []) → covers write p.log (chunks (held.chunk * chunk_size + off) len) (g.through ∷ []) ≡ true) → IsThroughHold ranges p.log cs ls n hold to.op way → Right c to
  through_right write c hold off len held op to is held_is e covers_it t =
      let covered : CoversOp p.log op (t.grant.through ∷ []) = subst (λ (a : Asked). CoversOp p.log a.op (t.grant.through ∷ [])) (sym (some_is (record { file = held.file; op = op }) to e)) t.covered in
      with_ranges c to.file t.some (is to.file ∙ held_fits write p.log (held_by cs hold) (grant_in cs ls hold) held t.grant off len way held_is (had_granted cs ls n hold t.grant t.had) t.goes (covers_it t.grant covered))

  -- the way of a call fits, as the audit counts what was seen before it
  pub way_right : (c : Call) (to : Asked) → asked cs c ≡ Some to → CountsSeen to.file → Came ranges p.first p.history p.log cs ls n (hold_in c) place to way → Right c to
  unfolding asked hold_in Came CoversOp FitsWindow windowed is_req
  way_right (calls.Read file off len) to e up came = plain_on (calls.Read file off len) file (ops.Read off len) to e up came (λ up fits. fits)
  way_right (calls.Write file off xs) to e up came = plain_on (calls.Write file off xs) file (ops.Write off xs) to e up came (λ up fits. write_fits p (IsSeenBefore cs ls file n) (seen_before cs ls file n) place off xs way up fits)
  way_right (calls.Fill file off len byte) to e up came = plain_on (calls.Fill file off len byte) file (ops.Write off (replicate len byte)) to e up came (λ up fits.
      ap (λ (m : ℕ). write_way p (seen_before cs ls file n) place off m way) (sym (length-replicate {A = ℕ} len byte)) ∙ write_fits p (IsSeenBefore cs ls file n) (seen_before cs ls file n) place off (replicate len byte) way up fits)
  way_right (calls.Size file) to e up came = plain_on (calls.Size file) file ops.Size to e up came (λ up fits. ap is_req fits)
  way_right (calls.Truncate file size) to e up came = plain_on (calls.Truncate file size) file (ops.Truncate size) to e up came (λ up fits. ap is_req fits)
  way_right (calls.Hold file chunk mode) to e up came = absurd (none_is to e)
  way_right (calls.Load hold off len) to e up came =
      let h = through_parts (held_by cs hold) (λ start. ops.Read (start + off) len) to e in
      through_right false (calls.Load hold off len) hold off len h.0 (ops.Read (h.0.chunk * chunk_size + off) len) to (λ file. refl) h.1 h.2 (λ g covered. covered) came
  way_right (calls.Store hold off xs) to e up came =
      let h = through_parts (held_by cs hold) (λ start. ops.Write (start + off) xs) to e in
      through_right true (calls.Store hold off xs) hold off (length xs) h.0 (ops.Write (h.0.chunk * chunk_size + off) xs) to (λ file. refl) h.1 h.2 (λ g covered. covered) came
  way_right (calls.Release hold) to e up came = absurd (none_is to e)
