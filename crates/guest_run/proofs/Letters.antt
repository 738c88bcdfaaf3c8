-- What the looks show where no range could be taken: a letter for each range, and the holds that have them.
use Rattle.std.proofs.Common.{◌≡◌, ◌≢◌, ◌⊎◌, inl, inr, ⊎_elim, ◌∙◌, ap, sym, refl, subst, ℕ, zero, suc, ◌+◌, ◌<◌, Bool, true, false, true≢false, List, [], ◌∷◌, length, replicate, get_or, get_or-set_other, Option, Some, None, arith, if◌then◌else◌}
use Rattle.std.specs.Prelude.{IsSome, slice_index_or}
use Rattle.std.specs.List.{list_all}
use Rattle.std.proofs.lemmas.Bool.{ne_eqb}
use Rattle.std.proofs.lemmas.List.{length-set}
use mathlib.Core.Logic.{dite}
use native.Mathlib.Decide.{ℕ_discrete}
use Rattle.page_map.specs.declared.ranges.Look.{Look}
use Rattle.page_map.specs.declared.ranges.RangeWord.{RangeWord}
use Rattle.page_map.specs.declared.ranges.RangeWord.TheVariants as words
use Rattle.page_map.specs.Board.{MapView, Noted}
use Rattle.range_tree.specs.Ranges.{range_count, pins_on, look_at, IsSoundRanges}
use Rattle.transcript_text.specs.TranscriptReading.{is_letter}
use Rattle.dax_script.specs.declared.scripts.Call.{Call}
use Rattle.guest_dax.specs.Stands.{Stand}
use Rattle.guest_dax.specs.Looks.{Blocks, IsBlocked, AllBlocked, looks_from}
use Rattle.guest_io.specs.declared.guest.Granted.{Granted}
use Rattle.guest_io.specs.declared.guest.Holds.{Holds}
use Rattle.guest_io.specs.Calls.{last_chunk, first_chunk}
use Rattle.guest_io.specs.Chunks.{IsUnplaced, IsUnpinned}
use Rattle.guest_io.specs.Going.{one_more_pin, IsBusy}
use Rattle.guest_io.proofs.HoldLaws.{pin-had}
use Rattle.guest_io.specs.Holds.{HasHolds, granted_at, pins_of}
use Rattle.guest_run.specs.Telling.{letter_of, letters_of}
use Rattle.guest_run.specs.Working.{TakesAlone, IsFull, MeetsTwo, NeedsChunk}

-- ---- letters

letter_is : (w : RangeWord) → is_letter (letter_of w) ≡ true
unfolding letter_of
letter_is words.Free = refl
letter_is (words.Moving guest) = refl
letter_is (words.Mapped file chunk mode pins) = refl

pub letters_are : (looked : List Look) → list_all is_letter (letters_of looked) ≡ true
letters_are [] = refl
letters_are (l ∷ looked) = rw (letter_is l.word) (letters_are looked)

letters_long : (looked : List Look) → length (letters_of looked) ≡ length looked
letters_long [] = refl
letters_long (l ∷ looked) = ap suc (letters_long looked)

-- as many looks as ranges, where each one's is noted
all_noted : (n : ℕ) (looks : List (Option Noted)) → ((r : ℕ) → r < length looks → IsSome (get_or looks r None)) → length (looks_from n looks) ≡ length looks
unfolding looks_from
all_noted n [] each = refl
all_noted n (None ∷ rest) each = absurd (true≢false (sym (each zero (omega arith))))
all_noted n (Some a ∷ rest) each = ap suc (all_noted (n + 1) rest (λ r within. each (suc r) (omega arith)))

noted_some : (v now : MapView) (range : ℕ) → IsBlocked v now range → IsSome (look_at now range)
noted_some v now range b = subst IsSome (sym b.at) refl

pub count_pinned : (v : MapView) (range : ℕ) → range_count (one_more_pin v range) ≡ range_count v
count_pinned v range = length-set v.hands.pins range (pins_on v range + 1)

-- each range has a noted look
busy_noted : (old : MapView) (file off len : ℕ) (looked : List Look) (new : MapView) → IsBusy old file off len looked new → (r : ℕ) → r < range_count old → IsSome (look_at new r)
busy_noted old file off len looked new (some, is, how) r within = ⊎_elim
    (λ (h : AllBlocked old new × _). noted_some old new r (h.0 r within))
    (λ (h : (last_chunk off len ≡ first_chunk off + 1) × ((range : ℕ) × AllBlocked (one_more_pin old range) new) × _). noted_some (one_more_pin old h.1.0) new r (h.1.1 r (subst (λ n. r < n) (sym (count_pinned old h.1.0)) within)))
    how

pub busy_count : (old : MapView) (file off len : ℕ) (looked : List Look) (new : MapView) → IsBusy old file off len looked new → range_count new ≡ range_count old → IsSoundRanges new → length (letters_of looked) ≡ range_count old
busy_count old file off len looked new b count sound =
    let long : length new.ranges.looks ≡ range_count old = sound.looks ∙ count in
    letters_long looked ∙ ap length b.1 ∙ all_noted 0 new.ranges.looks (λ r within. busy_noted old file off len looked new b r (subst (λ n. r < n) long within)) ∙ long

-- ---- where nobody else takes or pins ranges

-- a word of a range that couldn't be taken says that it is pinned, by own pins
pinned_word : (v : MapView) (own : ℕ) (word : RangeWord) → v.ranges.others ≡ false → Blocks v own word → (letter_of word ≡ 112) × (0 < own)
unfolding letter_of
pinned_word v own words.Free alone b = absurd b
pinned_word v own (words.Moving guest) alone b = absurd (true≢false (sym b.1 ∙ alone))
pinned_word v own (words.Mapped file chunk mode pins) alone b = (refl, (let some = b.0 in let same = b.2 alone in omega (arith, some, same)))

-- the noted look of a range shows it pinned
record ShowsPinned (now : MapView) (range : ℕ) : Type 0 where
  noted : Noted
  at : look_at now range ≡ Some noted
  letter : letter_of noted.word ≡ 112

shows_pinned : (v now : MapView) (range : ℕ) → v.ranges.others ≡ false → IsBlocked v now range → ShowsPinned now range
shows_pinned v now range alone b = record { noted = b.noted; at = b.at; letter = (pinned_word v b.noted.own b.noted.word alone b.blocks).0 }

has_pins : (v now : MapView) (range : ℕ) → v.ranges.others ≡ false → IsBlocked v now range → 0 < pins_on v range
has_pins v now range alone b = subst (λ n. 0 < n) b.own (pinned_word v b.noted.own b.noted.word alone b.blocks).1

all_pinned : (n : ℕ) (looks : List (Option Noted)) → ((r : ℕ) → r < length looks → (a : Noted) × (get_or looks r None ≡ Some a) × (letter_of a.word ≡ 112)) → letters_of (looks_from n looks) ≡ replicate (length looks) 112
unfolding looks_from
all_pinned n [] each = refl
all_pinned n (None ∷ rest) each = let first = each zero (omega arith) in let none : None ≡ Some first.0 = first.1 in absurd cc
all_pinned n (Some a ∷ rest) each =
    let first = each zero (omega arith) in
    let same : Some a ≡ Some first.0 = first.1 in
    let is : a ≡ first.0 = cc in
    let letter : letter_of a.word ≡ 112 = ap (λ (x : Noted). letter_of x.word) is ∙ first.2 in
    let others = all_pinned (n + 1) rest (λ r within. each (suc r) (omega arith)) in
    λ i. letter i ∷ others i

-- a pinned range is that of a hold
hold_of : (range : ℕ) (gs : List (Option Granted)) → 0 < pins_of range gs → (hold : ℕ) × (g : Granted) × (slice_index_or gs hold None ≡ Some g) × (g.pinned.range ≡ range)
unfolding pins_of
hold_of range [] some = absurd (omega (arith, some))
hold_of range (None ∷ gs) some = let k = hold_of range gs some in (suc k.0, k.1, k.2, k.3)
hold_of range (Some g ∷ gs) some = dite (ℕ_discrete g.pinned.range range)
    (λ e. (zero, g, refl, e))
    (λ apart. let none = ap {B = ℕ} (λ (b : Bool). if b then 1 else 0) (ne_eqb g.pinned.range range apart) in let k = hold_of range gs (omega (arith, some, none)) in (suc k.0, k.1, k.2, k.3))

held_range : (s : Stand) (h : Holds) (range : ℕ) → HasHolds s h → 0 < pins_on s.map range → (hold : ℕ) × (g : Granted) × (granted_at h hold ≡ Some g) × (g.pinned.range ≡ range)
held_range s h range holds some = hold_of range h.slots (subst (λ n. 0 < n) (holds.pins range) some)

pins_elsewhere : (v : MapView) (range r : ℕ) → r ≢ range → pins_on (one_more_pin v range) r ≡ pins_on v r
pins_elsewhere v range r apart = get_or-set_other v.hands.pins range r (pins_on v range + 1) 0 apart

-- what the call needs of a file: whether it needs two chunks, and which
pub record Meets (c : Call) (file off len : ℕ) : Type 0 where
  pub two : last_chunk off len ≡ first_chunk off + 1 → MeetsTwo c
  pub needs : (chunk : ℕ) → (chunk ≡ first_chunk off) ⊎ (chunk ≡ last_chunk off len) → NeedsChunk c file chunk

-- a hold on a chunk has a pin on it
not_unpinned : (s : Stand) (h : Holds) (file chunk hold : ℕ) (g : Granted) → HasHolds s h → IsUnpinned s.map file chunk → granted_at h hold ≡ Some g → g.file ≡ file → g.chunk ≢ chunk
not_unpinned s h file chunk hold g holds none at on is =
    let x = holds.each hold g at in
    none g.pinned.range (pin-had s h hold g holds at) (x.pinned ∙ on) (x.shown ∙ is)

-- each range was pinned, and is that of a hold
pub full_of : (s t : Stand) (h : Holds) (c : Call) (file off len : ℕ) (looked : List Look) → HasHolds s h → Meets c file off len → range_count t.map ≡ range_count s.map → IsSoundRanges t.map → IsBusy s.map file off len looked t.map → TakesAlone s → IsFull (range_count s.map) h c (letters_of looked)
full_of s t h c file off len looked holds meets count sound (some, is, how) alone =
    let long : length t.map.ranges.looks ≡ range_count s.map = sound.looks ∙ count in
    let letters : ((r : ℕ) → r < range_count s.map → ShowsPinned t.map r) → letters_of looked ≡ replicate (range_count s.map) 112
    = λ each. ap letters_of is ∙ all_pinned 0 t.map.ranges.looks (λ r within. let p = each r (subst (λ n. r < n) long within) in (p.noted, p.at, p.letter)) ∙ ap (λ n. replicate n 112) long in
    ⊎_elim
    (λ (b : AllBlocked s.map t.map × IsUnplaced s.map file (first_chunk off) t.map). record {
      pinned = letters (λ r within. shows_pinned s.map t.map r alone.others (b.0 r within));
      missing = None;
      two = tt;
      each = λ r within apart. held_range s h r holds (has_pins s.map t.map r alone.others (b.0 r within));
      file = file;
      chunk = first_chunk off;
      needs = meets.needs (first_chunk off) (inl refl);
      unheld = λ hold g. not_unpinned s h file (first_chunk off) hold g holds b.1.4;
    })
    (λ (b : (last_chunk off len ≡ first_chunk off + 1) × ((range : ℕ) × AllBlocked (one_more_pin s.map range) t.map) × IsUnplaced s.map file (first_chunk off + 1) t.map).
    let range = b.1.0 in
    let at = λ (r : ℕ) (within : r < range_count s.map). b.1.1 r (subst (λ n. r < n) (sym (count_pinned s.map range)) within) in
    record {
      pinned = letters (λ r within. shows_pinned (one_more_pin s.map range) t.map r alone.others (at r within));
      missing = Some range;
      two = meets.two b.0;
      file = file;
      chunk = first_chunk off + 1;
      needs = meets.needs (first_chunk off + 1) (inr (sym b.0));
      unheld = λ hold g. not_unpinned s h file (first_chunk off + 1) hold g holds b.2.4;
      each = λ r within apart. held_range s h r holds (subst (λ n. 0 < n) (pins_elsewhere s.map range r (λ e. apart (ap (λ (n : ℕ). Some n) (sym e)))) (has_pins (one_more_pin s.map range) t.map r alone.others (at r within)));
    })
    how
