-- What the board of one guest sees, and the relations of its calls.
use Rattle.std.proofs.Common.{◌≡◌, ◌∙◌, ap, sym, refl, subst, ℕ, zero, suc, ◌<◌, ◌==◌, Bool, true, false, ◌&&◌, cond, List, [], ◌∷◌, ◌++◌, length, get_or, slice_set, option_map, Option, Some, None, inl, inr, arith}
use Rattle.std.specs.Prelude.{is_some, unwrap_or, nat_lt, replicate, if◌then◌else◌}
use Rattle.std.specs.List.{list_all}
use Rattle.plain_file.specs.Counts.{more_by_one}
use Rattle.std.proofs.lemmas.Grind.{common_steps}
use Rattle.std.proofs.lemmas.Bool.{cases_lt, cases_Bool}
use Rattle.std.proofs.lemmas.List.{append-nil, set-get_or, length-map}
use Rattle.page_map.specs.declared.ranges.LogEntry.{LogEntry}
use Rattle.page_map.specs.declared.ranges.LogEntry.TheVariants as entries
use Rattle.page_map.specs.declared.ranges.RangeWord.{RangeWord}
use Rattle.page_map.specs.declared.ranges.RangeWord.TheVariants as words
use Rattle.page_map.specs.Logs.{Slot, slot_in}
use Rattle.page_map.specs.Board.{MapView, Noted}
use Rattle.range_tree.specs.declared.plain.Owner.{Owner}
use Rattle.range_tree.specs.declared.plain.Seen.{Seen}
use Rattle.range_tree.specs.Ranges.{KeepsHeld, Enters, Looks, Sees, SaysSlot, is_of_file, names_file, pins_in, slot_at, tree_slot, is_takeable, removal, is_noted_blocked, forgot, IsTaken}
use Rattle.range_tree.specs.Plain.{Parts, plain_view, owner_at, map_at, pins_at, pinned_at, entries_of, owned_slot, slot_for, plain_word, word_owned, word_of, all_noted, noted_of, is_seen_blocked, IsPinTarget, IsOwned, IsPlainRanges}
use Rattle.range_tree.proofs.OneGuest.{slot_for-own, with_entry}

pub keeps-table : (v w : MapView) → w.table ≡ v.table → KeepsHeld v w
keeps-table v w e = record { count = ap length e; held = λ page a b. ap (λ t. get_or t page None) e }

same-logs : (logs : List (List LogEntry)) (file : ℕ) → logs ≡ slice_set logs file (get_or logs file [] ++ [])
same-logs logs file = sym (ap (slice_set logs file) (append-nil (get_or logs file [])) ∙ set-get_or logs file [])

pub enters : (s : Parts) (file : ℕ) → Enters (plain_view s) file (plain_view (record s { tree = Some file }))
enters s file = record {
  more = [];
  alone = λ h. refl;
  becomes = record { rest = ap (λ l. plain_view (record s { tree = Some file; logs = l })) (same-logs s.logs file); pages = keeps-table (plain_view s) (plain_view (record s { tree = Some file })) refl };
}

-- ---- words

-- the pins of a range without an owner
pub no-pins : (s : Parts) (range : ℕ) → IsPlainRanges s → owner_at s range ≡ None → pins_at s range ≡ 0
no-pins s range i free = elim (cases_lt 0 (pins_at s range)) [
  | inl some ↦ absurd (let p : IsPinTarget (owner_at s range) (pinned_at s range) = i.pins range some in let k : Some p.own ≡ None = sym p.placed ∙ free in cc)
  | inr none ↦ omega arith
]

-- the slot of the tree that is had
pub tree-slot : (s : Parts) (range file : ℕ) → IsPlainRanges s → s.tree ≡ Some file → tree_slot (plain_view s) range ≡ slot_for file range (owner_at s range)
unfolding slot_at
tree-slot s range file i t = ap (λ (t : Option ℕ). slot_at t s.logs range) t ∙ i.slots file range

-- a word that names no file says that nothing is placed
says-nothing : (file range : ℕ) (word : RangeWord) → is_of_file file word ≡ false → SaysSlot file (slot_for file range None) word
unfolding slot_for SaysSlot
says-nothing file range word e = e

says-owned : (file range pins : ℕ) (o : Owner) → SaysSlot file (slot_for file range (Some o)) (words.Mapped o.file o.chunk o.mode pins)
unfolding slot_for SaysSlot is_of_file pins_in
says-owned file range pins o = go (o.file == file) refl
  where
    go : (b : Bool) → (o.file == file) ≡ b → SaysSlot file (cond b (Some (owned_slot range o)) None) (words.Mapped o.file o.chunk o.mode pins)
    go true e = let same : o.file ≡ file = grind (arith, common_steps, e) in ap (λ f. words.Mapped f o.chunk o.mode pins) same
    go false e = e

-- what a log has in a range, where the owner is known
pub says-log : (s : Parts) (range file : ℕ) (o : Option Owner) (word : RangeWord) → IsPlainRanges s → owner_at s range ≡ o → SaysSlot file (slot_for file range o) word → SaysSlot file (slot_in (entries_of s file) range) word
says-log s range file o word i e h = subst (λ (x : Option Slot). SaysSlot file x word) (sym (i.slots file range ∙ ap (slot_for file range) e)) h

sees-free : (s : Parts) (range : ℕ) → IsPlainRanges s → (s.moves ≡ Some range → ⊥) → owner_at s range ≡ None → Sees (plain_view s) range words.Free
unfolding pins_in names_file is_of_file
sees-free s range i still free =
    let none = no-pins s range i free in
    record {
      moves = λ e. absurd (still e);
      own = λ e. absurd (cc);
      pins = omega (arith, none);
      names = refl;
      tree = λ file t. says-log s range file None words.Free i free (says-nothing file range words.Free refl);
      alone = λ h. record { pins = sym none; mover = λ guest e. absurd (cc); logs = λ file within. says-log s range file None words.Free i free (says-nothing file range words.Free refl) };
    }

sees-moving : (s : Parts) (range : ℕ) → IsPlainRanges s → s.moves ≡ Some range → Sees (plain_view s) range (words.Moving s.guest)
unfolding pins_in names_file is_of_file
sees-moving s range i e =
    let m = i.moves range e in
    record {
      moves = λ h. refl;
      own = λ h. e;
      pins = omega (arith, m.unpinned);
      names = refl;
      tree = λ file t. says-log s range file None (words.Moving s.guest) i m.empty (says-nothing file range (words.Moving s.guest) refl);
      alone = λ h. record { pins = sym m.unpinned; mover = λ guest g. cc; logs = λ file within. says-log s range file None (words.Moving s.guest) i m.empty (says-nothing file range (words.Moving s.guest) refl) };
    }

sees-mapped : (s : Parts) (range : ℕ) (o : Owner) → IsPlainRanges s → (s.moves ≡ Some range → ⊥) → owner_at s range ≡ Some o → Sees (plain_view s) range (words.Mapped o.file o.chunk o.mode (pins_at s range))
unfolding pins_in names_file
sees-mapped s range o i still e =
    let w : IsOwned (length s.logs) (map_at s range) o = i.owned range o e in
    let word = words.Mapped o.file o.chunk o.mode (pins_at s range) in
    record {
      moves = λ h. absurd (still h);
      own = λ h. absurd (cc);
      pins = omega arith;
      names = grind (arith, common_steps, w.known, w.small);
      tree = λ file t. says-log s range file (Some o) word i e (says-owned file range (pins_at s range) o);
      alone = λ h. record { pins = refl; mover = λ guest g. absurd (cc); logs = λ file within. says-log s range file (Some o) word i e (says-owned file range (pins_at s range) o) };
    }

pub sees-owned : (s : Parts) (range : ℕ) (o : Option Owner) → IsPlainRanges s → (s.moves ≡ Some range → ⊥) → owner_at s range ≡ o → Sees (plain_view s) range (word_owned (pins_at s range) o)
unfolding word_owned
sees-owned s range None i still e = sees-free s range i still e
sees-owned s range (Some o) i still e = sees-mapped s range o i still e

pub not-moved : (s : Parts) (range : ℕ) → s.moves ≡ None → s.moves ≡ Some range → ⊥
not-moved s range e h = let k : None ≡ Some range = sym e ∙ h in cc

sees-any : (s : Parts) (range : ℕ) (m : Option ℕ) → IsPlainRanges s → s.moves ≡ m → Sees (plain_view s) range (plain_word m s.guest range (pins_at s range) (owner_at s range))
unfolding plain_word
sees-any s range None i e = sees-owned s range (owner_at s range) i (not-moved s range e) refl
sees-any s range (Some m) i e = elim (cases_Bool (m == range)) [
  | inl hit ↦ rw hit (sees-moving s range i (e ∙ ap (λ n. Some n) (eq-true m range hit)))
  | inr miss ↦ rw miss (sees-owned s range (owner_at s range) i (λ h. let k : Some m ≡ Some range = sym e ∙ h in let n : m ≡ range = cc in grind (arith, common_steps, n, miss)) refl)
]
  where
    eq-true : (m range : ℕ) → (m == range) ≡ true → m ≡ range
    eq-true m range h = grind (arith, common_steps, h)

-- the word of a range is one that a look may answer
pub sees : (s : Parts) (range : ℕ) → IsPlainRanges s → Sees (plain_view s) range (word_of s range)
sees s range i = sees-any s range s.moves i refl

-- ---- taking

removed-nothing : (s : Parts) (range : ℕ) (t : Option ℕ) → IsPlainRanges s → s.tree ≡ t → owner_at s range ≡ None → removal (tree_slot (plain_view s) range) ≡ []
unfolding removal slot_at slot_for
removed-nothing s range None i e free = ap (λ (t : Option ℕ). removal (slot_at t s.logs range)) e
removed-nothing s range (Some file) i e free = ap removal (tree-slot s range file i e ∙ ap (slot_for file range) free)

-- a free range
pub takes-free : (s : Parts) (range : ℕ) → IsPlainRanges s → s.moves ≡ None → owner_at s range ≡ None → IsTaken (plain_view s) range (plain_view (record s { moves = Some range }))
unfolding is_takeable
takes-free s range i still free = record {
  word = words.Free;
  seen = sees-free s range i (not-moved s range still) free;
  takeable = refl;
  unpinned = no-pins s range i free;
  becomes = record {
    rest = ap (λ l. plain_view (record s { moves = Some range; logs = l }))
        (same-logs s.logs (unwrap_or s.tree 0) ∙ ap (λ l. slice_set s.logs (unwrap_or s.tree 0) (get_or s.logs (unwrap_or s.tree 0) [] ++ l)) (sym (removed-nothing s range s.tree i refl free)));
    pages = keeps-table (plain_view s) (plain_view (record s { moves = Some range })) refl;
  };
}

removed-one : (s : Parts) (range : ℕ) (o : Owner) → IsPlainRanges s → s.tree ≡ Some o.file → owner_at s range ≡ Some o → removal (tree_slot (plain_view s) range) ≡ entries.Remove range ∷ []
unfolding removal
removed-one s range o i t e = ap removal (tree-slot s range o.file i t ∙ ap (slot_for o.file range) e ∙ slot_for-own range o)

takeable-own : (o : Owner) → is_takeable (Some o.file) (words.Mapped o.file o.chunk o.mode 0) ≡ true
unfolding is_takeable
takeable-own o = grind (arith, common_steps)

-- a range of the tree
pub takes-mapped : (s : Parts) (range : ℕ) (o : Owner) → IsPlainRanges s → s.moves ≡ None → s.tree ≡ Some o.file → pins_at s range ≡ 0 → owner_at s range ≡ Some o →
    IsTaken (plain_view s) range (plain_view (with_entry s (Some range) o.file range (entries_of s o.file ++ entries.Remove range ∷ []) None))
takes-mapped s range o i still t none e =
    let new = with_entry s (Some range) o.file range (entries_of s o.file ++ entries.Remove range ∷ []) None in
    let removed = removed-one s range o i t e in
    record {
      word = words.Mapped o.file o.chunk o.mode (pins_at s range);
      seen = sees-mapped s range o i (not-moved s range still) e;
      takeable = rw none (rw t (takeable-own o));
      unpinned = none;
      becomes = record {
        rest = ap (λ l. plain_view (record new { logs = l })) (rw removed (rw t refl));
        pages = keeps-table (plain_view s) (plain_view new) refl;
      };
    }

-- a mapped range that may be taken is one of the tree without pins
pub takeable-parts : (t : Option ℕ) (o : Owner) (pins : ℕ) → is_takeable t (words.Mapped o.file o.chunk o.mode pins) ≡ true → (t ≡ Some o.file) × (pins ≡ 0)
unfolding is_takeable
takeable-parts None o pins e = absurd (cc)
takeable-parts (Some f) o pins e =
    let same : f ≡ o.file = grind (arith, common_steps, e) in
    let none : pins ≡ 0 = grind (arith, common_steps, e) in
    (ap (λ n. Some n) same, none)

-- where no range is moved, the word tells the owner
still-word : (m : Option ℕ) (guest range pins : ℕ) (o : Option Owner) → m ≡ None → plain_word m guest range pins o ≡ word_owned pins o
unfolding plain_word
still-word None guest range pins o e = refl
still-word (Some n) guest range pins o e = absurd (cc)

pub takeable-owned : (s : Parts) (range : ℕ) (o : Owner) → s.moves ≡ None → owner_at s range ≡ Some o → is_takeable s.tree (word_of s range) ≡ true → (s.tree ≡ Some o.file) × (pins_at s range ≡ 0)
unfolding word_owned
takeable-owned s range o still e h = takeable-parts s.tree o (pins_at s range) (sym (ap (is_takeable s.tree) (still-word s.moves s.guest range (pins_at s range) (owner_at s range) still ∙ ap (word_owned (pins_at s range)) e)) ∙ h)

-- ---- lists of looks

pub noted-set : (looks : List (Option Seen)) (range : ℕ) (seen : Seen) → all_noted (slice_set looks range (Some seen)) ≡ slice_set (all_noted looks) range (Some (noted_of seen))
noted-set [] range seen = refl
noted-set (x ∷ looks) zero seen = refl
noted-set (x ∷ looks) (suc range) seen = ap (λ l. option_map noted_of x ∷ l) (noted-set looks range seen)

pub get_or-any : {X : Type 0} (xs : List X) (i : ℕ) (d e : X) → i < length xs → get_or xs i d ≡ get_or xs i e
get_or-any [] i d e h = absurd (omega (arith, h))
get_or-any (x ∷ xs) zero d e h = refl
get_or-any (x ∷ xs) (suc i) d e h = get_or-any xs i d e (omega (arith, h))

-- a word that was read of a range, with the pins there, is noted
pub record IsRead (s : Parts) (range own : ℕ) (word : RangeWord) : Type 0 where
  pub pins : own ≡ pins_at s range
  pub said : word ≡ word_of s range

pub looks-read : (s : Parts) (looks : List (Option Seen)) (range own : ℕ) (word : RangeWord) → IsPlainRanges s → IsRead s range own word → s.looks ≡ all_noted looks →
    Looks (plain_view s) range word (plain_view (record s { looks = all_noted (slice_set looks range (Some (record { word = word; own = own }))) }))
looks-read s looks range own word i r is = record {
  seen = subst (λ w. Sees (plain_view s) range w) (sym r.said) (sees s range i);
  noted = ap (λ l. plain_view (record s { looks = l })) (noted-set looks range (record { word = word; own = own }) ∙ ap (λ (l : List (Option Noted)). slice_set l range (Some (record { word = word; own = own }))) (sym is) ∙ ap (λ n. slice_set s.looks range (Some (record { word = word; own = n }))) r.pins);
}

pub noted-none : (n : ℕ) → all_noted (replicate n None) ≡ replicate n None
noted-none zero = refl
noted-none (suc n) = ap (λ l. None ∷ l) (noted-none n)

pub noted-some : (looks : List (Option Seen)) → list_all is_some looks ≡ list_all is_some (all_noted looks)
noted-some [] = refl
noted-some (None ∷ looks) = refl
noted-some (Some x ∷ looks) = noted-some looks

pub noted-blocked : (looks : List (Option Seen)) → list_all is_seen_blocked looks ≡ list_all is_noted_blocked (all_noted looks)
noted-blocked [] = refl
noted-blocked (x ∷ looks) = ap (λ b. is_seen_blocked x && b) (noted-blocked looks)

-- the board after its looks are forgotten
pub forgets : (s : Parts) (looks : List (Option Seen)) → IsPlainRanges s → s.looks ≡ all_noted looks →
    plain_view (record s {
      looks = all_noted (replicate (length looks) None);
      sweeps = if nat_lt 0 (length looks) && list_all is_some looks then more_by_one s.sweeps else s.sweeps;
      rounds = if nat_lt 0 (length looks) && list_all is_seen_blocked looks then more_by_one s.rounds else s.rounds;
    }) ≡ forgot (plain_view s)
forgets s looks i is =
    let n : length looks ≡ length s.pins = sym (length-map looks (option_map noted_of)) ∙ (ap length (sym is) ∙ i.looks) in
    let some : list_all is_some looks ≡ list_all is_some s.looks = noted-some looks ∙ ap (list_all is_some) (sym is) in
    let blocked : list_all is_seen_blocked looks ≡ list_all is_noted_blocked s.looks = noted-blocked looks ∙ ap (list_all is_noted_blocked) (sym is) in
    rw (noted-none (length looks), some, blocked, n) refl
