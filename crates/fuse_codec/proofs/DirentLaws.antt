-- Entries of a directory: what is read is spelled, and what is spelled is read.
use Rattle.std.proofs.Common.{◌≡◌, ℕ, ◌+◌, ◌-◌, ◌<◌, ◌≤◌, true, false, ltb, List, [], ◌∷◌, ◌++◌, length, take, drop, Option, Some, None, refl, sym, subst, ◌∙◌, ap, append_assoc, replicate, arith}
use Rattle.std.specs.Prelude.{option_map}
use Rattle.std.proofs.lemmas.Bool.{ltb-false, le-ltb}
use Rattle.std.proofs.lemmas.List.{append-nil, append_cancel_left, length-append, length-take, length-drop, take-append-drop, take_at, drop_at}
use Rattle.plain_file.specs.Names.{is_name, checked_name}
use Rattle.fuse_wire.specs.Layout.{Bytes, Unused, AreSpelled, FitsParts, clean}
use Rattle.fuse_wire.specs.Records.{u32_at}
use Rattle.fuse_wire.proofs.Laws.{IsBytes, IsBytes-take, IsBytes-drop, AreAt, spelled, placed, spelled_len, joined, split, one_text, one_text_is, clean_append, clean_spells, FitsParts_append}
use Rattle.fuse_wire.proofs.RecordLaws.{cond_some}
use Rattle.fuse_codec.specs.declared.replies.Dirent.{Dirent}
use Rattle.fuse_codec.specs.Dirents.{filler, entry_len, dirent_head, dirent_parts, SpellsDirent, SpellDirents, HasNoEntry, IsCutAt, dirent_with, dirent_after, first_dirent}
use Rattle.fuse_codec.proofs.Steps.{mapped_some, went_on}

-- ---- one entry

unused_spelled : (k : ℕ) (bytes : List ℕ) → length bytes ≡ k → AreSpelled (Unused k ∷ []) bytes
unfolding AreSpelled
unused_spelled k bytes len = (bytes, [], len, sym (append-nil bytes), refl)

unused_len : (k : ℕ) (bytes : List ℕ) → AreSpelled (Unused k ∷ []) bytes → length bytes ≡ k
unused_len k bytes h = omega (arith, spelled_len (Unused k ∷ []) bytes h)

-- how many bytes spell an entry
pub entry_spelled_len : (d : Dirent) (entry : List ℕ) → SpellsDirent d entry → length entry ≡ entry_len (length d.name)
unfolding entry_len dirent_parts dirent_head
entry_spelled_len d entry s = omega (arith, spelled_len (dirent_parts d) entry s.parts)

pub entry_at_least : (n : ℕ) → 24 ≤ entry_len n
unfolding entry_len
entry_at_least n = omega arith

-- bytes that begin with a whole entry
pub record FirstEntry (d : Dirent) (bytes : List ℕ) : Type 0 where
  pub entry : List ℕ
  pub after : List ℕ
  pub whole : bytes ≡ entry ++ after
  pub spells : SpellsDirent d entry

regrouped : (head name fill after bytes rest : List ℕ) → bytes ≡ head ++ rest → rest ≡ name ++ (fill ++ after) → bytes ≡ (head ++ (name ++ fill)) ++ after
regrouped head name fill after bytes rest e f =
    e ∙ ap (λ (xs : List ℕ). head ++ xs) (f ∙ sym (append_assoc name fill after)) ∙ sym (append_assoc head (name ++ fill) after)

-- what is read is spelled
pub first_found : (bytes : List ℕ) (d : Dirent) → IsBytes bytes → first_dirent bytes ≡ Some d → FirstEntry d bytes
unfolding first_dirent dirent_after dirent_parts dirent_head
first_found bytes d fits e =
    let head = take 24 bytes in
    let rest = drop 24 bytes in
    let n = u32_at head 16 in
    let long = went_on (ltb (length bytes) 24) (dirent_after head n rest) d e in
    let le : 24 ≤ length bytes = ltb-false _ _ long.0 in
    let room = went_on (ltb (length rest) (n + filler n)) (option_map (dirent_with head) (checked_name (take n rest))) d long.1 in
    let more : n + filler n ≤ length rest = ltb-false _ _ room.0 in
    let m = mapped_some (dirent_with head) (checked_name (take n rest)) d room.1 in
    let name = m.0 in
    let g = cond_some (is_name (take n rest)) (take n rest) name m.1 in
    let name_len : length name ≡ n = sym (ap length g.1) ∙ omega (arith, length-take n rest) in
    let k = filler (length name) in
    let more' : length name + k ≤ length rest = subst (λ (x : ℕ). x + filler x ≤ length rest) (sym name_len) more in
    let fill = take k (drop n rest) in
    let after = drop k (drop n rest) in
    let fill_len : length fill ≡ k = omega (arith, length-take k (drop n rest), length-drop n rest) in
    let cut : rest ≡ name ++ (fill ++ after) = sym (take-append-drop n rest) ∙ ap (λ (xs : List ℕ). xs ++ drop n rest) g.1 ∙ ap (λ (xs : List ℕ). name ++ xs) (sym (take-append-drop k (drop n rest))) in
    let made = dirent_with head name in
    let head_len : length head ≡ 24 = omega (arith, length-take 24 bytes) in
    let first : AreSpelled (dirent_head made) head = spelled (dirent_head made) head (IsBytes-take 24 bytes fits) head_len (refl, (refl, (name_len, (refl, tt)))) in
    let second : AreSpelled (Bytes name ∷ Unused k ∷ []) (name ++ fill) = joined (Bytes name ∷ []) (Unused k ∷ []) name fill (one_text name name refl) (unused_spelled k fill fill_len) in
    let all = joined (dirent_head made) (Bytes name ∷ Unused k ∷ []) head (name ++ fill) first second in
    let named : is_name name ≡ true = subst (λ (xs : List ℕ). is_name xs ≡ true) g.1 g.0 in
    subst (λ (x : Dirent). FirstEntry x bytes) m.2 (record {
      entry = head ++ (name ++ fill);
      after = after;
      whole = regrouped head name fill after bytes rest (sym (take-append-drop 24 bytes)) cut;
      spells = record { named = named; parts = all };
    })

after_again : (d : Dirent) (head rest fill : List ℕ) → is_name d.name ≡ true → AreAt (dirent_head d) 0 head → rest ≡ d.name ++ fill → filler (length d.name) ≤ length fill → dirent_after head (length d.name) rest ≡ Some d
unfolding dirent_after dirent_head
after_again d head rest fill named at cut room =
    let long : ltb (length rest) (length d.name + filler (length d.name)) ≡ false = le-ltb _ _ (omega (arith, ap length cut, length-append d.name fill)) in
    let front : take (length d.name) rest ≡ d.name = ap (take (length d.name)) cut ∙ take_at d.name fill (length d.name) refl in
    let same : dirent_with head d.name ≡ d = λ i. record { ino = sym at.0 i; off = sym at.1.0 i; kind = sym at.1.1.1.0 i; name = d.name } in
    rw (long, front, named) (ap (λ (x : Dirent). Some x) same)

head_len : (d : Dirent) (front : List ℕ) → AreSpelled (dirent_head d) front → length front ≡ 24
unfolding dirent_head
head_len d front h = spelled_len (dirent_head d) front h

head_said : (d : Dirent) (front : List ℕ) → AreAt (dirent_head d) 0 front → length d.name ≡ u32_at front 16
unfolding dirent_head
head_said d front at = at.1.1.0

-- what is spelled is read
pub first_again : (d : Dirent) (entry after bytes : List ℕ) → bytes ≡ entry ++ after → SpellsDirent d entry → first_dirent bytes ≡ Some d
unfolding first_dirent dirent_parts
first_again d entry after bytes whole p =
    let k = filler (length d.name) in
    let s = split (dirent_head d) (Bytes d.name ∷ Unused k ∷ []) entry p.parts in
    let t = split (Bytes d.name ∷ []) (Unused k ∷ []) s.back s.back_spelled in
    let at = placed (dirent_head d) s.front s.front_spelled in
    let len : length s.front ≡ 24 = head_len d s.front s.front_spelled in
    let e : bytes ≡ s.front ++ (s.back ++ after) = whole ∙ ap (λ (xs : List ℕ). xs ++ after) s.whole ∙ append_assoc s.front s.back after in
    let front : take 24 bytes ≡ s.front = ap (take 24) e ∙ take_at s.front (s.back ++ after) 24 len in
    let back : drop 24 bytes ≡ s.back ++ after = ap (drop 24) e ∙ drop_at s.front (s.back ++ after) 24 len in
    let cut : s.back ++ after ≡ d.name ++ (t.back ++ after) = ap (λ (xs : List ℕ). xs ++ after) (t.whole ∙ ap (λ (xs : List ℕ). xs ++ t.back) (one_text_is d.name t.front t.front_spelled)) ∙ append_assoc d.name t.back after in
    let room : k ≤ length (t.back ++ after) = omega (arith, length-append t.back after, unused_len k t.back t.back_spelled) in
    let said : length d.name ≡ u32_at s.front 16 = head_said d s.front at in
    let read = after_again d s.front (s.back ++ after) (t.back ++ after) p.named at cut room in
    let there : dirent_after s.front (u32_at s.front 16) (s.back ++ after) ≡ Some d = subst (λ (n : ℕ). dirent_after s.front n (s.back ++ after) ≡ Some d) said read in
    let here : dirent_after (take 24 bytes) (u32_at (take 24 bytes) 16) (drop 24 bytes) ≡ Some d = subst (λ (xs : List ℕ). dirent_after xs (u32_at xs 16) (drop 24 bytes) ≡ Some d) (sym front) (subst (λ (xs : List ℕ). dirent_after s.front (u32_at s.front 16) xs ≡ Some d) (sym back) there) in
    let long : ltb (length bytes) 24 ≡ false = le-ltb _ _ (omega (arith, ap length e, length-append s.front (s.back ++ after))) in
    rw long here

-- where reading finds no whole entry, there is none
pub none_there : (bytes : List ℕ) → first_dirent bytes ≡ None → HasNoEntry bytes
none_there bytes e d entry after whole s = absurd (different d (first_dirent bytes) e (first_again d entry after bytes whole s))
  where
    different : (d : Dirent) (o : Option Dirent) → o ≡ None → o ≡ Some d → ⊥
    different d None e f = absurd cc
    different d (Some x) e f = absurd cc

-- where there are no bytes, there is no entry
pub none_in_nothing : HasNoEntry []
none_in_nothing d entry after whole s =
    let short : length entry + length after ≡ 0 = sym (length-append entry after) ∙ sym (ap length whole) in
    absurd (omega (arith, entry_spelled_len d entry s, entry_at_least (length d.name), short))

-- ---- entries one after the other

-- the entries of bytes are followed by those of more bytes
pub SpellDirents-append : (ds es : List Dirent) (a b : List ℕ) → SpellDirents ds a → SpellDirents es b → SpellDirents (ds ++ es) (a ++ b)
unfolding SpellDirents
SpellDirents-append [] es a b h k = subst (λ (xs : List ℕ). SpellDirents es (xs ++ b)) (sym h) k
SpellDirents-append (d ∷ ds) es a b (front, rest, one, whole, more) k =
    (front, rest ++ b, one, ap (λ (xs : List ℕ). xs ++ b) whole ∙ append_assoc front rest b, SpellDirents-append ds es rest b more k)

pub one_more : (ds : List Dirent) (d : Dirent) (a b : List ℕ) → SpellDirents ds a → SpellsDirent d b → SpellDirents (ds ++ d ∷ []) (a ++ b)
unfolding SpellDirents
one_more ds d a b h s = SpellDirents-append ds (d ∷ []) a b h (b, [], s, sym (append-nil b), refl)

pub none_spelled : SpellDirents [] []
unfolding SpellDirents
none_spelled = refl

-- two readings of the same bytes as entries and a rest
pub record SameReading (ds es : List Dirent) (f g r s : List ℕ) : Type 0 where
  pub ones : ds ≡ es
  pub fronts : f ≡ g
  pub rests : r ≡ s

same_entry : (d e : Dirent) (a b x y : List ℕ) → SpellsDirent d a → SpellsDirent e b → a ++ x ≡ b ++ y → (d ≡ e) × (a ≡ b) × (x ≡ y)
same_entry d e a b x y s t whole =
    let one : Some d ≡ Some e = sym (first_again d a x (a ++ x) refl s) ∙ first_again e b y (a ++ x) whole t in
    let is : d ≡ e = cc in
    let len : length a ≡ length b = entry_spelled_len d a s ∙ ap (λ (z : Dirent). entry_len (length z.name)) is ∙ sym (entry_spelled_len e b t) in
    let fronts : a ≡ b = sym (take_at a x (length a) refl) ∙ ap (take (length a)) whole ∙ take_at b y (length a) (sym len) in
    let rests : x ≡ y = append_cancel_left a x y (whole ∙ ap (λ (xs : List ℕ). xs ++ y) (sym fronts)) in
    (is, fronts, rests)

-- Bytes are read in one way only.
pub same_reading : (ds es : List Dirent) (f g r s : List ℕ) → SpellDirents ds f → HasNoEntry r → SpellDirents es g → HasNoEntry s → f ++ r ≡ g ++ s → SameReading ds es f g r s
unfolding SpellDirents
same_reading [] [] f g r s h none k none' whole =
    let a : f ++ r ≡ r = ap (λ (xs : List ℕ). xs ++ r) h in
    let b : g ++ s ≡ s = ap (λ (xs : List ℕ). xs ++ s) k in
    record { ones = refl; fronts = h ∙ sym k; rests = sym a ∙ whole ∙ b }
same_reading [] (e ∷ es) f g r s h none (front, rest, one, cut, more) none' whole =
    let a : f ++ r ≡ r = ap (λ (xs : List ℕ). xs ++ r) h in
    let b : r ≡ front ++ (rest ++ s) = sym a ∙ whole ∙ ap (λ (xs : List ℕ). xs ++ s) cut ∙ append_assoc front rest s in
    absurd (none e front (rest ++ s) b one)
same_reading (d ∷ ds) [] f g r s (front, rest, one, cut, more) none k none' whole =
    let a : g ++ s ≡ s = ap (λ (xs : List ℕ). xs ++ s) k in
    let b : s ≡ front ++ (rest ++ r) = sym a ∙ sym whole ∙ ap (λ (xs : List ℕ). xs ++ r) cut ∙ append_assoc front rest r in
    absurd (none' d front (rest ++ r) b one)
same_reading (d ∷ ds) (e ∷ es) f g r s (front, rest, one, cut, more) none (front', rest', one', cut', more') none' whole =
    let a : front ++ (rest ++ r) ≡ front' ++ (rest' ++ s) = sym (append_assoc front rest r) ∙ sym (ap (λ (xs : List ℕ). xs ++ r) cut) ∙ whole ∙ ap (λ (xs : List ℕ). xs ++ s) cut' ∙ append_assoc front' rest' s in
    let first = same_entry d e front front' (rest ++ r) (rest' ++ s) one one' a in
    let rest_is = same_reading ds es rest rest' r s more none more' none' first.2 in
    let fronts : f ≡ g = cut ∙ ap (λ (xs : List ℕ). xs ++ rest) first.1 ∙ ap (λ (xs : List ℕ). front' ++ xs) rest_is.fronts ∙ sym cut' in
    record { ones = ap (λ (x : Dirent). x ∷ ds) first.0 ∙ ap (λ (xs : List Dirent). e ∷ xs) rest_is.ones; fronts = fronts; rests = rest_is.rests }

-- Bytes spell one list of entries at most.
pub one_list : (ds es : List Dirent) (bytes : List ℕ) → SpellDirents ds bytes → SpellDirents es bytes → ds ≡ es
one_list ds es bytes h k = (same_reading ds es bytes bytes [] [] h none_in_nothing k none_in_nothing refl).ones

-- what is whole isn't cut
pub not_cut : (ds : List Dirent) (at : ℕ) (bytes : List ℕ) → SpellDirents ds bytes → IsCutAt at bytes → ⊥
not_cut ds at bytes h c =
    let same = same_reading ds c.ones bytes c.front [] c.rest h none_in_nothing c.before c.no_entry (append-nil bytes ∙ c.whole) in
    omega (arith, ap length same.rests, c.more)

-- the first entry that isn't whole is at one place
pub one_cut : (a b : ℕ) (bytes : List ℕ) → IsCutAt a bytes → IsCutAt b bytes → a ≡ b
one_cut a b bytes c d =
    let same = same_reading c.ones d.ones c.front d.front c.rest d.rest c.before c.no_entry d.before d.no_entry (sym c.whole ∙ d.whole) in
    sym c.place ∙ ap length same.fronts ∙ d.place

-- ---- one entry's clean spelling

dirent_text : (out : List ℕ) (d : Dirent) → ((out ++ clean (dirent_head d)) ++ d.name) ++ replicate (filler (length d.name)) 0 ≡ out ++ clean (dirent_parts d)
unfolding dirent_parts
dirent_text out d =
    let zeros = replicate (filler (length d.name)) 0 in
    let tail : clean (Bytes d.name ∷ Unused (filler (length d.name)) ∷ []) ≡ d.name ++ zeros = ap (λ (xs : List ℕ). d.name ++ xs) (append-nil zeros) in
    append_assoc (out ++ clean (dirent_head d)) d.name zeros ∙ append_assoc out (clean (dirent_head d)) (d.name ++ zeros)
    ∙ ap (λ (xs : List ℕ). out ++ xs) (ap (λ (xs : List ℕ). clean (dirent_head d) ++ xs) (sym tail) ∙ sym (clean_append (dirent_head d) (Bytes d.name ∷ Unused (filler (length d.name)) ∷ [])))

-- what was put in three pieces is the entry
pub put_pieces : (d : Dirent) (out a b c head name fill : List ℕ) → head ≡ clean (dirent_head d) → name ≡ d.name → fill ≡ replicate (filler (length d.name)) 0 → a ≡ out ++ head → b ≡ a ++ name → c ≡ b ++ fill → c ≡ out ++ clean (dirent_parts d)
put_pieces d out a b c head name fill h n f x y z = rw (z, y, x, h, n, f) (dirent_text out d)

tail_fits : (d : Dirent) → FitsParts (Bytes d.name ∷ Unused (filler (length d.name)) ∷ [])
unfolding FitsParts
tail_fits d = (tt, (tt, tt))

pub clean_dirent : (d : Dirent) → is_name d.name ≡ true → FitsParts (dirent_head d) → SpellsDirent d (clean (dirent_parts d))
unfolding dirent_parts
clean_dirent d named fits = record { named = named; parts = clean_spells (dirent_parts d) (FitsParts_append (dirent_head d) (Bytes d.name ∷ Unused (filler (length d.name)) ∷ []) fits (tail_fits d)) }

-- ---- steps of reading

-- bytes whose front is these whole entries, before a rest
pub record WholeBefore (ones : List Dirent) (bytes rest : List ℕ) : Type 0 where
  pub front : List ℕ
  pub whole : bytes ≡ front ++ rest
  pub before : SpellDirents ones front

pub entry_here : (ones : List Dirent) (bytes rest : List ℕ) (d : Dirent) → IsBytes bytes → WholeBefore ones bytes rest → first_dirent rest ≡ Some d → FirstEntry d rest
entry_here ones bytes rest d fits w e =
    let is : drop (length w.front) bytes ≡ rest = ap (drop (length w.front)) w.whole ∙ drop_at w.front rest (length w.front) refl in
    first_found rest d (subst (λ (xs : List ℕ). IsBytes xs) is (IsBytes-drop (length w.front) bytes fits)) e

pub entry_fits : (d : Dirent) (rest : List ℕ) → FirstEntry d rest → entry_len (length d.name) ≤ length rest
entry_fits d rest f = omega (arith, ap length f.whole, length-append f.entry f.after, entry_spelled_len d f.entry f.spells)

pub next_whole : (ones : List Dirent) (bytes rest : List ℕ) (d : Dirent) → WholeBefore ones bytes rest → FirstEntry d rest → WholeBefore (ones ++ d ∷ []) bytes (drop (entry_len (length d.name)) rest)
next_whole ones bytes rest d w f =
    let after : drop (entry_len (length d.name)) rest ≡ f.after = ap (drop (entry_len (length d.name))) f.whole ∙ drop_at f.entry f.after (entry_len (length d.name)) (entry_spelled_len d f.entry f.spells) in
    let whole : bytes ≡ (w.front ++ f.entry) ++ f.after = w.whole ∙ ap (λ (xs : List ℕ). w.front ++ xs) f.whole ∙ sym (append_assoc w.front f.entry f.after) in
    record {
      front = w.front ++ f.entry;
      whole = whole ∙ ap (λ (xs : List ℕ). (w.front ++ f.entry) ++ xs) (sym after);
      before = one_more ones d w.front f.entry w.before f.spells;
    }

pub nothing_after : (ones : List Dirent) (bytes rest : List ℕ) → WholeBefore ones bytes rest → rest ≡ [] → SpellDirents ones bytes
nothing_after ones bytes rest w e = subst (λ (xs : List ℕ). SpellDirents ones xs) (sym (w.whole ∙ ap (λ (xs : List ℕ). w.front ++ xs) e ∙ append-nil w.front)) w.before

pub cut_here : (ones : List Dirent) (bytes rest : List ℕ) → WholeBefore ones bytes rest → 0 < length rest → first_dirent rest ≡ None → IsCutAt (length bytes - length rest) bytes
cut_here ones bytes rest w more e = record {
  ones = ones;
  front = w.front;
  rest = rest;
  whole = w.whole;
  before = w.before;
  place = omega (arith, ap length w.whole, length-append w.front rest);
  more = more;
  no_entry = none_there rest e;
}
