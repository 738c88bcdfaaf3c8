-- The longest prefix of entries that fits, and the bytes of entries one after the other.
use Rattle.std.proofs.Common.{◌≡◌, ℕ, ◌+◌, ◌-◌, ◌<◌, ◌≤◌, List, [], ◌∷◌, ◌++◌, length, get_or, take, drop, refl, sym, subst, ◌∙◌, ap, append_assoc, arith, inl, inr}
use Rattle.std.specs.List.{flat_map}
use Rattle.std.proofs.lemmas.Bool.{cases_lt, le-leb, lt-leb}
use Rattle.std.proofs.lemmas.List.{append-nil, drop_more, drop_all, take_more, length-append}
use Rattle.std.proofs.lemmas.List.Concat.{flat_map-cons}
use Rattle.std.proofs.lemmas.Grind.{flat_map-append}
use Rattle.fuse_wire.specs.Layout.{clean, parts_len}
use Rattle.fuse_wire.proofs.Laws.{clean_append, clean_len, parts_len_append}
use Rattle.fuse_codec.specs.declared.replies.Dirent.{Dirent}
use Rattle.fuse_codec.specs.Dirents.{entry_len, dirent_head, dirent_parts, SpellsDirent, SpellDirents, clean_dirents, dirents_len, fitting}
use Rattle.fuse_codec.proofs.DirentLaws.{one_more}

-- ---- how many bytes entries take

parts_are : (d : Dirent) → parts_len (dirent_parts d) ≡ entry_len (length d.name)
unfolding dirent_parts dirent_head entry_len
parts_are d = omega arith

pub no_len : dirents_len [] ≡ 0
unfolding dirents_len
no_len = refl

pub dirents_len-cons : (d : Dirent) (ds : List Dirent) → dirents_len (d ∷ ds) ≡ entry_len (length d.name) + dirents_len ds
unfolding dirents_len
dirents_len-cons d ds = omega (arith, ap parts_len (flat_map-cons dirent_parts d ds), parts_len_append (dirent_parts d) (flat_map dirent_parts ds), parts_are d)

pub dirents_len-append : (ds es : List Dirent) → dirents_len (ds ++ es) ≡ dirents_len ds + dirents_len es
unfolding dirents_len
dirents_len-append ds es = ap parts_len (flat_map-append dirent_parts ds es) ∙ parts_len_append (flat_map dirent_parts ds) (flat_map dirent_parts es)

pub dirents_len_more : (names : List Dirent) (i : ℕ) (one : Dirent) → i < length names → dirents_len (take (i + 1) names) ≡ dirents_len (take i names) + entry_len (length (get_or names i one).name)
dirents_len_more names i one lt =
    let x = get_or names i one in
    omega (arith, ap dirents_len (take_more names i one lt), dirents_len-append (take i names) (x ∷ []), dirents_len-cons x [], no_len)

pub dirents_len_rest : (names : List Dirent) (i : ℕ) (one : Dirent) → i < length names → dirents_len (drop i names) ≡ entry_len (length (get_or names i one).name) + dirents_len (drop (i + 1) names)
dirents_len_rest names i one lt = ap dirents_len (drop_more names i one lt) ∙ dirents_len-cons (get_or names i one) (drop (i + 1) names)

pub clean_dirents_len : (ds : List Dirent) → length (clean_dirents ds) ≡ dirents_len ds
unfolding dirents_len
clean_dirents_len ds = clean_len (flat_map dirent_parts ds)

-- ---- the longest prefix that fits

pub one_fits : (size : ℕ) (d : Dirent) (ds : List Dirent) → entry_len (length d.name) ≤ size → fitting size (d ∷ ds) ≡ d ∷ fitting (size - entry_len (length d.name)) ds
unfolding fitting
one_fits size d ds le = rw (le-leb (entry_len (length d.name)) size le) refl

pub none_fits : (size : ℕ) (d : Dirent) (ds : List Dirent) → size < entry_len (length d.name) → fitting size (d ∷ ds) ≡ []
unfolding fitting
none_fits size d ds lt = rw (lt-leb (entry_len (length d.name)) size lt) refl

pub fitting_none : (size : ℕ) → fitting size [] ≡ []
unfolding fitting
fitting_none size = refl

-- it is within the size
pub fitting_within : (size : ℕ) (ds : List Dirent) → dirents_len (fitting size ds) ≤ size
fitting_within size [] = omega (arith, ap dirents_len (fitting_none size), no_len)
fitting_within size (d ∷ ds) =
    let n = entry_len (length d.name) in
    elim (cases_lt size n) [
      | inl lt ↦ omega (arith, ap dirents_len (none_fits size d ds lt), no_len)
      | inr le ↦ omega (arith, ap dirents_len (one_fits size d ds le), dirents_len-cons d (fitting (size - n) ds), fitting_within (size - n) ds)
    ]

-- it is a prefix
pub fitting_prefix : (size : ℕ) (ds : List Dirent) → (rest : List Dirent) × (ds ≡ fitting size ds ++ rest)
fitting_prefix size [] = ([], ap (λ (xs : List Dirent). xs ++ []) (sym (fitting_none size)))
fitting_prefix size (d ∷ ds) =
    let n = entry_len (length d.name) in
    elim (cases_lt size n) [
      | inl lt ↦ (d ∷ ds, ap (λ (xs : List Dirent). xs ++ d ∷ ds) (sym (none_fits size d ds lt)))
      | inr le ↦
          let more = fitting_prefix (size - n) ds in
          (more.0, ap (λ (xs : List Dirent). d ∷ xs) more.1 ∙ ap (λ (xs : List Dirent). xs ++ more.0) (sym (one_fits size d ds le)))
    ]

-- no longer prefix fits
pub fitting_longest : (size : ℕ) (longer more : List Dirent) → dirents_len longer ≤ size → length longer ≤ length (fitting size (longer ++ more))
fitting_longest size [] more le = omega arith
fitting_longest size (d ∷ ds) more le =
    let n = entry_len (length d.name) in
    let len = dirents_len-cons d ds in
    let one : n ≤ size = omega arith in
    omega (arith, ap length (one_fits size d (ds ++ more) one), fitting_longest (size - n) ds more (omega arith))

-- ---- counting the prefix, step by step

pub count_more : (names : List Dirent) (size used i : ℕ) (one : Dirent) (total : List Dirent) → i < length names → entry_len (length (get_or names i one).name) ≤ size - used
    → take i names ++ fitting (size - used) (drop i names) ≡ total → take (i + 1) names ++ fitting (size - (used + entry_len (length (get_or names i one).name))) (drop (i + 1) names) ≡ total
count_more names size used i one total lt le so_far =
    let x = get_or names i one in
    let n = entry_len (length x.name) in
    let rest = drop (i + 1) names in
    let left : size - used - n ≡ size - (used + n) = omega arith in
    let opened : fitting (size - used) (drop i names) ≡ x ∷ fitting (size - (used + n)) rest = ap (fitting (size - used)) (drop_more names i one lt) ∙ one_fits (size - used) x rest le ∙ ap (λ (k : ℕ). x ∷ fitting k rest) left in
    ap (λ (xs : List Dirent). xs ++ fitting (size - (used + n)) rest) (take_more names i one lt) ∙ append_assoc (take i names) (x ∷ []) (fitting (size - (used + n)) rest)
    ∙ ap (λ (xs : List Dirent). take i names ++ xs) (sym opened) ∙ so_far

pub count_stops : (names : List Dirent) (size used i : ℕ) (one : Dirent) (total : List Dirent) → i < length names → size - used < entry_len (length (get_or names i one).name)
    → take i names ++ fitting (size - used) (drop i names) ≡ total → take i names ≡ total
count_stops names size used i one total lt less so_far =
    let x = get_or names i one in
    let nothing : fitting (size - used) (drop i names) ≡ [] = ap (fitting (size - used)) (drop_more names i one lt) ∙ none_fits (size - used) x (drop (i + 1) names) less in
    sym (append-nil (take i names)) ∙ ap (λ (xs : List Dirent). take i names ++ xs) (sym nothing) ∙ so_far

pub count_end : (names : List Dirent) (size used i : ℕ) (total : List Dirent) → length names ≤ i → take i names ++ fitting (size - used) (drop i names) ≡ total → take i names ≡ total
count_end names size used i total le so_far =
    let nothing : fitting (size - used) (drop i names) ≡ [] = ap (fitting (size - used)) (drop_all i names le) ∙ fitting_none (size - used) in
    sym (append-nil (take i names)) ∙ ap (λ (xs : List Dirent). take i names ++ xs) (sym nothing) ∙ so_far

-- ---- putting entries, step by step

clean_dirents_more : (names : List Dirent) (i : ℕ) (one : Dirent) → i < length names → clean_dirents (take (i + 1) names) ≡ clean_dirents (take i names) ++ clean (dirent_parts (get_or names i one))
clean_dirents_more names i one lt =
    let x = get_or names i one in
    let last : flat_map dirent_parts (x ∷ []) ≡ dirent_parts x = flat_map-cons dirent_parts x [] ∙ append-nil (dirent_parts x) in
    ap clean_dirents (take_more names i one lt) ∙ ap clean (flat_map-append dirent_parts (take i names) (x ∷ [])) ∙ clean_append (flat_map dirent_parts (take i names)) (flat_map dirent_parts (x ∷ []))
    ∙ ap (λ ps. clean_dirents (take i names) ++ clean ps) last

pub put_more : (names : List Dirent) (i : ℕ) (one : Dirent) (out : List ℕ) → i < length names → out ≡ clean_dirents (take i names) → out ++ clean (dirent_parts (get_or names i one)) ≡ clean_dirents (take (i + 1) names)
put_more names i one out lt so_far = ap (λ (xs : List ℕ). xs ++ clean (dirent_parts (get_or names i one))) so_far ∙ sym (clean_dirents_more names i one lt)

pub spelled_more : (names : List Dirent) (i : ℕ) (one : Dirent) (out : List ℕ) → i < length names → SpellDirents (take i names) out → SpellsDirent (get_or names i one) (clean (dirent_parts (get_or names i one))) → SpellDirents (take (i + 1) names) (out ++ clean (dirent_parts (get_or names i one)))
spelled_more names i one out lt so_far now =
    let x = get_or names i one in
    subst (λ (xs : List Dirent). SpellDirents xs (out ++ clean (dirent_parts x))) (sym (take_more names i one lt)) (one_more (take i names) x out (clean (dirent_parts x)) so_far now)

pub room_left : (names : List Dirent) (i : ℕ) (one : Dirent) (out : List ℕ) (room : ℕ) → i < length names → length out + dirents_len (drop i names) ≤ room
    → (length out + entry_len (length (get_or names i one).name) ≤ room) × (length (out ++ clean (dirent_parts (get_or names i one))) + dirents_len (drop (i + 1) names) ≤ room)
room_left names i one out room lt le =
    let x = get_or names i one in
    let rest = dirents_len_rest names i one lt in
    (omega arith, omega (arith, length-append out (clean (dirent_parts x)), clean_len (dirent_parts x), parts_are x))
