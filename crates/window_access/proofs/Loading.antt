-- The bytes that a load gives.
use Rattle.std.proofs.Common.{◌≡◌, ◌∙◌, ap, sym, subst, refl, ℕ, suc, ◌+◌, ◌-◌, ◌%◌, ◌<◌, ◌≤◌, true, false, List, [], ◌∷◌, ◌++◌, length, map, take, drop, get_or, Option, Some, None, arith, append-nil}
use Rattle.std.proofs.lemmas.Bool.{leb-false}
use Rattle.std.proofs.lemmas.Grind.{common_steps, elements}
use Rattle.std.proofs.lemmas.List.{map-append}
use Rattle.std.proofs.lemmas.List.FromFn.{get_or-map-range_with_len, length-map-range_with_len}
use Rattle.std.proofs.lemmas.Option.{slice_get-get_or}
use Rattle.std.proofs.lemmas.Slice.{take-put_mid}
use borrow.Rule.Slice.PartMut.{put_mid}
use Rattle.std.specs.List.{range_with_len}
use Rattle.std.specs.Option.{option_map, unwrap_or}
use Rattle.page_map.specs.Board.{MapView, mapped_byte, byte_behind}
use Rattle.page_map.specs.declared.pages.Page.{Page}
use Rattle.plain_file.specs.Board.{BoardView, bytes_now, size_of}
use Rattle.window_access.specs.Access.{AreShown, IsGranted, IsMapped, byte_of, file_of, fails, is_against, loaded, no_page, target}
use Rattle.window_access.specs.declared.refusals.Cause.{Cause}
use Rattle.window_access.specs.declared.refusals.Cause.TheVariants as causes
use Rattle.window_access.proofs.Finding.{range-append}
use Rattle.window_access.proofs.InPage.{mapped_byte_behind}

-- a list whose elements are those of a function from a number on
filled : (f : ℕ → ℕ) (a : ℕ) (xs : List ℕ) → ((k : ℕ) → k < length xs → get_or xs k 0 ≡ f (a + k)) → xs ≡ map f (range_with_len a (length xs))
filled f a [] h = refl
filled f a (x ∷ xs) h =
    let e : a + 0 ≡ a = omega arith in
    let here : x ≡ f a = h 0 (omega arith) ∙ ap f e in
    let later : (k : ℕ) → k < length xs → get_or xs k 0 ≡ f (a + 1 + k) = λ k less. let i : a + suc k ≡ a + 1 + k = omega arith in h (suc k) (omega arith) ∙ ap f i in
    ap (λ (y : ℕ). y ∷ xs) here ∙ ap (λ (ys : List ℕ). f a ∷ ys) (filled f (a + 1) xs later)

-- a byte that is granted is mapped
pub not_unmapped : (v : BoardView) (map : MapView) (at n : ℕ) → IsGranted v map causes.Unmapped at n → 0 < n → mapped_byte map at ≡ None → ⊥
unfolding is_against
not_unmapped v map at n h some none =
    let e : at + 0 ≡ at = omega arith in
    let no : true ≡ false = ap (is_against v causes.Unmapped) (sym none ∙ ap (mapped_byte map) (sym e)) ∙ h 0 some in
    absurd cc

-- granted bytes of one page lie below the file's end
pub below_end : (v : BoardView) (map : MapView) (at n : ℕ) (p : Page) → mapped_byte map at ≡ Some p → at % 4096 + n ≤ 4096 → IsGranted v map causes.PastEnd at n → (k : ℕ) → k < n → p.foffset + k < size_of (file_of v p)
unfolding is_against
below_end v map at n p e page h k less =
    leb-false (size_of (file_of v p)) (p.foffset + k) (sym (ap (is_against v causes.PastEnd) (mapped_byte_behind map at k (omega arith) ∙ ap (option_map (λ q. byte_behind q k)) e)) ∙ h k less)

-- what is loaded of one page is a part of its file
pub loaded_in_page : (v : BoardView) (m : MapView) (at n : ℕ) (p : Page) → mapped_byte m at ≡ Some p → at % 4096 + n ≤ 4096 → 0 < n → IsGranted v m causes.PastEnd at n → take n (drop p.foffset (bytes_now (file_of v p))) ≡ loaded v m at n
unfolding loaded
loaded_in_page v m at n p e page some h =
    let b : List ℕ = bytes_now (file_of v p) in
    let last : p.foffset + (n - 1) < length b = below_end v m at n p e page h (n - 1) (omega (arith, some)) in
    let long : length (take n (drop p.foffset b)) ≡ n = grind (arith, common_steps, last, some) in
    let each : (k : ℕ) → k < length (take n (drop p.foffset b)) → get_or (take n (drop p.foffset b)) k 0 ≡ byte_of v (target m (at + k)) = λ k less.
    let within : k < n = omega (arith, less, long) in
    let there : target m (at + k) ≡ byte_behind p k = ap (λ (o : Option Page). unwrap_or o no_page) (mapped_byte_behind m at k (omega (arith, within)) ∙ ap (option_map (λ q. byte_behind q k)) e) in
    let here : get_or (take n (drop p.foffset b)) k 0 ≡ get_or b (p.foffset + k) 0 = grind (arith, common_steps, elements, within, last) in
    here ∙ ap (byte_of v) (sym there) in
    filled (λ i. byte_of v (target m i)) at (take n (drop p.foffset b)) each ∙ ap (λ (i : ℕ). map (λ j. byte_of v (target m j)) (range_with_len at i)) long

-- bytes that follow each other
pub loaded-append : (v : BoardView) (m : MapView) (at n k : ℕ) → loaded v m at (n + k) ≡ loaded v m at n ++ loaded v m (at + n) k
unfolding loaded
loaded-append v m at n k = ap (map (λ i. byte_of v (target m i))) (range-append at n k) ∙ map-append (λ i. byte_of v (target m i)) (range_with_len at n) (range_with_len (at + n) k)

pub length-loaded : (v : BoardView) (m : MapView) (at n : ℕ) → length (loaded v m at n) ≡ n
unfolding loaded
length-loaded v m at n = length-map-range_with_len (λ i. byte_of v (target m i)) at n

pub nothing_loaded : (v : BoardView) (m : MapView) (at : ℕ) → [] ≡ loaded v m at 0
unfolding loaded
nothing_loaded v m at = refl

-- one more part of what is loaded
pub load_more : (v : BoardView) (m : MapView) (moffset done n len : ℕ) (out part : List ℕ) → take done out ≡ loaded v m moffset done → done ≤ length out → len ≡ n → part ≡ loaded v m (moffset + done) len → take (done + n) (put_mid done (done + n - done) out part) ≡ loaded v m moffset (done + n)
load_more v m moffset done n len out part before within long new =
    let size : length part ≡ n = ap length new ∙ length-loaded v m (moffset + done) len ∙ long in
    let there : done + n ≡ done + length part = omega (arith, size) in
    take-put_mid done (done + n - done) out part (done + n) there within
    ∙ ap (λ (xs : List ℕ). xs ++ part) before
    ∙ ap (λ (xs : List ℕ). loaded v m moffset done ++ xs) (new ∙ ap (loaded v m (moffset + done)) long)
    ∙ sym (loaded-append v m moffset done n)

-- granted bytes from one of them on
pub granted_part : (v : BoardView) (m : MapView) (cause : Cause) (moffset done n len : ℕ) → IsGranted v m cause moffset len → done + n ≤ len → IsGranted v m cause (moffset + done) n
granted_part v m cause moffset done n len h within k less =
    let e : moffset + (done + k) ≡ moffset + done + k = omega arith in
    subst (λ (i : ℕ). fails v m cause i ≡ false) e (h (done + k) (omega (arith, within, less)))

-- a read that fills a part of one page
pub whole_read : (v : BoardView) (m : MapView) (at n : ℕ) (p : Page) (old new : List ℕ) (count : ℕ) → n ≡ length old → mapped_byte m at ≡ Some p → at % 4096 + n ≤ 4096 → 0 < n → IsGranted v m causes.PastEnd at n →
    count ≡ length (take n (drop p.foffset (bytes_now (file_of v p)))) → new ≡ take n (drop p.foffset (bytes_now (file_of v p))) ++ drop count old → new ≡ loaded v m at n
whole_read v m at n p old new count long e page some h counted is =
    let there = loaded_in_page v m at n p e page some h in
    let all : count ≡ length old = counted ∙ ap length there ∙ length-loaded v m at n ∙ long in
    let nothing : drop count old ≡ [] = grind (arith, common_steps, all) in
    is ∙ ap (λ (xs : List ℕ). take n (drop p.foffset (bytes_now (file_of v p))) ++ xs) nothing ∙ append-nil (take n (drop p.foffset (bytes_now (file_of v p)))) ∙ there

-- granted bytes are mapped
pub granted_mapped : (v : BoardView) (m : MapView) (at n : ℕ) → IsGranted v m causes.Unmapped at n → IsMapped m at n
unfolding is_against
granted_mapped v m at n h k less = λ none. let no : true ≡ false = ap (is_against v causes.Unmapped) (sym none) ∙ h k less in absurd cc

-- each loaded byte is its file's
pub loaded_shown : (v : BoardView) (m : MapView) (moffset len : ℕ) → IsGranted v m causes.PastEnd moffset len → AreShown v m moffset len (loaded v m moffset len)
unfolding loaded is_against
loaded_shown v m moffset len h k p less at =
    let f : ℕ → ℕ = λ i. byte_of v (target m i) in
    let b : List ℕ = bytes_now (file_of v p) in
    let within : p.foffset < length b = leb-false (length b) p.foffset (sym (ap (is_against v causes.PastEnd) at) ∙ h k less) in
    let here : f (moffset + k) ≡ get_or b p.foffset 0 = ap (λ (o : Option Page). byte_of v (unwrap_or o no_page)) at in
    let long : k < length (map f (range_with_len moffset len)) = omega (arith, less, length-map-range_with_len f moffset len) in
    slice_get-get_or (map f (range_with_len moffset len)) k 0 long
    ∙ ap Some (get_or-map-range_with_len f moffset len k (moffset + k) 0 less refl ∙ here)
    ∙ sym (slice_get-get_or b p.foffset 0 within)
