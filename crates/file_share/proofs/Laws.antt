-- The files' half meets the laws of a core that a table shows.
use Rattle.std.proofs.Common.{◌≡◌, ◌≢◌, ℕ, ◌-◌, ◌<◌, ◌≤◌, List, [], map, length, take, max, slice_get, false, Some, refl, sym, ap, ◌∙◌, subst, ⊎_elim, arith, length-set, lt_of_not-le}
use mathlib.Core.Logic.{dite}
use native.Mathlib.Decide.{ℕ_discrete, dec_le}
use lib.ListN.{length-map}
use lib.Seq.{map-set_same}
use Rattle.std.proofs.lemmas.List.{length-take-le}
use Rattle.seats.specs.Views.{root, guests}
use Rattle.seats.specs.Seats.{Laws}
use Rattle.plain_file.specs.declared.operations.Entry.{Entry}
use Rattle.files_core.specs.Files.{Row, FileState, blank, row, no_file, file, whole, entered, seen_to, noted, reaches, unleased, Deed, take_turn, set_size, give_turn, lease, note_size, unlease, set_bar, clear_bar, made, FileDeed, after, is_guest}
use Rattle.files_core.specs.Good.{Within}
use Rattle.files_core.specs.Laws.{Begins}
use Rattle.files_core.specs.Shown.{Shown, shown_of, shown}
use Rattle.files_core.proofs.Places.{at_put, beyond}
use Rattle.files_core.proofs.Keeps.{same_leases}
use Rattle.files_core.proofs.AllKeep.{files_keep}
use Rattle.files_core.proofs.Others.{others_see}
use Rattle.file_share.specs.Table.{Core, MayLease, MayDo, done, GoodCore, ShowsWords, mine, unseen, in_list, all_unseen, first_of, introduced_file, introduced, informed_file, informed, only_seen, just_seen, longer, merged, merged_files, Turnless, Behind, files_kit}
use Rattle.file_share.proofs.Places.{map_blank, get_map, first_kept, row_here, row_else, row_same, seen_grows}
use Rattle.file_share.proofs.Parts.{is_not}
use Rattle.file_share.proofs.LawsOfMoves.{map_map, map_same, file_changed, frame, blank_frame, first_frame, home_frame, words_frame, good_frame, bare_frame, zero_take, both_begin, take_begins, longer_take, begun_at, nothing_at, merged_at, merged_map, introduced_keeps, informed_keeps}

-- ---- deeds

-- who may not lease is left without a lease
own_leases : (core : Core) (c : FileState) (g : ℕ) → g < length c.rows → (d : Deed) → MayLease core g d → core.leasers ≤ g → (row c g).leases ≡ 0 → (row (made c g d) g).leases ≡ 0
own_leases core c g near take_turn may le was = ap (λ (r : Row). r.leases) (row_here c g (entered (length c.history) (row c g)) near) ∙ was
own_leases core c g near (set_size e) may le was = was
own_leases core c g near give_turn may le was = ap (λ (r : Row). r.leases) (row_here c g (seen_to (length (whole c)) (row c g)) near) ∙ was
own_leases core c g near lease may le was = absurd (omega arith)
own_leases core c g near note_size may le was = ap (λ (r : Row). r.leases) (row_here c g (noted c.size (reaches c g) (row c g)) near) ∙ was
own_leases core c g near unlease may le was = ap (λ (r : Row). r.leases) (row_here c g (unleased (row c g)) near) ∙ ap (λ (n : ℕ). n - 1) was
own_leases core c g near set_bar may le was = was
own_leases core c g near clear_bar may le was = was

module _ (c : Core) (g : ℕ) (d : FileDeed) where
  it : FileState
  it = made (file c.files d.at) g d.deed

  firsts_same : map first_of (after c.files g d) ≡ map first_of c.files
  firsts_same = map-set_same first_of c.files d.at (made (file c.files d.at) g d.deed) no_file (first_kept (file c.files d.at) g d.deed)

  unseen_same : all_unseen (done c g d) ≡ all_unseen c
  unseen_same = let e = map_blank unseen c.files d.at (made (file c.files d.at) g d.deed) in λ i. record { firsts = firsts_same i; leasers = c.leasers; files = e i }

  module _ (l : g < guests) (good : GoodCore c) (ok : MayDo c g d) where
    has_row : g < length (file c.files d.at).rows
    has_row = let all = (good.files_good.files_ok d.at ok.allowed.known).rows_all in omega arith

    leasers_after : (f n : ℕ) → c.leasers ≤ n → (row (file (after c.files g d) f) n).leases ≡ 0
    leasers_after f n le = ⊎_elim
        (λ s. subst (λ (x : FileState). (row x n).leases ≡ 0) (sym s.1) (dite (ℕ_discrete n g)
        (λ e. subst (λ (m : ℕ). (row (made (file c.files d.at) g d.deed) m).leases ≡ 0) (sym e) (own_leases c (file c.files d.at) g has_row d.deed ok.leaser (omega arith) (good.leasers_only d.at g (omega arith))))
        (λ ne. ap (λ (r : Row). r.leases) (row_same (file c.files d.at) g n d.deed ne) ∙ good.leasers_only d.at n le)))
        (λ s. subst (λ (x : FileState). (row x n).leases ≡ 0) (sym s.1) (good.leasers_only f n le))
        (at_put c.files d.at f (made (file c.files d.at) g d.deed) no_file ok.allowed.known)

    good_after : GoodCore (done c g d)
    good_after = record { files_good = files_keep guests c.files g l good.files_good d ok.allowed; leasers_only = leasers_after }

    others_after : (n : ℕ) → n ≢ g → n < guests → mine n (done c g d) ≡ mine n c
    others_after n ne few = let e = others_see guests g n c.files d ne few good.files_good ok.allowed in λ i. record { firsts = firsts_same i; leasers = c.leasers; files = e i }

    behind_then : (n : ℕ) → n ≢ g → Behind n c → Behind n (done c g d)
    behind_then n ne was f near =
        let long = length-set c.files d.at (made (file c.files d.at) g d.deed) in
        let near' : f < length c.files = omega arith in
        let x : FileState = file c.files d.at in
        let ok_file = good.files_good.files_ok d.at ok.allowed.known in ⊎_elim
        (λ s. subst (λ (y : FileState). (row y n).seen ≤ (row y root).seen) (sym s.1)
        (let still = ap (λ (z : Row). z.seen) (row_same x g n d.deed ne) in
        let up = seen_grows x g has_row (ok_file.rows_ok g l).seen root d.deed in
        let had = subst (λ (i : ℕ). (row (file c.files i) n).seen ≤ (row (file c.files i) root).seen) s.0 (was f near') in omega arith))
        (λ s. subst (λ (y : FileState). (row y n).seen ≤ (row y root).seen) (sym s.1) (was f near'))
        (at_put c.files d.at f (made x g d.deed) no_file ok.allowed.known)

-- ---- a new pass

abbrev new_row : FileState → Row
new_row c = record blank { seen = (row c root).seen }

module _ (c : Core) (n : ℕ) (l : n < guests) (good : GoodCore c) (bare : mine n c ≡ all_unseen c) where
  its_row : (f : ℕ) → f < length c.files → n < length (file c.files f).rows
  its_row f near = let all = (good.files_good.files_ok f near).rows_all in omega arith

  new_keeps : GoodCore (introduced n c)
  new_keeps = record {
    files_good = good_frame n new_row c.files good.files_good (λ f near. let x : FileState = file c.files f in let e = nothing_at c n bare f in let ok = good.files_good.files_ok f near in
        introduced_keeps x n l ok (is_not n x.turn (ap (λ (m : Shown). m.turn) e)) (ap (λ (m : Shown). m.leases) e) (zero_take (row x n).seen x.history (ok.rows_ok n l).seen (ap (λ (m : Shown). m.seen) e)));
    leasers_only = λ f g le. bare_frame n new_row c.files f g (good.leasers_only f g le) (λ _. refl);
  }

  new_shows : (ws : List ℕ) → ShowsWords ws c → ShowsWords ws (introduced n c)
  new_shows ws = words_frame n new_row ws c (λ f near. same_leases (file c.files f) n (new_row (file c.files f)) (its_row f near) (sym (ap (λ (m : Shown). m.leases) (nothing_at c n bare f))))

  new_part : (f : ℕ) → f < length c.files → shown_of n (introduced_file n (file c.files f)) ≡ only_seen (shown_of root (file c.files f))
  new_part f near = let x : FileState = file c.files f in let e = nothing_at c n bare f in let r = row_here x n (new_row x) (its_row f near) in
      let t : is_guest n x.turn ≡ false = ap (λ (m : Shown). m.turn) e in let b : is_guest n x.bar ≡ false = ap (λ (m : Shown). m.bar) e in
      λ i. record { seen = take (r i).seen x.history; turn = t i; applied = ap (λ (m : Shown). m.applied) e i; leases = (r i).leases; noted = (r i).noted; bar = b i; notes = (r i).notes }

  new_knows : mine n (introduced n c) ≡ just_seen (mine root c)
  new_knows = let e = map_map (introduced_file n) (shown_of n) c.files ∙ (map_same (λ x. shown_of n (introduced_file n x)) (λ x. only_seen (shown_of root x)) c.files no_file new_part ∙ sym (map_map (shown_of root) only_seen c.files)) in
      let b = first_frame n new_row c.files in λ i. record { firsts = b i; leasers = c.leasers; files = e i }

-- ---- a pass that is joined

abbrev told_row : ℕ → FileState → Row
told_row n c = record (row c root) { seen = max (row c root).seen (row c n).seen }

module _ (c : Core) (n : ℕ) (good : GoodCore c) where
  first_row : (f : ℕ) → f < length c.files → root < length (file c.files f).rows
  first_row f near = let all = (good.files_good.files_ok f near).rows_all in omega arith

  told_keeps : n < guests → Turnless (mine root c) → GoodCore (informed n c)
  told_keeps l idle = record {
    files_good = good_frame root (told_row n) c.files good.files_good (λ f near. let x : FileState = file c.files f in
        informed_keeps x n l (good.files_good.files_ok f near) (is_not root x.turn (sym (ap (λ (m : Shown). m.turn) (get_map (shown_of root) c.files f no_file)) ∙ idle f)));
    leasers_only = λ f g le. bare_frame root (told_row n) c.files f g (good.leasers_only f g le) (λ e. good.leasers_only f root (omega arith));
  }

  told_shows : (ws : List ℕ) → ShowsWords ws c → ShowsWords ws (informed n c)
  told_shows ws = words_frame root (told_row n) ws c (λ f near. same_leases (file c.files f) root (told_row n (file c.files f)) (first_row f near) refl)

  told_part : n < guests → (f : ℕ) → f < length c.files → record (shown_of root (file c.files f)) { seen = longer (shown_of root (file c.files f)).seen (shown_of n (file c.files f)).seen } ≡ shown_of root (informed_file n (file c.files f))
  told_part l f near = let x : FileState = file c.files f in let ok = good.files_good.files_ok f near in let r = sym (row_here x root (told_row n x) (first_row f near)) in
      let e = longer_take (row x root).seen (row x n).seen x.history (ok.rows_ok root (omega arith)).seen (ok.rows_ok n l).seen ∙ ap (λ (y : Row). take y.seen x.history) r in
      λ i. record (shown_of root x) { seen = e i; leases = (r i).leases; noted = (r i).noted; notes = (r i).notes }

  told_knows : n < guests → mine root (informed n c) ≡ merged (mine root c) (mine n c)
  told_knows l = let e = map_map (informed_file n) (shown_of root) c.files ∙ sym (merged_map (shown_of root) (shown_of n) (λ x. shown_of root (informed_file n x)) c.files no_file (told_part l)) in
      let b = first_frame root (told_row n) c.files in λ i. record { firsts = b i; leasers = c.leasers; files = e i }

  -- of what another guest has seen, at this row of the first
  told_rows : (m f : ℕ) → f < length c.files → m ≢ root → (row (file c.files f) m).seen ≤ (told_row n (file c.files f)).seen → (row (file (informed n c).files f) m).seen ≤ (row (file (informed n c).files f) root).seen
  told_rows m f near ne le = let x : FileState = file c.files f in subst (λ (y : FileState). (row y m).seen ≤ (row y root).seen) (sym (file_changed root (told_row n) c.files f))
      (let p = ap (λ (z : Row). z.seen) (row_else x root m (told_row n x) ne) in let q = ap (λ (z : Row). z.seen) (row_here x root (told_row n x) (first_row f near)) in omega arith)

  told_stays : (m : ℕ) → m ≢ root → Behind m c → Behind m (informed n c)
  told_stays m ne was f near = let long = length-map c.files (informed_file n) in let near' : f < length c.files = omega arith in let h = was f near' in told_rows m f near' ne (omega arith)

  told_is : n ≢ root → Behind n (informed n c)
  told_is ne f near = let long = length-map c.files (informed_file n) in told_rows n f (omega arith) ne (omega arith)

  -- What is seen after a join is begun by what each had seen, and of the first guest nothing is there that it had not seen.
  seen_now : (f : ℕ) → in_list (merged_files (shown root c.files) (shown n c.files)) f ≡ record (shown_of root (file c.files f)) { seen = longer (shown_of root (file c.files f)).seen (shown_of n (file c.files f)).seen }
  seen_now f = merged_at c.files root n f

  told_begins : (f : ℕ) → Begins (in_list (shown root c.files) f).seen (in_list (merged (mine root c) (mine n c)).files f).seen × Begins (in_list (shown n c.files) f).seen (in_list (merged (mine root c) (mine n c)).files f).seen
  told_begins f = let x : FileState = file c.files f in subst (λ (z : Shown × Shown × Shown). Begins z.0.seen z.1.seen × Begins z.2.seen z.1.seen)
      (λ i. (sym (get_map (shown_of root) c.files f no_file) i, sym (seen_now f) i, sym (get_map (shown_of n) c.files f no_file) i))
      (both_begin (shown_of root x).seen (shown_of n x).seen x.history (take_begins (row x root).seen x.history) (take_begins (row x n).seen x.history))

  told_own : n < guests → (f : ℕ) → Within root (length (in_list (shown root c.files) f).seen) (in_list (merged (mine root c) (mine n c)).files f).seen
  told_own l f k e at is = let x : FileState = file c.files f in
      let at' : slice_get (longer (take (row x root).seen x.history) (take (row x n).seen x.history)) k ≡ Some e = subst (λ (m : Shown). slice_get m.seen k ≡ Some e) (seen_now f) at in
      subst (λ (m : Shown). k < length m.seen) (sym (get_map (shown_of root) c.files f no_file)) (dite (dec_le (length c.files) f)
      (λ far. absurd (nothing k e (subst (λ (y : FileState). slice_get (longer (take (row y root).seen y.history) (take (row y n).seen y.history)) k ≡ Some e) (beyond c.files f no_file far) at')))
      (λ ne. let near : f < length c.files = lt_of_not-le ne in let ok = good.files_good.files_ok f near in let a = (ok.rows_ok root (omega arith)).seen in let b = (ok.rows_ok n l).seen in
      let there = begun_at (take (max (row x root).seen (row x n).seen) x.history) x.history (take_begins (max (row x root).seen (row x n).seen) x.history) k e
      (subst (λ (h : List Entry). slice_get h k ≡ Some e) (longer_take (row x root).seen (row x n).seen x.history a b) at') in
      let lt = (ok.rows_ok root (omega arith)).own k e there is in let long = length-take-le (row x root).seen x.history a in omega arith))
    where
      nothing : (k : ℕ) (e : Entry) → slice_get [] k ≡ Some e → ⊥
      nothing k e at = cc

pub files_laws : Laws files_kit
files_laws = record {
  keeps = λ c g d l good ok. good_after c g d l good ok;
  others = λ c g n d ne l few good ok. others_after c g d l good ok n ne few;
  unseen_after = λ c g d. unseen_same c g d;
  behind_after = λ c g n d ne l good ok was. behind_then c g d l good ok n ne was;
  new_good = λ c n l ne good bare. new_keeps c n l good bare;
  new_words = λ ws c n l ne good bare w. new_shows c n l good bare ws w;
  new_homes = λ c n. home_frame n new_row c.files;
  new_others = λ c n m ne. let e = frame n new_row c.files m ne in let b = first_frame n new_row c.files in λ i. record { firsts = b i; leasers = c.leasers; files = e i };
  new_mine = λ c n l ne good bare. new_knows c n l good bare;
  new_unseen = λ c n. let e = blank_frame n new_row c.files in let b = first_frame n new_row c.files in λ i. record { firsts = b i; leasers = c.leasers; files = e i };
  new_behind = λ c n m ne far was f near. let long = length-map c.files (introduced_file n) in let x : FileState = file c.files f in let h = was f (omega arith) in
      subst (λ (y : FileState). (row y m).seen ≤ (row y root).seen) (sym (file_changed n new_row c.files f))
      (let p = ap (λ (z : Row). z.seen) (row_else x n m (new_row x) ne) in let q = ap (λ (z : Row). z.seen) (row_else x n root (new_row x) (λ e. far (sym e))) in omega arith);
  told_good = λ c n l ne good idle idle'. told_keeps c n good l idle;
  told_words = λ ws c n good w. told_shows c n good ws w;
  told_homes = λ c n. home_frame root (told_row n) c.files;
  told_others = λ c n m ne. let e = frame root (told_row n) c.files m ne in let b = first_frame root (told_row n) c.files in λ i. record { firsts = b i; leasers = c.leasers; files = e i };
  told_mine = λ c n l good. told_knows c n good l;
  told_unseen = λ c n. let e = blank_frame root (told_row n) c.files in let b = first_frame root (told_row n) c.files in λ i. record { firsts = b i; leasers = c.leasers; files = e i };
  told_behind = λ c n m ne good was. told_stays c n good m ne was;
  told_new = λ c n ne good. told_is c n good ne;
  told_begun = λ c n l good. ((refl, λ f. ((told_begins c n good f).0, told_own c n good l f)), (refl, λ f. (told_begins c n good f).1));
}
