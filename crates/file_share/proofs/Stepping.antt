-- The steps of turns and sizes are deeds that are allowed.
use Rattle.std.proofs.Common.{◌≡◌, ◌≢◌, ℕ, ◌+◌, ◌*◌, ◌<◌, ◌≤◌, List, [], ◌∷◌, ◌++◌, map, length, set, get_or, true, eqb, Option, Some, None, refl, sym, ap, ◌∙◌, subst, arith, get_or-set_other, get_or-set_same, length-set}
use Rattle.std.specs.Prelude.{MatchOption, ⊤}
use mathlib.Core.Logic.{dite}
use mathlib.Core.Option.{none, some, some-ne-none}
use native.Mathlib.Decide.{ℕ_discrete}
use lib.ListN.{get_elem?, length-map}
use lib.Seq.{map-set}
use prog.Atomic.{either}
use Rattle.atomic_table.specs.Table.{State, Act, step, takes, gives, put_back, rest, stepped, homes_after, carried_after, Valid, Allows}
use Rattle.atomic_table.proofs.Lists.{set_again, at_map}
use Rattle.seats.specs.Views.{unused, root, guests}
use Rattle.seats.specs.Seats.{Shows, seeing}
use Rattle.seats.proofs.Seating.{moved, event, exchanged, all_back}
use Rattle.plain_file.specs.declared.operations.Entry.{Entry}
use Rattle.plain_file.specs.File.{max_file, reach}
use Rattle.plain_file.specs.History.{Past}
use Rattle.files_core.specs.Files.{Row, FileState, row, file, leases, with_entry, whole, sized, MaySet, reaches, with_row, entered, seen_to, noted, Deed, take_turn, set_size, give_turn, note_size, made, on, Allowed, Turnless}
use Rattle.files_core.specs.Good.{size_of}
use Rattle.files_core.proofs.Keeps.{same_leases}
use Rattle.files_core.proofs.Sizes.{size_more}
use Rattle.file_share.specs.Table.{Core, MayDo, MayLease, done, ShowsFile, ShowsWords, number_of, turn_word, size_word, lease_word, past_of, at_home, home, Mine, Knows, mine, in_list, part, first_at, files_kit}
use Rattle.file_share.specs.Steps.{Us, DoesOn, Always, Never, IfAllIn, Takes, tries_turn, sets, gives_turn, notes_size, NoTurn}
use Rattle.file_share.proofs.Places.{at_file, in_range}
use Rattle.file_share.proofs.Parts.{first_is, turn_is, turn_not, bar_is, applied_is, seen_is}
use Rattle.file_share.proofs.Laws.{files_laws}
use Rattle.file_share.proofs.Accounts.{never_of, accounted}

abbrev pub St : Type 0
St = State (Option Past) Knows

pub for_file : (F : ℕ → Type 0) (f k : ℕ) → F f → (f' : ℕ) → 16 * f + k ≡ 16 * f' + k → F f'
for_file F f k a f' e = let same : f ≡ f' = omega arith in subst F same a

-- a number of 0 is nobody's
pub no_number : (o : Option ℕ) → number_of o ≡ 0 → o ≡ None
no_number None e = refl
no_number (Some g) e = absurd (omega arith)

pub turnless : (v : Knows) (c : Core) → v.mine ≡ mine v.guest c → NoTurn v → Turnless c.files v.guest
turnless v c is idle f = turn_not v c is f (idle f)

-- the table before the step
module _ (slots id : ℕ) (me : Us) (f : ℕ) (live : me.0.live ≡ true) (inside : f < slots) where
  module _ (s : St) (r : Shows files_kit s) (deep : length s.homes ≡ slots) (at : get_elem? s.views id ≡ some me.0) where
    pub many : length r.core.files ≡ slots
    many = sym (length-map r.core.files home) ∙ (ap length (sym r.homes_are) ∙ deep)

    pub near : f < length r.core.files
    near = let m = many in omega arith

    home_at : get_elem? s.homes f ≡ some (home (file r.core.files f))
    home_at = ap (λ l. get_elem? l f) r.homes_are ∙ at_map home r.core.files f (file r.core.files f) (at_file r.core.files f near)

    pub word_in : (k : ℕ) → 0 < k → k < 4 → 16 * f + k < length s.words
    word_in k lo hi = let w = r.words.wide in let m = many in omega arith

    pub small : me.0.guest < guests
    small = (r.views_fit id me.0 at live).small

    pub part_of : me.0.mine ≡ mine me.0.guest r.core
    part_of = (r.views_fit id me.0 at live).part

    pub rows_in : me.0.guest < length (file r.core.files f).rows
    rows_in = let a = small in let b = (r.good.files_good.files_ok f near).rows_all in omega arith

    -- a row's change that leaves its leases leaves the lease word
    lease_same : (x : Row) → x.leases ≡ (row (file r.core.files f) me.0.guest).leases → leases (with_row (file r.core.files f) me.0.guest x) + 65536 * number_of (file r.core.files f).bar ≡ lease_word (file r.core.files f)
    lease_same x e = ap (λ (z : ℕ). z + 65536 * number_of (file r.core.files f).bar) (same_leases (file r.core.files f) me.0.guest x rows_in e)

    -- the words where one of the file's was changed
    in_turn_word : (c' : FileState) (n : ℕ) → turn_word c' ≡ n → size_word c' ≡ size_word (file r.core.files f) → lease_word c' ≡ lease_word (file r.core.files f) → ShowsFile (set s.words (16 * f + 1) n) f c'
    in_turn_word c' n a b d = let w = r.words.each f near in record {
      turn = get_or-set_same s.words (16 * f + 1) n 0 (word_in 1 (omega arith) (omega arith)) ∙ sym a;
      size = get_or-set_other s.words (16 * f + 1) (16 * f + 2) n 0 (λ e. omega arith) ∙ (w.size ∙ sym b);
      lease = get_or-set_other s.words (16 * f + 1) (16 * f + 3) n 0 (λ e. omega arith) ∙ (w.lease ∙ sym d);
    }

    in_size_word : (c' : FileState) (n : ℕ) → turn_word c' ≡ turn_word (file r.core.files f) → size_word c' ≡ n → lease_word c' ≡ lease_word (file r.core.files f) → ShowsFile (set s.words (16 * f + 2) n) f c'
    in_size_word c' n a b d = let w = r.words.each f near in record {
      turn = get_or-set_other s.words (16 * f + 2) (16 * f + 1) n 0 (λ e. omega arith) ∙ (w.turn ∙ sym a);
      size = get_or-set_same s.words (16 * f + 2) n 0 (word_in 2 (omega arith) (omega arith)) ∙ sym b;
      lease = get_or-set_other s.words (16 * f + 2) (16 * f + 3) n 0 (λ e. omega arith) ∙ (w.lease ∙ sym d);
    }

    pub in_lease_word : (c' : FileState) (n : ℕ) → turn_word c' ≡ turn_word (file r.core.files f) → size_word c' ≡ size_word (file r.core.files f) → lease_word c' ≡ n → ShowsFile (set s.words (16 * f + 3) n) f c'
    in_lease_word c' n a b d = let w = r.words.each f near in record {
      turn = get_or-set_other s.words (16 * f + 3) (16 * f + 1) n 0 (λ e. omega arith) ∙ (w.turn ∙ sym a);
      size = get_or-set_other s.words (16 * f + 3) (16 * f + 2) n 0 (λ e. omega arith) ∙ (w.size ∙ sym b);
      lease = get_or-set_same s.words (16 * f + 3) n 0 (word_in 3 (omega arith) (omega arith)) ∙ sym d;
    }

    -- the other files' words are as they were
    pub put_file : (k n : ℕ) (d : Deed) → 0 < k → k < 4 → ShowsFile (set s.words (16 * f + k) n) f (made (file r.core.files f) me.0.guest d) → ShowsWords (set s.words (16 * f + k) n) (done r.core me.0.guest (on f d))
    put_file k n d lo hi now = let cs : List FileState = r.core.files in let c' : FileState = made (file cs f) me.0.guest d in record {
      wide = length-set s.words (16 * f + k) n ∙ (r.words.wide ∙ ap (λ (z : ℕ). 16 * z + 1) (sym (length-set cs f c')));
      each = λ i l. dite (ℕ_discrete i f)
          (λ e. subst (λ (j : ℕ). ShowsFile (set s.words (16 * f + k) n) j (file (set cs f c') j)) (sym e) (subst (ShowsFile (set s.words (16 * f + k) n) f) (sym (get_or-set_same cs f c' _ near)) now))
          (λ ne. let w = r.words.each i (let same = length-set cs f c' in omega arith) in subst (ShowsFile (set s.words (16 * f + k) n) i) (sym (get_or-set_other cs f i c' _ ne)) record {
            turn = get_or-set_other s.words (16 * f + k) (16 * i + 1) n 0 (λ e. ne (omega arith)) ∙ w.turn;
            size = get_or-set_other s.words (16 * f + k) (16 * i + 2) n 0 (λ e. ne (omega arith)) ∙ w.size;
            lease = get_or-set_other s.words (16 * f + k) (16 * i + 3) n 0 (λ e. ne (omega arith)) ∙ w.lease;
          });
    }

    -- the homes after a deed on the file
    homes_put : (c' : FileState) → map home (set r.core.files f c') ≡ set s.homes f (home c')
    homes_put c' = map-set home r.core.files f c' ∙ ap (λ l. set l f (home c')) (sym r.homes_are)

    homes_same : (c' : FileState) → home c' ≡ home (file r.core.files f) → map home (set r.core.files f c') ≡ map home r.core.files
    homes_same c' same = homes_put c' ∙ (ap (set s.homes f) same ∙ (set_again s.homes f (home (file r.core.files f)) home_at ∙ r.homes_are))

    pub allow : (d : Deed) → Allowed r.core.files me.0.guest (on f d) → MayLease r.core me.0.guest d → MayDo r.core me.0.guest (on f d)
    allow d ok may = record { allowed = ok; leaser = may }

    -- a deed that moves no contents
    pub file_event : (k n : ℕ) (d : Deed) → MayDo r.core me.0.guest (on f d) → (P : Core → Type 0) → P r.core → 0 < k → k < 4 → ShowsFile (set s.words (16 * f + k) n) f (made (file r.core.files f) me.0.guest d)
        → home (made (file r.core.files f) me.0.guest d) ≡ home (file r.core.files f)
        → (w : Knows) × (a : Act (Option Past)) × Valid s.homes me.1 a × Shows files_kit (stepped s (16 * f + k) n id me.1 w a) × (DoesOn f d P me.0 w × (carried_after me.1 a ≡ me.1))
    file_event k n d ok P p lo hi now same = event files_kit files_laws s r (16 * f + k) n id me at live (on f d) ok me.0.noted P p (put_file k n d lo hi now) (homes_same (made (file r.core.files f) me.0.guest d) same)

    -- ---- whose the entries are

    -- a number that nobody had is so in the first pass's numbers
    unused_in : (n : ℕ) → get_elem? me.0.numbers n ≡ some unused → get_elem? r.numbers n ≡ some unused
    unused_in n is = dite (ℕ_discrete me.0.guest root)
        (λ e. ap (λ ns. get_elem? ns n) (sym ((r.views_fit id me.0 at live).first e)) ∙ is)
        (λ ne. absurd (some-ne-none unused (sym (sym (ap (λ ns. get_elem? ns n) ((r.views_fit id me.0 at live).numberless ne)) ∙ is))))

    never_at : Never me.0.numbers (file r.core.files f).history
    never_at n is = let there = unused_in n is in let low = in_range r.numbers n unused there in let all = r.roster.all in never_of r.core n f (omega arith) r.good (r.roster.unused_is n there).0 near

    account_at : (file r.core.files f).turn ≡ None → IfAllIn me.0 f (past_of (file r.core.files f))
    account_at idle all =
        let numbers = (r.views_fit id me.0 at live).first all.0 in
        let known = accounted r.core me.0.numbers (ap length numbers ∙ r.roster.all) r.good (all_back files_kit files_laws s r id me.0 at live all.0 all.1) f near idle in
        (known.0 ∙ ap (λ (m : Mine). (in_list m.files f).seen) (sym (part_of ∙ ap (λ n. mine n r.core) all.0)), known.1)

  pub takes_turn : (g : ℕ) → g ≡ me.0.guest → NoTurn me.0 → Allows (Shows files_kit) slots id me (16 * f + 1) (λ n. either (eqb n 0) (g + 1) n) (tries_turn (step slots (16 * f + 1) 0 (g + 1) none) me)
  takes_turn g is idle s r deep at low =
      let c : FileState = file r.core.files f in
      let n : ℕ = get_or s.words (16 * f + 1) 0 in
      let near' = near s r deep at in
      let word : n ≡ turn_word c = (r.words.each f near').turn in
      let w : Knows = seeing files_kit me.0 (on f take_turn) (done r.core me.0.guest (on f take_turn)) me.0.noted in
      let c' : FileState = made c me.0.guest take_turn in
      let m' : Us = (w, (f, Some (past_of c)) ∷ me.1) in
      exchanged files_kit files_laws s r (16 * f + 1) 0 (g + 1) id me at me.0.noted (tries_turn (step slots (16 * f + 1) 0 (g + 1) none) me)
      (λ hit. let empty : c.turn ≡ None = no_number c.turn (sym word ∙ hit) in
      let ok : MayDo r.core me.0.guest (on f take_turn) = record { allowed = record { known = near'; may = empty; freely = turnless me.0 r.core (part_of s r deep at) idle }; leaser = tt } in
      let home_is : home c ≡ some (Some (past_of c)) = ap (λ (o : Option ℕ). at_home o (past_of c)) empty in
      let tells : Takes f me m' r.core = record { out = refl; never = never_at s r deep at; account = account_at s r deep at empty } in (
        w,
        takes f (Some (past_of c)),
        home_at s r deep at ∙ ap some home_is,
        moved files_kit files_laws s r id me.0 at live (on f take_turn) ok me.0.noted (set s.words (16 * f + 1) (g + 1)) (set s.homes f none)
            (put_file s r deep at 1 (g + 1) take_turn (omega arith) (omega arith) (in_turn_word s r deep at c' (g + 1) (ap (λ (z : ℕ). z + 1) (sym is)) refl (lease_same s r deep at (entered (length c.history) (row c me.0.guest)) refl)))
            (sym (homes_put s r deep at c')),
        for_file (λ i. (n ≡ 0 → DoesOn i take_turn (Takes i me m') me.0 w) × (n ≢ 0 → m' ≡ me)) f 1
            ((λ _. record { core = r.core; good = r.good; part = part_of s r deep at; allowed = ok; is = refl; tells = tells }), λ ne. absurd (ne hit)),
      ))
      (λ miss i e. ((λ z. absurd (miss z)), λ _. refl))

  pub sets_size : (e : Entry) (z : ℕ) → (part me.0 f).turn ≡ true → (part me.0 f).applied ≡ None → e.guest ≡ me.0.guest → reach e.op ≤ max_file → z ≡ size_of (first_at me.0 f) ((part me.0 f).seen ++ e ∷ [])
      → (z < size_of (first_at me.0 f) (part me.0 f).seen → (part me.0 f).bar ≡ true)
      → Allows (Shows files_kit) slots id me (16 * f + 2) (λ _. z) (λ _. sets e (step slots (16 * f + 2) z 0 none) me z)
  sets_size e z t none_yet own fits size safe s r deep at low =
      let c : FileState = file r.core.files f in
      let near' = near s r deep at in
      let is = part_of s r deep at in
      let turn = turn_is me.0 r.core is f t in
      let bare : c.applied ≡ None = sym (applied_is me.0 r.core is f t) ∙ none_yet in
      let seen = seen_is me.0 r.core is r.good.files_good (small s r deep at) f near' t in
      let begins = first_is me.0 r.core is f in
      let was : c.size ≡ size_of (first_at me.0 f) (part me.0 f).seen = (r.good.files_good.files_ok f near').size_is ∙ ((λ i. size_of c.first (with_entry c.history (bare i))) ∙ (λ i. size_of (sym begins i) (sym seen i))) in
      let now : sized c.size e.op ≡ z = ap (λ n. sized n e.op) was ∙ (sym (size_more (first_at me.0 f) (part me.0 f).seen e) ∙ sym size) in
      let may : MaySet c me.0.guest e = record { turn = turn; free = bare; own = own; fits = fits; barred = λ l. bar_is me.0 r.core is f (safe (omega arith)) } in
      let ok : MayDo r.core me.0.guest (on f (set_size e)) = record { allowed = record { known = near'; may = may; freely = tt }; leaser = tt } in
      let x = file_event s r deep at 2 z (set_size e) ok Always tt (omega arith) (omega arith) (in_size_word s r deep at (made c me.0.guest (set_size e)) z refl now refl) refl in
      (x.0, x.1, x.2, x.3, for_file (λ i. DoesOn i (set_size e) Always me.0 x.0 × (carried_after me.1 x.1 ≡ me.1)) f 2 x.4)

  pub notes : Allows (Shows files_kit) slots id me (16 * f + 2) (λ n. n) (notes_size (step slots (16 * f + 2) 0 0 none) me)
  notes s r deep at low =
      let c : FileState = file r.core.files f in
      let n : ℕ = get_or s.words (16 * f + 2) 0 in
      let near' = near s r deep at in
      let word : n ≡ c.size = (r.words.each f near').size in
      let ok : MayDo r.core me.0.guest (on f note_size) = record { allowed = record { known = near'; may = tt; freely = tt }; leaser = tt } in
      let x = file_event s r deep at 2 n note_size ok (λ k. n ≡ (file k.files f).size) word (omega arith) (omega arith)
      (in_size_word s r deep at (made c me.0.guest note_size) n refl (sym word) (lease_same s r deep at (noted c.size (reaches c me.0.guest) (row c me.0.guest)) refl)) refl in
      (x.0, x.1, x.2, x.3, for_file (λ i. DoesOn i note_size (λ k. n ≡ (file k.files i).size) me.0 x.0 × (carried_after me.1 x.1 ≡ me.1)) f 2 x.4)

  -- the contents that go home are the whole
  pub gives_back : (p : Past) (cs : List (ℕ × Option Past)) → (part me.0 f).turn ≡ true → p.first ≡ first_at me.0 f → p.history ≡ with_entry (part me.0 f).seen (part me.0 f).applied → me.1 ≡ (f, Some p) ∷ cs
      → Allows (Shows files_kit) slots id me (16 * f + 1) (λ _. 0) (λ _. gives_turn (step slots (16 * f + 1) 0 0 none) me 0)
  gives_back p cs t begins is held s r deep at low =
      let c : FileState = file r.core.files f in
      let c' : FileState = made c me.0.guest give_turn in
      let near' = near s r deep at in
      let parts = part_of s r deep at in
      let ok : MayDo r.core me.0.guest (on f give_turn) = record { allowed = record { known = near'; may = turn_is me.0 r.core parts f t; freely = tt }; leaser = tt } in
      let seen = seen_is me.0 r.core parts r.good.files_good (small s r deep at) f near' t in
      let applied = applied_is me.0 r.core parts f t in
      let first = first_is me.0 r.core parts f in
      let whole_is : p.history ≡ whole c = is ∙ (λ i. with_entry (seen i) (applied i)) in
      let back : home c' ≡ some (Some p) = (λ i. some (Some record { first = sym (begins ∙ first) i; history = sym whole_is i })) in
      let w : Knows = seeing files_kit me.0 (on f give_turn) (done r.core me.0.guest (on f give_turn)) me.0.noted in (
        w,
        gives,
        tt,
        moved files_kit files_laws s r id me.0 at live (on f give_turn) ok me.0.noted (set s.words (16 * f + 1) 0) (homes_after s.homes me.1 gives)
            (put_file s r deep at 1 0 give_turn (omega arith) (omega arith) (in_turn_word s r deep at c' 0 refl refl (lease_same s r deep at (seen_to (length (whole c)) (row c me.0.guest)) refl)))
            (ap (put_back s.homes) held ∙ (ap (set s.homes f) (sym back) ∙ sym (homes_put s r deep at c'))),
        for_file (λ i. DoesOn i give_turn Always me.0 w × (rest me.1 ≡ rest me.1)) f 1 (record { core = r.core; good = r.good; part = parts; allowed = ok; is = refl; tells = tt }, refl),
      )

pub tops : {S : Type 0} (xs c : List (ℕ × S)) (k : ℕ) (x : S) → xs ≡ (k, x) ∷ c → xs ≡ (k, x) ∷ rest xs
tops xs c k x e = e ∙ ap (λ l. (k, x) ∷ rest l) (sym e)

abbrev top_value : {S : Type 0} → S → List (ℕ × S) → S
top_value d [] = d
top_value d (x ∷ xs) = x.1

module _ (m m₁ : Us) (got : Option Past) (f : ℕ) (d : DoesOn f take_turn (Takes f m m₁) m.0 m₁.0) (top : m₁.1 ≡ (f, got) ∷ rest m₁.1) where
  -- what comes by the exchange that follows the step is what the slot had
  came : got ≡ Some (past_of (file d.core.files f))
  came = ap (top_value None) (sym top ∙ d.tells.out)

  pub handed : (m₂ : Us) → m.1 ≡ [] → m₂ ≡ (m₁.0, (f, None) ∷ rest m₁.1) → MatchOption got (m₂ ≡ m) (λ p. DoesOn f take_turn (λ c. p ≡ past_of (file c.files f)) m.0 m₂.0 × (m₂.1 ≡ (f, None) ∷ []))
  handed m₂ bare now = subst (λ (o : Option Past). MatchOption o (m₂ ≡ m) (λ p. DoesOn f take_turn (λ c. p ≡ past_of (file c.files f)) m.0 m₂.0 × (m₂.1 ≡ (f, None) ∷ []))) (sym came) (
    record { core = d.core; good = d.good; part = d.part; allowed = d.allowed; is = ap (λ (x : Us). x.0) now ∙ d.is; tells = refl },
    ap (λ (x : Us). x.1) now ∙ (ap (λ l. (f, None) ∷ rest l) d.tells.out ∙ ap (λ l. (f, None) ∷ l) bare),
  )

  -- and what is known of whose its entries are
  pub handed_told : MatchOption got ⊤ (λ p. Never m.0.numbers p.history × IfAllIn m.0 f p)
  handed_told = subst (λ (o : Option Past). MatchOption o ⊤ (λ p. Never m.0.numbers p.history × IfAllIn m.0 f p)) (sym came) (d.tells.never, d.tells.account)
