-- Turns, leases and bars of a pass, as its board's.
use Rattle.std.proofs.Common.{◌≡◌, ◌∙◌, ap, sym, subst, refl, ℕ, ◌+◌, ◌-◌, ◌<◌, ◌≤◌, ◌==◌, arith, true, false, true≢false, List, [], ◌∷◌, ◌++◌, map, length, set, Some, None, Result, Ok, Err, if◌then◌else◌, sum, eq-eqb}
use lib.Seq.{set-get_or}
use Rattle.std.proofs.lemmas.List.{length-map}
use Rattle.std.proofs.lemmas.List.Sums.{get_or-le-sum_by}
use Rattle.plain_file.specs.declared.refusals.Leased.{Leased}
use Rattle.plain_file.specs.Board.{FileView, FileHands, file_at, no_file}
use Rattle.plain_file.specs.Counts.{more_by_one}
use Rattle.plain_file.specs.Turns.{leases_on, seen_file, Enters, left, with_leases, leased_file, Leases, unleased, with_bar, refused_bar, Bars}
use Rattle.files_core.specs.Files.{take_turn, give_turn, lease, note_size, unlease, set_bar, clear_bar, FileDeed, on}
use Rattle.files_core.specs.Shown.{Shown}
use Rattle.file_share.specs.Table.{Knows, part, first_at}
use Rattle.file_share.specs.Steps.{Always, refused}
use Rattle.file_share.specs.Known.{Known, IsDeed, Entered, Left, IsLeased, IsUnleased, IsBarred, IsRefused, Bars as PassBars, taken_part, given_part, noted_part, leased_part, unleased_part, barred_part}
use Rattle.file_share.specs.Boards.{file_view, hands_of, board_of, notes_before, notes_by, has_turn, has_bar, leases_had, Floored}
use Rattle.file_share.proofs.Listing.{listed_set}
use Rattle.file_share.proofs.Boarding.{same_floored, count_same, Changed, changed, board_now, floored_now, file_is, hands_now, first_now, none_now, turn_kept, bar_kept, leases_kept, maps_now, no_turn, no_bar, its_turn, part_leases}
use Rattle.file_share.proofs.BoardsCore.{bare, one_turn, one_bar, no_leases}
use Rattle.file_share.proofs.BoardsFiles.{file_entered, file_leased, file_unleased, file_refused, file_unrefused, floored_same, floored_entered, floored_leased, floored_unleased}

-- ---- a turn

module _ (p q : Known) (f : ℕ) (near : f < length p.view.mine.files) (deed : IsDeed f take_turn p q) (e : Entered f p.view q.view) where
  pub taken : Changed p q f (taken_part e.more (part p.view f)) (on f take_turn ∷ [])
  taken = changed p q f take_turn (taken_part e.more (part p.view f)) near deed e.shown

  pub enters : (hands_of p.view).turn ≡ None → Enters (board_of p) f (board_of q)
  enters free =
      let m : Shown = part p.view f in
      let n : Shown = taken_part e.more m in
      let ds : List FileDeed = on f take_turn ∷ [] in
      let c = taken in
      let idle = no_turn p.view free in
      let hands : FileHands = record (hands_of p.view) { turn = Some f } in
      let has : hands_of q.view ≡ hands = hands_now p q f n ds c hands (first_now p q f n ds c has_turn refl refl (λ i ne. idle i)) (bar_kept p q f n ds c refl) (leases_kept p q f n ds c refl) in
      let is = file_entered p.view.guest (first_at p.view f) f p.view.noted (notes_before f p.view.did) m e.more (bare f take_turn Always p.view q.view deed.does f (idle f)) e.others
      ∙ ap (λ (x : FileView). seen_file x e.more) (sym (file_is p f near)) in
      (e.more, record { others = e.others; plain = λ x. absurd (true≢false (sym x)) }, board_now p q f n ds c (refl, tt) hands (seen_file (file_at (board_of p) f) e.more) has is)

  pub enters_floored : Floored p.view → Floored q.view
  enters_floored was =
      let m : Shown = part p.view f in
      floored_now p q f (taken_part e.more m) (on f take_turn ∷ []) taken (refl, tt) was (floored_entered (notes_by f p.view.did) (notes_before f p.view.did) m (was f near) e.more)

module _ (p q : Known) (f : ℕ) (near : f < length p.view.mine.files) (l : Left p f q) where
  pub given : Changed p q f (given_part (part p.view f)) (on f give_turn ∷ [])
  given = changed p q f give_turn (given_part (part p.view f)) near l.deed l.shown

  pub leaves : (hands_of p.view).turn ≡ Some f → board_of q ≡ left (board_of p) f
  leaves had =
      let m : Shown = part p.view f in
      let n : Shown = given_part m in
      let ds : List FileDeed = on f give_turn ∷ [] in
      let c = given in
      let hands : FileHands = record (hands_of p.view) { turn = None } in
      let has : hands_of q.view ≡ hands = hands_now p q f n ds c hands (none_now p q f n ds c has_turn refl refl (one_turn f give_turn Always p.view q.view l.deed.does (its_turn p.view f had))) (bar_kept p q f n ds c refl) (leases_kept p q f n ds c refl) in
      let is = ap (λ (x : FileView). record x { ready = false }) (sym (file_is p f near)) in
      board_now p q f n ds c (refl, tt) hands (record (file_at (board_of p) f) { ready = false }) has is

  pub leaves_floored : Floored p.view → Floored q.view
  leaves_floored was =
      let m : Shown = part p.view f in
      floored_now p q f (given_part m) (on f give_turn ∷ []) given (refl, tt) was (floored_same (notes_by f p.view.did) (notes_before f p.view.did) m (was f near) (given_part m) refl refl refl)

-- ---- leases

module _ (p q : Known) (f z : ℕ) (near : f < length p.view.mine.files) (l : IsLeased p f z q) where
  pub lent : Changed p q f (noted_part z (leased_part (part p.view f))) (on f note_size ∷ on f lease ∷ [])
  lent = record {
    near = near;
    kept = l.look.kept ∙ ap (λ (k : Known). record k { view = q.view }) l.deed.kept;
    guest = ap (λ (v : Knows). v.guest) l.look.does.is ∙ ap (λ (v : Knows). v.guest) l.deed.does.is;
    noted = ap (λ (v : Knows). v.noted) l.look.does.is ∙ ap (λ (v : Knows). v.noted) l.deed.does.is;
    shown = l.shown;
    did = ap (λ (v : Knows). v.did) l.look.does.is ∙ ap (λ (v : Knows). on f note_size ∷ v.did) l.deed.does.is;
  }

  same_file : (f == f) ≡ true
  same_file = eq-eqb f f refl

  lent_before : notes_before f (on f note_size ∷ on f lease ∷ p.view.did) ≡ notes_by f p.view.did
  lent_before = ap (λ b. if b then notes_by f p.view.did else notes_before f p.view.did) same_file

  lent_by : notes_by f (on f note_size ∷ on f lease ∷ p.view.did) ≡ notes_by f p.view.did + 1
  lent_by = ap (λ b. if b then notes_by f p.view.did + 1 else notes_by f p.view.did) same_file

  pub lends : Floored p.view → Leases (board_of p) f z (board_of q)
  lends was =
      let m : Shown = part p.view f in
      let n : Shown = noted_part z (leased_part m) in
      let ds : List FileDeed = on f note_size ∷ on f lease ∷ [] in
      let c = lent in
      let hands : FileHands = with_leases (board_of p) f (leases_on (board_of p) f + 1) in
      let more : (hands_of q.view).leases ≡ hands.leases = maps_now p q f n ds c leases_had ∙ ap (λ j. set (map leases_had p.view.mine.files) f (j + 1)) (sym (part_leases p.view f)) in
      let has : hands_of q.view ≡ hands = hands_now p q f n ds c hands (turn_kept p q f n ds c refl) (bar_kept p q f n ds c refl) more in
      let is = file_leased p.view.guest (first_at p.view f) f p.view.noted (notes_before f p.view.did) (notes_before f (ds ++ p.view.did)) z m (lent_before ∙ (was f near).counted)
      ∙ ap (λ (x : FileView). leased_file true z x) (sym (file_is p f near)) in
      (λ x. absurd (true≢false (sym x)), board_now p q f n ds c (refl, (refl, tt)) hands (leased_file true z (file_at (board_of p) f)) has is)

  pub lends_floored : Floored p.view → Floored q.view
  lends_floored was =
      let m : Shown = part p.view f in
      let n : Shown = noted_part z (leased_part m) in
      floored_now p q f n (on f note_size ∷ on f lease ∷ []) lent (refl, (refl, tt)) was
      (same_floored (notes_by f p.view.did + 1) (notes_by f (on f note_size ∷ on f lease ∷ p.view.did)) (notes_by f p.view.did) (notes_before f (on f note_size ∷ on f lease ∷ p.view.did)) n n (sym lent_by) (sym lent_before) refl
      (floored_leased (notes_by f p.view.did) (notes_before f p.view.did) m (was f near) z))

module _ (p q : Known) (f : ℕ) (near : f < length p.view.mine.files) (u : IsUnleased p f q) (some : 0 < (part p.view f).leases) where
  pub returned : Changed p q f (unleased_part (part p.view f)) (on f unlease ∷ [])
  returned = changed p q f unlease (unleased_part (part p.view f)) near u.deed u.shown

  pub returns_lease : board_of q ≡ unleased (board_of p) f
  returns_lease =
      let m : Shown = part p.view f in
      let n : Shown = unleased_part m in
      let ds : List FileDeed = on f unlease ∷ [] in
      let c = returned in
      let had : m.leases ≡ leases_on (board_of p) f = sym (part_leases p.view f) in
      let hands : FileHands = with_leases (board_of p) f (leases_on (board_of p) f - 1) in
      let fewer : (hands_of q.view).leases ≡ hands.leases = maps_now p q f n ds c leases_had ∙ ap (λ j. set (map leases_had p.view.mine.files) f (j - 1)) had in
      let has : hands_of q.view ≡ hands = hands_now p q f n ds c hands (turn_kept p q f n ds c refl) (bar_kept p q f n ds c refl) fewer in
      let x : FileView = record (file_at (board_of p) f) { floor = if leases_on (board_of p) f == 1 then None else (file_at (board_of p) f).floor } in
      let is = file_unleased p.view.guest (first_at p.view f) f p.view.noted (notes_before f p.view.did) m some
      ∙ (ap (λ (y : FileView). record y { floor = if m.leases == 1 then None else y.floor }) (sym (file_is p f near))
      ∙ ap (λ j. record (file_at (board_of p) f) { floor = if j == 1 then None else (file_at (board_of p) f).floor }) had) in
      board_now p q f n ds c (refl, tt) hands x has is

  pub returns_floored : Floored p.view → Floored q.view
  returns_floored was =
      let m : Shown = part p.view f in
      floored_now p q f (unleased_part m) (on f unlease ∷ []) returned (refl, tt) was (floored_unleased (notes_by f p.view.did) (notes_before f p.view.did) m (was f near))

-- ---- bars

-- a file put where it is changes nothing
same_again : (p : Known) (f : ℕ) (h : FileHands) → record (board_of p) { hands = h; files = set (board_of p).files f (file_at (board_of p) f) } ≡ record (board_of p) { hands = h }
same_again p f h = ap (λ (fs : List FileView). record (board_of p) { hands = h; files = fs }) (set-get_or (board_of p).files f no_file)

-- the refusal is noted of the one file
refused_board : (p : Known) (f count : ℕ) → f < length p.view.mine.files → board_of (record p { view = refused p.view f count }) ≡ refused_bar (board_of p) f count
refused_board p f count near =
    let v : Knows = p.view in
    let w : Knows = refused v f count in
    let here = file_refused v.guest (first_at v f) f v.noted (notes_before f v.did) count (part v f) in
    let is : file_view w f ≡ record (file_at (board_of p) f) { refusals = more_by_one (file_at (board_of p) f).refusals; refused = Some (record { count = count; own = leases_on (board_of p) f }) } =
    here ∙ (ap (λ (x : FileView). record x { refusals = more_by_one x.refusals; refused = Some (record { count = count; own = (part v f).leases }) }) (sym (file_is p f near))
    ∙ ap (λ j. record (file_at (board_of p) f) { refusals = more_by_one (file_at (board_of p) f).refusals; refused = Some (record { count = count; own = j }) }) (sym (part_leases v f))) in
    let files = listed_set (file_view v) (file_view w) (length v.mine.files) f (λ i ne. file_unrefused v.guest (first_at v i) i v.noted (notes_before i v.did) f count (part v f).leases (part v i) (λ e. ne (sym e)))
    ∙ ap (set (board_of p).files f) is in
    ap (λ (fs : List FileView). record (board_of p) { files = fs }) files

module _ (p q : Known) (f : ℕ) (near : f < length p.view.mine.files) (b : IsBarred p f set_bar true q) where
  pub barred : Changed p q f (barred_part true (part p.view f)) (on f set_bar ∷ [])
  barred = changed p q f set_bar (barred_part true (part p.view f)) near b.deed b.shown

  pub bars_taken : (hands_of p.view).bar ≡ None → (leases_on (board_of p) f ≡ 0) × (board_of q ≡ with_bar (board_of p) (Some f))
  bars_taken none =
      let m : Shown = part p.view f in
      let n : Shown = barred_part true m in
      let ds : List FileDeed = on f set_bar ∷ [] in
      let c = barred in
      let hands : FileHands = record (hands_of p.view) { bar = Some f } in
      let has : hands_of q.view ≡ hands = hands_now p q f n ds c hands (turn_kept p q f n ds c refl) (first_now p q f n ds c has_bar refl refl (λ i ne. no_bar p.view none i)) (leases_kept p q f n ds c refl) in
      (part_leases p.view f ∙ no_leases f Always p.view q.view b.deed.does, board_now p q f n ds c (refl, tt) hands (file_at (board_of p) f) has (sym (file_is p f near)) ∙ same_again p f hands)

  pub bars_floored : Floored p.view → Floored q.view
  bars_floored was =
      let m : Shown = part p.view f in
      floored_now p q f (barred_part true m) (on f set_bar ∷ []) barred (refl, tt) was (floored_same (notes_by f p.view.did) (notes_before f p.view.did) m (was f near) (barred_part true m) refl refl refl)

module _ (p q : Known) (f : ℕ) (near : f < length p.view.mine.files) (b : IsBarred p f clear_bar false q) where
  pub unbarred : Changed p q f (barred_part false (part p.view f)) (on f clear_bar ∷ [])
  unbarred = changed p q f clear_bar (barred_part false (part p.view f)) near b.deed b.shown

  pub bar_returned : (part p.view f).bar ≡ true → board_of q ≡ with_bar (board_of p) None
  bar_returned had =
      let m : Shown = part p.view f in
      let n : Shown = barred_part false m in
      let ds : List FileDeed = on f clear_bar ∷ [] in
      let c = unbarred in
      let hands : FileHands = record (hands_of p.view) { bar = None } in
      let has : hands_of q.view ≡ hands = hands_now p q f n ds c hands (turn_kept p q f n ds c refl) (none_now p q f n ds c has_bar refl refl (one_bar f clear_bar Always p.view q.view b.deed.does had)) (leases_kept p q f n ds c refl) in
      board_now p q f n ds c (refl, tt) hands (file_at (board_of p) f) has (sym (file_is p f near)) ∙ same_again p f hands

  pub unbars_floored : Floored p.view → Floored q.view
  unbars_floored was =
      let m : Shown = part p.view f in
      floored_now p q f (barred_part false m) (on f clear_bar ∷ []) unbarred (refl, tt) was (floored_same (notes_by f p.view.did) (notes_before f p.view.did) m (was f near) (barred_part false m) refl refl refl)

-- a bar that was refused
module _ (p q : Known) (f count : ℕ) (near : f < length p.view.mine.files) (r : IsRefused p f count q) where
  pub bars_refused : (0 < count) × (leases_on (board_of p) f ≤ count) × ((board_of p).others ≡ false → count ≡ leases_on (board_of p) f) × (board_of q ≡ refused_bar (board_of p) f count)
  bars_refused =
      let had : (part p.view f).leases ≡ leases_on (board_of p) f = sym (part_leases p.view f) in
      let own = r.counts.own in
      (r.some_seen, omega (arith, own, had), λ alone. r.counts.all alone ∙ had, ap board_of r.noted ∙ refused_board p f count near)

  pub refused_floored : Floored p.view → Floored q.view
  refused_floored was = subst (λ (k : Known). Floored k.view) (sym r.noted) was

-- what `bar` answers and leaves
module _ (p q : Known) (f : ℕ) (near : f < length p.view.mine.files) where
  pub bars : (r : Result (Unit {0}) Leased) → PassBars p f r q → (hands_of p.view).bar ≡ None → Bars (board_of p) f r (board_of q)
  bars (Ok u) b none = bars_taken p q f near b none
  bars (Err l) r none = bars_refused p q f l.count near r

  pub bars_table : (r : Result (Unit {0}) Leased) → PassBars p f r q → q.table ≡ p.table
  bars_table (Ok u) b = ap (λ (k : Known). k.table) b.deed.kept
  bars_table (Err l) r = ap (λ (k : Known). k.table) r.noted

  pub bars_count : (r : Result (Unit {0}) Leased) → PassBars p f r q → length q.view.mine.files ≡ length p.view.mine.files
  bars_count (Ok u) b = count_same p q f (barred_part true (part p.view f)) (on f set_bar ∷ []) (barred p q f near b)
  bars_count (Err l) r = ap (λ (k : Known). length k.view.mine.files) r.noted

  pub bars_kept : (r : Result (Unit {0}) Leased) → PassBars p f r q → Floored p.view → Floored q.view
  bars_kept (Ok u) b was = bars_floored p q f near b was
  bars_kept (Err l) r was = refused_floored p q f l.count near r was

-- fewer leases than 64 in all are fewer on each file
pub few_leases : (v : Knows) (f : ℕ) → f < length v.mine.files → sum (hands_of v).leases < 64 → (part v f).leases < 64
few_leases v f near few =
    let long : f < length (map leases_had v.mine.files) = subst (λ n. f < n) (sym (length-map v.mine.files leases_had)) near in
    let within = get_or-le-sum_by (λ n. n) (map leases_had v.mine.files) f 0 long in
    let here = part_leases v f in
    omega (arith, few, within, here)
