-- A guest's run, begun, seen longer, and with one more line.
use Rattle.std.proofs.Common.{◌≡◌, ◌≢◌, ◌⊎◌, ◌∙◌, inl, inr, ⊎_elim, ap, sym, subst, refl, ℕ, ◌+◌, ◌*◌, ◌<◌, ◌≤◌, min, List, [], ◌∷◌, ◌++◌, length, slice_get, Some, None, true, arith, length-append}
use Rattle.std.proofs.lemmas.List.{append-nil}
use mathlib.Core.Logic.{dite}
use native.Mathlib.Decide.{ℕ_discrete}
use Rattle.plain_file.specs.declared.operations.Answer.{Answer}
use Rattle.plain_file.specs.declared.operations.Entry.{Entry}
use Rattle.plain_file.specs.declared.operations.First.{First}
use Rattle.plain_file.specs.declared.operations.Op.{Op}
use Rattle.plain_file.specs.declared.operations.Through.{Through}
use Rattle.plain_file.specs.declared.operations.Way.{Way}
use Rattle.plain_file.specs.File.{answer}
use Rattle.plain_file.specs.History.{bytes, size}
use Rattle.plain_file.specs.Board.{Note}
use Rattle.plain_file.specs.Sound.{IsFresh}
use Rattle.page_map.specs.declared.ranges.LogEntry.{LogEntry}
use Rattle.page_map.specs.Logs.{is_writable}
use Rattle.range_tree.specs.Logs.{is_live}
use Rattle.dax_script.specs.Asks.{chunk_size, held_of, hold_in}
use Rattle.dax_script.specs.declared.asks.Held.{Held}
use Rattle.dax_script.specs.declared.scripts.Call.{Call}
use Rattle.transcript_text.specs.declared.transcripts.Line.{Line}
use Rattle.transcript_text.specs.declared.transcripts.Line.TheVariants as lines
use Rattle.transcript_text.specs.declared.transcripts.Numbered.{Numbered}
use Rattle.dax_audit.specs.Guests.{place_of}
use Rattle.guest_run.specs.Runs.{Asked, on_file, asked, the_entry, Came, IsPlaced, IsSeenBefore, IsSeenUntil, WasSize, IsNotedSize, IsDone, IsGranted, IsGivenBack, IsBlocked, IsLeased, IsWithoutHold, IsPast, IsNotDone, IsTold, IsOf, IsRunFrom, GoesOn, NotesGoOn, LogGoesOn}
use Rattle.guest_run.proofs.Places.{none_is, some_is, below_or_from, at_end, last_at, within, front, in_front}
use Rattle.guest_run.proofs.Granting.{had_front, none_front}
use Rattle.guest_run.proofs.Ways.{bytes_front, size_front, live_on, placed_front, seen_front, came_on}

-- nothing was told yet
pub begun : (guest ranges : ℕ) (first : ℕ → First) (h : ℕ → List Entry) (logs : ℕ → List LogEntry) (notes : ℕ → List Note) (cs : List Call) → IsRunFrom guest ranges first (λ f. length (h f)) h logs notes cs []
begun guest ranges first h logs notes cs = record {
  told = λ n c l at at'. absurd (none_is l at');
  only = λ f p e le at is. let l = within (h f) p e at in absurd (omega arith);
  rising = λ f n m p q lt a b. absurd (none_is a.line a.told);
}

-- a run from an earlier place on is one from a later place on
pub run_since : (guest ranges : ℕ) (first : ℕ → First) (from later : ℕ → ℕ) (h : ℕ → List Entry) (logs : ℕ → List LogEntry) (notes : ℕ → List Note) (cs : List Call) (ls : List Numbered) → ((f : ℕ) → from f ≤ later f) → IsRunFrom guest ranges first from h logs notes cs ls → IsRunFrom guest ranges first later h logs notes cs ls
run_since guest ranges first from later h logs notes cs ls up r = record { told = r.told; only = λ f p e le at is. r.only f p e (let u = up f in omega arith) at is; rising = r.rising }

-- the histories are longer
abbrev pub AreLonger : (ℕ → List Entry) → (ℕ → List Entry) → Type 0
AreLonger h h' = (f : ℕ) → (rest : List Entry) × (h' f ≡ h f ++ rest)

-- the places of the lines from the end of the earlier ones on are at the ends of these histories or behind them
abbrev pub ArePlacedBehind : (ℕ → List Entry) → List Call → List Numbered → List Numbered → Type 0
ArePlacedBehind h cs ls more = (f m p : ℕ) → length ls ≤ m → IsPlaced cs (ls ++ more) f m p → length (h f) ≤ p

-- no line from the end of the earlier ones on has a place in a file of which a size is noted
abbrev pub AreElsewhere : (ℕ → List Note) → List Call → List Numbered → List Numbered → Type 0
AreElsewhere notes cs ls more = (f m p k : ℕ) (note : Note) → slice_get (notes f) k ≡ Some note → length ls ≤ m → IsPlaced cs (ls ++ more) f m p → ⊥

-- where no size is noted, a size was the file's
pub was_only : (first : First) (h : List Entry) (cs : List Call) (ls : List Numbered) (f n z : ℕ) → WasSize first h cs ls f n z ⊎ IsNotedSize [] cs ls f n z → WasSize first h cs ls f n z
was_only first h cs ls f n z = ⊎_elim (λ (w : WasSize first h cs ls f n z). w) (λ (x : IsNotedSize [] cs ls f n z). absurd (none_is x.note x.noted))

-- ---- what a line tells, in longer histories and logs, and after more lines

-- what a line tells that has no place
abbrev pub IsElse : ℕ → (ℕ → First) → (ℕ → List Entry) → (ℕ → List LogEntry) → (ℕ → List Note) → List Call → List Numbered → ℕ → Call → Numbered → Type 0
IsElse ranges first h logs notes cs ls n c l = IsGranted first h logs notes cs ls n c l ⊎ (IsGivenBack cs ls n c l ⊎ IsNotDone ranges cs ls n c l)

module _ (ranges : ℕ) (first : ℕ → First) (h h' : ℕ → List Entry) (logs logs' : ℕ → List LogEntry) (notes notes' : ℕ → List Note) (cs : List Call) (ls more : List Numbered) (n : ℕ) (c : Call) (l : Numbered) (low : n ≤ length ls)
    (on : AreLonger h h') (on' : (f : ℕ) → LogGoesOn (logs f) (logs' f)) (keep : (f : ℕ) → NotesGoOn (first f) (h' f) (notes f) (notes' f)) where
  done_on : (guest : ℕ) → IsDone guest ranges first h logs cs ls n c l → IsDone guest ranges first h' logs' cs (ls ++ more) n c l
  done_on guest d =
      let f = d.to.file in
      let rest = (on f).0 in
      let is = (on f).1 in
      let e = the_entry guest n d.to.op d.way in
      let lt = within (h f) d.place e d.entry in
      let upto : d.place ≤ length (h f) = omega (arith, lt) in
      let same : bytes (first f) (h f) d.place ≡ bytes (first f) (h' f) d.place = sym (ap (λ (xs : List Entry). bytes (first f) xs d.place) is ∙ bytes_front (first f) (h f) rest d.place upto) in
      record {
        to = d.to;
        place = d.place;
        way = d.way;
        asks = d.asks;
        line = d.line ∙ ap (λ (b : List ℕ). record { call = n; line = lines.Done d.place (answer b d.to.op) }) same;
        entry = ap (λ (xs : List Entry). slice_get xs d.place) is ∙ front (h f) rest d.place e d.entry;
        came = came_on ranges (first f) (h f) (h' f) (logs f) (logs' f) cs ls more n (hold_in c) d.place d.to d.way (on f) (on' f) low upto d.came;
      }

  -- a size that was the file's was so in the longer history
  was_on : (f z : ℕ) → ArePlacedBehind h cs ls more → WasSize (first f) (h f) cs ls f n z → WasSize (first f) (h' f) cs (ls ++ more) f n z
  was_on f z behind w =
      let rest = (on f).0 in
      let is = (on f).1 in
      let known = w.known in
      let longer : length (h f) ≤ length (h' f) = (let e = ap (λ (xs : List Entry). length xs) is in omega (arith, e, length-append (h f) rest)) in
      record {
        seen = w.seen;
        since = seen_front cs ls more f n w.seen low w.since;
        until = λ m p lt a. ⊎_elim
            (λ (old : m < length ls). w.until m p lt (placed_front cs ls more f m p old a))
            (λ (new : length ls ≤ m). let b = behind f m p new a in omega (arith, b, known))
            (below_or_from m (length ls));
        known = omega (arith, known, longer);
        is = w.is ∙ sym (ap (λ (xs : List Entry). size (first f) xs w.seen) is ∙ size_front (first f) (h f) rest w.seen known);
      }

  -- one that is noted is so still, or was the file's meanwhile
  noted_on : (f z : ℕ) → AreElsewhere notes cs ls more → IsNotedSize (notes f) cs ls f n z → WasSize (first f) (h' f) cs (ls ++ more) f n z ⊎ IsNotedSize (notes' f) cs (ls ++ more) f n z
  noted_on f z apart x =
      let lower = x.note.lower in
      let since : IsSeenBefore cs (ls ++ more) f n lower = seen_front cs ls more f n lower low x.since in
      let last : (m p : ℕ) → n < m → IsPlaced cs (ls ++ more) f m p → ⊥ = λ m p lt a. ⊎_elim
      (λ (old : m < length ls). x.last m p lt (placed_front cs ls more f m p old a))
      (λ (new : length ls ≤ m). apart f m p x.at x.note x.noted new a)
      (below_or_from m (length ls)) in
      ⊎_elim
      (λ (stays : slice_get (notes' f) x.at ≡ Some x.note). inr (record { at = x.at; note = x.note; noted = stays; size = x.size; upper = x.upper; since = since; last = last }))
      (λ (fresh : IsFresh (first f) (h' f) lower (length (h' f)) x.note.size). inl (record {
        seen = fresh.0;
        since = λ m p lt a. let below = since m p lt a in let up = fresh.1 in omega (arith, below, up);
        until = λ m p lt a. absurd (last m p lt a);
        known = fresh.2;
        is = sym x.size ∙ fresh.4;
      }))
      (keep f x.at x.note x.noted x.upper)

  sized_on : (f z : ℕ) → ArePlacedBehind h cs ls more → AreElsewhere notes cs ls more → WasSize (first f) (h f) cs ls f n z ⊎ IsNotedSize (notes f) cs ls f n z → WasSize (first f) (h' f) cs (ls ++ more) f n z ⊎ IsNotedSize (notes' f) cs (ls ++ more) f n z
  sized_on f z behind apart = ⊎_elim (λ (w : WasSize (first f) (h f) cs ls f n z). inl (was_on f z behind w)) (λ (x : IsNotedSize (notes f) cs ls f n z). noted_on f z apart x)

  granted_on : ArePlacedBehind h cs ls more → AreElsewhere notes cs ls more → IsGranted first h logs notes cs ls n c l → IsGranted first h' logs' notes' cs (ls ++ more) n c l
  granted_on behind apart g =
      let f = g.held.file in
      let k = g.through in
      record {
        held = g.held;
        through = k;
        end = g.end;
        asks = g.asks;
        line = g.line;
        live = ap (λ (xs : List LogEntry). is_live (is_writable g.held.mode) xs g.held.chunk k.entry k.upto) (on' f).1 ∙ live_on (is_writable g.held.mode) (logs f) (on' f).0 g.held.chunk k.entry k.upto g.live;
        size = g.size;
        sized = sized_on f g.size behind apart g.sized;
        lesser = g.lesser;
      }

  given_back_on : IsGivenBack cs ls n c l → IsGivenBack cs (ls ++ more) n c l
  given_back_on b = record { hold = b.hold; grant = b.grant; gives = b.gives; line = b.line; had = had_front cs ls more n b.hold b.grant low b.had }

  without_hold_on : IsWithoutHold cs ls n c l → IsWithoutHold cs (ls ++ more) n c l
  without_hold_on b = record { hold = b.hold; uses = b.uses; line = b.line; asked = b.asked; none = none_front cs ls more n b.hold low b.asked b.none }

  past_on : IsPast cs ls n c l → IsPast cs (ls ++ more) n c l
  past_on b = record { hold = b.hold; grant = b.grant; to = b.to; uses = b.uses; asks = b.asks; line = b.line; had = had_front cs ls more n b.hold b.grant low b.had; past = b.past }

  not_done_on : IsNotDone ranges cs ls n c l → IsNotDone ranges cs (ls ++ more) n c l
  not_done_on = ⊎_elim
      (λ (b : IsBlocked ranges n c l). inl b)
      (λ (o : IsLeased n c l ⊎ (IsWithoutHold cs ls n c l ⊎ IsPast cs ls n c l)). inr (⊎_elim
      (λ (b : IsLeased n c l). inl b)
      (λ (q : IsWithoutHold cs ls n c l ⊎ IsPast cs ls n c l). inr (⊎_elim
      (λ (b : IsWithoutHold cs ls n c l). inl (without_hold_on b))
      (λ (b : IsPast cs ls n c l). inr (past_on b))
      q))
      o))

  else_on : ArePlacedBehind h cs ls more → AreElsewhere notes cs ls more → IsElse ranges first h logs notes cs ls n c l → IsElse ranges first h' logs' notes' cs (ls ++ more) n c l
  else_on behind apart = ⊎_elim
      (λ (b : IsGranted first h logs notes cs ls n c l). inl (granted_on behind apart b))
      (λ (o : IsGivenBack cs ls n c l ⊎ IsNotDone ranges cs ls n c l). inr (⊎_elim
      (λ (b : IsGivenBack cs ls n c l). inl (given_back_on b))
      (λ (b : IsNotDone ranges cs ls n c l). inr (not_done_on b))
      o))

  -- A line that is told stays so in longer histories and logs, and after more lines whose places are behind the earlier histories, and in no file of which a size is noted.
  pub told_on : (guest : ℕ) → ArePlacedBehind h cs ls more → AreElsewhere notes cs ls more → IsTold guest ranges first h logs notes cs ls n c l → IsTold guest ranges first h' logs' notes' cs (ls ++ more) n c l
  told_on guest behind apart = ⊎_elim
      (λ (d : IsDone guest ranges first h logs cs ls n c l). inl (done_on guest d))
      (λ (b : IsElse ranges first h logs notes cs ls n c l). inr (else_on behind apart b))

-- the histories go on by entries of others, and so do the logs and the sizes that are noted
pub seen_on : (guest ranges : ℕ) (first : ℕ → First) (from : ℕ → ℕ) (h h' : ℕ → List Entry) (logs logs' : ℕ → List LogEntry) (notes notes' : ℕ → List Note) (cs : List Call) (ls : List Numbered)
    → ((f : ℕ) → GoesOn guest (h f) (h' f)) → ((f : ℕ) → LogGoesOn (logs f) (logs' f)) → ((f : ℕ) → NotesGoOn (first f) (h' f) (notes f) (notes' f)) → IsRunFrom guest ranges first from h logs notes cs ls → IsRunFrom guest ranges first from h' logs' notes' cs ls
seen_on guest ranges first from h h' logs logs' notes notes' cs ls on on' keep r = record {
  told = λ n c l at at'.
      let lt = within ls n l at' in
      let none : (f m p : ℕ) → length ls ≤ m → IsPlaced cs (ls ++ []) f m p → ⊥ = λ f m p high a. (let w = within (ls ++ []) m a.line a.told in absurd (omega (arith, high, w, length-append ls []))) in
      let behind : ArePlacedBehind h cs ls [] = λ f m p high a. absurd (none f m p high a) in
      let apart : AreElsewhere notes cs ls [] = λ f m p k note noted high a. none f m p high a in
      subst (λ (k : List Numbered). IsTold guest ranges first h' logs' notes' cs k n c l) (append-nil ls)
      (told_on ranges first h h' logs logs' notes notes' cs ls [] n c l (omega (arith, lt)) (λ f. ((on f).0, (on f).1)) on' keep guest behind apart (r.told n c l at at'));
  only = λ f p e le at is. r.only f p e le (in_front (h f) (on f).0 p e (ap (λ (xs : List Entry). slice_get xs p) (sym (on f).1) ∙ at) ((on f).2 p e at is)) is;
  rising = r.rising;
}

-- the histories and the logs stay, and so does what is noted
pub noted_by : (guest ranges : ℕ) (first : ℕ → First) (from : ℕ → ℕ) (h : ℕ → List Entry) (logs : ℕ → List LogEntry) (notes notes' : ℕ → List Note) (cs : List Call) (ls : List Numbered)
    → ((f k : ℕ) (note : Note) → slice_get (notes f) k ≡ Some note → slice_get (notes' f) k ≡ Some note) → IsRunFrom guest ranges first from h logs notes cs ls → IsRunFrom guest ranges first from h logs notes' cs ls
noted_by guest ranges first from h logs notes notes' cs ls stay =
    seen_on guest ranges first from h h logs logs notes notes' cs ls (λ f. ([], sym (append-nil (h f)), λ p e at by. within (h f) p e at)) (λ f. ([], sym (append-nil (logs f)))) (λ f k note at none. inl (stay f k note at))

-- each size that is noted of a file, and has no upper end, was the file's between its lower end and the end of the history
abbrev pub AreSettled : (ℕ → First) → (ℕ → List Entry) → (ℕ → List Note) → Type 0
AreSettled first h notes = (f k : ℕ) (note : Note) → slice_get (notes f) k ≡ Some note → note.upper ≡ None → IsFresh (first f) (h f) note.lower (length (h f)) note.size

-- the histories go on by entries of others, and the logs go on, until no size is only noted
pub settled : (guest ranges : ℕ) (first : ℕ → First) (from : ℕ → ℕ) (h h' : ℕ → List Entry) (logs logs' : ℕ → List LogEntry) (notes : ℕ → List Note) (cs : List Call) (ls : List Numbered)
    → ((f : ℕ) → GoesOn guest (h f) (h' f)) → ((f : ℕ) → LogGoesOn (logs f) (logs' f)) → AreSettled first h' notes → IsRunFrom guest ranges first from h logs notes cs ls → IsRunFrom guest ranges first from h' logs' (λ f. []) cs ls
settled guest ranges first from h h' logs logs' notes cs ls on on' are = seen_on guest ranges first from h h' logs logs' notes (λ f. []) cs ls on on' (λ f k note at none. inr (are f k note at none))

-- ---- lines with a place and lines without

the_place : (l : Numbered) (n p q : ℕ) (a : Answer) → l ≡ record { call = n; line = lines.Done p a } → place_of l.line ≡ Some q → p ≡ q
unfolding place_of
the_place l n p q a is e = some_is p q (ap (λ (x : Numbered). place_of x.line) (sym is) ∙ e)

place_is : (l : Numbered) (n p : ℕ) (a : Answer) → l ≡ record { call = n; line = lines.Done p a } → place_of l.line ≡ Some p
unfolding place_of
place_is l n p a is = ap (λ (x : Numbered). place_of x.line) is

-- a line has no place where what it says has none
nowhere : (l : Numbered) (n : ℕ) (says : Line) → l ≡ record { call = n; line = says } → place_of says ≡ None → place_of l.line ≡ None
nowhere l n says is none = ap (λ (x : Numbered). place_of x.line) is ∙ none

pub else_nowhere : (ranges : ℕ) (first : ℕ → First) (h : ℕ → List Entry) (logs : ℕ → List LogEntry) (notes : ℕ → List Note) (cs : List Call) (ls : List Numbered) (n : ℕ) (c : Call) (l : Numbered) → IsElse ranges first h logs notes cs ls n c l → place_of l.line ≡ None
unfolding place_of
else_nowhere ranges first h logs notes cs ls n c l = ⊎_elim
    (λ (g : IsGranted first h logs notes cs ls n c l). nowhere l n (lines.Held g.end g.through) g.line refl)
    (⊎_elim
    (λ (g : IsGivenBack cs ls n c l). nowhere l n lines.Released g.line refl)
    (⊎_elim
    (λ (g : IsBlocked ranges n c l). nowhere l n (lines.Busy g.letters) g.line refl)
    (⊎_elim
    (λ (g : IsLeased n c l). nowhere l n (lines.Leased g.count) g.line refl)
    (⊎_elim
    (λ (g : IsWithoutHold cs ls n c l). nowhere l n lines.NoHold g.line refl)
    (λ (g : IsPast cs ls n c l). nowhere l n (lines.Past g.grant.end) g.line refl)))))

-- a call that has a place in a file is done there
pub done_there : (guest ranges : ℕ) (first : ℕ → First) (h : ℕ → List Entry) (logs : ℕ → List LogEntry) (notes : ℕ → List Note) (cs : List Call) (ls : List Numbered) (n p : ℕ) (c : Call) (l : Numbered) → place_of l.line ≡ Some p → IsTold guest ranges first h logs notes cs ls n c l
    → (d : IsDone guest ranges first h logs cs ls n c l) × (d.place ≡ p)
done_there guest ranges first h logs notes cs ls n p c l at = ⊎_elim
    (λ (d : IsDone guest ranges first h logs cs ls n c l). (d, the_place l n d.place p (answer (bytes (first d.to.file) (h d.to.file) d.place) d.to.op) d.line at))
    (λ (b : IsElse ranges first h logs notes cs ls n c l). absurd (none_is p (sym (else_nowhere ranges first h logs notes cs ls n c l b) ∙ at)))

-- the places of a guest's calls in a file are within its history
pub seen_all : (guest ranges : ℕ) (first : ℕ → First) (from : ℕ → ℕ) (h : ℕ → List Entry) (logs : ℕ → List LogEntry) (notes : ℕ → List Note) (cs : List Call) (ls : List Numbered) (f n : ℕ) → IsRunFrom guest ranges first from h logs notes cs ls → IsSeenBefore cs ls f n (length (h f))
seen_all guest ranges first from h logs notes cs ls f n r = λ m p lt a.
    let x = done_there guest ranges first h logs notes cs ls m p a.call a.line a.place (r.told m a.call a.line a.made a.told) in
    let d = x.0 in
    let same : d.to.file ≡ f = ap (λ (k : Asked). k.file) (some_is d.to (record { file = f; op = a.op }) (sym d.asks ∙ a.asks)) in
    let low = within (h d.to.file) d.place (the_entry guest m d.to.op d.way) d.entry in
    let z = x.1 in
    let y = ap (λ (g : ℕ). length (h g)) same in omega arith

-- the next line is behind all places so far: no later one is told yet
pub seen_until_next : (cs : List Call) (ls : List Numbered) (f k : ℕ) → IsSeenUntil cs ls f (length ls) k
seen_until_next cs ls f k = λ m p lt a. let w = within ls m a.line a.told in absurd (omega (arith, lt, w))

-- a size that the file had at a length from the seen one on, before the next call
pub was_next : (guest ranges : ℕ) (first : ℕ → First) (from : ℕ → ℕ) (h h' : ℕ → List Entry) (logs : ℕ → List LogEntry) (notes : ℕ → List Note) (cs : List Call) (ls : List Numbered) (f seen z : ℕ)
    → IsRunFrom guest ranges first from h logs notes cs ls → length (h f) ≤ seen → seen ≤ length (h' f) → z ≡ size (first f) (h' f) seen → WasSize (first f) (h' f) cs ls f (length ls) z
was_next guest ranges first from h h' logs notes cs ls f seen z r low known is = record {
  seen = seen;
  since = λ m p lt a. let below = seen_all guest ranges first from h logs notes cs ls f (length ls) r m p lt a in omega (arith, below, low);
  until = seen_until_next cs ls f seen;
  known = known;
  is = is;
}

-- a size that is noted from such a length on
pub noted_next : (guest ranges : ℕ) (first : ℕ → First) (from : ℕ → ℕ) (h : ℕ → List Entry) (logs : ℕ → List LogEntry) (notes : ℕ → List Note) (cs : List Call) (ls : List Numbered) (f z at : ℕ) (note : Note) (its : List Note)
    → IsRunFrom guest ranges first from h logs notes cs ls → slice_get its at ≡ Some note → note.size ≡ z → note.upper ≡ None → length (h f) ≤ note.lower → IsNotedSize its cs ls f (length ls) z
noted_next guest ranges first from h logs notes cs ls f z at note its r noted is upper low = record {
  at = at;
  note = note;
  noted = noted;
  size = is;
  upper = upper;
  since = λ m p lt a. let below = seen_all guest ranges first from h logs notes cs ls f (length ls) r m p lt a in omega (arith, below, low);
  last = λ m p lt a. let w = within ls m a.line a.told in absurd (omega (arith, lt, w));
}

-- the next call is granted a hold, by what is seen after it
pub granted_next : (first : ℕ → First) (h' : ℕ → List Entry) (logs' : ℕ → List LogEntry) (notes' : ℕ → List Note) (cs : List Call) (ls : List Numbered) (c : Call) (held : Held) (end : ℕ) (through : Through) (z : ℕ)
    → held_of c ≡ Some held → is_live (is_writable held.mode) (logs' held.file) held.chunk through.entry through.upto ≡ true
    → WasSize (first held.file) (h' held.file) cs ls held.file (length ls) z ⊎ IsNotedSize (notes' held.file) cs ls held.file (length ls) z → end ≡ min ((held.chunk + 1) * chunk_size) z
    → IsGranted first h' logs' notes' cs ls (length ls) c (record { call = length ls; line = lines.Held end through })
granted_next first h' logs' notes' cs ls c held end through z asks live sized lesser = record { held = held; through = through; end = end; asks = asks; line = refl; live = live; size = z; sized = sized; lesser = lesser }

of_more : (guest : ℕ) (cs : List Call) (ls more : List Numbered) (f p : ℕ) (e : Entry) → IsOf guest cs ls f p e → IsOf guest cs (ls ++ more) f p e
of_more guest cs ls more f p e o = record { call = o.call; made = o.made; asks = o.asks; by = o.by; line = o.line; told = front ls more e.call o.line o.told; place = o.place }

-- ---- one more line

module _ (guest ranges : ℕ) (first : ℕ → First) (from : ℕ → ℕ) (h h' : ℕ → List Entry) (logs : ℕ → List LogEntry) (notes : ℕ → List Note) (cs : List Call) (ls : List Numbered) (c : Call) (l : Numbered) (made : slice_get cs (length ls) ≡ Some c) (r : IsRunFrom guest ranges first from h logs notes cs ls) where
  -- each line is told, the new one too
  told_more : AreLonger h h' → ArePlacedBehind h cs ls (l ∷ []) → AreElsewhere notes cs ls (l ∷ []) → IsTold guest ranges first h' logs notes cs (ls ++ l ∷ []) (length ls) c l → (n : ℕ) (d : Call) (k : Numbered) → slice_get cs n ≡ Some d → slice_get (ls ++ l ∷ []) n ≡ Some k
      → IsTold guest ranges first h' logs notes cs (ls ++ l ∷ []) n d k
  told_more longer behind apart newest n d k at at' = ⊎_elim
      (λ (old : slice_get ls n ≡ Some k). let w = within ls n k old in told_on ranges first h h' logs logs notes notes cs ls (l ∷ []) n d k (omega (arith, w)) longer (λ f. ([], sym (append-nil (logs f)))) (λ f k note at none. inl at) guest behind apart (r.told n d k at old))
      (λ (new : (n ≡ length ls) × (l ≡ k)).
      let same : c ≡ d = some_is c d (sym made ∙ (ap (λ (m : ℕ). slice_get cs m) (sym new.0) ∙ at)) in
      subst (λ (z : ℕ × Call × Numbered). IsTold guest ranges first h' logs notes cs (ls ++ l ∷ []) z.0 z.1 z.2) (λ i. (sym new.0 i, same i, new.1 i)) newest)
      (at_end ls l k n at')

  -- the places rise where that of the new line is above the earlier ones
  rising_more : ((f n p q : ℕ) (op : Op) → IsPlaced cs ls f n p → asked cs c ≡ on_file f op → place_of l.line ≡ Some q → p < q) → (f n m p q : ℕ) → n < m → IsPlaced cs (ls ++ l ∷ []) f n p → IsPlaced cs (ls ++ l ∷ []) f m q → p < q
  rising_more above f n m p q lt a b = ⊎_elim
      (λ (old : slice_get ls m ≡ Some b.line). let w = within ls m b.line old in r.rising f n m p q lt (placed_front cs ls (l ∷ []) f n p (omega (arith, lt, w)) a) (placed_front cs ls (l ∷ []) f m q w b))
      (λ (new : (m ≡ length ls) × (l ≡ b.line)).
      let z = new.0 in
      let same : c ≡ b.call = some_is c b.call (sym made ∙ (ap (λ (k : ℕ). slice_get cs k) (sym new.0) ∙ b.made)) in
      above f n p q b.op (placed_front cs ls (l ∷ []) f n p (omega (arith, lt, z)) a) (ap (asked cs) same ∙ b.asks) (ap (λ (x : Numbered). place_of x.line) new.1 ∙ b.place))
      (at_end ls l b.line m b.told)

-- a line of the next call that has no place: nothing in any file
pub one_else : (guest ranges : ℕ) (first : ℕ → First) (from : ℕ → ℕ) (h : ℕ → List Entry) (logs : ℕ → List LogEntry) (notes : ℕ → List Note) (cs : List Call) (ls : List Numbered) (c : Call) (l : Numbered)
    → slice_get cs (length ls) ≡ Some c → IsRunFrom guest ranges first from h logs notes cs ls → IsElse ranges first h logs notes cs ls (length ls) c l → IsRunFrom guest ranges first from h logs notes cs (ls ++ l ∷ [])
one_else guest ranges first from h logs notes cs ls c l made r b =
    let none : place_of l.line ≡ None = else_nowhere ranges first h logs notes cs ls (length ls) c l b in
    let same : AreLonger h h = λ f. ([], sym (append-nil (h f))) in
    let not_placed : (f m p : ℕ) → length ls ≤ m → IsPlaced cs (ls ++ l ∷ []) f m p → ⊥ = λ f m p high a. ⊎_elim
    (λ (old : slice_get ls m ≡ Some a.line). (let w = within ls m a.line old in absurd (omega (arith, w, high))))
    (λ (new : (m ≡ length ls) × (l ≡ a.line)). none_is p (sym none ∙ (ap (λ (x : Numbered). place_of x.line) new.1 ∙ a.place)))
    (at_end ls l a.line m a.told) in
    let behind : ArePlacedBehind h cs ls (l ∷ []) = λ f m p high a. absurd (not_placed f m p high a) in
    let apart : AreElsewhere notes cs ls (l ∷ []) = λ f m p k note noted high a. not_placed f m p high a in
    record {
      told = told_more guest ranges first from h h logs notes cs ls c l made r same behind apart (inr (else_on ranges first h h logs logs notes notes cs ls (l ∷ []) (length ls) c l (omega arith) same (λ f. ([], sym (append-nil (logs f)))) (λ f k note at none. inl at) behind apart b));
      only = λ f p e le at by. of_more guest cs ls (l ∷ []) f p e (r.only f p e le at by);
      rising = rising_more guest ranges first from h h logs notes cs ls c l made r (λ f n p q op a asks place. absurd (none_is q (sym none ∙ place)));
    }

-- the next call is the newest entry of its file, of which no size is noted any more
module _ (guest ranges : ℕ) (first : ℕ → First) (from : ℕ → ℕ) (h h' : ℕ → List Entry) (logs : ℕ → List LogEntry) (notes : ℕ → List Note) (cs : List Call) (ls : List Numbered) (c : Call) (to : Asked) (way : Way) (l : Numbered) (made : slice_get cs (length ls) ≡ Some c) (r : IsRunFrom guest ranges first from h logs notes cs ls) (asks : asked cs c ≡ Some to)
    (came : Came ranges (first to.file) (h' to.file) (logs to.file) cs ls (length ls) (hold_in c) (length (h to.file)) to way)
    (here : h' to.file ≡ h to.file ++ the_entry guest (length ls) to.op way ∷ []) (else_same : (f : ℕ) → f ≢ to.file → h' f ≡ h f) (quiet : notes to.file ≡ [])
    (is : l ≡ record { call = length ls; line = lines.Done (length (h to.file)) (answer (bytes (first to.file) (h to.file) (length (h to.file))) to.op) }) where
  longer : AreLonger h h'
  longer f = dite (ℕ_discrete f to.file)
      (λ e. (the_entry guest (length ls) to.op way ∷ [], ap h' e ∙ (here ∙ ap (λ (x : ℕ). h x ++ the_entry guest (length ls) to.op way ∷ []) (sym e))))
      (λ ne. ([], else_same f ne ∙ sym (append-nil (h f))))

  -- the place of the new line, in whichever file it is
  its_place : (f q : ℕ) (op : Op) → asked cs c ≡ on_file f op → place_of l.line ≡ Some q → q ≡ length (h f)
  its_place f q op asks' place =
      let same : to.file ≡ f = ap (λ (k : Asked). k.file) (some_is to (record { file = f; op = op }) (sym asks ∙ asks')) in
      sym (the_place l (length ls) (length (h to.file)) q _ is place) ∙ ap (λ (g : ℕ). length (h g)) same

  behind : ArePlacedBehind h cs ls (l ∷ [])
  behind f m p high a = ⊎_elim
      (λ (old : slice_get ls m ≡ Some a.line). (let w = within ls m a.line old in absurd (omega (arith, w, high))))
      (λ (new : (m ≡ length ls) × (l ≡ a.line)).
      let same : c ≡ a.call = some_is c a.call (sym made ∙ (ap (λ (k : ℕ). slice_get cs k) (sym new.0) ∙ a.made)) in
      let at = its_place f p a.op (ap (asked cs) same ∙ a.asks) (ap (λ (x : Numbered). place_of x.line) new.1 ∙ a.place) in omega (arith, at))
      (at_end ls l a.line m a.told)

  apart : AreElsewhere notes cs ls (l ∷ [])
  apart f m p k note noted high a = ⊎_elim
      (λ (old : slice_get ls m ≡ Some a.line). (let w = within ls m a.line old in absurd (omega (arith, w, high))))
      (λ (new : (m ≡ length ls) × (l ≡ a.line)).
      let same : c ≡ a.call = some_is c a.call (sym made ∙ (ap (λ (k : ℕ). slice_get cs k) (sym new.0) ∙ a.made)) in
      let file : to.file ≡ f = ap (λ (x : Asked). x.file) (some_is to (record { file = f; op = a.op }) (sym asks ∙ (ap (asked cs) same ∙ a.asks))) in
      none_is note (ap (λ (ns : List Note). slice_get ns k) (sym quiet) ∙ (ap (λ (g : ℕ). slice_get (notes g) k) file ∙ noted)))
      (at_end ls l a.line m a.told)

  newest : IsDone guest ranges first h' logs cs (ls ++ l ∷ []) (length ls) c l
  newest = let f = to.file in let e = the_entry guest (length ls) to.op way in
      let grown : length (h' f) ≡ length (h f ++ e ∷ []) = ap (λ (xs : List Entry). length xs) here in
      let low : length (h f) ≤ length (h' f) = omega (arith, grown, length-append (h f) (e ∷ [])) in
      let same : bytes (first f) (h f) (length (h f)) ≡ bytes (first f) (h' f) (length (h f)) = sym (ap (λ (xs : List Entry). bytes (first f) xs (length (h f))) here ∙ bytes_front (first f) (h f) (e ∷ []) (length (h f)) (omega arith)) in
      record {
        to = to;
        place = length (h f);
        way = way;
        asks = asks;
        line = is ∙ ap (λ (b : List ℕ). record { call = length ls; line = lines.Done (length (h f)) (answer b to.op) }) same;
        entry = ap (λ (xs : List Entry). slice_get xs (length (h f))) here ∙ last_at (h f) e;
        came = came_on ranges (first f) (h' f) (h' f) (logs f) (logs f) cs ls (l ∷ []) (length ls) (hold_in c) (length (h f)) to way ([], sym (append-nil (h' f))) ([], sym (append-nil (logs f))) (omega arith) low came;
      }

  pub one_more : IsRunFrom guest ranges first from h' logs notes cs (ls ++ l ∷ [])
  one_more = record {
    told = told_more guest ranges first from h h' logs notes cs ls c l made r longer behind apart (inl newest);
    only = λ f p e le at by. dite (ℕ_discrete f to.file)
        (λ same. ⊎_elim (λ (old : slice_get (h f) p ≡ Some e). of_more guest cs ls (l ∷ []) f p e (r.only f p e le old by))
        (λ (new : (p ≡ length (h f)) × (the_entry guest (length ls) to.op way ≡ e)). subst (λ (z : Entry). IsOf guest cs (ls ++ l ∷ []) f p z) new.1 record {
          call = c;
          made = made;
          asks = asks ∙ ap (λ (x : ℕ). on_file x to.op) (sym same);
          by = refl;
          line = l;
          told = last_at ls l;
          place = place_is l (length ls) (length (h to.file)) _ is ∙ ap Some (sym (new.0 ∙ ap (λ (x : ℕ). length (h x)) same));
        })
        (at_end (h f) (the_entry guest (length ls) to.op way) e p (ap (λ (xs : List Entry). slice_get xs p) (sym (ap h' same ∙ (here ∙ ap (λ (x : ℕ). h x ++ the_entry guest (length ls) to.op way ∷ []) (sym same)))) ∙ at)))
        (λ ne. of_more guest cs ls (l ∷ []) f p e (r.only f p e le (ap (λ (xs : List Entry). slice_get xs p) (sym (else_same f ne)) ∙ at) by));
    rising = rising_more guest ranges first from h h' logs notes cs ls c l made r (λ f n p q op a asks' place.
        let at = its_place f q op asks' place in
        let w = within ls n a.line a.told in
        let below = seen_all guest ranges first from h logs notes cs ls f (length ls) r n p w a in omega (arith, at, below));
  }
