-- How an operation came to its file, in longer histories and logs.
use Rattle.std.proofs.Common.{◌≡◌, ◌∙◌, ap, sym, subst, ℕ, ◌+◌, ◌<◌, ◌≤◌, Bool, true, false, List, [], ◌∷◌, ◌++◌, length, take, drop, get_or, Option, Some, None, arith, length-append}
use Rattle.std.proofs.lemmas.Bool.{and_parts, and_from}
use Rattle.std.proofs.lemmas.Option.{get_or_from_slice_get}
use Rattle.plain_file.specs.declared.operations.Entry.{Entry}
use Rattle.plain_file.specs.declared.operations.First.{First}
use Rattle.plain_file.specs.declared.operations.Op.{Op}
use Rattle.plain_file.specs.declared.operations.Op.TheVariants as ops
use Rattle.plain_file.specs.declared.operations.Through.{Through}
use Rattle.plain_file.specs.declared.operations.Way.{Way}
use Rattle.plain_file.specs.declared.operations.Way.TheVariants as ways
use Rattle.plain_file.specs.File.{first_bytes}
use Rattle.plain_file.specs.History.{after_all, bytes, size}
use Rattle.page_map.specs.declared.ranges.LogEntry.{LogEntry}
use Rattle.range_tree.specs.Logs.{is_live, lasts}
use Rattle.range_tree.proofs.Live.{live_within, live_lasts}
use Rattle.dax_script.specs.declared.scripts.Call.{Call}
use Rattle.transcript_text.specs.declared.transcripts.Numbered.{Numbered}
use Rattle.dax_audit.specs.Rules.{chunks, covers, pairs_of}
use Rattle.guest_run.specs.Runs.{Asked, FitsWindow, FitsWay, CoversOp, IsPlaced, IsSeenBefore, Came}
use Rattle.guest_run.proofs.Places.{found, front, in_front, take_front}
use Rattle.guest_run.proofs.Granting.{had_front}

pub bytes_front : (first : First) (h rest : List Entry) (p : ℕ) → p ≤ length h → bytes first (h ++ rest) p ≡ bytes first h p
unfolding bytes
bytes_front first h rest p l = ap (after_all (first_bytes first)) (take_front h rest p l)

pub size_front : (first : First) (h rest : List Entry) (p : ℕ) → p ≤ length h → size first (h ++ rest) p ≡ size first h p
size_front first h rest p l = ap (λ (b : List ℕ). length b) (bytes_front first h rest p l)

-- what was live stays so in a longer log
pub live_on : (write : Bool) (log more : List LogEntry) (chunk k m : ℕ) → is_live write log chunk k m ≡ true → is_live write (log ++ more) chunk k m ≡ true
live_on write log more chunk k m is =
    let l = live_within write log chunk k m is in
    let x = found log k (omega (arith, l.0, l.1)) in
    let here : get_or (log ++ more) k x.0 ≡ get_or log k x.0 = get_or_from_slice_get (log ++ more) k x.0 x.0 (front log more k x.0 x.1) ∙ sym (get_or_from_slice_get log k x.0 x.0 x.1) in
    let taken : take m (log ++ more) ≡ take m log = take_front log more m l.1 in
    live_lasts write (log ++ more) chunk k m x.0 l.0 (omega (arith, l.1, length-append log more))
    ∙ ((λ i. lasts write (here i) chunk (drop (k + 1) (taken i))) ∙ (sym (live_lasts write log chunk k m x.0 l.0 l.1) ∙ is))

pub covers_on : (write : Bool) (log more : List LogEntry) (cs : List ℕ) (ks : List Through) → covers write log cs ks ≡ true → covers write (log ++ more) cs ks ≡ true
unfolding covers
covers_on write log more [] [] is = is
covers_on write log more [] (k ∷ ks) is = is
covers_on write log more (c ∷ cs) [] is = is
covers_on write log more (c ∷ cs) (k ∷ ks) is =
    let p = and_parts (is_live write log c k.entry k.upto) (covers write log cs ks) is in
    and_from (is_live write (log ++ more) c k.entry k.upto) (covers write (log ++ more) cs ks) (live_on write log more c k.entry k.upto p.0) (covers_on write log more cs ks p.1)

-- where there is a window
window_on : (first : First) (h rest : List Entry) (log more : List LogEntry) (seen seen' : ℕ → Type 0) (place : ℕ) (op : Op) (way : Way)
    → ((k : ℕ) → seen k → seen' k) → place ≤ length h → FitsWindow first h log seen place op way → FitsWindow first (h ++ rest) (log ++ more) seen' place op way
unfolding FitsWindow
window_on first h rest log more seen seen' place (ops.Read off len) way up low fits = covers_on false log more (chunks off len) (pairs_of way) fits
window_on first h rest log more seen seen' place (ops.Write off xs) ways.Req up low fits = fits
window_on first h rest log more seen seen' place (ops.Write off xs) (ways.ReqSaw z) up low fits =
    let k = fits.1.0 in let at = fits.1.2 in
    (fits.0, (k, up k fits.1.1, at, size_front first h rest k (omega (arith, at, low)) ∙ fits.1.3))
window_on first h rest log more seen seen' place (ops.Write off xs) (ways.Via a b) up low fits =
    (subst (λ (n : ℕ). off + length xs ≤ n) (sym (size_front first h rest place low)) fits.0, covers_on true log more (chunks off (length xs)) (pairs_of (ways.Via a b)) fits.1)
window_on first h rest log more seen seen' place (ops.Truncate to) way up low fits = fits
window_on first h rest log more seen seen' place ops.Size way up low fits = fits

-- A way that fits at a place of a history still fits in a longer history and log, where what bounds the lengths that were seen still does.
pub way_on : (ranges : ℕ) (first : First) (h h' : List Entry) (log log' : List LogEntry) (seen seen' : ℕ → Type 0) (place : ℕ) (op : Op) (way : Way)
    → ((rest : List Entry) × (h' ≡ h ++ rest)) → ((more : List LogEntry) × (log' ≡ log ++ more)) → ((k : ℕ) → seen k → seen' k) → place ≤ length h
    → FitsWay ranges first h log seen place op way → FitsWay ranges first h' log' seen' place op way
way_on ranges first h h' log log' seen seen' place op way longer later up low fits = record {
  without = fits.without;
  windowed = λ some. subst (λ (z : List Entry × List LogEntry). FitsWindow first z.0 z.1 seen' place op way) (λ i. (sym longer.1 i, sym later.1 i)) (window_on first h longer.0 log later.0 seen seen' place op way up low (fits.windowed some));
}

-- the pairs that cover an operation still do in a longer log
covers_op_on : (log more : List LogEntry) (op : Op) (ks : List Through) → CoversOp log op ks → CoversOp (log ++ more) op ks
unfolding CoversOp
covers_op_on log more (ops.Read off len) ks c = covers_on false log more (chunks off len) ks c
covers_op_on log more (ops.Write off xs) ks c = covers_on true log more (chunks off (length xs)) ks c
covers_op_on log more (ops.Truncate to) ks c = c
covers_op_on log more ops.Size ks c = c

-- ---- after more lines

-- a line that has a place keeps it
pub placed_on : (cs : List Call) (ls more : List Numbered) (f n p : ℕ) → IsPlaced cs ls f n p → IsPlaced cs (ls ++ more) f n p
placed_on cs ls more f n p a = record { call = a.call; op = a.op; made = a.made; asks = a.asks; line = a.line; told = front ls more n a.line a.told; place = a.place }

-- and had it before
pub placed_front : (cs : List Call) (ls more : List Numbered) (f n p : ℕ) → n < length ls → IsPlaced cs (ls ++ more) f n p → IsPlaced cs ls f n p
placed_front cs ls more f n p low a = record { call = a.call; op = a.op; made = a.made; asks = a.asks; line = a.line; told = in_front ls more n a.line a.told low; place = a.place }

-- what was seen before a call stays so
pub seen_front : (cs : List Call) (ls more : List Numbered) (f n k : ℕ) → n ≤ length ls → IsSeenBefore cs ls f n k → IsSeenBefore cs (ls ++ more) f n k
seen_front cs ls more f n k low seen = λ m p lt a. seen m p lt (placed_front cs ls more f m p (omega (arith, lt, low)) a)

-- how an operation came to its place stays right
pub came_on : (ranges : ℕ) (first : First) (h h' : List Entry) (log log' : List LogEntry) (cs : List Call) (ls more : List Numbered) (n : ℕ) (hold : Option ℕ) (place : ℕ) (to : Asked) (way : Way)
    → ((rest : List Entry) × (h' ≡ h ++ rest)) → ((rest : List LogEntry) × (log' ≡ log ++ rest)) → n ≤ length ls → place ≤ length h
    → Came ranges first h log cs ls n hold place to way → Came ranges first h' log' cs (ls ++ more) n hold place to way
unfolding Came
came_on ranges first h h' log log' cs ls more n None place to way longer later low within c =
    way_on ranges first h h' log log' (IsSeenBefore cs ls to.file n) (IsSeenBefore cs (ls ++ more) to.file n) place to.op way longer later (λ k. seen_front cs ls more to.file n k low) within c
came_on ranges first h h' log log' cs ls more n (Some hold) place to way longer later low within c = record {
  some = c.some;
  grant = c.grant;
  had = had_front cs ls more n hold c.grant low c.had;
  goes = c.goes;
  covered = subst (λ (z : List LogEntry). CoversOp z to.op (c.grant.through ∷ [])) (sym later.1) (covers_op_on log later.0 to.op (c.grant.through ∷ []) c.covered);
  within = c.within;
}
