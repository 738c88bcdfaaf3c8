-- The board of ranges of a run's first guest, which did nothing yet, and the board once a range was taken.
use Rattle.std.proofs.Common.{◌≡◌, ◌∙◌, ap, sym, subst, ℕ, ◌<◌, ◌≤◌, ◌*◌, length, None, Result, Ok, arith}
use Rattle.page_map.specs.Plain.{range_pages}
use Rattle.page_map.specs.Board.{MapView}
use Rattle.page_map.specs.declared.ranges.RangeWord.{RangeWord}
use Rattle.plain_file.specs.Board.{BoardView}
use Rattle.range_tree.specs.Ranges.{Takes, IsTaken, range_count}
use Rattle.range_share.specs.Known.{Known, child_pass}
use Rattle.range_share.specs.Boards.{board_of}
use Rattle.guest_wire.specs.Wires.{CanShare, boards}
use Rattle.guest_threads.specs.Jobs.{Team, IsTeam, firsts_of, count_of}
use Rattle.guest_threads.proofs.Fresh.{fresh_ranges, new_ranges_pass, fresh_ranges_count, fresh_moves, fresh_pages}
use Rattle.guest_threads.proofs.Split.{ranges_begin, child_moves}

module _ (t : Team) (is : IsTeam t) (some : 0 < t.guests) (pass : Known) (given : pass ≡ child_pass t.ranges 0) where
  fresh_is : pass ≡ fresh_ranges t.ranges.table (count_of t) (length (firsts_of t)) t.guests 0
  fresh_is = given ∙ (ap (λ (q : Known). child_pass q 0) (ranges_begin t.ranges) ∙ new_ranges_pass t 0 is)

  pub half_may : pass.view.guest < pass.view.mine.movers
  half_may = child_moves t 0 is some t.ranges pass (ranges_begin t.ranges) given

  pub half_count : range_count (board_of pass) ≡ count_of t
  half_count = ap (λ (p : Known). range_count (board_of p)) fresh_is ∙ fresh_ranges_count t.ranges.table (count_of t) (length (firsts_of t)) t.guests 0

  pub half_free : (board_of pass).hands.moves ≡ None
  half_free = ap (λ (p : Known). (board_of p).hands.moves) fresh_is ∙ fresh_moves t.ranges.table (count_of t) (length (firsts_of t)) t.guests 0

  pub half_pages : length (board_of pass).table ≡ range_pages * count_of t
  half_pages = ap (λ (p : Known). length (board_of p).table) fresh_is ∙ fresh_pages t.ranges.table (count_of t) (length (firsts_of t)) t.guests 0

  pub half_share : (files : BoardView) (range : ℕ) (taken : MapView) → length (firsts_of t) ≤ length files.files → files.hands.turn ≡ None → IsTaken (board_of pass) range taken → CanShare t.daemon (boards files taken)
  half_share files range taken many free is_taken = record {
    there = (let made = is.served.there in omega (arith, made, many));
    pages = is_taken.becomes.pages.count ∙ (half_pages ∙ sym is.served.pages);
    free = free;
  }

  pub half_counted : (range : ℕ) (taken : MapView) → IsTaken (board_of pass) range taken → range_count taken ≡ count_of t
  half_counted range taken is_taken = ap (λ (v : MapView). range_count v) is_taken.becomes.rest ∙ half_count

-- a take that was answered so took the range
pub half_taken : (old new : MapView) (range : ℕ) (r : Result (Unit {0}) RangeWord) (u : Unit {0}) → r ≡ Ok u → Takes old range r new → IsTaken old range new
unfolding Takes
half_taken old new range r u is takes = subst (λ (x : Result (Unit {0}) RangeWord). Takes old range x new) is takes
