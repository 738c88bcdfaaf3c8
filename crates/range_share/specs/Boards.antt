-- What a pass on a table means as a board of ranges.
use Rattle.std.specs.Prelude.{◌≡◌, ℕ, ◌+◌, ◌/◌, ◌%◌, ◌*◌, ◌<◌, ◌≤◌, Bool, true, nat_lt, List, [], ◌∷◌, map, length, slice_get, slice_index_or, Option, Some, None, if◌then◌else◌, false}
use Rattle.std.specs.List.{range_with_len}
use Rattle.std.specs.Option.{option_map}
use Rattle.atomic_table.specs.Seated.{TableId}
use Rattle.page_map.specs.declared.pages.Mode.TheVariants as modes
use Rattle.page_map.specs.declared.pages.Page.{Page}
use Rattle.page_map.specs.declared.ranges.LogEntry.{LogEntry}
use Rattle.page_map.specs.declared.ranges.Target.{Target}
use Rattle.page_map.specs.Board.{MapView, Hands, RangesView, Noted as BoardNoted}
use Rattle.page_map.specs.Logs.{writable}
use Rattle.page_map.specs.Plain.{range_pages}
use Rattle.range_tree.specs.Ranges.{target_page}
use Rattle.window_core.specs.declared.states.Pin.{Pin}
use Rattle.window_core.specs.Window.{pins_on}
use Rattle.window_core.specs.Shown.{Branch, listed}
use Rattle.range_share.specs.Table.{Look, Knows, others_may}
use Rattle.range_share.specs.Steps.{branch_of, ranges_of}
use Rattle.range_share.specs.Known.{Known, look_in, aim_in, pinned_in}

-- the place of the first that is true, counted from n
abbrev pub first_true : ℕ → List Bool → Option ℕ
first_true n [] = None
first_true n (b ∷ bs) = if b then Some n else first_true (n + 1) bs

-- the numbers and names by which a table is known
abbrev pub numbers_of : TableId → List ℕ
numbers_of t = t.words ∷ t.slots ∷ t.views_name ∷ t.atom ∷ t.block ∷ t.offset ∷ t.slot_names

abbrev pub has_tree : Branch → Bool
has_tree b = b.had

abbrev pub log_of : Branch → List LogEntry
log_of b = b.seen

abbrev pub noted_of : Look → BoardNoted
noted_of l = record { word = l.word; own = l.own }

abbrev pub hands_of : Knows → Hands
hands_of v = record {
  tree = first_true 0 (map has_tree v.mine.shown.branches);
  moves = first_true 0 v.mine.shown.moving;
  pins = listed (λ r. pins_on r v.mine.shown.pins) (ranges_of v);
}

abbrev pub ranges_view : Knows → RangesView
ranges_view v = record {
  guest = v.guest;
  may_take = nat_lt v.guest v.mine.movers;
  others = others_may v.guest v.mine.movers;
  logs = map log_of v.mine.shown.branches;
  pinned = listed (λ r. pinned_in r v.noted.pinned) (ranges_of v);
  looks = listed (λ r. option_map noted_of (look_in r v.noted.looks)) (ranges_of v);
  targets = listed (λ r. aim_in r v.noted.aims) (ranges_of v);
  targeted = v.noted.targeted;
  sweeps = v.noted.sweeps;
  rounds = v.noted.rounds;
}

-- what a page shows of ranges that are shown so; it isn't held where the range isn't
abbrev pub shown_page : List (Option (Option Target)) → ℕ → Option (Option Page)
shown_page maps page = option_map (option_map (target_page (page % range_pages))) (slice_index_or maps (page / range_pages) None)

abbrev pub table_of : List (Option (Option Target)) → List (Option (Option Page))
table_of maps = map (shown_page maps) (range_with_len 0 (range_pages * length maps))

abbrev pub board_of : Known → MapView
board_of p = record {
  plain = false;
  over = Some (numbers_of p.table);
  hands = hands_of p.view;
  ranges = ranges_view p.view;
  table = table_of p.view.mine.shown.maps;
}

-- ---- what holds of a board's pins

-- The pin was made from entries that are seen, in which its place stands; where it allows writing, they allowed that.
pub record IsSeenIn (log : List LogEntry) (p : Pin) : Type 0 where
  pub before : p.through.entry < p.through.upto
  pub within : p.through.upto ≤ length log
  pub written : p.mode ≡ modes.W → writable log p.through.entry p.through.upto ≡ true

abbrev pub PinsSeen : Knows → Type 0
PinsSeen v = (k : ℕ) (p : Pin) → slice_get v.mine.shown.pins k ≡ Some p → IsSeenIn (branch_of v p.file).seen p
