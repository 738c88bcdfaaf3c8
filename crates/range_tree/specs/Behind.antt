-- Of each entry of a placement log, where behind it its range is removed next, and where upgraded next.
use Rattle.std.specs.Prelude.{ℕ, ◌+◌, ◌==◌, ◌&&◌, ◌||◌, Bool, false, not, nat_lt, nat_le, List, [], ◌∷◌, Option, Some, None, if◌then◌else◌}
use Rattle.page_map.specs.declared.ranges.LogEntry.{LogEntry}
use Rattle.page_map.specs.declared.ranges.LogEntry.TheVariants as entries
use Rattle.page_map.specs.Logs.{is_writable}

-- the range of an entry
unfoldable pub range_of : LogEntry → ℕ
range_of (entries.Place c r m) = r
range_of (entries.Upgrade r) = r
range_of (entries.Remove r) = r

-- the range that an entry upgrades (`up`), or else removes
unfoldable pub ended : Bool → LogEntry → Option ℕ
ended up (entries.Place c r m) = None
ended up (entries.Upgrade r) = if up then Some r else None
ended up (entries.Remove r) = if up then None else Some r

abbrev pub is_number : ℕ → Option ℕ → Bool
is_number n None = false
is_number n (Some m) = m == n

-- an entry upgrades a range (`up`), or else removes it
abbrev pub ends : Bool → ℕ → LogEntry → Bool
ends up range e = is_number range (ended up e)

-- the place of the first entry that passes, counted from n; the place behind the last where none does
unfoldable pub next_from : (LogEntry → Bool) → ℕ → List LogEntry → ℕ
next_from test n [] = n
next_from test n (e ∷ es) = if test e then n else next_from test (n + 1) es

-- per entry, counted from n, where behind it its range ends so
unfoldable pub behind : Bool → ℕ → List LogEntry → List ℕ
behind up n [] = []
behind up n (e ∷ es) = next_from (ends up (range_of e)) (n + 1) es ∷ behind up (n + 1) es

-- an entry places this chunk, and that lasts until the log has so many entries, where its range is removed at one place and upgraded at another; to be
-- written it was placed so, or it is upgraded before
unfoldable pub lasts_till : Bool → LogEntry → ℕ → ℕ → ℕ → ℕ → Bool
lasts_till write (entries.Place c r m) chunk upto removed upgraded = (c == chunk) && nat_le upto removed && (not write || (is_writable m || nat_lt upgraded upto))
lasts_till write (entries.Upgrade r) chunk upto removed upgraded = false
lasts_till write (entries.Remove r) chunk upto removed upgraded = false
