-- What the lines of one guest tell, beside its calls.
use Rattle.std.specs.Prelude.{ℕ, ◌+◌, ◌==◌, ◌&&◌, Bool, true, false, List, [], ◌∷◌, take, drop, slice_get, slice_index, slice_index_or, slice_set, zip, Option, Some, None, option_map, map, if◌then◌else◌}
use Rattle.std.specs.List.{list_any}
use Rattle.dax_script.specs.declared.scripts.Call.{Call}
use Rattle.dax_script.specs.declared.scripts.Call.TheVariants as calls
use Rattle.plain_text.specs.Options.{◌>>=◌}
use Rattle.dax_script.specs.Asks.{target, place_of_hold, hold_in}
use Rattle.dax_script.specs.declared.asks.Target.{Target}
use Rattle.transcript_text.specs.declared.transcripts.Line.{Line}
use Rattle.transcript_text.specs.declared.transcripts.Line.TheVariants as lines
use Rattle.dax_audit.specs.declared.verdicts.Grant.{Grant}
use Rattle.transcript_text.specs.declared.transcripts.Numbered.{Numbered}

-- the place and the answer of a line that is done
unfoldable pub place_of : Line → Option ℕ
place_of (lines.Done place answer) = Some place
place_of (lines.Held end through) = None
place_of lines.Released = None
place_of (lines.Busy letters) = None
place_of (lines.Leased count) = None
place_of lines.NoHold = None
place_of (lines.Past end) = None

-- what a granted hold has: its end, and the placement that it goes through
unfoldable pub grant_of : Line → Option Grant
grant_of (lines.Held end through) = Some (record { end = end; through = through })
grant_of (lines.Done place answer) = None
grant_of lines.Released = None
grant_of (lines.Busy letters) = None
grant_of (lines.Leased count) = None
grant_of lines.NoHold = None
grant_of (lines.Past end) = None

unfoldable pub is_released : Line → Bool
is_released lines.Released = true
is_released (lines.Done place answer) = false
is_released (lines.Held end through) = false
is_released (lines.Busy letters) = false
is_released (lines.Leased count) = false
is_released lines.NoHold = false
is_released (lines.Past end) = false

abbrev pub line_in : List Numbered → ℕ → Option Line
line_in ls call = option_map (λ n. n.line) (slice_get ls call)

-- the call is on this file
abbrev pub is_file : ℕ → Option Target → Bool
is_file file None = false
is_file file (Some to) = to.file == file

-- the place that a call has in a file, where it is done there
abbrev pub place_on : List Call → ℕ → Call × Numbered → Option ℕ
place_on cs file pair = if is_file file (target cs pair.0) then place_of pair.1.line else None

-- per call of the guest its place in this file, where it has one
abbrev pub places_on : List Call → List Numbered → ℕ → List (Option ℕ)
places_on cs ls file = map (place_on cs file) (zip cs ls)

-- the place after the last of these places, or what it was before them
unfoldable pub after_places : ℕ → List (Option ℕ) → ℕ
after_places seen [] = seen
after_places seen (None ∷ ps) = after_places seen ps
after_places seen (Some p ∷ ps) = after_places (p + 1) ps

-- the length of a file's history that the guest has seen before a call of it
abbrev pub seen_before : List Call → List Numbered → ℕ → ℕ → ℕ
seen_before cs ls file call = after_places 0 (take call (places_on cs ls file))

unfoldable pub first_place : List (Option ℕ) → Option ℕ
first_place [] = None
first_place (None ∷ ps) = first_place ps
first_place (Some p ∷ ps) = Some p

-- the guest's next place in a file behind a call of it
abbrev pub next_place : List Call → List Numbered → ℕ → ℕ → Option ℕ
next_place cs ls file call = first_place (drop (call + 1) (places_on cs ls file))

-- what a hold was granted
abbrev pub grant_in : List Call → List Numbered → ℕ → Option Grant
grant_in cs ls hold = place_of_hold cs hold >>= λ at. line_in ls at >>= grant_of

unfoldable pub is_release : ℕ → Call → Bool
is_release hold (calls.Release h) = h == hold
is_release hold (calls.Read file off len) = false
is_release hold (calls.Write file off bytes) = false
is_release hold (calls.Fill file off len byte) = false
is_release hold (calls.Size file) = false
is_release hold (calls.Truncate file size) = false
is_release hold (calls.Hold file chunk mode) = false
is_release hold (calls.Load h off len) = false
is_release hold (calls.Store h off bytes) = false

abbrev pub releases : ℕ → Call × Numbered → Bool
releases hold pair = is_release hold pair.0 && is_released pair.1.line

-- an earlier line gave the hold up
abbrev pub is_given_up : List Call → List Numbered → ℕ → ℕ → Bool
is_given_up cs ls hold call = list_any (releases hold) (take call (zip cs ls))

-- what a guest has of a hold before a call: its grant, where it wasn't given up
abbrev pub had_grant : List Call → List Numbered → ℕ → ℕ → Option Grant
had_grant cs ls hold call = if is_given_up cs ls hold call then None else grant_in cs ls hold

-- a call on this target that has this place is done there
unfoldable pub done_by : Option Target → Option ℕ → ℕ → ℕ → Bool
done_by None at file place = false
done_by (Some to) None file place = false
done_by (Some to) (Some at) file place = to.file == file && at == place

-- ---- tables of one guest

-- what was seen before a call of the file that it is on
abbrev pub seen_to : List Call → List Numbered → ℕ → Option Target → ℕ
seen_to cs ls call None = 0
seen_to cs ls call (Some to) = seen_before cs ls to.file call

unfoldable pub seen_at : List Call → List Numbered → ℕ → ℕ
seen_at cs ls call = seen_to cs ls call (slice_get cs call >>= target cs)

-- whether the hold that a call uses was given up before
abbrev pub given_to : List Call → List Numbered → ℕ → Option ℕ → Bool
given_to cs ls call None = false
given_to cs ls call (Some hold) = is_given_up cs ls hold call

unfoldable pub given_at : List Call → List Numbered → ℕ → Bool
given_at cs ls call = given_to cs ls call (slice_get cs call >>= hold_in)

-- the same from what was seen last, per file, and given up, per hold
unfoldable pub seen_now : List ℕ → Option Target → ℕ
seen_now last None = 0
seen_now last (Some to) = slice_index last to.file

unfoldable pub given_now : List Bool → Option ℕ → Bool
given_now released None = false
given_now released (Some hold) = slice_index_or released hold false

-- and these after a call
unfoldable pub noted : List ℕ → Option Target → Option ℕ → List ℕ
noted last None place = last
noted last (Some to) None = last
noted last (Some to) (Some place) = slice_set last to.file (place + 1)

unfoldable pub given_back : List Bool → Call → Line → List Bool
given_back released (calls.Release hold) l = if is_released l then slice_set released hold true else released
given_back released (calls.Read file off len) l = released
given_back released (calls.Write file off bytes) l = released
given_back released (calls.Fill file off len byte) l = released
given_back released (calls.Size file) l = released
given_back released (calls.Truncate file size) l = released
given_back released (calls.Hold file chunk mode) l = released
given_back released (calls.Load h off len) l = released
given_back released (calls.Store h off bytes) l = released
