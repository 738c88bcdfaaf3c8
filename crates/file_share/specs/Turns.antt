-- What the passes of the tests have in hand.
use Rattle.std.specs.Prelude.{◌≡◌, ◌≢◌, ℕ, ◌<◌, Bool, false, length}
use Rattle.atomic_table.specs.Seated.{TableId}
use Rattle.file_share.specs.Table.{part}
use Rattle.file_share.specs.Known.{Known}

-- The pass of this table and guest, which may lease, has of one file this turn, so many leases and this bar. It has
-- nothing of any other file.
pub record HasOf (t : TableId) (g f : ℕ) (turn : Bool) (leases : ℕ) (bar : Bool) (p : Known) : Type 0 where
  pub table : p.table ≡ t
  pub guest : p.view.guest ≡ g
  pub may : p.view.guest < p.view.mine.leasers
  pub near : f < t.slots
  pub wide : length p.view.mine.files ≡ t.slots
  pub has_turn : (part p.view f).turn ≡ turn
  pub has_leases : (part p.view f).leases ≡ leases
  pub has_bar : (part p.view f).bar ≡ bar
  pub others : (i : ℕ) → i ≢ f → ((part p.view i).turn ≡ false) × ((part p.view i).leases ≡ 0) × ((part p.view i).bar ≡ false)
