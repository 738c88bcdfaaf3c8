-- The cores of the tests.
use Rattle.std.specs.Prelude.{◌≡◌, length}
use Rattle.dax_core.specs.Core.{CoreState}

-- two ranges and one file
pub record IsSmall (c : CoreState) : Type 0 where
  pub ranges : length c.window.states ≡ 2
  pub trees : length c.window.sides ≡ 1
  pub files : length c.files ≡ 1

-- four ranges and two files
pub record IsWalked (c : CoreState) : Type 0 where
  pub ranges : length c.window.states ≡ 4
  pub trees : length c.window.sides ≡ 2
  pub files : length c.files ≡ 2
