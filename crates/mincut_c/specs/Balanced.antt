-- A most balanced minimum cut, as a caller reads it.
use Rattle.std.specs.Prelude.{ℕ, ◌≡◌, List}
use Rattle.cut_definitions.specs.Balance.{IsBest, balance}
use Rattle.cut_definitions.specs.Cuts.{mincuts, value}
use Rattle.cut_definitions.specs.Graph.{Graph}
use Rattle.mincut_c.specs.declared.balances.Balanced.{Balanced}
use Rattle.mincut_c.specs.Rows.{TellsSide}

-- the bytes tell a minimum cut than which none has a greater balance by the masses, by its side without the first vertex; the numbers tell its weight and its balance
pub record HoldsBalanced (g : Graph) (masses : List ℕ) (balanced : Balanced) (bytes : List ℕ) : Type 0 where
  pub side : List ℕ
  pub best : IsBest masses (mincuts g) side
  pub same_value : balanced.value ≡ value g
  pub same_balance : balanced.balance ≡ balance masses side
  pub told : TellsSide g.vertices side bytes
