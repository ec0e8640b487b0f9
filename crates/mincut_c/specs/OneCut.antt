-- One minimum cut, as a caller reads it.
use Rattle.std.specs.Prelude.{ℕ, ◌≡◌, List}
use Rattle.std.specs.List.{Contains}
use Rattle.cut_definitions.specs.Cuts.{mincuts}
use Rattle.cut_definitions.specs.Graph.{Graph}
use Rattle.mincut_c.specs.declared.status.Fault.{Fault}
use Rattle.mincut_c.specs.declared.status.Fault.TheVariants.{NoRoom}
use Rattle.mincut_c.specs.Rows.{TellsSide}
use Rattle.mincut_c.specs.Statuses.{HasCuts, IsReason, number_of}

-- the bytes tell a minimum cut by its side without the first vertex
pub record TellsCut (g : Graph) (bytes : List ℕ) : Type 0 where
  pub side : List ℕ
  pub minimum : Contains (mincuts g) side
  pub told : TellsSide g.vertices side bytes

-- when a call that tells one cut tells of a fault; a graph that is not connected has cuts too
abbrev pub IsCutReason : Fault → ℕ → List ℕ → List ℕ → List ℕ → Type 0
IsCutReason NoRoom n us vs ws = HasCuts n us vs ws
IsCutReason fault n us vs ws = IsReason fault n us vs ws

-- a status is that of a fault that there is reason for
pub record TellsCutFault (status n : ℕ) (us vs ws : List ℕ) : Type 0 where
  pub fault : Fault
  pub number : status ≡ number_of fault
  pub reason : IsCutReason fault n us vs ws
