-- Light cuts of a graph by those of the graph on classes.
use Rattle.std.specs.Prelude.{ℕ, List, length}
use Rattle.cut_definitions.specs.Contraction.{lift}
use Rattle.least_cut.specs.declared.lightest.LightestCut.{LightestCut}

-- a cut of classes as one of the vertices
abbrev pub lifted_by : List ℕ → LightestCut → LightestCut
lifted_by labels c = record { weight = c.weight; side = record { vertices = length labels; members = lift labels c.side.members } }
