-- The search so far, which nothing has halted.
use Rattle.std.proofs.Common.{◌+◌, ◌-◌}
use Rattle.cut_definitions.specs.Weight.{VertexSet}
use Rattle.arc_search.specs.Found.{IsSearch, IsQuiet, GoesOn}
use Rattle.arc_search.proofs.search.Search.advance.Given as goal

abbrev pub invariant-loop-self : goal.invariant-loop-self
invariant-loop-self g l = record {
  search : (starts : VertexSet) → IsSearch (g.A.StepArcs.vertices l.arcs) (g.A.StepArcs.goes l.arcs) (g.H.Halts.must l.halts) l.turns starts l.fn.self →
      IsSearch (g.A.StepArcs.vertices l.arcs) (g.A.StepArcs.goes l.arcs) (g.H.Halts.must l.halts) l.turns starts l.self;
  goes_on : GoesOn l.fn.self l.self;
  quiet : IsQuiet (g.H.Halts.must l.halts) l.self;
}

abbrev pub decreases-loop-self : goal.decreases-loop-self
decreases-loop-self g l = (g.A.StepArcs.vertices l.arcs + 1) - l.self.place
