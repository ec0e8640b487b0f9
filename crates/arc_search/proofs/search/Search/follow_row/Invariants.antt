-- The search so far, and the ends of the open arcs so far are known.
use Rattle.std.proofs.Common.{◌≡◌, ℕ, ◌<◌, get_or}
use Rattle.std.specs.Prelude.{IsTrue}
use Rattle.cut_definitions.specs.Weight.{VertexSet}
use Rattle.weighted_graph.specs.Rows.{arc_at}
use Rattle.arc_search.specs.Found.{IsKnown, IsSearch, IsQuiet, GoesOn}
use Rattle.arc_search.proofs.search.Search.follow_row.Given as goal

abbrev pub invariant-loop-k : goal.invariant-loop-k
invariant-loop-k g l = record {
  search : (starts : VertexSet) → IsSearch (g.A.StepArcs.vertices l.arcs) (g.A.StepArcs.goes l.arcs) (g.H.Halts.must l.halts) l.turns starts l.fn.self →
      IsSearch (g.A.StepArcs.vertices l.arcs) (g.A.StepArcs.goes l.arcs) (g.H.Halts.must l.halts) l.turns starts l.self;
  goes_on : GoesOn l.fn.self l.self;
  same_place : l.self.place ≡ l.fn.self.place;
  quiet : IsQuiet (g.H.Halts.must l.halts) l.self;
  known : (i : ℕ) → i < l.k → IsTrue (g.A.StepArcs.open_at l.arcs (get_or l.fn.self.order l.fn.self.place 0) i) →
      IsKnown l.turns l.self.seen (arc_at (g.A.StepArcs.rows l.arcs (get_or l.fn.self.order l.fn.self.place 0)) i).to;
}
