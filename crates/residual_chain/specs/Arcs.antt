-- The rows of a graph and the residuals of a flow as the arcs of a search.
use Rattle.std.specs.Prelude.{◌≡◌, ℕ, ◌≤◌, true}
use Rattle.cut_definitions.specs.Graph.{Graph}
use Rattle.max_flow.specs.Flow.{FlowState}
use Rattle.residual_chain.specs.Residuals.{leads}
use Rattle.arc_search.specs.declared.direction.Direction.{Direction}
use Rattle.arc_search.specs.declared.direction.Direction.TheVariants.{Along, Against}
use Rattle.residual_chain.specs.Search.{steps, IsShown, IsSearchable}
use Rattle.residual_chain.specs.Paths.{arcs_of_search}
use Rattle.arc_search.specs.Paths.{HasArcs}

steps_from_one : (g : Graph) (f : FlowState) → IsShown g f → (d : Direction) (u v : ℕ) → steps d (leads g f) u v ≡ true → (1 ≤ u) × (1 ≤ v)
steps_from_one g f shown Along u v h = shown.from_one u v h
steps_from_one g f shown Against u v h = let p = shown.from_one v u h in (p.1, p.0)

steps_to_n : (g : Graph) (f : FlowState) → IsShown g f → (d : Direction) (u v : ℕ) → steps d (leads g f) u v ≡ true → (u ≤ g.vertices) × (v ≤ g.vertices)
steps_to_n g f shown Along u v h = shown.to_n u v h
steps_to_n g f shown Against u v h = let p = shown.to_n v u h in (p.1, p.0)

pub HasArcs-shown : (g : Graph) (f : FlowState) (d : Direction) → IsShown g f → HasArcs g.vertices (arcs_of_search g f d) (steps d (leads g f))
HasArcs-shown g f d shown = record {
  from_one = λ v p a b l. (shown.rows d v a b).from_one p l;
  to_n = λ v p a b l. (shown.rows d v a b).to_n p l;
  sound = λ v p a b l o. (shown.rows d v a b).sound p l o;
  complete = λ v w a b g'.
      let o = (shown.rows d v a b).complete w g' in
      record { place = o.place; in_row = o.in_row; to = o.to; open_there = o.open_there };
  step_from_one = steps_from_one g f shown d;
  step_to_n = steps_to_n g f shown d;
}

pub HasArcs-searchable : (g : Graph) (f : FlowState) (d : Direction) → IsSearchable g f → HasArcs g.vertices (arcs_of_search g f d) (steps d (leads g f))
HasArcs-searchable g f d h = HasArcs-shown g f d h.shown
