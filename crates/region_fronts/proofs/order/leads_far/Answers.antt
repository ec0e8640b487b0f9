-- The edges and the distance are those of the graph.
use Rattle.std.proofs.Common.{◌≡◌, ◌↔◌, IsTrue, Bool, ℕ, ◌-◌, ◌/◌, ◌<◌, List, length, max, nat_lt, subst, ap, ◌∙◌}
use Rattle.std.specs.Prelude.{not}
use Rattle.std.specs.List.{count_by}
use Rattle.cut_definitions.specs.declared.edge_list.Edge.{Edge}
use Rattle.region_fronts.specs.Entering.{far_distance}
use Rattle.region_fronts.proofs.order.leads_far.Goals as goal

-- whether over half of some edges lead far
abbrev Counted : Bool → List Edge → ℕ → Type 0
Counted r edges far = IsTrue r ↔ (length edges / 2 < count_by (λ (e : Edge). not (nat_lt (e.v - e.u) far)) edges)

same_count : (r : Bool) (edges others : List Edge) (far distance : ℕ) → edges ≡ others → far ≡ distance → Counted r edges far → Counted r others distance
same_count r edges others far distance same equal h = subst (λ (es : List Edge). Counted r es distance) same (subst (λ (d : ℕ). Counted r edges d) equal h)

pub returns : goal.returns
returns c =
    same_count c.most_lead_far.result c.edge_list.result.now c.args.graph.now.edges c.max-far.result (far_distance c.args.graph.now)
    c.edge_list.ensures.value (c.max-far.ensures ∙ ap (λ (n : ℕ). max 4096 (n / 16)) c.n.ensures.value) c.most_lead_far.ensures
