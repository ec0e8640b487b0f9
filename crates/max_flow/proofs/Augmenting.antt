-- A flow after one more path, and when no path is left.
use Rattle.std.proofs.Common.{◌≡◌, ℕ, ◌+◌, ◌^◌, ◌<◌, ◌≤◌, true, false, List, length, refl, sym, ◌∙◌, arith}
use Rattle.std.specs.Prelude.{◌≢◌}
use Rattle.std.proofs.lemmas.Bool.{eq-eqb, ne_eqb}
use Rattle.cut_definitions.specs.Graph.{Graph, IsGraph}
use Rattle.cut_definitions.specs.Weight.{VertexSet, parts}
use Rattle.cut_definitions.specs.Scan.{single}
use Rattle.cut_definitions.proofs.Running.{weight-le_total}
use Rattle.cut_definitions.proofs.Numbers.{positive_yes}
use Rattle.cut_definitions.proofs.Bools.{counted_sum}
use Rattle.max_flow.specs.declared.search.Step.{Step}
use Rattle.region_flow.specs.Residual.{out, counted, IsResidual, IsFlow, IsLeastBetween}
use Rattle.region_flow.specs.Closed.{IsSourceSide}
use Rattle.region_flow.specs.Marks.{order_mark}
use Rattle.max_flow.specs.Tree.{seen, IsSearched}
use Rattle.region_flow.specs.Outcome.{IsStopReached}
use Rattle.region_flow.proofs.Balance.{weight-parting, IsLeastBetween-from_closed}
use Rattle.region_flow.proofs.Closed.{out_none-from_closed}
use Rattle.max_flow.proofs.Trees.{seen_least, seen_closed}

-- ---- the flow of nothing

-- ---- one more path

-- two amounts are counted as their sum
-- a push from s to t makes a flow greater by the amount pushed
pub flow_more : (g : Graph) (s t total amount : ℕ) (old new : List ℕ) → IsFlow g s t total old → IsResidual g new →
    ((side : VertexSet) → out g.edges new side + counted side s amount ≡ out g.edges old side + counted side t amount) →
    IsFlow g s t (total + amount) new
flow_more g s t total amount old new h r pushed = record {
  residual = r;
  balance = λ side. omega (arith, h.balance side, pushed side, counted_sum (side s) total amount, counted_sum (side t) total amount);
}

-- a flow is at most the weight of its first vertex alone
pub flow_small : (g : Graph) → IsGraph g → (s t total : ℕ) (toward : List ℕ) → s ≢ t → IsFlow g s t total toward → total ≤ 2 ^ 61
flow_small g ok s t total toward apart h =
    let yes : single s s ≡ true = eq-eqb s s refl in
    let no : single s t ≡ false = ne_eqb s t apart in
    let parted : parts (single s) s t ≡ true = rw (yes, no) refl in
    omega (arith, ok.total, weight-le_total g (single s), weight-parting g s t total toward h (single s) parted)

-- ---- no path is left

-- if t was not reached, the vertices that were seen are the source side
pub source_side : (g : Graph) → IsGraph g → (toward : List ℕ) (s t : ℕ) (marks : List ℕ) (steps : List Step) (count : ℕ) →
    length toward ≡ length g.edges → IsSearched g toward s t marks steps count → order_mark marks t ≡ 0 →
    IsSourceSide g toward s t (seen marks)
source_side g ok toward s t marks steps count n h z =
    let first = h.tree.marking.placed 0 h.tree.some in
    let at : order_mark marks s ≡ 1 = rw (← h.first) first in
    record {
      first = (positive_yes (order_mark marks s) (omega arith), rw z refl);
      closed = seen_closed g toward marks steps count h.tree (h.done z);
      least = λ other closed has v in'. seen_least g ok toward marks steps count h.tree n other closed (rw h.first has) v in';
    }

-- the source side is known by its vertices
pub IsSourceSide-same : (g : Graph) (toward : List ℕ) (s t : ℕ) (side other : VertexSet) → ((v : ℕ) → other v ≡ side v) → IsSourceSide g toward s t side →
    IsSourceSide g toward s t other
IsSourceSide-same g toward s t side other same h = record {
  first = (same s ∙ h.first.0, same t ∙ h.first.1);
  closed = λ v one to_n in' k d l p. same _ ∙ h.closed v one to_n (sym (same v) ∙ in') k d l p;
  least = λ third closed has v in'. h.least third closed has v (sym (same v) ∙ in');
}

-- ---- what is returned

-- if no path is left, the flow is the least weight between its ends
pub least_between : (g : Graph) → IsGraph g → (s t total : ℕ) (toward : List ℕ) (side : VertexSet) → IsFlow g s t total toward →
    IsSourceSide g toward s t side → IsLeastBetween g s t total
least_between g ok s t total toward side h source =
    IsLeastBetween-from_closed g s t total toward h side source.first (out_none-from_closed g ok toward h.residual.each side source.closed)

-- a flow of the stop or more shows that no cut weighs less
pub stop_reached : (g : Graph) (s t total stop : ℕ) (toward : List ℕ) → IsFlow g s t total toward → stop ≤ total → IsStopReached g s t stop
stop_reached g s t total stop toward h l = λ side p. omega (arith, weight-parting g s t total toward h side p)

-- a least weight below the stop rules out that every cut reaches it
pub stop_not_reached : (g : Graph) (s t total stop : ℕ) → IsLeastBetween g s t total → total < stop → IsStopReached g s t stop → total ≡ stop
stop_not_reached g s t total stop h l all = absurd (omega (arith, all h.cut h.parting, h.met))
