-- A graph whose vertices are numbered anew keeps all minimum cuts.
use Rattle.std.proofs.Common.{◌≡◌, ℕ, ◌≤◌, List, refl, sym, subst}
use Rattle.cut_definitions.specs.Graph.{Graph, IsGraph}
use Rattle.cut_definitions.specs.Cuts.{value}
use Rattle.cut_definitions.specs.Contraction.{relabel}
use Rattle.vertex_order.specs.Numbering.{IsNumbering}
use Rattle.vertex_order.proofs.Keeping.{numbering_is_labelled, numbering_keeps, numbered_stands}
use Rattle.min_value.specs.Kernels.{KeepsAllMinimumCuts, IsKept}

pub kept_by_numbering : (g : Graph) → IsGraph g → 2 ≤ g.vertices → (least : ℕ) (labels : List ℕ) (small : Graph) → least ≡ value g → IsNumbering g.vertices labels → small ≡ relabel g labels → IsKept g least small labels
unfolding relabel
kept_by_numbering g ok two least labels small is h small_is =
    let kept = numbering_keeps g ok two labels h in
    let all : KeepsAllMinimumCuts g (relabel g labels) labels = record { each_is_lifted = kept.each_is_lifted; lifted = kept.lifted } in
    subst (λ (s : Graph). IsKept g least s labels) (sym small_is) (record {
      is_value = is;
      same_value = kept.same_value;
      labelled = numbering_is_labelled g labels h;
      counted = refl;
      minimum_cuts = all;
      enough = (numbered_stands g ok two labels h).enough;
    })
