use Rattle.std.proofs.Common.{◌≡◌, ◌↔◌, ◌≤◌, ◌∙◌, ℕ, Option, Some, None, sym, subst, arith}
use Rattle.std.specs.Prelude.{IfSome}
use Rattle.std.specs.List.{Contains, filter, range_with_len}
use Rattle.cut_definitions.specs.Graph.{Graph, IsGraph}
use Rattle.cut_definitions.specs.Weight.{VertexSet}
use Rattle.cut_definitions.proofs.Results.{if_ok_more}
use Rattle.rooted_cactus.specs.Rooted.{IsCactus, sides_of}
use Rattle.flat_cactus.specs.Flat.{Flat}
use Rattle.node_tree.specs.Finished.{IsTreeOfAll, arrays_of}
use Rattle.node_tree.specs.Flat.{NodeArrays, sets_of}
use Rattle.node_tree.specs.TreeSets.{IsTreeSide}
use Rattle.region_sweep.proofs.TreeCuts.{finished}
use Rattle.tree_flattening.specs.CanonicalFlats.{IsCanonicalFlat}
use Rattle.mincut_c.specs.Shown.{IsCanonicalOf}
use Rattle.mincut_c.proofs.canonical.flat_by_arrays.Goals as goal

-- the flat canonical cactus of the tree of all minimum cuts is that of the graph
of_graph : (g : Graph) (a : NodeArrays) (n : ℕ) (o : Option Flat) → IsGraph g → 2 ≤ g.vertices → IsTreeOfAll g a → n ≡ g.vertices → IfSome o (IsCanonicalFlat n a) → IfSome o (IsCanonicalOf g)
of_graph g a n None is enough all over h = tt
of_graph g a n (Some f) is enough all over h =
    let c = h.cactus in
    let same = h.over ∙ over in
    let sides = subst (λ k. (x : VertexSet) → Contains (sides_of c) (filter x (range_with_len 1 k)) ↔ IsTreeSide k (sets_of a) x) over h.sides in
    record {
      rooted = c;
      is_cactus = subst (λ k. IsCactus k c.root) (sym h.over) h.is_cactus;
      over = same;
      canonical = h.canonical;
      sides = finished g a c is (omega (arith, enough)) all same sides;
      entered = h.flat;
    }

pub returns : goal.returns
returns c =
    let g = c.args.list.now in
    let a : NodeArrays = arrays_of c.args.tree.now in
    if_ok_more (λ o. IfSome o (IsCanonicalFlat c.n.result a)) (λ o. IfSome o (IsCanonicalOf g)) c.canonical_flat.result
    (λ o h. of_graph g a c.n.result o c.n.ensures.edge_list.is_graph c.requires.enough c.requires.finished.all c.n.ensures.value h)
    c.canonical_flat.ensures.flat
