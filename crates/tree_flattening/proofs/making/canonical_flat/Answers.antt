use Rattle.std.proofs.Common.{refl, subst, arith, inl, inr}
use Rattle.std.specs.Prelude.{IfSome}
use Rattle.node_tree.specs.Finished.{arrays_of}
use Rattle.node_tree.specs.Flat.{NodeArrays}
use Rattle.tree_flattening.specs.Arranged.{IsOrdered, plan_of}
use Rattle.tree_flattening.proofs.CanonicalTrees.{arranged_is_plan, canonical_trees}
use Rattle.tree_flattening.proofs.Stated.{IsLaidOut}
use Rattle.tree_flattening.proofs.making.canonical_flat.Goals as goal

pub flatten_arranged-requires-clause-plan : goal.flatten_arranged-requires-clause-plan
flatten_arranged-requires-clause-plan c =
    let a : NodeArrays = arrays_of c.args.tree.now in
    let ordered = subst (λ o. IfSome o (IsOrdered c.args.n a)) c.in-Some.is c.in_ok-arranged.ensures.ordered in
    let laid : IsLaidOut c.args.n a = record { some = c.requires.some; nodes = c.requires.nodes; laid = ordered.laid; root = c.requires.one; few = omega (arith, ordered.few, c.ranges.n.fits) } in
    arranged_is_plan c.args.n a ordered.leasts (plan_of c.in-Some.arranged) laid ordered.arranged

pub returns-clause-flat : goal.returns-clause-flat
returns-clause-flat c =
    let a : NodeArrays = arrays_of c.args.tree.now in
    let ordered = subst (λ o. IfSome o (IsOrdered c.args.n a)) c.in-Some.is c.in_ok-arranged.ensures.ordered in
    let laid : IsLaidOut c.args.n a = record { some = c.requires.some; nodes = c.requires.nodes; laid = ordered.laid; root = c.requires.one; few = omega (arith, ordered.few, c.ranges.n.fits) } in
    let tree = canonical_trees c.args.n a ordered.leasts (plan_of c.in-Some.arranged) laid ordered.filled ordered.no_triangle ordered.least ordered.arranged in
    record {
      cactus = record { vertices = c.args.n; root = tree.node 0 };
      over = refl;
      is_cactus = tree.is_cactus;
      canonical = tree.canonical;
      sides = tree.sides;
      flat = c.in_ok-flat.ensures tree.node tree.block tree.drawn;
    }

pub returns-clause-fit : goal.returns-clause-fit
returns-clause-fit c = λ unfit.
    let a : NodeArrays = arrays_of c.args.tree.now in
    let ordered = subst (λ o. IfSome o (IsOrdered c.args.n a)) c.in-Some.is c.in_ok-arranged.ensures.ordered in
    elim unfit [
      | inl more ↦ omega (arith, more, ordered.few)
      | inr rest ↦ elim rest [
        | inl empty ↦ empty ordered.filled
        | inr triangle ↦ triangle ordered.no_triangle
      ]
    ]
