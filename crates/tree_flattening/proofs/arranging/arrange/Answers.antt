use Rattle.std.proofs.Common.{◌≡◌, ℕ, ◌<◌, ◌∙◌, ◌++◌, List, [], length, map, ap, subst, arith, inl, inr}
use Rattle.std.specs.Prelude.{IfNone, IfSome, slice_index, slice_index_or, ◌⊎◌}
use Rattle.cut_definitions.specs.Cuts.{least}
use Rattle.node_tree.specs.Finished.{arrays_of}
use Rattle.node_tree.specs.Flat.{NodeArrays, TreeLinks}
use Rattle.tree_flattening.specs.Plans.{heads_of, run_of}
use Rattle.tree_flattening.specs.Arranged.{AreFilled, AreOwn, faced}
use Rattle.tree_flattening.proofs.arranging.arrange.Goals as goal

pub returns-in_default-clause-unfit : goal.returns-in_default-clause-unfit
returns-in_default-clause-unfit c =
    let a : NodeArrays = arrays_of c.args.tree.now in
    let unfit : (c.args.n < length a.links.uppers) ⊎ ¬ (AreFilled c.args.n a) = subst (λ o. IfNone o ((c.args.n < length a.links.uppers) ⊎ ¬ (AreFilled c.args.n a))) c.in_default.is c.in_ok-members.ensures.none in
    elim unfit [
      | inl more ↦ inl more
      | inr empty ↦ inr (inl empty)
    ]

pub arrange_filled-requires-clause-few : goal.arrange_filled-requires-clause-few
arrange_filled-requires-clause-few c = omega (arith, (subst (λ o. IfSome o (AreOwn c.args.n (arrays_of c.args.tree.now))) c.in-Some.is c.in_ok-members.ensures.own).few, c.ranges.n.fits)

pub arrange_filled-requires-clause-members : goal.arrange_filled-requires-clause-members
arrange_filled-requires-clause-members c = (subst (λ o. IfSome o (AreOwn c.args.n (arrays_of c.args.tree.now))) c.in-Some.is c.in_ok-members.ensures.own).many

pub returns-clause-ordered : goal.returns-clause-ordered
returns-clause-ordered c =
    let a : NodeArrays = arrays_of c.args.tree.now in
    let x = c.in_ok-arranged.arranged in
    let s = c.in_ok-arranged.ensures in
    let o = subst (λ o. IfSome o (AreOwn c.args.n a)) c.in-Some.is c.in_ok-members.ensures.own in
    let tree : length x.tree.now.uppers ≡ length a.links.uppers = ap (λ (t : TreeLinks). length t.uppers) s.tree in
    record {
      leasts = record { nodes = slice_index x.leasts.items; blocks = slice_index s.blocks };
      few = o.few;
      laid = o.laid;
      all = s.all;
      filled = o.filled;
      no_triangle = c.has_triangle.ensures.no c.if-has_triangle.false;
      least = record {
        nodes = λ i lt. s.nodes i lt ∙ ap (λ (l : List ℕ). least (l ++ map (slice_index s.blocks) (heads_of a.links i))) (o.own i lt);
        blocks = λ h low lt apart. s.least h lt apart;
      };
      arranged = record {
        count = tree;
        own = λ i lt. ap (λ (g : List (List ℕ)). slice_index_or g i []) s.kept ∙ o.own i (omega (arith, lt, tree));
        moved = λ i lt. s.moved i (omega (arith, lt, tree));
        sorted = λ i lt. s.sorted i (omega (arith, lt, tree));
        run = λ h lt. ap (λ (t : TreeLinks). faced (slice_index x.leasts.items) h (run_of t h)) s.tree;
      };
    }
