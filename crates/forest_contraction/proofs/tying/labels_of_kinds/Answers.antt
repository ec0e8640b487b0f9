-- The second kind of classes is tied for one more than the bound.
use Rattle.std.proofs.Common.{◌≡◌, ◌+◌, ◌<◌, ℕ, ◌∙◌, List, [], length, refl, subst, arith}
use Rattle.std.proofs.lemmas.List.{get_or_default}
use Rattle.vertex_classes.specs.Classes.{AreNumbersOf}
use Rattle.forest_contraction.specs.Forests.{level}
use Rattle.forest_contraction.proofs.Tied.{labels_tied}
use Rattle.forest_contraction.proofs.tying.labels_of_kinds.Goals as goal

pub returns-clause-above : goal.returns-clause-above
returns-clause-above c = λ g over tied.
    let l1 : 1 < length c.args.tied.now = omega (arith, c.if-tied-lt2.false) in
    let is : c.index-tied-1.result ≡ level c.args.tied.now 1 = c.index-tied-1.is ∙ get_or_default c.args.tied.now 1 c.index-tied-1.result [] l1 in
    record {
      one_more = refl;
      tied = labels_tied g (c.args.bound + 1) (level c.args.tied.now 1) c.in_ok-labels.labels (over 1 l1)
          (subst (λ (ps : List ℕ). AreNumbersOf ps c.in_ok-labels.labels) is c.in_ok-labels.ensures) (tied 1 l1);
    }
