-- The ends are joined in each kind of classes whose bound is reached.
use Rattle.std.proofs.Common.{◌+◌, ◌<◌, ◌≤◌, ⊎_elim, inr, List, ℕ, sym, subst, arith}
use Rattle.std.proofs.lemmas.Bool.{cases_lt}
use Rattle.vertex_classes.proofs.Joining.{same_classes}
use Rattle.forest_contraction.specs.Forests.{level, HasTaken}
use Rattle.forest_contraction.proofs.Tied.{taken_joined, taken_same}
use Rattle.forest_contraction.proofs.forests.join_reached.Goals as goal

pub returns-then-reach-bound-clause-taken : goal.returns-then-reach-bound-clause-taken
returns-then-reach-bound-clause-taken c = λ levels step reaches k lk.
    taken_same levels step (c.args.bound + k) c.args.edge (level c.args.tied.now k) (level c.args.tied.now k) (same_classes (level c.args.tied.now k))

pub returns-then-reach-bound-clause-heavy : goal.returns-then-reach-bound-clause-heavy
returns-then-reach-bound-clause-heavy c = λ k lk le. absurd (omega (arith, c.if-reach-bound.true, le))

pub returns-clause-taken : goal.returns-clause-taken
returns-clause-taken c = λ levels step reaches k lk.
    let old = c.args.tied.now in
    let so = c.join_levels.ensures in
    ⊎_elim
    (λ (inside : k < c.min-count.result).
    taken_joined levels step (c.args.bound + k) c.args.reach c.args.edge (level old k) (level c.join_levels.new.levels k) reaches
    (omega (arith, inside, c.min-count.ensures, c.saturating_add.ensures, c.if-reach-bound.false)) (so.inside k (omega arith) inside))
    (λ (out : c.min-count.result ≤ k).
    subst (λ (ps : List ℕ). HasTaken levels step (c.args.bound + k) c.args.edge (level old k) ps) (sym (so.outside k (inr out)))
    (taken_same levels step (c.args.bound + k) c.args.edge (level old k) (level old k) (same_classes (level old k))))
    (cases_lt k c.min-count.result)

pub returns-clause-heavy : goal.returns-clause-heavy
returns-clause-heavy c = λ k lk le s h.
    let inside : k < c.min-count.result = omega (arith, le, lk, c.min-count.ensures, c.saturating_add.ensures, c.if-reach-bound.false) in
    (((c.join_levels.ensures.inside k (omega arith) inside).respected s).0 h).1
