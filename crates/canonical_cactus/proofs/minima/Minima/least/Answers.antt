-- The nodes of each level are there.
use Rattle.std.proofs.Common.{◌≡◌, ◌+◌, ◌-◌, ◌/◌, ◌<◌, ◌∙◌, length, get_or, min, subst, arith}
use Rattle.std.proofs.lemmas.List.{get_or_default}
use Rattle.canonical_cactus.proofs.MinTrees.{IsClimb, climb_done, climb_start, climb_step}
use Rattle.canonical_cactus.proofs.minima.Minima.least.Goals as goal

pub overflow_add-low : goal.overflow_add-low
overflow_add-low c = omega (arith, c.requires.tree.long, c.requires.from, c.args.self.now.tree.ok.0)

pub overflow_add-high : goal.overflow_add-high
overflow_add-high c = omega (arith, c.requires.tree.long, c.requires.to, c.args.self.now.tree.ok.0)

pub levels-init : goal.levels-init
levels-init c = climb_start c.args.self.now _ _ (omega arith) (omega (arith, c.requires.to))

pub index-requires : goal.index-requires
index-requires c = omega (arith, c.requires.tree.long, c.levels.invariant.inside, c.levels-test.true, c.args.self.now.tree.ok.0)

pub index-requires-in-levels : goal.index-requires-in-levels
index-requires-in-levels c = omega (arith, c.requires.tree.long, c.levels.invariant.inside, c.levels-test.true, c.args.self.now.tree.ok.0)

pub levels-preserved : goal.levels-preserved
levels-preserved c =
    let m = c.args.self.now in
    let t = m.tree.items in
    let low_there : c.levels.low < length t = omega (arith, c.requires.tree.long, c.levels.invariant.inside, c.levels-test.true) in
    let high_there : c.levels.high - 1 < length t = omega (arith, c.requires.tree.long, c.levels.invariant.inside, c.levels-test.true) in
    let low_is : c.index.result.now ≡ get_or t c.levels.low 0 = c.index.ensures ∙ get_or_default t c.levels.low c.index.result.now 0 low_there in
    let high_is : c.index-in-levels.result.now ≡ get_or t (c.levels.high - 1) 0 = c.index-in-levels.ensures ∙ get_or_default t (c.levels.high - 1) c.index-in-levels.result.now 0 high_there in
    let least_is : min (min c.levels.least (get_or t c.levels.low 0)) (get_or t (c.levels.high - 1) 0) ≡ c.min-least.result = omega (arith, low_is, high_is, c.min.ensures, c.min-least.ensures) in
    subst (IsClimb m (m.size + c.args.span.from) (m.size + c.args.span.to) ((c.levels.low + 1) / 2) (c.levels.high / 2)) least_is
    (climb_step m (m.size + c.args.span.from) (m.size + c.args.span.to) c.levels.low c.levels.high c.levels.least c.requires.tree c.levels-test.true c.levels.invariant)

pub returns : goal.returns
returns c = climb_done c.args.self.now c.args.span.from c.args.span.to c.levels.low c.levels.high c.levels.least (omega (arith, c.levels-test.false)) c.levels.invariant
