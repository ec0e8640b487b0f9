-- An edge within a class of the last kind changes nothing; another is put into the levels, and its ends are joined in each kind whose bound they reach.
use Rattle.std.proofs.Common.{◌≡◌, ◌+◌, ◌-◌, ◌<◌, length, set, arith}
use Rattle.forest_contraction.specs.Forests.{level, HasSameLevels}
use Rattle.forest_contraction.proofs.Levels.{joined_in, joined_after, same_levels, same_levels-set}
use Rattle.forest_contraction.proofs.Tied.{forests-stay, taken_after, taken_same}
use Rattle.forest_contraction.proofs.forests.tie_edge.Goals as goal

pub returns-then-are_joined-clause-forests : goal.returns-then-are_joined-clause-forests
returns-then-are_joined-clause-forests c = λ es forests. forests-stay es c.args.step c.args.edge c.args.levels.now forests

pub returns-then-are_joined-clause-taken : goal.returns-then-are_joined-clause-taken
returns-then-are_joined-clause-taken c = λ k lk.
    let old = c.args.tied.now in
    let last = length old - 1 in
    let mid = set old last c.are_joined.new.self in
    let same : HasSameLevels old mid = same_levels-set old old last c.index-tied-last.result c.are_joined.new.self (same_levels old) (omega (arith, c.requires.some)) c.are_joined.ensures.same in
    taken_same c.args.levels.now c.args.step (c.args.bound + k) c.args.edge (level old k) (level mid k) (same.each k lk)

pub returns-then-are_joined-clause-heavy : goal.returns-then-are_joined-clause-heavy
returns-then-are_joined-clause-heavy c = λ k is le.
    let old = c.args.tied.now in
    let last = length old - 1 in
    let mid = set old last c.are_joined.new.self in
    let lm : last < length old = omega (arith, c.requires.some) in
    let same : HasSameLevels old mid = same_levels-set old old last c.index-tied-last.result c.are_joined.new.self (same_levels old) lm c.are_joined.ensures.same in
    let here : k ≡ last = omega (arith, is) in
    rw here (joined_after old mid last c.args.edge.u c.args.edge.v same lm (joined_in old old last c.index-tied-last.result c.args.edge.u c.args.edge.v (same_levels old) lm (c.are_joined.ensures.yes c.if-are_joined.true)))

pub returns-clause-over : goal.returns-clause-over
returns-clause-over c = c.put_and_reach-reach.ensures.over (length (level c.args.tied.now 0)) c.requires.over

pub returns-clause-taken : goal.returns-clause-taken
returns-clause-taken c = λ k lk.
    let old = c.args.tied.now in
    let last = length old - 1 in
    let mid = set old last c.are_joined.new.self in
    let same : HasSameLevels old mid = same_levels-set old old last c.index-tied-last.result c.are_joined.new.self (same_levels old) (omega (arith, c.requires.some)) c.are_joined.ensures.same in
    taken_after c.args.levels.now c.args.step (c.args.bound + k) c.args.edge (level old k) (level mid k) (level c.join_reached.new.tied k) (same.each k lk)
    (c.join_reached.ensures.taken c.args.levels.now c.args.step c.put_and_reach-reach.ensures.reach k (omega (arith, same.count)))

pub returns-clause-heavy : goal.returns-clause-heavy
returns-clause-heavy c = λ k is le.
    let old = c.args.tied.now in
    let last = length old - 1 in
    let mid = set old last c.are_joined.new.self in
    let same : HasSameLevels old mid = same_levels-set old old last c.index-tied-last.result c.are_joined.new.self (same_levels old) (omega (arith, c.requires.some)) c.are_joined.ensures.same in
    c.join_reached.ensures.heavy k (omega (arith, same.count, is)) (omega (arith, le, c.put_and_reach-reach.ensures.heavy))
