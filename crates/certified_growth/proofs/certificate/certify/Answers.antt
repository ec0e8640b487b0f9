use Rattle.std.proofs.Common.{refl, ◌∙◌, subst, arith}
use Rattle.region_flow.specs.Inflow.{ShowsLeast}
use Rattle.region_flow.specs.Outcome.{IfBest}
use Rattle.region_flow.specs.declared.outcome.Outcome.{Outcome}
use Rattle.certified_growth.proofs.Bringing.{leaf_shown}
use Rattle.certified_growth.proofs.certificate.certify.Goals as goal

pub returns-then-branch-clause-leaf : goal.returns-then-branch-clause-leaf
returns-then-branch-clause-leaf c = λ _.
    let g = c.args.graph.now in
    let m = c.may_be_leaf.ensures c.if-not-may_be_leaf.false in
    let rule = c.requires.may m.1 in
    let best = subst (λ (o : Outcome). IfBest o (λ amount. ShowsLeast g c.args.t amount c.flow.new.self)) c.in-Best.is c.flow.ensures.best in
    leaf_shown g c.flow.new.self c.args.t c.in-Best.amount c.args.rule.least c.n-n.ensures.edge_list.is_graph c.requires.connected (omega (arith, m.0)) c.requires.to_n
    best (c.in_ok-is_alone-in-Best.ensures.alone c.if-branch.true) (m.2 ∙ rule.1) (omega (arith, rule.0, m.2))

pub feed_by_steps-requires-clause-flow : goal.feed_by_steps-requires-clause-flow
feed_by_steps-requires-clause-flow c = c.requires.flow

pub feed_by_steps-requires-clause-to_n : goal.feed_by_steps-requires-clause-to_n
feed_by_steps-requires-clause-to_n c = c.requires.to_n

pub feed_by_steps-requires-clause-outside : goal.feed_by_steps-requires-clause-outside
feed_by_steps-requires-clause-outside c = c.requires.outside

pub flow-requires-clause-flow : goal.flow-requires-clause-flow
flow-requires-clause-flow c = c.feed_by_steps.ensures.flow

pub flow-requires-clause-to_n : goal.flow-requires-clause-to_n
flow-requires-clause-to_n c = c.requires.to_n

pub flow-requires-clause-outside : goal.flow-requires-clause-outside
flow-requires-clause-outside c = rw c.feed_by_steps.ensures.labels c.requires.outside

pub is_alone-requires-clause-flow : goal.is_alone-requires-clause-flow
is_alone-requires-clause-flow c = c.flow.ensures.flow

pub is_alone-requires-clause-room : goal.is_alone-requires-clause-room
is_alone-requires-clause-room c = c.requires.room

pub is_alone-requires-clause-to_n : goal.is_alone-requires-clause-to_n
is_alone-requires-clause-to_n c = c.requires.to_n

pub returns-then-feed-all-clause-flow : goal.returns-then-feed-all-clause-flow
returns-then-feed-all-clause-flow c = c.feed_by_steps.ensures.flow

pub returns-then-feed-all-clause-labels : goal.returns-then-feed-all-clause-labels
returns-then-feed-all-clause-labels c = c.feed_by_steps.ensures.labels

pub returns-then-feed-all-clause-room : goal.returns-then-feed-all-clause-room
returns-then-feed-all-clause-room c = refl

pub returns-then-feed-all-clause-heavy : goal.returns-then-feed-all-clause-heavy
returns-then-feed-all-clause-heavy c = λ is. cc

pub returns-then-feed-all-clause-leaf : goal.returns-then-feed-all-clause-leaf
returns-then-feed-all-clause-leaf c = λ is. cc

pub returns-then-feed-all-clause-is_leaf : goal.returns-then-feed-all-clause-is_leaf
returns-then-feed-all-clause-is_leaf c = λ is. cc

pub returns-in-AtLeast-clause-flow : goal.returns-in-AtLeast-clause-flow
returns-in-AtLeast-clause-flow c = c.flow.ensures.flow

pub returns-in-AtLeast-clause-labels : goal.returns-in-AtLeast-clause-labels
returns-in-AtLeast-clause-labels c = c.flow.ensures.labels ∙ c.feed_by_steps.ensures.labels

pub returns-in-AtLeast-clause-room : goal.returns-in-AtLeast-clause-room
returns-in-AtLeast-clause-room c = refl

pub returns-in-AtLeast-clause-leaf : goal.returns-in-AtLeast-clause-leaf
returns-in-AtLeast-clause-leaf c = λ is. cc

pub returns-in-AtLeast-clause-is_leaf : goal.returns-in-AtLeast-clause-is_leaf
returns-in-AtLeast-clause-is_leaf c = λ is. cc

pub returns-then-not-may_be_leaf-clause-flow : goal.returns-then-not-may_be_leaf-clause-flow
returns-then-not-may_be_leaf-clause-flow c = c.flow.ensures.flow

pub returns-then-not-may_be_leaf-clause-labels : goal.returns-then-not-may_be_leaf-clause-labels
returns-then-not-may_be_leaf-clause-labels c = c.flow.ensures.labels ∙ c.feed_by_steps.ensures.labels

pub returns-then-not-may_be_leaf-clause-room : goal.returns-then-not-may_be_leaf-clause-room
returns-then-not-may_be_leaf-clause-room c = refl

pub returns-then-not-may_be_leaf-clause-heavy : goal.returns-then-not-may_be_leaf-clause-heavy
returns-then-not-may_be_leaf-clause-heavy c = λ is. cc

pub returns-then-not-may_be_leaf-clause-leaf : goal.returns-then-not-may_be_leaf-clause-leaf
returns-then-not-may_be_leaf-clause-leaf c = λ is. cc

pub returns-then-not-may_be_leaf-clause-is_leaf : goal.returns-then-not-may_be_leaf-clause-is_leaf
returns-then-not-may_be_leaf-clause-is_leaf c = λ is. cc

pub returns-in_err-is_alone-in-Best-clause-flow : goal.returns-in_err-is_alone-in-Best-clause-flow
returns-in_err-is_alone-in-Best-clause-flow c = c.flow.ensures.flow

pub returns-in_err-is_alone-in-Best-clause-labels : goal.returns-in_err-is_alone-in-Best-clause-labels
returns-in_err-is_alone-in-Best-clause-labels c = c.flow.ensures.labels ∙ c.feed_by_steps.ensures.labels

pub returns-then-branch-clause-flow : goal.returns-then-branch-clause-flow
returns-then-branch-clause-flow c = c.flow.ensures.flow

pub returns-then-branch-clause-labels : goal.returns-then-branch-clause-labels
returns-then-branch-clause-labels c = c.flow.ensures.labels ∙ c.feed_by_steps.ensures.labels

pub returns-then-branch-clause-heavy : goal.returns-then-branch-clause-heavy
returns-then-branch-clause-heavy c = λ is. cc

pub returns-else-branch-clause-flow : goal.returns-else-branch-clause-flow
returns-else-branch-clause-flow c = c.flow.ensures.flow

pub returns-else-branch-clause-labels : goal.returns-else-branch-clause-labels
returns-else-branch-clause-labels c = c.flow.ensures.labels ∙ c.feed_by_steps.ensures.labels

pub returns-else-branch-clause-heavy : goal.returns-else-branch-clause-heavy
returns-else-branch-clause-heavy c = λ is. cc

pub returns-else-branch-clause-leaf : goal.returns-else-branch-clause-leaf
returns-else-branch-clause-leaf c = λ is. cc

pub returns-else-branch-clause-is_leaf : goal.returns-else-branch-clause-is_leaf
returns-else-branch-clause-is_leaf c = λ is. cc
