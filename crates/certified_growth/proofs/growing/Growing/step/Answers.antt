use Rattle.std.proofs.Common.{◌≤◌, List, ℕ, true, false, get_or, refl, subst, arith}
use Rattle.certified_growth.specs.Turns.{IsShown}
use Rattle.certified_growth.proofs.Turning.{from_label, next_heavy, next_leaf}
use Rattle.certified_growth.proofs.growing.Growing.step.Goals as goal

pub enter-requires-clause-next : goal.enter-requires-clause-next
enter-requires-clause-next c =
    let g = c.args.graph.now in
    let s = c.args.self.now in
    let t = c.args.t in
    let least = c.args.rule.least in
    let h = c.requires.growing in
    let outside : 1 ≤ get_or s.flow.labels t 0 = omega arith in
    next_heavy g least c.args.owners.now s.own s.count t s.flow.labels s.turns.items s.leaves.items h.turns h.told (from_label s.flow.labels t h.flow.nobody outside) c.requires.to_n outside
    c.n-n.ensures.edge_list.is_graph
    (subst (λ (ls : List ℕ). IsShown g least ls false t) c.certify.ensures.labels (c.in_ok-kind.ensures.heavy c.in-Heavy.is))

pub enter-requires-in-Leaf-clause-next : goal.enter-requires-in-Leaf-clause-next
enter-requires-in-Leaf-clause-next c =
    let g = c.args.graph.now in
    let s = c.args.self.now in
    let t = c.args.t in
    let least = c.args.rule.least in
    let h = c.requires.growing in
    let outside : 1 ≤ get_or s.flow.labels t 0 = omega arith in
    next_leaf g least c.args.owners.now s.own s.count t s.flow.labels s.turns.items s.leaves.items h.turns h.told (from_label s.flow.labels t h.flow.nobody outside) c.requires.to_n outside
    c.n-n.ensures.edge_list.is_graph (c.in_ok-kind.ensures.is_leaf c.in-Leaf.is)
    (subst (λ (ls : List ℕ). IsShown g least ls true t) c.certify.ensures.labels (c.in_ok-kind.ensures.leaf c.in-Leaf.is))

pub certify-requires-clause-connected : goal.certify-requires-clause-connected
certify-requires-clause-connected c = c.requires.connected

pub certify-requires-clause-flow : goal.certify-requires-clause-flow
certify-requires-clause-flow c = c.requires.growing.flow

pub certify-requires-clause-room : goal.certify-requires-clause-room
certify-requires-clause-room c = c.requires.growing.room

pub certify-requires-clause-to_n : goal.certify-requires-clause-to_n
certify-requires-clause-to_n c = c.requires.to_n

pub certify-requires-clause-may : goal.certify-requires-clause-may
certify-requires-clause-may c = c.requires.may

pub enter-requires-clause-own : goal.enter-requires-clause-own
enter-requires-clause-own c = c.requires.own

pub enter-requires-clause-to_n : goal.enter-requires-clause-to_n
enter-requires-clause-to_n c = c.requires.to_n

pub enter-requires-in-Leaf-clause-own : goal.enter-requires-in-Leaf-clause-own
enter-requires-in-Leaf-clause-own c = c.requires.own

pub enter-requires-in-Leaf-clause-to_n : goal.enter-requires-in-Leaf-clause-to_n
enter-requires-in-Leaf-clause-to_n c = c.requires.to_n

pub returns-then-label-eq0-clause-growing : goal.returns-then-label-eq0-clause-growing
returns-then-label-eq0-clause-growing c = c.requires.growing

pub returns-then-label-eq0-clause-own : goal.returns-then-label-eq0-clause-own
returns-then-label-eq0-clause-own c = refl

pub returns-in_err-kind-clause-own : goal.returns-in_err-kind-clause-own
returns-in_err-kind-clause-own c = refl

pub returns-in_ok-enter-in-Heavy-clause-own : goal.returns-in_ok-enter-in-Heavy-clause-own
returns-in_ok-enter-in-Heavy-clause-own c = c.enter.ensures.own

pub returns-in_ok-enter-in-Leaf-clause-own : goal.returns-in_ok-enter-in-Leaf-clause-own
returns-in_ok-enter-in-Leaf-clause-own c = c.enter-in-Leaf.ensures.own

pub returns-in_err-enter-in-Heavy-clause-own : goal.returns-in_err-enter-in-Heavy-clause-own
returns-in_err-enter-in-Heavy-clause-own c = c.enter.ensures.own

pub returns-in_err-enter-in-Leaf-clause-own : goal.returns-in_err-enter-in-Leaf-clause-own
returns-in_err-enter-in-Leaf-clause-own c = c.enter-in-Leaf.ensures.own

pub returns-then-not-take_try-clause-own : goal.returns-then-not-take_try-clause-own
returns-then-not-take_try-clause-own c = refl
