-- The vertex is fed more than the value, or its parts were looked for.
use Rattle.std.proofs.Common.{get_or, sym, ◌∙◌, subst, arith, ℕ}
use Rattle.std.proofs.lemmas.Result.{IfOk-weaker, on_ok_weaker}
use Rattle.region_flow.proofs.Least.{fed_least}
use Rattle.region_flow.specs.Parted.{AreLightParts}
use Rattle.region_fronts.specs.Listed.{part_in}
use Rattle.region_parts.proofs.Covering.{fed_others}
use Rattle.region_sweep.proofs.Stepping.{from_two}
use Rattle.region_sweep.proofs.UnderWay.{fed_value, flowed, looked}
use Rattle.region_sweep.proofs.sweep.Sweep.find_parts.Goals as goal

pub returns-then-feed-value-clause-under_way : goal.returns-then-feed-value-clause-under_way
returns-then-feed-value-clause-under_way c =
    let f = c.flow-fed.ensures in
    flowed c.args.graph.now c.args.self.now c.flow-fed.new.self c.args.t c.requires.under_way c.requires.open f.flow f.labels f.others

pub returns-then-feed-value-clause-none : goal.returns-then-feed-value-clause-none
returns-then-feed-value-clause-none c = λ is s around.
    let f = c.flow-fed.new.self in
    omega (arith, c.if-feed-value.true, c.feed.ensures, fed_least c.args.graph.now f.labels f.feed f.toward c.args.t c.flow-fed.ensures.flow c.requires.open.to_n s around)

pub split-requires-clause-minimum : goal.split-requires-clause-minimum
split-requires-clause-minimum c =
    let f = c.flow-fed.ensures in
    let h = c.requires.least in
    let fed = fed_value c.args.graph.now c.args.self.now c.flow-fed.new.self.labels c.args.t c.args.value (get_or c.flow-fed.new.self.feed c.args.t 0) c.requires.under_way h c.requires.open f.labels
    (λ r. f.reached (f.stopped.1 r)) (omega (arith, c.if-feed-value.false, c.feed.ensures)) in
    (h.some, h.minimum, h.weighs ∙ sym fed)

pub split-requires-clause-fed : goal.split-requires-clause-fed
split-requires-clause-fed c =
    let f = c.flow-fed.ensures in
    fed_others c.args.graph.now c.args.self.now.flow c.flow-fed.new.self c.args.t c.requires.under_way.fed f.labels f.others

pub returns-clause-under_way : goal.returns-clause-under_way
returns-clause-under_way c =
    let g = c.args.graph.now in
    let f = c.flow-fed.ensures in
    let e = c.split.ensures in
    let before = flowed g c.args.self.now c.flow-fed.new.self c.args.t c.requires.under_way c.requires.open f.flow f.labels f.others in
    on_ok_weaker c.split.result
    (λ ready. looked g (record c.args.self.now { flow = c.flow-fed.new.self }) c.split.new.fronts c.split.new.self c.split.new.parts before ready e.covered e.vertices e.numbers)
    e.ready

pub returns-clause-none : goal.returns-clause-none
returns-clause-none c =
    let f = c.flow-fed.ensures in
    let h = c.requires.least in
    let fed = fed_value c.args.graph.now c.args.self.now c.flow-fed.new.self.labels c.args.t c.args.value (get_or c.flow-fed.new.self.feed c.args.t 0) c.requires.under_way h c.requires.open f.labels
    (λ r. f.reached (f.stopped.1 r)) (omega (arith, c.if-feed-value.false, c.feed.ensures)) in
    IfOk-weaker c.split.result _ _ (λ some h is s around. omega (arith, h is s around, fed)) c.split.ensures.none

pub returns-clause-light : goal.returns-clause-light
returns-clause-light c =
    let f = c.flow-fed.ensures in
    let h = c.requires.least in
    let fed = fed_value c.args.graph.now c.args.self.now c.flow-fed.new.self.labels c.args.t c.args.value (get_or c.flow-fed.new.self.feed c.args.t 0) c.requires.under_way h c.requires.open f.labels
    (λ r. f.reached (f.stopped.1 r)) (omega (arith, c.if-feed-value.false, c.feed.ensures)) in
    let labels = c.flow-fed.new.self.labels in
    IfOk-weaker c.split.result _ _
    (λ some h is. subst (λ (k : ℕ). AreLightParts c.args.graph.now labels c.args.t c.split.new.parts.count k (part_in c.split.new.parts labels (get_or labels c.args.t 0))) fed (h is))
    c.split.ensures.light

pub flow-fed-requires-clause-flow : goal.flow-fed-requires-clause-flow
flow-fed-requires-clause-flow c = c.requires.under_way.flow

pub flow-fed-requires-clause-to_n : goal.flow-fed-requires-clause-to_n
flow-fed-requires-clause-to_n c = c.requires.open.to_n

pub flow-fed-requires-clause-outside : goal.flow-fed-requires-clause-outside
flow-fed-requires-clause-outside c = c.requires.open.outside

pub returns-then-feed-value-clause-labels : goal.returns-then-feed-value-clause-labels
returns-then-feed-value-clause-labels c = c.flow-fed.ensures.labels

pub returns-then-feed-value-clause-listed : goal.returns-then-feed-value-clause-listed
returns-then-feed-value-clause-listed c = λ some. cc

pub returns-then-feed-value-clause-light : goal.returns-then-feed-value-clause-light
returns-then-feed-value-clause-light c = λ some. cc

pub split-requires-clause-ready : goal.split-requires-clause-ready
split-requires-clause-ready c = c.requires.under_way.ready

pub split-requires-clause-connected : goal.split-requires-clause-connected
split-requires-clause-connected c = c.requires.connected

pub split-requires-clause-flow : goal.split-requires-clause-flow
split-requires-clause-flow c = c.flow-fed.ensures.flow

pub split-requires-clause-open : goal.split-requires-clause-open
split-requires-clause-open c = rw c.flow-fed.ensures.labels c.requires.open

pub split-requires-clause-vertices : goal.split-requires-clause-vertices
split-requires-clause-vertices c = c.requires.under_way.room.vertices

pub split-requires-clause-covered : goal.split-requires-clause-covered
split-requires-clause-covered c = rw c.flow-fed.ensures.labels c.requires.under_way.covered

pub split-requires-clause-numbers : goal.split-requires-clause-numbers
split-requires-clause-numbers c = c.requires.under_way.room.numbers

pub returns-clause-labels : goal.returns-clause-labels
returns-clause-labels c = c.flow-fed.ensures.labels

pub returns-clause-listed : goal.returns-clause-listed
returns-clause-listed c = c.split.ensures.listed

pub feed-requires : goal.feed-requires
feed-requires c = omega (arith, c.flow-fed.ensures.flow.feed_length, c.requires.open.to_n)

pub split-requires-clause-from_one : goal.split-requires-clause-from_one
split-requires-clause-from_one c =
    let h = c.requires.under_way in
    omega (arith, from_two c.args.self.now.flow.labels c.args.t h.flow.nobody h.sweeping.entered c.requires.open.outside)

pub split-requires-clause-root : goal.split-requires-clause-root
split-requires-clause-root c = rw c.flow-fed.ensures.labels c.requires.under_way.sweeping.entered
