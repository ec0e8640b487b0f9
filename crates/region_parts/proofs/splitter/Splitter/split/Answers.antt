-- The region is one that can be split, and it is forgotten in the end.
use Rattle.std.proofs.Common.{arith}
use Rattle.region_parts.proofs.SplitRegions.{region_of}
use Rattle.region_parts.proofs.splitter.Splitter.split.Goals as goal

pub list_first-requires-clause-region : goal.list_first-requires-clause-region
list_first-requires-clause-region c =
    let least = c.requires.minimum in
    region_of c.args.graph.now c.args.flow.now c.args.t c.n-n.ensures.edge_list.is_graph c.requires.connected c.requires.flow c.requires.from_one c.requires.«open» c.requires.root least.0 least.1 least.2

pub clear-requires-clause-within : goal.clear-requires-clause-within
clear-requires-clause-within c = λ v there.
    let between = c.in_ok-list_first.ensures.between in
    let le = between.touched_within v there in
    omega (arith, le, between.good_length)

pub returns-then-not-branch-clause-ready : goal.returns-then-not-branch-clause-ready
returns-then-not-branch-clause-ready c =
    let between = c.in_ok-list_first.ensures.between in
    c.clear.ensures.ready c.args.graph.now.vertices between.halves.inner_half.kept between.halves.outer_half.kept c.in_ok-list_first.ensures.near between.hub between.good_length between.memory

pub clear-requires-2-clause-within : goal.clear-requires-2-clause-within
clear-requires-2-clause-within c = λ v there.
    let between = c.in_ok-between.ensures.between in
    let le = between.touched_within v there in
    omega (arith, le, between.good_length)

pub returns-clause-ready : goal.returns-clause-ready
returns-clause-ready c =
    let between = c.in_ok-between.ensures.between in
    c.clear-2.ensures.ready c.args.graph.now.vertices between.halves.inner_half.kept between.halves.outer_half.kept c.in_ok-between.ensures.near between.hub between.good_length between.memory

pub list_first-requires-clause-flow : goal.list_first-requires-clause-flow
list_first-requires-clause-flow c = c.requires.flow

pub list_first-requires-clause-ready : goal.list_first-requires-clause-ready
list_first-requires-clause-ready c = c.requires.ready

pub list_first-requires-clause-front : goal.list_first-requires-clause-front
list_first-requires-clause-front c = record { vertices = c.requires.vertices; covered = c.requires.covered; fed = c.requires.fed }

pub returns-in_err-list_first-clause-vertices : goal.returns-in_err-list_first-clause-vertices
returns-in_err-list_first-clause-vertices c = c.list_first.ensures.front.vertices

pub returns-in_err-list_first-clause-covered : goal.returns-in_err-list_first-clause-covered
returns-in_err-list_first-clause-covered c = c.list_first.ensures.front.covered

pub returns-in_err-list_first-clause-numbers : goal.returns-in_err-list_first-clause-numbers
returns-in_err-list_first-clause-numbers c = c.requires.numbers

pub clear-requires-clause-inner : goal.clear-requires-clause-inner
clear-requires-clause-inner c = (c.args.graph.now.vertices, c.in_ok-list_first.ensures.between.halves.inner_half.kept)

pub clear-requires-clause-outer : goal.clear-requires-clause-outer
clear-requires-clause-outer c = (c.args.graph.now.vertices, c.in_ok-list_first.ensures.between.halves.outer_half.kept)

pub clear-requires-clause-touched : goal.clear-requires-clause-touched
clear-requires-clause-touched c = c.in_ok-list_first.ensures.between.touched

pub clear-requires-clause-near : goal.clear-requires-clause-near
clear-requires-clause-near c = (c.args.graph.now.vertices, c.in_ok-list_first.ensures.near)

pub returns-then-not-branch-clause-vertices : goal.returns-then-not-branch-clause-vertices
returns-then-not-branch-clause-vertices c = c.list_first.ensures.front.vertices

pub returns-then-not-branch-clause-covered : goal.returns-then-not-branch-clause-covered
returns-then-not-branch-clause-covered c = c.list_first.ensures.front.covered

pub returns-then-not-branch-clause-numbers : goal.returns-then-not-branch-clause-numbers
returns-then-not-branch-clause-numbers c = c.requires.numbers

pub returns-then-not-branch-clause-none : goal.returns-then-not-branch-clause-none
returns-then-not-branch-clause-none c = λ none. c.in_ok-list_first.ensures.none c.if-not-branch.true

pub returns-then-not-branch-clause-listed : goal.returns-then-not-branch-clause-listed
returns-then-not-branch-clause-listed c = λ some. cc

pub returns-then-not-branch-clause-light : goal.returns-then-not-branch-clause-light
returns-then-not-branch-clause-light c = λ some. cc

pub list_parts-requires-clause-flow : goal.list_parts-requires-clause-flow
list_parts-requires-clause-flow c = c.requires.flow

pub list_parts-requires-clause-between : goal.list_parts-requires-clause-between
list_parts-requires-clause-between c = c.in_ok-list_first.ensures.between

pub list_parts-requires-clause-near : goal.list_parts-requires-clause-near
list_parts-requires-clause-near c = c.in_ok-list_first.ensures.near

pub list_parts-requires-clause-front : goal.list_parts-requires-clause-front
list_parts-requires-clause-front c = c.list_first.ensures.front

pub list_parts-requires-clause-some : goal.list_parts-requires-clause-some
list_parts-requires-clause-some c = c.in_ok-list_first.ensures.some c.if-not-branch.false

pub returns-in_err-between-clause-vertices : goal.returns-in_err-between-clause-vertices
returns-in_err-between-clause-vertices c = c.list_parts.ensures.front.vertices

pub returns-in_err-between-clause-covered : goal.returns-in_err-between-clause-covered
returns-in_err-between-clause-covered c = c.list_parts.ensures.front.covered

pub returns-in_err-between-clause-numbers : goal.returns-in_err-between-clause-numbers
returns-in_err-between-clause-numbers c = c.requires.numbers

pub number_parts-requires-clause-flow : goal.number_parts-requires-clause-flow
number_parts-requires-clause-flow c = c.requires.flow

pub number_parts-requires-clause-between : goal.number_parts-requires-clause-between
number_parts-requires-clause-between c = c.in_ok-between.ensures.between

pub number_parts-requires-clause-light : goal.number_parts-requires-clause-light
number_parts-requires-clause-light c = c.in_ok-between.ensures.light

pub number_parts-requires-clause-all : goal.number_parts-requires-clause-all
number_parts-requires-clause-all c = c.in_ok-between.ensures.all

pub number_parts-requires-clause-numbers : goal.number_parts-requires-clause-numbers
number_parts-requires-clause-numbers c = c.requires.numbers

pub returns-in_err-number_parts-clause-vertices : goal.returns-in_err-number_parts-clause-vertices
returns-in_err-number_parts-clause-vertices c = c.list_parts.ensures.front.vertices

pub returns-in_err-number_parts-clause-covered : goal.returns-in_err-number_parts-clause-covered
returns-in_err-number_parts-clause-covered c = c.list_parts.ensures.front.covered

pub returns-in_err-number_parts-clause-numbers : goal.returns-in_err-number_parts-clause-numbers
returns-in_err-number_parts-clause-numbers c = c.number_parts.ensures.numbers

pub clear-requires-2-clause-inner : goal.clear-requires-2-clause-inner
clear-requires-2-clause-inner c = (c.args.graph.now.vertices, c.in_ok-between.ensures.between.halves.inner_half.kept)

pub clear-requires-2-clause-outer : goal.clear-requires-2-clause-outer
clear-requires-2-clause-outer c = (c.args.graph.now.vertices, c.in_ok-between.ensures.between.halves.outer_half.kept)

pub clear-requires-2-clause-touched : goal.clear-requires-2-clause-touched
clear-requires-2-clause-touched c = c.in_ok-between.ensures.between.touched

pub clear-requires-2-clause-near : goal.clear-requires-2-clause-near
clear-requires-2-clause-near c = (c.args.graph.now.vertices, c.in_ok-between.ensures.near)

pub returns-clause-vertices : goal.returns-clause-vertices
returns-clause-vertices c = c.list_parts.ensures.front.vertices

pub returns-clause-covered : goal.returns-clause-covered
returns-clause-covered c = c.list_parts.ensures.front.covered

pub returns-clause-numbers : goal.returns-clause-numbers
returns-clause-numbers c = c.number_parts.ensures.numbers

pub returns-clause-none : goal.returns-clause-none
returns-clause-none c = λ none. cc

pub returns-clause-listed : goal.returns-clause-listed
returns-clause-listed c = λ some. c.in_ok-number_parts.ensures.listed

pub returns-clause-light : goal.returns-clause-light
returns-clause-light c = λ some. c.in_ok-number_parts.ensures.light
