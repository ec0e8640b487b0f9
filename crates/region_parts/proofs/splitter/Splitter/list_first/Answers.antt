-- What the race from t found is listed, and its search forgets it.
use Rattle.region_parts.proofs.splitter.Splitter.list_first.Goals as goal

pub race_from_t-race-requires-clause-flow : goal.race_from_t-race-requires-clause-flow
race_from_t-race-requires-clause-flow c = c.requires.flow

pub race_from_t-race-requires-clause-region : goal.race_from_t-race-requires-clause-region
race_from_t-race-requires-clause-region c = c.requires.region

pub race_from_t-race-requires-clause-ready : goal.race_from_t-race-requires-clause-ready
race_from_t-race-requires-clause-ready c = c.requires.ready

pub race_from_t-race-requires-clause-front : goal.race_from_t-race-requires-clause-front
race_from_t-race-requires-clause-front c = c.requires.front

pub take_first_part-requires-clause-flow : goal.take_first_part-requires-clause-flow
take_first_part-requires-clause-flow c = c.requires.flow

pub take_first_part-requires-clause-region : goal.take_first_part-requires-clause-region
take_first_part-requires-clause-region c = c.requires.region

pub take_first_part-requires-clause-raced : goal.take_first_part-requires-clause-raced
take_first_part-requires-clause-raced c = c.race_from_t-race.ensures.raced

pub returns-in_err-some-clause-front : goal.returns-in_err-some-clause-front
returns-in_err-some-clause-front c = c.race_from_t-race.ensures.front

pub returns-clause-front : goal.returns-clause-front
returns-clause-front c = c.race_from_t-race.ensures.front

pub returns-clause-between : goal.returns-clause-between
returns-clause-between c =
    let b = c.in_ok-some.ensures.between in
    record { region = b.region; halves = b.halves; hub = b.hub; good_length = b.good_length; touched = b.touched; touched_within = b.touched_within; memory = b.memory }

pub returns-clause-near : goal.returns-clause-near
returns-clause-near c = c.clear.ensures c.args.region.graph.now.vertices c.in_ok-some.ensures.near

pub returns-clause-some : goal.returns-clause-some
returns-clause-some c = c.in_ok-some.ensures.some

pub returns-clause-none : goal.returns-clause-none
returns-clause-none c = c.in_ok-some.ensures.none
