-- Some vertex has the least of the degrees.
use Rattle.least_cut.proofs.ByDegrees.{least_of_degrees}
use Rattle.least_cut.proofs.dense.least_degree.Goals as goal

pub returns : goal.returns
returns c = least_of_degrees c.args.list.now c.in_ok-degrees.degrees.items c.deref.result.now c.place_of_least-place.result c.index.result.now c.deref.ensures.value c.in_ok-degrees.ensures.long c.in_ok-degrees.ensures.each
    c.place_of_least-place.ensures.from_one c.place_of_least-place.ensures.there c.place_of_least-place.ensures.least c.index.ensures
