-- A start is put.
use Rattle.std.proofs.Common.{◌≡◌, inl, false, rules}
use Rattle.weighted_graph.specs.Searches.{is_seen}
use Rattle.arc_search.proofs.Finding.{goes_on_put, put_search}
use Rattle.arc_search.proofs.search.Search.begin.Goals as goal

pub returns-then-not-index-clause-search : goal.returns-then-not-index-clause-search
returns-then-not-index-clause-search c = λ n goes halts turns starts h may.
    let new : is_seen c.args.self.now.seen c.args.v ≡ false = search rules in
    rw c.put-then-not-index.ensures
    (put_search n goes halts turns starts c.args.self.now c.args.v c.put.inside.count h may.quiet may.from_one may.to_n new may.free (inl may.start))

pub returns-then-not-index-clause-goes_on : goal.returns-then-not-index-clause-goes_on
returns-then-not-index-clause-goes_on c = rw c.put-then-not-index.ensures (goes_on_put c.args.self.now c.args.v c.put.inside.count c.requires.within)
