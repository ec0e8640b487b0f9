-- From border to border, and all ranges of the mass were compared at the end.
use Rattle.std.proofs.Common.{arith}
use Rattle.canonical_cactus.proofs.Searched.{search_begins, search_ends}
use Rattle.canonical_cactus.proofs.first_side.Ranked.first_of_mass.Goals as goal

pub starts-init : goal.starts-init
starts-init c = record {
  last = omega (arith, c.len-start-end.ensures, c.args.self.now.ranges.borders.ok.0);
  search = search_begins c.args.self.now c.args.mass c.args.found c.requires.found;
  kept = λ r h. h;
}

pub starts-preserved : goal.starts-preserved
starts-preserved c = record {
  last = c.starts.invariant.last;
  search = c.first_from-search.ensures.first;
  kept = λ r h. c.first_from-search.ensures.kept r (c.starts.invariant.kept r h);
}

pub returns-clause-first : goal.returns-clause-first
returns-clause-first c =
    search_ends c.args.self.now c.args.mass c.starts.start c.starts.search (omega (arith, c.starts-test.false, c.starts.invariant.last)) c.starts.invariant.search
