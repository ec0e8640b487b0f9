use Rattle.value_tests.proofs.scans.the_least_of_a_tie_comes_first.Goals as goal

pub goes_from_third-requires : goal.goes_from_third-requires
goes_from_third-requires g c = c.start.ensures.stands _ c.in_ok-scan.ensures.stands
