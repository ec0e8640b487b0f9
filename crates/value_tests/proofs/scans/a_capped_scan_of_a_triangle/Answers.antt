use Rattle.value_tests.proofs.scans.a_capped_scan_of_a_triangle.Goals as goal

pub goes_from_first-requires-clause-stands : goal.goes_from_first-requires-clause-stands
goes_from_first-requires-clause-stands g c = c.start.ensures.stands _ c.in_ok-scan.ensures.stands
