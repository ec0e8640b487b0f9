use Rattle.value_tests.proofs.scans.a_dropped_vertex_is_passed_over.Goals as goal

pub goes_past_second-requires-clause-stands : goal.goes_past_second-requires-clause-stands
goes_past_second-requires-clause-stands g c = c.drop_vertex.ensures.stands _ (c.start.ensures.stands _ c.in_ok-scan.ensures.stands)
