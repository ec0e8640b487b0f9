-- The arc leads to another vertex than the one that is passed over.
use Rattle.std.proofs.Common.{sym, ◌∙◌}
use Rattle.region_flow.proofs.searching.visit_past.Goals as goal

pub returns-clause-passed : goal.returns-clause-passed
returns-clause-passed c = λ z. record {
  unfound = c.visit.ensures.found c.args.detour.past (λ e. c.if-arc-detour.false (sym e)) ∙ z;
  kept = c.visit.ensures.unfound c.args.detour.past (c.visit.ensures.found c.args.detour.past (λ e. c.if-arc-detour.false (sym e)) ∙ z);
}
