-- What is not shut is open.
use Rattle.std.proofs.Common.{◌≡◌, ◌∙◌, ⊎_elim, true, false, ap, length, sym, arith}
use Rattle.std.proofs.lemmas.Bool.{cases_Bool}
use Rattle.region_fronts.proofs.Joined.{open_not_shut}
use Rattle.region_fronts.proofs.fronts.leads_to_open.Goals as goal

pub returns : goal.returns
returns c = (
  λ yes. record {
    inside = sym c.label.ensures ∙ c.if-label-region.false;
    short = omega (arith, c.if-row-gt-LONG_ROW.false, ap length c.row.ensures.value);
    is_open = c.is_open.ensures.yes yes;
  },
  λ h. ⊎_elim
      (λ (e : c.is_open.result ≡ true). e)
      (λ (e : c.is_open.result ≡ false). absurd (open_not_shut c.args.graph.now c.row.ensures.edge_list.is_graph c.args.labels.now c.args.to h.is_open (c.is_open.ensures.no e)))
      (cases_Bool c.is_open.result),
)
