-- What is not shut is open.
use Rattle.std.proofs.Common.{◌≡◌, ⊎_elim, true, false, arith}
use Rattle.std.proofs.lemmas.Bool.{cases_Bool}
use Rattle.region_fronts.proofs.Joined.{open_not_shut}
use Rattle.region_fronts.proofs.fronts.is_another.Goals as goal

pub returns : goal.returns
returns c = (
  λ yes. record {
    other = c.if-v-t.false;
    region = omega (arith, c.label.ensures, c.label-else-v-t.ensures, c.if-label.false);
    is_open = c.is_open.ensures.yes yes;
  },
  λ h. ⊎_elim
      (λ (e : c.is_open.result ≡ true). e)
      (λ (e : c.is_open.result ≡ false). absurd (open_not_shut c.args.graph.now c.n-n.ensures.edge_list.is_graph c.args.labels.now c.args.v h.is_open (c.is_open.ensures.no e)))
      (cases_Bool c.is_open.result),
)
