-- The first of the best sides: the steps of the search for it.
use Rattle.std.proofs.Common.{ℕ, List, ap}
use Rattle.std.specs.Ordering.{is_gt}
use Rattle.std.proofs.lemmas.Cmp.{nat_list_cmp_total, tied_itself, upto}
use Rattle.canonical_cactus.specs.FirstBest.{IsNoLater}

pub no_later_itself : (a : List ℕ) → IsNoLater a a
no_later_itself a = ap is_gt (tied_itself nat_list_cmp_total a)

pub no_later_both : (a b c : List ℕ) → IsNoLater a b → IsNoLater b c → IsNoLater a c
no_later_both a b c = upto nat_list_cmp_total a b c
