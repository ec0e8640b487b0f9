-- Nothing is listed or known to be good.
use Rattle.std.proofs.Common.{length, sym, ◌∙◌, subst, ap}
use Rattle.region_parts.specs.declared.hub.HubSearch.{HubSearch}
use Rattle.arc_search.specs.Found.{IsNoneFound}
use Rattle.arc_search.specs.Listing.{IsKept}
use Rattle.region_parts.proofs.splitter.Splitter.clear.Goals as goal

pub returns : goal.returns
returns c = record {
  ready = λ n inner outer near hub good memory.
      let forgot = c.forget.ensures in
      record {
        near = subst (IsNoneFound n) (sym forgot.near) near;
        hub = ap (λ (h : HubSearch). length h.search.seen) forgot.hub ∙ hub;
        inner = c.clear.ensures n (subst (IsKept n) (sym forgot.inner) inner);
        outer = c.clear-2.ensures n (subst (IsKept n) (sym forgot.outer) outer);
        good_length = forgot.long ∙ good;
        good = forgot.none;
        touched = forgot.touched;
        memory = forgot.memory ∙ memory;
      };
}
