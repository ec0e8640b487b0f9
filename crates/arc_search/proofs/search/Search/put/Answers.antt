-- The memory keeps its form.
use Rattle.std.proofs.Common.{◌≡◌, ◌<◌, false, length, sym, subst}
use Rattle.weighted_graph.specs.Searches.{is_seen}
use Rattle.arc_search.specs.Found.{SearchState}
use Rattle.arc_search.proofs.Finding.{kept_more}
use Rattle.arc_search.proofs.search.Search.put.Goals as goal

pub invariant_of-self : goal.invariant_of-self
invariant_of-self c =
    let within : c.args.v < length c.self.inside.seen.items = subst (λ (s : SearchState). c.args.v < length s.seen) (sym c.self.view_is) c.requires.within in
    let new : is_seen c.self.inside.seen.items c.args.v ≡ false = subst (λ (s : SearchState). is_seen s.seen c.args.v ≡ false) (sym c.self.view_is) c.requires.new in
    kept_more c.self.inside.seen.items c.self.inside.order.items c.self.inside.parents.items c.self.inside.count c.args.v c.args.parent c.self.invariant within new
