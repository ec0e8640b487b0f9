-- A vertex that is fed is a start.
use Rattle.std.proofs.Common.{ℕ, Bool, false, refl, sym, ◌∙◌, subst}
use Rattle.region_parts.specs.declared.side.Side.TheVariants.{Outer}
use Rattle.region_parts.specs.declared.hub.Hub.{Hub}
use Rattle.region_parts.specs.declared.hub.Hub.TheVariants.{Outside}
use Rattle.arc_search.specs.Found.{IsSearch}
use Rattle.region_parts.specs.Sided.{goes_from}
use Rattle.region_parts.specs.Hubs.{starts_of}
use Rattle.region_parts.proofs.HubSteps.{fed_here}
use Rattle.region_parts.proofs.hub.HubSearch.look_at.Goals as goal

pub returns-then-is_fed-clause-search : goal.returns-then-is_fed-clause-search
returns-then-is_fed-clause-search c = λ g turns one le free h.
    let f = c.args.region.flow.now in
    let t = c.args.region.t in
    let goes = goes_from Outer g f in
    let none : ℕ → Bool = λ v. false in
    subst (λ (x : Hub). IsSearch g.vertices goes none turns (starts_of x f t) c.begin.new.self) (sym c.requires.hub)
    (c.begin.ensures.search g.vertices goes none turns (starts_of Outside f t)
    (subst (λ (x : Hub). IsSearch g.vertices goes none turns (starts_of x f t) c.args.self.now.search) c.requires.hub h)
    (record { from_one = one; to_n = le; free = free; start = fed_here f t c.args.v c.requires.inside (sym c.is_fed.ensures ∙ c.if-is_fed.true); quiet = λ j l. refl }))
