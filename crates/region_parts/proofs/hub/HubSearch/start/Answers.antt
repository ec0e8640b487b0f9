-- A search that found nothing begins from the hub.
use Rattle.std.proofs.Common.{◌-◌, ◌<◌, false, length, refl, sym, subst, arith}
use Rattle.std.proofs.lemmas.Bool.{eq-eqb}
use Rattle.region_parts.specs.declared.hub.Hub.{Hub}
use Rattle.region_parts.specs.declared.hub.Hub.TheVariants.{At}
use Rattle.arc_search.specs.Found.{IsSearch}
use Rattle.region_parts.specs.Sided.{goes_from}
use Rattle.region_parts.specs.Hubs.{starts_of}
use Rattle.arc_search.proofs.Finding.{nothing}
use Rattle.region_parts.proofs.hub.HubSearch.start.Goals as goal

pub begin-requires : goal.begin-requires
begin-requires c =
    let old = c.args.self.now.search.seen in
    let l : c.in-At.h < length old = c.requires.within c.in-At.h c.in-At.is in
    let none = c.clear.ensures (length old - 1) (omega (arith, l)) in
    record { within = omega (arith, l, none.seen_length) }

pub returns-in-At-clause-search : goal.returns-in-At-clause-search
returns-in-At-clause-search c = λ side g f t turns long ok.
    let h = c.in-At.h in
    let may = ok h c.in-At.is in
    let old = nothing g.vertices (goes_from side g f) (λ v. false) turns (starts_of (At h) f t) c.clear.new.self (c.clear.ensures g.vertices long) in
    subst (λ (x : Hub). IsSearch g.vertices (goes_from side g f) (λ v. false) turns (starts_of x f t) c.begin.new.self) (sym c.in-At.is)
    (c.begin.ensures.search g.vertices (goes_from side g f) (λ v. false) turns (starts_of (At h) f t) old
    (record { from_one = may.0; to_n = may.1; free = may.2; start = eq-eqb h h refl; quiet = λ j l. refl }))

pub returns-in_default-clause-search : goal.returns-in_default-clause-search
returns-in_default-clause-search c = λ side g f t turns long ok.
    nothing g.vertices (goes_from side g f) (λ v. false) turns (starts_of c.args.hub f t) c.clear.new.self (c.clear.ensures g.vertices long)
