-- How the race between the searches from t and from the outside ended, with nothing listed.
use Rattle.std.specs.Prelude.{ℕ, ◌≡◌, ◌==◌, ◌+◌, true, false, [], length, slice_index}
use Rattle.cut_definitions.specs.Graph.{Graph}
use Rattle.weighted_graph.specs.Searches.{is_seen}
use Rattle.region_flow.specs.Regions.{RegionState}
use Rattle.region_parts.specs.declared.race.Race.{Race}
use Rattle.region_parts.specs.declared.race.Race.TheVariants.{Met, Ended, HubEnded}
use Rattle.region_parts.specs.declared.side.Side.TheVariants.{Inner, Outer}
use Rattle.region_parts.specs.declared.splitter.Splitter.{Splitter}
use Rattle.arc_search.specs.Found.{IsQuiet, IsSearch}
use Rattle.arc_search.specs.Listing.{IsNothingListed}
use Rattle.region_parts.specs.Regional.{BringsHub}
use Rattle.region_parts.specs.Sided.{fed_in, goes_from, stops}

-- where they met, each member has vertex 1; where one of them ended, it has found all that it can
pub record IsFirstRace (g : Graph) (f : RegionState) (t : ℕ) (s : Splitter) (race : Race) : Type 0 where
  pub inner : IsNothingListed g.vertices s.inner
  pub outer : IsNothingListed g.vertices s.outer
  pub good_length : length s.good.items ≡ g.vertices + 1
  pub good : (v : ℕ) → is_seen s.good.items v ≡ false
  pub touched : s.touched.items ≡ []
  pub memory : s.memory ≡ g.vertices
  pub near : IsSearch g.vertices (goes_from Inner g f) (stops Inner f t) s.inner.turns (λ v. v == t) s.near
  pub has_t : is_seen s.near.seen t ≡ true
  pub hub : IsSearch g.vertices (goes_from Outer g f) (λ v. false) s.outer.turns (fed_in f t) s.hub.search
  pub met : race ≡ Met → BringsHub g f.labels t (slice_index f.feed t) 1 t
  pub ended : race ≡ Ended → (s.near.place ≡ s.near.count) × IsQuiet (stops Inner f t) s.near
  pub hub_ended : race ≡ HubEnded → (s.hub.search.place ≡ s.hub.search.count) × ((v : ℕ) → fed_in f t v ≡ true → is_seen s.hub.search.seen v ≡ true)
