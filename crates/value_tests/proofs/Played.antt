-- What stays the same while events are played.
use Rattle.std.proofs.Common.{◌≡◌, ℕ, List, [], ◌∷◌, refl, ◌∙◌, ap, inl, inr}
use Rattle.scan_core.specs.declared.event.Event.{Event}
use Rattle.scan_core.specs.Machine.{Machine, Move, loads, lowers, looks, marks, splits, joins, takes, after}
use Rattle.scan_core.specs.Shown.{CoreView, Goes, HasGone, move_of}

same_graph : (m : Machine) (move : Move) → (after m move).graph ≡ m.graph
same_graph m (loads k) = refl
same_graph m (lowers k x) = refl
same_graph m (looks k e) = refl
same_graph m (marks k e) = refl
same_graph m (splits k) = refl
same_graph m (joins k j) = refl
same_graph m (takes k v) = refl

goes_same : (m : Machine) (events : List Event) (count : ℕ) (n : Machine) → Goes m events count n → n.graph ≡ m.graph
goes_same m [] count n (none, same) = ap (λ (x : Machine). x.graph) same
goes_same m (e ∷ es) count n (inl (allowed, rest, is, more)) = goes_same (after m (move_of m.graph e)) es rest n more ∙ same_graph m (move_of m.graph e)
goes_same m (e ∷ es) count n (inr (off, more)) = goes_same m es count n more

pub gone_same : (m : Machine) (events : List Event) (count : ℕ) (view : CoreView) → HasGone m events count view → view.graph ≡ m.graph
gone_same m events count view h = h.shows.graph ∙ goes_same m events count h.machine h.goes
