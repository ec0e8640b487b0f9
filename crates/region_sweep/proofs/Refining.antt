-- Labels that are refined one after another, and what vertices are fed meanwhile.
use Rattle.std.proofs.Common.{◌≡◌, ℕ, inl, inr, ⊎_elim, List, get_or, refl, ◌∙◌}
use Rattle.cut_definitions.specs.Graph.{Graph}
use Rattle.region_flow.specs.Regions.{RegionState}
use Rattle.region_parts.specs.Covered.{IsRefined}
use Rattle.region_sweep.specs.Regrouping.{KeepsFeed}
use Rattle.region_parts.proofs.Covering.{staying_open}

pub refined_same : (labels : List ℕ) → IsRefined labels labels
refined_same labels = record { shared = λ u v one same. same; outside = λ v one. one }

pub refined_after : (l m r : List ℕ) → IsRefined l m → IsRefined m r → IsRefined l r
refined_after l m r a b = record {
  shared = λ u v one same. a.shared u v (b.outside v one) (b.shared u v one same);
  outside = λ v one. a.outside v (b.outside v one);
}

pub feed_same : (g : Graph) (f : RegionState) → KeepsFeed g f f
feed_same g f v one = inl refl

pub feed_after : (g : Graph) (f f' f'' : RegionState) → KeepsFeed g f f' → KeepsFeed g f' f'' → IsRefined f'.labels f''.labels → KeepsFeed g f f''
feed_after g f f' f'' a b fine v one =
    ⊎_elim
    (λ (e : get_or f''.feed v 0 ≡ get_or f'.feed v 0). ⊎_elim
    (λ (d : get_or f'.feed v 0 ≡ get_or f.feed v 0). inl (e ∙ d))
    (λ o. inr (staying_open g f'.labels f''.labels fine v one o))
    (a v (fine.outside v one)))
    (λ o. inr o)
    (b v one)
