-- The search of a hub goes on, and what stands in the fronts stays.
use Rattle.std.proofs.Common.{◌≡◌, ℕ, ◌+◌, ◌<◌, ◌≤◌, ⊎_elim, Bool, true, not, ◌&&◌, eqb, ltb, List, take, length, get_or, refl, sym, ◌∙◌, subst, ap, arith}
use Rattle.std.specs.Prelude.{Some, slice_get}
use Rattle.std.proofs.lemmas.Bool.{cases_lt, eq-eqb, and_from}
use Rattle.std.proofs.lemmas.List.{get_or-take}
use Rattle.std.proofs.lemmas.Option.{slice_get_within, get_or_from_slice_get, slice_get-get_or}
use Rattle.cut_definitions.specs.Graph.{Graph}
use Rattle.cut_definitions.specs.Weight.{VertexSet}
use Rattle.weighted_graph.specs.Searches.{is_seen}
use Rattle.arc_search.specs.declared.direction.Direction.{Direction}
use Rattle.region_flow.specs.Regions.{RegionState}
use Rattle.region_parts.specs.declared.hub.Hub.{Hub}
use Rattle.region_parts.specs.declared.hub.Hub.TheVariants.{Outside, At}
use Rattle.region_parts.specs.declared.hub.HubSearch.{HubSearch}
use Rattle.region_parts.specs.declared.side.Side.{Side}
use Rattle.region_parts.specs.Steps.{steps_in}
use Rattle.arc_search.specs.Found.{SearchState, IsSearch}
use Rattle.region_fronts.specs.Fronts.{FrontsState, KeepsFronts}
use Rattle.region_parts.specs.Sided.{direction_of, fed_in, goes_from}
use Rattle.region_parts.specs.Hubs.{HaveBegun, HubGoesOn, KeepsFrontsFor}

-- the outside is no vertex
pub outside_not_at : (h : ℕ) → Outside ≡ At h → ⊥
outside_not_at h e = cc

pub hub_more : (s s' s'' : HubSearch) → HubGoesOn s s' → HubGoesOn s' s'' → HubGoesOn s s''
hub_more s s' s'' h k = record {
  same = k.same ∙ h.same;
  seen_kept = λ v is. k.seen_kept v (h.seen_kept v is);
  unread = λ no. k.unread (λ e. no (sym h.same ∙ e)) ∙ h.unread no;
}

-- of a hub that is the same later on
pub fronts_more : (labels : List ℕ) (hub hub' : Hub) (f f' f'' : FrontsState) → hub' ≡ hub → KeepsFrontsFor labels hub f f' → KeepsFrontsFor labels hub' f' f'' → KeepsFrontsFor labels hub f f''
fronts_more labels hub hub' f f' f'' e h k = record {
  vertices = k.vertices ∙ h.vertices;
  kept = λ v is. k.kept v (h.kept v is);
  same = λ no. k.same (λ o. no (sym e ∙ o)) ∙ h.same no;
}

-- what a list read for the outside keeps
pub fronts_read : (labels : List ℕ) (f f' : FrontsState) → f'.vertices ≡ f.vertices → KeepsFronts labels f f' → KeepsFrontsFor labels Outside f f'
fronts_read labels f f' vertices kept = record { vertices = vertices; kept = kept; same = λ no. absurd (no refl) }

-- the entries before a place stay, so what has been found among them still is
pub begun_read : (f : RegionState) (t : ℕ) (old new : List ℕ) (s : HubSearch) → take s.place new ≡ take s.place old → length new ≤ length old → HaveBegun f t old s → HaveBegun f t new s
begun_read f t old new s before shorter h k v l there =
    let within = slice_get_within new k v there in
    let same : get_or old k 0 ≡ v =
    sym (get_or-take s.place old k 0 l) ∙ ap (λ (xs : List ℕ). get_or xs k 0) (sym before) ∙ get_or-take s.place new k 0 l ∙ get_or_from_slice_get new k v 0 there in
    h k v l (slice_get-get_or old k 0 (omega (arith, within, shorter)) ∙ ap (λ (x : ℕ). Some x) same)

-- one entry more has been looked at
pub begun_more : (f : RegionState) (t : ℕ) (list : List ℕ) (s s' : HubSearch) (u : ℕ) → HubGoesOn s s' → s'.place ≡ s.place + 1 → slice_get list s.place ≡ Some u →
    (fed_in f t u ≡ true → is_seen s'.search.seen u ≡ true) → HaveBegun f t list s → HaveBegun f t list s'
begun_more f t list s s' u on e at found h k v l there fed = ⊎_elim
    (λ (q : k < s.place). on.seen_kept v (h k v q there fed))
    (λ (q : s.place ≤ k).
    let m : k ≡ s.place = omega (arith, e, l, q) in
    let same : u ≡ v = sym (get_or_from_slice_get list s.place u 0 at) ∙ ap (λ (j : ℕ). get_or list j 0) (sym m) ∙ get_or_from_slice_get list k v 0 there in
    subst (λ (x : ℕ). is_seen s'.search.seen x ≡ true) same (found (subst (λ (x : ℕ). fed_in f t x ≡ true) (sym same) fed)))
    (cases_lt k s.place)

-- what the search of a hub starts from
pub fed_here : (f : RegionState) (t v : ℕ) → get_or f.labels v 0 ≡ get_or f.labels t 0 → (not (eqb v t) && ltb 0 (get_or f.feed v 0)) ≡ true → fed_in f t v ≡ true
fed_here f t v inside fed = and_from (eqb (get_or f.labels v 0) (get_or f.labels t 0)) (not (eqb v t) && ltb 0 (get_or f.feed v 0)) (eq-eqb (get_or f.labels v 0) (get_or f.labels t 0) inside) fed

-- the arcs of a side are its steps
steps_same : (g : Graph) (f : RegionState) (g' : Graph) (f' : RegionState) (side : Side) (d : Direction) → g' ≡ g → f' ≡ f → d ≡ direction_of side → steps_in g' f' d ≡ goes_from side g f
steps_same g f g' f' side d a b c =
    ap (λ (x : Graph). steps_in x f' d) a ∙ ap (λ (x : RegionState). steps_in g x d) b ∙ ap (λ (x : Direction). steps_in g f x) c

pub steps_to : (g : Graph) (f : RegionState) (halts : ℕ → Bool) (turns : List ℕ) (starts : VertexSet) (s : SearchState) (g' : Graph) (f' : RegionState) (side : Side) (d : Direction) →
    g' ≡ g → f' ≡ f → d ≡ direction_of side → IsSearch g.vertices (goes_from side g f) halts turns starts s → IsSearch g'.vertices (steps_in g' f' d) halts turns starts s
steps_to g f halts turns starts s g' f' side d a b c h =
    subst (λ (x : Graph). IsSearch x.vertices (steps_in g' f' d) halts turns starts s) (sym a)
    (subst (λ (go : ℕ → ℕ → Bool). IsSearch g.vertices go halts turns starts s) (sym (steps_same g f g' f' side d a b c)) h)

pub steps_from : (g : Graph) (f : RegionState) (halts : ℕ → Bool) (turns : List ℕ) (starts : VertexSet) (s : SearchState) (g' : Graph) (f' : RegionState) (side : Side) (d : Direction) →
    g' ≡ g → f' ≡ f → d ≡ direction_of side → IsSearch g'.vertices (steps_in g' f' d) halts turns starts s → IsSearch g.vertices (goes_from side g f) halts turns starts s
steps_from g f halts turns starts s g' f' side d a b c h =
    subst (λ (go : ℕ → ℕ → Bool). IsSearch g.vertices go halts turns starts s) (steps_same g f g' f' side d a b c)
    (subst (λ (x : Graph). IsSearch x.vertices (steps_in g' f' d) halts turns starts s) a h)
