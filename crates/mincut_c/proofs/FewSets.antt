-- A least raise has no more sets than vertices, so it has no more edges.
use Rattle.std.proofs.Common.{◌≡◌, ℕ, ◌-◌, ◌<◌, ◌≤◌, ◌⊎◌, true, false, List, [], ◌∷◌, length, get_or, map, sym, subst, arith, refl}
use Rattle.std.specs.Prelude.{◌≢◌}
use Rattle.std.specs.List.{All, AllPairs, Contains, list_any, filter, range_with_len}
use Rattle.std.proofs.Math.Dec.{eqb}
use Rattle.std.proofs.lemmas.Bool.Decides.{Decides-eqb}
use Rattle.std.proofs.lemmas.List.{get_or-map, get_or_default, length-map}
use Rattle.std.proofs.lemmas.Map.Made.{IsDistinct-from_AllPairs}
use Rattle.std.proofs.lemmas.Map.Steps.{length-le_from_distinct_below}
use Rattle.std.proofs.lemmas.Map.Views.{Contains-from_any}
use Rattle.cut_definitions.specs.Cuts.{IsAscendingWithin, has, mincuts, side_of}
use Rattle.cut_definitions.specs.Graph.{Graph, IsVertex}
use Rattle.cut_definitions.proofs.Ascending.{contains_has}
use Rattle.cut_definitions.proofs.Bridge.{has_first_of}
use Rattle.cut_definitions.proofs.Values.{IsSide-from_mincuts}
use Rattle.edge_augment.proofs.EndSets.{ascending_vertex}
use Rattle.edge_augment.specs.Augmentations.{Augmentation}
use Rattle.edge_augment.specs.Laws.{AreDisjoint}
use Rattle.edge_augment.specs.Raises.{IsLeastRaise, IsMinimalCutSet}

-- a set of vertices of 1 to n that has its first entry
record IsLed (n : ℕ) (set : List ℕ) : Type 0 where
  from_one : 1 ≤ get_or set 0 0
  to_n : get_or set 0 0 ≤ n
  there : has set (get_or set 0 0) ≡ true

led : (n : ℕ) (set : List ℕ) → set ≢ [] → IsAscendingWithin 1 n set → IsLed n set
led n [] some up = absurd (some refl)
led n (x ∷ xs) some up = record { from_one = up.0; to_n = up.1; there = has_first_of x xs }

abbrev first_of : List ℕ → ℕ
first_of set = get_or set 0 0 - 1

few : (n : ℕ) (sets : List (List ℕ)) → AllPairs AreDisjoint sets → ((i : ℕ) → i < length sets → IsLed n (get_or sets i [])) → length sets ≤ n
few n sets disjoint each =
    let firsts = map first_of sets in
    let at : (i d : ℕ) → i < length sets → get_or firsts i d ≡ first_of (get_or sets i []) = λ i d lt. get_or-map first_of sets i [] d lt in
    let long : length firsts ≡ length sets = length-map sets first_of in
    let differ : AllPairs (λ x y. x ≢ y) firsts = λ i j d lt below same.
    (let below_sets : j < length sets = omega (arith, below, long) in
    let first : i < length sets = omega (arith, lt, below_sets) in
    let equal : get_or (get_or sets i []) 0 0 ≡ get_or (get_or sets j []) 0 0 = omega (arith, at i d first, at j d below_sets, same, (each i first).from_one, (each j below_sets).from_one) in
    disjoint i j [] lt below_sets (get_or (get_or sets i []) 0 0) (each i first).there (subst (λ (v : ℕ). has (get_or sets j []) v ≡ true) (sym equal) (each j below_sets).there)) in
    let within : (q : ℕ) → list_any (eqb q) firsts ≡ true → q < n = λ q h.
    (let c = Contains-from_any (λ x y e. (Decides-eqb x y).0 e) q firsts h in
    let lt : c.0 < length sets = omega (arith, c.1, long) in
    omega (arith, at c.0 q lt, c.2, (each c.0 lt).from_one, (each c.0 lt).to_n)) in
    omega (arith, long, length-le_from_distinct_below firsts n (IsDistinct-from_AllPairs Decides-eqb firsts differ) within)

-- the empty set is no side of a cut
no_members : (xs : List ℕ) → filter (λ (v : ℕ). false) xs ≡ []
no_members [] = refl
no_members (x ∷ xs) = no_members xs

some_member : (g : Graph) (set : List ℕ) → IsMinimalCutSet g set → set ≢ []
some_member g set is = λ none.
    let side : Contains (mincuts g) (side_of g.vertices (has [])) = subst (λ (s : List ℕ). Contains (mincuts g) (side_of g.vertices (has s))) none is.is_set.is_cut in
    (IsSide-from_mincuts g (side_of g.vertices (has [])) side).0.nonempty (no_members (range_with_len 2 (g.vertices - 1)))

pub few_sets : (g : Graph) (plan : Augmentation) → IsLeastRaise g plan → length plan.sets ≤ g.vertices
few_sets g plan least =
    few g.vertices plan.sets least.disjoint (λ i lt.
    let set = get_or plan.sets i [] in
    let is : IsMinimalCutSet g set = (least.sets set).0 (i, lt, get_or_default plan.sets i set [] lt) in
    led g.vertices set (some_member g set is) is.is_set.ascending)

-- the sets are of vertices of the graph
pub sets_within : (g : Graph) (plan : Augmentation) → IsLeastRaise g plan → All (λ set. All (IsVertex g.vertices) set) plan.sets
sets_within g plan least k d lt j e below =
    let set = get_or plan.sets k d in
    let is : IsMinimalCutSet g set = (least.sets set).0 (k, lt, get_or_default plan.sets k set d lt) in
    ascending_vertex 1 g.vertices set is.is_set.ascending (get_or set j e) (contains_has set (get_or set j e) (j, below, get_or_default set j (get_or set j e) e below))

-- arrays of n entries do not lack room for the edges
pub not_lacking : (n edges from to numbers : ℕ) → edges ≤ n → n ≤ from → n ≤ to → n ≤ numbers → (from < edges) ⊎ ((to < edges) ⊎ (numbers < n)) → ⊥
not_lacking n edges from to numbers few f t s short = omega (arith, few, f, t, s, short)

pub few_edges : (g : Graph) (plan : Augmentation) → IsLeastRaise g plan → length plan.edges ≤ g.vertices
few_edges g plan least = omega (arith, least.number, few_sets g plan least)
