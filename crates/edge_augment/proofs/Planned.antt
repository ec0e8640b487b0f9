-- What is made of the end nodes of a cactus is an augmentation, and no other is less.
use Rattle.std.proofs.Common.{◌≡◌, ℕ, ◌+◌, ◌-◌, ◌/◌, ◌<◌, ◌≤◌, ⊎_elim, true, List, [], ◌∷◌, length, get_or, refl, ap, ◌∙◌, sym, subst, arith}
use Rattle.std.specs.Prelude.{min, max}
use Rattle.std.specs.List.{All}
use Rattle.std.specs.List.Sorted.{IsPermutation, IsSorted, IsNonDecreasingBy}
use Rattle.std.proofs.lemmas.Bool.{cases_lt}
use Rattle.std.proofs.lemmas.List.Sorted.{All-permutation, Contains-permutation, IsPermutation-sym, length_permutation}
use Rattle.cut_definitions.specs.Weight.{VertexSet, parts}
use Rattle.cut_definitions.specs.Cuts.{has, least, IsAscendingWithin}
use Rattle.cut_definitions.proofs.Lists.{Contains-map}
use Rattle.cut_definitions.proofs.Bools.{parts_flip}
use Rattle.rooted_cactus.specs.Normal.{is_normal}
use Rattle.cut_definitions.specs.Graph.{IsVertex}
use Rattle.rooted_cactus.specs.Rooted.{Rooted, IsCactus}
use Rattle.rooted_cactus.specs.Trees.{blocks}
use Rattle.rooted_cactus.specs.declared.tree.Node.{Node}
use Rattle.edge_augment.specs.Augmentations.{pair_cmp, IsAugmentation, IsLeast, LawOfAugmentation}
use Rattle.edge_augment.specs.Ends.{end_sets}
use Rattle.edge_augment.specs.NewEdges.{least_at, new_edges, opposite_pairs, upward}
use Rattle.edge_augment.proofs.Different.{edge_at, different}
use Rattle.edge_augment.proofs.EndSets.{end_sets_law, end_ascending, ascending_vertex, full}
use Rattle.edge_augment.proofs.Fewest.{fewest}
use Rattle.edge_augment.proofs.Leaves.{ends_once}
use Rattle.edge_augment.proofs.Opposite.{AreLed, edges_long}
use Rattle.edge_augment.proofs.Pairing.{has_least, pairing}
use Rattle.edge_augment.proofs.Raising.{raising}
use Rattle.edge_augment.proofs.Sorted.{at_place, apart_moved, sets_strictly, differ_moved, pairs_strictly}

-- ---- the first vertex of a set is its least one
ascending_led : (low n : ℕ) (l : List ℕ) → IsAscendingWithin low n l → least l ≡ get_or l 0 0
ascending_led low n [] h = refl
ascending_led low n (x ∷ []) h = refl
ascending_led low n (x ∷ (y ∷ ys)) h = omega (arith, ascending_led (x + 1) n (y ∷ ys) h.2, h.2.0)

pub ends_led : (n : ℕ) (root : Node) → IsCactus n root → AreLed (end_sets root)
ends_led n root h i d lt = ascending_led 1 n (get_or (end_sets root) i d) (end_ascending n root h (get_or (end_sets root) i d) (at_place (end_sets root) i d lt))

-- ---- the new edges join vertices
least_within : (n : ℕ) (root : Node) → IsCactus n root → is_normal root ≡ true → (i : ℕ) → i < length (end_sets root) → IsVertex n (least_at (end_sets root) i)
least_within n root h k i lt =
    let l = get_or (end_sets root) i [] in
    let there = at_place (end_sets root) i [] lt in
    ascending_vertex 1 n l (end_ascending n root h l there) (least l) (has_least l (full n root h k l there))

abbrev IsEdgeIn : ℕ → ℕ × ℕ → Type 0
IsEdgeIn n e = IsVertex n e.0 × IsVertex n e.1 × (e.0 < e.1)

within_upward : (n a b : ℕ) → IsVertex n a → IsVertex n b → (IsVertex n (min a b)) × (IsVertex n (max a b))
within_upward n a b h k = ((omega (arith, h.0, k.0), omega (arith, h.1, k.1)), (omega (arith, h.0, k.0), omega (arith, h.1, k.1)))

edges_within : (n : ℕ) (root : Node) → IsCactus n root → is_normal root ≡ true → 1 ≤ length (blocks root) → All (IsEdgeIn n) (new_edges (end_sets root))
edges_within n root h k some i d lt =
    let ends = end_sets root in
    let half = length ends / 2 in
    let low : i < length ends - half = omega (arith, lt, edges_long ends) in
    let two = within_upward n (least_at ends i) (least_at ends (i + half)) (least_within n root h k i (omega arith)) (least_within n root h k (i + half) (omega arith)) in
    let same = sym (edge_at ends i d low) in (
      subst (λ (e : ℕ × ℕ). IsVertex n e.0) same two.0,
      subst (λ (e : ℕ × ℕ). IsVertex n e.1) same two.1,
      (different n root h k some).0 i d lt,
    )

-- ---- a pair parts a set in either order
parts_upward : (s : VertexSet) (a b : ℕ) → parts s a b ≡ true → parts s (min a b) (max a b) ≡ true
parts_upward s a b h =
    ⊎_elim
    (λ (lt : b < a). let low : min a b ≡ b = omega (arith, lt) in let high : max a b ≡ a = omega (arith, lt) in rw (low, high) (parts_flip (s a) (s b) h))
    (λ (le : a ≤ b). let low : min a b ≡ a = omega (arith, le) in let high : max a b ≡ b = omega (arith, le) in rw (low, high) h)
    (cases_lt b a)

-- ---- the plan
pub exact : (cactus : Rooted) → IsCactus cactus.vertices cactus.root → is_normal cactus.root ≡ true → 1 ≤ length (blocks cactus.root) → (sets : List (List ℕ)) (edges : List (ℕ × ℕ)) →
    IsPermutation (end_sets cactus.root) sets → IsNonDecreasingBy (λ l. get_or l 0 0) sets → IsPermutation (new_edges (end_sets cactus.root)) edges → IsSorted pair_cmp edges →
    IsAugmentation cactus record { edges = edges; sets = sets }
exact cactus h k some sets edges moved up moved_edges up_edges =
    let n = cactus.vertices in
    let root = cactus.root in
    let ends = end_sets root in
    let back = IsPermutation-sym ends sets moved in
    let law = end_sets_law n root h k in
    record {
      sets_ascend = sets_strictly sets (λ l c. full n root h k l (Contains-permutation sets ends l back c)) (apart_moved ends sets moved (ends_once n root h)) up;
      sets = λ l. (
        (λ c. (law l).0 (Contains-permutation sets ends l back c)),
        (λ m. Contains-permutation ends sets l moved ((law l).1 m)),
      );
      edges_ascend = pairs_strictly edges up_edges (differ_moved (new_edges ends) edges moved_edges (different n root h k some).1);
      edges = λ e. (
        (λ c. Contains-permutation edges (new_edges ends) e (IsPermutation-sym (new_edges ends) edges moved_edges) c),
        (λ c. Contains-permutation (new_edges ends) edges e moved_edges c),
      );
    }

pub best : (cactus : Rooted) → IsCactus cactus.vertices cactus.root → is_normal cactus.root ≡ true → 1 ≤ length (blocks cactus.root) → (sets : List (List ℕ)) (edges : List (ℕ × ℕ)) →
    IsPermutation (end_sets cactus.root) sets → IsPermutation (new_edges (end_sets cactus.root)) edges → IsLeast cactus record { edges = edges; sets = sets }
best cactus h k some sets edges moved moved_edges =
    let n = cactus.vertices in
    let root = cactus.root in
    let ends = end_sets root in
    let long : length edges ≡ length ends - length ends / 2 = length_permutation (new_edges ends) edges moved_edges ∙ edges_long ends in
    let many : length sets ≡ length ends = length_permutation ends sets moved in
    record {
      disjoint = apart_moved ends sets moved (ends_once n root h);
      within = All-permutation (IsEdgeIn n) (new_edges ends) edges moved_edges (edges_within n root h k some);
      parted = λ side c. let p = pairing n root h k side c in (
        upward p.0,
        Contains-permutation (new_edges ends) edges (upward p.0) moved_edges (Contains-map upward (opposite_pairs ends) p.0 p.1),
        parts_upward (has side) p.0.0 p.0.1 p.2,
      );
      number = long ∙ ap (λ m. m - m / 2) (sym many);
      fewest = λ pairs within parted. omega (arith, long, fewest n root h k pairs within parted);
    }

-- ---- the value
pub raised : LawOfAugmentation
raised g cactus a two over same h = (
  (raising g a.edges two).1 (λ side c. h.parted side ((same side).0 c)),
  (λ pairs within more. h.fewest pairs (subst (λ n. All (λ p. IsVertex n p.0 × IsVertex n p.1) pairs) (sym over) within) (λ side c. (raising g pairs two).0 more side ((same side).1 c))),
)
