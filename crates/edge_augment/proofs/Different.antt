-- A normal cactus that has a block has two or more end nodes, and the edges between opposite ones are different.
use Rattle.std.proofs.Common.{◌≡◌, ℕ, ◌+◌, ◌-◌, ◌/◌, ◌<◌, ◌≤◌, ⊎_elim, true, List, [], ◌∷◌, length, map, get_or, ap, ◌∙◌, sym, subst, arith}
use Rattle.std.specs.Prelude.{◌≢◌, min, max}
use Rattle.std.specs.List.{Contains}
use Rattle.std.proofs.lemmas.List.{get_or_default, get_or-map, length-map}
use Rattle.std.proofs.lemmas.List.Elements.{Contains-append_left}
use Rattle.std.proofs.lemmas.List.FromFn.{get_or-map-range_with_len}
use Rattle.cut_definitions.specs.Weight.{VertexSet}
use Rattle.cut_definitions.specs.Cuts.{has}
use Rattle.cut_definitions.proofs.Lists.{Contains-cons_cases, Contains-nil}
use Rattle.rooted_cactus.specs.Sides.{Part, part, block_part, all_cuts}
use Rattle.rooted_cactus.specs.Normal.{is_normal}
use Rattle.rooted_cactus.specs.Rooted.{IsCactus}
use Rattle.rooted_cactus.specs.Trees.{blocks}
use Rattle.rooted_cactus.specs.declared.tree.Node.{Node}
use Rattle.rooted_cactus.specs.declared.tree.Block.{Block}
use Rattle.rooted_cactus.proofs.Parts.{part_out}
use Rattle.rooted_cactus.proofs.Trims.{own_cut}
use Rattle.edge_augment.specs.Ends.{end_sets}
use Rattle.edge_augment.specs.Laws.{LawOfSeveral, LawOfDifferent}
use Rattle.edge_augment.specs.NewEdges.{least_at, new_edges, opposite_pairs, upward}
use Rattle.edge_augment.proofs.Leaves.{disjoint_sets}
use Rattle.edge_augment.proofs.Inside.{AreFine, fine_split}
use Rattle.edge_augment.proofs.EndSets.{root_fine, inside, outside, full}
use Rattle.edge_augment.proofs.Pairing.{has_least, number}

-- ---- two or more
some_cut : (bs : List Block) → AreFine bs → 1 ≤ length bs → (s : VertexSet) × Contains (all_cuts (map block_part bs)) s
some_cut [] f h = absurd (omega (arith, h))
some_cut (b ∷ bs) f h = ((block_part b).below, Contains-append_left (block_part b).cuts (all_cuts (map block_part bs)) (block_part b).below (own_cut b (fine_split b bs f).0))

two_members : (xs : List (List ℕ)) (l m : List ℕ) → Contains xs l → Contains xs m → l ≢ m → 2 ≤ length xs
two_members [] l m c d h = absurd (Contains-nil l c)
two_members (x ∷ []) l m c d h =
    ⊎_elim
    (λ (e : x ≡ l). ⊎_elim (λ (f : x ≡ m). absurd (h (sym e ∙ f))) (λ t. absurd (Contains-nil m t)) (Contains-cons_cases x [] m d))
    (λ t. absurd (Contains-nil l t))
    (Contains-cons_cases x [] l c)
two_members (x ∷ (y ∷ ys)) l m c d h = omega arith

pub several : LawOfSeveral
several n root h k some =
    let r = some_cut (blocks root) (root_fine n root h k) some in
    let there : Contains (part root).cuts r.0 = subst (λ (p : Part). Contains p.cuts r.0) (sym (part_out root)) r.1 in
    let yes = inside n root h k r.0 there in
    let no = outside n root h k r.0 there in
    let one = full n root h k yes.0 yes.1 in
    two_members (end_sets root) yes.0 no.0 yes.1 no.1 (λ e. no.2 one.0 (subst (λ l. has l one.0 ≡ true) e one.1) (yes.2 one.0 one.1))

-- ---- the edges by their places
pub edge_at : (sets : List (List ℕ)) (i : ℕ) (d : ℕ × ℕ) → i < length sets - length sets / 2 → get_or (new_edges sets) i d ≡ upward (least_at sets i, least_at sets (i + length sets / 2))
edge_at sets i d k =
    get_or-map upward (opposite_pairs sets) i d d (omega (arith, k, number sets))
    ∙ ap upward (get_or-map-range_with_len (λ j. (least_at sets j, least_at sets (j + length sets / 2))) 0 (length sets - length sets / 2) i i d k (omega arith))

least_differ : (n : ℕ) (root : Node) → IsCactus n root → is_normal root ≡ true → (i j : ℕ) → i < j → j < length (end_sets root) → least_at (end_sets root) i ≢ least_at (end_sets root) j
least_differ n root h k i j lt within same =
    let ends = end_sets root in
    let there : (m : ℕ) → m < length ends → has (get_or ends m []) (least_at ends m) ≡ true = λ m w. has_least (get_or ends m []) (full n root h k (get_or ends m []) (m, w, get_or_default ends m (get_or ends m []) [] w)) in
    disjoint_sets n root h i j [] lt within (least_at ends i) (there i (omega arith)) (subst (λ v. has (get_or ends j []) v ≡ true) (sym same) (there j within))

one_of : (a b c d : ℕ) → a ≢ c → a ≢ d → upward (a, b) ≢ upward (c, d)
one_of a b c d x y e =
    let low : min a b ≡ min c d = ap (λ (p : ℕ × ℕ). p.0) e in
    let high : max a b ≡ max c d = ap (λ (p : ℕ × ℕ). p.1) e in
    omega (arith, low, high, x, y)

rises : (a b : ℕ) → a ≢ b → min a b < max a b
rises a b h = omega (arith, h)

pub different : LawOfDifferent
different n root h k some =
    let ends = end_sets root in
    let half = length ends / 2 in
    let many = several n root h k some in
    let long : length (new_edges ends) ≡ length ends - half = length-map (opposite_pairs ends) upward ∙ number ends in (
      (λ i d lt. let within : i < length ends - half = omega (arith, lt, long) in
          subst (λ (p : ℕ × ℕ). p.0 < p.1) (sym (edge_at ends i d within)) (rises (least_at ends i) (least_at ends (i + half)) (least_differ n root h k i (i + half) (omega arith) (omega arith)))),
      (λ i j d lt l e.
          let within : j < length ends - half = omega (arith, l, long) in
          one_of (least_at ends i) (least_at ends (i + half)) (least_at ends j) (least_at ends (j + half))
          (least_differ n root h k i j lt (omega arith))
          (least_differ n root h k i (j + half) (omega arith) (omega arith))
          (sym (edge_at ends i d (omega arith)) ∙ e ∙ edge_at ends j d within)),
    )
