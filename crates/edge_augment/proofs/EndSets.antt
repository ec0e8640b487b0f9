-- The sets of the end nodes are the inclusion-minimal ones whose side is a side of the cactus.
use Rattle.std.proofs.Common.{◌≡◌, ℕ, ◌+◌, ◌-◌, ◌≤◌, inl, inr, Bool, true, false, not, ◌||◌, List, [], ◌∷◌, ◌++◌, map, refl, ap, ◌∙◌, sym, subst, arith, append-nil}
use Rattle.std.specs.Prelude.{if◌then◌else◌}
use Rattle.std.specs.List.{Contains, filter, flat_map, concat, range_with_len}
use Rattle.std.proofs.lemmas.Bool.{cases_Bool, false_from_ne_true, false≢true, or_left}
use Rattle.std.proofs.lemmas.List.Elements.{All-contains, Contains-append_left}
use Rattle.cut_definitions.specs.Weight.{VertexSet, parts}
use Rattle.cut_definitions.specs.Cuts.{has, side_of, IsAscendingWithin}
use Rattle.cut_definitions.proofs.Bridge.{has-side_of, has_within, IsAscendingWithin-filter, same_ascending}
use Rattle.cut_definitions.proofs.Sides.{IsAscendingWithin-lower}
use Rattle.cut_definitions.proofs.Lists.{Contains-here, Contains-there, Contains-cons_cases, Contains-nil, Contains-map, Contains-from_map}
use Rattle.cut_definitions.proofs.Bools.{parts_from_false, same_tests}
use Rattle.cut_definitions.proofs.Ascending.{contains_has, has_contains}
use Rattle.rooted_cactus.specs.Sides.{Part, part, block_part, all_cuts}
use Rattle.rooted_cactus.specs.Normal.{block_shape, is_normal}
use Rattle.rooted_cactus.specs.Entered.{entered, entered_block}
use Rattle.cut_definitions.specs.Graph.{IsVertex}
use Rattle.rooted_cactus.specs.Rooted.{IsCactus, sides_of, over}
use Rattle.rooted_cactus.specs.Trees.{vertices, blocks}
use Rattle.rooted_cactus.specs.declared.tree.Node.{Node}
use Rattle.rooted_cactus.specs.declared.tree.Block.{Block}
use Rattle.rooted_cactus.proofs.Once.{each_there, all_vertices_within}
use Rattle.rooted_cactus.proofs.Orders.{entered_out}
use Rattle.rooted_cactus.proofs.Parts.{part_out}
use Rattle.rooted_cactus.proofs.Segments.{has_append_at}
use Rattle.rooted_cactus.proofs.Shapes.{root_normal}
use Rattle.edge_augment.specs.Ends.{end_sets}
use Rattle.edge_augment.specs.Laws.{IsCutSet, IsSublist, LawOfEndSets}
use Rattle.rooted_cactus.proofs.Sets.{Apart}
use Rattle.rooted_cactus.proofs.Clean.{IsClean, count, clean_apart, root_clean}
use Rattle.rooted_cactus.proofs.Trims.{own_cut}
use Rattle.rooted_cactus.proofs.BlockLaws.{block_laid}
use Rattle.edge_augment.proofs.Leaves.{IsLeft, none, drops, keeps, count_more, first_of, ends_once, end_sets_left}
use Rattle.rooted_cactus.proofs.Within.{of_lists, block_below, blocks_within, of_left}
use Rattle.edge_augment.proofs.Inside.{HasInside, AreFine, IsFull, fine_split}
use Rattle.edge_augment.proofs.Outside.{ends_inside, ends_outside, ends_full, ends_cut, own_within}

-- ---- a normal cactus by the lists of its root
pub root_fine : (n : ℕ) (root : Node) → IsCactus n root → is_normal root ≡ true → AreFine (blocks root)
root_fine n root h k = sym (root_normal root 1 h.root_has_one) ∙ k

pub root_lists : (n : ℕ) (root : Node) → IsCactus n root → IsClean n (vertices root ∷ flat_map entered_block (blocks root))
root_lists n root h = subst (IsClean n) (entered_out root) (root_clean n root h)

pub root_cuts : (root : Node) (s : VertexSet) → Contains (part root).cuts s → Contains (all_cuts (map block_part (blocks root))) s
root_cuts root s c = subst (λ (p : Part). Contains p.cuts s) (part_out root) c

root_one : (n : ℕ) (root : Node) → IsCactus n root → has (vertices root) 1 ≡ true
root_one n root h = contains_has (vertices root) 1 h.root_has_one

pub inside : (n : ℕ) (root : Node) → IsCactus n root → is_normal root ≡ true → (s : VertexSet) → Contains (part root).cuts s → HasInside (end_sets root) s
inside n root h k s c = ends_inside (vertices root) (blocks root) (root_fine n root h k) s (root_cuts root s c)

pub outside : (n : ℕ) (root : Node) → IsCactus n root → is_normal root ≡ true → (s : VertexSet) → Contains (part root).cuts s → (l : List ℕ) × Contains (end_sets root) l × Apart (has l) s
outside n root h k s c = ends_outside n (vertices root) (blocks root) (root_lists n root h) (root_fine n root h k) s (root_cuts root s c)

pub full : (n : ℕ) (root : Node) → IsCactus n root → is_normal root ≡ true → IsFull (end_sets root)
full n root h k = ends_full (vertices root) (blocks root) (1, root_one n root h) (root_fine n root h k)

pub left_contains : (xs ys : List (List ℕ)) → IsLeft xs ys → (l : List ℕ) → Contains xs l → Contains ys l
left_contains xs ys none l c = c
left_contains xs ys (drops m ps qs h) l c = Contains-there m qs l (left_contains ps qs h l c)
left_contains xs ys (keeps m ps qs h) l c = elim (Contains-cons_cases m ps l c) [
  | inl e ↦ subst (λ z. Contains (m ∷ qs) z) e (Contains-here m qs)
  | inr k ↦ Contains-there m qs l (left_contains ps qs h l k)
]

pub end_ascending : (n : ℕ) (root : Node) → IsCactus n root → (l : List ℕ) → Contains (end_sets root) l → IsAscendingWithin 1 n l
end_ascending n root h l c = All-contains (IsAscendingWithin 1 n) (entered root) l h.ascending (left_contains (end_sets root) (entered root) (end_sets_left root) l c)

pub ascending_vertex : (low n : ℕ) (l : List ℕ) → IsAscendingWithin low n l → (v : ℕ) → has l v ≡ true → (low ≤ v) × (v ≤ n)
ascending_vertex low n [] a v h = absurd (false≢true h)
ascending_vertex low n (x ∷ xs) a v h = elim (Contains-cons_cases x xs v (has_contains (x ∷ xs) v h)) [
  | inl e ↦ (omega (arith, a.0, e), omega (arith, a.1, e))
  | inr k ↦ (let r = ascending_vertex (x + 1) n xs a.2 v (contains_has xs v k) in (omega (arith, r.0, a.0), r.1))
]

-- two end sets that share a vertex are one
count_member : (v : ℕ) (xs : List (List ℕ)) (l : List ℕ) → Contains xs l → has l v ≡ true → 1 ≤ count v xs
count_member v [] l c h = absurd (Contains-nil l c)
count_member v (x ∷ xs) l c h = elim (Contains-cons_cases x xs l c) [
  | inl e ↦ (let one : first_of (has x v) ≡ 1 = rw (e, h) refl in omega (arith, one, count_more v x xs))
  | inr k ↦ omega (arith, count_more v x xs, count_member v xs l k h)
]

once_same : (v : ℕ) (xs : List (List ℕ)) → count v xs ≤ 1 → (l m : List ℕ) → Contains xs l → Contains xs m → has l v ≡ true → has m v ≡ true → l ≡ m
once_same v [] o l m c d h k = absurd (Contains-nil l c)
once_same v (x ∷ xs) o l m c d h k = elim (Contains-cons_cases x xs l c) [
  | inl e ↦ elim (Contains-cons_cases x xs m d) [
    | inl f ↦ sym e ∙ f
    | inr g ↦ (let one : first_of (has x v) ≡ 1 = rw (e, h) refl in absurd (omega (arith, o, one, count_more v x xs, count_member v xs m g k)))
  ]
  | inr g ↦ elim (Contains-cons_cases x xs m d) [
    | inl f ↦ (let one : first_of (has x v) ≡ 1 = rw (f, k) refl in absurd (omega (arith, o, one, count_more v x xs, count_member v xs l g h)))
    | inr f ↦ once_same v xs (omega (arith, o, count_more v x xs)) l m g f h k
  ]
]

-- ---- sides as lists
pub side_is : (n : ℕ) (x t : VertexSet) → 1 ≤ n → ((v : ℕ) → 1 ≤ v → v ≤ n → parts x 1 v ≡ t v) → side_of n x ≡ filter t (range_with_len 1 n)
side_is n x t one same =
    same_ascending 1 n (side_of n x) (filter t (range_with_len 1 n))
    (IsAscendingWithin-lower 1 n (side_of n x) (IsAscendingWithin-filter (n - 1) 2 n (parts x 1) (omega arith)))
    (IsAscendingWithin-filter n 1 n t (omega arith))
    (λ v a b. has-side_of n x v a b ∙ same v a b ∙ sym (has_within n 1 v t a (omega arith)))

some_vertex : (n : ℕ) (root : Node) → IsCactus n root → 1 ≤ n
some_vertex n root h = (let r = All-contains (IsVertex n) (concat (entered root)) 1 (all_vertices_within n root h)
    (has_contains (concat (entered root)) 1 (ap (λ ls. has (concat ls) 1) (entered_out root) ∙ first (vertices root) (concat (flat_map entered_block (blocks root))) (root_one n root h))) in r.1)
  where
    first : (xs ys : List ℕ) → has xs 1 ≡ true → has (xs ++ ys) 1 ≡ true
    first xs ys e = has_append_at xs ys 1 ∙ or_left (has xs 1) (has ys 1) e

-- a cut lacks vertex 1
cut_lacks_one : (n : ℕ) (root : Node) → IsCactus n root → (s : VertexSet) → Contains (part root).cuts s → s 1 ≡ false
cut_lacks_one n root h s c = false_from_ne_true (s 1) (λ e.
    clean_apart n (vertices root ∷ []) (flat_map entered_block (blocks root)) (root_lists n root h) 1
    (own_within (vertices root) 1 (root_one n root h)) (blocks_within (blocks root) s (root_cuts root s c) 1 e))

parts_true : (a b c : Bool) → a ≡ true → (b || c) ≡ true → (b ≡ true → c ≡ true → ⊥) → (if a then not b else b) ≡ c
parts_true a true true h k g = absurd (g refl refl)
parts_true a true false h k g = rw h refl
parts_true a false true h k g = rw h refl
parts_true a false false h k g = absurd (false≢true k)

-- each end set is a set whose side is a side
pub end_is_set : (n : ℕ) (root : Node) → IsCactus n root → is_normal root ≡ true → (l : List ℕ) → Contains (end_sets root) l → IsCutSet n root l
end_is_set n root h k l c =
    let cuts = (part root).cuts in
    let list : VertexSet → List ℕ = λ s. filter s (range_with_len 1 n) in
    let n_one = some_vertex n root h in
    record {
      ascending = end_ascending n root h l c;
      is_side = elim (ends_cut (vertices root) (blocks root) l c) [
        | inl m ↦ (let there : Contains cuts (has l) = subst (λ (p : Part). Contains p.cuts (has l)) (sym (part_out root)) m in
            let e : side_of n (has l) ≡ list (has l) = side_is n (has l) (has l) n_one (λ v a b. parts_from_false (has l 1) (has l v) (cut_lacks_one n root h (has l) there)) in
            subst (λ z. Contains (sides_of (over n root)) z) (sym e) (Contains-map list cuts (has l) there))
        | inr m ↦ (let b : Block = m.1 in
            let only : blocks root ≡ b ∷ [] = m.2 in
            let fine : (block_shape b).fine ≡ true = (fine_split b [] (subst AreFine only (root_fine n root h k))).0 in
            let t : VertexSet = (block_part b).below in
            let there : Contains cuts t = subst (λ (p : Part). Contains p.cuts t) (sym (part_out root)) (subst (λ bs. Contains (all_cuts (map block_part bs)) t) (sym only) (Contains-append_left (block_part b).cuts [] t (own_cut b fine))) in
            let clean : IsClean n (l ∷ (entered_block b ++ [])) = subst (λ own. IsClean n (own ∷ (entered_block b ++ []))) m.0 (subst (λ bs. IsClean n (vertices root ∷ flat_map entered_block bs)) only (root_lists n root h)) in
            let own_one : has l 1 ≡ true = subst (λ own. has own 1 ≡ true) m.0 (root_one n root h) in
            let every : (v : ℕ) → 1 ≤ v → v ≤ n → (has l v || t v) ≡ true = λ v a d. all_below b l v
            (subst (λ own. has (concat (own ∷ (entered_block b ++ []))) v ≡ true) m.0
            (subst (λ bs. has (concat (vertices root ∷ flat_map entered_block bs)) v ≡ true) only (subst (λ ls. has (concat ls) v ≡ true) (entered_out root) (each_there n root h v a d)))) in
            let e : side_of n (has l) ≡ list t = side_is n (has l) t n_one (λ v a d. parts_true (has l 1) (has l v) (t v) own_one (every v a d)
            (λ x y. clean_apart n (l ∷ []) (entered_block b ++ []) clean v (own_within l v x) (of_left (entered_block b) [] v (block_below b v y)))) in
            subst (λ z. Contains (sides_of (over n root)) z) (sym e) (Contains-map list cuts t there))
      ];
    }
  where
    all_below : (b : Block) (l : List ℕ) (v : ℕ) → has (concat (l ∷ (entered_block b ++ []))) v ≡ true → (has l v || (block_part b).below v) ≡ true
    all_below b l v e =
        let same : of_lists (entered_block b ++ []) v ≡ (block_part b).below v = ap (λ ls. of_lists ls v) (append-nil (entered_block b)) ∙ sym (ap (λ (t : VertexSet). t v) (block_laid b).below) in
        sym (ap (λ c. has l v || c) same) ∙ sym (has_append_at l (concat (entered_block b ++ [])) v) ∙ e

-- in each such set there is an end set
pub has_end : (n : ℕ) (root : Node) → IsCactus n root → is_normal root ≡ true → (y : List ℕ) → IsCutSet n root y → (l : List ℕ) × Contains (end_sets root) l × IsSublist l y
has_end n root h k y c =
    let list : VertexSet → List ℕ = λ s. filter s (range_with_len 1 n) in
    let r = Contains-from_map list (part root).cuts (side_of n (has y)) c.is_side in
    let s : VertexSet = r.0 in
    let at : (v : ℕ) → 1 ≤ v → v ≤ n → parts (has y) 1 v ≡ s v = λ v a b. sym (has-side_of n (has y) v a b) ∙ sym (ap (λ m. has m v) r.2) ∙ has_within n 1 v s a (omega arith) in
    elim (cases_Bool (has y 1)) [
      | inl e ↦ (let f = outside n root h k s r.1 in (
        f.0,
        f.1,
        (λ v x. let w = ascending_vertex 1 n f.0 (end_ascending n root h f.0 f.1) v x in
            in_other (has y 1) (has y v) (s v) e (at v w.0 w.1) (f.2 v x)),
      ))
      | inr e ↦ (let f = inside n root h k s r.1 in (
        f.0,
        f.1,
        (λ v x. let w = ascending_vertex 1 n f.0 (end_ascending n root h f.0 f.1) v x in
            sym (parts_from_false (has y 1) (has y v) e) ∙ at v w.0 w.1 ∙ f.2 v x),
      ))
    ]
  where
    in_other : (a b c : Bool) → a ≡ true → (if a then not b else b) ≡ c → (c ≡ true → ⊥) → b ≡ true
    in_other a true c h e g = refl
    in_other a false c h e g = absurd (g (sym e ∙ ap (λ z. if z then true else false) h))

pub end_sets_law : LawOfEndSets
end_sets_law n root h k set = (
  (λ c. record {
    is_set = end_is_set n root h k set c;
    none_within = λ other o sub.
        let r = has_end n root h k other o in
        let w = full n root h k r.0 r.1 in
        let same : r.0 ≡ set = once_same w.0 (end_sets root) (ends_once n root h w.0) r.0 set r.1 c w.1 (sub w.0 (r.2 w.0 w.1)) in
        same_ascending 1 n other set o.ascending (end_ascending n root h set c)
        (λ v a b. same_tests (has other v) (has set v) (sub v) (λ e. r.2 v (subst (λ l. has l v ≡ true) (sym same) e)));
  }),
  (λ m. let r = has_end n root h k set m.is_set in
      let e : r.0 ≡ set = m.none_within r.0 (end_is_set n root h k r.0 r.1) r.2 in
      subst (λ l. Contains (end_sets root) l) e r.1),
)
