-- The nodes with their vertices, before any of them is hung below another.
use Rattle.std.proofs.Common.{◌≡◌, ℕ, zero, suc, ◌+◌, ◌-◌, ◌<◌, ◌≤◌, ⊎_elim, Bool, true, false, cond, eqb, List, [], ◌∷◌, ◌++◌, length, map, get_or, refl, sym, ◌∙◌, subst, ap, arith}
use Rattle.std.specs.List.{All, Contains, filter, flat_map, range_with_len}
use Rattle.std.proofs.lemmas.Bool.{cases_eq, eq-eqb, ne_eqb}
use Rattle.std.proofs.lemmas.List.{append-nil}
use Rattle.std.proofs.lemmas.List.Elements.{All-nil, All-cons, filter-append}
use Rattle.cut_definitions.specs.Weight.{VertexSet}
use Rattle.cut_definitions.specs.Cuts.{has, IsAscendingWithin}
use Rattle.cut_definitions.proofs.Lists.{Contains-filter, Contains-here, Contains-nil}
use Rattle.cut_definitions.proofs.Bridge.{has_within, IsAscendingWithin-filter}
use Rattle.cut_definitions.proofs.Bools.{or_nothing}
use Rattle.cut_definitions.proofs.Ranges.{range_push}
use Rattle.rooted_cactus.specs.declared.tree.Node.{Node}
use Rattle.rooted_cactus.specs.Trees.{vertices, blocks}
use Rattle.rooted_cactus.specs.Entered.{entered, entered_block}
use Rattle.rooted_cactus.specs.Widths.{widths}
use Rattle.rooted_cactus.specs.Sides.{Part, block_part, below, cuts, together}
use Rattle.rooted_cactus.proofs.Parts.{part_out}
use Rattle.rooted_cactus.proofs.Orders.{entered_out}
use Rattle.rooted_cactus.proofs.Built.{leaf_widths}
use Rattle.node_tree.specs.Flat.{NodeArrays, AreNodes}
use Rattle.node_tree.specs.Forest.{AreFrom, IsChangedAt, AddsVertex, IsPlaced, IsHolding, IsForest}
use Rattle.node_tree.proofs.ForestChanges.{from_changed, from_weaker}
use Rattle.node_tree.proofs.ForestHolders.{met_at}

-- ---- one more vertex
filter_more : (p : VertexSet) (v : ℕ) → filter p (range_with_len 1 (v + 1)) ≡ filter p (range_with_len 1 v) ++ filter p ((v + 1) ∷ [])
filter_more p v =
    let up : v + 1 ≡ suc v = omega arith in
    let down : 1 + v ≡ v + 1 = omega arith in
    ap (λ k. filter p (range_with_len 1 k)) up ∙ ap (filter p) (range_push 1 v) ∙ filter-append p (range_with_len 1 v) ((1 + v) ∷ []) ∙ ap (λ k. filter p (range_with_len 1 v) ++ filter p (k ∷ [])) down

filter_passed : (p : VertexSet) (v : ℕ) → p (v + 1) ≡ true → filter p (range_with_len 1 (v + 1)) ≡ filter p (range_with_len 1 v) ++ (v + 1) ∷ []
filter_passed p v h = filter_more p v ∙ ap (λ b. filter p (range_with_len 1 v) ++ cond b ((v + 1) ∷ []) []) h

filter_left : (p : VertexSet) (v : ℕ) → p (v + 1) ≡ false → filter p (range_with_len 1 (v + 1)) ≡ filter p (range_with_len 1 v)
filter_left p v h = filter_more p v ∙ ap (λ b. filter p (range_with_len 1 v) ++ cond b ((v + 1) ∷ []) []) h ∙ append-nil (filter p (range_with_len 1 v))

pub placed_more : (homes : ℕ → ℕ) (v : ℕ) (old new : List Node) → IsChangedAt (homes (v + 1)) (AddsVertex (v + 1)) old new → AreFrom (IsPlaced v homes) 0 old → AreFrom (IsPlaced (v + 1) homes) 0 new
placed_more homes v old new c = from_changed (IsPlaced v homes) (IsPlaced (v + 1) homes) (homes (v + 1)) (AddsVertex (v + 1)) old new c
    (λ j x l ne p. (p.0 ∙ sym (filter_left (λ u. eqb (homes u) j) v (ne_eqb (homes (v + 1)) j (λ e. ne (sym e)))), p.1))
    (λ x y p r. (r.0 ∙ ap (λ l. l ++ (v + 1) ∷ []) p.0 ∙ sym (filter_passed (λ u. eqb (homes u) (homes (v + 1))) v (eq-eqb (homes (v + 1)) (homes (v + 1)) refl)), r.1 ∙ p.1))

-- ---- what is read off a node without blocks
placed_below : (n : ℕ) (homes : ℕ → ℕ) (j : ℕ) (x : Node) → IsPlaced n homes j x → (v : ℕ) → 1 ≤ v → v ≤ n → below x v ≡ eqb (homes v) j
placed_below n homes j x p v l h =
    ap (λ (q : Part). q.below v) (part_out x)
    ∙ or_nothing (has (vertices x) v) ((together (map block_part (blocks x))).below v) (ap (λ bs. (together (map block_part bs)).below v) p.1)
    ∙ ap (λ l. has l v) p.0
    ∙ has_within n 1 v (λ u. eqb (homes u) j) l (omega (arith, h))

pub placed_cuts : (x : Node) → blocks x ≡ [] → cuts x ≡ []
placed_cuts x e = ap (λ (q : Part). q.cuts) (part_out x) ∙ ap (λ bs. (together (map block_part bs)).cuts) e

pub placed_entered : (x : Node) → blocks x ≡ [] → entered x ≡ vertices x ∷ []
placed_entered x e = entered_out x ∙ ap (λ bs. vertices x ∷ flat_map entered_block bs) e

range_first : (n : ℕ) → 1 ≤ n → 1 ∷ range_with_len 2 (n - 1) ≡ range_with_len 1 n
range_first zero h = absurd (omega (arith, h))
range_first (suc n) h = let e : suc n - 1 ≡ n = omega arith in ap (λ k. 1 ∷ range_with_len 2 k) e

module _ (n : ℕ) (homes : ℕ → ℕ) where
  none_read : {X : Type 0} (f : Node → List X) → ((x : Node) → blocks x ≡ [] → f x ≡ []) → (k : ℕ) (xs : List Node) → AreFrom (IsPlaced n homes) k xs → flat_map f xs ≡ []
  none_read f none k [] h = refl
  none_read f none k (x ∷ xs) h = ap (λ l. l ++ flat_map f xs) (none x h.0.1) ∙ none_read f none (suc k) xs h.1

  lists_ascend : (k : ℕ) (xs : List Node) → AreFrom (IsPlaced n homes) k xs → All (IsAscendingWithin 1 n) (flat_map entered xs)
  lists_ascend k [] h = All-nil (IsAscendingWithin 1 n)
  lists_ascend k (x ∷ xs) h =
      let e : 1 + n ≡ n + 1 = omega arith in
      let here : IsAscendingWithin 1 n (vertices x) = subst (IsAscendingWithin 1 n) (sym h.0.0) (IsAscendingWithin-filter n 1 n (λ u. eqb (homes u) k) e) in
      subst (λ l. All (IsAscendingWithin 1 n) (l ++ flat_map entered xs)) (sym (placed_entered x h.0.1)) (All-cons (IsAscendingWithin 1 n) (vertices x) (flat_map entered xs) here (lists_ascend (suc k) xs h.1))

  -- how many nodes have a vertex
  abbrev Places : List Node → ℕ → ℕ
  Places xs v = length (filter (λ l. has l v) (flat_map entered xs))

  places_more : (k : ℕ) (x : Node) (xs : List Node) → IsPlaced n homes k x → (v : ℕ) → 1 ≤ v → v ≤ n → (b : Bool) → eqb (homes v) k ≡ b →
      Places (x ∷ xs) v ≡ length (cond b (vertices x ∷ filter (λ l. has l v) (flat_map entered xs)) (filter (λ l. has l v) (flat_map entered xs)))
  places_more k x xs p v l h b e =
      ap (λ es. length (filter (λ l. has l v) (es ++ flat_map entered xs))) (placed_entered x p.1)
      ∙ ap (λ t. length (cond t (vertices x ∷ filter (λ l. has l v) (flat_map entered xs)) (filter (λ l. has l v) (flat_map entered xs))))
      (ap (λ l. has l v) p.0 ∙ has_within n 1 v (λ u. eqb (homes u) k) l (omega (arith, h)) ∙ e)

  placed_before : (k : ℕ) (xs : List Node) → AreFrom (IsPlaced n homes) k xs → (v : ℕ) → 1 ≤ v → v ≤ n → homes v < k → Places xs v ≡ 0
  placed_before k [] h v l m lt = refl
  placed_before k (x ∷ xs) h v l m lt = places_more k x xs h.0 v l m false (ne_eqb (homes v) k (λ e. omega (arith, e, lt))) ∙ placed_before (suc k) xs h.1 v l m (omega (arith, lt))

  placed_once : (k : ℕ) (xs : List Node) → AreFrom (IsPlaced n homes) k xs → (v : ℕ) → 1 ≤ v → v ≤ n → k ≤ homes v → homes v < k + length xs → Places xs v ≡ 1
  placed_once k [] h v l m a b = absurd (omega (arith, a, b))
  placed_once k (x ∷ xs) h v l m a b = ⊎_elim
      (λ (e : homes v ≡ k). places_more k x xs h.0 v l m true (eq-eqb (homes v) k e) ∙ ap suc (placed_before (suc k) xs h.1 v l m (omega (arith, e))))
      (λ ne. places_more k x xs h.0 v l m false (ne_eqb (homes v) k ne) ∙ placed_once (suc k) xs h.1 v l m (omega (arith, ne, a)) (omega (arith, b)))
      (cases_eq (homes v) k)

  first_placed : (xs : List Node) (d : Node) → AreFrom (IsPlaced n homes) 0 xs → 0 < length xs → 1 ≤ n → homes 1 ≡ 0 → Contains (vertices (get_or xs 0 d)) 1
  first_placed [] d h some l e = absurd (omega (arith, some))
  first_placed (x ∷ xs) d h some l e =
      let whole : 1 ∷ range_with_len 2 (n - 1) ≡ range_with_len 1 n = range_first n l in
      subst (λ vs. Contains vs 1) (sym h.0.0) (Contains-filter (λ u. eqb (homes u) 0) (range_with_len 1 n) 1 (subst (λ vs. Contains vs 1) whole (Contains-here 1 (range_with_len 2 (n - 1)))) (eq-eqb (homes 1) 0 e))

past_end : (xs : List Bool) (k : ℕ) → length xs ≤ k → get_or xs k false ≡ false
past_end [] k h = refl
past_end (x ∷ xs) zero h = absurd (omega (arith, h))
past_end (x ∷ xs) (suc k) h = past_end xs k (omega (arith, h))

pub started : (n : ℕ) (a : NodeArrays) (nodes : List Node) → 1 ≤ n → AreNodes a → length a.links.follows ≡ length a.links.uppers → a.homes 1 ≡ 0 →
    length nodes ≡ length a.links.uppers → AreFrom (IsPlaced n a.homes) 0 nodes → IsForest n a nodes
started n a nodes some fits same one many placed =
    let no_cuts : flat_map cuts nodes ≡ [] = none_read n a.homes cuts placed_cuts 0 nodes placed in
    let no_widths : flat_map widths nodes ≡ [] = none_read n a.homes widths leaf_widths 0 nodes placed in
    record {
      holding = from_weaker (IsPlaced n a.homes) (IsHolding n a (length nodes)) 0 nodes (λ j x l m p. λ v b c. placed_below n a.homes j x p v b c
          ∙ ap (λ h. eqb h j) (sym (met_at a.links.uppers (length nodes) (a.homes v) (a.homes v) (omega (arith, fits.homes v, many))))) placed;
      apart = past_end a.links.follows (length nodes) (omega (arith, same, many));
      sound = λ s h. absurd (Contains-nil s (subst (λ l. Contains l s) no_cuts h));
      complete = λ x h. absurd (omega (arith, h.late, h.side.ordered, h.side.below_count, many));
      ascending = lists_ascend n a.homes 0 nodes placed;
      in_one_node = λ v l h. placed_once n a.homes 0 nodes placed v l h (omega arith) (omega (arith, fits.homes v, many));
      wide = subst (All (λ k. 2 ≤ k)) (sym no_widths) (All-nil (λ k. 2 ≤ k));
      root_has_one = λ d. first_placed n a.homes nodes d placed (omega (arith, many, fits.root)) some one;
    }
