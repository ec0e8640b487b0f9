-- Trees that get the nodes and blocks of a sketch, and the cactus that they become.
use Rattle.std.proofs.Common.{◌≡◌, ℕ, ◌+◌, ◌-◌, ◌≤◌, ◌<◌, ◌==◌, Bool, true, false, zero, suc, cond, List, [], ◌∷◌, ◌++◌, length, refl, sym, ◌∙◌, ap, subst, arith, ⊎_elim, ne_eqb, take, drop, take-append-drop, Option, Some, option_to_list, ◌↔◌}
use Rattle.std.specs.Prelude.{slice_index, slice_index_or}
use Rattle.std.specs.List.{All, Contains, filter, flat_map, range_with_len}
use Rattle.std.proofs.lemmas.Bool.{cases_eq, eq-eqb}
use Rattle.std.proofs.lemmas.List.{append-nil, append_assoc, length-append, nil_from_length}
use Rattle.std.proofs.lemmas.List.Concat.{flat_map-append}
use Rattle.std.proofs.lemmas.List.Elements.{All-append, All-cons, All-contains, All-head, All-map, All-nil, All-tail, filter-append}
use Rattle.std.proofs.lemmas.List.FromFn.{filter_of_map_range_with_len_more, get_or-map-range_with_len}
use Rattle.cut_definitions.specs.Cuts.{has, IsAscendingWithin}
use Rattle.cut_definitions.proofs.Ascending.{has_contains}
use Rattle.cut_definitions.proofs.Bridge.{has_within, IsAscendingWithin-filter}
use Rattle.cut_definitions.proofs.ListLaws.{All-from_each}
use Rattle.cut_definitions.proofs.Ranges.{range_push}
use Rattle.rooted_cactus.specs.Entered.{entered, entered_block}
use Rattle.rooted_cactus.specs.Rooted.{IsCactus}
use Rattle.rooted_cactus.specs.Trees.{vertices, blocks, nodes_in}
use Rattle.rooted_cactus.specs.Widths.{widths, block_widths}
use Rattle.rooted_cactus.specs.declared.tree.Node.{Node}
use Rattle.rooted_cactus.specs.declared.tree.Block.{Block}
use Rattle.rooted_cactus.specs.declared.tree.Block.TheVariants.{Cycle}
use Rattle.rooted_cactus.specs.declared.tree.Children.{Children}
use Rattle.rooted_cactus.proofs.Built.{leaf_entered, leaf_widths, hung_widths, ring_widths}
use Rattle.rooted_cactus.proofs.Orders.{entered_out, hung_entered}
use Rattle.tree_tests.specs.Sketches.{AreWide, lists_of, own_of}

-- ---- the vertices of a node
abbrev is_home : List ℕ → ℕ → ℕ → Bool
is_home homes node v = slice_index homes (v - 1) == node

-- the vertices of a node among the first vertices
abbrev pub own_to : List ℕ → ℕ → ℕ → List ℕ
own_to homes node m = filter (is_home homes node) (range_with_len 1 m)

own_more : (homes : List ℕ) (node i : ℕ) (b : Bool) → (slice_index homes i == node) ≡ b → own_to homes node (i + 1) ≡ own_to homes node i ++ cond b ((i + 1) ∷ []) []
own_more homes node i b e =
    let next : i + 1 ≡ suc i = omega arith in
    let one : 1 + i ≡ i + 1 = omega arith in
    let back : i + 1 - 1 ≡ i = omega arith in
    ap (own_to homes node) next
    ∙ ap (filter (is_home homes node)) (range_push 1 i ∙ ap (λ v. range_with_len 1 i ++ v ∷ []) one)
    ∙ filter-append (is_home homes node) (range_with_len 1 i) ((i + 1) ∷ [])
    ∙ ap (λ c. own_to homes node i ++ cond c ((i + 1) ∷ []) []) (ap (λ k. slice_index homes k == node) back ∙ e)

pub own_in : (homes : List ℕ) (node i : ℕ) (old new : List ℕ) → slice_index homes i ≡ node → old ≡ own_to homes node i → new ≡ old ++ (i + 1) ∷ [] → new ≡ own_to homes node (i + 1)
own_in homes node i old new h o n = n ∙ ap (λ l. l ++ (i + 1) ∷ []) o ∙ sym (own_more homes node i true (eq-eqb (slice_index homes i) node h))

pub own_out : (homes : List ℕ) (node i : ℕ) (old : List ℕ) → (slice_index homes i ≡ node → ⊥) → old ≡ own_to homes node i → old ≡ own_to homes node (i + 1)
own_out homes node i old h o = o ∙ sym (own_more homes node i false (ne_eqb (slice_index homes i) node h) ∙ append-nil (own_to homes node i))

-- ---- trees that grow
abbrev IsWide : List ℕ → Type 0
IsWide = All (λ k. 2 ≤ k)

front_wide : (xs ys : List ℕ) → IsWide (xs ++ ys) → IsWide xs
front_wide [] ys h = All-nil (λ (k : ℕ). 2 ≤ k)
front_wide (x ∷ xs) ys h = All-cons (λ (k : ℕ). 2 ≤ k) x xs (All-head (λ (k : ℕ). 2 ≤ k) x (xs ++ ys) h) (front_wide xs ys (All-tail (λ (k : ℕ). 2 ≤ k) x (xs ++ ys) h))

back_wide : (xs ys : List ℕ) → IsWide (xs ++ ys) → IsWide ys
back_wide [] ys h = h
back_wide (x ∷ xs) ys h = back_wide xs ys (All-tail (λ (k : ℕ). 2 ≤ k) x (xs ++ ys) h)

pushed : {X : Type 0} (f : Node → List X) (old new : List Node) (x : Node) → new ≡ old ++ x ∷ [] → flat_map f new ≡ flat_map f old ++ f x
pushed f old new x e = ap (flat_map f) e ∙ flat_map-append f old (x ∷ []) ∙ ap (λ l. flat_map f old ++ l) (append-nil (f x))

-- one more node without blocks
pub node_entered : (old new : List Node) (x : Node) (own : List ℕ) → new ≡ old ++ x ∷ [] → vertices x ≡ own → blocks x ≡ [] → flat_map entered new ≡ flat_map entered old ++ own ∷ []
node_entered old new x own e v b = pushed entered old new x e ∙ ap (λ ls. flat_map entered old ++ ls) (leaf_entered x own v b)

pub node_wide : (old new : List Node) (x : Node) → new ≡ old ++ x ∷ [] → blocks x ≡ [] → AreWide old → AreWide new
node_wide old new x e b w =
    subst IsWide (sym (pushed widths old new x e ∙ ap (λ l. flat_map widths old ++ l) (leaf_widths x b) ∙ append-nil (flat_map widths old))) w

-- the only node of a list
pub alone : {X : Type 0} (f : Node → List X) (old new : List Node) (x : Node) → old ≡ new ++ x ∷ [] → length new ≡ 0 → flat_map f old ≡ f x
alone f old new x e n = pushed f new old x e ∙ ap (λ l. flat_map f l ++ f x) (nil_from_length new n)

pub ring_wide : (nodes : Children) → 2 ≤ length (nodes_in nodes) → AreWide (nodes_in nodes) → IsWide (block_widths (Cycle nodes))
ring_wide nodes two w = subst IsWide (sym (ring_widths nodes)) (All-cons (λ (k : ℕ). 2 ≤ k) (length (nodes_in nodes)) (flat_map widths (nodes_in nodes)) two w)

pub popped : (old new : List Node) (r : Option Node) (x : Node) → old ≡ new ++ option_to_list r → r ≡ Some x → old ≡ new ++ x ∷ []
popped old new r x e s = e ∙ ap (λ o. new ++ option_to_list o) s

-- the last nodes, the one before them, and the others
pub cut_off : (old front rest nodes : List Node) (at : ℕ) (r : Option Node) (x : Node) → front ≡ take at old → nodes ≡ drop at old → front ≡ rest ++ option_to_list r → r ≡ Some x → old ≡ (rest ++ x ∷ []) ++ nodes
cut_off old front rest nodes at r x f n e s =
    sym (take-append-drop at old) ∙ ap (λ l. l ++ drop at old) (sym f ∙ popped front rest r x e s) ∙ ap (λ l. (rest ++ x ∷ []) ++ l) (sym n)

-- none of these lists is empty, if the others, which are the same, are not
pub same_nonempty : (xs ys : List (List ℕ)) → ((l : List ℕ) → Contains xs l ↔ Contains ys l) → All (λ l. 0 < length l) xs → All (λ l. 0 < length l) ys
same_nonempty xs ys f h = All-from_each (λ (l : List ℕ). 0 < length l) ys (λ l m. All-contains (λ (l : List ℕ). 0 < length l) xs l h ((f l).1 m))

-- the last nodes hung below the one before them
module _ (old rest nodes new : List Node) (x y : Node) (b : Block) (o : old ≡ (rest ++ x ∷ []) ++ nodes) (n : new ≡ rest ++ y ∷ []) (v : vertices y ≡ vertices x) (h : blocks y ≡ blocks x ++ b ∷ []) where
  before : {X : Type 0} (f : Node → List X) → flat_map f old ≡ (flat_map f rest ++ f x) ++ flat_map f nodes
  before f = ap (flat_map f) o ∙ flat_map-append f (rest ++ x ∷ []) nodes ∙ ap (λ l. l ++ flat_map f nodes) (pushed f rest (rest ++ x ∷ []) x refl)

  after : {X : Type 0} (f : Node → List X) (more : List X) → f y ≡ f x ++ more → flat_map f new ≡ (flat_map f rest ++ f x) ++ more
  after f more e = pushed f rest new y n ∙ ap (λ l. flat_map f rest ++ l) e ∙ sym (append_assoc (flat_map f rest) (f x) more)

  pub closed_entered : entered_block b ≡ flat_map entered nodes → flat_map entered new ≡ flat_map entered old
  closed_entered e = after entered (entered_block b) (hung_entered x y b v h) ∙ ap (λ l. (flat_map entered rest ++ entered x) ++ l) e ∙ sym (before entered)

  pub closed_wide : (AreWide nodes → IsWide (block_widths b)) → AreWide old → AreWide new
  closed_wide f w =
      let all = subst IsWide (before widths) w in
      let upper = flat_map widths rest ++ widths x in
      subst IsWide (sym (after widths (block_widths b) (hung_widths x y b h)))
      (All-append (λ (k : ℕ). 2 ≤ k) upper (block_widths b) (front_wide upper (flat_map widths nodes) all) (f (back_wide upper (flat_map widths nodes) all)))

-- ---- the cactus
abbrev with_vertex : ℕ → List ℕ → Bool
with_vertex v l = has l v

module _ (homes : List ℕ) (count v : ℕ) (low : 1 ≤ v) (high : v ≤ length homes) where
  abbrev home : ℕ
  home = slice_index homes (v - 1)

  list_more : (k : ℕ) (b : Bool) → (home == k) ≡ b → length (filter (with_vertex v) (lists_of homes (k + 1))) ≡ length (filter (with_vertex v) (lists_of homes k)) + length (cond b (own_of homes k ∷ []) [])
  list_more k b e =
      let here : with_vertex v (own_of homes k) ≡ b = has_within (length homes) 1 v (is_home homes k) low (omega arith) ∙ e in
      ap length (filter_of_map_range_with_len_more (with_vertex v) (own_of homes) 0 k k (omega arith))
      ∙ length-append (filter (with_vertex v) (lists_of homes k)) (cond (with_vertex v (own_of homes k)) (own_of homes k ∷ []) [])
      ∙ ap (λ c. length (filter (with_vertex v) (lists_of homes k)) + length (cond c (own_of homes k ∷ []) [])) here

  none_yet : (k : ℕ) → k ≤ home → length (filter (with_vertex v) (lists_of homes k)) ≡ 0
  none_yet zero h = refl
  none_yet (suc k) h =
      let next : suc k ≡ k + 1 = omega arith in
      let apart : (home == k) ≡ false = ne_eqb home k (λ e. omega (arith, e, h)) in
      ap (λ m. length (filter (with_vertex v) (lists_of homes m))) next ∙ omega (arith, list_more k false apart, none_yet k (omega (arith, h)))

  pub in_one : (k : ℕ) → home < k → length (filter (with_vertex v) (lists_of homes k)) ≡ 1
  in_one zero h = absurd (omega arith)
  in_one (suc k) h =
      let next : suc k ≡ k + 1 = omega arith in
      ap (λ m. length (filter (with_vertex v) (lists_of homes m))) next
      ∙ ⊎_elim
      (λ (e : home ≡ k). omega (arith, list_more k true (eq-eqb home k e), none_yet k (omega (arith, e))))
      (λ (ne : home ≡ k → ⊥). omega (arith, list_more k false (ne_eqb home k ne), in_one k (omega (arith, ne, h))))
      (cases_eq home k)

pub is_cactus : (homes : List ℕ) (count n : ℕ) (x : Node) → n ≡ length homes → 0 < length homes → slice_index homes 0 ≡ 0 → ((i : ℕ) → i < length homes → slice_index homes i < count) → entered x ≡ lists_of homes count → IsWide (widths x) → IsCactus n x
is_cactus homes count n x same some first below e w =
    let node_zero : 0 < count = subst (λ (k : ℕ). k < count) first (below 0 some) in
    let root : vertices x ≡ own_of homes 0 =
    ap (λ ls. slice_index_or ls 0 []) (sym (entered_out x) ∙ e) ∙ get_or-map-range_with_len (own_of homes) 0 count 0 0 [] node_zero refl in
    record {
      ascending = subst (All (IsAscendingWithin 1 n)) (sym e)
          (All-map (IsAscendingWithin 1 n) (own_of homes) (range_with_len 0 count) (λ i d lt. IsAscendingWithin-filter (length homes) 1 n _ (omega (arith, same))));
      in_one_node = λ v low high.
          ap (λ ls. length (filter (with_vertex v) ls)) e
          ∙ in_one homes count v low (omega (arith, same, high)) count (below (v - 1) (omega (arith, same, low, high)));
      root_has_one = has_contains (vertices x) 1
          (ap (λ l. has l 1) root ∙ has_within (length homes) 1 1 (is_home homes 0) (omega arith) (omega (arith, some)) ∙ eq-eqb (slice_index homes 0) 0 first);
      wide = w;
    }
