-- The last nodes are hung below an earlier one.
use Rattle.std.proofs.Common.{◌≡◌, ℕ, zero, suc, ◌+◌, ◌-◌, ◌<◌, ◌≤◌, ⊎_elim, Bool, true, false, cond, ◌&&◌, ◌||◌, eqb, ltb, leb, List, [], ◌∷◌, ◌++◌, length, map, reverse, get_or, take, drop, IsPermutation, refl, sym, ◌∙◌, subst, ap, arith}
use Rattle.std.specs.List.{All, Contains, filter, flat_map}
use Rattle.std.proofs.lemmas.Bool.{cases_lt, false≢true}
use Rattle.std.proofs.lemmas.List.{length-append, length-map, length-reverse, map-append, take-append-drop, length-take-le}
use Rattle.std.proofs.lemmas.List.Elements.{All-append, Contains-append_cases, Contains-append_left, Contains-append_right}
use Rattle.std.proofs.lemmas.List.Concat.{flat_map-append}
use Rattle.std.proofs.lemmas.List.Sums.{length-filter}
use Rattle.std.proofs.lemmas.List.Sorted.{All-permutation, Contains-permutation, IsPermutation-sym, sum_by-IsPermutation}
use Rattle.cut_definitions.specs.Weight.{VertexSet}
use Rattle.cut_definitions.specs.Cuts.{has, IsAscendingWithin}
use Rattle.cut_definitions.specs.Chain.{SameOn}
use Rattle.cut_definitions.proofs.ListLaws.{All-front, All-back}
use Rattle.rooted_cactus.specs.declared.tree.Node.{Node}
use Rattle.rooted_cactus.specs.declared.tree.Block.{Block}
use Rattle.rooted_cactus.specs.Trees.{vertices}
use Rattle.rooted_cactus.specs.Entered.{entered}
use Rattle.rooted_cactus.specs.Widths.{widths, block_widths}
use Rattle.rooted_cactus.specs.Sides.{Part, part, below, cuts, belows, all_of, all_cuts, intervals, with_below, cycle_of}
use Rattle.rooted_cactus.proofs.Parts.{hung_part, all_of_push}
use Rattle.rooted_cactus.proofs.Orders.{hung_entered}
use Rattle.rooted_cactus.proofs.Built.{hung_widths}
use Rattle.node_tree.specs.Flat.{NodeArrays, AreNodes, is_follower, sets_of}
use Rattle.node_tree.specs.Forest.{AreFrom, IsChangedAt, AddsBlock, IsBlockOf, holder, IsHolding, IsSideFrom, IsForest}
use Rattle.node_tree.proofs.ForestChanges.{from_back, from_front, from_weaker, from_changed, hung_flat, changed_flat, changed_length, reverse_more}
use Rattle.node_tree.proofs.ForestHolders.{met_step, met_below, met_less, held_elsewhere, held_there, none_between, one_more}
use Rattle.node_tree.proofs.ForestSpans.{under_same, AreDown, down_push, spans_forth, spans_back, IsSpan}

cuts_of : (xs : List Node) → all_cuts (map part xs) ≡ flat_map cuts xs
cuts_of [] = refl
cuts_of (x ∷ xs) = ap (λ l. cuts x ++ l) (cuts_of xs)

head_kept : (before after group : List Node) (x y d : Node) → vertices y ≡ vertices x → vertices (get_or (before ++ y ∷ after) 0 d) ≡ vertices (get_or ((before ++ x ∷ after) ++ group) 0 d)
head_kept [] after group x y d e = e
head_kept (z ∷ zs) after group x y d e = refl

count_permutation : {X : Type 0} (test : X → Bool) (xs ys : List X) → IsPermutation xs ys → length (filter test ys) ≡ length (filter test xs)
count_permutation test xs ys h = length-filter test ys ∙ sum_by-IsPermutation (λ x. cond (test x) 1 0) xs ys h ∙ sym (length-filter test xs)

pub hung_length : (upper : ℕ) (b : Block) (first : ℕ) (nodes new : List Node) → first < length nodes → IsChangedAt upper (AddsBlock b) (take first nodes) new → length new ≡ first
hung_length upper b first nodes new within c = changed_length upper (AddsBlock b) (take first nodes) new c ∙ length-take-le first nodes (omega (arith, within))

abbrev Turned : List Node → List Part
Turned xs = map part (reverse xs)

turned_more : (x : Node) (xs : List Node) → Turned (x ∷ xs) ≡ Turned xs ++ part x ∷ []
turned_more x xs = ap (map part) (reverse_more x xs) ∙ map-append part (reverse xs) (x ∷ [])

belows_more : (x : Node) (xs : List Node) → belows (Turned (x ∷ xs)) ≡ belows (Turned xs) ++ below x ∷ []
belows_more x xs = ap belows (turned_more x xs) ∙ map-append (λ (p : Part). p.below) (Turned xs) (part x ∷ [])

length_belows : (xs : List Node) → length (belows (Turned xs)) ≡ length xs
length_belows xs = length-map (Turned xs) (λ (p : Part). p.below) ∙ length-map (reverse xs) part ∙ length-reverse xs

-- the sets of the last nodes, from the last to the first
down_of : (n : ℕ) (under : ℕ → VertexSet) (k : ℕ) (xs : List Node) → AreFrom (λ j x. SameOn n (below x) (under j)) k xs → AreDown n under (k + length xs) (belows (Turned xs))
down_of n under k [] h = tt
down_of n under k (x ∷ xs) h =
    let ss = belows (Turned xs) in
    let top : suc k + length xs ≡ k + suc (length xs) = omega arith in
    let many : length ss ≡ length xs = length_belows xs in
    let at : k ≡ k + suc (length xs) - length ss - 1 = omega (arith, many) in
    subst (AreDown n under (k + suc (length xs))) (sym (belows_more x xs))
    (down_push n under (k + suc (length xs)) ss (below x) (subst (λ (t : ℕ). AreDown n under t ss) top (down_of n under (suc k) xs h.1)) (omega (arith, many)) (subst (λ (j : ℕ). SameOn n (below x) (under j)) at h.0))

module _ (n : ℕ) (a : NodeArrays) (fits : AreNodes a) (nodes : List Node) (few : length nodes ≤ length a.links.uppers) (forest : IsForest n a nodes) (first : ℕ) (one : 1 ≤ first) (within : first < length nodes)
    (lead : is_follower a.links.follows first ≡ false) (pending : (j : ℕ) → first < j → j < length nodes → is_follower a.links.follows j ≡ true)
    (b : Block) (block : IsBlockOf (drop first nodes) b) (new : List Node) (c : IsChangedAt (get_or a.links.uppers first 0) (AddsBlock b) (take first nodes) new) where
  abbrev u : List ℕ
  u = a.links.uppers

  abbrev p : ℕ
  p = length nodes

  abbrev upper : ℕ
  upper = get_or u first 0

  abbrev group : List Node
  group = drop first nodes

  long : length (take first nodes) ≡ first
  long = length-take-le first nodes (omega (arith, within))

  many : length new ≡ first
  many = hung_length upper b first nodes new within c

  before : upper < first
  before = fits.upper first one (omega (arith, within, few))

  flat_at : (d j : ℕ) → j ≡ first + d → j < p → get_or u j 0 ≡ upper
  flat_at zero j e lt = let same : j ≡ first = omega (arith, e) in ap (λ k. get_or u k 0) same
  flat_at (suc d) j e lt =
      let follows = pending j (omega (arith, e)) lt in
      (fits.steady j (omega (arith, e, one)) (omega (arith, lt, few)) follows).1 ∙ flat_at d (j - 1) (omega (arith, e)) (omega (arith, lt))

  flat : (j : ℕ) → first ≤ j → j < p → get_or u j 0 ≡ upper
  flat j le lt = flat_at (j - first) j (omega (arith, le)) lt

  at_group : AreFrom (IsHolding n a p) first group
  at_group =
      let e : 0 + length (take first nodes) ≡ first = omega (arith, long) in
      subst (λ k. AreFrom (IsHolding n a p) k group) e (from_back (IsHolding n a p) 0 (take first nodes) group (subst (AreFrom (IsHolding n a p) 0) (sym (take-append-drop first nodes)) forest.holding))

  rest_many : first + length group ≡ p
  rest_many = omega (arith, long, length-append (take first nodes) group, ap length (take-append-drop first nodes))

  -- ---- what the nodes hold
  all_back : (k : ℕ) (xs : List Node) → AreFrom (IsHolding n a p) k xs → (v : ℕ) → 1 ≤ v → v ≤ n → all_of (belows (Turned xs)) v ≡ (leb k (holder u p (a.homes v)) && ltb (holder u p (a.homes v)) (k + length xs))
  all_back k [] h v l m = sym (none_between (holder u p (a.homes v)) k)
  all_back k (x ∷ xs) h v l m =
      let y = holder u p (a.homes v) in
      ap (λ ps. all_of (belows ps) v) (turned_more x xs)
      ∙ ap (λ s. s v) (all_of_push (Turned xs) (part x))
      ∙ ap (λ t. t || below x v) (all_back (suc k) xs h.1 v l m)
      ∙ ap (λ t. (leb (suc k) y && ltb y (suc k + length xs)) || t) (h.0 v l m)
      ∙ one_more y k (length xs)

  hung : part c.changed ≡ with_below (part c.node) (cycle_of (Turned group))
  hung = hung_part c.node c.changed b c.change.0 c.change.1 ∙ ap (with_below (part c.node)) block.part

  moved : (v : ℕ) → holder u first (a.homes v) ≡ cond (ltb (holder u p (a.homes v)) first) (holder u p (a.homes v)) upper
  moved v = met_step u (length u) first p upper fits.upper one (omega (arith, within)) before flat (a.homes v) (a.homes v) (omega arith) (fits.homes v)

  less : (v : ℕ) → holder u p (a.homes v) < p
  less v = met_less u (length u) p fits.upper (omega (arith, one, within)) (a.homes v) (a.homes v) (omega arith) (fits.homes v)

  held_other : (j : ℕ) (x : Node) → j < length (take first nodes) → (j ≡ upper → ⊥) → IsHolding n a p j x → IsHolding n a first j x
  held_other j x lt ne h v l m = h v l m ∙ held_elsewhere (holder u p (a.homes v)) first j upper (omega (arith, lt, long)) ne ∙ ap (λ k. eqb k j) (sym (moved v))

  held_here : (x y : Node) → part y ≡ with_below (part x) (cycle_of (Turned group)) → IsHolding n a p upper x → IsHolding n a first upper y
  held_here x y e h v l m =
      let z = holder u p (a.homes v) in
      ap (λ (q : Part). q.below v) e
      ∙ ap (λ t. t || all_of (belows (Turned group)) v) (h v l m)
      ∙ ap (λ t. eqb z upper || t) (all_back first group at_group v l m ∙ ap (λ k. leb first z && ltb z k) rest_many)
      ∙ held_there z first p upper before (less v)
      ∙ ap (λ k. eqb k upper) (sym (moved v))

  holding : AreFrom (IsHolding n a first) 0 new
  holding = from_changed (IsHolding n a p) (IsHolding n a first) upper (AddsBlock b) (take first nodes) new c held_other
      (λ x y h r. held_here x y (hung_part x y b r.0 r.1 ∙ ap (with_below (part x)) block.part) h)
      (from_front (IsHolding n a p) 0 (take first nodes) group (subst (AreFrom (IsHolding n a p) 0) (sym (take-append-drop first nodes)) forest.holding))

  -- ---- the sides
  abbrev under : ℕ → VertexSet
  under = (sets_of a).under

  down : AreDown n under p (belows (Turned group))
  down = subst (λ k. AreDown n under k (belows (Turned group))) rest_many (down_of n under first group
      (from_weaker (IsHolding n a p) (λ j x. SameOn n (below x) (under j)) first group
      (λ j x le lt h. λ v l m. h v l m ∙ sym (met_below u (length u) first p upper fits.upper one (omega (arith, within)) before flat j le (omega (arith, lt, rest_many)) (a.homes v) (a.homes v))) at_group))

  low : p - length (belows (Turned group)) ≡ first
  low = omega (arith, length_belows group, rest_many)

  cuts_adds : cuts c.changed ≡ cuts c.node ++ (intervals (belows (Turned group)) ++ flat_map cuts (reverse group))
  cuts_adds = ap (λ (q : Part). q.cuts) hung ∙ ap (λ l. cuts c.node ++ (intervals (belows (Turned group)) ++ l)) (cuts_of (reverse group))

  seen : IsPermutation (flat_map cuts new) (intervals (belows (Turned group)) ++ flat_map cuts nodes)
  seen = hung_flat cuts upper first (AddsBlock b) (intervals (belows (Turned group))) nodes new c cuts_adds

  new_side : (s : VertexSet) → IsSpan n under (p - length (belows (Turned group))) p s → IsSideFrom n (sets_of a) first s
  new_side s h = record {
    side = record {
      first = h.first;
      last = h.last;
      from_one = omega (arith, h.low_first, low, one);
      ordered = h.ordered;
      below_count = omega (arith, h.last_high, few);
      in_cycle = λ i l m. pending i (omega (arith, l, h.low_first, low)) (omega (arith, m, h.last_high));
      under = h.is_under;
    };
    late = omega (arith, h.low_first, low);
  }

  sound : (s : VertexSet) → Contains (flat_map cuts new) s → IsSideFrom n (sets_of a) first s
  sound s h = ⊎_elim
      (λ k. new_side s (spans_forth n under (belows (Turned group)) p s down k))
      (λ k. let r = forest.sound s k in record { side = r.side; late = omega (arith, r.late, within) })
      (Contains-append_cases (intervals (belows (Turned group))) (flat_map cuts nodes) s (Contains-permutation _ _ s seen h))

  back : (s : VertexSet) → Contains (intervals (belows (Turned group)) ++ flat_map cuts nodes) s → Contains (flat_map cuts new) s
  back s h = Contains-permutation _ _ s (IsPermutation-sym _ _ seen) h

  complete : (x : VertexSet) → IsSideFrom n (sets_of a) first x → (s : VertexSet) × Contains (flat_map cuts new) s × SameOn n s x
  complete x h = ⊎_elim
      (λ (lt : h.side.first < p).
      let ends : h.side.last < p = ⊎_elim
      (λ (l : h.side.last < p). l)
      (λ (l : p ≤ h.side.last). absurd (false≢true (sym forest.apart ∙ h.side.in_cycle p lt l)))
      (cases_lt h.side.last p) in
      let r = spans_back n under (belows (Turned group)) p h.side.first h.side.last down (omega (arith, low, h.late)) h.side.ordered ends in
      (r.0, back r.0 (Contains-append_left (intervals (belows (Turned group))) (flat_map cuts nodes) r.0 r.1), under_same n under h.side.first h.side.last r.0 x r.2 h.side.under))
      (λ (le : p ≤ h.side.first).
      let r = forest.complete x (record { side = h.side; late = le }) in
      (r.0, back r.0 (Contains-append_right (intervals (belows (Turned group))) (flat_map cuts nodes) r.0 r.1), r.2))
      (cases_lt h.side.first p)

  -- ---- the vertices of the nodes, and how wide the cycles are
  entered_seen : IsPermutation (flat_map entered new) (flat_map entered nodes)
  entered_seen = hung_flat entered upper first (AddsBlock b) [] nodes new c (hung_entered c.node c.changed b c.change.0 c.change.1 ∙ ap (λ l. entered c.node ++ l) block.entered)

  widths_adds : widths c.changed ≡ widths c.node ++ block_widths b
  widths_adds = hung_widths c.node c.changed b c.change.1

  widths_whole : flat_map widths nodes ≡ flat_map widths (take first nodes) ++ flat_map widths group
  widths_whole = sym (ap (flat_map widths) (take-append-drop first nodes)) ∙ flat_map-append widths (take first nodes) group

  wide : All (λ k. 2 ≤ k) (flat_map widths new)
  wide =
      let all : All (λ k. 2 ≤ k) (flat_map widths (take first nodes) ++ flat_map widths group) = subst (All (λ k. 2 ≤ k)) widths_whole forest.wide in
      All-permutation (λ k. 2 ≤ k) _ _ (IsPermutation-sym _ _ (changed_flat widths upper (AddsBlock b) (block_widths b) (take first nodes) new c widths_adds))
      (All-append (λ k. 2 ≤ k) (block_widths b) (flat_map widths (take first nodes)) (block.wide (All-back (λ k. 2 ≤ k) (flat_map widths (take first nodes)) (flat_map widths group) all))
      (All-front (λ k. 2 ≤ k) (flat_map widths (take first nodes)) (flat_map widths group) all))

  root_has_one : (d : Node) → Contains (vertices (get_or new 0 d)) 1
  root_has_one d =
      let same : vertices (get_or new 0 d) ≡ vertices (get_or nodes 0 d) =
      ap (λ l. vertices (get_or l 0 d)) c.is ∙ head_kept c.before c.after group c.node c.changed d c.change.0
      ∙ ap (λ l. vertices (get_or (l ++ group) 0 d)) (sym c.was) ∙ ap (λ l. vertices (get_or l 0 d)) (take-append-drop first nodes) in
      subst (λ l. Contains l 1) (sym same) (forest.root_has_one d)

  pub stepped : IsForest n a new
  stepped = record {
    holding = subst (λ k. AreFrom (IsHolding n a k) 0 new) (sym many) holding;
    apart = ap (λ k. get_or a.links.follows k false) many ∙ lead;
    sound = λ s h. subst (λ k. IsSideFrom n (sets_of a) k s) (sym many) (sound s h);
    complete = λ x h. complete x (subst (λ k. IsSideFrom n (sets_of a) k x) many h);
    ascending = All-permutation (IsAscendingWithin 1 n) _ _ (IsPermutation-sym _ _ entered_seen) forest.ascending;
    in_one_node = λ v l h. sym (count_permutation (λ l. has l v) _ _ entered_seen) ∙ forest.in_one_node v l h;
    wide = wide;
    root_has_one = root_has_one;
  }
