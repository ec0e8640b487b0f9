-- A walk over a tree with a stack of nodes, each with the way to it; and steps that two ways share.
use Rattle.std.proofs.Common.{◌≡◌, ◌≢◌, ℕ, ◌+◌, ◌<◌, ◌≤◌, Bool, true, false, ◌||◌, ◌==◌, List, [], ◌∷◌, ◌++◌, Some, length, map, take, get_or, refl, ap, ◌∙◌, sym, subst, inl, inr, arith}
use Rattle.std.specs.Prelude.{⊤, slice_get, min, Option, None, IfSome, IfNone}
use Rattle.std.specs.List.{All, filter, flat_map}
use Rattle.std.proofs.lemmas.Bool.{false≢true, and_parts, cases_Bool, cond-true, cond-false, eqb-true, eq-eqb, and_from}
use Rattle.std.proofs.lemmas.List.{append-nil, append_assoc, map-append, length-append, length-take-le, take-take, take-append-le, take_all, take_more_same}
use Rattle.std.proofs.lemmas.Option.{get_or_from_slice_get, slice_get_within}
use Rattle.std.proofs.lemmas.List.Concat.{flat_map-append}
use Rattle.std.proofs.lemmas.List.Elements.{All-nil, All-cons, All-head, All-tail, All-append, All-filter, All-weaker, filter-append}
use Rattle.cut_definitions.specs.Cuts.{has}
use Rattle.cut_definitions.proofs.ListLaws.{taken, All-front, All-back}
use Rattle.rooted_cactus.specs.Sides.{part, block_part, all_of, belows}
use Rattle.rooted_cactus.specs.Trees.{vertices, blocks}
use Rattle.rooted_cactus.specs.Entries.{nodes_of}
use Rattle.rooted_cactus.specs.declared.tree.Node.{Node}
use Rattle.rooted_cactus.specs.declared.tree.Block.{Block}
use Rattle.rooted_cactus.proofs.Tallies.{nodes_to_come, no_blocks, fewer_inner}
use Rattle.cactus_growth.specs.Ways.{HasChild, IsStepTo, IsWay, LeadsTo, IsBelow, AreAdded, AreVisited, visited, same_step}
use Rattle.rooted_cactus.specs.Numbers.{is_inner}
use Rattle.cactus_growth.specs.declared.ways.Step.{Step}
use Rattle.cactus_growth.specs.declared.ways.Visit.{Visit}
use Rattle.cactus_growth.proofs.WaysDown.{way_end, block_below, below_at}
use Rattle.cactus_growth.proofs.Opened.{below_both}

-- ---- nodes that are put on a stack
added_both : (x : Node) (depth : ℕ) (xs ys : List Node) (old mid new : List Visit) → AreAdded x depth xs old mid → AreAdded x depth ys mid new → AreAdded x depth (xs ++ ys) old new
added_both x depth xs ys old mid new h k = record {
  added = h.added ++ k.added;
  whole = k.whole ∙ ap (λ l. l ++ k.added) h.whole ∙ append_assoc old h.added k.added;
  below = All-append (IsBelow x depth) h.added k.added h.below k.below;
  nodes = map-append (λ (w : Visit). w.node.now) h.added k.added ∙ ap (λ l. l ++ visited k.added) h.nodes ∙ ap (λ l. xs ++ l) k.nodes;
}

abbrev pub Lacks : ℕ → Node → Type 0
Lacks v x = has (vertices x) v ≡ false

visited_both : (v : ℕ) (x : Node) (depth : ℕ) (xs ys : List Node) (old mid new : List Visit) → AreVisited v x depth xs old mid → AreVisited v x depth ys mid new → AreVisited v x depth (xs ++ ys) old new
visited_both v x depth xs ys old mid new h k = record {
  lacking = All-append (Lacks v) xs ys h.lacking k.lacking;
  added = subst (λ (l : List Node). AreAdded x depth l old new) (sym (filter-append is_inner xs ys))
      (added_both x depth (filter is_inner xs) (filter is_inner ys) old mid new h.added k.added);
}

-- a node of a block is right below the node above
pub child_of : (x : Node) (b : Block) (xs : List Node) (s : Step) (y : Node) → slice_get (blocks x) s.block ≡ Some b → nodes_of b ≡ xs → slice_get xs s.child ≡ Some y → HasChild x s y
child_of x b xs s y here n a = record { block = b; here = here; there = ap (λ l. slice_get l s.child) n ∙ a }

-- what a call says of the step that it found, and if it found none
pub some_says : {X : Type 0} (P : X → Type 0) (o : Option X) (x : X) → o ≡ Some x → IfSome o P → P x
some_says P o x e h = subst (λ r. IfSome r P) e h

pub none_says : {X : Type 0} {P : Type 0} (o : Option X) → ((x : X) → o ≡ Some x → ⊥) → IfNone o P → P
none_says None n h = h
none_says (Some x) n h = absurd (n x refl)

-- one more node of a block
pub visited_node : (v : ℕ) (x y : Node) (depth : ℕ) (xs : List Node) (i : ℕ) (old cur new : List Visit) → AreVisited v x depth (take i xs) old cur → slice_get xs i ≡ Some y → AreVisited v x depth (y ∷ []) cur new →
    AreVisited v x depth (take (i + 1) xs) old new
visited_node v x y depth xs i old cur new h a k =
    subst (λ (l : List Node). AreVisited v x depth l old new) (sym (taken xs i y a)) (visited_both v x depth (take i xs) (y ∷ []) old cur new h k)

-- one more block
pub visited_block : (v : ℕ) (x : Node) (b : Block) (depth i : ℕ) (old cur new : List Visit) → slice_get (blocks x) i ≡ Some b → AreVisited v x depth (flat_map nodes_of (take i (blocks x))) old cur → AreVisited v x depth (nodes_of b) cur new →
    AreVisited v x depth (flat_map nodes_of (take (i + 1) (blocks x))) old new
visited_block v x b depth i old cur new a h k =
    let more : flat_map nodes_of (take (i + 1) (blocks x)) ≡ flat_map nodes_of (take i (blocks x)) ++ nodes_of b =
    ap (flat_map nodes_of) (taken (blocks x) i b a) ∙ flat_map-append nodes_of (take i (blocks x)) (b ∷ []) ∙ ap (λ l. flat_map nodes_of (take i (blocks x)) ++ l) (append-nil (nodes_of b)) in
    subst (λ (l : List Node). AreVisited v x depth l old new) (sym more) (visited_both v x depth (flat_map nodes_of (take i (blocks x))) (nodes_of b) old cur new h k)

-- ---- what the nodes on the stack have below them
blocks_below : (bs : List Block) (v : ℕ) → all_of (belows (map block_part bs)) v ≡ all_of (belows (map part (flat_map nodes_of bs))) v
blocks_below [] v = refl
blocks_below (b ∷ bs) v =
    ap (λ k. k || all_of (belows (map block_part bs)) v) (block_below b v)
    ∙ ap (λ k. all_of (belows (map part (nodes_of b))) v || k) (blocks_below bs v)
    ∙ sym (below_both (nodes_of b) (flat_map nodes_of bs) v)

-- a vertex that a node does not have itself is below the nodes right below it
lower_below : (x : Node) (v : ℕ) → has (vertices x) v ≡ false → all_of (belows (map part (flat_map nodes_of (blocks x)))) v ≡ (part x).below v
lower_below x v h =
    sym (below_at x v ∙ ap (λ k. k || all_of (belows (map block_part (blocks x))) v) h ∙ blocks_below (blocks x) v)

-- a node without a block below it has nothing below but its own vertices
leaf_below : (x : Node) (v : ℕ) → Lacks v x → is_inner x ≡ false → (part x).below v ≡ false
leaf_below x v n i =
    below_at x v ∙ ap (λ k. k || all_of (belows (map block_part (blocks x))) v) n ∙ ap (λ bs. all_of (belows (map block_part bs)) v) (no_blocks x i)

-- if no node of a list has a vertex itself, those with a block below them have all that is below
inner_below : (xs : List Node) (v : ℕ) → All (Lacks v) xs → all_of (belows (map part (filter is_inner xs))) v ≡ all_of (belows (map part xs)) v
inner_below [] v h = refl
inner_below (x ∷ xs) v h =
    let seen = λ (l : List Node). all_of (belows (map part l)) v in
    let rest = filter is_inner xs in
    let later : seen rest ≡ seen xs = inner_below xs v (All-tail (Lacks v) x xs h) in
    elim (cases_Bool (is_inner x)) [
      | inl e ↦ ap seen (cond-true (is_inner x) (x ∷ rest) rest e) ∙ ap (λ k. (part x).below v || k) later
      | inr e ↦ ap seen (cond-false (is_inner x) (x ∷ rest) rest e) ∙ later ∙ sym (ap (λ k. k || seen xs) (leaf_below x v (All-head (Lacks v) x xs h) e))
    ]

or_last : (a b : Bool) → (a || (b || false)) ≡ (a || b)
or_last true b = refl
or_last false true = refl
or_last false false = refl

still_below : (left before after : List Node) (x : Node) (v : ℕ) → before ≡ left ++ x ∷ [] → after ≡ left ++ filter is_inner (flat_map nodes_of (blocks x)) → All (Lacks v) (flat_map nodes_of (blocks x)) → Lacks v x →
    all_of (belows (map part before)) v ≡ true → all_of (belows (map part after)) v ≡ true
still_below left before after x v b a lower h k =
    let seen = λ (xs : List Node). all_of (belows (map part xs)) v in
    let xs = flat_map nodes_of (blocks x) in
    ap seen a ∙ below_both left (filter is_inner xs) v ∙ ap (λ t. seen left || t) (inner_below xs v lower ∙ lower_below x v h)
    ∙ sym (or_last (seen left) ((part x).below v)) ∙ sym (below_both left (x ∷ []) v) ∙ sym (ap seen b) ∙ k

-- ---- the ways to the nodes on the stack, along the way to the node that was looked at last
pub record IsReached (root : Node) (way : List Step) (w : Visit) : Type 0 where
  pub deep : w.depth ≤ length way
  pub reached : IsWay root (take w.depth way ++ w.step ∷ []) w.node.now

abbrev pub IsNoDeeper : ℕ → Visit → Type 0
IsNoDeeper d w = w.depth ≤ d

-- the deeper a node, the nearer to the top
abbrev pub IsRising : List Visit → Type 0
IsRising [] = ⊤
IsRising (w ∷ ws) = All (λ (z : Visit). w.depth ≤ z.depth) ws × IsRising ws

pub rising_pop : (xs : List Visit) (w : Visit) → IsRising (xs ++ w ∷ []) → All (IsNoDeeper w.depth) xs × IsRising xs
rising_pop [] w h = (All-nil (IsNoDeeper w.depth), tt)
rising_pop (x ∷ xs) w h =
    let P = λ (z : Visit). x.depth ≤ z.depth in
    let r = rising_pop xs w h.1 in
    (All-cons (IsNoDeeper w.depth) x xs (All-head P w [] (All-back P xs (w ∷ []) h.0)) r.0, (All-front P xs (w ∷ []) h.0, r.1))

level : (d : ℕ) (ys : List Visit) → All (λ (z : Visit). z.depth ≡ d) ys → IsRising ys
level d [] h = tt
level d (y ∷ ys) h =
    let E = λ (z : Visit). z.depth ≡ d in
    let here : y.depth ≡ d = All-head E y ys h in
    (All-weaker E (λ (z : Visit). y.depth ≤ z.depth) (λ z e. omega (arith, e, here)) ys (All-tail E y ys h), level d ys (All-tail E y ys h))

rising_more : (d : ℕ) (xs ys : List Visit) → IsRising xs → All (IsNoDeeper d) xs → All (λ (z : Visit). z.depth ≡ d) ys → IsRising (xs ++ ys)
rising_more d [] ys h k e = level d ys e
rising_more d (x ∷ xs) ys h k e =
    let E = λ (z : Visit). z.depth ≡ d in
    let P = λ (z : Visit). x.depth ≤ z.depth in
    let here : x.depth ≤ d = All-head (IsNoDeeper d) x xs k in
    (All-append P xs ys h.0 (All-weaker E P (λ z q. omega (arith, q, here)) ys e), rising_more d xs ys h.1 (All-tail (IsNoDeeper d) x xs k) e)

-- the way to a node is the same along another way that starts alike
reached_again : (root : Node) (way next : List Step) (d : ℕ) (s : Step) (w : Visit) → next ≡ take d way ++ s ∷ [] → d ≤ length way → IsReached root way w → w.depth ≤ d → IsReached root next w
reached_again root way next d s w e n h k =
    let size : length (take d way) ≡ d = length-take-le d way n in
    let same : take w.depth next ≡ take w.depth way = ap (take w.depth) e ∙ take-append-le w.depth (take d way) (s ∷ []) (omega (arith, size, k)) ∙ take-take w.depth d way k in
    record {
      deep = omega (arith, ap length e, length-append (take d way) (s ∷ []), size, k);
      reached = subst (λ (l : List Step). IsWay root (l ++ w.step ∷ []) w.node.now) (sym same) h.reached;
    }

-- a node right below the end of the way
reached_below : (root x : Node) (way : List Step) (w : Visit) → IsWay root way x → IsBelow x (length way) w → IsReached root way w
reached_below root x way w h k =
    let same : take w.depth way ≡ way = take_all w.depth way (omega (arith, k.deep)) in
    record {
      deep = omega (arith, k.deep);
      reached = subst (λ (l : List Step). IsWay root (l ++ w.step ∷ []) w.node.now) (sym same) (way_end root way w.step x w.node.now h k.child);
    }

-- what the loop of a search for a vertex keeps: each node on the stack was looked at itself
pub record IsSearched (root : Node) (v : ℕ) (way : List Step) (stack : List Visit) : Type 0 where
  pub reached : All (IsReached root way) stack
  pub rising : IsRising stack
  pub lacking : All (Lacks v) (visited stack)
  pub below : all_of (belows (map part (visited stack))) v ≡ true

added_is : (x : Node) (d : ℕ) (old new : List Visit) (xs : List Node) (h : AreAdded x d xs old new) → visited new ≡ visited old ++ xs
added_is x d old new xs h = ap visited h.whole ∙ map-append (λ (w : Visit). w.node.now) old h.added ∙ ap (λ l. visited old ++ l) h.nodes

pub search_starts : (root : Node) (v : ℕ) (old new : List Visit) → old ≡ [] → AreVisited v root 0 (flat_map nodes_of (blocks root)) old new → Lacks v root → (part root).below v ≡ true → IsSearched root v [] new
search_starts root v old new o a n k =
    let B = IsBelow root 0 in
    let xs = flat_map nodes_of (blocks root) in
    let h = a.added in
    let all : new ≡ h.added = h.whole ∙ ap (λ l. l ++ h.added) o in
    let nodes : visited new ≡ filter is_inner xs = ap visited all ∙ h.nodes in
    record {
      reached = subst (All (IsReached root [])) (sym all) (All-weaker B (IsReached root []) (λ w b. reached_below root root [] w refl b) h.added h.below);
      rising = subst IsRising (sym all) (level 0 h.added (All-weaker B (λ (w : Visit). w.depth ≡ 0) (λ w b. b.deep) h.added h.below));
      lacking = subst (All (Lacks v)) (sym nodes) (All-filter is_inner (Lacks v) xs a.lacking);
      below = ap (λ l. all_of (belows (map part l)) v) nodes ∙ inner_below xs v a.lacking ∙ lower_below root v n ∙ k;
    }

-- the node on the top of the stack, and the way to it
top_reached : (root : Node) (v : ℕ) (way : List Step) (left before : List Visit) (w : Visit) → IsSearched root v way before → before ≡ left ++ w ∷ [] → IsReached root way w
top_reached root v way left before w h b = All-head (IsReached root way) w [] (All-back (IsReached root way) left (w ∷ []) (subst (All (IsReached root way)) b h.reached))

top_way : (root : Node) (v : ℕ) (way cut next : List Step) (left before : List Visit) (w : Visit) → IsSearched root v way before → before ≡ left ++ w ∷ [] → cut ≡ take w.depth way → next ≡ cut ++ w.step ∷ [] → IsWay root next w.node.now
top_way root v way cut next left before w h b c e = subst (λ (l : List Step). IsWay root l w.node.now) (sym (e ∙ ap (λ l. l ++ w.step ∷ []) c)) (top_reached root v way left before w h b).reached

-- a step from the end of a way to a node that has the vertex
step_ends : (root x : Node) (v : ℕ) (way whole : List Step) (s : Step) → IsWay root way x → whole ≡ way ++ s ∷ [] → IsStepTo v x s → LeadsTo v root whole
step_ends root x v way whole s h e k = (k.0, subst (λ (l : List Step). IsWay root l k.0) (sym e) (way_end root way s x k.0 h k.1), k.2)

pub found_at_once : (root : Node) (v : ℕ) (way whole : List Step) (s : Step) → way ≡ [] → whole ≡ way ++ s ∷ [] → IsStepTo v root s → LeadsTo v root whole
found_at_once root v way whole s n e k = step_ends root root v [] whole s refl (e ∙ ap (λ l. l ++ s ∷ []) n) k

pub found_below : (root : Node) (v : ℕ) (way cut next whole : List Step) (left before : List Visit) (w : Visit) (s : Step) → IsSearched root v way before → before ≡ left ++ w ∷ [] → cut ≡ take w.depth way → next ≡ cut ++ w.step ∷ [] →
    whole ≡ next ++ s ∷ [] → IsStepTo v w.node.now s → LeadsTo v root whole
found_below root v way cut next whole left before w s h b c e f k = step_ends root w.node.now v next whole s (top_way root v way cut next left before w h b c e) f k

nodes_before : (left before : List Visit) (w : Visit) → before ≡ left ++ w ∷ [] → visited before ≡ visited left ++ w.node.now ∷ []
nodes_before left before w b = ap visited b ∙ map-append (λ (z : Visit). z.node.now) left (w ∷ [])

pub search_goes_on : (root : Node) (v : ℕ) (way cut next : List Step) (left before after : List Visit) (w : Visit) (d : ℕ) → IsSearched root v way before → before ≡ left ++ w ∷ [] → cut ≡ take w.depth way → next ≡ cut ++ w.step ∷ [] →
    d ≡ length next → AreVisited v w.node.now d (flat_map nodes_of (blocks w.node.now)) left after → IsSearched root v next after
search_goes_on root v way cut next left before after w d h b c e l k =
    let y = w.node.now in
    let B = IsBelow y d in
    let a = k.added in
    let xs = flat_map nodes_of (blocks y) in
    let old = subst (All (IsReached root way)) b h.reached in
    let top : IsReached root way w = top_reached root v way left before w h b in
    let there : IsWay root next y = top_way root v way cut next left before w h b c e in
    let is : next ≡ take w.depth way ++ w.step ∷ [] = e ∙ ap (λ l. l ++ w.step ∷ []) c in
    let size : length next ≡ w.depth + 1 = omega (arith, ap length is, length-append (take w.depth way) (w.step ∷ []), length-take-le w.depth way top.deep) in
    let popped = rising_pop left w (subst IsRising b h.rising) in
    let nodes = nodes_before left before w b in
    let more : visited after ≡ visited left ++ filter is_inner xs = added_is y d left after (filter is_inner xs) a in
    let lacked : All (Lacks v) (visited left ++ y ∷ []) = subst (All (Lacks v)) nodes h.lacking in
    let lacks : Lacks v y = All-head (Lacks v) y [] (All-back (Lacks v) (visited left) (y ∷ []) lacked) in
    record {
      reached = subst (All (IsReached root next)) (sym a.whole)
          (All-append (IsReached root next) left a.added
          (both left (All-front (IsReached root way) left (w ∷ []) old) popped.0 (λ z r k. reached_again root way next w.depth w.step z is top.deep r k))
          (All-weaker B (IsReached root next) (λ z k. reached_below root y next z there (subst (λ m. IsBelow y m z) l k)) a.added a.below));
      rising = subst IsRising (sym a.whole) (rising_more d left a.added popped.1
          (All-weaker (IsNoDeeper w.depth) (IsNoDeeper d) (λ z k. omega (arith, k, size, l)) left popped.0)
          (All-weaker B (λ (z : Visit). z.depth ≡ d) (λ z k. k.deep) a.added a.below));
      lacking = subst (All (Lacks v)) (sym more) (All-append (Lacks v) (visited left) (filter is_inner xs) (All-front (Lacks v) (visited left) (y ∷ []) lacked) (All-filter is_inner (Lacks v) xs k.lacking));
      below = still_below (visited left) (visited before) (visited after) y v nodes more k.lacking lacks h.below;
    } where
      both : {P Q R : Visit → Type 0} (xs : List Visit) → All P xs → All Q xs → ((z : Visit) → P z → Q z → R z) → All R xs
      both xs p q f = λ k d i. f _ (p k d i) (q k d i)

-- fewer nodes are still to be looked at
pub fewer_visits : (v : ℕ) (left before after : List Visit) (w : Visit) (d : ℕ) → before ≡ left ++ w ∷ [] → AreVisited v w.node.now d (flat_map nodes_of (blocks w.node.now)) left after → nodes_to_come (visited after) < nodes_to_come (visited before)
fewer_visits v left before after w d b a =
    let y = w.node.now in
    fewer_inner (visited left) (visited before) (visited after) y (nodes_before left before w b) (added_is y d left after (filter is_inner (flat_map nodes_of (blocks y))) a.added)

-- ---- steps that two ways share
pub same_from_test : (s t : Step) → same_step s t ≡ true → s ≡ t
same_from_test s t h =
    let both = and_parts (s.block == t.block) (s.child == t.child) h in
    let e : s.block ≡ t.block = eqb-true s.block t.block both.0 in
    let f : s.child ≡ t.child = eqb-true s.child t.child both.1 in
    λ i. record { block = e i; child = f i }

pub apart_from_test : (s t : Step) → same_step s t ≡ false → s ≢ t
apart_from_test s t h e =
    false≢true (sym h ∙ and_from (s.block == t.block) (s.child == t.child) (eq-eqb s.block t.block (ap (λ (u : Step). u.block) e)) (eq-eqb s.child t.child (ap (λ (u : Step). u.child) e)))

pub shared_more : (first second : List Step) (i n : ℕ) (d : Step) (r : Bool) → n ≡ min (length first) (length second) → i < n → take i first ≡ take i second → r ≡ same_step (get_or first i d) (get_or second i d) → r ≡ true →
    take (i + 1) first ≡ take (i + 1) second
shared_more first second i n d r m l e s h =
    take_more_same first second i d (omega (arith, m, l)) (omega (arith, m, l)) e (same_from_test (get_or first i d) (get_or second i d) (sym s ∙ h))

pub shared_apart : (first second : List Step) (i : ℕ) (d : Step) (r : Bool) → r ≡ same_step (get_or first i d) (get_or second i d) → r ≡ false → (s t : Step) → slice_get first i ≡ Some s → slice_get second i ≡ Some t → s ≢ t
shared_apart first second i d r e h s t a b k =
    apart_from_test (get_or first i d) (get_or second i d) (sym e ∙ h) (get_or_from_slice_get first i s d a ∙ k ∙ sym (get_or_from_slice_get second i t d b))

pub shared_all : (first second : List Step) (i n : ℕ) → n ≤ i → i ≤ n → take i first ≡ take i second → take n first ≡ take n second
shared_all first second i n l h e = let same : i ≡ n = omega (arith, l, h) in subst (λ k. take k first ≡ take k second) same e

pub one_ends : (first second : List Step) (n : ℕ) → n ≡ min (length first) (length second) → (s t : Step) → slice_get first n ≡ Some s → slice_get second n ≡ Some t → s ≢ t
one_ends first second n m s t a b k = omega (arith, m, slice_get_within first n s a, slice_get_within second n t b)
