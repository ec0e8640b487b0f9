-- Whether all in a tree is in order, by the nodes that have blocks below them, one after another.
use Rattle.std.proofs.Common.{◌≡◌, ℕ, zero, suc, ◌+◌, ◌-◌, ◌≤◌, ◌<◌, inl, inr, Bool, true, false, ◌&&◌, ◌||◌, ◌==◌, Option, Some, List, [], ◌∷◌, ◌++◌, length, map, take, drop, ap, ◌∙◌, sym, subst, refl, arith}
use Rattle.std.specs.Prelude.{nat_le, nat_lt, cond, slice_get}
use Rattle.std.specs.List.{filter, flat_map, list_all}
use Rattle.std.specs.declared.boxed.Box.{Box}
use Rattle.std.specs.declared.alloc.Global.{Global}
use Rattle.std.proofs.Math.Bool.{and_assoc, and_comm, and-false, and-true}
use Rattle.std.proofs.lemmas.Bool.{and_parts, and_from, ltb-true, lt-ltb, cases_eq, eq-eqb, ne_eqb}
use Rattle.std.proofs.lemmas.List.{append-nil, append_assoc, map-append, map_push}
use Rattle.std.proofs.lemmas.List.Folds.{list_all-append, list_all-map}
use Rattle.std.proofs.lemmas.List.Elements.{filter-append}
use Rattle.std.proofs.lemmas.Option.{get_or_from_slice_get}
use Rattle.cut_definitions.specs.Cuts.{least}
use Rattle.cut_definitions.proofs.Bools.{same_tests, four_and}
use Rattle.cut_definitions.proofs.ListLaws.{taken}
use Rattle.rooted_cactus.specs.declared.tree.Node.{Node}
use Rattle.rooted_cactus.specs.declared.tree.Block.{Block}
use Rattle.rooted_cactus.specs.declared.tree.Children.{Children}
use Rattle.rooted_cactus.specs.declared.tree.Block.TheVariants.{Bridge, Cycle, outs-Bridge, outs-Cycle}
use Rattle.rooted_cactus.specs.Entries.{nodes_of}
use Rattle.rooted_cactus.specs.Numbers.{is_inner}
use Rattle.rooted_cactus.specs.Trees.{vertices, blocks, nodes_in}
use Rattle.rooted_cactus.proofs.Drops.{drop_at}
use Rattle.rooted_cactus.proofs.Entries.{nodes_bridge, nodes_cycle}
use Rattle.rooted_cactus.proofs.Tallies.{no_blocks}
use Rattle.rooted_cactus.proofs.Views.{view}
use Rattle.canonical_cactus.specs.Canonical.{Arranged, all_vertices, arranged, arranged_block, ascend, leasts, rises}
use Rattle.canonical_cactus.specs.Inner.{AreInner, IsWalk, inner_below, is_turned, least_of, leasts_of, stands, turned_step}
use Rattle.canonical_cactus.specs.Standing.{least_in, lesser_of}
use Rattle.canonical_cactus.proofs.Arrangement.{arranged_out, arranged_bridge, arranged_cycle}
use Rattle.canonical_cactus.proofs.Ascending.{first_or_zero, last_or_zero, least_both}

-- ---- a walk
pub walk_push : (before nodes left : List Node) (x : Node) → IsWalk before nodes (left ++ x ∷ []) → IsWalk before (nodes ++ x ∷ []) (left ++ inner_below x)
walk_push before [] left x w = (left, w, refl)
walk_push before (y ∷ ys) left x w = (w.0, w.1, walk_push (w.0 ++ inner_below y) ys left x w.2)

-- what was there before the last node was taken
pub record Behind (before nodes : List Node) (x : Node) (after : List Node) : Type 0 where
  pub rest : List Node
  pub walk : IsWalk before nodes (rest ++ x ∷ [])
  pub now : after ≡ rest ++ inner_below x

pub walk_pop : (before nodes : List Node) (x : Node) (after : List Node) → IsWalk before (nodes ++ x ∷ []) after → Behind before nodes x after
walk_pop before [] x after w = record { rest = w.0; walk = w.1; now = sym w.2 }
walk_pop before (y ∷ ys) x after w =
    let b = walk_pop (w.0 ++ inner_below y) ys x after w.2 in
    record { rest = b.rest; walk = (w.0, w.1, b.walk); now = b.now }

-- ---- a node, and those right below it
abbrev pub in_order : Node → Bool
in_order x = (arranged x).in_order

pub turned_bridge : (child : Box Node Global) → is_turned (Bridge child) ≡ true
turned_bridge child = ap turned_step (outs-Bridge child)

pub turned_cycle : (nodes : Children) → is_turned (Cycle nodes) ≡ (nat_le 3 (length (nodes_in nodes)) && rises (leasts (map arranged (nodes_in nodes))))
turned_cycle nodes = ap turned_step (outs-Cycle nodes)

block_in_order : (b : Block) → (arranged_block b).in_order ≡ (is_turned b && list_all in_order (nodes_of b))
block_in_order b = elim (view b) [
  | inl h ↦ ap (λ c. (arranged_block c).in_order) h.1 ∙ ap (λ (a : Arranged). a.in_order) (arranged_bridge h.0) ∙ sym (and-true (in_order h.0.value))
      ∙ sym (ap (λ c. is_turned c && list_all in_order (nodes_of c)) h.1 ∙ ap (λ k. k && list_all in_order (nodes_of (Bridge h.0))) (turned_bridge h.0) ∙ ap (list_all in_order) (nodes_bridge h.0))
  | inr h ↦ (
      let xs = nodes_in h.0 in
      let wide = nat_le 3 (length xs) in
      let turned = rises (leasts (map arranged xs)) in
      ap (λ c. (arranged_block c).in_order) h.1 ∙ ap (λ (a : Arranged). a.in_order) (arranged_cycle h.0)
      ∙ ap (λ k. nat_le 3 k && (turned && list_all (λ (a : Arranged). a.in_order) (map arranged xs))) (length_arranged xs)
      ∙ ap (λ k. wide && (turned && k)) (list_all-map (λ (a : Arranged). a.in_order) arranged xs)
      ∙ sym (and_assoc wide turned (list_all in_order xs))
      ∙ sym (ap (λ c. is_turned c && list_all in_order (nodes_of c)) h.1 ∙ ap (λ k. k && list_all in_order (nodes_of (Cycle h.0))) (turned_cycle h.0) ∙ ap (λ l. (wide && turned) && list_all in_order l) (nodes_cycle h.0)))
]
  where
    length_arranged : (xs : List Node) → length (map arranged xs) ≡ length xs
    length_arranged [] = refl
    length_arranged (x ∷ xs) = ap suc (length_arranged xs)

blocks_in_order : (bs : List Block) → list_all (λ (a : Arranged). a.in_order) (map arranged_block bs) ≡ (list_all is_turned bs && list_all in_order (flat_map nodes_of bs))
blocks_in_order [] = refl
blocks_in_order (b ∷ bs) =
    ap (λ k. k && list_all (λ (a : Arranged). a.in_order) (map arranged_block bs)) (block_in_order b)
    ∙ ap (λ k. (is_turned b && list_all in_order (nodes_of b)) && k) (blocks_in_order bs)
    ∙ four_and (is_turned b) (list_all in_order (nodes_of b)) (list_all is_turned bs) (list_all in_order (flat_map nodes_of bs))
    ∙ ap (λ k. (is_turned b && list_all is_turned bs) && k) (sym (list_all-append in_order (nodes_of b) (flat_map nodes_of bs)))

-- a node that has no block below it is in order
leaf_arranged : (x : Node) → is_inner x ≡ false → arranged x ≡ record { vertices = vertices x; in_order = true }
leaf_arranged x h =
    arranged_out x
    ∙ ap (λ bs. (let a : Arranged = record { vertices = vertices x ++ all_vertices (map arranged_block bs); in_order = ascend (leasts (map arranged_block bs)) && list_all (λ (a : Arranged). a.in_order) (map arranged_block bs) } in a)) (no_blocks x h)
    ∙ ap (λ l. (let a : Arranged = record { vertices = l; in_order = true } in a)) (append-nil (vertices x))

pub leaf_least : (x : Node) → is_inner x ≡ false → least_of x ≡ least_in (vertices x)
leaf_least x h = ap (λ (a : Arranged). least_in a.vertices) (leaf_arranged x h)

inner_in_order : (xs : List Node) → list_all in_order (filter is_inner xs) ≡ list_all in_order xs
inner_in_order [] = refl
inner_in_order (x ∷ xs) = first (inner_in_order xs) (is_inner x) refl where
  first : list_all in_order (filter is_inner xs) ≡ list_all in_order xs → (t : Bool) → is_inner x ≡ t → list_all in_order (cond t (x ∷ filter is_inner xs) (filter is_inner xs)) ≡ (in_order x && list_all in_order xs)
  first rest true h = ap (λ k. in_order x && k) rest
  first rest false h = rest ∙ sym (ap (λ (a : Arranged). a.in_order && list_all in_order xs) (leaf_arranged x h))

node_in_order : (x : Node) → in_order x ≡ (stands x && list_all in_order (inner_below x))
node_in_order x =
    let rising = ascend (leasts (map arranged_block (blocks x))) in
    let below = flat_map nodes_of (blocks x) in
    ap (λ (a : Arranged). a.in_order) (arranged_out x) ∙ ap (λ k. rising && k) (blocks_in_order (blocks x)) ∙ sym (and_assoc rising (list_all is_turned (blocks x)) (list_all in_order below))
    ∙ ap (λ k. stands x && k) (sym (inner_in_order below))

-- ---- the nodes are listed
pub record Entering (root : Node) (nodes stack : List Node) : Type 0 where
  pub walk : IsWalk (root ∷ []) nodes stack
  pub stand : (list_all stands nodes && list_all in_order stack) ≡ in_order root

pub begun : (root : Node) (nodes stack : List Node) → nodes ≡ [] → stack ≡ root ∷ [] → Entering root nodes stack
begun root nodes stack n s =
    let start : Entering root [] (root ∷ []) = record { walk = refl; stand = and-true (in_order root) } in
    subst (λ l. Entering root l stack) (sym n) (subst (Entering root []) (sym s) start)

take_one : (a s l b : Bool) → ((a && (s && true)) && (l && b)) ≡ (a && (l && ((s && b) && true)))
take_one false s l b = refl
take_one true true true b = sym (and-true b)
take_one true true false b = refl
take_one true false true b = refl
take_one true false false b = refl

pub entered : (root x : Node) (nodes more left before after : List Node) → Entering root nodes before → before ≡ left ++ x ∷ [] → more ≡ nodes ++ x ∷ [] → after ≡ left ++ inner_below x → Entering root more after
entered root x nodes more left before after e b m a =
    let io = list_all in_order in
    let whole : Entering root (nodes ++ x ∷ []) (left ++ inner_below x) = record {
      walk = walk_push (root ∷ []) nodes left x (subst (IsWalk (root ∷ []) nodes) b e.walk);
      stand = ap (λ k. k && io (left ++ inner_below x)) (list_all-append stands nodes (x ∷ []))
          ∙ ap (λ k. (list_all stands nodes && (stands x && true)) && k) (list_all-append in_order left (inner_below x))
          ∙ take_one (list_all stands nodes) (stands x) (io left) (io (inner_below x))
          ∙ ap (λ k. list_all stands nodes && (io left && (k && true))) (sym (node_in_order x))
          ∙ ap (λ k. list_all stands nodes && k) (sym (list_all-append in_order left (x ∷ [])))
          ∙ ap (λ l. list_all stands nodes && io l) (sym b)
          ∙ e.stand;
    } in
    subst (λ l. Entering root l after) (sym m) (subst (Entering root (nodes ++ x ∷ [])) (sym a) whole)

pub listed : (root : Node) (nodes stack : List Node) → Entering root nodes stack → stack ≡ [] → AreInner root nodes
listed root nodes stack e s =
    let done : Entering root nodes [] = subst (Entering root nodes) s e in
    record { walk = done.walk; stand = sym (and-true (list_all stands nodes)) ∙ done.stand }

-- ---- least vertices are drawn from the end
up_to : {X : Type 0} (xs : List X) (i : ℕ) (x : X) → 0 < i → slice_get xs (i - 1) ≡ Some x → take i xs ≡ take (i - 1) xs ++ x ∷ []
up_to xs i x some a =
    let next : i ≡ i - 1 + 1 = omega arith in
    ap (λ k. take k xs) next ∙ taken xs (i - 1) x a

-- of a list of nodes, the last one not yet drawn
pub drawn_node : (xs : List Node) (i : ℕ) (x : Node) (rest known : List (Option ℕ)) → 0 < i → slice_get xs (i - 1) ≡ Some x → known ≡ rest ++ leasts_of (filter is_inner (take i xs)) →
    known ≡ (rest ++ leasts_of (filter is_inner (take (i - 1) xs))) ++ leasts_of (filter is_inner (x ∷ []))
drawn_node xs i x rest known some a k =
    let front = take (i - 1) xs in
    k ∙ ap (λ l. rest ++ leasts_of (filter is_inner l)) (up_to xs i x some a)
    ∙ ap (λ l. rest ++ leasts_of l) (filter-append is_inner front (x ∷ []))
    ∙ ap (λ l. rest ++ l) (map-append least_of (filter is_inner front) (filter is_inner (x ∷ [])))
    ∙ sym (append_assoc rest (leasts_of (filter is_inner front)) (leasts_of (filter is_inner (x ∷ []))))

pub drawn_block : (bs : List Block) (i : ℕ) (b : Block) (rest known : List (Option ℕ)) → 0 < i → slice_get bs (i - 1) ≡ Some b → known ≡ rest ++ leasts_of (filter is_inner (flat_map nodes_of (take i bs))) →
    known ≡ (rest ++ leasts_of (filter is_inner (flat_map nodes_of (take (i - 1) bs)))) ++ leasts_of (filter is_inner (nodes_of b))
drawn_block bs i b rest known some a k =
    let front = flat_map nodes_of (take (i - 1) bs) in
    k ∙ ap (λ l. rest ++ leasts_of (filter is_inner (flat_map nodes_of l))) (up_to bs i b some a)
    ∙ ap (λ l. rest ++ leasts_of (filter is_inner l)) (flat_one (take (i - 1) bs) b)
    ∙ ap (λ l. rest ++ leasts_of l) (filter-append is_inner front (nodes_of b))
    ∙ ap (λ l. rest ++ l) (map-append least_of (filter is_inner front) (filter is_inner (nodes_of b)))
    ∙ sym (append_assoc rest (leasts_of (filter is_inner front)) (leasts_of (filter is_inner (nodes_of b))))
  where
    flat_one : (bs : List Block) (b : Block) → flat_map nodes_of (bs ++ b ∷ []) ≡ flat_map nodes_of bs ++ nodes_of b
    flat_one [] b = append-nil (nodes_of b)
    flat_one (c ∷ cs) b = ap (λ l. nodes_of c ++ l) (flat_one cs b) ∙ sym (append_assoc (nodes_of c) (flat_map nodes_of cs) (nodes_of b))

-- ---- one more part at the front of a row
pub from_place : {X : Type 0} (f : X → Arranged) (xs : List X) (i : ℕ) (x : X) → 0 < i → i ≤ length xs → slice_get xs (i - 1) ≡ Some x → map f (drop (i - 1) xs) ≡ f x ∷ map f (drop i xs)
from_place f xs i x some within a = ap (map f) (drop_at xs i x some within (sym (get_or_from_slice_get xs (i - 1) x x a)))

pub each_front : (bs : List Block) (i : ℕ) (b : Block) → 0 < i → i ≤ length bs → slice_get bs (i - 1) ≡ Some b → list_all is_turned (drop (i - 1) bs) ≡ (list_all is_turned (drop i bs) && is_turned b)
each_front bs i b some within a =
    ap (list_all is_turned) (drop_at bs i b some within (sym (get_or_from_slice_get bs (i - 1) b b a)))
    ∙ and_comm (is_turned b) (list_all is_turned (drop i bs))

pub least_front : (a : Arranged) (xs : List Arranged) → least_in (all_vertices (a ∷ xs)) ≡ lesser_of (least_in a.vertices) (least_in (all_vertices xs))
least_front a xs = least_both a.vertices (all_vertices xs)

all_above : (u x : ℕ) (xs : List ℕ) → u < x → list_all (nat_lt x) xs ≡ true → list_all (nat_lt u) xs ≡ true
all_above u x [] l h = refl
all_above u x (y ∷ ys) l h =
    let both = and_parts (nat_lt x y) (list_all (nat_lt x) ys) h in
    and_from (nat_lt u y) (list_all (nat_lt u) ys) (lt-ltb u y (omega (arith, l, ltb-true x y both.0))) (all_above u x ys l both.1)

-- one more number at the front; i is 0 exactly if the list is empty
pub ascend_front : (y : ℕ) (xs : List ℕ) (i : ℕ) → (i ≡ 0 → xs ≡ []) → (0 < i → 0 < length xs) → ascend (y ∷ xs) ≡ (ascend xs && ((i == 0) || nat_lt y (first_or_zero xs)))
ascend_front y [] i none some = elim (cases_eq i 0) [
  | inl e ↦ sym (ap (λ b. b || nat_lt y 0) (eq-eqb i 0 e))
  | inr ne ↦ absurd (omega (arith, ne, some))
]
ascend_front y (x ∷ xs) i none some = elim (cases_eq i 0) [
  | inl e ↦ absurd (cons_none x xs (none e))
  | inr ne ↦ ascend_first ∙ sym (ap (λ b. ascend (x ∷ xs) && (b || nat_lt y x)) (ne_eqb i 0 ne))
]
  where
    cons_none : (x : ℕ) (xs : List ℕ) → (x ∷ xs) ≡ [] → ⊥
    cons_none x xs e = cc

    ascend_first : ascend (y ∷ (x ∷ xs)) ≡ (ascend (x ∷ xs) && nat_lt y x)
    ascend_first =
        same_tests (ascend (y ∷ (x ∷ xs))) (ascend (x ∷ xs) && nat_lt y x)
        (λ h.
        let both = and_parts (list_all (nat_lt y) (x ∷ xs)) (ascend (x ∷ xs)) h in
        and_from (ascend (x ∷ xs)) (nat_lt y x) both.1 (and_parts (nat_lt y x) (list_all (nat_lt y) xs) both.0).0)
        (λ h.
        let both = and_parts (ascend (x ∷ xs)) (nat_lt y x) h in
        let above = (and_parts (list_all (nat_lt x) xs) (ascend xs) both.0).0 in
        and_from (list_all (nat_lt y) (x ∷ xs)) (ascend (x ∷ xs)) (and_from (nat_lt y x) (list_all (nat_lt y) xs) both.1 (all_above y x xs (ltb-true y x both.1) above)) both.0)

pub last_front : (y : ℕ) (xs : List ℕ) → 0 < length xs → last_or_zero (y ∷ xs) ≡ last_or_zero xs
last_front y [] h = absurd (omega (arith, h))
last_front y (x ∷ xs) h = refl

-- from the end of a list on there are no parts
pub none_behind : {X : Type 0} (f : X → Arranged) (xs : List X) (i : ℕ) → length xs ≤ i → leasts (map f (drop i xs)) ≡ []
none_behind f [] zero h = refl
none_behind f [] (suc i) h = refl
none_behind f (x ∷ xs) zero h = absurd (omega (arith, h))
none_behind f (x ∷ xs) (suc i) h = none_behind f xs i (omega (arith, h))

pub some_behind : {X : Type 0} (f : X → Arranged) (xs : List X) (i : ℕ) → i < length xs → 0 < length (leasts (map f (drop i xs)))
some_behind f [] i h = absurd (omega (arith, h))
some_behind f (x ∷ xs) zero h = omega arith
some_behind f (x ∷ xs) (suc i) h = some_behind f xs i (omega (arith, h))

-- ---- the nodes are gone through from the last to the first
pub record Rising (all left : List Node) (known : List (Option ℕ)) : Type 0 where
  pub root : Node
  pub stack : List Node
  pub walk : IsWalk (root ∷ []) left stack
  pub least : known ≡ leasts_of stack
  pub stand : list_all stands all ≡ list_all stands left

pub rising_begun : (all : List Node) (known : List (Option ℕ)) → ((root : Node) × IsWalk (root ∷ []) all []) → known ≡ [] → Rising all all known
rising_begun all known w k = record { root = w.0; stack = []; walk = w.1; least = k; stand = refl }

-- what is known when it is the turn of a node
pub record Turn (all left : List Node) (known : List (Option ℕ)) (x : Node) : Type 0 where
  pub root : Node
  pub rest : List Node
  pub walk : IsWalk (root ∷ []) left (rest ++ x ∷ [])
  pub least : known ≡ leasts_of rest ++ leasts_of (inner_below x)
  pub stand : list_all stands all ≡ (list_all stands left && (stands x && true))

pub rising_turn : (all more left : List Node) (known : List (Option ℕ)) (x : Node) → Rising all more known → more ≡ left ++ x ∷ [] → Turn all left known x
rising_turn all more left known x r m =
    let b = walk_pop (r.root ∷ []) left x r.stack (subst (λ l. IsWalk (r.root ∷ []) l r.stack) m r.walk) in
    record {
      root = r.root;
      rest = b.rest;
      walk = b.walk;
      least = r.least ∙ ap leasts_of b.now ∙ map-append least_of b.rest (inner_below x);
      stand = r.stand ∙ ap (list_all stands) m ∙ list_all-append stands left (x ∷ []);
    }

pub rising_on : (all left : List Node) (known drawn after : List (Option ℕ)) (least : Option ℕ) (x : Node) (t : Turn all left known x) → drawn ≡ leasts_of t.rest → least ≡ least_of x → stands x ≡ true → after ≡ drawn ++ least ∷ [] → Rising all left after
rising_on all left known drawn after least x t d l s a = record {
  root = t.root;
  stack = t.rest ++ x ∷ [];
  walk = t.walk;
  least = a ∙ ap (λ k. k ++ least ∷ []) d ∙ ap (λ o. leasts_of t.rest ++ o ∷ []) l ∙ sym (map_push least_of t.rest x);
  stand = t.stand ∙ ap (λ k. list_all stands left && (k && true)) s ∙ and-true (list_all stands left);
}

pub falls : (all left : List Node) (known : List (Option ℕ)) (x : Node) → Turn all left known x → stands x ≡ false → false ≡ list_all stands all
falls all left known x t s = sym (t.stand ∙ ap (λ k. list_all stands left && (k && true)) s ∙ and-false (list_all stands left))
