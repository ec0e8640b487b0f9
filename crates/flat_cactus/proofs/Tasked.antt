-- Tasks on a stack, and the flat cactus that there will be once they are done.
use Rattle.std.proofs.Common.{◌≡◌, ℕ, zero, suc, ◌+◌, ◌-◌, ◌≤◌, ◌<◌, List, [], ◌∷◌, ◌++◌, length, get_or, drop, map, ap, ◌∙◌, sym, refl, subst, arith, length-append}
use Rattle.std.specs.List.{flat_map}
use Rattle.std.proofs.lemmas.List.{append_assoc, map-append}
use Rattle.std.proofs.lemmas.List.Concat.{flat_map-append}
use Rattle.std.proofs.lemmas.List.Folds.{flat_map-map}
use Rattle.std.specs.declared.boxed.Box.{Box}
use Rattle.std.specs.declared.alloc.Global.{Global}
use Rattle.cut_definitions.proofs.ListLaws.{drop_front}
use Rattle.rooted_cactus.specs.Trees.{vertices, blocks, nodes_in}
use Rattle.rooted_cactus.specs.declared.tree.Node.{Node}
use Rattle.rooted_cactus.specs.declared.tree.Block.{Block, out-Block}
use Rattle.rooted_cactus.specs.declared.tree.Blocks.{Blocks}
use Rattle.rooted_cactus.specs.declared.tree.Children.{Children}
use Rattle.rooted_cactus.specs.declared.tree.Block.TheVariants.{Bridge, Cycle, rolls-Bridge, rolls-Cycle}
use Rattle.rooted_cactus.specs.declared.tree.Block.TheViews.{roll-Block, roll-out-Block}
use Rattle.rooted_cactus.specs.declared.tree.Block.TheOpen as Open
use Rattle.rooted_cactus.specs.declared.tree.Block.TheOpen.{Block-F}
use Rattle.flat_cactus.specs.declared.flattening.Task.{Task}
use Rattle.rooted_cactus.specs.Entered.{entered, entered_block}
use Rattle.rooted_cactus.specs.Outlines.{sizes, block_sizes}
use Rattle.flat_cactus.specs.Flat.{Flat}
use Rattle.flat_cactus.specs.Flattened.{Joins, TreeJoins, beside, tree_joins, block_joins, BlockJoins, trees_size, roots_from, trees_from, blocks_size, blocks_from}
use Rattle.flat_cactus.specs.Tasks.{Pending, node, block, pending, pendings, pending_sizes, with_node, with_bridge, with_cycle, block_gained, block_next, gained, next_of}
use Rattle.rooted_cactus.proofs.Drops.{drop_at}
use Rattle.rooted_cactus.proofs.Orders.{entered_out, entered_bridge, entered_cycle}
use Rattle.flat_cactus.proofs.JoinsOut.{joins_out, joins_bridge, joins_cycle}
use Rattle.rooted_cactus.proofs.Outlined.{outline_fits}
use Rattle.flat_cactus.proofs.TreePieces.{tree_holds}
use Rattle.rooted_cactus.proofs.Weights.{node_weight, block_weight, node_weight_out, block_weight_bridge, block_weight_cycle, blocks_weight, nodes_weight}
use Rattle.rooted_cactus.proofs.SizesOut.{sizes_out, sizes_bridge, sizes_cycle}

pub pendings_push : (ts : List Task) (t : Task) → pendings (ts ++ t ∷ []) ≡ pending t ∷ pendings ts
pendings_push [] t = refl
pendings_push (s ∷ ts) t = ap (λ l. l ++ pending s ∷ []) (pendings_push ts t)

pub stacked_map : {X Y : Type 0} (f : X → Y) (xs : List X) (i : ℕ) (x : X) (before after rest : List Y) → 0 < i → i ≤ length xs → x ≡ get_or xs (i - 1) x → before ≡ map f (drop i xs) ++ rest → after ≡ f x ∷ before → after ≡ map f (drop (i - 1) xs) ++ rest
stacked_map f xs i x before after rest some within is b a =
    a ∙ ap (λ l. f x ∷ l) b ∙ ap (λ l. map f l ++ rest) (sym (drop_at xs i x some within is))

-- ---- the sizes of the subtrees
abbrev Numbers : Type 0
Numbers = List ℕ

-- a tree has as many sizes as nodes
pub sizes_many : (x : Node) → length (sizes x) ≡ (tree_joins x).size
sizes_many x = sym (outline_fits x).size ∙ (tree_holds x).size

-- the first of them is that of the whole tree
pub sizes_first : (x : Node) (rest : Numbers) → get_or (sizes x ++ rest) 0 0 ≡ (tree_joins x).size
sizes_first x rest = (outline_fits x).first [] rest ∙ sizes_many x

drop_twice : {X : Type 0} (m n : ℕ) (xs : List X) → drop (m + n) xs ≡ drop n (drop m xs)
drop_twice zero n xs = let e : 0 + n ≡ n = omega arith in ap (λ k. drop k xs) e
drop_twice (suc m) zero [] = let e : suc m + 0 ≡ suc m = omega arith in ap (λ k. drop k []) e
drop_twice (suc m) (suc n) [] = let e : suc m + suc n ≡ suc (m + suc n) = omega arith in ap (λ k. drop k []) e
drop_twice (suc m) n (x ∷ xs) = let e : suc m + n ≡ suc (m + n) = omega arith in ap (λ k. drop k (x ∷ xs)) e ∙ drop_twice m n xs

-- what follows in a list if it is known from a place on
pub rest_after : (table front rest : Numbers) (n : ℕ) → drop n table ≡ front ++ rest → drop (n + length front) table ≡ rest
rest_after table front rest n h = drop_twice n (length front) table ∙ ap (drop (length front)) h ∙ drop_front front rest

-- ---- what will be there
abbrev pub pending_nodes : Pending → List (List ℕ)
pending_nodes (node x) = entered x
pending_nodes (block up b) = entered_block b

abbrev pub pending_tree : Pending → TreeJoins
pending_tree (node x) = tree_joins x
pending_tree (block up b) = record { size = (block_joins b).size; joins = (block_joins b).joins up }

abbrev pub pending_weight : Pending → ℕ
pending_weight (node x) = node_weight x
pending_weight (block up b) = block_weight b

abbrev pub pendings_weight : List Pending → ℕ
pendings_weight [] = 0
pendings_weight (p ∷ ps) = pending_weight p + pendings_weight ps

abbrev pub all_trees : List Pending → List TreeJoins
all_trees = map pending_tree

-- the flat cactus once all tasks are done
abbrev pub completed : Flat → List Pending → Flat
completed f ps = record {
  vertices = f.vertices;
  nodes = f.nodes ++ flat_map pending_nodes ps;
  bridges = f.bridges ++ (trees_from (length f.nodes) (all_trees ps)).bridges;
  cycles = f.cycles ++ (trees_from (length f.nodes) (all_trees ps)).cycles;
}

same_flat : (n m : ℕ) (a b : List (List ℕ)) (c d : List (ℕ × ℕ)) (e f : List (List ℕ)) → n ≡ m → a ≡ b → c ≡ d → e ≡ f →
    (let p : Flat = record { vertices = n; nodes = a; bridges = c; cycles = e } in p) ≡ record { vertices = m; nodes = b; bridges = d; cycles = f }
same_flat n m a b c d e f w x y z = λ i. record { vertices = w i; nodes = x i; bridges = y i; cycles = z i }

same_joins : (a b : List (ℕ × ℕ)) (c d : List (List ℕ)) → a ≡ b → c ≡ d → (let j : Joins = record { bridges = a; cycles = c } in j) ≡ record { bridges = b; cycles = d }
same_joins a b c d e f = λ i. record { bridges = e i; cycles = f i }

trees_append : (k : ℕ) (ts us : List TreeJoins) → trees_from k (ts ++ us) ≡ beside (trees_from k ts) (trees_from (k + trees_size ts) us)
trees_append k [] us = let e : k ≡ k + 0 = omega arith in ap (λ n. trees_from n us) e
trees_append k (t ∷ ts) us =
    let e : (k + t.size) + trees_size ts ≡ k + (t.size + trees_size ts) = omega arith in
    let A = t.joins k in
    let B = trees_from (k + t.size) ts in
    let C = trees_from ((k + t.size) + trees_size ts) us in
    ap (beside A) (trees_append (k + t.size) ts us)
    ∙ same_joins _ _ _ _ (sym (append_assoc A.bridges B.bridges C.bridges)) (sym (append_assoc A.cycles B.cycles C.cycles))
    ∙ ap (λ n. beside (beside A B) (trees_from n us)) e

-- a task is done, and others are there in its place
record IsStep (f g : Flat) (p : Pending) (qs : List Pending) : Type 0 where
  vertices : g.vertices ≡ f.vertices
  nodes : g.nodes ++ flat_map pending_nodes qs ≡ f.nodes ++ pending_nodes p
  size : length g.nodes + trees_size (all_trees qs) ≡ length f.nodes + (pending_tree p).size
  bridges : g.bridges ++ (trees_from (length g.nodes) (all_trees qs)).bridges ≡ f.bridges ++ ((pending_tree p).joins (length f.nodes)).bridges
  cycles : g.cycles ++ (trees_from (length g.nodes) (all_trees qs)).cycles ≡ f.cycles ++ ((pending_tree p).joins (length f.nodes)).cycles

completes : (f g : Flat) (p : Pending) (qs rest : List Pending) → IsStep f g p qs → completed g (qs ++ rest) ≡ completed f (p ∷ rest)
completes f g p qs rest h =
    let n = length f.nodes in
    let m = length g.nodes in
    let more = trees_from (m + trees_size (all_trees qs)) (all_trees rest) in
    let split : trees_from m (all_trees (qs ++ rest)) ≡ beside (trees_from m (all_trees qs)) more = ap (trees_from m) (map-append pending_tree qs rest) ∙ trees_append m (all_trees qs) (all_trees rest) in
    same_flat _ _ _ _ _ _ _ _ h.vertices
    (ap (λ l. g.nodes ++ l) (flat_map-append pending_nodes qs rest) ∙ sym (append_assoc g.nodes (flat_map pending_nodes qs) (flat_map pending_nodes rest))
    ∙ ap (λ l. l ++ flat_map pending_nodes rest) h.nodes ∙ append_assoc f.nodes (pending_nodes p) (flat_map pending_nodes rest))
    (ap (λ (j : Joins). g.bridges ++ j.bridges) split ∙ sym (append_assoc g.bridges (trees_from m (all_trees qs)).bridges more.bridges)
    ∙ ap (λ l. l ++ more.bridges) h.bridges ∙ append_assoc f.bridges ((pending_tree p).joins n).bridges more.bridges
    ∙ ap (λ k. f.bridges ++ (((pending_tree p).joins n).bridges ++ (trees_from k (all_trees rest)).bridges)) h.size)
    (ap (λ (j : Joins). g.cycles ++ j.cycles) split ∙ sym (append_assoc g.cycles (trees_from m (all_trees qs)).cycles more.cycles)
    ∙ ap (λ l. l ++ more.cycles) h.cycles ∙ append_assoc f.cycles ((pending_tree p).joins n).cycles more.cycles
    ∙ ap (λ k. f.cycles ++ (((pending_tree p).joins n).cycles ++ (trees_from k (all_trees rest)).cycles)) h.size)

-- ---- a node is entered
trees_hung : (up first : ℕ) (bs : List Block) → trees_from first (all_trees (map (block up) bs)) ≡ blocks_from up first (map block_joins bs)
trees_hung up first [] = refl
trees_hung up first (b ∷ bs) = ap (beside ((block_joins b).joins up first)) (trees_hung up (first + (block_joins b).size) bs)

sizes_hung : (up : ℕ) (bs : List Block) → trees_size (all_trees (map (block up) bs)) ≡ blocks_size (map block_joins bs)
sizes_hung up [] = refl
sizes_hung up (b ∷ bs) = ap (λ n. (block_joins b).size + n) (sizes_hung up bs)

numbers_hung : (up : ℕ) (bs : List Block) → flat_map pending_sizes (map (block up) bs) ≡ flat_map block_sizes bs
numbers_hung up bs = flat_map-map pending_sizes (block up) bs

weight_hung : (up : ℕ) (bs : List Block) (rest : List Pending) → pendings_weight (map (block up) bs ++ rest) ≡ blocks_weight bs + pendings_weight rest
weight_hung up [] rest = omega arith
weight_hung up (b ∷ bs) rest = omega (arith, weight_hung up bs rest)

node_step : (f : Flat) (x : Node) → IsStep f (with_node f x) (node x) (map (block (length f.nodes)) (blocks x))
node_step f x =
    let n = length f.nodes in
    let bs = blocks x in
    let longer : length (f.nodes ++ vertices x ∷ []) ≡ n + 1 = length-append f.nodes (vertices x ∷ []) in
    let joins : trees_from (length (f.nodes ++ vertices x ∷ [])) (all_trees (map (block n) bs)) ≡ (tree_joins x).joins n =
    ap (λ k. trees_from k (all_trees (map (block n) bs))) longer ∙ trees_hung n (n + 1) bs ∙ ap (λ (t : TreeJoins). t.joins n) (sym (joins_out x)) in
    record {
      vertices = refl;
      nodes = append_assoc f.nodes (vertices x ∷ []) (flat_map pending_nodes (map (block n) bs))
          ∙ ap (λ l. f.nodes ++ (vertices x ∷ l)) (flat_map-map pending_nodes (block n) bs)
          ∙ ap (λ l. f.nodes ++ l) (sym (entered_out x));
      size = omega (arith, longer, sizes_hung n bs, ap (λ (t : TreeJoins). t.size) (joins_out x));
      bridges = ap (λ (j : Joins). f.bridges ++ j.bridges) joins;
      cycles = ap (λ (j : Joins). f.cycles ++ j.cycles) joins;
    }

-- the tasks that are left keep their sizes
node_sizes : (table : Numbers) (f : Flat) (x : Node) (rest : Numbers) → drop (length f.nodes) table ≡ sizes x ++ rest → drop (length (with_node f x).nodes) table ≡ flat_map pending_sizes (map (block (length f.nodes)) (blocks x)) ++ rest
node_sizes table f x rest h =
    let n = length f.nodes in
    let inner = flat_map block_sizes (blocks x) in
    let longer : length (f.nodes ++ vertices x ∷ []) ≡ n + 1 = length-append f.nodes (vertices x ∷ []) in
    ap (λ k. drop k table) longer
    ∙ rest_after table ((length inner + 1) ∷ []) (inner ++ rest) n (h ∙ ap (λ l. l ++ rest) (sizes_out x))
    ∙ ap (λ l. l ++ rest) (sym (numbers_hung n (blocks x)))

-- what is known of a step: what will be there is the same, the sizes go on, and less is left
pub record IsDone (table : Numbers) (f g : Flat) (p : Pending) (qs rest : List Pending) : Type 0 where
  pub whole : completed g (qs ++ rest) ≡ completed f (p ∷ rest)
  pub sizes : drop (length f.nodes) table ≡ flat_map pending_sizes (p ∷ rest) → drop (length g.nodes) table ≡ flat_map pending_sizes (qs ++ rest)
  pub lighter : pendings_weight (qs ++ rest) < pendings_weight (p ∷ rest)

node_done : (table : Numbers) (f : Flat) (x : Node) (rest : List Pending) → IsDone table f (with_node f x) (node x) (map (block (length f.nodes)) (blocks x)) rest
node_done table f x rest =
    let qs = map (block (length f.nodes)) (blocks x) in
    record {
      whole = completes f (with_node f x) (node x) qs rest (node_step f x);
      sizes = λ h. node_sizes table f x (flat_map pending_sizes rest) h ∙ sym (flat_map-append pending_sizes qs rest);
      lighter = omega (arith, weight_hung (length f.nodes) (blocks x) rest, node_weight_out x);
    }

-- ---- a bridge is entered
bridge_whole : (f : Flat) (up : ℕ) (child : Box Node Global) (rest : List Pending) → completed (with_bridge f up) (node child.value ∷ rest) ≡ completed f (block up (Bridge child) ∷ rest)
bridge_whole f up child rest =
    let n = length f.nodes in
    let t = tree_joins child.value in
    let more = trees_from (n + t.size) (all_trees rest) in
    let s : completed f (block up (Bridge child) ∷ rest) ≡ record {
      vertices = f.vertices;
      nodes = f.nodes ++ (entered child.value ++ flat_map pending_nodes rest);
      bridges = f.bridges ++ ((up, n) ∷ ((t.joins n).bridges ++ more.bridges));
      cycles = f.cycles ++ ((t.joins n).cycles ++ more.cycles);
    } = same_flat _ _ _ _ _ _ _ _ refl
    (ap (λ l. f.nodes ++ (l ++ flat_map pending_nodes rest)) (entered_bridge child))
    (ap (λ (b : BlockJoins). f.bridges ++ ((b.joins up n).bridges ++ (trees_from (n + b.size) (all_trees rest)).bridges)) (joins_bridge child))
    (ap (λ (b : BlockJoins). f.cycles ++ ((b.joins up n).cycles ++ (trees_from (n + b.size) (all_trees rest)).cycles)) (joins_bridge child)) in
    same_flat _ _ _ _ _ _ _ _ refl refl (append_assoc f.bridges ((up, n) ∷ []) ((t.joins n).bridges ++ more.bridges)) refl ∙ sym s

bridge_done : (table : Numbers) (f : Flat) (up : ℕ) (child : Box Node Global) (rest : List Pending) →
    IsDone table f (with_node (with_bridge f up) child.value) (block up (Bridge child)) (map (block (length f.nodes)) (blocks child.value)) rest
bridge_done table f up child rest =
    let h = node_done table (with_bridge f up) child.value rest in
    record {
      whole = h.whole ∙ bridge_whole f up child rest;
      sizes = λ e. h.sizes (e ∙ ap (λ l. l ++ flat_map pending_sizes rest) (sizes_bridge child));
      lighter = omega (arith, h.lighter, block_weight_bridge child);
    }

-- ---- a cycle is entered
trees_entered : (xs : List Node) → all_trees (map node xs) ≡ map tree_joins xs
trees_entered [] = refl
trees_entered (x ∷ xs) = ap (λ l. tree_joins x ∷ l) (trees_entered xs)

weight_entered : (xs : List Node) (rest : List Pending) → pendings_weight (map node xs ++ rest) ≡ nodes_weight xs + pendings_weight rest
weight_entered [] rest = omega arith
weight_entered (x ∷ xs) rest = omega (arith, weight_entered xs rest)

cycle_step : (f : Flat) (up : ℕ) (nodes : Children) → IsStep f (with_cycle f up (nodes_in nodes)) (block up (Cycle nodes)) (map node (nodes_in nodes))
cycle_step f up nodes =
    let n = length f.nodes in
    let xs = nodes_in nodes in
    let ts = map tree_joins xs in
    let ring = up ∷ roots_from n ts in
    let inner : trees_from n (all_trees (map node xs)) ≡ trees_from n ts = ap (trees_from n) (trees_entered xs) in
    record {
      vertices = refl;
      nodes = ap (λ l. f.nodes ++ l) (flat_map-map pending_nodes node xs ∙ sym (entered_cycle nodes));
      size = omega (arith, ap trees_size (trees_entered xs), ap (λ (b : BlockJoins). b.size) (joins_cycle nodes));
      bridges = ap (λ (j : Joins). f.bridges ++ j.bridges) inner ∙ ap (λ (b : BlockJoins). f.bridges ++ (b.joins up n).bridges) (sym (joins_cycle nodes));
      cycles = append_assoc f.cycles (ring ∷ []) (trees_from n (all_trees (map node xs))).cycles
          ∙ ap (λ (j : Joins). f.cycles ++ (ring ∷ j.cycles)) inner
          ∙ ap (λ (b : BlockJoins). f.cycles ++ (b.joins up n).cycles) (sym (joins_cycle nodes));
    }

cycle_done : (table : Numbers) (f : Flat) (up : ℕ) (nodes : Children) (rest : List Pending) → IsDone table f (with_cycle f up (nodes_in nodes)) (block up (Cycle nodes)) (map node (nodes_in nodes)) rest
cycle_done table f up nodes rest =
    let xs = nodes_in nodes in
    record {
      whole = completes f (with_cycle f up xs) (block up (Cycle nodes)) (map node xs) rest (cycle_step f up nodes);
      sizes = λ h. h ∙ ap (λ l. l ++ flat_map pending_sizes rest) (sizes_cycle nodes ∙ sym (flat_map-map pending_sizes node xs)) ∙ sym (flat_map-append pending_sizes (map node xs) rest);
      lighter = omega (arith, weight_entered xs rest, block_weight_cycle nodes);
    }

-- ---- any task
block_done : (table : Numbers) (f : Flat) (up : ℕ) (y : Block-F Block Blocks Children Node) (rest : List Pending) → IsDone table f (block_gained f up y) (block up (roll-Block y)) (block_next (length f.nodes) y) rest
block_done table f up (Open.Bridge child) rest =
    subst (λ b. IsDone table f (block_gained f up (Open.Bridge child)) (block up b) (block_next (length f.nodes) (Open.Bridge child)) rest) (sym (rolls-Bridge child)) (bridge_done table f up child rest)
block_done table f up (Open.Cycle nodes) rest =
    subst (λ b. IsDone table f (block_gained f up (Open.Cycle nodes)) (block up b) (block_next (length f.nodes) (Open.Cycle nodes)) rest) (sym (rolls-Cycle nodes)) (cycle_done table f up nodes rest)

done : (table : Numbers) (f : Flat) (p : Pending) (rest : List Pending) → IsDone table f (gained f p) p (next_of (length f.nodes) p) rest
done table f (node x) rest = node_done table f x rest
done table f (block up b) rest =
    subst (λ c. IsDone table f (gained f (block up b)) (block up c) (next_of (length f.nodes) (block up b)) rest) (roll-out-Block b) (block_done table f up (out-Block b) rest)

-- a task is taken off the stack and entered
pub entered_task : (table : Numbers) (f g : Flat) (p : Pending) (before rest after : List Pending) → before ≡ p ∷ rest → g ≡ gained f p → after ≡ next_of (length f.nodes) p ++ rest →
    (completed g after ≡ completed f before) × (drop (length f.nodes) table ≡ flat_map pending_sizes before → drop (length g.nodes) table ≡ flat_map pending_sizes after) × (pendings_weight after < pendings_weight before)
entered_task table f g p before rest after b h a =
    let d : IsDone table f g p (next_of (length f.nodes) p) rest = subst (λ x. IsDone table f x p (next_of (length f.nodes) p) rest) (sym h) (done table f p rest) in (
      ap (completed g) a ∙ d.whole ∙ ap (completed f) (sym b),
      (λ e. d.sizes (e ∙ ap (flat_map pending_sizes) b) ∙ ap (flat_map pending_sizes) (sym a)),
      omega (arith, d.lighter, ap pendings_weight a, ap pendings_weight b),
    )
