-- What a stack of number tasks holds, and the flat cactus once they are entered.
use Rattle.std.proofs.Common.{◌≡◌, ℕ, zero, suc, ◌+◌, ◌≤◌, ◌<◌, ◌⊎◌, inl, inr, true, false, not, List, [], ◌∷◌, ◌++◌, length, get_or, take, map, ap, ◌∙◌, sym, subst, refl, arith}
use Rattle.std.specs.Prelude.{◌==◌, if◌then◌else◌, slice_index, Option, Some}
use Rattle.std.specs.Option.{SomeIff}
use Rattle.std.specs.List.{All, sum_by}
use Rattle.std.specs.declared.boxed.Box.{Box}
use Rattle.std.specs.declared.alloc.Global.{Global}
use Rattle.std.proofs.lemmas.Bool.{not-false, not-true}
use Rattle.std.proofs.lemmas.List.{map-append, take_more}
use Rattle.std.proofs.lemmas.List.Sums.{sum_by-append, sum_by-cons}
use Rattle.std.proofs.lemmas.Simd.{map-map}
use Rattle.cut_definitions.proofs.ListLaws.{All-from_each, only, sum_by-one}
use Rattle.cut_definitions.proofs.Sums.{sum_by-same_on}
use Rattle.rooted_cactus.specs.declared.tree.Node.{Node}
use Rattle.rooted_cactus.specs.declared.tree.Block.{Block, out-Block}
use Rattle.rooted_cactus.specs.declared.tree.Block.TheVariants.{Bridge, Cycle, outs-Bridge, outs-Cycle}
use Rattle.rooted_cactus.specs.declared.tree.Children.{Children}
use Rattle.rooted_cactus.specs.Entries.{nodes_of}
use Rattle.rooted_cactus.specs.Normal.{BlockShape, block_shape}
use Rattle.rooted_cactus.specs.Trees.{vertices, blocks, nodes_in}
use Rattle.rooted_cactus.proofs.Entries.{nodes_bridge, nodes_cycle}
use Rattle.rooted_cactus.proofs.Shapes.{bridge_shape, cycle_shape}
use Rattle.rooted_cactus.proofs.Views.{view}
use Rattle.flat_cactus.specs.Flat.{Flat, appended_to_last}
use Rattle.flat_cactus.specs.Flattened.{BlockJoins, TreeJoins, block_joins, blocks_size, roots_from, tree_joins, trees_size}
use Rattle.flat_cactus.specs.Tasks as Tasks
use Rattle.flat_cactus.specs.Tasks.{Pending, gained, next_of, block_gained, block_next}
use Rattle.flat_cactus.proofs.JoinsOut.{joins_bridge, joins_cycle, joins_out}
use Rattle.flat_cactus.proofs.Tasked.{completed, entered_task}
use Rattle.flat_cactus.proofs.Members.{member_added}
use Rattle.tree_flattening.specs.declared.walking.Task.{Task}
use Rattle.tree_flattening.specs.declared.walking.Task.TheVariants.{Enter, Hang}
use Rattle.tree_flattening.specs.Plans.{Plan, IsDrawn, IsPlan}
use Rattle.tree_flattening.specs.Walked.{AreSizes, hang, number_of, roots_at, sizes_at, task_gained, task_next, with_next, with_own, with_ring}
use Rattle.tree_flattening.proofs.Weighing.{first_known, known_in}

-- ---- one more root of a cycle
roots_more : (sizes : List ℕ) (n : ℕ) (js : List ℕ) (j : ℕ) → roots_at sizes n (js ++ j ∷ []) ≡ roots_at sizes n js ++ (n + sizes_at sizes js) ∷ []
roots_more sizes n [] j = let e : n ≡ n + 0 = omega arith in ap (λ k. k ∷ []) e
roots_more sizes n (i ∷ js) j =
    let m = n + slice_index sizes i in
    let e : m + sizes_at sizes js ≡ n + sizes_at sizes (i ∷ js) = omega (arith, sum_by-cons (slice_index sizes) i js) in
    ap (λ l. n ∷ l) (roots_more sizes m js j ∙ ap (λ k. roots_at sizes m js ++ k ∷ []) e)

-- what a checked sum gave
pub checked : (r : Option ℕ) (P : Type 0) (v x : ℕ) → SomeIff r P v → r ≡ Some x → x ≡ v
checked r P v x h e = let y : P × (x ≡ v) = subst (λ q. SomeIff q P v) e h in y.1

-- a sum up to a place, and one term more
pub sum_more : {X : Type 0} (f : X → ℕ) (xs : List X) (i : ℕ) (d : X) → i < length xs → sum_by f (take (i + 1) xs) ≡ sum_by f (take i xs) + f (get_or xs i d)
sum_more f xs i d h =
    ap (sum_by f) (take_more xs i d h) ∙ sum_by-append f (take i xs) (get_or xs i d ∷ []) ∙ ap (λ k. sum_by f (take i xs) + k) (sum_by-one f (get_or xs i d))

pub root_added : (sizes run : List ℕ) (i : ℕ) (f0 f g : Flat) (up root : ℕ) → i < length run → root ≡ length f0.nodes + sizes_at sizes (take i run) →
    f ≡ with_ring f0 (up ∷ roots_at sizes (length f0.nodes) (take i run)) → g ≡ record f { cycles = appended_to_last f.cycles root } → g ≡ with_ring f0 (up ∷ roots_at sizes (length f0.nodes) (take (i + 1) run))
root_added sizes run i f0 f g up root h is a b =
    let n = length f0.nodes in
    let front = take i run in
    let holding : List ℕ → Flat = λ l. record f0 { cycles = f0.cycles ++ (up ∷ l) ∷ [] } in
    member_added f0 f g (up ∷ roots_at sizes n front) root a b
    ∙ ap holding (ap (λ k. roots_at sizes n front ++ k ∷ []) is ∙ sym (roots_more sizes n front (get_or run i 0)) ∙ ap (roots_at sizes n) (sym (take_more run i 0 h)))

-- ---- trees of a plan
-- the first of several, if there is only one
only_first : {X : Type 0} (f : ℕ → X) (js : List ℕ) (x : X) → map f js ≡ x ∷ [] → f (slice_index js 0) ≡ x
only_first f [] x e = absurd (omega (arith, ap length e))
only_first f (j ∷ []) x e = only (f j) x e
only_first f (j ∷ k ∷ js) x e = absurd (omega (arith, ap length e))

-- the nodes below a block, counted
block_size : (b : Block) → (block_joins b).size ≡ trees_size (map tree_joins (nodes_of b))
block_size b = elim (view b) [
  | inl y ↦
      let one : (tree_joins y.0.value).size ≡ (tree_joins y.0.value).size + 0 = omega arith in
      ap (λ c. (block_joins c).size) y.1 ∙ ap (λ (j : BlockJoins). j.size) (joins_bridge y.0) ∙ one ∙ ap (λ l. trees_size (map tree_joins l)) (sym (nodes_bridge y.0)) ∙ ap (λ c. trees_size (map tree_joins (nodes_of c))) (sym y.1)
  | inr y ↦ ap (λ c. (block_joins c).size) y.1 ∙ ap (λ (j : BlockJoins). j.size) (joins_cycle y.0) ∙ ap (λ l. trees_size (map tree_joins l)) (sym (nodes_cycle y.0)) ∙ ap (λ c. trees_size (map tree_joins (nodes_of c))) (sym y.1)
]

trees_sum : (node : ℕ → Node) (js : List ℕ) → trees_size (map tree_joins (map node js)) ≡ sum_by (λ j. (tree_joins (node j)).size) js
trees_sum node [] = refl
trees_sum node (j ∷ js) = ap (λ k. (tree_joins (node j)).size + k) (trees_sum node js) ∙ sym (sum_by-cons (λ i. (tree_joins (node i)).size) j js)

blocks_sum : (block : ℕ → Block) (hs : List ℕ) → blocks_size (map block_joins (map block hs)) ≡ sum_by (λ h. (block_joins (block h)).size) hs
blocks_sum block [] = refl
blocks_sum block (h ∷ hs) = ap (λ k. (block_joins (block h)).size + k) (blocks_sum block hs) ∙ sym (sum_by-cons (λ i. (block_joins (block i)).size) h hs)

-- a task by the nodes and blocks of a tree
abbrev pub task_of : (ℕ → Node) → (ℕ → Block) → Task → Pending
task_of node block (Enter i) = Tasks.node (node i)
task_of node block (Hang h up) = Tasks.block up (block h)

module _ (p : Plan) (node : ℕ → Node) (block : ℕ → Block) (plan : IsPlan p) (drawn : IsDrawn p node block) where
  abbrev below : ℕ → ℕ
  below j = (tree_joins (node j)).size

  -- a node and what is below it, by the plan
  node_size : (i : ℕ) → i < p.count → below i ≡ 1 + sum_by (λ h. sum_by below (p.run h)) (p.heads i)
  node_size i w =
      ap (λ (t : TreeJoins). t.size) (joins_out (node i)) ∙ ap (λ bs. 1 + blocks_size (map block_joins bs)) (drawn.hung i w)
      ∙ ap (λ k. 1 + k) (blocks_sum block (p.heads i)
      ∙ sum_by-same_on (λ h. (block_joins (block h)).size) (λ h. sum_by below (p.run h)) (p.heads i)
      (All-from_each (λ h. (block_joins (block h)).size ≡ sum_by below (p.run h)) (p.heads i) (λ h m.
      block_size (block h) ∙ ap (λ l. trees_size (map tree_joins l)) (drawn.nodes h (plan.heads i h w m).1) ∙ trees_sum node (p.run h))))

  -- the table has the sizes of the trees
  sizes_from : (table : List ℕ) → AreSizes p table → (k i : ℕ) → p.count ≤ i + k → i < p.count → slice_index table i ≡ below i
  sizes_from table s zero i far w = absurd (omega (arith, far, w))
  sizes_from table s (suc k) i far w =
      s.each i w
      ∙ ap (λ n. 1 + n) (sum_by-same_on (λ h. sizes_at table (p.run h)) (λ h. sum_by below (p.run h)) (p.heads i)
      (All-from_each (λ h. sizes_at table (p.run h) ≡ sum_by below (p.run h)) (p.heads i) (λ h m.
      let a = plan.heads i h w m in
      sum_by-same_on (slice_index table) below (p.run h)
      (All-from_each (λ j. slice_index table j ≡ below j) (p.run h) (λ j n.
      let b = plan.run h j a.1 n in
      sizes_from table s k j (omega (arith, far, a.0, b.0)) b.1)))))
      ∙ sym (node_size i w)

  pub sizes_drawn : (table : List ℕ) → AreSizes p table → (i : ℕ) → i < p.count → slice_index table i ≡ below i
  sizes_drawn table s i w = sizes_from table s p.count i (omega arith) w

  roots_drawn : (table : List ℕ) → AreSizes p table → (n : ℕ) (run : List ℕ) → All (λ j. j < p.count) run → roots_at table n run ≡ roots_from n (map tree_joins (map node run))
  roots_drawn table s n [] known = refl
  roots_drawn table s n (j ∷ js) known =
      ap (λ l. n ∷ l) (roots_drawn table s (n + slice_index table j) js (λ k d w. known (suc k) d (omega (arith, w)))
      ∙ ap (λ k. roots_from (n + k) (map tree_joins (map node js))) (sizes_drawn table s j (known 0 0 (omega arith))))

  -- ---- a task by the nodes of the tree
  abbrev tasks : List Task → List Pending
  tasks = map (task_of node block)

  hung_tasks : (number i : ℕ) → i < p.count → tasks (map (hang number) (p.heads i)) ≡ map (Tasks.block number) (blocks (node i))
  hung_tasks number i w =
      map-map (task_of node block) (hang number) (p.heads i) ∙ sym (map-map (Tasks.block number) block (p.heads i)) ∙ ap (map (Tasks.block number)) (sym (drawn.hung i w))

  run_tasks : (run : List ℕ) → tasks (map Enter run) ≡ map Tasks.node (map node run)
  run_tasks run = map-map (task_of node block) Enter run ∙ sym (map-map Tasks.node node run)

  -- what a block of the plan is
  record IsBridge (h : ℕ) : Type 0 where
    child : Box Node Global
    is : block h ≡ Bridge child
    one : (length (p.run h) == 1) ≡ true
    first : node (slice_index (p.run h) 0) ≡ child.value

  record IsRing (h : ℕ) : Type 0 where
    nodes : Children
    is : block h ≡ Cycle nodes
    more : (length (p.run h) == 1) ≡ false
    list : nodes_in nodes ≡ map node (p.run h)

  block_is : (h : ℕ) → h < p.count → IsBridge h ⊎ IsRing h
  block_is h w = elim (view (block h)) [
    | inl y ↦
        let shape : false ≡ not (length (p.run h) == 1) =
        sym (ap (λ (s : BlockShape). s.is_cycle) (bridge_shape y.0)) ∙ sym (ap (λ b. (block_shape b).is_cycle) y.1) ∙ drawn.kind h w in
        let list : map node (p.run h) ≡ y.0.value ∷ [] = sym (drawn.nodes h w) ∙ ap nodes_of y.1 ∙ nodes_bridge y.0 in
        inl (record { child = y.0; is = y.1; one = not-false _ (sym shape); first = only_first node (p.run h) y.0.value list })
    | inr y ↦
        let shape : true ≡ not (length (p.run h) == 1) =
        sym (ap (λ (s : BlockShape). s.is_cycle) (cycle_shape y.0)) ∙ sym (ap (λ b. (block_shape b).is_cycle) y.1) ∙ drawn.kind h w in
        inr (record { nodes = y.0; is = y.1; more = not-true _ (sym shape); list = sym (nodes_cycle y.0) ∙ sym (ap nodes_of y.1) ∙ drawn.nodes h w })
  ]

  -- entering by numbers is entering the tree
  pub next_drawn : (number : ℕ) (t : Task) → number_of t < p.count → tasks (task_next p number t) ≡ next_of number (task_of node block t)
  next_drawn number (Enter i) w = hung_tasks number i w
  next_drawn number (Hang h up) w =
      let run = p.run h in
      let i = slice_index run 0 in
      elim (block_is h w) [
        | inl b ↦
            ap (λ c. tasks (if c then map (hang number) (p.heads i) else map Enter run)) b.one ∙ hung_tasks number i (first_known p h plan w)
            ∙ ap (λ x. map (Tasks.block number) (blocks x)) b.first ∙ sym (ap (block_next number) (ap out-Block b.is ∙ outs-Bridge b.child))
        | inr b ↦
            ap (λ c. tasks (if c then map (hang number) (p.heads i) else map Enter run)) b.more ∙ run_tasks run
            ∙ ap (map Tasks.node) (sym b.list) ∙ sym (ap (block_next number) (ap out-Block b.is ∙ outs-Cycle b.nodes))
      ]

  pub gained_drawn : (table : List ℕ) → AreSizes p table → (f : Flat) (t : Task) → number_of t < p.count → task_gained p table f t ≡ gained f (task_of node block t)
  gained_drawn table s f (Enter i) w = ap (with_own f) (sym (drawn.own i w))
  gained_drawn table s f (Hang h up) w =
      let run = p.run h in
      let i = slice_index run 0 in
      let ring : Flat = with_ring f (up ∷ roots_at table (length f.nodes) run) in
      elim (block_is h w) [
        | inl b ↦
            ap (λ c. if c then with_own (with_next f up) (p.own i) else ring) b.one ∙ ap (with_own (with_next f up)) (sym (drawn.own i (first_known p h plan w)) ∙ ap vertices b.first)
            ∙ sym (ap (block_gained f up) (ap out-Block b.is ∙ outs-Bridge b.child))
        | inr b ↦
            ap (λ c. if c then with_own (with_next f up) (p.own i) else ring) b.more
            ∙ ap (λ l. with_ring f (up ∷ l)) (roots_drawn table s (length f.nodes) run (known_in p h p.count run plan w refl refl) ∙ ap (λ l. roots_from (length f.nodes) (map tree_joins l)) (sym b.list))
            ∙ sym (ap (block_gained f up) (ap out-Block b.is ∙ outs-Cycle b.nodes))
      ]

  -- a task is taken off the stack and entered
  pub entered_drawn : (table : List ℕ) → AreSizes p table → (f g : Flat) (t : Task) (before rest after : List Task) → number_of t < p.count →
      before ≡ t ∷ rest → g ≡ task_gained p table f t → after ≡ task_next p (length f.nodes) t ++ rest → completed g (tasks after) ≡ completed f (tasks before)
  entered_drawn table s f g t before rest after w b h a =
      (entered_task [] f g (task_of node block t) (tasks before) (tasks rest) (tasks after) (ap tasks b) (h ∙ gained_drawn table s f t w)
      (ap tasks a ∙ map-append (task_of node block) (task_next p (length f.nodes) t) rest ∙ ap (λ l. l ++ tasks rest) (next_drawn (length f.nodes) t w))).0
