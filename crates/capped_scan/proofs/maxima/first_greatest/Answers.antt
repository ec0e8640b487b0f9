use Rattle.std.proofs.Common.{◌≡◌, ℕ, suc, ◌+◌, ◌-◌, ◌*◌, ◌^◌, ◌<◌, ◌≤◌, List, get_or, sym, subst, arith}
use Rattle.capped_scan.proofs.MaxTrees.{IsDescent, first_leaf, first_leaf-zero, descent_start, descent_node, descent_left, descent_right, root_greatest}
use Rattle.capped_scan.proofs.maxima.first_greatest.Goals as goal
use Rattle.capped_scan.proofs.maxima.first_greatest.Goals.{then-tree-node, else-tree-node}

pub loop-level-init : goal.loop-level-init
loop-level-init c =
    let e : c.args.height ≡ c.args.height - 0 = omega arith in
    subst (λ (k : ℕ). IsDescent (2 ^ c.args.height) c.args.tree.now k 1) e (descent_start c.args.height c.args.tree.now)

-- one level further down
level_next : (height level : ℕ) → level < height → height - level ≡ suc (height - (level + 1))
level_next height level l = omega arith

pub overflow_mul-node : goal.overflow_mul-node
overflow_mul-node c =
    let inv = subst (λ (k : ℕ). IsDescent (2 ^ c.args.height) c.args.tree.now k c.loop-level.node) (level_next c.args.height c.loop-level._level c.loop-level-test.true) c.loop-level.invariant in
    omega (arith, descent_node (2 ^ c.args.height) c.args.tree.now (c.args.height - (c.loop-level._level + 1)) c.loop-level.node inv, c.requires.long)

pub offset_bounds-tree-node : goal.offset_bounds-tree-node
offset_bounds-tree-node c =
    let inv = subst (λ (k : ℕ). IsDescent (2 ^ c.args.height) c.args.tree.now k c.loop-level.node) (level_next c.args.height c.loop-level._level c.loop-level-test.true) c.loop-level.invariant in
    omega (arith, descent_node (2 ^ c.args.height) c.args.tree.now (c.args.height - (c.loop-level._level + 1)) c.loop-level.node inv, c.requires.long)

pub bounds-tree-node : goal.bounds-tree-node
bounds-tree-node c =
    let inv = subst (λ (k : ℕ). IsDescent (2 ^ c.args.height) c.args.tree.now k c.loop-level.node) (level_next c.args.height c.loop-level._level c.loop-level-test.true) c.loop-level.invariant in
    omega (arith, descent_node (2 ^ c.args.height) c.args.tree.now (c.args.height - (c.loop-level._level + 1)) c.loop-level.node inv, c.requires.long)

pub loop-level-preserved : goal.loop-level-preserved
loop-level-preserved c =
    let tree = c.args.tree.now in
    let size = 2 ^ c.args.height in
    let k = c.args.height - (c.loop-level._level + 1) in
    let node = c.loop-level.node in
    let inv = subst (λ (k : ℕ). IsDescent (2 ^ c.args.height) c.args.tree.now k c.loop-level.node) (level_next c.args.height c.loop-level._level c.loop-level-test.true) c.loop-level.invariant in
    let doubled : 2 * node ≡ node * 2 = omega arith in
    elim c.if-tree-node.branch [
      | then-tree-node w ↦ rw (w.node-is) (subst (λ (x : ℕ). IsDescent size tree k (x + 1)) doubled
          (descent_right size tree c.requires k node inv (subst (λ (x : ℕ). get_or tree x 0 < get_or tree 1 0) (sym doubled) w.if-tree-node.true)))
      | else-tree-node w ↦ rw (w.node-is) (subst (λ (x : ℕ). IsDescent size tree k x) doubled
          (descent_left size tree c.requires k node inv (subst (λ (x : ℕ). get_or tree 1 0 ≤ get_or tree x 0) (sym doubled) w.if-tree-node.false)))
    ]

at_end : (height level : ℕ) → height ≤ level → height - level ≡ 0
at_end height level l = omega arith

-- at the last level the node is a leaf
landed : (height level : ℕ) (tree : List ℕ) (node : ℕ) → height ≤ level → IsDescent (2 ^ height) tree (height - level) node → IsDescent (2 ^ height) tree 0 node
landed height level tree node l h = subst (λ (k : ℕ). IsDescent (2 ^ height) tree k node) (at_end height level l) h

pub returns-clause-low : goal.returns-clause-low
returns-clause-low c =
    let h = landed c.args.height c.loop-level._level c.args.tree.now c.loop-level.node (omega arith) c.loop-level.invariant in
    omega (arith, h.low, first_leaf-zero c.loop-level.node)

pub returns-clause-high : goal.returns-clause-high
returns-clause-high c =
    let h = landed c.args.height c.loop-level._level c.args.tree.now c.loop-level.node (omega arith) c.loop-level.invariant in
    omega (arith, h.high, first_leaf-zero (c.loop-level.node + 1))

pub returns-clause-greatest : goal.returns-clause-greatest
returns-clause-greatest c = λ j low high.
    let h = landed c.args.height c.loop-level._level c.args.tree.now c.loop-level.node (omega arith) c.loop-level.invariant in
    omega (arith, h.greatest, root_greatest c.args.height c.args.tree.now c.requires j low high)

pub returns-clause-first : goal.returns-clause-first
returns-clause-first c = λ j low high.
    let h = landed c.args.height c.loop-level._level c.args.tree.now c.loop-level.node (omega arith) c.loop-level.invariant in
    let before : j < first_leaf 0 c.loop-level.node = rw first_leaf-zero high in
    omega (arith, h.greatest, h.before j low before)
