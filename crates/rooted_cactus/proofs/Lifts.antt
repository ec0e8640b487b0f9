-- A map of sets that keeps unions maps the cuts of a tree one by one.
use Rattle.std.proofs.Common.{◌≡◌, ℕ, List, [], ◌∷◌, ◌++◌, map, refl, sym, ◌∙◌, ap, subst}
use Rattle.std.proofs.lemmas.List.{map-append}
use Rattle.cut_definitions.specs.Weight.{VertexSet, either}
use Rattle.cut_definitions.specs.Cuts.{has}
use Rattle.rooted_cactus.specs.Sides.{Part, part, part_by, map_part, nothing, all_of, from_here, intervals, belows, all_cuts, together, bridge_of, cycle_of, block_step, blocks_step, children_step, node_step, node_step_by}
use Rattle.std.specs.declared.boxed.Box.{Box}
use Rattle.std.specs.declared.alloc.Global.{Global}
use Rattle.rooted_cactus.specs.declared.tree.Node.{Node}
use Rattle.rooted_cactus.specs.declared.tree.Block.{Block}
use Rattle.rooted_cactus.specs.declared.tree.Blocks.{Blocks}
use Rattle.rooted_cactus.specs.declared.tree.Children.{Children}
use Rattle.rooted_cactus.specs.declared.tree.Block.TheViews.{roll-Node, roll-Block, roll-Blocks, roll-Children}
use Rattle.rooted_cactus.specs.declared.tree.Block.TheOpen as Open
use Rattle.rooted_cactus.specs.declared.tree.Block.TheFolds.{map-Block, ind-Node, fold-Block, fold-Blocks, fold-Children, fold-roll-Node, fold-roll-Block, fold-roll-Blocks, fold-roll-Children}

-- unions are kept
pub record KeepsUnions (h : VertexSet → VertexSet) : Type 0 where
  pub none : h nothing ≡ nothing
  pub union : (s t : VertexSet) → h (either s t) ≡ either (h s) (h t)

pub same_part : (b c : VertexSet) (k l : List VertexSet) → b ≡ c → k ≡ l → (let p : Part = record { below = b; cuts = k } in p) ≡ record { below = c; cuts = l }
same_part b c k l e f = λ i. record { below = e i; cuts = f i }

module _ (h : VertexSet → VertexSet) (keeps : KeepsUnions h) where
  lift_all_of : (ps : List Part) → all_of (belows (map (map_part h) ps)) ≡ h (all_of (belows ps))
  lift_all_of [] = sym keeps.none
  lift_all_of (p ∷ ps) = ap (either (h p.below)) (lift_all_of ps) ∙ sym (keeps.union p.below (all_of (belows ps)))

  lift_all_cuts : (ps : List Part) → all_cuts (map (map_part h) ps) ≡ map h (all_cuts ps)
  lift_all_cuts [] = refl
  lift_all_cuts (p ∷ ps) = ap (λ l. map h p.cuts ++ l) (lift_all_cuts ps) ∙ sym (map-append h p.cuts (all_cuts ps))

  lift_from_here : (s : VertexSet) (ps : List Part) → from_here (h s) (belows (map (map_part h) ps)) ≡ map h (from_here s (belows ps))
  lift_from_here s [] = refl
  lift_from_here s (p ∷ ps) = ap (λ l. h s ∷ l) (ap (λ t. from_here t (belows (map (map_part h) ps))) (sym (keeps.union s p.below)) ∙ lift_from_here (either s p.below) ps)

  lift_intervals : (ps : List Part) → intervals (belows (map (map_part h) ps)) ≡ map h (intervals (belows ps))
  lift_intervals [] = refl
  lift_intervals (p ∷ ps) =
      ap (λ l. l ++ intervals (belows (map (map_part h) ps))) (lift_from_here p.below ps)
      ∙ ap (λ l. map h (from_here p.below (belows ps)) ++ l) (lift_intervals ps)
      ∙ sym (map-append h (from_here p.below (belows ps)) (intervals (belows ps)))

  lift_together : (ps : List Part) → together (map (map_part h) ps) ≡ map_part h (together ps)
  lift_together ps = same_part _ _ _ _ (lift_all_of ps) (lift_all_cuts ps)

  lift_cycle : (ps : List Part) → cycle_of (map (map_part h) ps) ≡ map_part h (cycle_of ps)
  lift_cycle ps = same_part _ _ _ _ (lift_all_of ps)
      (ap (λ l. l ++ all_cuts (map (map_part h) ps)) (lift_intervals ps)
      ∙ ap (λ l. map h (intervals (belows ps)) ++ l) (lift_all_cuts ps)
      ∙ sym (map-append h (intervals (belows ps)) (all_cuts ps)))

-- a list of values, each with a proof
pub each_lifted : {X : Type 0} (P : X → Type 0) (f g : X → Part) (m : Part → Part) → ((x : X) → P x → f x ≡ m (g x)) → (ys : List ((x : X) × P x)) → map f (map (λ y. y.0) ys) ≡ map m (map g (map (λ y. y.0) ys))
each_lifted P f g m e [] = refl
each_lifted P f g m e (y ∷ ys) = ap (λ p. p ∷ map f (map (λ z. z.0) ys)) (e y.0 y.1) ∙ ap (λ l. m (g y.0) ∷ l) (each_lifted P f g m e ys)

module _ (h : VertexSet → VertexSet) (keeps : KeepsUnions h) (sets : List ℕ → VertexSet) (same : (l : List ℕ) → sets l ≡ h (has l)) where
  abbrev IsLiftedBlock : Block → Type 0
  IsLiftedBlock b = fold-Block Part Part (List Part) Part block_step blocks_step children_step (node_step_by sets) b ≡ map_part h (fold-Block Part Part (List Part) Part block_step blocks_step children_step node_step b)

  abbrev IsLiftedBlocks : Blocks → Type 0
  IsLiftedBlocks b = fold-Blocks Part Part (List Part) Part block_step blocks_step children_step (node_step_by sets) b ≡ map_part h (fold-Blocks Part Part (List Part) Part block_step blocks_step children_step node_step b)

  abbrev IsLiftedChildren : Children → Type 0
  IsLiftedChildren c = fold-Children Part Part (List Part) Part block_step blocks_step children_step (node_step_by sets) c ≡ map (map_part h) (fold-Children Part Part (List Part) Part block_step blocks_step children_step node_step c)

  abbrev IsLifted : Node → Type 0
  IsLifted x = part_by sets x ≡ map_part h (part x)

  node_case : (x : Open.Node-F Block Blocks Children Node) → IsLiftedBlocks x.blocks → IsLifted (roll-Node x)
  unfolding part part_by
  node_case x b =
      let above : either (sets x.vertices) (fold-Blocks Part Part (List Part) Part block_step blocks_step children_step (node_step_by sets) x.blocks).below ≡ h (either (has x.vertices) (fold-Blocks Part Part (List Part) Part block_step blocks_step children_step node_step x.blocks).below) =
      ap (λ s. either s (fold-Blocks Part Part (List Part) Part block_step blocks_step children_step (node_step_by sets) x.blocks).below) (same x.vertices)
      ∙ ap (λ p. either (h (has x.vertices)) p.below) b
      ∙ sym (keeps.union (has x.vertices) (fold-Blocks Part Part (List Part) Part block_step blocks_step children_step node_step x.blocks).below) in
      fold-roll-Node Part Part (List Part) Part block_step blocks_step children_step (node_step_by sets) x
      ∙ same_part _ _ _ _ above (ap (λ p. p.cuts) b)
      ∙ ap (map_part h) (sym (fold-roll-Node Part Part (List Part) Part block_step blocks_step children_step node_step x))

  blocks_case : (x : Open.Blocks-F Block Blocks Children Node) (ys : List ((b : Block) × IsLiftedBlock b)) → map (λ y. y.0) ys ≡ x.items.items → IsLiftedBlocks (roll-Blocks x)
  blocks_case x ys e =
      let f = fold-Block Part Part (List Part) Part block_step blocks_step children_step (node_step_by sets) in
      let g = fold-Block Part Part (List Part) Part block_step blocks_step children_step node_step in
      let parts : map f x.items.items ≡ map (map_part h) (map g x.items.items) = subst (λ l. map f l ≡ map (map_part h) (map g l)) e (each_lifted IsLiftedBlock f g (map_part h) (λ b p. p) ys) in
      fold-roll-Blocks Part Part (List Part) Part block_step blocks_step children_step (node_step_by sets) x
      ∙ ap together parts ∙ lift_together h keeps (map g x.items.items)
      ∙ ap (map_part h) (sym (fold-roll-Blocks Part Part (List Part) Part block_step blocks_step children_step node_step x))

  children_case : (x : Open.Children-F Block Blocks Children Node) (ys : List ((y : Node) × IsLifted y)) → map (λ y. y.0) ys ≡ x.items.items → IsLiftedChildren (roll-Children x)
  unfolding part part_by
  children_case x ys e =
      let parts : map (part_by sets) x.items.items ≡ map (map_part h) (map part x.items.items) = subst (λ l. map (part_by sets) l ≡ map (map_part h) (map part l)) e (each_lifted IsLifted (part_by sets) part (map_part h) (λ b p. p) ys) in
      fold-roll-Children Part Part (List Part) Part block_step blocks_step children_step (node_step_by sets) x
      ∙ parts
      ∙ ap (map (map_part h)) (sym (fold-roll-Children Part Part (List Part) Part block_step blocks_step children_step node_step x))

  bridge_case : (child : Box Node Global) → IsLifted child.value → IsLiftedBlock (roll-Block (Open.Bridge child))
  unfolding part part_by
  bridge_case child p =
      fold-roll-Block Part Part (List Part) Part block_step blocks_step children_step (node_step_by sets) (Open.Bridge child)
      ∙ ap bridge_of p
      ∙ ap (map_part h) (sym (fold-roll-Block Part Part (List Part) Part block_step blocks_step children_step node_step (Open.Bridge child)))

  cycle_case : (nodes : Children) → IsLiftedChildren nodes → IsLiftedBlock (roll-Block (Open.Cycle nodes))
  cycle_case nodes p =
      fold-roll-Block Part Part (List Part) Part block_step blocks_step children_step (node_step_by sets) (Open.Cycle nodes)
      ∙ ap cycle_of p ∙ lift_cycle h keeps (fold-Children Part Part (List Part) Part block_step blocks_step children_step node_step nodes)
      ∙ ap (map_part h) (sym (fold-roll-Block Part Part (List Part) Part block_step blocks_step children_step node_step (Open.Cycle nodes)))

  abbrev Proved : Type 0
  Proved = Open.Block-F ((b : Block) × IsLiftedBlock b) ((b : Blocks) × IsLiftedBlocks b) ((c : Children) × IsLiftedChildren c) ((y : Node) × IsLifted y)

  block_case : (x : Open.Block-F Block Blocks Children Node) (y : Proved) → map-Block ((b : Block) × IsLiftedBlock b) ((b : Blocks) × IsLiftedBlocks b) ((c : Children) × IsLiftedChildren c) ((y : Node) × IsLifted y) Block Blocks Children Node (λ e. e.0) (λ e. e.0) (λ e. e.0) (λ e. e.0) y ≡ x → IsLiftedBlock (roll-Block x)
  block_case x (Open.Bridge b) is =
      let child : Box Node Global = record { ptr = b.ptr; alloc = b.alloc; value = b.value.0 } in
      subst (λ z. IsLiftedBlock (roll-Block z)) is (bridge_case child b.value.1)
  block_case x (Open.Cycle c) is = subst (λ z. IsLiftedBlock (roll-Block z)) is (cycle_case c.0 c.1)

  -- the cuts of a tree whose vertices are seen through h
  pub lifted : (x : Node) → part_by sets x ≡ map_part h (part x)
  lifted x = ind-Node IsLiftedBlock IsLiftedBlocks IsLiftedChildren IsLifted
      (λ y z is. block_case y z is)
      (λ y z is. blocks_case y z.items.items (ap (λ w. w.items.items) is))
      (λ y z is. children_case y z.items.items (ap (λ w. w.items.items) is))
      (λ y z is. node_case y (subst (λ w. IsLiftedBlocks w.blocks) is z.blocks.1))
      x

-- the vertices of a node are their own set
pub own_lists : (x : Node) → part x ≡ part_by has x
unfolding part part_by
own_lists x = refl
