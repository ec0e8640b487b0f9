-- The equations of the parts of a tree.
use Rattle.std.proofs.Common.{◌≡◌, Bool, true, false, ◌||◌, List, [], ◌∷◌, ◌++◌, map, ap, ◌∙◌, sym, refl}
use Rattle.std.proofs.lemmas.List.{map-append, append-nil}
use Rattle.std.proofs.lemmas.List.Concat.{flat_map-append}
use Rattle.std.specs.declared.boxed.Box.{Box}
use Rattle.std.specs.declared.alloc.Global.{Global}
use Rattle.cut_definitions.specs.Weight.{VertexSet, either}
use Rattle.cut_definitions.specs.Cuts.{has}
use Rattle.cut_definitions.proofs.Bools.{or_assoc}
use Rattle.rooted_cactus.specs.Sides.{Part, part, block_part, nothing, all_of, belows, all_cuts, together, with_below, bridge_of, cycle_of, block_step, blocks_step, children_step, node_step}
use Rattle.rooted_cactus.specs.Trees.{vertices, blocks, nodes_in}
use Rattle.rooted_cactus.specs.declared.tree.Node.{Node, out-Node}
use Rattle.rooted_cactus.specs.declared.tree.Block.{Block}
use Rattle.rooted_cactus.specs.declared.tree.Children.{Children}
use Rattle.rooted_cactus.specs.declared.tree.Block.TheVariants.{Bridge, Cycle, rolls-Bridge, rolls-Cycle}
use Rattle.rooted_cactus.specs.declared.tree.Block.TheOpen as Open
use Rattle.rooted_cactus.specs.declared.tree.Block.TheFolds.{fold_out-Node, fold_out-Blocks, fold_out-Children, fold-roll-Block, fold-Block}
use Rattle.rooted_cactus.proofs.Lifts.{same_part}

pub part_out : (x : Node) → part x ≡ record { below = either (has (vertices x)) (together (map block_part (blocks x))).below; cuts = (together (map block_part (blocks x))).cuts }
unfolding part block_part
part_out x = fold_out-Node Part Part (List Part) Part block_step blocks_step children_step node_step x
    ∙ ap (λ p. record { below = either (has (vertices x)) p.below; cuts = p.cuts }) (fold_out-Blocks Part Part (List Part) Part block_step blocks_step children_step node_step (out-Node x).blocks)

pub bridge_part : (child : Box Node Global) → block_part (Bridge child) ≡ bridge_of (part child.value)
unfolding part block_part
bridge_part child = ap (fold-Block Part Part (List Part) Part block_step blocks_step children_step node_step) (sym (rolls-Bridge child))
    ∙ fold-roll-Block Part Part (List Part) Part block_step blocks_step children_step node_step (Open.Bridge child)

pub cycle_part : (nodes : Children) → block_part (Cycle nodes) ≡ cycle_of (map part (nodes_in nodes))
unfolding part block_part
cycle_part nodes = ap (fold-Block Part Part (List Part) Part block_step blocks_step children_step node_step) (sym (rolls-Cycle nodes))
    ∙ fold-roll-Block Part Part (List Part) Part block_step blocks_step children_step node_step (Open.Cycle nodes)
    ∙ ap cycle_of (fold_out-Children Part Part (List Part) Part block_step blocks_step children_step node_step nodes)

or_false : (a : Bool) → a || false ≡ a
or_false true = refl
or_false false = refl

pub either_assoc : (s t u : VertexSet) → either s (either t u) ≡ either (either s t) u
either_assoc s t u = λ i v. or_assoc (s v) (t v) (u v) i

pub either_nothing : (s : VertexSet) → either s nothing ≡ s
either_nothing s = λ i v. or_false (s v) i

-- the union of several sets and one more
pub all_of_push : (ps : List Part) (q : Part) → all_of (belows (ps ++ q ∷ [])) ≡ either (all_of (belows ps)) q.below
all_of_push [] q = either_nothing q.below
all_of_push (p ∷ ps) q = ap (either p.below) (all_of_push ps q) ∙ either_assoc p.below (all_of (belows ps)) q.below

pub all_cuts_append : (ps qs : List Part) → all_cuts (ps ++ qs) ≡ all_cuts ps ++ all_cuts qs
all_cuts_append ps qs = flat_map-append (λ (p : Part). p.cuts) ps qs

pub all_cuts_push : (ps : List Part) (q : Part) → all_cuts (ps ++ q ∷ []) ≡ all_cuts ps ++ q.cuts
all_cuts_push ps q = all_cuts_append ps (q ∷ []) ∙ ap (λ cs. all_cuts ps ++ cs) (append-nil q.cuts)

-- a node with one more block at the end of its list
pub hung_part : (x y : Node) (b : Block) → vertices y ≡ vertices x → blocks y ≡ blocks x ++ b ∷ [] → part y ≡ with_below (part x) (block_part b)
hung_part x y b e f =
    let ps = map block_part (blocks x) in
    let seen : map block_part (blocks y) ≡ ps ++ block_part b ∷ [] = ap (map block_part) f ∙ map-append block_part (blocks x) (b ∷ []) in
    let here : (together (map block_part (blocks y))).below ≡ either (all_of (belows ps)) (block_part b).below = ap (λ qs. all_of (belows qs)) seen ∙ all_of_push ps (block_part b) in
    let there : (together (map block_part (blocks y))).cuts ≡ all_cuts ps ++ (block_part b).cuts = ap all_cuts seen ∙ all_cuts_push ps (block_part b) in
    let above : either (has (vertices y)) (together (map block_part (blocks y))).below ≡ either (either (has (vertices x)) (all_of (belows ps))) (block_part b).below =
    ap (λ vs. either (has vs) (together (map block_part (blocks y))).below) e ∙ ap (either (has (vertices x))) here ∙ either_assoc (has (vertices x)) (all_of (belows ps)) (block_part b).below in
    part_out y ∙ same_part _ _ _ _ above there ∙ ap (λ p. with_below p (block_part b)) (sym (part_out x))
