-- A cactus with a block has a cut.
use Rattle.std.proofs.Common.{◌≡◌, ◌≢◌, ℕ, ◌≤◌, List, [], ◌∷◌, ◌++◌, length, map, refl, sym, ap, subst, ◌∙◌, append_assoc, arith}
use Rattle.std.specs.List.{All, range_with_len, filter}
use Rattle.std.proofs.lemmas.List.{length-map}
use Rattle.std.proofs.lemmas.List.Elements.{All-head}
use Rattle.cut_definitions.specs.Weight.{VertexSet, either}
use Rattle.cut_definitions.proofs.ListLaws.{All-front}
use Rattle.rooted_cactus.specs.Sides.{Part, part, block_part, below, cuts, intervals, all_cuts, belows, from_here}
use Rattle.rooted_cactus.specs.Trees.{blocks, nodes_in}
use Rattle.rooted_cactus.specs.Widths.{widths, block_widths, joined}
use Rattle.rooted_cactus.specs.Rooted.{Rooted, IsCactus, sides_of}
use Rattle.rooted_cactus.specs.declared.tree.Node.{Node}
use Rattle.rooted_cactus.specs.declared.tree.Block.{Block, out-Block}
use Rattle.rooted_cactus.specs.declared.tree.Blocks.{Blocks}
use Rattle.rooted_cactus.specs.declared.tree.Children.{Children}
use Rattle.rooted_cactus.specs.declared.tree.Block.TheVariants.{rolls-Bridge, rolls-Cycle}
use Rattle.rooted_cactus.specs.declared.tree.Block.TheOpen as Open
use Rattle.rooted_cactus.specs.declared.tree.Block.TheOpen.{Block-F}
use Rattle.rooted_cactus.specs.declared.tree.Block.TheViews.{roll-Block, roll-out-Block}
use Rattle.rooted_cactus.proofs.Parts.{part_out, bridge_part, cycle_part}
use Rattle.rooted_cactus.proofs.Widths.{widths_out, widths_cycle}

begins : {X : Type 0} (x : X) (xs zs : List X) → zs ≡ x ∷ xs → zs ≢ []
begins x xs zs e none = let same : x ∷ xs ≡ [] = sym e ∙ none in cc

some_from_here : (s : VertexSet) (ss rest zs : List VertexSet) → zs ≡ from_here s ss ++ rest → zs ≢ []
some_from_here s [] rest zs e = begins s rest zs e
some_from_here s (t ∷ ts) rest zs e = begins s (from_here (either s t) ts ++ rest) zs e

some_interval : (xs : List Node) (rest zs : List VertexSet) → 2 ≤ length xs → zs ≡ intervals (belows (map part xs)) ++ rest → zs ≢ []
some_interval [] rest zs two e = absurd (omega arith)
some_interval (x ∷ xs) rest zs two e =
    let first = from_here (below x) (belows (map part xs)) in
    let others = intervals (belows (map part xs)) in
    some_from_here (below x) (belows (map part xs)) (others ++ rest) zs (e ∙ append_assoc first others rest)

abbrev AreWide : List ℕ → Type 0
AreWide = All (λ k. 2 ≤ k)

block_case : (y : Block-F Block Blocks Children Node) → AreWide (block_widths (roll-Block y)) → (block_part (roll-Block y)).cuts ≢ []
block_case (Open.Bridge child) wide =
    begins (below child.value) (cuts child.value) (block_part (roll-Block (Open.Bridge child))).cuts
    (ap (λ b. (block_part b).cuts) (rolls-Bridge child) ∙ ap (λ (p : Part). p.cuts) (bridge_part child))
block_case (Open.Cycle nodes) wide =
    let is : block_widths (roll-Block (Open.Cycle nodes)) ≡ length (map widths (nodes_in nodes)) ∷ joined (map widths (nodes_in nodes)) =
    ap block_widths (rolls-Cycle nodes) ∙ widths_cycle nodes in
    let two : 2 ≤ length (map widths (nodes_in nodes)) =
    All-head (λ k. 2 ≤ k) (length (map widths (nodes_in nodes))) (joined (map widths (nodes_in nodes))) (subst AreWide is wide) in
    some_interval (nodes_in nodes) (all_cuts (map part (nodes_in nodes))) (block_part (roll-Block (Open.Cycle nodes))).cuts
    (omega (arith, length-map (nodes_in nodes) widths))
    (ap (λ b. (block_part b).cuts) (rolls-Cycle nodes) ∙ ap (λ (p : Part). p.cuts) (cycle_part nodes))

some_of_block : (b : Block) → AreWide (block_widths b) → (block_part b).cuts ≢ []
some_of_block b wide =
    subst (λ z. (block_part z).cuts ≢ []) (roll-out-Block b)
    (block_case (out-Block b) (subst (λ z. AreWide (block_widths z)) (sym (roll-out-Block b)) wide))

none_left : {X : Type 0} (xs ys : List X) → xs ++ ys ≡ [] → xs ≡ []
none_left [] ys e = refl
none_left (x ∷ xs) ys e = absurd (begins x (xs ++ ys) (x ∷ (xs ++ ys)) refl e)

none_mapped : {X Y : Type 0} (f : X → Y) (xs : List X) → map f xs ≡ [] → xs ≡ []
none_mapped f [] e = refl
none_mapped f (x ∷ xs) e = absurd (begins (f x) (map f xs) (f x ∷ map f xs) refl e)

some_of_first : (bs : List Block) → bs ≢ [] → AreWide (joined (map block_widths bs)) → all_cuts (map block_part bs) ≢ []
some_of_first [] some wide = absurd (some refl)
some_of_first (b ∷ bs) some wide = λ none.
    some_of_block b (All-front (λ k. 2 ≤ k) (block_widths b) (joined (map block_widths bs)) wide)
    (none_left (block_part b).cuts (all_cuts (map block_part bs)) none)

pub some_side : (c : Rooted) → IsCactus c.vertices c.root → blocks c.root ≢ [] → sides_of c ≢ []
some_side c is some none =
    some_of_first (blocks c.root) some (subst AreWide (widths_out c.root) is.wide)
    (ap (λ (p : Part). p.cuts) (sym (part_out c.root)) ∙ none_mapped (λ s. filter s (range_with_len 1 c.vertices)) (cuts c.root) none)
