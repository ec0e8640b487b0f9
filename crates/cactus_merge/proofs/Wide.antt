-- The number of children of the cycles that are joined.
use Rattle.std.proofs.Common.{◌≡◌, ℕ, ◌≤◌, ◌<◌, List, [], ◌∷◌, ◌++◌, length, map, drop, sym, ◌∙◌, ap, subst, arith}
use Rattle.std.specs.List.{All}
use Rattle.std.proofs.lemmas.List.{length-append, length-map, length-drop}
use Rattle.std.proofs.lemmas.List.Elements.{All-append, All-cons, All-head, All-nil, All-drop}
use Rattle.cut_definitions.proofs.ListLaws.{All-front, All-back}
use Rattle.rooted_cactus.specs.Trees.{blocks, nodes_in}
use Rattle.rooted_cactus.specs.Widths.{widths, block_widths, joined}
use Rattle.rooted_cactus.specs.declared.tree.Node.{Node}
use Rattle.rooted_cactus.specs.declared.tree.Block.{Block}
use Rattle.rooted_cactus.specs.declared.tree.Block.TheVariants.{Cycle}
use Rattle.rooted_cactus.specs.declared.tree.Children.{Children}
use Rattle.rooted_cactus.proofs.Widths.{widths_out, widths_cycle}
use Rattle.cactus_merge.specs.Joined.{IsWide, IsWideBlock}

abbrev Two : ℕ → Type 0
Two k = 2 ≤ k

pub all_joined : {X : Type 0} (f : X → List ℕ) (xs : List X) → All (λ x. All Two (f x)) xs → All Two (joined (map f xs))
all_joined f [] h = All-nil Two
all_joined f (x ∷ xs) h = All-append Two (f x) (joined (map f xs)) (All-head (λ y. All Two (f y)) x xs h) (all_joined f xs (All-back (λ y. All Two (f y)) (x ∷ []) xs h))

-- the last element of a list, and those before it
pub popped_wide : {X : Type 0} (P : X → Type 0) (cur new : List X) (x : X) → cur ≡ new ++ x ∷ [] → All P cur → All P new × P x
popped_wide P cur new x e h =
    let a = subst (All P) e h in
    (All-front P new (x ∷ []) a, All-head P x [] (All-back P new (x ∷ []) a))

joined_push : {X : Type 0} (f : X → List ℕ) (xs : List X) (y : X) → All Two (joined (map f xs)) → All Two (f y) → All Two (joined (map f (xs ++ y ∷ [])))
joined_push f [] y h k = All-append Two (f y) [] k (All-nil Two)
joined_push f (x ∷ xs) y h k = All-append Two (f x) (joined (map f (xs ++ y ∷ []))) (All-front Two (f x) (joined (map f xs)) h) (joined_push f xs y (All-back Two (f x) (joined (map f xs)) h) k)

pub hung_wide : (x y : Node) (b : Block) → blocks y ≡ blocks x ++ b ∷ [] → IsWide x → IsWideBlock b → IsWide y
hung_wide x y b f h k =
    subst (All Two) (sym (widths_out y ∙ ap (λ bs. joined (map block_widths bs)) f)) (joined_push block_widths (blocks x) b (subst (All Two) (widths_out x) h) k)

pub empty_wide : (x : Node) → blocks x ≡ [] → IsWide x
empty_wide x e = subst (All Two) (sym (widths_out x ∙ ap (λ bs. joined (map block_widths bs)) e)) (All-nil Two)

pub cycle_wide : (nodes : Children) → 2 ≤ length (nodes_in nodes) → All IsWide (nodes_in nodes) → IsWideBlock (Cycle nodes)
cycle_wide nodes n h =
    subst (All Two) (sym (widths_cycle nodes))
    (All-cons Two (length (map widths (nodes_in nodes))) (joined (map widths (nodes_in nodes))) (omega (arith, n, length-map (nodes_in nodes) widths)) (all_joined widths (nodes_in nodes) h))

-- the nodes of a run and the node at its far end
pub run_wide : (nodes : Children) (all : List Node) (first : ℕ) (end : Node) → nodes_in nodes ≡ drop first all ++ end ∷ [] → first < length all → All IsWide all → IsWide end → IsWideBlock (Cycle nodes)
run_wide nodes all first end e some h k =
    cycle_wide nodes (omega (arith, ap length e, length-append (drop first all) (end ∷ []), length-drop first all))
    (subst (All IsWide) (sym e) (All-append IsWide (drop first all) (end ∷ []) (All-drop IsWide first all h) (All-cons IsWide end [] k (All-nil IsWide))))
