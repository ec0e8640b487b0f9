-- The nodes that are not empty, in the order of entering.
use Rattle.std.proofs.Common.{◌≡◌, Bool, length, drop, List, [], ◌∷◌, ◌++◌, ℕ, refl, sym, ◌∙◌, ap}
use Rattle.std.specs.List.{filter, flat_map}
use Rattle.std.proofs.lemmas.List.{append-nil, append_assoc}
use Rattle.std.proofs.Math.Seq.{drop-length}
use Rattle.std.proofs.lemmas.List.Concat.{flat_map-append}
use Rattle.std.proofs.lemmas.List.Elements.{filter-append}
use Rattle.rooted_cactus.specs.Entered.{entered, entered_block}
use Rattle.rooted_cactus.specs.Trees.{vertices, blocks, nodes_in}
use Rattle.rooted_cactus.specs.declared.tree.Node.{Node}
use Rattle.rooted_cactus.specs.declared.tree.Block.{Block}
use Rattle.rooted_cactus.specs.declared.tree.Block.TheVariants.{Cycle}
use Rattle.rooted_cactus.specs.declared.tree.Children.{Children}
use Rattle.rooted_cactus.proofs.Orders.{entered_out, entered_cycle, hung_entered}
use Rattle.cactus_merge.specs.Joined.{has_some, held, block_held}

filter_each : {X Y : Type 0} (p : Y → Bool) (f : X → List Y) (xs : List X) → filter p (flat_map f xs) ≡ flat_map (λ x. filter p (f x)) xs
filter_each p f [] = refl
filter_each p f (x ∷ xs) = filter-append p (f x) (flat_map f xs) ∙ ap (λ l. filter p (f x) ++ l) (filter_each p f xs)

-- one more block at the end of a node's list
pub hung_held : (x y : Node) (b : Block) → vertices y ≡ vertices x → blocks y ≡ blocks x ++ b ∷ [] → held y ≡ held x ++ block_held b
hung_held x y b e f = ap (filter has_some) (hung_entered x y b e f) ∙ filter-append has_some (entered x) (entered_block b)

pub empty_held : (x : Node) → vertices x ≡ [] → blocks x ≡ [] → held x ≡ []
empty_held x e f = ap (filter has_some) (entered_out x ∙ ap (λ l. l ∷ flat_map entered_block (blocks x)) e ∙ ap (λ bs. [] ∷ flat_map entered_block bs) f)

pub cycle_held : (nodes : Children) → block_held (Cycle nodes) ≡ flat_map held (nodes_in nodes)
cycle_held nodes = ap (filter has_some) (entered_cycle nodes) ∙ filter_each has_some entered (nodes_in nodes)

pub run_held : (xs : List Node) (end : Node) → flat_map held (xs ++ end ∷ []) ≡ flat_map held xs ++ held end
run_held xs end = flat_map-append held xs (end ∷ []) ∙ ap (λ l. flat_map held xs ++ l) (append-nil (held end))

-- one more node above what hangs
pub more_held : (node : Node) (rest : List Node) (behind : List Node) (above below last : List (List ℕ)) → above ≡ held node ++ below → below ≡ flat_map held rest ++ last → behind ≡ node ∷ rest → above ≡ flat_map held behind ++ last
more_held node rest behind above below last a b e =
    a ∙ ap (λ l. held node ++ l) b ∙ sym (append_assoc (held node) (flat_map held rest) last) ∙ ap (λ l. flat_map held l ++ last) (sym e)

-- what is taken off the front list, above what hangs
pub taken_held : (taken rest behind : List Node) (above below : List (List ℕ)) → above ≡ flat_map held taken ++ below → below ≡ flat_map held rest → behind ≡ taken ++ rest → above ≡ flat_map held behind
taken_held taken rest behind above below a b e =
    a ∙ ap (λ l. flat_map held taken ++ l) b ∙ sym (flat_map-append held taken rest) ∙ ap (flat_map held) (sym e)

-- the last node hangs alone
pub last_held : (all new : List Node) (last : Node) (hanging : List (List ℕ)) → hanging ≡ held last → drop (length new) all ≡ last ∷ [] ++ drop (length all) all → hanging ≡ flat_map held (drop (length new) all)
last_held all new last hanging a e =
    a ∙ sym (append-nil (held last)) ∙ ap (λ l. held last ++ flat_map held l) (sym (drop-length all)) ∙ ap (flat_map held) (sym e)
