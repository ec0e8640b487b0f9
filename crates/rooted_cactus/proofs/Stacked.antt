-- Nodes and blocks that are put on a stack from the last to the first.
use Rattle.std.proofs.Common.{◌≡◌, ℕ, zero, suc, ◌+◌, ◌-◌, ◌≤◌, ◌<◌, List, [], ◌∷◌, ◌++◌, length, get_or, drop, map, ap, ◌∙◌, sym, refl, arith}
use Rattle.std.specs.List.{flat_map}
use Rattle.std.proofs.lemmas.List.{append_assoc, length-append}
use Rattle.rooted_cactus.specs.Outlines.{Outline, outline, block_outline, entries_with, block_entries, all_outlines}
use Rattle.rooted_cactus.specs.Heads.{entries_waiting}
use Rattle.rooted_cactus.specs.Trees.{blocks}
use Rattle.rooted_cactus.specs.Entries.{nodes_of}
use Rattle.rooted_cactus.specs.declared.tree.outline.NodeOutline.{NodeOutline}
use Rattle.rooted_cactus.specs.declared.tree.outline.Seen.{Seen}
use Rattle.rooted_cactus.specs.declared.tree.Node.{Node}
use Rattle.rooted_cactus.specs.declared.tree.Block.{Block}
use Rattle.rooted_cactus.proofs.Outlined.{outline_out, outline_bridge, outline_cycle}
use Rattle.rooted_cactus.proofs.Walks.{by_nodes}
use Rattle.rooted_cactus.proofs.Entries.{top_push}
use Rattle.rooted_cactus.proofs.Drops.{drop_at}

-- the entries of the nodes of a block from a place on
abbrev pub entries_from : ℕ → List Outline → List NodeOutline
entries_from zero os = block_entries os
entries_from (suc _) os = flat_map (entries_with 0) os

pub waiting_push : (xs : List Seen) (x : Seen) → entries_waiting (xs ++ x ∷ []) ≡ entries_with x.head (outline x.node.now) ++ entries_waiting xs
waiting_push xs x = ap (flat_map (λ (s : Seen). entries_with s.head (outline s.node.now))) (top_push xs x)

from_place : (i head : ℕ) (o : Outline) (os : List Outline) → (i ≡ 0 → head ≡ length (o ∷ os)) → (0 < i → head ≡ 0) → entries_with head o ++ flat_map (entries_with 0) os ≡ entries_from i (o ∷ os)
from_place zero head o os f g = ap (λ k. entries_with k o ++ flat_map (entries_with 0) os) (f refl)
from_place (suc i) head o os f g = ap (λ k. entries_with k o ++ flat_map (entries_with 0) os) (g (omega arith))

rest_from : (i : ℕ) (os : List Outline) → 0 < i → entries_from i os ≡ flat_map (entries_with 0) os
rest_from zero os h = absurd (omega (arith, h))
rest_from (suc i) os h = refl

pub outline_nodes : (b : Block) → block_outline b ≡ map outline (nodes_of b)
outline_nodes = by_nodes block_outline (map outline) outline_bridge outline_cycle

-- one more node of a block, with its head
pub stacked_node : (xs : List Node) (i head : ℕ) (x : Node) (before after rest : List NodeOutline) → 0 < i → i ≤ length xs → x ≡ get_or xs (i - 1) x →
    (i - 1 ≡ 0 → head ≡ length xs) → (0 < i - 1 → head ≡ 0) →
    before ≡ entries_from i (map outline (drop i xs)) ++ rest → after ≡ entries_with head (outline x) ++ before → after ≡ entries_from (i - 1) (map outline (drop (i - 1) xs)) ++ rest
stacked_node xs i head x before after rest some within is first others b a =
    let here : drop (i - 1) xs ≡ x ∷ drop i xs = drop_at xs i x some within is in
    let os = map outline (drop i xs) in
    let all : i - 1 ≡ 0 → head ≡ length (outline x ∷ os) = λ e. first e ∙ ap length (sym (ap (λ k. drop k xs) e)) ∙ ap length here ∙ sym (length_mapped (x ∷ drop i xs)) in
    a ∙ ap (λ l. entries_with head (outline x) ++ l) (b ∙ ap (λ l. l ++ rest) (rest_from i os some))
    ∙ sym (append_assoc (entries_with head (outline x)) (flat_map (entries_with 0) os) rest)
    ∙ ap (λ l. l ++ rest) (from_place (i - 1) head (outline x) os all others)
    ∙ ap (λ l. entries_from (i - 1) (map outline l) ++ rest) (sym here)
  where
    length_mapped : (ys : List Node) → length (map outline ys) ≡ length ys
    length_mapped [] = refl
    length_mapped (y ∷ ys) = ap suc (length_mapped ys)

-- the nodes of one more block
pub stacked_block : (bs : List Block) (i : ℕ) (x : Block) (before after rest : List NodeOutline) → 0 < i → i ≤ length bs → x ≡ get_or bs (i - 1) x →
    before ≡ flat_map block_entries (map block_outline (drop i bs)) ++ rest → after ≡ block_entries (block_outline x) ++ before → after ≡ flat_map block_entries (map block_outline (drop (i - 1) bs)) ++ rest
stacked_block bs i x before after rest some within is b a =
    let here : drop (i - 1) bs ≡ x ∷ drop i bs = drop_at bs i x some within is in
    a ∙ ap (λ l. block_entries (block_outline x) ++ l) b
    ∙ sym (append_assoc (block_entries (block_outline x)) (flat_map block_entries (map block_outline (drop i bs))) rest)
    ∙ ap (λ l. flat_map block_entries (map block_outline l) ++ rest) (sym here)

pub stacked_length : (bs : List Block) (i before after rest : ℕ) (x : Block) → 0 < i → i ≤ length bs → x ≡ get_or bs (i - 1) x →
    before ≡ rest + length (all_outlines (map block_outline (drop i bs))) → after ≡ before + length (block_outline x) → after ≡ rest + length (all_outlines (map block_outline (drop (i - 1) bs)))
stacked_length bs i before after rest x some within is b a =
    let here : drop (i - 1) bs ≡ x ∷ drop i bs = drop_at bs i x some within is in
    let both : length (all_outlines (map block_outline (drop (i - 1) bs))) ≡ length (block_outline x) + length (all_outlines (map block_outline (drop i bs))) =
    ap (λ l. length (all_outlines (map block_outline l))) here ∙ length-append (block_outline x) (all_outlines (map block_outline (drop i bs))) in
    omega arith

-- a node is taken off the stack, its entry is kept, and the nodes right below it are put there
pub entered_one : (x : Node) (e : NodeOutline) (kept more before after rest : List NodeOutline) → before ≡ entries_with e.head (outline x) ++ rest → after ≡ flat_map block_entries (map block_outline (blocks x)) ++ rest →
    e.children ≡ length (all_outlines (map block_outline (blocks x))) → more ≡ kept ++ e ∷ [] → (length after < length before) × (more ++ after ≡ kept ++ before)
entered_one x e kept more before after rest b a c m =
    let out = outline_out x in
    let whole : before ≡ e ∷ after =
    b ∙ ap (λ o. entries_with e.head o ++ rest) out
    ∙ ap (λ k. (let y : NodeOutline = record { children = k; head = e.head } in y) ∷ (flat_map block_entries (map block_outline (blocks x)) ++ rest)) (sym c)
    ∙ ap (λ l. e ∷ l) (sym a) in
    (omega (arith, ap length whole), ap (λ l. l ++ after) m ∙ append_assoc kept (e ∷ []) after ∙ ap (λ l. kept ++ l) (sym whole))
