-- Each block has the vertices of its nodes, and its cuts are within them.
use Rattle.std.proofs.Common.{◌≡◌, ℕ, inl, inr, true, ◌||◌, List, [], ◌∷◌, ◌++◌, map, ap, ◌∙◌, sym}
use Rattle.std.specs.List.{Contains, flat_map, concat}
use Rattle.std.proofs.lemmas.Bool.{or_left, or_right}
use Rattle.std.proofs.lemmas.List.Elements.{Contains-append_cases}
use Rattle.cut_definitions.specs.Weight.{VertexSet}
use Rattle.cut_definitions.specs.Cuts.{has}
use Rattle.cut_definitions.proofs.Lists.{Contains-nil}
use Rattle.rooted_cactus.specs.Sides.{block_part, all_cuts}
use Rattle.rooted_cactus.specs.Entered.{entered_block}
use Rattle.rooted_cactus.specs.declared.tree.Block.{Block}
use Rattle.rooted_cactus.proofs.Segments.{IsSegment, has_both}
use Rattle.rooted_cactus.proofs.Sets.{IsIn}
use Rattle.rooted_cactus.proofs.BlockLaws.{block_laid}

abbrev pub Lists : Type 0
Lists = List (List ℕ)

-- the vertices of several lists
abbrev pub of_lists : Lists → VertexSet
of_lists ls = has (concat ls)

pub of_append : (ls ms : Lists) (v : ℕ) → of_lists (ls ++ ms) v ≡ of_lists ls v || of_lists ms v
of_append ls ms v = ap (λ (s : VertexSet). s v) (has_both ls ms)

pub of_left : (ls ms : Lists) → IsIn (of_lists ls) (of_lists (ls ++ ms))
of_left ls ms v h = of_append ls ms v ∙ or_left (of_lists ls v) (of_lists ms v) h

pub of_right : (ls ms : Lists) → IsIn (of_lists ms) (of_lists (ls ++ ms))
of_right ls ms v h = of_append ls ms v ∙ or_right (of_lists ls v) (of_lists ms v) h

pub segment_within : (ls : Lists) (s : VertexSet) → IsSegment ls s → IsIn s (of_lists ls)
segment_within ls s h v e =
    let here : of_lists h.inside v ≡ true = sym (ap (λ (t : VertexSet). t v) h.set) ∙ e in
    ap (λ l. of_lists l v) h.whole ∙ of_right h.before (h.inside ++ h.behind) v (of_left h.inside h.behind v here)

-- a cut of a block is within the vertices of its nodes
pub block_within : (b : Block) (s : VertexSet) → Contains (block_part b).cuts s → IsIn s (of_lists (entered_block b))
block_within b s c = segment_within (entered_block b) s ((block_laid b).cuts s c)

pub block_below : (b : Block) → IsIn (block_part b).below (of_lists (entered_block b))
block_below b v h = sym (ap (λ (t : VertexSet). t v) (block_laid b).below) ∙ h

pub blocks_within : (bs : List Block) (s : VertexSet) → Contains (all_cuts (map block_part bs)) s → IsIn s (of_lists (flat_map entered_block bs))
blocks_within [] s c = absurd (Contains-nil s c)
blocks_within (b ∷ bs) s c = elim (Contains-append_cases (block_part b).cuts (all_cuts (map block_part bs)) s c) [
  | inl h ↦ λ v e. of_left (entered_block b) (flat_map entered_block bs) v (block_within b s h v e)
  | inr h ↦ λ v e. of_right (entered_block b) (flat_map entered_block bs) v (blocks_within bs s h v e)
]
