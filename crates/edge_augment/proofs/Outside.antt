-- Each cut has the set of an end node inside and that of another outside.
use Rattle.std.proofs.Common.{◌≡◌, ℕ, ◌⊎◌, inl, inr, false, List, [], ◌∷◌, ◌++◌, map, refl, ◌∙◌, subst}
use Rattle.std.specs.List.{Contains, flat_map}
use Rattle.std.proofs.lemmas.Bool.{or_left}
use Rattle.std.proofs.lemmas.List.Elements.{Contains-append_left, Contains-append_right, Contains-append_cases}
use Rattle.cut_definitions.specs.Weight.{VertexSet}
use Rattle.cut_definitions.specs.Cuts.{has}
use Rattle.cut_definitions.proofs.Lists.{Contains-here, Contains-there, Contains-cons_cases, Contains-nil}
use Rattle.rooted_cactus.specs.Sides.{block_part, all_cuts}
use Rattle.rooted_cactus.specs.Entered.{entered_block, in_order}
use Rattle.rooted_cactus.specs.declared.tree.Block.{Block}
use Rattle.rooted_cactus.proofs.Segments.{has_append_at}
use Rattle.edge_augment.specs.Ends.{block_leaves, ends_of}
use Rattle.rooted_cactus.proofs.Sets.{IsIn, HasOne, Apart}
use Rattle.rooted_cactus.proofs.Clean.{IsClean, clean_apart, clean_right}
use Rattle.rooted_cactus.proofs.Views.{each}
use Rattle.rooted_cactus.proofs.Within.{Lists, of_lists, of_left, block_within, block_below, blocks_within}
use Rattle.edge_augment.proofs.OwnCuts.{BlockOwn, block_own, own_blocks}
use Rattle.edge_augment.proofs.Inside.{HasInside, AreFine, IsFull, block_rich, cuts_rich, leaves_full, fine_split}

-- sets within two parts of a clean list are apart
pub apart_in : (n : ℕ) (ls ms : Lists) (s t : VertexSet) → IsClean n (ls ++ ms) → IsIn s (of_lists ls) → IsIn t (of_lists ms) → Apart s t
apart_in n ls ms s t c a b v h k = clean_apart n ls ms c v (a v h) (b v k)

pub own_within : (own : List ℕ) → IsIn (has own) (of_lists (own ∷ []))
own_within own v h = has_append_at own [] v ∙ or_left (has own v) false h

-- ---- inside
pub ends_inside : (own : List ℕ) (bs : List Block) → AreFine bs → (s : VertexSet) → Contains (all_cuts (map block_part bs)) s → HasInside (ends_of own (map block_leaves bs)) s
ends_inside own [] f s c = absurd (Contains-nil s c)
ends_inside own (b ∷ []) f s c = elim (Contains-append_cases (block_part b).cuts [] s c) [
  | inl k ↦ (let r = (block_rich b (fine_split b [] f).0).0.each_cut s k in (r.0, Contains-there own (block_leaves b) r.0 r.1, r.2))
  | inr k ↦ absurd (Contains-nil s k)
]
ends_inside own (b ∷ (c ∷ cs)) f s h = cuts_rich (b ∷ (c ∷ cs)) f s h

-- ---- outside
pub ends_outside : (n : ℕ) (own : List ℕ) (bs : List Block) → IsClean n (own ∷ flat_map entered_block bs) → AreFine bs →
    (s : VertexSet) → Contains (all_cuts (map block_part bs)) s → (l : List ℕ) × Contains (ends_of own (map block_leaves bs)) l × Apart (has l) s
ends_outside n own [] clean f s c = absurd (Contains-nil s c)
ends_outside n own (b ∷ []) clean f s c = (
  own,
  Contains-here own (block_leaves b),
  apart_in n (own ∷ []) (flat_map entered_block (b ∷ [])) (has own) s clean (own_within own) (blocks_within (b ∷ []) s c),
)
ends_outside n own (b ∷ (c ∷ cs)) clean f s h =
    let rest = flat_map entered_block (c ∷ cs) in
    let below : IsClean n (flat_map entered_block (b ∷ (c ∷ cs))) = clean_right n (own ∷ []) (flat_map entered_block (b ∷ (c ∷ cs))) clean in
    let g = fine_split b (c ∷ cs) f in
    elim (Contains-append_cases (block_part b).cuts (all_cuts (map block_part (c ∷ cs))) s h) [
      | inl k ↦ (let one = (block_rich c (fine_split c cs g.1).0).0.some in (
        one.0,
        Contains-append_right (block_leaves b) (block_leaves c ++ in_order (map block_leaves cs)) one.0
            (Contains-append_left (block_leaves c) (in_order (map block_leaves cs)) one.0 one.1),
        (λ v hl hs. apart_in n (entered_block b) rest s (has one.0) below (block_within b s k) (λ w e. of_left (entered_block c) (flat_map entered_block cs) w (block_below c w (one.2 w e))) v hs hl),
      ))
      | inr k ↦ (let one = (block_rich b g.0).0.some in (
        one.0,
        Contains-append_left (block_leaves b) (block_leaves c ++ in_order (map block_leaves cs)) one.0 one.1,
        apart_in n (entered_block b) rest (has one.0) s below (λ w e. block_below b w (one.2 w e)) (blocks_within (c ∷ cs) s k),
      ))
    ]

-- ---- none is empty
pub ends_full : (own : List ℕ) (bs : List Block) → HasOne (has own) → AreFine bs → IsFull (ends_of own (map block_leaves bs))
ends_full own [] one f l c = absurd (Contains-nil l c)
ends_full own (b ∷ []) one f l c = elim (Contains-cons_cases own (block_leaves b) l c) [
  | inl e ↦ subst (λ m. HasOne (has m)) e one
  | inr k ↦ (block_rich b (fine_split b [] f).0).1 l k
]
ends_full own (b ∷ (c ∷ cs)) one f l h = leaves_full (b ∷ (c ∷ cs)) f l h

-- ---- each is a cut, or that of a root with one block
abbrev pub IsRootEnd : List ℕ → List Block → List ℕ → Type 0
IsRootEnd own bs l = (own ≡ l) × (b : Block) × (bs ≡ b ∷ [])

pub ends_cut : (own : List ℕ) (bs : List Block) (l : List ℕ) → Contains (ends_of own (map block_leaves bs)) l → Contains (all_cuts (map block_part bs)) (has l) ⊎ IsRootEnd own bs l
ends_cut own [] l c = absurd (Contains-nil l c)
ends_cut own (b ∷ []) l c = elim (Contains-cons_cases own (block_leaves b) l c) [
  | inl e ↦ inr (e, b, refl)
  | inr k ↦ inl (Contains-append_left (block_part b).cuts [] (has l) (block_own b l k))
]
ends_cut own (b ∷ (c ∷ cs)) l h = inl (own_blocks (b ∷ (c ∷ cs)) (each BlockOwn block_own (b ∷ (c ∷ cs))) l h)
