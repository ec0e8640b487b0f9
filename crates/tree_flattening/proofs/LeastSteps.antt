-- The least vertices of one more node are written down.
use Rattle.std.proofs.Common.{◌≡◌, ℕ, ◌+◌, ◌<◌, ◌≤◌, inl, inr, List, [], ◌∷◌, ◌++◌, length, map, set, ap, ◌∙◌, sym, refl, subst, arith}
use Rattle.std.specs.Prelude.{slice_index, slice_index_or}
use Rattle.std.specs.List.{Contains}
use Rattle.std.proofs.lemmas.Bool.{cases_lt}
use Rattle.std.proofs.lemmas.List.{get_or-set_other, get_or-set_same}
use Rattle.cut_definitions.specs.Cuts.{least}
use Rattle.cut_definitions.proofs.Lists.{Contains-here, Contains-there}
use Rattle.node_tree.specs.Flat.{TreeLinks}
use Rattle.tree_flattening.specs.Plans.{run_of}
use Rattle.tree_flattening.specs.Arranged.{AreBelow, IsLeastOfBlock, IsLeastOfNode}
use Rattle.tree_flattening.proofs.Runs.{run_within}

-- two lists have the same from a place on
abbrev pub SameFrom : ℕ → List ℕ → List ℕ → Type 0
SameFrom k xs ys = (j : ℕ) → k ≤ j → slice_index ys j ≡ slice_index xs j

pub set_before : (k i x : ℕ) (xs : List ℕ) → i < k → SameFrom k xs (set xs i x)
set_before k i x xs lt j le = get_or-set_other xs i j x 0 (λ e. omega (arith, e, lt, le))

pub same_from : (k : ℕ) (xs : List ℕ) → SameFrom k xs xs
same_from k xs j le = refl

map_there : (k : ℕ) (xs ys places : List ℕ) → SameFrom k xs ys → ((p : ℕ) → Contains places p → k ≤ p) → map (slice_index ys) places ≡ map (slice_index xs) places
map_there k xs ys [] same there = refl
map_there k xs ys (p ∷ ps) same there =
    ap (λ x. x ∷ map (slice_index ys) ps) (same p (there p (Contains-here p ps)))
    ∙ ap (λ l. slice_index xs p ∷ l) (map_there k xs ys ps same (λ q h. there q (Contains-there p ps q h)))

-- what is said of a node stays if only numbers below the next are written
pub node_stays : (members heads : List (List ℕ)) (count i : ℕ) (nodes blocks nodes1 blocks1 : List ℕ) → AreBelow count heads → i < count → slice_index nodes1 i ≡ slice_index nodes i → SameFrom (i + 1) blocks blocks1 →
    IsLeastOfNode members heads nodes blocks i → IsLeastOfNode members heads nodes1 blocks1 i
node_stays members heads count i nodes blocks nodes1 blocks1 below lt same after h =
    let hung = slice_index_or heads i [] in
    same ∙ h ∙ ap (λ l. least (slice_index_or members i [] ++ l)) (sym (map_there (i + 1) blocks blocks1 hung after (λ p k. omega (arith, (below i p lt k).0))))

pub block_stays : (t : TreeLinks) (h : ℕ) (nodes blocks nodes1 blocks1 : List ℕ) → h < length t.uppers → slice_index blocks1 h ≡ slice_index blocks h → SameFrom h nodes nodes1 →
    IsLeastOfBlock t nodes blocks h → IsLeastOfBlock t nodes1 blocks1 h
block_stays t h nodes blocks nodes1 blocks1 lt same after k apart =
    same ∙ k apart ∙ ap least (sym (map_there h nodes nodes1 (run_of t h) after (λ p c. (run_within t h p lt c).0)))

-- one more node is written: all nodes from it on are known
pub nodes_step : (members heads : List (List ℕ)) (count k a : ℕ) (nodes blocks blocks1 : List ℕ) → AreBelow count heads → length nodes ≡ count → SameFrom (k + 1) blocks blocks1 →
    a ≡ least (slice_index_or members k [] ++ map (slice_index blocks) (slice_index_or heads k [])) →
    ((i : ℕ) → k + 1 ≤ i → i < count → IsLeastOfNode members heads nodes blocks i) → (i : ℕ) → k ≤ i → i < count → IsLeastOfNode members heads (set nodes k a) blocks1 i
nodes_step members heads count k a nodes blocks blocks1 below many after is h i le lt = elim (cases_lt k i) [
  | inl more ↦ node_stays members heads count i nodes blocks (set nodes k a) blocks1 below lt (get_or-set_other nodes k i a 0 (λ e. omega (arith, e, more))) (λ j l. after j (omega (arith, l, more))) (h i (omega (arith, more)) lt)
  | inr less ↦
      let same : i ≡ k = omega (arith, le, less) in
      let hung = slice_index_or heads k [] in
      subst (IsLeastOfNode members heads (set nodes k a) blocks1) (sym same)
      (get_or-set_same nodes k a 0 (omega (arith, same, lt, many)) ∙ is
      ∙ ap (λ l. least (slice_index_or members k [] ++ l)) (sym (map_there (k + 1) blocks blocks1 hung after (λ p c. omega (arith, (below k p (omega (arith, same, lt)) c).0)))))
]

-- one more block is written: all blocks from it on are known
pub blocks_step : (t : TreeLinks) (k a : ℕ) (nodes blocks blocks1 : List ℕ) → ((h : ℕ) → k + 1 ≤ h → slice_index blocks1 h ≡ slice_index blocks h) →
    IsLeastOfBlock t (set nodes k a) blocks1 k →
    ((h : ℕ) → k + 1 ≤ h → h < length t.uppers → IsLeastOfBlock t nodes blocks h) → (h : ℕ) → k ≤ h → h < length t.uppers → IsLeastOfBlock t (set nodes k a) blocks1 h
blocks_step t k a nodes blocks blocks1 after is b h le lt = elim (cases_lt k h) [
  | inl more ↦ block_stays t h nodes blocks (set nodes k a) blocks1 lt (after h (omega (arith, more))) (set_before h k a nodes more) (b h (omega (arith, more)) lt)
  | inr less ↦
      let same : h ≡ k = omega (arith, le, less) in
      subst (IsLeastOfBlock t (set nodes k a) blocks1) (sym same) is
]
