-- Stars and leaves stand for what was read.
use Rattle.std.proofs.Common.{◌≡◌, ℕ, false, List, [], ◌∷◌, ◌++◌, length, ap, ◌∙◌, sym, refl, subst, arith}
use Rattle.std.specs.Prelude.{◌==◌}
use Rattle.std.proofs.Math.Bool.{and-false}
use Rattle.std.proofs.lemmas.Bool.{false≢true}
use Rattle.std.proofs.lemmas.List.{length-append}
use Rattle.std.proofs.lemmas.List.Sorted.{IsPermutation-refl, IsNonDecreasingBy-short}
use Rattle.cut_definitions.specs.Weight.{VertexSet}
use Rattle.cut_definitions.specs.Cuts.{has}
use Rattle.rooted_cactus.specs.declared.tree.Node.{Node}
use Rattle.rooted_cactus.specs.Trees.{vertices, blocks}
use Rattle.rooted_cactus.specs.Trims.{IsBridgeTo, is_spare}
use Rattle.rooted_cactus.specs.Entries.{Read, bridge_read, node_read, top_first}
use Rattle.rooted_cactus.proofs.Entries.{top_push}
use Rattle.canonical_cactus.specs.Making.{IsNodeOf, IsBlockOf, AreNodesOf, key_of}
use Rattle.canonical_cactus.specs.Standing.{least_in}
use Rattle.canonical_cactus.specs.declared.parts.Placed.{Placed}
use Rattle.canonical_cactus.specs.declared.parts.Hung.{Hung}
use Rattle.canonical_cactus.proofs.Ordered.{node_finished}
use Rattle.canonical_cactus.proofs.Spared.{hung_shows}

-- ---- two nodes are taken off the end of their list
pub two_popped : (nodes middle left : List Placed) (x y : Placed) → nodes ≡ middle ++ x ∷ [] → middle ≡ left ++ y ∷ [] → length nodes ≡ 2 → top_first nodes ≡ x ∷ (y ∷ [])
two_popped nodes middle [] x y e f two = ap top_first e ∙ top_push middle x ∙ ap (λ l. x ∷ top_first l) f
two_popped nodes middle (z ∷ zs) x y e f two = absurd (omega (arith, two, ap length e, ap length f, length-append middle (x ∷ []), length-append zs (y ∷ [])))

pub two_read : (rs : List Read) (x y : Placed) → AreNodesOf rs (x ∷ (y ∷ [])) → (r : Read) × (s : Read) × (rs ≡ r ∷ (s ∷ [])) × IsNodeOf r x × IsNodeOf s y
two_read [] x y a = absurd a
two_read (r ∷ []) x y a = absurd a.1
two_read (r ∷ (s ∷ [])) x y a = (r, s, refl, a.0, a.1.0)
two_read (r ∷ (s ∷ (t ∷ rs))) x y a = absurd a.1.1

-- ---- a node without blocks stays in its box
pub leaf_drawn : (sets : List ℕ → VertexSet) (own : List ℕ) (x : Node) (h : Hung) → sets ≡ has → IsBridgeTo h.block x → vertices x ≡ own → blocks x ≡ [] → h.least ≡ least_in own →
    IsBlockOf (bridge_read (node_read sets own [])) h
leaf_drawn sets own x h are is v none l =
    let p : Placed = record { node = x; least = h.least } in
    let stays : is_spare (vertices x) (blocks x) ≡ false = ap (is_spare (vertices x)) none ∙ and-false (length (vertices x) == 0) in
    subst (λ (t : List ℕ → VertexSet). IsBlockOf (bridge_read (node_read t own [])) h) (sym are)
    (hung_shows (node_read has own []) p h refl (λ t. absurd (false≢true (sym stays ∙ t))) (λ f. is)
    (node_finished own [] [] [] p (IsPermutation-refl []) (IsNonDecreasingBy-short key_of [] (omega arith)) v none l tt))
