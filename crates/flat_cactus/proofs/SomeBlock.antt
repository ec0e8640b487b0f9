-- The cactus of a graph that has a cut has a block.
use Rattle.std.proofs.Common.{◌≡◌, ℕ, ◌≤◌, List, [], ◌∷◌, map, length, ap, ◌∙◌, subst, refl, arith}
use Rattle.std.specs.List.{Contains, filter, range_with_len}
use Rattle.cut_definitions.specs.Cuts.{mincuts}
use Rattle.cut_definitions.specs.Graph.{Graph}
use Rattle.cut_definitions.specs.Members.{SameMembers}
use Rattle.cut_definitions.specs.Weight.{VertexSet}
use Rattle.cut_definitions.proofs.Values.{value_is_weight, Contains-mincuts}
use Rattle.rooted_cactus.specs.Rooted.{Rooted, sides_of}
use Rattle.rooted_cactus.specs.Sides.{Part, block_part, cuts, together}
use Rattle.rooted_cactus.specs.Trees.{blocks}
use Rattle.rooted_cactus.specs.declared.tree.Node.{Node}
use Rattle.rooted_cactus.proofs.Parts.{part_out}

no_cuts : (x : Node) → blocks x ≡ [] → cuts x ≡ []
no_cuts x e = ap (λ (q : Part). q.cuts) (part_out x) ∙ ap (λ bs. (together (map block_part bs)).cuts) e

-- a cactus of one node has no side
pub no_sides : (c : Rooted) → blocks c.root ≡ [] → sides_of c ≡ []
no_sides c e = ap (λ (ss : List VertexSet). map (λ s. filter s (range_with_len 1 c.vertices)) ss) (no_cuts c.root e)

-- a graph of two or more vertices has a minimum cut
pub not_alone : (g : Graph) (c : Rooted) → 2 ≤ g.vertices → SameMembers (sides_of c) (mincuts g) → blocks c.root ≡ [] → ⊥
not_alone g c two same none =
    let least = value_is_weight g two in
    let m : Contains (mincuts g) least.0 = Contains-mincuts g least.0 least.1 least.2 in
    let gone : Contains [] least.0 = subst (λ (l : List (List ℕ)). Contains l least.0) (no_sides c none) ((same least.0).1 m) in
    omega (arith, gone.1)

some_length : {X : Type 0} (xs : List X) → (xs ≡ [] → ⊥) → 1 ≤ length xs
some_length [] some = absurd (some refl)
some_length (x ∷ xs) some = omega arith

pub some_block : (g : Graph) (c : Rooted) → 2 ≤ g.vertices → SameMembers (sides_of c) (mincuts g) → 1 ≤ length (blocks c.root)
some_block g c two same = some_length (blocks c.root) (not_alone g c two same)
