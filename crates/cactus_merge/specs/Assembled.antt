-- The sides of a chain with the cactuses of its parts.
use Rattle.std.specs.Prelude.{ℕ, Bool, not, ◌≡◌, ◌==◌, ◌+◌, ◌-◌, ◌<◌, ◌≤◌, ◌&&◌, ◌||◌, if◌then◌else◌, nat_lt, List, [], ◌∷◌, ◌++◌, length, map, slice_index_or}
use Rattle.std.specs.List.{All, Contains, filter, flat_map, list_any, range_with_len}
use Rattle.cut_definitions.specs.Weight.{VertexSet}
use Rattle.cut_definitions.specs.Cuts.{has, IsAscendingWithin}
use Rattle.cut_definitions.specs.Chain.{parts_between}
use Rattle.residual_chain.specs.declared.run.Run.{Run}
use Rattle.residual_chain.specs.Chain.{ChainView}
use Rattle.arc_search.specs.Marks.{mark_of}
use Rattle.rooted_cactus.specs.Rooted.{sides_of, places}
use Rattle.rooted_cactus.specs.Sides.{cuts}
use Rattle.rooted_cactus.specs.Entered.{entered}
use Rattle.rooted_cactus.specs.Trees.{vertices}
use Rattle.rooted_cactus.specs.Widths.{widths}
use Rattle.rooted_cactus.specs.declared.tree.Node.{Node}
use Rattle.cactus_merge.specs.declared.part.PartCactus.{PartCactus}

-- the vertices of 1 to n in a set
abbrev pub set_list : ℕ → VertexSet → List ℕ
set_list n s = filter s (range_with_len 1 n)

-- the vertices of the parts from `first` to `last`
abbrev pub side_between : ChainView → ℕ → ℕ → List ℕ
side_between c first last = set_list (length c.numbers) (parts_between (mark_of c.numbers) first last)

-- the sides of the cuts of the chain, without its first part
abbrev pub chain_sides : ChainView → List (List ℕ)
chain_sides c = map (λ first. side_between c first c.parts) (range_with_len 2 (c.parts - 1))

-- the unions of the intervals of the parts from `first` on, this many
abbrev pub interval_sides : ChainView → ℕ → ℕ → List (List ℕ)
interval_sides c first count = flat_map (λ a. map (λ b. side_between c a b) (range_with_len a (first + count - a))) (range_with_len first count)

-- the unions of the intervals inside a run
abbrev pub run_sides : ChainView → Run → List (List ℕ)
run_sides c r = interval_sides c r.first (r.last + 1 - r.first)

-- whether a vertex of a part's cactus represents a vertex: 1 each that is not in the list, and j + 1 the j-th of it
abbrev pub stands_for : List ℕ → ℕ → ℕ → Bool
stands_for own u v = if u == 1 then not (has own v) else slice_index_or own (u - 2) 0 == v

-- the vertices of 1 to n that the vertices of a side represent
abbrev pub lifted_side : ℕ → List ℕ → List ℕ → List ℕ
lifted_side n own side = set_list n (λ v. list_any (λ u. stands_for own u v) side)

-- the lifted sides of the cactus of a part
abbrev pub part_sides : ℕ → PartCactus → List (List ℕ)
part_sides n p = map (lifted_side n p.own) (sides_of p.cactus)

-- the sides of the chain, of the intervals inside its runs, and of the cactuses of its parts
abbrev pub assembled_sides : ChainView → List PartCactus → List (List ℕ)
assembled_sides c parts = chain_sides c ++ (flat_map (run_sides c) c.runs ++ flat_map (part_sides (length c.numbers)) parts)

-- whether a vertex is in a part, and is no end of the chain
abbrev pub is_own : ChainView → ℕ → VertexSet
is_own c number v = mark_of c.numbers v == number && not (v == c.s || v == c.t)

-- the list has, ascending, the vertices of the part other than the ends of the chain, and the cactus is over one more
pub record IsPartOf (c : ChainView) (number : ℕ) (p : PartCactus) : Type 0 where
  pub ascending : IsAscendingWithin 1 (length c.numbers) p.own
  pub exact : (v : ℕ) → 1 ≤ v → v ≤ length c.numbers → has p.own v ≡ is_own c number v
  pub one_more : p.cactus.vertices ≡ length p.own + 1

-- one entry for each part of a chain from vertex 1, in order
pub record ArePartsOf (c : ChainView) (parts : List PartCactus) : Type 0 where
  pub from_one : c.s ≡ 1
  pub as_many : length parts ≡ c.parts
  pub each : (i : ℕ) (p : PartCactus) → i < c.parts → IsPartOf c (i + 1) (slice_index_or parts i p)

-- the table of the names of the vertices of a part's cactus
abbrev pub names_by : List ℕ → List ℕ
names_by own = 0 ∷ 1 ∷ own

-- an ascending list with one number more, in its place by size
abbrev pub inserted : ℕ → List ℕ → List ℕ
inserted x [] = x ∷ []
inserted x (y ∷ ys) = if nat_lt y x then y ∷ inserted x ys else x ∷ y ∷ ys

-- a node has the vertices of a part, each in one place, and the lifted cuts of the part's cactus
pub record IsNodeOf (c : ChainView) (number : ℕ) (p : PartCactus) (x : Node) : Type 0 where
  pub sides : map (set_list (length c.numbers)) (cuts x) ≡ part_sides (length c.numbers) p
  pub ascending : All (IsAscendingWithin 1 (length c.numbers)) (entered x)
  pub placed : (v : ℕ) → 1 ≤ v → v ≤ length c.numbers → places x v ≡ (if mark_of c.numbers v == number then 1 else 0)
  pub wide : All (λ k. 2 ≤ k) (widths x)
  pub first : number ≡ 1 → Contains (vertices x) 1

-- the nodes of the parts, in order
pub record AreNodesOf (c : ChainView) (parts : List PartCactus) (nodes : List Node) : Type 0 where
  pub as_many : length nodes ≡ c.parts
  pub each : (i : ℕ) (p : PartCactus) (x : Node) → i < c.parts → IsNodeOf c (i + 1) (slice_index_or parts i p) (slice_index_or nodes i x)
