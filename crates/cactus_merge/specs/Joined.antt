-- The cuts of a chain of parts with runs.
use Rattle.std.specs.Prelude.{ℕ, Bool, not, ◌==◌, length, ◌≡◌, ◌-◌, ◌<◌, ◌≤◌, ◌⊎◌, List, [], ◌∷◌, ◌++◌, take, drop}
use Rattle.std.specs.List.{All, AllPairs, Contains, filter, flat_map}
use Rattle.cut_definitions.specs.Weight.{VertexSet}
use Rattle.rooted_cactus.specs.Sides.{Part, all_of, intervals, belows, all_cuts, with_below, bridge_of}
use Rattle.rooted_cactus.specs.Entered.{entered, entered_block}
use Rattle.rooted_cactus.specs.Widths.{widths, block_widths}
use Rattle.rooted_cactus.specs.declared.tree.Node.{Node}
use Rattle.rooted_cactus.specs.declared.tree.Block.{Block}
use Rattle.residual_chain.specs.declared.run.Run.{Run}

-- the unions of the parts from each part on
abbrev pub tails : List Part → List VertexSet
tails [] = []
tails (p ∷ ps) = all_of (belows (p ∷ ps)) ∷ tails ps

-- the parts of a run
abbrev pub run_parts : List Part → Run → List Part
run_parts ps r = take (r.last - (r.first - 1)) (drop (r.first - 1) ps)

-- the unions of the intervals inside the runs
abbrev pub run_cuts : List Part → List Run → List VertexSet
run_cuts ps runs = flat_map (λ (r : Run). intervals (belows (run_parts ps r))) runs

-- the cuts of the chain, the intervals inside the runs, and the cuts of the parts
abbrev pub joined_cuts : List Part → List Run → List VertexSet
joined_cuts ps runs = tails (drop 1 ps) ++ (run_cuts ps runs ++ all_cuts ps)

-- two lists have the same sets
pub record SameSets (k l : List VertexSet) : Type 0 where
  pub forth : (s : VertexSet) → Contains k s → Contains l s
  pub back : (s : VertexSet) → Contains l s → Contains k s

-- the runs are between the first and the last of k parts, ascending and disjoint
pub record IsRuns (k : ℕ) (runs : List Run) : Type 0 where
  pub inside : All (λ (r : Run). (2 ≤ r.first) × (r.first ≤ r.last) × (r.last < k)) runs
  pub ascending : AllPairs (λ (r q : Run). r.last < q.first) runs

-- parts joined by bridges, above what hangs below the last
abbrev pub bridges : List Part → Part → Part
bridges [] hanging = hanging
bridges (p ∷ ps) hanging = bridge_of (with_below p (bridges ps hanging))

-- the node at the far end of a run has the cuts of the block that hung there; its own set may be missing among them
pub record IsFarEnd (hanging end : Part) : Type 0 where
  pub below : end.below ≡ hanging.below
  pub cuts : (s : VertexSet) → Contains hanging.cuts s → (s ≡ hanging.below) ⊎ Contains end.cuts s
  pub only : (s : VertexSet) → Contains end.cuts s → Contains hanging.cuts s

abbrev pub has_some : List ℕ → Bool
has_some l = not (length l == 0)

-- the vertices of the nodes that are not empty, in the order of entering
abbrev pub held : Node → List (List ℕ)
held x = filter has_some (entered x)

-- the vertices of the nodes of a block that are not empty, in the order of entering, without the node above
abbrev pub block_held : Block → List (List ℕ)
block_held b = filter has_some (entered_block b)

-- each cycle of a tree has two or more children
abbrev pub IsWide : Node → Type 0
IsWide x = All (λ k. 2 ≤ k) (widths x)

abbrev pub IsWideBlock : Block → Type 0
IsWideBlock b = All (λ k. 2 ≤ k) (block_widths b)
