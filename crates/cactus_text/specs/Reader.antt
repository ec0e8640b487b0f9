-- What a reader keeps beside the flat cactus that grows, and what it does with a line.
use Rattle.std.specs.Prelude.{◌≡◌, ◌≤◌, ◌<◌, ℕ, Bool, true, false, Option, Some, None, Result, IfOk, length, slice_index, slice_index_or}
use Rattle.std.specs.List.{All}
use Rattle.flat_cactus.specs.Flat.{Flat}
use Rattle.cactus_text.specs.declared.reading.Reader.{Reader}
use Rattle.cactus_text.specs.Reading.{is_placed}

-- bridges and cycles are of nodes that there are, and no cycle is empty
pub record JoinsNodes (flat : Flat) : Type 0 where
  pub bridges : All (λ (b : ℕ × ℕ). (b.0 < length flat.nodes) × (b.1 < length flat.nodes)) flat.bridges
  pub cycles : All (All (λ i. i < length flat.nodes)) flat.cycles
  pub long : All (λ c. 1 ≤ length c) flat.cycles

-- a reader has seen the vertices that are in a node, and no node has a later cycle than the last
pub record IsReader (r : Reader) : Type 0 where
  pub seen : (v : ℕ) → slice_index_or r.seen v false ≡ is_placed r.flat v
  pub one_each : length r.last_cycles.items ≡ length r.flat.nodes
  pub earlier : (i : ℕ) → slice_index r.last_cycles.items i ≤ length r.flat.cycles
  pub joins : JoinsNodes r.flat

-- the flat cactus is the right one, or the line breaks a rule and there is none
pub record Takes {E : Type 0} (wanted : Option Flat) (old new : Reader) (result : Result Bool E) : Type 0 where
  pub taken : IfOk result (λ b. b ≡ true → wanted ≡ Some new.flat)
  pub broken : IfOk result (λ b. b ≡ false → wanted ≡ None)
  pub kept : IfOk result (λ b. b ≡ true → IsReader new)
  pub same : IfOk result (λ b. new.counts ≡ old.counts)
