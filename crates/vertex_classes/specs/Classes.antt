-- Classes of vertices, each vertex with a parent.
use Rattle.std.specs.Prelude.{ℕ, ◌==◌, ◌≡◌, ◌↔◌, ◌+◌, ◌-◌, ◌<◌, ◌≤◌, List, false, length, slice_index, true}
use Rattle.cut_definitions.specs.Contraction.{label, classes, IsLabels}
use Rattle.cut_definitions.specs.Cuts.{has, IsAscendingWithin}
use Rattle.cut_definitions.specs.Weight.{VertexSet}

-- no parent is above its child; a vertex that is its own parent is the first of its class
abbrev pub AreParents : List ℕ → Type 0
AreParents parents = (v : ℕ) → v < length parents → slice_index parents v ≤ v

-- a set has all vertices of a class or none: it has a vertex exactly if it has its parent
abbrev pub Respects : List ℕ → VertexSet → Type 0
Respects parents s = (v : ℕ) → v < length parents → s (slice_index parents v) ≡ s v

-- two vertices are in one class if each set that has all of a class or none has both or neither
abbrev pub AreJoined : List ℕ → ℕ → ℕ → Type 0
AreJoined parents u v = (s : VertexSet) → Respects parents s → s u ≡ s v

-- the classes of new parents are those of old ones
pub record HasSameClasses (old new : List ℕ) : Type 0 where
  pub long : length new ≡ length old
  pub respected : (s : VertexSet) → Respects new s ↔ Respects old s

-- the classes of two vertices are one class now, and the others are as before
pub record HasJoined (old new : List ℕ) (u v : ℕ) : Type 0 where
  pub long : length new ≡ length old
  pub respected : (s : VertexSet) → Respects new s ↔ (Respects old s × (s u ≡ s v))

-- the number 0, which is no vertex, alone
abbrev pub no_vertex : VertexSet
no_vertex v = v == 0

-- the least vertex with a label: all before it have lesser ones
pub record IsLeastOf (labels : List ℕ) (c vertex : ℕ) : Type 0 where
  pub from_one : 1 ≤ vertex
  pub within : vertex ≤ length labels
  pub there : label labels vertex ≡ c
  pub before : (u : ℕ) → 1 ≤ u → u < vertex → label labels u < c

-- the vertices from 1 on have one label exactly if they are in one class, and the labels are in their order
pub record AreNumbersOf (parents labels : List ℕ) : Type 0 where
  pub long : length labels + 1 ≡ length parents
  pub are_labels : IsLabels labels
  pub joined : (u v : ℕ) → 1 ≤ u → u < length parents → 1 ≤ v → v < length parents → (label labels u ≡ label labels v) ↔ AreJoined parents u v
  pub least : (c : ℕ) → 1 ≤ c → c ≤ classes labels → (v : ℕ) × IsLeastOf labels c v

-- the number of the classes of the vertices from 1 on: that of the vertices that are in one class with no lesser vertex
pub record HasClasses (parents : List ℕ) (count : ℕ) : Type 0 where
  pub firsts : List ℕ
  pub ascending : IsAscendingWithin 1 (length parents - 1) firsts
  pub counted : count ≡ length firsts
  pub first : (v : ℕ) → 1 ≤ v → v < length parents → has firsts v ≡ true → (u : ℕ) → 1 ≤ u → u < v → ¬ AreJoined parents u v
  pub later : (v : ℕ) → 1 ≤ v → v < length parents → has firsts v ≡ false → (u : ℕ) × (1 ≤ u) × (u < v) × AreJoined parents u v
