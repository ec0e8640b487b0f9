-- Nested sets of one kind, from the least on: each is all parts up to one.
use Rattle.std.specs.Prelude.{ℕ, ◌≡◌, ◌==◌, ◌<◌, ◌≤◌, ◌⊎◌, IsTrue}
use Rattle.cut_definitions.specs.Weight.{VertexSet, minus, HasVertex}
use Rattle.cut_definitions.specs.Chain.{SameOn, IsWithin, listed_upto}
use Rattle.region_flow.specs.Growing.{IsPartOf}

-- of two sets of the kind one has all of the other
abbrev pub IsNested : ℕ → (VertexSet → Type 0) → Type 0
IsNested n kind = (x y : VertexSet) → kind x → kind y → IsWithin n x y ⊎ IsWithin n y x

-- the parts up to each one are a set of the kind, and each other set of the kind has all parts and more
pub record IsListed (n : ℕ) (kind : VertexSet → Type 0) (turn : ℕ → ℕ) (count : ℕ) : Type 0 where
  pub to_count : (v : ℕ) → turn v ≤ count
  pub none_empty : (j : ℕ) → 1 ≤ j → j ≤ count → HasVertex n (λ v. turn v == j)
  pub sets : (j : ℕ) → 1 ≤ j → j ≤ count → kind (listed_upto turn j)
  pub no_other : (x : VertexSet) → kind x →
      ((j : ℕ) × (1 ≤ j) × (j ≤ count) × SameOn n x (listed_upto turn j)) ⊎ (IsPartOf (listed_upto turn count) x × HasVertex n (minus x (listed_upto turn count)))

-- further parts: with all before it each is a set of the kind, and sets of the kind have all of a part or nothing
pub record IsListedAfter (n : ℕ) (kind : VertexSet → Type 0) (old new : ℕ → ℕ) (count last : ℕ) : Type 0 where
  pub more : count ≤ last
  pub kept : (v : ℕ) → 1 ≤ old v → new v ≡ old v
  pub after : (v : ℕ) → old v ≡ 0 → 1 ≤ new v → count < new v
  pub to_last : (v : ℕ) → new v ≤ last
  pub within : (v : ℕ) → count < new v → (1 ≤ v) × (v ≤ n)
  pub none_empty : (j : ℕ) → count < j → j ≤ last → HasVertex n (λ v. new v == j)
  pub sets : (j : ℕ) → count < j → j ≤ last → kind (listed_upto new j)
  pub whole : (x : VertexSet) → kind x → (u v : ℕ) → count < new u → new v ≡ new u → IsTrue (x u) → IsTrue (x v)
