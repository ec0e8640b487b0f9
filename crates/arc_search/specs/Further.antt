-- Further parts of closed sets.
use Rattle.std.specs.Prelude.{ℕ, Bool, ◌≡◌, ◌==◌, ◌<◌, ◌≤◌, IsTrue}
use Rattle.cut_definitions.specs.Weight.{VertexSet, HasVertex}
use Rattle.arc_search.specs.Closed.{IsClosed}
use Rattle.cut_definitions.specs.Chain.{listed_upto}

-- further parts of closed sets, as a path-based search gives them
pub record AreFurther (n : ℕ) (goes : ℕ → ℕ → Bool) (old new : ℕ → ℕ) (count last : ℕ) : Type 0 where
  pub more : count ≤ last
  pub kept : (v : ℕ) → 1 ≤ old v → new v ≡ old v
  pub after : (v : ℕ) → old v ≡ 0 → 1 ≤ new v → count < new v
  pub to_last : (v : ℕ) → new v ≤ last
  pub within : (v : ℕ) → count < new v → (1 ≤ v) × (v ≤ n)
  pub none_empty : (j : ℕ) → count < j → j ≤ last → HasVertex n (λ v. new v == j)
  pub closed : (j : ℕ) → count < j → j ≤ last → IsClosed goes (listed_upto new j)
  pub whole : (x : VertexSet) → IsClosed goes x → (u v : ℕ) → count < new u → new v ≡ new u → IsTrue (x u) → IsTrue (x v)
