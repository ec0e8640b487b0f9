-- What a cactus is after an insertion.
use Rattle.std.specs.Prelude.{ℕ, ◌≡◌, ◌≤◌, ◌↔◌, true, false, List, length}
use Rattle.std.specs.List.{Contains}
use Rattle.cut_definitions.specs.Cuts.{has}
use Rattle.cut_definitions.specs.Weight.{parts}
use Rattle.rooted_cactus.specs.Normal.{is_normal}
use Rattle.rooted_cactus.specs.Rooted.{Rooted, sides_of}
use Rattle.rooted_cactus.specs.Trees.{blocks}
use Rattle.cactus_growth.specs.declared.grown.Grown.{Grown}
use Rattle.cactus_growth.specs.declared.grown.Grown.TheVariants.{Kept, Gone}

-- a cactus over the same vertices whose sides are those of another that do not separate two vertices; there is a side, and it is
-- normal if the other one is
pub record IsKept (u v : ℕ) (old new : Rooted) : Type 0 where
  pub vertices : new.vertices ≡ old.vertices
  pub sides : (side : List ℕ) → Contains (sides_of new) side ↔ (Contains (sides_of old) side × (parts (has side) u v ≡ false))
  pub some : (side : List ℕ) × Contains (sides_of new) side
  pub blocks : 1 ≤ length (blocks new.root)
  pub normal : is_normal old.root ≡ true → is_normal new.root ≡ true

-- each side of a cactus separates two vertices
abbrev pub PartsEachSide : ℕ → ℕ → Rooted → Type 0
PartsEachSide u v c = (side : List ℕ) → Contains (sides_of c) side → parts (has side) u v ≡ true

abbrev pub IsAfter : ℕ → ℕ → Rooted → Grown → Type 0
IsAfter u v old (Kept new) = IsKept u v old new
IsAfter u v old Gone = PartsEachSide u v old
