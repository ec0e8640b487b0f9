-- What is known of the borders of a tree, and what a walk keeps of its place among them.
use Rattle.std.specs.Prelude.{ℕ, ◌+◌, ◌≡◌, ◌≤◌, ◌<◌, ⊤, Bool, List, [], ◌∷◌, map, drop, length}
use Rattle.std.specs.Coded.{Coded-set, Unit-prop, coded_ℕ, le_prop}
use mathlib.Core.HLevel.{Π_prop, ×_prop, ×₃_prop}
use Rattle.rooted_cactus.specs.Borders.{border_at}
use Rattle.cactus_walk.specs.Repeats.{ranges_left}
use Rattle.rooted_cactus.specs.Places.{side_at}
use Rattle.rooted_cactus.specs.declared.tree.border.Border.{Border}

-- the borders are at places of a list of this length, and those that follow each in its block follow it
abbrev pub AreBorders : ℕ → List Border → Type 0
AreBorders long [] = ⊤
AreBorders long (b ∷ bs) = (b.place ≤ long) × (b.following ≤ length bs) × AreBorders long bs

-- each border except the last of its block is followed by the next one of the block, which is at no lesser place
abbrev pub AreChained : List Border → Type 0
AreChained [] = ⊤
AreChained (b ∷ bs) = (0 < b.following → (b.place ≤ (border_at bs 0).place) × (b.following ≡ (border_at bs 0).following + 1)) × AreChained bs

-- each of the two has one proof at most, so a struct may keep it
pub AreBorders-prop : (long : ℕ) (bs : List Border) → IsProp (AreBorders long bs)
AreBorders-prop long [] = Unit-prop
AreBorders-prop long (b ∷ bs) = ×₃_prop le_prop le_prop (AreBorders-prop long bs)

pub AreChained-prop : (bs : List Border) → IsProp (AreChained bs)
AreChained-prop [] = Unit-prop
AreChained-prop (b ∷ bs) = ×_prop (Π_prop (λ h. ×_prop le_prop (Coded-set coded_ℕ b.following ((border_at bs 0).following + 1)))) (AreChained-prop bs)

-- the sides from a border on, without those of its cuts that end at the first borders after it, which were passed
abbrev pub sides_left : ℕ → List ℕ → List Border → List Bool → ℕ → ℕ → List (List ℕ)
sides_left n order borders repeats first passed = map (side_at n order) (ranges_left (drop first borders) (drop first repeats) passed)

-- a cut that begins at the border is still to be given
abbrev pub IsStart : List Border → ℕ → ℕ → Type 0
IsStart borders first passed = first < length borders → passed < (border_at borders first).following
