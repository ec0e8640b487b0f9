-- Classes of vertices, and trees whose vertices stand for classes.
use Rattle.std.specs.Prelude.{ℕ, ◌≡◌, ◌&&◌, ◌≤◌, nat_le, slice_index_or, List, [], map, length}
use Rattle.std.specs.List.{All, Contains, filter, range_with_len}
use Rattle.std.specs.Global.{Vec}
use Rattle.cut_definitions.specs.Weight.{VertexSet}
use Rattle.cut_definitions.specs.Contraction.{label, class}

-- the list at a place, and none past the end
abbrev pub group_at : List (Vec ℕ) → ℕ → List ℕ
group_at groups c = slice_index_or (map (λ (g : Vec ℕ). g.items) groups) c []

-- the first k vertices that have a class
abbrev pub class_of_first : List ℕ → ℕ → ℕ → List ℕ
class_of_first classes k c = filter (class classes c) (range_with_len 1 k)

-- the list at the place of each class has the vertices of the class
abbrev pub AreGathered : List ℕ → List (Vec ℕ) → Type 0
AreGathered classes groups = (c : ℕ) → group_at groups c ≡ class_of_first classes (length classes) c

-- the vertices of 1 to n whose class is in a set
abbrev pub spread_set : ℕ → List ℕ → VertexSet → VertexSet
spread_set n classes s v = nat_le 1 v && (nat_le v n && s (label classes v))

-- each of n vertices has a class of 1 to k, each class is used, and vertex 1 has class 1
pub record AreClasses (n k : ℕ) (classes : List ℕ) : Type 0 where
  pub each_has_one : length classes ≡ n
  pub in_range : All (λ c. (1 ≤ c) × (c ≤ k)) classes
  pub used : (c : ℕ) → 1 ≤ c → c ≤ k → Contains classes c
  pub first : label classes 1 ≡ 1
