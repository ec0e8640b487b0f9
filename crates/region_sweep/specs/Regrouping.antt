-- What a split does to the labels and the homes of the vertices of its parts.
use Rattle.std.specs.Prelude.{ℕ, ◌≡◌, ◌≢◌, ◌+◌, ◌<◌, ◌≤◌, ◌⊎◌, List, length, slice_index}
use Rattle.cut_definitions.specs.Graph.{Graph}
use Rattle.region_flow.specs.Regions.{RegionState}
use Rattle.cut_definitions.specs.Regions.{IsOpenAt}
use Rattle.node_tree.specs.Homes.{HomesState, home_of}

-- labels while a region is split: the same, but t, which enters last, owns the label of the region whatever its own label is
pub record AreNumberedAround (n : ℕ) (labels : List ℕ) (region t fresh : ℕ) : Type 0 where
  pub below : (v : ℕ) → slice_index labels v < fresh
  pub owner : ℕ → ℕ
  pub to_n : (q : ℕ) → q < fresh → owner q ≤ n
  pub of_region : owner region ≡ t
  pub owns : (q : ℕ) → q < fresh → q ≢ region → (slice_index labels (owner q) ≡ q) ⊎ (slice_index labels (owner q) ≡ 0)
  pub apart : (p q : ℕ) → p < fresh → q < fresh → owner p ≡ owner q → p ≡ q

-- the lists of homes keep their lengths
pub record KeepsLengths (h h' : HomesState) : Type 0 where
  pub entered : length h'.entered ≡ length h.entered
  pub regions : length h'.regions ≡ length h.regions

-- a part has a vertex, and unless it is the first part another one
pub record IsLarge (numbers : List ℕ) (i : ℕ) : Type 0 where
  pub vertex : ℕ
  pub other : ℕ
  pub has_vertex : slice_index numbers vertex ≡ i
  pub has_other : slice_index numbers other ≡ i
  pub apart : 2 ≤ i → vertex ≢ other

-- the vertices of one part got the fresh label, or its only vertex entered, and their home is the node of the part
pub record IsPlaced (numbers labels labels' : List ℕ) (h h' : HomesState) (i node fresh next : ℕ) : Type 0 where
  pub label : ℕ
  pub which : ((label ≡ 0) × (next ≡ fresh)) ⊎ ((label ≡ fresh) × (next ≡ fresh + 1) × IsLarge numbers i)
  pub given : (v : ℕ) → slice_index numbers v ≡ i → slice_index labels' v ≡ label
  pub kept : (v : ℕ) → slice_index numbers v ≢ i → slice_index labels' v ≡ slice_index labels v
  pub alone : label ≡ 0 → (u v : ℕ) → slice_index numbers u ≡ i → slice_index numbers v ≡ i → (2 ≤ i) × (u ≡ v)
  pub homes : (v : ℕ) → slice_index numbers v ≡ i → home_of h' labels' v ≡ node
  pub entered_kept : (v : ℕ) → slice_index numbers v ≢ i → slice_index h'.entered v ≡ slice_index h.entered v
  pub regions_kept : (q : ℕ) → q ≢ fresh → slice_index h'.regions q ≡ slice_index h.regions q
  pub lengths : KeepsLengths h h'

-- a vertex is listed in one of the first parts
pub record IsAmong (numbers : List ℕ) (done v : ℕ) : Type 0 where
  pub listed : 1 ≤ slice_index numbers v
  pub early : slice_index numbers v ≤ done

-- the first parts have labels of their own, or their only vertices entered, and their homes are their nodes
pub record ArePlaced (numbers labels labels' : List ℕ) (h h' : HomesState) (nodes : List ℕ) (done first next : ℕ) : Type 0 where
  pub kept : (v : ℕ) → ¬ IsAmong numbers done v → slice_index labels' v ≡ slice_index labels v
  pub shared : (u v : ℕ) → IsAmong numbers done u → slice_index numbers u ≡ slice_index numbers v → slice_index labels' u ≡ slice_index labels' v
  pub apart : (u v : ℕ) → IsAmong numbers done u → IsAmong numbers done v → 1 ≤ slice_index labels' u → slice_index labels' u ≡ slice_index labels' v →
      slice_index numbers u ≡ slice_index numbers v
  pub new : (v : ℕ) → IsAmong numbers done v → 1 ≤ slice_index labels' v → (first ≤ slice_index labels' v) × (slice_index labels' v < next)
  pub more : first ≤ next
  pub alone : (v : ℕ) → IsAmong numbers done v → slice_index labels' v ≡ 0 →
      (2 ≤ slice_index numbers v) × ((u : ℕ) → slice_index numbers u ≡ slice_index numbers v → u ≡ v)
  pub homes : (v : ℕ) → IsAmong numbers done v → home_of h' labels' v ≡ slice_index nodes (slice_index numbers v)
  pub entered_kept : (v : ℕ) → ¬ IsAmong numbers done v → slice_index h'.entered v ≡ slice_index h.entered v
  pub regions_kept : (q : ℕ) → q < first → slice_index h'.regions q ≡ slice_index h.regions q
  pub lengths : KeepsLengths h h'

-- no feed changes in a region but that of open vertices
abbrev pub KeepsFeed : Graph → RegionState → RegionState → Type 0
KeepsFeed g f f' = (v : ℕ) → 1 ≤ slice_index f'.labels v → (slice_index f'.feed v ≡ slice_index f.feed v) ⊎ IsOpenAt g f'.labels v
