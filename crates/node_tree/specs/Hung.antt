-- How the parts of a region are hung into the tree.
use Rattle.std.specs.Prelude.{ℕ, ◌≡◌, ◌+◌, ◌<◌, ◌≤◌, ◌⊎◌, true, false, List, slice_index}
use Rattle.cut_definitions.specs.Graph.{Graph}
use Rattle.cut_definitions.specs.Chain.{SameOn, IsMinimumInterval, one_part}
use Rattle.region_flow.specs.Parted.{later_parts}
use Rattle.node_tree.specs.TreeSets.{TreeSets}

-- part i is no minimum cut: all later parts are under its node, and the next part hangs from it
pub record IsBridged (g : Graph) (count : ℕ) (part : ℕ → ℕ) (at : ℕ → ℕ) (tree : TreeSets) (i : ℕ) : Type 0 where
  pub next : at (i + 1) ≡ at i + 1
  pub apart : tree.follows (at i + 1) ≡ false
  pub not_light : ¬ IsMinimumInterval g count part i i
  pub under : SameOn g.vertices (tree.under (at i)) (later_parts part i)

-- part i is a minimum cut, and the next part follows it in a cycle: both together are one, or the next is none
pub record IsFollowed (g : Graph) (count : ℕ) (part : ℕ → ℕ) (at : ℕ → ℕ) (tree : TreeSets) (i : ℕ) : Type 0 where
  pub next : at (i + 1) ≡ at i + 1
  pub follows : tree.follows (at i + 1) ≡ true
  pub light : IsMinimumInterval g count part i i
  pub pair : IsMinimumInterval g count part (i + 1) (i + 1) → IsMinimumInterval g count part i (i + 1)
  pub under : SameOn g.vertices (tree.under (at i)) (one_part part i)

-- part i is a minimum cut and the next one too, but not both together: a node without vertices follows part i in its cycle,
-- and the next part hangs from that
pub record IsTouching (g : Graph) (count : ℕ) (part : ℕ → ℕ) (at : ℕ → ℕ) (tree : TreeSets) (i : ℕ) : Type 0 where
  pub next : at (i + 1) ≡ at i + 2
  pub follows : tree.follows (at i + 1) ≡ true
  pub apart : tree.follows (at i + 2) ≡ false
  pub light : IsMinimumInterval g count part i i
  pub no_pair : ¬ IsMinimumInterval g count part i (i + 1)
  pub under : SameOn g.vertices (tree.under (at i)) (one_part part i)
  pub under_between : SameOn g.vertices (tree.under (at i + 1)) (later_parts part (i + 1))

abbrev pub IsHungAt : Graph → ℕ → (ℕ → ℕ) → (ℕ → ℕ) → TreeSets → ℕ → Type 0
IsHungAt g count part at tree i =
    IsBridged g count part at tree i ⊎ (IsFollowed g count part at tree i ⊎ IsTouching g count part at tree i)

-- the nodes of a tree from `old` on are those of the parts from 2 on, part i at node `at i`
pub record AreHung (g : Graph) (count : ℕ) (part : ℕ → ℕ) (at : ℕ → ℕ) (old : ℕ) (tree : TreeSets) : Type 0 where
  pub first : at 2 ≡ old
  pub apart : tree.follows old ≡ false
  pub each : (i : ℕ) → 2 ≤ i → i < count → IsHungAt g count part at tree i
  pub last : at count + 1 ≡ tree.count
  pub last_under : SameOn g.vertices (tree.under (at count)) (later_parts part count)

-- a tree goes on from another: nothing is put under its old nodes that was not there
pub record IsGrown (n : ℕ) (tree tree' : TreeSets) : Type 0 where
  pub some : 1 ≤ tree.count
  pub more : tree.count ≤ tree'.count
  pub under_kept : (i : ℕ) → i < tree.count → SameOn n (tree'.under i) (tree.under i)
  pub follows_kept : (i : ℕ) → i < tree.count → tree'.follows i ≡ tree.follows i

-- a vertex is the only one of a part between the first and the last
pub record IsPartAlone (n count : ℕ) (part : ℕ → ℕ) (v : ℕ) : Type 0 where
  pub inner : part v < count
  pub from_two : 2 ≤ part v
  pub alone : (u : ℕ) → 1 ≤ u → u ≤ n → part u ≡ part v → u ≡ v

-- new labels for a region: outside it they stay, vertices of one part of it share a region, and only t may enter, or the
-- only vertex of an inner part
pub record IsRegrouped (n : ℕ) (labels labels' : List ℕ) (region t count : ℕ) (part : ℕ → ℕ) : Type 0 where
  pub kept : (v : ℕ) → 1 ≤ v → v ≤ n → ¬ (slice_index labels v ≡ region) → slice_index labels' v ≡ slice_index labels v
  pub shared : (u v : ℕ) → 1 ≤ u → u ≤ n → 1 ≤ v → v ≤ n → slice_index labels u ≡ region → slice_index labels v ≡ region → part u ≡ part v →
      1 ≤ slice_index labels' u → 1 ≤ slice_index labels' v → slice_index labels' u ≡ slice_index labels' v
  pub entered : (v : ℕ) → 1 ≤ v → v ≤ n → slice_index labels v ≡ region → slice_index labels' v ≡ 0 → (v ≡ t) ⊎ IsPartAlone n count part v
