-- Sets of nodes, held by naming a node of the set at each node, against labels that are equal exactly within a set.
use Rattle.std.specs.Prelude.{◌≡◌, ◌≤◌, ◌<◌, ℕ, List, length, slice_index}

-- each node names one of its label and no greater number, and of the nodes of a label exactly one names itself
pub record IsLabelled (above labels : List ℕ) : Type 0 where
  pub count : length labels ≡ length above
  pub down : (i : ℕ) → slice_index above i ≤ i
  pub along : (i : ℕ) → i < length above → slice_index labels (slice_index above i) ≡ slice_index labels i
  pub apart : (r s : ℕ) → r < length above → s < length above → slice_index above r ≡ r → slice_index above s ≡ s → slice_index labels r ≡ slice_index labels s → r ≡ s
