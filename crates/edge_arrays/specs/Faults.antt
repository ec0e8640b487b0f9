-- Why arrays give no graph.
use Rattle.std.specs.Prelude.{ℕ, ◌≡◌, ◌+◌, ◌<◌, ◌≤◌, ◌^◌, ⊤, List, length}
use Rattle.edge_arrays.specs.declared.arrays.ArrayFault.{ArrayFault}
use Rattle.edge_arrays.specs.declared.arrays.ArrayFault.TheVariants.{OutOfMemory, BadLength, TooManyVertices, TooManyEdges, BadVertex, WeightSum}
use Rattle.edge_arrays.specs.Given.{AreVertices, HasEnds, edge_of, free_weight, total_weight, weight_before}

-- the arrays are of one length
abbrev pub HaveOneLength : List ℕ → List ℕ → List ℕ → Type 0
HaveOneLength us vs ws = (length vs ≡ length us) × (length ws ≡ length us)

-- the arrays are of one length and within the limits
pub record AreWithinLimits (n : ℕ) (us vs ws : List ℕ) : Type 0 where
  pub one_length : HaveOneLength us vs ws
  pub few_vertices : n ≤ 4194304
  pub few_edges : length us ≤ 16777216

-- no place before this one gives a fault: the ends there are vertices, and all edges but loops weigh at most 2^61 in total
pub record IsFineBefore (n : ℕ) (us vs ws : List ℕ) (place : ℕ) : Type 0 where
  pub ends : (i : ℕ) → i < place → HasEnds n us vs i
  pub total : weight_before us vs ws place ≤ 2 ^ 61

-- an end at the first place that gives a fault is no vertex
pub record HasBadVertex (n : ℕ) (us vs ws : List ℕ) : Type 0 where
  pub place : ℕ
  pub there : place < length us
  pub fine_before : IsFineBefore n us vs ws place
  pub is_bad : ¬ HasEnds n us vs place

-- both ends there are vertices, but with its edge too much is weighed
pub record IsTooHeavy (n : ℕ) (us vs ws : List ℕ) : Type 0 where
  pub place : ℕ
  pub there : place < length us
  pub fine_before : IsFineBefore n us vs ws place
  pub ends : HasEnds n us vs place
  pub heavy : 2 ^ 61 < weight_before us vs ws (place + 1)
  pub total : 2 ^ 61 < total_weight us vs ws

-- when each fault is reported: one that there is reason for, and none before it; out of memory can come anywhere
abbrev pub Explains : ArrayFault → ℕ → List ℕ → List ℕ → List ℕ → Type 0
Explains OutOfMemory n us vs ws = ⊤
Explains BadLength n us vs ws = ¬ HaveOneLength us vs ws
Explains TooManyVertices n us vs ws = HaveOneLength us vs ws × (4194304 < n)
Explains TooManyEdges n us vs ws = HaveOneLength us vs ws × (n ≤ 4194304) × (16777216 < length us)
Explains BadVertex n us vs ws = AreWithinLimits n us vs ws × HasBadVertex n us vs ws
Explains WeightSum n us vs ws = AreWithinLimits n us vs ws × IsTooHeavy n us vs ws

-- when each fault is reported after lengths and limits were tested
abbrev pub ExplainsEntry : ArrayFault → ℕ → List ℕ → List ℕ → List ℕ → Type 0
ExplainsEntry OutOfMemory n us vs ws = ⊤
ExplainsEntry BadVertex n us vs ws = HasBadVertex n us vs ws
ExplainsEntry WeightSum n us vs ws = IsTooHeavy n us vs ws
ExplainsEntry _ n us vs ws = ⊥

-- when each fault of one edge is reported, after others that weigh this much in total
abbrev pub ExplainsEdge : ArrayFault → ℕ → ℕ → ℕ → ℕ → ℕ → Type 0
ExplainsEdge BadVertex total n u v w = ¬ AreVertices n u v
ExplainsEdge WeightSum total n u v w = AreVertices n u v × (2 ^ 61 < total + free_weight (edge_of u v w))
ExplainsEdge _ total n u v w = ⊥
