-- Classes that light cuts do not part.
use Rattle.std.specs.Prelude.{ℕ, ◌≡◌, ◌+◌, ◌*◌, ◌<◌, ◌≤◌, List, [], length, slice_index_or, if◌then◌else◌}
use Rattle.std.specs.List.{All, sum_by}
use Rattle.cut_definitions.specs.declared.edge_list.Edge.{Edge}
use Rattle.cut_definitions.specs.Weight.{VertexSet, parts}
use Rattle.vertex_classes.specs.Classes.{AreJoined, Respects, HasSameClasses}

-- what an edge weighs across a set
abbrev pub cut_term : VertexSet → Edge → ℕ
cut_term s e = if parts s e.u e.v then e.w else 0

-- what the edges with exactly one end in a set weigh
abbrev pub cut_weight : List Edge → VertexSet → ℕ
cut_weight edges s = sum_by (cut_term s) edges

-- no set that weighs less than a bound parts a class
abbrev pub AreTied : List Edge → ℕ → List ℕ → Type 0
AreTied edges bound parents = (s : VertexSet) → cut_weight edges s < bound → Respects parents s

-- the classes of a level
abbrev pub level : List (List ℕ) → ℕ → List ℕ
level levels l = slice_index_or levels l []

-- the classes of each level are tied for as many steps of weight as there are levels up to it
abbrev pub AreForests : List Edge → ℕ → List (List ℕ) → Type 0
AreForests edges step levels = (l : ℕ) → l < length levels → AreTied edges ((l + 1) * step) (level levels l)

-- each level has classes of so many numbers
abbrev pub AreOver : ℕ → List (List ℕ) → Type 0
AreOver size levels = (l : ℕ) → l < length levels → length (level levels l) ≡ size

-- the same classes in each level
pub record HasSameLevels (old new : List (List ℕ)) : Type 0 where
  pub count : length new ≡ length old
  pub each : (l : ℕ) → l < length old → HasSameClasses (level old l) (level new l)

-- the ends of each edge that weighs the bound are in one class
abbrev pub JoinsHeavy : List Edge → ℕ → List ℕ → Type 0
JoinsHeavy edges bound parents = All (λ (e : Edge). bound ≤ e.w → AreJoined parents e.u e.v) edges

-- no set that weighs less, with the edge, than so much parts the ends of an edge
abbrev pub HasReach : List (List ℕ) → ℕ → Edge → ℕ → Type 0
HasReach levels step e reach = (es : List Edge) → AreForests es step levels → (s : VertexSet) → cut_weight es s + cut_term s e < reach → s e.u ≡ s e.v

-- classes that are tied for a bound have taken an edge: at most its ends were made one, and what was tied for all edges is so still
pub record HasTaken (levels : List (List ℕ)) (step bound : ℕ) (e : Edge) (old new : List ℕ) : Type 0 where
  pub long : length new ≡ length old
  pub kept : (s : VertexSet) → Respects new s → Respects old s
  pub no_other : (s : VertexSet) → Respects old s → s e.u ≡ s e.v → Respects new s
  pub tied : (es whole : List Edge) → AreForests es step levels → AreTied whole bound old → ((s : VertexSet) → cut_weight es s + cut_term s e ≤ cut_weight whole s) →
      AreTied whole bound new

-- each kind of classes has taken an edge, the first for a bound, and each further one for one more
abbrev pub HaveTaken : List (List ℕ) → ℕ → ℕ → Edge → List (List ℕ) → List (List ℕ) → Type 0
HaveTaken levels step bound e old new = (k : ℕ) → k < length old → HasTaken levels step (bound + k) e (level old k) (level new k)

-- the first kind of classes is tied for a bound, and each further one for one more
abbrev pub AreKindsTied : List Edge → ℕ → List (List ℕ) → Type 0
AreKindsTied edges bound kinds = (k : ℕ) → k < length kinds → AreTied edges (bound + k) (level kinds k)
