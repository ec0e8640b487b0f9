-- Trees entered by the numbers of their nodes: what entering a node or a block appends, and what is then to be entered.
use Rattle.std.specs.Prelude.{ℕ, ◌≡◌, ◌==◌, ◌+◌, ◌<◌, if◌then◌else◌, List, [], ◌∷◌, ◌++◌, length, map, slice_index}
use Rattle.std.specs.List.{sum_by}
use Rattle.flat_cactus.specs.Flat.{Flat}
use Rattle.tree_flattening.specs.declared.walking.Task.{Task}
use Rattle.tree_flattening.specs.declared.walking.Task.TheVariants.{Enter, Hang}
use Rattle.tree_flattening.specs.Plans.{Plan}

-- the node to be entered, or the first one of the block
abbrev pub number_of : Task → ℕ
number_of (Enter i) = i
number_of (Hang h up) = h

-- the block that begins with a node, below the node `up`
abbrev pub hang : ℕ → ℕ → Task
hang up h = Hang h up

-- how many nodes there are at and below several nodes, and below a node
abbrev pub sizes_at : List ℕ → List ℕ → ℕ
sizes_at sizes = sum_by (slice_index sizes)

abbrev pub size_below : Plan → List ℕ → ℕ → ℕ
size_below p sizes i = sum_by (λ h. sizes_at sizes (p.run h)) (p.heads i)

-- how many there are at and below each
pub record AreSizes (p : Plan) (sizes : List ℕ) : Type 0 where
  pub len : length sizes ≡ p.count
  pub each : (i : ℕ) → i < p.count → slice_index sizes i ≡ 1 + size_below p sizes i

-- the numbers of several roots, if what is below each follows it
abbrev pub roots_at : List ℕ → ℕ → List ℕ → List ℕ
roots_at sizes first [] = []
roots_at sizes first (j ∷ js) = first ∷ roots_at sizes (first + slice_index sizes j) js

-- one more node, one more bridge to the node of the next number, and one more cycle
abbrev pub with_own : Flat → List ℕ → Flat
with_own f own = record f { nodes = f.nodes ++ own ∷ [] }

abbrev pub with_next : Flat → ℕ → Flat
with_next f up = record f { bridges = f.bridges ++ (up, length f.nodes) ∷ [] }

abbrev pub with_ring : Flat → List ℕ → Flat
with_ring f ring = record f { cycles = f.cycles ++ ring ∷ [] }

-- the flat cactus once a block of these nodes has been entered, and what is then to be entered next
abbrev pub run_gained : Plan → List ℕ → Flat → ℕ → List ℕ → Flat
run_gained p sizes f up run = if length run == 1 then with_own (with_next f up) (p.own (slice_index run 0)) else with_ring f (up ∷ roots_at sizes (length f.nodes) run)

abbrev pub run_next : Plan → ℕ → List ℕ → List Task
run_next p number run = if length run == 1 then map (hang number) (p.heads (slice_index run 0)) else map Enter run

-- the flat cactus once a task is done, and what is then to be entered next
abbrev pub task_gained : Plan → List ℕ → Flat → Task → Flat
task_gained p sizes f (Enter i) = with_own f (p.own i)
task_gained p sizes f (Hang h up) = run_gained p sizes f up (p.run h)

abbrev pub task_next : Plan → ℕ → Task → List Task
task_next p number (Enter i) = map (hang number) (p.heads i)
task_next p number (Hang h up) = run_next p number (p.run h)
