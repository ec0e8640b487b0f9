-- The text of a flat cactus with a value.
use Rattle.std.specs.Prelude.{ℕ, ◌+◌, List, [], ◌∷◌, ◌++◌, length, codes}
use Rattle.std.specs.List.{flat_map}
use Rattle.std.specs.Fmt.{decimal}
use Rattle.flat_cactus.specs.Flat.{Flat}

-- numbers in decimal, each with a space before it
abbrev pub spaced : List ℕ → List ℕ
spaced = flat_map (λ n. 32 ∷ decimal n)

-- a line: a word and numbers, with one space between two, and a line feed
abbrev pub line : List ℕ → List ℕ → List ℕ
line word numbers = word ++ spaced numbers ++ 10 ∷ []

-- a line for each node, numbered from `first` on
abbrev pub node_lines : ℕ → List (List ℕ) → List ℕ
node_lines first [] = []
node_lines first (vertices ∷ rest) = line (codes "node") (first ∷ vertices) ++ node_lines (first + 1) rest

abbrev pub bridge_lines : List (ℕ × ℕ) → List ℕ
bridge_lines = flat_map (λ (b : ℕ × ℕ). line (codes "bridge") (b.0 ∷ b.1 ∷ []))

abbrev pub cycle_lines : List (List ℕ) → List ℕ
cycle_lines = flat_map (line (codes "cycle"))

-- the value, and the numbers of vertices, nodes, bridges and cycles
abbrev pub first_line : ℕ → Flat → List ℕ
first_line value flat =
    line (codes "cactus") (value ∷ flat.vertices ∷ length flat.nodes ∷ length flat.bridges ∷ length flat.cycles ∷ [])

abbrev pub cactus_text : ℕ → Flat → List ℕ
cactus_text value flat = first_line value flat ++ node_lines 0 flat.nodes ++ bridge_lines flat.bridges ++ cycle_lines flat.cycles
