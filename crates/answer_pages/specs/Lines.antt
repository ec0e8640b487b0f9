-- Texts that are made of lines, each known by its number.
use Rattle.std.specs.Prelude.{ℕ, ◌+◌, ◌*◌, List, [], ◌∷◌, length, map, codes, slice_index_or, slice_range}
use Rattle.std.specs.List.{concat}
use Rattle.std.specs.Fmt.{decimal}
use Rattle.vertex_set.specs.Side.{VertexList}
use Rattle.answer_pages.specs.declared.numbered_lines.Lines.{Lines}
use Rattle.answer_pages.specs.declared.numbered_lines.Lines.TheVariants.{Nodes, Bridges, Cycles, Sides, Vertices, Members}
use Rattle.answer_pages.specs.Text.{line}
use Rattle.answer_pages.specs.Listings.{side_line}

-- a line for each node, numbered from `first` on
abbrev pub node_texts : ℕ → List (List ℕ) → List (List ℕ)
node_texts first [] = []
node_texts first (vertices ∷ rest) = line (codes "node") (first ∷ vertices) ∷ node_texts (first + 1) rest

-- the bytes of each line; each number of a list is one here, with a space before it
abbrev pub texts : Lines → List (List ℕ)
texts (Nodes flat) = node_texts 0 flat.now.nodes
texts (Bridges bridges) = map (λ (b : ℕ × ℕ). line (codes "bridge") (b.0 ∷ b.1 ∷ [])) bridges.now
texts (Cycles flat) = map (line (codes "cycle")) flat.now.cycles
texts (Sides sides) = map (λ (s : VertexList). side_line s.members) sides.now
texts (Vertices numbers) = map (λ n. 32 ∷ decimal n) numbers.now
texts (Members numbers) = map (λ n. 32 ∷ decimal n) numbers.now

-- the bytes of the lines from one up to another
abbrev pub joined_between : List (List ℕ) → ℕ → ℕ → List ℕ
joined_between ts from to = concat (slice_range ts from to)

-- at least as many bytes as a line has, if its numbers have at most seven digits: eight for each of them, and for a word with a line feed
abbrev pub room_wanted : Lines → ℕ → ℕ
room_wanted (Nodes flat) i = 8 * (length (slice_index_or flat.now.nodes i []) + 1) + 8
room_wanted (Bridges bridges) i = 24
room_wanted (Cycles flat) i = 8 * length (slice_index_or flat.now.cycles i []) + 8
room_wanted (Sides sides) i = 8 * length (slice_index_or (map (λ (s : VertexList). s.members) sides.now) i []) + 8
room_wanted (Vertices numbers) i = 8
room_wanted (Members numbers) i = 8
