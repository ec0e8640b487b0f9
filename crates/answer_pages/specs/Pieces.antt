-- Pieces of a text that workers make.
use Rattle.std.specs.Prelude.{ℕ, ◌≡◌, ◌+◌, ◌*◌, true, List, [], ◌∷◌, length}
use Rattle.vertex_set.specs.Side.{VertexList}
use Rattle.flat_cactus.specs.Flat.{Flat, items_in}
use Rattle.answer_pages.specs.declared.pieces.Piece.{Piece}
use Rattle.answer_pages.specs.declared.pieces.Crew.{Crew}
use Rattle.answer_pages.specs.Lines.{joined_between}

-- what is made of a piece is the text of its lines
abbrev pub IsMade : List (List ℕ) → Piece → Type 0
IsMade ts p = p.is_made ≡ true → p.text.bytes.items ≡ joined_between ts p.from p.to

-- about how many numbers and words the text of a cactus has
abbrev pub numbers_in : Flat → ℕ
numbers_in flat = length flat.nodes + flat.vertices + 3 * length flat.bridges + items_in flat.cycles

-- the number of vertices over which the first side is; 0 if there is none
abbrev pub vertices_of_first : List VertexList → ℕ
vertices_of_first [] = 0
vertices_of_first (side ∷ sides) = side.vertices

-- how many workers there are
abbrev pub workers_of : {R : Type 0} → Crew R → ℕ
workers_of c = length c.pieces.items
