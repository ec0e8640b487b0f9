-- The first form at small texts, computed.
use Rattle.std.proofs.Common.{◌≡◌, ◌≤◌, ℕ, zero, suc, List, [], ◌∷◌, Some, None, Ok, refl, arith}
use Rattle.std.specs.Prelude.{codes, map, ◌==◌, if◌then◌else◌}
use Rattle.std.proofs.lemmas.List.Elements.{All-cons, All-nil}
use Rattle.cut_definitions.specs.declared.edge_list.Edge.{Edge}
use Rattle.metis_reader.specs.Adjacency.{IsNeighbour, IsRowOf, graph_of_rows}
use Rattle.metis_reader.specs.FirstForm.{rows_of, IsFirstForm}
use Rattle.metis_reader.specs.File.{graph_of}
use Rattle.metis_reader.proofs.FirstForm.{first_form}

-- a slash stands for a line feed, ~ for a carriage return, ^ for a tab
abbrev text : List ℕ → List ℕ
text bytes = map (λ b. if b == 47 then 10 else if b == 126 then 13 else if b == 94 then 9 else b) bytes

abbrev edge : ℕ → ℕ → Edge
edge u v = record { u = u; v = v; w = 1 }

triangle : rows_of (text (codes "3 3/2 3/1 3/1 2/")) ≡ Some ((3 ∷ 3 ∷ []) ∷ (2 ∷ 3 ∷ []) ∷ (1 ∷ 3 ∷ []) ∷ (1 ∷ 2 ∷ []) ∷ [])
triangle = refl

triangle_graph : graph_of_rows 3 ((2 ∷ 3 ∷ []) ∷ (1 ∷ 3 ∷ []) ∷ (1 ∷ 2 ∷ []) ∷ []) ≡ record { vertices = 3; edges = edge 1 2 ∷ edge 1 3 ∷ edge 2 3 ∷ [] }
triangle_graph = refl

empty_line : rows_of (text (codes "1 0//")) ≡ Some ((1 ∷ 0 ∷ []) ∷ [] ∷ [])
empty_line = refl

only_header : rows_of (text (codes "1 0/")) ≡ Some ((1 ∷ 0 ∷ []) ∷ [])
only_header = refl

open_line : rows_of (text (codes "2 1/2/1")) ≡ None
open_line = refl

no_byte : rows_of [] ≡ Some []
no_byte = refl

two_spaces : rows_of (text (codes "2  1/2/1/")) ≡ None
two_spaces = refl

first_space : rows_of (text (codes " 2 1/2/1/")) ≡ None
first_space = refl

last_space : rows_of (text (codes "2 1 /2/1/")) ≡ None
last_space = refl

only_space : rows_of (text (codes "1 0/ /")) ≡ None
only_space = refl

tab : rows_of (text (codes "2^1/2/1/")) ≡ None
tab = refl

carriage_return : rows_of (text (codes "2 1~/2/1/")) ≡ None
carriage_return = refl

comment : rows_of (text (codes "%/2 1/2/1/")) ≡ None
comment = refl

-- one edge

abbrev two_rows : List (List ℕ)
two_rows = (2 ∷ []) ∷ (1 ∷ []) ∷ []

rows_are : (u : ℕ) → 1 ≤ u → u ≤ 2 → IsRowOf two_rows u
rows_are zero low high = absurd (omega arith)
rows_are (suc zero) low high = record {
  neighbours = All-cons (IsNeighbour two_rows 1) 2 [] (record { from_one = omega arith; to_n = omega arith; other = λ e. absurd (omega arith); in_turn = refl })
      (All-nil (IsNeighbour two_rows 1));
  each_once = λ i j d lt in_row. absurd (omega arith);
}
rows_are (suc (suc zero)) low high = record {
  neighbours = All-cons (IsNeighbour two_rows 2) 1 [] (record { from_one = omega arith; to_n = omega arith; other = λ e. absurd (omega arith); in_turn = refl })
      (All-nil (IsNeighbour two_rows 2));
  each_once = λ i j d lt in_row. absurd (omega arith);
}
rows_are (suc (suc (suc u))) low high = absurd (omega arith)

one_edge : IsFirstForm (text (codes "2 1/2/1/")) (record { vertices = 2; edges = edge 1 2 ∷ [] })
one_edge = record {
  short = omega arith;
  lines = (2 ∷ 1 ∷ []) ∷ two_rows;
  read = refl;
  gives = record {
    n = 2;
    m = 1;
    rows = two_rows;
    parts = refl;
    announced = record { few = omega arith; one_for_each = refl; adjacency = record { each = rows_are }; entries = refl };
    graph_is = refl;
  };
}

one_edge_read : graph_of (text (codes "2 1/2/1/")) ≡ Ok (record { vertices = 2; edges = edge 1 2 ∷ [] })
one_edge_read = first_form (text (codes "2 1/2/1/")) (record { vertices = 2; edges = edge 1 2 ∷ [] }) one_edge
