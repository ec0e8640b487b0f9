-- Entries that wait for their mates, in regions of places: each 1,024 places belong to a block of 1,024 vertices.
use Rattle.std.specs.Prelude.{ℕ, suc, ◌+◌, ◌*◌, ◌/◌, ◌%◌, ◌==◌, if◌then◌else◌, List, [], ◌∷◌, get_or}
use Rattle.cut_definitions.specs.declared.edge_list.Edge.{Edge}

-- the entry that this number stands for at this place
abbrev pub entry_at : List ℕ → List ℕ → ℕ → ℕ → Edge
entry_at owners weights place packed = record {
  u = get_or owners (place / 1024) 0 * 1024 + packed / 4194304 + 1;
  v = packed % 4194304 + 1;
  w = get_or weights place 1;
}

-- the entries of these places, the first of which is this one; an empty one has 0
abbrev pub waiting_from : ℕ → List ℕ → List ℕ → List ℕ → List Edge
waiting_from place owners weights [] = []
waiting_from place owners weights (p ∷ ps) =
    if p == 0 then waiting_from (suc place) owners weights ps else entry_at owners weights place p ∷ waiting_from (suc place) owners weights ps
