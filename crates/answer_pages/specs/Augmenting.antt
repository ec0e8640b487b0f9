-- The text of an augmentation.
use Rattle.std.specs.Prelude.{ℕ, List, [], ◌∷◌, ◌++◌, length, codes}
use Rattle.std.specs.List.{flat_map}
use Rattle.answer_pages.specs.Text.{line}
use Rattle.edge_augment.specs.Augmentations.{Augmentation}

-- a new edge: its two vertices
abbrev pub edge_line : ℕ × ℕ → List ℕ
edge_line e = line (codes "edge") (e.0 ∷ e.1 ∷ [])

-- a set: its vertices
abbrev pub set_line : List ℕ → List ℕ
set_line set = line (codes "set") set

-- the value, the number of the new edges, these, the number of the sets, and the sets, one a line
abbrev pub augment_text : ℕ → Augmentation → List ℕ
augment_text value a =
    line (codes "value") (value ∷ []) ++ line (codes "edges") (length a.edges ∷ []) ++ flat_map edge_line a.edges
    ++ line (codes "sets") (length a.sets ∷ []) ++ flat_map set_line a.sets
