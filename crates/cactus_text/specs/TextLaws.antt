-- Laws of the text: what was printed is read.
use Rattle.std.specs.Prelude.{List, ◌≡◌, ◌≤◌, ◌<◌, ◌^◌, ℕ, length, Ok}
use Rattle.rooted_cactus.specs.declared.tree.Node.{Node}
use Rattle.rooted_cactus.specs.Rooted.{IsCactus}
use Rattle.flat_cactus.specs.Flat.{Flat}
use Rattle.flat_cactus.specs.FlatCuts.{IsWellFormed}
use Rattle.flat_cactus.specs.Flattened.{flat_of}
use Rattle.answer_pages.specs.Text.{cactus_text}
use Rattle.cactus_text.specs.Reading.{Stated, lines, file_of}

-- the text states this value and this flat cactus
abbrev pub StatesAll : ℕ → Flat → Type 0
StatesAll value flat = file_of (lines (cactus_text value flat)) ≡ Ok (record { value = value; flat = flat })

abbrev pub LawOfText : Type 0
LawOfText = (value : ℕ) (flat : Flat) → IsWellFormed flat → value ≤ 2 ^ 62 → flat.vertices ≤ 4194304 → length flat.nodes < 2 ^ 64 → StatesAll value flat

abbrev pub LawOfCactusText : Type 0
LawOfCactusText = (value n : ℕ) (root : Node) → IsCactus n root → value ≤ 2 ^ 62 → n ≤ 4194304
    → (let flat = flat_of record { vertices = n; root = root } in length flat.nodes < 2 ^ 64 → StatesAll value flat)

-- what a text states is well formed, and within the bounds
abbrev pub LawOfStated : Type 0
LawOfStated = (text : List ℕ) (file : Stated) → file_of (lines text) ≡ Ok file → IsWellFormed file.flat × (file.value ≤ 2 ^ 62) × (file.flat.vertices ≤ 4194304)

-- the text that states a value and a flat cactus is the one that is printed of them
abbrev pub LawOfUniqueText : Type 0
LawOfUniqueText = (text : List ℕ) (file : Stated) → file_of (lines text) ≡ Ok file → text ≡ cactus_text file.value file.flat
