-- The mass that a reading keeps of a vertex line is the first of its weights.
use Rattle.std.proofs.Common.{◌≡◌, ◌≢◌, ◌<◌, ℕ, zero, suc, ◌+◌, Bool, true, false, List, [], ◌∷◌, length, take, drop, refl, ap, sym, ◌∙◌, arith}
use Rattle.std.specs.Prelude.{if◌then◌else◌, replicate}
use Rattle.std.proofs.lemmas.Bool.{eq-eqb, ne_eqb}
use Rattle.metis_reader.specs.Text.{Piece, Line}
use Rattle.metis_reader.specs.Profile.{Header, value, value_or, first_weight, has_flag, format_of, weights_of, size_words, header_of}
use Rattle.metis_reader.specs.File.{vertex_lines, all_masses, mass_list, edge_list}
use Rattle.metis_reader.specs.Machine.{with_mass}

-- the mass after these words, with this number of leading words still to come
abbrev pub mass_from : Header → ℕ → ℕ → List Piece → ℕ
mass_from header zero mass words = mass
mass_from header (suc leading) mass [] = mass
mass_from header (suc leading) mass (word ∷ words) = mass_from header leading (with_mass header mass leading word) words

at_first : (header : Header) (mass leading : ℕ) (word : Piece) → suc leading + header.sizes ≡ header.leading → with_mass header mass leading word ≡ value word
at_first header mass leading word e = rw (eq-eqb (suc leading + header.sizes) header.leading e) refl

at_other : (header : Header) (mass leading : ℕ) (word : Piece) → suc leading + header.sizes ≢ header.leading → with_mass header mass leading word ≡ mass
at_other header mass leading word e = rw (ne_eqb (suc leading + header.sizes) header.leading e) refl

-- after the first weight it stays
stays : (header : Header) (leading mass : ℕ) (words : List Piece) → leading + header.sizes < header.leading → mass_from header leading mass words ≡ mass
stays header zero mass words lt = refl
stays header (suc leading) mass [] lt = refl
stays header (suc leading) mass (word ∷ words) lt =
    let apart : suc leading + header.sizes ≢ header.leading = λ h. absurd (omega arith) in
    ap (λ m. mass_from header leading m words) (at_other header mass leading word apart)
    ∙ stays header leading mass words (omega arith)

none_left : (n d : ℕ) → value_or n (drop d []) ≡ n
none_left n zero = refl
none_left n (suc d) = refl

-- after some words, with this number of sizes still to come
mass_is : (header : Header) (leading mass seen sizes : ℕ) (words : List Piece) → leading + seen ≡ header.leading → seen + sizes ≡ header.sizes
    → mass_from header leading mass words ≡ value_or mass (drop sizes (take leading words))
mass_is header zero mass seen sizes words e f = sym (none_left mass sizes)
mass_is header (suc leading) mass seen sizes [] e f = sym (none_left mass sizes)
mass_is header (suc leading) mass seen zero (word ∷ words) e f =
    ap (λ m. mass_from header leading m words) (at_first header mass leading word (omega arith))
    ∙ stays header leading (value word) words (omega arith)
mass_is header (suc leading) mass seen (suc sizes) (word ∷ words) e f =
    let apart : suc leading + header.sizes ≢ header.leading = λ h. absurd (omega arith) in
    ap (λ m. mass_from header leading m words) (at_other header mass leading word apart)
    ∙ mass_is header leading mass (suc seen) sizes words (omega arith) (omega arith)

pub first_mass : (header : Header) (words : List Piece) → mass_from header header.leading 1 words ≡ first_weight header words
first_mass header words = mass_is header header.leading 1 0 header.sizes words (omega arith) (omega arith)

-- If vertices have no weights, each mass is 1.

no_weight : (k : ℕ) (words : List Piece) → value_or 1 (drop k (take k words)) ≡ 1
no_weight zero words = refl
no_weight (suc k) [] = refl
no_weight (suc k) (word ∷ words) = no_weight k words

ones : (header : Header) (vertex left : ℕ) (lines : List Line) → header.leading ≡ header.sizes
    → all_masses (vertex_lines header vertex left lines) ≡ replicate (length (all_masses (vertex_lines header vertex left lines))) 1
ones header vertex zero lines e = refl
ones header vertex (suc left) [] e = refl
ones header vertex (suc left) (line ∷ lines) e =
    let here : first_weight header line.words ≡ 1 = ap (λ k. value_or 1 (drop header.sizes (take k line.words))) e ∙ no_weight header.sizes line.words in
    ap (λ m. m ∷ all_masses (vertex_lines header (suc vertex) left lines)) here
    ∙ ap (λ ms. 1 ∷ ms) (ones header (suc vertex) left lines e)

-- the masses of the vertex lines of these lines, the header's first
abbrev pub masses_read : List Line → List ℕ
masses_read [] = []
masses_read (line ∷ lines) = all_masses (vertex_lines (header_of line.words) 1 (header_of line.words).vertices lines)

unweighted : (words : List Piece) → has_flag 1 (format_of words) ≡ false → (header_of words).leading ≡ (header_of words).sizes
unweighted words e = ap (λ (b : Bool). size_words (format_of words) + (if b then weights_of words else 0)) e ∙ omega arith

-- if there are as many as vertices, they are the masses of the file
pub masses_are : (lines : List Line) (masses : List ℕ) → masses_read lines ≡ masses → length masses ≡ (edge_list lines).vertices → mass_list lines ≡ masses
masses_are [] masses e n = e
masses_are (line ∷ lines) masses e n = by_flag (has_flag 1 (format_of line.words)) refl
  where
    chosen : Bool → List ℕ
    chosen b = if b then masses_read (line ∷ lines) else replicate (header_of line.words).vertices 1

    by_flag : (b : Bool) → has_flag 1 (format_of line.words) ≡ b → mass_list (line ∷ lines) ≡ masses
    by_flag true t = ap chosen t ∙ e
    by_flag false f =
        let header : Header = header_of line.words in
        let read : List ℕ = masses_read (line ∷ lines) in
        let count : header.vertices ≡ length read = sym (ap length e ∙ n) in
        ap chosen f ∙ (ap (λ k. replicate k 1) count ∙ sym (ones header 1 header.vertices lines (unweighted line.words f)) ∙ e)
