-- The parts of the text of an augmentation, after what was there.
use Rattle.std.proofs.Common.{◌≡◌, ℕ, List, [], ◌∷◌, ◌++◌, length, ap, ◌∙◌, append_assoc}
use Rattle.std.specs.Prelude.{codes}
use Rattle.std.specs.List.{flat_map}
use Rattle.answer_pages.specs.Text.{line}
use Rattle.edge_augment.specs.Augmentations.{Augmentation}
use Rattle.answer_pages.specs.Augmenting.{edge_line, set_line, augment_text}

pub first_of_five : (p a b c d e : List ℕ) → (p ++ a) ++ (b ++ c ++ d ++ e) ≡ p ++ (a ++ b ++ c ++ d ++ e)
first_of_five p a b c d e = simp append_assoc

pub two_of_five : (p a b c d e : List ℕ) → ((p ++ a) ++ b) ++ (c ++ d ++ e) ≡ p ++ (a ++ b ++ c ++ d ++ e)
two_of_five p a b c d e = simp append_assoc

pub three_of_five : (p a b c d e : List ℕ) → (((p ++ a) ++ b) ++ c) ++ (d ++ e) ≡ p ++ (a ++ b ++ c ++ d ++ e)
three_of_five p a b c d e = simp append_assoc

pub all_five : (p a b c d e : List ℕ) → ((((p ++ a) ++ b) ++ c) ++ d) ++ e ≡ p ++ (a ++ b ++ c ++ d ++ e)
all_five p a b c d e = simp append_assoc

-- the text by other terms for the edges and the number of sets
pub parts_told : (p : List ℕ) (value : ℕ) (a : Augmentation) (edges : List (ℕ × ℕ)) (sets : ℕ) → edges ≡ a.edges → sets ≡ length a.sets
    → p ++ (line (codes "value") (value ∷ []) ++ line (codes "edges") (length edges ∷ []) ++ flat_map edge_line edges ++ line (codes "sets") (sets ∷ []) ++ flat_map set_line a.sets)
    ≡ p ++ augment_text value a
parts_told p value a edges sets same number =
    ap (λ (es : List (ℕ × ℕ)). p ++ (line (codes "value") (value ∷ []) ++ line (codes "edges") (length es ∷ []) ++ flat_map edge_line es ++ line (codes "sets") (sets ∷ []) ++ flat_map set_line a.sets)) same
    ∙ ap (λ (k : ℕ). p ++ (line (codes "value") (value ∷ []) ++ line (codes "edges") (length a.edges ∷ []) ++ flat_map edge_line a.edges ++ line (codes "sets") (k ∷ []) ++ flat_map set_line a.sets)) number
