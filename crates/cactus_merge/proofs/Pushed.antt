-- One more part and its node.
use Rattle.std.proofs.Common.{◌≡◌, ℕ, ◌+◌, ◌<◌, zero, suc, List, [], ◌∷◌, ◌++◌, length, get_or, refl, sym, ◌∙◌, ap, subst, arith, ⊎_elim}
use Rattle.std.proofs.lemmas.Bool.{cases_lt}
use Rattle.std.proofs.lemmas.List.{length-append, append-nil}
use Rattle.residual_chain.specs.Chain.{ChainView}
use Rattle.rooted_cactus.specs.declared.tree.Node.{Node}
use Rattle.cactus_merge.specs.declared.part.PartCactus.{PartCactus}
use Rattle.cactus_merge.specs.Assembled.{IsNodeOf}

pub at_front : {X : Type 0} (xs ys : List X) (i : ℕ) (d : X) → i < length xs → get_or (xs ++ ys) i d ≡ get_or xs i d
at_front [] ys i d h = absurd (omega (arith, h))
at_front (x ∷ xs) ys zero d h = refl
at_front (x ∷ xs) ys (suc i) d h = at_front xs ys i d (omega (arith, h))

pub at_seam : {X : Type 0} (xs : List X) (y : X) (ys : List X) (i : ℕ) (d : X) → i ≡ length xs → get_or (xs ++ y ∷ ys) i d ≡ y
at_seam [] y ys zero d h = refl
at_seam [] y ys (suc i) d h = absurd (omega (arith, h))
at_seam (x ∷ xs) y ys zero d h = absurd (omega (arith, h))
at_seam (x ∷ xs) y ys (suc i) d h = at_seam xs y ys i d (omega (arith, h))

-- the part that comes after those that were taken
pub next_part : {X : Type 0} (all taken rest more : List X) (x d : X) → taken ++ rest ≡ all → rest ≡ x ∷ more → get_or all (length taken) d ≡ x
next_part all taken rest more x d w e = ap (λ l. get_or l (length taken) d) (sym w ∙ ap (λ r. taken ++ r) e) ∙ at_seam taken x more (length taken) d refl

pub pushed : (c : ChainView) (ps : List PartCactus) (xs : List Node) (p : PartCactus) (x : Node) → length xs ≡ length ps → ((i : ℕ) (q : PartCactus) (y : Node) → i < length ps → IsNodeOf c (i + 1) (get_or ps i q) (get_or xs i y)) → IsNodeOf c (length ps + 1) p x → (i : ℕ) (q : PartCactus) (y : Node) → i < length (ps ++ p ∷ []) → IsNodeOf c (i + 1) (get_or (ps ++ p ∷ []) i q) (get_or (xs ++ x ∷ []) i y)
pushed c ps xs p x n each new i q y h = ⊎_elim
    (λ lt. subst (λ (a : PartCactus). IsNodeOf c (i + 1) a (get_or (xs ++ x ∷ []) i y)) (sym (at_front ps (p ∷ []) i q lt))
    (subst (λ (b : Node). IsNodeOf c (i + 1) (get_or ps i q) b) (sym (at_front xs (x ∷ []) i y (omega (arith, lt, n)))) (each i q y lt)))
    (λ ge.
    let e : i ≡ length ps = omega (arith, ge, h, length-append ps (p ∷ [])) in
    subst (λ (a : PartCactus). IsNodeOf c (i + 1) a (get_or (xs ++ x ∷ []) i y)) (sym (at_seam ps p [] i q e))
    (subst (λ (b : Node). IsNodeOf c (i + 1) p b) (sym (at_seam xs x [] i y (e ∙ sym n)))
    (subst (λ (j : ℕ). IsNodeOf c (j + 1) p x) (sym e) new)))
    (cases_lt i (length ps))

pub none_left : {X : Type 0} (taken rest all : List X) → taken ++ rest ≡ all → length all ≡ length taken → taken ≡ all
none_left taken [] all w n = sym (append-nil taken) ∙ w
none_left taken (x ∷ rest) all w n = absurd (omega (arith, ap length w, length-append taken (x ∷ rest), n))
