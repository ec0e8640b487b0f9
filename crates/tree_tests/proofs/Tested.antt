-- The parts of a chain that the tests take: each with the cactus of one node.
use Rattle.std.proofs.Common.{◌≡◌, ℕ, ◌+◌, ◌<◌, suc, List, [], ◌∷◌, ◌++◌, length, get_or, sym, ◌∙◌, ap, subst, arith, ⊎_elim}
use Rattle.std.specs.List.{filter, range_with_len}
use Rattle.std.proofs.lemmas.Bool.{cases_lt}
use Rattle.std.proofs.lemmas.List.Elements.{filter-append}
use Rattle.cut_definitions.specs.Weight.{VertexSet}
use Rattle.cut_definitions.specs.Cuts.{has, IsAscendingWithin}
use Rattle.cut_definitions.proofs.Bridge.{has_within, IsAscendingWithin-filter}
use Rattle.cut_definitions.proofs.Ranges.{range_push}
use Rattle.residual_chain.specs.Chain.{ChainView}
use Rattle.cactus_merge.specs.declared.part.PartCactus.{PartCactus}
use Rattle.cactus_merge.specs.Assembled.{IsPartOf, is_own}
use Rattle.cactus_merge.proofs.Pushed.{at_front, at_seam}

-- one more vertex was looked at
pub more_own : (p : VertexSet) (v : ℕ) (list new : List ℕ) → list ≡ filter p (range_with_len 1 v) → new ≡ list ++ filter p ((v + 1) ∷ []) → new ≡ filter p (range_with_len 1 (v + 1))
more_own p v list new before e =
    let next : 1 + v ≡ v + 1 = omega arith in
    let after : suc v ≡ v + 1 = omega arith in
    e ∙ ap (λ l. l ++ filter p ((v + 1) ∷ [])) before
    ∙ sym (filter-append p (range_with_len 1 v) ((v + 1) ∷ []))
    ∙ ap (filter p) (sym (ap (range_with_len 1) (sym after) ∙ range_push 1 v ∙ ap (λ k. range_with_len 1 v ++ k ∷ []) next))

-- a part with its list, and a cactus over one vertex more
pub is_part : (c : ChainView) (number : ℕ) (p : PartCactus) → p.own ≡ filter (is_own c number) (range_with_len 1 (length c.numbers)) → p.cactus.vertices ≡ length p.own + 1 → IsPartOf c number p
is_part c number p e k = record {
  ascending = subst (IsAscendingWithin 1 (length c.numbers)) (sym e) (IsAscendingWithin-filter (length c.numbers) 1 (length c.numbers) (is_own c number) (omega arith));
  exact = λ v l h. ap (λ (o : List ℕ). has o v) e ∙ has_within (length c.numbers) 1 v (is_own c number) l (omega (arith, h));
  one_more = k;
}

-- one more part
pub more_parts : (c : ChainView) (ps new : List PartCactus) (p : PartCactus) (count : ℕ) → length ps ≡ count → ((i : ℕ) (q : PartCactus) → i < count → IsPartOf c (i + 1) (get_or ps i q)) → IsPartOf c (count + 1) p → new ≡ ps ++ p ∷ [] → (i : ℕ) (q : PartCactus) → i < count + 1 → IsPartOf c (i + 1) (get_or new i q)
more_parts c ps new p count n each next e i q h =
    subst (λ (l : List PartCactus). IsPartOf c (i + 1) (get_or l i q)) (sym e)
    (⊎_elim
    (λ lt. subst (IsPartOf c (i + 1)) (sym (at_front ps (p ∷ []) i q (omega (arith, lt, n)))) (each i q lt))
    (λ ge.
    let last : count ≡ i = omega (arith, ge, h) in
    subst (IsPartOf c (i + 1)) (sym (at_seam ps p [] i q (omega (arith, last, n)))) (subst (λ (k : ℕ). IsPartOf c (k + 1) p) last next))
    (cases_lt i count))
