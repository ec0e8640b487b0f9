-- The components by the numbers of their vertices.
use Rattle.std.proofs.Common.{◌≡◌, ℕ, zero, suc, ◌+◌, ◌-◌, ◌<◌, ◌≤◌, ⊎_elim, List, ◌∷◌, length, get_or, refl, sym, ◌∙◌, ap, subst, arith}
use Rattle.std.specs.Prelude.{◌↔◌}
use Rattle.std.proofs.lemmas.Bool.{cases_lt}
use Rattle.std.proofs.lemmas.List.{get_or_past}
use Rattle.cut_definitions.specs.Graph.{Graph}
use Rattle.cut_definitions.specs.Weight.{VertexSet, weight}
use Rattle.cut_definitions.specs.Contraction.{label, classes}
use Rattle.weighted_graph.proofs.Contraction.{fold_max-get_or, label_from_one}
use Rattle.weighted_graph.proofs.Labelling.{classes_le}
use Rattle.vertex_classes.specs.Classes.{AreNumbersOf, Respects}
use Rattle.component_cuts.specs.Parts.{AreComponents, IsNumbering, divided}
use Rattle.component_cuts.proofs.Divided.{in_part, numbering_divides}

-- the number of a vertex is its label
number_is : (labels part_of : List ℕ) → part_of ≡ 0 ∷ labels → (v : ℕ) → 1 ≤ v → get_or part_of v 0 ≡ label labels v
number_is labels part_of is v one =
    let e : v ≡ suc (v - 1) = omega (arith, one) in
    ap (λ (l : List ℕ). get_or l v 0) is ∙ ap (λ (k : ℕ). get_or (0 ∷ labels) k 0) e

label_most : (labels : List ℕ) (k : ℕ) → get_or labels k 0 ≤ classes labels
label_most labels k = ⊎_elim
    (λ (l : k < length labels). fold_max-get_or labels 0 k l)
    (λ (past : length labels ≤ k). let none : get_or labels k 0 ≡ 0 = get_or_past labels k 0 past in omega (arith, none))
    (cases_lt k (length labels))

number_most : (labels : List ℕ) (v : ℕ) → get_or (0 ∷ labels) v 0 ≤ classes labels
number_most labels zero = omega arith
number_most labels (suc k) = label_most labels k

pub numbering_of : (g : Graph) (parents labels part_of : List ℕ) → g.vertices ≤ 4194304 → length parents ≡ g.vertices + 1 → AreNumbersOf parents labels → part_of ≡ 0 ∷ labels → IsNumbering g.vertices (classes labels) part_of
numbering_of g parents labels part_of few long h is = record {
  few = few;
  few_numbers = omega (arith, classes_le labels h.are_labels, long, h.long);
  long = omega (arith, ap length is, long, h.long);
  from_one = λ v one le. omega (arith, number_is labels part_of is v one, label_from_one labels h.are_labels v one (omega (arith, le, long, h.long)));
  to_count = λ v. subst (λ (l : List ℕ). get_or l v 0 ≤ classes labels) (sym is) (number_most labels v);
  first = λ i one le.
      let k = h.least i one le in (
        k.0,
        record {
          from_one = k.1.from_one;
          to_n = omega (arith, k.1.within, long, h.long);
          is_of = number_is labels part_of is k.0 k.1.from_one ∙ k.1.there;
          lesser = λ u u1 l. omega (arith, number_is labels part_of is u u1, k.1.before u u1 l);
        },
      );
}

pub components_of : (g : Graph) (parents labels part_of : List ℕ) → g.vertices ≤ 4194304 → length parents ≡ g.vertices + 1 → ((s : VertexSet) → Respects parents s ↔ (weight g s ≡ 0)) → AreNumbersOf parents labels → part_of ≡ 0 ∷ labels →
    AreComponents g (divided g.vertices (classes labels) part_of)
components_of g parents labels part_of few long of_graph h is =
    let n = g.vertices in
    let count = classes labels in record {
      same_vertices = refl;
      division = numbering_divides n count part_of (numbering_of g parents labels part_of few long h is);
      joined = λ i j u w part part' a b.
          let at_u = in_part n count part_of i u part a in
          let at_w = in_part n count part_of j w part' b in
          let u_is : label labels u ≡ i = sym (number_is labels part_of is u at_u.0) ∙ at_u.2 in
          let w_is : label labels w ≡ j = sym (number_is labels part_of is w at_w.0) ∙ at_w.2 in
          let both = h.joined u w at_u.0 (omega (arith, long, at_u.1)) at_w.0 (omega (arith, long, at_w.1)) in (
            λ same s none. both.0 (u_is ∙ (same ∙ sym w_is)) s ((of_graph s).1 none),
            λ together. sym u_is ∙ (both.1 (λ s r. together s ((of_graph s).0 r)) ∙ w_is),
          );
    }
