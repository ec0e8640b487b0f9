-- Labels of classes that a graph joins number its components.
use Rattle.std.proofs.Common.{◌≡◌, ℕ, ◌+◌, ◌-◌, ◌<◌, ◌≤◌, List, length, get_or, sym, ◌∙◌, ap, arith}
use Rattle.std.specs.Prelude.{◌↔◌}
use Rattle.cut_definitions.specs.Contraction.{classes, label}
use Rattle.cut_definitions.specs.Graph.{Graph}
use Rattle.cut_definitions.specs.Weight.{VertexSet, weight}
use Rattle.vertex_classes.specs.Classes.{AreNumbersOf, Respects}
use Rattle.weighted_graph.proofs.Contraction.{fold_max-get_or, label_from_one}
use Rattle.mincut_c.specs.Components.{TellsComponents}
use Rattle.mincut_c.specs.Rows.{BeginsFromZero}

-- what an array tells of a vertex is its label, counted from 0
record IsTold (labels out : List ℕ) (v : ℕ) : Type 0 where
  is : get_or out v 0 ≡ label labels (v + 1) - 1
  from_one : 1 ≤ label labels (v + 1)
  to_classes : label labels (v + 1) ≤ classes labels

module _ (g : Graph) (parents labels out : List ℕ) (long : length parents ≡ g.vertices + 1) (of_graph : (s : VertexSet) → Respects parents s ↔ (weight g s ≡ 0)) (h : AreNumbersOf parents labels) (copied : BeginsFromZero labels out) where
  as_many : length labels ≡ g.vertices
  as_many = omega (arith, h.long, long)

  told_at : (v : ℕ) → v < g.vertices → IsTold labels out v
  told_at v lt =
      let here : label labels (v + 1) ≡ get_or labels v 0 = (let e : v + 1 - 1 ≡ v = omega arith in ap (λ (k : ℕ). get_or labels k 0) e) in
      let within : v < length labels = omega (arith, as_many, lt) in
      record {
        is = copied v within ∙ ap (λ (k : ℕ). k - 1) (sym here);
        from_one = label_from_one labels h.are_labels (v + 1) (omega arith) (omega (arith, within));
        to_classes = omega (arith, here, fold_max-get_or labels 0 v within);
      }

  pub numbered : TellsComponents g (classes labels) out
  numbered = record {
    below = λ v lt. let t = told_at v lt in omega (arith, t.is, t.from_one, t.to_classes);
    joined = λ u v lu lv.
        let a = told_at u lu in
        let b = told_at v lv in
        let both = h.joined (u + 1) (v + 1) (omega arith) (omega (arith, long, lu)) (omega arith) (omega (arith, long, lv)) in (
          λ same s none. both.0 (omega (arith, same, a.is, a.from_one, b.is, b.from_one)) s ((of_graph s).1 none),
          λ together. let same : label labels (u + 1) ≡ label labels (v + 1) = both.1 (λ s r. together s ((of_graph s).0 r)) in omega (arith, same, a.is, b.is),
        );
    first = λ number lt.
        let least = h.least (number + 1) (omega arith) (omega (arith, lt)) in
        let v = least.0 - 1 in
        let within : v < g.vertices = omega (arith, least.1.from_one, least.1.within, as_many) in
        let t = told_at v within in
        let there : label labels (v + 1) ≡ number + 1 = (let e : v + 1 ≡ least.0 = omega (arith, least.1.from_one) in ap (label labels) e ∙ least.1.there) in (
          v,
          record {
            within = within;
            there = omega (arith, t.is, there);
            before = λ u lu. let a = told_at u (omega (arith, lu, within)) in omega (arith, a.is, a.from_one, least.1.before (u + 1) (omega arith) (omega (arith, lu)));
          },
        );
  }
