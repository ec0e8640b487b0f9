-- What an edge adds to the levels and to the classes that are tied.
use Rattle.std.proofs.Common.{◌≡◌, ℕ, zero, suc, ◌+◌, ◌*◌, ◌/◌, ◌<◌, ◌≤◌, ⊎_elim, inl, inr, true, false, List, [], ◌∷◌, ◌++◌, length, refl, sym, subst, ◌∙◌, arith}
use Rattle.std.proofs.Math.Nat.{div-mul-le_self, mul-le-mul_right, add-mul}
use Rattle.std.proofs.lemmas.Bool.{cases_Bool, cases_lt}
use Rattle.std.proofs.lemmas.List.Sums.{sum_by-cons, sum_by-append}
use Rattle.cut_definitions.specs.declared.edge_list.Edge.{Edge}
use Rattle.cut_definitions.specs.Weight.{VertexSet, parts}
use Rattle.cut_definitions.specs.Graph.{Graph}
use Rattle.forest_contraction.specs.Left.{AreLabelsTied}
use Rattle.vertex_classes.specs.Classes.{AreNumbersOf, Respects, AreJoined, HasJoined, HasSameClasses}
use Rattle.forest_contraction.specs.Forests.{cut_term, cut_weight, level, AreForests, AreTied, HasReach, HasSameLevels, HasTaken}
use Rattle.forest_contraction.proofs.Levels.{HaveJoined}

-- a set parts two vertices or has both or neither
parts-same : (s : VertexSet) (u v : ℕ) → parts s u v ≡ false → s u ≡ s v
parts-same s u v h = grind (arith, h)

pub cut_term-part : (s : VertexSet) (e : Edge) → parts s e.u e.v ≡ true → cut_term s e ≡ e.w
cut_term-part s e h = rw h refl

pub cut_weight-more : (es : List Edge) (e : Edge) (s : VertexSet) → cut_weight (es ++ e ∷ []) s ≡ cut_weight es s + cut_term s e
cut_weight-more es e s = omega (arith, sum_by-append (cut_term s) es (e ∷ []), sum_by-cons (cut_term s) e [])

-- a set that weighs less than the steps of the levels that join two vertices has both or neither
same_ends : (es : List Edge) (step j u v : ℕ) (levels : List (List ℕ)) (s : VertexSet) → AreForests es step levels → j ≤ length levels →
    ((l : ℕ) → l + 1 ≡ j → AreJoined (level levels l) u v) → cut_weight es s < j * step → s u ≡ s v
same_ends es step zero u v levels s forests le joined h = absurd (omega arith)
same_ends es step (suc j) u v levels s forests le joined h = joined j (omega arith) s (forests j (omega arith) s (omega arith))

-- so has one that weighs less than these and the weight of an edge between the two
ends_of : (es : List Edge) (step j : ℕ) (e : Edge) (levels : List (List ℕ)) (s : VertexSet) → AreForests es step levels → j ≤ length levels →
    ((l : ℕ) → l + 1 ≡ j → AreJoined (level levels l) e.u e.v) → cut_weight es s + cut_term s e < j * step + e.w → s e.u ≡ s e.v
ends_of es step j e levels s forests le joined h =
    ⊎_elim
    (λ (p : parts s e.u e.v ≡ true). same_ends es step j e.u e.v levels s forests le joined (omega (arith, cut_term-part s e p)))
    (λ (p : parts s e.u e.v ≡ false). parts-same s e.u e.v p)
    (cases_Bool (parts s e.u e.v))

-- so many steps of the levels fit into the weight of the edge
steps_fit : (l j step w : ℕ) → 1 ≤ step → l < j + w / step → (l + 1) * step ≤ j * step + w
steps_fit l j step w one h =
    let le : (l + 1) * step ≤ (j + w / step) * step = mul-le-mul_right step (omega arith) in
    let part = div-mul-le_self w step in
    let split : (j + w / step) * step ≡ j * step + w / step * step = add-mul j (w / step) step in
    omega arith

pub forests-more : (es : List Edge) (step j end : ℕ) (e : Edge) (old new : List (List ℕ)) → 1 ≤ step → AreForests es step old → j ≤ length old →
    ((l : ℕ) → l + 1 ≡ j → AreJoined (level old l) e.u e.v) → HaveJoined old new j end e.u e.v → end ≤ j + e.w / step → AreForests (es ++ e ∷ []) step new
forests-more es step j end e old new one forests le joined so fits l h s light =
    let lo : l < length old = omega (arith, so.count) in
    let whole = cut_weight-more es e s in
    let respected : Respects (level old l) s = forests l lo s (omega arith) in
    let unchanged = λ (q : level new l ≡ level old l). subst (λ (ps : List ℕ). Respects ps s) (sym q) respected in
    ⊎_elim
    (λ (a : l < j). unchanged (so.outside l (inl a)))
    (λ (b : j ≤ l).
    ⊎_elim
    (λ (c : l < end).
    let fit = steps_fit l j step e.w one (omega arith) in
    let ends = ends_of es step j e old s forests le joined (omega arith) in
    ((so.inside l b c).respected s).1 (respected, ends))
    (λ (d : end ≤ l). unchanged (so.outside l (inr d)))
    (cases_lt l end))
    (cases_lt l j)

-- levels that stay are tied for one more edge
pub forests-stay : (es : List Edge) (step : ℕ) (e : Edge) (levels : List (List ℕ)) → AreForests es step levels → AreForests (es ++ e ∷ []) step levels
forests-stay es step e levels forests l h s light = forests l h s (omega (arith, cut_weight-more es e s))

pub forests-same : (es : List Edge) (step : ℕ) (old new : List (List ℕ)) → HasSameLevels old new → AreForests es step old → AreForests es step new
forests-same es step old new same forests l h s light =
    let lo : l < length old = omega (arith, same.count) in
    ((same.each l lo).respected s).1 (forests l lo s light)

-- an edge is joined as heavily as the levels before and its own weight
pub has_reach : (step j : ℕ) (e : Edge) (levels : List (List ℕ)) → j ≤ length levels → ((l : ℕ) → l + 1 ≡ j → AreJoined (level levels l) e.u e.v) → HasReach levels step e (j * step + e.w)
has_reach step j e levels le joined es forests s light = ends_of es step j e levels s forests le joined light

-- classes that stay as they are have taken an edge, and so have those in which its ends are made one where they are joined as heavily as the bound
pub taken_same : (levels : List (List ℕ)) (step bound : ℕ) (e : Edge) (old new : List ℕ) → HasSameClasses old new → HasTaken levels step bound e old new
taken_same levels step bound e old new same = record {
  long = same.long;
  kept = λ s h. (same.respected s).0 h;
  no_other = λ s h ends. (same.respected s).1 h;
  tied = λ es whole forests tied part s light. (same.respected s).1 (tied s light);
}

pub taken_joined : (levels : List (List ℕ)) (step bound reach : ℕ) (e : Edge) (old new : List ℕ) → HasReach levels step e reach → bound ≤ reach → HasJoined old new e.u e.v →
    HasTaken levels step bound e old new
taken_joined levels step bound reach e old new reaches enough is = record {
  long = is.long;
  kept = λ s h. ((is.respected s).0 h).0;
  no_other = λ s h ends. (is.respected s).1 (h, ends);
  tied = λ es whole forests tied part s light. (is.respected s).1 (tied s light, reaches es forests s (omega (arith, part s)));
}

-- other parents for the same classes before
pub taken_after : (levels : List (List ℕ)) (step bound : ℕ) (e : Edge) (old mid new : List ℕ) → HasSameClasses old mid → HasTaken levels step bound e mid new → HasTaken levels step bound e old new
taken_after levels step bound e old mid new same is = record {
  long = is.long ∙ same.long;
  kept = λ s h. (same.respected s).0 (is.kept s h);
  no_other = λ s h ends. is.no_other s ((same.respected s).1 h) ends;
  tied = λ es whole forests tied part. is.tied es whole forests (λ s light. (same.respected s).1 (tied s light)) part;
}

-- labels of tied classes are tied
pub labels_tied : (g : Graph) (bound : ℕ) (parents labels : List ℕ) → length parents ≡ g.vertices + 1 → AreNumbersOf parents labels → AreTied g.edges bound parents → AreLabelsTied g bound labels
labels_tied g bound parents labels long numbers tied = record {
  long = omega (arith, numbers.long);
  tied = λ s light u v u1 un v1 vn same. (numbers.joined u v u1 (omega (arith, long)) v1 (omega (arith, long))).0 same s (tied s light);
}
