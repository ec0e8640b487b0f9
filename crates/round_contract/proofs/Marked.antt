-- Classes of what the marked edges so far join.
use Rattle.std.proofs.Common.{◌≡◌, ℕ, ◌+◌, ◌<◌, ◌≤◌, ⊎_elim, Bool, true, false, List, length, sym, ◌∙◌, ap, subst, arith}
use Rattle.std.specs.Prelude.{◌≢◌, ◌↔◌, IsTrue}
use Rattle.std.proofs.lemmas.Bool.{cases_eq, cases_lt, false≢true}
use Rattle.cut_definitions.specs.Graph.{Graph, IsGraph}
use Rattle.cut_definitions.specs.Weight.{VertexSet}
use Rattle.cut_definitions.specs.Contraction.{label}
use Rattle.weighted_graph.specs.RowLaws.{edge_at}
use Rattle.weighted_graph.specs.Marks.{PartsNoMark}
use Rattle.weighted_graph.proofs.Rows.{no_edge}
use Rattle.weighted_graph.proofs.Contraction.{label_from_one, label_to_classes}
use Rattle.vertex_classes.specs.Classes.{no_vertex, AreNumbersOf, HasJoined, Respects}
use Rattle.vertex_classes.proofs.Numbered.{zero_out}
use Rattle.round_contract.specs.Classes.{AreClassesOfMarks}

-- a set separates the ends of none of the first marked edges
abbrev pub PartsNoMarkBefore : Graph → (ℕ → Bool) → ℕ → VertexSet → Type 0
PartsNoMarkBefore g marked count s = (i : ℕ) → i < count → IsTrue (marked i) → s (edge_at g i).u ≡ s (edge_at g i).v

-- the sets that respect classes are those that separate the ends of none of the first marked edges
abbrev pub AreOfMarksBefore : Graph → (ℕ → Bool) → ℕ → List ℕ → Type 0
AreOfMarksBefore g marked count parents = (s : VertexSet) → Respects parents s ↔ PartsNoMarkBefore g marked count s

pub of_no_marks : (g : Graph) (marked : ℕ → Bool) (parents : List ℕ) → ((s : VertexSet) → Respects parents s) → AreOfMarksBefore g marked 0 parents
of_no_marks g marked parents alone s = (λ r i l. absurd (omega (arith, l)), λ h. alone s)

pub of_one_mark : (g : Graph) (marked : ℕ → Bool) (count : ℕ) (old new : List ℕ) → AreOfMarksBefore g marked count old → HasJoined old new (edge_at g count).u (edge_at g count).v → marked count ≡ true → AreOfMarksBefore g marked (count + 1) new
of_one_mark g marked count old new h joined is s = (
  λ r i l here.
      let p = (joined.respected s).0 r in
      ⊎_elim
      (λ (e : i ≡ count). subst (λ (k : ℕ). s (edge_at g k).u ≡ s (edge_at g k).v) (sym e) p.1)
      (λ (ne : i ≢ count). (h s).0 p.0 i (omega (arith, l, ne)) here)
      (cases_eq i count),
  λ parts. (joined.respected s).1 ((h s).1 (λ i l here. parts i (omega (arith, l)) here), parts count (omega arith) is),
)

pub of_no_mark : (g : Graph) (marked : ℕ → Bool) (count : ℕ) (old : List ℕ) → AreOfMarksBefore g marked count old → marked count ≡ false → AreOfMarksBefore g marked (count + 1) old
of_no_mark g marked count old h absent s = (
  λ r i l here. ⊎_elim
      (λ (e : i ≡ count). absurd (false≢true (sym absent ∙ (ap marked (sym e) ∙ here))))
      (λ (ne : i ≢ count). (h s).0 r i (omega (arith, l, ne)) here)
      (cases_eq i count),
  λ parts. (h s).1 (λ i l here. parts i (omega (arith, l)) here),
)

-- no edge has the number 0 at an end
pub zero_alone : (g : Graph) → IsGraph g → (marked : ℕ → Bool) → PartsNoMark g marked no_vertex
zero_alone g ok marked i l here =
    let at = ok.in_range i no_edge l in
    zero_out (edge_at g i).u at.0 ∙ sym (zero_out (edge_at g i).v (omega (arith, at.0, at.1)))

-- labels of such classes are those that the marks make
pub classes_are_those : (g : Graph) (marked : ℕ → Bool) (parents labels : List ℕ) → length parents ≡ g.vertices + 1 → ((s : VertexSet) → Respects parents s ↔ PartsNoMark g marked s) → AreNumbersOf parents labels →
    AreClassesOfMarks g marked labels
classes_are_those g marked parents labels long of_marks h = record {
  joined = λ u v u1 un v1 vn.
      let both = h.joined u v u1 (omega (arith, long, un)) v1 (omega (arith, long, vn)) in (
        λ same s parts. both.0 same s ((of_marks s).1 parts),
        λ joined. both.1 (λ s r. joined s ((of_marks s).0 r)),
      );
  numbered = λ u v u1 less vn first.
      let c = label labels v in
      let v1 : 1 ≤ v = omega (arith, u1, less) in
      let in_labels : v ≤ length labels = omega (arith, vn, long, h.long) in
      let k = h.least c (label_from_one labels h.are_labels v v1 in_labels) (label_to_classes labels v v1 in_labels) in
      let here : k.0 ≡ v = ⊎_elim
      (λ (l : k.0 < v). absurd (first k.0 k.1.from_one l k.1.there))
      (λ (le : v ≤ k.0). ⊎_elim
      (λ (e : k.0 ≡ v). e)
      (λ (ne : k.0 ≢ v). let lower : c < c = k.1.before v v1 (omega (arith, le, ne)) in absurd (omega (arith, lower)))
      (cases_eq k.0 v))
      (cases_lt k.0 v) in
      k.1.before u u1 (omega (arith, less, here));
}
