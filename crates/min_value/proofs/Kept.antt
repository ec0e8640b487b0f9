-- Contractions that part no minimum cut, one after the other.
use Rattle.std.proofs.Common.{◌≡◌, ℕ, ◌+◌, ◌-◌, ◌<◌, ◌≤◌, ⊎_elim, Bool, true, false, List, map, length, set, get_or, refl, sym, ◌∙◌, subst, ap, arith, get_or-set_other, get_or-set_same, length-set}
use Rattle.std.specs.Prelude.{◌≢◌, Result, Ok, Err, Option, Some, None, IfOk, IfNone}
use Rattle.std.specs.List.{Contains}
use Rattle.std.proofs.lemmas.Bool.{cases_Bool, cases_eq, cases_lt, false≢true}
use Rattle.std.proofs.lemmas.List.{get_or_default, length-map}
use Rattle.cut_definitions.specs.Graph.{Graph, IsGraph}
use Rattle.cut_definitions.specs.Cuts.{has, value, mincuts}
use Rattle.cut_definitions.specs.Safe.{IsFair}
use Rattle.cut_definitions.specs.Contraction.{label, classes, IsLabels, relabel, lift}
use Rattle.cut_definitions.proofs.Sides.{Contains-from_IsSide}
use Rattle.cut_definitions.proofs.Values.{value_is_weight, Contains-mincuts, IsSide-from_mincuts}
use Rattle.cut_definitions.proofs.Bridge.{IsCut-has, two_vertices}
use Rattle.cut_definitions.proofs.SafeLaws.{value-le_fair}
use Rattle.weighted_graph.specs.RowLaws.{no_edge, edge_at}
use Rattle.weighted_graph.specs.ContractionLaws.{IsLabelled, PartsNoClass}
use Rattle.weighted_graph.specs.Marks.{MarksAreSafe}
use Rattle.weighted_graph.proofs.Contraction.{label_to_classes, vertex_of, law_of_contracted_minimum_cuts}
use Rattle.weighted_graph.proofs.Labelling.{classes_le, label-map, composed_are_labels, le_length}
use Rattle.weighted_graph.proofs.SafeContraction.{law_of_composed_lifts}
use Rattle.mark_board.specs.Marks.{MarkList}
use Rattle.round_contract.specs.Classes.{AreClassesOfMarks}
use Rattle.round_workers.specs.Round.{CertifiedAreMarked, SomeIsMarked}
use Rattle.min_value.specs.Kernels.{KeepsAllMinimumCuts, NoneIsCertified, IsKept}

-- ---- the value as a bound

-- the value is the weight of a cut
pub value_fair : (g : Graph) → 2 ≤ g.vertices → IsFair g (value g)
value_fair g two =
    let best = value_is_weight g two in
    let inside = Contains-from_IsSide g.vertices best.0 best.1 in
    (inside.0, best.0, inside.1, inside.2, best.2)

pub fair_is : (g : Graph) (bound : ℕ) → 2 ≤ g.vertices → bound ≡ value g → IsFair g bound
fair_is g bound two is = subst (λ (k : ℕ). IsFair g k) (sym is) (value_fair g two)

-- a fair bound that is at most the value is the value
pub low_is : (g : Graph) (low bound : ℕ) → IsFair g low → low ≤ bound → bound ≡ value g → low ≡ bound
low_is g low bound fair le is = let l = value-le_fair g low fair in omega arith

pub safe_at : (g : Graph) (marked : ℕ → Bool) (low bound : ℕ) → low ≡ bound → MarksAreSafe g marked low 1 → MarksAreSafe g marked bound 1
safe_at g marked low bound is safe = subst (λ (k : ℕ). MarksAreSafe g marked k 1) is safe

pub certified_at : (g : Graph) (marked : ℕ → Bool) (low bound : ℕ) → low ≡ bound → CertifiedAreMarked g marked (low + 1) → CertifiedAreMarked g marked (bound + 1)
certified_at g marked low bound is h = subst (λ (k : ℕ). CertifiedAreMarked g marked (k + 1)) is h

pub none_certified : (g : Graph) (marked : ℕ → Bool) (limit : ℕ) → CertifiedAreMarked g marked limit → ((i : ℕ) → i < length g.edges → marked i ≡ false) → NoneIsCertified g limit
none_certified g marked limit certified none i l is = false≢true (sym (none i l) ∙ certified i l is)

-- ---- one contraction

-- where minimum cuts are kept, two vertices are left
pub two_left : (g small : Graph) (labels : List ℕ) → 2 ≤ g.vertices → KeepsAllMinimumCuts g small labels → 2 ≤ small.vertices
two_left g small labels two kept =
    let best = value_is_weight g two in
    let part = kept.each_is_lifted best.0 (Contains-mincuts g best.0 best.1 best.2) in
    two_vertices small.vertices (has part.0) (IsCut-has small.vertices part.0 (IsSide-from_mincuts small part.0 part.1).0)

-- classes that no minimum cut parts
pub kept_by_classes : (g : Graph) → IsGraph g → (labels : List ℕ) (least : ℕ) (small : Graph) → 2 ≤ g.vertices → least ≡ value g → IsLabelled g labels → PartsNoClass g labels → small ≡ relabel g labels → IsKept g least small labels
unfolding relabel
kept_by_classes g ok labels least small two is labelled none small_is =
    let kept = law_of_contracted_minimum_cuts g ok labels labelled two none in
    let all : KeepsAllMinimumCuts g (relabel g labels) labels = record { each_is_lifted = kept.each_is_lifted; lifted = kept.lifted } in
    subst (λ (s : Graph). IsKept g least s labels) (sym small_is) (record {
      is_value = is;
      same_value = kept.same_value;
      labelled = labelled;
      counted = refl;
      minimum_cuts = all;
      enough = two_left g (relabel g labels) labels two all;
    })

-- ---- one contraction after the other

-- labels one after the other have the classes of the later
classes_composed : (labels next : List ℕ) → IsLabels labels → IsLabels next → length next ≡ classes labels → classes (map (label next) labels) ≡ classes next
classes_composed labels next h hn long =
    let both = map (label next) labels in
    let are = composed_are_labels labels next h hn long in
    let same_long = length-map labels (label next) in
    let low : classes both ≤ classes next = ⊎_elim
    (λ (z : classes both < 1). let r : classes both ≤ classes next = omega arith in r)
    (λ (some : 1 ≤ classes both).
    let v = vertex_of both are (classes both) some (omega arith) in
    let inside : v.0 ≤ length labels = omega (arith, v.2, same_long) in
    let is = label-map labels next v.0 v.1 inside in
    let there = v.3 in
    let from_one = h.from_one (v.0 - 1) 0 (omega (arith, v.1)) in
    let to_next = label_to_classes labels v.0 v.1 inside in
    let bound = label_to_classes next (label labels v.0) from_one (omega arith) in
    let r : classes both ≤ classes next = omega arith in r)
    (cases_lt (classes both) 1) in
    let high : classes next ≤ classes both = ⊎_elim
    (λ (z : classes next < 1). let r : classes next ≤ classes both = omega arith in r)
    (λ (some : 1 ≤ classes next).
    let d = vertex_of next hn (classes next) some (omega arith) in
    let v = vertex_of labels h d.0 d.1 (omega (arith, d.2)) in
    let is : label both v.0 ≡ classes next = label-map labels next v.0 v.1 v.2 ∙ (ap (label next) v.3 ∙ d.3) in
    let bound = label_to_classes both v.0 v.1 (omega (arith, v.2, same_long)) in
    let r : classes next ≤ classes both = omega arith in r)
    (cases_lt (classes next) 1) in
    omega arith

pub kept_more : (g small smaller : Graph) (least again : ℕ) (labels next : List ℕ) → IsKept g least small labels → IsKept small again smaller next → IsKept g least smaller (map (label next) labels)
kept_more g small smaller least again labels next h k =
    let long : length next ≡ classes labels = k.labelled.long ∙ sym h.counted in
    let lifts = law_of_composed_lifts labels next h.labelled.are_labels long in
    record {
      is_value = h.is_value;
      same_value = k.same_value ∙ h.same_value;
      labelled = record {
        are_labels = composed_are_labels labels next h.labelled.are_labels k.labelled.are_labels long;
        long = length-map labels (label next) ∙ h.labelled.long;
      };
      counted = classes_composed labels next h.labelled.are_labels k.labelled.are_labels long ∙ k.counted;
      minimum_cuts = record {
        each_is_lifted = λ side inside.
            let part = h.minimum_cuts.each_is_lifted side inside in
            let rest = k.minimum_cuts.each_is_lifted part.0 part.1 in
            (rest.0, rest.1, lifts rest.0 ∙ (ap (lift labels) rest.2 ∙ part.2));
        lifted = λ part inside.
            subst (λ (side : List ℕ). Contains (mincuts g) side) (sym (lifts part)) (h.minimum_cuts.lifted (lift next part) (k.minimum_cuts.lifted part inside));
      };
      enough = k.enough;
    }

-- what is kept of a graph has its value
pub value_of_small : (g small : Graph) (least : ℕ) (labels : List ℕ) → IsKept g least small labels → least ≡ value small
value_of_small g small least labels h = h.is_value ∙ sym h.same_value

-- ---- a mark joins two vertices, so fewer classes are left

at_place : (xs : List ℕ) (c k : ℕ) → k < length xs → get_or xs k 0 ≡ c → Contains xs c
at_place xs c k l is = (k, l, get_or_default xs k c 0 l ∙ is)

-- where two vertices have one label there are fewer classes than vertices: the greater one could have a label of its own
fewer_classes : (labels : List ℕ) → IsLabels labels → (u v : ℕ) → 1 ≤ u → u < v → v ≤ length labels → label labels u ≡ label labels v → classes labels < length labels
fewer_classes labels h u v one lt le same =
    let k = classes labels in
    let xs = set labels (v - 1) (k + 1) in
    let long : length xs ≡ length labels = length-set labels (v - 1) (k + 1) in
    let aside = λ (w : ℕ) (w1 : 1 ≤ w) (ne : w ≢ v). get_or-set_other labels (v - 1) (w - 1) (k + 1) 0 (λ e. ne (omega arith)) in
    let all : (c : ℕ) → 1 ≤ c → c ≤ k + 1 → Contains xs c = λ c c1 ck. ⊎_elim
    (λ (e : c ≡ k + 1). at_place xs c (v - 1) (omega arith) (get_or-set_same labels (v - 1) (k + 1) 0 (omega arith) ∙ sym e))
    (λ (ne : c ≢ k + 1).
    let w = vertex_of labels h c c1 (omega arith) in
    ⊎_elim
    (λ (e : w.0 ≡ v). at_place xs c (u - 1) (omega arith) (aside u one (λ q. omega arith) ∙ (same ∙ (ap (label labels) (sym e) ∙ w.3))))
    (λ (nv : w.0 ≢ v). at_place xs c (w.0 - 1) (omega (arith, w.1, w.2)) (aside w.0 w.1 nv ∙ w.3))
    (cases_eq w.0 v))
    (cases_eq c (k + 1)) in
    let r = le_length (k + 1) xs all in
    omega arith

pub no_more_vertices : (g small : Graph) (labels : List ℕ) → IsLabelled g labels → small ≡ relabel g labels → small.vertices ≤ g.vertices
unfolding relabel
no_more_vertices g small labels labelled small_is =
    let le = classes_le labels labelled.are_labels in
    let r : classes labels ≤ g.vertices = omega (arith, le, labelled.long) in
    subst (λ (s : Graph). s.vertices ≤ g.vertices) (sym small_is) r

pub fewer_by_marks : (g : Graph) → IsGraph g → (marks : MarkList) (labels : List ℕ) → marks.edges ≡ length g.edges → SomeIsMarked marks →
    IsLabelled g labels → AreClassesOfMarks g (has marks.marked) labels → classes labels < g.vertices
fewer_by_marks g ok marks labels same some labelled are =
    let i = some.edge in
    let inside : i < length g.edges = omega (arith, some.within) in
    let e = edge_at g i in
    let ends = ok.in_range i no_edge inside in
    let joined = (are.joined e.u e.v ends.0 (omega (arith, ends.1, ends.2)) (omega (arith, ends.0, ends.1)) ends.2).1 (λ s none. none i inside some.is_marked) in
    let fewer = fewer_classes labels labelled.are_labels e.u e.v ends.0 ends.1 (omega (arith, ends.2, labelled.long)) joined in
    omega (arith, fewer, labelled.long)

-- where each vertex is a class, none is marked
pub none_marked : (g : Graph) → IsGraph g → (marks : MarkList) (labels : List ℕ) → marks.edges ≡ length g.edges → IsLabelled g labels → AreClassesOfMarks g (has marks.marked) labels → g.vertices ≤ classes labels →
    (i : ℕ) → i < length g.edges → has marks.marked i ≡ false
none_marked g ok marks labels same labelled are many i inside = ⊎_elim
    (λ (yes : has marks.marked i ≡ true).
    let some : SomeIsMarked marks = record { edge = i; within = omega arith; is_marked = yes } in
    absurd (omega (arith, many, fewer_by_marks g ok marks labels same some labelled are)))
    (λ (no : has marks.marked i ≡ false). no)
    (cases_Bool (has marks.marked i))

-- ---- results

-- what holds anyway holds where nothing was found
pub holds_for_none : {X E : Type 0} (r : Result (Option X) E) (P : Type 0) → P → IfOk r (λ found. IfNone found P)
holds_for_none (Ok None) P p = p
holds_for_none (Ok (Some x)) P p = tt
holds_for_none (Err e) P p = tt
