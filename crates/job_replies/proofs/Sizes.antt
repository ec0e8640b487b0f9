-- The weight and the number of the edges of a graph after insertions.
use Rattle.std.proofs.Common.{◌≡◌, ℕ, ◌+◌, ◌<◌, ◌≤◌, ◌^◌, ◌⊎◌, inl, inr, Bool, true, false, ◌||◌, List, [], ◌∷◌, length, take, get_or, refl, sym, ◌∙◌, ap, subst, arith, Some}
use Rattle.std.specs.Prelude.{if◌then◌else◌, slice_get}
use Rattle.std.specs.List.{All, list_any, sum_by}
use Rattle.std.proofs.lemmas.Bool.{false≢true}
use Rattle.std.proofs.Math.Bool.{or-false}
use Rattle.std.proofs.lemmas.List.{get_or-take, length-take-le}
use Rattle.std.proofs.lemmas.List.Folds.{list_any-append, list_any_at}
use Rattle.std.proofs.lemmas.Option.{get_or_from_slice_get}
use Rattle.cut_definitions.specs.declared.edge_list.Edge.{Edge}
use Rattle.cut_definitions.specs.Graph.{Graph, IsEdgeList}
use Rattle.cut_definitions.proofs.ListLaws.{taken}
use Rattle.cactus_growth.specs.Insertion.{edge_between, is_joined, same_ends}
use Rattle.cactus_growth.proofs.Joined.{inserted_count, joined_inserted, within_by_count}
use Rattle.cactus_growth.proofs.Limits.{inserted_weight}
use Rattle.program_words.specs.Insertions.{Insertion, IsInsertion}
use Rattle.job_replies.specs.GrownGraphs.{grown, with_insertion, IsFirstBeyond}
use Rattle.job_replies.specs.Jobs.{AreInRange}
use Rattle.job_replies.proofs.Inserted.{grown_next, holds_at, there_now}

or_turned : (a b c : Bool) → ((a || b) || c) ≡ (b || (a || c))
or_turned true true c = refl
or_turned true false c = refl
or_turned false b c = refl

-- one of some insertions joins the ends of an edge
abbrev pub is_among : Edge → List Insertion → Bool
is_among e = list_any (λ (i : Insertion). same_ends (edge_between i.0 i.1 i.2) e)

-- after insertions two vertices are joined if an edge joins them before, or one of the insertions does
joined_grown : (g : Graph) (is : List Insertion) (e : Edge) → is_joined e (grown g is).edges ≡ (is_joined e g.edges || is_among e is)
joined_grown g [] e = sym (or-false (is_joined e g.edges))
joined_grown g (i ∷ is) e =
    joined_grown (with_insertion g i) is e ∙ ap (λ b. b || is_among e is) (joined_inserted (edge_between i.0 i.1 i.2) e g.edges)
    ∙ or_turned (same_ends (edge_between i.0 i.1 i.2) e) (is_joined e g.edges) (is_among e is)

pub none_made : (g : Graph) (is : List Insertion) (e : Edge) (n : ℕ) → n ≡ 0 → (is_joined e g.edges || is_among e is) ≡ true → n ≡ (if is_joined e (grown g is).edges then 0 else 1)
none_made g is e n zero h = let there = joined_grown g is e ∙ h in rw there zero

pub one_made : (g : Graph) (is : List Insertion) (e : Edge) (n : ℕ) → n ≡ 1 → (is_joined e g.edges || is_among e is) ≡ false → n ≡ (if is_joined e (grown g is).edges then 0 else 1)
one_made g is e n one h = let apart = joined_grown g is e ∙ h in rw apart one

pub at_most_one : (b : Bool) (n : ℕ) → n ≡ (if b then 0 else 1) → n ≤ 1
at_most_one true n h = omega (arith, h)
at_most_one false n h = omega (arith, h)

or_none : (a b : Bool) → a ≡ false → b ≡ false → (a || b) ≡ false
or_none true b h k = absurd (false≢true (sym h))
or_none false b h k = k

pub some_left : (a b : Bool) → a ≡ true → (a || b) ≡ true
some_left true b h = refl
some_left false b h = absurd (false≢true h)

pub none_there : (g : Graph) (is : List Insertion) (e : Edge) → is_joined e g.edges ≡ false → is_among e is ≡ false → (is_joined e g.edges || is_among e is) ≡ false
none_there g is e h k = or_none (is_joined e g.edges) (is_among e is) h k

-- ---- a look at each of the first insertions

module _ (e : Edge) (is : List Insertion) (i : ℕ) (x : Insertion) (at : slice_get is i ≡ Some x) where
  pub found_among : (count : ℕ) → count ≤ length is → i < count → same_ends (edge_between x.0 x.1 x.2) e ≡ true → is_among e (take count is) ≡ true
  found_among count within lt h =
      let p = λ (j : Insertion). same_ends (edge_between j.0 j.1 j.2) e in
      let there : x ≡ get_or (take count is) i x = sym (get_or-take count is i x lt ∙ get_or_from_slice_get is i x x at) in
      list_any_at p (take count is) i x (omega (arith, lt, length-take-le count is within)) (subst (λ j. p j ≡ true) there h)

  pub none_among : is_among e (take i is) ≡ false → same_ends (edge_between x.0 x.1 x.2) e ≡ false → is_among e (take (i + 1) is) ≡ false
  none_among before h =
      ap (is_among e) (taken is i x at) ∙ list_any-append (λ (j : Insertion). same_ends (edge_between j.0 j.1 j.2) e) (take i is) (x ∷ [])
      ∙ or_none (is_among e (take i is)) (is_among e (x ∷ [])) before (or_none (same_ends (edge_between x.0 x.1 x.2) e) false h refl)

-- ---- one more insertion

module _ (g : Graph) (is : List Insertion) (i : ℕ) (x : Insertion) (at : slice_get is i ≡ Some x) where
  abbrev now : Graph
  now = grown g (take i is)

  abbrev pair : Edge
  pair = edge_between x.0 x.1 x.2

  next_is : with_insertion now x ≡ grown g (take (i + 1) is)
  next_is = grown_next g is i x at now (with_insertion now x) refl refl

  pub weight_next : sum_by (λ (d : Edge). d.w) (grown g (take (i + 1) is)).edges ≡ sum_by (λ (d : Edge). d.w) now.edges + x.2
  weight_next = sym (ap (λ (h : Graph). sum_by (λ (d : Edge). d.w) h.edges) next_is) ∙ inserted_weight pair now.edges

  pub edges_next : IsEdgeList now → length (grown g (take (i + 1) is)).edges ≡ length now.edges + (if is_joined pair now.edges then 0 else 1)
  edges_next list = sym (ap (λ (h : Graph). length h.edges) next_is) ∙ inserted_count pair now.edges list.is_graph.ascending

  pub list_next : AreInRange g.vertices is → All IsInsertion is → IsEdgeList now → sum_by (λ (d : Edge). d.w) now.edges + x.2 ≤ 2 ^ 61 → length now.edges + (if is_joined pair now.edges then 0 else 1) ≤ 16777216 →
      IsEdgeList (with_insertion now x)
  list_next range each list light few =
      let ends = there_now g is i x at g.vertices now refl range refl in
      let insertion = holds_at is i x at IsInsertion each in
      (within_by_count now x.0 x.1 x.2 list ends.0.0 ends.0.1 ends.1.0 ends.1.1 insertion.0 insertion.1).0 (light, few)

  pub beyond_next : i < length is → ((k : ℕ) → k ≤ i → IsEdgeList (grown g (take k is))) →
      (2 ^ 61 < sum_by (λ (d : Edge). d.w) now.edges + x.2) ⊎ (16777216 < length now.edges + (if is_joined pair now.edges then 0 else 1)) → IsFirstBeyond g is (i + 1)
  beyond_next lt before large = record {
    to_end = omega (arith, lt);
    within_before = λ k less. before k (omega (arith, less));
    beyond = λ list. elim large [
      | inl h ↦ absurd (omega (arith, h, weight_next, list.is_graph.total))
      | inr h ↦ absurd (omega (arith, h, edges_next (before i (omega arith)), list.few_edges))
    ];
  }
