-- Graphs after insertions, and what is replied for them.
use Rattle.std.proofs.Common.{◌≡◌, ℕ, ◌+◌, ◌<◌, ◌≤◌, Bool, true, false, List, [], ◌∷◌, ◌++◌, length, take, drop, append_assoc, min, max, refl, sym, ◌∙◌, ap, subst, arith, inr, ⊎_elim, Some}
use Rattle.std.specs.Prelude.{slice_get}
use Rattle.std.specs.List.{All, Contains}
use Rattle.std.proofs.lemmas.Bool.{cases_lt}
use Rattle.std.proofs.lemmas.List.{take-append-drop, take_all}
use Rattle.std.proofs.lemmas.List.Elements.{All-append, All-cons, All-contains, All-nil, Contains-append_right}
use Rattle.cut_definitions.proofs.Lists.{Contains-here}
use Rattle.cut_definitions.specs.Components.{IsConnected, HasComponents}
use Rattle.cut_definitions.specs.Graph.{Graph, IsEdgeList, IsVertex}
use Rattle.cut_definitions.specs.Weight.{VertexSet, parts, weight}
use Rattle.cut_definitions.proofs.ListLaws.{taken}
use Rattle.cactus_growth.specs.Insertion.{edge_between}
use Rattle.cactus_growth.specs.Laws.{LawOfWeights}
use Rattle.job_replies.specs.GrowReplies.{IsGrowReply, IsGrowStop}
use Rattle.program_words.specs.Insertions.{Insertion}
use Rattle.job_replies.specs.GrownGraphs.{grown, step_of, steps_of, with_insertion, IsFirstBeyond, StaysWithin}
use Rattle.job_replies.specs.Jobs.{AreInRange, IsFirstOutside, IsGrowText, IsOutsidePair}
use Rattle.stop_lines.specs.declared.stop.Stop.{Stop}
use Rattle.stop_lines.specs.declared.stop.Stop.TheVariants as stop

-- ---- lists that grow at the end

pub grown_more : (g : Graph) (is : List Insertion) (i : Insertion) → grown g (is ++ i ∷ []) ≡ with_insertion (grown g is) i
grown_more g [] i = refl
grown_more g (j ∷ is) i = grown_more (with_insertion g j) is i

pub steps_more : (g : Graph) (is : List Insertion) (i : Insertion) → steps_of g (is ++ i ∷ []) ≡ steps_of g is ++ step_of (with_insertion (grown g is) i) ∷ []
steps_more g [] i = refl
steps_more g (j ∷ is) i = ap (λ l. step_of (with_insertion g j) ∷ l) (steps_more (with_insertion g j) is i)

pub grown_vertices : (g : Graph) (is : List Insertion) → (grown g is).vertices ≡ g.vertices
grown_vertices g [] = refl
grown_vertices g (i ∷ is) = grown_vertices (with_insertion g i) is

-- ---- one insertion

xor_turned : (a b : Bool) → (s : ℕ → Bool) (u v : ℕ) → s u ≡ a → s v ≡ b → parts s v u ≡ parts s u v
xor_turned true true s u v p q = rw (p, q) refl
xor_turned true false s u v p q = rw (p, q) refl
xor_turned false true s u v p q = rw (p, q) refl
xor_turned false false s u v p q = rw (p, q) refl

-- the smaller and the greater of two vertices are separated if the two are
pub parts_between : (s : VertexSet) (u v : ℕ) → parts s (min u v) (max u v) ≡ parts s u v
parts_between s u v =
    ⊎_elim
    (λ (l : u < v). (λ i. parts s (lesser u v l i) (greater u v l i)))
    (λ (l : v ≤ u). (λ i. parts s (lesser_turned u v l i) (greater_turned u v l i)) ∙ xor_turned (s u) (s v) s u v refl refl)
    (cases_lt u v)
  where
    lesser : (u v : ℕ) → u < v → min u v ≡ u
    lesser u v l = omega (arith, l)

    greater : (u v : ℕ) → u < v → max u v ≡ v
    greater u v l = omega (arith, l)

    lesser_turned : (u v : ℕ) → v ≤ u → min u v ≡ v
    lesser_turned u v l = omega (arith, l)

    greater_turned : (u v : ℕ) → v ≤ u → max u v ≡ u
    greater_turned u v l = omega (arith, l)

-- an insertion leaves a connected graph connected
pub still_connected : (g : Graph) (i : Insertion) → LawOfWeights → IsConnected g → IsConnected (with_insertion g i)
still_connected g i law connected = record {
  some_vertex = connected.some_vertex;
  each_cut = λ s cut. (let least : 1 ≤ weight g s = connected.each_cut s cut in omega (arith, least, law g (edge_between i.0 i.1 i.2) s));
}

-- ---- an insertion at a place

module _ {X : Type 0} (xs : List X) (i : ℕ) (x : X) (at : slice_get xs i ≡ Some x) where
  pub split_at : xs ≡ take i xs ++ x ∷ drop (i + 1) xs
  split_at =
      sym (take-append-drop (i + 1) xs) ∙ ap (λ (l : List X). l ++ drop (i + 1) xs) (taken xs i x at) ∙ append_assoc (take i xs) (x ∷ []) (drop (i + 1) xs)

  pub holds_at : (P : X → Type 0) → All P xs → P x
  holds_at P all =
      All-contains P xs x all
      (subst (λ (l : List X). Contains l x) (sym split_at) (Contains-append_right (take i xs) (x ∷ drop (i + 1) xs) x (Contains-here x (drop (i + 1) xs))))

  pub all_more : (P : X → Type 0) → All P (take i xs) → P x → All P (take (i + 1) xs)
  all_more P all here = subst (All P) (sym (taken xs i x at)) (All-append P (take i xs) (x ∷ []) all (All-cons P x [] here (All-nil P)))

pub all_there : {X : Type 0} (P : X → Type 0) (xs : List X) (i : ℕ) → length xs ≤ i → All P (take i xs) → All P xs
all_there {X} P xs i le all = subst (λ (l : List X). All P l) (take_all i xs le) all

pub first_outside : (n : ℕ) (is : List Insertion) (i : ℕ) (x : Insertion) (vertex : ℕ) → slice_get is i ≡ Some x → AreInRange n (take i is) → IsOutsidePair n x.0 x.1 vertex → IsFirstOutside n is vertex
first_outside n is i x vertex at before here = record {
  before = take i is;
  insertion = x;
  after = drop (i + 1) is;
  parts = split_at is i x at;
  in_range = before;
  outside = here;
}

module _ (g : Graph) (is : List Insertion) (i : ℕ) (x : Insertion) (at : slice_get is i ≡ Some x) where
  pub there_now : (n : ℕ) (current : Graph) → n ≡ g.vertices → AreInRange n is → current ≡ grown g (take i is) → IsVertex current.vertices x.0 × IsVertex current.vertices x.1
  there_now n current same all now =
      subst (λ (k : ℕ). IsVertex k x.0 × IsVertex k x.1) (same ∙ sym (ap (λ (h : Graph). h.vertices) now ∙ grown_vertices g (take i is)))
      (holds_at is i x at (λ j. IsVertex n j.0 × IsVertex n j.1) all)

  pub grown_next : (current next : Graph) → current ≡ grown g (take i is) → next ≡ with_insertion current x → next ≡ grown g (take (i + 1) is)
  grown_next current next now e =
      e ∙ ap (λ (h : Graph). with_insertion h x) now ∙ sym (ap (grown g) (taken is i x at) ∙ grown_more g (take i is) x)

  pub within_more : (current : Graph) → current ≡ grown g (take i is) → IsEdgeList (with_insertion current x) → ((k : ℕ) → k ≤ i → IsEdgeList (grown g (take k is))) →
      (k : ℕ) → k ≤ i + 1 → IsEdgeList (grown g (take k is))
  within_more current now next before k le =
      ⊎_elim (λ (l : k < i + 1). before k (omega (arith, l)))
      (λ (m : i + 1 ≤ k).
      let same : k ≡ i + 1 = omega (arith, le, m) in
      subst (λ (j : ℕ). IsEdgeList (grown g (take j is))) (sym same) (subst IsEdgeList (grown_next current (with_insertion current x) now refl) next))
      (cases_lt k (i + 1))

  pub fits_now : (current : Graph) → i < length is → current ≡ grown g (take i is) → StaysWithin g is → IsEdgeList (with_insertion current x)
  fits_now current lt now within =
      subst IsEdgeList (sym (grown_next current (with_insertion current x) now refl)) (within (i + 1) (omega (arith, lt)))

pub none_inserted : (g : Graph) (is : List Insertion) → IsEdgeList g → (k : ℕ) → k ≤ 0 → IsEdgeList (grown g (take k is))
none_inserted g is edges k le =
    let none : k ≡ 0 = omega (arith, le) in
    subst (λ (j : ℕ). IsEdgeList (grown g (take j is))) (sym none) edges

pub whole_growth : (g graph : Graph) (is : List Insertion) (count : ℕ) (text : List ℕ) → graph ≡ g → HasComponents graph count → StaysWithin g is → IsConnected g → IsGrowText g is text → IsGrowReply g is text
whole_growth g graph is count text e counted within connected told = record {
  within = within;
  count = count;
  components = subst (λ (h : Graph). HasComponents h count) e counted;
  answer = inr (connected, told);
}

pub growth_stop : (g : Graph) (is : List Insertion) (count : ℕ) (s : Stop) → HasComponents g count → (number : ℕ) × (s ≡ stop.GrowTooLarge number) × IsFirstBeyond g is number → IsGrowStop g is s
growth_stop g is count s counted large = subst (IsGrowStop g is) (sym large.1) ((count, counted), large.2)

-- ---- in the words of the job
