-- What lies between the parts of a region, counted by the rows of the listed vertices.
use Rattle.std.proofs.Common.{◌≡◌, ℕ, ◌+◌, ◌^◌, ◌<◌, ◌≤◌, ⊎_elim, Bool, true, false, not, ◌&&◌, ◌||◌, eqb, ltb, leb, List, take, length, get_or, refl, sym, ◌∙◌, ap, subst, arith}
use Rattle.std.specs.Prelude.{if◌then◌else◌, ◌≢◌}
use Rattle.std.specs.List.{sum_by}
use Rattle.std.proofs.lemmas.Bool.{cases_eq, cases_Bool, eq-eqb, ne_eqb, eqb-true, or_from, or_right, or_cases}
use Rattle.std.proofs.lemmas.Bool.Decides.{nat_tests}
use Rattle.std.proofs.lemmas.List.{take_all}
use Rattle.std.proofs.lemmas.List.Folds.{list_any_at, list_any_more}
use Rattle.std.proofs.lemmas.List.Elements.{All-weaker}
use Rattle.cut_definitions.specs.declared.edge_list.Edge.{Edge}
use Rattle.cut_definitions.specs.Graph.{Graph, IsGraph, IsEdgeWithin}
use Rattle.cut_definitions.specs.Weight.{VertexSet, between}
use Rattle.cut_definitions.specs.Cuts.{has}
use Rattle.cut_definitions.specs.Scan.{single}
use Rattle.cut_definitions.specs.Chain.{one_part}
use Rattle.cut_definitions.proofs.WeightLaws.{join_of, join_term}
use Rattle.cut_definitions.proofs.Sums.{sum_by-plus, sum_by-same, sum_by-same_on, sum_by-le_each, sum_by-none}
use Rattle.cut_definitions.proofs.Bools.{or_nothing, and_first, or_assoc, either_le}
use Rattle.cut_definitions.proofs.Numbers.{apart_next, apart_later}
use Rattle.weighted_graph.specs.Rows.{row_of}
use Rattle.weighted_graph.proofs.RowLaws.{weight_to_is}
use Rattle.region_flow.proofs.Least.{placed_at}
use Rattle.region_flow.specs.Parted.{later_parts}
use Rattle.arc_search.specs.Searched.{is_listed}
use Rattle.region_fronts.specs.Listed.{PartsState, part_in, IsPartList, AreListed}
use Rattle.node_tree.specs.Weighed.{counts_at, arc_adds, weighed_by, listed_below, AreWeighed, AreWeights}

-- ---- the row of one vertex more

-- one edge, where du and dv say whether its ends are done, and cu and cv whether it counts there
done_one : (dv cu cv : Bool) (w : ℕ) → (dv ≡ true → cu ≡ true → cv ≡ true → ⊥) →
    (if true && cu || (dv && cv) then w else 0) ≡ (if false && cu || (dv && cv) then w else 0) + (if cu then w else 0)
done_one true true true w h = absurd (h refl refl refl)
done_one true true false w h = grind arith
done_one true false cv w h = grind arith
done_one false cu cv w h = grind arith

done_other : (du cu cv : Bool) (w : ℕ) → (du ≡ true → cu ≡ true → cv ≡ true → ⊥) →
    (if du && cu || (true && cv) then w else 0) ≡ (if du && cu || (false && cv) then w else 0) + (if cv then w else 0)
done_other true true true w h = absurd (h refl refl refl)
done_other true true false w h = grind arith
done_other true false cv w h = grind arith
done_other false cu cv w h = grind arith

-- an edge counts at one of two listed ends at most
counts_once : (lu lv su sv tu tv : Bool) → (su && tu) ≡ false → (sv && tv) ≡ false → lu ≡ true → lv ≡ true →
    (tu && sv || (su && tv && not lv)) ≡ true → (tv && su || (sv && tu && not lu)) ≡ true → ⊥
counts_once lu lv su sv tu tv a b l m h k = grind arith

join_first : (qv qu : Bool) (w : ℕ) → join_of true false qu qv w ≡ (if qv then w else 0)
join_first qv qu w = grind arith

join_second : (qv qu : Bool) (w : ℕ) → join_of false true qu qv w ≡ (if qu then w else 0)
join_second qv qu w = grind arith

join_none : (qv qu : Bool) (w : ℕ) → join_of false false qu qv w ≡ 0
join_none qv qu w = grind arith

-- one edge, as the vertex v is done too
edge_step : (listed done done' s t : VertexSet) (v a b w : ℕ) → a ≢ b → ((x : ℕ) → (s x && t x) ≡ false) → listed v ≡ true → ((x : ℕ) → done x ≡ true → listed x ≡ true) →
    done v ≡ false → ((x : ℕ) → done' x ≡ (done x || eqb v x)) →
    (if done' a && counts_at listed s t a b || (done' b && counts_at listed s t b a) then w else 0)
    ≡ (if done a && counts_at listed s t a b || (done b && counts_at listed s t b a) then w else 0)
    + join_of (eqb v a) (eqb v b) (counts_at listed s t v a) (counts_at listed s t v b) w
edge_step listed done done' s t v a b w ne apart here known off more =
    let once = λ (x y : ℕ) (k : listed x ≡ true) (m : listed y ≡ true). counts_once (listed x) (listed y) (s x) (s y) (t x) (t y) (apart x) (apart y) k m in
    ⊎_elim
    (λ (p : v ≡ a).
    let first : done a ≡ false = ap done (sym p) ∙ off in
    let now : done' a ≡ true = more a ∙ or_right (done a) (eqb v a) (eq-eqb v a p) in
    let far : v ≢ b = λ q. ne (sym p ∙ q) in
    let kept : done' b ≡ done b = more b ∙ or_nothing (done b) (eqb v b) (ne_eqb v b far) in
    let is : eqb v a ≡ true = eq-eqb v a p in
    let not_b : eqb v b ≡ false = ne_eqb v b far in
    let same : counts_at listed s t v b ≡ counts_at listed s t a b = ap (λ (x : ℕ). counts_at listed s t x b) p in
    rw (first, now, kept, is, not_b, same, join_first (counts_at listed s t a b) (counts_at listed s t v a) w)
    (done_one (done b) (counts_at listed s t a b) (counts_at listed s t b a) w (λ d. once a b (ap listed (sym p) ∙ here) (known b d))))
    (λ (p : v ≢ a). ⊎_elim
    (λ (q : v ≡ b).
    let second : done b ≡ false = ap done (sym q) ∙ off in
    let now : done' b ≡ true = more b ∙ or_right (done b) (eqb v b) (eq-eqb v b q) in
    let kept : done' a ≡ done a = more a ∙ or_nothing (done a) (eqb v a) (ne_eqb v a p) in
    let is : eqb v b ≡ true = eq-eqb v b q in
    let not_a : eqb v a ≡ false = ne_eqb v a p in
    let same : counts_at listed s t v a ≡ counts_at listed s t b a = ap (λ (x : ℕ). counts_at listed s t x a) q in
    rw (second, now, kept, is, not_a, same, join_second (counts_at listed s t v b) (counts_at listed s t b a) w)
    (done_other (done a) (counts_at listed s t a b) (counts_at listed s t b a) w (λ d. once a b (known a d) (ap listed (sym q) ∙ here))))
    (λ (q : v ≢ b).
    let kept_a : done' a ≡ done a = more a ∙ or_nothing (done a) (eqb v a) (ne_eqb v a p) in
    let kept_b : done' b ≡ done b = more b ∙ or_nothing (done b) (eqb v b) (ne_eqb v b q) in
    let not_a : eqb v a ≡ false = ne_eqb v a p in
    let not_b : eqb v b ≡ false = ne_eqb v b q in
    rw (kept_a, kept_b, not_a, not_b, join_none (counts_at listed s t v b) (counts_at listed s t v a) w) (omega arith))
    (cases_eq v b))
    (cases_eq v a)

-- what the rows make, as the vertex v is done too
pub row_step : (g : Graph) → IsGraph g → (listed done done' s t : VertexSet) (v : ℕ) → ((x : ℕ) → (s x && t x) ≡ false) → listed v ≡ true → ((x : ℕ) → done x ≡ true → listed x ≡ true) →
    done v ≡ false → ((x : ℕ) → done' x ≡ (done x || eqb v x)) →
    weighed_by g listed done' s t ≡ weighed_by g listed done s t + sum_by (arc_adds listed s t v) (row_of g v)
row_step g ok listed done done' s t v apart here known off more =
    let term = λ (d : VertexSet) (e : Edge). (if d e.u && counts_at listed s t e.u e.v || (d e.v && counts_at listed s t e.v e.u) then e.w else 0) in
    let join = join_term (single v) (counts_at listed s t v) in
    let each = All-weaker (IsEdgeWithin g.vertices) (λ e. term done' e ≡ term done e + join e)
    (λ e h. edge_step listed done done' s t v e.u e.v e.w (λ q. omega (arith, h.1, q)) apart here known off more) g.edges ok.in_range in
    omega (
      arith,
      sum_by-same_on (term done') (λ e. term done e + join e) g.edges each,
      sum_by-plus (term done) join g.edges,
      weight_to_is g ok v (counts_at listed s t v),
    )

-- all edges weigh at most 2^61
pub weighed_small : (g : Graph) → IsGraph g → (listed done s t : VertexSet) → weighed_by g listed done s t ≤ 2 ^ 61
weighed_small g ok listed done s t =
    let term = λ (e : Edge). (if done e.u && counts_at listed s t e.u e.v || (done e.v && counts_at listed s t e.v e.u) then e.w else 0) in
    omega (arith, sum_by-le_each term (λ (e : Edge). e.w) (λ e. either_le (done e.u && counts_at listed s t e.u e.v || (done e.v && counts_at listed s t e.v e.u)) e.w) g.edges, ok.total)

-- ---- the start and the end

-- nothing is done at first
nobody : (cu cv : Bool) (w : ℕ) (du dv : Bool) → du ≡ false → dv ≡ false → (if du && cu || (dv && cv) then w else 0) ≡ 0
nobody cu cv w du dv h k = grind arith

pub weighed_start : (g : Graph) (listed done s t : VertexSet) → ((x : ℕ) → done x ≡ false) → weighed_by g listed done s t ≡ 0
weighed_start g listed done s t none =
    sum_by-none (λ (e : Edge). (if done e.u && counts_at listed s t e.u e.v || (done e.v && counts_at listed s t e.v e.u) then e.w else 0))
    (λ e. nobody (counts_at listed s t e.u e.v) (counts_at listed s t e.v e.u) e.w (done e.u) (done e.v) (none e.u) (none e.v)) g.edges

and_swap : (a b : Bool) → (a && b) ≡ false → (b && a) ≡ false
and_swap a b h = grind arith

whole_edge : (lu lv su sv tu tv : Bool) (w : ℕ) → (lu ≡ false → lv ≡ false → (su && tv) ≡ false) → (lu ≡ false → lv ≡ false → (tu && sv) ≡ false) →
    (if lu && (tu && sv || (su && tv && not lv)) || (lv && (tv && su || (sv && tu && not lu))) then w else 0) ≡ join_of su sv tu tv w
whole_edge true lv su sv tu tv w h k = grind arith
whole_edge false true su sv tu tv w h k = grind arith
whole_edge false false su sv tu tv w h k =
    let a = h refl refl in
    let b = k refl refl in
    grind arith

-- where all listed vertices are done, and an edge between the sets has a listed end, that is all
pub weighed_end : (g : Graph) (listed done s t : VertexSet) → ((x : ℕ) → done x ≡ listed x) → ((x y : ℕ) → listed x ≡ false → listed y ≡ false → (s x && t y) ≡ false) →
    weighed_by g listed done s t ≡ between g s t
weighed_end g listed done s t all some =
    sum_by-same (λ (e : Edge). (if done e.u && counts_at listed s t e.u e.v || (done e.v && counts_at listed s t e.v e.u) then e.w else 0)) (join_term s t)
    (λ e. rw (all e.u, all e.v) (whole_edge (listed e.u) (listed e.v) (s e.u) (s e.v) (t e.u) (t e.v) e.w (λ a b. some e.u e.v a b) (λ a b. and_swap (s e.v) (t e.u) (some e.v e.u b a)))) g.edges

-- ---- the list of a part

-- what is listed below the next part: what is below this one, and its own
below_more : (n i : ℕ) → 1 ≤ i → (ltb 0 n && ltb n (i + 1)) ≡ ((ltb 0 n && ltb n i) || eqb n i)
below_more n i h = grind (arith, nat_tests)

below_none : (n : ℕ) → (ltb 0 n && ltb n 1) ≡ false
below_none n = grind (arith, nat_tests)

below_all : (n count : ℕ) → n ≤ count → (ltb 0 n && ltb n (count + 1)) ≡ ltb 0 n
below_all n count h = grind (arith, nat_tests)

not_here : (n i : ℕ) → n ≡ i → (ltb 0 n && ltb n i) ≡ false
not_here n i h = grind (arith, nat_tests)

positive : (n i : ℕ) → 1 ≤ i → eqb n i ≡ true → ltb 0 n ≡ true
positive n i h k = grind (arith, nat_tests)

-- the vertices of the parts below one, and of the first places of its list
abbrev pub done_upto : List ℕ → ℕ → List ℕ → ℕ → VertexSet
done_upto numbers i list k v = listed_below numbers i v || has (take k list) v

-- what is known of the vertex at a place of the list of a part
pub record IsNextDone (numbers : List ℕ) (i : ℕ) (list : List ℕ) (k v : ℕ) : Type 0 where
  pub number : get_or numbers v 0 ≡ i
  pub listed : is_listed numbers v ≡ true
  pub known : (x : ℕ) → done_upto numbers i list k x ≡ true → is_listed numbers x ≡ true
  pub off : done_upto numbers i list k v ≡ false
  pub more : (x : ℕ) → done_upto numbers i list (k + 1) x ≡ (done_upto numbers i list k x || eqb v x)

pub next_done : (numbers : List ℕ) (i : ℕ) (list : List ℕ) (k : ℕ) → 1 ≤ i → IsPartList numbers i list → k < length list → IsNextDone numbers i list k (get_or list k 0)
next_done numbers i list k one h l =
    let v = get_or list k 0 in
    let in_list = λ (j : ℕ) (m : j < length list). (let there : has list (get_or list j 0) ≡ true = list_any_at (λ u. eqb u (get_or list j 0)) list j 0 m (eq-eqb (get_or list j 0) (get_or list j 0) refl) in there) in
    let here : eqb (get_or numbers v 0) i ≡ true = sym (h.exact v) ∙ in_list k l in
    let is : get_or numbers v 0 ≡ i = eqb-true (get_or numbers v 0) i here in
    record {
      number = is;
      listed = positive (get_or numbers v 0) i one here;
      known = λ x d. ⊎_elim
          (λ (a : listed_below numbers i x ≡ true). and_first (ltb 0 (get_or numbers x 0)) (ltb (get_or numbers x 0) i) a)
          (λ (a : has (take k list) x ≡ true).
          let p = placed_at list k x a in
          let there : has list x ≡ true = subst (λ (u : ℕ). has list u ≡ true) p.there (in_list p.place (omega (arith, p.below, l))) in
          positive (get_or numbers x 0) i one (sym (h.exact x) ∙ there))
          (or_cases (listed_below numbers i x) (has (take k list) x) d);
      off = or_from (listed_below numbers i v) (has (take k list) v) (not_here (get_or numbers v 0) i is)
          (⊎_elim
          (λ (a : has (take k list) v ≡ true). let p = placed_at list k v a in absurd (h.apart p.place k 0 p.below l p.there))
          (λ (a : has (take k list) v ≡ false). a)
          (cases_Bool (has (take k list) v)));
      more = λ x. ap (λ (b : Bool). listed_below numbers i x || b) (list_any_more (λ u. eqb u x) list k 0 l) ∙ or_assoc (listed_below numbers i x) (has (take k list) x) (eqb v x);
    }

-- what a vertex may add, and what is there once it did
pub record IsRowDone (g : Graph) (p : PartsState) (i : ℕ) (list : List ℕ) (k : ℕ) (s t : VertexSet) : Type 0 where
  pub step : weighed_by g (is_listed p.numbers) (done_upto p.numbers i list (k + 1)) s t
      ≡ weighed_by g (is_listed p.numbers) (done_upto p.numbers i list k) s t + sum_by (arc_adds (is_listed p.numbers) s t (get_or list k 0)) (row_of g (get_or list k 0))
  pub small : weighed_by g (is_listed p.numbers) (done_upto p.numbers i list (k + 1)) s t ≤ 2 ^ 61

row_done : (g : Graph) → IsGraph g → (p : PartsState) (i : ℕ) (list : List ℕ) (k : ℕ) (s t : VertexSet) → 1 ≤ i → IsPartList p.numbers i list → k < length list →
    ((x : ℕ) → (s x && t x) ≡ false) → IsRowDone g p i list k s t
row_done g ok p i list k s t one h l apart =
    let v = get_or list k 0 in
    let n = next_done p.numbers i list k one h l in
    record {
      step = row_step g ok (is_listed p.numbers) (done_upto p.numbers i list k) (done_upto p.numbers i list (k + 1)) s t v apart n.listed n.known n.off n.more;
      small = weighed_small g ok (is_listed p.numbers) (done_upto p.numbers i list (k + 1)) s t;
    }

pub later_done : (g : Graph) → IsGraph g → (p : PartsState) (part : ℕ → ℕ) (i : ℕ) (list : List ℕ) (k : ℕ) → 1 ≤ i → IsPartList p.numbers i list → k < length list → (j : ℕ) →
    IsRowDone g p i list k (one_part part j) (later_parts part (j + 1))
later_done g ok p part i list k one h l j = row_done g ok p i list k (one_part part j) (later_parts part (j + 1)) one h l (λ x. apart_later (part x) j)

pub neighbour_done : (g : Graph) → IsGraph g → (p : PartsState) (part : ℕ → ℕ) (i : ℕ) (list : List ℕ) (k : ℕ) → 1 ≤ i → IsPartList p.numbers i list → k < length list → (j : ℕ) →
    IsRowDone g p i list k (one_part part j) (one_part part (j + 1))
neighbour_done g ok p part i list k one h l j = row_done g ok p i list k (one_part part j) (one_part part (j + 1)) one h l (λ x. apart_next (part x) j)

-- two vertices that are not listed are in one part, or one of them in part 1
unlisted_pair : (n m c : ℕ) (a b : Bool) (i : ℕ) → ltb 0 n ≡ false → ltb 0 m ≡ false → 2 ≤ i →
    (eqb (if ltb 0 n then n else (if a then c else 1)) i && leb (i + 1) (if ltb 0 m then m else (if b then c else 1))) ≡ false
unlisted_pair n m c true true i h k two = rw (h, k) (apart_later c i)
unlisted_pair n m c true false i h k two = rw (h, k) (grind (arith, nat_tests))
unlisted_pair n m c false b i h k two = rw (h, k) (grind (arith, nat_tests))

unlisted_next : (n m c : ℕ) (a b : Bool) (i : ℕ) → ltb 0 n ≡ false → ltb 0 m ≡ false → 2 ≤ i →
    (eqb (if ltb 0 n then n else (if a then c else 1)) i && eqb (if ltb 0 m then m else (if b then c else 1)) (i + 1)) ≡ false
unlisted_next n m c true true i h k two = rw (h, k) (apart_next c i)
unlisted_next n m c true false i h k two = rw (h, k) (grind (arith, nat_tests))
unlisted_next n m c false b i h k two = rw (h, k) (grind (arith, nat_tests))

same_done : (g : Graph) (listed done done' s t : VertexSet) → ((x : ℕ) → done x ≡ done' x) → weighed_by g listed done s t ≡ weighed_by g listed done' s t
same_done g listed done done' s t same =
    sum_by-same (λ (e : Edge). (if done e.u && counts_at listed s t e.u e.v || (done e.v && counts_at listed s t e.v e.u) then e.w else 0))
    (λ (e : Edge). (if done' e.u && counts_at listed s t e.u e.v || (done' e.v && counts_at listed s t e.v e.u) then e.w else 0))
    (λ e. rw (same e.u, same e.v) refl) g.edges

pub same_weighed : (g : Graph) (listed done done' : VertexSet) (count : ℕ) (part : ℕ → ℕ) (later next : List ℕ) → ((x : ℕ) → done x ≡ done' x) →
    AreWeighed g listed done count part later next → AreWeighed g listed done' count part later next
same_weighed g listed done done' count part later next same h = record {
  to_later = λ i l. h.to_later i l ∙ same_done g listed done done' (one_part part i) (later_parts part (i + 1)) same;
  to_next = λ i l. h.to_next i l ∙ same_done g listed done done' (one_part part i) (one_part part (i + 1)) same;
}

-- at the start and the end of the list of a part
pub part_begins : (numbers : List ℕ) (i : ℕ) (list : List ℕ) (x : ℕ) → listed_below numbers i x ≡ done_upto numbers i list 0 x
part_begins numbers i list x = grind arith

pub part_ends : (numbers : List ℕ) (i : ℕ) (list : List ℕ) (k : ℕ) → 1 ≤ i → IsPartList numbers i list → length list ≤ k → (x : ℕ) → done_upto numbers i list k x ≡ listed_below numbers (i + 1) x
part_ends numbers i list k one h all x =
    let whole : take k list ≡ list = take_all k list all in
    rw whole (ap (λ (b : Bool). listed_below numbers i x || b) (h.exact x) ∙ sym (below_more (get_or numbers x 0) i one))

-- before all parts, and after
pub weighed_first : (g : Graph) (p : PartsState) (part : ℕ → ℕ) (later next : List ℕ) → ((i : ℕ) → i < p.count → get_or later i 0 ≡ 0) → ((i : ℕ) → i < p.count → get_or next i 0 ≡ 0) →
    AreWeighed g (is_listed p.numbers) (listed_below p.numbers 1) p.count part later next
weighed_first g p part later next a b = record {
  to_later = λ i l. a i l ∙ sym (weighed_start g (is_listed p.numbers) (listed_below p.numbers 1) (one_part part i) (later_parts part (i + 1)) (λ x. below_none (get_or p.numbers x 0)));
  to_next = λ i l. b i l ∙ sym (weighed_start g (is_listed p.numbers) (listed_below p.numbers 1) (one_part part i) (one_part part (i + 1)) (λ x. below_none (get_or p.numbers x 0)));
}

pub weighed_last : (g : Graph) (labels : List ℕ) (region : ℕ) (p : PartsState) (later next : List ℕ) → AreListed g.vertices labels region p →
    AreWeighed g (is_listed p.numbers) (listed_below p.numbers (p.count + 1)) p.count (part_in p labels region) later next → AreWeights g p.count (part_in p labels region) later next
weighed_last g labels region p later next h w =
    let part = part_in p labels region in
    let all = λ (x : ℕ). below_all (get_or p.numbers x 0) p.count (h.to_count x) in
    record {
      to_later = λ i two l. w.to_later i l ∙ weighed_end g (is_listed p.numbers) (listed_below p.numbers (p.count + 1)) (one_part part i) (later_parts part (i + 1)) all
          (λ x y a b. unlisted_pair (get_or p.numbers x 0) (get_or p.numbers y 0) p.unlisted (eqb (get_or labels x 0) region) (eqb (get_or labels y 0) region) i a b two);
      to_next = λ i two l. w.to_next i l ∙ weighed_end g (is_listed p.numbers) (listed_below p.numbers (p.count + 1)) (one_part part i) (one_part part (i + 1)) all
          (λ x y a b. unlisted_next (get_or p.numbers x 0) (get_or p.numbers y 0) p.unlisted (eqb (get_or labels x 0) region) (eqb (get_or labels y 0) region) i a b two);
    }
