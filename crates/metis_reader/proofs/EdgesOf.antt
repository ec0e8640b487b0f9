-- The edge list of a file is the ascending list of its entries to greater neighbours.
use Rattle.std.proofs.Common.{◌≡◌, ◌≤◌, ◌<◌, ◌-◌, ◌+◌, ◌⊎◌, ℕ, zero, suc, Bool, true, false, List, [], ◌∷◌, ◌++◌, length, map, arith, inl, inr, ⊎_elim, subst, sym, ap, refl, ◌∙◌}
use Rattle.std.specs.Prelude.{if◌then◌else◌}
use Rattle.std.specs.List.{AllPairs, All, Contains, filter, flat_map, range_with_len}
use Rattle.std.specs.List.Sorted.{IsPermutation}
use Rattle.std.proofs.lemmas.Bool.{cases_lt, cases_Bool}
use Rattle.std.proofs.lemmas.List.Elements.{All-contains, Contains-append_left, Contains-append_right, Contains-append_cases}
use Rattle.std.proofs.lemmas.List.Sorted.{IsPermutation-sym, Contains-permutation}
use Rattle.cut_definitions.specs.declared.edge_list.Edge.{Edge}
use Rattle.cut_definitions.specs.Graph.{IsBefore, IsEdgeWithin}
use Rattle.cut_definitions.proofs.Lists.{Contains-here, Contains-there, Contains-cons_cases, Contains-nil, Contains-map, Contains-filter, Contains-from_filter, Contains-from_map}
use Rattle.cut_definitions.proofs.Ascending.{IsBefore-irreflexive}
use Rattle.metis_reader.specs.Profile.{Entry}
use Rattle.metis_reader.specs.File.{edge_of, edges_of, is_from}
use Rattle.metis_reader.proofs.Rows.{is_entry, entry_times, entry_cons, is_entry_from, is_entry_of}
use Rattle.metis_reader.proofs.BothKinds.{upward, up_has, up_from, up_true}

-- each edge comes before all that follow it
abbrev pub Climbs : List Edge → Type 0
Climbs [] = Unit {0}
Climbs (e ∷ es) = ((f : Edge) → Contains es f → IsBefore e f) × Climbs es

pub climbs_from : (xs : List Edge) → AllPairs IsBefore xs → Climbs xs
climbs_from [] up = tt
climbs_from (e ∷ es) up = (
  λ f has. subst (λ z. IsBefore e z) has.2 (up 0 (suc has.0) f (omega arith) (let lt : has.0 < length es = has.1 in omega arith)),
  climbs_from es (λ i j d lt lt'. up (suc i) (suc j) d (omega arith) (omega arith)),
)

not_both : (d e : Edge) → IsBefore d e → IsBefore e d → ⊥
not_both d e p q = grind arith

-- two ascending lists with the same members are equal
pub same_list : (xs ys : List Edge) → Climbs xs → Climbs ys → ((e : Edge) → Contains xs e → Contains ys e) → ((e : Edge) → Contains ys e → Contains xs e) → xs ≡ ys
same_list [] [] cx cy there back = refl
same_list [] (y ∷ ys) cx cy there back = absurd (Contains-nil y (back y (Contains-here y ys)))
same_list (x ∷ xs) [] cx cy there back = absurd (Contains-nil x (there x (Contains-here x xs)))
same_list (x ∷ xs) (y ∷ ys) cx cy there back =
    let heads : x ≡ y =
    ⊎_elim (λ e. sym e)
    (λ in_ys. ⊎_elim (λ e. e) (λ in_xs. absurd (not_both x y (cx.0 y in_xs) (cy.0 x in_ys))) (Contains-cons_cases x xs y (back y (Contains-here y ys))))
    (Contains-cons_cases y ys x (there x (Contains-here x xs))) in
    let tails : xs ≡ ys = same_list xs ys cx.1 cy.1
    (λ e has. ⊎_elim (λ same. absurd (IsBefore-irreflexive e (subst (λ z. IsBefore z e) (heads ∙ same) (cx.0 e has)))) (λ t. t) (Contains-cons_cases y ys e (there e (Contains-there x xs e has))))
    (λ e has. ⊎_elim (λ same. absurd (IsBefore-irreflexive e (subst (λ z. IsBefore z e) (sym heads ∙ same) (cy.0 e has)))) (λ t. t) (Contains-cons_cases x xs e (back e (Contains-there y ys e has)))) in
    ap (λ z. z ∷ xs) heads ∙ ap (λ zs. y ∷ zs) tails

climbs_append : (xs ys : List Edge) → Climbs xs → Climbs ys → ((d e : Edge) → Contains xs d → Contains ys e → IsBefore d e) → Climbs (xs ++ ys)
climbs_append [] ys cx cy cross = cy
climbs_append (x ∷ xs) ys cx cy cross = (
  λ f has. ⊎_elim (λ l. cx.0 f l) (λ r. cross x f (Contains-here x xs) r) (Contains-append_cases xs ys f has),
  climbs_append xs ys cx.1 cy (λ d e has has'. cross d e (Contains-there x xs d has) has'),
)

-- The entries from one vertex to another.

abbrev cell : List Entry → ℕ → ℕ → List Edge
cell all u v = map edge_of (filter (is_from u v) all)

in_cell : (all : List Entry) (u v : ℕ) (f : Edge) → Contains (cell all u v) f → (e : Entry) × Contains all e × (e.from ≡ u) × (e.to ≡ v) × (edge_of e ≡ f)
in_cell all u v f has =
    let m = Contains-from_map edge_of (filter (is_from u v) all) f has in
    let k = Contains-from_filter (is_from u v) all m.0 m.1 in
    let ends = is_entry_from u v m.0 k.1 in
    (m.0, k.0, ends.0, ends.1, m.2)

to_cell : (all : List Entry) (e : Entry) → Contains all e → Contains (cell all e.from e.to) (edge_of e)
to_cell all e has = Contains-map edge_of (filter (is_from e.from e.to) all) e (Contains-filter (is_from e.from e.to) all e has (is_entry_of e.from e.to e refl refl))

short_cell : (all : List Entry) (u v : ℕ) → length (cell all u v) ≡ entry_times u v all
short_cell [] u v = refl
short_cell (e ∷ all) u v =
    let rest : length (cell all u v) ≡ entry_times u v all = short_cell all u v in
    elim (cases_Bool (is_entry u v e)) [
      | inl t ↦
          let here : entry_times u v (e ∷ all) ≡ 1 + entry_times u v all = entry_cons u v e all true t in
          let whole : suc (length (cell all u v)) ≡ entry_times u v (e ∷ all) = omega arith in
          subst (λ (b : Bool). length (map edge_of (if b then e ∷ filter (is_from u v) all else filter (is_from u v) all)) ≡ entry_times u v (e ∷ all)) (sym t) whole
      | inr f ↦
          let here : entry_times u v (e ∷ all) ≡ 0 + entry_times u v all = entry_cons u v e all false f in
          let whole : length (cell all u v) ≡ entry_times u v (e ∷ all) = omega arith in
          subst (λ (b : Bool). length (map edge_of (if b then e ∷ filter (is_from u v) all else filter (is_from u v) all)) ≡ entry_times u v (e ∷ all)) (sym f) whole
    ]

climbs_short : (xs : List Edge) → length xs ≤ 1 → Climbs xs
climbs_short [] h = tt
climbs_short (x ∷ []) h = (λ f has. absurd (Contains-nil f has), tt)
climbs_short (x ∷ y ∷ xs) h = absurd (omega arith)

abbrev row : List Entry → ℕ → ℕ → ℕ → List Edge
row all u a n = flat_map (λ v. cell all u v) (range_with_len a n)

-- an edge of a row, with its ends
in_row : (all : List Entry) (u a n : ℕ) (f : Edge) → Contains (row all u a n) f → (e : Entry) × Contains all e × (e.from ≡ u) × (a ≤ e.to) × (e.to < a + n) × (edge_of e ≡ f)
in_row all u a zero f has = absurd (Contains-nil f has)
in_row all u a (suc n) f has =
    ⊎_elim
    (λ l. let c = in_cell all u a f l in let to : c.0.to ≡ a = c.3 in (c.0, c.1, c.2, omega arith, omega arith, c.4))
    (λ r. let c = in_row all u (a + 1) n f r in let low : a + 1 ≤ c.0.to = c.3 in let high : c.0.to < a + 1 + n = c.4 in (c.0, c.1, c.2, omega arith, omega arith, c.5))
    (Contains-append_cases (cell all u a) (row all u (a + 1) n) f has)

to_row : (all : List Entry) (e : Entry) (a n : ℕ) → Contains all e → a ≤ e.to → e.to < a + n → Contains (row all e.from a n) (edge_of e)
to_row all e a zero has low high = absurd (omega arith)
to_row all e a (suc n) has low high =
    elim (cases_lt a e.to) [
      | inl later ↦ Contains-append_right (cell all e.from a) (row all e.from (a + 1) n) (edge_of e) (to_row all e (a + 1) n has (omega arith) (omega arith))
      | inr now ↦
          let same : e.to ≡ a = omega arith in
          Contains-append_left (cell all e.from a) (row all e.from (a + 1) n) (edge_of e) (subst (λ v. Contains (cell all e.from v) (edge_of e)) same (to_cell all e has))
    ]

before_by : (d e : Entry) (f g : Edge) → edge_of d ≡ f → edge_of e ≡ g → (d.from < e.from) ⊎ ((d.from ≡ e.from) × (d.to < e.to)) → IsBefore f g
before_by d e f g p q h = subst (λ f. IsBefore f g) p (subst (λ g. IsBefore (edge_of d) g) q h)

climbs_row : (all : List Entry) (u a n : ℕ) → ((v : ℕ) → entry_times u v all ≤ 1) → Climbs (row all u a n)
climbs_row all u a zero once = tt
climbs_row all u a (suc n) once =
    climbs_append (cell all u a) (row all u (a + 1) n)
    (climbs_short (cell all u a) (let e : length (cell all u a) ≡ entry_times u a all = short_cell all u a in let most : entry_times u a all ≤ 1 = once a in omega arith))
    (climbs_row all u (a + 1) n once)
    (λ d e has has'.
    let c = in_cell all u a d has in
    let r = in_row all u (a + 1) n e has' in
    let from_c : c.0.from ≡ u = c.2 in
    let from_r : r.0.from ≡ u = r.2 in
    let to_c : c.0.to ≡ a = c.3 in
    let to_r : a + 1 ≤ r.0.to = r.3 in
    before_by c.0 r.0 d e c.4 r.5 (inr (omega arith, omega arith)))

abbrev rows : List Entry → ℕ → ℕ → ℕ → List Edge
rows all n b k = flat_map (λ u. row all u (suc u) (n - u)) (range_with_len b k)

in_rows : (all : List Entry) (n b k : ℕ) (f : Edge) → Contains (rows all n b k) f → (e : Entry) × Contains all e × (b ≤ e.from) × (e.from < e.to) × (edge_of e ≡ f)
in_rows all n b zero f has = absurd (Contains-nil f has)
in_rows all n b (suc k) f has =
    ⊎_elim
    (λ l. let c = in_row all b (suc b) (n - b) f l in let from : c.0.from ≡ b = c.2 in let low : suc b ≤ c.0.to = c.3 in (c.0, c.1, omega arith, omega arith, c.5))
    (λ r. let c = in_rows all n (b + 1) k f r in let low : b + 1 ≤ c.0.from = c.2 in (c.0, c.1, omega arith, c.3, c.4))
    (Contains-append_cases (row all b (suc b) (n - b)) (rows all n (b + 1) k) f has)

to_rows : (all : List Entry) (n b k : ℕ) (e : Entry) → Contains all e → b ≤ e.from → e.from < b + k → e.from < e.to → e.to ≤ n → Contains (rows all n b k) (edge_of e)
to_rows all n b zero e has low high up within = absurd (omega arith)
to_rows all n b (suc k) e has low high up within =
    elim (cases_lt b e.from) [
      | inl later ↦ Contains-append_right (row all b (suc b) (n - b)) (rows all n (b + 1) k) (edge_of e) (to_rows all n (b + 1) k e has (omega arith) (omega arith) up within)
      | inr now ↦
          let same : e.from ≡ b = omega arith in
          Contains-append_left (row all b (suc b) (n - b)) (rows all n (b + 1) k) (edge_of e)
          (subst (λ u. Contains (row all u (suc b) (n - b)) (edge_of e)) same (to_row all e (suc b) (n - b) has (omega arith) (omega arith)))
    ]

climbs_rows : (all : List Entry) (n b k : ℕ) → ((u v : ℕ) → entry_times u v all ≤ 1) → Climbs (rows all n b k)
climbs_rows all n b zero once = tt
climbs_rows all n b (suc k) once =
    climbs_append (row all b (suc b) (n - b)) (rows all n (b + 1) k) (climbs_row all b (suc b) (n - b) (once b)) (climbs_rows all n (b + 1) k once)
    (λ d e has has'.
    let c = in_row all b (suc b) (n - b) d has in
    let r = in_rows all n (b + 1) k e has' in
    let from_c : c.0.from ≡ b = c.2 in
    let from_r : b + 1 ≤ r.0.from = r.2 in
    before_by c.0 r.0 d e c.5 r.4 (inl (omega arith)))

-- the sorted entries to greater neighbours are the edges
pub edges_are : (n : ℕ) (all : List Entry) (sorted : List Edge) → ((u v : ℕ) → entry_times u v all ≤ 1) → All (IsEdgeWithin n) (upward all) → IsPermutation (upward all) sorted
    → AllPairs IsBefore sorted → edges_of n all ≡ sorted
edges_are n all sorted once within moved up =
    same_list (rows all n 1 n) sorted (climbs_rows all n 1 n once) (climbs_from sorted up)
    (λ f has.
    let c = in_rows all n 1 n f has in
    let lt : c.0.from < c.0.to = c.3 in
    Contains-permutation (upward all) sorted f moved (subst (λ f. Contains (upward all) f) c.4 (up_has all c.0 c.1 (up_true c.0 lt))))
    (λ f has.
    let has' = Contains-permutation sorted (upward all) f (IsPermutation-sym (upward all) sorted moved) has in
    let inside : IsEdgeWithin n f = All-contains (IsEdgeWithin n) (upward all) f within has' in
    let c = up_from all f has' in
    let u : c.0.from ≡ f.u = ap (λ (f : Edge). f.u) c.3 in
    let v : c.0.to ≡ f.v = ap (λ (f : Edge). f.v) c.3 in
    let low : 1 ≤ f.u = inside.0 in
    let order : f.u < f.v = inside.1 in
    let high : f.v ≤ n = inside.2 in
    subst (λ f. Contains (rows all n 1 n) f) c.3 (to_rows all n 1 n c.0 c.1 (omega arith) (omega arith) (omega arith) (omega arith)))
