-- A graph is known by what its edges weigh between each two vertices.
use Rattle.std.proofs.Common.{◌≡◌, ℕ, ◌<◌, ◌≤◌, ◌⊎◌, inl, inr, ⊎_elim, ◌&&◌, eqb, List, [], ◌∷◌, get_or, refl, sym, ◌∙◌, ap, arith}
use Rattle.std.specs.Prelude.{◌≢◌, if◌then◌else◌}
use Rattle.std.specs.List.{All, AllPairs}
use Rattle.std.proofs.lemmas.Bool.{cases_order, eq-eqb}
use Rattle.std.proofs.lemmas.Bool.Decides.{nat_tests}
use Rattle.std.proofs.lemmas.List.Sums.{sum_by-cons}
use Rattle.std.proofs.lemmas.List.Elements.{All-head, All-tail}
use Rattle.cut_definitions.specs.declared.edge_list.Edge.{Edge}
use Rattle.cut_definitions.specs.Graph.{IsEdgeWithin, IsBefore}
use Rattle.cut_definitions.proofs.ListLaws.{AllPairs-first, AllPairs-rest}
use Rattle.cut_definitions.proofs.Ascending.{same_edge}
use Rattle.weighted_graph.specs.Merging.{pair_term, pair_weight}

pub pair_term-same : (a b w : ℕ) → (if eqb a a && eqb b b then w else 0) ≡ w
pair_term-same a b w = rw (eq-eqb a a refl, eq-eqb b b refl) refl

pub pair_term-other : (a b c d w : ℕ) → (a ≡ c → b ≢ d) → (if eqb a c && eqb b d then w else 0) ≡ 0
pair_term-other a b c d w ne = grind (arith, nat_tests)

-- edges that all come after a pair weigh nothing there
pair_weight-after : (a b : ℕ) (es : List Edge) → All (λ e. (a < e.u) ⊎ ((a ≡ e.u) × (b < e.v))) es → pair_weight es a b ≡ 0
pair_weight-after a b [] after = refl
pair_weight-after a b (e ∷ es) after =
    let first : (a < e.u) ⊎ ((a ≡ e.u) × (b < e.v)) = after 0 e (omega arith) in
    omega (arith, sum_by-cons (pair_term a b) e es, pair_term-other e.u e.v a b e.w (λ p q. omega arith), pair_weight-after a b es (All-tail (λ d. (a < d.u) ⊎ ((a ≡ d.u) × (b < d.v))) e es after))

pair_weight-here : (e : Edge) (es : List Edge) → All (IsBefore e) es → pair_weight (e ∷ es) e.u e.v ≡ e.w
pair_weight-here e es after =
    omega (arith, sum_by-cons (pair_term e.u e.v) e es, pair_term-same e.u e.v e.w, pair_weight-after e.u e.v es after)

-- the first edge of a list comes before all of another, if its pair weighs nothing
not_first : (n : ℕ) (e d : Edge) (es ds : List Edge) → IsEdgeWithin n e → AllPairs IsBefore (e ∷ es) → AllPairs IsBefore (d ∷ ds) →
    pair_weight (e ∷ es) e.u e.v ≡ pair_weight (d ∷ ds) e.u e.v → IsBefore e d → ⊥
not_first n e d es ds he hes hds same before =
    let rest = AllPairs-first IsBefore d ds hds in
    let bd : (e.u < d.u) ⊎ ((e.u ≡ d.u) × (e.v < d.v)) = before in
    let after : All (λ c. (e.u < c.u) ⊎ ((e.u ≡ c.u) × (e.v < c.v))) ds = λ k x l.
    (let dc : (d.u < (get_or ds k x).u) ⊎ ((d.u ≡ (get_or ds k x).u) × (d.v < (get_or ds k x).v)) = rest k x l in later e.u e.v d.u d.v (get_or ds k x).u (get_or ds k x).v bd dc) in
    let none = pair_weight-after e.u e.v ds after in
    let here = pair_weight-here e es (AllPairs-first IsBefore e es hes) in
    let other = pair_term-other d.u d.v e.u e.v d.w (λ p q. omega arith) in
    absurd (omega (arith, he.3, sum_by-cons (pair_term e.u e.v) d ds))
  where
    later : (a b c d x y : ℕ) → (a < c) ⊎ ((a ≡ c) × (b < d)) → (c < x) ⊎ ((c ≡ x) × (d < y)) → (a < x) ⊎ ((a ≡ x) × (b < y))
    later a b c d x y p q =
        ⊎_elim
        (λ (l : a < c). inl (⊎_elim (λ (m : c < x). omega arith) (λ m. omega (arith, m.0)) q))
        (λ l. ⊎_elim (λ (m : c < x). inl (omega (arith, l.0))) (λ m. inr (omega (arith, l.0, m.0), omega (arith, l.1, m.1))) q)
        p

before_or : (e d : Edge) → IsBefore e d ⊎ (IsBefore d e ⊎ ((e.u ≡ d.u) × (e.v ≡ d.v)))
before_or e d =
    ⊎_elim
    (λ (p : e.u ≡ d.u). ⊎_elim
    (λ (q : e.v ≡ d.v). inr (inr (p, q)))
    (⊎_elim (λ (l : e.v < d.v). inl (inr (p, l))) (λ (l : d.v < e.v). inr (inl (inr (sym p, l)))))
    (cases_order e.v d.v))
    (⊎_elim (λ (l : e.u < d.u). inl (inl l)) (λ (l : d.u < e.u). inr (inl (inl l))))
    (cases_order e.u d.u)

-- two ascending lists of edges with the same weights between all pairs are one
pub same_edges : (n : ℕ) (es ds : List Edge) → All (IsEdgeWithin n) es → All (IsEdgeWithin n) ds → AllPairs IsBefore es → AllPairs IsBefore ds →
    ((a b : ℕ) → 1 ≤ a → a < b → b ≤ n → pair_weight es a b ≡ pair_weight ds a b) → es ≡ ds
same_edges n [] [] hes hds aes ads same = refl
same_edges n (e ∷ es) [] hes hds aes ads same =
    let he = All-head (IsEdgeWithin n) e es hes in
    absurd (omega (arith, he.3, same e.u e.v he.0 he.1 he.2, pair_weight-here e es (AllPairs-first IsBefore e es aes)))
same_edges n [] (d ∷ ds) hes hds aes ads same =
    let hd = All-head (IsEdgeWithin n) d ds hds in
    absurd (omega (arith, hd.3, same d.u d.v hd.0 hd.1 hd.2, pair_weight-here d ds (AllPairs-first IsBefore d ds ads)))
same_edges n (e ∷ es) (d ∷ ds) hes hds aes ads same =
    let he = All-head (IsEdgeWithin n) e es hes in
    let hd = All-head (IsEdgeWithin n) d ds hds in
    ⊎_elim
    (λ (l : IsBefore e d). absurd (not_first n e d es ds he aes ads (same e.u e.v he.0 he.1 he.2) l))
    (⊎_elim
    (λ (l : IsBefore d e). absurd (not_first n d e ds es hd ads aes (sym (same d.u d.v hd.0 hd.1 hd.2)) l))
    (λ (p : (e.u ≡ d.u) × (e.v ≡ d.v)).
    let here_e = pair_weight-here e es (AllPairs-first IsBefore e es aes) in
    let here_d = pair_weight-here d ds (AllPairs-first IsBefore d ds ads) in
    let at : pair_weight (d ∷ ds) e.u e.v ≡ pair_weight (d ∷ ds) d.u d.v = ap (λ (x : ℕ). pair_weight (d ∷ ds) x e.v) p.0 ∙ ap (pair_weight (d ∷ ds) d.u) p.1 in
    let w : e.w ≡ d.w = omega (arith, same e.u e.v he.0 he.1 he.2) in
    let ed = same_edge e d p.0 p.1 w in
    let tails = same_edges n es ds (All-tail (IsEdgeWithin n) e es hes) (All-tail (IsEdgeWithin n) d ds hds) (AllPairs-rest IsBefore e es aes) (AllPairs-rest IsBefore d ds ads)
    (λ a b one ab bn.
    let t : pair_term a b e ≡ pair_term a b d = ap (pair_term a b) ed in
    omega (arith, same a b one ab bn, sum_by-cons (pair_term a b) e es, sum_by-cons (pair_term a b) d ds)) in
    cc))
    (before_or e d)
