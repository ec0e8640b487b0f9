-- The first two vertices of a set, which are both noted.
use Rattle.std.proofs.Common.{◌≡◌, ℕ, ◌+◌, ◌<◌, ◌≤◌, ◌⊎◌, inl, inr, ⊎_elim, true, false, ltb, eqb, List, [], ◌∷◌, get_or, set, refl, sym, ◌∙◌, subst, ap, arith, get_or-set_other, get_or-set_same}
use Rattle.std.specs.Prelude.{◌≢◌}
use Rattle.std.proofs.lemmas.Bool.{cases_lt, eq-eqb, eqb-true, lt-ltb, and_from, or_left, or_right}
use Rattle.std.proofs.lemmas.List.Elements.{All-nil, All-cons}
use Rattle.std.proofs.lemmas.List.Quantifiers.{all_pairs_push}
use Rattle.cut_definitions.specs.Graph.{Graph, IsGraph}
use Rattle.cut_definitions.specs.Components.{IsConnected}
use Rattle.cut_definitions.specs.Cuts.{has, value}
use Rattle.cut_definitions.specs.Scan.{single}
use Rattle.cut_definitions.specs.Chain.{IsWithin}
use Rattle.region_flow.specs.Regions.{RegionState}
use Rattle.certified_growth.specs.Certified.{IsCertified}
use Rattle.certified_growth.specs.Turns.{AreTold, AreTurns, IsLeaf, IsNext, IsPairShown, came_first}
use Rattle.certified_growth.proofs.PairEnds.{pair_by_flow}
use Rattle.certified_growth.proofs.Turning.{certified_more}

has_first : (u v : ℕ) → has (u ∷ v ∷ []) u ≡ true
has_first u v = or_left (eqb u u) (has (v ∷ []) u) (eq-eqb u u refl)

has_second : (u v : ℕ) → has (u ∷ v ∷ []) v ≡ true
has_second u v = or_right (eqb u v) (has (v ∷ []) v) (or_left (eqb v v) false (eq-eqb v v refl))

module _ (g : Graph) (least amount : ℕ) (owners : List ℕ) (own r t : ℕ) (f : RegionState) (turns : List ℕ) (are : AreTurns g least owners own turns [] 1) (told : AreTold g.vertices f.labels turns)
    (root : get_or turns r 0 ≡ 1) (rn : r ≤ g.vertices) (tn : t ≤ g.vertices) (outside : 1 ≤ get_or f.labels t 0) (shown : IsPairShown g f r t amount) where
  t1 : 1 ≤ t
  t1 = omega (arith, shown.from_two)

  r1 : 1 ≤ r
  r1 = omega (arith, shown.root_from_two)

  not_yet : get_or turns t 0 ≡ 0
  not_yet = ⊎_elim
      (λ (z : get_or turns t 0 < 1). omega arith)
      (λ (one : 1 ≤ get_or turns t 0). let e = told.came t t1 tn one in absurd (omega arith))
      (cases_lt (get_or turns t 0) 1)

  apart : r ≢ t
  apart e = let z : get_or turns r 0 ≡ 0 = ap (λ (u : ℕ). get_or turns u 0) e ∙ not_yet in omega (arith, z, root)

  -- all but the root wait as t does
  root_or_beside : (v : ℕ) → 1 ≤ v → v ≤ g.vertices → (v ≡ r) ⊎ (get_or f.labels v 0 ≡ get_or f.labels t 0)
  root_or_beside v v1 vn = ⊎_elim
      (λ (z : get_or turns v 0 < 1).
      let a = told.waiting v v1 vn (omega arith) in
      let b = told.waiting t t1 tn not_yet in inr (a ∙ sym b))
      (λ (one : 1 ≤ get_or turns v 0). let le = are.to_count v in inl (are.apart v r one (omega (arith, one, le, root))))
      (cases_lt (get_or turns v 0) 1)

  root_came : IsWithin g.vertices (single r) (came_first (set turns t 2) 2)
  root_came v v1 vn h =
      let e : r ≡ v = eqb-true r v h in
      let ne : r ≢ t = apart in
      let k : get_or (set turns t 2) r 0 ≡ 1 = get_or-set_other turns t r 2 0 ne ∙ root in
      subst (λ (u : ℕ). came_first (set turns t 2) 2 u ≡ true) e
      (and_from (ltb 0 (get_or (set turns t 2) r 0)) (ltb (get_or (set turns t 2) r 0) 2) (lt-ltb 0 (get_or (set turns t 2) r 0) (omega (arith, k))) (lt-ltb (get_or (set turns t 2) r 0) 2 (omega (arith, k))))

  pub next_pair : IsGraph g → IsConnected g → least ≡ amount + 1 → amount ≡ value g → IsNext g least turns [] (r ∷ t ∷ []) 1 t
  next_pair ok connected more is =
      let noted = has (r ∷ t ∷ []) in
      let first : IsCertified g (value g + 1) noted (single r) t = pair_by_flow g f r t amount noted ok connected r1 rn t1 tn (told.came r r1 rn (omega (arith, root))) outside root_or_beside shown.best is shown.ends
      (λ _. has_first r t) (λ _. has_second r t) in
      let P = λ (v : ℕ). IsLeaf g least v × (1 ≤ get_or (set turns t 2) v 0) in
      let last : get_or (set turns t 2) t 0 ≡ 2 = get_or-set_same turns t 2 0 (omega (arith, are.long, tn)) in
      let before : get_or (set turns t 2) r 0 ≡ 1 = get_or-set_other turns t r 2 0 apart ∙ root in
      record {
        certified = certified_more g least noted noted (single r) (came_first (set turns t 2) 2) t (λ u h. h) root_came (subst (λ (k : ℕ). IsCertified g k noted (single r) t) (omega (arith, more, is)) first);
        leaves_came = All-cons P r (t ∷ []) (record { from_two = shown.root_from_two; to_n = rn; weighs = omega (arith, shown.root_weighs, more) }, omega (arith, before))
            (All-cons P t [] (record { from_two = shown.from_two; to_n = tn; weighs = omega (arith, shown.weighs, more) }, omega (arith, last)) (All-nil P));
        leaves_apart = all_pairs_push (λ (u v : ℕ). u ≢ v) (r ∷ []) t (λ i j d l u. absurd (omega arith))
            (λ k d l e. let z : k ≡ 0 = omega (arith, l) in apart (sym (ap (λ (m : ℕ). get_or (r ∷ []) m d) z) ∙ e));
      }
