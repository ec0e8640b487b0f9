-- One vertex more in a grown set.
use Rattle.std.proofs.Common.{◌≡◌, ℕ, ◌+◌, ◌<◌, ◌≤◌, ◌⊎◌, inl, inr, ⊎_elim, Bool, true, false, ◌&&◌, ◌||◌, leb, ltb, eqb, List, [], ◌∷◌, ◌++◌, length, get_or, set, replicate, refl, sym, ◌∙◌, subst, ap, arith, length-set, get_or-set_other, get_or-set_same}
use Rattle.std.specs.Prelude.{◌≢◌}
use Rattle.std.specs.List.{All, AllPairs}
use Rattle.std.proofs.lemmas.Bool.{cases_eq, cases_lt, eq-eqb, lt-ltb, ltb-true, le-leb, leb-true, and_parts, and_from, or_left, or_right}
use Rattle.std.proofs.lemmas.List.{append-nil, get_or_past, get_or-replicate, length-replicate}
use Rattle.std.proofs.lemmas.List.Elements.{All-nil, All-cons, All-append, All-weaker}
use Rattle.std.proofs.lemmas.List.Folds.{list_any-append}
use Rattle.std.proofs.lemmas.List.Quantifiers.{all_pairs_push}
use Rattle.cut_definitions.specs.Graph.{Graph, IsGraph}
use Rattle.cut_definitions.specs.Weight.{VertexSet, weight}
use Rattle.cut_definitions.specs.Cuts.{has}
use Rattle.cut_definitions.specs.Scan.{single}
use Rattle.cut_definitions.specs.Chain.{SameOn, IsWithin}
use Rattle.cut_definitions.proofs.Bools.{contrary}
use Rattle.cut_definitions.proofs.Bridge.{weight-agree}
use Rattle.region_flow.specs.Inflow.{IsAround}
use Rattle.certified_growth.specs.Certified.{IsCertified, IsNotedCut}
use Rattle.certified_growth.specs.Turns.{AreTold, AreTurns, IsLeaf, IsNext, IsShown, came_first}

-- ---- a set as one around a vertex

-- the vertices of 1 to n in a set
pub within : ℕ → VertexSet → VertexSet
within n x v = (leb 1 v && leb v n) && x v

both_left : (a b : Bool) → a ≡ true → (a && b) ≡ b
both_left a b h = grind arith

pub within_same : (n : ℕ) (x : VertexSet) → SameOn n x (within n x)
unfolding within
within_same n x v v1 vn = sym (both_left (leb 1 v && leb v n) (x v) (and_from (leb 1 v) (leb v n) (le-leb 1 v v1) (le-leb v n vn)))

pub within_parts : (n : ℕ) (x : VertexSet) (v : ℕ) → within n x v ≡ true → (1 ≤ v) × (v ≤ n) × (x v ≡ true)
unfolding within
within_parts n x v h =
    let p = and_parts (leb 1 v && leb v n) (x v) h in
    let q = and_parts (leb 1 v) (leb v n) p.0 in
    (leb-true 1 v q.0, leb-true v n q.1, p.1)

-- more noted vertices
more_noted : (n : ℕ) (noted noted' x : VertexSet) → ((v : ℕ) → noted v ≡ true → noted' v ≡ true) → IsNotedCut n noted x → IsNotedCut n noted' x
more_noted n noted noted' x more h = record { vertex = h.vertex; from_one = h.from_one; to_n = h.to_n; is_noted = more h.vertex h.is_noted; alone = h.alone }

pub certified_more : (g : Graph) (least : ℕ) (noted noted' grown grown' : VertexSet) (v : ℕ) → ((u : ℕ) → noted u ≡ true → noted' u ≡ true) → IsWithin g.vertices grown grown' →
    IsCertified g least noted grown v → IsCertified g least noted' grown' v
certified_more g least noted noted' grown grown' v more inside h x there apart = ⊎_elim
    (λ heavy. inl heavy)
    (λ (c : IsNotedCut g.vertices noted x). inr (more_noted g.vertices noted noted' x more c))
    (h x there (λ u u1 un i j. apart u u1 un i (inside u u1 un j)))

-- what a flow shows of a vertex certifies it
pub certified_shown : (g : Graph) (least : ℕ) (noted grown : VertexSet) (labels : List ℕ) (leaf : Bool) (t : ℕ) → IsGraph g → 1 ≤ t → t ≤ g.vertices → 1 ≤ get_or labels t 0 →
    ((v : ℕ) → 1 ≤ v → v ≤ g.vertices → (grown v ≡ true) ⊎ (get_or labels v 0 ≡ get_or labels t 0)) → (leaf ≡ true → noted t ≡ true) → IsShown g least labels leaf t → IsCertified g least noted grown t
certified_shown g least noted grown labels leaf t ok t1 tn outside told leaf_noted shown x there apart =
    let n = g.vertices in
    let y = within n x in
    let same = within_same n x in
    let around : IsAround labels t y = record {
      there = sym (same t t1 tn) ∙ there;
      inside = record {
        outside = outside;
        labelled = λ v h. let p = within_parts n x v h in ⊎_elim
            (λ (came : grown v ≡ true). absurd (apart v p.0 p.1 p.2 came))
            (λ e. e)
            (told v p.0 p.1);
      };
    } in
    let e = weight-agree g ok x y same in
    ⊎_elim
    (λ (heavy : least ≤ weight g y). inl (omega (arith, heavy, e)))
    (λ (alone : (leaf ≡ true) × SameOn n y (single t)). inr (record { vertex = t; from_one = t1; to_n = tn; is_noted = leaf_noted alone.0; alone = inl (λ v v1 vn. same v v1 vn ∙ alone.1 v v1 vn) }))
    (shown y around)

-- ---- one more turn

has_more : (xs ys : List ℕ) (v : ℕ) → has xs v ≡ true → has (xs ++ ys) v ≡ true
has_more xs ys v h = list_any-append (λ (u : ℕ). eqb u v) xs ys ∙ or_left (has xs v) (has ys v) h

one : (a : Bool) → a ≡ true → (a || false) ≡ true
one a h = grind arith

has_last : (xs : List ℕ) (v : ℕ) → has (xs ++ v ∷ []) v ≡ true
has_last xs v = list_any-append (λ (u : ℕ). eqb u v) xs (v ∷ []) ∙ or_right (has xs v) (has (v ∷ []) v) (one (eqb v v) (eq-eqb v v refl))

module _ (g : Graph) (least : ℕ) (owners : List ℕ) (own count t : ℕ) (labels turns leaves : List ℕ) (are : AreTurns g least owners own turns leaves count) (told : AreTold g.vertices labels turns)
    (t1 : 1 ≤ t) (tn : t ≤ g.vertices) (outside : 1 ≤ get_or labels t 0) where
  abbrev turns' : List ℕ
  turns' = set turns t (count + 1)

  not_yet : get_or turns t 0 ≡ 0
  not_yet = ⊎_elim
      (λ (z : get_or turns t 0 < 1). omega arith)
      (λ (one : 1 ≤ get_or turns t 0). let e = told.came t t1 tn one in absurd (omega arith))
      (cases_lt (get_or turns t 0) 1)

  pub mine : get_or turns' t 0 ≡ count + 1
  mine = get_or-set_same turns t (count + 1) 0 (omega (arith, are.long, tn))

  other : (v : ℕ) → v ≢ t → get_or turns' v 0 ≡ get_or turns v 0
  other v ne = get_or-set_other turns t v (count + 1) 0 ne

  still_first : (k : ℕ) → IsWithin g.vertices (came_first turns k) (came_first turns' k)
  still_first k v v1 vn h =
      let p = and_parts (ltb 0 (get_or turns v 0)) (ltb (get_or turns v 0) k) h in
      let ne : v ≢ t = λ e. let z : get_or turns v 0 ≡ 0 = ap (λ (u : ℕ). get_or turns u 0) e ∙ not_yet in let one = ltb-true 0 (get_or turns v 0) p.0 in omega arith in
      subst (λ (m : ℕ). (ltb 0 m && ltb m k) ≡ true) (sym (other v ne)) h

  -- each other vertex came first, or waits as t does
  first_or_beside : (v : ℕ) → 1 ≤ v → v ≤ g.vertices → (came_first turns' (count + 1) v ≡ true) ⊎ (get_or labels v 0 ≡ get_or labels t 0)
  first_or_beside v v1 vn = ⊎_elim
      (λ (e : v ≡ t). inr (ap (λ (u : ℕ). get_or labels u 0) e))
      (λ ne. ⊎_elim
      (λ (z : get_or turns v 0 < 1).
      let a = told.waiting v v1 vn (omega arith) in
      let b = told.waiting t t1 tn not_yet in inr (a ∙ sym b))
      (λ (one : 1 ≤ get_or turns v 0).
      let same = other v ne in
      let le = are.to_count v in
      inl (and_from (ltb 0 (get_or turns' v 0)) (ltb (get_or turns' v 0) (count + 1)) (lt-ltb 0 (get_or turns' v 0) (omega (arith, same, one))) (lt-ltb (get_or turns' v 0) (count + 1) (omega (arith, same, le)))))
      (cases_lt (get_or turns v 0) 1))
      (cases_eq v t)

  pub came : (v : ℕ) → 1 ≤ get_or turns v 0 → 1 ≤ get_or turns' v 0
  came v one = ⊎_elim
      (λ (e : v ≡ t). let z : get_or turns v 0 ≡ 0 = ap (λ (u : ℕ). get_or turns u 0) e ∙ not_yet in absurd (omega arith))
      (λ ne. let e = other v ne in omega arith)
      (cases_eq v t)

  old_leaves : All (λ v. IsLeaf g least v × (1 ≤ get_or turns' v 0)) leaves
  old_leaves = All-weaker (λ v. IsLeaf g least v × (1 ≤ get_or turns v 0)) (λ v. IsLeaf g least v × (1 ≤ get_or turns' v 0)) (λ v h. (h.0, came v h.1)) leaves are.leaves_came

  apart_from : (v : ℕ) → IsLeaf g least v × (1 ≤ get_or turns v 0) → v ≢ t
  apart_from v h e = let z : get_or turns v 0 ≡ 0 = ap (λ (u : ℕ). get_or turns u 0) e ∙ not_yet in omega (arith, z, h.1)

  -- around which all sets weigh enough
  pub next_heavy : IsGraph g → IsShown g least labels false t → IsNext g least turns leaves [] count t
  next_heavy ok shown = record {
    certified = certified_shown g least (has (leaves ++ [])) (came_first turns' (count + 1)) labels false t ok t1 tn outside first_or_beside (λ (e : false ≡ true). absurd (contrary e refl)) shown;
    leaves_came = All-nil (λ v. IsLeaf g least v × (1 ≤ get_or turns' v 0));
    leaves_apart = subst (λ (xs : List ℕ). AllPairs (λ (u v : ℕ). u ≢ v) xs) (sym (append-nil leaves)) are.leaves_apart;
  }

  -- all but itself
  pub next_leaf : IsGraph g → IsLeaf g least t → IsShown g least labels true t → IsNext g least turns leaves (t ∷ []) count t
  next_leaf ok is shown = record {
    certified = certified_shown g least (has (leaves ++ t ∷ [])) (came_first turns' (count + 1)) labels true t ok t1 tn outside first_or_beside (λ e. has_last leaves t) shown;
    leaves_came = All-cons (λ v. IsLeaf g least v × (1 ≤ get_or turns' v 0)) t [] (is, omega (arith, mine)) (All-nil (λ v. IsLeaf g least v × (1 ≤ get_or turns' v 0)));
    leaves_apart = all_pairs_push (λ (u v : ℕ). u ≢ v) leaves t are.leaves_apart (λ k d l. apart_from (get_or leaves k d) (are.leaves_came k d l));
  }

  pub turned : (more : List ℕ) → get_or owners t 0 ≡ own → IsNext g least turns leaves more count t → AreTurns g least owners own turns' (leaves ++ more) (count + 1)
  turned more owned next = record {
    long = length-set turns t (count + 1) ∙ are.long;
    to_count = λ v. ⊎_elim
        (λ (e : v ≡ t). let m : get_or turns' v 0 ≡ count + 1 = ap (λ (u : ℕ). get_or turns' u 0) e ∙ mine in omega arith)
        (λ ne. let e = other v ne in let le = are.to_count v in omega arith)
        (cases_eq v t);
    inside = λ v one. ⊎_elim
        (λ (e : v ≡ t). (omega arith, omega arith, ap (λ (u : ℕ). get_or owners u 0) e ∙ owned))
        (λ ne. let e = other v ne in are.inside v (omega arith))
        (cases_eq v t);
    apart = λ u v one same. ⊎_elim
        (λ (e : u ≡ t). ⊎_elim
        (λ (d : v ≡ t). e ∙ sym d)
        (λ ne. let m : get_or turns' u 0 ≡ count + 1 = ap (λ (w : ℕ). get_or turns' w 0) e ∙ mine in let k = other v ne in let le = are.to_count v in absurd (omega arith))
        (cases_eq v t))
        (λ nu. ⊎_elim
        (λ (d : v ≡ t). let m : get_or turns' v 0 ≡ count + 1 = ap (λ (w : ℕ). get_or turns' w 0) d ∙ mine in let k = other u nu in let le = are.to_count u in absurd (omega arith))
        (λ ne. let k = other u nu in let l = other v ne in are.apart u v (omega arith) (omega arith))
        (cases_eq v t))
        (cases_eq u t);
    certified = λ v two. ⊎_elim
        (λ (e : v ≡ t). subst (λ (w : ℕ). IsCertified g least (has (leaves ++ more)) (came_first turns' (get_or turns' w 0)) w) (sym e)
        (subst (λ (k : ℕ). IsCertified g least (has (leaves ++ more)) (came_first turns' k) t) (sym mine) next.certified))
        (λ ne.
        let same = other v ne in
        subst (λ (k : ℕ). IsCertified g least (has (leaves ++ more)) (came_first turns' k) v) (sym same)
        (certified_more g least (has leaves) (has (leaves ++ more)) (came_first turns (get_or turns v 0)) (came_first turns' (get_or turns v 0)) v (has_more leaves more) (still_first (get_or turns v 0)) (are.certified v (omega arith))))
        (cases_eq v t);
    leaves_came = All-append (λ v. IsLeaf g least v × (1 ≤ get_or turns' v 0)) leaves more old_leaves next.leaves_came;
    leaves_apart = next.leaves_apart;
  }

  pub root_stays : (root : ℕ) → get_or turns root 0 ≡ 1 → get_or turns' root 0 ≡ 1
  root_stays root is = ⊎_elim
      (λ (e : root ≡ t). let z : get_or turns root 0 ≡ 0 = ap (λ (u : ℕ). get_or turns u 0) e ∙ not_yet in absurd (omega arith))
      (λ ne. other root ne ∙ is)
      (cases_eq root t)

  pub told_more : (labels' : List ℕ) → labels' ≡ set labels t 0 → length labels ≡ g.vertices + 1 → AreTold g.vertices labels' turns'
  told_more labels' is long = record {
    came = λ v v1 vn one. ⊎_elim
        (λ (e : v ≡ t). ap (λ (xs : List ℕ). get_or xs v 0) is ∙ (ap (λ (u : ℕ). get_or (set labels t 0) u 0) e ∙ get_or-set_same labels t 0 0 (omega (arith, long, tn))))
        (λ ne. let k = other v ne in ap (λ (xs : List ℕ). get_or xs v 0) is ∙ (get_or-set_other labels t v 0 0 ne ∙ told.came v v1 vn (omega arith)))
        (cases_eq v t);
    waiting = λ v v1 vn none. ⊎_elim
        (λ (e : v ≡ t). let m : get_or turns' v 0 ≡ count + 1 = ap (λ (w : ℕ). get_or turns' w 0) e ∙ mine in absurd (omega arith))
        (λ ne. let k = other v ne in ap (λ (xs : List ℕ). get_or xs v 0) is ∙ (get_or-set_other labels t v 0 0 ne ∙ told.waiting v v1 vn (omega arith)))
        (cases_eq v t);
  }

-- ---- the first turn

pub zeros : (k v : ℕ) → get_or (replicate {A = ℕ} k 0) v 0 ≡ 0
zeros k v = ⊎_elim
    (λ (l : v < k). get_or-replicate {A = ℕ} k v 0 0 l)
    (λ (past : k ≤ v). get_or_past (replicate {A = ℕ} k 0) v 0 (let e = length-replicate {A = ℕ} k 0 in omega (arith, past, e)))
    (cases_lt v k)

pub first_turns : (g : Graph) (least : ℕ) (owners : List ℕ) (own root : ℕ) (xs : List ℕ) → length xs ≡ g.vertices + 1 → ((v : ℕ) → get_or xs v 0 ≡ 0) → 1 ≤ root → root ≤ g.vertices → get_or owners root 0 ≡ own →
    AreTurns g least owners own (set xs root 1) [] 1
first_turns g least owners own root xs long none one to_n owned =
    let mine : get_or (set xs root 1) root 0 ≡ 1 = get_or-set_same xs root 1 0 (omega (arith, long, to_n)) in
    let other = λ (v : ℕ) (ne : v ≢ root). get_or-set_other xs root v 1 0 ne ∙ none v in
    let turn = λ (v : ℕ) (some : 1 ≤ get_or (set xs root 1) v 0).
    let r : v ≡ root = ⊎_elim (λ (e : v ≡ root). e) (λ ne. let z = other v ne in absurd (omega arith)) (cases_eq v root) in r in
    record {
      long = length-set xs root 1 ∙ long;
      to_count = λ v. ⊎_elim
          (λ (e : v ≡ root). let m : get_or (set xs root 1) v 0 ≡ 1 = ap (λ (u : ℕ). get_or (set xs root 1) u 0) e ∙ mine in omega arith)
          (λ ne. let z = other v ne in omega arith)
          (cases_eq v root);
      inside = λ v some. let e = turn v some in (omega (arith, e, one), omega (arith, e, to_n), ap (λ (u : ℕ). get_or owners u 0) e ∙ owned);
      apart = λ u v some same. turn u some ∙ sym (turn v (omega (arith, some, same)));
      certified = λ v two. let e = turn v (omega (arith, two)) in let m : get_or (set xs root 1) v 0 ≡ 1 = ap (λ (u : ℕ). get_or (set xs root 1) u 0) e ∙ mine in absurd (omega (arith, two, m));
      leaves_came = All-nil (λ v. IsLeaf g least v × (1 ≤ get_or (set xs root 1) v 0));
      leaves_apart = λ i j d l u. absurd (omega arith);
    }

pub first_told : (n root : ℕ) (labels labels' xs : List ℕ) → labels' ≡ set labels root 0 → length labels ≡ n + 1 → ((v : ℕ) → 1 ≤ v → v ≤ n → get_or labels v 0 ≡ 1) →
    length xs ≡ n + 1 → ((v : ℕ) → get_or xs v 0 ≡ 0) → root ≤ n → AreTold n labels' (set xs root 1)
first_told n root labels labels' xs is long ones xs_long none to_n = record {
  came = λ v v1 vn some. ⊎_elim
      (λ (e : v ≡ root). ap (λ (ys : List ℕ). get_or ys v 0) is ∙ (ap (λ (u : ℕ). get_or (set labels root 0) u 0) e ∙ get_or-set_same labels root 0 0 (omega (arith, long, to_n))))
      (λ ne. let z = get_or-set_other xs root v 1 0 ne ∙ none v in absurd (omega (arith, z, some)))
      (cases_eq v root);
  waiting = λ v v1 vn zero. ⊎_elim
      (λ (e : v ≡ root). let m : get_or (set xs root 1) v 0 ≡ 1 = ap (λ (u : ℕ). get_or (set xs root 1) u 0) e ∙ get_or-set_same xs root 1 0 (omega (arith, xs_long, to_n)) in absurd (omega (arith, m, zero)))
      (λ ne. ap (λ (ys : List ℕ). get_or ys v 0) is ∙ (get_or-set_other labels root v 0 0 ne ∙ ones v v1 vn))
      (cases_eq v root);
}

pub from_label : (labels : List ℕ) (t : ℕ) → get_or labels 0 0 ≡ 0 → 1 ≤ get_or labels t 0 → 1 ≤ t
from_label labels t none some = ⊎_elim
    (λ (z : t < 1). let e : t ≡ 0 = omega arith in let k : get_or labels t 0 ≡ get_or labels 0 0 = ap (λ (u : ℕ). get_or labels u 0) e in absurd (omega (arith, k, none, some)))
    (λ (one : 1 ≤ t). one)
    (cases_lt t 1)
