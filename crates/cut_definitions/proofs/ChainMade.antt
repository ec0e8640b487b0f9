-- Sets that are nested, each with s and without t, are the first parts of a numbering; so the minimum cuts across an edge are a chain.
use Rattle.std.proofs.Common.{◌≡◌, ℕ, zero, suc, ◌+◌, ◌-◌, ◌<◌, ◌≤◌, ◌⊎◌, ⊎_elim, Bool, true, false, not, ◌&&◌, leb, eqb, List, [], ◌∷◌, refl, sym, ◌∙◌, subst, ap, arith}
use Rattle.std.specs.Prelude.{if◌then◌else◌}
use Rattle.std.specs.List.{Contains, filter}
use Rattle.std.proofs.lemmas.Bool.{cases_lt, cases_eq, leb-true, eqb-true, eq-eqb, and_parts, false≢true, not-true, leb-false, le-leb, lt-leb, not_from_true}
use Rattle.cut_definitions.specs.Weight.{VertexSet, parts, minus, HasVertex, IsMinimumCut}
use Rattle.cut_definitions.specs.Cuts.{has, mincuts, side_of}
use Rattle.cut_definitions.specs.Chain.{SameOn, first_parts, one_part, IsFirstParts, IsWithin}
use Rattle.cut_definitions.specs.Laws.{LawOfChainAcross}
use Rattle.cut_definitions.proofs.Lists.{Contains-here, Contains-there, Contains-nil, Contains-cons_cases, Contains-filter, Contains-from_filter}
use Rattle.cut_definitions.proofs.Bridge.{Contains-mincuts_side_of}
use Rattle.cut_definitions.proofs.Vertices.{within_or_minus, IsMinimumCut-agree}
use Rattle.cut_definitions.proofs.ChainLaws.{IsPair, IsPair-joined, nesting}
use Rattle.cut_definitions.proofs.ChainLists.{kept_in, kept_s, set_with_minimum, first_parts_side}
use Rattle.cut_definitions.proofs.Bools.{in_minus, one_parts, same_tests}

-- the first parts of a numbering, but for all of them, are just the sets of the entries
record AreNumbered (n s t : ℕ) (set : List ℕ → VertexSet) (entries : List (List ℕ)) (count : ℕ) (part : ℕ → ℕ) : Type 0 where
  from_one : (v : ℕ) → 1 ≤ v → v ≤ n → 1 ≤ part v
  to_count : (v : ℕ) → 1 ≤ v → v ≤ n → part v ≤ count
  s_first : part s ≡ 1
  t_last : part t ≡ count
  none_empty : (i : ℕ) → 1 ≤ i → i ≤ count → HasVertex n (one_part part i)
  given : (i : ℕ) → 1 ≤ i → i < count → (entry : List ℕ) × Contains entries entry × SameOn n (set entry) (first_parts part i)
  taken : (entry : List ℕ) → Contains entries entry → IsFirstParts n count part (set entry)

-- a set has all first parts up to number `last`, and not all up to the next
record IsPlaced (n count : ℕ) (part : ℕ → ℕ) (x : VertexSet) : Type 0 where
  last : ℕ
  below_count : last < count
  inside : IsWithin n (first_parts part last) x
  next : HasVertex n (minus (first_parts part (last + 1)) x)

placed_from : (n count : ℕ) (part : ℕ → ℕ) (x : VertexSet) → IsWithin n (first_parts part 0) x → (k : ℕ) → k < count →
    HasVertex n (minus (first_parts part (k + 1)) x) → IsPlaced n count part x
placed_from n count part x none zero lt out = record { last = 0; below_count = lt; inside = none; next = out }
placed_from n count part x none (suc k) lt out =
    ⊎_elim
    (λ (w : IsWithin n (first_parts part (suc k)) x). record { last = suc k; below_count = lt; inside = w; next = out })
    (λ (h : HasVertex n (minus (first_parts part (suc k)) x)).
    let e : suc k ≡ k + 1 = omega arith in
    placed_from n count part x none k (omega arith) (subst (λ (i : ℕ). HasVertex n (minus (first_parts part i) x)) e h))
    (within_or_minus n (first_parts part (suc k)) x)

-- a set with s and without t has a place
placed : (n s t : ℕ) (set : List ℕ → VertexSet) (entries : List (List ℕ)) (count : ℕ) (part : ℕ → ℕ) → IsPair n s t → AreNumbered n s t set entries count part →
    (x : VertexSet) → x t ≡ false → IsPlaced n count part x
placed n s t set entries count part pair a x xt =
    let some : 1 ≤ count = omega (arith, a.from_one t pair.t_from_one pair.t_to_n, a.to_count t pair.t_from_one pair.t_to_n) in
    let at_t : part t ≤ count - 1 + 1 = omega (arith, a.t_last) in
    placed_from n count part x (λ v l u h. absurd (omega (arith, leb-true (part v) 0 h, a.from_one v l u))) (count - 1) (omega arith)
    (record { vertex = t; from_one = pair.t_from_one; to_n = pair.t_to_n; is_in = in_minus (first_parts part (count - 1 + 1) t) (x t) (le-leb (part t) (count - 1 + 1) at_t) xt })

-- ---- one more set divides the part in which it ends

-- the part of a vertex, one more if the set does not have it
abbrev raised : (ℕ → ℕ) → VertexSet → ℕ → ℕ
raised part x v = if x v then part v else part v + 1

raised_in : (b : Bool) (p : ℕ) → b ≡ true → (if b then p else p + 1) ≡ p
raised_in b p h = rw h refl

raised_out : (b : Bool) (p : ℕ) → b ≡ false → (if b then p else p + 1) ≡ p + 1
raised_out b p h = rw h refl

raised_least : (b : Bool) (p : ℕ) → p ≤ (if b then p else p + 1)
raised_least true p = omega arith
raised_least false p = omega arith

raised_most : (b : Bool) (p : ℕ) → (if b then p else p + 1) ≤ p + 1
raised_most true p = omega arith
raised_most false p = omega arith

same_low : (b : Bool) (p i j : ℕ) → (b ≡ false → i < p) → j ≤ i → leb p j ≡ leb (if b then p else p + 1) j
same_low true p i j out l = refl
same_low false p i j out l = let high : i < p = out refl in lt-leb p j (omega arith) ∙ sym (lt-leb (p + 1) j (omega arith))

same_there : (b : Bool) (p i : ℕ) → (b ≡ true → p ≤ i + 1) → (b ≡ false → i < p) → b ≡ leb (if b then p else p + 1) (i + 1)
same_there true p i low out = sym (le-leb p (i + 1) (low refl))
same_there false p i low out = let high : i < p = out refl in sym (lt-leb (p + 1) (i + 1) (omega arith))

one_more : (p j : ℕ) → leb p j ≡ leb (p + 1) (j + 1)
one_more p j = ⊎_elim (λ (l : j < p). lt-leb p j l ∙ sym (lt-leb (p + 1) (j + 1) (omega arith))) (λ (l : p ≤ j). le-leb p j l ∙ sym (le-leb (p + 1) (j + 1) (omega arith))) (cases_lt j p)

same_high : (b : Bool) (p i j : ℕ) → (b ≡ true → p ≤ i + 1) → i < j → leb p j ≡ leb (if b then p else p + 1) (j + 1)
same_high true p i j low l = let few : p ≤ i + 1 = low refl in le-leb p j (omega arith) ∙ sym (le-leb p (j + 1) (omega arith))
same_high false p i j low l = one_more p j

-- a set that ends inside the part after `last`, which a vertex with it and one without it show
record IsDividing (n count : ℕ) (part : ℕ → ℕ) (x : VertexSet) : Type 0 where
  last : ℕ
  below_count : last < count
  low : (v : ℕ) → 1 ≤ v → v ≤ n → x v ≡ true → part v ≤ last + 1
  high : (v : ℕ) → 1 ≤ v → v ≤ n → x v ≡ false → last < part v
  with_it : HasVertex n (λ v. eqb (part v) (last + 1) && x v)
  without_it : HasVertex n (λ v. eqb (part v) (last + 1) && not (x v))

one_part_at : (n : ℕ) (part : ℕ → ℕ) (i v : ℕ) → 1 ≤ v → v ≤ n → part v ≡ i → HasVertex n (one_part part i)
one_part_at n part i v l u e = record { vertex = v; from_one = l; to_n = u; is_in = eq-eqb (part v) i e }

-- no part is empty after the division
divided_none_empty : (n count : ℕ) (part : ℕ → ℕ) (x : VertexSet) (d : IsDividing n count part x) → ((i : ℕ) → 1 ≤ i → i ≤ count → HasVertex n (one_part part i)) →
    (i : ℕ) → 1 ≤ i → i ≤ count + 1 → HasVertex n (one_part (raised part x) i)
divided_none_empty n count part x d full i from to =
    ⊎_elim
    (λ (l : i < d.last + 1).
    let h = full i from (omega (arith, d.below_count)) in
    let is : part h.vertex ≡ i = eqb-true _ _ h.is_in in
    let inside : x h.vertex ≡ true = kept h.vertex h.from_one h.to_n (omega arith) in
    one_part_at n (raised part x) i h.vertex h.from_one h.to_n (raised_in (x h.vertex) (part h.vertex) inside ∙ is))
    (λ (l : d.last + 1 ≤ i). ⊎_elim
    (λ (e : i ≡ d.last + 1).
    let h = d.with_it in
    let both = and_parts (eqb (part h.vertex) (d.last + 1)) (x h.vertex) h.is_in in
    one_part_at n (raised part x) i h.vertex h.from_one h.to_n (raised_in (x h.vertex) (part h.vertex) both.1 ∙ (eqb-true _ _ both.0 ∙ sym e)))
    (λ ne. ⊎_elim
    (λ (e : i ≡ d.last + 2).
    let h = d.without_it in
    let both = and_parts (eqb (part h.vertex) (d.last + 1)) (not (x h.vertex)) h.is_in in
    let is : part h.vertex ≡ d.last + 1 = eqb-true _ _ both.0 in
    let same : part h.vertex + 1 ≡ i = omega arith in
    one_part_at n (raised part x) i h.vertex h.from_one h.to_n (raised_out (x h.vertex) (part h.vertex) (not-true (x h.vertex) both.1) ∙ same))
    (λ further.
    let h = full (i - 1) (omega (arith, ne, further)) (omega arith) in
    let is : part h.vertex ≡ i - 1 = eqb-true _ _ h.is_in in
    let out : x h.vertex ≡ false = left h.vertex h.from_one h.to_n (omega (arith, ne, further)) in
    let same : part h.vertex + 1 ≡ i = omega arith in
    one_part_at n (raised part x) i h.vertex h.from_one h.to_n (raised_out (x h.vertex) (part h.vertex) out ∙ same))
    (cases_eq i (d.last + 2)))
    (cases_eq i (d.last + 1)))
    (cases_lt i (d.last + 1))
  where
    kept : (v : ℕ) → 1 ≤ v → v ≤ n → part v ≤ d.last → x v ≡ true
    kept v l u few = elim (x v) as (λ b. x v ≡ b → b ≡ true) [ true ↦ λ e. refl | false ↦ λ e. absurd (omega (arith, d.high v l u e)) ] refl

    left : (v : ℕ) → 1 ≤ v → v ≤ n → d.last + 1 < part v → x v ≡ false
    left v l u many = elim (x v) as (λ b. x v ≡ b → b ≡ false) [ true ↦ λ e. absurd (omega (arith, d.low v l u e)) | false ↦ λ e. refl ] refl

divided : (n s t : ℕ) (set : List ℕ → VertexSet) (entries : List (List ℕ)) (count : ℕ) (part : ℕ → ℕ) (new : List ℕ) → AreNumbered n s t set entries count part →
    set new s ≡ true → set new t ≡ false → IsDividing n count part (set new) → AreNumbered n s t set (new ∷ entries) (count + 1) (raised part (set new))
divided n s t set entries count part new a xs xt d = record {
  from_one = λ v l u. omega (arith, a.from_one v l u, raised_least (x v) (part v));
  to_count = λ v l u. omega (arith, a.to_count v l u, raised_most (x v) (part v));
  s_first = raised_in (x s) (part s) xs ∙ a.s_first;
  t_last = raised_out (x t) (part t) xt ∙ ap (λ (k : ℕ). k + 1) a.t_last;
  none_empty = divided_none_empty n count part x d a.none_empty;
  given = λ i from below. ⊎_elim
      (λ (l : i < d.last + 1).
      let old = a.given i from (omega (arith, d.below_count)) in
      (old.0, Contains-there new entries old.0 old.1, λ v f u. old.2 v f u ∙ same_low (x v) (part v) d.last i (d.high v f u) (omega arith)))
      (λ (l : d.last + 1 ≤ i). ⊎_elim
      (λ (e : d.last + 1 ≡ i).
      (new, Contains-here new entries, λ v f u. subst (λ (k : ℕ). x v ≡ leb (raised part x v) k) e (same_there (x v) (part v) d.last (d.low v f u) (d.high v f u))))
      (λ ne.
      let old = a.given (i - 1) (omega (arith, ne)) (omega arith) in
      let e : i - 1 + 1 ≡ i = omega arith in (
        old.0,
        Contains-there new entries old.0 old.1,
        λ v f u. old.2 v f u ∙ subst (λ (k : ℕ). leb (part v) (i - 1) ≡ leb (raised part x v) k) e (same_high (x v) (part v) d.last (i - 1) (d.low v f u) (omega (arith, ne))),
      ))
      (cases_eq (d.last + 1) i))
      (cases_lt i (d.last + 1));
  taken = λ entry h. ⊎_elim
      (λ (e : new ≡ entry). subst (λ (y : List ℕ). IsFirstParts n (count + 1) (raised part x) (set y)) e
      (record { last = d.last + 1; from_one = omega arith; below_count = omega (arith, d.below_count); same = λ v f u. same_there (x v) (part v) d.last (d.low v f u) (d.high v f u) }))
      (λ there. still entry (a.taken entry there))
      (Contains-cons_cases new entries entry h);
}
  where
    x : VertexSet
    x = set new

    still : (entry : List ℕ) → IsFirstParts n count part (set entry) → IsFirstParts n (count + 1) (raised part x) (set entry)
    still entry f =
        ⊎_elim
        (λ (l : f.last < d.last + 1). record {
          last = f.last;
          from_one = f.from_one;
          below_count = omega (arith, f.below_count);
          same = λ v k u. f.same v k u ∙ same_low (x v) (part v) d.last f.last (d.high v k u) (omega arith);
        })
        (λ (l : d.last + 1 ≤ f.last). record {
          last = f.last + 1;
          from_one = omega arith;
          below_count = omega (arith, f.below_count);
          same = λ v k u. f.same v k u ∙ same_high (x v) (part v) d.last f.last (d.low v k u) (omega arith);
        })
        (cases_lt f.last (d.last + 1))

-- ---- one more set that is nested with those before

-- a set that has more than all first parts up to its place divides the part after that
dividing : (n s t : ℕ) (set : List ℕ → VertexSet) (entries : List (List ℕ)) (count : ℕ) (part : ℕ → ℕ) (x : VertexSet) → AreNumbered n s t set entries count part →
    ((entry : List ℕ) → Contains entries entry → IsWithin n x (set entry) ⊎ IsWithin n (set entry) x) → (p : IsPlaced n count part x) →
    HasVertex n (minus x (first_parts part p.last)) → IsDividing n count part x
dividing n s t set entries count part x a nested p more = record {
  last = p.last;
  below_count = p.below_count;
  low = low;
  high = λ v l u out. leb-false (part v) p.last (off v l u out);
  with_it = record {
    vertex = more.vertex;
    from_one = more.from_one;
    to_n = more.to_n;
    is_in = both_true _ _ (eq-eqb (part more.vertex) (p.last + 1) (omega (arith, low more.vertex more.from_one more.to_n in_more.0, leb-false (part more.vertex) p.last (not-true _ in_more.1)))) in_more.0;
  };
  without_it = record {
    vertex = p.next.vertex;
    from_one = p.next.from_one;
    to_n = p.next.to_n;
    is_in = both_true _ _ (eq-eqb (part p.next.vertex) (p.last + 1) (omega (
      arith,
      leb-true (part p.next.vertex) (p.last + 1) in_next.0,
      leb-false (part p.next.vertex) p.last (off p.next.vertex p.next.from_one p.next.to_n (not-true _ in_next.1)),
    ))) in_next.1;
  };
}
  where
    both_true : (b c : Bool) → b ≡ true → c ≡ true → (b && c) ≡ true
    both_true b c h k = grind arith

    in_next : (first_parts part (p.last + 1) p.next.vertex ≡ true) × (not (x p.next.vertex) ≡ true)
    in_next = and_parts (first_parts part (p.last + 1) p.next.vertex) (not (x p.next.vertex)) p.next.is_in

    in_more : (x more.vertex ≡ true) × (not (first_parts part p.last more.vertex) ≡ true)
    in_more = and_parts (x more.vertex) (not (first_parts part p.last more.vertex)) more.is_in

    off : (v : ℕ) → 1 ≤ v → v ≤ n → x v ≡ false → first_parts part p.last v ≡ false
    off v l u out = elim (first_parts part p.last v) as (λ b. first_parts part p.last v ≡ b → b ≡ false) [ true ↦ λ e. absurd (false≢true (sym out ∙ p.inside v l u e)) | false ↦ λ e. refl ] refl

    low : (v : ℕ) → 1 ≤ v → v ≤ n → x v ≡ true → part v ≤ p.last + 1
    low v l u h =
        ⊎_elim
        (λ (below : p.last + 1 < count).
        let e = a.given (p.last + 1) (omega arith) below in
        ⊎_elim
        (λ (w : IsWithin n x (set e.0)). leb-true (part v) (p.last + 1) (sym (e.2 v l u) ∙ w v l u h))
        (λ (w : IsWithin n (set e.0) x).
        absurd (false≢true (sym (not-true _ in_next.1) ∙ w p.next.vertex p.next.from_one p.next.to_n (e.2 p.next.vertex p.next.from_one p.next.to_n ∙ in_next.0))))
        (nested e.0 e.1))
        (λ (all : count ≤ p.last + 1). omega (arith, a.to_count v l u))
        (cases_lt (p.last + 1) count)

abbrev Numbering : (n s t : ℕ) (set : List ℕ → VertexSet) (entries : List (List ℕ)) → Type 0
Numbering n s t set entries = (count : ℕ) × (part : ℕ → ℕ) × AreNumbered n s t set entries count part

with_one_more : (n s t : ℕ) (set : List ℕ → VertexSet) (entries : List (List ℕ)) (new : List ℕ) → IsPair n s t → set new s ≡ true → set new t ≡ false →
    ((entry : List ℕ) → Contains entries entry → IsWithin n (set new) (set entry) ⊎ IsWithin n (set entry) (set new)) → Numbering n s t set entries → Numbering n s t set (new ∷ entries)
with_one_more n s t set entries new pair xs xt nested old =
    ⊎_elim
    (λ (w : IsWithin n x (first_parts part p.last)). (
      count,
      part,
      record {
        from_one = a.from_one;
        to_count = a.to_count;
        s_first = a.s_first;
        t_last = a.t_last;
        none_empty = a.none_empty;
        given = λ i l u. let e = a.given i l u in (e.0, Contains-there new entries e.0 e.1, e.2);
        taken = λ entry h. ⊎_elim (λ (e : new ≡ entry). subst (λ (y : List ℕ). IsFirstParts n count part (set y)) e (there w)) (λ h. a.taken entry h) (Contains-cons_cases new entries entry h);
      },
    ))
    (λ (more : HasVertex n (minus x (first_parts part p.last))).
    (count + 1, raised part x, divided n s t set entries count part new a xs xt (dividing n s t set entries count part x a nested p more)))
    (within_or_minus n x (first_parts part p.last))
  where
    count : ℕ
    count = old.0

    part : ℕ → ℕ
    part = old.1

    a : AreNumbered n s t set entries count part
    a = old.2

    x : VertexSet
    x = set new

    p : IsPlaced n count part x
    p = placed n s t set entries count part pair a x xt

    there : IsWithin n x (first_parts part p.last) → IsFirstParts n count part x
    there w = record {
      last = p.last;
      from_one = omega (arith, a.s_first, leb-true (part s) p.last (w s pair.s_from_one pair.s_to_n xs));
      below_count = p.below_count;
      same = λ v l u. same_tests (x v) (first_parts part p.last v) (w v l u) (p.inside v l u);
    }

numbered : (n s t : ℕ) (set : List ℕ → VertexSet) → IsPair n s t → (entries : List (List ℕ)) →
    ((entry : List ℕ) → Contains entries entry → (set entry s ≡ true) × (set entry t ≡ false)) →
    ((x y : List ℕ) → Contains entries x → Contains entries y → IsWithin n (set x) (set y) ⊎ IsWithin n (set y) (set x)) → Numbering n s t set entries
numbered n s t set pair [] apart nested = (
  1,
  λ v. 1,
  record {
    from_one = λ v l u. omega arith;
    to_count = λ v l u. omega arith;
    s_first = refl;
    t_last = refl;
    none_empty = λ i l u. record { vertex = s; from_one = pair.s_from_one; to_n = pair.s_to_n; is_in = eq-eqb 1 i (omega arith) };
    given = λ i l u. absurd (omega arith);
    taken = λ entry h. absurd (Contains-nil entry h);
  },
)
numbered n s t set pair (x ∷ xs) apart nested =
    let ends = apart x (Contains-here x xs) in
    with_one_more n s t set xs x pair ends.0 ends.1 (λ y h. nested x y (Contains-here x xs) (Contains-there x xs y h))
    (numbered n s t set pair xs (λ y h. apart y (Contains-there x xs y h)) (λ y z h k. nested y z (Contains-there x xs y h) (Contains-there x xs z k)))

pub chain_across : LawOfChainAcross
chain_across g s t ok joined x hx xs xt = (
  count,
  part,
  record {
    numbered = record {
      s_from_one = pair.s_from_one;
      s_to_n = pair.s_to_n;
      t_from_one = pair.t_from_one;
      t_to_n = pair.t_to_n;
      two = let f = first x hx xs xt in omega (arith, f.from_one, f.below_count);
      from_one = a.from_one;
      to_count = a.to_count;
      s_first = a.s_first;
      t_last = a.t_last;
      none_empty = a.none_empty;
    };
    all_minimum = λ i l u. let e = a.given i l u in IsMinimumCut-agree g ok (set e.0) (first_parts part i) e.2 (minimum e.0 e.1);
    no_other = first;
  },
)
  where
    n : ℕ
    n = g.vertices

    pair : IsPair n s t
    pair = IsPair-joined g s t ok joined

    set : List ℕ → VertexSet
    set side v = not (parts (has side) s v)

    crossing : List ℕ → Bool
    crossing side = parts (has side) s t

    entries : List (List ℕ)
    entries = filter crossing (mincuts g)

    minimum : (side : List ℕ) → Contains entries side → IsMinimumCut g (set side)
    minimum side h = set_with_minimum g ok s side (Contains-from_filter crossing (mincuts g) side h).0

    ends : (side : List ℕ) → Contains entries side → (set side s ≡ true) × (set side t ≡ false)
    ends side h = (kept_s (has side s), not_from_true (parts (has side) s t) (Contains-from_filter crossing (mincuts g) side h).1)

    all : Numbering n s t set entries
    all =
        numbered n s t set pair entries ends
        (λ y z h k. nesting g s t ok joined (set y) (set z) (minimum y h) (minimum z k) (ends y h).0 (ends z k).0 (ends y h).1 (ends z k).1)

    count : ℕ
    count = all.0

    part : ℕ → ℕ
    part = all.1

    a : AreNumbered n s t set entries count part
    a = all.2

    first : (y : VertexSet) → IsMinimumCut g y → y s ≡ true → y t ≡ false → IsFirstParts n count part y
    first y hy ys yt =
        let side = side_of n y in
        let parted : parts (has side) s t ≡ true = first_parts_side n y s t pair.s_from_one pair.s_to_n pair.t_from_one pair.t_to_n ∙ one_parts (y s) (y t) ys yt in
        let f = a.taken side (Contains-filter crossing (mincuts g) side (Contains-mincuts_side_of g ok y hy) parted) in
        record {
          last = f.last;
          from_one = f.from_one;
          below_count = f.below_count;
          same = λ v l u. kept_in (y s) (y v) ys ∙ (sym (ap not (first_parts_side n y s v pair.s_from_one pair.s_to_n l u)) ∙ f.same v l u);
        }
