-- Labels of regions, each with an owner of its own, are at most as many as the vertices.
use Rattle.std.proofs.Common.{◌≡◌, ℕ, zero, suc, ◌+◌, ◌<◌, ◌≤◌, ◌⊎◌, inl, inr, ⊎_elim, Bool, eqb, List, length, set, get_or, refl, sym, ◌∙◌, ap, arith}
use Rattle.std.specs.Prelude.{if◌then◌else◌, ◌≢◌}
use Rattle.std.proofs.lemmas.Bool.{cases_eq, cases_lt, eq-eqb, ne_eqb}
use Rattle.std.proofs.lemmas.List.{get_or-set_same, get_or-set_other, length-set, get_or_past}
use Rattle.node_tree.specs.Homes.{AreNumbered, LawOfFreshLabels, LawOfFirstLabels, LawOfEnteringAlone}
use Rattle.region_sweep.specs.Regrouping.{AreNumberedAround}

-- one number of a function is another
abbrev pub redirect : (ℕ → ℕ) → ℕ → ℕ → ℕ → ℕ
redirect f a b q = if eqb q a then b else f q

pub redirect_at : (f : ℕ → ℕ) (a b q : ℕ) → q ≡ a → redirect f a b q ≡ b
redirect_at f a b q e = ap (λ (c : Bool). if c then b else f q) (eq-eqb q a e)

pub redirect_off : (f : ℕ → ℕ) (a b q : ℕ) → q ≢ a → redirect f a b q ≡ f q
redirect_off f a b q e = ap (λ (c : Bool). if c then b else f q) (ne_eqb q a e)

-- the first k values of a function are different
abbrev pub AreApart : ℕ → (ℕ → ℕ) → Type 0
AreApart k f = (p q : ℕ) → p < k → q < k → f p ≡ f q → p ≡ q

-- different values below a bound are at most as many as it
pub few : (k n : ℕ) (f : ℕ → ℕ) → ((q : ℕ) → q < k → f q < n) → AreApart k f → k ≤ n
few zero n f below apart = omega arith
few (suc k) zero f below apart = let h = below k (omega arith) in absurd (omega arith)
few (suc k) (suc n) f below apart =
    let last = f k in
    let last_below : last < suc n = below k (omega arith) in
    let value = λ (q : ℕ). if eqb (f q) n then last else f q in
    let at = λ (q : ℕ) (e : f q ≡ n). (let r : value q ≡ last = ap (λ (c : Bool). if c then last else f q) (eq-eqb (f q) n e) in r) in
    let off = λ (q : ℕ) (e : f q ≢ n). (let r : value q ≡ f q = ap (λ (c : Bool). if c then last else f q) (ne_eqb (f q) n e) in r) in
    let not_last = λ (q : ℕ) (l : q < k) (e : f q ≡ last). (let same = apart q k (omega (arith, l)) (omega arith) e in let r : ⊥ = absurd (omega (arith, same, l)) in r) in
    let lower = λ (q : ℕ) (l : q < k). ⊎_elim
    (λ (e : f q ≡ n). let r : value q < n = (let ne : last ≢ n = λ h. not_last q l (e ∙ sym h) in omega (arith, at q e, last_below, ne)) in r)
    (λ (e : f q ≢ n). let r : value q < n = omega (arith, off q e, below q (omega (arith, l)), e) in r)
    (cases_eq (f q) n) in
    let distinct = λ (p q : ℕ) (lp : p < k) (lq : q < k) (h : value p ≡ value q). ⊎_elim
    (λ (e : f p ≡ n). ⊎_elim
    (λ (d : f q ≡ n). apart p q (omega (arith, lp)) (omega (arith, lq)) (e ∙ sym d))
    (λ (d : f q ≢ n). let r : p ≡ q = absurd (not_last q lq (sym (off q d) ∙ sym h ∙ at p e)) in r)
    (cases_eq (f q) n))
    (λ (e : f p ≢ n). ⊎_elim
    (λ (d : f q ≡ n). let r : p ≡ q = absurd (not_last p lp (sym (off p e) ∙ h ∙ at q d)) in r)
    (λ (d : f q ≢ n). apart p q (omega (arith, lp)) (omega (arith, lq)) (sym (off p e) ∙ h ∙ off q d))
    (cases_eq (f q) n))
    (cases_eq (f p) n) in
    omega (arith, few k n value lower distinct)

-- the next fresh label fits
pub fresh_labels : LawOfFreshLabels
fresh_labels n labels fresh h = few fresh (n + 1) h.owner (λ q l. omega (arith, h.to_n q l)) h.apart

-- a label as the sweep starts
first_label : (n : ℕ) (labels : List ℕ) → length labels ≡ n + 1 → get_or labels 0 0 ≡ 0 → get_or labels 1 0 ≡ 0 → ((v : ℕ) → 2 ≤ v → v ≤ n → get_or labels v 0 ≡ 1) →
    (v : ℕ) → get_or labels v 0 ≤ 1
first_label n labels long none root ones v =
    let at = λ (u : ℕ) (e : v ≡ u) (z : get_or labels u 0 ≡ 0). (let w : get_or labels v 0 ≡ get_or labels u 0 = ap (λ (k : ℕ). get_or labels k 0) e in let r : get_or labels v 0 ≤ 1 = omega (arith, w, z) in r) in
    ⊎_elim
    (λ (l : n < v). omega (arith, get_or_past labels v 0 (omega (arith, l, long))))
    (λ (l : v ≤ n). ⊎_elim
    (λ (e : v ≡ 0). at 0 e none)
    (λ (ne : v ≢ 0). ⊎_elim (λ (e : v ≡ 1). at 1 e root) (λ (no : v ≢ 1). omega (arith, ones v (omega (arith, ne, no)) l)) (cases_eq v 1))
    (cases_eq v 0))
    (cases_lt n v)

-- vertex 1 owns the first label
pub first_labels : LawOfFirstLabels
first_labels n labels one long none root ones = record {
  below = λ v. omega (arith, first_label n labels long none root ones v);
  owner = λ q. q;
  to_n = λ q l. omega (arith, l, one);
  owns = λ q l. ⊎_elim
      (λ (e : q ≡ 1). inr (ap (λ (v : ℕ). get_or labels v 0) e ∙ root))
      (λ (ne : q ≢ 1). let z : q ≡ 0 = omega (arith, l, ne) in inr (ap (λ (v : ℕ). get_or labels v 0) z ∙ none))
      (cases_eq q 1);
  apart = λ p q lp lq e. e;
}

-- each label stays or becomes 0
abbrev pub IsLowered : List ℕ → List ℕ → Type 0
IsLowered labels labels' = (v : ℕ) → (get_or labels' v 0 ≡ get_or labels v 0) ⊎ (get_or labels' v 0 ≡ 0)

lowered_below : (labels labels' : List ℕ) (fresh : ℕ) → IsLowered labels labels' → ((v : ℕ) → get_or labels v 0 < fresh) → (v : ℕ) → get_or labels' v 0 < fresh
lowered_below labels labels' fresh low below v = ⊎_elim
    (λ (e : get_or labels' v 0 ≡ get_or labels v 0). omega (arith, e, below v))
    (λ (z : get_or labels' v 0 ≡ 0). omega (arith, z, below v))
    (low v)

lowered_owns : (labels labels' : List ℕ) (q v : ℕ) → IsLowered labels labels' → (get_or labels v 0 ≡ q) ⊎ (get_or labels v 0 ≡ 0) → (get_or labels' v 0 ≡ q) ⊎ (get_or labels' v 0 ≡ 0)
lowered_owns labels labels' q v low has = ⊎_elim
    (λ (e : get_or labels' v 0 ≡ get_or labels v 0). ⊎_elim (λ (h : get_or labels v 0 ≡ q). inl (e ∙ h)) (λ (h : get_or labels v 0 ≡ 0). inr (e ∙ h)) has)
    (λ (z : get_or labels' v 0 ≡ 0). inr z)
    (low v)

pub lowered_set : (labels : List ℕ) (t : ℕ) → IsLowered labels (set labels t 0)
lowered_set labels t v = ⊎_elim
    (λ (e : v ≡ t). ⊎_elim
    (λ (l : t < length labels). inr (ap (λ (k : ℕ). get_or (set labels t 0) k 0) e ∙ get_or-set_same labels t 0 0 l))
    (λ (l : length labels ≤ t). inr (ap (λ (k : ℕ). get_or (set labels t 0) k 0) e ∙ get_or_past (set labels t 0) t 0 (omega (arith, l, length-set labels t 0))))
    (cases_lt t (length labels)))
    (λ ne. inl (get_or-set_other labels t v 0 0 ne))
    (cases_eq v t)

-- vertices that enter leave all owners as they are
pub lowered_numbered : (n : ℕ) (labels labels' : List ℕ) (fresh : ℕ) → IsLowered labels labels' → AreNumbered n labels fresh → AreNumbered n labels' fresh
lowered_numbered n labels labels' fresh low h = record {
  below = lowered_below labels labels' fresh low h.below;
  owner = h.owner;
  to_n = h.to_n;
  owns = λ q l. lowered_owns labels labels' q (h.owner q) low (h.owns q l);
  apart = h.apart;
}

pub enter_alone : LawOfEnteringAlone
enter_alone n labels t fresh h = lowered_numbered n labels (set labels t 0) fresh (lowered_set labels t) h

-- ---- while a region is split

-- a number is free where it owns no label, but for one
abbrev pub IsFree : (ℕ → ℕ) → ℕ → ℕ → ℕ → Type 0
IsFree owner fresh a w = (q : ℕ) → q < fresh → q ≢ a → owner q ≢ w

-- a free number may take the place of one of the numbers that are different
redirect_apart : (owner : ℕ → ℕ) (fresh a w : ℕ) → AreApart fresh owner → IsFree owner fresh a w → (p q : ℕ) → (p ≢ a → p < fresh) → (q ≢ a → q < fresh) →
    redirect owner a w p ≡ redirect owner a w q → p ≡ q
redirect_apart owner fresh a w apart free p q lp lq h =
    ⊎_elim
    (λ (e : p ≡ a). ⊎_elim
    (λ (d : q ≡ a). e ∙ sym d)
    (λ (d : q ≢ a). let r : p ≡ q = absurd (free q (lq d) d (sym (redirect_off owner a w q d) ∙ sym h ∙ redirect_at owner a w p e)) in r)
    (cases_eq q a))
    (λ (e : p ≢ a). ⊎_elim
    (λ (d : q ≡ a). let r : p ≡ q = absurd (free p (lp e) e (sym (redirect_off owner a w p e) ∙ h ∙ redirect_at owner a w q d)) in r)
    (λ (d : q ≢ a). apart p q (lp e) (lq d) (sym (redirect_off owner a w p e) ∙ h ∙ redirect_off owner a w q d))
    (cases_eq q a))
    (cases_eq p a)

-- the number of a label is none of a vertex with another label
not_owner : (labels : List ℕ) (q v w r : ℕ) → (get_or labels v 0 ≡ q) ⊎ (get_or labels v 0 ≡ 0) → get_or labels w 0 ≡ r → 1 ≤ r → q ≢ r → v ≢ w
not_owner labels q v w r has at one ne same =
    let e : get_or labels v 0 ≡ r = ap (λ (k : ℕ). get_or labels k 0) same ∙ at in
    ⊎_elim (λ (h : get_or labels v 0 ≡ q). ne (sym h ∙ e)) (λ (h : get_or labels v 0 ≡ 0). absurd (omega (arith, h, e, one))) has

-- as a region is split, t owns its label
pub around : (n : ℕ) (labels : List ℕ) (region t fresh : ℕ) → AreNumbered n labels fresh → t ≤ n → get_or labels t 0 ≡ region → 1 ≤ region → AreNumberedAround n labels region t fresh
around n labels region t fresh h to_n at one =
    let below : region < fresh = omega (arith, h.below t, at) in
    let free = λ (q : ℕ) (l : q < fresh) (ne : q ≢ region). not_owner labels q (h.owner q) t region (h.owns q l) at one ne in
    record {
      below = h.below;
      owner = redirect h.owner region t;
      to_n = λ q l. ⊎_elim
          (λ (e : q ≡ region). omega (arith, redirect_at h.owner region t q e, to_n))
          (λ (ne : q ≢ region). omega (arith, redirect_off h.owner region t q ne, h.to_n q l))
          (cases_eq q region);
      of_region = redirect_at h.owner region t region refl;
      owns = λ q l ne. let e = redirect_off h.owner region t q ne in
          ⊎_elim
          (λ (k : get_or labels (h.owner q) 0 ≡ q). inl (ap (λ (v : ℕ). get_or labels v 0) e ∙ k))
          (λ (k : get_or labels (h.owner q) 0 ≡ 0). inr (ap (λ (v : ℕ). get_or labels v 0) e ∙ k))
          (h.owns q l);
      apart = λ p q lp lq. redirect_apart h.owner fresh region t h.apart free p q (λ ne. lp) (λ ne. lq);
    }

-- vertices that enter meanwhile
pub around_lowered : (n : ℕ) (labels labels' : List ℕ) (region t fresh : ℕ) → AreNumberedAround n labels region t fresh → IsLowered labels labels' → AreNumberedAround n labels' region t fresh
around_lowered n labels labels' region t fresh h low = record {
  below = lowered_below labels labels' fresh low h.below;
  owner = h.owner;
  to_n = h.to_n;
  of_region = h.of_region;
  owns = λ q l ne. lowered_owns labels labels' q (h.owner q) low (h.owns q l ne);
  apart = h.apart;
}

-- some vertices of the region get the fresh label, one of them not t
pub around_fresh : (n : ℕ) (labels labels' : List ℕ) (region t fresh w : ℕ) → AreNumberedAround n labels region t fresh → 1 ≤ region → region < fresh →
    ((v : ℕ) → (get_or labels' v 0 ≡ get_or labels v 0) ⊎ ((get_or labels' v 0 ≡ fresh) × (get_or labels v 0 ≡ region))) →
    w ≤ n → w ≢ t → get_or labels w 0 ≡ region → get_or labels' w 0 ≡ fresh → AreNumberedAround n labels' region t (fresh + 1)
around_fresh n labels labels' region t fresh w h one below change to_n other old new =
    let free = λ (q : ℕ) (l : q < fresh) (ne : q ≢ fresh). ⊎_elim
    (λ (e : q ≡ region). let r : h.owner q ≢ w = (λ d. other (sym d ∙ ap h.owner e ∙ h.of_region)) in r)
    (λ (no : q ≢ region). not_owner labels q (h.owner q) w region (h.owns q l no) old one no)
    (cases_eq q region) in
    let before = λ (q : ℕ) (l : q < fresh + 1) (ne : q ≢ fresh). (let r : q < fresh = omega (arith, l, ne) in r) in
    let stays = λ (q : ℕ) (v : ℕ) (ne : q ≢ region) (has : (get_or labels v 0 ≡ q) ⊎ (get_or labels v 0 ≡ 0)). (
    let r : (get_or labels' v 0 ≡ q) ⊎ (get_or labels' v 0 ≡ 0) = ⊎_elim
    (λ (e : get_or labels' v 0 ≡ get_or labels v 0). ⊎_elim (λ (k : get_or labels v 0 ≡ q). inl (e ∙ k)) (λ (k : get_or labels v 0 ≡ 0). inr (e ∙ k)) has)
    (λ (d : (get_or labels' v 0 ≡ fresh) × (get_or labels v 0 ≡ region)). absurd (⊎_elim
    (λ (k : get_or labels v 0 ≡ q). ne (sym k ∙ d.1))
    (λ (k : get_or labels v 0 ≡ 0). let z : ⊥ = omega (arith, d.1, k, one) in z) has))
    (change v) in r) in
    record {
      below = λ v. ⊎_elim
          (λ (e : get_or labels' v 0 ≡ get_or labels v 0). omega (arith, e, h.below v))
          (λ (d : (get_or labels' v 0 ≡ fresh) × (get_or labels v 0 ≡ region)). omega (arith, d.0))
          (change v);
      owner = redirect h.owner fresh w;
      to_n = λ q l. ⊎_elim
          (λ (e : q ≡ fresh). omega (arith, redirect_at h.owner fresh w q e, to_n))
          (λ (ne : q ≢ fresh). omega (arith, redirect_off h.owner fresh w q ne, h.to_n q (before q l ne)))
          (cases_eq q fresh);
      of_region = let ne : region ≢ fresh = λ e. absurd (omega (arith, e, below)) in redirect_off h.owner fresh w region ne ∙ h.of_region;
      owns = λ q l ne. ⊎_elim
          (λ (e : q ≡ fresh). inl (ap (λ (v : ℕ). get_or labels' v 0) (redirect_at h.owner fresh w q e) ∙ new ∙ sym e))
          (λ (no : q ≢ fresh). let e = redirect_off h.owner fresh w q no in
          ⊎_elim
          (λ (k : get_or labels' (h.owner q) 0 ≡ q). inl (ap (λ (v : ℕ). get_or labels' v 0) e ∙ k))
          (λ (k : get_or labels' (h.owner q) 0 ≡ 0). inr (ap (λ (v : ℕ). get_or labels' v 0) e ∙ k))
          (stays q (h.owner q) ne (h.owns q (before q l no) ne)))
          (cases_eq q fresh);
      apart = λ p q lp lq. redirect_apart h.owner fresh fresh w h.apart free p q (before p lp) (before q lq);
    }

-- the next fresh label fits meanwhile
pub around_fits : (n : ℕ) (labels : List ℕ) (region t fresh : ℕ) → AreNumberedAround n labels region t fresh → fresh ≤ n + 1
around_fits n labels region t fresh h = few fresh (n + 1) h.owner (λ q l. omega (arith, h.to_n q l)) h.apart

-- t enters last
pub around_end : (n : ℕ) (labels : List ℕ) (region t fresh : ℕ) → AreNumberedAround n labels region t fresh → get_or labels t 0 ≡ 0 → AreNumbered n labels fresh
around_end n labels region t fresh h entered = record {
  below = h.below;
  owner = h.owner;
  to_n = h.to_n;
  owns = λ q l. ⊎_elim
      (λ (e : q ≡ region). inr (ap (λ (v : ℕ). get_or labels v 0) (ap h.owner e ∙ h.of_region) ∙ entered))
      (λ ne. h.owns q l ne)
      (cases_eq q region);
  apart = h.apart;
}
