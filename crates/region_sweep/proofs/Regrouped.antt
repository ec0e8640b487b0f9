-- A region whose parts are placed, after its vertex t has entered.
use Rattle.std.proofs.Common.{◌≡◌, ℕ, ◌<◌, ◌≤◌, ◌⊎◌, inl, inr, ⊎_elim, Bool, eqb, List, length, set, get_or, sym, ◌∙◌, ap, arith}
use Rattle.std.specs.Prelude.{if◌then◌else◌, ◌≢◌}
use Rattle.std.proofs.lemmas.Bool.{cases_eq, eq-eqb, ne_eqb, lt-ltb, le-ltb}
use Rattle.std.proofs.lemmas.List.{get_or-set_same, get_or-set_other, length-set}
use Rattle.node_tree.specs.Homes.{HomesState, AreNumbered, home_of}
use Rattle.node_tree.specs.Hung.{IsPartAlone, IsRegrouped}
use Rattle.region_fronts.specs.Listed.{PartsState, AreListed, part_in}
use Rattle.region_sweep.specs.Regrouping.{AreNumberedAround, KeepsLengths, IsAmong, ArePlaced}
use Rattle.node_tree.specs.Sweeping.{IsFiner}
use Rattle.region_sweep.proofs.Labelling.{around_lowered, around_end}
use Rattle.region_sweep.proofs.Regrouping.{home_entered, home_outside, home_same}

-- ---- the number of a part

-- the part of a vertex that is listed
part_listed : (p : PartsState) (labels : List ℕ) (region v : ℕ) → 1 ≤ get_or p.numbers v 0 → part_in p labels region v ≡ get_or p.numbers v 0
part_listed p labels region v one =
    let k = get_or p.numbers v 0 in
    ap (λ (b : Bool). if b then k else (if eqb (get_or labels v 0) region then p.unlisted else 1)) (lt-ltb 0 k (omega (arith, one)))

-- of one that is not listed
part_other : (p : PartsState) (labels : List ℕ) (region v : ℕ) → get_or p.numbers v 0 ≡ 0 → part_in p labels region v ≡ (if eqb (get_or labels v 0) region then p.unlisted else 1)
part_other p labels region v none =
    let k = get_or p.numbers v 0 in
    ap (λ (b : Bool). if b then k else (if eqb (get_or labels v 0) region then p.unlisted else 1)) (le-ltb 0 k (omega (arith, none)))

-- in the region
part_unlisted : (p : PartsState) (labels : List ℕ) (region v : ℕ) → get_or p.numbers v 0 ≡ 0 → get_or labels v 0 ≡ region → part_in p labels region v ≡ p.unlisted
part_unlisted p labels region v none here =
    part_other p labels region v none ∙ ap (λ (b : Bool). if b then p.unlisted else 1) (eq-eqb (get_or labels v 0) region here)

-- outside it
part_outside : (p : PartsState) (labels : List ℕ) (region v : ℕ) → get_or p.numbers v 0 ≡ 0 → get_or labels v 0 ≢ region → part_in p labels region v ≡ 1
part_outside p labels region v none off =
    part_other p labels region v none ∙ ap (λ (b : Bool). if b then p.unlisted else 1) (ne_eqb (get_or labels v 0) region off)

-- a vertex is listed, or in the rest of the region, or outside it
listed_cases : (p : PartsState) (v : ℕ) → (1 ≤ get_or p.numbers v 0) ⊎ (get_or p.numbers v 0 ≡ 0)
listed_cases p v = ⊎_elim (λ (e : get_or p.numbers v 0 ≡ 0). inr e) (λ (ne : get_or p.numbers v 0 ≢ 0). inl (omega (arith, ne))) (cases_eq (get_or p.numbers v 0) 0)

-- t is in the last part, so its number is no other
pub last_number : (n : ℕ) (labels : List ℕ) (region t : ℕ) (p : PartsState) → AreListed n labels region p → part_in p labels region t ≡ p.count → 1 ≤ get_or p.numbers t 0 → get_or p.numbers t 0 ≡ p.count
last_number n labels region t p listed last one = sym (part_listed p labels region t one) ∙ last

-- t is in the last part, so its number is not that of the first
pub not_first : (n : ℕ) (labels : List ℕ) (region t i : ℕ) (p : PartsState) → AreListed n labels region p → part_in p labels region t ≡ p.count → i ≡ 1 → get_or p.numbers t 0 ≢ i
not_first n labels region t i p listed last e d =
    let k = last_number n labels region t p listed last (omega (arith, d, e)) in
    absurd (omega (arith, listed.two, k, d, e))

-- ---- the split

-- t entered, and nothing else changed
pub record HasEntered (labels labels' : List ℕ) (t : ℕ) : Type 0 where
  pub entered : get_or labels' t 0 ≡ 0
  pub kept : (v : ℕ) → v ≢ t → get_or labels' v 0 ≡ get_or labels v 0

-- a region, its parts as listed, the labels before, with the parts placed, and after t entered
pub record IsSplit (n : ℕ) (labels labels' labels'' : List ℕ) (h h' : HomesState) (nodes : List ℕ) (region t fresh next : ℕ) (p : PartsState) : Type 0 where
  pub outside : 1 ≤ region
  pub label : get_or labels t 0 ≡ region
  pub listed : AreListed n labels region p
  pub last : part_in p labels region t ≡ p.count
  pub below : (v : ℕ) → get_or labels v 0 < fresh
  pub placed : ArePlaced p.numbers labels labels' h h' nodes p.count fresh next
  pub end : HasEntered labels' labels'' t

module _ (n : ℕ) (labels labels' labels'' : List ℕ) (h h' : HomesState) (nodes : List ℕ) (region t fresh next : ℕ) (p : PartsState) (s : IsSplit n labels labels' labels'' h h' nodes region t fresh next p) where
  abbrev part : ℕ → ℕ
  part = part_in p labels region

  among : (v : ℕ) → 1 ≤ get_or p.numbers v 0 → IsAmong p.numbers p.count v
  among v one = record { listed = one; early = s.listed.to_count v }

  not_among : (v : ℕ) → get_or p.numbers v 0 ≡ 0 → ¬ IsAmong p.numbers p.count v
  not_among v none a = omega (arith, a.listed, none)

  -- a vertex outside the region is not listed
  not_listed : (v : ℕ) → get_or labels v 0 ≢ region → get_or p.numbers v 0 ≡ 0
  not_listed v off = ⊎_elim
      (λ (one : 1 ≤ get_or p.numbers v 0). absurd (off (s.listed.inside v one)))
      (λ (none : get_or p.numbers v 0 ≡ 0). none)
      (listed_cases p v)

  not_t : (v : ℕ) → get_or labels v 0 ≢ region → v ≢ t
  not_t v off e = off (ap (λ (k : ℕ). get_or labels k 0) e ∙ s.label)

  -- a vertex with a label is not t
  not_entered : (v : ℕ) → 1 ≤ get_or labels'' v 0 → v ≢ t
  not_entered v one e =
      let z : get_or labels'' v 0 ≡ 0 = ap (λ (k : ℕ). get_or labels'' k 0) e ∙ s.end.entered in
      omega (arith, z, one)

  -- what is not listed keeps its label, but for t
  rest_kept : (v : ℕ) → v ≢ t → get_or p.numbers v 0 ≡ 0 → get_or labels'' v 0 ≡ get_or labels v 0
  rest_kept v ne none = s.end.kept v ne ∙ s.placed.kept v (not_among v none)

  outside_kept : (v : ℕ) → get_or labels v 0 ≢ region → get_or labels'' v 0 ≡ get_or labels v 0
  outside_kept v off = rest_kept v (not_t v off) (not_listed v off)

  -- a listed part is not the one that is not listed
  part_differs : (u v : ℕ) → 1 ≤ get_or p.numbers u 0 → get_or p.numbers v 0 ≡ 0 → get_or labels v 0 ≡ region → part u ≢ part v
  part_differs u v one none here e =
      let same : get_or p.numbers u 0 ≡ p.unlisted = sym (part_listed p labels region u one) ∙ e ∙ part_unlisted p labels region v none here in
      s.listed.not_unlisted u (omega (arith, same, one)) same

  number_same : (u v : ℕ) → 1 ≤ get_or p.numbers u 0 → 1 ≤ get_or p.numbers v 0 → part u ≡ part v → get_or p.numbers u 0 ≡ get_or p.numbers v 0
  number_same u v one other e = sym (part_listed p labels region u one) ∙ e ∙ part_listed p labels region v other

  shared : (u v : ℕ) → get_or labels u 0 ≡ region → get_or labels v 0 ≡ region → part u ≡ part v → 1 ≤ get_or labels'' u 0 → 1 ≤ get_or labels'' v 0 → get_or labels'' u 0 ≡ get_or labels'' v 0
  shared u v hu hv e one other =
      let nu = not_entered u one in
      let nv = not_entered v other in
      ⊎_elim
      (λ (lu : 1 ≤ get_or p.numbers u 0). ⊎_elim
      (λ (lv : 1 ≤ get_or p.numbers v 0). s.end.kept u nu ∙ s.placed.shared u v (among u lu) (number_same u v lu lv e) ∙ sym (s.end.kept v nv))
      (λ (zv : get_or p.numbers v 0 ≡ 0). absurd (part_differs u v lu zv hv e))
      (listed_cases p v))
      (λ (zu : get_or p.numbers u 0 ≡ 0). ⊎_elim
      (λ (lv : 1 ≤ get_or p.numbers v 0). absurd (part_differs v u lv zu hu (sym e)))
      (λ (zv : get_or p.numbers v 0 ≡ 0). rest_kept u nu zu ∙ hu ∙ sym hv ∙ sym (rest_kept v nv zv))
      (listed_cases p v))
      (listed_cases p u)

  -- what has the number of the last part is t, if it is alone in its part
  not_in_last : (v : ℕ) → v ≢ t → 1 ≤ get_or p.numbers v 0 → ((u : ℕ) → get_or p.numbers u 0 ≡ get_or p.numbers v 0 → u ≡ v) → get_or p.numbers v 0 ≢ p.count
  not_in_last v ne one alone e = ⊎_elim
      (λ (lt : 1 ≤ get_or p.numbers t 0). ne (sym (alone t (last_number n labels region t p s.listed s.last lt ∙ sym e))))
      (λ (zt : get_or p.numbers t 0 ≡ 0). part_differs v t one zt s.label (part_listed p labels region v one ∙ e ∙ sym s.last))
      (listed_cases p t)

  entered : (v : ℕ) → get_or labels v 0 ≡ region → get_or labels'' v 0 ≡ 0 → v ≢ t → IsPartAlone n p.count part v
  entered v hv z ne =
      let one : 1 ≤ get_or p.numbers v 0 = ⊎_elim
      (λ (l : 1 ≤ get_or p.numbers v 0). l)
      (λ (none : get_or p.numbers v 0 ≡ 0). absurd (omega (arith, rest_kept v ne none, z, hv, s.outside)))
      (listed_cases p v) in
      let alone = s.placed.alone v (among v one) (sym (s.end.kept v ne) ∙ z) in
      let number = part_listed p labels region v one in
      record {
        inner = omega (arith, number, s.listed.to_count v, not_in_last v ne one alone.1);
        from_two = omega (arith, number, alone.0);
        alone = λ u u1 un e. ⊎_elim
            (λ (lu : 1 ≤ get_or p.numbers u 0). alone.1 u (number_same u v lu one e))
            (λ (zu : get_or p.numbers u 0 ≡ 0). let r : u ≡ v = absurd (⊎_elim
            (λ (hu : get_or labels u 0 ≡ region). part_differs v u one zu hu (sym e))
            (λ (off : get_or labels u 0 ≢ region). let k = part_outside p labels region u zu off in let r : ⊥ = omega (arith, k, e, number, alone.0) in r)
            (cases_eq (get_or labels u 0) region)) in r)
            (listed_cases p u);
      }

  pub is_regrouped : IsRegrouped n labels labels'' region t p.count part
  is_regrouped = record {
    kept = λ v v1 vn off. outside_kept v off;
    shared = λ u v u1 un v1 vn. shared u v;
    entered = λ v v1 vn hv z. ⊎_elim (λ (e : v ≡ t). inl e) (λ ne. inr (entered v hv z ne)) (cases_eq v t);
  }

  -- what has a new label is not labelled as what is not listed
  new_differs : (u v : ℕ) → u ≢ t → v ≢ t → 1 ≤ get_or p.numbers u 0 → get_or p.numbers v 0 ≡ 0 → 1 ≤ get_or labels'' u 0 → get_or labels'' u 0 ≢ get_or labels'' v 0
  new_differs u v nu nv lu zv one e =
      let k = s.end.kept u nu in
      omega (arith, k, e, (s.placed.new u (among u lu) (omega (arith, k, one))).0, rest_kept v nv zv, s.below v)

  rest_same : (u v : ℕ) → get_or p.numbers u 0 ≡ 0 → get_or p.numbers v 0 ≡ 0 → get_or labels u 0 ≡ get_or labels v 0 → part u ≡ part v
  rest_same u v zu zv e =
      part_other p labels region u zu ∙ ap (λ (l : ℕ). if eqb l region then p.unlisted else 1) e ∙ sym (part_other p labels region v zv)

  pub is_finer : IsFiner n labels labels'' part
  is_finer u v u1 un v1 vn one e =
      let nu = not_entered u one in
      let nv = not_entered v (omega (arith, one, e)) in
      ⊎_elim
      (λ (lu : 1 ≤ get_or p.numbers u 0). ⊎_elim
      (λ (lv : 1 ≤ get_or p.numbers v 0).
      let ku = s.end.kept u nu in
      let same = s.placed.apart u v (among u lu) (among v lv) (omega (arith, ku, one)) (sym ku ∙ e ∙ s.end.kept v nv) in
      let r : (get_or labels u 0 ≡ get_or labels v 0) × (part u ≡ part v) =
      (s.listed.inside u lu ∙ sym (s.listed.inside v lv), part_listed p labels region u lu ∙ same ∙ sym (part_listed p labels region v lv)) in r)
      (λ (zv : get_or p.numbers v 0 ≡ 0). absurd (new_differs u v nu nv lu zv one e))
      (listed_cases p v))
      (λ (zu : get_or p.numbers u 0 ≡ 0). ⊎_elim
      (λ (lv : 1 ≤ get_or p.numbers v 0). absurd (new_differs v u nv nu lv zu (omega (arith, one, e)) (sym e)))
      (λ (zv : get_or p.numbers v 0 ≡ 0).
      let same : get_or labels u 0 ≡ get_or labels v 0 = sym (rest_kept u nu zu) ∙ e ∙ rest_kept v nv zv in
      let r : (get_or labels u 0 ≡ get_or labels v 0) × (part u ≡ part v) = (same, rest_same u v zu zv same) in r)
      (listed_cases p v))
      (listed_cases p u)

  pub none_returns : (v : ℕ) → get_or labels v 0 ≡ 0 → get_or labels'' v 0 ≡ 0
  none_returns v z = let off : get_or labels v 0 ≢ region = λ e. absurd (omega (arith, z, e, s.outside)) in outside_kept v off ∙ z

  pub is_numbered : AreNumberedAround n labels' region t next → AreNumbered n labels'' next
  is_numbered around = around_end n labels'' region t next (around_lowered n labels' labels'' region t next around (λ v. ⊎_elim
      (λ (e : v ≡ t). inr (ap (λ (k : ℕ). get_or labels'' k 0) e ∙ s.end.entered))
      (λ ne. inl (s.end.kept v ne))
      (cases_eq v t))) s.end.entered

  -- the homes, once the region and t have theirs
  abbrev pub homes_after : HomesState
  homes_after = record { entered = set h'.entered t (get_or nodes p.count 0); regions = set h'.regions region (get_or nodes p.unlisted 0) }

  region_below : region < fresh
  region_below = omega (arith, s.below t, s.label)

  -- the home of what is not t and not in the rest of the region is that of its part
  home_placed : (v : ℕ) → v ≢ t → get_or labels' v 0 ≢ region → home_of homes_after labels'' v ≡ home_of h' labels' v
  home_placed v ne off = home_same h' homes_after labels' labels'' v (s.end.kept v ne) (get_or-set_other h'.entered t v (get_or nodes p.count 0) 0 ne)
      (get_or-set_other h'.regions region (get_or labels' v 0) (get_or nodes p.unlisted 0) 0 off)

  home_inside : (v : ℕ) → t < length h'.entered → region < length h'.regions → get_or labels v 0 ≡ region → home_of homes_after labels'' v ≡ get_or nodes (part v) 0
  home_inside v room size hv = ⊎_elim
      (λ (e : v ≡ t).
      home_entered homes_after labels'' v (ap (λ (k : ℕ). get_or labels'' k 0) e ∙ s.end.entered)
      ∙ ap (λ (k : ℕ). get_or (set h'.entered t (get_or nodes p.count 0)) k 0) e
      ∙ get_or-set_same h'.entered t (get_or nodes p.count 0) 0 room
      ∙ ap (λ (i : ℕ). get_or nodes i 0) (sym (ap part e ∙ s.last)))
      (λ (ne : v ≢ t). ⊎_elim
      (λ (lv : 1 ≤ get_or p.numbers v 0).
      let off : get_or labels' v 0 ≢ region = λ e. absurd (omega (arith, e, s.outside, (s.placed.new v (among v lv) (omega (arith, e, s.outside))).0, region_below)) in
      home_placed v ne off ∙ s.placed.homes v (among v lv) ∙ ap (λ (i : ℕ). get_or nodes i 0) (sym (part_listed p labels region v lv)))
      (λ (zv : get_or p.numbers v 0 ≡ 0).
      home_outside homes_after labels'' v region (rest_kept v ne zv ∙ hv) s.outside
      ∙ get_or-set_same h'.regions region (get_or nodes p.unlisted 0) 0 size
      ∙ ap (λ (i : ℕ). get_or nodes i 0) (sym (part_unlisted p labels region v zv hv)))
      (listed_cases p v))
      (cases_eq v t)

  home_elsewhere : (v : ℕ) → get_or labels v 0 ≢ region → home_of homes_after labels'' v ≡ home_of h labels v
  home_elsewhere v off =
      let none = not_among v (not_listed v off) in
      let kept = s.placed.kept v none in
      home_placed v (not_t v off) (λ e. off (sym kept ∙ e)) ∙ home_same h h' labels labels' v kept (s.placed.entered_kept v none) (s.placed.regions_kept (get_or labels v 0) (s.below v))

  pub homes_new : t < length h'.entered → region < length h'.regions → (v : ℕ) → home_of homes_after labels'' v ≡ (if eqb (get_or labels v 0) region then get_or nodes (part v) 0 else home_of h labels v)
  homes_new room size v = ⊎_elim
      (λ (e : get_or labels v 0 ≡ region). home_inside v room size e ∙ ap (λ (b : Bool). if b then get_or nodes (part v) 0 else home_of h labels v) (sym (eq-eqb (get_or labels v 0) region e)))
      (λ (ne : get_or labels v 0 ≢ region). home_elsewhere v ne ∙ ap (λ (b : Bool). if b then get_or nodes (part v) 0 else home_of h labels v) (sym (ne_eqb (get_or labels v 0) region ne)))
      (cases_eq (get_or labels v 0) region)

  pub lengths_kept : KeepsLengths h homes_after
  lengths_kept = record {
    entered = length-set h'.entered t (get_or nodes p.count 0) ∙ s.placed.lengths.entered;
    regions = length-set h'.regions region (get_or nodes p.unlisted 0) ∙ s.placed.lengths.regions;
  }
