-- The parts of a region get labels and homes of their own, one after another.
use Rattle.std.proofs.Common.{◌≡◌, ℕ, ◌+◌, ◌<◌, ◌≤◌, ◌⊎◌, inl, inr, ⊎_elim, Bool, true, false, eqb, List, [], ◌∷◌, length, set, get_or, refl, sym, ◌∙◌, ap, subst, arith}
use Rattle.std.specs.Prelude.{if◌then◌else◌, ◌≢◌}
use Rattle.std.proofs.lemmas.Bool.{cases_eq, cases_lt, eq-eqb, ne_eqb, eqb-true, false≢true, or_cases}
use Rattle.std.proofs.lemmas.List.{get_or-set_same, get_or-set_other, length-set}
use Rattle.std.proofs.lemmas.List.Folds.{list_any_at}
use Rattle.cut_definitions.specs.Cuts.{has}
use Rattle.cut_definitions.proofs.ListLaws.{labelled_to_n}
use Rattle.region_flow.specs.CutOff.{MayBeCutOff, relabelled}
use Rattle.node_tree.specs.Homes.{HomesState, home_of}
use Rattle.region_fronts.specs.Listed.{IsPartList}
use Rattle.region_sweep.specs.Regrouping.{AreNumberedAround, IsLarge, IsPlaced, IsAmong, ArePlaced}
use Rattle.region_sweep.proofs.Labelling.{IsLowered, around_lowered, around_fresh}

-- ---- homes

-- the home of a vertex that has entered
pub home_entered : (h : HomesState) (labels : List ℕ) (v : ℕ) → get_or labels v 0 ≡ 0 → home_of h labels v ≡ get_or h.entered v 0
home_entered h labels v e = ap (λ (b : Bool). if b then get_or h.entered v 0 else get_or h.regions (get_or labels v 0) 0) (eq-eqb (get_or labels v 0) 0 e)

-- the home of a vertex in a region
pub home_outside : (h : HomesState) (labels : List ℕ) (v r : ℕ) → get_or labels v 0 ≡ r → 1 ≤ r → home_of h labels v ≡ get_or h.regions r 0
home_outside h labels v r e one =
    let ne : get_or labels v 0 ≢ 0 = λ z. absurd (omega (arith, z, e, one)) in
    ap (λ (b : Bool). if b then get_or h.entered v 0 else get_or h.regions (get_or labels v 0) 0) (ne_eqb (get_or labels v 0) 0 ne) ∙ ap (λ (q : ℕ). get_or h.regions q 0) e

-- what keeps its label and the node of that keeps its home
pub home_same : (h h' : HomesState) (labels labels' : List ℕ) (v : ℕ) → get_or labels' v 0 ≡ get_or labels v 0 → get_or h'.entered v 0 ≡ get_or h.entered v 0 →
    get_or h'.regions (get_or labels v 0) 0 ≡ get_or h.regions (get_or labels v 0) 0 → home_of h' labels' v ≡ home_of h labels v
home_same h h' labels labels' v label entered regions =
    ap (λ (l : ℕ). if eqb l 0 then get_or h'.entered v 0 else get_or h'.regions l 0) label
    ∙ ap (λ (e : ℕ). if eqb (get_or labels v 0) 0 then e else get_or h'.regions (get_or labels v 0) 0) entered
    ∙ ap (λ (r : ℕ). if eqb (get_or labels v 0) 0 then get_or h.entered v 0 else r) regions

-- ---- one part

-- what stands in the list of a part has its number
pub listed_at : (numbers list : List ℕ) (i j d : ℕ) → IsPartList numbers i list → j < length list → get_or numbers (get_or list j d) 0 ≡ i
listed_at numbers list i j d part l =
    let v = get_or list j d in
    eqb-true (get_or numbers v 0) i (sym (part.exact v) ∙ list_any_at (λ u. eqb u v) list j d l (eq-eqb v v refl))

-- the vertices of a part may get the fresh label
pub may_be_cut_off : (numbers labels list : List ℕ) (i region fresh : ℕ) → IsPartList numbers i list → 1 ≤ region → region < fresh →
    ((v : ℕ) → get_or numbers v 0 ≡ i → get_or labels v 0 ≡ region) → ((v : ℕ) → get_or labels v 0 < fresh) → MayBeCutOff labels list region fresh
may_be_cut_off numbers labels list i region fresh part outside below inside new = record {
  outside = outside;
  other = λ e. absurd (omega (arith, e, below));
  inside = λ j d l. inside (get_or list j d) (listed_at numbers list i j d part l);
  apart = part.apart;
  unused = inr (λ v e. absurd (omega (arith, e, new v)));
}

-- a list of one has only its first
only_one : (list : List ℕ) (v : ℕ) → length list ≡ 1 → has list v ≡ true → v ≡ get_or list 0 0
only_one [] v one h = absurd (false≢true h)
only_one (x ∷ []) v one h = ⊎_elim
    (λ (e : eqb x v ≡ true). sym (eqb-true x v e))
    (λ (e : false ≡ true). absurd (false≢true e))
    (or_cases (eqb x v) false h)
only_one (x ∷ (y ∷ ys)) v one h = absurd (omega arith)

is_listed : (numbers list : List ℕ) (i v : ℕ) → IsPartList numbers i list → get_or numbers v 0 ≡ i → has list v ≡ true
is_listed numbers list i v part e = part.exact v ∙ eq-eqb (get_or numbers v 0) i e

is_not_listed : (numbers list : List ℕ) (i v : ℕ) → IsPartList numbers i list → get_or numbers v 0 ≢ i → has list v ≡ false
is_not_listed numbers list i v part ne = part.exact v ∙ ne_eqb (get_or numbers v 0) i ne

-- the only vertex of a part enters
pub place_entered : (numbers labels labels' list : List ℕ) (h : HomesState) (i node fresh : ℕ) → IsPartList numbers i list → ((v : ℕ) → get_or labels' v 0 ≡ relabelled labels list 0 v) →
    length list ≡ 1 → 2 ≤ i → get_or list 0 0 < length h.entered →
    IsPlaced numbers labels labels' h (record { entered = set h.entered (get_or list 0 0) node; regions = h.regions }) i node fresh fresh
place_entered numbers labels labels' list h i node fresh part is one two room =
    let w = get_or list 0 0 in
    let h' : HomesState = record { entered = set h.entered w node; regions = h.regions } in
    let there = listed_at numbers list i 0 0 part (omega (arith, one)) in
    let only = λ (v : ℕ) (e : get_or numbers v 0 ≡ i). only_one list v one (is_listed numbers list i v part e) in
    let given = λ (v : ℕ) (e : get_or numbers v 0 ≡ i). (
    let r : get_or labels' v 0 ≡ 0 = is v ∙ ap (λ (b : Bool). if b then 0 else get_or labels v 0) (is_listed numbers list i v part e) in r) in
    record {
      label = 0;
      which = inl (refl, refl);
      given = given;
      kept = λ v ne. is v ∙ ap (λ (b : Bool). if b then 0 else get_or labels v 0) (is_not_listed numbers list i v part ne);
      alone = λ z u v eu ev. (two, only u eu ∙ sym (only v ev));
      homes = λ v e. home_entered h' labels' v (given v e) ∙ ap (λ (k : ℕ). get_or (set h.entered w node) k 0) (only v e) ∙ get_or-set_same h.entered w node 0 room;
      entered_kept = λ v ne. let apart : v ≢ w = λ e. ne (ap (λ (k : ℕ). get_or numbers k 0) e ∙ there) in get_or-set_other h.entered w v node 0 apart;
      regions_kept = λ q ne. refl;
      lengths = record { entered = length-set h.entered w node; regions = refl };
    }

-- a part gets the fresh label
pub place_fresh : (numbers labels labels' list : List ℕ) (h : HomesState) (i node fresh : ℕ) → IsPartList numbers i list → ((v : ℕ) → get_or labels' v 0 ≡ relabelled labels list fresh v) →
    1 ≤ length list → (2 ≤ i → 2 ≤ length list) → 1 ≤ fresh → fresh < length h.regions →
    IsPlaced numbers labels labels' h (record { entered = h.entered; regions = set h.regions fresh node }) i node fresh (fresh + 1)
place_fresh numbers labels labels' list h i node fresh part is some two one room =
    let h' : HomesState = record { entered = h.entered; regions = set h.regions fresh node } in
    let given = λ (v : ℕ) (e : get_or numbers v 0 ≡ i). (
    let r : get_or labels' v 0 ≡ fresh = is v ∙ ap (λ (b : Bool). if b then fresh else get_or labels v 0) (is_listed numbers list i v part e) in r) in
    let last : (j : ℕ) × (j < length list) × (2 ≤ i → 1 ≤ j) = ⊎_elim
    (λ (l : i < 2). (0, omega arith, λ g. absurd (omega (arith, l, g))))
    (λ (l : 2 ≤ i). (1, two l, λ g. omega arith))
    (cases_lt i 2) in
    record {
      label = fresh;
      which = inr (
        refl,
        refl,
        record {
          vertex = get_or list 0 0;
          other = get_or list last.0 0;
          has_vertex = listed_at numbers list i 0 0 part some;
          has_other = listed_at numbers list i last.0 0 part last.1;
          apart = λ g. part.apart 0 last.0 0 (last.2 g) last.1;
        },
      );
      given = given;
      kept = λ v ne. is v ∙ ap (λ (b : Bool). if b then fresh else get_or labels v 0) (is_not_listed numbers list i v part ne);
      alone = λ z u v eu ev. absurd (omega (arith, z, one));
      homes = λ v e. home_outside h' labels' v fresh (given v e) one ∙ get_or-set_same h.regions fresh node 0 room;
      entered_kept = λ v ne. refl;
      regions_kept = λ q ne. get_or-set_other h.regions fresh q node 0 ne;
      lengths = record { entered = refl; regions = length-set h.regions fresh node };
    }

-- ---- one part more

-- a vertex of one part more is in that part or was among the first
among_cases : (numbers : List ℕ) (done v : ℕ) → IsAmong numbers (done + 1) v → (get_or numbers v 0 ≡ done + 1) ⊎ IsAmong numbers done v
among_cases numbers done v a = ⊎_elim
    (λ (e : get_or numbers v 0 ≡ done + 1). inl e)
    (λ ne. inr (record { listed = a.listed; early = omega (arith, a.early, ne) }))
    (cases_eq (get_or numbers v 0) (done + 1))

not_last : (numbers : List ℕ) (done v : ℕ) → IsAmong numbers done v → get_or numbers v 0 ≢ done + 1
not_last numbers done v a e = absurd (omega (arith, a.early, e))

last_among : (numbers : List ℕ) (done v : ℕ) → get_or numbers v 0 ≡ done + 1 → IsAmong numbers (done + 1) v
last_among numbers done v e = record { listed = omega (arith, e); early = omega (arith, e) }

more_among : (numbers : List ℕ) (done v : ℕ) → IsAmong numbers done v → IsAmong numbers (done + 1) v
more_among numbers done v a = record { listed = a.listed; early = omega (arith, a.early) }

-- before the first part
pub none_placed : (numbers labels : List ℕ) (h : HomesState) (nodes : List ℕ) (first : ℕ) → ArePlaced numbers labels labels h h nodes 0 first first
none_placed numbers labels h nodes first =
    let none = λ (v : ℕ) (a : IsAmong numbers 0 v). (let r : ⊥ = omega (arith, a.listed, a.early) in r) in
    record {
      kept = λ v no. refl;
      shared = λ u v a e. absurd (none u a);
      apart = λ u v a b one e. absurd (none u a);
      new = λ v a one. absurd (none v a);
      more = omega arith;
      alone = λ v a z. absurd (none v a);
      homes = λ v a. absurd (none v a);
      entered_kept = λ v no. refl;
      regions_kept = λ q l. refl;
      lengths = record { entered = refl; regions = refl };
    }

-- the label of the last part is the fresh one or 0
fresh_label : (numbers labels labels' : List ℕ) (h h' : HomesState) (i node fresh next : ℕ) → IsPlaced numbers labels labels' h h' i node fresh next →
    (v : ℕ) → get_or numbers v 0 ≡ i → 1 ≤ get_or labels' v 0 → (get_or labels' v 0 ≡ fresh) × (next ≡ fresh + 1)
fresh_label numbers labels labels' h h' i node fresh next s v e one =
    let given = s.given v e in
    ⊎_elim
    (λ (k : (s.label ≡ 0) × (next ≡ fresh)). absurd (omega (arith, given, k.0, one)))
    (λ (k : (s.label ≡ fresh) × (next ≡ fresh + 1) × IsLarge numbers i). (given ∙ k.0, k.1))
    s.which

-- the next fresh label is no lesser
next_more : (numbers labels labels' : List ℕ) (h h' : HomesState) (i node fresh next : ℕ) → IsPlaced numbers labels labels' h h' i node fresh next → fresh ≤ next
next_more numbers labels labels' h h' i node fresh next s =
    ⊎_elim
    (λ (k : (s.label ≡ 0) × (next ≡ fresh)). omega (arith, k.1))
    (λ (k : (s.label ≡ fresh) × (next ≡ fresh + 1) × IsLarge numbers i). omega (arith, k.1))
    s.which

-- the first parts and one more
pub one_placed : (numbers labels labels' labels'' : List ℕ) (h h' h'' : HomesState) (nodes : List ℕ) (done first fresh next : ℕ) → 1 ≤ first → ((v : ℕ) → get_or labels v 0 < first) →
    ArePlaced numbers labels labels' h h' nodes done first fresh → IsPlaced numbers labels' labels'' h' h'' (done + 1) (get_or nodes (done + 1) 0) fresh next →
    ArePlaced numbers labels labels'' h h'' nodes (done + 1) first next
one_placed numbers labels labels' labels'' h h' h'' nodes done first fresh next one below p s =
    let number = λ (v : ℕ). get_or numbers v 0 in
    let stays = λ (v : ℕ) (a : IsAmong numbers done v). s.kept v (not_last numbers done v a) in
    let new = λ (v : ℕ) (e : number v ≡ done + 1) (l : 1 ≤ get_or labels'' v 0). fresh_label numbers labels' labels'' h' h'' (done + 1) (get_or nodes (done + 1) 0) fresh next s v e l in
    let more = next_more numbers labels' labels'' h' h'' (done + 1) (get_or nodes (done + 1) 0) fresh next s in
    let differ = λ (u v : ℕ) (e : number u ≡ done + 1) (b : IsAmong numbers done v) (l : 1 ≤ get_or labels'' u 0) (d : get_or labels'' u 0 ≡ get_or labels'' v 0). (
    let k = stays v b in
    let at = (new u e l).0 in
    let low = (p.new v b (omega (arith, k, l, d))).1 in
    let r : ⊥ = omega (arith, at, low, k, d) in r) in
    record {
      kept = λ v no. s.kept v (λ e. no (last_among numbers done v e)) ∙ p.kept v (λ a. no (more_among numbers done v a));
      shared = λ u v a e. ⊎_elim
          (λ (l : number u ≡ done + 1). s.given u l ∙ sym (s.given v (sym e ∙ l)))
          (λ (b : IsAmong numbers done u). stays u b ∙ p.shared u v b e ∙ sym (s.kept v (λ l. not_last numbers done u b (e ∙ l))))
          (among_cases numbers done u a);
      apart = λ u v a b l d. ⊎_elim
          (λ (e : number u ≡ done + 1). ⊎_elim
          (λ (f : number v ≡ done + 1). e ∙ sym f)
          (λ (c : IsAmong numbers done v). let r : number u ≡ number v = absurd (differ u v e c l d) in r)
          (among_cases numbers done v b))
          (λ (c : IsAmong numbers done u). ⊎_elim
          (λ (f : number v ≡ done + 1). let r : number u ≡ number v = absurd (differ v u f c (omega (arith, l, d)) (sym d)) in r)
          (λ (e : IsAmong numbers done v). let k = stays u c in p.apart u v c e (omega (arith, k, l)) (sym k ∙ d ∙ stays v e))
          (among_cases numbers done v b))
          (among_cases numbers done u a);
      new = λ v a l. ⊎_elim
          (λ (e : number v ≡ done + 1). let k = new v e l in let r : (first ≤ get_or labels'' v 0) × (get_or labels'' v 0 < next) = (omega (arith, k.0, p.more), omega (arith, k.0, k.1)) in r)
          (λ (b : IsAmong numbers done v). let k = stays v b in let d = p.new v b (omega (arith, k, l)) in
          let r : (first ≤ get_or labels'' v 0) × (get_or labels'' v 0 < next) = (omega (arith, k, d.0), omega (arith, k, d.1, more)) in r)
          (among_cases numbers done v a);
      more = omega (arith, p.more, more);
      alone = λ v a z. ⊎_elim
          (λ (e : number v ≡ done + 1). let zero_label : s.label ≡ 0 = sym (s.given v e) ∙ z in
          let r : (2 ≤ number v) × ((u : ℕ) → number u ≡ number v → u ≡ v) = (omega (arith, e, (s.alone zero_label v v e e).0), λ u d. (s.alone zero_label u v (d ∙ e) e).1) in r)
          (λ (b : IsAmong numbers done v). p.alone v b (sym (stays v b) ∙ z))
          (among_cases numbers done v a);
      homes = λ v a. ⊎_elim
          (λ (e : number v ≡ done + 1). s.homes v e ∙ ap (λ (k : ℕ). get_or nodes k 0) (sym e))
          (λ (b : IsAmong numbers done v).
          let off = not_last numbers done v b in
          let old : get_or labels' v 0 ≢ fresh = λ e. absurd (omega (arith, (p.new v b (omega (arith, e, one, p.more))).1, e)) in
          home_same h' h'' labels' labels'' v (stays v b) (s.entered_kept v off) (s.regions_kept (get_or labels' v 0) old) ∙ p.homes v b)
          (among_cases numbers done v a);
      entered_kept = λ v no. s.entered_kept v (λ e. no (last_among numbers done v e)) ∙ p.entered_kept v (λ a. no (more_among numbers done v a));
      regions_kept = λ q l. let old : q ≢ fresh = λ e. absurd (omega (arith, e, l, p.more)) in s.regions_kept q old ∙ p.regions_kept q l;
      lengths = record { entered = s.lengths.entered ∙ p.lengths.entered; regions = s.lengths.regions ∙ p.lengths.regions };
    }

-- a large part has a vertex other than t
other_vertex : (numbers : List ℕ) (i t : ℕ) → IsLarge numbers i → 1 ≤ i → (i ≡ 1 → get_or numbers t 0 ≢ i) → (w : ℕ) × (get_or numbers w 0 ≡ i) × (w ≢ t)
other_vertex numbers i t large one first = ⊎_elim
    (λ (e : large.vertex ≡ t).
    let there : get_or numbers t 0 ≡ i = ap (λ (k : ℕ). get_or numbers k 0) (sym e) ∙ large.has_vertex in
    let ne : i ≢ 1 = λ d. first d there in
    (large.other, large.has_other, λ d. large.apart (omega (arith, ne, one)) (e ∙ sym d)))
    (λ ne. (large.vertex, large.has_vertex, ne))
    (cases_eq large.vertex t)

-- one part more keeps the numbering
pub one_numbered : (n : ℕ) (numbers labels labels' : List ℕ) (h h' : HomesState) (i node region t fresh next : ℕ) → AreNumberedAround n labels region t fresh →
    IsPlaced numbers labels labels' h h' i node fresh next → length numbers ≡ n + 1 → 1 ≤ i → (i ≡ 1 → get_or numbers t 0 ≢ i) → 1 ≤ region → region < fresh →
    ((v : ℕ) → get_or numbers v 0 ≡ i → get_or labels v 0 ≡ region) → AreNumberedAround n labels' region t next
one_numbered n numbers labels labels' h h' i node region t fresh next around s long one first outside below inside =
    ⊎_elim
    (λ (k : (s.label ≡ 0) × (next ≡ fresh)).
    let low : IsLowered labels labels' = λ v. ⊎_elim
    (λ (e : get_or numbers v 0 ≡ i). inr (s.given v e ∙ k.0))
    (λ ne. inl (s.kept v ne))
    (cases_eq (get_or numbers v 0) i) in
    subst (λ (f : ℕ). AreNumberedAround n labels' region t f) (sym k.1) (around_lowered n labels labels' region t fresh around low))
    (λ (k : (s.label ≡ fresh) × (next ≡ fresh + 1) × IsLarge numbers i).
    let w = other_vertex numbers i t k.2 one first in
    let change : (v : ℕ) → (get_or labels' v 0 ≡ get_or labels v 0) ⊎ ((get_or labels' v 0 ≡ fresh) × (get_or labels v 0 ≡ region)) = λ v. ⊎_elim
    (λ (e : get_or numbers v 0 ≡ i). inr (s.given v e ∙ k.0, inside v e))
    (λ ne. inl (s.kept v ne))
    (cases_eq (get_or numbers v 0) i) in
    subst (λ (f : ℕ). AreNumberedAround n labels' region t f) (sym k.1)
    (around_fresh n labels labels' region t fresh w.0 around outside below change (labelled_to_n numbers n w.0 long (omega (arith, w.1, one))) w.2 (inside w.0 w.1) (s.given w.0 w.1 ∙ k.0)))
    s.which
