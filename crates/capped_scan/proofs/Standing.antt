-- Which graph a scan fits, over its steps.
use Rattle.std.proofs.Common.{◌≡◌, ℕ, ◌+◌, ◌-◌, ◌*◌, ◌^◌, ◌≤◌, ⊎_elim, Bool, true, false, ◌||◌, eqb, ltb, List, [], ◌∷◌, get_or, min, inl, inr, refl, sym, ◌∙◌, subst, ap, arith}
use Rattle.std.specs.Prelude.{◌≢◌, ◌⊎◌}
use Rattle.std.proofs.lemmas.Bool.{cases_eq, cases_Bool, eq-eqb, ne_eqb, false≢true, or_left, or_right, both_ways, or_from}
use Rattle.std.proofs.lemmas.List.Elements.{All-weaker}
use Rattle.cut_definitions.specs.Graph.{Graph, IsGraph}
use Rattle.cut_definitions.specs.Weight.{VertexSet, parts, weight, between, complement, HasVertex, IsCut}
use Rattle.cut_definitions.specs.Cuts.{has}
use Rattle.cut_definitions.specs.Scan.{single, weight_to, IsScanned}
use Rattle.cut_definitions.proofs.Bridge.{has_first_of}
use Rattle.cut_definitions.proofs.Running.{between-le_total}
use Rattle.cut_definitions.proofs.ScanLaw.{weight_to_insert, link_law, weight_to_none}
use Rattle.cut_definitions.specs.Safe.{IsFair}
use Rattle.cut_definitions.proofs.SafeLaws.{IsFair-weight}
use Rattle.cut_definitions.proofs.Vertices.{all_or_one}
use Rattle.weighted_graph.proofs.MarkLaws.{safe_from_cuts}
use Rattle.cut_definitions.proofs.WeightLaws.{weight-apart}
use Rattle.cut_definitions.proofs.Bools.{apart_at, nothing_or, only_first, only_second}
use Rattle.cut_definitions.proofs.Singles.{weight_none, single_out}
use Rattle.cut_definitions.proofs.Numbers.{positive_yes, positive, not_positive}
use Rattle.weighted_graph.specs.declared.graph.Arc.{Arc}
use Rattle.weighted_graph.specs.Rows.{row_of, weight_in}
use Rattle.weighted_graph.proofs.RowLaws.{weight_to_is, degree_is, degree-le}
use Rattle.weighted_graph.proofs.RowSearch.{between-swap}
use Rattle.weighted_graph.proofs.Searched.{row_within}
use Rattle.capped_scan.specs.Scan.{ScanState, key, waits, link_of, is_live, rank, StandsFor, IsStarted, IsChoice, IsWithout, raised, IsAbsorbed, IsRowOf, LawOfPrefixes, LawOfLinks}
use Rattle.capped_scan.proofs.Layouts.{waits_no}
use Rattle.capped_scan.proofs.Raised.{raised-some}

-- ---- orders of scanning

-- an order stays one if fewer vertices are live, but all that were scanned
pub IsScanned-fewer : (g : Graph) (cap : ℕ) (live fewer : VertexSet) (order : List ℕ) → ((v : ℕ) → has order v ≡ true → fewer v ≡ true) → ((v : ℕ) → fewer v ≡ true → live v ≡ true) →
    IsScanned g cap live order → IsScanned g cap fewer order
IsScanned-fewer g cap live fewer [] all sub h = tt
IsScanned-fewer g cap live fewer (x ∷ before) all sub h = (
  IsScanned-fewer g cap live fewer before (λ v is. all v (or_right (eqb x v) (has before v) is)) sub h.0,
  all x (has_first_of x before),
  h.2,
  λ y ly out. h.3 y (sub y ly) out,
)

-- ---- the law of links

pub link_lower : (g : Graph) (s : ScanState) → StandsFor s g → (y r : ℕ) → r ≡ link_of s y → (x : ℕ) (before : List ℕ) (set : VertexSet) → s.order ≡ x ∷ before → parts set x y ≡ true → r ≤ weight g set
link_lower g s h y r r_is x before set order_is parted =
    ⊎_elim
    (λ (held : waits s y ≡ true).
    let scanned : IsScanned g s.cap (is_live s) (x ∷ before) = subst (λ (order : List ℕ). IsScanned g s.cap (is_live s) order) order_is h.scanned in
    let out : has (x ∷ before) y ≡ false = subst (λ (order : List ℕ). has order y ≡ false) order_is (h.apart y held) in
    let law : min s.cap (weight_to g y (has (x ∷ before))) ≤ weight g set = link_law g set s.cap (is_live s) x before scanned y (or_left (waits s y) (has s.order y) held) out parted in
    let link : link_of s y ≡ min s.cap (weight_to g y (has (x ∷ before))) = h.links y held ∙ ap (λ (order : List ℕ). min s.cap (weight_to g y (has order))) order_is in
    let t : r ≤ weight g set = omega arith in t)
    (λ (no : waits s y ≡ false). let zero_is : key s y ≡ 0 = not_positive (key s y) no in let t : r ≤ weight g set = omega arith in t)
    (cases_Bool (waits s y))

-- ---- starting

pub started_stands : (s : ScanState) (n root cap : ℕ) → IsStarted s n root cap → s.prefix ≡ 0 → ((v : ℕ) → waits s v ≡ true → (1 ≤ v) × (v ≤ n)) → (g : Graph) → n ≡ g.vertices → StandsFor s g
started_stands s n root cap h prefix within g same = record {
  vertices = h.vertices ∙ same;
  scanned = subst (λ (order : List ℕ). IsScanned g s.cap (is_live s) order) (sym h.order) tt;
  prefix = prefix ∙ sym (ap (λ (order : List ℕ). weight g (has order)) h.order ∙ weight_none g);
  links = λ v held. h.links v ∙ sym (ap (λ (order : List ℕ). min s.cap (weight_to g v (has order))) h.order ∙ (ap (min s.cap) (weight_to_none g (has []) v) ∙ min_none s.cap));
  within = λ v live.
      let w = within v (only_first (waits s v) (has s.order v) (ap (λ (order : List ℕ). has order v) h.order) live) in
      (w.0, omega (arith, w.1, h.vertices));
  apart = λ v held. ap (λ (order : List ℕ). has order v) h.order;
}
  where
    min_none : (cap : ℕ) → min cap 0 ≡ 0
    min_none cap = omega arith

-- ---- dropping

pub without_stands : (s t : ScanState) (y : ℕ) → IsWithout s t y → has s.order y ≡ false → (g : Graph) → StandsFor s g → StandsFor t g
without_stands s t y w out g h =
    let fewer_waits : (v : ℕ) → waits t v ≡ true → (v ≢ y) × (waits s v ≡ true) = λ v held. ⊎_elim
    (λ (e : v ≡ y). absurd (false≢true (sym w.dropped ∙ subst (λ (u : ℕ). waits t u ≡ true) e held)))
    (λ (ne : v ≢ y). (ne, ap (ltb 0) (sym (w.others v ne)) ∙ held))
    (cases_eq v y) in
    let sub : (v : ℕ) → is_live t v ≡ true → is_live s v ≡ true = λ v live. ⊎_elim
    (λ (held : waits t v ≡ true). or_left (waits s v) (has s.order v) (fewer_waits v held).1)
    (λ (no : waits t v ≡ false). or_right (waits s v) (has s.order v) (ap (λ (order : List ℕ). has order v) (sym w.order) ∙ only_second (waits t v) (has t.order v) no live))
    (cases_Bool (waits t v)) in
    record {
      vertices = w.vertices ∙ h.vertices;
      scanned = subst (λ (cap : ℕ). IsScanned g cap (is_live t) t.order) (sym w.cap) (subst (λ (order : List ℕ). IsScanned g s.cap (is_live t) order) (sym w.order)
          (IsScanned-fewer g s.cap (is_live s) (is_live t) s.order (λ v is. or_right (waits t v) (has t.order v) (ap (λ (order : List ℕ). has order v) w.order ∙ is)) sub h.scanned));
      prefix = w.prefix ∙ (h.prefix ∙ ap (λ (order : List ℕ). weight g (has order)) (sym w.order));
      links = λ v held.
          let f = fewer_waits v held in
          ap (λ (k : ℕ). k - 1) (w.others v f.0)
          ∙ (h.links v f.1 ∙ (ap (λ (cap : ℕ). min cap (weight_to g v (has s.order))) (sym w.cap) ∙ ap (λ (order : List ℕ). min t.cap (weight_to g v (has order))) (sym w.order)));
      within = λ v live. let r = h.within v (sub v live) in (r.0, omega (arith, r.1, w.vertices));
      apart = λ v held. ap (λ (order : List ℕ). has order v) w.order ∙ h.apart v (fewer_waits v held).1;
    }

-- ---- scanning

pub row_of_is : (g : Graph) → IsGraph g → (v n : ℕ) → n ≡ g.vertices → IsRowOf n (row_of g v)
row_of_is g ok v n same = record {
  within = All-weaker (λ (a : Arc). (1 ≤ a.to) × (a.to ≤ g.vertices)) (λ (a : Arc). a.to ≤ n) (λ a h. omega (arith, h.1)) (row_of g v) (row_within g ok v);
  total = rw (degree_is g ok v) (degree-le g ok v);
}

pub link_small : (g : Graph) → IsGraph g → (s : ScanState) → StandsFor s g → (v : ℕ) → link_of s v ≤ 2 ^ 61
link_small g ok s h v =
    ⊎_elim
    (λ (held : waits s v ≡ true). let le = between-le_total g (single v) (has s.order) in omega (arith, h.links v held, ok.total))
    (λ (no : waits s v ≡ false). let zero_is : key s v ≡ 0 = not_positive (key s v) no in let t : link_of s v ≤ 2 ^ 61 = omega arith in t)
    (cases_Bool (waits s v))

-- what one more vertex makes of the weight of a set
pub weight_more : (g : Graph) (x : ℕ) (order : List ℕ) → has order x ≡ false →
    weight g (has (x ∷ order)) + 2 * weight_to g x (has order) ≡ weight g (single x) + weight g (has order)
weight_more g x order out = weight-apart g (single x) (has order) (λ v. apart_at (single x v) (has order v) (single_out (has order) x v out))

module _ (g : Graph) (ok : IsGraph g) (s t : ScanState) (h : StandsFor s g) (x : ℕ) (choice : IsChoice s x) (a : IsAbsorbed s t x (row_of g x)) where
  pub x_out : has s.order x ≡ false
  x_out = h.apart x choice.waiting

  still : (v : ℕ) → waits t v ≡ true → (v ≢ x) × (waits s v ≡ true)
  still v held =
      ⊎_elim
      (λ (e : v ≡ x). absurd (false≢true (sym (waits_no (key t v) (ap (key t) e ∙ a.here)) ∙ held)))
      (λ (ne : v ≢ x). (
        ne,
        ⊎_elim
            (λ (w : waits s v ≡ true). w)
            (λ (no : waits s v ≡ false).
            let zero_is : key t v ≡ 0 = a.others v ne ∙ ap (λ (k : ℕ). raised s.cap k (weight_in (row_of g x) v)) (not_positive (key s v) no) in
            absurd (false≢true (sym (waits_no (key t v) zero_is) ∙ held)))
            (cases_Bool (waits s v)),
      ))
      (cases_eq v x)

  key_more : (v : ℕ) → v ≢ x → waits s v ≡ true → key t v ≡ 1 + min s.cap (link_of s v + weight_in (row_of g x) v)
  key_more v ne held = a.others v ne ∙ raised-some s.cap (key s v) (weight_in (row_of g x) v) (positive (key s v) held)

  order_at : (v : ℕ) → has t.order v ≡ (eqb x v || has s.order v)
  order_at v = ap (λ (order : List ℕ). has order v) a.order

  pub live_same : (v : ℕ) → is_live t v ≡ is_live s v
  live_same v =
      ⊎_elim
      (λ (e : v ≡ x).
      or_right (waits t v) (has t.order v) (order_at v ∙ or_left (eqb x v) (has s.order v) (eq-eqb x v (sym e)))
      ∙ sym (or_left (waits s v) (has s.order v) (subst (λ (u : ℕ). waits s u ≡ true) (sym e) choice.waiting)))
      (λ (ne : v ≢ x).
      let outside : has t.order v ≡ has s.order v = order_at v ∙ nothing_or (eqb x v) (has s.order v) (ne_eqb x v (λ q. ne (sym q))) in
      ⊎_elim
      (λ (w : waits s v ≡ true).
      let still_waits : waits t v ≡ true = positive_yes (key t v) (omega (arith, key_more v ne w)) in
      or_left (waits t v) (has t.order v) still_waits ∙ sym (or_left (waits s v) (has s.order v) w))
      (λ (no : waits s v ≡ false).
      let zero_is : key t v ≡ 0 = a.others v ne ∙ ap (λ (k : ℕ). raised s.cap k (weight_in (row_of g x) v)) (not_positive (key s v) no) in
      both_or (waits t v) (waits s v) (has t.order v) (has s.order v) (waits_no (key t v) zero_is) no outside)
      (cases_Bool (waits s v)))
      (cases_eq v x)
    where
      both_or : (p q r u : Bool) → p ≡ false → q ≡ false → r ≡ u → (p || r) ≡ (q || u)
      both_or p q r u e f k = grind arith

  pub greatest_rank : (y : ℕ) → waits s y ≡ true → rank g s y ≤ rank g s x
  greatest_rank y held =
      let here : link_of s x ≡ rank g s x = h.links x choice.waiting in
      let there : link_of s y ≡ rank g s y = h.links y held in
      ⊎_elim
      (λ (empty : s.order ≡ []).
      let none_y : rank g s y ≡ min s.cap 0 = ap (λ (order : List ℕ). min s.cap (weight_to g y (has order))) empty ∙ ap (min s.cap) (weight_to_none g (has []) y) in
      let r : rank g s y ≤ rank g s x = omega arith in r)
      (λ some. let le : link_of s y ≤ link_of s x = choice.greatest (λ at. some at.0) y held in let r : rank g s y ≤ rank g s x = omega arith in r)
      (empty_or s.order)
    where
      empty_or : (order : List ℕ) → (order ≡ []) ⊎ (order ≡ [] → ⊥)
      empty_or [] = inl refl
      empty_or (v ∷ vs) = inr (λ e. cc)

  pub prefix_more : weight g (has (x ∷ s.order)) + 2 * weight_to g x (has s.order) ≡ weight g (single x) + s.prefix
  prefix_more = weight_more g x s.order x_out ∙ ap (λ (k : ℕ). weight g (single x) + k) (sym h.prefix)

  rank_more : (v : ℕ) → v ≢ x → waits s v ≡ true → key t v - 1 ≡ min s.cap (weight_to g v (has (x ∷ s.order)))
  rank_more v ne held =
      let more : weight_to g v (has (x ∷ s.order)) ≡ weight_to g v (has s.order) + weight_to g v (single x) = weight_to_insert g (has []) v x (has s.order) (h.apart v held) x_out (ne_eqb x v (λ q. ne (sym q))) in
      let swap : between g (single x) (single v) ≡ between g (single v) (single x) = between-swap g (single x) (single v) in
      let in_row : weight_in (row_of g x) v ≡ between g (single x) (single v) = weight_to_is g ok x (single v) in
      let link : link_of s v ≡ min s.cap (weight_to g v (has s.order)) = h.links v held in
      omega (arith, key_more v ne held)

  -- the state with the new prefix weight
  pub next_stands : (u : ScanState) → u.vertices ≡ t.vertices → u.cap ≡ t.cap → u.order ≡ t.order → u.keys ≡ t.keys → u.prefix ≡ weight g (has (x ∷ s.order)) → StandsFor u g
  next_stands u vertices cap order keys prefix =
      let order_is : u.order ≡ x ∷ s.order = order ∙ a.order in
      let cap_is : u.cap ≡ s.cap = cap ∙ a.cap in
      let waits_same : (v : ℕ) → waits u v ≡ waits t v = λ v. ap (λ (ks : List ℕ). ltb 0 (get_or ks v 0)) keys in
      let live_is : (v : ℕ) → is_live u v ≡ is_live s v = λ v. ap (λ (b : Bool). b || has u.order v) (waits_same v) ∙ (ap (λ (o : List ℕ). waits t v || has o v) order ∙ live_same v) in
      record {
        vertices = vertices ∙ (a.vertices ∙ h.vertices);
        scanned = subst (λ (c : ℕ). IsScanned g c (is_live u) u.order) (sym cap_is) (subst (λ (o : List ℕ). IsScanned g s.cap (is_live u) o) (sym order_is) (
          IsScanned-fewer g s.cap (is_live s) (is_live u) s.order (λ v is. live_is v ∙ or_right (waits s v) (has s.order v) is) (λ v is. sym (live_is v) ∙ is) h.scanned,
          live_is x ∙ or_left (waits s x) (has s.order x) choice.waiting,
          x_out,
          λ y ly out. greatest_rank y (only_first (waits s y) (has s.order y) out (sym (live_is y) ∙ ly)),
        ));
        prefix = prefix ∙ ap (λ (o : List ℕ). weight g (has o)) (sym order_is);
        links = λ v held.
            let f = still v (sym (waits_same v) ∙ held) in
            ap (λ (ks : List ℕ). get_or ks v 0 - 1) keys
            ∙ (rank_more v f.0 f.1 ∙ (ap (λ (c : ℕ). min c (weight_to g v (has (x ∷ s.order)))) (sym cap_is) ∙ ap (λ (o : List ℕ). min u.cap (weight_to g v (has o))) (sym order_is)));
        within = λ v live. let r = h.within v (sym (live_is v) ∙ live) in (r.0, omega (arith, r.1, vertices, a.vertices));
        apart = λ v held.
            let f = still v (sym (waits_same v) ∙ held) in
            ap (λ (o : List ℕ). has o v) order_is ∙ or_from (eqb x v) (has s.order v) (ne_eqb x v (λ q. f.0 (sym q))) (h.apart v f.1);
      }

-- ---- laws

pub law_of_prefixes : LawOfPrefixes
law_of_prefixes g ok old new x w all h not_all =
    let set = has new.order in
    let x_in : set x ≡ true = ap (λ (order : List ℕ). has order x) h.order ∙ has_first_of x old.order in
    subst (λ (k : ℕ). IsFair g k) (sym h.weight_is)
    (IsFair-weight g ok set
    (⊎_elim
    (λ each. absurd (both_ways all not_all (h.all_is.1 each)))
    (λ (out : HasVertex g.vertices (complement set)). let cut : IsCut g.vertices set = record { some_in = record { vertex = x; from_one = h.from_one; to_n = h.to_n; is_in = x_in }; some_out = out } in cut)
    (all_or_one g.vertices set)))

pub law_of_links : LawOfLinks
law_of_links g ok s h x before order_is y bound slack reaches =
    safe_from_cuts g ok bound slack x y
    (λ set least parted. let le : link_of s y ≤ weight g set = link_lower g s h y (link_of s y) refl x before set order_is parted in omega arith)
