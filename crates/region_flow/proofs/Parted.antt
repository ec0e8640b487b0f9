-- Where vertices are cut off, the feed changes only at vertices that an edge joins to another region.
use Rattle.std.proofs.Common.{◌≡◌, ℕ, ◌<◌, ◌≤◌, ◌⊎◌, inl, inr, ⊎_elim, Bool, true, false, List, length, get_or, refl, sym, ◌∙◌, ap, arith}
use Rattle.std.specs.Prelude.{◌≢◌, if◌then◌else◌, eqb}
use Rattle.std.proofs.lemmas.Bool.{cases_lt, eq-eqb, eqb-true, false≢true}
use Rattle.std.proofs.lemmas.List.{get_or_past}
use Rattle.std.proofs.lemmas.List.Elements.{Contains-get_or}
use Rattle.cut_definitions.specs.declared.edge_list.Edge.{Edge}
use Rattle.cut_definitions.specs.Graph.{Graph}
use Rattle.cut_definitions.specs.Weight.{VertexSet, complement}
use Rattle.cut_definitions.specs.Scan.{single}
use Rattle.region_flow.specs.Residual.{leaving, edge_of}
use Rattle.region_flow.specs.Held.{held}
use Rattle.region_flow.specs.Sums.{sum_over}
use Rattle.region_flow.specs.Regions.{is_within, entering, HasLabel, IsFlowIn}
use Rattle.cut_definitions.specs.Regions.{IsOpenAt}
use Rattle.region_flow.proofs.Feeding.{single_inside}
use Rattle.region_flow.proofs.Least.{held-only}
use Rattle.region_flow.proofs.Severed.{IsRelabelled, enters_of, enters_some, old_inside}
use Rattle.region_flow.proofs.Sums.{DiffersAt, sum_over-differs}

-- what is counted before and not now, or the other way round
parted : (one now : Bool) (l : ℕ) → (if one then l else 0) ≢ (if now then l else 0) → (now ≡ true → 1 ≤ l → one ≡ true) → (now ≡ false) × (1 ≤ l)
parted true true l apart kept = absurd (apart refl)
parted false false l apart kept = absurd (apart refl)
parted true false l apart kept = ⊎_elim (λ (z : l < 1). absurd (apart (omega arith))) (λ (some : 1 ≤ l). (refl, some)) (cases_lt l 1)
parted false true l apart kept = ⊎_elim (λ (z : l < 1). absurd (apart (omega arith))) (λ (some : 1 ≤ l). absurd (false≢true (kept refl some))) (cases_lt l 1)

-- vertices of one new region were in one region before
one_before : (old new moved : List ℕ) (region fresh u v : ℕ) → IsRelabelled old new moved region fresh → 1 ≤ get_or new v 0 → get_or new u 0 ≡ get_or new v 0 → get_or old u 0 ≡ get_or old v 0
one_before old new moved region fresh u v h out same =
    let there : VertexSet = λ w. eqb (get_or new w 0) (get_or new v 0) in
    let o = old_inside old new moved region fresh (get_or new v 0) there h out (λ w is. eqb-true (get_or new w 0) (get_or new v 0) is) in
    o.1.labelled u (eq-eqb (get_or new u 0) (get_or new v 0) same) ∙ sym (o.1.labelled v (eq-eqb (get_or new v 0) (get_or new v 0) refl))

-- an edge enters a set of one vertex only where that is one of its ends
at_end : (v : ℕ) (e : Edge) (x : ℕ) → 1 ≤ leaving (complement (single v)) e x → (v ≡ e.u) ⊎ (v ≡ e.v)
at_end v e x some =
    ⊎_elim
    (λ (a : single v e.u ≡ true). inl (eqb-true v e.u a))
    (λ (rest : (single v e.v ≡ true) ⊎ (enters_of (single v e.u) (single v e.v) e.w x ≡ 0)). ⊎_elim
    (λ (b : single v e.v ≡ true). inr (eqb-true v e.v b))
    (λ (z : enters_of (single v e.u) (single v e.v) e.w x ≡ 0). absurd (omega (arith, some, z)))
    rest)
    (enters_some (single v e.u) (single v e.v) e.w x)

-- an edge that carries something else into a vertex than before joins it to another region
open_edge : (g : Graph) (old new moved : List ℕ) (region fresh v i x : ℕ) → IsRelabelled old new moved region fresh → v ≤ g.vertices → 1 ≤ get_or new v 0 → i < length g.edges →
    entering old (single v) (edge_of g.edges i) x ≢ entering new (single v) (edge_of g.edges i) x → IsOpenAt g new v
open_edge g old new moved region fresh v i x h to_n out l differs =
    let e = edge_of g.edges i in
    let kept = λ (one : is_within new e ≡ true) (some : 1 ≤ leaving (complement (single v)) e x).
    (let same = eqb-true (get_or new e.u 0) (get_or new e.v 0) one in
    let home : 1 ≤ get_or new e.v 0 = ⊎_elim
    (λ (p : v ≡ e.u). let q = ap (λ (w : ℕ). get_or new w 0) p in omega (arith, q, same, out))
    (λ (p : v ≡ e.v). let q = ap (λ (w : ℕ). get_or new w 0) p in omega (arith, q, out))
    (at_end v e x some) in
    let k : is_within old e ≡ true = eq-eqb (get_or old e.u 0) (get_or old e.v 0) (one_before old new moved region fresh e.u e.v h home same) in k) in
    let now = parted (is_within old e) (is_within new e) (leaving (complement (single v)) e x) differs kept in
    let apart : get_or new e.u 0 ≢ get_or new e.v 0 = λ q. false≢true (sym now.0 ∙ eq-eqb (get_or new e.u 0) (get_or new e.v 0) q) in
    let there = Contains-get_or g.edges i (record { u = 0; v = 0; w = 0 }) l in
    ⊎_elim
    (λ (p : v ≡ e.u). record {
      to_n = to_n;
      outside = out;
      other = e.v;
      joined = record { edge = e; is_edge = there; ends = inr (sym p, refl) };
      apart = λ q. apart (ap (λ (w : ℕ). get_or new w 0) (sym p) ∙ sym q);
    })
    (λ (p : v ≡ e.v). record {
      to_n = to_n;
      outside = out;
      other = e.u;
      joined = record { edge = e; is_edge = there; ends = inl (refl, sym p) };
      apart = λ q. apart (q ∙ ap (λ (w : ℕ). get_or new w 0) p);
    })
    (at_end v e x now.1)

-- what a set of one vertex holds
held_single : (feed : List ℕ) (v : ℕ) → v < length feed → held (single v) feed ≡ get_or feed v 0
held_single feed v l = held-only (single v) feed v (eq-eqb v v refl) l (λ u is apart. absurd (apart (sym (eqb-true v u is))))

-- a vertex is fed as before, or an edge joins it to another region
pub fed_or_open : (g : Graph) (old new moved feed feed' toward : List ℕ) (region fresh : ℕ) → IsRelabelled old new moved region fresh → IsFlowIn g old feed toward → IsFlowIn g new feed' toward →
    (v : ℕ) → 1 ≤ get_or new v 0 → (get_or feed' v 0 ≡ get_or feed v 0) ⊎ IsOpenAt g new v
fed_or_open g old new moved feed feed' toward region fresh h before after v out =
    let to_n : v ≤ g.vertices = ⊎_elim
    (λ (l : v < length new). omega (arith, l, after.labels_length))
    (λ (l : length new ≤ v). let z = get_or_past new v 0 l in absurd (omega (arith, z, out)))
    (cases_lt v (length new)) in
    let one_label : HasLabel new (get_or new v 0) (single v) = λ w is. ap (λ (k : ℕ). get_or new k 0) (sym (eqb-true v w is)) in
    let o = old_inside old new moved region fresh (get_or new v 0) (single v) h out one_label in
    let was = held_single feed v (omega (arith, to_n, before.feed_length)) in
    let is = held_single feed' v (omega (arith, to_n, after.feed_length)) in
    ⊎_elim
    (λ (same : sum_over (entering old (single v)) g.edges toward ≡ sum_over (entering new (single v)) g.edges toward).
    inl (omega (arith, was, is, same, before.balance o.0 (single v) o.1, after.balance (get_or new v 0) (single v) (single_inside new v out))))
    (λ (d : DiffersAt (entering old (single v)) (entering new (single v)) g.edges toward).
    inr (open_edge g old new moved region fresh v d.place (get_or toward d.place 0) h to_n out d.within d.apart))
    (sum_over-differs (entering old (single v)) (entering new (single v)) g.edges toward before.residual.each)
