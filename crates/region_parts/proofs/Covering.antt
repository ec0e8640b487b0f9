-- Open vertices and fed ones while labels are refined.
use Rattle.std.proofs.Common.{◌≡◌, ◌≢◌, ℕ, ◌<◌, ◌≤◌, ⊎_elim, Bool, true, not, eqb, List, length, get_or, refl, sym, ◌∙◌, subst, ap, arith}
use Rattle.std.specs.Prelude.{if◌then◌else◌}
use Rattle.std.specs.List.{Contains}
use Rattle.std.proofs.lemmas.Bool.{cases_eq, cases_lt, eq-eqb, eqb-true}
use Rattle.std.proofs.lemmas.List.{get_or_past}
use Rattle.std.proofs.lemmas.List.Elements.{All-contains}
use Rattle.cut_definitions.specs.Graph.{IsEdgeWithin}
use Rattle.cut_definitions.specs.Weight.{VertexSet, parts}
use Rattle.cut_definitions.proofs.ListLaws.{entry_kept}
use Rattle.cut_definitions.specs.Regions.{IsOpenAt}
use Rattle.region_flow.specs.Inflow.{IsAround}
use Rattle.region_flow.proofs.Least.{fed_least}
use Rattle.region_fronts.specs.Fronts.{list_at}
use Rattle.region_parts.specs.Covered.{LawOfCovering, LawOfOneRegion, LawOfRefiningOne, LawOfStayingOpen, LawOfFedOpen, LawOfFedOthers, LawOfFedByFlow, LawOfFedStart}
use Rattle.cut_definitions.proofs.WeightLaws.{some_term}
use Rattle.region_fronts.proofs.Joined.{joined_back, joined_within}

-- ---- joined vertices

-- ---- lists that cover

pub covering : LawOfCovering
covering g labels labels' f f' ok covered keeps moved v h =
    let u = h.other in
    let at_u = joined_within g ok u v h.joined in
    let at_v = joined_within g ok v u (joined_back g u v h.joined) in
    ⊎_elim
    (λ (e : get_or labels v 0 ≡ get_or labels' v 0).
    ⊎_elim
    (λ (d : get_or labels u 0 ≡ get_or labels' u 0).
    let before : IsOpenAt g labels v = record {
      to_n = h.to_n;
      outside = omega (arith, e, h.outside);
      other = u;
      joined = h.joined;
      apart = λ q. h.apart (sym d ∙ q ∙ e);
    } in
    subst (λ (k : ℕ). Contains (list_at f'.lists k) v) e (keeps (get_or labels v 0) v (covered v before)))
    (λ (ne : get_or labels u 0 ≢ get_or labels' u 0).
    (moved u at_u.0 at_u.1 ne).neighbours v (joined_back g u v h.joined) (λ q. h.apart (sym q)) h.outside)
    (cases_eq (get_or labels u 0) (get_or labels' u 0)))
    (λ (ne : get_or labels v 0 ≢ get_or labels' v 0). (moved v at_v.0 at_v.1 ne).itself h)
    (cases_eq (get_or labels v 0) (get_or labels' v 0))

pub one_region : LawOfOneRegion
one_region g labels f ok same v h =
    let at_u = joined_within g ok h.other v h.joined in
    let at_v = joined_within g ok v h.other (joined_back g h.other v h.joined) in
    absurd (h.apart (same h.other v at_u.0 at_u.1 at_v.0 at_v.1))

-- ---- labels that are refined

pub refining_one : LawOfRefiningOne
refining_one labels t = record {
  shared = λ u v one same.
      let at_v = entry_kept labels t v one in
      let at_u = entry_kept labels t u (omega (arith, same, one)) in
      sym at_u ∙ same ∙ at_v;
  outside = λ v one. omega (arith, entry_kept labels t v one, one);
}

pub staying_open : LawOfStayingOpen
staying_open g labels labels' fine v one h = record {
  to_n = h.to_n;
  outside = one;
  other = h.other;
  joined = h.joined;
  apart = λ same. h.apart (fine.shared h.other v one same);
}

-- ---- fed vertices

same_not_parted : (a b : Bool) → a ≡ b → (if a then not b else b) ≡ true → ⊥
same_not_parted a b e h = grind arith

pub fed_start : LawOfFedStart
fed_start g f ok flow same v one some =
    let r = get_or f.labels v 0 in
    let s : VertexSet = λ x. eqb (get_or f.labels x 0) r in
    let to_n : v ≤ g.vertices = ⊎_elim
    (λ (l : v < length f.labels). omega (arith, l, flow.labels_length))
    (λ (past : length f.labels ≤ v). absurd (omega (arith, get_or_past f.labels v 0 past, one)))
    (cases_lt v (length f.labels)) in
    let around : IsAround f.labels v s = record {
      there = eq-eqb r r refl;
      inside = record { outside = one; labelled = λ x is. eqb-true (get_or f.labels x 0) r is };
    } in
    let found = some_term (λ e. parts s e.u e.v) g.edges (omega (arith, fed_least g f.labels f.feed f.toward v flow to_n s around, some)) in
    let e = found.0 in
    let range : IsEdgeWithin g.vertices e = All-contains (IsEdgeWithin g.vertices) g.edges e ok.in_range found.1 in
    let ends = same e.u e.v range.0 (omega (arith, range.1, range.2)) (omega (arith, range.0, range.1)) range.2 in
    absurd (same_not_parted (s e.u) (s e.v) (ap (λ (k : ℕ). eqb k r) ends) found.2)

pub fed_open : LawOfFedOpen
fed_open g f f' before fine fed v one some =
    ⊎_elim
    (λ (e : get_or f'.feed v 0 ≡ get_or f.feed v 0). staying_open g f.labels f'.labels fine v one (before v (fine.outside v one) (omega (arith, e, some))))
    (λ h. h)
    (fed v one)

pub fed_others : LawOfFedOthers
fed_others g f f' t before same less v ne one some =
    subst (λ (l : List ℕ). IsOpenAt g l v) (sym same)
    (before v (subst (λ (l : List ℕ). 1 ≤ get_or l v 0) same one) (omega (arith, less v ne, some)))

pub fed_by_flow : LawOfFedByFlow
fed_by_flow g f f' t before opened same less v one some =
    ⊎_elim
    (λ (e : v ≡ t). subst (λ (l : List ℕ). IsOpenAt g l v) (sym same) (subst (λ (x : ℕ). IsOpenAt g f.labels x) (sym e) opened))
    (λ (ne : v ≢ t). fed_others g f f' t before same less v ne one some)
    (cases_eq v t)
