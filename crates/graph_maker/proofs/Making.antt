-- The made graph has the five edges of each ring and no others.
use Rattle.std.proofs.Common.{◌≡◌, ℕ, zero, suc, ◌+◌, ◌-◌, ◌*◌, ◌/◌, ◌<◌, ◌≤◌, ⊎_elim, Bool, true, false, cond, eqb, ltb, List, [], ◌∷◌, ◌++◌, length, get_or, refl, sym, ap, subst, ◌∙◌, min, max, add-one, zero-add, append_assoc, append-nil, arith}
use Rattle.std.specs.List.{Contains, flat_map, range_with_len}
use Rattle.std.proofs.lemmas.Bool.{cases_lt, eq-eqb, ne_eqb, ltb-true, lt-ltb}
use Rattle.std.proofs.lemmas.Grind.{flat_map-append}
use Rattle.std.proofs.lemmas.List.Elements.{All-from_recursion, All-weaker, Contains-append_left, Contains-append_right, Contains-append_cases}
use Rattle.cut_definitions.specs.declared.edge_list.Edge.{Edge}
use Rattle.cut_definitions.specs.Graph.{Graph, IsEdgeWithin, IsEdgeList}
use Rattle.cut_definitions.proofs.Lists.{Contains-cons_cases, Contains-nil}
use Rattle.cut_definitions.proofs.Ranges.{range_push}
use Rattle.graph_maker.specs.Made.{double, joining, following, five_edges, at_first, behind_first, ring_edges, made_graph, IsOfRing, LawOfMaking}
use Rattle.graph_maker.proofs.Climbs.{IsOwn, pairs_from_climbs, rings_climb, rings_own, twos, all_length}
use Rattle.graph_maker.proofs.Members.{contains_joined, from_joined}

joining-less : (u v : ℕ) → u ≤ v → joining u v ≡ double u v
joining-less u v h =
    let least : min u v ≡ u = omega arith in
    let greatest : max u v ≡ v = omega arith in
    ap (λ x. double x (max u v)) least ∙ ap (λ y. double u y) greatest

joining-greater : (u v x y : ℕ) → v ≤ u → v ≡ x → u ≡ y → joining u v ≡ double x y
joining-greater u v x y h p q =
    let least : min u v ≡ x = omega arith in
    let greatest : max u v ≡ y = omega arith in
    ap (λ z. double z (max u v)) least ∙ ap (λ z. double x z) greatest

abbrev all_edges : ℕ → List Edge
all_edges rings = flat_map (ring_edges rings) (range_with_len 0 rings)

all_count : (rings : ℕ) → 2 ≤ rings → length (all_edges rings) ≡ 5 * rings
all_count zero h = absurd (omega arith)
all_count (suc zero) h = absurd (omega arith)
all_count (suc (suc n)) h = all_length n

edge_list_of : (rings : ℕ) → 2 ≤ rings → rings ≤ 25000 → IsEdgeList (record { vertices = 4 * rings; edges = all_edges rings })
edge_list_of rings low high =
    let mine = rings_own rings 0 rings low (omega arith) in
    record {
      is_graph = record {
        in_range = All-weaker (IsOwn rings) (IsEdgeWithin (4 * rings)) (λ e h. h.within) (all_edges rings) (All-from_recursion (IsOwn rings) (all_edges rings) mine);
        ascending = pairs_from_climbs (double 0 0) (all_edges rings) (rings_climb rings 0 rings (double 0 0) low (omega arith));
        total = omega (arith, twos rings (all_edges rings) mine, all_count rings low);
      };
      few_vertices = omega arith;
      few_edges = omega (arith, all_count rings low);
    }

-- The five edges, each where it stands.

pub first_of_five : (rings ring : ℕ) → Contains (five_edges rings ring) (double (4 * ring + 1) (4 * ring + 2))
first_of_five rings ring = (0, omega arith, joining-less (4 * ring + 1) (4 * ring + 2) (omega arith))

pub second_of_five : (rings ring : ℕ) → Contains (five_edges rings ring) (double (4 * ring + 2) (4 * ring + 3))
second_of_five rings ring = (1, omega arith, joining-less (4 * ring + 2) (4 * ring + 3) (omega arith))

pub third_of_five : (rings ring : ℕ) → Contains (five_edges rings ring) (double (4 * ring + 3) (4 * ring + 4))
third_of_five rings ring = (2, omega arith, joining-less (4 * ring + 3) (4 * ring + 4) (omega arith))

pub fourth_of_five : (rings ring : ℕ) → Contains (five_edges rings ring) (double (4 * ring + 1) (4 * ring + 4))
fourth_of_five rings ring = (3, omega arith, joining-less (4 * ring + 1) (4 * ring + 4) (omega arith))

pub fifth_of_five : (rings ring : ℕ) → Contains (five_edges rings ring) (joining (4 * ring + 3) (4 * following rings ring + 1))
fifth_of_five rings ring = (4, omega arith, refl)

after_next : (rings ring : ℕ) → ring + 1 < rings → following rings ring ≡ ring + 1
after_next rings ring less = let test : eqb (ring + 1) rings ≡ false = ne_eqb (ring + 1) rings (λ e. omega arith) in rw test refl

after_last : (rings ring : ℕ) → ring + 1 ≡ rings → following rings ring ≡ 0
after_last rings ring last = let test : eqb (ring + 1) rings ≡ true = eq-eqb (ring + 1) rings last in rw test refl

-- the link to the next ring
pub link_on : (rings ring : ℕ) → ring + 1 < rings → joining (4 * ring + 3) (4 * following rings ring + 1) ≡ double (4 * ring + 3) (4 * ring + 5)
link_on rings ring less =
    let same : 4 * (ring + 1) + 1 ≡ 4 * ring + 5 = omega arith in
    ap (λ k. joining (4 * ring + 3) (4 * k + 1)) (after_next rings ring less)
    ∙ joining-less (4 * ring + 3) (4 * (ring + 1) + 1) (omega arith)
    ∙ ap (λ y. double (4 * ring + 3) y) same

-- the link from the last ring to ring 0
link_back : (rings ring : ℕ) → ring + 1 ≡ rings → joining (4 * ring + 3) (4 * following rings ring + 1) ≡ double 1 (4 * rings - 1)
link_back rings ring last =
    ap (λ k. joining (4 * ring + 3) (4 * k + 1)) (after_last rings ring last)
    ∙ joining-greater (4 * ring + 3) (4 * 0 + 1) 1 (4 * rings - 1) (omega arith) refl (omega arith)

-- Each edge of the list is one of the five of a ring.

at_choice : (b : Bool) (x e : Edge) → Contains (cond b (x ∷ []) []) e → (b ≡ true) × (x ≡ e)
at_choice true x e h = (refl, ⊎_elim (λ p. p) (λ n. absurd (Contains-nil e n)) (Contains-cons_cases x [] e h))
at_choice false x e h = absurd (Contains-nil e h)

of_ring : (rings ring : ℕ) (d e : Edge) → ring < rings → Contains (five_edges rings ring) d → d ≡ e → IsOfRing rings e
of_ring rings ring d e less h same = record { ring = ring; is_ring = less; is_edge = subst (λ z. Contains (five_edges rings ring) z) same h }

from_first : (rings ring : ℕ) (e : Edge) → ring < rings → Contains (at_first rings ring) e → IsOfRing rings e
from_first rings ring e less h =
    let link = double 1 (4 * rings - 1) in
    let links = cond (eqb ring 0) (link ∷ []) [] in
    ⊎_elim
    (λ p. of_ring rings ring (double (4 * ring + 1) (4 * ring + 2)) e less (first_of_five rings ring) p)
    (λ t. ⊎_elim
    (λ p. of_ring rings ring (double (4 * ring + 1) (4 * ring + 4)) e less (fourth_of_five rings ring) p)
    (λ l. of_ring rings (rings - 1) (joining (4 * (rings - 1) + 3) (4 * following rings (rings - 1) + 1)) e (omega arith) (fifth_of_five rings (rings - 1))
    (link_back rings (rings - 1) (omega arith) ∙ (at_choice (eqb ring 0) link e l).1))
    (Contains-cons_cases (double (4 * ring + 1) (4 * ring + 4)) links e t))
    (Contains-cons_cases (double (4 * ring + 1) (4 * ring + 2)) (double (4 * ring + 1) (4 * ring + 4) ∷ links) e h)

from_others : (rings ring : ℕ) (e : Edge) → ring < rings → Contains (behind_first rings ring) e → IsOfRing rings e
from_others rings ring e less h =
    let link = double (4 * ring + 3) (4 * ring + 5) in
    let links = cond (ltb (ring + 1) rings) (link ∷ []) [] in
    ⊎_elim
    (λ p. of_ring rings ring (double (4 * ring + 2) (4 * ring + 3)) e less (second_of_five rings ring) p)
    (λ t. ⊎_elim
    (λ p. of_ring rings ring (double (4 * ring + 3) (4 * ring + 4)) e less (third_of_five rings ring) p)
    (λ l. let c = at_choice (ltb (ring + 1) rings) link e l in
    of_ring rings ring (joining (4 * ring + 3) (4 * following rings ring + 1)) e less (fifth_of_five rings ring)
    (link_on rings ring (ltb-true (ring + 1) rings c.0) ∙ c.1))
    (Contains-cons_cases (double (4 * ring + 3) (4 * ring + 4)) links e t))
    (Contains-cons_cases (double (4 * ring + 2) (4 * ring + 3)) (double (4 * ring + 3) (4 * ring + 4) ∷ links) e h)

none_other : (rings : ℕ) (e : Edge) → Contains (all_edges rings) e → IsOfRing rings e
none_other rings e h =
    let t = from_joined (ring_edges rings) 0 rings e h in
    ⊎_elim (from_first rings t.place e (omega (arith, t.below))) (from_others rings t.place e (omega (arith, t.below)))
    (Contains-append_cases (at_first rings t.place) (behind_first rings t.place) e t.member)

-- Each of the five is in the list.

in_list : (rings ring : ℕ) (d e : Edge) → ring < rings → Contains (ring_edges rings ring) d → d ≡ e → Contains (all_edges rings) e
in_list rings ring d e less h same = contains_joined (ring_edges rings) 0 rings ring e (omega arith) (omega arith) (subst (λ z. Contains (ring_edges rings ring) z) same h)

in_first : (rings ring : ℕ) (d : Edge) → Contains (at_first rings ring) d → Contains (ring_edges rings ring) d
in_first rings ring d h = Contains-append_left (at_first rings ring) (behind_first rings ring) d h

in_others : (rings ring : ℕ) (d : Edge) → Contains (behind_first rings ring) d → Contains (ring_edges rings ring) d
in_others rings ring d h = Contains-append_right (at_first rings ring) (behind_first rings ring) d h

-- the link from the last ring is in ring 0
has_back : (rings : ℕ) → Contains (at_first rings 0) (double 1 (4 * rings - 1))
has_back rings = (2, omega arith, refl)

has_on : (rings ring : ℕ) → ring + 1 < rings → Contains (behind_first rings ring) (double (4 * ring + 3) (4 * ring + 5))
has_on rings ring less =
    let link = double (4 * ring + 3) (4 * ring + 5) in
    let here : Contains (double (4 * ring + 2) (4 * ring + 3) ∷ double (4 * ring + 3) (4 * ring + 4) ∷ cond true (link ∷ []) []) link = (2, omega arith, refl) in
    subst (λ b. Contains (double (4 * ring + 2) (4 * ring + 3) ∷ double (4 * ring + 3) (4 * ring + 4) ∷ cond b (link ∷ []) []) link) (sym (lt-ltb (ring + 1) rings less)) here

link_in_list : (rings ring : ℕ) (e : Edge) → ring < rings → joining (4 * ring + 3) (4 * following rings ring + 1) ≡ e → Contains (all_edges rings) e
link_in_list rings ring e less is =
    ⊎_elim
    (λ (on : ring + 1 < rings). in_list rings ring (double (4 * ring + 3) (4 * ring + 5)) e less (in_others rings ring (double (4 * ring + 3) (4 * ring + 5)) (has_on rings ring on)) (sym (link_on rings ring on) ∙ is))
    (λ (end : rings ≤ ring + 1). in_list rings 0 (double 1 (4 * rings - 1)) e (omega arith) (in_first rings 0 (double 1 (4 * rings - 1)) (has_back rings)) (sym (link_back rings ring (omega arith)) ∙ is))
    (cases_lt (ring + 1) rings)

-- the place of an edge among the five
by_place : (rings ring : ℕ) (e : Edge) → ring < rings → (k : ℕ) → k < 5 → get_or (five_edges rings ring) k e ≡ e → Contains (all_edges rings) e
by_place rings ring e less zero l is =
    in_list rings ring (double (4 * ring + 1) (4 * ring + 2)) e less
    (in_first rings ring (double (4 * ring + 1) (4 * ring + 2)) (0, omega arith, refl)) (sym (joining-less (4 * ring + 1) (4 * ring + 2) (omega arith)) ∙ is)
by_place rings ring e less (suc zero) l is =
    in_list rings ring (double (4 * ring + 2) (4 * ring + 3)) e less
    (in_others rings ring (double (4 * ring + 2) (4 * ring + 3)) (0, omega arith, refl)) (sym (joining-less (4 * ring + 2) (4 * ring + 3) (omega arith)) ∙ is)
by_place rings ring e less (suc (suc zero)) l is =
    in_list rings ring (double (4 * ring + 3) (4 * ring + 4)) e less
    (in_others rings ring (double (4 * ring + 3) (4 * ring + 4)) (1, omega arith, refl)) (sym (joining-less (4 * ring + 3) (4 * ring + 4) (omega arith)) ∙ is)
by_place rings ring e less (suc (suc (suc zero))) l is =
    in_list rings ring (double (4 * ring + 1) (4 * ring + 4)) e less
    (in_first rings ring (double (4 * ring + 1) (4 * ring + 4)) (1, omega arith, refl)) (sym (joining-less (4 * ring + 1) (4 * ring + 4) (omega arith)) ∙ is)
by_place rings ring e less (suc (suc (suc (suc zero)))) l is = link_in_list rings ring e less is
by_place rings ring e less (suc (suc (suc (suc (suc k))))) l is = absurd (omega arith)

each_in_list : (rings : ℕ) (e : Edge) → IsOfRing rings e → Contains (all_edges rings) e
each_in_list rings e h = by_place rings h.ring e h.is_ring h.is_edge.0 (omega (arith, h.is_edge.1)) h.is_edge.2

-- The law.

pub making : LawOfMaking
unfolding made_graph
making number low high = record {
  edge_list = edge_list_of (number / 4) (omega arith) (omega arith);
  counted = all_count (number / 4) (omega arith);
  exactly = λ e. (none_other (number / 4) e, each_in_list (number / 4) e);
}

-- The list grows ring by ring.

pub ring_added : (rings ring : ℕ) (old first new : List Edge) → old ≡ flat_map (ring_edges rings) (range_with_len 0 ring) →
    first ≡ old ++ at_first rings ring → new ≡ first ++ behind_first rings ring → new ≡ flat_map (ring_edges rings) (range_with_len 0 (ring + 1))
ring_added rings ring old first new was at behind =
    let next : range_with_len 0 (ring + 1) ≡ range_with_len 0 ring ++ ring ∷ [] =
    ap (range_with_len 0) (add-one ring) ∙ range_push 0 ring ∙ ap (λ (k : ℕ). range_with_len 0 ring ++ k ∷ []) (zero-add ring) in
    let mine : flat_map (ring_edges rings) (ring ∷ []) ≡ ring_edges rings ring = append-nil (ring_edges rings ring) in
    let split : flat_map (ring_edges rings) (range_with_len 0 (ring + 1)) ≡ flat_map (ring_edges rings) (range_with_len 0 ring) ++ ring_edges rings ring =
    ap (flat_map (ring_edges rings)) next ∙ flat_map-append (ring_edges rings) (range_with_len 0 ring) (ring ∷ []) ∙ ap (λ es. flat_map (ring_edges rings) (range_with_len 0 ring) ++ es) mine in
    let grown : new ≡ old ++ ring_edges rings ring = behind ∙ ap (λ es. es ++ behind_first rings ring) at ∙ append_assoc old (at_first rings ring) (behind_first rings ring) in
    grown ∙ ap (λ es. es ++ ring_edges rings ring) was ∙ sym split

pub made_list : (number ring : ℕ) (edges : List Edge) → 12 ≤ number → number ≤ 100000 → ring ≡ number / 4 →
    edges ≡ flat_map (ring_edges (number / 4)) (range_with_len 0 ring) → IsEdgeList (record { vertices = 4 * (number / 4); edges = edges })
made_list number ring edges low high all is =
    let whole : edges ≡ all_edges (number / 4) = is ∙ ap (λ (k : ℕ). flat_map (ring_edges (number / 4)) (range_with_len 0 k)) all in
    subst (λ (es : List Edge). IsEdgeList (record { vertices = 4 * (number / 4); edges = es })) (sym whole) (edge_list_of (number / 4) (omega arith) (omega arith))

pub is_made : (number ring : ℕ) (edges : List Edge) → ring ≡ number / 4 →
    edges ≡ flat_map (ring_edges (number / 4)) (range_with_len 0 ring) → record { vertices = 4 * (number / 4); edges = edges } ≡ made_graph number
unfolding made_graph
is_made number ring edges all is =
    ap (λ (es : List Edge). let g : Graph = record { vertices = 4 * (number / 4); edges = es } in g) (is ∙ ap (λ (k : ℕ). flat_map (ring_edges (number / 4)) (range_with_len 0 k)) all)
