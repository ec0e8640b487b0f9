-- Marks of a search, and the ends of arcs and edges.
use Rattle.std.proofs.Common.{◌≡◌, ℕ, ◌+◌, ◌<◌, ◌≤◌, ⊎_elim, Bool, true, false, not, List, length, set, get_or, refl, sym, ◌∙◌, arith, get_or-set_other, get_or-set_same}
use Rattle.std.specs.Prelude.{◌≢◌, if◌then◌else◌}
use Rattle.std.specs.List.{sum_by, All, count_by}
use Rattle.std.proofs.lemmas.Bool.{cases_eq}
use Rattle.std.proofs.lemmas.List.Elements.{All-weaker}
use Rattle.std.proofs.lemmas.List.Sums.{get_or-le-sum_by, sum_by-set}
use Rattle.cut_definitions.specs.Graph.{Graph, IsGraph}
use Rattle.cut_definitions.specs.Components.{AreJoined}
use Rattle.cut_definitions.proofs.WeightLaws.{cut_of, cut_term}
use Rattle.weighted_graph.specs.declared.graph.Arc.{Arc}
use Rattle.weighted_graph.specs.Rows.{row_of}
use Rattle.weighted_graph.specs.RowLaws.{no_edge, edge_at, IsArcAt}
use Rattle.weighted_graph.specs.Searches.{is_seen}
use Rattle.weighted_graph.proofs.RowLaws.{law_of_rows}

-- ---- marks

pub seen-more : (seen : List Bool) (x v : ℕ) → x < length seen → is_seen seen v ≡ true → is_seen (set seen x true) v ≡ true
seen-more seen x v l is =
    ⊎_elim
    (λ (e : v ≡ x). rw e (get_or-set_same seen x true false l))
    (λ (ne : v ≢ x). get_or-set_other seen x v true false ne ∙ is)
    (cases_eq v x)

pub seen-before : (seen : List Bool) (x v : ℕ) → v ≢ x → is_seen (set seen x true) v ≡ true → is_seen seen v ≡ true
seen-before seen x v ne is = sym (get_or-set_other seen x v true false ne) ∙ is

-- a mark counts for one if it is missing
abbrev missing : Bool → ℕ
missing b = if not b then 1 else 0

missing_is : (marks : List Bool) → count_by not marks ≡ sum_by missing marks
missing_is marks = refl

pub unseen_fewer : (seen : List Bool) (x : ℕ) → x < length seen → is_seen seen x ≡ false → count_by not (set seen x true) + 1 ≡ count_by not seen
unseen_fewer seen x l is =
    let here : missing (get_or seen x false) ≡ 1 = rw is refl in
    omega (arith, missing_is seen, missing_is (set seen x true), sum_by-set missing seen x true false l)

-- ---- arcs join their ends

pub arc_within : (g : Graph) → IsGraph g → (v : ℕ) (a : Arc) → IsArcAt g v a → (1 ≤ a.to) × (a.to ≤ g.vertices)
arc_within g ok v a h =
    let e = edge_at g a.edge in
    let k = ok.in_range a.edge no_edge h.within in
    let ends = ⊎_elim
    (λ p. let q : e.v ≡ a.to = p.1 in let r : (1 ≤ a.to) × (a.to ≤ g.vertices) = (omega (arith, k.0, k.1), omega (arith, k.2)) in r)
    (λ p. let q : e.u ≡ a.to = p.1 in let r : (1 ≤ a.to) × (a.to ≤ g.vertices) = (omega (arith, k.0), omega (arith, k.1, k.2)) in r)
    h.ends in
    ends

pub row_within : (g : Graph) → IsGraph g → (v : ℕ) → All (λ (a : Arc). (1 ≤ a.to) × (a.to ≤ g.vertices)) (row_of g v)
row_within g ok v = All-weaker (IsArcAt g v) (λ (a : Arc). (1 ≤ a.to) × (a.to ≤ g.vertices)) (arc_within g ok v) (row_of g v) (law_of_rows g ok v).arcs

not_cut : (a b : Bool) (w : ℕ) → 1 ≤ w → cut_of a b w ≤ 0 → a ≡ b
not_cut a b w pos none = grind arith

-- no set of weight 0 parts the ends of an edge
pub ends_joined : (g : Graph) → IsGraph g → (i : ℕ) → i < length g.edges → AreJoined g (edge_at g i).u (edge_at g i).v
ends_joined g ok i l s none =
    let e = edge_at g i in
    let k = ok.in_range i no_edge l in
    let part = get_or-le-sum_by (cut_term s) g.edges i no_edge l in
    not_cut (s e.u) (s e.v) e.w k.3 (omega arith)

-- ---- closed sets

pub cut_same : (a b : Bool) (w : ℕ) → a ≡ b → cut_of a b w ≡ 0
cut_same a b w e = grind arith
