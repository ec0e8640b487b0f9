-- The components as classes that the edges join.
use Rattle.std.proofs.Common.{◌≡◌, ℕ, ◌+◌, ◌-◌, ◌<◌, ⊎_elim, List, [], ◌∷◌, length, get_or, refl, sym, ◌∙◌, subst, false, arith}
use Rattle.std.specs.Prelude.{◌≢◌, ◌↔◌}
use Rattle.std.proofs.lemmas.Bool.{cases_eq}
use Rattle.std.proofs.lemmas.List.Elements.{All-from_get_or}
use Rattle.cut_definitions.specs.declared.edge_list.Edge.{Edge}
use Rattle.cut_definitions.specs.Components.{HasComponents}
use Rattle.cut_definitions.specs.Cuts.{has, IsAscendingWithin}
use Rattle.cut_definitions.specs.Graph.{Graph, IsGraph}
use Rattle.cut_definitions.specs.Weight.{VertexSet, weight}
use Rattle.cut_definitions.proofs.Sums.{sum_by-same_on, sum_by-none}
use Rattle.cut_definitions.proofs.WeightLaws.{cut_term}
use Rattle.vertex_classes.specs.Classes.{no_vertex, HasClasses, HasJoined, Respects}
use Rattle.vertex_classes.proofs.Numbered.{zero_out}
use Rattle.weighted_graph.specs.RowLaws.{no_edge, edge_at}
use Rattle.weighted_graph.proofs.Searched.{ends_joined, cut_same}

-- the sets that respect classes are those that part none of the first edges
abbrev pub AreOfEdgesBefore : List Edge → ℕ → List ℕ → Type 0
AreOfEdgesBefore edges count parents = (s : VertexSet) → Respects parents s ↔ ((i : ℕ) → i < count → s (get_or edges i no_edge).u ≡ s (get_or edges i no_edge).v)

pub of_no_edges : (edges : List Edge) (parents : List ℕ) → ((s : VertexSet) → Respects parents s) → AreOfEdgesBefore edges 0 parents
of_no_edges edges parents alone s = (λ r i l. absurd (omega (arith, l)), λ h. alone s)

pub of_one_edge : (edges : List Edge) (count : ℕ) (old new : List ℕ) → AreOfEdgesBefore edges count old → HasJoined old new (get_or edges count no_edge).u (get_or edges count no_edge).v → AreOfEdgesBefore edges (count + 1) new
of_one_edge edges count old new h joined s = (
  λ r i l.
      let p = (joined.respected s).0 r in
      ⊎_elim
      (λ (e : i ≡ count). subst (λ (k : ℕ). s (get_or edges k no_edge).u ≡ s (get_or edges k no_edge).v) (sym e) p.1)
      (λ (ne : i ≢ count). (h s).0 p.0 i (omega (arith, l, ne)))
      (cases_eq i count),
  λ parts. (joined.respected s).1 ((h s).1 (λ i l. parts i (omega (arith, l))), parts count (omega arith)),
)

-- a set that parts no edge weighs nothing, and so the other way round
pub of_all_edges : (g : Graph) → IsGraph g → (parents : List ℕ) → AreOfEdgesBefore g.edges (length g.edges) parents → (s : VertexSet) → Respects parents s ↔ (weight g s ≡ 0)
of_all_edges g ok parents h s = (
  λ r.
      sum_by-same_on (cut_term s) (λ (e : Edge). 0) g.edges
      (All-from_get_or (λ e. cut_term s e ≡ 0) g.edges no_edge (λ i l. cut_same (s (edge_at g i).u) (s (edge_at g i).v) (edge_at g i).w ((h s).0 r i l)))
      ∙ sum_by-none (λ (e : Edge). 0) (λ e. refl) g.edges,
  λ none. (h s).1 (λ i l. ends_joined g ok i l s none),
)

-- the number 0 alone weighs nothing
pub zero_alone : (g : Graph) → IsGraph g → (parents : List ℕ) → ((s : VertexSet) → Respects parents s ↔ (weight g s ≡ 0)) → Respects parents no_vertex
zero_alone g ok parents h = (h no_vertex).1 (
    sum_by-same_on (cut_term no_vertex) (λ (e : Edge). 0) g.edges
    (All-from_get_or (λ e. cut_term no_vertex e ≡ 0) g.edges no_edge
    (λ i l.
    let at = ok.in_range i no_edge l in
    cut_same (no_vertex (edge_at g i).u) (no_vertex (edge_at g i).v) (edge_at g i).w (zero_out (edge_at g i).u at.0 ∙ sym (zero_out (edge_at g i).v (omega (arith, at.0, at.1))))))
    ∙ sum_by-none (λ (e : Edge). 0) (λ e. refl) g.edges
    )

-- there are as many components as classes
pub components_counted : (g : Graph) (parents : List ℕ) (count : ℕ) → length parents ≡ g.vertices + 1 → ((s : VertexSet) → Respects parents s ↔ (weight g s ≡ 0)) → HasClasses parents count → HasComponents g count
components_counted g parents count long of_graph h =
    let n : length parents - 1 ≡ g.vertices = omega arith in
    record {
      firsts = h.firsts;
      ascending = subst (λ (k : ℕ). IsAscendingWithin 1 k h.firsts) n h.ascending;
      counted = h.counted;
      first = λ v l u is w w1 wl joined. h.first v l (omega arith) is w w1 wl (λ s r. joined s ((of_graph s).0 r));
      later = λ v l u is. let w = h.later v l (omega arith) is in (w.0, w.1, w.2, λ s none. w.3 s ((of_graph s).1 none));
    }

-- ---- no component exactly if there is no vertex

none_within : (high : ℕ) (s : List ℕ) → IsAscendingWithin 1 high s → high ≡ 0 → length s ≡ 0
none_within high [] a e = refl
none_within high (x ∷ xs) a e = absurd (omega (arith, a.0, a.1))

no_first : (s : List ℕ) (v : ℕ) → length s ≡ 0 → has s v ≡ false
no_first [] v e = refl
no_first (x ∷ xs) v e = absurd (omega arith)

pub none_without_vertices : (g : Graph) (count : ℕ) → HasComponents g count → (count ≡ 0) ↔ (g.vertices ≡ 0)
none_without_vertices g count h = (
  (λ none. ⊎_elim
      (λ (e : g.vertices ≡ 0). e)
      (λ (ne : g.vertices ≢ 0). let w = h.later 1 (omega arith) (omega arith) (no_first h.firsts 1 (sym h.counted ∙ none)) in absurd (omega (arith, w.1, w.2)))
      (cases_eq g.vertices 0)),
  (λ e. h.counted ∙ none_within g.vertices h.firsts h.ascending e),
)
