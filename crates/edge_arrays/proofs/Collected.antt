-- The edges that were collected from the first places of arrays.
use Rattle.std.proofs.Common.{◌≡◌, ℕ, ◌+◌, ◌≤◌, List, [], ◌∷◌, ◌++◌, length, map, ◌∙◌, ap, arith}
use Rattle.std.specs.Prelude.{if◌then◌else◌}
use Rattle.std.specs.List.{sum_by, All, range_with_len}
use Rattle.std.proofs.lemmas.List.{length_push}
use Rattle.std.proofs.lemmas.List.Sums.{sum_by_push}
use Rattle.std.proofs.lemmas.List.FromFn.{sum_by-map-range_with_len_more}
use Rattle.std.proofs.lemmas.List.Elements.{All-push}
use Rattle.cut_definitions.specs.declared.edge_list.Edge.{Edge}
use Rattle.cut_definitions.specs.Graph.{IsEdgeWithin}
use Rattle.cut_definitions.specs.Weight.{VertexSet, parts, weight}
use Rattle.edge_arrays.specs.Given.{entry, given}
use Rattle.edge_arrays.proofs.Places.{IsSummed}
use Rattle.weighted_graph.specs.Merging.{term}

-- what the first places hold, as edges that may cross a cut
pub record IsCollected (n : ℕ) (us vs ws : List ℕ) (count : ℕ) (edges : List Edge) (total : ℕ) : Type 0 where
  pub within : All (IsEdgeWithin n) edges
  pub few : length edges ≤ count
  pub total_is : sum_by (λ (e : Edge). e.w) edges ≡ total
  pub weights : (s : VertexSet) → sum_by (term (parts s)) edges ≡ sum_by (term (parts s)) (map (entry us vs ws) (range_with_len 0 count))
  pub summed : IsSummed n us vs ws count total

-- a loop, or an edge of weight 0, adds nothing
pub collected_skip : (n : ℕ) (us vs ws : List ℕ) (count : ℕ) (edges : List Edge) (total sum : ℕ) → IsCollected n us vs ws count edges total →
    ((s : VertexSet) → term (parts s) (entry us vs ws count) ≡ 0) → sum ≡ total → IsSummed n us vs ws (count + 1) sum → IsCollected n us vs ws (count + 1) edges sum
collected_skip n us vs ws count edges total sum h none same summed = record {
  within = h.within;
  few = omega (arith, h.few);
  total_is = omega (arith, h.total_is, same);
  weights = λ s. omega (arith, h.weights s, none s, sum_by-map-range_with_len_more (term (parts s)) (entry us vs ws) 0 count count (omega arith));
  summed = summed;
}

-- an edge between the vertices of a place, of its weight
pub same_term : (us vs ws : List ℕ) (count : ℕ) (e : Edge) (s : VertexSet) → parts s e.u e.v ≡ parts s (entry us vs ws count).u (entry us vs ws count).v → e.w ≡ (entry us vs ws count).w → term (parts s) e ≡ term (parts s) (entry us vs ws count)
same_term us vs ws count e s p w = ap (λ b. if b then e.w else 0) p ∙ ap (λ x. if parts s (entry us vs ws count).u (entry us vs ws count).v then x else 0) w

-- an edge that parts what the entry parts, with its weight
pub collected_push : (n : ℕ) (us vs ws : List ℕ) (count : ℕ) (edges longer : List Edge) (total sum : ℕ) (e : Edge) → IsCollected n us vs ws count edges total →
    longer ≡ edges ++ e ∷ [] → IsEdgeWithin n e → sum ≡ total + e.w → ((s : VertexSet) → term (parts s) e ≡ term (parts s) (entry us vs ws count)) →
    IsSummed n us vs ws (count + 1) sum → IsCollected n us vs ws (count + 1) longer sum
collected_push n us vs ws count edges longer total sum e h is within more same summed = rw is (record {
  within = All-push (IsEdgeWithin n) edges e h.within within;
  few = omega (arith, length_push edges e, h.few);
  total_is = omega (arith, sum_by_push (λ (d : Edge). d.w) edges e, h.total_is, more);
  weights = λ s. omega (arith, sum_by_push (term (parts s)) edges e, h.weights s, same s, sum_by-map-range_with_len_more (term (parts s)) (entry us vs ws) 0 count count (omega arith));
  summed = summed;
})

-- once all places were collected
pub all_places : (n : ℕ) (us vs ws : List ℕ) (count : ℕ) (edges : List Edge) (total : ℕ) → IsCollected n us vs ws count edges total → count ≡ length us →
    (s : VertexSet) → sum_by (term (parts s)) edges ≡ weight (given n us vs ws) s
all_places n us vs ws count edges total h e s = h.weights s ∙ ap (λ k. sum_by (term (parts s)) (map (entry us vs ws) (range_with_len 0 k))) e
