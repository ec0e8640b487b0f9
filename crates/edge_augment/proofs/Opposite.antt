-- The edges between opposite sets, one after another.
use Rattle.std.proofs.Common.{◌≡◌, ℕ, suc, ◌+◌, ◌-◌, ◌/◌, ◌<◌, List, [], ◌∷◌, ◌++◌, length, get_or, take, ap, ◌∙◌, sym, arith}
use Rattle.std.specs.List.{All}
use Rattle.std.proofs.Math.Seq.{take-suc, take-length}
use Rattle.std.proofs.lemmas.List.{get_or_default, length-map}
use Rattle.cut_definitions.specs.Cuts.{least}
use Rattle.edge_augment.specs.NewEdges.{least_at, new_edges, opposite_pairs, upward}
use Rattle.edge_augment.proofs.Different.{edge_at}
use Rattle.edge_augment.proofs.Pairing.{number}

-- the least number of each list is its first one
abbrev pub AreLed : List (List ℕ) → Type 0
AreLed sets = All (λ set. least set ≡ get_or set 0 0) sets

-- the first vertex of a set, read by its place
pub first_is : (sets : List (List ℕ)) (i : ℕ) (x : List ℕ) (u : ℕ) → AreLed sets → i < length sets → x ≡ get_or sets i x → u ≡ get_or x 0 0 → u ≡ least_at sets i
first_is sets i x u led lt is first = first ∙ ap (λ l. get_or l 0 0) is ∙ sym (led i x lt) ∙ ap least (get_or_default sets i x [] lt)

-- how many edges there are
pub edges_long : (sets : List (List ℕ)) → length (new_edges sets) ≡ length sets - length sets / 2
edges_long sets = length-map (opposite_pairs sets) upward ∙ number sets

-- one edge more
pub next_edge : (sets : List (List ℕ)) (i u v : ℕ) (e : ℕ × ℕ) (done more : List (ℕ × ℕ)) → i < length sets - length sets / 2 → u ≡ least_at sets i → v ≡ least_at sets (i + length sets / 2) →
    e ≡ upward (u, v) → more ≡ done ++ e ∷ [] → done ≡ take i (new_edges sets) → more ≡ take (i + 1) (new_edges sets)
next_edge sets i u v e done more lt first second is m d =
    let here : e ≡ get_or (new_edges sets) i e = is ∙ ap (λ w. upward (w, v)) first ∙ ap (λ w. upward (least_at sets i, w)) second ∙ sym (edge_at sets i e lt) in
    let next : suc i ≡ i + 1 = omega arith in
    m ∙ ap (λ l. l ++ e ∷ []) d ∙ ap (λ p. take i (new_edges sets) ++ p ∷ []) here ∙ sym (take-suc (new_edges sets) i e (omega (arith, lt, edges_long sets))) ∙ ap (λ k. take k (new_edges sets)) next

-- all edges are there
pub last_edge : (sets : List (List ℕ)) (i : ℕ) (done : List (ℕ × ℕ)) → i ≡ length sets - length sets / 2 → done ≡ take i (new_edges sets) → done ≡ new_edges sets
last_edge sets i done e d = d ∙ ap (λ k. take k (new_edges sets)) (e ∙ sym (edges_long sets)) ∙ take-length (new_edges sets)
