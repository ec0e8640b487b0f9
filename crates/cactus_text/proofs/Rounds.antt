-- What edges make of labels, edge by edge and cycle by cycle.
use Rattle.std.proofs.Common.{◌≡◌, ◌≤◌, ◌<◌, ◌+◌, ◌-◌, ℕ, List, length, get_or, drop, ap, ◌∙◌, refl, arith}
use Rattle.std.specs.Prelude.{slice_index}
use Rattle.std.specs.List.{fold, flat_map}
use Rattle.std.proofs.lemmas.List.{drop_all}
use Rattle.std.proofs.lemmas.List.Sums.{fold-append}
use Rattle.flat_cactus.specs.FlatCuts.{cycle_edges, edges_along}
use Rattle.cactus_text.specs.Reading.{relabelled}
use Rattle.cactus_text.proofs.Suffixes.{drop_next}

pub along_next : (cycle now : List ℕ) (first i : ℕ) → 1 ≤ i → i < length cycle
    → fold relabelled now (edges_along first (slice_index cycle (i - 1)) (drop i cycle))
    ≡ fold relabelled (relabelled now (slice_index cycle (i - 1), slice_index cycle i)) (edges_along first (slice_index cycle (i + 1 - 1)) (drop (i + 1) cycle))
along_next cycle now first i some within =
    let same : i ≡ i + 1 - 1 = omega arith in
    let after = relabelled now (slice_index cycle (i - 1), slice_index cycle i) in
    ap (λ l. fold relabelled now (edges_along first (slice_index cycle (i - 1)) l)) (drop_next cycle i 0 (slice_index cycle i) within refl)
    ∙ ap (λ k. fold relabelled after (edges_along first (slice_index cycle k) (drop (i + 1) cycle))) same

pub along_end : (cycle now : List ℕ) (first i k : ℕ) → length cycle ≤ i → i - 1 ≡ k
    → fold relabelled now (edges_along first (slice_index cycle (i - 1)) (drop i cycle)) ≡ relabelled now (slice_index cycle k, first)
along_end cycle now first i k past is =
    ap (λ l. fold relabelled now (edges_along first (slice_index cycle (i - 1)) l)) (drop_all i cycle past)
    ∙ ap (λ m. relabelled now (slice_index cycle m, first)) is

pub cycle_next : (cycles : List (List ℕ)) (now cycle : List ℕ) (i : ℕ) (d : List ℕ) → i < length cycles → cycle ≡ get_or cycles i d
    → fold relabelled now (flat_map cycle_edges (drop i cycles)) ≡ fold relabelled (fold relabelled now (cycle_edges cycle)) (flat_map cycle_edges (drop (i + 1) cycles))
cycle_next cycles now cycle i d within is =
    ap (λ l. fold relabelled now (flat_map cycle_edges l)) (drop_next cycles i d cycle within is)
    ∙ fold-append relabelled now (cycle_edges cycle) (flat_map cycle_edges (drop (i + 1) cycles))

pub cycles_end : (cycles : List (List ℕ)) (now : List ℕ) (i : ℕ) → length cycles ≤ i → fold relabelled now (flat_map cycle_edges (drop i cycles)) ≡ now
cycles_end cycles now i past = ap (λ l. fold relabelled now (flat_map cycle_edges l)) (drop_all i cycles past)
