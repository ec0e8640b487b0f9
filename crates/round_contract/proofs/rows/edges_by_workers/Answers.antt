use Rattle.std.proofs.Common.{◌≡◌, ℕ, ◌*◌, ◌≤◌, ◌∙◌, ap, length, arith}
use Rattle.std.specs.List.{flat_map}
use Rattle.std.specs.Prelude.{All, IsOk}
use Rattle.std.proofs.lemmas.Grind.{div_ceil_times}
use Rattle.cut_definitions.specs.Contraction.{relabel}
use Rattle.round_contract.specs.Rows.{found_edges}
use Rattle.round_contract.proofs.RowSums.{if_both, runs_of_size}
use Rattle.round_contract.proofs.rows.edges_by_workers.Goals as goal

pub map_indices-requires-after_bounds : goal.map_indices-requires-after_bounds
map_indices-requires-after_bounds g c κs within = λ i l.
    (c.requires.labels, c.requires.members, c.classes-classes.ensures.value, omega (arith, l, c.ranges.workers.fits), omega (arith, c.from-size.ensures, c.div_ceil.type_inv))

pub returns : goal.returns
returns g c =
    let size = c.from-size.result in
    let count = c.classes-classes.result in
    let runs = c.in_ok-runs.runs.items in
    let long : length runs ≡ c.args.workers = omega (arith, c.in_ok-runs.runs.ok, c.in_ok-runs.ensures.len) in
    let enough : count ≤ length runs * size = omega (
      arith,
      (div_ceil_times count c.args.workers c.requires.workers).0,
      ap (λ (k : ℕ). k * c.args.workers) (c.from-size.ensures ∙ c.div_ceil.ensures),
      ap (λ (k : ℕ). k * size) long,
    ) in
    if_both c.joined.result (λ edges. edges.items ≡ flat_map found_edges runs) (λ edges. edges.items ≡ (relabel c.args.graph.now c.args.labels.now).edges) (All (λ run. IsOk run) runs)
    (λ edges e whole. e ∙ runs_of_size c.args.graph.now c.args.labels.now size count runs c.classes-classes.ensures.value enough whole (λ i d l. (c.in_ok-runs.ensures.each i d (omega (arith, l, long))).1.met))
    c.joined.ensures.edges c.joined.ensures.whole
