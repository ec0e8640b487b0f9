use Rattle.std.proofs.Common.{◌≡◌, ◌<◌, [], length, get_or, sym, arith}
use Rattle.std.proofs.lemmas.Option.{get_or_from_slice_get, slice_get_within}
use Rattle.cactus_text.proofs.Suffixes.{sum_next}
use Rattle.cactus_text.proofs.tree.has_edges_of_tree.Goals as goal

pub cycles-preserved : goal.cycles-preserved
cycles-preserved c =
    let cycles = c.args.flat.now.cycles in
    let cycle = c.cycle.result.now in
    let i = c.cycles.i in
    let within : i < length cycles = slice_get_within cycles i cycle c.cycle.ensures in
    let there : get_or cycles i [] ≡ cycle = get_or_from_slice_get cycles i cycle [] c.cycle.ensures in
    let next = sum_next cycles i [] cycle within (sym there) in
    record {
      most = omega (arith, next, c.cycles.invariant.most, c.saturating_add-edges.ensures);
      exact = λ small. omega (arith, next, c.cycles.invariant.exact (omega (arith, small, c.saturating_add-edges.ensures)), small, c.saturating_add-edges.ensures);
    }
