use Rattle.std.proofs.Common.{◌≡◌, ◌≤◌, ◌<◌, ◌∙◌, [], ℕ, List, length, get_or, ap, subst, sym, arith}
use Rattle.std.specs.List.{All, fold, flat_map, list_all, range_with_len}
use Rattle.std.specs.Prelude.{slice_index, ◌==◌}
use Rattle.std.proofs.lemmas.Option.{get_or_from_slice_get, slice_get_within}
use Rattle.std.proofs.lemmas.List.Sums.{fold-append}
use Rattle.flat_cactus.specs.FlatCuts.{cycle_edges}
use Rattle.cactus_text.specs.Reading.{relabelled}
use Rattle.cactus_text.specs.Labels.{IsLabelled}
use Rattle.cactus_text.proofs.Rounds.{cycle_next, cycles_end}
use Rattle.cactus_text.proofs.tree.is_joined.Goals as goal

pub cycles-init : goal.cycles-init
cycles-init c =
    let flat = c.args.flat.now in
    let above = c.in_ok-joined.joined.above.items in
    let start = range_with_len 0 (length flat.nodes) in
    let more = flat_map cycle_edges flat.cycles in
    let first : IsLabelled above start = subst (λ n. IsLabelled above (range_with_len 0 n)) c.nodes.ensures c.in_ok-joined.ensures.labels in
    record {
      count = c.join_bridges.ensures.count ∙ c.in_ok-joined.ensures.count ∙ c.nodes.ensures;
      labels = (
        fold relabelled start c.bridges.result.now,
        c.join_bridges.ensures.labels start first,
        fold-append relabelled start flat.bridges more ∙ ap (λ (bs : List (ℕ × ℕ)). fold relabelled (fold relabelled start bs) more) (sym c.bridges.ensures),
      );
    }

pub join_along-requires-clause-below : goal.join_along-requires-clause-below
join_along-requires-clause-below c =
    let cycles = c.args.flat.now.cycles in
    let cycle = c.cycle.result.now in
    let i = c.cycles.i in
    let there : get_or cycles i [] ≡ cycle = get_or_from_slice_get cycles i cycle [] c.cycle.ensures in
    let below : All (λ n. n < length c.args.flat.now.nodes) cycle =
    subst (All (λ n. n < length c.args.flat.now.nodes)) there (c.requires.cycles i [] (slice_get_within cycles i cycle c.cycle.ensures)) in
    subst (λ n. All (λ k. k < n) cycle) (sym c.cycles.invariant.count) below

pub join_along-requires-clause-some : goal.join_along-requires-clause-some
join_along-requires-clause-some c =
    let cycles = c.args.flat.now.cycles in
    let cycle = c.cycle.result.now in
    let i = c.cycles.i in
    let there : get_or cycles i [] ≡ cycle = get_or_from_slice_get cycles i cycle [] c.cycle.ensures in
    let long : 1 ≤ length cycle = subst (λ (l : List ℕ). 1 ≤ length l) there (c.requires.long i [] (slice_get_within cycles i cycle c.cycle.ensures)) in
    long

pub cycles-preserved : goal.cycles-preserved
cycles-preserved c =
    let cycles = c.args.flat.now.cycles in
    let cycle = c.cycle.result.now in
    let i = c.cycles.i in
    let within : i < length cycles = slice_get_within cycles i cycle c.cycle.ensures in
    let there : get_or cycles i [] ≡ cycle = get_or_from_slice_get cycles i cycle [] c.cycle.ensures in
    let (now, is, so) = c.cycles.invariant.labels in
    record {
      count = c.join_along.ensures.count ∙ c.cycles.invariant.count;
      labels = (fold relabelled now (cycle_edges cycle), c.join_along.ensures.labels now is, so ∙ cycle_next cycles now cycle i [] within (sym there));
    }

pub returns : goal.returns
returns c =
    let cycles = c.args.flat.now.cycles in
    let (now, is, so) = c.cycles.invariant.labels in
    let all = so ∙ cycles_end cycles now c.cycles.i (omega (arith, c.cycles-test.false, c.cycles-i-end.ensures)) in
    c.is_one.ensures now is ∙ ap (λ (labels : List ℕ). list_all (λ l. l == slice_index labels 0) labels) (sym all)
