use Rattle.std.proofs.Common.{◌++◌, ℕ, List, arith, sym, subst}
use Rattle.std.proofs.lemmas.Result.{IfOk-weaker}
use Rattle.row_ranges.specs.Ranges.{HasRange}
use Rattle.row_ranges.proofs.Cut.{cut_at, low_size, low_half, high_half, joined}
use Rattle.row_ranges.proofs.halves.+ranges.Goals as goal

pub fill_ranges-overflow_sub-range : goal.fill_ranges-overflow_sub-range
fill_ranges-overflow_sub-range g t c =
    let cut = cut_at c.args.range.starts.now c.middle-place.result c.middle-place.ensures.1 in
    (low_size _ _ _ _ _ _ _ cut c.requires (omega (arith, c.middle-place.ensures.1))).0

pub fill_ranges-split_at_mut-low_arcs-requires : goal.fill_ranges-split_at_mut-low_arcs-requires
fill_ranges-split_at_mut-low_arcs-requires g t c =
    let cut = cut_at c.args.range.starts.now c.middle-place.result c.middle-place.ensures.1 in
    (low_size _ _ _ _ _ _ _ cut c.requires (omega (arith, c.middle-place.ensures.1))).1

pub fill_ranges-fill_halves-requires-clause-low : goal.fill_ranges-fill_halves-requires-clause-low
fill_ranges-fill_halves-requires-clause-low g t c κs within =
    let cut = cut_at c.args.range.starts.now c.middle-place.result c.middle-place.ensures.1 in
    low_half _ _ _ _ _ _ _ cut c.requires _ c.middle-place.ensures.0 c.middle-place.ensures.1 c.split_at_mut-low_arcs.ensures.front_len

pub fill_ranges-fill_halves-requires-clause-high : goal.fill_ranges-fill_halves-requires-clause-high
fill_ranges-fill_halves-requires-clause-high g t c κs within =
    let cut = cut_at c.args.range.starts.now c.middle-place.result c.middle-place.ensures.1 in
    high_half _ _ _ _ _ _ _ cut c.requires _ c.middle-place.ensures.1 c.split_at_mut-low_arcs.ensures.back_len

pub fill_ranges-returns : goal.fill_ranges-returns
fill_ranges-returns g t c =
    let range = c.args.range in
    let cut = cut_at range.starts.now c.middle-place.result c.middle-place.ensures.1 in
    let front = c.fill_halves.new.low_arcs in
    let back = c.fill_halves.new.high_arcs in
    IfOk-weaker c.fill_halves.result _ _
    (λ degrees both.
    subst (λ (all : List ℕ). HasRange range.edges.now range.starts.now range.first (front ++ back) all) (sym both.2)
    (joined _ _ _ _ _ _ _ cut c.requires front back both.0 both.1 c.middle-place.ensures.1
    (omega (arith, c.split_at_mut-low_arcs.ensures.front_len, c.fill_halves.auto.low_arcs)) both.3 both.4))
    c.fill_halves.ensures
