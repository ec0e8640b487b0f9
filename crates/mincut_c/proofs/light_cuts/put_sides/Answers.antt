-- One row more.
use Rattle.std.proofs.Common.{◌≡◌, ℕ, ◌+◌, ◌*◌, ◌<◌, List, [], get_or, sym, ◌∙◌, subst, arith}
use Rattle.least_cut.specs.CutsBelow.{sides_in}
use Rattle.mincut_c.specs.Rows.{byte_of}
use Rattle.mincut_c.proofs.LightCuts.{side_in}
use Rattle.mincut_c.proofs.RowBytes.{next_row, row_more}
use Rattle.mincut_c.proofs.light_cuts.put_sides.Goals as goal

pub cuts-preserved : goal.cuts-preserved
cuts-preserved c =
    let n = c.args.n in
    let k = c.cuts.k in
    let cut = get_or c.args.cuts.now k c.index-cuts-k.result in
    let new = c.put_row.new.inside in
    let over : cut.side.vertices ≡ n = c.requires.over_n k c.index-cuts-k.result c.cuts-test.true in
    let members : get_or (sides_in c.args.cuts.now) k [] ≡ cut.side.members = side_in c.args.cuts.now k c.index-cuts-k.result c.cuts-test.true in
    let row : (v : ℕ) → v < n → get_or new (k * n + v) 0 ≡ byte_of (get_or (sides_in c.args.cuts.now) k []) v = λ v lt.
    subst (λ (ms : List ℕ). get_or new (k * n + v) 0 ≡ byte_of ms v) (sym members)
    (subst (λ (p : ℕ). get_or new (p + v) 0 ≡ byte_of cut.side.members v) c.cuts.invariant.start (c.put_row.ensures.told v (omega (arith, lt, over)))) in
    record {
      start = omega (arith, c.cuts.invariant.start, next_row n k);
      told = row_more n k (sides_in c.args.cuts.now) c.cuts.inside new c.cuts.invariant.told (λ i lt. c.put_row.ensures.before i (omega (arith, lt, c.cuts.invariant.start))) row;
      behind = λ i le. c.put_row.ensures.behind i (omega (arith, le, over)) ∙ c.cuts.invariant.behind i (omega (arith, le));
    }
