use Rattle.std.proofs.Common.{◌≡◌, ℕ, ◌+◌, ◌*◌, ◌<◌, List, [], get_or, sym, ◌∙◌, subst, ap, arith}
use Rattle.vertex_set.specs.Side.{VertexList, members_of}
use Rattle.mincut_c.specs.Rows.{byte_of}
use Rattle.mincut_c.proofs.RowBytes.{members_at, next_row, row_more}
use Rattle.mincut_c.proofs.rows.put_rows.Goals as goal

pub sides-preserved : goal.sides-preserved
sides-preserved c =
    let n = c.args.n in
    let k = c.sides.k in
    let side = c.index-sides-k.result in
    let new = c.put_row.new.inside in
    let over : side.vertices ≡ n = ap (λ (s : VertexList). s.vertices) c.index-sides-k.is ∙ c.requires.over_n k side c.sides-test.true in
    let members : get_or (members_of c.args.sides.now) k [] ≡ side.members = members_at c.args.sides.now k side c.sides-test.true c.index-sides-k.is in
    let row : (v : ℕ) → v < n → get_or new (k * n + v) 0 ≡ byte_of (get_or (members_of c.args.sides.now) k []) v = λ v lt.
    subst (λ (ms : List ℕ). get_or new (k * n + v) 0 ≡ byte_of ms v) (sym members)
    (subst (λ (p : ℕ). get_or new (p + v) 0 ≡ byte_of side.members v) c.sides.invariant.start (c.put_row.ensures.told v (omega (arith, lt, over)))) in
    record {
      start = omega (arith, c.sides.invariant.start, next_row n k);
      told = row_more n k (members_of c.args.sides.now) c.sides.inside new c.sides.invariant.told (λ i lt. c.put_row.ensures.before i (omega (arith, lt, c.sides.invariant.start))) row;
      behind = λ i le. c.put_row.ensures.behind i (omega (arith, le, over)) ∙ c.sides.invariant.behind i (omega (arith, le));
    }
