use Rattle.std.proofs.Common.{◌≡◌, ◌+◌, ℕ, get_or, arith}
use Rattle.std.proofs.lemmas.List.Elements.{All-from_get_or}
use Rattle.scan_forest.specs.Table.{cell}
use Rattle.scan_forest.proofs.table_scan.absorb.Goals as goal

pub returns : goal.returns
returns c = record {
  added = All-from_get_or (λ (y : ℕ). get_or c.loop-y.reached y 0 ≡ get_or c.args.reached.now y 0 + cell c.args.table.now.cells.items c.args.table.now.size c.args.x y) c.args.waiting.now 0
      (λ k l. c.loop-y.invariant.done k (omega (arith, c.loop-y-test.false, l)));
}
