use Rattle.std.proofs.Common.{sym, subst}
use Rattle.cactus_growth.specs.Ways.{AreVisited}
use Rattle.cactus_growth.proofs.Visits.{some_says, none_says, visited_block}
use Rattle.cactus_growth.proofs.ways.visit_below.Goals as goal

pub returns-in-Some-clause-found : goal.returns-in-Some-clause-found
returns-in-Some-clause-found c = some_says _ c.in_ok-found.field-0 c.in-Some.found c.in-Some.is c.in_ok-found.ensures.found c.args.node.now c.at.result.now c.at.ensures (sym c.nodes.ensures)

pub each_block-preserved : goal.each_block-preserved
each_block-preserved c =
    let node = c.args.node.now in
    let block = c.at.result.now in
    let cur = c.each_block.stack.items in
    let new = c.visit_nodes.new.stack.items in
    record {
      end = c.each_block.invariant.end;
      stacked = visited_block c.args.v node block c.args.depth c.each_block.place c.args.stack.now.items cur new c.at.ensures c.each_block.invariant.stacked
          (subst (λ l. AreVisited c.args.v node c.args.depth l cur new) c.nodes.ensures (none_says c.in_ok-found.field-0 c.in_default.not-Some c.in_ok-found.ensures.none node block c.at.ensures (sym c.nodes.ensures)));
    }
