use Rattle.std.proofs.Common.{arith}
use Rattle.answer_pages.proofs.Above.{above_all, above_end, above_next}
use Rattle.answer_pages.proofs.pages.next_above.Goals as goal

pub returns-then-low-n-clause-next : goal.returns-then-low-n-clause-next
returns-then-low-n-clause-next c = above_end 1 c.args.side.now.vertices c.args.low c.args.side.now.members c.n.ensures.ascending (omega arith)

pub returns-then-low-n-clause-all : goal.returns-then-low-n-clause-all
returns-then-low-n-clause-all c = above_all 1 c.args.side.now.vertices 0 c.args.side.now.members c.n.ensures.ascending (omega arith)

pub returns-clause-next : goal.returns-clause-next
returns-clause-next c = above_next c.args.side.now c.args.low c.next_from.result c.n.ensures.ascending c.next_from.ensures

pub returns-clause-all : goal.returns-clause-all
returns-clause-all c = above_all 1 c.args.side.now.vertices 0 c.args.side.now.members c.n.ensures.ascending (omega arith)
