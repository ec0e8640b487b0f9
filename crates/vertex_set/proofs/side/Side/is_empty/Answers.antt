use Rattle.vertex_set.proofs.Members.{empty_by_next}
use Rattle.vertex_set.proofs.side.Side.is_empty.Goals as goal

pub returns : goal.returns
returns c = empty_by_next c.args.self.now c.next_from.result c.is_none.result c.is_none.ensures c.next_from.ensures
