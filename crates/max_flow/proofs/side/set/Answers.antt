-- What the set has afterwards, vertex by vertex.
use Rattle.max_flow.proofs.Members.{has-listed_either, has-listed_minus, listed_ascends}
use Rattle.max_flow.proofs.side.set.Goals as goal

pub returns-then-is_in-clause-ascending : goal.returns-then-is_in-clause-ascending
returns-then-is_in-clause-ascending c = listed_ascends c.args.side.now.vertices _ c.insert.new.self c.insert.ensures

pub returns-then-is_in-clause-members : goal.returns-then-is_in-clause-members
returns-then-is_in-clause-members c = λ u one to_n.
    has-listed_either c.args.side.now.vertices c.args.v u c.args.side.now.members c.insert.new.self c.args.is_in c.if-is_in.true c.insert.ensures one to_n

pub returns-else-is_in-clause-ascending : goal.returns-else-is_in-clause-ascending
returns-else-is_in-clause-ascending c = listed_ascends c.args.side.now.vertices _ c.remove.new.self c.remove.ensures

pub returns-else-is_in-clause-members : goal.returns-else-is_in-clause-members
returns-else-is_in-clause-members c = λ u one to_n.
    has-listed_minus c.args.side.now.vertices c.args.v u c.args.side.now.members c.remove.new.self c.args.is_in c.if-is_in.false c.remove.ensures one to_n
