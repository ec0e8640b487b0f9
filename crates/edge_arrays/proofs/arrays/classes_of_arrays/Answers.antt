use Rattle.edge_arrays.proofs.Joined.{zero_alone}
use Rattle.edge_arrays.proofs.arrays.classes_of_arrays.Goals as goal

pub returns-clause-apart : goal.returns-clause-apart
returns-clause-apart c = zero_alone c.args.n c.args.us.now c.args.vs.now c.args.ws.now c.join_ends.new.classes c.in_ok-join_ends.ensures.joined
