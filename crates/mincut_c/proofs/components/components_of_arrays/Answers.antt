use Rattle.edge_arrays.specs.Given.{given}
use Rattle.mincut_c.proofs.Numbered.{numbered}
use Rattle.mincut_c.proofs.components.components_of_arrays.Goals as goal

pub returns-clause-told : goal.returns-clause-told
returns-clause-told c = λ out copied.
    numbered (given c.args.n c.args.us.now c.args.vs.now c.args.ws.now) c.in_ok-classes.classes c.in_ok-labels.labels out c.in_ok-classes.ensures.long c.in_ok-classes.ensures.joined c.in_ok-labels.ensures copied
