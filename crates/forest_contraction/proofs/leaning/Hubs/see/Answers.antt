use Rattle.std.proofs.Common.{refl}
use Rattle.forest_contraction.proofs.Hubs.{hub_seen}
use Rattle.forest_contraction.proofs.leaning.Hubs.see.Goals as goal

pub returns-then-index : goal.returns-then-index
returns-then-index c = λ g are v_in x_in some small joined. hub_seen g c.args.self.now _ c.args.v c.args.neighbour c.args.weight are v_in x_in some small joined refl refl refl
