-- The bound of classes that are tied is above the value.
use Rattle.cactus_solver.proofs.ByClasses.{tied_at_value}
use Rattle.cactus_solver.proofs.list_classes.classes_of.Goals as goal

pub between-requires-clause-tied : goal.between-requires-clause-tied
between-requires-clause-tied c =
    let are = rw c.in-Some.is at c.requires.ties in
    tied_at_value c.args.list.now c.args.value c.in-Some.field-0.bound c.in-Some.field-0.labels c.requires.value are.above are.tied
