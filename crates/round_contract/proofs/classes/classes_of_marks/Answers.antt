-- The classes are those of the marks, and their labels.
use Rattle.std.proofs.Common.{arith}
use Rattle.cut_definitions.specs.Cuts.{has}
use Rattle.vertex_classes.specs.Classes.{no_vertex}
use Rattle.round_contract.proofs.Marked.{classes_are_those, zero_alone}
use Rattle.round_contract.proofs.classes.classes_of_marks.Goals as goal

pub of_classes-requires : goal.of_classes-requires
of_classes-requires c = (c.join_marked.ensures.joined no_vertex).1 (zero_alone c.args.graph.now c.n-n.ensures.edge_list.is_graph (has c.args.marks.now.marked))

pub returns-clause-vertices : goal.returns-clause-vertices
returns-clause-vertices c = omega (arith, c.in_ok-labels.ensures.long, c.join_marked.ensures.long, c.n-n.ensures.value, c.in_ok-classes.ensures.long)

pub returns-clause-classes : goal.returns-clause-classes
returns-clause-classes c =
    classes_are_those c.args.graph.now (has c.args.marks.now.marked) c.join_marked.new.classes c.in_ok-labels.labels
    (omega (arith, c.join_marked.ensures.long, c.n-n.ensures.value, c.in_ok-classes.ensures.long)) c.join_marked.ensures.joined c.in_ok-labels.ensures
