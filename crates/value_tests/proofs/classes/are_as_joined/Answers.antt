-- 0 stays alone.
use Rattle.std.proofs.Common.{refl}
use Rattle.vertex_classes.specs.Classes.{no_vertex}
use Rattle.value_tests.proofs.classes.are_as_joined.Goals as goal

pub of_classes-requires : goal.of_classes-requires
of_classes-requires c =
    let first = (c.join.ensures.respected no_vertex).1 (c.in_ok-classes.ensures.alone no_vertex, refl) in
    let second = (c.join-2.ensures.respected no_vertex).1 (first, refl) in
    let third = (c.are_joined-joined.ensures.same.respected no_vertex).1 second in
    (c.are_joined-apart.ensures.same.respected no_vertex).1 third
