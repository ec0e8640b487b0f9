use Rattle.std.proofs.Common.{◌∙◌, ap}
use Rattle.cactus_growth.specs.Insertion.{is_joined}
use Rattle.cactus_growth.proofs.Joined.{place_filled}
use Rattle.cactus_growth.proofs.insertion.has_edge.Goals as goal

pub returns : goal.returns
returns c =
    let ends = c.edge_between-ends.result in
    let edges = c.edges-edges.result.now in
    let first = c.place_before-first in
    let end = c.place_behind-end in
    place_filled ends edges first.result end.result first.ensures.within end.ensures.within first.ensures.parted end.ensures.parted
    ∙ ap (is_joined ends) c.edges-edges.ensures.value ∙ ap (λ e. is_joined e c.args.list.now.edges) c.edge_between-ends.ensures
