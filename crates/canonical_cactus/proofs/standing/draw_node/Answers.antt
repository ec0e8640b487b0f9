use Rattle.std.proofs.Common.{◌∙◌, map, ap, sym}
use Rattle.rooted_cactus.specs.Trees.{vertices, blocks}
use Rattle.canonical_cactus.specs.Canonical.{Arranged, all_vertices, arranged_block}
use Rattle.canonical_cactus.specs.Standing.{least_in, lesser_of}
use Rattle.canonical_cactus.proofs.Arrangement.{arranged_out}
use Rattle.canonical_cactus.proofs.Ascending.{least_both}
use Rattle.canonical_cactus.proofs.standing.draw_node.Goals as goal

pub returns-clause-least : goal.returns-clause-least
returns-clause-least c =
    let x = c.args.node.now in
    c.lesser.ensures ∙ ap (λ o. lesser_of o c.draw_blocks-below.result.least) c.least_vertex-own.ensures
    ∙ ap (lesser_of (least_in (vertices x))) c.draw_blocks-below.ensures.least
    ∙ sym (ap (λ (a : Arranged). least_in a.vertices) (arranged_out x) ∙ least_both (vertices x) (all_vertices (map arranged_block (blocks x))))
