use Rattle.std.proofs.Common.{length, ◌∙◌, ap, sym, arith}
use Rattle.rooted_cactus.specs.Numbers.{triangle}
use Rattle.rooted_cactus.proofs.Tallies.{own_is, triangle_twice}
use Rattle.rooted_cactus.proofs.tree.number.cuts_of_block.Goals as goal

pub overflow_mul-result : goal.overflow_mul-result
overflow_mul-result c =
    let own = ap (λ xs. triangle (length xs)) c.nodes.ensures ∙ sym (own_is c.args.block.now) in
    omega (arith, triangle_twice (length c.nodes.result.now), own, c.requires)

pub returns : goal.returns
returns c =
    let own = ap (λ xs. triangle (length xs)) c.nodes.ensures ∙ sym (own_is c.args.block.now) in
    omega (arith, triangle_twice (length c.nodes.result.now), own)
