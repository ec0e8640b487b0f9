use Rattle.std.proofs.Common.{◌≡◌, ◌∙◌, false, ap, sym}
use Rattle.std.specs.Prelude.{nat_lt}
use Rattle.rooted_cactus.specs.Numbers.{is_inner}
use Rattle.canonical_cactus.proofs.Inner.{leaf_least}
use Rattle.canonical_cactus.proofs.standing.draw_least.Goals as goal

pub returns-then-len-eq0-clause-least : goal.returns-then-len-eq0-clause-least
returns-then-len-eq0-clause-least c =
    let leaf : is_inner c.args.node.now ≡ false = ap (nat_lt 0) (sym c.len.ensures ∙ c.if-len-eq0.true) in
    c.least_vertex.ensures ∙ sym (leaf_least c.args.node.now leaf)
