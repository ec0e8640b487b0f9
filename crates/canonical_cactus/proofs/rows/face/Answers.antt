use Rattle.std.proofs.Common.{cond, ◌∙◌, ap, sym}
use Rattle.rooted_cactus.specs.Entries.{top_first}
use Rattle.rooted_cactus.proofs.Tops.{reversed_top}
use Rattle.canonical_cactus.specs.Making.{ends_rise}
use Rattle.canonical_cactus.proofs.rows.face.Goals as goal

pub returns-then-not-rises : goal.returns-then-not-rises
returns-then-not-rises c =
    let old = c.args.nodes.now.items in
    let falls = ap (λ l. ends_rise (top_first l)) (sym c.deref.ensures.value) ∙ sym c.rises.ensures ∙ c.if-not-rises.true in
    ap top_first (c.reverse.ensures.items ∙ reversed_top old) ∙ sym (ap (λ b. cond b (top_first old) (top_first (top_first old))) falls)
