use Rattle.std.proofs.Common.{length, ◌∙◌, ap, sym}
use Rattle.answer_pages.specs.Lines.{texts}
use Rattle.answer_pages.proofs.Between.{node_count}
use Rattle.answer_pages.proofs.numbered_lines.Lines.count.Goals as goal

pub returns-in-Nodes : goal.returns-in-Nodes
returns-in-Nodes c = c.nodes.ensures ∙ sym (node_count 0 c.in-Nodes.cactus.now.nodes) ∙ ap (λ l. length (texts l)) (sym c.in-Nodes.is)
