use Rattle.std.proofs.Common.{◌∙◌, length, ap, sym}
use Rattle.metis_reader.specs.Numbers.{LineList}
use Rattle.metis_reader.proofs.LineRuns.{length-numbers}
use Rattle.metis_reader.proofs.line_numbers.LineNumbers.len.Goals as goal

pub returns : goal.returns
returns c = sym (length-numbers c.self.inside.runs.items c.self.inside.lines) ∙ ap (λ (l : LineList). length l.items) c.self.view_is
