use Rattle.std.proofs.Common.{length, sym, ◌∙◌, ap, subst}
use Rattle.component_cuts.specs.Parts.{Parts, IsDivision}
use Rattle.component_cuts.proofs.Divided.{length_divided, numbering_divides}
use Rattle.component_cuts.proofs.components.Components.len.Goals as goal

pub returns-clause-value : goal.returns-clause-value
returns-clause-value c = let s = c.self.inside in sym (length_divided s.n s.count s.part_of.items) ∙ ap (λ (p : Parts). length p.parts) c.self.view_is

pub returns-clause-division : goal.returns-clause-division
returns-clause-division c = let s = c.self.inside in subst IsDivision c.self.view_is (numbering_divides s.n s.count s.part_of.items c.self.invariant)
