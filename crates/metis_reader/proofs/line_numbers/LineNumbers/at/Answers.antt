use Rattle.std.proofs.Common.{◌≡◌, ◌<◌, ◌^◌, ◌∙◌, ℕ, List, length, get_or, ap, sym, subst, arith}
use Rattle.metis_reader.specs.declared.line_numbers.Run.{Run}
use Rattle.metis_reader.specs.Numbers.{LineList, line_from, numbers_of}
use Rattle.metis_reader.proofs.LineRuns.{length-numbers, number_at}
use Rattle.metis_reader.proofs.line_numbers.LineNumbers.at.Goals as goal

inside : (rs : List Run) (n index : ℕ) (items : List ℕ) → numbers_of rs n ≡ items → index < length items → index < n
inside rs n index items is lt = omega (arith, ap length is, length-numbers rs n)

pub line_at-requires : goal.line_at-requires
line_at-requires c =
    let s = c.self.inside in
    let is : numbers_of s.runs.items s.lines ≡ c.args.self.now.items = ap (λ (l : LineList). l.items) c.self.view_is in
    let lt : c.args.index < s.lines = inside s.runs.items s.lines c.args.index c.args.self.now.items is c.requires in
    subst (λ rs. line_from 0 rs c.args.index < 2 ^ 64) (sym c.deref.ensures.value)
    (subst (λ n. n < 2 ^ 64) (number_at s.runs.items s.lines c.args.index lt) (s.fits c.args.index 0 (omega (arith, length-numbers s.runs.items s.lines))))

pub returns : goal.returns
returns c =
    let s = c.self.inside in
    let is : numbers_of s.runs.items s.lines ≡ c.args.self.now.items = ap (λ (l : LineList). l.items) c.self.view_is in
    let lt : c.args.index < s.lines = inside s.runs.items s.lines c.args.index c.args.self.now.items is c.requires in
    c.line_at.ensures ∙ ap (λ rs. line_from 0 rs c.args.index) c.deref.ensures.value ∙ sym (number_at s.runs.items s.lines c.args.index lt) ∙ ap (λ xs. get_or xs c.args.index 0) is
