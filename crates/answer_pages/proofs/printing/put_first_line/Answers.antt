use Rattle.std.proofs.Common.{ℕ, List, [], ◌∷◌, ◌++◌, ◌∙◌, ap, length}
use Rattle.std.specs.Prelude.{codes}
use Rattle.answer_pages.specs.Text.{line}
use Rattle.answer_pages.proofs.Putting.{puts_as}
use Rattle.answer_pages.proofs.printing.put_first_line.Goals as goal

pub returns : goal.returns
returns g c =
    let flat = c.args.cactus.now in
    let text : ℕ → ℕ → List (ℕ × ℕ) → ℕ → List ℕ = λ n nodes bridges cycles.
    c.args.page.now ++ line (codes "cactus") (c.args.value ∷ n ∷ nodes ∷ length bridges ∷ cycles ∷ []) in
    puts_as (ap (λ n. text n c.nodes.result c.bridges.result.now c.cycles.result) c.n.ensures
    ∙ ap (λ nodes. text flat.vertices nodes c.bridges.result.now c.cycles.result) c.nodes.ensures
    ∙ ap (λ bridges. text flat.vertices (length flat.nodes) bridges c.cycles.result) c.bridges.ensures
    ∙ ap (λ cycles. text flat.vertices (length flat.nodes) flat.bridges cycles) c.cycles.ensures)
    c.put_line.ensures
