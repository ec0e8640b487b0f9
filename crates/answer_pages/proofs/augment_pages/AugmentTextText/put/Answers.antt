use Rattle.std.proofs.Common.{◌++◌, ◌∷◌, [], ℕ, List, length, ◌∙◌, refl}
use Rattle.std.specs.Prelude.{codes}
use Rattle.std.specs.List.{flat_map}
use Rattle.std.proofs.lemmas.Result.{err_from_is_err_and}
use Rattle.answer_pages.specs.Text.{line}
use Rattle.answer_pages.proofs.Putting.{split_then, puts_as, puts_after, puts_failed}
use Rattle.answer_pages.specs.Augmenting.{edge_line, set_line}
use Rattle.answer_pages.proofs.Augmented.{first_of_five, two_of_five, three_of_five, all_five, parts_told}
use Rattle.answer_pages.proofs.augment_pages.AugmentTextText.put.Goals as goal

pub returns-in_err-put_line : goal.returns-in_err-put_line
returns-in_err-put_line g c =
    let page = c.args.page.now in
    let plan = c.args.self.1.now in
    let value = line (codes "value") (c.args.self.0 ∷ []) in
    let edges = c.edges-edges.result.now in
    let number = line (codes "edges") (length edges ∷ []) in
    let lines = flat_map edge_line edges in
    let count : ℕ → List ℕ = λ k. line (codes "sets") (k ∷ []) in
    let sets = flat_map set_line plan.sets in
    let all = length plan.sets in
    puts_as (first_of_five page value number lines (count all) sets ∙ parts_told page c.args.self.0 plan edges all c.edges-edges.ensures refl)
    (puts_failed (number ++ lines ++ count all ++ sets) c.put_line.new.page (err_from_is_err_and c.from_residual.result c.from_residual.ensures.1).1 c.in_err-put_line.ensures)

pub returns-in_err-put_line-2 : goal.returns-in_err-put_line-2
returns-in_err-put_line-2 g c =
    let page = c.args.page.now in
    let plan = c.args.self.1.now in
    let value = line (codes "value") (c.args.self.0 ∷ []) in
    let edges = c.edges-edges.result.now in
    let number = line (codes "edges") (length edges ∷ []) in
    let lines = flat_map edge_line edges in
    let count : ℕ → List ℕ = λ k. line (codes "sets") (k ∷ []) in
    let sets = flat_map set_line plan.sets in
    let all = length plan.sets in
    let back = c.from_residual-in_err-put_line-2 in
    puts_as (two_of_five page value number lines (count all) sets ∙ parts_told page c.args.self.0 plan edges all c.edges-edges.ensures refl)
    (puts_failed (lines ++ count all ++ sets) c.put_line-2.new.page (err_from_is_err_and back.result back.ensures.1).1
    (puts_after number c.in_ok-put_line.ensures.ok c.in_ok-put_line.ensures.cause.ok c.in_err-put_line-2.ensures))

pub returns-in_err-put_edges : goal.returns-in_err-put_edges
returns-in_err-put_edges g c =
    let page = c.args.page.now in
    let plan = c.args.self.1.now in
    let value = line (codes "value") (c.args.self.0 ∷ []) in
    let edges = c.edges-edges.result.now in
    let number = line (codes "edges") (length edges ∷ []) in
    let lines = flat_map edge_line edges in
    let count : ℕ → List ℕ = λ k. line (codes "sets") (k ∷ []) in
    let sets = flat_map set_line plan.sets in
    let all = length plan.sets in
    let back = c.from_residual-in_err-put_edges in
    puts_as (three_of_five page value number lines (count all) sets ∙ parts_told page c.args.self.0 plan edges all c.edges-edges.ensures refl)
    (puts_failed (count all ++ sets) c.put_edges.new.page (err_from_is_err_and back.result back.ensures.1).1
    (puts_after lines (split_then number c.in_ok-put_line.ensures.ok c.in_ok-put_line-2.ensures.ok)
    (c.in_ok-put_line-2.ensures.cause.ok ∙ c.in_ok-put_line.ensures.cause.ok) c.in_err-put_edges.ensures))

pub returns-in_err-put_line-3 : goal.returns-in_err-put_line-3
returns-in_err-put_line-3 g c =
    let page = c.args.page.now in
    let plan = c.args.self.1.now in
    let value = line (codes "value") (c.args.self.0 ∷ []) in
    let edges = c.edges-edges.result.now in
    let number = line (codes "edges") (length edges ∷ []) in
    let lines = flat_map edge_line edges in
    let count : ℕ → List ℕ = λ k. line (codes "sets") (k ∷ []) in
    let sets = flat_map set_line plan.sets in
    let all = c.sets.result in
    let upper = split_then lines (split_then number c.in_ok-put_line.ensures.ok c.in_ok-put_line-2.ensures.ok) c.in_ok-put_edges.ensures.ok in
    let same = c.in_ok-put_edges.ensures.cause.ok ∙ c.in_ok-put_line-2.ensures.cause.ok ∙ c.in_ok-put_line.ensures.cause.ok in
    let back = c.from_residual-in_err-put_line-3 in
    puts_as (all_five page value number lines (count all) sets ∙ parts_told page c.args.self.0 plan edges all c.edges-edges.ensures c.sets.ensures)
    (puts_failed sets c.put_line-3.new.page (err_from_is_err_and back.result back.ensures.1).1
    (puts_after (count all) upper same c.in_err-put_line-3.ensures))

pub returns : goal.returns
returns g c =
    let page = c.args.page.now in
    let plan = c.args.self.1.now in
    let value = line (codes "value") (c.args.self.0 ∷ []) in
    let edges = c.edges-edges.result.now in
    let number = line (codes "edges") (length edges ∷ []) in
    let lines = flat_map edge_line edges in
    let count : ℕ → List ℕ = λ k. line (codes "sets") (k ∷ []) in
    let sets = flat_map set_line plan.sets in
    let all = c.sets.result in
    let upper = split_then lines (split_then number c.in_ok-put_line.ensures.ok c.in_ok-put_line-2.ensures.ok) c.in_ok-put_edges.ensures.ok in
    let same = c.in_ok-put_edges.ensures.cause.ok ∙ c.in_ok-put_line-2.ensures.cause.ok ∙ c.in_ok-put_line.ensures.cause.ok in
    puts_as (all_five page value number lines (count all) sets ∙ parts_told page c.args.self.0 plan edges all c.edges-edges.ensures c.sets.ensures)
    (puts_after sets (split_then (count all) upper c.in_ok-put_line-3.ensures.ok) (c.in_ok-put_line-3.ensures.cause.ok ∙ same) c.put_sets.ensures)
