use Rattle.std.proofs.Common.{ℕ, List, [], ◌∷◌, ◌++◌, ◌∙◌, ap, map, refl}
use Rattle.std.proofs.lemmas.Result.{err_from_is_err_and}
use Rattle.std.specs.List.{concat}
use Rattle.std.specs.Prelude.{codes}
use Rattle.answer_pages.specs.Lines.{node_texts}
use Rattle.answer_pages.specs.Text.{first_line, line}
use Rattle.answer_pages.proofs.Between.{flat_text}
use Rattle.answer_pages.proofs.Putting.{split_then, puts_as, puts_after, puts_failed, text_first, text_second, text_parts}
use Rattle.answer_pages.proofs.printing.CactusTextText.put.Goals as goal

pub returns-in_err-put_first_line : goal.returns-in_err-put_first_line
returns-in_err-put_first_line g c =
    let page = c.args.page.now in
    let flat = c.args.self.2.now in
    let first = first_line c.args.self.1 flat in
    let nodes = concat (node_texts 0 flat.nodes) in
    let bridges = concat (map (λ (b : ℕ × ℕ). line (codes "bridge") (b.0 ∷ b.1 ∷ [])) flat.bridges) in
    let cycles = concat (map (line (codes "cycle")) flat.cycles) in
    puts_as (text_first page first nodes bridges cycles ∙ ap (λ (l : List ℕ). page ++ l) (flat_text first flat flat.bridges refl))
    (puts_failed (nodes ++ bridges ++ cycles) c.put_first_line.new.page (err_from_is_err_and c.from_residual.result c.from_residual.ensures.1).1 c.in_err-put_first_line.ensures)

pub returns-in_err-put_all : goal.returns-in_err-put_all
returns-in_err-put_all g c =
    let page = c.args.page.now in
    let flat = c.args.self.2.now in
    let first = first_line c.args.self.1 flat in
    let nodes = concat (node_texts 0 flat.nodes) in
    let bridges = concat (map (λ (b : ℕ × ℕ). line (codes "bridge") (b.0 ∷ b.1 ∷ [])) flat.bridges) in
    let cycles = concat (map (line (codes "cycle")) flat.cycles) in
    let back = c.from_residual-in_err-put_all in
    puts_as (text_second page first nodes bridges cycles ∙ ap (λ (l : List ℕ). page ++ l) (flat_text first flat flat.bridges refl))
    (puts_failed (bridges ++ cycles) c.put_all.new.page (err_from_is_err_and back.result back.ensures.1).1
    (puts_after nodes c.in_ok-put_first_line.ensures.ok c.in_ok-put_first_line.ensures.cause.ok c.in_err-put_all.ensures.puts))

pub returns-in_err-put_all-2 : goal.returns-in_err-put_all-2
returns-in_err-put_all-2 g c =
    let page = c.args.page.now in
    let flat = c.args.self.2.now in
    let first = first_line c.args.self.1 flat in
    let nodes = concat (node_texts 0 flat.nodes) in
    let bridges = concat (map (λ (b : ℕ × ℕ). line (codes "bridge") (b.0 ∷ b.1 ∷ [])) c.bridges.result.now) in
    let cycles = concat (map (line (codes "cycle")) flat.cycles) in
    let back = c.from_residual-in_err-put_all-2 in
    puts_as (text_parts page first nodes bridges cycles ∙ ap (λ (l : List ℕ). page ++ l) (flat_text first flat c.bridges.result.now c.bridges.ensures))
    (puts_failed cycles c.put_all-2.new.page (err_from_is_err_and back.result back.ensures.1).1
    (puts_after bridges (split_then nodes c.in_ok-put_first_line.ensures.ok c.in_ok-put_all.ensures.puts.ok)
    (c.in_ok-put_all.ensures.puts.cause.ok ∙ c.in_ok-put_first_line.ensures.cause.ok) c.in_err-put_all-2.ensures.puts))

pub returns : goal.returns
returns g c =
    let page = c.args.page.now in
    let flat = c.args.self.2.now in
    let first = first_line c.args.self.1 flat in
    let nodes = concat (node_texts 0 flat.nodes) in
    let bridges = concat (map (λ (b : ℕ × ℕ). line (codes "bridge") (b.0 ∷ b.1 ∷ [])) c.bridges.result.now) in
    let cycles = concat (map (line (codes "cycle")) flat.cycles) in
    puts_as (text_parts page first nodes bridges cycles ∙ ap (λ (l : List ℕ). page ++ l) (flat_text first flat c.bridges.result.now c.bridges.ensures))
    (puts_after cycles (split_then bridges (split_then nodes c.in_ok-put_first_line.ensures.ok c.in_ok-put_all.ensures.puts.ok) c.in_ok-put_all-2.ensures.puts.ok)
    (c.in_ok-put_all-2.ensures.puts.cause.ok ∙ c.in_ok-put_all.ensures.puts.cause.ok ∙ c.in_ok-put_first_line.ensures.cause.ok) c.put_all-3.ensures.puts)
