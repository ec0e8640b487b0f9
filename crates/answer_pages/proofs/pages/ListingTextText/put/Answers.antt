use Rattle.std.proofs.Common.{◌++◌, ◌∷◌, [], map, length, ℕ, List, ◌∙◌, ◌≡◌, ap, sym}
use Rattle.std.specs.Prelude.{codes}
use Rattle.std.specs.List.{concat, flat_map}
use Rattle.std.proofs.lemmas.Result.{err_from_is_err_and}
use Rattle.std.proofs.lemmas.List.{length-map}
use Rattle.std.proofs.lemmas.List.Folds.{flat_map-map}
use Rattle.vertex_set.specs.Side.{VertexList}
use Rattle.answer_pages.specs.Text.{line}
use Rattle.answer_pages.proofs.Between.{map_joined}
use Rattle.answer_pages.proofs.Putting.{split_then, puts_as, puts_after, puts_failed, line_word, three_parts}
use Rattle.answer_pages.specs.Listings.{side_line}
use Rattle.answer_pages.proofs.pages.ListingTextText.put.Goals as goal

pub returns-in_err-put_line : goal.returns-in_err-put_line
returns-in_err-put_line g c =
    let members = map (λ (s : VertexList). s.members) c.args.self.2.now in
    let value = line (codes "value") (c.args.self.1 ∷ []) in
    let count = line (codes "cuts") (length members ∷ []) in
    let sides = flat_map side_line members in
    puts_as (line_word c.args.page.now value count sides)
    (puts_failed (count ++ sides) c.put_line.new.page (err_from_is_err_and c.from_residual.result c.from_residual.ensures.1).1 c.in_err-put_line.ensures)

pub returns-in_err-put_line-2 : goal.returns-in_err-put_line-2
returns-in_err-put_line-2 g c =
    let members = map (λ (s : VertexList). s.members) c.args.self.2.now in
    let value = line (codes "value") (c.args.self.1 ∷ []) in
    let count : ℕ → List ℕ = λ k. line (codes "cuts") (k ∷ []) in
    let sides = flat_map side_line members in
    let all = length c.args.self.2.now in
    puts_as (three_parts c.args.page.now value (count all) sides ∙ ap (λ (k : ℕ). c.args.page.now ++ (value ++ count k ++ sides)) (sym (length-map c.args.self.2.now (λ (s : VertexList). s.members))))
    (puts_failed sides c.put_line-2.new.page (err_from_is_err_and c.from_residual-in_err-put_line-2.result c.from_residual-in_err-put_line-2.ensures.1).1
    (puts_after (count all) c.in_ok-put_line.ensures.ok c.in_ok-put_line.ensures.cause.ok c.in_err-put_line-2.ensures))

pub returns : goal.returns
returns g c =
    let text = λ (s : VertexList). side_line s.members in
    let members = map (λ (s : VertexList). s.members) c.args.self.2.now in
    let value = line (codes "value") (c.args.self.1 ∷ []) in
    let count : ℕ → List ℕ = λ k. line (codes "cuts") (k ∷ []) in
    let sides = flat_map side_line members in
    let all = length c.args.self.2.now in
    let same : concat (map text c.args.self.2.now) ≡ sides = map_joined text c.args.self.2.now ∙ sym (flat_map-map side_line (λ (s : VertexList). s.members) c.args.self.2.now) in
    puts_as (ap (λ (l : List ℕ). ((c.args.page.now ++ value) ++ count all) ++ l) same
    ∙ three_parts c.args.page.now value (count all) sides ∙ ap (λ (k : ℕ). c.args.page.now ++ (value ++ count k ++ sides)) (sym (length-map c.args.self.2.now (λ (s : VertexList). s.members))))
    (puts_after (concat (map text c.args.self.2.now)) (split_then (count all) c.in_ok-put_line.ensures.ok c.in_ok-put_line-2.ensures.ok)
    (c.in_ok-put_line-2.ensures.cause.ok ∙ c.in_ok-put_line.ensures.cause.ok) c.put_all.ensures.puts)
