use Rattle.std.proofs.Common.{take, refl, sym, ◌∙◌}
use Rattle.std.proofs.lemmas.Bool.{false≢true, or_right}
use Rattle.cactus_growth.specs.Insertion.{edge_between, is_joined}
use Rattle.job_replies.proofs.Sizes.{is_among, none_made, none_there, one_made, some_left}
use Rattle.job_replies.proofs.limits.new_edges.Goals as goal
use Rattle.job_replies.proofs.limits.new_edges.Goals.{then-has_edge, else-has_edge}

pub returns-then-is_repeated : goal.returns-then-is_repeated
returns-then-is_repeated c =
    let g = c.args.list.now in
    let before = take c.args.count c.args.insertions.now in
    let e = edge_between c.args.insertion.0 c.args.insertion.1 c.args.insertion.2 in
    none_made g before e 0 refl
    (elim c.if-has_edge.branch [
      | then-has_edge w ↦ some_left (is_joined e g.edges) (is_among e before) (sym c.has_edge.ensures ∙ w.if-has_edge.true)
      | else-has_edge w ↦ or_right (is_joined e g.edges) (is_among e before) (sym w.is_repeated.ensures ∙ sym w.value-is ∙ c.if-is_repeated.true)
    ])

pub returns-else-is_repeated : goal.returns-else-is_repeated
returns-else-is_repeated c =
    let g = c.args.list.now in
    let before = take c.args.count c.args.insertions.now in
    let e = edge_between c.args.insertion.0 c.args.insertion.1 c.args.insertion.2 in
    one_made g before e 1 refl
    (elim c.if-has_edge.branch [
      | then-has_edge w ↦ absurd (false≢true (sym c.if-is_repeated.false ∙ w.value-is ∙ w.if-has_edge.true))
      | else-has_edge w ↦ none_there g before e (sym c.has_edge.ensures ∙ w.if-has_edge.false) (sym w.is_repeated.ensures ∙ sym w.value-is ∙ c.if-is_repeated.false)
    ])
