use Rattle.std.proofs.Common.{◌≡◌, ◌-◌, length, true, false, sym, ◌∙◌, arith}
use Rattle.std.proofs.lemmas.Bool.{leb-true, lt-ltb, ltb-true}
use Rattle.cactus_growth.specs.Insertion.{edge_between, is_joined}
use Rattle.cactus_growth.proofs.Joined.{none_joined, some_joined, within_by_count}
use Rattle.cactus_growth.proofs.insertion.is_within_limits.Goals as goal

pub overflow_sub-weight : goal.overflow_sub-weight
overflow_sub-weight c = omega (arith, c.total_weight-weight.ensures.value, c.total_weight-weight.ensures.edge_list.is_graph.total)

pub returns-then-joined : goal.returns-then-joined
returns-then-joined c =
    let g = c.args.list.now in
    let list = c.total_weight-weight.ensures.edge_list in
    let weight = c.total_weight-weight.ensures.value in
    let both = within_by_count g c.args.u c.args.v c.args.w list c.requires.u_from_one c.requires.u_to_n c.requires.v_from_one c.requires.v_to_n c.requires.different c.requires.weight in
    let joined : c.has_edge-joined.result ≡ true = c.if-joined.true in
    let none = some_joined (is_joined (edge_between c.args.u c.args.v c.args.w) g.edges) (length g.edges) (sym c.has_edge-joined.ensures ∙ joined) in (
      (λ t. both.0 (omega (arith, c.if-w-weight.true, weight, list.is_graph.total), omega (arith, none, list.few_edges))),
      (λ k. joined),
    )

pub returns-else-joined : goal.returns-else-joined
returns-else-joined c =
    let g = c.args.list.now in
    let list = c.total_weight-weight.ensures.edge_list in
    let weight = c.total_weight-weight.ensures.value in
    let both = within_by_count g c.args.u c.args.v c.args.w list c.requires.u_from_one c.requires.u_to_n c.requires.v_from_one c.requires.v_to_n c.requires.different c.requires.weight in
    let apart : c.has_edge-joined.result ≡ false = c.if-joined.false in
    let one = none_joined (is_joined (edge_between c.args.u c.args.v c.args.w) g.edges) (length g.edges) (sym c.has_edge-joined.ensures ∙ apart) in (
      (λ t. both.0 (omega (arith, c.if-w-weight.true, weight, list.is_graph.total), omega (arith, one, c.len.ensures, ltb-true c.len.result 16777216 t))),
      (λ k. lt-ltb c.len.result 16777216 (omega (arith, one, c.len.ensures, (both.1 k).1))),
    )

pub returns-else-w-weight : goal.returns-else-w-weight
returns-else-w-weight c =
    let g = c.args.list.now in
    let list = c.total_weight-weight.ensures.edge_list in
    let weight = c.total_weight-weight.ensures.value in
    let both = within_by_count g c.args.u c.args.v c.args.w list c.requires.u_from_one c.requires.u_to_n c.requires.v_from_one c.requires.v_to_n c.requires.different c.requires.weight in (
      (λ t. absurd (omega (arith, c.if-w-weight.false, leb-true c.args.w (2305843009213693952 - c.total_weight-weight.result) t))),
      (λ k. absurd (omega (arith, c.if-w-weight.false, weight, (both.1 k).0))),
    )
