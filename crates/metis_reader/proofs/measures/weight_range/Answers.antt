use Rattle.std.proofs.Common.{rules, ◌≡◌, ap, sym, ◌∙◌, min, max, get_or}
use Rattle.cut_definitions.specs.declared.edge_list.Edge.{Edge}
use Rattle.metis_reader.proofs.Degrees.{lightest_step, heaviest_step}
use Rattle.metis_reader.proofs.measures.weight_range.Goals as goal

abbrev no_edge : Edge
no_edge = record { u = 0; v = 0; w = 0 }

pub loop-edge-preserved : goal.loop-edge-preserved
loop-edge-preserved c =
    let es = c.args.edges.now in
    let i = c.loop-edge.edge-index in
    let lt = c.loop-edge-test.true in
    let least : c.min-lightest.result ≡ min c.loop-edge.lightest (get_or es i no_edge).w = search rules in
    let greatest : c.max-heaviest.result ≡ max c.loop-edge.heaviest (get_or es i no_edge).w = search rules in (
      least ∙ ap (λ k. min k (get_or es i no_edge).w) c.loop-edge.invariant.0 ∙ sym (lightest_step es i no_edge lt),
      greatest ∙ ap (λ k. max k (get_or es i no_edge).w) c.loop-edge.invariant.1 ∙ sym (heaviest_step es i no_edge lt),
    )
