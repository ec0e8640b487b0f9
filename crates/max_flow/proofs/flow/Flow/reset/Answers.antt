-- What contracts see changes in nothing but `toward` and the last run.
use Rattle.std.proofs.Common.{sym, ◌∙◌, subst, arith}
use Rattle.std.proofs.lemmas.List.{with_items_is}
use Rattle.max_flow.specs.Flow.{FlowState, HasSizesOf}
use Rattle.max_flow.proofs.flow.Flow.reset.Goals as goal

pub returns-clause-toward : goal.returns-clause-toward
returns-clause-toward c = with_items_is c.self.inside.toward c.start.new.toward (omega arith) ∙ c.start.ensures.toward

pub returns-clause-sizes : goal.returns-clause-sizes
returns-clause-sizes c =
    let sizes = subst (λ (f : FlowState). HasSizesOf f c.args.graph.now) (sym c.self.view_is) c.requires.sizes in
    record {
      vertices = sizes.vertices;
      edges = rw (with_items_is c.self.inside.toward c.start.new.toward (omega arith)) (omega (arith, c.as_mut_slice.ensures.len, sizes.edges));
      rows = sizes.rows;
      source = sizes.source;
    }
