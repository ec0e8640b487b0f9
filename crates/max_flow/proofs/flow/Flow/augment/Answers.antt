-- If no path is left the marked vertices are the source side; else the amount went from s to t.
use Rattle.std.proofs.Common.{refl, sym, ◌∙◌, subst, ap, arith}
use Rattle.std.proofs.lemmas.List.{with_items_is}
use Rattle.cut_definitions.specs.Cuts.{has}
use Rattle.max_flow.specs.Flow.{FlowState, HasSizesOf}
use Rattle.max_flow.specs.Tree.{seen}
use Rattle.max_flow.proofs.Augmenting.{source_side, IsSourceSide-same}
use Rattle.max_flow.proofs.Showing.{laid_out-same}
use Rattle.max_flow.proofs.flow.Flow.augment.Goals as goal

pub returns-then-mark-eq0-clause-source : goal.returns-then-mark-eq0-clause-source
returns-then-mark-eq0-clause-source c = λ _.
    let g = c.args.graph.now in
    let kept = c.as_mut_slice-toward.result.now in
    let marks = c.search-count.new.marks in
    let before = ap (λ (f : FlowState). f.toward) c.self.view_is in
    let toward = with_items_is c.self.inside.toward kept (omega arith) in
    rw toward (IsSourceSide-same g kept c.args.ends.s c.args.ends.t (seen marks) (has c.assign.new.side.members) c.assign.ensures.members
    (source_side g c.requires.edge_list.is_graph kept c.args.ends.s c.args.ends.t marks c.search-count.new.steps c.search-count.result
    (rw (c.as_mut_slice-toward.ensures.value, before) c.requires.sizes.edges) c.search-count.ensures c.if-mark-eq0.true))

pub returns-clause-pushed : goal.returns-clause-pushed
returns-clause-pushed c = λ some side.
    let before = ap (λ (f : FlowState). f.toward) c.self.view_is in
    let toward = with_items_is c.self.inside.toward c.push.new.toward (omega arith) in
    let at_t = c.search-count.ensures.tree.marking.stands c.args.ends.t (omega arith) in
    rw toward (rw (c.search-count.ensures.first, at_t, c.as_mut_slice-toward.ensures.value, before) at (c.push.ensures.balance side))

-- the memory keeps its sizes, and no vertex is marked any more
pub invariant_of-self : goal.invariant_of-self
invariant_of-self c =
    let i = c.self.inside in
    rw (with_items_is i.marks c.clear.new.marks (omega arith), with_items_is i.steps c.search-count.new.steps (omega arith))
    (laid_out-same i.n i.starts.items i.residuals.items i.residuals.items i.marks.items c.clear.new.marks i.steps.items c.search-count.new.steps i.source c.assign.new.side
    c.self.invariant refl (omega arith) (omega arith) (omega (arith, c.assign.ensures.vertices, c.self.invariant.source_vertices)) c.clear.ensures)

pub invariant_of-self-2 : goal.invariant_of-self-2
invariant_of-self-2 c =
    let i = c.self.inside in
    rw (with_items_is i.marks c.clear-2.new.marks (omega arith), with_items_is i.steps c.search-count.new.steps (omega arith))
    (laid_out-same i.n i.starts.items i.residuals.items i.residuals.items i.marks.items c.clear-2.new.marks i.steps.items c.search-count.new.steps i.source i.source
    c.self.invariant refl (omega arith) (omega arith) c.self.invariant.source_vertices c.clear-2.ensures)

-- what contracts see of the flow changes in nothing but `toward`, and in the source if no path is left
pub returns-then-mark-eq0-clause-sizes : goal.returns-then-mark-eq0-clause-sizes
returns-then-mark-eq0-clause-sizes c =
    let i = c.self.inside in
    let sizes = subst (λ (f : FlowState). HasSizesOf f c.args.graph.now) (sym c.self.view_is) c.requires.sizes in
    record {
      vertices = sizes.vertices;
      edges = rw (with_items_is i.toward c.as_mut_slice-toward.result.now (omega arith)) (omega (arith, c.as_mut_slice-toward.ensures.len, sizes.edges));
      rows = sizes.rows;
      source = omega (arith, c.assign.ensures.vertices, sizes.source);
    }

pub returns-clause-sizes : goal.returns-clause-sizes
returns-clause-sizes c =
    let i = c.self.inside in
    let sizes = subst (λ (f : FlowState). HasSizesOf f c.args.graph.now) (sym c.self.view_is) c.requires.sizes in
    record {
      vertices = sizes.vertices;
      edges = rw (with_items_is i.toward c.push.new.toward (omega arith)) (omega (arith, c.as_mut_slice-toward.ensures.len, sizes.edges));
      rows = sizes.rows;
      source = sizes.source;
    }

pub returns-then-mark-eq0-clause-toward_kept : goal.returns-then-mark-eq0-clause-toward_kept
returns-then-mark-eq0-clause-toward_kept c = λ _.
    with_items_is c.self.inside.toward c.as_mut_slice-toward.result.now (omega arith) ∙ c.as_mut_slice-toward.ensures.value ∙ ap (λ (f : FlowState). f.toward) c.self.view_is

pub returns-then-mark-eq0-clause-residual : goal.returns-then-mark-eq0-clause-residual
returns-then-mark-eq0-clause-residual c =
    let toward = with_items_is c.self.inside.toward c.as_mut_slice-toward.result.now (omega arith) in
    let before = ap (λ (f : FlowState). f.toward) c.self.view_is in
    rw (toward, c.as_mut_slice-toward.ensures.value, before) c.requires.residual

pub returns-clause-residual : goal.returns-clause-residual
returns-clause-residual c = rw (with_items_is c.self.inside.toward c.push.new.toward (omega arith)) c.push.ensures.residual
