-- Sorting and merging change the weight of no test.
use Rattle.std.proofs.Common.{List, sym, take_at, ◌∙◌, ap, subst, arith}
use Rattle.std.specs.List.{sum_by}
use Rattle.std.specs.List.Sorted.{IsPermutation}
use Rattle.std.proofs.lemmas.List.Sorted.{sum_by-IsPermutation, All-permutation, length_permutation}
use Rattle.cut_definitions.specs.declared.edge_list.Edge.{Edge}
use Rattle.cut_definitions.specs.Graph.{IsEdgeWithin}
use Rattle.cut_definitions.specs.Weight.{parts}
use Rattle.weighted_graph.specs.Merging.{term, AreMergeable}
use Rattle.weighted_graph.proofs.Sorted.{ascend_from_sorted}
use Rattle.edge_arrays.proofs.arrays.list_of_arrays.Goals as goal

pub merged_list-requires : goal.merged_list-requires
merged_list-requires c =
    let edges = c.in_ok-edges.edges.items in
    let sorted = c.sort_by_ends.new.edges in
    let perm = subst (λ (xs : List Edge). IsPermutation xs sorted) c.deref_mut.ensures.value c.sort_by_ends.ensures.permutation in
    let written = take_at sorted _ c.in_ok-edges.edges.len (omega (arith, c.sort_by_ends.auto.edges, c.deref_mut.ensures.len)) in
    subst (AreMergeable c.args.n) (sym written) (record {
      within = All-permutation (IsEdgeWithin c.args.n) edges sorted perm c.in_ok-edges.ensures.within;
      ascending = ascend_from_sorted sorted c.sort_by_ends.ensures.sorted;
      few_vertices = c.in_ok-check_limits.ensures.within.few_vertices;
      few_edges = omega (arith, length_permutation edges sorted perm, c.in_ok-edges.ensures.few);
      total = omega (arith, sum_by-IsPermutation (λ (e : Edge). e.w) edges sorted perm, c.in_ok-edges.ensures.total);
    })

pub returns-clause-graph : goal.returns-clause-graph
returns-clause-graph c =
    let edges = c.in_ok-edges.edges.items in
    let sorted = c.sort_by_ends.new.edges in
    let perm = subst (λ (xs : List Edge). IsPermutation xs sorted) c.deref_mut.ensures.value c.sort_by_ends.ensures.permutation in
    let written = take_at sorted _ c.in_ok-edges.edges.len (omega (arith, c.sort_by_ends.auto.edges, c.deref_mut.ensures.len)) in
    record {
      same_n = c.merged_list.ensures.vertices;
      weights = λ s.
          c.merged_list.ensures.weights (parts s)
          ∙ (ap (sum_by (term (parts s))) written
          ∙ (sum_by-IsPermutation (term (parts s)) edges sorted perm ∙ c.in_ok-edges.ensures.weights s));
    }
