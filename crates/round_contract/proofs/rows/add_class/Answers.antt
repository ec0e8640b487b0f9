use Rattle.std.proofs.Common.{ℕ, ◌+◌, ◌≤◌, ◌∙◌, subst, sym, get_or, arith}
use Rattle.cut_definitions.specs.Contraction.{class}
use Rattle.cut_definitions.proofs.Running.{between_small}
use Rattle.weighted_graph.proofs.Searched.{row_within}
use Rattle.round_contract.specs.Rows.{IsFirst, IsNext, members_before}
use Rattle.round_contract.proofs.RowSums.{first_of, members_all, members_none, more_weight, none_of}
use Rattle.round_contract.proofs.rows.add_class.Goals as goal
use Rattle.round_contract.proofs.rows.add_class.Goals.{After-row}

-- the vertex that is looked at is the first of its class from one on
there : (c : After-row) → IsFirst c.args.labels.now c.args.lesser c.loop-v.invariant.0 c.loop-v.v
there c = first_of c.args.labels.now c.args.lesser c.loop-v.invariant.0 c.loop-v.v c.loop-v.invariant.1.next c.loop-v-test.true

pub loop-v-init : goal.loop-v-init
loop-v-init c = (
  1,
  record {
    one = omega arith;
    next = c.requires.first;
    long = c.requires.long;
    sums = λ b l u. c.requires.zero b ∙ sym (members_none c.args.graph.now c.n-n.ensures.edge_list.is_graph c.args.labels.now c.args.lesser b);
  },
)

pub row-requires : goal.row-requires
row-requires c =
    let f = first_of c.args.labels.now c.args.lesser c.loop-v.invariant.0 c.loop-v.v c.loop-v.invariant.1.next c.loop-v-test.true in
    omega (arith, f.to_n, c.requires.labels)

pub add_row-requires-clause-ends : goal.add_row-requires-clause-ends
add_row-requires-clause-ends c =
    let within = row_within c.args.graph.now c.n-n.ensures.edge_list.is_graph c.loop-v.v in
    rw c.row.ensures.value (λ k d l. let w = within k d l in (w.0, omega (arith, w.1, c.requires.labels)))

pub add_row-requires-clause-small : goal.add_row-requires-clause-small
add_row-requires-clause-small c = λ b l u.
    let d = (goal.at.add_row-requires-clause-small c).After-row in
    let g = c.args.graph.now in
    let ok = c.n-n.ensures.edge_list.is_graph in
    let labels = c.args.labels.now in
    let i = c.loop-v.invariant in
    let v = c.loop-v.v in
    omega (
      arith,
      more_weight g ok labels c.args.lesser b i.0 v (get_or c.loop-v.sums b 0) c.row.result.now l (there d) c.row.ensures.value (i.1.sums b l u),
      between_small g ok (members_before labels c.args.lesser (v + 1)) (class labels b),
    )

pub loop-v-preserved : goal.loop-v-preserved
loop-v-preserved c =
    let d = (goal.at.loop-v-preserved c).After-row in
    let g = c.args.graph.now in
    let ok = c.n-n.ensures.edge_list.is_graph in
    let labels = c.args.labels.now in
    let i = c.loop-v.invariant in
    let v = c.loop-v.v in
    let f = there d in
    let one : 1 ≤ v = omega (arith, f.late, i.1.one) in (
      v + 1,
      record {
        one = omega arith;
        next = subst (λ (k : ℕ). IsNext labels k (v + 1) (get_or c.args.next.now v 0)) f.is_in (c.requires.next v one f.to_n);
        long = c.add_row.ensures.long ∙ i.1.long;
        sums = λ b l u. c.add_row.ensures.sums b l u ∙ more_weight g ok labels c.args.lesser b i.0 v (get_or c.loop-v.sums b 0) c.row.result.now l f c.row.ensures.value (i.1.sums b l u);
      },
    )

pub returns-clause-sums : goal.returns-clause-sums
returns-clause-sums c = λ b l u.
    let g = c.args.graph.now in
    let i = c.loop-v.invariant in
    i.1.sums b l u ∙ members_all g c.n-n.ensures.edge_list.is_graph c.args.labels.now c.args.lesser b i.0 c.loop-v.v c.requires.labels
    (none_of c.args.labels.now c.args.lesser i.0 c.loop-v.v i.1.next i.1.one (omega (arith, c.loop-v-test.false)))
