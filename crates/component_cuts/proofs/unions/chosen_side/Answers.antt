use Rattle.std.proofs.Common.{◌+◌, ap, ◌∙◌}
use Rattle.cut_definitions.specs.Weight.{either}
use Rattle.cut_definitions.specs.Cuts.{has}
use Rattle.cut_definitions.specs.Scan.{single}
use Rattle.vertex_set.specs.Side.{VertexList, listed}
use Rattle.component_cuts.specs.Doubling.{chosen_vertices}
use Rattle.component_cuts.proofs.Gathered.{taken_start, taken_in, taken_out, taken_end}
use Rattle.component_cuts.proofs.unions.chosen_side.Goals as goal
use Rattle.component_cuts.proofs.unions.chosen_side.Goals.{then-chosen-part_of, else-chosen-part_of}

pub loop-v-init : goal.loop-v-init
loop-v-init c = taken_start c.args.n (chosen_vertices c.args.part_of.now c.args.chosen.now) c.in_ok-side.side c.in_ok-side.ensures

pub loop-v-preserved : goal.loop-v-preserved
loop-v-preserved c =
    let s = chosen_vertices c.args.part_of.now c.args.chosen.now in
    let v = c.loop-v.v in
    elim c.if-chosen-part_of.branch [
      | then-chosen-part_of w ↦ w.side-is
          ∙ (w.insert.ensures ∙ (ap (λ (t : VertexList). listed t.vertices (either (has t.members) (single (v + 1)))) c.loop-v.invariant ∙ taken_in c.args.n s v w.if-chosen-part_of.true))
      | else-chosen-part_of w ↦ w.side-is ∙ (c.loop-v.invariant ∙ taken_out c.args.n s v w.if-chosen-part_of.false)
    ]

pub returns : goal.returns
returns c = c.loop-v.invariant ∙ taken_end c.args.n (chosen_vertices c.args.part_of.now c.args.chosen.now) c.loop-v.v c.loop-v-test.false
