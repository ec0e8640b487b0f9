use Rattle.std.proofs.Common.{◌≡◌, ◌+◌, ◌≤◌, length, get_or, ap, sym, ◌∙◌, arith}
use Rattle.std.proofs.lemmas.List.{get_or_read}
use Rattle.cut_definitions.specs.Weight.{either}
use Rattle.cut_definitions.specs.Cuts.{has}
use Rattle.cut_definitions.specs.Scan.{single}
use Rattle.vertex_set.specs.Side.{VertexList, listed}
use Rattle.component_cuts.specs.Parts.{Parts, part_at}
use Rattle.component_cuts.proofs.Divided.{length_divided}
use Rattle.component_cuts.proofs.Gathered.{gathered_start, gathered_in, gathered_out, gathered_end}
use Rattle.component_cuts.proofs.components.Components.part_side.Goals as goal
use Rattle.component_cuts.proofs.components.Components.part_side.Goals.{then-index-number, else-index-number}

pub loop-v-init : goal.loop-v-init
loop-v-init c = gathered_start c.self.inside.n c.self.inside.part_of.items c.args.number c.in_ok-side.side c.in_ok-side.ensures

pub loop-v-preserved : goal.loop-v-preserved
loop-v-preserved c =
    let s = c.self.inside in
    let part_of = s.part_of.items in
    let v = c.loop-v.v in
    let read : c.index.result.now ≡ get_or part_of (v + 1) 0 = get_or_read part_of (v + 1) c.index.result.now (omega (arith, c.self.invariant.long, c.loop-v-test.true)) c.index.ensures 0 in
    elim c.if-index-number.branch [
      | then-index-number w ↦ w.side-is
          ∙ (w.insert.ensures
          ∙ (ap (λ (t : VertexList). listed t.vertices (either (has t.members) (single (v + 1)))) c.loop-v.invariant
          ∙ gathered_in s.n part_of c.args.number v (sym read ∙ w.if-index-number.true)))
      | else-index-number w ↦ w.side-is ∙ (c.loop-v.invariant ∙ gathered_out s.n part_of c.args.number v (λ e. w.if-index-number.false (read ∙ e)))
    ]

pub returns : goal.returns
returns c =
    let s = c.self.inside in
    let to : c.args.number ≤ s.count = omega (arith, c.requires.1, length_divided s.n s.count s.part_of.items, ap (λ (p : Parts). length p.parts) c.self.view_is) in
    c.loop-v.invariant
    ∙ (gathered_end s.n s.count s.part_of.items c.args.number c.loop-v.v c.loop-v-test.false c.requires.0 to
    ∙ ap (λ (p : Parts). let t : VertexList = record { vertices = p.vertices; members = part_at p c.args.number } in t) c.self.view_is)
