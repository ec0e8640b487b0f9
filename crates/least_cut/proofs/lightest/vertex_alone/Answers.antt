-- The vertex, or all others.
use Rattle.least_cut.proofs.FoundCuts.{one_alone, others_alone}
use Rattle.least_cut.proofs.lightest.vertex_alone.Goals as goal
use Rattle.least_cut.proofs.lightest.vertex_alone.Goals.{then-v-eq1, else-v-eq1}

pub returns : goal.returns
returns c =
    let n = c.args.n in
    let v = c.args.v in
    elim c.if-v-eq1.branch [
      | then-v-eq1 w ↦ rw w.side-is (others_alone n v c.in_ok-side.side c.insert.new.self w.flip.new.self c.requires.from_one c.requires.to_n c.in_ok-side.ensures c.insert.ensures w.if-v-eq1.true w.flip.ensures)
      | else-v-eq1 w ↦ rw w.side-is (one_alone n v c.in_ok-side.side c.insert.new.self c.requires.from_one c.requires.to_n c.in_ok-side.ensures c.insert.ensures w.if-v-eq1.false)
    ]
