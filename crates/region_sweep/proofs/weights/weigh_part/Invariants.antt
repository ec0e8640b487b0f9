-- The vertices of the part so far are done.
use Rattle.arc_search.specs.Searched.{is_listed}
use Rattle.region_fronts.specs.Listed.{part_in}
use Rattle.node_tree.specs.Weighed.{AreWeighed}
use Rattle.region_sweep.proofs.Weighing.{done_upto}
use Rattle.region_sweep.proofs.weights.weigh_part.Given as goal

abbrev pub invariant-loop-v : goal.invariant-loop-v
invariant-loop-v l = AreWeighed l.parted.graph.now (is_listed l.parted.parts.now.numbers) (done_upto l.parted.parts.now.numbers l.number l.part l.v-index) l.parted.parts.now.count (part_in l.parted.parts.now l.flow.labels l.parted.region) l.later l.next
