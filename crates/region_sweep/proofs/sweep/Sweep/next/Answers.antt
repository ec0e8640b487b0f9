-- Only the fronts change, which are read.
use Rattle.std.proofs.Common.{◌≡◌, refl, ◌∙◌}
use Rattle.cut_definitions.specs.Graph.{Graph}
use Rattle.region_fronts.specs.Fronts.{FrontsState, IsCovered}
use Rattle.region_sweep.specs.declared.sweep.Sweep.{Sweep}
use Rattle.region_sweep.specs.UnderWay.{IsUnderWay}
use Rattle.region_sweep.proofs.sweep.Sweep.next.Goals as goal

read_on : (g : Graph) (s : Sweep) (fronts : FrontsState) → IsUnderWay g s → fronts.vertices ≡ s.fronts.vertices → IsCovered g s.flow.labels fronts → IsUnderWay g (record s { fronts = fronts })
read_on g s fronts h same covered = record {
  flow = h.flow;
  sweeping = h.sweeping;
  first = h.first;
  numbered = h.numbered;
  fed = h.fed;
  covered = covered;
  ready = h.ready;
  room = record {
    vertices = same ∙ h.room.vertices;
    numbers = h.room.numbers;
    entered = h.room.entered;
    regions = h.room.regions;
    nodes = h.room.nodes;
    later = h.room.later;
    next = h.room.next;
  };
}

pub next-requires-clause-connected : goal.next-requires-clause-connected
next-requires-clause-connected c = c.requires.connected

pub next-requires-clause-labels : goal.next-requires-clause-labels
next-requires-clause-labels c = rw c.labels.ensures c.requires.under_way.flow.labels_length

pub next-requires-clause-vertices : goal.next-requires-clause-vertices
next-requires-clause-vertices c = c.requires.under_way.room.vertices

pub next-requires-clause-covered : goal.next-requires-clause-covered
next-requires-clause-covered c = rw c.labels.ensures c.requires.under_way.covered

pub choose-requires-clause-labels : goal.choose-requires-clause-labels
choose-requires-clause-labels c = c.requires.under_way.flow.labels_length

pub choose-requires-clause-open : goal.choose-requires-clause-open
choose-requires-clause-open c = rw c.labels.ensures at c.in-Some.ensures.some

pub returns-in_default-clause-under_way : goal.returns-in_default-clause-under_way
returns-in_default-clause-under_way c =
    read_on c.args.graph.now c.args.self.now c.next.new.self c.requires.under_way c.next.ensures.vertices (rw c.labels.ensures at c.next.ensures.covered)

pub returns-in_default-clause-labels : goal.returns-in_default-clause-labels
returns-in_default-clause-labels c = refl

pub returns-clause-under_way : goal.returns-clause-under_way
returns-clause-under_way c =
    read_on c.args.graph.now c.args.self.now c.next.new.self c.requires.under_way c.next.ensures.vertices (rw c.labels.ensures at c.next.ensures.covered)

pub returns-clause-labels : goal.returns-clause-labels
returns-clause-labels c = refl

pub returns-clause-some : goal.returns-clause-some
returns-clause-some c = c.choose.ensures

pub returns-clause-none : goal.returns-clause-none
returns-clause-none c = λ none. cc

pub next-requires-clause-root : goal.next-requires-clause-root
next-requires-clause-root c = rw c.labels.ensures c.requires.under_way.sweeping.entered
