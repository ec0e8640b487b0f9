-- What is in the list after the last ring is the list of the made graph.
use Rattle.std.proofs.Common.{◌/◌, ◌∙◌, arith}
use Rattle.graph_maker.proofs.Making.{ring_added, made_list, is_made}
use Rattle.graph_maker.proofs.rings.make.Goals as goal

pub rings-preserved : goal.rings-preserved
rings-preserved c =
    ring_added (c.args.number / 4) c.rings.ring c.rings.edges.items c.push_first.new.edges.items c.push_others.new.edges.items c.rings.invariant
    c.in_ok-push_first.ensures c.in_ok-push_others.ensures

pub from_edges-requires : goal.from_edges-requires
from_edges-requires c = made_list c.args.number c.rings.ring c.rings.edges.items c.requires.from c.requires.to (omega arith) c.rings.invariant

pub returns : goal.returns
returns c = c.from_edges.ensures ∙ is_made c.args.number c.rings.ring c.rings.edges.items (omega arith) c.rings.invariant
