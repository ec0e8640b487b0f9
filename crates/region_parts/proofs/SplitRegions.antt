-- The region of a vertex with an edge from outside is one that searches can split.
use Rattle.std.proofs.Common.{◌≡◌, ℕ, ◌≤◌, get_or}
use Rattle.cut_definitions.specs.Graph.{Graph, IsGraph}
use Rattle.cut_definitions.specs.Components.{IsConnected}
use Rattle.cut_definitions.specs.Weight.{VertexSet, weight, IsMinimumCut}
use Rattle.arc_search.specs.declared.direction.Direction.TheVariants.{Along}
use Rattle.region_flow.specs.Regions.{RegionState, IsRegionFlow}
use Rattle.cut_definitions.specs.Regions.{IsOpenAt}
use Rattle.region_flow.proofs.Least.{closed_around}
use Rattle.region_parts.specs.Sided.{IsRegionOf}
use Rattle.region_parts.proofs.RegionSteps.{opposite, closed_steps, same_region}

pub region_of : (g : Graph) (f : RegionState) (t : ℕ) → IsGraph g → IsConnected g → IsRegionFlow g f → 1 ≤ t → IsOpenAt g f.labels t → get_or f.labels 1 0 ≡ 0 →
    (least : VertexSet) → IsMinimumCut g least → weight g least ≡ get_or f.feed t 0 → IsRegionOf g f t
region_of g f t ok connected flow one border root least is weighs = record {
  at_border = record {
    is_graph = ok;
    connected = connected;
    from_one = one;
    to_n = border.to_n;
    in_region = border.outside;
    root = root;
    outer = border.other;
    joined = border.joined;
    apart = border.apart;
    minimum = least;
    is_minimum = is;
    weighs = weighs;
  };
  closed_sets = record {
    closed = λ x mx. ((closed_steps g f t x ok mx.around).0 ((closed_around g ok f t flow border.to_n x mx.around).1 mx.weighs)).1;
    dry = λ x mx. ((closed_steps g f t x ok mx.around).0 ((closed_around g ok f t flow border.to_n x mx.around).1 mx.weighs)).0;
    member = λ x around dry closed. record {
      around = around;
      weighs = (closed_around g ok f t flow border.to_n x around).0 ((closed_steps g f t x ok around).1 (dry, closed));
    };
  };
  opposite = λ u v. opposite g f ok u v;
  same_region = λ u v step. same_region g f Along u v step;
}
