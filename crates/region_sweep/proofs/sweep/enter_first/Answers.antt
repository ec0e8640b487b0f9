-- Vertex 1 has entered, and all others are in one region.
use Rattle.std.proofs.Common.{◌≡◌, ◌≤◌, ℕ, List, get_or, sym, ◌∙◌, subst}
use Rattle.region_parts.specs.Covered.{IsRefined}
use Rattle.region_fronts.specs.Fronts.{IsCovered, HasEnds}
use Rattle.region_parts.proofs.Covering.{fed_open, fed_start, one_region, refining_one}
use Rattle.region_sweep.proofs.Stepping.{covered_entering}
use Rattle.region_sweep.proofs.UnderWay.{few_labels, first_numbered}
use Rattle.region_sweep.proofs.sweep.enter_first.Goals as goal

pub put_ends-requires-clause-few : goal.put_ends-requires-clause-few
put_ends-requires-clause-few c =
    let n = c.args.graph.now.vertices in
    let f = c.in_ok-flow.ensures in
    rw c.labels.ensures (few_labels n c.enter.new.self.labels 2 (first_numbered n c.in_ok-flow.flow.labels c.enter.new.self.labels c.requires f.flow.labels_length f.flow.nobody f.one c.enter.ensures.labels).numbered)

pub returns : goal.returns
returns c =
    let g = c.args.graph.now in
    let n = g.vertices in
    let ok = c.n-n.ensures.edge_list.is_graph in
    let f = c.in_ok-flow.flow in
    let labels = c.enter.new.self.labels in
    let before = c.in_ok-flow.ensures in
    let e = c.enter.ensures in
    let ends = c.in_ok-put_ends.ensures in
    let first = first_numbered n f.labels labels c.requires before.flow.labels_length before.flow.nobody before.one e.labels in
    let same = λ (u v : ℕ) (u1 : 1 ≤ u) (un : u ≤ n) (v1 : 1 ≤ v) (vn : v ≤ n). (let r : get_or f.labels u 0 ≡ get_or f.labels v 0 = before.one u u1 un ∙ sym (before.one v v1 vn) in r) in
    record {
      flow = e.flow;
      root = first.root;
      others = first.others;
      numbered = first.numbered;
      fed = fed_open g f c.enter.new.self (fed_start g f ok before.flow same) (subst (λ (l : List ℕ). IsRefined f.labels l) (sym e.labels) (refining_one f.labels 1)) e.fed;
      covered = subst (λ (l : List ℕ). IsCovered g l c.put_ends.new.self) (sym e.labels)
          (covered_entering g f.labels 1 c.in_ok-fronts.fronts c.put_ends.new.self ok (one_region g f.labels c.in_ok-fronts.fronts ok same) ends.kept
          (subst (λ (l : List ℕ). HasEnds g l c.put_ends.new.self 1) e.labels (rw c.labels.ensures at ends.ends)));
      vertices = ends.vertices ∙ c.in_ok-fronts.ensures.vertices ∙ c.n-n.ensures.value;
    }
