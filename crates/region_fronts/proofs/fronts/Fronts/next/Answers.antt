-- An entry that has another label, or is not open, is removed. If none is left, no vertex is open.
use Rattle.std.proofs.Common.{◌≡◌, ◌<◌, length, get_or, ap, sym, ◌∙◌, subst}
use Rattle.region_fronts.specs.Open.{IsShutAt}
use Rattle.region_fronts.specs.Fronts.{FrontsState, IsCovered, list_at}
use Rattle.region_fronts.proofs.Opening.{open_vertices}
use Rattle.region_fronts.proofs.Joined.{none_open_shut}
use Rattle.region_fronts.proofs.FrontLists.{shut_covered, none_open}
use Rattle.region_fronts.proofs.fronts.Fronts.next.Goals as goal
use Rattle.region_fronts.proofs.fronts.Fronts.next.Goals.{else-label-region-via-then-label-region+else-is_open, else-label-region-via-else-label-region}

pub returns-then-is_open-clause-covered : goal.returns-then-is_open-clause-covered
returns-then-is_open-clause-covered c = subst (λ (f : FrontsState). IsCovered c.args.graph.now c.args.labels.now f) (sym c.top.ensures.same) c.loop-region.invariant.covered

pub loop-region-preserved : goal.loop-region-preserved
loop-region-preserved c =
    let g = c.args.graph.now in
    let labels = c.args.labels.now in
    let f = c.top.new.self in
    let region = c.in-Some.region in
    let place = c.place_in_turn-place.result in
    let xs = list_at f.lists region in
    let v = get_or xs place 0 in
    let covered = subst (λ (k : FrontsState). IsCovered g labels k) (sym c.top.ensures.same) c.loop-region.invariant.covered in
    let l : place < length xs = c.place_in_turn-place.ensures in
    let is = c.at-v.ensures.value in
    let shut : get_or labels v 0 ≡ region → IsShutAt g labels v = elim c.else-label-region.branch [
      | else-label-region-via-then-label-region+else-is_open w ↦ λ _. subst (IsShutAt g labels) is (w.is_open.ensures.no w.if-is_open.false)
      | else-label-region-via-else-label-region w ↦ λ e. absurd (w.if-label-region.false (c.label.ensures ∙ ap (λ k. get_or labels k 0) is ∙ e))
    ] in
    rw c.pass_over.ensures
    (record {
      vertices = ap (λ (k : FrontsState). k.vertices) c.top.ensures.same ∙ c.loop-region.invariant.vertices;
      covered = shut_covered g c.edge_list-list.ensures.edge_list.is_graph labels f region place l covered shut;
    })

pub returns-clause-covered : goal.returns-clause-covered
returns-clause-covered c = subst (λ (f : FrontsState). IsCovered c.args.graph.now c.args.labels.now f) (sym c.top.ensures.same) c.loop-region.invariant.covered

pub returns-clause-none : goal.returns-clause-none
returns-clause-none c = λ _.
    let g = c.args.graph.now in
    let labels = c.args.labels.now in
    open_vertices g labels c.edge_list-list.ensures.edge_list.is_graph c.requires.connected c.requires.root
    (λ v _ to_n. none_open_shut g labels (none_open g labels c.loop-region.self c.loop-region.invariant.covered (c.top.ensures.none c.in_default.is)) v to_n)
