-- The search begins with a tree of one vertex, and each turn follows the arcs of one vertex more.
use Rattle.std.proofs.Common.{ℕ, ◌<◌, List, length, get_or, refl, ap, ◌∙◌, arith}
use Rattle.std.proofs.lemmas.List.{get_or-set_other}
use Rattle.region_flow.proofs.Trees.{planted, passed_on}
use Rattle.region_flow.proofs.Expanding.{one_from_outside}
use Rattle.region_flow.proofs.searching.search_past.Goals as goal

pub places-init : goal.places-init
places-init c =
    let one = one_from_outside c.args.detour.task.labels.now c.args.root c.requires.flow.nobody c.requires.outside in
    let plant = c.plant.ensures in
    let tree = planted c.args.detour.task.graph.now c.args.detour.task.labels.now c.args.tree.now c.args.root c.plant.new.self c.requires.ready one c.requires.to_n
    plant.marks plant.order plant.links plant.order_room plant.links_room in
    record {
      flow = c.requires.flow;
      tree = tree.tree;
      first = tree.first;
      within = omega arith;
      passed = λ ne. record {
        unfound = ap (λ (xs : List ℕ). get_or xs c.args.detour.past 0) plant.marks ∙ get_or-set_other c.args.tree.now.marks.items c.args.root c.args.detour.past 1 0 ne ∙ c.requires.ready.unmarked c.args.detour.past;
        kept = refl;
      };
      others = λ v ne. omega arith;
    }

pub places-preserved : goal.places-preserved
places-preserved c =
    let inv = c.places.invariant in
    let step = c.expand_past.ensures in
    let left : c.places.place < length c.places.tree.order.items = omega (arith, c.places-test.true, c.len.ensures, c.places.tree.order.ok.0) in
    record {
      flow = step.flow;
      tree = step.tree;
      first = step.extends.order_kept 0 inv.tree.tree.some ∙ inv.first;
      within = omega (arith, step.extends.more, left);
      passed = λ ne. passed_on _ _ _ _ _ _ (inv.passed ne) step.passed;
      others = λ v ne. omega (arith, inv.others v ne, step.others v (λ q. ne (q ∙ inv.first)));
    }
