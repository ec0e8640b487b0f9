-- The classes are the components, and their labels the numbers.
use Rattle.std.proofs.Common.{◌≡◌, ◌+◌, ℕ, length, sym, subst}
use Rattle.component_cuts.specs.Parts.{AreComponents, IsNumbering, divided}
use Rattle.component_cuts.proofs.Numbered.{numbering_of, components_of}
use Rattle.component_cuts.proofs.components.Components.of_list.Goals as goal

pub invariant_of-result : goal.invariant_of-result
invariant_of-result c =
    let g = c.args.list.now in
    let items = c.in_ok-part_of.part_of.items in
    let long : length c.in_ok-classes.classes ≡ g.vertices + 1 = c.in_ok-classes.ensures.long in
    let h = numbering_of g c.in_ok-classes.classes c.in_ok-labels.labels items c.n-n.ensures.edge_list.few_vertices long c.in_ok-labels.ensures c.in_ok-part_of.ensures in
    subst (λ (n : ℕ). IsNumbering n c.classes-count.result items) (sym c.n-n.ensures.value) (subst (λ (k : ℕ). IsNumbering g.vertices k items) (sym c.classes-count.ensures.value) h)

pub returns : goal.returns
returns c =
    let g = c.args.list.now in
    let items = c.in_ok-part_of.part_of.items in
    let long : length c.in_ok-classes.classes ≡ g.vertices + 1 = c.in_ok-classes.ensures.long in
    let h = components_of g c.in_ok-classes.classes c.in_ok-labels.labels items c.n-n.ensures.edge_list.few_vertices long c.in_ok-classes.ensures.joined c.in_ok-labels.ensures c.in_ok-part_of.ensures in
    subst (λ (n : ℕ). AreComponents g (divided n c.classes-count.result items)) (sym c.n-n.ensures.value) (subst (λ (k : ℕ). AreComponents g (divided g.vertices k items)) (sym c.classes-count.ensures.value) h)
