use Rattle.std.proofs.Common.{ℕ, List, ◌∙◌, ap, sym, subst}
use Rattle.std.specs.List.Sorted.{IsPermutation}
use Rattle.edge_augment.specs.Augmentations.{IsAugmentation, IsLeast}
use Rattle.edge_augment.specs.Ends.{end_sets}
use Rattle.edge_augment.specs.NewEdges.{new_edges}
use Rattle.edge_augment.proofs.Opposite.{AreLed}
use Rattle.edge_augment.proofs.Planned.{ends_led, exact, best}
use Rattle.edge_augment.proofs.augmenting.augment.Goals as goal

pub opposite_edges-requires : goal.opposite_edges-requires
opposite_edges-requires c =
    let cactus = c.args.cactus.now in
    let ends = c.deref.ensures.value ∙ c.in_ok-sets.ensures ∙ ap end_sets c.root.ensures.value in
    subst AreLed (sym ends) (ends_led cactus.vertices cactus.root c.root.ensures.cactus)

pub returns-clause-exact : goal.returns-clause-exact
returns-clause-exact c =
    let cactus = c.args.cactus.now in
    let sets = c.in_ok-sets.ensures ∙ ap end_sets c.root.ensures.value in
    let edges = c.in_ok-edges.ensures ∙ ap new_edges (c.deref.ensures.value ∙ sets) in
    subst (IsAugmentation cactus) (sym c.new.ensures)
    (exact cactus c.root.ensures.cactus c.requires.normal c.requires.cuts c.sort_sets.new.sets.items c.sort_edges.new.edges.items
    (subst (λ (l : List (List ℕ)). IsPermutation l c.sort_sets.new.sets.items) sets c.sort_sets.ensures.same) c.sort_sets.ensures.sorted
    (subst (λ (l : List (ℕ × ℕ)). IsPermutation l c.sort_edges.new.edges.items) edges c.sort_edges.ensures.same) c.sort_edges.ensures.sorted)

pub returns-clause-fewest : goal.returns-clause-fewest
returns-clause-fewest c =
    let cactus = c.args.cactus.now in
    let sets = c.in_ok-sets.ensures ∙ ap end_sets c.root.ensures.value in
    let edges = c.in_ok-edges.ensures ∙ ap new_edges (c.deref.ensures.value ∙ sets) in
    subst (IsLeast cactus) (sym c.new.ensures)
    (best cactus c.root.ensures.cactus c.requires.normal c.requires.cuts c.sort_sets.new.sets.items c.sort_edges.new.edges.items
    (subst (λ (l : List (List ℕ)). IsPermutation l c.sort_sets.new.sets.items) sets c.sort_sets.ensures.same)
    (subst (λ (l : List (ℕ × ℕ)). IsPermutation l c.sort_edges.new.edges.items) edges c.sort_edges.ensures.same))
