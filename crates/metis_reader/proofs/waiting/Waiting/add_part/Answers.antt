use Rattle.std.proofs.Common.{◌≡◌, ◌≤◌, ◌<◌, ◌++◌, ◌∷◌, [], ◌*◌, ◌^◌, ◌∙◌, length, ap, sym, subst, arith}
use Rattle.std.specs.List.{All}
use Rattle.std.proofs.lemmas.List.Elements.{All-push}
use Rattle.metis_reader.specs.Regions.{waiting_from}
use Rattle.metis_reader.proofs.Held.{more_room}
use Rattle.metis_reader.proofs.waiting.Waiting.add_part.Goals as goal
use Rattle.metis_reader.proofs.waiting.Waiting.add_part.Goals.{After-push_reserved}

same : (c : After-push_reserved) → waiting_from 0 c.push_reserved.new.self.items c.add_weights.new.weights.items c.add_places.new.packed.items
    ≡ waiting_from 0 c.args.self.now.owners.items c.args.self.now.weights.items c.args.self.now.packed.items
same c =
    let b = c.args.self.now in
    let few : length b.packed.items ≤ 1024 * length b.owners.items = omega (arith, b.owned) in
    ap (λ o. waiting_from 0 o c.add_weights.new.weights.items c.add_places.new.packed.items) c.push_reserved.ensures.items
    ∙ ap (λ p. waiting_from 0 (b.owners.items ++ c.args.block ∷ []) c.add_weights.new.weights.items p) c.add_places.ensures.items
    ∙ more_room b.owners.items b.weights.items c.add_weights.new.weights.items b.packed.items c.args.block 1024 few c.add_weights.ensures.same

pub invariant_of-self-clause-counted : goal.invariant_of-self-clause-counted
invariant_of-self-clause-counted c = c.args.self.now.counted ∙ ap length (sym (same c))

pub invariant_of-self-clause-low : goal.invariant_of-self-clause-low
invariant_of-self-clause-low c =
    subst (λ xs. All (λ o. o < 2 ^ 20) xs) (sym c.push_reserved.ensures.items) (All-push (λ o. o < 2 ^ 20) c.args.self.now.owners.items c.args.block c.args.self.now.low c.requires)

pub returns : goal.returns
returns c = record { same = same (goal.at.returns c).After-push_reserved }
