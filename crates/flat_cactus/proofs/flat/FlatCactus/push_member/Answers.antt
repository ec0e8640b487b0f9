use Rattle.std.proofs.Common.{◌∙◌, ◌≡◌, ◌+◌, ◌<◌, ◌++◌, ◌∷◌, [], ℕ, List, ap, sym, subst, length, rules, arith, length-append}
use Rattle.flat_cactus.specs.Flat.{Flat, AreStarts, BeginsFirst, cut_at, appended_to_last}
use Rattle.flat_cactus.proofs.Flats.{cut_item, cut_length, first_item, starts_item}
use Rattle.flat_cactus.proofs.flat.FlatCactus.push_member.Goals as goal

pub invariant_of-self-2 : goal.invariant_of-self-2
invariant_of-self-2 c =
    let items = c.self.inside.members.items in
    let grown : c.push.new.self.items ≡ items ++ c.args.node ∷ [] = search rules in
    let some : 0 < length c.self.inside.cycle_starts.items = omega (arith, ap (λ (f : Flat). length f.cycles) c.self.view_is, cut_length c.self.inside.cycle_starts.items items, c.requires) in
    let longer : length c.push.new.self.items ≡ length items + 1 = ap (length {A = ℕ}) grown ∙ length-append items (c.args.node ∷ []) in
    (c.self.invariant.0, subst (AreStarts c.self.inside.cycle_starts.items) (sym longer) (starts_item c.self.inside.cycle_starts.items (length items) c.self.invariant.1), c.self.invariant.2, (subst (BeginsFirst c.self.inside.cycle_starts.items) (sym longer) (first_item c.self.inside.cycle_starts.items (length items) some c.self.invariant.3)))

pub returns-clause-ok : goal.returns-clause-ok
returns-clause-ok c =
    let starts = c.self.inside.cycle_starts.items in
    let items = c.self.inside.members.items in
    let grown : c.push.new.self.items ≡ items ++ c.args.node ∷ [] = search rules in
    let lists = ap (cut_at starts) grown ∙ cut_item starts items c.args.node c.self.invariant.1 in
    let holding : List (List ℕ) → Flat = λ ls. record { vertices = c.self.inside.n; nodes = cut_at c.self.inside.node_starts.items c.self.inside.vertices.items; bridges = c.self.inside.bridges.items; cycles = ls } in
    let grow : Flat → Flat = λ f. record f { cycles = appended_to_last f.cycles c.args.node } in
    ap holding lists ∙ ap grow c.self.view_is
