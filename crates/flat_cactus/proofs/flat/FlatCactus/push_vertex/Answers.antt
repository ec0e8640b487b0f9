use Rattle.std.proofs.Common.{◌∙◌, ◌≡◌, ◌+◌, ◌<◌, ◌++◌, ◌∷◌, [], ℕ, List, ap, sym, subst, length, rules, arith, length-append}
use Rattle.flat_cactus.specs.Flat.{Flat, AreStarts, BeginsFirst, cut_at, appended_to_last}
use Rattle.flat_cactus.proofs.Flats.{cut_item, cut_length, first_item, starts_item}
use Rattle.flat_cactus.proofs.flat.FlatCactus.push_vertex.Goals as goal

pub invariant_of-self-2 : goal.invariant_of-self-2
invariant_of-self-2 c =
    let items = c.self.inside.vertices.items in
    let grown : c.push.new.self.items ≡ items ++ c.args.v ∷ [] = search rules in
    let some : 0 < length c.self.inside.node_starts.items = omega (arith, ap (λ (f : Flat). length f.nodes) c.self.view_is, cut_length c.self.inside.node_starts.items items, c.requires) in
    let longer : length c.push.new.self.items ≡ length items + 1 = ap (length {A = ℕ}) grown ∙ length-append items (c.args.v ∷ []) in
    (subst (AreStarts c.self.inside.node_starts.items) (sym longer) (starts_item c.self.inside.node_starts.items (length items) c.self.invariant.0), c.self.invariant.1, (subst (BeginsFirst c.self.inside.node_starts.items) (sym longer) (first_item c.self.inside.node_starts.items (length items) some c.self.invariant.2)), c.self.invariant.3)

pub returns-clause-ok : goal.returns-clause-ok
returns-clause-ok c =
    let starts = c.self.inside.node_starts.items in
    let items = c.self.inside.vertices.items in
    let grown : c.push.new.self.items ≡ items ++ c.args.v ∷ [] = search rules in
    let lists = ap (cut_at starts) grown ∙ cut_item starts items c.args.v c.self.invariant.0 in
    let holding : List (List ℕ) → Flat = λ ls. record { vertices = c.self.inside.n; nodes = ls; bridges = c.self.inside.bridges.items; cycles = cut_at c.self.inside.cycle_starts.items c.self.inside.members.items } in
    let grow : Flat → Flat = λ f. record f { nodes = appended_to_last f.nodes c.args.v } in
    ap holding lists ∙ ap grow c.self.view_is
