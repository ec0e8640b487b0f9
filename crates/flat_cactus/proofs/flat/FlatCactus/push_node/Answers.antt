use Rattle.std.proofs.Common.{◌∙◌, ◌≡◌, ◌++◌, ◌∷◌, [], ℕ, List, ap, length, rules}
use Rattle.flat_cactus.specs.Flat.{Flat, cut_at}
use Rattle.flat_cactus.proofs.Flats.{cut_list, first_place, starts_place}
use Rattle.flat_cactus.proofs.flat.FlatCactus.push_node.Goals as goal

pub returns-clause-ok : goal.returns-clause-ok
returns-clause-ok c =
    let starts = c.self.inside.node_starts.items in
    let items = c.self.inside.vertices.items in
    let grown : c.push.new.self.items ≡ starts ++ length items ∷ [] = search rules in
    let lists = ap (λ (l : List ℕ). cut_at l items) grown ∙ cut_list starts items in
    let holding : List (List ℕ) → Flat = λ ls. record { vertices = c.self.inside.n; nodes = ls; bridges = c.self.inside.bridges.items; cycles = cut_at c.self.inside.cycle_starts.items c.self.inside.members.items } in
    let grow : Flat → Flat = λ f. record f { nodes = f.nodes ++ [] ∷ [] } in
    ap holding lists ∙ ap grow c.self.view_is

pub invariant_of-self-2 : goal.invariant_of-self-2
invariant_of-self-2 c =
    let starts = c.self.inside.node_starts.items in
    let items = c.self.inside.vertices.items in
    let grown : c.push.new.self.items ≡ starts ++ length items ∷ [] = search rules in
    (starts_place starts c.push.new.self.items (length items) c.self.invariant.0 grown, c.self.invariant.1, first_place starts c.push.new.self.items (length items) c.self.invariant.2 grown, c.self.invariant.3)
