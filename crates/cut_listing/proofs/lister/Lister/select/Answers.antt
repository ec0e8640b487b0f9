use Rattle.std.proofs.Common.{◌≡◌, Bool, rules, ◌==◌, ◌&&◌, ap, subst, sym, ◌∙◌}
use Rattle.std.specs.List.{All}
use Rattle.std.proofs.lemmas.List.Elements.{All-filter}
use Rattle.std.proofs.lemmas.Fn.{filter_same}
use Rattle.vertex_set.specs.Side.{VertexList, members_of}
use Rattle.cut_listing.specs.Asks.{lets}
use Rattle.cut_listing.proofs.Passes.{selected}
use Rattle.cut_listing.proofs.lister.Lister.select.Goals as goal

pub returns-clause-selected : goal.returns-clause-selected
returns-clause-selected g c =
    let n = c.args.self.now.n in
    let ask = c.args.self.now.ask in
    ap members_of (filter_same _ (λ (s : VertexList). (s.vertices == n) && lets ask s.members) _ (λ x b f' k. search rules) _ _ c.retain.ensures.filtered)
    ∙ selected n (lets ask) c.args.sides.items c.requires

pub returns-clause-over_n : goal.returns-clause-over_n
returns-clause-over_n g c =
    let n = c.args.self.now.n in
    let ask = c.args.self.now.ask in
    let over_n : VertexList → Type 0 = λ s. s.vertices ≡ n in
    let chosen : VertexList → Bool = λ s. (s.vertices == n) && lets ask s.members in
    subst (All over_n) (sym (filter_same _ chosen _ (λ x b f' k. search rules) _ _ c.retain.ensures.filtered)) (All-filter chosen over_n c.args.sides.items c.requires)
