use Rattle.std.proofs.Common.{◌≡◌, List, true, subst, sym, rules}
use Rattle.std.specs.List.{All}
use Rattle.std.proofs.lemmas.List.Elements.{All-push}
use Rattle.vertex_set.specs.Side.{VertexList}
use Rattle.cut_listing.specs.Asks.{lets}
use Rattle.cut_listing.proofs.Passes.{kept_one, whatever}
use Rattle.cut_listing.proofs.lister.Lister.keep.Goals as goal

pub returns-clause-found : goal.returns-clause-found
returns-clause-found g c =
    let over_n : VertexList → Type 0 = λ s. s.vertices ≡ c.args.self.now.n in
    whatever _ (subst (All over_n) (sym {A = List VertexList} c.in_ok-push.ensures.items) (All-push over_n c.args.found.now.items c.args.room c.requires.found c.requires.room.vertices))

pub returns-clause-kept : goal.returns-clause-kept
returns-clause-kept g c =
    let room = c.args.room in
    let asked : lets c.args.self.now.ask room.members ≡ true = search rules in
    whatever _ (kept_one (lets c.args.self.now.ask) c.args.found.now.items c.push.new.self.items room c.in_ok-push.ensures.items asked)
