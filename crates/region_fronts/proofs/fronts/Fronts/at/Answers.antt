use Rattle.std.proofs.Common.{◌<◌, length, ap, sym, subst, arith}
use Rattle.region_fronts.specs.Fronts.{FrontsState, list_at, lists_of}
use Rattle.region_fronts.proofs.FrontLists.{entry_is, entry_within}
use Rattle.region_fronts.proofs.fronts.Fronts.at.Goals as goal

pub returns-clause-to_n : goal.returns-clause-to_n
returns-clause-to_n c =
    let s = c.self.inside in
    let l : c.args.place < length (list_at (lists_of s.lists.items) c.args.region) = subst (λ (f : FrontsState). c.args.place < length (list_at f.lists c.args.region)) (sym c.self.view_is) c.requires in
    let same = ap (λ (f : FrontsState). f.vertices) c.self.view_is in
    omega (
      arith,
      same,
      entry_is s.lists.items c.args.region c.args.place c.index.result.now c.index-2.result.now l c.index.ensures c.index-2.ensures,
      entry_within s.n (lists_of s.lists.items) s.standing.items s.stack.items c.args.region c.args.place c.self.invariant l,
    )
