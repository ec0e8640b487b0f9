use Rattle.std.proofs.Common.{◌≡◌, ◌+◌, get_or, ap, arith}
use Rattle.std.proofs.lemmas.List.{get_or_read}
use Rattle.cut_definitions.proofs.ListLaws.{at_drop}
use Rattle.capped_scan.specs.Scan.{ScanState, key, link_of}
use Rattle.capped_scan.proofs.Standing.{link_lower}
use Rattle.capped_scan.proofs.capped.Scan.link.Goals as goal

pub returns-clause-lower : goal.returns-clause-lower
returns-clause-lower c = λ x before s order_is parted.
    let i = c.self.inside in
    let value : c.index.result.now ≡ get_or i.tree.items (i.size + c.args.y) 0 =
    get_or_read i.tree.items (i.size + c.args.y) c.index.result.now (omega (arith, c.requires.to_n, c.requires.stands.vertices, ap (λ (t : ScanState). t.vertices) c.self.view_is, c.self.invariant.room, c.self.invariant.is_tree.long)) c.index.ensures 0 in
    let is : c.saturating_sub.result ≡ link_of c.args.self.now c.args.y =
    omega (arith, ap (λ (t : ScanState). key t c.args.y) c.self.view_is, at_drop i.size c.args.y i.tree.items, value, c.saturating_sub.ensures) in
    link_lower c.args.graph.now c.args.self.now c.requires.stands c.args.y c.saturating_sub.result is x before s order_is parted
