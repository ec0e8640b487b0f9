use Rattle.std.proofs.Common.{◌≡◌, [], ◌∷◌, ◌++◌, List, length, ◌∙◌, ap, sym, subst, arith}
use Rattle.std.proofs.lemmas.List.{length-append}
use Rattle.cut_definitions.proofs.ListLaws.{popped_is}
use Rattle.cut_definitions.specs.Cuts.{has}
use Rattle.rooted_cactus.specs.Entries.{Read, bridge_read, cycle_read, node_read}
use Rattle.canonical_cactus.specs.Making.{AreBlocksOf, AreNodesOf, IsBlockOf, IsNodeOf}
use Rattle.canonical_cactus.specs.declared.parts.Hung.{Hung}
use Rattle.canonical_cactus.proofs.Draws.{two_popped, two_read}
use Rattle.canonical_cactus.proofs.Stars.{star_shown}
use Rattle.canonical_cactus.proofs.rows.star_of.Goals as goal

-- a list that had two elements appended
two : (none one both : List Hung) (x y : Hung) → none ≡ [] → one ≡ none ++ x ∷ [] → both ≡ one ++ y ∷ [] → both ≡ x ∷ (y ∷ [])
two none one both x y a b c = c ∙ ap (λ l. l ++ y ∷ []) (b ∙ ap (λ l. l ++ x ∷ []) a)

pub unwrap-second-requires : goal.unwrap-second-requires
unwrap-second-requires c =
    let popped = popped_is c.args.nodes.items c.pop.new.self.items c.pop.result c.unwrap-first.result c.pop.ensures.items c.unwrap-first.ensures in
    c.pop-2.ensures.variant.1 (omega (arith, c.requires, ap length popped, length-append c.pop.new.self.items (c.unwrap-first.result ∷ [])))

pub returns : goal.returns
returns c = λ rs a.
    let x = c.unwrap-first.result in
    let y = c.unwrap-second.result in
    let middle = c.pop.new.self.items in
    let one = popped_is c.args.nodes.items middle c.pop.result x c.pop.ensures.items c.unwrap-first.ensures in
    let next = popped_is middle c.pop-2.new.self.items c.pop-2.result y c.pop-2.ensures.items c.unwrap-second.ensures in
    let read = two_read rs x y (subst (AreNodesOf rs) (two_popped c.args.nodes.items middle c.pop-2.new.self.items x y one next c.requires) a) in
    let r = read.0 in
    let s = read.1 in
    let first = c.in_ok-first.first in
    let second = c.in_ok-second.second in
    let row = two _ _ _ first second c.in_ok-blocks.ensures.items c.in_ok-push.ensures.items c.in_ok-push-2.ensures.items in
    let blocks = subst (AreBlocksOf (bridge_read r ∷ (bridge_read s ∷ []))) (sym row) (c.in_ok-first.ensures r read.3, (c.in_ok-second.ensures s read.4, tt)) in
    let node = subst (λ l. IsNodeOf (node_read has l (bridge_read r ∷ (bridge_read s ∷ []))) c.in_ok-middle.middle) c.new-none.ensures (c.in_ok-middle.ensures.node (bridge_read r ∷ (bridge_read s ∷ [])) blocks) in
    subst (λ (l : List Read). IsBlockOf (cycle_read l) c.in_ok-block.block) (sym read.2) (star_shown r s c.in_ok-block.block (c.in_ok-block.ensures _ node))
