use Rattle.std.proofs.Common.{◌≡◌, ◌-◌, ◌∙◌, ap, arith, length, map}
use Rattle.cut_definitions.proofs.ListLaws.{popped_is}
use Rattle.rooted_cactus.specs.Trees.{blocks}
use Rattle.rooted_cactus.specs.Outlines.{all_outlines, block_outline}
use Rattle.rooted_cactus.specs.Heads.{entries_waiting}
use Rattle.rooted_cactus.proofs.Stacked.{waiting_push, entered_one}
use Rattle.rooted_cactus.proofs.tree.outline.outline_of.Goals as goal

pub walk-smaller : goal.walk-smaller
walk-smaller c =
    let popped = ap entries_waiting (popped_is c.walk.stack.items c.pop.new.self.items c.pop.result c.in-Some.seen c.pop.ensures.items c.in-Some.is) ∙ waiting_push c.pop.new.self.items c.in-Some.seen in
    let more : c.len.result - c.len-before.result ≡ length (all_outlines (map block_outline (blocks c.in-Some.seen.node.now))) = omega (arith, c.len.ensures, c.len-before.ensures, c.in_ok-stack_blocks.ensures.length) in
    (entered_one c.in-Some.seen.node.now record { children = c.len.result - c.len-before.result; head = c.in-Some.seen.head } c.walk.entries.items c.push-in-Some.new.self.items (entries_waiting c.walk.stack.items) (entries_waiting c.stack_blocks.new.stack.items) (entries_waiting c.pop.new.self.items)
    popped c.in_ok-stack_blocks.ensures.entries more c.in_ok-push-2.ensures.items).0

pub walk-preserved : goal.walk-preserved
walk-preserved c =
    let popped = ap entries_waiting (popped_is c.walk.stack.items c.pop.new.self.items c.pop.result c.in-Some.seen c.pop.ensures.items c.in-Some.is) ∙ waiting_push c.pop.new.self.items c.in-Some.seen in
    let more : c.len.result - c.len-before.result ≡ length (all_outlines (map block_outline (blocks c.in-Some.seen.node.now))) = omega (arith, c.len.ensures, c.len-before.ensures, c.in_ok-stack_blocks.ensures.length) in
    (entered_one c.in-Some.seen.node.now record { children = c.len.result - c.len-before.result; head = c.in-Some.seen.head } c.walk.entries.items c.push-in-Some.new.self.items (entries_waiting c.walk.stack.items) (entries_waiting c.stack_blocks.new.stack.items) (entries_waiting c.pop.new.self.items)
    popped c.in_ok-stack_blocks.ensures.entries more c.in_ok-push-2.ensures.items).1 ∙ c.walk.invariant
