use Rattle.std.proofs.Common.{◌≡◌, ◌+◌, ◌-◌, [], ◌∷◌, List, length, ◌∙◌, ap, sym, subst, arith}
use Rattle.std.proofs.lemmas.List.{length-append, length-drop}
use Rattle.cut_definitions.proofs.ListLaws.{popped_is}
use Rattle.rooted_cactus.specs.Entries.{top_first, all_drawn, left, joints_of, wanted}
use Rattle.rooted_cactus.proofs.Entries.{top_push, top_length, none_popped, alone}
use Rattle.rooted_cactus.specs.declared.tree.entries.ShedNode.{ShedNode}
use Rattle.rooted_cactus.proofs.Makes.{Readied, readied_enough, readied_one, makes_none, makes_one, makes_all}
use Rattle.rooted_cactus.proofs.tree.put.put_together.Goals as goal

pub up-init : goal.up-init
up-init g c = record {
  readied = subst (Readied c.args.entries.items) (sym (ap length c.in_ok-finished.ensures.items)) record { ready = c.requires.ready; one = c.requires.one };
  makes = λ sets r may e. makes_none sets (g.M.Maker.node_is sets) r c.args.entries.items (top_first c.in_ok-finished.finished.items) (ap top_first c.in_ok-finished.ensures.items) e;
  empty = c.new-row.ensures.items;
}

pub draw_blocks-requires-clause-enough : goal.draw_blocks-requires-clause-enough
draw_blocks-requires-clause-enough g c =
    let es = c.pop.new.self.items in
    let e = c.in-Some.entry in
    let popped = popped_is c.up.entries.items es c.pop.result e c.pop.ensures.items c.in-Some.is in
    readied_enough c.up.entries.items es e (length c.up.finished.items) c.up.invariant.readied popped

pub up-smaller : goal.up-smaller
up-smaller g c =
    let popped = popped_is c.up.entries.items c.pop.new.self.items c.pop.result c.in-Some.entry c.pop.ensures.items c.in-Some.is in
    omega (arith, ap length popped, length-append c.pop.new.self.items (c.in-Some.entry ∷ []))

pub up-preserved : goal.up-preserved
up-preserved g c =
    let es = c.pop.new.self.items in
    let e = c.in-Some.entry in
    let popped = popped_is c.up.entries.items es c.pop.result e c.pop.ensures.items c.in-Some.is in
    let x = c.in_ok-node.node in
    let before = c.up.finished.items in
    let under = c.draw_blocks.new.stack.items in
    let fewer : length under ≡ length before - wanted (joints_of e) =
    sym (top_length under) ∙ ap length c.in_ok-draw_blocks.ensures.stack ∙ length-drop (wanted (joints_of e)) (top_first before) ∙ ap (λ k. k - wanted (joints_of e)) (top_length before) in
    record {
      readied = readied_one c.up.entries.items es e (length before) (length c.push.new.self.items) c.up.invariant.readied popped (ap length c.in_ok-push.ensures.items ∙ length-append under (x ∷ []) ∙ ap (λ k. k + 1) fewer);
      makes = λ sets r may begun.
          makes_one sets (g.M.Maker.node_is sets) r c.up.entries.items es e x (top_first before) (top_first under) (top_first c.push.new.self.items) (c.up.invariant.makes sets r may begun) popped
          (λ rs a. c.in_ok-node.ensures.node sets (all_drawn sets (joints_of e) rs) may (c.in_ok-draw_blocks.ensures.blocks sets rs may a))
          c.in_ok-draw_blocks.ensures.stack (ap top_first c.in_ok-push.ensures.items ∙ top_push under x);
      empty = c.in_ok-node.ensures.empty;
    }

pub unwrap-requires : goal.unwrap-requires
unwrap-requires g c =
    let none = none_popped c.up.entries.items c.up.entries.len c.pop.result c.up.entries.ok.0 c.pop.ensures.variant c.in_default.not-Some in
    let many : length c.up.finished.items ≡ 1 = subst (λ (l : List ShedNode). left l (length c.up.finished.items) ≡ 1) none c.up.invariant.readied.one in
    c.pop-2.ensures.variant.1 (omega (arith, many))

pub returns : goal.returns
returns g c = λ sets r may begun.
    let none = none_popped c.up.entries.items c.up.entries.len c.pop.result c.up.entries.ok.0 c.pop.ensures.variant c.in_default.not-Some in
    let finished = c.up.finished.items in
    let many : length finished ≡ 1 = subst (λ (l : List ShedNode). left l (length finished) ≡ 1) none c.up.invariant.readied.one in
    let x = c.unwrap.result in
    let popped = popped_is finished c.pop-2.new.self.items c.pop-2.result x c.pop-2.ensures.items c.unwrap.ensures in
    makes_all sets (g.M.Maker.node_is sets) r c.up.entries.items (top_first finished) x (c.up.invariant.makes sets r may begun) none (alone finished c.pop-2.new.self.items x popped many)
