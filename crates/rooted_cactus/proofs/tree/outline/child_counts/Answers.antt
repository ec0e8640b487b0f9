use Rattle.std.proofs.Common.{◌∙◌, map, ap, refl}
use Rattle.std.proofs.lemmas.List.{take_all}
use Rattle.rooted_cactus.specs.declared.tree.outline.NodeOutline.{NodeOutline}
use Rattle.rooted_cactus.proofs.Steps.{map_next}
use Rattle.rooted_cactus.proofs.tree.outline.child_counts.Goals as goal

pub entries-preserved : goal.entries-preserved
entries-preserved c =
    let none : NodeOutline = record { children = 0; head = 0 } in
    record {
      end = refl;
      counted = c.in_ok-push.ensures.items
          ∙ map_next (λ (e : NodeOutline). e.children) c.args.entries.now c.entries.i none c.entries.counts.items c.entries-test.true c.entries.invariant.counted;
    }

pub returns : goal.returns
returns c = c.entries.invariant.counted ∙ ap (map (λ (e : NodeOutline). e.children)) (take_all c.entries.i c.args.entries.now c.entries-test.false)
