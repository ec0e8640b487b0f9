use Rattle.std.proofs.Common.{List, [], ◌∷◌, ◌++◌, map, ◌∙◌, ap}
use Rattle.rooted_cactus.specs.Sides.{part, cycle_of}
use Rattle.rooted_cactus.proofs.Parts.{cycle_part}
use Rattle.rooted_cactus.specs.declared.tree.Node.{Node}
use Rattle.std.specs.List.{flat_map}
use Rattle.cactus_merge.specs.Joined.{held}
use Rattle.cactus_merge.proofs.Held.{cycle_held, run_held}
use Rattle.cactus_merge.proofs.Wide.{run_wide}
use Rattle.cactus_merge.proofs.assembly.draw_run.Goals as goal

pub returns-clause-cycle : goal.returns-clause-cycle
returns-clause-cycle c =
    cycle_part c.push.new.self ∙ ap (λ (xs : List Node). cycle_of (map part xs)) (c.in_ok-push.ensures.ok ∙ ap (λ (xs : List Node). xs ++ c.args.end ∷ []) c.in_ok-cycle.ensures.back)

pub returns-clause-held : goal.returns-clause-held
returns-clause-held c =
    cycle_held c.push.new.self ∙ ap (flat_map held) (c.in_ok-push.ensures.ok ∙ ap (λ (xs : List Node). xs ++ c.args.end ∷ []) c.in_ok-cycle.ensures.back) ∙ run_held _ c.args.end

pub returns-clause-wide : goal.returns-clause-wide
returns-clause-wide c = λ some h k.
    run_wide c.push.new.self _ _ c.args.end (c.in_ok-push.ensures.ok ∙ ap (λ (xs : List Node). xs ++ c.args.end ∷ []) c.in_ok-cycle.ensures.back) some h k
