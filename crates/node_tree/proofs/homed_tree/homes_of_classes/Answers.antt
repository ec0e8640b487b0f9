use Rattle.std.proofs.Common.{◌∷◌, [], ◌++◌, ◌<◌, ◌∙◌, ap, sym, arith, List, ℕ, get_or, length}
use Rattle.std.proofs.lemmas.List.{map_more}
use Rattle.node_tree.proofs.homed_tree.homes_of_classes.Goals as goal

pub loop-class-preserved : goal.loop-class-preserved
loop-class-preserved c =
    let classes = c.args.classes.now in
    let i = c.loop-class.class-index in
    let home = λ (class : ℕ). get_or c.args.homes.now class 0 in
    let more : i < length classes = omega arith in
    c.in_ok-push-2.ensures.items
    ∙ ap (λ (l : List ℕ). l ++ home (get_or classes i 0) ∷ []) c.loop-class.invariant
    ∙ ap (λ (l : List ℕ). 0 ∷ l) (sym (map_more home classes i 0 more))
