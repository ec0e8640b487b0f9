use Rattle.std.proofs.Common.{◌≡◌, ℕ, ◌+◌, List, [], get_or, sym, subst, arith}
use Rattle.std.specs.Prelude.{if◌then◌else◌}
use Rattle.std.proofs.lemmas.Option.{get_or_from_slice_get}
use Rattle.cut_definitions.specs.Cuts.{has}
use Rattle.mincut_c.proofs.SetNumbers.{set_more}
use Rattle.mincut_c.proofs.augments.put_sets.Goals as goal

pub sets-preserved : goal.sets-preserved
sets-preserved c =
    let sets = c.args.plan.now.sets in
    let k = c.sets.k in
    let set : get_or sets k [] ≡ c.set.result.now = get_or_from_slice_get sets k c.set.result.now [] c.set.ensures in
    set_more c.args.n k sets c.sets.set_of c.put_set.new.set_of c.requires.disjoint (omega (arith, c.sets-test.true, c.sets-k-end.ensures)) c.sets.invariant (λ v lt.
    subst (λ (s : List ℕ). get_or c.put_set.new.set_of v 0 ≡ (if has s (v + 1) then k + 1 else get_or c.sets.set_of v 0)) (sym set) (c.put_set.ensures v (omega (arith, lt, c.requires.room, c.sets.auto.set_of))))
