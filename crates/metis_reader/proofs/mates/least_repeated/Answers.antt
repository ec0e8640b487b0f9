use Rattle.std.proofs.Common.{◌≡◌, ◌+◌, ◌≤◌, ◌<◌, ℕ, length, arith, IfSome, subst, sym, ◌∙◌, true, false}
use Rattle.cut_definitions.specs.declared.edge_list.Edge.{Edge}
use Rattle.metis_reader.specs.Mates.{Repeats}
use Rattle.metis_reader.proofs.Times.{repeat_here, steps_found, steps_before, steps_none, steps_some, repeats_by, Steps}
use Rattle.metis_reader.proofs.mates.least_repeated.Goals as goal
use Rattle.metis_reader.proofs.mates.least_repeated.Goals.{then-not-is_before, else-not-is_before}

abbrev origin : Edge
origin = record { u = 0; v = 0; w = 0 }

false_no_true : false ≡ true → ⊥
false_no_true e = cc

pub loop-i-preserved : goal.loop-i-preserved
loop-i-preserved c =
    let xs = c.args.edges.now in
    let i : ℕ = c.loop-i.i in
    let one : 1 ≤ i = c.loop-i.auto.i in
    let inside : i < length xs = omega arith in
    elim c.if-not-is_before.branch [
      | then-not-is_before w ↦ record {
        repeats = subst (λ o. IfSome o (λ x. Repeats c.args.end x xs)) (sym w.found-is)
            (repeats_by c.args.end xs c.loop-i.found w.lesser_of-found.result w.owner.result w.lesser_of-found.ensures c.loop-i.invariant.repeats
            (repeat_here c.args.end xs i w.owner.result origin c.requires one inside (λ before. false_no_true (sym w.if-not-is_before.true ∙ c.is_before.ensures.1 before)) w.owner.ensures));
        steps = subst (λ o. Steps c.args.end xs (i + 1) o) (sym w.found-is)
            (steps_found c.args.end xs i w.owner.result c.loop-i.found w.lesser_of-found.result origin inside w.lesser_of-found.ensures w.owner.ensures c.loop-i.invariant.steps);
      }
      | else-not-is_before w ↦ record {
        repeats = subst (λ o. IfSome o (λ x. Repeats c.args.end x xs)) (sym w.found-is) c.loop-i.invariant.repeats;
        steps = subst (λ o. Steps c.args.end xs (i + 1) o) (sym w.found-is)
            (steps_before c.args.end xs i c.loop-i.found origin one inside (c.is_before.ensures.0 w.if-not-is_before.false) c.loop-i.invariant.steps);
      }
    ]

pub returns-clause-none : goal.returns-clause-none
returns-clause-none c = let all : length c.args.edges.now ≤ c.loop-i.i = omega arith in steps_none c.args.end c.args.edges.now c.loop-i.i c.loop-i.found all c.loop-i.invariant.steps

pub returns-clause-some : goal.returns-clause-some
returns-clause-some c =
    let all : length c.args.edges.now ≤ c.loop-i.i = omega arith in
    steps_some c.args.end c.args.edges.now c.loop-i.i c.loop-i.found c.requires all c.loop-i.invariant.steps c.loop-i.invariant.repeats
