-- What is left can be divided on, from one vertex after another.
use Rattle.std.proofs.Common.{◌≡◌, ℕ, ◌+◌, ◌-◌, ◌<◌, ◌≤◌, ⊎_elim, List, refl, ◌∙◌, subst, arith}
use Rattle.std.specs.Prelude.{◌≢◌, slice_index}
use Rattle.std.proofs.lemmas.Bool.{cases_lt}
use Rattle.residual_chain.specs.Residuals.{leads}
use Rattle.arc_search.specs.Marks.{mark_of}
use Rattle.residual_chain.specs.Search.{steps}
use Rattle.residual_chain.specs.Paths.{arcs_of_search}
use Rattle.residual_chain.specs.Arcs.{HasArcs-shown}
use Rattle.residual_chain.proofs.Splitting.{IsSplitOff-start, IsToSplit-after, IsSplitOff-then, IsSplit-all}
use Rattle.residual_chain.proofs.split.split.Goals as goal
use Rattle.residual_chain.proofs.split.split.Goals.{then-marks-before-eq0, else-marks-before-eq0}

-- one vertex more has a mark
marked_next : (marks : List ℕ) (before : ℕ) → ((v : ℕ) → 1 ≤ v → v ≤ before → mark_of marks v ≢ 0) → slice_index marks before ≢ 0 → (v : ℕ) → 1 ≤ v → v ≤ before + 1 → mark_of marks v ≢ 0
marked_next marks before h here v a b =
    ⊎_elim
    (λ (l : v < before + 1). h v a (omega arith))
    (λ (l : before + 1 ≤ v). let e : before ≡ v - 1 = omega arith in subst (λ (k : ℕ). slice_index marks k ≢ 0) e here)
    (cases_lt v (before + 1))

pub loop-before-init : goal.loop-before-init
loop-before-init c =
    let g = c.args.arcs.graph.now in
    let f = c.args.arcs.flow.now in
    let d = c.args.arcs.direction in
    record {
      so_far = IsSplitOff-start g.vertices c.args.parts (arcs_of_search g f d) (steps d (leads g f)) c.args.part_of.now c.args.marks.now (HasArcs-shown g f d c.requires.shown)
          c.requires.part_of c.requires.marks c.requires.split;
      memory = refl;
      marked = λ v a b. absurd (omega arith);
    }

pub walk-parts-requires-clause-split : goal.walk-parts-requires-clause-split
walk-parts-requires-clause-split c =
    let g = c.args.arcs.graph.now in
    let f = c.args.arcs.flow.now in
    let d = c.args.arcs.direction in
    let l = c.loop-before in
    IsToSplit-after g.vertices (arcs_of_search g f d) (steps d (leads g f)) c.args.parts l.parts c.args.part_of.now c.args.marks.now l.part_of l.marks
    (HasArcs-shown g f d c.requires.shown) c.requires.split l.invariant.so_far

pub loop-before-preserved : goal.loop-before-preserved
loop-before-preserved c =
    let g = c.args.arcs.graph.now in
    let f = c.args.arcs.flow.now in
    let d = c.args.arcs.direction in
    let l = c.loop-before in
    let before_is : l.before + 1 - 1 ≡ l.before = omega arith in
    elim c.if-marks-before-eq0.branch [
      | then-marks-before-eq0 w ↦
          let more = w.walk-parts.ensures.split_off in
          rw (w.parts-is, w.part_of-is, w.marks-is, w.memory-is)
          (record {
            so_far = IsSplitOff-then g.vertices (arcs_of_search g f d) (steps d (leads g f)) c.args.parts l.parts w.walk-parts.result c.args.part_of.now c.args.marks.now l.part_of l.marks
                w.walk-parts.new.part_of w.walk-parts.new.marks (HasArcs-shown g f d c.requires.shown) l.invariant.so_far more;
            memory = w.walk-parts.ensures.memory ∙ l.invariant.memory;
            marked = marked_next w.walk-parts.new.marks l.before
                (λ v a b. more.still_marked v a (omega (arith, c.loop-before-test.true, c.n-before-end.ensures.value)) (l.invariant.marked v a b))
                (subst (λ (k : ℕ). slice_index w.walk-parts.new.marks k ≢ 0) before_is w.walk-parts.ensures.start_marked);
          })
      | else-marks-before-eq0 w ↦
          rw (w.parts-is, w.part_of-is, w.marks-is, w.memory-is)
          (record { so_far = l.invariant.so_far; memory = l.invariant.memory; marked = marked_next l.marks l.before l.invariant.marked w.if-marks-before-eq0.false })
    ]

pub returns : goal.returns
returns c =
    let g = c.args.arcs.graph.now in
    let f = c.args.arcs.flow.now in
    let d = c.args.arcs.direction in
    let l = c.loop-before in
    IsSplit-all g.vertices (steps d (leads g f)) c.args.parts l.parts c.args.part_of.now c.args.marks.now l.part_of l.marks l.invariant.so_far
    (λ v a b. l.invariant.marked v a (omega (arith, c.loop-before-test.false, c.n-before-end.ensures.value)))
