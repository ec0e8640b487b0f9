use Rattle.std.proofs.Common.{◌≡◌, ◌≢◌, ◌+◌, ℕ, true, false, not, ⊎_elim, sym, ap, ◌∙◌, subst, arith}
use Rattle.std.proofs.lemmas.Bool.{cases_eq, false≢true}
use Rattle.cut_definitions.specs.Cuts.{has}
use Rattle.scan_core.proofs.played.is_cut.Goals as goal
use Rattle.scan_core.proofs.played.is_cut.Goals.{then-has, else-has}

pub loop-i-preserved : goal.loop-i-preserved
loop-i-preserved c =
    let inv = c.loop-i.invariant in
    let i : ℕ = c.loop-i.i in
    let s = has c.args.side.now.members in
    let here = c.has.ensures in
    let within = c.loop-i-test.true in
    let n = c.n-i-end.ensures.value in
    elim c.if-has.branch [
      | then-has w ↦ rw (w.some_in-is, w.some_out-is) (record {
        member = λ _. record { vertex = i + 1; from_one = omega arith; to_n = omega arith; is_in = sym here ∙ w.if-has.true };
        stranger = inv.stranger;
        no_member = λ off. absurd (false≢true (sym off));
        no_stranger = λ off v from to. ⊎_elim
            (λ (same : v ≡ i + 1). subst (λ (x : ℕ). s x ≡ true) (sym same) (sym here ∙ w.if-has.true))
            (λ (apart : v ≢ i + 1). inv.no_stranger off v from (omega arith))
            (cases_eq v (i + 1));
      })
      | else-has w ↦ rw (w.some_in-is, w.some_out-is) (record {
        member = inv.member;
        stranger = λ _. record { vertex = i + 1; from_one = omega arith; to_n = omega arith; is_in = ap not (sym here ∙ w.if-has.false) };
        no_member = λ off v from to. ⊎_elim
            (λ (same : v ≡ i + 1). subst (λ (x : ℕ). s x ≡ false) (sym same) (sym here ∙ w.if-has.false))
            (λ (apart : v ≢ i + 1). inv.no_member off v from (omega arith))
            (cases_eq v (i + 1));
        no_stranger = λ off. absurd (false≢true (sym off));
      })
    ]
