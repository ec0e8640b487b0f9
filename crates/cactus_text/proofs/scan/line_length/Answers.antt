use Rattle.std.proofs.Common.{◌≡◌, ◌≤◌, ◌<◌, ◌∷◌, [], ℕ, List, length, take, get_or, subst, ap, sym, ◌∙◌, add-one, arith}
use Rattle.std.proofs.lemmas.List.{take_all, drop_all}
use Rattle.cactus_text.specs.Reading.{lines}
use Rattle.cactus_text.specs.Scanned.{IsPlain}
use Rattle.cactus_text.proofs.Splitting.{plain_more, to_feed, no_feed}
use Rattle.cactus_text.proofs.scan.line_length.Goals.{then-scan-test+else-text-i-ne10, else-scan-test}
use Rattle.cactus_text.proofs.scan.line_length.Goals as goal

pub scan-preserved : goal.scan-preserved
scan-preserved c =
    let text = c.args.text.now in
    let within : c.scan.i < length text = c.scan-test.true in
    record {
      within = omega (arith, within);
      plain = rw (add-one c.scan.i) (plain_more text c.scan.i within c.scan.invariant.plain c.if-text-i-ne10.true);
    }

pub returns-then-i-text-clause-line : goal.returns-then-i-text-clause-line
returns-then-i-text-clause-line c =
    let text = c.args.text.now in
    let i = c.scan.i in
    let within : i < length text = c.if-i-text.true in
    let feed : get_or text i 0 ≡ 10 = elim c.scan-test.branch [ then-scan-test+else-text-i-ne10 w ↦ w.if-text-i-ne10.false | else-scan-test w ↦ absurd (omega (arith, within, w.scan-test.false)) ] in
    rw (add-one i) (to_feed text i within c.scan.invariant.plain feed)

pub returns-else-i-text-clause-line : goal.returns-else-i-text-clause-line
returns-else-i-text-clause-line c =
    let text = c.args.text.now in
    let i = c.scan.i in
    let past : length text ≤ i = c.if-i-text.false in
    let all : take i text ≡ text = take_all i text past in
    no_feed text c.requires (subst IsPlain all c.scan.invariant.plain)
    ∙ ap (λ (l : List ℕ). l ∷ []) (sym all)
    ∙ ap (λ (l : List ℕ). take i text ∷ lines l) (sym (drop_all i text past))
