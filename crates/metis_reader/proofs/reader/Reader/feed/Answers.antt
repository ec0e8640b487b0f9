use Rattle.std.proofs.Common.{◌≡◌, ◌≤◌, ◌^◌, ◌+◌, ◌++◌, length, None, Some, refl, ap, sym, ◌∙◌, arith}
use Rattle.std.specs.Prelude.{Err}
use Rattle.metis_reader.specs.declared.fault.ReadRefusal.TheVariants.{NoMemory, Fault}
use Rattle.metis_reader.specs.Fed.{IsOpen}
use Rattle.metis_reader.proofs.FixedFaults.{none_within}
use Rattle.metis_reader.proofs.Standing.{open_from, stands_open, refused_from, stands_refused, refused_more, refused_by, fault_from, memory_from, answered_is, refusal_from, none_some}
use Rattle.metis_reader.proofs.reader.Reader.feed.Goals as goal

pub returns-in-Some-clause-stands : goal.returns-in-Some-clause-stands
returns-in-Some-clause-stands c = λ bytes h.
    stands_refused c.args.self.now (bytes ++ c.args.piece.now) c.in-Some.refusal c.in-Some.is
    (refused_more c.args.self.now bytes c.args.piece.now c.in-Some.refusal (refused_from c.args.self.now bytes c.in-Some.refusal c.in-Some.is h))

pub returns-in-Some-clause-fault : goal.returns-in-Some-clause-fault
returns-in-Some-clause-fault c = λ f e bytes h.
    let same : c.in-Some.refusal ≡ Fault f = cc in
    fault_from c.args.self.now (bytes ++ c.args.piece.now) c.in-Some.refusal f
    (refused_more c.args.self.now bytes c.args.piece.now c.in-Some.refusal (refused_from c.args.self.now bytes c.in-Some.refusal c.in-Some.is h)) same

pub returns-in-Some-clause-no_memory : goal.returns-in-Some-clause-no_memory
returns-in-Some-clause-no_memory c = λ e none bytes h. absurd (none_some c.in-Some.refusal (sym (refusal_from c.args.self.now _ none) ∙ c.in-Some.is))

pub returns-in-Some-clause-again : goal.returns-in-Some-clause-again
returns-in-Some-clause-again c = λ refusal e.
    let is : c.args.self.now.refusal ≡ Some refusal = refusal_from c.args.self.now _ e in
    let was : c.args.self.now.refusal ≡ Some c.in-Some.refusal = c.in-Some.is in
    let same : c.in-Some.refusal ≡ refusal = cc in
    ap (λ r. Err r) same

pub returns-in-Some-clause-refused : goal.returns-in-Some-clause-refused
returns-in-Some-clause-refused c = answered_is c.args.self.now (Some c.in-Some.refusal) c.in-Some.is

pub returns-in-Ok-clause-stands : goal.returns-in-Ok-clause-stands
returns-in-Ok-clause-stands c = λ bytes h.
    stands_open c.take_within.new.self (bytes ++ c.args.piece.now) (c.take_within.ensures.same_refusal ∙ c.in_default.is)
    (c.in-Ok.ensures.exact bytes (open_from c.args.self.now bytes c.in_default.is h))

pub returns-in-Ok-clause-ok : goal.returns-in-Ok-clause-ok
returns-in-Ok-clause-ok c = λ bytes h.
    let now : IsOpen c.take_within.new.self (bytes ++ c.args.piece.now) = c.in-Ok.ensures.exact bytes (open_from c.args.self.now bytes c.in_default.is h) in
    let left : c.take_within.new.self.left + length (bytes ++ c.args.piece.now) ≡ 2 ^ 33 = now.left in
    let short : length (bytes ++ c.args.piece.now) ≤ 2 ^ 33 = omega arith in
    none_within (bytes ++ c.args.piece.now) short now.none

pub returns-in-Ok-clause-again : goal.returns-in-Ok-clause-again
returns-in-Ok-clause-again c = λ refusal e. absurd (none_some refusal (sym c.in_default.is ∙ refusal_from c.args.self.now _ e))

pub returns-in-Ok-clause-no_refusal : goal.returns-in-Ok-clause-no_refusal
returns-in-Ok-clause-no_refusal c = answered_is c.take_within.new.self None (c.take_within.ensures.same_refusal ∙ c.in_default.is)

pub returns-in-Err-clause-stands : goal.returns-in-Err-clause-stands
returns-in-Err-clause-stands c = λ bytes h.
    let fed = c.in-Err.ensures.exact bytes (open_from c.args.self.now bytes c.in_default.is h) in
    stands_refused _ (bytes ++ c.args.piece.now) c.in-Err.refusal refl (refused_by _ bytes c.args.piece.now c.in-Err.refusal fed)

pub returns-in-Err-clause-fault : goal.returns-in-Err-clause-fault
returns-in-Err-clause-fault c = λ f e bytes h.
    let fed = c.in-Err.ensures.exact bytes (open_from c.args.self.now bytes c.in_default.is h) in
    let same : c.in-Err.refusal ≡ Fault f = cc in
    fault_from c.args.self.now (bytes ++ c.args.piece.now) c.in-Err.refusal f (refused_by c.args.self.now bytes c.args.piece.now c.in-Err.refusal fed) same

pub returns-in-Err-clause-no_memory : goal.returns-in-Err-clause-no_memory
returns-in-Err-clause-no_memory c = λ e none bytes h.
    let fed = c.in-Err.ensures.exact bytes (open_from c.args.self.now bytes c.in_default.is h) in
    let same : c.in-Err.refusal ≡ NoMemory = cc in
    memory_from bytes c.args.piece.now c.in-Err.refusal fed same

pub returns-in-Err-clause-again : goal.returns-in-Err-clause-again
returns-in-Err-clause-again c = λ refusal e. absurd (none_some refusal (sym c.in_default.is ∙ refusal_from c.args.self.now _ e))

pub returns-in-Err-clause-refused : goal.returns-in-Err-clause-refused
returns-in-Err-clause-refused c = answered_is _ (Some c.in-Err.refusal) refl
