use Rattle.std.proofs.Common.{◌≡◌, ◌<◌, ◌+◌, ◌++◌, ◌∷◌, [], ℕ, length, take, subst, ap, sym, add-one, arith}
use Rattle.std.specs.Prelude.{slice_set}
use Rattle.std.proofs.Math.Seq.{take-suc-set}
use Rattle.std.proofs.lemmas.List.{take_all, length-take-le}
use Rattle.cactus_text.specs.Scanned.{Follows}
use Rattle.cactus_text.proofs.Following.{follows_more, follows_end, not_word, no_more, some_more}
use Rattle.cactus_text.proofs.scan.read_numbers.Goals as goal

pub returns-in_default-clause-other : goal.returns-in_default-clause-other
returns-in_default-clause-other c e numbers h = absurd (not_word c.args.word.now c.args.line.now c.in_default.ensures numbers h)

pub returns-in_default-number-clause-other : goal.returns-in_default-number-clause-other
returns-in_default-number-clause-other c e numbers h same =
    let room = c.numbers.room in
    let i = c.numbers.i in
    let within : i < length room = omega (arith, c.numbers-test.true, c.numbers.auto.room) in
    let count : length numbers ≡ length (take i room) =
    no_more c.args.word.now c.args.line.now c.in-Some.items.rest.now (take i room) c.numbers.items.rest.now numbers c.in-Some.ensures c.numbers.invariant
    (λ n ms l. let p = c.in_default-number.ensures.none n ms l in cc p) h in
    omega (arith, count, same, within, length-take-le i room (omega (arith, within)))

pub numbers-preserved : goal.numbers-preserved
numbers-preserved c =
    let room = c.numbers.room in
    let i = c.numbers.i in
    let x = c.in-Some-number.number in
    let grown : take (i + 1) (slice_set room i x) ≡ take i room ++ x ∷ [] = rw (add-one i) (take-suc-set room i x (omega (arith, c.numbers-test.true, c.numbers.auto.room))) in
    subst (λ ns. Follows c.in-Some.items.rest.now ns c.number.new.self.rest.now) (sym grown)
    (follows_more c.in-Some.items.rest.now (take i room) c.numbers.items.rest.now x c.number.new.self.rest.now c.numbers.invariant c.in-Some-number.ensures.some)

pub returns-clause-all : goal.returns-clause-all
returns-clause-all c yes_ =
    let room = c.numbers.room in
    let i = c.numbers.i in
    let start = c.in-Some.items.rest.now in
    let all : take i room ≡ room = take_all i room (omega (arith, c.numbers-test.false, c.numbers.auto.room)) in
    let ended = c.is_at_end.ensures.yes yes_ in
    follows_end c.args.word.now c.args.line.now start room c.requires c.in-Some.ensures
    (subst (λ ns. Follows start ns (10 ∷ [])) all (subst (λ r. Follows start (take i room) r) ended c.numbers.invariant))

pub returns-clause-other : goal.returns-clause-other
returns-clause-other c no_ numbers h same =
    let room = c.numbers.room in
    let i = c.numbers.i in
    let all : take i room ≡ room = take_all i room (omega (arith, c.numbers-test.false, c.numbers.auto.room)) in
    let more : length (take i room) < length numbers =
    some_more c.args.word.now c.args.line.now c.in-Some.items.rest.now (take i room) c.numbers.items.rest.now numbers c.in-Some.ensures c.numbers.invariant (c.is_at_end.ensures.no no_) h in
    omega (arith, more, same, ap (length {A = ℕ}) all)
