use Rattle.std.proofs.Common.{subst, sym, refl}
use Rattle.cactus_text.specs.Scanned.{Follows}
use Rattle.cactus_text.proofs.Following.{follows_more, follows_end, none_of, broken_off, not_word}
use Rattle.cactus_text.proofs.scan.read_line.Goals as goal

pub returns-in_default-clause-other : goal.returns-in_default-clause-other
returns-in_default-clause-other c e = none_of c.args.word.now c.args.line.now (λ numbers h. not_word c.args.word.now c.args.line.now c.in_default.ensures numbers h)

pub numbers-preserved : goal.numbers-preserved
numbers-preserved c =
    let start = c.in-Some.items.rest.now in
    let taken = c.in-Number.ensures.number c.in-Number.number refl in
    subst (λ ns. Follows start ns c.next.new.self.rest.now) (sym c.in_ok-push-in-Number.ensures.items)
    (follows_more start c.numbers.room.items c.numbers.items.rest.now c.in-Number.number c.next.new.self.rest.now c.numbers.invariant taken)

pub returns-in-End-clause-all : goal.returns-in-End-clause-all
returns-in-End-clause-all c e =
    let start = c.in-Some.items.rest.now in
    follows_end c.args.word.now c.args.line.now start c.numbers.room.items c.requires c.in-Some.ensures
    (subst (λ r. Follows start c.numbers.room.items r) (c.in-End.ensures.ended refl) c.numbers.invariant)

pub returns-in-Broken-clause-other : goal.returns-in-Broken-clause-other
returns-in-Broken-clause-other c e = none_of c.args.word.now c.args.line.now
    (λ numbers h. broken_off c.args.word.now c.args.line.now c.in-Some.items.rest.now c.numbers.room.items c.numbers.items.rest.now numbers c.in-Some.ensures c.numbers.invariant
    (c.in-Broken.ensures.broken refl) h)
