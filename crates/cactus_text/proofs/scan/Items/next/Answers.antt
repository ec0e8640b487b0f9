use Rattle.cactus_text.proofs.Scanning.{no_space_next, no_number_next}
use Rattle.cactus_text.proofs.scan.Items.next.Goals as goal

pub returns-in_default-clause-broken : goal.returns-in_default-clause-broken
returns-in_default-clause-broken c e numbers h =
    no_space_next c.args.self.now.rest.now (c.is_at_end.ensures.no c.if-is_at_end.false) c.in_default.ensures numbers h

pub returns-in-None-clause-broken : goal.returns-in-None-clause-broken
returns-in-None-clause-broken c e numbers h =
    no_number_next c.args.self.now.rest.now c.in-Some.text.now (c.is_at_end.ensures.no c.if-is_at_end.false) c.in-Some.ensures (λ n k l. let p = c.in-None.ensures.none n k l in cc p) numbers h
