-- A vertex more.
use Rattle.std.proofs.Common.{◌≡◌, ◌-◌, length, refl, ◌∙◌, sym, arith}
use Rattle.std.proofs.lemmas.List.{get_or_default}
use Rattle.vertex_order.proofs.Found.{found_at_most, put_finding, still_numbered}
use Rattle.vertex_order.proofs.finding.Finding.find.Goals as goal

pub overflow_cast-len : goal.overflow_cast-len
overflow_cast-len c =
    let most = found_at_most _ c.args.self.now c.requires.finding in
    omega (arith, most, c.requires.few, c.len.ensures, c.in_ok-push.ensures.len)

pub returns-in_ok-push-clause-finding : goal.returns-in_ok-push-clause-finding
returns-in_ok-push-clause-finding c =
    let xs = c.args.self.now.numbers.items in
    let new = get_or_default xs (c.args.v - 1) 0 c.index.result.now (omega (arith, c.requires.from_one, c.requires.to_n)) ∙ sym c.index.ensures ∙ c.if-index-eq0.true in
    let count : c.len.result ≡ length c.push.new.self.items = omega (arith, c.len.ensures, c.push.new.self.ok) in
    put_finding (length xs) c.args.self.now _ c.args.v c.len.result c.requires.finding c.in_ok-push.ensures.items refl count c.requires.from_one c.requires.to_n new

pub returns-in_ok-push-clause-still : goal.returns-in_ok-push-clause-still
returns-in_ok-push-clause-still c = λ u u1 was.
    still_numbered c.args.self.now.numbers.items _ c.args.v c.len.result u refl c.requires.from_one c.requires.to_n (omega (arith, c.len.ensures, c.in_ok-push.ensures.len)) u1 was
