use Rattle.std.proofs.Common.{◌≡◌, ◌∷◌, ◌++◌, [], ◌∙◌, ap}
use Rattle.std.proofs.lemmas.Result.{err_from_is_err_and}
use Rattle.std.specs.Fmt.{decimal}
use Rattle.answer_pages.specs.Text.{spaced}
use Rattle.answer_pages.proofs.Putting.{split_then, split_as, puts_as, puts_after, puts_failed}
use Rattle.answer_pages.specs.Listings.{above}
use Rattle.answer_pages.proofs.Above.{member_put, members_further, members_put}
use Rattle.answer_pages.proofs.pages.put_above.Goals as goal

pub returns-in_err-put_number-clause-puts : goal.returns-in_err-put_number-clause-puts
returns-in_err-put_number-clause-puts g c =
    let all = above c.args.low c.args.side.now.members in
    let v = c.in-Some.member in
    let rest = above v c.args.side.now.members in
    let done = c.each_member.invariant.done in
    let parts : all ≡ done ++ v ∷ rest = c.each_member.invariant.parts ∙ ap (λ l. done ++ l) c.in-Some.ensures.next in
    puts_as (members_put c.args.page.now all done rest v parts)
    (puts_failed (spaced rest) c.put_number.new.self (err_from_is_err_and c.from_residual.result c.from_residual.ensures.1).1
    (puts_after (32 ∷ decimal v) c.each_member.invariant.put c.each_member.invariant.same c.in_err-put_number.ensures))

pub each_member-preserved : goal.each_member-preserved
each_member-preserved g c =
    let all = above c.args.low c.args.side.now.members in
    let v = c.in-Some.member in
    let rest = above v c.args.side.now.members in
    let done = c.each_member.invariant.done in
    let parts : all ≡ done ++ v ∷ rest = c.each_member.invariant.parts ∙ ap (λ l. done ++ l) c.in-Some.ensures.next in
    record {
      done = done ++ v ∷ [];
      parts = members_further all done rest v parts;
      put = split_as (member_put c.args.page.now done v) (split_then (32 ∷ decimal v) c.each_member.invariant.put c.in_ok-put_number.ensures.ok);
      same = c.in_ok-put_number.ensures.cause.ok ∙ c.each_member.invariant.same;
    }
