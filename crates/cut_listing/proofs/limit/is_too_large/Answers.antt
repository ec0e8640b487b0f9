-- A number above the quotient times n is above the limit.
use Rattle.std.proofs.Common.{◌/◌, ltb}
use Rattle.std.proofs.lemmas.Bool.{ltb-true, ltb-false}
use Rattle.cut_listing.proofs.Passes.{decided, few_fit, many_do_not}
use Rattle.cut_listing.proofs.limit.is_too_large.Goals as goal

pub returns : goal.returns
returns c =
    decided (ltb (1073741824 / c.args.n) c.args.cuts) _ _ (λ more. many_do_not c.args.cuts 1073741824 c.args.n c.requires (ltb-true (1073741824 / c.args.n) c.args.cuts more))
    (λ less. few_fit c.args.cuts 1073741824 c.args.n (ltb-false (1073741824 / c.args.n) c.args.cuts less))
