-- The firsts of the two classes are linked.
use Rattle.std.proofs.Common.{◌≡◌, ◌<◌, ◌++◌, take, drop, set, max, min, length, ◌∙◌, ap, arith}
use Rattle.std.proofs.Math.Seq.{take-append_seam}
use Rattle.vertex_classes.specs.Classes.{HasSameClasses, AreJoined}
use Rattle.vertex_classes.proofs.Joining.{same_classes-more, joined, joined_before}
use Rattle.vertex_classes.proofs.classes.Classes.join.Goals as goal

pub returns : goal.returns
returns c =
    let old = c.args.self.now in
    let mid = c.first_of-first.new.parents in
    let next = c.first_of-second.new.parents in
    let a = c.first_of-first.result in
    let b = c.first_of-second.result in
    let given : c.as_mut_slice-parents.result.now ≡ old = c.as_mut_slice-parents.ensures.value ∙ c.self.view_is in
    let first : HasSameClasses old mid = rw (← given) c.first_of-first.ensures.same in
    let both = same_classes-more old mid next first c.first_of-second.ensures.same in
    let ja : AreJoined old a c.args.u = rw (← given) c.first_of-first.ensures.joined in
    let jb = joined_before old mid b c.args.v first c.first_of-second.ensures.joined in
    let la : a < length next = omega (arith, c.first_of-first.ensures.within, ap length given, both.long) in
    let lb : b < length next = omega (arith, c.first_of-second.ensures.within, first.long, both.long) in
    let made = joined old next c.args.u c.args.v a b both ja jb la lb (c.first_of-second.ensures.firsts a c.first_of-first.ensures.first) c.first_of-second.ensures.first in
    let new = set next (max a b) (min a b) in
    let long : c.self.inside.parents.len ≡ length new = omega (arith, made.long, ap length c.self.view_is, c.self.inside.parents.ok.0) in
    let written : take c.self.inside.parents.len (new ++ drop (length new) c.self.inside.parents.items) ≡ new = rw long (take-append_seam new (drop (length new) c.self.inside.parents.items)) in
    rw (c.max-last.ensures, c.min.ensures, written) made
