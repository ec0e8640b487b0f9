-- Two searches for the first of a class keep the classes.
use Rattle.std.proofs.Common.{◌≡◌, ◌++◌, take, drop, length, sym, ◌∙◌, ap, arith}
use Rattle.std.proofs.Math.Seq.{take-append_seam}
use Rattle.std.proofs.lemmas.Bool.{eq-eqb, eqb-true, false≢true}
use Rattle.vertex_classes.specs.Classes.{HasSameClasses, AreJoined}
use Rattle.vertex_classes.proofs.Joining.{same_classes-more, joined_before, joined_by_first}
use Rattle.vertex_classes.proofs.Roots.{firsts_apart}
use Rattle.vertex_classes.proofs.classes.Classes.are_joined.Goals as goal

pub returns-clause-same : goal.returns-clause-same
returns-clause-same c =
    let old = c.args.self.now in
    let mid = c.first_of-first.new.parents in
    let new = c.first_of-second.new.parents in
    let given : c.as_mut_slice-parents.result.now ≡ old = c.as_mut_slice-parents.ensures.value ∙ c.self.view_is in
    let first : HasSameClasses old mid = rw (← given) c.first_of-first.ensures.same in
    let both = same_classes-more old mid new first c.first_of-second.ensures.same in
    let long : c.self.inside.parents.len ≡ length new = omega (arith, both.long, ap length c.self.view_is, c.self.inside.parents.ok.0) in
    let written : take c.self.inside.parents.len (new ++ drop (length new) c.self.inside.parents.items) ≡ new = rw long (take-append_seam new (drop (length new) c.self.inside.parents.items)) in
    rw written both

pub returns-clause-yes : goal.returns-clause-yes
returns-clause-yes c = λ yes.
    let old = c.args.self.now in
    let mid = c.first_of-first.new.parents in
    let given : c.as_mut_slice-parents.result.now ≡ old = c.as_mut_slice-parents.ensures.value ∙ c.self.view_is in
    let first : HasSameClasses old mid = rw (← given) c.first_of-first.ensures.same in
    let joined : AreJoined old c.first_of-first.result c.args.u = rw (← given) c.first_of-first.ensures.joined in
    joined_by_first old mid c.args.u c.args.v c.first_of-first.result c.first_of-second.result first joined c.first_of-second.ensures.joined (eqb-true _ _ yes)

pub returns-clause-no : goal.returns-clause-no
returns-clause-no c = λ no joined.
    let old = c.args.self.now in
    let mid = c.first_of-first.new.parents in
    let next = c.first_of-second.new.parents in
    let a = c.first_of-first.result in
    let b = c.first_of-second.result in
    let given : c.as_mut_slice-parents.result.now ≡ old = c.as_mut_slice-parents.ensures.value ∙ c.self.view_is in
    let first : HasSameClasses old mid = rw (← given) c.first_of-first.ensures.same in
    let both = same_classes-more old mid next first c.first_of-second.ensures.same in
    let ja : AreJoined old a c.args.u = rw (← given) c.first_of-first.ensures.joined in
    let jb = joined_before old mid b c.args.v first c.first_of-second.ensures.joined in
    firsts_apart next a b c.first_of-second.ensures.parents (c.first_of-second.ensures.firsts a c.first_of-first.ensures.first) c.first_of-second.ensures.first (λ e. false≢true (sym no ∙ eq-eqb a b e))
    (λ s r. let h = (both.respected s).0 r in ja s h ∙ (joined s h ∙ sym (jb s h)))
