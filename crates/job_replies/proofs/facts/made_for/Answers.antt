use Rattle.std.proofs.Common.{◌≤◌, sym, subst}
use Rattle.std.proofs.lemmas.Result.{IfOk-weaker}
use Rattle.cut_definitions.specs.Graph.{Graph}
use Rattle.job_replies.proofs.Answering.{made_enough}
use Rattle.job_replies.proofs.facts.made_for.Goals as goal

pub returns-clause-enough : goal.returns-clause-enough
returns-clause-enough c =
    IfOk-weaker c.make.result _ _ (λ list is. subst (λ (x : Graph). 2 ≤ x.vertices) (sym is) (made_enough c.args.number c.requires.from)) c.make.ensures
