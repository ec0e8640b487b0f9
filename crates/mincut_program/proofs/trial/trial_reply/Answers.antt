-- The graph that is kept is the one that was made.
use Rattle.std.proofs.Common.{◌≤◌, ◌∙◌, sym, subst}
use Rattle.std.proofs.lemmas.Result.{IfOk-weaker}
use Rattle.cut_definitions.specs.Graph.{Graph}
use Rattle.rooted_cactus.specs.Solving.{IsSolved}
use Rattle.job_replies.specs.Trials.{IsFactsText}
use Rattle.job_replies.specs.Replies.{text_of}
use Rattle.mincut_program.proofs.trial.trial_reply.Goals as goal

pub facts_reply-requires-clause-enough : goal.facts_reply-requires-clause-enough
facts_reply-requires-clause-enough g c = subst (λ (h : Graph). 2 ≤ h.vertices) (sym c.in_ok-graph.ensures.graph) c.in_ok-list.ensures.enough

pub facts_reply-requires-clause-solved : goal.facts_reply-requires-clause-solved
facts_reply-requires-clause-solved g c = subst (λ (h : Graph). IsSolved h c.in_ok-graph.solved) (sym c.in_ok-graph.ensures.graph) c.in_ok-graph.ensures.solved

pub returns-clause-text : goal.returns-clause-text
returns-clause-text g c =
    IfOk-weaker c.facts_reply.result _ _ (λ reply is. subst (λ (h : Graph). IsFactsText h (text_of reply)) (c.in_ok-graph.ensures.graph ∙ c.in_ok-list.ensures.graph) is) c.facts_reply.ensures.text
