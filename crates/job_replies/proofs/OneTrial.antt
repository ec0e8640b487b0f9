-- A number has one text of a trial: of several best sides all have one balance.
use Rattle.std.proofs.Common.{◌≡◌, ℕ, ◌≤◌, List, length, sym, ap, ◌∙◌}
use Rattle.std.proofs.Math.Nat.{le_antisymm}
use Rattle.std.proofs.lemmas.List.Elements.{All-contains}
use Rattle.cut_definitions.specs.Graph.{Graph}
use Rattle.cut_definitions.specs.Cuts.{value, mincuts}
use Rattle.cut_definitions.specs.Balance.{IsBest, balance}
use Rattle.job_replies.specs.TextLaws.{LawOfOneTrialText}
use Rattle.job_replies.specs.Trials.{IsFactsText, ones, trial_text}

-- two best sides have one balance
one_balance : (masses : List ℕ) (sides : List (List ℕ)) (a b : List ℕ) → IsBest masses sides a → IsBest masses sides b → balance masses a ≡ balance masses b
one_balance masses sides a b of_a of_b =
    let low = All-contains (λ other. balance masses other ≤ balance masses b) sides a of_b.none_greater of_a.member in
    let high = All-contains (λ other. balance masses other ≤ balance masses a) sides b of_a.none_greater of_b.member in
    le_antisymm low high

one_facts_text : (g : Graph) (t u : List ℕ) → IsFactsText g t → IsFactsText g u → t ≡ u
one_facts_text g t u a b =
    a.text_is
    ∙ ap (trial_text g.vertices (length g.edges) (value g) (length (mincuts g))) (one_balance (ones g.vertices) (mincuts g) a.side b.side a.best b.best)
    ∙ sym b.text_is

pub one_trial_text : LawOfOneTrialText
one_trial_text number t u a b = one_facts_text _ t u a b
