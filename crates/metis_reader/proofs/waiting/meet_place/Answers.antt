use Rattle.std.proofs.Common.{◌≡◌, ◌≢◌, ◌+◌, ◌<◌, ◌++◌, ◌∷◌, ℕ, List, get_or, set, length, arith, subst, sym}
use Rattle.std.specs.List.Sorted.{IsPermutation}
use Rattle.std.proofs.lemmas.List.Sorted.{IsPermutation-refl, length_permutation}
use Rattle.cut_definitions.specs.declared.edge_list.Edge.{Edge}
use Rattle.metis_reader.specs.Meeting.{met_from}
use Rattle.metis_reader.specs.Regions.{entry_at, waiting_from}
use Rattle.metis_reader.proofs.Held.{emptied, met_waiting}
use Rattle.metis_reader.proofs.waiting.meet_place.Goals as goal
use Rattle.metis_reader.proofs.waiting.meet_place.Goals.{After-advance}

-- the entry that leaves its place
left_out : (owners weights ps : List ℕ) (place : ℕ) (e : Edge) → place < length ps → get_or ps place 0 ≢ 0 → e ≡ entry_at owners weights place (get_or ps place 0)
    → IsPermutation (e ∷ waiting_from 0 owners weights (set ps place 0)) (waiting_from 0 owners weights ps)
left_out owners weights ps place e lt some same =
    let none : 0 + place ≡ place = omega arith in
    subst (λ e. IsPermutation (e ∷ waiting_from 0 owners weights (set ps place 0)) (waiting_from 0 owners weights ps)) (sym same)
    (subst (λ k. IsPermutation (entry_at owners weights k (get_or ps place 0) ∷ waiting_from 0 owners weights (set ps place 0)) (waiting_from 0 owners weights ps)) none
    (emptied 0 owners weights ps place lt some))

pub returns-clause-moved : goal.returns-clause-moved
returns-clause-moved c =
    let o = c.args.owners.now in
    let w = c.args.weights.now in
    let ps = c.args.packed.now in
    let g = c.args.greater.now in
    let base = met_from 0 c.args.cursors.now g ++ waiting_from 0 o w ps in
    met_waiting base (met_from 0 c.args.cursors.now g) (met_from 0 c.advance.new.cursors g) (waiting_from 0 o w ps) (waiting_from 0 o w (set ps c.args.place 0)) c.entry_of-entry.result
    (IsPermutation-refl base) (c.advance.ensures.met c.if-not-advance.false)
    (left_out o w ps c.args.place c.entry_of-entry.result c.requires.inside c.if-number-eq0.false c.entry_of-entry.ensures)

pub returns-clause-met : goal.returns-clause-met
returns-clause-met c = λ yes.
    let o = c.args.owners.now in
    let w = c.args.weights.now in
    let ps = c.args.packed.now in
    let len : length (waiting_from 0 o w ps) ≡ length (c.entry_of-entry.result ∷ waiting_from 0 o w (set ps c.args.place 0)) =
    length_permutation _ _ (left_out o w ps c.args.place c.entry_of-entry.result c.requires.inside c.if-number-eq0.false c.entry_of-entry.ensures) in
    omega arith
