use Rattle.std.proofs.Common.{◌≡◌, ◌≤◌, ◌+◌, ◌*◌, ◌++◌, ℕ, List, [], length, arith, ap, sym, subst, ◌∙◌, length-append}
use Rattle.std.specs.List.{AllPairs}
use Rattle.std.specs.List.Sorted.{IsPermutation}
use Rattle.std.proofs.lemmas.Grind.{common_steps}
use Rattle.std.proofs.lemmas.List.{append-nil, nil_from_length, take_all}
use Rattle.std.proofs.lemmas.List.Sorted.{IsPermutation-refl}
use Rattle.cut_definitions.specs.declared.edge_list.Edge.{Edge}
use Rattle.metis_reader.specs.Bodies.{waiting_of}
use Rattle.metis_reader.specs.Meeting.{met_from, with_met, IsInFront}
use Rattle.metis_reader.proofs.Ascending.{all_before}
use Rattle.metis_reader.proofs.Meeting.{all_met, met_length}
use Rattle.metis_reader.proofs.body.Body.is_met.Goals as goal

-- no entry is left, and as many were met as there are to greater neighbours
whole : (g : List Edge) (cursors : List ℕ) (l : List Edge) (entries : ℕ) → length l ≡ 0 → 2 * length g ≤ entries → entries ≡ length g + length (with_met g cursors l)
    → IsPermutation (with_met g cursors l) g
whole g cursors l entries none half counted =
    let len : length (met_from 0 cursors g ++ l) ≡ length (met_from 0 cursors g) + length l = length-append (met_from 0 cursors g) l in
    let few : length (met_from 0 cursors g) ≤ length g = met_length 0 cursors g in
    let all : met_from 0 cursors g ≡ g = all_met 0 cursors g (omega arith) in
    let is : with_met g cursors l ≡ g = ap (λ ys. met_from 0 cursors g ++ ys) (nil_from_length l none) ∙ append-nil (met_from 0 cursors g) ∙ all in
    subst (λ xs. IsPermutation xs g) (sym is) (IsPermutation-refl g)

nothing : (l w : List Edge) → length l ≡ 0 → w ≡ [] → length (l ++ w) ≡ 0
nothing l w none empty = length-append l w ∙ ap (λ n. n + length w) none ∙ ap (λ xs. 0 + length xs) empty

pub returns-clause-lesser : goal.returns-clause-lesser
returns-clause-lesser c = λ yes.
    let b = c.args.self.now in
    let none : length b.lesser.items ≡ 0 = grind (arith, common_steps) in
    let most : 2 * length b.greater.items ≤ b.entries = grind (arith, common_steps) in
    whole b.greater.items b.cursors.items (b.lesser.items ++ waiting_of b.waiting) b.entries (nothing b.lesser.items (waiting_of b.waiting) none (c.is_empty-2.ensures c.if-not-is_empty-2.false)) most b.counted

pub returns-clause-ascends : goal.returns-clause-ascends
returns-clause-ascends c = λ met.
    let b = c.args.self.now in
    let all : length b.greater.items ≤ b.start = omega arith in
    all_before b.greater.items (subst (λ (xs : List Edge). AllPairs IsInFront xs) (take_all b.start b.greater.items all) (b.ascending met))
