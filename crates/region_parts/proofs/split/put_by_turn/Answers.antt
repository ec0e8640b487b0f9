-- Each vertex of the list has its number.
use Rattle.std.proofs.Common.{◌≡◌, ℕ, ◌<◌, ◌≤◌, List, length, get_or, set, refl, sym, ◌∙◌, subst, ap, arith}
use Rattle.std.proofs.lemmas.List.{length-set}
use Rattle.region_fronts.specs.Listed.{PartsState}
use Rattle.region_parts.proofs.PartNumbers.{next_listed, next_free, more_put, all_put}
use Rattle.region_parts.proofs.split.put_by_turn.Goals as goal

pub loop-v-init : goal.loop-v-init
loop-v-init c = record { long = refl; put = λ v. refl }

pub put-requires-clause-within : goal.put-requires-clause-within
put-requires-clause-within c =
    let n = c.requires.kept.0 in
    let s = c.args.listing.now in
    let k = c.loop-v.v-index in
    let same = c.list-v-items.ensures in
    let l : k < length s.list = subst (λ (xs : List ℕ). k < length xs) same c.loop-v-test.true in
    let next = next_listed n s k c.requires.kept.1 l in
    subst (λ (xs : List ℕ). get_or xs k 0 < length c.loop-v.parts.numbers) (sym same) (omega (arith, next.0.1, c.loop-v.invariant.long, c.requires.kept.2))

pub put-requires-clause-free : goal.put-requires-clause-free
put-requires-clause-free c =
    let n = c.requires.kept.0 in
    let s = c.args.listing.now in
    let k = c.loop-v.v-index in
    let same = c.list-v-items.ensures in
    let l : k < length s.list = subst (λ (xs : List ℕ). k < length xs) same c.loop-v-test.true in
    subst (λ (xs : List ℕ). get_or c.loop-v.parts.numbers (get_or xs k 0) 0 ≡ 0) (sym same)
    (next_free (λ turn. turn) n s k c.args.parts.now.numbers c.loop-v.parts.numbers c.requires.kept.1 l c.loop-v.invariant.put c.requires.free)

pub returns-in_err-put-clause-long : goal.returns-in_err-put-clause-long
returns-in_err-put-clause-long c = ap (λ (p : PartsState). length p.numbers) c.in_err-put.ensures.same ∙ c.loop-v.invariant.long

pub loop-v-preserved : goal.loop-v-preserved
loop-v-preserved c =
    let n = c.requires.kept.0 in
    let s = c.args.listing.now in
    let k = c.loop-v.v-index in
    let now = c.loop-v.parts.numbers in
    let new = c.put.new.self.numbers in
    let same = c.list-v-items.ensures in
    let l : k < length s.list = subst (λ (xs : List ℕ). k < length xs) same c.loop-v-test.true in
    let next = next_listed n s k c.requires.kept.1 l in
    let x = get_or s.list k 0 in
    let number : ℕ → ℕ = λ turn. turn in
    let is : new ≡ set now x (number (get_or s.turns x 0)) =
    subst (λ (ts : List ℕ). new ≡ set now x (number (get_or ts x 0))) c.turns-turns.ensures
    (subst (λ (xs : List ℕ). new ≡ set now (get_or xs k 0) (number (get_or c.turns-turns.result.now (get_or xs k 0) 0))) same c.in_ok-put.ensures.numbers) in
    record {
      long = ap (λ (xs : List ℕ). length xs) is ∙ (length-set now x (number (get_or s.turns x 0)) ∙ c.loop-v.invariant.long);
      put = more_put number s k c.args.parts.now.numbers now new l c.loop-v.invariant.put (omega (arith, next.0.1, c.loop-v.invariant.long, c.requires.kept.2)) is;
    }

pub returns-clause-long : goal.returns-clause-long
returns-clause-long c = c.loop-v.invariant.long

pub returns-clause-numbers : goal.returns-clause-numbers
returns-clause-numbers c =
    let n = c.requires.kept.0 in
    let s = c.args.listing.now in
    let k = c.loop-v.v-index in
    let le : length s.list ≤ k = subst (λ (xs : List ℕ). length xs ≤ k) c.list-v-items.ensures c.loop-v-test.false in
    all_put (λ turn. turn) n s k c.args.parts.now.numbers c.loop-v.parts.numbers c.requires.kept.1 le c.loop-v.invariant.put
