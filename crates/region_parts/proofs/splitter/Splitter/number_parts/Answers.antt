-- The numbers of the parts are those of the two lists together.
use Rattle.std.proofs.Common.{◌≡◌, ℕ, List, length, ◌+◌, ◌≤◌, get_or, sym, ◌∙◌, subst, ap, arith}
use Rattle.cut_definitions.specs.Chain.{IsNumbered}
use Rattle.region_parts.specs.Between.{parts_between}
use Rattle.region_fronts.specs.Listed.{part_in}
use Rattle.region_flow.specs.Parted.{AreLightParts}
use Rattle.region_parts.specs.Regional.{two_sided}
use Rattle.region_parts.specs.Split.{outer_of}
use Rattle.region_parts.proofs.FewParts.{few_parts}
use Rattle.region_parts.proofs.PartNumbers.{both_put, not_put, up_to_count, numbered_of, same_parts, listed_parts}
use Rattle.region_parts.proofs.splitter.Splitter.number_parts.Goals as goal

few : (n t i o k : ℕ) (part : ℕ → ℕ) → IsNumbered n 1 t (i + o + k) part → i + o + k ≤ n
few n t i o k part h = few_parts n 1 t (i + o + k) part h

pub overflow_add-count : goal.overflow_add-count
overflow_add-count c =
    let s = c.args.self.now in
    let b = c.args.between in
    let le = few c.args.region.graph.now.vertices c.args.region.t s.inner.count s.outer.count (parts_between b)
    (two_sided (λ u. get_or s.inner.turns u 0) s.inner.count (outer_of c.args.region.flow.now c.args.region.t s) s.outer.count (parts_between b)) c.requires.light.numbered in
    omega (arith, le, c.count.ensures, c.count-outer.ensures, c.n-n.ensures.value, c.n-n.type_inv)

pub overflow_add-count-2 : goal.overflow_add-count-2
overflow_add-count-2 c =
    let s = c.args.self.now in
    let b = c.args.between in
    let le = few c.args.region.graph.now.vertices c.args.region.t s.inner.count s.outer.count (parts_between b)
    (two_sided (λ u. get_or s.inner.turns u 0) s.inner.count (outer_of c.args.region.flow.now c.args.region.t s) s.outer.count (parts_between b)) c.requires.light.numbered in
    omega (arith, le, c.count.ensures, c.count-outer.ensures, c.parts_left.ensures, c.n-n.ensures.value, c.n-n.type_inv)

pub unlisted_number-unlisted-requires : goal.unlisted_number-unlisted-requires
unlisted_number-unlisted-requires c =
    let s = c.args.self.now in
    let b = c.args.between in
    let le = few c.args.region.graph.now.vertices c.args.region.t s.inner.count s.outer.count (parts_between b)
    (two_sided (λ u. get_or s.inner.turns u 0) s.inner.count (outer_of c.args.region.flow.now c.args.region.t s) s.outer.count (parts_between b)) c.requires.light.numbered in
    omega (arith, le, c.count-outer.ensures, c.n-n.ensures.value, c.n-n.type_inv)

pub put_from_last-requires-clause-free : goal.put_from_last-requires-clause-free
put_from_last-requires-clause-free c =
    let s = c.args.self.now in
    not_put s.inner.turns s.outer.turns c.begin.new.self.numbers c.put_by_turn.new.parts.numbers c.requires.between.halves.apart c.begin.ensures.none c.in_ok-put_by_turn.ensures.numbers

pub finish-requires-clause-to_count : goal.finish-requires-clause-to_count
finish-requires-clause-to_count c = λ v.
    let s = c.args.self.now in
    let b = c.args.between in
    let sum = c.count.result + c.count-outer.result + c.parts_left.result in
    let is : sum ≡ s.inner.count + s.outer.count + parts_between b = omega (arith, c.count.ensures, c.count-outer.ensures, c.parts_left.ensures) in
    let two = c.requires.light.numbered.two in
    up_to_count c.args.region.graph.now c.args.region.flow.now c.args.region.t s b sum c.requires.between (omega (arith, is, two)) is v (get_or c.put_from_last.new.parts.numbers v 0)
    (both_put sum s.inner.turns s.outer.turns c.begin.new.self.numbers c.put_by_turn.new.parts.numbers c.put_from_last.new.parts.numbers c.begin.ensures.none
    c.in_ok-put_by_turn.ensures.numbers c.in_ok-put_from_last.ensures.numbers v)

pub returns-clause-listed : goal.returns-clause-listed
returns-clause-listed c =
    let g = c.args.region.graph.now in
    let f = c.args.region.flow.now in
    let t = c.args.region.t in
    let s = c.args.self.now in
    let b = c.args.between in
    let p = c.finish.new.self in
    let made = c.in_ok-finish.ensures in
    let unlisted = c.unlisted_number-unlisted in
    let sum = c.count.result + c.count-outer.result + c.parts_left.result in
    let is : sum ≡ s.inner.count + s.outer.count + parts_between b = omega (arith, c.count.ensures, c.count-outer.ensures, c.parts_left.ensures) in
    let two = c.requires.light.numbered.two in
    let numbered = numbered_of g f t s b p sum unlisted.result c.put_from_last.new.parts.numbers c.requires.flow c.requires.between c.requires.all (omega (arith, is, two)) is
    made.count made.unlisted made.numbers unlisted.ensures.nothing (λ one. unlisted.ensures.one one ∙ ap (λ (k : ℕ). k + 1) c.count-outer.ensures)
    (c.in_ok-put_from_last.ensures.long ∙ (c.in_ok-put_by_turn.ensures.long ∙ (c.begin.ensures.long ∙ c.requires.numbers)))
    (both_put sum s.inner.turns s.outer.turns c.begin.new.self.numbers c.put_by_turn.new.parts.numbers c.put_from_last.new.parts.numbers c.begin.ensures.none
    c.in_ok-put_by_turn.ensures.numbers c.in_ok-put_from_last.ensures.numbers) in
    listed_parts g f t s b p numbered (λ i one le. made.lists i one (omega (arith, le, made.count)))

pub returns-clause-light : goal.returns-clause-light
returns-clause-light c =
    let g = c.args.region.graph.now in
    let f = c.args.region.flow.now in
    let t = c.args.region.t in
    let s = c.args.self.now in
    let b = c.args.between in
    let p = c.finish.new.self in
    let made = c.in_ok-finish.ensures in
    let unlisted = c.unlisted_number-unlisted in
    let sum = c.count.result + c.count-outer.result + c.parts_left.result in
    let is : sum ≡ s.inner.count + s.outer.count + parts_between b = omega (arith, c.count.ensures, c.count-outer.ensures, c.parts_left.ensures) in
    let two = c.requires.light.numbered.two in
    let numbered = numbered_of g f t s b p sum unlisted.result c.put_from_last.new.parts.numbers c.requires.flow c.requires.between c.requires.all (omega (arith, is, two)) is
    made.count made.unlisted made.numbers unlisted.ensures.nothing (λ one. unlisted.ensures.one one ∙ ap (λ (k : ℕ). k + 1) c.count-outer.ensures)
    (c.in_ok-put_from_last.ensures.long ∙ (c.in_ok-put_by_turn.ensures.long ∙ (c.begin.ensures.long ∙ c.requires.numbers)))
    (both_put sum s.inner.turns s.outer.turns c.begin.new.self.numbers c.put_by_turn.new.parts.numbers c.put_from_last.new.parts.numbers c.begin.ensures.none
    c.in_ok-put_by_turn.ensures.numbers c.in_ok-put_from_last.ensures.numbers) in
    let amount = get_or f.feed t 0 in
    let total = s.inner.count + s.outer.count + parts_between b in
    subst (λ (k : ℕ). AreLightParts g f.labels t k amount (part_in p f.labels (get_or f.labels t 0))) (sym (made.count ∙ is))
    (subst (λ (part : ℕ → ℕ). AreLightParts g f.labels t total amount part) (same_parts g f t s b p numbered) c.requires.light)

pub put_by_turn-requires-clause-kept : goal.put_by_turn-requires-clause-kept
put_by_turn-requires-clause-kept c = (c.args.region.graph.now.vertices, c.requires.between.halves.outer_half.kept, c.begin.ensures.long ∙ c.requires.numbers)

pub put_by_turn-requires-clause-free : goal.put_by_turn-requires-clause-free
put_by_turn-requires-clause-free c = λ v listed. c.begin.ensures.none v

pub put_from_last-requires-clause-kept : goal.put_from_last-requires-clause-kept
put_from_last-requires-clause-kept c = (c.args.region.graph.now.vertices, c.requires.between.halves.inner_half.kept, c.put_by_turn.ensures.long ∙ (c.begin.ensures.long ∙ c.requires.numbers))

pub put_from_last-requires-clause-few : goal.put_from_last-requires-clause-few
put_from_last-requires-clause-few c = omega (arith, c.count.ensures)

pub finish-requires-clause-from_one : goal.finish-requires-clause-from_one
finish-requires-clause-from_one c =
    let two = c.requires.light.numbered.two in omega (arith, two, c.count.ensures, c.count-outer.ensures, c.parts_left.ensures)

pub returns-in_err-put_by_turn-clause-numbers : goal.returns-in_err-put_by_turn-clause-numbers
returns-in_err-put_by_turn-clause-numbers c = c.put_by_turn.ensures.long ∙ (c.begin.ensures.long ∙ c.requires.numbers)

pub returns-in_err-put_from_last-clause-numbers : goal.returns-in_err-put_from_last-clause-numbers
returns-in_err-put_from_last-clause-numbers c = c.put_from_last.ensures.long ∙ (c.put_by_turn.ensures.long ∙ (c.begin.ensures.long ∙ c.requires.numbers))

pub returns-in_err-finish-clause-numbers : goal.returns-in_err-finish-clause-numbers
returns-in_err-finish-clause-numbers c = ap (λ (xs : List ℕ). length xs) c.finish.ensures.numbers ∙ (c.put_from_last.ensures.long ∙ (c.put_by_turn.ensures.long ∙ (c.begin.ensures.long ∙ c.requires.numbers)))

pub returns-clause-numbers : goal.returns-clause-numbers
returns-clause-numbers c = ap (λ (xs : List ℕ). length xs) c.finish.ensures.numbers ∙ (c.put_from_last.ensures.long ∙ (c.put_by_turn.ensures.long ∙ (c.begin.ensures.long ∙ c.requires.numbers)))
