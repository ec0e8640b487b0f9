-- The least vertex that only one of the two ranges has decides, with the greatest of the other one.
use Rattle.std.proofs.Common.{inl, inr, ◌≡◌, Bool, true, false, not, refl, sym, arith}
use Rattle.cactus_walk.specs.Weighing.{range_of}
use Rattle.canonical_cactus.proofs.Compared.{AreLeastBeyond, come_together, comes_behind, comes_first}
use Rattle.canonical_cactus.proofs.first_side.Ranked.goes_before.Goals as goal

is_not : (b : Bool) → not b ≡ true → b ≡ false
is_not true e = sym e
is_not false e = refl

is_so : (b : Bool) → not b ≡ false → b ≡ true
is_so true e = refl
is_so false e = sym e

pub has_greater-requires-clause-known : goal.has_greater-requires-clause-known
has_greater-requires-clause-known c = elim c.least_beyond-others.ensures.there [
  | inl e ↦ inl e
  | inr w ↦ inr (w.0, w.1.0, w.1.1, omega (arith, w.2, c.if-own-others.true))
]

pub has_greater-requires-then-others-own-clause-known : goal.has_greater-requires-then-others-own-clause-known
has_greater-requires-then-others-own-clause-known c = elim c.least_beyond-own.ensures.there [
  | inl e ↦ inl e
  | inr w ↦ inr (w.0, w.1.0, w.1.1, omega (arith, w.2, c.if-others-own.true))
]

pub returns-then-own-others-clause-before : goal.returns-then-own-others-clause-before
returns-then-own-others-clause-before c = λ yes.
    let own = c.least_beyond-own in
    let others = c.least_beyond-others in
    let are : AreLeastBeyond c.args.self.now (range_of c.args.span) (range_of c.args.other) own.result others.result = record { own_less = own.ensures.no_less; own_there = own.ensures.there; others_less = others.ensures.no_less; others_there = others.ensures.there } in
    let q = c.has_greater.ensures.some yes in
    comes_first c.args.self.now (range_of c.args.span) (range_of c.args.other) own.result others.result q.0 c.requires.ranked c.requires.span.1 c.requires.other.1 (omega arith) c.if-own-others.true are q.1 q.2 q.3

pub returns-then-own-others-clause-behind : goal.returns-then-own-others-clause-behind
returns-then-own-others-clause-behind c = λ no.
    let own = c.least_beyond-own in
    let others = c.least_beyond-others in
    let are : AreLeastBeyond c.args.self.now (range_of c.args.span) (range_of c.args.other) own.result others.result = record { own_less = own.ensures.no_less; own_there = own.ensures.there; others_less = others.ensures.no_less; others_there = others.ensures.there } in
    comes_behind c.args.self.now (range_of c.args.span) (range_of c.args.other) own.result others.result c.requires.ranked c.requires.span.1 (omega arith) c.if-own-others.true are (c.has_greater.ensures.none no)

pub returns-then-others-own-clause-before : goal.returns-then-others-own-clause-before
returns-then-others-own-clause-before c = λ yes.
    let own = c.least_beyond-own in
    let others = c.least_beyond-others in
    let are : AreLeastBeyond c.args.self.now (range_of c.args.other) (range_of c.args.span) others.result own.result = record { own_less = others.ensures.no_less; own_there = others.ensures.there; others_less = own.ensures.no_less; others_there = own.ensures.there } in
    comes_behind c.args.self.now (range_of c.args.other) (range_of c.args.span) others.result own.result c.requires.ranked c.requires.other.1 (omega arith) c.if-others-own.true are
    (c.has_greater-then-others-own.ensures.none (is_not c.has_greater-then-others-own.result yes))

pub returns-then-others-own-clause-behind : goal.returns-then-others-own-clause-behind
returns-then-others-own-clause-behind c = λ no.
    let own = c.least_beyond-own in
    let others = c.least_beyond-others in
    let are : AreLeastBeyond c.args.self.now (range_of c.args.other) (range_of c.args.span) others.result own.result = record { own_less = others.ensures.no_less; own_there = others.ensures.there; others_less = own.ensures.no_less; others_there = own.ensures.there } in
    let q = c.has_greater-then-others-own.ensures.some (is_so c.has_greater-then-others-own.result no) in
    comes_first c.args.self.now (range_of c.args.other) (range_of c.args.span) others.result own.result q.0 c.requires.ranked c.requires.other.1 c.requires.span.1 (omega arith) c.if-others-own.true are q.1 q.2 q.3

pub returns-else-others-own-clause-before : goal.returns-else-others-own-clause-before
returns-else-others-own-clause-before c = λ yes.
    let own = c.least_beyond-own in
    let others = c.least_beyond-others in
    let are : AreLeastBeyond c.args.self.now (range_of c.args.span) (range_of c.args.other) own.result others.result = record { own_less = own.ensures.no_less; own_there = own.ensures.there; others_less = others.ensures.no_less; others_there = others.ensures.there } in
    come_together c.args.self.now (range_of c.args.span) (range_of c.args.other) own.result others.result c.requires.ranked c.requires.span.1 c.requires.other.1 (omega (arith, c.if-own-others.false, c.if-others-own.false)) are
