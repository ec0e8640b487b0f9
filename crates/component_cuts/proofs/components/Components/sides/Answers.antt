use Rattle.std.proofs.Common.{◌≡◌, ◌+◌, ◌≤◌, ℕ, List, ◌∷◌, [], ◌++◌, length, map, ap, sym, subst, ◌∙◌, arith}
use Rattle.std.specs.List.{All}
use Rattle.vertex_set.specs.Side.{VertexList, members_of}
use Rattle.component_cuts.specs.Parts.{Parts, IsDivision}
use Rattle.component_cuts.specs.Doubling.{union_of}
use Rattle.component_cuts.proofs.Divided.{length_divided, numbering_divides}
use Rattle.component_cuts.proofs.Doubled.{AreUnionsTo, unions_start, unions_step, unions_sorted}
use Rattle.component_cuts.proofs.Gathered.{members_doubled, over_doubled}
use Rattle.component_cuts.proofs.components.Components.sides.Goals as goal

pub loop-done-init : goal.loop-done-init
loop-done-init c =
    let self = c.args.self.now in
    let s = c.self.inside in
    let division = subst IsDivision c.self.view_is (numbering_divides s.n s.count s.part_of.items c.self.invariant) in
    let e = c.new-sides.ensures.items in
    record {
      over_n = λ k d l. absurd (omega (arith, ap (λ (xs : List VertexList). length xs) e));
      are = subst (λ (xs : List VertexList). AreUnionsTo self 1 (members_of xs)) (sym e) (unions_start self division);
    }

pub part_side-requires : goal.part_side-requires
part_side-requires c =
    let s = c.self.inside in
    (omega arith, omega (arith, length_divided s.n s.count s.part_of.items, ap (λ (p : Parts). length p.parts) c.self.view_is, c.loop-done-test.true))

pub loop-done-preserved : goal.loop-done-preserved
loop-done-preserved c =
    let self = c.args.self.now in
    let s = c.self.inside in
    let division = subst IsDivision c.self.view_is (numbering_divides s.n s.count s.part_of.items c.self.invariant) in
    let to : c.loop-done.done + 1 ≤ length self.parts =
    omega (arith, length_divided s.n s.count s.part_of.items, ap (λ (p : Parts). length p.parts) c.self.view_is, c.loop-done-test.true) in
    let part = c.in_ok-part.part in
    let part_is = c.in_ok-part.ensures in
    let items = c.loop-done.sides.items in
    let new = c.in_ok-double.ensures in
    record {
      over_n = subst (All (λ (t : VertexList). t.vertices ≡ self.vertices)) (sym new) (over_doubled self.vertices part items (ap (λ (t : VertexList). t.vertices) part_is) c.loop-done.invariant.over_n);
      are = unions_step self division c.loop-done.done c.loop-done.auto.done to (members_of items) (members_of c.double.new.sides.items) c.loop-done.invariant.are
          (ap members_of new
          ∙ (members_doubled part items
          ∙ ap (λ (t : VertexList). members_of items ++ (map (union_of t.vertices t.members) (members_of items) ++ t.members ∷ [])) part_is));
    }

pub returns-clause-unions : goal.returns-clause-unions
returns-clause-unions c =
    let self = c.args.self.now in
    let s = c.self.inside in
    let division = subst IsDivision c.self.view_is (numbering_divides s.n s.count s.part_of.items c.self.invariant) in
    let items = c.loop-done.sides.items in
    let all : c.loop-done.done ≡ length self.parts =
    omega (arith, length_divided s.n s.count s.part_of.items, ap (λ (p : Parts). length p.parts) c.self.view_is, c.loop-done-test.false, c.loop-done.auto.done-end, c.requires.two) in
    let same = c.sort_sides.ensures.same in
    unions_sorted self division (members_of items) (members_of c.sort_sides.new.sides.items) (subst (λ (k : ℕ). AreUnionsTo self k (members_of items)) all c.loop-done.invariant.are)
    c.sort_sides.ensures.ascending (λ t. (same t).0) (λ t. (same t).1)
