use Rattle.std.proofs.Common.{◌≡◌, ◌<◌, ◌≤◌, [], ◌∷◌, ◌++◌, length, ap, sym, ◌∙◌, arith}
use Rattle.std.proofs.lemmas.List.{get_or_read}
use Rattle.vertex_set.specs.Side.{VertexList}
use Rattle.component_cuts.specs.Doubling.{joined_with}
use Rattle.component_cuts.proofs.Gathered.{joined_from, one_joined, old_place, old_side, side_over, all_doubled}
use Rattle.component_cuts.proofs.unions.double.Goals as goal

pub index-requires : goal.index-requires
index-requires c =
    let old = c.args.sides.now.items in
    let l : c.loop-i.i < length old = omega (arith, c.loop-i-test.true, c.len-i-end.ensures, c.args.sides.now.ok) in
    omega (arith, old_place c.args.part old c.loop-i.sides.items c.loop-i.i l c.loop-i.invariant, c.loop-i.sides.ok)

pub join_in-requires-in-loop-i : goal.join_in-requires-in-loop-i
join_in-requires-in-loop-i c =
    let part = c.args.part in
    let old = c.args.sides.now.items in
    let items = c.loop-i.sides.items in
    let i = c.loop-i.i in
    let d = c.index.result.now in
    let l : i < length old = omega (arith, c.loop-i-test.true, c.len-i-end.ensures, c.args.sides.now.ok) in
    let own = old_side part old items i d l c.loop-i.invariant (get_or_read items i d (old_place part old items i l c.loop-i.invariant) c.index.ensures d) in
    let vertices = λ (s : VertexList). s.vertices in
    let joined : c.join_in.new.self.vertices ≡ part.vertices = ap vertices c.join_in.ensures ∙ (ap vertices c.in_ok-union.ensures ∙ c.n-n.ensures.value) in
    joined ∙ sym (side_over part old i d l c.requires own)

pub loop-i-preserved : goal.loop-i-preserved
loop-i-preserved c =
    let part = c.args.part in
    let old = c.args.sides.now.items in
    let items = c.loop-i.sides.items in
    let i = c.loop-i.i in
    let d = c.index.result.now in
    let l : i < length old = omega (arith, c.loop-i-test.true, c.len-i-end.ensures, c.args.sides.now.ok) in
    let own = old_side part old items i d l c.loop-i.invariant (get_or_read items i d (old_place part old items i l c.loop-i.invariant) c.index.ensures d) in
    c.in_ok-push.ensures.items
    ∙ (ap (λ (s : VertexList). items ++ s ∷ [])
    (joined_from part d c.join_in.new.self c.join_in-in-loop-i.new.self c.n-n.result c.in_ok-union.union c.n-n.ensures.value c.in_ok-union.ensures c.join_in.ensures c.join_in-in-loop-i.ensures
    ∙ ap (joined_with part) own)
    ∙ one_joined part old items i d l c.loop-i.invariant)

pub returns : goal.returns
returns c =
    let old = c.args.sides.now.items in
    let le : length old ≤ c.loop-i.i = omega (arith, c.loop-i-test.false, c.len-i-end.ensures, c.args.sides.now.ok) in
    c.in_ok-push-2.ensures.items ∙ all_doubled c.args.part old c.loop-i.sides.items c.loop-i.i le c.loop-i.invariant
