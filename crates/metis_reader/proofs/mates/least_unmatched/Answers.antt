use Rattle.std.proofs.Common.{◌≡◌, ◌+◌, ℕ, get_or, take, IfNone, subst, sym, refl}
use Rattle.cut_definitions.specs.declared.edge_list.Edge.{Edge}
use Rattle.metis_reader.proofs.Merge.{IsMergedTo, merge_greater, merge_lesser, merge_same, merge_other, merge_some, never_none, same_more}
use Rattle.metis_reader.proofs.mates.least_unmatched.Goals as goal
use Rattle.metis_reader.proofs.mates.least_unmatched.Goals.{then-greater-i, else-greater-i}

abbrev origin : Edge
origin = record { u = 0; v = 0; w = 0 }

pub loop-i-preserved-in-Greater : goal.loop-i-preserved-in-Greater
loop-i-preserved-in-Greater c = record {
  merged = merge_greater c.args.greater.now c.args.lesser.now c.loop-i.i c.loop-i.j (get_or c.args.greater.now c.loop-i.i origin).u c.loop-i.found c.lesser_of-found.result origin
      c.loop-i.invariant.merged c.in-Greater.ensures refl c.lesser_of-found.ensures;
  same = never_none c.lesser_of-found.result _ _ c.lesser_of-found.ensures.vertex_above;
}

pub loop-i-preserved-in-Lesser : goal.loop-i-preserved-in-Lesser
loop-i-preserved-in-Lesser c = record {
  merged = merge_lesser c.args.greater.now c.args.lesser.now c.loop-i.i c.loop-i.j (get_or c.args.lesser.now c.loop-i.j origin).v c.loop-i.found c.lesser_of-found-in-Lesser.result origin
      c.loop-i.invariant.merged c.in-Lesser.ensures refl c.lesser_of-found-in-Lesser.ensures;
  same = never_none c.lesser_of-found-in-Lesser.result _ _ c.lesser_of-found-in-Lesser.ensures.vertex_above;
}

pub loop-i-preserved : goal.loop-i-preserved
loop-i-preserved c =
    let g = c.args.greater.now in
    let l = c.args.lesser.now in
    let i : ℕ = c.loop-i.i in
    let j : ℕ = c.loop-i.j in
    elim c.if-greater-i.branch [
      | then-greater-i w ↦ record {
        merged = subst (λ o. IsMergedTo g l (i + 1) (j + 1) o) (sym w.found-is)
            (merge_other g l i j (get_or g i origin).u c.loop-i.found w.lesser_of-found-then-greater-i.result origin c.requires.greater c.requires.lesser c.loop-i.invariant.merged
            c.in-Both.ensures (c.requires.in_order i origin c.in-Both.ensures.inside) w.if-greater-i.true refl w.lesser_of-found-then-greater-i.ensures);
        same = subst (λ o. IfNone o ((i + 1 ≡ j + 1) × (take (i + 1) g ≡ take (j + 1) l))) (sym w.found-is)
            (never_none w.lesser_of-found-then-greater-i.result (get_or g i origin).u _ w.lesser_of-found-then-greater-i.ensures.vertex_above);
      }
      | else-greater-i w ↦ record {
        merged = subst (λ o. IsMergedTo g l (i + 1) (j + 1) o) (sym w.found-is)
            (merge_same g l i j c.loop-i.found origin c.requires.greater c.requires.lesser c.loop-i.invariant.merged c.in-Both.ensures w.if-greater-i.false);
        same = subst (λ o. IfNone o ((i + 1 ≡ j + 1) × (take (i + 1) g ≡ take (j + 1) l))) (sym w.found-is)
            (same_more g l i j c.loop-i.found origin c.in-Both.ensures w.if-greater-i.false c.loop-i.invariant.same);
      }
    ]

pub returns-clause-some : goal.returns-clause-some
returns-clause-some c =
    merge_some c.args.greater.now c.args.lesser.now c.loop-i.i c.loop-i.j c.loop-i.found c.if-i-greater.false c.if-j-lesser.false c.loop-i.invariant.merged
