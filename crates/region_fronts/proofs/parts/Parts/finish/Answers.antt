-- The vertices are sorted and listed, and the parts are laid out among them.
use Rattle.std.proofs.Common.{ℕ, List, map, get_or, sym, ◌∙◌, ap, subst}
use Rattle.std.specs.List.{slice_range}
use Rattle.region_fronts.specs.declared.parts.Placed.{Placed}
use Rattle.region_fronts.specs.Listed.{IsPartList}
use Rattle.region_fronts.proofs.Placing.{sorted_back}
use Rattle.region_fronts.proofs.Runs.{run_is_part, laid_out, none_laid_out}
use Rattle.region_fronts.proofs.parts.Parts.finish.Goals as goal

pub invariant_of-self : goal.invariant_of-self
invariant_of-self c =
    let i = c.self.inside in
    let h = c.self.invariant in
    let back = sorted_back i.numbers.items i.placed.len i.placed.items c.as_mut_slice.result.now c.sort_by_number.new.placed i.placed.ok.0 c.as_mut_slice.ensures.value c.sort_by_number.ensures.moved h.all_placed in
    record {
      all_placed = rw (back.whole) back.all_placed;
      laid_out = none_laid_out c.list_vertices.new.list.items i.starts.items i.ends.items h.zero;
      zero = h.zero;
    }

pub lay_out-requires-clause-from_one : goal.lay_out-requires-clause-from_one
lay_out-requires-clause-from_one c =
    let i = c.self.inside in
    let back = sorted_back i.numbers.items i.placed.len i.placed.items c.as_mut_slice.result.now c.sort_by_number.new.placed i.placed.ok.0 c.as_mut_slice.ensures.value c.sort_by_number.ensures.moved c.self.invariant.all_placed in
    rw (c.deref-2.ensures.value, back.whole) (back.all_placed.from_one)

pub invariant_of-self-in_err-lay_out : goal.invariant_of-self-in_err-lay_out
invariant_of-self-in_err-lay_out c =
    let i = c.self.inside in
    let back = sorted_back i.numbers.items i.placed.len i.placed.items c.as_mut_slice.result.now c.sort_by_number.new.placed i.placed.ok.0 c.as_mut_slice.ensures.value c.sort_by_number.ensures.moved c.self.invariant.all_placed in
    record {
      all_placed = rw (back.whole) back.all_placed;
      laid_out = none_laid_out c.list_vertices.new.list.items c.lay_out.new.starts.items c.lay_out.new.ends.items c.lay_out.ensures.zero;
      zero = c.lay_out.ensures.zero;
    }

pub invariant_of-self-2 : goal.invariant_of-self-2
invariant_of-self-2 c =
    let i = c.self.inside in
    let back = sorted_back i.numbers.items i.placed.len i.placed.items c.as_mut_slice.result.now c.sort_by_number.new.placed i.placed.ok.0 c.as_mut_slice.ensures.value c.sort_by_number.ensures.moved c.self.invariant.all_placed in
    let listed = c.in_ok-list_vertices.ensures ∙ ap (map (λ (p : Placed). p.vertex)) c.deref.ensures.value in
    let runs = rw c.deref-2.ensures.value at c.in_ok-lay_out.ensures.runs in
    record {
      all_placed = rw (back.whole) back.all_placed;
      laid_out = rw listed (laid_out _ c.args.count c.lay_out.new.starts.items c.lay_out.new.ends.items c.lay_out.ensures.zero runs);
      zero = c.lay_out.ensures.zero;
    }

pub returns-clause-lists : goal.returns-clause-lists
returns-clause-lists c = λ number one l.
    let i = c.self.inside in
    let new = c.sort_by_number.new.placed in
    let back = sorted_back i.numbers.items i.placed.len i.placed.items c.as_mut_slice.result.now new i.placed.ok.0 c.as_mut_slice.ensures.value c.sort_by_number.ensures.moved c.self.invariant.all_placed in
    let listed = c.in_ok-list_vertices.ensures ∙ ap (map (λ (p : Placed). p.vertex)) (c.deref.ensures.value ∙ back.whole) in
    let runs = rw (c.deref-2.ensures.value, back.whole) at c.in_ok-lay_out.ensures.runs in
    let starts = c.lay_out.new.starts.items in
    let ends = c.lay_out.new.ends.items in
    subst (λ (xs : List ℕ). IsPartList i.numbers.items number (slice_range xs (get_or starts number 0) (get_or ends number 0))) (sym listed)
    (run_is_part i.numbers.items new number (get_or starts number 0) (get_or ends number 0) back.all_placed (runs.runs number one l) one)
