-- The vertices that were found have got the further parts.
use Rattle.std.proofs.Common.{◌≡◌, ℕ, Bool, List, ◌+◌, ◌++◌, length, get_or, ◌∙◌, subst, ap, arith}
use Rattle.std.proofs.lemmas.List.{with_items_is}
use Rattle.arc_search.specs.Listing.{ListingState, StaysAtBorder}
use Rattle.arc_search.proofs.SideLists.{taken_as, grown_taken, kept_after, bordered_after}
use Rattle.arc_search.proofs.side_listing.Listing.take.Goals as goal

pub returns-clause-taken : goal.returns-clause-taken
returns-clause-taken g c =
    let n = c.args.graph.now.vertices in
    let s = c.args.self.now in
    let found = c.args.found.now in
    let new = c.take_parts-self-inside.new.turns in
    let turns_was = c.as_mut_slice-turns.ensures.value ∙ ap (λ (l : ListingState). l.turns) c.self.view_is in
    let count_was = ap (λ (l : ListingState). l.count) c.self.view_is in
    let turns = with_items_is c.self.inside.turns new (omega arith) in
    let taken = taken_as (g.A.StepArcs.vertices c.args.arcs.now) n (g.A.StepArcs.goes c.args.arcs.now) found c.as_mut_slice-turns.result.now s.turns (λ v. get_or new v 0) c.self.inside.count s.count
    c.take_parts-self-inside.result c.requires.vertices turns_was count_was c.take_parts-self-inside.ensures.taken in
    rw turns taken

pub returns-clause-kept : goal.returns-clause-kept
returns-clause-kept g c =
    let n = c.args.graph.now.vertices in
    let s = c.args.self.now in
    let found = c.args.found.now in
    let new = c.take_parts-self-inside.new.turns in
    let turns_was = c.as_mut_slice-turns.ensures.value ∙ ap (λ (l : ListingState). l.turns) c.self.view_is in
    let count_was = ap (λ (l : ListingState). l.count) c.self.view_is in
    let turns = with_items_is c.self.inside.turns new (omega arith) in
    let taken = taken_as (g.A.StepArcs.vertices c.args.arcs.now) n (g.A.StepArcs.goes c.args.arcs.now) found c.as_mut_slice-turns.result.now s.turns (λ v. get_or new v 0) c.self.inside.count s.count
    c.take_parts-self-inside.result c.requires.vertices turns_was count_was c.take_parts-self-inside.ensures.taken in
    let at_border = with_items_is c.self.inside.at_border c.list_all.new.at_border (omega arith) in
    let long : length new ≡ n + 1 = c.take_parts-self-inside.auto.turns ∙ (ap (λ (xs : List ℕ). length xs) turns_was ∙ c.requires.kept.turns_length) in
    let grown = grown_taken n (g.A.StepArcs.goes c.args.arcs.now) found s.turns new s.count c.take_parts-self-inside.result c.requires.kept.nobody long taken in
    let list = c.in_ok-list_all.ensures.list ∙ ap (λ (l : ListingState). l.list ++ found) c.self.view_is in
    rw (turns, at_border)
    (kept_after n s new found c.list_all.new.list.items c.list_all.new.border.items c.list_all.new.at_border c.take_parts-self-inside.result c.requires.kept grown c.requires.apart c.requires.within
    c.requires.new list c.in_ok-list_all.ensures.border)

pub returns-clause-bordered : goal.returns-clause-bordered
returns-clause-bordered g c =
    let n = c.args.graph.now.vertices in
    let s = c.args.self.now in
    let found = c.args.found.now in
    let new = c.take_parts-self-inside.new.turns in
    let turns_was = c.as_mut_slice-turns.ensures.value ∙ ap (λ (l : ListingState). l.turns) c.self.view_is in
    let count_was = ap (λ (l : ListingState). l.count) c.self.view_is in
    let turns = with_items_is c.self.inside.turns new (omega arith) in
    let taken = taken_as (g.A.StepArcs.vertices c.args.arcs.now) n (g.A.StepArcs.goes c.args.arcs.now) found c.as_mut_slice-turns.result.now s.turns (λ v. get_or new v 0) c.self.inside.count s.count
    c.take_parts-self-inside.result c.requires.vertices turns_was count_was c.take_parts-self-inside.ensures.taken in
    let at_border = with_items_is c.self.inside.at_border c.list_all.new.at_border (omega arith) in
    let long : length new ≡ n + 1 = c.take_parts-self-inside.auto.turns ∙ (ap (λ (xs : List ℕ). length xs) turns_was ∙ c.requires.kept.turns_length) in
    let grown = grown_taken n (g.A.StepArcs.goes c.args.arcs.now) found s.turns new s.count c.take_parts-self-inside.result c.requires.kept.nobody long taken in
    let at_border_was = c.as_mut_slice-at_border.ensures.value ∙ ap (λ (l : ListingState). l.at_border) c.self.view_is in
    let stays = subst (λ (bs : List Bool). StaysAtBorder bs c.list_all.new.at_border) at_border_was c.in_ok-list_all.ensures.stays in
    rw (turns, at_border)
    (bordered_after c.args.graph.now c.args.labels.now s new found c.list_all.new.list.items c.list_all.new.border.items c.list_all.new.at_border c.take_parts-self-inside.result
    c.requires.bordered grown stays c.in_ok-list_all.ensures.met)

pub invariant_of-self : goal.invariant_of-self
invariant_of-self g c =
    let made = c.take_parts-self-inside in
    let turns = with_items_is c.self.inside.turns made.new.turns (omega (arith, made.auto.turns, c.as_mut_slice-turns.ensures.len)) in
    let marks = with_items_is c.self.inside.marks made.new.marks (omega (arith, made.auto.marks, c.as_mut_slice-marks.ensures.len)) in
    let long = ap (λ (xs : List ℕ). length xs) c.as_mut_slice-turns.ensures.value in
    let long_marks = ap (λ (xs : List ℕ). length xs) c.as_mut_slice-marks.ensures.value in
    rw (turns, marks) (record { as_long = omega (arith, made.auto.turns, made.auto.marks, long, long_marks, c.self.invariant.as_long); marked = made.ensures.marked })

pub invariant_of-self-2 : goal.invariant_of-self-2
invariant_of-self-2 g c =
    let made = c.take_parts-self-inside in
    let turns = with_items_is c.self.inside.turns made.new.turns (omega (arith, made.auto.turns, c.as_mut_slice-turns.ensures.len)) in
    let marks = with_items_is c.self.inside.marks made.new.marks (omega (arith, made.auto.marks, c.as_mut_slice-marks.ensures.len)) in
    let long = ap (λ (xs : List ℕ). length xs) c.as_mut_slice-turns.ensures.value in
    let long_marks = ap (λ (xs : List ℕ). length xs) c.as_mut_slice-marks.ensures.value in
    rw (turns, marks) (record { as_long = omega (arith, made.auto.turns, made.auto.marks, long, long_marks, c.self.invariant.as_long); marked = made.ensures.marked })

-- what is asked of the parts is asked of the list that was lent
pub take_parts-self-inside-requires-clause-can : goal.take_parts-self-inside-requires-clause-can
take_parts-self-inside-requires-clause-can g c = c.requires.can

pub take_parts-self-inside-requires-clause-some : goal.take_parts-self-inside-requires-clause-some
take_parts-self-inside-requires-clause-some g c = c.requires.some

pub take_parts-self-inside-requires-clause-leads : goal.take_parts-self-inside-requires-clause-leads
take_parts-self-inside-requires-clause-leads g c = c.requires.leads

pub take_parts-self-inside-requires-clause-within : goal.take_parts-self-inside-requires-clause-within
take_parts-self-inside-requires-clause-within g c = rw c.requires.vertices c.requires.within

pub take_parts-self-inside-requires-clause-new : goal.take_parts-self-inside-requires-clause-new
take_parts-self-inside-requires-clause-new g c =
    let turns_was = c.as_mut_slice-turns.ensures.value ∙ ap (λ (l : ListingState). l.turns) c.self.view_is in
    rw turns_was c.requires.new

pub take_parts-self-inside-requires-clause-closed : goal.take_parts-self-inside-requires-clause-closed
take_parts-self-inside-requires-clause-closed g c =
    let turns_was = c.as_mut_slice-turns.ensures.value ∙ ap (λ (l : ListingState). l.turns) c.self.view_is in
    rw turns_was c.requires.closed

pub take_parts-self-inside-requires-clause-followed : goal.take_parts-self-inside-requires-clause-followed
take_parts-self-inside-requires-clause-followed g c =
    let turns_was = c.as_mut_slice-turns.ensures.value ∙ ap (λ (l : ListingState). l.turns) c.self.view_is in
    rw turns_was c.requires.followed
