-- Nothing was listed before.
use Rattle.std.proofs.Common.{◌≡◌, ℕ, ◌+◌, ◌++◌, Bool, List, length, get_or, sym, ◌∙◌, subst, ap, arith}
use Rattle.std.specs.Prelude.{if◌then◌else◌}
use Rattle.std.proofs.lemmas.List.{with_items_is}
use Rattle.cut_definitions.specs.Cuts.{has}
use Rattle.arc_search.specs.Listing.{ListingState, IsBorder, StaysAtBorder}
use Rattle.arc_search.proofs.SideLists.{turns_first, grown_first, border_nothing, kept_nothing, kept_after, bordered_nothing, bordered_after}
use Rattle.arc_search.proofs.side_listing.Listing.take_first.Goals as goal

pub list_all-requires-clause-border : goal.list_all-requires-clause-border
list_all-requires-clause-border c =
    let n = c.args.graph.now.vertices in
    let s = c.args.self.now in
    let border_was = ap (λ (l : ListingState). l.border) c.self.view_is in
    let at_border_was = c.as_mut_slice-at_border.ensures.value ∙ ap (λ (l : ListingState). l.at_border) c.self.view_is in
    subst (λ (xs : List ℕ). IsBorder n xs c.as_mut_slice-at_border.result.now) (sym border_was)
    (subst (λ (bs : List Bool). IsBorder n s.border bs) (sym at_border_was) (border_nothing n s c.requires.nothing))

pub returns-clause-turns : goal.returns-clause-turns
returns-clause-turns c =
    let n = c.args.graph.now.vertices in
    let s = c.args.self.now in
    let found = c.args.found.now in
    let new = c.write.new.numbers in
    let none = c.requires.nothing in
    let turns_was = c.as_mut_slice-turns.ensures.value ∙ ap (λ (l : ListingState). l.turns) c.self.view_is in
    let turns = with_items_is c.self.inside.turns new (omega arith) in
    let long : length new ≡ n + 1 = c.write.auto.numbers ∙ (ap (λ (xs : List ℕ). length xs) turns_was ∙ none.turns_length) in
    let written = subst (λ (xs : List ℕ). (v : ℕ) → get_or new v 0 ≡ (if has found v then 1 else get_or xs v 0)) turns_was c.write.ensures in
    let first = turns_first found s.turns new none.turns written in
    rw turns first

pub returns-clause-kept : goal.returns-clause-kept
returns-clause-kept c =
    let n = c.args.graph.now.vertices in
    let s = c.args.self.now in
    let found = c.args.found.now in
    let new = c.write.new.numbers in
    let none = c.requires.nothing in
    let turns_was = c.as_mut_slice-turns.ensures.value ∙ ap (λ (l : ListingState). l.turns) c.self.view_is in
    let turns = with_items_is c.self.inside.turns new (omega arith) in
    let long : length new ≡ n + 1 = c.write.auto.numbers ∙ (ap (λ (xs : List ℕ). length xs) turns_was ∙ none.turns_length) in
    let written = subst (λ (xs : List ℕ). (v : ℕ) → get_or new v 0 ≡ (if has found v then 1 else get_or xs v 0)) turns_was c.write.ensures in
    let first = turns_first found s.turns new none.turns written in
    let at_border = with_items_is c.self.inside.at_border c.list_all.new.at_border (omega arith) in
    let grown = grown_first n found s.turns new c.requires.within none.turns long first in
    let list = c.in_ok-list_all.ensures.list ∙ ap (λ (l : ListingState). l.list ++ found) c.self.view_is in
    rw (turns, at_border)
    (kept_after n s new found c.list_all.new.list.items c.list_all.new.border.items c.list_all.new.at_border 1 (kept_nothing n s none) grown c.requires.apart c.requires.within (λ k d l. none.turns (get_or found k d))
    list c.in_ok-list_all.ensures.border)

pub returns-clause-bordered : goal.returns-clause-bordered
returns-clause-bordered c =
    let n = c.args.graph.now.vertices in
    let s = c.args.self.now in
    let found = c.args.found.now in
    let new = c.write.new.numbers in
    let none = c.requires.nothing in
    let turns_was = c.as_mut_slice-turns.ensures.value ∙ ap (λ (l : ListingState). l.turns) c.self.view_is in
    let turns = with_items_is c.self.inside.turns new (omega arith) in
    let long : length new ≡ n + 1 = c.write.auto.numbers ∙ (ap (λ (xs : List ℕ). length xs) turns_was ∙ none.turns_length) in
    let written = subst (λ (xs : List ℕ). (v : ℕ) → get_or new v 0 ≡ (if has found v then 1 else get_or xs v 0)) turns_was c.write.ensures in
    let first = turns_first found s.turns new none.turns written in
    let at_border = with_items_is c.self.inside.at_border c.list_all.new.at_border (omega arith) in
    let grown = grown_first n found s.turns new c.requires.within none.turns long first in
    let at_border_was = c.as_mut_slice-at_border.ensures.value ∙ ap (λ (l : ListingState). l.at_border) c.self.view_is in
    let stays = subst (λ (bs : List Bool). StaysAtBorder bs c.list_all.new.at_border) at_border_was c.in_ok-list_all.ensures.stays in
    let g = c.args.graph.now in
    let labels = c.args.labels.now in
    rw (turns, at_border)
    (bordered_after g labels s new found c.list_all.new.list.items c.list_all.new.border.items c.list_all.new.at_border 1 (bordered_nothing g labels s none) grown stays c.in_ok-list_all.ensures.met)

pub invariant_of-self : goal.invariant_of-self
invariant_of-self c =
    let turns = with_items_is c.self.inside.turns c.write.new.numbers (omega (arith, c.write.auto.numbers, c.as_mut_slice-turns.ensures.len)) in
    let long = ap (λ (xs : List ℕ). length xs) c.as_mut_slice-turns.ensures.value in
    rw turns (record { as_long = omega (arith, c.write.auto.numbers, long, c.self.invariant.as_long); marked = c.self.invariant.marked })

pub invariant_of-self-2 : goal.invariant_of-self-2
invariant_of-self-2 c =
    let turns = with_items_is c.self.inside.turns c.write.new.numbers (omega (arith, c.write.auto.numbers, c.as_mut_slice-turns.ensures.len)) in
    let long = ap (λ (xs : List ℕ). length xs) c.as_mut_slice-turns.ensures.value in
    rw turns (record { as_long = omega (arith, c.write.auto.numbers, long, c.self.invariant.as_long); marked = c.self.invariant.marked })
