-- What was listed is on the list, and what was at the border is in it.
use Rattle.std.proofs.Common.{ℕ, Bool, List, length, ◌∙◌, ap, arith}
use Rattle.std.proofs.lemmas.List.{with_items_is}
use Rattle.arc_search.specs.Listing.{ListingState}
use Rattle.arc_search.proofs.SideLists.{nothing_after}
use Rattle.arc_search.proofs.side_listing.Listing.clear.Goals as goal

pub returns : goal.returns
returns c = λ n kept.
    let s = c.args.self.now in
    let turns_was = c.as_mut_slice.ensures.value ∙ ap (λ (l : ListingState). l.turns) c.self.view_is in
    let list_was = c.as_slice.ensures.value ∙ ap (λ (l : ListingState). l.list) c.self.view_is in
    let at_border_was = c.as_mut_slice-2.ensures.value ∙ ap (λ (l : ListingState). l.at_border) c.self.view_is in
    let border_was = c.as_slice-2.ensures.value ∙ ap (λ (l : ListingState). l.border) c.self.view_is in
    let turns = with_items_is c.self.inside.turns c.write.new.numbers (omega arith) in
    let at_border = with_items_is c.self.inside.at_border c.unmark.new.marks (omega arith) in
    rw (turns, at_border)
    (nothing_after n s c.write.new.numbers c.clear.new.self.items c.clear-2.new.self.items c.unmark.new.marks kept
    (c.write.auto.numbers ∙ ap (λ (xs : List ℕ). length xs) turns_was)
    (c.unmark.auto.marks ∙ ap (λ (bs : List Bool). length bs) at_border_was)
    (λ v. rw (turns_was, list_was) at (c.write.ensures v))
    (λ v. rw (at_border_was, border_was) at (c.unmark.ensures v))
    c.clear.ensures.items c.clear-2.ensures.items)
