-- What was searched is written back.
use Rattle.std.proofs.Common.{◌≡◌, ◌+◌, length, ◌∙◌, ap, arith}
use Rattle.std.proofs.lemmas.List.{with_items_is}
use Rattle.region_flow.specs.Regions.{RegionState}
use Rattle.region_flow.proofs.regions.RegionFlow.feed_past.Goals as goal

-- no vertex is marked any more, and the rest of the memory is as it was
pub invariant_of-self : goal.invariant_of-self
invariant_of-self c =
    let tree = c.search_past.new.tree in
    let search = c.search_past.ensures in
    let marks = with_items_is tree.marks c.clear.new.marks (omega arith) in
    let long : length c.self.inside.labels.items ≡ c.args.graph.now.vertices + 1 = omega (arith, c.as_slice.ensures.len, search.flow.labels_length) in
    record {
      unmarked = rw marks c.clear.ensures;
      marks_length = rw marks (omega (arith, search.tree.tree.marks_length, long));
      room = record {
        order_room = omega (arith, long, search.tree.room.order_room);
        links_room = omega (arith, long, search.tree.room.links_room);
      };
    }

pub returns-clause-flow : goal.returns-clause-flow
returns-clause-flow c =
    let feed = with_items_is c.self.inside.feed c.search_past.new.feed (omega arith) in
    let toward = with_items_is c.self.inside.toward c.search_past.new.toward (omega arith) in
    rw (feed, toward) (rw c.as_slice.ensures.value at c.search_past.ensures.flow)

pub returns-clause-kept : goal.returns-clause-kept
returns-clause-kept c =
    let feed = with_items_is c.self.inside.feed c.search_past.new.feed (omega arith) in
    let before = c.as_mut_slice-feed.ensures.value ∙ ap (λ (f : RegionState). f.feed) c.self.view_is in
    rw feed (rw before at c.search_past.ensures.kept)

pub returns-clause-others : goal.returns-clause-others
returns-clause-others c =
    let feed = with_items_is c.self.inside.feed c.search_past.new.feed (omega arith) in
    let before = c.as_mut_slice-feed.ensures.value ∙ ap (λ (f : RegionState). f.feed) c.self.view_is in
    rw feed (rw before at c.search_past.ensures.others)
