use Rattle.std.proofs.Common.{◌∙◌, ap}
use Rattle.std.specs.List.{flat_map}
use Rattle.rooted_cactus.specs.Spread.{group_at}
use Rattle.rooted_cactus.proofs.Groups.{sorted_is_lift}
use Rattle.rooted_cactus.proofs.tree.spread.spread_list.Goals as goal

pub returns : goal.returns
returns c = λ classes gathered.
    c.from_vec.ensures ∙ sorted_is_lift classes c.args.groups.now gathered c.args.list.now c.in_ok-vertices.vertices.items c.sort_unstable.new.self.items c.dedup.new.self.items
    (c.in_ok-vertices.ensures ∙ ap (flat_map (group_at c.args.groups.now)) c.as_slice.ensures)
    c.sort_unstable.ensures.permutation c.sort_unstable.ensures.sorted c.dedup.ensures.filtered
