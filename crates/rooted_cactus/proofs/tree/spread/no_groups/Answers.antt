use Rattle.std.proofs.Common.{◌∙◌, ◌+◌, ℕ, List, ap}
use Rattle.std.specs.Global.{Vec}
use Rattle.rooted_cactus.specs.Spread.{group_at}
use Rattle.rooted_cactus.proofs.Steps.{no_group_next, one_longer}
use Rattle.rooted_cactus.proofs.tree.spread.no_groups.Goals as goal

pub groups-preserved : goal.groups-preserved
groups-preserved c =
    let groups = c.groups.groups.items in
    let new = c.push-in-groups.new.self.items in
    let last = c.new-in-groups.result in
    record {
      len = one_longer groups new last (c.groups._class + 1) c.in_ok-push-2.ensures.items c.groups.invariant.len;
      empty = λ k. ap (λ (l : List (Vec ℕ)). group_at l k) c.in_ok-push-2.ensures.items
          ∙ no_group_next groups last c.new-in-groups.ensures.items c.groups.invariant.empty k;
    }
