use Rattle.std.proofs.Common.{◌≡◌, ◌++◌, length}
use Rattle.std.specs.List.{All, filter}
use Rattle.cut_definitions.specs.Cuts.{IsAscendingWithin}
use Rattle.cut_listing.specs.Asks.{lets}
use Rattle.vertex_set.specs.Side.{members_of}
use Rattle.cut_listing.proofs.lister.Lister.asked_of.Given as goal

abbrev pub invariant-sides : goal.invariant-sides
invariant-sides g l = record {
  walk : l.walk.vertices ≡ l.self.n;
  room : l.room.vertices ≡ l.self.n;
  over_n : All (λ s. s.vertices ≡ l.self.n) l.found.items;
  ascending : All (IsAscendingWithin 1 l.self.n) l.walk.to_come;
  listed : members_of l.found.items ++ filter (lets l.self.ask) l.walk.to_come ≡ filter (lets l.self.ask) l.initial.walk.to_come;
}

abbrev pub decreases-sides : goal.decreases-sides
decreases-sides g l = length l.walk.to_come
