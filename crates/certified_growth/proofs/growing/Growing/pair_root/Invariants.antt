use Rattle.std.proofs.Common.{◌≡◌, []}
use Rattle.certified_growth.specs.Growing.{IsGrowing}
use Rattle.certified_growth.proofs.growing.Growing.pair_root.Given as goal

abbrev pub invariant-loop-arc : goal.invariant-loop-arc
invariant-loop-arc l = IsGrowing l.graph l.fn.rule.least l.fn.owners l.self × (l.self.own ≡ l.fn.self.own) × (l.self.count ≡ 1) × (l.self.leaves.items ≡ [])
