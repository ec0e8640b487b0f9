use Rattle.std.proofs.Common.{◌≡◌, rules}
use Rattle.std.specs.Ordering.{is_lt}
use Rattle.std.proofs.lemmas.List.Sorted.{All-permutation, ranks_by, answers_always}
use Rattle.vertex_set.specs.Side.{VertexList}
use Rattle.vertex_set.proofs.Compared.{side_cmp, side_total}
use Rattle.component_cuts.proofs.Sorted.{sorted_ascends, same_members}
use Rattle.component_cuts.proofs.unions.sort_sides.Goals as goal

pub returns-clause-over_n : goal.returns-clause-over_n
returns-clause-over_n c = All-permutation (λ (s : VertexList). s.vertices ≡ c.args.n) c.args.sides.now.items c.sort_unstable_by.new.self.items c.sort_unstable_by.ensures.permutation c.requires.over_n

pub returns-clause-ascending : goal.returns-clause-ascending
returns-clause-ascending c =
    sorted_ascends c.args.n c.args.sides.now.items c.sort_unstable_by.new.self.items c.requires.over_n c.requires.different c.sort_unstable_by.ensures.permutation
    (c.sort_unstable_by.ensures.sorted (λ x y. is_lt (side_cmp x y)) (ranks_by side_total (λ s. s)) (answers_always _ _ _ (λ f a r f' k. search rules)))

pub returns-clause-same : goal.returns-clause-same
returns-clause-same c = same_members c.args.sides.now.items c.sort_unstable_by.new.self.items c.sort_unstable_by.ensures.permutation
