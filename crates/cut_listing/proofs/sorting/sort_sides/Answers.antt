use Rattle.std.proofs.Common.{◌≡◌, rules}
use Rattle.std.specs.Ordering.{is_lt}
use Rattle.std.proofs.lemmas.List.Sorted.{All-permutation, ranks_by, answers_always}
use Rattle.vertex_set.specs.Side.{VertexList}
use Rattle.vertex_set.proofs.Compared.{side_cmp, side_total}
use Rattle.cut_listing.proofs.Sorted.{all_sorted}
use Rattle.cut_listing.proofs.sorting.sort_sides.Goals as goal

pub returns-clause-over_n : goal.returns-clause-over_n
returns-clause-over_n c = All-permutation (λ (s : VertexList). s.vertices ≡ c.args.n) c.args.sides.now.items c.sort_unstable_by.new.self.items c.sort_unstable_by.ensures.permutation c.requires.over_n

pub returns-clause-listing : goal.returns-clause-listing
returns-clause-listing c = all_sorted c.args.n c.args.sides.now.items c.sort_unstable_by.new.self.items c.requires.over_n c.requires.different c.sort_unstable_by.ensures.permutation
    (c.sort_unstable_by.ensures.sorted (λ x y. is_lt (side_cmp x y)) (ranks_by side_total (λ s. s)) (answers_always _ _ _ (λ f a r f' k. search rules)))
