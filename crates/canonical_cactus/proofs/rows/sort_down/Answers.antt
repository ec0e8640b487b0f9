use Rattle.std.proofs.Common.{◌∙◌, ap, sym, subst, rules}
use Rattle.std.specs.List.Sorted.{IsPermutation, IsNonDecreasingBy}
use Rattle.std.proofs.lemmas.List.Sorted.{IsNonDecreasingBy-from_sort_by_key}
use Rattle.rooted_cactus.specs.Entries.{top_first}
use Rattle.canonical_cactus.specs.Making.{key_of}
use Rattle.rooted_cactus.proofs.Tops.{reversed_top, top_twice}
use Rattle.canonical_cactus.proofs.rows.sort_down.Goals as goal

pub returns-clause-same : goal.returns-clause-same
returns-clause-same c =
    let sorted = c.sort_unstable_by_key.new.self.items in
    let back = ap top_first (c.reverse.ensures.items ∙ reversed_top sorted) ∙ top_twice sorted in
    subst (IsPermutation c.args.row.now.items) (sym back) c.sort_unstable_by_key.ensures.permutation

pub returns-clause-sorted : goal.returns-clause-sorted
returns-clause-sorted c =
    let sorted = c.sort_unstable_by_key.new.self.items in
    let back = ap top_first (c.reverse.ensures.items ∙ reversed_top sorted) ∙ top_twice sorted in
    subst (IsNonDecreasingBy key_of) (sym back) (IsNonDecreasingBy-from_sort_by_key key_of sorted c.sort_unstable_by_key.ensures.sorted (λ a r q k. search rules))
