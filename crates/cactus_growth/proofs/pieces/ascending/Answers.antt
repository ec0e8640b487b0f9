use Rattle.std.proofs.Common.{◌≡◌, ◌++◌, List, ℕ, IsPermutation, ◌∙◌, ap, subst, sym}
use Rattle.cut_definitions.specs.Cuts.{has, IsAscendingWithin}
use Rattle.cactus_growth.specs.Growth.{AreWithin}
use Rattle.cactus_growth.proofs.Sorted.{sorted_members, sorted_ascending}
use Rattle.cactus_growth.proofs.pieces.ascending.Goals as goal

pub returns-clause-members : goal.returns-clause-members
returns-clause-members c = λ v.
    let whole : c.extend_from_slice.new.self.items ≡ c.as_slice.result.now = c.in_ok-extend_from_slice.ensures.items ∙ ap (λ (l : List ℕ). l ++ c.as_slice.result.now) c.new-items.ensures.items in
    ap (λ (l : List ℕ). has l v) c.from_vec.ensures
    ∙ sorted_members c.as_slice.result.now c.sort_unstable.new.self.items c.dedup.new.self.items (subst (λ l. IsPermutation l c.sort_unstable.new.self.items) whole c.sort_unstable.ensures.permutation) c.sort_unstable.ensures.sorted c.dedup.ensures.filtered v
    ∙ ap (λ (l : List ℕ). has l v) c.as_slice.ensures

pub returns-clause-ascending : goal.returns-clause-ascending
returns-clause-ascending c = λ n a.
    let whole : c.extend_from_slice.new.self.items ≡ c.as_slice.result.now = c.in_ok-extend_from_slice.ensures.items ∙ ap (λ (l : List ℕ). l ++ c.as_slice.result.now) c.new-items.ensures.items in
    subst (λ (l : List ℕ). IsAscendingWithin 1 n l) (sym c.from_vec.ensures)
    (sorted_ascending c.as_slice.result.now c.sort_unstable.new.self.items c.dedup.new.self.items (subst (λ l. IsPermutation l c.sort_unstable.new.self.items) whole c.sort_unstable.ensures.permutation) c.sort_unstable.ensures.sorted c.dedup.ensures.filtered n (subst (AreWithin n) (sym c.as_slice.ensures) a))
