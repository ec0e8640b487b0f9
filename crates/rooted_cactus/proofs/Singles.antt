-- One node with all vertices is a cactus.
use Rattle.std.proofs.Common.{◌≡◌, ℕ, ◌≤◌, zero, suc, [], ◌∷◌, map, length, ap, ◌∙◌, sym, subst, arith}
use Rattle.std.specs.Prelude.{if◌then◌else◌}
use Rattle.std.specs.List.{All, Contains, filter, range_with_len, flat_map}
use Rattle.std.proofs.lemmas.List.Elements.{All-cons, All-nil}
use Rattle.cut_definitions.specs.Cuts.{has, IsAscendingWithin}
use Rattle.cut_definitions.proofs.Lists.{Contains-here}
use Rattle.rooted_cactus.specs.Entered.{entered, entered_block}
use Rattle.rooted_cactus.specs.Rooted.{IsCactus}
use Rattle.rooted_cactus.specs.Widths.{widths, block_widths, joined}
use Rattle.rooted_cactus.specs.Trees.{vertices, blocks}
use Rattle.rooted_cactus.specs.declared.tree.Node.{Node}
use Rattle.rooted_cactus.proofs.Orders.{entered_out}
use Rattle.rooted_cactus.proofs.Ranges.{range_ascending, has_range}
use Rattle.rooted_cactus.proofs.Widths.{widths_out}

first_is_one : (n : ℕ) → 1 ≤ n → Contains (range_with_len 1 n) 1
first_is_one zero h = absurd (omega arith)
first_is_one (suc m) h = Contains-here 1 (range_with_len 2 m)

pub single_cactus : (n : ℕ) (x : Node) → 1 ≤ n → vertices x ≡ range_with_len 1 n → blocks x ≡ [] → IsCactus n x
single_cactus n x h v b =
    let whole : entered x ≡ range_with_len 1 n ∷ [] = entered_out x ∙ ap (λ l. l ∷ flat_map entered_block (blocks x)) v ∙ ap (λ bs. range_with_len 1 n ∷ flat_map entered_block bs) b in
    let none : widths x ≡ [] = widths_out x ∙ ap (λ bs. joined (map block_widths bs)) b in
    record {
      ascending = subst (All (IsAscendingWithin 1 n)) (sym whole) (All-cons (IsAscendingWithin 1 n) (range_with_len 1 n) [] (range_ascending n 1 n (omega arith)) (All-nil (IsAscendingWithin 1 n)));
      in_one_node = λ u l k. ap (λ ls. length (filter (λ l. has l u) ls)) whole ∙ ap (λ b. length (if b then range_with_len 1 n ∷ [] else [])) (has_range n 1 u l (omega arith));
      root_has_one = subst (λ l. Contains l 1) (sym v) (first_is_one n h);
      wide = subst (All (λ k. 2 ≤ k)) (sym none) (All-nil (λ k. 2 ≤ k));
    }
