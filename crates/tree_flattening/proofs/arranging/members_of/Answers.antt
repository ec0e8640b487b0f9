use Rattle.std.proofs.Common.{◌≡◌, ℕ, ◌<◌, ◌≤◌, ◌∙◌, List, [], length, ap, sym, subst, arith, inr}
use Rattle.std.specs.Prelude.{slice_index_or}
use Rattle.std.specs.List.{Contains}
use Rattle.std.proofs.lemmas.List.FromFn.{length-map-range_with_len}
use Rattle.cut_definitions.proofs.ListLaws.{All-from_each}
use Rattle.node_tree.specs.Finished.{arrays_of}
use Rattle.node_tree.specs.Flat.{NodeArrays}
use Rattle.tree_flattening.specs.Plans.{own_of}
use Rattle.tree_flattening.proofs.Runs.{range_within}
use Rattle.tree_flattening.proofs.HeadGroups.{own_is}
use Rattle.tree_flattening.proofs.arranging.members_of.Goals as goal

pub of-requires-clause-known : goal.of-requires-clause-known
of-requires-clause-known c =
    All-from_each (λ x. x < length c.deref-2.result.now) c.deref.result.now
    (λ v k. omega (arith, (range_within 1 c.args.n v (subst (λ l. Contains l v) (c.deref.ensures.value ∙ c.in_ok-vertices.ensures) k)).1, ap (λ (l : List ℕ). length l) c.deref-2.ensures.value, c.requires.homes))

pub returns-then-not-are_filled-clause-none : goal.returns-then-not-are_filled-clause-none
returns-then-not-are_filled-clause-none c =
    let many : length c.in_ok-members.members ≡ c.len-count.result = ap (λ (g : List (List ℕ)). length g) c.in_ok-members.ensures ∙ length-map-range_with_len _ 0 c.len-count.result in
    let own = own_is c.in_ok-members.members c.deref.result.now c.deref-2.result.now c.args.tree.now.homes.items c.args.n c.len-count.result c.in_ok-members.ensures (c.deref.ensures.value ∙ c.in_ok-vertices.ensures) c.deref-2.ensures.value in
    inr (λ filled. c.are_filled.ensures.no c.if-not-are_filled.true
    (λ i lt. subst (λ (l : List ℕ). 1 ≤ length l) (sym (own i (omega (arith, lt, many)))) (filled i (omega (arith, lt, many, c.len-count.ensures.uppers)))))

pub returns-clause-own : goal.returns-clause-own
returns-clause-own c =
    let a : NodeArrays = arrays_of c.args.tree.now in
    let members = c.in_ok-members.members in
    let count : c.len-count.result ≡ length a.links.uppers = c.len-count.ensures.uppers in
    let many : length members ≡ c.len-count.result = ap (λ (g : List (List ℕ)). length g) c.in_ok-members.ensures ∙ length-map-range_with_len _ 0 c.len-count.result in
    let own : (i : ℕ) → i < length a.links.uppers → slice_index_or members i [] ≡ own_of c.args.n a i =
    λ i lt. own_is members c.deref.result.now c.deref-2.result.now c.args.tree.now.homes.items c.args.n c.len-count.result c.in_ok-members.ensures (c.deref.ensures.value ∙ c.in_ok-vertices.ensures) c.deref-2.ensures.value i (omega (arith, lt, count)) in
    record {
      few = omega (arith, c.if-count-n.false, count);
      laid = record { same = sym c.len-count.ensures.follows ∙ count };
      many = many ∙ count;
      own = own;
      filled = λ i lt. subst (λ (l : List ℕ). 1 ≤ length l) (own i lt) (c.are_filled.ensures.yes c.if-not-are_filled.false i (omega (arith, lt, many, count)));
    }
