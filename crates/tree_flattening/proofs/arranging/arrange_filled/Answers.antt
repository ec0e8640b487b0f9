use Rattle.std.proofs.Common.{◌≡◌, ℕ, ◌<◌, ◌∙◌, ◌++◌, List, [], length, map, ap, sym, subst, arith}
use Rattle.std.specs.Prelude.{slice_index, slice_index_or}
use Rattle.std.specs.List.{Contains}
use Rattle.std.specs.List.Sorted.{IsNonDecreasingBy, IsPermutation}
use Rattle.std.proofs.lemmas.List.FromFn.{length-map-range_with_len}
use Rattle.cut_definitions.specs.Cuts.{least}
use Rattle.cut_definitions.proofs.ListLaws.{All-from_each}
use Rattle.node_tree.specs.Flat.{TreeLinks}
use Rattle.tree_flattening.specs.Arranged.{IsLeastOfBlock}
use Rattle.tree_flattening.specs.Plans.{heads_of}
use Rattle.tree_flattening.proofs.Runs.{head_is}
use Rattle.tree_flattening.proofs.HeadGroups.{first_within, group_is}
use Rattle.tree_flattening.proofs.arranging.arrange_filled.Goals as goal

pub of-requires-clause-known : goal.of-requires-clause-known
of-requires-clause-known c =
    let t = c.args.tree.now in
    All-from_each (λ x. x < length c.deref-2.result.now) c.deref.result.now
    (λ h k. omega (arith, (first_within t h (subst (λ l. Contains l h) (c.deref.ensures.value ∙ c.in_ok-firsts.ensures) k)).1, ap (λ (l : List ℕ). length l) (c.deref-2.ensures.value ∙ c.in_ok-uppers.ensures)))

pub of-requires-clause-within : goal.of-requires-clause-within
of-requires-clause-within c =
    let t = c.args.tree.now in
    All-from_each (λ x. slice_index c.deref-2.result.now x < c.len.result) c.deref.result.now
    (λ h k.
    let w = first_within t h (subst (λ l. Contains l h) (c.deref.ensures.value ∙ c.in_ok-firsts.ensures) k) in
    omega (arith, w.1, c.requires.upper h w.0 w.1, ap (λ (l : List ℕ). slice_index l h) (c.deref-2.ensures.value ∙ c.in_ok-uppers.ensures), c.len.ensures.uppers))

pub leasts_of-requires-clause-heads : goal.leasts_of-requires-clause-heads
leasts_of-requires-clause-heads c = ap (λ (g : List (List ℕ)). length g) c.in_ok-heads.ensures ∙ length-map-range_with_len _ 0 c.len.result ∙ c.len.ensures.uppers

pub leasts_of-requires-clause-below : goal.leasts_of-requires-clause-below
leasts_of-requires-clause-below c = λ i h lt k.
    let t = c.args.tree.now in
    let same = group_is t c.in_ok-heads.heads c.deref.result.now c.deref-2.result.now c.len.result c.in_ok-heads.ensures (c.deref.ensures.value ∙ c.in_ok-firsts.ensures) (c.deref-2.ensures.value ∙ c.in_ok-uppers.ensures) c.len.ensures.uppers i lt in
    let is = head_is t c.requires.upper i h (subst (λ l. Contains l h) same k) in
    (is.after, is.before)

pub returns : goal.returns
returns c =
    let t = c.args.tree.now in
    let many : length c.in_ok-heads.heads ≡ length t.uppers = ap (λ (g : List (List ℕ)). length g) c.in_ok-heads.ensures ∙ length-map-range_with_len _ 0 c.len.result ∙ c.len.ensures.uppers in
    let same : (i : ℕ) → i < length t.uppers → slice_index_or c.in_ok-heads.heads i [] ≡ heads_of t i = group_is t c.in_ok-heads.heads c.deref.result.now c.deref-2.result.now c.len.result c.in_ok-heads.ensures (c.deref.ensures.value ∙ c.in_ok-firsts.ensures) (c.deref-2.ensures.value ∙ c.in_ok-uppers.ensures) c.len.ensures.uppers in
    let found = c.in_ok-nodes.field-0 in
    let leasts : c.new.result.leasts.items ≡ found.nodes.items = c.new.ensures.leasts in
    let keys : c.deref-3.result.now ≡ found.blocks.items = c.deref-3.ensures.value in
    let heads = c.new.ensures.heads in
    let tree : length c.new.result.tree.now.uppers ≡ length t.uppers = ap (λ (u : TreeLinks). length u.uppers) c.new.ensures.tree in
    record {
      blocks = found.blocks.items;
      all = record {
        members = ap (λ (g : List (List ℕ)). length g) c.new.ensures.members ∙ c.requires.members ∙ sym tree;
        heads = ap (λ (g : List (List ℕ)). length g) heads ∙ c.sort_heads.ensures.len ∙ many ∙ sym tree;
        leasts = ap (λ (l : List ℕ). length l) leasts ∙ c.in_ok-nodes.ensures.len ∙ sym tree;
      };
      tree = c.new.ensures.tree;
      kept = c.new.ensures.members;
      moved = λ i lt.
          subst (λ (g : List (List ℕ)). IsPermutation (heads_of t i) (slice_index_or g i [])) (sym heads)
          (subst (λ l. IsPermutation l (slice_index_or c.sort_heads.new.heads i [])) (same i lt) (c.sort_heads.ensures.moved i (omega (arith, lt, many))));
      sorted = λ i lt.
          subst (λ (g : List (List ℕ)). IsNonDecreasingBy (slice_index found.blocks.items) (slice_index_or g i [])) (sym heads)
          (subst (λ (l : List ℕ). IsNonDecreasingBy (slice_index l) (slice_index_or c.sort_heads.new.heads i [])) keys (c.sort_heads.ensures.sorted i (omega (arith, lt, many))));
      nodes = λ i lt.
          ap (λ (l : List ℕ). slice_index l i) leasts ∙ c.in_ok-nodes.ensures.nodes i lt
          ∙ ap (λ (l : List ℕ). least (slice_index_or c.args.members i [] ++ map (slice_index found.blocks.items) l)) (same i lt);
      least = λ h lt. subst (λ (l : List ℕ). IsLeastOfBlock t l found.blocks.items h) (sym leasts) (c.in_ok-nodes.ensures.blocks h lt);
    }
