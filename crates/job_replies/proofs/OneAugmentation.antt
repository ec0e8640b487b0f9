-- A graph has one text of an augmentation: the end nodes of its canonical cactus are in one order.
use Rattle.std.proofs.Common.{◌≡◌, ℕ, inl, true, List, [], ◌∷◌, map, ap, ◌∙◌, sym, subst, refl}
use Rattle.std.specs.List.{Contains}
use Rattle.std.specs.Ordering.{nat_cmp}
use Rattle.std.proofs.lemmas.Cmp.{nat_list_cmp_total}
use Rattle.std.proofs.lemmas.Map.Lookups.{exact_bytes, exact_pairs, exact_unsigned}
use Rattle.cut_definitions.specs.Graph.{Graph}
use Rattle.cut_definitions.specs.Weight.{VertexSet}
use Rattle.cut_definitions.specs.Cuts.{value}
use Rattle.cut_definitions.proofs.Orderings.{one_listed}
use Rattle.rooted_cactus.specs.Sides.{part}
use Rattle.rooted_cactus.specs.Rooted.{Rooted, IsCactus, over}
use Rattle.rooted_cactus.specs.Different.{HaveSameSides}
use Rattle.rooted_cactus.specs.Entered.{in_order}
use Rattle.rooted_cactus.specs.Trees.{nodes_in}
use Rattle.rooted_cactus.specs.declared.tree.Node.{Node}
use Rattle.rooted_cactus.proofs.Distinct.{root_vertices}
use Rattle.rooted_cactus.proofs.Fits.{root_solid}
use Rattle.rooted_cactus.proofs.Sets.{same_set}
use Rattle.rooted_cactus.proofs.Trims.{with_whole}
use Rattle.canonical_cactus.specs.Canonical.{is_canonical}
use Rattle.canonical_cactus.proofs.Fits.{IsFit, root_fit}
use Rattle.canonical_cactus.proofs.Unique.{read_alike}
use Rattle.canonical_cactus.proofs.OneTree.{root_all, cuts_over}
use Rattle.edge_augment.specs.Ends.{block_leaves, end_sets, ends_of, leaves, leaves_of}
use Rattle.edge_augment.specs.NewEdges.{new_edges}
use Rattle.edge_augment.proofs.Leaves.{leaves_bridge, leaves_cycle, leaves_out}
use Rattle.edge_augment.proofs.Sorted.{pair_total}
use Rattle.answer_pages.specs.Augmenting.{augment_text}
use Rattle.job_replies.specs.Jobs.{IsAugmentText, IsCactusOf}
use Rattle.job_replies.specs.TextLaws.{LawOfOneAugmentText}
use Rattle.job_replies.proofs.OneText.{same_sides}

-- ---- the end nodes
abbrev Lists : Type 0
Lists = List (List ℕ)

-- what is read off a node that is below a block, and off the root
abbrev ends : Node → Lists × Lists
ends x = (leaves x, end_sets x)

firsts : (xs : List Node) → map leaves xs ≡ map (λ (a : Lists × Lists). a.0) (map ends xs)
firsts [] = refl
firsts (x ∷ xs) = ap (λ l. leaves x ∷ l) (firsts xs)

ends_alike : (n : ℕ) (c d : Node) → IsCactus n c → IsCactus n d → is_canonical c ≡ true → is_canonical d ≡ true → HaveSameSides (over n c) (over n d) → end_sets c ≡ end_sets d
ends_alike n c d hc hd kc kd s =
    let fc : IsFit n c = root_fit n c hc kc in
    let fd : IsFit n d = root_fit n d hd kd in
    let below : (part c).below ≡ (part d).below =
    same_set (part c).below (part d).below (λ v e. root_all n d hd v (root_vertices n c hc v e)) (λ v e. root_all n c hc v (root_vertices n d hd v e)) in
    let there : (t : VertexSet) → Contains (part c).cuts t → Contains (part d).cuts t = cuts_over n c d hc hd fc fd (λ l. (s l).0) in
    let back : (t : VertexSet) → Contains (part d).cuts t → Contains (part c).cuts t = cuts_over n d c hd hc fd fc (λ l. (s l).1) in
    ap (λ (a : Lists × Lists). a.1) (read_alike n (Lists × Lists) Lists ends block_leaves (λ vs bs. (leaves_of vs bs, ends_of vs bs)) (λ a. a.0) (λ xs. in_order (map (λ (a : Lists × Lists). a.0) xs))
    (λ x. ap (λ l. (l, end_sets x)) (leaves_out x)) leaves_bridge (λ nodes. leaves_cycle nodes ∙ ap in_order (firsts (nodes_in nodes)))
    c d fc fd (inl (root_solid n c hc)) (inl (root_solid n d hd)) below
    (λ t. (with_whole (part c).below (part d).below (part c).cuts (part d).cuts below there t, with_whole (part d).below (part c).below (part d).cuts (part c).cuts (sym below) back t)))

ends_over : (m n : ℕ) (c d : Node) → m ≡ n → IsCactus m c → IsCactus n d → is_canonical c ≡ true → is_canonical d ≡ true →
    HaveSameSides (over m c) (over n d) → end_sets c ≡ end_sets d
ends_over m n c d e hc hd kc kd =
    subst (λ k. IsCactus k d → HaveSameSides (over m c) (over k d) → end_sets c ≡ end_sets d) e (λ h s. ends_alike m c d hc h kc kd s) hd

one_ends : (g : Graph) (c d : Rooted) → IsCactusOf g c → IsCactusOf g d → end_sets c.root ≡ end_sets d.root
one_ends g c d a b =
    ends_over c.vertices d.vertices c.root d.root (a.over ∙ sym b.over) a.is_cactus b.is_cactus a.canonical b.canonical (same_sides g c d a b)

-- ---- the text
module _ (g : Graph) (t u : List ℕ) (a : IsAugmentText g t) (b : IsAugmentText g u) where
  one_sets : a.plan.sets ≡ b.plan.sets
  one_sets = one_listed nat_list_cmp_total exact_bytes a.plan.sets b.plan.sets a.of_cactus.sets_ascend b.of_cactus.sets_ascend
      (λ s. ((λ c. (b.least.sets s).1 ((a.least.sets s).0 c)), (λ c. (a.least.sets s).1 ((b.least.sets s).0 c))))

  new_alike : new_edges (end_sets a.cactus.root) ≡ new_edges (end_sets b.cactus.root)
  new_alike = ap new_edges (one_ends g a.cactus b.cactus a.of_graph b.of_graph)

  one_edges : a.plan.edges ≡ b.plan.edges
  one_edges = one_listed pair_total (exact_pairs nat_cmp nat_cmp exact_unsigned exact_unsigned) a.plan.edges b.plan.edges a.of_cactus.edges_ascend b.of_cactus.edges_ascend
      (λ e. (
        (λ c. (b.of_cactus.edges e).1 (subst (λ l. Contains l e) new_alike ((a.of_cactus.edges e).0 c))),
        (λ c. (a.of_cactus.edges e).1 (subst (λ l. Contains l e) (sym new_alike) ((b.of_cactus.edges e).0 c))),
      ))

  one_plan_text : t ≡ u
  one_plan_text =
      a.text_is ∙ ap (λ l. augment_text (value g) (record { edges = a.plan.edges; sets = l })) one_sets
      ∙ ap (λ l. augment_text (value g) (record { edges = l; sets = b.plan.sets })) one_edges ∙ sym b.text_is

pub one_augment_text : LawOfOneAugmentText
one_augment_text g t u a b = one_plan_text g t u a b
