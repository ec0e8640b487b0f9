-- Of the texts that go by all minimum cuts a graph has one.
use Rattle.std.proofs.Common.{◌≡◌, ℕ, true, false, List, true≢false, ap, ◌∙◌, sym, refl, subst}
use Rattle.std.specs.Ordering.{is_gt, nat_cmp, ordering_reverse}
use Rattle.std.specs.Cmp.Lexicographic.{slice_cmp}
use Rattle.std.specs.declared.cmp.Ordering.{Ordering}
use Rattle.std.specs.declared.cmp.Ordering.TheVariants.{Less, Equal, Greater}
use Rattle.std.proofs.lemmas.Cmp.{nat_list_cmp_total}
use Rattle.std.proofs.lemmas.Map.Lookups.{exact_bytes}
use Rattle.cut_definitions.specs.Graph.{Graph}
use Rattle.cut_definitions.specs.Balance.{balance}
use Rattle.cut_definitions.specs.Cuts.{value}
use Rattle.rooted_cactus.specs.Different.{HaveSameSides}
use Rattle.flat_cactus.specs.Flattened.{flat_of}
use Rattle.rooted_cactus.specs.Rooted.{Rooted, IsCactus, over}
use Rattle.rooted_cactus.specs.declared.tree.Node.{Node}
use Rattle.answer_pages.specs.Text.{cactus_text}
use Rattle.canonical_cactus.specs.Canonical.{is_canonical}
use Rattle.canonical_cactus.specs.FirstBest.{IsNoLater}
use Rattle.canonical_cactus.proofs.OneTree.{one_flat}
use Rattle.job_replies.specs.Jobs.{IsCactusOf}
use Rattle.answer_pages.specs.Listings.{balanced_text}
use Rattle.job_replies.specs.TextLaws.{LawOfOneBalancedText, LawOfOneCactusText}

-- ---- the canonical cactus
flat_over : (m n : ℕ) (c d : Node) → m ≡ n → IsCactus m c → IsCactus n d → is_canonical c ≡ true → is_canonical d ≡ true →
    HaveSameSides (over m c) (over n d) → flat_of (over m c) ≡ flat_of (over n d)
flat_over m n c d e hc hd kc kd =
    subst (λ k. IsCactus k d → HaveSameSides (over m c) (over k d) → flat_of (over m c) ≡ flat_of (over k d)) e (λ h s. one_flat m c d hc h kc kd s) hd

pub same_sides : (g : Graph) (c d : Rooted) → IsCactusOf g c → IsCactusOf g d → HaveSameSides c d
same_sides g c d a b = λ side. ((λ k. (b.sides side).1 ((a.sides side).0 k)), (λ k. (a.sides side).1 ((b.sides side).0 k)))

pub one_flat_of : (g : Graph) (c d : Rooted) → IsCactusOf g c → IsCactusOf g d → flat_of c ≡ flat_of d
one_flat_of g c d a b =
    flat_over c.vertices d.vertices c.root d.root (a.over ∙ sym b.over) a.is_cactus b.is_cactus a.canonical b.canonical (same_sides g c d a b)

pub one_cactus_text : LawOfOneCactusText
one_cactus_text g t u a b = a.text_is ∙ ap (cactus_text (value g)) (one_flat_of g a.cactus b.cactus a.of_graph b.of_graph) ∙ sym b.text_is

-- ---- the first of the best sides
neither : (o : Ordering) → is_gt o ≡ false → is_gt (ordering_reverse o) ≡ false → o ≡ Equal
neither Less a b = absurd (true≢false b)
neither Equal a b = refl
neither Greater a b = absurd (true≢false a)

one_first : (s t : List ℕ) → IsNoLater s t → IsNoLater t s → s ≡ t
one_first s t a b = exact_bytes s t
    (neither (slice_cmp nat_cmp s t) a (sym (ap is_gt (nat_list_cmp_total.antisymm t s)) ∙ b))

pub one_balanced_text : LawOfOneBalancedText
one_balanced_text masses g connected t u a b =
    let side : a.side ≡ b.side = one_first a.side b.side ((a.first connected).first b.side b.best) ((b.first connected).first a.side a.best) in
    a.text_is ∙ ap (λ s. balanced_text (value g) (balance masses s) s) side ∙ sym b.text_is
