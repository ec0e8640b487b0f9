use Rattle.std.proofs.Common.{◌≡◌, ◌↔◌, ◌≤◌, ◌∙◌, ℕ, Option, Some, None, sym, subst, arith}
use Rattle.std.specs.Prelude.{IfSome}
use Rattle.std.specs.List.{Contains, filter, range_with_len}
use Rattle.cut_definitions.specs.Graph.{Graph, IsGraph}
use Rattle.cut_definitions.specs.Cuts.{value}
use Rattle.cut_definitions.specs.Weight.{VertexSet}
use Rattle.cut_definitions.proofs.Results.{if_ok_more}
use Rattle.rooted_cactus.specs.Rooted.{IsCactus, sides_of}
use Rattle.flat_cactus.specs.Flat.{Flat}
use Rattle.flat_cactus.specs.FlatLaws.{LawOfFlatForm, LawOfFlatSides}
use Rattle.node_tree.specs.Finished.{IsTreeOfAll, arrays_of}
use Rattle.node_tree.specs.Flat.{NodeArrays, sets_of}
use Rattle.node_tree.specs.TreeSets.{IsTreeSide}
use Rattle.region_sweep.proofs.TreeCuts.{finished}
use Rattle.tree_flattening.specs.CanonicalFlats.{IsCanonicalFlat}
use Rattle.answer_pages.specs.Text.{cactus_text}
use Rattle.job_replies.specs.Jobs.{IsCactusText}
use Rattle.job_replies.proofs.Answering.{canonical_text}
use Rattle.mincut_program.proofs.cactus.flat_by_arrays.Goals as goal

-- the flat canonical cactus of the tree of all minimum cuts has the text of the graph
told : (g : Graph) (a : NodeArrays) (n v : ℕ) (o : Option Flat) → IsGraph g → 2 ≤ g.vertices → IsTreeOfAll g a → n ≡ g.vertices → v ≡ value g → LawOfFlatForm → LawOfFlatSides →
    IfSome o (IsCanonicalFlat n a) → IfSome o (λ f. IsCactusText g (cactus_text v f))
told g a n v None is enough all over least form law h = tt
told g a n v (Some f) is enough all over least form law h =
    let c = h.cactus in
    let same = h.over ∙ over in
    let sides = subst (λ k. (x : VertexSet) → Contains (sides_of c) (filter x (range_with_len 1 k)) ↔ IsTreeSide k (sets_of a) x) over h.sides in
    subst (λ (k : Flat). IsCactusText g (cactus_text v k)) (sym h.flat)
    (canonical_text g c v form law
    record {
      is_cactus = subst (λ k. IsCactus k c.root) (sym h.over) h.is_cactus;
      over = same;
      canonical = h.canonical;
      sides = finished g a c is (omega (arith, enough)) all same sides;
    }
    least)

pub returns : goal.returns
returns c =
    let g = c.args.list.now in
    let found = c.args.found.now in
    let a : NodeArrays = arrays_of found.tree in
    if_ok_more (λ o. IfSome o (IsCanonicalFlat c.n.result a)) (λ o. IfSome o (λ f. IsCactusText g (cactus_text found.value f))) c.canonical_flat.result
    (λ o h. told g a c.n.result found.value o c.n.ensures.edge_list.is_graph (omega (arith, c.requires.enough)) c.requires.solved.tree.all c.n.ensures.value c.requires.solved.value c.flat_form.ensures c.flat_sides.ensures h)
    c.canonical_flat.ensures.flat
