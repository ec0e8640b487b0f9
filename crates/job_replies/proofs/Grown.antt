-- Graphs after insertions, and the minimum cuts that are kept.
use Rattle.std.proofs.Common.{◌≡◌, ℕ, ◌+◌, ◌≤◌, List, [], ◌∷◌, ◌++◌, length, take, sym, ◌∙◌, ap, subst, Some}
use Rattle.std.specs.Prelude.{slice_get}
use Rattle.std.proofs.lemmas.List.{take_all}
use Rattle.flat_cactus.specs.FlatLaws.{LawOfFlatForm, LawOfFlatSides}
use Rattle.flat_cactus.specs.Flattened.{flat_of}
use Rattle.answer_pages.specs.Growing.{growth_text}
use Rattle.job_replies.specs.declared.growth.Growing.{Growing}
use Rattle.flat_cactus.proofs.Shown.{shows}
use Rattle.cut_definitions.specs.Components.{IsConnected}
use Rattle.cut_definitions.specs.Cuts.{has, value}
use Rattle.cut_definitions.specs.Graph.{Graph}
use Rattle.cut_definitions.proofs.ListLaws.{taken}
use Rattle.rooted_cactus.specs.Rooted.{Rooted}
use Rattle.cactus_growth.specs.Insertion.{edge_between}
use Rattle.cactus_growth.specs.After.{IsKept}
use Rattle.cactus_growth.specs.Laws.{KeepsSome, LawOfKeptCuts, LawOfWeights}
use Rattle.rooted_cactus.specs.declared.solved.Solved.{Solved}
use Rattle.job_replies.specs.Growth.{HasGrown, IsGrowing}
use Rattle.program_words.specs.Insertions.{Insertion, IsInsertion}
use Rattle.job_replies.specs.GrownGraphs.{grown, step_of, steps_of, with_insertion}
use Rattle.job_replies.specs.Jobs.{IsCactusOf, IsGrowText}
use Rattle.rooted_cactus.specs.Solving.{IsSolved}
use Rattle.answer_pages.specs.declared.growth_pages.Step.{Step}
use Rattle.job_replies.proofs.Inserted.{grown_next, parts_between, steps_more, still_connected}

-- the cuts of a cactus that do not separate the two vertices of an insertion are the minimum cuts after it
pub kept_solved : (g : Graph) (i : Insertion) (solved : Solved) (kept : Rooted) → LawOfKeptCuts → IsSolved g solved → IsInsertion i → IsKept i.0 i.1 solved.cactus kept →
    IsSolved (with_insertion g i) (record { value = solved.value; cactus = kept })
kept_solved g i solved kept law s is k =
    let e = edge_between i.0 i.1 i.2 in
    let one = k.some in
    let old = (k.sides one.0).0 one.1 in
    let some : KeepsSome g e.u e.v = (one.0, (s.sides one.0).0 old.0, parts_between (has one.0) i.0 i.1 ∙ old.1) in
    let kept_law = law g e is.1 some in
    record {
      value = s.value ∙ sym kept_law.0;
      over = k.vertices ∙ s.over;
      sides = λ side. (
        λ at. (let h = (k.sides side).0 at in (kept_law.1 side).1 ((s.sides side).0 h.0, parts_between (has side) i.0 i.1 ∙ h.1)),
        λ at. (let h = (kept_law.1 side).0 at in (k.sides side).1 ((s.sides side).1 h.0, sym (parts_between (has side) i.0 i.1) ∙ h.1)),
      );
      normal = k.normal s.normal;
    }

module _ (g : Graph) (is : List Insertion) (i : ℕ) (x : Insertion) (at : slice_get is i ≡ Some x) where
  pub told_next : (before after : Growing) (steps next : List Step) (step : Step) → HasGrown g (take i is) before steps → IsGrowing after → after.graph ≡ with_insertion before.graph x → step ≡ step_of after.graph →
      next ≡ steps ++ step ∷ [] → HasGrown g (take (i + 1) is) after next
  told_next before after steps next step has growing list told more = record {
    list = grown_next g is i x at before.graph after.graph has.list list;
    growing = growing;
    told = more ∙ (λ j. has.told j ++ (told ∙ ap step_of (list ∙ ap (λ (h : Graph). with_insertion h x) has.list)) j ∷ [])
        ∙ sym (ap (steps_of g) (taken is i x at) ∙ steps_more g (take i is) x);
  }

pub all_told : (g : Graph) (is : List Insertion) (i : ℕ) (after : Growing) (steps : List Step) → length is ≤ i → HasGrown g (take i is) after steps → HasGrown g is after steps
all_told g is i after steps le has = subst (λ (l : List Insertion). HasGrown g l after steps) (take_all i is le) has

pub kept_growing : (g : Graph) (i : Insertion) (longer : Graph) (solved : Solved) (kept : Rooted) → LawOfWeights → LawOfKeptCuts → 2 ≤ g.vertices → IsConnected g → IsSolved g solved → IsInsertion i →
    IsKept i.0 i.1 solved.cactus kept → longer ≡ with_insertion g i → (after : Growing) → after.graph ≡ longer → after.solved ≡ record { value = solved.value; cactus = kept } → IsGrowing after
kept_growing g i longer solved kept weights cuts two connected s is k e after l r = record {
  enough = subst (λ (h : Graph). 2 ≤ h.vertices) (sym (l ∙ e)) two;
  connected = subst IsConnected (sym (l ∙ e)) (still_connected g i weights connected);
  solved = subst (λ (t : Solved). IsSolved after.graph t) (sym r) (subst (λ (h : Graph). IsSolved h (record { value = solved.value; cactus = kept })) (sym (l ∙ e)) (kept_solved g i solved kept cuts s is k));
}

pub grow_text : (g : Graph) (is : List Insertion) (after : Growing) (steps : List Step) (cactus : Rooted) → LawOfFlatForm → LawOfFlatSides → HasGrown g is after steps → IsCactusOf after.graph cactus →
    IsGrowText g is (growth_text steps after.solved.value (flat_of cactus))
grow_text g is after steps cactus form sides grows of_graph =
    let of_grown : IsCactusOf (grown g is) cactus = subst (λ (h : Graph). IsCactusOf h cactus) grows.list of_graph in
    record {
      cactus = cactus;
      of_graph = of_grown;
      shows = shows (grown g is) cactus form sides of_grown.is_cactus of_grown.over of_grown.sides;
      text_is = λ j. growth_text (grows.told j) ((grows.growing.solved.value ∙ ap value grows.list) j) (flat_of cactus);
    }
