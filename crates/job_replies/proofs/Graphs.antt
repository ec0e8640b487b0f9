-- What a solved graph is printed as.
use Rattle.std.proofs.Common.{◌≡◌, ℕ, List, [], ◌<◌, ◌≤◌, ◌^◌, ◌∙◌, sym, ap, subst, arith, true}
use Rattle.std.proofs.lemmas.List.Elements.{All-contains_itself, All-weaker}
use Rattle.std.specs.Prelude.{◌*◌, length}
use Rattle.cut_definitions.specs.Graph.{Graph}
use Rattle.cut_definitions.specs.Cuts.{value, mincuts}
use Rattle.cut_definitions.proofs.Values.{IsSide-from_mincuts}
use Rattle.cut_definitions.proofs.Order.{mincuts_sorted}
use Rattle.component_cuts.proofs.Different.{different_ascending, no_more}
use Rattle.rooted_cactus.specs.Different.{HasDifferent, HasNoEmptySide, HaveSameSides}
use Rattle.rooted_cactus.specs.Trees.{blocks}
use Rattle.flat_cactus.proofs.SomeBlock.{not_alone}
use Rattle.rooted_cactus.specs.Rooted.{Rooted, IsCactus, sides_of}
use Rattle.canonical_cactus.specs.Canonical.{is_canonical}
use Rattle.canonical_cactus.specs.FirstBest.{IsFirstBest}
use Rattle.job_replies.specs.Jobs.{IsCactusOf, IsBalancedText}
use Rattle.job_replies.specs.Asked.{IsListReply, IsListStop, cuts_for}
use Rattle.rooted_cactus.specs.Solving.{IsSolved}
use Rattle.answer_pages.specs.Listings.{listing_text, balanced_text}
use Rattle.job_replies.specs.Trials.{ones, trial_text, IsFactsText}
use Rattle.stop_lines.specs.declared.stop.Stop.TheVariants as stop
use Rattle.cut_definitions.specs.Balance.{balance, IsBest}
use Rattle.vertex_set.specs.Side.{VertexList, members_of}
use Rattle.rooted_cactus.specs.declared.solved.Solved.{Solved}
use Rattle.cut_listing.specs.Laws.{LawOfMinimumCuts, LawOfCount}
use Rattle.cut_listing.specs.Listings.{IsList, IsRefusal}
use Rattle.cut_listing.specs.declared.list_refusal.ListRefusal.TheVariants as refusal
use Rattle.std.proofs.lemmas.List.{length-map}
use Rattle.cut_listing.specs.declared.ask.Ask.{Ask}
use Rattle.std.specs.List.{Contains}
use Rattle.cut_definitions.proofs.ListLaws.{some_long}
use Rattle.job_replies.proofs.Answering.{best_of_same, turned}

-- the canonical cactus with the sides of that of a solved graph
pub canonical_is : (g : Graph) (solved : Solved) (c : Rooted) → IsSolved g solved → c.vertices ≡ solved.cactus.vertices → is_canonical c.root ≡ true → HaveSameSides c solved.cactus →
    IsCactus c.vertices c.root → IsCactusOf g c
canonical_is g solved c s over canonical same is = record {
  is_cactus = is;
  over = over ∙ s.over;
  canonical = canonical;
  sides = λ side. (λ at. (s.sides side).0 ((same side).0 at), λ at. (same side).1 ((s.sides side).1 at));
}

-- a number of different minimum cuts that are all of them is the length of their list
pub number_is : (g : Graph) (k : ℕ) → HasDifferent k (mincuts g) → k ≡ length (mincuts g)
number_is g k h =
    let most = no_more h.members (mincuts g) h.different (λ l. (h.same l).0) in
    let least = no_more (mincuts g) h.members (different_ascending (mincuts g) (mincuts_sorted g)) (λ l. (h.same l).1) in
    omega (arith, most, least, h.many)

-- no minimum cut has an empty side
pub none_empty : (g : Graph) (solved : Solved) → IsSolved g solved → HasNoEmptySide solved.cactus
none_empty g solved s =
    All-weaker (Contains (sides_of solved.cactus)) (λ side. 0 < length side)
    (λ side at. some_long side (IsSide-from_mincuts g side ((s.sides side).0 at)).0.nonempty)
    (sides_of solved.cactus) (All-contains_itself (sides_of solved.cactus))

-- the best side of a solved graph is a best minimum cut
best_of_cuts : (g : Graph) (solved : Solved) (masses side : List ℕ) → IsSolved g solved → IsBest masses (sides_of solved.cactus) side → IsBest masses (mincuts g) side
best_of_cuts g solved masses side s best = best_of_same masses (sides_of solved.cactus) (mincuts g) side s.sides best

-- the first of the best sides of a solved graph is the first of its best minimum cuts
pub best_text : (g : Graph) (solved : Solved) (masses side : List ℕ) (b : ℕ) → IsSolved g solved → b ≡ balance masses side → IsFirstBest masses (sides_of solved.cactus) side →
    IsBalancedText masses g (balanced_text solved.value b side)
best_text g solved masses side b s even first = record {
  side = side;
  best = best_of_cuts g solved masses side s first.best;
  first = λ _. record {
    best = best_of_cuts g solved masses side s first.best;
    first = λ other best. first.first other (best_of_same masses (mincuts g) (sides_of solved.cactus) other (turned (sides_of solved.cactus) (mincuts g) s.sides) best);
  };
  text_is = λ i. balanced_text (s.value i) (even i) side;
}

-- the cactus of a graph that has a cut has a block
pub has_block : (g : Graph) (solved : Solved) → 2 ≤ g.vertices → IsSolved g solved → blocks solved.cactus.root ≡ [] → ⊥
has_block g solved two s none = not_alone g solved.cactus two s.sides none

-- the list of a solved graph
pub list_reply : (g : Graph) (solved : Solved) (a : Ask) (n : ℕ) (list : List VertexList) → LawOfMinimumCuts → IsSolved g solved → n ≡ g.vertices → IsList (2 ^ 30) n a solved.cactus list →
    IsListReply a g (listing_text solved.value (members_of list))
list_reply g solved a n list law s over l =
    let same : members_of list ≡ cuts_for a g = law g solved.cactus a (members_of list) s.sides l.listing in
    let long : length list ≡ length (cuts_for a g) = sym (length-map list (λ (x : VertexList). x.members)) ∙ ap (λ (xs : List (List ℕ)). length xs) same in
    record {
      within = subst (λ (k : ℕ). length (cuts_for a g) * k ≤ 2 ^ 30) over (subst (λ (k : ℕ). k * n ≤ 2 ^ 30) long l.not_too_large);
      text_is = ap (λ (v : ℕ). listing_text v (members_of list)) s.value ∙ ap (λ (xs : List (List ℕ)). listing_text (value g) xs) same;
    }

pub list_stop : (g : Graph) (solved : Solved) (a : Ask) (n cuts m : ℕ) → LawOfCount → IsSolved g solved → n ≡ g.vertices → IsRefusal (2 ^ 30) n a solved.cactus (refusal.TooLarge cuts m) →
    IsListStop a g (stop.TooLarge cuts m)
list_stop g solved a n cuts m law s over r = record {
  counted = law g solved.cactus a cuts s.sides r.0;
  over = r.1 ∙ over;
  large = subst (λ (k : ℕ). 2 ^ 30 < cuts * k) (sym r.1) r.2;
}

-- the facts of a solved graph and of a best side
pub facts_known : (g : Graph) (solved : Solved) (masses side : List ℕ) (n m count b : ℕ) → IsSolved g solved → masses ≡ ones g.vertices →
    IsBest masses (sides_of solved.cactus) side → n ≡ g.vertices → m ≡ length g.edges → count ≡ length (mincuts g) → b ≡ balance masses side →
    (text : List ℕ) → text ≡ trial_text n m solved.value count b → IsFactsText g text
facts_known g solved masses side n m count b s ones_are best all edges counted balanced text is = record {
  side = side;
  best = subst (λ (l : List ℕ). IsBest l (mincuts g) side) ones_are (best_of_cuts g solved masses side s best);
  text_is = is ∙ (λ i. trial_text (all i) (edges i) (s.value i) (counted i) ((balanced ∙ ap (λ (l : List ℕ). balance l side) ones_are) i));
}
