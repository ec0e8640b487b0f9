-- The replies for a graph in several components.
use Rattle.std.proofs.Common.{◌≡◌, ℕ, ◌+◌, ◌-◌, ◌*◌, ◌<◌, ◌≤◌, ◌^◌, List, length, sym, ◌∙◌, ap, subst, arith, inr}
use Rattle.std.proofs.Math.Nat.{mul-le-mul_left}
use Rattle.std.proofs.Math.Pow.{pow_mono}
use Rattle.cut_definitions.specs.Balance.{balance, IsBest}
use Rattle.cut_definitions.specs.Components.{IsConnected, HasComponents}
use Rattle.cut_definitions.specs.Cuts.{mincuts, value}
use Rattle.cut_definitions.specs.Graph.{Graph, IsEdgeList}
use Rattle.component_cuts.specs.Laws as laws
use Rattle.component_cuts.specs.Parts.{Parts, unions, AreComponents}
use Rattle.cut_listing.specs.declared.ask.Ask.{Ask}
use Rattle.job_replies.specs.Apart.{AreUnionsFew, IsApartGraph, IsCountStop, IsTableStop, IsUnionList, IsUnionStop}
use Rattle.job_replies.specs.Jobs.{GoesByCactus, IsAnswerOf, IsBalancedText, IsInRange, IsListed, IsListWithin, IsStopFor, IsTextFor, IsWithin, KeepsLimit, asked_cuts, total_of}
use Rattle.answer_pages.specs.Listings.{balanced_text, count_text, listing_text}
use Rattle.job_replies.specs.Asked.{cuts_for}
use Rattle.program_words.specs.declared.command.Command.{Command}
use Rattle.program_words.specs.declared.command.Job.TheVariants.{Count, Balanced}
use Rattle.stop_lines.specs.declared.stop.Stop.{Stop}
use Rattle.stop_lines.specs.declared.stop.Stop.TheVariants as stop
use Rattle.job_replies.proofs.Answering.{listed_keeps}
use Rattle.weighted_graph.proofs.OneComponent.{law_of_one_component}

-- the components of a graph of two or more
pub apart_graph : (g : Graph) (p : Parts) (count : ℕ) → laws.LawOfComponents → laws.LawOfOneNumber → IsEdgeList g → 2 ≤ g.vertices → HasComponents g count → 2 ≤ count → AreComponents g p → IsApartGraph g p
apart_graph g p count components one edges two has several are =
    let same : length p.parts ≡ count = one g (length p.parts) count (components g p are) has in
    record { edge_list = edges; enough = two; components = are; several = subst (λ (k : ℕ). 2 ≤ k) (sym same) several }

-- ---- the limit of a list

-- more than 127 components have too many unions
pub many_unions : (components n : ℕ) → 127 < components → 2 ≤ n → AreUnionsFew components n → ⊥
many_unions components n many two few =
    let power : 2 ^ 31 ≤ 2 ^ (components - 1) = pow_mono {i = 31} {j = components - 1} (omega (arith, many)) in
    let twice : (2 ^ (components - 1) - 1) * 2 ≤ (2 ^ (components - 1) - 1) * n = mul-le-mul_left (2 ^ (components - 1) - 1) two in
    no (2 ^ (components - 1)) ((2 ^ (components - 1) - 1) * n) power twice few
  where
    no : (p q : ℕ) → 2 ^ 31 ≤ p → (p - 1) * 2 ≤ q → q ≤ 2 ^ 30 → ⊥
    no p q a b c = omega (arith, a, b, c)

-- ---- the minimum cuts

pub value_is : (g : Graph) (p : Parts) → laws.LawOfMinimumCuts → IsApartGraph g p → value g ≡ 0
value_is g p law apart = (law g p apart.edge_list.is_graph apart.components apart.several).0

pub cuts_are : (g : Graph) (p : Parts) → laws.LawOfMinimumCuts → IsApartGraph g p → mincuts g ≡ unions p
cuts_are g p law apart = (law g p apart.edge_list.is_graph apart.components apart.several).1

-- their number
pub counted : (g : Graph) (p : Parts) (count : ℕ) → laws.LawOfMinimumCuts → laws.LawOfNumber → IsApartGraph g p → count ≡ 2 ^ (length p.parts - 1) - 1 →
    count_text 0 count ≡ count_text (value g) (length (mincuts g))
counted g p count law number apart is =
    let same : count ≡ length (mincuts g) = is ∙ sym (number g p apart.edge_list.is_graph apart.components apart.several) in
    λ i. count_text (sym (value_is g p law apart) i) (same i)

-- the text of a best union
pub best_union : (g : Graph) (p : Parts) (masses side : List ℕ) (b : ℕ) → laws.LawOfMinimumCuts → laws.LawOfComponents → IsApartGraph g p → IsBest masses (unions p) side → b ≡ balance masses side →
    IsBalancedText masses g (balanced_text 0 b side)
best_union g p masses side b law components apart best even = record {
  side = side;
  best = subst (λ (l : List (List ℕ)). IsBest masses l side) (sym (cuts_are g p law apart)) best;
  first = λ connected. absurd (not_one connected);
  text_is = λ i. balanced_text (sym (value_is g p law apart) i) (even i) side;
}
  where
    not_one : IsConnected g → ⊥
    not_one connected = omega (arith, (law_of_one_component g (length p.parts) (components g p apart.components)).1 connected, apart.several)

-- ---- in the words of a job

-- a limit that is kept for the number of components is kept
within_of : (command : Command) (masses : List ℕ) (g : Graph) (components : ℕ) → laws.LawOfOneNumber → HasComponents g components →
    KeepsLimit command.job (asked_cuts command masses g) masses g components → IsWithin command masses g
within_of command masses g components one has kept other counted =
    subst (λ (c : ℕ). KeepsLimit command.job (asked_cuts command masses g) masses g c) (one g components other has counted) kept

-- a text of a job that does not go by the cactus
pub union_text : (command : Command) (masses : List ℕ) (g : Graph) (p : Parts) → laws.LawOfComponents → laws.LawOfOneNumber → IsApartGraph g p → (GoesByCactus command.job → ⊥) → IsInRange command.job g.vertices →
    KeepsLimit command.job (asked_cuts command masses g) masses g (length p.parts) → (text : List ℕ) → IsTextFor command masses g text → IsAnswerOf command masses g text
union_text command masses g p components one apart other inside kept text is = record {
  in_range = inside;
  answer = inr (inr (record {
    enough = apart.enough;
    connected = λ by. absurd (other by);
    within = within_of command masses g (length p.parts) one (components g p apart.components) kept;
    text_is = is;
  }));
}

list_kept : (cuts : List (List ℕ)) (g : Graph) (components : ℕ) → 2 ≤ components → AreUnionsFew components g.vertices → IsListWithin cuts g components
list_kept cuts g components several few = record { asked = λ one. absurd (omega (arith, one, several)); all = λ _. few }

pub list_answer : (command : Command) (masses : List ℕ) (g : Graph) (p : Parts) (ask : Ask) → laws.LawOfComponents → laws.LawOfOneNumber → IsApartGraph g p → cuts_for ask g ≡ asked_cuts command masses g →
    IsListed command.job → (GoesByCactus command.job → ⊥) → IsInRange command.job g.vertices → ((text : List ℕ) → text ≡ listing_text (value g) (asked_cuts command masses g) → IsTextFor command masses g text) →
    (text : List ℕ) → IsUnionList ask g (length p.parts) text → IsAnswerOf command masses g text
list_answer command masses g p ask components one apart same listed other inside fits text r =
    union_text command masses g p components one apart other inside
    (listed_keeps command.job (asked_cuts command masses g) masses g (length p.parts) listed (list_kept (asked_cuts command masses g) g (length p.parts) apart.several r.few))
    text (fits text (r.text_is ∙ ap (λ (l : List (List ℕ)). listing_text (value g) l) same))

pub union_stop : (command : Command) (masses : List ℕ) (g : Graph) (p : Parts) → laws.LawOfComponents → IsApartGraph g p → IsListed command.job → IsInRange command.job g.vertices →
    (s : Stop) → IsUnionStop g (length p.parts) s → IsStopFor command masses g s
union_stop command masses g p components apart listed inside (stop.TooManyUnions c n) why =
    let is : c ≡ length p.parts = why.0 in
    let large : 2 ^ 30 < (2 ^ (length p.parts - 1) - 1) * n = subst (λ (k : ℕ). 2 ^ 30 < (2 ^ (length p.parts - 1) - 1) * k) (sym why.1) why.2 in
    record {
      in_range = inside;
      enough = apart.enough;
      listed = listed;
      has_components = subst (HasComponents g) (sym is) (components g p apart.components);
      several = subst (λ (k : ℕ). 2 ≤ k) (sym is) apart.several;
      over = why.1;
      large = subst (λ (k : ℕ). 2 ^ 30 < (2 ^ (k - 1) - 1) * n) (sym is) large;
    }
union_stop command masses g p components apart listed inside stop.NoMemory why = tt
union_stop command masses g p components apart listed inside (stop.GrowTooLarge number) why = absurd why
union_stop command masses g p components apart listed inside (stop.TooLarge c n) why = absurd why
union_stop command masses g p components apart listed inside (stop.CountTooLarge c) why = absurd why
union_stop command masses g p components apart listed inside (stop.BalanceTooLarge c total) why = absurd why
union_stop command masses g p components apart listed inside (stop.BadVertex x n) why = absurd why
union_stop command masses g p components apart listed inside stop.BadWords why = absurd why
union_stop command masses g p components apart listed inside (stop.Refused fault) why = absurd why
union_stop command masses g p components apart listed inside stop.ReadFailed why = absurd why

pub count_stop : (command : Command) (masses : List ℕ) (g : Graph) (p : Parts) → laws.LawOfComponents → IsApartGraph g p → command.job ≡ Count →
    (s : Stop) → IsCountStop (length p.parts) s → IsStopFor command masses g s
count_stop command masses g p components apart job (stop.CountTooLarge c) why =
    let is : c ≡ length p.parts = why.0 in
    record {
      enough = apart.enough;
      job = job;
      has_components = subst (HasComponents g) (sym is) (components g p apart.components);
      large = subst (λ (k : ℕ). 127 < k) (sym is) why.1;
    }
count_stop command masses g p components apart job stop.NoMemory why = tt
count_stop command masses g p components apart job (stop.GrowTooLarge number) why = absurd why
count_stop command masses g p components apart job (stop.TooLarge c n) why = absurd why
count_stop command masses g p components apart job (stop.TooManyUnions c n) why = absurd why
count_stop command masses g p components apart job (stop.BalanceTooLarge c total) why = absurd why
count_stop command masses g p components apart job (stop.BadVertex x n) why = absurd why
count_stop command masses g p components apart job stop.BadWords why = absurd why
count_stop command masses g p components apart job (stop.Refused fault) why = absurd why
count_stop command masses g p components apart job stop.ReadFailed why = absurd why

pub table_stop : (command : Command) (masses : List ℕ) (g : Graph) (p : Parts) → laws.LawOfComponents → IsApartGraph g p → command.job ≡ Balanced →
    (s : Stop) → IsTableStop (length p.parts) masses s → IsStopFor command masses g s
table_stop command masses g p components apart job (stop.BalanceTooLarge c total) why =
    let is : c ≡ length p.parts = why.0 in
    let all : total ≡ total_of masses = why.1 in
    let large : 2 ^ 32 < length p.parts * (total + 1) = subst (λ (k : ℕ). 2 ^ 32 < length p.parts * (k + 1)) (sym all) why.2 in
    record {
      enough = apart.enough;
      job = job;
      has_components = subst (HasComponents g) (sym is) (components g p apart.components);
      several = subst (λ (k : ℕ). 2 ≤ k) (sym is) apart.several;
      counted = all;
      large = subst (λ (k : ℕ). 2 ^ 32 < k * (total + 1)) (sym is) large;
    }
table_stop command masses g p components apart job stop.NoMemory why = tt
table_stop command masses g p components apart job (stop.GrowTooLarge number) why = absurd why
table_stop command masses g p components apart job (stop.TooLarge c n) why = absurd why
table_stop command masses g p components apart job (stop.TooManyUnions c n) why = absurd why
table_stop command masses g p components apart job (stop.CountTooLarge c) why = absurd why
table_stop command masses g p components apart job (stop.BadVertex x n) why = absurd why
table_stop command masses g p components apart job stop.BadWords why = absurd why
table_stop command masses g p components apart job (stop.Refused fault) why = absurd why
table_stop command masses g p components apart job stop.ReadFailed why = absurd why
