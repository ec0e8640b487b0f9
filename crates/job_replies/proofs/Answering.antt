-- What is replied for a graph, in the words of the jobs.
use Rattle.std.proofs.Common.{◌≡◌, ℕ, List, [], ◌∷◌, get_or, ◌<◌, ◌≤◌, ◌^◌, ◌∙◌, append_assoc, append-nil, arith, refl, sym, ap, subst, inr, Result, Ok, Err}
use Rattle.std.proofs.lemmas.List.Elements.{All-contains, Contains-get_or}
use Rattle.std.specs.Fmt.{decimal}
use Rattle.std.specs.Prelude.{◌↔◌, codes, ◌++◌, ◌*◌, IfErr, length}
use Rattle.cut_definitions.specs.Components.{IsConnected, HasComponents}
use Rattle.weighted_graph.proofs.OneComponent.{law_of_one_component}
use Rattle.cut_definitions.specs.Graph.{Graph, IsEdgeList}
use Rattle.cut_definitions.specs.Cuts.{has, value, mincuts}
use Rattle.cut_definitions.proofs.Values.{value_is_weight}
use Rattle.cut_definitions.proofs.Running.{weight-le_total}
use Rattle.rooted_cactus.specs.Rooted.{Rooted}
use Rattle.flat_cactus.specs.Flattened.{flat_of}
use Rattle.flat_cactus.specs.FlatLaws.{LawOfFlatForm, LawOfFlatSides}
use Rattle.flat_cactus.proofs.Shown.{shows}
use Rattle.cut_definitions.specs.Members.{SameMembers}
use Rattle.answer_pages.specs.Text.{cactus_text, line}
use Rattle.job_replies.specs.Jobs.{AsksCuts, IsCactusOf, IsCactusText, IsTextFor, IsListed, IsListWithin, IsInRange, IsAnswerOf, IsStopFor, IsWithin, KeepsLimit, asked_cuts}
use Rattle.job_replies.specs.Asked.{IsListReply, IsListStop, cuts_for}
use Rattle.answer_pages.specs.Listings.{listing_text, count_text}
use Rattle.job_replies.specs.Trials.{trial_text}
use Rattle.graph_maker.specs.Made.{made_graph}
use Rattle.stop_lines.specs.declared.stop.Stop.{Stop}
use Rattle.stop_lines.specs.declared.stop.Stop.TheVariants as stop
use Rattle.cut_definitions.specs.Balance.{balance, IsBest}
use Rattle.cut_listing.specs.Asks.{lets}
use Rattle.cut_listing.specs.declared.ask.Ask.{Ask}
use Rattle.cut_listing.specs.declared.ask.Ask.TheVariants as ask
use Rattle.std.specs.List.{Contains, filter}
use Rattle.program_words.specs.declared.command.Command.{Command}
use Rattle.program_words.specs.declared.command.Job.{Job}
use Rattle.program_words.specs.declared.command.Job.TheVariants.{Value, Cactus, Cuts, Part, Count, Balanced, Augment, Grow, Trial}

-- the value of a graph that the program takes is small
pub value_small : (g : Graph) → IsEdgeList g → 2 ≤ g.vertices → value g ≤ 2 ^ 62
value_small g e two =
    let least = value_is_weight g two in
    let most = weight-le_total g (has least.0) in
    omega (arith, least.2, most, e.is_graph.total)

pub canonical_text : (g : Graph) (c : Rooted) (v : ℕ) → LawOfFlatForm → LawOfFlatSides → IsCactusOf g c → v ≡ value g → IsCactusText g (cactus_text v (flat_of c))
canonical_text g c v form law of_graph least = record {
  cactus = c;
  of_graph = of_graph;
  shows = shows g c form law of_graph.is_cactus of_graph.over of_graph.sides;
  text_is = rw least refl;
}

-- a graph with vertices and fewer than two components has one
pub one_component : (g : Graph) (count : ℕ) → 2 ≤ g.vertices → HasComponents g count → (count ≡ 0) ↔ (g.vertices ≡ 0) → count < 2 → HasComponents g 1
one_component g count two counted none few =
    let some : (count ≡ 0) → ⊥ = λ is. omega (arith, none.0 is, two) in
    let one : count ≡ 1 = omega (arith, some, few) in
    subst (HasComponents g) one counted

-- a graph with one component is connected
pub connected_of : (g : Graph) → HasComponents g 1 → IsConnected g
connected_of g one = (law_of_one_component g 1 one).0 refl

-- ---- what is replied for a graph

-- the minimum cuts that a job lists are those that its ask lets through
pub all_let_through : (xs : List (List ℕ)) → filter (lets ask.All) xs ≡ xs
all_let_through [] = refl
all_let_through (x ∷ xs) = ap (λ l. x ∷ l) (all_let_through xs)

pub cuts_of_all : (g : Graph) → cuts_for ask.All g ≡ mincuts g
cuts_of_all g = all_let_through (mincuts g)

-- a connected graph has one component
fewer_than_two : (g : Graph) (components : ℕ) → IsConnected g → HasComponents g components → components < 2
fewer_than_two g components connected counted = omega (arith, (law_of_one_component g components counted).1 connected)

-- the limit of a list, in the words of a job
pub listed_keeps : (job : Job) (cuts : List (List ℕ)) (masses : List ℕ) (g : Graph) (components : ℕ) → IsListed job → IsListWithin cuts g components → KeepsLimit job cuts masses g components
listed_keeps Cuts cuts masses g components listed within = within
listed_keeps (Part u v) cuts masses g components listed within = within
listed_keeps Value cuts masses g components listed within = absurd listed
listed_keeps Cactus cuts masses g components listed within = absurd listed
listed_keeps Count cuts masses g components listed within = absurd listed
listed_keeps Balanced cuts masses g components listed within = absurd listed
listed_keeps Augment cuts masses g components listed within = absurd listed
listed_keeps (Grow is) cuts masses g components listed within = absurd listed
listed_keeps (Trial number) cuts masses g components listed within = absurd listed

-- a list of a connected graph within its limit
list_kept : (command : Command) (masses : List ℕ) (g : Graph) → IsListed command.job → IsConnected g → length (asked_cuts command masses g) * g.vertices ≤ 2 ^ 30 → IsWithin command masses g
list_kept command masses g listed connected few components counted =
    let one : components < 2 = fewer_than_two g components connected counted in
    listed_keeps command.job (asked_cuts command masses g) masses g components listed (record {
      asked = λ _. few;
      all = λ two. absurd (omega (arith, one, two));
    })

-- the other jobs on the cuts of a connected graph keep their limits
unlisted_keeps : (job : Job) (cuts : List (List ℕ)) (masses : List ℕ) (g : Graph) (components : ℕ) → AsksCuts job → (IsListed job → ⊥) → components < 2 → KeepsLimit job cuts masses g components
unlisted_keeps Cuts cuts masses g components asks unlisted one = absurd (unlisted tt)
unlisted_keeps (Part u v) cuts masses g components asks unlisted one = absurd (unlisted tt)
unlisted_keeps Value cuts masses g components asks unlisted one = absurd asks
unlisted_keeps Cactus cuts masses g components asks unlisted one = tt
unlisted_keeps Count cuts masses g components asks unlisted one = omega (arith, one)
unlisted_keeps Balanced cuts masses g components asks unlisted one = λ two. absurd (omega (arith, one, two))
unlisted_keeps Augment cuts masses g components asks unlisted one = tt
unlisted_keeps (Grow is) cuts masses g components asks unlisted one = absurd asks
unlisted_keeps (Trial number) cuts masses g components asks unlisted one = absurd asks

-- a listing in the words of a job
pub listed_answer : (command : Command) (masses : List ℕ) (a : Ask) (g : Graph) → cuts_for a g ≡ asked_cuts command masses g → IsListed command.job → IsInRange command.job g.vertices → 2 ≤ g.vertices → HasComponents g 1 →
    ((text : List ℕ) → text ≡ listing_text (value g) (asked_cuts command masses g) → IsTextFor command masses g text) → (text : List ℕ) → IsListReply a g text → IsAnswerOf command masses g text
listed_answer command masses a g same listed inside two one fits text r = record {
  in_range = inside;
  answer = inr (inr (record {
    enough = two;
    connected = λ _. connected_of g one;
    within = list_kept command masses g listed (connected_of g one) (subst (λ (l : List (List ℕ)). length l * g.vertices ≤ 2 ^ 30) same r.within);
    text_is = fits text (r.text_is ∙ ap (λ (l : List (List ℕ)). listing_text (value g) l) same);
  }));
}

pub listed_stop : (command : Command) (masses : List ℕ) (a : Ask) (g : Graph) → cuts_for a g ≡ asked_cuts command masses g → IsListed command.job → IsInRange command.job g.vertices → 2 ≤ g.vertices → HasComponents g 1 →
    (s : Stop) → IsListStop a g s → IsStopFor command masses g s
listed_stop command masses a g same listed inside two one (stop.TooLarge cuts n) r = record {
  in_range = inside;
  enough = two;
  one = one;
  listed = listed;
  counted = r.counted ∙ ap (λ (l : List (List ℕ)). length l) same;
  over = r.over;
  large = r.large;
}
listed_stop command masses a g same listed inside two one (stop.TooManyUnions c n) r = absurd r
listed_stop command masses a g same listed inside two one (stop.CountTooLarge c) r = absurd r
listed_stop command masses a g same listed inside two one (stop.BalanceTooLarge c total) r = absurd r
listed_stop command masses a g same listed inside two one (stop.GrowTooLarge number) r = absurd r
listed_stop command masses a g same listed inside two one stop.NoMemory r = tt
listed_stop command masses a g same listed inside two one (stop.BadVertex x n) r = absurd r
listed_stop command masses a g same listed inside two one stop.BadWords r = absurd r
listed_stop command masses a g same listed inside two one (stop.Refused f) r = absurd r
listed_stop command masses a g same listed inside two one stop.ReadFailed r = absurd r

pub over_err : {X E : Type 0} (P Q : E → Type 0) (r : Result X E) → ((e : E) → P e → Q e) → IfErr r P → IfErr r Q
over_err P Q (Ok x) f p = tt
over_err P Q (Err e) f p = f e p

pub whole_answer : (command : Command) (masses : List ℕ) (g : Graph) → IsInRange command.job g.vertices → 2 ≤ g.vertices → HasComponents g 1 → AsksCuts command.job → (IsListed command.job → ⊥) → (text : List ℕ) → IsTextFor command masses g text → IsAnswerOf command masses g text
whole_answer command masses g inside two one asks unlisted text is = record {
  in_range = inside;
  answer = inr (inr (record {
    enough = two;
    connected = λ _. connected_of g one;
    within = λ components counted. unlisted_keeps command.job (asked_cuts command masses g) masses g components asks unlisted (fewer_than_two g components (connected_of g one) counted);
    text_is = is;
  }));
}

-- a best one of some sides is a best one of others with the same members
pub best_of_same : (masses : List ℕ) (k l : List (List ℕ)) (side : List ℕ) → SameMembers k l → IsBest masses k side → IsBest masses l side
best_of_same masses k l side same best = record {
  member = (same side).0 best.member;
  none_greater = λ i d lt. no_greater (get_or l i d) (Contains-get_or l i d lt);
}
  where
    no_greater : (other : List ℕ) → Contains l other → balance masses other ≤ balance masses side
    no_greater other m = All-contains (λ (o : List ℕ). balance masses o ≤ balance masses side) k other best.none_greater ((same other).1 m)

pub turned : (k l : List (List ℕ)) → SameMembers k l → SameMembers l k
turned k l same side = ((same side).1, (same side).0)

-- ---- texts

-- the made graph of a trial has a cut
pub made_enough : (number : ℕ) → 12 ≤ number → 2 ≤ (made_graph number).vertices
unfolding made_graph
made_enough number low = omega arith

-- a line of one number before another text
line_before : (word rest other : List ℕ) (number : ℕ) → rest ≡ other → word ++ ((32 ∷ decimal number) ++ (10 ∷ rest)) ≡ line word (number ∷ []) ++ other
line_before word rest other number same =
    let spaced_number : List ℕ = 32 ∷ decimal number in
    let put : (spaced_number ++ []) ++ (10 ∷ other) ≡ spaced_number ++ (10 ∷ other) = ap (λ (l : List ℕ). l ++ (10 ∷ other)) (append-nil spaced_number) in
    ap (λ (l : List ℕ). word ++ (spaced_number ++ (10 ∷ l))) same
    ∙ ap (λ (l : List ℕ). word ++ l) (sym put)
    ∙ sym (append_assoc word (spaced_number ++ []) (10 ∷ other))
    ∙ sym (append_assoc (word ++ (spaced_number ++ [])) (10 ∷ []) other)

last_line : (word : List ℕ) (number : ℕ) → word ++ ((32 ∷ decimal number) ++ (10 ∷ [])) ≡ line word (number ∷ [])
last_line word number = line_before word [] [] number refl ∙ append-nil (line word (number ∷ []))

-- the value and the number of the minimum cuts as they are formatted
pub two_lines : (least count : ℕ) → codes "value " ++ (decimal least ++ ((10 ∷ codes "count ") ++ (decimal count ++ (10 ∷ [])))) ≡ count_text least count
two_lines least count = line_before (codes "value") _ _ least (last_line (codes "count") count)

-- the five lines as they are formatted
abbrev pub formatted : ℕ → ℕ → ℕ → ℕ → ℕ → List ℕ
formatted n m least count most =
    codes "vertices " ++ (decimal n ++ ((10 ∷ codes "edges ") ++ (decimal m ++ ((10 ∷ codes "value ") ++ (decimal least ++ ((10 ∷ codes "count ") ++ (decimal count
    ++ ((10 ∷ codes "balance ") ++ (decimal most ++ (10 ∷ []))))))))))

five_parts : (a b c d e : List ℕ) → a ++ (b ++ (c ++ (d ++ e))) ≡ a ++ b ++ c ++ d ++ e
five_parts a b c d e = simp append_assoc

pub five_lines : (n m least count most : ℕ) → formatted n m least count most ≡ trial_text n m least count most
five_lines n m least count most =
    line_before (codes "vertices") _ _ n (line_before (codes "edges") _ _ m (line_before (codes "value") _ _ least (line_before (codes "count") _ _ count (last_line (codes "balance") most))))
    ∙ five_parts (line (codes "vertices") (n ∷ [])) (line (codes "edges") (m ∷ [])) (line (codes "value") (least ∷ [])) (line (codes "count") (count ∷ [])) (line (codes "balance") (most ∷ []))
