-- What the body keeps, when an entry comes, a line ends or entries are met.
use Rattle.std.proofs.Common.{◌≡◌, ◌≤◌, ◌+◌, ℕ, suc, true, false, not, List, [], ◌∷◌, ◌++◌, length, take, drop, map, arith, refl, subst, sym, ap, ◌∙◌, take-append-drop, append_assoc}
use Rattle.std.specs.Prelude.{sum_by}
use Rattle.std.specs.List.{All, AllPairs, filter}
use Rattle.std.specs.List.Sorted.{IsPermutation}
use Rattle.std.proofs.lemmas.Grind.{common_steps}
use Rattle.std.proofs.lemmas.List.{length_push, append-nil, map-append, take-append-le, drop-append-le, drop_at}
use Rattle.std.proofs.lemmas.List.Elements.{All-append, All-push, All-same, All-drop, All-weaker, All-nil}
use Rattle.std.proofs.lemmas.List.Sorted.{IsPermutation-refl, IsPermutation-trans, IsPermutation-append, IsPermutation-append_right, IsPermutation-append_left, IsPermutation-append_comm, IsPermutation-sym, All-permutation, length_permutation, sum_by-IsPermutation}
use Rattle.std.proofs.lemmas.List.Sums.{sum_by-append}
use Rattle.cut_definitions.specs.declared.edge_list.Edge.{Edge}
use Rattle.cut_definitions.specs.Graph.{IsBefore}
use Rattle.metis_reader.specs.declared.body.Body.{Body}
use Rattle.metis_reader.specs.Profile.{Header, Entry, total}
use Rattle.metis_reader.specs.File.{VertexLine, edge_of}
use Rattle.metis_reader.specs.Meeting.{met_from, with_met, IsOfFinished, IsOfNext, IsInFront}
use Rattle.metis_reader.specs.Bodies.{header_view, greater_of, lesser_of}
use Rattle.metis_reader.specs.Shown.{BodyShows, is_upward, mirrored}
use Rattle.metis_reader.proofs.Ascending.{rows_ascend}
use Rattle.metis_reader.proofs.Meeting.{met_append, met_row, next_unmet, All-met}

-- The end of a line.

pub record RowEnds (start : ℕ) (cursors : List ℕ) (old new : List Edge) : Type 0 where
  pub moved : IsPermutation old new
  pub met : met_from 0 (cursors ++ start ∷ []) new ≡ met_from 0 cursors old
  pub finished : All (IsOfFinished (length (cursors ++ start ∷ []))) new
  pub ascends : AllPairs IsInFront (take start old) → AllPairs IsBefore (drop start new) → AllPairs IsInFront new

pub row_ends : (start : ℕ) (cursors : List ℕ) (old new : List Edge) → start ≤ length old → length new ≡ length old → All (IsOfFinished (length cursors)) (take start old)
    → All (IsOfNext (length cursors)) (drop start old) → take start new ≡ take start old → IsPermutation (drop start old) (drop start new) → RowEnds start cursors old new
row_ends start cursors old new le len finished next same row =
    let next_new : All (IsOfNext (length cursors)) (drop start new) = All-permutation (IsOfNext (length cursors)) (drop start old) (drop start new) row next in
    let more : length (cursors ++ start ∷ []) ≡ suc (length cursors) = grind (arith, common_steps) in
    let parts : take start old ++ drop start new ≡ new = ap (λ xs. xs ++ drop start new) (sym same) ∙ take-append-drop start new in
    let Q : Edge → Type 0 = IsOfFinished (length (cursors ++ start ∷ [])) in
    record {
      moved = subst (λ xs. IsPermutation xs new) (take-append-drop start old)
          (subst (λ xs. IsPermutation (take start old ++ drop start old) xs) parts (IsPermutation-append_right (take start old) (drop start old) (drop start new) row));
      met = met_row start cursors old new le len finished next same next_new;
      finished = subst (λ xs. All Q xs) parts
          (All-append Q (take start old) (drop start new)
          (All-weaker (IsOfFinished (length cursors)) Q (λ e h. (h.0, let most : e.u ≤ length cursors = h.1 in omega arith)) (take start old) finished)
          (All-weaker (IsOfNext (length cursors)) Q (λ e h. (let is : e.u ≡ suc (length cursors) = h in omega arith, let is : e.u ≡ suc (length cursors) = h in omega arith)) (drop start new) next_new));
      ascends = λ up row. rows_ascend (length cursors) start old new same finished next_new up row;
    }

-- An entry to a greater neighbour.

pub met_pushed : (cursors : List ℕ) (xs : List Edge) (e : Edge) → IsOfNext (length cursors) e → met_from 0 cursors (xs ++ e ∷ []) ≡ met_from 0 cursors xs
met_pushed cursors xs e next =
    met_append 0 cursors xs (e ∷ [])
    ∙ ap (λ ys. met_from 0 cursors xs ++ ys) (next_unmet 0 (0 + length xs) cursors (e ∷ []) (omega arith) (All-push (IsOfNext (length cursors)) [] e (All-nil (IsOfNext (length cursors))) next))
    ∙ append-nil (met_from 0 cursors xs)

pub open_pushed : (lines start : ℕ) (xs : List Edge) (e : Edge) → start ≤ length xs → IsOfNext lines e → All (IsOfNext lines) (drop start xs) → All (IsOfNext lines) (drop start (xs ++ e ∷ []))
open_pushed lines start xs e le next all =
    All-same (IsOfNext lines) (drop start (xs ++ e ∷ [])) (drop start xs ++ e ∷ []) (drop-append-le start xs (e ∷ []) le) (All-push (IsOfNext lines) (drop start xs) e all next)

pub front_pushed : (lines start : ℕ) (xs : List Edge) (e : Edge) → start ≤ length xs → All (IsOfFinished lines) (take start xs) → All (IsOfFinished lines) (take start (xs ++ e ∷ []))
front_pushed lines start xs e le all = All-same (IsOfFinished lines) (take start (xs ++ e ∷ [])) (take start xs) (take-append-le start xs (e ∷ []) le) all

pub weight_pushed : (xs : List Edge) (e : Edge) → sum_by (λ (e : Edge). e.w) (xs ++ e ∷ []) ≡ sum_by (λ (e : Edge). e.w) xs + e.w
weight_pushed xs e = sum_by-append (λ (e : Edge). e.w) xs (e ∷ []) ∙ omega arith

-- Entries are met.

pub rest_within : (P : Edge → Type 0) (g : List Edge) (c d : List ℕ) (l m : List Edge) → All P g → All P l → IsPermutation (with_met g c l) (with_met g d m) → All P m
rest_within P g c d l m all_g all_l moved =
    let all : All P (with_met g d m) = All-permutation P (with_met g c l) (with_met g d m) moved (All-append P (met_from 0 c g) l (All-met P 0 c g all_g) all_l) in
    All-same P m (drop (length (met_from 0 d g)) (met_from 0 d g ++ m)) (sym (drop_at (met_from 0 d g) m (length (met_from 0 d g)) refl))
    (All-drop P (length (met_from 0 d g)) (met_from 0 d g ++ m) all)

-- What the body shows.

up_push : (all : List Entry) (e : Entry) → is_upward e ≡ true → map edge_of (filter is_upward (all ++ e ∷ [])) ≡ map edge_of (filter is_upward all) ++ edge_of e ∷ []
up_push all e t = grind (arith, common_steps)

up_skip : (all : List Entry) (e : Entry) → is_upward e ≡ false → map edge_of (filter is_upward (all ++ e ∷ [])) ≡ map edge_of (filter is_upward all)
up_skip all e f = grind (arith, common_steps)

down_push : (all : List Entry) (e : Entry) → is_upward e ≡ false
    → map mirrored (filter (λ e. not (is_upward e)) (all ++ e ∷ [])) ≡ map mirrored (filter (λ e. not (is_upward e)) all) ++ mirrored e ∷ []
down_push all e f = grind (arith, common_steps)

down_skip : (all : List Entry) (e : Entry) → is_upward e ≡ true
    → map mirrored (filter (λ e. not (is_upward e)) (all ++ e ∷ [])) ≡ map mirrored (filter (λ e. not (is_upward e)) all)
down_skip all e t = grind (arith, common_steps)

total_push : (all : List Entry) (e : Entry) → total (all ++ e ∷ []) ≡ total all + e.weight
total_push all e = sum_by-append (λ (e : Entry). e.weight) all (e ∷ []) ∙ omega arith

-- the same lines
pub record SameLines (a b : Body) : Type 0 where
  pub header : b.header ≡ a.header
  pub numbers : b.numbers.items ≡ a.numbers.items
  pub masses : b.masses.items ≡ a.masses.items

pub shows_moved : (a b : Body) (header : Header) (done : List VertexLine) (all : List Entry) → SameLines a b → greater_of b ≡ greater_of a → IsPermutation (lesser_of a) (lesser_of b)
    → b.total ≡ a.total → BodyShows a header done all → BodyShows b header done all
shows_moved a b header done all lines greater lesser weight shows = record {
  same_header = ap (λ h. header_view h) lines.header ∙ shows.same_header;
  numbers = lines.numbers ∙ shows.numbers;
  masses = lines.masses ∙ shows.masses;
  greater = subst (λ xs. IsPermutation (map edge_of (filter is_upward all)) xs) (sym greater) shows.greater;
  lesser = IsPermutation-trans _ _ _ shows.lesser lesser;
  total = λ has. weight ∙ shows.total has;
}

pub shows_up : (a b : Body) (header : Header) (done : List VertexLine) (all : List Entry) (e : Entry) → SameLines a b → is_upward e ≡ true
    → greater_of b ≡ greater_of a ++ edge_of e ∷ [] → lesser_of b ≡ lesser_of a → b.total ≡ a.total + e.weight → BodyShows a header done all → BodyShows b header done (all ++ e ∷ [])
shows_up a b header done all e lines up greater lesser weight shows = record {
  same_header = ap (λ h. header_view h) lines.header ∙ shows.same_header;
  numbers = lines.numbers ∙ shows.numbers;
  masses = lines.masses ∙ shows.masses;
  greater = rw (up_push all e up, greater) (IsPermutation-append _ _ _ _ shows.greater (IsPermutation-refl (edge_of e ∷ [])));
  lesser = rw (down_skip all e up, lesser) shows.lesser;
  total = λ has. weight ∙ ap (λ n. n + e.weight) (shows.total has) ∙ sym (total_push all e);
}

pub shows_down : (a b : Body) (header : Header) (done : List VertexLine) (all : List Entry) (e : Entry) → SameLines a b → is_upward e ≡ false
    → greater_of b ≡ greater_of a → IsPermutation (lesser_of a ++ mirrored e ∷ []) (lesser_of b) → b.total ≡ a.total + e.weight → BodyShows a header done all → BodyShows b header done (all ++ e ∷ [])
shows_down a b header done all e lines down greater lesser weight shows = record {
  same_header = ap (λ h. header_view h) lines.header ∙ shows.same_header;
  numbers = lines.numbers ∙ shows.numbers;
  masses = lines.masses ∙ shows.masses;
  greater = rw (up_skip all e down, greater) shows.greater;
  lesser = rw (down_push all e down) (IsPermutation-trans _ _ _ (IsPermutation-append _ _ _ _ shows.lesser (IsPermutation-refl (mirrored e ∷ []))) lesser);
  total = λ has. weight ∙ ap (λ n. n + e.weight) (shows.total has) ∙ sym (total_push all e);
}

pub shows_line : (a b : Body) (header : Header) (done : List VertexLine) (all here : List Entry) (line : ℕ) → b.header ≡ a.header → b.numbers.items ≡ a.numbers.items ++ line ∷ [] → b.masses.items ≡ a.masses.items ++ a.mass ∷ []
    → IsPermutation (greater_of a) (greater_of b) → lesser_of b ≡ lesser_of a → b.total ≡ a.total → BodyShows a header done all
    → BodyShows b header (done ++ record { number = line; mass = a.mass; entries = here } ∷ []) all
shows_line a b header done all here line same numbers masses greater lesser weight shows = record {
  same_header = ap (λ h. header_view h) same ∙ shows.same_header;
  numbers = numbers ∙ ap (λ xs. xs ++ line ∷ []) shows.numbers ∙ sym (map-append (λ (v : VertexLine). v.number) done (record { number = line; mass = a.mass; entries = here } ∷ []));
  masses = masses ∙ ap (λ xs. xs ++ a.mass ∷ []) shows.masses ∙ sym (map-append (λ (v : VertexLine). v.mass) done (record { number = line; mass = a.mass; entries = here } ∷ []));
  greater = IsPermutation-trans _ _ _ shows.greater greater;
  lesser = rw lesser shows.lesser;
  total = λ has. weight ∙ shows.total has;
}

-- The entries to smaller neighbours: those that were met, those that were not, and those that wait.

swapped : (a l w : List Edge) → IsPermutation (a ++ (l ++ w)) (l ++ (a ++ w))
swapped a l w =
    subst (λ xs. IsPermutation xs (l ++ (a ++ w))) (append_assoc a l w)
    (subst (λ xs. IsPermutation ((a ++ l) ++ w) xs) (append_assoc l a w) (IsPermutation-append_left w (a ++ l) (l ++ a) (IsPermutation-append_comm a l)))

-- some of those that were not met are met
pub moved_with : (g : List Edge) (c d : List ℕ) (l m w : List Edge) → IsPermutation (with_met g c l) (with_met g d m) → IsPermutation (with_met g c (l ++ w)) (with_met g d (m ++ w))
moved_with g c d l m w h =
    subst (λ xs. IsPermutation xs (with_met g d (m ++ w))) (append_assoc (met_from 0 c g) l w)
    (subst (λ xs. IsPermutation ((met_from 0 c g ++ l) ++ w) xs) (append_assoc (met_from 0 d g) m w) (IsPermutation-append_left w (with_met g c l) (with_met g d m) h))

-- or some of those that wait
pub moved_waiting : (g : List Edge) (c d : List ℕ) (l w v : List Edge) → IsPermutation (with_met g c w) (with_met g d v) → IsPermutation (with_met g c (l ++ w)) (with_met g d (l ++ v))
moved_waiting g c d l w v h =
    IsPermutation-trans _ _ _ (swapped (met_from 0 c g) l w)
    (IsPermutation-trans _ _ _ (IsPermutation-append_right l (with_met g c w) (with_met g d v) h) (IsPermutation-sym _ _ (swapped (met_from 0 d g) l v)))

-- one more waits
pub grew_taken : (l w v : List Edge) (e : Edge) → IsPermutation (e ∷ w) v → IsPermutation ((l ++ w) ++ e ∷ []) (l ++ v)
grew_taken l w v e h =
    subst (λ xs. IsPermutation xs (l ++ v)) (sym (append_assoc l w (e ∷ [])))
    (IsPermutation-append_right l (w ++ e ∷ []) v (IsPermutation-trans _ _ _ (IsPermutation-append_comm w (e ∷ [])) h))

-- or does not
pub grew_pushed : (l w : List Edge) (e : Edge) → IsPermutation ((l ++ w) ++ e ∷ []) ((l ++ e ∷ []) ++ w)
grew_pushed l w e =
    subst (λ xs. IsPermutation ((l ++ w) ++ e ∷ []) xs) (sym (append_assoc l (e ∷ []) w)) (grew_taken l w (e ∷ w) e (IsPermutation-refl (e ∷ w)))

pub grew_met : (g : List Edge) (c : List ℕ) (old new : List Edge) (e : Edge) → IsPermutation (old ++ e ∷ []) new → IsPermutation (with_met g c old ++ e ∷ []) (with_met g c new)
grew_met g c old new e h =
    subst (λ xs. IsPermutation xs (with_met g c new)) (sym (append_assoc (met_from 0 c g) old (e ∷ []))) (IsPermutation-append_right (met_from 0 c g) (old ++ e ∷ []) new h)

pub one_counted : (entries : ℕ) (g old new : List Edge) (e : Edge) → entries ≡ length g + length old → IsPermutation (old ++ e ∷ []) new → entries + 1 ≡ length g + length new
one_counted entries g old new e h moved =
    let len : length new ≡ length (old ++ e ∷ []) = length_permutation _ _ moved in
    omega (arith, length_push old e)

pub one_weighed : (total : ℕ) (g old new : List Edge) (e : Edge) → total ≡ sum_by (λ (e : Edge). e.w) g + sum_by (λ (e : Edge). e.w) old → IsPermutation (old ++ e ∷ []) new
    → total + e.w ≡ sum_by (λ (e : Edge). e.w) g + sum_by (λ (e : Edge). e.w) new
one_weighed total g old new e h moved =
    let sum : sum_by (λ (e : Edge). e.w) new ≡ sum_by (λ (e : Edge). e.w) (old ++ e ∷ []) = sum_by-IsPermutation (λ (e : Edge). e.w) (old ++ e ∷ []) new moved in
    let more : sum_by (λ (e : Edge). e.w) (old ++ e ∷ []) ≡ sum_by (λ (e : Edge). e.w) old + e.w = weight_pushed old e in
    omega arith
