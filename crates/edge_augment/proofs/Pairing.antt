-- The end nodes inside a cut are together in the order of entering, so the pairs of opposite ones separate it.
use Rattle.std.proofs.Common.{◌≡◌, ℕ, zero, suc, ◌+◌, ◌-◌, ◌*◌, ◌/◌, ◌<◌, ◌≤◌, ◌⊎◌, inl, inr, ⊎_elim, Bool, true, false, not, List, [], ◌∷◌, ◌++◌, length, get_or, refl, ap, ◌∙◌, sym, subst, arith, length-append}
use Rattle.std.specs.Prelude.{if◌then◌else◌}
use Rattle.std.specs.List.{Contains, filter, concat, range_with_len}
use Rattle.std.proofs.lemmas.Bool.{cases_lt, or_left, or_right, false_from_ne_true, false≢true}
use Rattle.std.proofs.lemmas.List.{get_or_default, length-map}
use Rattle.std.proofs.lemmas.List.Elements.{Contains-append_cases}
use Rattle.std.proofs.lemmas.List.FromFn.{length-range_with_len, get_or-range_with_len}
use Rattle.cut_definitions.specs.Weight.{VertexSet}
use Rattle.cut_definitions.specs.Cuts.{has, least}
use Rattle.cut_definitions.proofs.Bridge.{has_within}
use Rattle.cut_definitions.proofs.Values.{Contains-least}
use Rattle.cut_definitions.proofs.Lists.{Contains-here, Contains-there, Contains-cons_cases, Contains-nil, Contains-map, Contains-from_map}
use Rattle.cut_definitions.proofs.Bools.{one_parts}
use Rattle.cut_definitions.proofs.Ascending.{contains_has}
use Rattle.rooted_cactus.specs.Sides.{part}
use Rattle.rooted_cactus.specs.Entered.{entered}
use Rattle.rooted_cactus.proofs.Layouts.{laid_out}
use Rattle.rooted_cactus.proofs.Segments.{has_append_at}
use Rattle.edge_augment.specs.Ends.{end_sets}
use Rattle.edge_augment.specs.Laws.{LawOfPairing, LawOfNumber}
use Rattle.edge_augment.specs.NewEdges.{least_at, opposite_pairs}
use Rattle.rooted_cactus.proofs.Sets.{IsIn, HasOne, Apart}
use Rattle.rooted_cactus.proofs.Clean.{IsClean, clean_apart, clean_right, root_clean}
use Rattle.edge_augment.proofs.Leaves.{IsLeft, none, drops, keeps, end_sets_left}
use Rattle.rooted_cactus.proofs.Within.{of_lists, of_left}
use Rattle.edge_augment.proofs.EndSets.{left_contains, inside, outside, full, end_ascending, ascending_vertex}

abbrev Lists : Type 0
Lists = List (List ℕ)

-- ---- what is left of two lists one after another
abbrev LeftOfCons : Lists → List ℕ → Lists → Type 0
LeftOfCons xs y ys = IsLeft xs ys ⊎ ((zs : Lists) × (xs ≡ y ∷ zs) × IsLeft zs ys)

left_cons : (xs all : Lists) → IsLeft xs all → (y : List ℕ) (ys : Lists) → all ≡ y ∷ ys → LeftOfCons xs y ys
left_cons xs all none y ys e = absurd (let no : [] ≡ y ∷ ys → ⊥ = λ q. cc in no e)
left_cons xs all (drops l ps qs h) y ys e = (let tails : qs ≡ ys = cc in inl (subst (λ zs. IsLeft ps zs) tails h))
left_cons xs all (keeps l ps qs h) y ys e = (let tails : qs ≡ ys = cc in let heads : l ≡ y = cc in inr (ps, ap (λ z. z ∷ ps) heads, subst (λ zs. IsLeft ps zs) tails h))

record IsSplit (xs ys zs : Lists) : Type 0 where
  first : Lists
  second : Lists
  whole : xs ≡ first ++ second
  first_left : IsLeft first ys
  second_left : IsLeft second zs

split : (ys zs xs : Lists) → IsLeft xs (ys ++ zs) → IsSplit xs ys zs
split [] zs xs h = record { first = []; second = xs; whole = refl; first_left = none; second_left = h }
split (y ∷ ys) zs xs h = elim (left_cons xs (y ∷ (ys ++ zs)) h y (ys ++ zs) refl) [
  | inl k ↦ (let r = split ys zs xs k in record { first = r.first; second = r.second; whole = r.whole; first_left = drops y r.first ys r.first_left; second_left = r.second_left })
  | inr k ↦ (let r = split ys zs k.0 k.2 in record {
    first = y ∷ r.first;
    second = r.second;
    whole = k.1 ∙ ap (λ l. y ∷ l) r.whole;
    first_left = keeps y r.first ys r.first_left;
    second_left = r.second_left;
  })
]

in_lists : (ls : Lists) (l : List ℕ) → Contains ls l → IsIn (has l) (of_lists ls)
in_lists [] l c v h = absurd (Contains-nil l c)
in_lists (m ∷ ls) l c v h = elim (Contains-cons_cases m ls l c) [
  | inl e ↦ has_append_at m (concat ls) v ∙ or_left (has m v) (of_lists ls v) (subst (λ z. has z v ≡ true) (sym e) h)
  | inr k ↦ has_append_at m (concat ls) v ∙ or_right (has m v) (of_lists ls v) (in_lists ls l k v h)
]

left_in : (xs ys : Lists) → IsLeft xs ys → (l : List ℕ) → Contains xs l → IsIn (has l) (of_lists ys)
left_in xs ys h l c = in_lists ys l (left_contains xs ys h l c)

-- ---- places
at_left : (xs ys : Lists) (j : ℕ) → j < length xs → Contains xs (get_or (xs ++ ys) j [])
at_left [] ys j k = absurd (omega (arith, k))
at_left (x ∷ xs) ys zero k = Contains-here x xs
at_left (x ∷ xs) ys (suc j) k = Contains-there x xs (get_or (xs ++ ys) j []) (at_left xs ys j (omega (arith, k)))

at_right : (xs ys : Lists) (j : ℕ) → length xs ≤ j → j < length xs + length ys → Contains ys (get_or (xs ++ ys) j [])
at_right [] ys j k l = (let lt : j < length ys = omega (arith, l) in (j, lt, get_or_default ys j (get_or ys j []) [] lt))
at_right (x ∷ xs) ys zero k l = absurd (omega (arith, k))
at_right (x ∷ xs) ys (suc j) k l = at_right xs ys j (omega (arith, k)) (omega (arith, l))

pub has_least : (l : List ℕ) → HasOne (has l) → has l (least l) ≡ true
has_least [] h = absurd (false≢true h.1)
has_least (x ∷ xs) h = contains_has (x ∷ xs) (least (x ∷ xs)) (Contains-least x xs)

-- ---- one of a pair in a range and the other not
abbrev In : ℕ → ℕ → ℕ → Type 0
In a b j = (a ≤ j) × (j < a + b)

abbrev Out : ℕ → ℕ → ℕ → ℕ → Type 0
Out a b long j = (j < a) ⊎ ((a + b ≤ j) × (j < long))

abbrev OneIn : ℕ → ℕ → ℕ → ℕ → ℕ → Type 0
OneIn a b long i j = (In a b i × Out a b long j) ⊎ (Out a b long i × In a b j)

pick : (a b c h long : ℕ) → long ≡ a + (b + c) → 1 ≤ b → 1 ≤ a + c → 2 * h ≤ long → long ≤ 2 * h + 1 → (i : ℕ) × (i < long - h) × OneIn a b long i (i + h)
pick a b c h long e some more low high =
    ⊎_elim
    (λ (early : a < long - h). ⊎_elim
    (λ (wide : h < b). ⊎_elim
    (λ (zero_a : a < 1). (b - h, omega arith, inl ((omega arith, omega arith), inr (omega arith, omega arith))))
    (λ (one_a : 1 ≤ a). (a - 1, omega arith, inr (inl (omega arith), (omega arith, omega arith))))
    (cases_lt a 1))
    (λ (narrow : b ≤ h). (a, early, inl ((omega arith, omega arith), inr (omega arith, omega arith))))
    (cases_lt h b))
    (λ (late : long - h ≤ a). (a - h, omega arith, inr (inl (omega arith), (omega arith, omega arith))))
    (cases_lt a (long - h))

half : (n : ℕ) → (2 * (n / 2) ≤ n) × (n ≤ 2 * (n / 2) + 1)
half n = (omega arith, omega arith)

other_parts : (a b : Bool) → a ≡ false → b ≡ true → (if a then not b else b) ≡ true
other_parts a b h k = rw (h, k) refl

pair_there : (ends : Lists) (i : ℕ) → i < length ends - length ends / 2 → Contains (opposite_pairs ends) (least_at ends i, least_at ends (i + length ends / 2))
pair_there ends i k =
    Contains-map (λ j. (least_at ends j, least_at ends (j + length ends / 2))) (range_with_len 0 (length ends - length ends / 2)) i
    (i, omega (arith, k, length-range_with_len 0 (length ends - length ends / 2)), omega (arith, get_or-range_with_len 0 (length ends - length ends / 2) i i k))

some_in : (xs : Lists) (l : List ℕ) → Contains xs l → 1 ≤ length xs
some_in xs l c = omega (arith, c.1)

in_front : (xs ys : Lists) (j : ℕ) → j < length xs → (all : Lists) → all ≡ xs ++ ys → Contains xs (get_or all j [])
in_front xs ys j l all e = subst (λ ls. Contains xs (get_or ls j [])) (sym e) (at_left xs ys j l)

in_rest : (xs ys : Lists) (j : ℕ) → length xs ≤ j → j < length xs + length ys → (all : Lists) → all ≡ xs ++ ys → Contains ys (get_or all j [])
in_rest xs ys j l m all e = subst (λ ls. Contains ys (get_or ls j [])) (sym e) (at_right xs ys j l m)

in_middle : (xs ys zs : Lists) (j : ℕ) → length xs ≤ j → j < length xs + length ys → (all : Lists) → all ≡ xs ++ (ys ++ zs) → Contains ys (get_or all j [])
in_middle [] ys zs j l m all e = in_front ys zs j (omega (arith, m)) all e
in_middle (x ∷ xs) ys zs zero l m all e = absurd (omega (arith, l))
in_middle (x ∷ xs) ys zs (suc j) l m all e = subst (λ ls. Contains ys (get_or ls (suc j) [])) (sym e) (in_middle xs ys zs j (omega (arith, l)) (omega (arith, m)) (xs ++ (ys ++ zs)) refl)

in_back : (xs ys zs : Lists) (j : ℕ) → length xs + length ys ≤ j → j < length xs + (length ys + length zs) → (all : Lists) → all ≡ xs ++ (ys ++ zs) → Contains zs (get_or all j [])
in_back [] ys zs j l m all e = in_rest ys zs j (omega (arith, l)) (omega (arith, m)) all e
in_back (x ∷ xs) ys zs zero l m all e = absurd (omega (arith, l))
in_back (x ∷ xs) ys zs (suc j) l m all e = subst (λ ls. Contains zs (get_or ls (suc j) [])) (sym e) (in_back xs ys zs j (omega (arith, l)) (omega (arith, m)) (xs ++ (ys ++ zs)) refl)

pub pairing : LawOfPairing
pairing n root h k side c =
    let list : VertexSet → List ℕ = λ t. filter t (range_with_len 1 n) in
    let r = Contains-from_map list (part root).cuts side c in
    let s : VertexSet = r.0 in
    let ends : Lists = end_sets root in
    let seg = (laid_out root).cuts s r.1 in
    let whole : entered root ≡ seg.before ++ (seg.inside ++ seg.behind) = seg.whole in
    let clean : IsClean n (seg.before ++ (seg.inside ++ seg.behind)) = subst (IsClean n) whole (root_clean n root h) in
    let left : IsLeft ends (seg.before ++ (seg.inside ++ seg.behind)) = subst (λ ls. IsLeft ends ls) whole (end_sets_left root) in
    let one = split seg.before (seg.inside ++ seg.behind) ends left in
    let two = split seg.inside seg.behind one.second one.second_left in
    let set : (v : ℕ) → s v ≡ of_lists seg.inside v = λ v. ap (λ (t : VertexSet). t v) seg.set in
    let in_s : (l : List ℕ) → Contains two.first l → IsIn (has l) s = λ l m v e. set v ∙ left_in two.first seg.inside two.first_left l m v e in
    let before_s : (l : List ℕ) → Contains one.first l → Apart (has l) s = λ l m v e f.
    clean_apart n seg.before (seg.inside ++ seg.behind) clean v (left_in one.first seg.before one.first_left l m v e) (of_left seg.inside seg.behind v (sym (set v) ∙ f)) in
    let behind_s : (l : List ℕ) → Contains two.second l → Apart (has l) s = λ l m v e f.
    clean_apart n seg.inside seg.behind (clean_right n seg.before (seg.inside ++ seg.behind) clean) v (sym (set v) ∙ f) (left_in two.second seg.behind two.second_left l m v e) in
    let parted : ends ≡ one.first ++ (two.first ++ two.second) = one.whole ∙ ap (λ l. one.first ++ l) two.whole in
    let a = length one.first in
    let b = length two.first in
    let d = length two.second in
    let rest : length (two.first ++ two.second) ≡ b + d = length-append two.first two.second in
    let long : length ends ≡ a + (b + d) = ap length parted ∙ length-append one.first (two.first ++ two.second) ∙ ap (λ z. a + z) rest in
    let full_ends = full n root h k in
    let yes = inside n root h k s r.1 in
    let yes_one = full_ends yes.0 yes.1 in
    let some : 1 ≤ b = elim (Contains-append_cases one.first (two.first ++ two.second) yes.0 (subst (λ ls. Contains ls yes.0) parted yes.1)) [
      | inl m ↦ absurd (before_s yes.0 m yes_one.0 yes_one.1 (yes.2 yes_one.0 yes_one.1))
      | inr m ↦ elim (Contains-append_cases two.first two.second yes.0 m) [
        | inl m2 ↦ some_in two.first yes.0 m2
        | inr m2 ↦ absurd (behind_s yes.0 m2 yes_one.0 yes_one.1 (yes.2 yes_one.0 yes_one.1))
      ]
    ] in
    let no = outside n root h k s r.1 in
    let no_one = full_ends no.0 no.1 in
    let more : 1 ≤ a + d = elim (Contains-append_cases one.first (two.first ++ two.second) no.0 (subst (λ ls. Contains ls no.0) parted no.1)) [
      | inl m ↦ omega (arith, some_in one.first no.0 m)
      | inr m ↦ elim (Contains-append_cases two.first two.second no.0 m) [
        | inl m2 ↦ absurd (no.2 no_one.0 no_one.1 (in_s no.0 m2 no_one.0 no_one.1))
        | inr m2 ↦ omega (arith, some_in two.second no.0 m2)
      ]
    ] in
    let there : (j : ℕ) → j < length ends → Contains ends (get_or ends j []) = λ j lt. (j, lt, get_or_default ends j (get_or ends j []) [] lt) in
    let least_there : (j : ℕ) → j < length ends → has (get_or ends j []) (least_at ends j) ≡ true = λ j lt. has_least (get_or ends j []) (full_ends (get_or ends j []) (there j lt)) in
    let on_side : (j : ℕ) → j < length ends → has side (least_at ends j) ≡ s (least_at ends j) = λ j lt.
    let w = ascending_vertex 1 n (get_or ends j []) (end_ascending n root h (get_or ends j []) (there j lt)) (least_at ends j) (least_there j lt) in
    sym (ap (λ m. has m (least_at ends j)) r.2) ∙ has_within n 1 (least_at ends j) s w.0 (omega (arith, w.1)) in
    let value_in : (j : ℕ) → In a b j → has side (least_at ends j) ≡ true = λ j i.
    let lt : j < length ends = omega (arith, i.1, long) in
    on_side j lt ∙ in_s (get_or ends j []) (in_middle one.first two.first two.second j i.0 i.1 ends parted) (least_at ends j) (least_there j lt) in
    let value_out : (j : ℕ) → Out a b (length ends) j → has side (least_at ends j) ≡ false = λ j o. elim o [
      | inl l ↦ (let lt : j < length ends = omega (arith, l, long) in
          on_side j lt ∙ false_from_ne_true (s (least_at ends j)) (before_s (get_or ends j []) (in_front one.first (two.first ++ two.second) j l ends parted) (least_at ends j) (least_there j lt)))
      | inr l ↦ on_side j l.1 ∙ false_from_ne_true (s (least_at ends j)) (behind_s (get_or ends j []) (in_back one.first two.first two.second j l.0 (omega (arith, l.1, long)) ends parted) (least_at ends j) (least_there j l.1))
    ] in
    let hf = half (length ends) in
    let p = pick a b d (length ends / 2) (length ends) long some more hf.0 hf.1 in
    let i = p.0 in
    let j = p.0 + length ends / 2 in (
      (least_at ends i, least_at ends j),
      pair_there ends i p.1,
      elim p.2 [
        | inl x ↦ one_parts (has side (least_at ends i)) (has side (least_at ends j)) (value_in i x.0) (value_out j x.1)
        | inr x ↦ other_parts (has side (least_at ends i)) (has side (least_at ends j)) (value_out i x.0) (value_in j x.1)
      ],
    )

pub number : LawOfNumber
number sets =
    length-map (range_with_len 0 (length sets - length sets / 2)) (λ i. (least_at sets i, least_at sets (i + length sets / 2)))
    ∙ length-range_with_len 0 (length sets - length sets / 2)
