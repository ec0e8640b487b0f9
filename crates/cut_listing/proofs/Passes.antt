-- Gathering the sides of a walk, and how many are allowed.
use Rattle.std.proofs.Common.{◌≡◌, ℕ, length, ◌==◌, ◌||◌, ◌&&◌, inl, inr, true≢false, ◌+◌, ◌*◌, ◌/◌, ◌^◌, ◌<◌, ◌≤◌, Bool, true, false, List, [], ◌∷◌, ◌++◌, get_or, refl, sym, ◌∙◌, ap, subst, arith}
use Rattle.std.specs.Prelude.{◌↔◌, Result, Ok, Err, IfOk}
use Rattle.std.specs.Bool.{MatchBool}
use Rattle.std.specs.List.{All, Contains, filter, flat_map, range_with_len}
use Rattle.std.proofs.Math.Nat.{div-mul-le_self}
use Rattle.std.proofs.lemmas.Nat.{mul-le, le-div}
use Rattle.std.proofs.lemmas.Bool.{cases_Bool, eq-eqb, eqb-true}
use Rattle.std.proofs.lemmas.List.{append_assoc, length-map, map-append, nil_from_length}
use Rattle.std.proofs.lemmas.List.Elements.{All-nil, All-contains, All-head, All-map, All-tail, filter-append}
use Rattle.cut_definitions.proofs.Lists.{Contains-filter, Contains-from_filter}
use Rattle.cut_definitions.specs.Members.{AreDifferent}
use Rattle.vertex_set.specs.Side.{VertexList, members_of}
use Rattle.cut_listing.specs.declared.ask.Ask.{Ask}
use Rattle.cut_listing.specs.declared.list_refusal.ListRefusal.{ListRefusal}
use Rattle.cut_listing.specs.declared.list_refusal.ListRefusal.TheVariants.{TooLarge, NoMemory}
use Rattle.cut_listing.specs.Listings.{IsList, IsListing, IsRefusal, asked_sides, different}
use Rattle.cut_listing.proofs.Listed.{all_from, is_different, same_different, different_is_listing}
use Rattle.cut_definitions.specs.Weight.{VertexSet}
use Rattle.cut_definitions.specs.Cuts.{IsAscendingWithin}
use Rattle.cut_definitions.proofs.Bridge.{IsAscendingWithin-filter}
use Rattle.rooted_cactus.specs.Rooted.{Rooted, sides_of}
use Rattle.rooted_cactus.specs.Sides.{cuts}
use Rattle.cut_definitions.specs.Cuts.{has}
use Rattle.cut_definitions.proofs.Numbers.{cases_le}
use Rattle.cut_definitions.proofs.Ascending.{contains_has}
use Rattle.rooted_cactus.specs.declared.tree.Node.{Node}
use Rattle.rooted_cactus.specs.Entered.{entered_block}
use Rattle.rooted_cactus.specs.Rooted.{IsCactus}
use Rattle.rooted_cactus.specs.Trees.{vertices, blocks}
use Rattle.rooted_cactus.proofs.Orders.{entered_out}

-- ---- the sides
pub sides_ascend : (c : Rooted) → All (IsAscendingWithin 1 c.vertices) (sides_of c)
sides_ascend c = All-map (IsAscendingWithin 1 c.vertices) (λ (s : VertexSet). filter s (range_with_len 1 c.vertices)) (cuts c.root)
    (λ k d l. IsAscendingWithin-filter c.vertices 1 c.vertices (get_or (cuts c.root) k d) (omega arith))

-- the sides that a walk gives
pub given_ascend : (c : Rooted) (to_come : List (List ℕ)) → ((s : List ℕ) → Contains to_come s ↔ Contains (sides_of c) s) → All (IsAscendingWithin 1 c.vertices) to_come
given_ascend c to_come same = all_from (IsAscendingWithin 1 c.vertices) to_come (λ s h. All-contains (IsAscendingWithin 1 c.vertices) (sides_of c) s (sides_ascend c) ((same s).0 h))

pub given_asked : (q : List ℕ → Bool) (xs ys : List (List ℕ)) → ((s : List ℕ) → Contains xs s ↔ Contains ys s) → different (filter q xs) ≡ different (filter q ys)
given_asked q xs ys same = same_different (filter q xs) (filter q ys)
    (λ s h. let d = Contains-from_filter q xs s h in Contains-filter q ys s ((same s).0 d.0) d.1)
    (λ s h. let d = Contains-from_filter q ys s h in Contains-filter q xs s ((same s).1 d.0) d.1)

pub asked_differ : (q : List ℕ → Bool) (xs : List (List ℕ)) → AreDifferent xs → AreDifferent (filter q xs)
asked_differ q [] d = tt
asked_differ q (x ∷ xs) d = elim (cases_Bool (q x)) [
  | inl is ↦ rw is ((λ c. d.0 (Contains-from_filter q xs x c).0), asked_differ q xs d.1)
  | inr out ↦ rw out (asked_differ q xs d.1)
]

-- a step of the walk: the first of the sides still to come was gathered, if it is asked for
pub gathered : (q : List ℕ → Bool) (old new to_come rest : List (List ℕ)) (m : List ℕ) → to_come ≡ m ∷ rest → new ≡ old ++ filter q (m ∷ []) → new ++ filter q rest ≡ old ++ filter q to_come
gathered q old new to_come rest m e f =
    ap (λ l. l ++ filter q rest) f ∙ append_assoc old (filter q (m ∷ [])) (filter q rest) ∙ ap (λ l. old ++ l) (sym (ap (filter q) e ∙ filter-append q (m ∷ []) rest))

kept_single : (q : List ℕ → Bool) (m : List ℕ) → q m ≡ true → filter q (m ∷ []) ≡ m ∷ []
kept_single q m is = rw is refl

-- a side that is asked for was put behind the others
pub kept_one : (q : List ℕ → Bool) (found new : List VertexList) (room : VertexList) → new ≡ found ++ room ∷ [] → q room.members ≡ true → members_of new ≡ members_of found ++ filter q (room.members ∷ [])
kept_one q found new room e is =
    ap members_of e ∙ map-append (λ (s : VertexList). s.members) found (room ∷ []) ∙ ap (λ l. members_of found ++ l) (sym (kept_single q room.members is))

-- what holds whatever a call returns
pub whatever : {T E P : Type 0} (r : Result T E) → P → IfOk r (λ _. P)
whatever (Ok x) p = p
whatever (Err e) p = tt

-- ---- how many are allowed
pub few_fit : (count largest n : ℕ) → count ≤ largest / n → count * n ≤ largest
few_fit count largest n h =
    let grown : count * n ≤ (largest / n) * n = mul-le count n (largest / n) n h (omega arith) in
    omega (arith, grown, div-mul-le_self largest n)

pub many_do_not : (count largest n : ℕ) → 0 < n → largest / n < count → largest < count * n
many_do_not count largest n p h = elim (cases_le (count * n) largest) [
  | inl l ↦ absurd (let m = le-div count largest n p l in omega (arith, m, h))
  | inr m ↦ m
]

-- ---- a cactus has a vertex
pub ascends_to : (low high v : ℕ) (l : List ℕ) → IsAscendingWithin low high l → has l v ≡ true → v ≤ high
ascends_to low high v [] a h = absurd (true≢false (sym h))
ascends_to low high v (u ∷ l) a h = elim (cases_Bool (u == v)) [
  | inl e ↦ subst (λ k. k ≤ high) (eqb-true u v e) a.1
  | inr ne ↦ ascends_to (u + 1) high v l a.2 (ap (λ b. b || has l v) (sym ne) ∙ h)
]

pub has_a_vertex : (n : ℕ) (root : Node) → IsCactus n root → 0 < n
has_a_vertex n root is =
    let lists : All (IsAscendingWithin 1 n) (vertices root ∷ flat_map entered_block (blocks root)) = subst (All (IsAscendingWithin 1 n)) (entered_out root) is.ascending in
    ascends_to 1 n 1 (vertices root) (All-head (IsAscendingWithin 1 n) (vertices root) (flat_map entered_block (blocks root)) lists) (contains_has (vertices root) 1 is.root_has_one)

-- a test that says which of two facts holds
pub decided : (b : Bool) (P Q : Type 0) → (b ≡ true → P) → (b ≡ false → Q) → MatchBool b P Q
decided b P Q holds fails = elim (cases_Bool b) [ inl is ↦ rw is (holds is) | inr out ↦ rw out (fails out) ]

-- all that are asked for, in order, if they are not too many
pub listed : (n : ℕ) (ask : Ask) (c : Rooted) (cuts : ℕ) (list : List VertexList) → cuts ≡ length (different (asked_sides ask c)) → cuts * n ≤ 2 ^ 30 →
    All (λ (s : VertexList). s.vertices ≡ n) list → members_of list ≡ different (asked_sides ask c) → IsList (2 ^ 30) n ask c list
listed n ask c cuts list counted few over is =
    let sides = asked_sides ask c in
    let many : cuts ≡ length list = counted ∙ ap (λ (l : List (List ℕ)). length l) (sym is) ∙ length-map list (λ (s : VertexList). s.members) in
    record {
      over_n = over;
      listing = subst (IsListing sides) (sym is) (different_is_listing sides);
      not_too_large = subst (λ k. k * n ≤ 2 ^ 30) many few;
    }

-- their number, if they are too many
pub too_many : (n size : ℕ) (ask : Ask) (c : Rooted) (cuts : ℕ) → cuts ≡ length (different (asked_sides ask c)) → size ≡ n → 2 ^ 30 < cuts * size → IsRefusal (2 ^ 30) n ask c (TooLarge cuts size)
too_many n size ask c cuts counted same large = (
  record { listing = different (asked_sides ask c); is_listing = different_is_listing (asked_sides ask c); counted = counted },
  same,
  subst (λ k. 2 ^ 30 < cuts * k) same large,
)

-- if none is asked for, the empty list is the listing
pub none_listed : (n : ℕ) (ask : Ask) (c : Rooted) (list : List VertexList) → 0 ≡ length (different (asked_sides ask c)) → list ≡ [] → IsList (2 ^ 30) n ask c list
none_listed n ask c list none empty =
    subst (IsList (2 ^ 30) n ask c) (sym empty)
    (listed n ask c 0 [] none (omega arith) (All-nil (λ (s : VertexList). s.vertices ≡ n)) (sym (nil_from_length (different (asked_sides ask c)) (sym none))))

-- ---- the sides over n that are selected
pub selected : (n : ℕ) (q : List ℕ → Bool) (xs : List VertexList) → All (λ (s : VertexList). s.vertices ≡ n) xs → members_of (filter (λ (s : VertexList). (s.vertices == n) && q s.members) xs) ≡ filter q (members_of xs)
selected n q [] over = refl
selected n q (x ∷ xs) over =
    let here : ((x.vertices == n) && q x.members) ≡ q x.members = ap (λ b. b && q x.members) (eq-eqb x.vertices n (All-head (λ (s : VertexList). s.vertices ≡ n) x xs over)) in
    let rest = selected n q xs (All-tail (λ (s : VertexList). s.vertices ≡ n) x xs over) in
    elim (cases_Bool (q x.members)) [
      | inl is ↦ (let both = here ∙ is in rw both (ap (λ l. x.members ∷ l) rest ∙ sym (kept_head is)))
      | inr out ↦ (let both = here ∙ out in rw both (rest ∙ sym (left_head out)))
    ]
  where
    kept_head : q x.members ≡ true → filter q (x.members ∷ members_of xs) ≡ x.members ∷ filter q (members_of xs)
    kept_head is = rw is refl

    left_head : q x.members ≡ false → filter q (x.members ∷ members_of xs) ≡ filter q (members_of xs)
    left_head out = rw out refl

-- ---- asks that let the same sides through
module _ (n : ℕ) (ask other : Ask) (c : Rooted) (same : different (asked_sides ask c) ≡ different (asked_sides other c)) where
  same_listing : (listing : List (List ℕ)) → IsListing (asked_sides ask c) listing → IsListing (asked_sides other c) listing
  same_listing listing is =
      let sides = asked_sides ask c in
      let all = is_different sides listing is.ascending (λ s. (is.same s).0) (λ s. (is.same s).1) in
      subst (IsListing (asked_sides other c)) (sym (all ∙ same)) (different_is_listing (asked_sides other c))

  pub same_list : (list : List VertexList) → IsList (2 ^ 30) n ask c list → IsList (2 ^ 30) n other c list
  same_list list is = record { over_n = is.over_n; listing = same_listing (members_of list) is.listing; not_too_large = is.not_too_large }

  pub same_refusal : (refusal : ListRefusal) → IsRefusal (2 ^ 30) n ask c refusal → IsRefusal (2 ^ 30) n other c refusal
  same_refusal (TooLarge cuts size) is = (record { listing = is.0.listing; is_listing = same_listing is.0.listing is.0.is_listing; counted = is.0.counted }, is.1, is.2)
  same_refusal NoMemory is = tt
