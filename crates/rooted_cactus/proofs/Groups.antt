-- The vertices of each class, gathered, and what several classes have together.
use Rattle.std.proofs.Common.{◌≡◌, ◌≢◌, ℕ, ◌+◌, ◌<◌, ◌≤◌, ◌==◌, ◌||◌, suc, cond, List, [], ◌∷◌, ◌++◌, length, map, get_or, set, eqb, IsPermutation, refl, sym, ◌∙◌, ap, subst, arith, ⊎_elim}
use Rattle.std.specs.List.{All, Contains, filter, flat_map, range_with_len, dedup}
use Rattle.std.specs.List.Sorted.{IsStrictlyIncreasing, IsSorted}
use Rattle.std.specs.List.Retain.{IsFiltered, DiffersFromLast}
use Rattle.std.specs.Ordering.{nat_cmp}
use Rattle.std.specs.Global.{Vec}
use Rattle.std.proofs.lemmas.Bool.{cases_eq, eq-eqb, ne_eqb}
use Rattle.std.proofs.lemmas.List.{map-set, get_or-map, get_or-set_same, get_or-set_other, length-map}
use Rattle.std.proofs.lemmas.List.Elements.{All-weaker, All-filter, All-append, All-nil, All-contains, All-contains_itself, All-tail, filter-append}
use Rattle.std.proofs.lemmas.List.Filters.{dedup_is}
use Rattle.std.proofs.lemmas.List.Kept.{Contains-dedup_nat, Contains-from_dedup}
use Rattle.std.proofs.lemmas.List.Sorted.{Contains-permutation, IsPermutation-sym}
use Rattle.std.proofs.lemmas.Map.Keys.{IsStrictlyIncreasing-dedup}
use Rattle.cut_definitions.specs.Cuts.{has, IsAscendingWithin}
use Rattle.cut_definitions.specs.Contraction.{label, class, lift}
use Rattle.cut_definitions.proofs.Lists.{Contains-here}
use Rattle.cut_definitions.proofs.Bridge.{has_within, IsAscendingWithin-filter, same_ascending}
use Rattle.cut_definitions.proofs.Contracted.{has-lift}
use Rattle.cut_definitions.proofs.Bools.{same_tests}
use Rattle.cut_definitions.proofs.Numbers.{eqb_flip}
use Rattle.cut_definitions.proofs.ListLaws.{label_at, append_none}
use Rattle.cut_definitions.proofs.Ascending.{has_contains, contains_has}
use Rattle.cut_definitions.proofs.Ranges.{range_push}
use Rattle.rooted_cactus.specs.Spread.{group_at, class_of_first, AreGathered}
use Rattle.rooted_cactus.proofs.Ranges.{range_within, IsWithin}
use Rattle.rooted_cactus.proofs.Segments.{has_append_at}

-- ---- one more vertex
pub grown_at : (groups : List (Vec ℕ)) (i : ℕ) (old new : Vec ℕ) (v : ℕ) → i < length groups → old ≡ get_or groups i old → new.items ≡ old.items ++ v ∷ [] → group_at (set groups i new) i ≡ group_at groups i ++ v ∷ []
grown_at groups i old new v h is e =
    let items : Vec ℕ → List ℕ = λ g. g.items in
    let long : i < length (map items groups) = omega (arith, length-map groups items) in
    ap (λ l. get_or l i []) (map-set items groups i new)
    ∙ get_or-set_same (map items groups) i new.items [] long
    ∙ e
    ∙ ap (λ g. g.items ++ v ∷ []) is
    ∙ ap (λ l. l ++ v ∷ []) (sym (get_or-map items groups i old [] h))

pub other_at : (groups : List (Vec ℕ)) (i : ℕ) (new : Vec ℕ) (c : ℕ) → c ≢ i → group_at (set groups i new) c ≡ group_at groups c
other_at groups i new c ne =
    let items : Vec ℕ → List ℕ = λ g. g.items in
    ap (λ l. get_or l c []) (map-set items groups i new) ∙ get_or-set_other (map items groups) i c new.items [] ne

first_more : (classes : List ℕ) (i c : ℕ) → class_of_first classes (i + 1) c ≡ class_of_first classes i c ++ filter (class classes c) ((i + 1) ∷ [])
first_more classes i c =
    let up : i + 1 ≡ suc i = omega arith in
    let down : 1 + i ≡ i + 1 = omega arith in
    ap (λ k. class_of_first classes k c) up
    ∙ ap (filter (class classes c)) (range_push 1 i)
    ∙ filter-append (class classes c) (range_with_len 1 i) ((1 + i) ∷ [])
    ∙ ap (λ k. class_of_first classes i c ++ filter (class classes c) (k ∷ [])) down

pub first_same : (classes : List ℕ) (i c : ℕ) → get_or classes i 0 ≡ c → class_of_first classes (i + 1) c ≡ class_of_first classes i c ++ (i + 1) ∷ []
first_same classes i c e =
    first_more classes i c ∙ ap (λ b. class_of_first classes i c ++ cond b ((i + 1) ∷ []) []) (eq-eqb (label classes (i + 1)) c (label_at classes i ∙ e))

pub first_other : (classes : List ℕ) (i c : ℕ) → (get_or classes i 0 ≡ c → ⊥) → class_of_first classes (i + 1) c ≡ class_of_first classes i c
first_other classes i c ne =
    first_more classes i c ∙ ap (λ b. class_of_first classes i c ++ cond b ((i + 1) ∷ []) []) (ne_eqb (label classes (i + 1)) c (λ q. ne (sym (label_at classes i) ∙ q))) ∙ append_none (class_of_first classes i c)

-- one more vertex, seen from any class
pub gathered_more : (classes : List ℕ) (old new : List (Vec ℕ)) (i here : ℕ) → here ≡ get_or classes i 0 → group_at new here ≡ group_at old here ++ (i + 1) ∷ [] → ((c : ℕ) → c ≢ here → group_at new c ≡ group_at old c) → ((c : ℕ) → group_at old c ≡ class_of_first classes i c) → (c : ℕ) → group_at new c ≡ class_of_first classes (i + 1) c
gathered_more classes old new i here is grown others before c =
    ⊎_elim
    (λ (e : here ≡ c). subst (λ (k : ℕ). group_at new k ≡ group_at old k ++ (i + 1) ∷ []) e grown ∙ ap (λ l. l ++ (i + 1) ∷ []) (before c) ∙ sym (first_same classes i c (sym is ∙ e)))
    (λ ne. others c (λ q. ne (sym q)) ∙ before c ∙ sym (first_other classes i c (λ q. ne (is ∙ q))))
    (cases_eq here c)

-- ---- lists as sets
pub same_members : (xs ys : List ℕ) (v : ℕ) → (Contains xs v → Contains ys v) → (Contains ys v → Contains xs v) → has xs v ≡ has ys v
same_members xs ys v f g = same_tests (has xs v) (has ys v) (λ h. contains_has ys v (f (has_contains xs v h))) (λ h. contains_has xs v (g (has_contains ys v h)))

-- ---- rising lists are ascending
pub ascending_from : (low high x : ℕ) (xs : List ℕ) → low ≤ x → IsStrictlyIncreasing (x ∷ xs) → All (λ v. v ≤ high) (x ∷ xs) → IsAscendingWithin low high (x ∷ xs)
ascending_from low high x [] l up h = (l, All-contains (λ v. v ≤ high) (x ∷ []) x h (Contains-here x []), tt)
ascending_from low high x (y ∷ ys) l up h =
    let step : x < y = up 0 (omega arith) in (
      l,
      All-contains (λ v. v ≤ high) (x ∷ y ∷ ys) x h (Contains-here x (y ∷ ys)),
      ascending_from (x + 1) high y ys (omega (arith, step)) (λ k q. let e : suc k + 1 ≡ suc (k + 1) = omega arith in subst (λ (j : ℕ). get_or (x ∷ y ∷ ys) (suc k) 0 < get_or (x ∷ y ∷ ys) j 0) e (up (suc k) (omega (arith, q)))) (All-tail (λ v. v ≤ high) x (y ∷ ys) h),
    )

-- what holds of each member holds of all
All_of : {P : ℕ → Type 0} (xs : List ℕ) → ((v : ℕ) → Contains xs v → P v) → All P xs
All_of {P} xs f = All-weaker (Contains xs) P f xs (All-contains_itself xs)

-- ---- several classes together
module _ (classes : List ℕ) (groups : List (Vec ℕ)) (gathered : AreGathered classes groups) where
  has_group : (c v : ℕ) → 1 ≤ v → v ≤ length classes → has (group_at groups c) v ≡ (c == label classes v)
  has_group c v l h = ap (λ xs. has xs v) (gathered c) ∙ has_within (length classes) 1 v (class classes c) l (omega arith) ∙ eqb_flip (label classes v) c

  has_groups : (cs : List ℕ) (v : ℕ) → 1 ≤ v → v ≤ length classes → has (flat_map (group_at groups) cs) v ≡ has cs (label classes v)
  has_groups [] v l h = refl
  has_groups (c ∷ cs) v l h =
      has_append_at (group_at groups c) (flat_map (group_at groups) cs) v
      ∙ ap (λ b. b || has (flat_map (group_at groups) cs) v) (has_group c v l h)
      ∙ ap (λ b. (c == label classes v) || b) (has_groups cs v l h)

  groups_within : (cs : List ℕ) → All (IsWithin 1 (length classes)) (flat_map (group_at groups) cs)
  groups_within [] = All-nil (IsWithin 1 (length classes))
  groups_within (c ∷ cs) =
      All-append (IsWithin 1 (length classes)) (group_at groups c) (flat_map (group_at groups) cs)
      (subst (All (IsWithin 1 (length classes))) (sym (gathered c)) (All-filter (class classes c) (IsWithin 1 (length classes)) (range_with_len 1 (length classes)) (range_within (length classes) 1 (length classes) (omega arith))))
      (groups_within cs)

  ascending_list : (xs : List ℕ) → IsStrictlyIncreasing xs → All (IsWithin 1 (length classes)) xs → IsAscendingWithin 1 (length classes) xs
  ascending_list [] up h = tt
  ascending_list (x ∷ xs) up h = ascending_from 1 (length classes) x xs (All-contains (IsWithin 1 (length classes)) (x ∷ xs) x h (Contains-here x xs)).0 up (All-weaker (IsWithin 1 (length classes)) (λ v. v ≤ length classes) (λ v p. p.1) (x ∷ xs) h)

  -- sorted, and each vertex once, the classes of a list are its lift
  pub sorted_is_lift : (cs all sorted once : List ℕ) → all ≡ flat_map (group_at groups) cs → IsPermutation all sorted → IsSorted nat_cmp sorted → IsFiltered (DiffersFromLast eqb) [] sorted once → once ≡ lift classes cs
  sorted_is_lift cs all sorted once e moved up kept =
      let n = length classes in
      let is : once ≡ dedup eqb sorted = dedup_is eqb sorted once kept in
      let forth : (v : ℕ) → Contains once v → Contains all v = λ v h. Contains-permutation sorted all v (IsPermutation-sym all sorted moved) (Contains-from_dedup eqb sorted v (subst (λ l. Contains l v) is h)) in
      let back : (v : ℕ) → Contains all v → Contains once v = λ v h. subst (λ l. Contains l v) (sym is) (Contains-dedup_nat sorted v (Contains-permutation all sorted v moved h)) in
      let inside : All (IsWithin 1 n) all = subst (All (IsWithin 1 n)) (sym e) (groups_within cs) in
      let rising : IsStrictlyIncreasing once = subst IsStrictlyIncreasing (sym is) (IsStrictlyIncreasing-dedup sorted up) in
      same_ascending 1 n once (lift classes cs)
      (ascending_list once rising (All_of once (λ v h. All-contains (IsWithin 1 n) all v inside (forth v h))))
      (IsAscendingWithin-filter n 1 n (λ v. has cs (label classes v)) (omega arith))
      (λ v l h. same_members once all v (forth v) (back v) ∙ ap (λ xs. has xs v) e ∙ has_groups cs v l h ∙ sym (has-lift classes cs v l h))
