-- Parts of a tree without a common vertex have different least vertices.
use Rattle.std.proofs.Common.{◌≡◌, ℕ, suc, ◌≤◌, ◌<◌, inl, inr, true, cond, List, [], ◌∷◌, ◌++◌, length, map, ap, ◌∙◌, sym, refl, subst, arith}
use Rattle.std.specs.Prelude.{nat_lt}
use Rattle.std.specs.List.{Contains, filter, flat_map, concat, list_all}
use Rattle.std.specs.List.Sorted.{IsNonDecreasingBy}
use Rattle.std.proofs.lemmas.Bool.{and_from, or_cases, or_left, or_right, false≢true, lt-ltb}
use Rattle.std.proofs.lemmas.List.{map-append, length-append, length-map}
use Rattle.cut_definitions.specs.Weight.{VertexSet}
use Rattle.cut_definitions.specs.Cuts.{has, least}
use Rattle.cut_definitions.proofs.Lists.{Contains-here, Contains-there, Contains-cons_cases, Contains-nil, Contains-from_map}
use Rattle.cut_definitions.proofs.ListLaws.{longer}
use Rattle.cut_definitions.proofs.Ascending.{least_has}
use Rattle.rooted_cactus.specs.Entries.{top_first}
use Rattle.rooted_cactus.proofs.Segments.{has_append_at, has_both}
use Rattle.canonical_cactus.specs.Canonical.{Arranged, ascend, rises, last_from}
use Rattle.canonical_cactus.specs.Making.{AreApart, last_of}
use Rattle.rooted_cactus.specs.Trims.{count_with}
use Rattle.rooted_cactus.proofs.Moved.{count_both, each_passes}
use Rattle.canonical_cactus.proofs.Ascending.{first_or_zero, last_or_zero, last_more, first_more}

-- ---- a vertex in two lists
count_some : (v : ℕ) (ls : List (List ℕ)) → has (concat ls) v ≡ true → 1 ≤ count_with v ls
count_some v [] h = absurd (false≢true h)
count_some v (l ∷ ls) h =
    let rest = filter (λ m. has m v) ls in
    elim (or_cases (has l v) (has (concat ls) v) (sym (has_append_at l (concat ls) v) ∙ h)) [
      | inl e ↦ (let one : count_with v (l ∷ ls) ≡ length (l ∷ rest) = ap (λ b. length (cond b (l ∷ rest) rest)) e in omega (arith, one))
      | inr e ↦ omega (arith, count_some v ls e, longer (has l v) l rest)
    ]

apart_there : (ls ms : List (List ℕ)) (v : ℕ) → AreApart (ls ++ ms) → has (concat ls) v ≡ true → has (concat ms) v ≡ true → ⊥
apart_there ls ms v c h k = omega (arith, count_both v ls ms, c v, count_some v ls h, count_some v ms k)

pub apart_left : (ls ms : List (List ℕ)) → AreApart (ls ++ ms) → AreApart ls
apart_left ls ms c v = omega (arith, count_both v ls ms, c v)

pub apart_right : (ls ms : List (List ℕ)) → AreApart (ls ++ ms) → AreApart ms
apart_right ls ms c v = omega (arith, count_both v ls ms, c v)

-- ---- parts with their lists
module _ {X : Type 0} (f : X → Arranged) (l : X → List (List ℕ)) (covered : (x : X) → has (f x).vertices ≡ has (concat (l x))) where
  listed : (xs : List X) (x : X) (v : ℕ) → Contains xs x → has (concat (l x)) v ≡ true → has (concat (flat_map l xs)) v ≡ true
  listed [] x v h k = absurd (Contains-nil x h)
  listed (y ∷ xs) x v h k =
      let both = ap (λ (s : VertexSet). s v) (has_both (l y) (flat_map l xs)) in
      both ∙ elim (Contains-cons_cases y xs x h) [
        | inl e ↦ or_left (has (concat (l y)) v) (has (concat (flat_map l xs)) v) (ap (λ z. has (concat (l z)) v) e ∙ k)
        | inr t ↦ or_right (has (concat (l y)) v) (has (concat (flat_map l xs)) v) (listed xs x v t k)
      ]

  pub differ : (x : X) (xs : List X) (y : X) → AreApart (flat_map l (x ∷ xs)) → ((f x).vertices ≡ [] → ⊥) → ((f y).vertices ≡ [] → ⊥) → Contains xs y → least (f x).vertices ≡ least (f y).vertices → ⊥
  differ x xs y c hx hy h e =
      let at : (z : X) → ((f z).vertices ≡ [] → ⊥) → has (concat (l z)) (least (f z).vertices) ≡ true =
      λ z some. sym (ap (λ (s : VertexSet). s (least (f z).vertices)) (covered z)) ∙ least_has (f z).vertices some in
      let here = at x hx in
      let there : has (concat (l y)) (least (f x).vertices) ≡ true = ap (has (concat (l y))) e ∙ at y hy in
      apart_there (l x) (flat_map l xs) (least (f x).vertices) c here (listed xs y (least (f x).vertices) h there)

  -- in order of their least vertices, these ascend
  pub ascends : (key : X → ℕ) (xs : List X) → IsNonDecreasingBy key xs → ((x : X) → Contains xs x → key x ≡ least (f x).vertices) →
      ((x : X) → Contains xs x → (f x).vertices ≡ [] → ⊥) → AreApart (flat_map l xs) → ascend (map key xs) ≡ true
  ascends key [] s k n c = refl
  ascends key (x ∷ xs) s k n c =
      let above : (y : X) → Contains xs y → key x < key y = λ y h.
      let weak : key x ≤ key y = subst (λ z. key x ≤ key z) h.2 (s 0 (suc h.0) y (omega arith) (omega (arith, h.1))) in
      let apart : key x ≡ key y → ⊥ = λ e. differ x xs y c (n x (Contains-here x xs)) (n y (Contains-there x xs y h)) h (sym (k x (Contains-here x xs)) ∙ e ∙ k y (Contains-there x xs y h)) in
      omega (arith, weak, apart) in
      and_from (list_all (nat_lt (key x)) (map key xs)) (ascend (map key xs))
      (each_passes (nat_lt (key x)) (map key xs) (λ m h. let r = Contains-from_map key xs m h in lt-ltb (key x) m (subst (λ z. key x < z) r.2 (above r.0 r.1))))
      (ascends key xs (λ i j d a b. s (suc i) (suc j) d (omega (arith, a)) (omega (arith, b)))
      (λ y h. k y (Contains-there x xs y h)) (λ y h. n y (Contains-there x xs y h)) (apart_right (l x) (flat_map l xs) c))

-- ---- the ends of a list
pub last_there : {X : Type 0} (x : X) (xs : List X) → Contains (x ∷ xs) (last_of x xs)
last_there x [] = Contains-here x []
last_there x (y ∷ ys) = Contains-there x (y ∷ ys) (last_of y ys) (last_there y ys)

last_key : {X : Type 0} (key : X → ℕ) (x : X) (xs : List X) → last_from (key x) (map key xs) ≡ key (last_of x xs)
last_key key x [] = refl
last_key key x (y ∷ ys) = last_key key y ys

first_turned : {X : Type 0} (key : X → ℕ) (x : X) (xs : List X) → (0 < length (top_first (x ∷ xs))) × (first_or_zero (map key (top_first (x ∷ xs))) ≡ key (last_of x xs))
first_turned key x [] = (omega arith, refl)
first_turned key x (y ∷ ys) =
    let r = first_turned key y ys in
    let front = top_first (y ∷ ys) in (
      omega (arith, length-append front (x ∷ [])),
      ap first_or_zero (map-append key front (x ∷ [])) ∙ first_more (map key front) (key x) (omega (arith, r.0, length-map front key)) ∙ r.1,
    )

ends : (xs : List ℕ) → 0 < length xs → rises xs ≡ nat_lt (first_or_zero xs) (last_or_zero xs)
ends [] h = absurd (omega (arith, h))
ends (x ∷ xs) h = refl

-- from its first to its last element a list rises, or it does so turned round
pub rises_forth : {X : Type 0} (key : X → ℕ) (x : X) (xs : List X) → nat_lt (key x) (key (last_of x xs)) ≡ true → rises (map key (x ∷ xs)) ≡ true
rises_forth key x xs h = ap (nat_lt (key x)) (last_key key x xs) ∙ h

pub rises_back : {X : Type 0} (key : X → ℕ) (x : X) (xs : List X) → key (last_of x xs) < key x → rises (map key (top_first (x ∷ xs))) ≡ true
rises_back key x xs h =
    let r = first_turned key x xs in
    let all = top_first (x ∷ xs) in
    ends (map key all) (omega (arith, r.0, length-map all key))
    ∙ ap (λ k. nat_lt k (last_or_zero (map key all))) r.1
    ∙ ap (λ l. nat_lt (key (last_of x xs)) (last_or_zero l)) (map-append key (top_first xs) (x ∷ []))
    ∙ ap (nat_lt (key (last_of x xs))) (last_more (map key (top_first xs)) (key x))
    ∙ lt-ltb (key (last_of x xs)) (key x) h
