-- Parts of a flat cactus that hang from a few nodes: what joins their nodes, and which of these each cut takes away.
use Rattle.std.proofs.Common.{◌≡◌, ℕ, ◌+◌, ◌≤◌, ◌<◌, Bool, true, false, ◌&&◌, List, [], ◌∷◌, ◌++◌, ◌⊎◌, inl, inr, map, refl, sym, ◌∙◌, ap, subst, arith}
use Rattle.std.specs.Prelude.{nat_le, nat_lt}
use Rattle.std.specs.List.{Contains}
use Rattle.std.proofs.lemmas.Bool.{cases_lt}
use Rattle.std.proofs.lemmas.List.{append_assoc, map-append}
use Rattle.std.proofs.lemmas.List.Elements.{Contains-append_cases, Contains-append_left, Contains-append_right}
use Rattle.cut_definitions.proofs.Lists.{Contains-map, Contains-from_map, Contains-nil}
use Rattle.rooted_cactus.specs.CutRanges.{Range}
use Rattle.flat_cactus.specs.Flattened.{Joins, no_joins, beside}
use Rattle.flat_cactus.specs.FlatCuts.{IsClosed, cycle_edges, without_one, without_two, without_two_of_one}
use Rattle.flat_cactus.proofs.Closing.{Edges, around, around_append, Splits, split_around, split_four, IsEach}

-- ---- numbers in a range
abbrev pub inside : Range → ℕ → Bool
inside r i = nat_le r.from i && nat_lt i r.to

pub within_range : (r : Range) (i : ℕ) → r.from ≤ i → i < r.to → inside r i ≡ true
within_range r i h k = grind arith

pub before_range : (r : Range) (i : ℕ) → i < r.from → inside r i ≡ false
before_range r i h = grind arith

pub behind_range : (r : Range) (i : ℕ) → r.to ≤ i → inside r i ≡ false
behind_range r i h = grind arith

-- ---- lists without some of their entries
map_same : {X : Type 0} (f : X → X) → ((x : X) → f x ≡ x) → (xs : List X) → map f xs ≡ xs
map_same f h [] = refl
map_same f h (x ∷ xs) = ap (λ y. y ∷ map f xs) (h x) ∙ ap (λ l. x ∷ l) (map_same f h xs)

pub map_one : {X Y Z : Type 0} (f : Y → Z) (g : X → Y) (h : X → Z) → ((x : X) → f (g x) ≡ h x) → (xs : List X) → map f (map g xs) ≡ map h xs
map_one f g h e [] = refl
map_one f g h e (x ∷ xs) = ap (λ z. z ∷ map f (map g xs)) (e x) ∙ ap (λ l. h x ∷ l) (map_one f g h e xs)

map_two : {X Y V Z : Type 0} (f : Y → Z) (g : X → Y) (h : V → Z) (k : X → V) → ((x : X) → f (g x) ≡ h (k x)) → (xs : List X) → map f (map g xs) ≡ map h (map k xs)
map_two f g h k e [] = refl
map_two f g h k e (x ∷ xs) = ap (λ z. z ∷ map f (map g xs)) (e x) ∙ ap (λ l. h (k x) ∷ l) (map_two f g h k e xs)

one_append : {X : Type 0} (xs ys : List X) → without_one (xs ++ ys) ≡ map (λ l. l ++ ys) (without_one xs) ++ map (λ l. xs ++ l) (without_one ys)
one_append [] ys = sym (map_same (λ l. l) (λ l. refl) (without_one ys))
one_append (x ∷ xs) ys =
    ap (λ t. (xs ++ ys) ∷ map (λ l. x ∷ l) t) (one_append xs ys)
    ∙ ap (λ t. (xs ++ ys) ∷ t) (map-append (λ l. x ∷ l) (map (λ l. l ++ ys) (without_one xs)) (map (λ l. xs ++ l) (without_one ys))
    ∙ ap (λ t. t ++ map (λ l. x ∷ l) (map (λ l. xs ++ l) (without_one ys))) (map_two (λ l. x ∷ l) (λ l. l ++ ys) (λ l. l ++ ys) (λ l. x ∷ l) (λ l. refl) (without_one xs))
    ∙ ap (λ t. map (λ l. l ++ ys) (map (λ l. x ∷ l) (without_one xs)) ++ t) (map_one (λ l. x ∷ l) (λ l. xs ++ l) (λ l. x ∷ (xs ++ l)) (λ l. refl) (without_one ys)))

two_of_one_append : (cs ds : List (List ℕ)) → without_two_of_one (cs ++ ds) ≡ map (λ l. l ++ around ds) (without_two_of_one cs) ++ map (λ l. around cs ++ l) (without_two_of_one ds)
two_of_one_append [] ds = sym (map_same (λ l. l) (λ l. refl) (without_two_of_one ds))
two_of_one_append (c ∷ cs) ds =
    let C = cycle_edges c in
    let T = without_two C in
    let A : map (λ l. l ++ around (cs ++ ds)) T ≡ map (λ l. l ++ around ds) (map (λ l. l ++ around cs) T) =
    sym (map_one (λ l. l ++ around ds) (λ l. l ++ around cs) (λ l. l ++ around (cs ++ ds)) (λ l. append_assoc l (around cs) (around ds) ∙ ap (λ t. l ++ t) (sym (around_append cs ds))) T) in
    let B : map (λ l. C ++ l) (map (λ l. l ++ around ds) (without_two_of_one cs)) ≡ map (λ l. l ++ around ds) (map (λ l. C ++ l) (without_two_of_one cs)) =
    map_two (λ l. C ++ l) (λ l. l ++ around ds) (λ l. l ++ around ds) (λ l. C ++ l) (λ l. sym (append_assoc C l (around ds))) (without_two_of_one cs) in
    let D : map (λ l. C ++ l) (map (λ l. around cs ++ l) (without_two_of_one ds)) ≡ map (λ l. (C ++ around cs) ++ l) (without_two_of_one ds) =
    map_one (λ l. C ++ l) (λ l. around cs ++ l) (λ l. (C ++ around cs) ++ l) (λ l. sym (append_assoc C (around cs) l)) (without_two_of_one ds) in
    let M = map (λ l. C ++ l) (map (λ l. l ++ around ds) (without_two_of_one cs)) in
    let N = map (λ l. C ++ l) (map (λ l. around cs ++ l) (without_two_of_one ds)) in
    ap (λ t. map (λ l. l ++ around (cs ++ ds)) T ++ map (λ l. C ++ l) t) (two_of_one_append cs ds)
    ∙ ap (λ t. map (λ l. l ++ around (cs ++ ds)) T ++ t) (map-append (λ l. C ++ l) (map (λ l. l ++ around ds) (without_two_of_one cs)) (map (λ l. around cs ++ l) (without_two_of_one ds)))
    ∙ ap (λ t. t ++ (M ++ N)) A
    ∙ ap (λ t. map (λ l. l ++ around ds) (map (λ l. l ++ around cs) T) ++ (t ++ N)) B
    ∙ ap (λ t. map (λ l. l ++ around ds) (map (λ l. l ++ around cs) T) ++ (map (λ l. l ++ around ds) (map (λ l. C ++ l) (without_two_of_one cs)) ++ t)) D
    ∙ sym (append_assoc (map (λ l. l ++ around ds) (map (λ l. l ++ around cs) T)) (map (λ l. l ++ around ds) (map (λ l. C ++ l) (without_two_of_one cs))) (map (λ l. (C ++ around cs) ++ l) (without_two_of_one ds)))
    ∙ ap (λ t. t ++ map (λ l. (C ++ around cs) ++ l) (without_two_of_one ds)) (sym (map-append (λ l. l ++ around ds) (map (λ l. l ++ around cs) T) (map (λ l. C ++ l) (without_two_of_one cs))))

one_left : {X : Type 0} (xs ys : List X) (l : List X) → Contains (without_one xs) l → Contains (without_one (xs ++ ys)) (l ++ ys)
one_left xs ys l h =
    subst (λ t. Contains t (l ++ ys)) (sym (one_append xs ys))
    (Contains-append_left (map (λ k. k ++ ys) (without_one xs)) (map (λ k. xs ++ k) (without_one ys)) (l ++ ys) (Contains-map (λ k. k ++ ys) (without_one xs) l h))

one_right : {X : Type 0} (xs ys : List X) (l : List X) → Contains (without_one ys) l → Contains (without_one (xs ++ ys)) (xs ++ l)
one_right xs ys l h =
    subst (λ t. Contains t (xs ++ l)) (sym (one_append xs ys))
    (Contains-append_right (map (λ k. k ++ ys) (without_one xs)) (map (λ k. xs ++ k) (without_one ys)) (xs ++ l) (Contains-map (λ k. xs ++ k) (without_one ys) l h))

one_cases : {X : Type 0} (xs ys : List X) (l : List X) → Contains (without_one (xs ++ ys)) l →
    ((k : List X) × Contains (without_one xs) k × (k ++ ys ≡ l)) ⊎ ((k : List X) × Contains (without_one ys) k × (xs ++ k ≡ l))
one_cases xs ys l h = elim (Contains-append_cases (map (λ k. k ++ ys) (without_one xs)) (map (λ k. xs ++ k) (without_one ys)) l (subst (λ t. Contains t l) (one_append xs ys) h)) [
  | inl x ↦ inl (Contains-from_map (λ k. k ++ ys) (without_one xs) l x)
  | inr x ↦ inr (Contains-from_map (λ k. xs ++ k) (without_one ys) l x)
]

two_left : (cs ds : List (List ℕ)) (l : Edges) → Contains (without_two_of_one cs) l → Contains (without_two_of_one (cs ++ ds)) (l ++ around ds)
two_left cs ds l h =
    subst (λ t. Contains t (l ++ around ds)) (sym (two_of_one_append cs ds))
    (Contains-append_left (map (λ k. k ++ around ds) (without_two_of_one cs)) (map (λ k. around cs ++ k) (without_two_of_one ds)) (l ++ around ds) (Contains-map (λ k. k ++ around ds) (without_two_of_one cs) l h))

two_right : (cs ds : List (List ℕ)) (l : Edges) → Contains (without_two_of_one ds) l → Contains (without_two_of_one (cs ++ ds)) (around cs ++ l)
two_right cs ds l h =
    subst (λ t. Contains t (around cs ++ l)) (sym (two_of_one_append cs ds))
    (Contains-append_right (map (λ k. k ++ around ds) (without_two_of_one cs)) (map (λ k. around cs ++ k) (without_two_of_one ds)) (around cs ++ l) (Contains-map (λ k. around cs ++ k) (without_two_of_one ds) l h))

two_cases : (cs ds : List (List ℕ)) (l : Edges) → Contains (without_two_of_one (cs ++ ds)) l →
    ((k : Edges) × Contains (without_two_of_one cs) k × (k ++ around ds ≡ l)) ⊎ ((k : Edges) × Contains (without_two_of_one ds) k × (around cs ++ k ≡ l))
two_cases cs ds l h = elim (Contains-append_cases (map (λ k. k ++ around ds) (without_two_of_one cs)) (map (λ k. around cs ++ k) (without_two_of_one ds)) l (subst (λ t. Contains t l) (two_of_one_append cs ds) h)) [
  | inl x ↦ inl (Contains-from_map (λ k. k ++ around ds) (without_two_of_one cs) l x)
  | inr x ↦ inr (Contains-from_map (λ k. around cs ++ k) (without_two_of_one ds) l x)
]

-- ---- what joins the nodes
abbrev pub edges_of : Joins → Edges
edges_of j = j.bridges ++ around j.cycles

-- edges that join the numbers from `first` on, `size` of them, with each other and with the seeds
pub record IsLinked (seeds : List ℕ) (first size : ℕ) (edges : Edges) : Type 0 where
  pub closed : (set : ℕ → Bool) (b : Bool) → IsEach set b seeds → ((i : ℕ) → first ≤ i → i < first + size → set i ≡ b) → IsClosed edges set
  pub reached : (set : ℕ → Bool) → IsClosed edges set → IsEach set true seeds → (i : ℕ) → first ≤ i → i < first + size → set i ≡ true

-- with the edges that are left, the seeds reach just the numbers outside the range
pub record IsCutOff (seeds : List ℕ) (first size : ℕ) (r : Range) (left : Edges) : Type 0 where
  pub low : first ≤ r.from
  pub some : r.from < r.to
  pub high : r.to ≤ first + size
  pub seeds_outside : IsEach (inside r) false seeds
  pub uncrossed : IsClosed left (inside r)
  pub reached : (set : ℕ → Bool) → IsClosed left set → IsEach set true seeds → (i : ℕ) → first ≤ i → i < first + size → (i < r.from) ⊎ (r.to ≤ i) → set i ≡ true

-- a bridge that is taken away, and two edges of a cycle
abbrev pub LeftByBridge : Joins → (Edges → Type 0) → Type 0
LeftByBridge j P = (l : Edges) × Contains (without_one j.bridges) l × P (l ++ around j.cycles)

abbrev pub LeftByCycle : Joins → (Edges → Type 0) → Type 0
LeftByCycle j P = (l : Edges) × Contains (without_two_of_one j.cycles) l × P (j.bridges ++ l)

-- numbers that hang from seeds, with the ranges of the cuts between them
pub record IsPiece (seeds : List ℕ) (first size : ℕ) (ranges : List Range) (j : Joins) : Type 0 where
  pub linked : IsLinked seeds first size (edges_of j)
  pub each_range : (r : Range) → Contains ranges r → LeftByBridge j (IsCutOff seeds first size r) ⊎ LeftByCycle j (IsCutOff seeds first size r)
  pub each_bridge : (l : Edges) → Contains (without_one j.bridges) l → (r : Range) × Contains ranges r × IsCutOff seeds first size r (l ++ around j.cycles)
  pub each_cycle : (l : Edges) → Contains (without_two_of_one j.cycles) l → (r : Range) × Contains ranges r × IsCutOff seeds first size r (j.bridges ++ l)

pub no_piece : (seeds : List ℕ) (first : ℕ) → IsPiece seeds first 0 [] no_joins
no_piece seeds first = record {
  linked = record { closed = λ set b h k. tt; reached = λ set h k i a b. absurd (omega (arith, a, b)) };
  each_range = λ r h. absurd (Contains-nil r h);
  each_bridge = λ l h. absurd (Contains-nil l h);
  each_cycle = λ l h. absurd (Contains-nil l h);
}

-- ---- two pieces side by side
module _ (seeds one two : List ℕ) (first m n : ℕ)
    (to_one : (set : ℕ → Bool) (b : Bool) → IsEach set b seeds → IsEach set b one)
    (to_two : (set : ℕ → Bool) (b : Bool) → IsEach set b seeds → IsEach set b two)
    (out_one : (r : Range) → r.to ≤ first + m → IsEach (inside r) false one → IsEach (inside r) false seeds)
    (out_two : (r : Range) → first + m ≤ r.from → IsEach (inside r) false two → IsEach (inside r) false seeds) where
  pub linked_beside : (whole a b : Edges) → Splits whole a b → IsLinked one first m a → IsLinked two (first + m) n b → IsLinked seeds first (m + n) whole
  linked_beside whole a b s g h = record {
    closed = λ set x e k. s.both set (g.closed set x (to_one set x e) (λ i p q. k i p (omega (arith, q)))) (h.closed set x (to_two set x e) (λ i p q. k i (omega (arith, p)) (omega (arith, q))));
    reached = λ set c e i p q. elim (cases_lt i (first + m)) [
      | inl u ↦ g.reached set (s.first set c) (to_one set true e) i p u
      | inr u ↦ h.reached set (s.second set c) (to_two set true e) i u (omega (arith, q))
    ];
  }

  cut_first : (r : Range) (whole left rest : Edges) → Splits whole left rest → IsCutOff one first m r left → IsLinked two (first + m) n rest → IsCutOff seeds first (m + n) r whole
  cut_first r whole left rest s c h =
      let out : IsEach (inside r) false seeds = out_one r c.high c.seeds_outside in
      record {
        low = c.low;
        some = c.some;
        high = omega (arith, c.high);
        seeds_outside = out;
        uncrossed = s.both (inside r) c.uncrossed (h.closed (inside r) false (to_two (inside r) false out) (λ i p q. behind_range r i (omega (arith, c.high, p))));
        reached = λ set k e i p q o. elim (cases_lt i (first + m)) [
          | inl u ↦ c.reached set (s.first set k) (to_one set true e) i p u o
          | inr u ↦ h.reached set (s.second set k) (to_two set true e) i u (omega (arith, q))
        ];
      }

  cut_second : (r : Range) (whole left rest : Edges) → Splits whole rest left → IsCutOff two (first + m) n r left → IsLinked one first m rest → IsCutOff seeds first (m + n) r whole
  cut_second r whole left rest s c g =
      let out : IsEach (inside r) false seeds = out_two r c.low c.seeds_outside in
      record {
        low = omega (arith, c.low);
        some = c.some;
        high = omega (arith, c.high);
        seeds_outside = out;
        uncrossed = s.both (inside r) (g.closed (inside r) false (to_one (inside r) false out) (λ i p q. before_range r i (omega (arith, c.low, q)))) c.uncrossed;
        reached = λ set k e i p q o. elim (cases_lt i (first + m)) [
          | inl u ↦ g.reached set (s.first set k) (to_one set true e) i p u
          | inr u ↦ c.reached set (s.second set k) (to_two set true e) i u (omega (arith, q)) o
        ];
      }

  pub piece_beside : (rs ss : List Range) (a b : Joins) → IsPiece one first m rs a → IsPiece two (first + m) n ss b → IsPiece seeds first (m + n) (rs ++ ss) (beside a b)
  piece_beside rs ss a b g h =
      let A = a.bridges in
      let B = b.bridges in
      record {
        linked = linked_beside (edges_of (beside a b)) (edges_of a) (edges_of b) (split_around A B a.cycles b.cycles) g.linked h.linked;
        each_range = λ r e. elim (Contains-append_cases rs ss r e) [
          | inl x ↦ elim (g.each_range r x) [
            | inl y ↦ inl (y.0 ++ B, one_left A B y.0 y.1, cut_first r _ _ _ (split_around y.0 B a.cycles b.cycles) y.2 h.linked)
            | inr y ↦ inr (y.0 ++ around b.cycles, two_left a.cycles b.cycles y.0 y.1, cut_first r _ _ _ (split_four A B y.0 (around b.cycles)) y.2 h.linked)
          ]
          | inr x ↦ elim (h.each_range r x) [
            | inl y ↦ inl (A ++ y.0, one_right A B y.0 y.1, cut_second r _ _ _ (split_around A y.0 a.cycles b.cycles) y.2 g.linked)
            | inr y ↦ inr (around a.cycles ++ y.0, two_right a.cycles b.cycles y.0 y.1, cut_second r _ _ _ (split_four A B (around a.cycles) y.0) y.2 g.linked)
          ]
        ];
        each_bridge = λ l e. elim (one_cases A B l e) [
          | inl x ↦ let y = g.each_bridge x.0 x.1 in
              (y.0, Contains-append_left rs ss y.0 y.1, subst (λ z. IsCutOff seeds first (m + n) y.0 (z ++ around (a.cycles ++ b.cycles))) x.2 (cut_first y.0 _ _ _ (split_around x.0 B a.cycles b.cycles) y.2 h.linked))
          | inr x ↦ let y = h.each_bridge x.0 x.1 in
              (y.0, Contains-append_right rs ss y.0 y.1, subst (λ z. IsCutOff seeds first (m + n) y.0 (z ++ around (a.cycles ++ b.cycles))) x.2 (cut_second y.0 _ _ _ (split_around A x.0 a.cycles b.cycles) y.2 g.linked))
        ];
        each_cycle = λ l e. elim (two_cases a.cycles b.cycles l e) [
          | inl x ↦ let y = g.each_cycle x.0 x.1 in
              (y.0, Contains-append_left rs ss y.0 y.1, subst (λ z. IsCutOff seeds first (m + n) y.0 ((A ++ B) ++ z)) x.2 (cut_first y.0 _ _ _ (split_four A B x.0 (around b.cycles)) y.2 h.linked))
          | inr x ↦ let y = h.each_cycle x.0 x.1 in
              (y.0, Contains-append_right rs ss y.0 y.1, subst (λ z. IsCutOff seeds first (m + n) y.0 ((A ++ B) ++ z)) x.2 (cut_second y.0 _ _ _ (split_four A B (around a.cycles) x.0) y.2 g.linked))
        ];
      }
