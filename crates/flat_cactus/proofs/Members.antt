-- One more vertex of the last node of a flat cactus, and one more node of its last cycle.
use Rattle.std.proofs.Common.{◌≡◌, ℕ, zero, suc, ◌+◌, ◌-◌, ◌≤◌, ◌<◌, List, [], ◌∷◌, ◌++◌, length, get_or, take, drop, map, ap, ◌∙◌, sym, refl, arith, length-append, length-drop}
use Rattle.std.specs.List.{flat_map}
use Rattle.std.proofs.Math.Seq.{take-suc}
use Rattle.std.proofs.lemmas.List.{append_assoc, map-append, get_or-drop}
use Rattle.rooted_cactus.specs.declared.tree.Node.{Node}
use Rattle.rooted_cactus.specs.Outlines.{sizes}
use Rattle.flat_cactus.specs.Flat.{Flat, appended_to_last}
use Rattle.flat_cactus.specs.Flattened.{TreeJoins, tree_joins, trees_size, roots_from}
use Rattle.flat_cactus.specs.Tasks.{with_cycle}
use Rattle.flat_cactus.proofs.Flats.{appended_last}
use Rattle.flat_cactus.proofs.TreePieces.{tree_holds}
use Rattle.flat_cactus.proofs.Tasked.{sizes_many, sizes_first, rest_after}

pub vertex_added : (f0 f g : Flat) (xs : List ℕ) (i d v : ℕ) → f ≡ record f0 { nodes = f0.nodes ++ take i xs ∷ [] } → g ≡ record f { nodes = appended_to_last f.nodes v } → i < length xs → v ≡ get_or xs i d → g ≡ record f0 { nodes = f0.nodes ++ take (i + 1) xs ∷ [] }
vertex_added f0 f g xs i d v a b h is =
    let append : Flat → Flat = λ k. record k { nodes = appended_to_last k.nodes v } in
    let holding : List (List ℕ) → Flat = λ l. record f0 { nodes = l } in
    let next : suc i ≡ i + 1 = omega arith in
    let longer : take i xs ++ v ∷ [] ≡ take (i + 1) xs = ap (λ w. take i xs ++ w ∷ []) is ∙ sym (take-suc xs i d h) ∙ ap (λ k. take k xs) next in
    b ∙ ap append a ∙ ap holding (appended_last f0.nodes (take i xs) v ∙ ap (λ l. f0.nodes ++ l ∷ []) longer)

pub member_added : (f0 f g : Flat) (c : List ℕ) (r : ℕ) → f ≡ record f0 { cycles = f0.cycles ++ c ∷ [] } → g ≡ record f { cycles = appended_to_last f.cycles r } → g ≡ record f0 { cycles = f0.cycles ++ (c ++ r ∷ []) ∷ [] }
member_added f0 f g c r a b =
    let append : Flat → Flat = λ k. record k { cycles = appended_to_last k.cycles r } in
    let holding : List (List ℕ) → Flat = λ l. record f0 { cycles = l } in
    b ∙ ap append a ∙ ap holding (appended_last f0.cycles c r)

-- the element at a place
element : {X : Type 0} (xs : List X) (i : ℕ) → i < length xs → (x : X) × (take (suc i) xs ≡ take i xs ++ x ∷ []) × (drop i xs ≡ x ∷ drop (suc i) xs)
element [] i h = absurd (omega (arith, h))
element (x ∷ xs) zero h = (x, refl, refl)
element (x ∷ xs) (suc i) h = let r = element xs i (omega (arith, h)) in (r.0, ap (λ l. x ∷ l) r.1, r.2)

roots_more : (n : ℕ) (ts : List TreeJoins) (t : TreeJoins) → roots_from n (ts ++ t ∷ []) ≡ roots_from n ts ++ (n + trees_size ts) ∷ []
roots_more n [] t = let e : n ≡ n + 0 = omega arith in ap (λ k. k ∷ []) e
roots_more n (s ∷ ts) t = let e : (n + s.size) + trees_size ts ≡ n + (s.size + trees_size ts) = omega arith in ap (λ l. n ∷ l) (roots_more (n + s.size) ts t ∙ ap (λ k. roots_from (n + s.size) ts ++ k ∷ []) e)

size_more : (ts : List TreeJoins) (t : TreeJoins) → trees_size (ts ++ t ∷ []) ≡ trees_size ts + t.size
size_more [] t = omega arith
size_more (s ∷ ts) t = omega (arith, size_more ts t)

-- if the sizes from a place on begin with those of a tree
record IsAt (table : List ℕ) (root : ℕ) (x : Node) (more : List ℕ) : Type 0 where
  within : root < length table
  size : get_or table root 0 ≡ (tree_joins x).size
  fits : root + (tree_joins x).size ≤ length table
  next : drop (root + (tree_joins x).size) table ≡ more

is_at : (table : List ℕ) (root : ℕ) (x : Node) (more : List ℕ) → drop root table ≡ sizes x ++ more → IsAt table root x more
is_at table root x more h =
    let long : length table - root ≡ length (sizes x) + length more = sym (length-drop root table) ∙ ap length h ∙ length-append (sizes x) more in
    let some : 0 < (tree_joins x).size = (tree_holds x).some in
    let here : root + 0 ≡ root = omega arith in
    record {
      within = omega (arith, long, some, sizes_many x);
      size = ap (λ k. get_or table k 0) (sym here) ∙ sym (get_or-drop root table 0 0) ∙ ap (λ l. get_or l 0 0) h ∙ sizes_first x more;
      fits = omega (arith, long, some, sizes_many x);
      next = ap (λ k. drop (root + k) table) (sym (sizes_many x)) ∙ rest_after table (sizes x) more root h;
    }

-- what is known while the roots of a cycle are appended
abbrev pub Rest : List ℕ → ℕ → List Node → Type 0
Rest table root xs = (rest : List ℕ) × (drop root table ≡ flat_map sizes xs ++ rest)

at_place : (table : List ℕ) (root i : ℕ) (xs : List Node) → i < length xs → Rest table root (drop i xs) →
    (x : Node) × (take (suc i) xs ≡ take i xs ++ x ∷ []) × ((rest : List ℕ) × IsAt table root x (flat_map sizes (drop (suc i) xs) ++ rest))
at_place table root i xs h r =
    let e = element xs i h in
    (e.0, e.1, (r.0, is_at table root e.0 (flat_map sizes (drop (suc i) xs) ++ r.0) (r.1 ∙ ap (λ l. flat_map sizes l ++ r.0) e.2 ∙ append_assoc (sizes e.0) (flat_map sizes (drop (suc i) xs)) r.0)))

pub root_within : (table : List ℕ) (root i : ℕ) (xs : List Node) → i < length xs → Rest table root (drop i xs) → (root < length table) × (root + get_or table root 0 ≤ length table)
root_within table root i xs h r = let p = at_place table root i xs h r in (p.2.1.within, omega (arith, p.2.1.fits, p.2.1.size))

pub root_next : (table : List ℕ) (root i : ℕ) (xs : List Node) (n : ℕ) → i < length xs → Rest table root (drop i xs) → root ≡ n + trees_size (map tree_joins (take i xs)) →
    (root + get_or table root 0 ≡ n + trees_size (map tree_joins (take (i + 1) xs))) × Rest table (root + get_or table root 0) (drop (i + 1) xs)
root_next table root i xs n h r is =
    let p = at_place table root i xs h r in
    let q = p.2.1 in
    let next : suc i ≡ i + 1 = omega arith in
    let more : map tree_joins (take (i + 1) xs) ≡ map tree_joins (take i xs) ++ tree_joins p.0 ∷ [] = ap (λ k. map tree_joins (take k xs)) (sym next) ∙ ap (map tree_joins) p.1 ∙ map-append tree_joins (take i xs) (p.0 ∷ []) in (
      omega (arith, is, q.size, ap trees_size more, size_more (map tree_joins (take i xs)) (tree_joins p.0)),
      (p.2.0, ap (λ k. drop (root + k) table) q.size ∙ q.next ∙ ap (λ k. flat_map sizes (drop k xs) ++ p.2.0) next),
    )

pub root_added : (table : List ℕ) (root i : ℕ) (xs : List Node) (f0 f g : Flat) (up : ℕ) → i < length xs → Rest table root (drop i xs) → root ≡ length f0.nodes + trees_size (map tree_joins (take i xs)) →
    f ≡ with_cycle f0 up (take i xs) → g ≡ record f { cycles = appended_to_last f.cycles root } → g ≡ with_cycle f0 up (take (i + 1) xs)
root_added table root i xs f0 f g up h r is a b =
    let p = at_place table root i xs h r in
    let n = length f0.nodes in
    let next : suc i ≡ i + 1 = omega arith in
    let ts = map tree_joins (take i xs) in
    let holding : List ℕ → Flat = λ l. record f0 { cycles = f0.cycles ++ (up ∷ l) ∷ [] } in
    let more : map tree_joins (take (i + 1) xs) ≡ ts ++ tree_joins p.0 ∷ [] = ap (λ k. map tree_joins (take k xs)) (sym next) ∙ ap (map tree_joins) p.1 ∙ map-append tree_joins (take i xs) (p.0 ∷ []) in
    member_added f0 f g (up ∷ roots_from n ts) root a b
    ∙ ap holding (ap (λ k. roots_from n ts ++ k ∷ []) is ∙ sym (roots_more n ts (tree_joins p.0)) ∙ ap (roots_from n) (sym more))
