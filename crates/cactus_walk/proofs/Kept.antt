-- The ranges that a walk keeps: each range of a cut is at the places of one of them, and they are no more than the cuts.
use Rattle.std.proofs.Common.{◌≡◌, ℕ, zero, suc, ◌+◌, ◌≤◌, ◌<◌, ◌⊎◌, inl, inr, Bool, true, false, ◌&&◌, ◌==◌, List, [], ◌∷◌, ◌++◌, length, map, take, drop, ap, ◌∙◌, sym, refl, subst, arith}
use Rattle.std.specs.Prelude.{nat_le, slice_index}
use Rattle.std.specs.List.{Contains}
use Rattle.std.proofs.lemmas.Bool.{and_parts, eqb-true, leb-true}
use Rattle.std.proofs.lemmas.List.{append_assoc, length-append, length-map, map-append, take-map}
use Rattle.std.proofs.lemmas.List.Elements.{Contains-append_left, Contains-append_right, Contains-append_cases}
use Rattle.cut_definitions.proofs.Lists.{Contains-here, Contains-there, Contains-cons_cases, Contains-map, Contains-from_map}
use Rattle.rooted_cactus.specs.CutRanges.{Range}
use Rattle.rooted_cactus.specs.Outlines.{Hops}
use Rattle.rooted_cactus.specs.Borders.{AllHop, hops_end, hops_more, all_borders, borders_along, borders_at, placed, ranges_between, ranges_to}
use Rattle.cactus_walk.specs.Repeats.{all_marks, entry_at, is_between, marks_along, marks_at, passed_over, ranges_kept}
use Rattle.rooted_cactus.specs.declared.tree.outline.NodeOutline.{NodeOutline}
use Rattle.rooted_cactus.specs.declared.tree.border.Border.{Border}
use Rattle.cactus_walk.proofs.PlaceLaws.{range_placed, to_placed}

-- ---- parts of lists
pub map_drop : {X Y : Type 0} (f : X → Y) (d : ℕ) (xs : List X) → map f (drop d xs) ≡ drop d (map f xs)
map_drop f zero xs = refl
map_drop f (suc d) [] = refl
map_drop f (suc d) (x ∷ xs) = map_drop f d xs

drop_short : {X : Type 0} (d : ℕ) (xs : List X) → length (drop d xs) ≤ length xs
drop_short zero xs = omega arith
drop_short (suc d) [] = omega arith
drop_short (suc d) (x ∷ xs) = omega (arith, drop_short d xs)

from_drop : {X : Type 0} (d : ℕ) (xs : List X) (x : X) → Contains (drop d xs) x → Contains xs x
from_drop zero xs x h = h
from_drop (suc d) [] x h = h
from_drop (suc d) (y ∷ xs) x h = Contains-there y xs x (from_drop d xs x h)

-- ---- the ranges of a block by the numbers of its nodes
abbrev pub range : ℕ → ℕ → Range
range from to = record { from = from; to = to }

-- the ends of this many subtrees, one after another, from a number on
abbrev pub ends : List ℕ → ℕ → ℕ → List ℕ
ends s zero k = []
ends s (suc m) k = (k + slice_index s k) ∷ ends s m (k + slice_index s k)

abbrev pub all_to : ℕ → List ℕ → List Range
all_to from = map (range from)

-- the ranges of a block of this many nodes, but of each marked node not the one of it alone
abbrev pub along : (ℕ → Bool) → List ℕ → ℕ → ℕ → List Range
along f s zero k = []
along f s (suc m) k = all_to k (drop (passed_over (f k)) (ends s (suc m) k)) ++ along f s m (k + slice_index s k)

-- the ranges of the blocks of all entries, but of each marked node not the one of it alone
abbrev pub of_nodes : (ℕ → Bool) → List ℕ → ℕ → List NodeOutline → List Range
of_nodes f s k [] = []
of_nodes f s k (e ∷ es) = along f s e.head k ++ of_nodes f s (k + 1) es

abbrev pub never : ℕ → Bool
never _ = false

borders_to : (s : List ℕ) (m k from : ℕ) (rest : List Border) → ranges_to from (take (suc m) (borders_along s m k ++ rest)) ≡ all_to from (k ∷ ends s m k)
borders_to s zero k from rest = refl
borders_to s (suc m) k from rest = ap (λ l. range from k ∷ l) (borders_to s m (k + slice_index s k) from rest)

borders_past : (s : List ℕ) (m k from d : ℕ) (rest : List Border) → ranges_to from (drop d (take (suc m) (borders_along s m k ++ rest))) ≡ all_to from (drop d (k ∷ ends s m k))
borders_past s m k from d rest =
    map_drop (λ (b : Border). range from b.place) d (take (suc m) (borders_along s m k ++ rest))
    ∙ ap (drop d) (borders_to s m k from rest)
    ∙ sym (map_drop (range from) d (k ∷ ends s m k))

between_along : (s : List ℕ) (m k : ℕ) (rest : List Border) → ranges_between (borders_along s m k ++ rest) ≡ along never s m k ++ ranges_between rest
between_along s zero k rest = refl
between_along s (suc m) k rest =
    let next = k + slice_index s k in
    ap (λ l. l ++ ranges_between (borders_along s m next ++ rest)) (borders_to s m next k rest)
    ∙ ap (λ l. all_to k (ends s (suc m) k) ++ l) (between_along s m next rest)
    ∙ sym (append_assoc (all_to k (ends s (suc m) k)) (along never s m next) (ranges_between rest))

kept_along : (f : ℕ → Bool) (s : List ℕ) (m k : ℕ) (rest : List Border) (marks : List Bool) →
    ranges_kept (borders_along s m k ++ rest) (marks_along f s m k ++ marks) ≡ along f s m k ++ ranges_kept rest marks
kept_along f s zero k rest marks = refl
kept_along f s (suc m) k rest marks =
    let next = k + slice_index s k in
    let d = passed_over (f k) in
    ap (λ l. l ++ ranges_kept (borders_along s m next ++ rest) (marks_along f s m next ++ marks)) (borders_past s m next k d rest)
    ∙ ap (λ l. all_to k (drop d (ends s (suc m) k)) ++ l) (kept_along f s m next rest marks)
    ∙ sym (append_assoc (all_to k (drop d (ends s (suc m) k))) (along f s m next) (ranges_kept rest marks))

between_at : (s : List ℕ) (m k : ℕ) (rest : List Border) → ranges_between (borders_at s m k ++ rest) ≡ along never s m k ++ ranges_between rest
between_at s zero k rest = refl
between_at s (suc m) k rest = between_along s (suc m) k rest

kept_at : (f : ℕ → Bool) (s : List ℕ) (m k : ℕ) (rest : List Border) (marks : List Bool) →
    ranges_kept (borders_at s m k ++ rest) (marks_at f s m k ++ marks) ≡ along f s m k ++ ranges_kept rest marks
kept_at f s zero k rest marks = refl
kept_at f s (suc m) k rest marks = kept_along f s (suc m) k rest marks

between_all : (s : List ℕ) (k : ℕ) (es : List NodeOutline) → ranges_between (all_borders s k es) ≡ of_nodes never s k es
between_all s k [] = refl
between_all s k (e ∷ es) = between_at s e.head k (all_borders s (k + 1) es) ∙ ap (λ l. along never s e.head k ++ l) (between_all s (k + 1) es)

kept_all : (f : ℕ → Bool) (s : List ℕ) (k : ℕ) (es : List NodeOutline) → ranges_kept (all_borders s k es) (all_marks f s k es) ≡ of_nodes f s k es
kept_all f s k [] = refl
kept_all f s k (e ∷ es) = kept_at f s e.head k (all_borders s (k + 1) es) (all_marks f s (k + 1) es) ∙ ap (λ l. along f s e.head k ++ l) (kept_all f s (k + 1) es)

-- ---- borders at places
kept_placed : (places : List ℕ) (bs : List Border) (ms : List Bool) → ranges_kept (map (placed places) bs) ms ≡ map (range_placed places) (ranges_kept bs ms)
kept_placed places [] ms = refl
kept_placed places (b ∷ bs) [] = refl
kept_placed places (b ∷ bs) (m ∷ ms) =
    let d = passed_over m in
    ap (λ l. ranges_to (slice_index places b.place) (drop d l) ++ ranges_kept (map (placed places) bs) ms) (take-map (placed places) b.following bs)
    ∙ ap (λ l. ranges_to (slice_index places b.place) l ++ ranges_kept (map (placed places) bs) ms) (sym (map_drop (placed places) d (take b.following bs)))
    ∙ ap (λ l. l ++ ranges_kept (map (placed places) bs) ms) (to_placed places b.place (drop d (take b.following bs)))
    ∙ ap (λ l. map (range_placed places) (ranges_to b.place (drop d (take b.following bs))) ++ l) (kept_placed places bs ms)
    ∙ sym (map-append (range_placed places) (ranges_to b.place (drop d (take b.following bs))) (ranges_kept bs ms))

-- ---- no more than the cuts
pub kept_few : (bs : List Border) (ms : List Bool) → length (ranges_kept bs ms) ≤ length (ranges_between bs)
kept_few [] ms = omega arith
kept_few (b ∷ bs) [] = omega arith
kept_few (b ∷ bs) (m ∷ ms) =
    let t = take b.following bs in
    let g : Border → Range = λ c. range b.place c.place in
    omega (
      arith,
      length-append (ranges_to b.place (drop (passed_over m) t)) (ranges_kept bs ms),
      length-append (ranges_to b.place t) (ranges_between bs),
      length-map (drop (passed_over m) t) g,
      length-map t g,
      drop_short (passed_over m) t,
      kept_few bs ms,
    )

-- ---- what is kept is the range of a cut
along_back : (f : ℕ → Bool) (s : List ℕ) (m k : ℕ) (r : Range) → Contains (along f s m k) r → Contains (along never s m k) r
along_back f s zero k r h = h
along_back f s (suc m) k r h =
    let next = k + slice_index s k in
    let d = passed_over (f k) in
    let all = ends s (suc m) k in
    elim (Contains-append_cases (all_to k (drop d all)) (along f s m next) r h) [
      | inl here ↦ Contains-append_left (all_to k all) (along never s m next) r (from_drop d (all_to k all) r (subst (λ l. Contains l r) (map_drop (range k) d all) here))
      | inr there ↦ Contains-append_right (all_to k all) (along never s m next) r (along_back f s m next r there)
    ]

nodes_back : (f : ℕ → Bool) (s : List ℕ) (k : ℕ) (es : List NodeOutline) (r : Range) → Contains (of_nodes f s k es) r → Contains (of_nodes never s k es) r
nodes_back f s k [] r h = h
nodes_back f s k (e ∷ es) r h = elim (Contains-append_cases (along f s e.head k) (of_nodes f s (k + 1) es) r h) [
  | inl here ↦ Contains-append_left (along never s e.head k) (of_nodes never s (k + 1) es) r (along_back f s e.head k r here)
  | inr there ↦ Contains-append_right (along never s e.head k) (of_nodes never s (k + 1) es) r (nodes_back f s (k + 1) es r there)
]

-- ---- what is left out is the range of a marked node alone
abbrev OfMarked : (ℕ → Bool) → List ℕ → Range → Type 0
OfMarked f s r = (k : ℕ) × (f k ≡ true) × (r ≡ range k (k + slice_index s k))

first_or_kept : (b : Bool) (from to : ℕ) (later : List ℕ) (r : Range) → Contains (all_to from (to ∷ later)) r → Contains (all_to from (drop (passed_over b) (to ∷ later))) r ⊎ ((b ≡ true) × (r ≡ range from to))
first_or_kept false from to later r h = inl h
first_or_kept true from to later r h = elim (Contains-cons_cases (range from to) (all_to from later) r h) [ inl e ↦ inr (refl, sym e) | inr there ↦ inl there ]

along_cases : (f : ℕ → Bool) (s : List ℕ) (m k : ℕ) (r : Range) → Contains (along never s m k) r → Contains (along f s m k) r ⊎ OfMarked f s r
along_cases f s zero k r h = inl h
along_cases f s (suc m) k r h =
    let next = k + slice_index s k in
    let d = passed_over (f k) in
    let all = ends s (suc m) k in
    elim (Contains-append_cases (all_to k all) (along never s m next) r h) [
      | inl here ↦ elim (first_or_kept (f k) k next (ends s m next) r here) [
        | inl kept ↦ inl (Contains-append_left (all_to k (drop d all)) (along f s m next) r kept)
        | inr out ↦ inr (k, out.0, out.1)
      ]
      | inr there ↦ elim (along_cases f s m next r there) [
        | inl kept ↦ inl (Contains-append_right (all_to k (drop d all)) (along f s m next) r kept)
        | inr out ↦ inr out
      ]
    ]

nodes_cases : (f : ℕ → Bool) (s : List ℕ) (k : ℕ) (es : List NodeOutline) (r : Range) → Contains (of_nodes never s k es) r → Contains (of_nodes f s k es) r ⊎ OfMarked f s r
nodes_cases f s k [] r h = inl h
nodes_cases f s k (e ∷ es) r h = elim (Contains-append_cases (along never s e.head k) (of_nodes never s (k + 1) es) r h) [
  | inl here ↦ elim (along_cases f s e.head k r here) [
    | inl kept ↦ inl (Contains-append_left (along f s e.head k) (of_nodes f s (k + 1) es) r kept)
    | inr out ↦ inr out
  ]
  | inr there ↦ elim (nodes_cases f s (k + 1) es r there) [
    | inl kept ↦ inl (Contains-append_right (along f s e.head k) (of_nodes f s (k + 1) es) r kept)
    | inr out ↦ inr out
  ]
]

-- ---- the range of a whole block of two or more nodes is kept
last_end : (s : List ℕ) (m k to : ℕ) → Hops s (suc m) k to → Contains (ends s (suc m) k) to
last_end s zero k to h = subst (λ t. Contains (ends s 1 k) t) h.1 (Contains-here (k + slice_index s k) [])
last_end s (suc m) k to h = let next = k + slice_index s k in Contains-there next (ends s (suc m) next) to (last_end s m next to h.1)

not_first : (b : Bool) (from to : ℕ) (later : List ℕ) (r : Range) → Contains (all_to from later) r → Contains (all_to from (drop (passed_over b) (to ∷ later))) r
not_first false from to later r h = Contains-there (range from to) (all_to from later) r h
not_first true from to later r h = h

whole_kept : (f : ℕ → Bool) (s : List ℕ) (m k to : ℕ) → 2 ≤ m → Hops s m k to → Contains (along f s m k) (range k to)
whole_kept f s zero k to two h = absurd (omega (arith, two))
whole_kept f s (suc zero) k to two h = absurd (omega (arith, two))
whole_kept f s (suc (suc m)) k to two h =
    let next = k + slice_index s k in
    Contains-append_left (all_to k (drop (passed_over (f k)) (ends s (suc (suc m)) k))) (along f s (suc m) next) (range k to)
    (not_first (f k) k next (ends s (suc m) next) (range k to) (Contains-map (range k) (ends s (suc m) next) to (last_end s m next to h.1)))

block_kept : (f : ℕ → Bool) (s : List ℕ) (k : ℕ) (es : List NodeOutline) (i j to : ℕ) → i < length es → j ≡ k + i → 2 ≤ (entry_at es i).head → Hops s (entry_at es i).head j to → Contains (of_nodes f s k es) (range j to)
block_kept f s k [] i j to h e two hops = absurd (omega (arith, h))
block_kept f s k (x ∷ es) zero j to h e two hops =
    let same : j ≡ k = omega (arith, e) in
    let moved : Hops s x.head k to = subst (λ m. Hops s x.head m to) same hops in
    subst (λ m. Contains (of_nodes f s k (x ∷ es)) (range m to)) (sym same)
    (Contains-append_left (along f s x.head k) (of_nodes f s (k + 1) es) (range k to) (whole_kept f s x.head k to two moved))
block_kept f s k (x ∷ es) (suc i) j to h e two hops =
    Contains-append_right (along f s x.head k) (of_nodes f s (k + 1) es) (range j to) (block_kept f s (k + 1) es i j to (omega (arith, h)) (omega (arith, e)) two hops)

-- ---- a marked node, and the block below it
own_at : (s : List ℕ) (k : ℕ) (es : List NodeOutline) → AllHop s k es → (i j : ℕ) → i < length es → j ≡ k + i → Hops s (entry_at es i).children (j + 1) (j + slice_index s j)
own_at s k es (hops_end t l) i j h e = absurd (omega (arith, h))
own_at s k es (hops_more t l x xs at rest) zero j h e =
    let f : l ≡ j = omega (arith, e) in subst (λ m. Hops t x.children (m + 1) (m + slice_index t m)) f at.children
own_at s k es (hops_more t l x xs at rest) (suc i) j h e = own_at t (l + 1) xs rest i j (omega (arith, h)) (omega (arith, e))

-- an entry with a head is there
entry_there : (es : List NodeOutline) (i : ℕ) → 1 ≤ (entry_at es i).head → i < length es
entry_there [] i h = absurd (omega (arith, h))
entry_there (e ∷ es) zero h = omega arith
entry_there (e ∷ es) (suc i) h = omega (arith, entry_there es i h)

record Between (places : List ℕ) (es : List NodeOutline) (i : ℕ) : Type 0 where
  some : 2 ≤ (entry_at es (i + 1)).head
  all : (entry_at es (i + 1)).head ≡ (entry_at es i).children
  empty : slice_index places i ≡ slice_index places (i + 1)

between_is : (places : List ℕ) (es : List NodeOutline) (i : ℕ) → is_between places es i ≡ true → Between places es i
between_is places es i h =
    let head = (entry_at es (i + 1)).head in
    let children = (entry_at es i).children in
    let a = and_parts (nat_le 2 children) (head == children && (slice_index places i == slice_index places (i + 1))) h in
    let b = and_parts (head == children) (slice_index places i == slice_index places (i + 1)) a.1 in
    let all : head ≡ children = eqb-true head children b.0 in
    record { some = omega (arith, leb-true 2 children a.0, all); all = all; empty = eqb-true (slice_index places i) (slice_index places (i + 1)) b.1 }

-- each range of a cut is at the places of one that is kept
module _ (places s : List ℕ) (es : List NodeOutline) (hops : AllHop s 0 es) where
  abbrev pub marked : ℕ → Bool
  marked = is_between places es

  given_below : (r : Range) → OfMarked marked s r → (q : Range) × Contains (of_nodes marked s 0 es) q × (range_placed places q ≡ range_placed places r)
  given_below r out =
      let k = out.0 in
      let b = between_is places es k out.1 in
      let there : k + 1 < length es = entry_there es (k + 1) (omega (arith, b.some)) in
      let end = k + slice_index s k in
      let own : Hops s (entry_at es k).children (k + 1) end = own_at s 0 es hops k k (omega (arith, there)) (omega arith) in
      let block : Hops s (entry_at es (k + 1)).head (k + 1) end = subst (λ m. Hops s m (k + 1) end) (sym b.all) own in (
        range (k + 1) end,
        block_kept marked s 0 es (k + 1) (k + 1) end there (omega arith) b.some block,
        ap (λ p. range p (slice_index places end)) (sym b.empty) ∙ ap (range_placed places) (sym out.2),
      )

  abbrev pub borders : List Border
  borders = map (placed places) (all_borders s 0 es)

  abbrev pub marks : List Bool
  marks = all_marks marked s 0 es

  pub kept_is : ranges_kept borders marks ≡ map (range_placed places) (of_nodes marked s 0 es)
  kept_is = kept_placed places (all_borders s 0 es) marks ∙ ap (map (range_placed places)) (kept_all marked s 0 es)

  pub kept_there : (r : Range) → Contains (map (range_placed places) (ranges_between (all_borders s 0 es))) r → Contains (ranges_kept borders marks) r
  kept_there r c =
      let w = Contains-from_map (range_placed places) (ranges_between (all_borders s 0 es)) r c in
      let node : Contains (of_nodes never s 0 es) w.0 = subst (λ l. Contains l w.0) (between_all s 0 es) w.1 in
      subst (λ l. Contains l r) (sym kept_is)
      (elim (nodes_cases marked s 0 es w.0 node) [
        | inl kept ↦ subst (λ q. Contains (map (range_placed places) (of_nodes marked s 0 es)) q) w.2 (Contains-map (range_placed places) (of_nodes marked s 0 es) w.0 kept)
        | inr out ↦ (
            let g = given_below w.0 out in
            subst (λ q. Contains (map (range_placed places) (of_nodes marked s 0 es)) q) (g.2 ∙ w.2) (Contains-map (range_placed places) (of_nodes marked s 0 es) g.0 g.1))
      ])

  pub kept_back : (r : Range) → Contains (ranges_kept borders marks) r → Contains (map (range_placed places) (ranges_between (all_borders s 0 es))) r
  kept_back r c =
      let w = Contains-from_map (range_placed places) (of_nodes marked s 0 es) r (subst (λ l. Contains l r) kept_is c) in
      subst (λ q. Contains (map (range_placed places) (ranges_between (all_borders s 0 es))) q) w.2
      (Contains-map (range_placed places) (ranges_between (all_borders s 0 es)) w.0 (subst (λ l. Contains l w.0) (sym (between_all s 0 es)) (nodes_back marked s 0 es w.0 w.1)))
