-- The joined nodes of the parts of a chain are a cactus, and its sides are those of the chain and of its parts.
use Rattle.std.proofs.Common.{◌≡◌, ℕ, Bool, false, cond, ◌+◌, ◌-◌, ◌≤◌, ◌<◌, ◌==◌, zero, suc, List, [], ◌∷◌, ◌++◌, length, map, drop, get_or, refl, sym, ◌∙◌, ap, subst, arith, ⊎_elim, ne_eqb}
use Rattle.std.specs.Prelude.{if◌then◌else◌, not}
use Rattle.std.specs.List.{All, Contains, concat, filter, flat_map, range_with_len}
use Rattle.std.proofs.lemmas.Bool.{cases_Bool, cases_eq, eq-eqb}
use Rattle.std.proofs.lemmas.List.{length-append, length-map, length-drop, map-append, get_or-drop, get_or-take, length-take-le}
use Rattle.std.proofs.lemmas.List.Elements.{All-cons, All-nil, All-append, All-filter, filter-append, All-head}
use Rattle.cut_definitions.specs.Cuts.{has, IsAscendingWithin}
use Rattle.cut_definitions.specs.Weight.{VertexSet}
use Rattle.cut_definitions.specs.Chain.{parts_between}
use Rattle.cut_definitions.proofs.Lists.{Contains-map, Contains-from_map}
use Rattle.cut_definitions.proofs.Bools.{no_left, no_right}
use Rattle.cut_definitions.proofs.ListLaws.{All-back}
use Rattle.residual_chain.specs.declared.run.Run.{Run}
use Rattle.residual_chain.specs.Chain.{ChainView, IsChainShape, IsInnerRun}
use Rattle.arc_search.specs.Marks.{mark_of}
use Rattle.rooted_cactus.specs.Entered.{entered}
use Rattle.rooted_cactus.specs.Sides.{Part, part, cuts, belows, all_cuts, intervals}
use Rattle.rooted_cactus.specs.Rooted.{IsCactus, places, sides_of}
use Rattle.rooted_cactus.specs.Trees.{vertices}
use Rattle.rooted_cactus.specs.declared.tree.Node.{Node}
use Rattle.rooted_cactus.proofs.Segments.{has_append_at}
use Rattle.rooted_cactus.proofs.Layouts.{laid_out}
use Rattle.cactus_merge.specs.declared.part.PartCactus.{PartCactus}
use Rattle.cactus_merge.specs.Joined.{IsWide, SameSets, joined_cuts, run_cuts, run_parts, tails, held, has_some}
use Rattle.cut_definitions.specs.Members.{SameMembers}
use Rattle.cactus_merge.specs.Assembled.{ArePartsOf, AreNodesOf, IsNodeOf, assembled_sides, chain_sides, run_sides, part_sides, set_list}
use Rattle.cactus_merge.proofs.Names.{count_of, count_yes, count_no}
use Rattle.cactus_merge.proofs.Numbered.{AreNumbered, rest_numbered, tails_sides, interval_list}
use Rattle.cactus_merge.proofs.Within.{all_lack, none_counted}

-- ---- lists without the empty ones
kept_some : (x : ℕ) (l : List ℕ) (ls : List (List ℕ)) → filter has_some ((x ∷ l) ∷ ls) ≡ (x ∷ l) ∷ filter has_some ls
kept_some x l ls = ap (λ (b : Bool). cond (not b) ((x ∷ l) ∷ filter has_some ls) (filter has_some ls)) (ne_eqb (suc (length l)) 0 (λ e. omega (arith, e)))

all_from_some : (P : List ℕ → Type 0) → P [] → (ls : List (List ℕ)) → All P (filter has_some ls) → All P ls
all_from_some P e [] h = All-nil P
all_from_some P e ([] ∷ ls) h = All-cons P [] ls e (all_from_some P e ls h)
all_from_some P e ((x ∷ l) ∷ ls) h =
    let k : All P ((x ∷ l) ∷ filter has_some ls) = subst (All P) (kept_some x l ls) h in
    All-cons P (x ∷ l) ls (All-head P (x ∷ l) (filter has_some ls) k) (all_from_some P e ls (All-back P ((x ∷ l) ∷ []) (filter has_some ls) k))

count_some : (ls : List (List ℕ)) (v : ℕ) → count_of (filter has_some ls) v ≡ count_of ls v
count_some [] v = refl
count_some ([] ∷ ls) v = count_some ls v
count_some ((x ∷ l) ∷ ls) v = ap (λ ms. count_of ms v) (kept_some x l ls) ∙ ⊎_elim
    (λ y. count_yes (x ∷ l) (filter has_some ls) v y ∙ ap suc (count_some ls v) ∙ sym (count_yes (x ∷ l) ls v y))
    (λ w. count_no (x ∷ l) (filter has_some ls) v w ∙ count_some ls v ∙ sym (count_no (x ∷ l) ls v w))
    (cases_Bool (has (x ∷ l) v))

all_held : (P : List ℕ → Type 0) (nodes : List Node) → All (λ x. All P (entered x)) nodes → All P (flat_map held nodes)
all_held P [] h = All-nil P
all_held P (x ∷ xs) h = All-append P (held x) (flat_map held xs) (All-filter has_some P (entered x) (All-head (λ y. All P (entered y)) x xs h)) (all_held P xs (All-back (λ y. All P (entered y)) (x ∷ []) xs h))

-- ---- each vertex in one node
count_append : (ls ms : List (List ℕ)) (v : ℕ) → count_of (ls ++ ms) v ≡ count_of ls v + count_of ms v
count_append ls ms v = ap length (filter-append (λ l. has l v) ls ms) ∙ length-append (filter (λ l. has l v) ls) (filter (λ l. has l v) ms)

abbrev ArePlaced : (m k v : ℕ) → List Node → Type 0
ArePlaced m k v nodes = (i : ℕ) (x : Node) → i < length nodes → places (get_or nodes i x) v ≡ (if m == k + i then 1 else 0)

first_placed : (m k v : ℕ) (x : Node) (xs : List Node) → ArePlaced m k v (x ∷ xs) → places x v ≡ (if m == k then 1 else 0)
first_placed m k v x xs h =
    let e : k + 0 ≡ k = omega arith in
    h 0 x (omega arith) ∙ ap (λ (j : ℕ). if m == j then 1 else 0) e

rest_placed : (m k v : ℕ) (x : Node) (xs : List Node) → ArePlaced m k v (x ∷ xs) → ArePlaced m (k + 1) v xs
rest_placed m k v x xs h = λ i y b.
    let e : k + suc i ≡ (k + 1) + i = omega arith in
    h (suc i) y (omega (arith, b)) ∙ ap (λ (j : ℕ). if m == j then 1 else 0) e

held_count : (x : Node) (xs : List Node) (v : ℕ) → count_of (flat_map held (x ∷ xs)) v ≡ places x v + count_of (flat_map held xs) v
held_count x xs v = count_append (held x) (flat_map held xs) v ∙ ap (λ (a : ℕ). a + count_of (flat_map held xs) v) (count_some (entered x) v)

count_before : (m k v : ℕ) (xs : List Node) → ArePlaced m k v xs → m < k → count_of (flat_map held xs) v ≡ 0
count_before m k v [] h l = refl
count_before m k v (x ∷ xs) h l =
    let here : places x v ≡ 0 = first_placed m k v x xs h ∙ ap (λ (b : Bool). if b then 1 else 0) (ne_eqb m k (λ e. omega (arith, e, l))) in
    omega (arith, held_count x xs v, here, count_before m (k + 1) v xs (rest_placed m k v x xs h) (omega (arith, l)))

count_once : (m k v : ℕ) (xs : List Node) → ArePlaced m k v xs → k ≤ m → m < k + length xs → count_of (flat_map held xs) v ≡ 1
count_once m k v [] h l b = absurd (omega (arith, l, b))
count_once m k v (x ∷ xs) h l b = ⊎_elim
    (λ e.
    let here : places x v ≡ 1 = first_placed m k v x xs h ∙ ap (λ (b : Bool). if b then 1 else 0) (eq-eqb m k e) in
    omega (arith, held_count x xs v, here, count_before m (k + 1) v xs (rest_placed m k v x xs h) (omega (arith, e))))
    (λ ne.
    let here : places x v ≡ 0 = first_placed m k v x xs h ∙ ap (λ (b : Bool). if b then 1 else 0) (ne_eqb m k ne) in
    omega (arith, held_count x xs v, here, count_once m (k + 1) v xs (rest_placed m k v x xs h) (omega (arith, l, ne)) (omega (arith, b))))
    (cases_eq m k)

-- ---- the vertices below a node
lack_none : (ls : List (List ℕ)) (v : ℕ) → has (concat ls) v ≡ false → count_of ls v ≡ 0
lack_none [] v h = refl
lack_none (l ∷ ls) v h =
    let e = sym (has_append_at l (concat ls) v) ∙ h in
    count_no l ls v (no_left (has l v) (has (concat ls) v) e) ∙ lack_none ls v (no_right (has l v) (has (concat ls) v) e)

abbrev count_if : Bool → ℕ
count_if b = if b then 1 else 0

below_is : (x : Node) (v : ℕ) (b : Bool) → places x v ≡ (if b then 1 else 0) → (part x).below v ≡ b
below_is x v b h =
    ap (λ (s : VertexSet). s v) (laid_out x).below
    ∙ ⊎_elim
    (λ t. ⊎_elim
    (λ y. y ∙ sym t)
    (λ w. (let one : count_if b ≡ 1 = ap count_if t in absurd (omega (arith, lack_none (entered x) v w, h, one))))
    (cases_Bool (has (concat (entered x)) v)))
    (λ f. all_lack v (entered x) (none_counted v (entered x) (h ∙ ap count_if f)) ∙ sym f)
    (cases_Bool b)

part_at : (nodes : List Node) (i : ℕ) (x : Node) (p : Part) → i < length nodes → get_or (map part nodes) i p ≡ part (get_or nodes i x)
part_at [] i x p h = absurd (omega (arith, h))
part_at (y ∷ ys) zero x p h = refl
part_at (y ∷ ys) (suc i) x p h = part_at ys i x p (omega (arith, h))

module _ (c : ChainView) (parts : List PartCactus) (nodes : List Node) (x : Node) (shape : IsChainShape c) (given : ArePartsOf c parts) (are : AreNodesOf c parts nodes) where
  no_part : PartCactus
  no_part = record { cactus = record { vertices = 0; root = x }; own = [] }

  node_is : (i : ℕ) (y : Node) → i < length nodes → IsNodeOf c (i + 1) (get_or parts i no_part) (get_or nodes i y)
  node_is i y h = are.each i no_part y (omega (arith, h, are.as_many))

  pub all_wide : All IsWide nodes
  all_wide = λ i y h. (node_is i y h).wide

  placed_at : (v : ℕ) → 1 ≤ v → v ≤ length c.numbers → ArePlaced (mark_of c.numbers v) 1 v nodes
  placed_at v l h = λ i y b.
      let e : i + 1 ≡ 1 + i = omega arith in
      (node_is i y b).placed v l h ∙ ap (λ (j : ℕ). if mark_of c.numbers v == j then 1 else 0) e

  pub cactus_is : (root : Node) → held root ≡ flat_map held nodes → vertices root ≡ vertices (get_or nodes 0 root) → IsWide root → IsCactus (length c.numbers) root
  cactus_is root e top wide = record {
    ascending = all_from_some (IsAscendingWithin 1 (length c.numbers)) tt (entered root)
        (subst (All (IsAscendingWithin 1 (length c.numbers))) (sym e) (all_held (IsAscendingWithin 1 (length c.numbers)) nodes (λ i y h. (node_is i y h).ascending)));
    in_one_node = λ v l h.
        sym (count_some (entered root) v) ∙ ap (λ ls. count_of ls v) e
        ∙ count_once (mark_of c.numbers v) 1 v nodes (placed_at v l h) (shape.numbered.from_one v l h) (omega (arith, shape.numbered.to_count v l h, are.as_many));
    root_has_one = subst (λ l. Contains l 1) (sym top) ((node_is 0 root (omega (arith, are.as_many, shape.numbered.two))).first refl);
    wide = wide;
  }

  numbered : AreNumbered (length c.numbers) (mark_of c.numbers) 1 (map part nodes)
  numbered = λ i p b v l h.
      let inside : i < length nodes = omega (arith, b, length-map nodes part) in
      ap (λ (q : Part). q.below v) (part_at nodes i x p inside)
      ∙ below_is (get_or nodes i x) v _ (placed_at v l h i x inside)

  tail_list : (ps : List Part) → AreNumbered (length c.numbers) (mark_of c.numbers) 1 ps → length ps ≡ c.parts → map (set_list (length c.numbers)) (tails (drop 1 ps)) ≡ chain_sides c
  tail_list [] h n = absurd (omega (arith, n, shape.numbered.two))
  tail_list (p ∷ ps) h n =
      let m : length ps ≡ c.parts - 1 = omega (arith, n) in
      tails_sides (length c.numbers) (mark_of c.numbers) 2 c.parts ps (rest_numbered (length c.numbers) (mark_of c.numbers) 1 p ps h) (omega (arith, n, shape.numbered.two))
      ∙ ap (λ (j : ℕ). map (λ a. set_list (length c.numbers) (parts_between (mark_of c.numbers) a c.parts)) (range_with_len 2 j)) m

  run_numbered : (r : Run) → IsInnerRun c.parts r → AreNumbered (length c.numbers) (mark_of c.numbers) r.first (run_parts (map part nodes) r)
  run_numbered r in_row = λ i p b v l h.
      let ps = map part nodes in
      let f = r.first - 1 in
      let some : i < r.last - f = omega (arith, b, length-take-le (r.last - f) (drop f ps) (fits r in_row), in_row.from_two) in
      let e : 1 + (f + i) ≡ r.first + i = omega (arith, in_row.from_two) in
      ap (λ (q : Part). q.below v) (get_or-take (r.last - f) (drop f ps) i p some ∙ get_or-drop f ps i p)
      ∙ numbered (f + i) p (omega (arith, some, length-map nodes part, are.as_many, in_row.below, in_row.from_two)) v l h
      ∙ ap (λ (j : ℕ). mark_of c.numbers v == j) e
    where
      fits : (r : Run) → IsInnerRun c.parts r → r.last - (r.first - 1) ≤ length (drop (r.first - 1) (map part nodes))
      fits r in_row = omega (arith, length-drop (r.first - 1) (map part nodes), length-map nodes part, are.as_many, in_row.below, in_row.from_two, in_row.ordered)

  run_list : (r : Run) → IsInnerRun c.parts r → map (set_list (length c.numbers)) (intervals (belows (run_parts (map part nodes) r))) ≡ run_sides c r
  run_list r in_row =
      let ps = map part nodes in
      let f = r.first - 1 in
      let fits : r.last - f ≤ length (drop f ps) = omega (arith, length-drop f ps, length-map nodes part, are.as_many, in_row.below, in_row.from_two, in_row.ordered) in
      let m : length (run_parts ps r) ≡ r.last + 1 - r.first = omega (arith, length-take-le (r.last - f) (drop f ps) fits, in_row.from_two, in_row.ordered) in
      interval_list (length c.numbers) (mark_of c.numbers) r.first (r.first + (r.last + 1 - r.first)) (run_parts ps r) (run_numbered r in_row) (omega (arith, m))
      ∙ ap (λ (j : ℕ). flat_map (λ a. map (λ b. set_list (length c.numbers) (parts_between (mark_of c.numbers) a b)) (range_with_len a (r.first + (r.last + 1 - r.first) - a))) (range_with_len r.first j)) m

  runs_list : (runs : List Run) → All (IsInnerRun c.parts) runs → map (set_list (length c.numbers)) (run_cuts (map part nodes) runs) ≡ flat_map (run_sides c) runs
  runs_list [] h = refl
  runs_list (r ∷ runs) h =
      map-append (set_list (length c.numbers)) (intervals (belows (run_parts (map part nodes) r))) (run_cuts (map part nodes) runs)
      ∙ ap (λ l. l ++ map (set_list (length c.numbers)) (run_cuts (map part nodes) runs)) (run_list r (All-head (IsInnerRun c.parts) r runs h))
      ∙ ap (λ l. run_sides c r ++ l) (runs_list runs (All-back (IsInnerRun c.parts) (r ∷ []) runs h))

  cuts_list : (ps : List PartCactus) (xs : List Node) → length ps ≡ length xs → ((i : ℕ) (p : PartCactus) (y : Node) → i < length xs → map (set_list (length c.numbers)) (cuts (get_or xs i y)) ≡ part_sides (length c.numbers) (get_or ps i p)) → map (set_list (length c.numbers)) (all_cuts (map part xs)) ≡ flat_map (part_sides (length c.numbers)) ps
  cuts_list [] [] n h = refl
  cuts_list [] (y ∷ ys) n h = absurd (omega (arith, n))
  cuts_list (p ∷ ps) [] n h = absurd (omega (arith, n))
  cuts_list (p ∷ ps) (y ∷ ys) n h =
      map-append (set_list (length c.numbers)) (cuts y) (all_cuts (map part ys))
      ∙ ap (λ l. l ++ map (set_list (length c.numbers)) (all_cuts (map part ys))) (h 0 p y (omega arith))
      ∙ ap (λ l. part_sides (length c.numbers) p ++ l) (cuts_list ps ys (omega (arith, n)) (λ i q z b. h (suc i) q z (omega (arith, b))))

  joined_list : map (set_list (length c.numbers)) (joined_cuts (map part nodes) c.runs) ≡ assembled_sides c parts
  joined_list =
      let ps = map part nodes in
      map-append (set_list (length c.numbers)) (tails (drop 1 ps)) (run_cuts ps c.runs ++ all_cuts ps)
      ∙ ap (λ l. l ++ map (set_list (length c.numbers)) (run_cuts ps c.runs ++ all_cuts ps)) (tail_list ps numbered (length-map nodes part ∙ are.as_many))
      ∙ ap (λ l. chain_sides c ++ l) (map-append (set_list (length c.numbers)) (run_cuts ps c.runs) (all_cuts ps)
      ∙ ap (λ l. l ++ map (set_list (length c.numbers)) (all_cuts ps)) (runs_list c.runs shape.inner)
      ∙ ap (λ l. flat_map (run_sides c) c.runs ++ l) (cuts_list parts nodes (given.as_many ∙ sym are.as_many) (λ i p y b. (are.each i p y (omega (arith, b, are.as_many))).sides)))

  pub sides_are : (root : Node) → SameSets (cuts root) (joined_cuts (map part nodes) c.runs) → SameMembers (sides_of (record { vertices = length c.numbers; root = root })) (assembled_sides c parts)
  sides_are root same = λ side. (
    (λ m.
        let at = Contains-from_map (set_list (length c.numbers)) (cuts root) side m in
        subst (λ l. Contains l side) joined_list (subst (Contains (map (set_list (length c.numbers)) (joined_cuts (map part nodes) c.runs))) at.2 (Contains-map (set_list (length c.numbers)) (joined_cuts (map part nodes) c.runs) at.0 (same.forth at.0 at.1)))),
    (λ m.
        let at = Contains-from_map (set_list (length c.numbers)) (joined_cuts (map part nodes) c.runs) side (subst (λ l. Contains l side) (sym joined_list) m) in
        subst (Contains (map (set_list (length c.numbers)) (cuts root))) at.2 (Contains-map (set_list (length c.numbers)) (cuts root) at.0 (same.back at.0 at.1))),
  )
