-- The sizes of subtrees, found from the last node to the first, and the hops over them.
use Rattle.std.proofs.Common.{◌≡◌, ℕ, zero, suc, ◌+◌, ◌-◌, ◌≤◌, ◌<◌, List, [], ◌∷◌, ◌++◌, length, get_or, set, take, drop, map, ap, ◌∙◌, sym, refl, subst, arith}
use Rattle.std.specs.Prelude.{slice_index}
use Rattle.std.proofs.lemmas.Grind.{get_or_default_zero}
use Rattle.rooted_cactus.specs.Outlines.{Hops, outlined, sizes}
use Rattle.rooted_cactus.specs.Borders.{AllHop, hops_end, hops_more}
use Rattle.rooted_cactus.specs.declared.tree.outline.NodeOutline.{NodeOutline}
use Rattle.rooted_cactus.specs.declared.tree.Node.{Node}
use Rattle.rooted_cactus.proofs.Outlined.{sizes_length, all_hop}
use Rattle.rooted_cactus.proofs.Drops.{late, early, joint_length, joint_set}

pub hops_le : (s : List ℕ) (m from to : ℕ) → Hops s m from to → from ≤ to
hops_le s zero from to h = omega (arith, h)
hops_le s (suc m) from to h = omega (arith, hops_le s m (from + slice_index s from) to h.1)

pub hops_step : (s : List ℕ) (m from to : ℕ) → 0 < m → Hops s m from to → (from < length s) × Hops s (m - 1) (from + slice_index s from) to
hops_step s zero from to some h = absurd (omega (arith, some))
hops_step s (suc m) from to some h = let e : m ≡ suc m - 1 = omega arith in (h.0, subst (λ k. Hops s k (from + slice_index s from) to) e h.1)

-- there is one end
pub hops_one : (s : List ℕ) (m from to to' : ℕ) → Hops s m from to → Hops s m from to' → to ≡ to'
hops_one s zero from to to' g h = sym g ∙ h
hops_one s (suc m) from to to' g h = hops_one s m (from + slice_index s from) to to' g.1 h.1

-- hops read nothing before their start
pub hops_same : (s t : List ℕ) (k m from to : ℕ) → length s ≡ length t → ((j : ℕ) → k ≤ j → slice_index s j ≡ slice_index t j) → k ≤ from → Hops s m from to → Hops t m from to
hops_same s t k zero from to e f le h = h
hops_same s t k (suc m) from to e f le h =
    let moved : Hops s m (from + slice_index t from) to = subst (λ j. Hops s m (from + j) to) (f from le) h.1 in
    (omega (arith, h.0, e), hops_same s t k m (from + slice_index t from) to e f (omega (arith, le)) moved)

abbrev pub counts_of : List NodeOutline → List ℕ
counts_of = map (λ (e : NodeOutline). e.children)

pub counts_length : (es : List NodeOutline) → length (counts_of es) ≡ length es
counts_length [] = refl
counts_length (e ∷ es) = ap suc (counts_length es)

children_at : (s : List ℕ) (k : ℕ) (es : List NodeOutline) → AllHop s k es → (i j : ℕ) → i < length es → j ≡ k + i → Hops s (slice_index (counts_of es) i) (j + 1) (j + slice_index s j)
children_at s k es (hops_end t l) i j h e = absurd (omega (arith, h))
children_at s k es (hops_more t l x xs at rest) zero j h e =
    let f : l ≡ j = omega (arith, e) in subst (λ m. Hops t x.children (m + 1) (m + slice_index t m)) f at.children
children_at s k es (hops_more t l x xs at rest) (suc i) j h e = children_at t (l + 1) xs rest i j (omega (arith, h)) (omega (arith, e))

pub block_at : (s : List ℕ) (k : ℕ) (es : List NodeOutline) → AllHop s k es → (i j : ℕ) (d : NodeOutline) → i < length es → j ≡ k + i → (end : ℕ) × (end ≤ length s) × Hops s (get_or es i d).head j end
block_at s k es (hops_end t l) i j d h e = absurd (omega (arith, h))
block_at s k es (hops_more t l x xs at rest) zero j d h e =
    let f : l ≡ j = omega (arith, e) in (at.end, at.within, subst (λ m. Hops t x.head m at.end) f at.block)
block_at s k es (hops_more t l x xs at rest) (suc i) j d h e = block_at t (l + 1) xs rest i j d (omega (arith, h)) (omega (arith, e))

-- the sizes that are found already, behind the numbers of children of the nodes before them
abbrev pub found_from : ℕ → List NodeOutline → Node → List ℕ
found_from i es x = take i (counts_of es) ++ drop i (sizes x)

pub nothing_found : (es : List NodeOutline) (x : Node) → es ≡ outlined x → (counts : List ℕ) (i : ℕ) → counts ≡ counts_of es → i ≡ length counts → counts ≡ found_from i es x
nothing_found es x is counts i c e =
    let same : length (counts_of es) ≡ length (sizes x) = counts_length es ∙ ap length is ∙ sizes_length x in
    let all : i ≡ length (counts_of es) = e ∙ ap length c in
    c ∙ sym (whole (counts_of es) (sizes x) same) ∙ ap (λ k. take k (counts_of es) ++ drop k (sizes x)) (sym all)
  where
    whole : (xs ys : List ℕ) → length xs ≡ length ys → take (length xs) xs ++ drop (length xs) ys ≡ xs
    whole [] [] e = refl
    whole [] (y ∷ ys) e = absurd (omega (arith, e))
    whole (x ∷ xs) [] e = absurd (omega (arith, e))
    whole (x ∷ xs) (y ∷ ys) e = ap (λ l. x ∷ l) (whole xs ys (omega (arith, e)))

-- the subtrees right below a node end where its own does
pub node_hops : (es : List NodeOutline) (x : Node) → es ≡ outlined x → (before : List ℕ) (i j : ℕ) → before ≡ found_from i es x → i ≡ suc j → i ≤ length es →
    Hops before (slice_index before j) (j + 1) (j + slice_index (sizes x) j)
node_hops es x is before i j b e le =
    let same : length (counts_of es) ≡ length (sizes x) = counts_length es ∙ ap length is ∙ sizes_length x in
    let all : AllHop (sizes x) 0 es = subst (AllHop (sizes x) 0) (sym is) (all_hop x) in
    let hops : Hops (sizes x) (slice_index (counts_of es) j) (j + 1) (j + slice_index (sizes x) j) = children_at (sizes x) 0 es all j j (omega (arith, e, le)) (omega arith) in
    let count : slice_index before j ≡ slice_index (counts_of es) j = ap (λ l. slice_index l j) b ∙ early (counts_of es) (sizes x) i j same (omega (arith, e)) (omega (arith, e, le, counts_length es)) in
    let long : length (sizes x) ≡ length before = sym (joint_length (counts_of es) (sizes x) i same) ∙ ap length (sym b) in
    hops_same (sizes x) before (j + 1) (slice_index before j) (j + 1) (j + slice_index (sizes x) j) long
    (λ m h. sym (ap (λ l. slice_index l m) b ∙ late (counts_of es) (sizes x) i m same (omega (arith, e, h))))
    (omega arith)
    (subst (λ c. Hops (sizes x) c (j + 1) (j + slice_index (sizes x) j)) (sym count) hops)

inside_at : (s : List ℕ) (k : ℕ) (es : List NodeOutline) → AllHop s k es → (i j : ℕ) → i < length es → j ≡ k + i → j + slice_index s j ≤ length s
inside_at s k es (hops_end t l) i j h e = absurd (omega (arith, h))
inside_at s k es (hops_more t l x xs at rest) zero j h e =
    let f : l ≡ j = omega (arith, e) in subst (λ m. m + slice_index t m ≤ length t) f at.inside
inside_at s k es (hops_more t l x xs at rest) (suc i) j h e = inside_at t (l + 1) xs rest i j (omega (arith, h)) (omega (arith, e))

read_zero : (es : List NodeOutline) (x : Node) → es ≡ outlined x → (before : List ℕ) (i j v : ℕ) → before ≡ found_from i es x → i ≡ suc j → i ≤ length es → v ≡ get_or before j v → v ≡ slice_index before j
read_zero es x is before i j v b e le at =
    let equal : length (counts_of es) ≡ length (sizes x) = counts_length es ∙ ap length is ∙ sizes_length x in
    let long : length before ≡ length (sizes x) = ap length b ∙ joint_length (counts_of es) (sizes x) i equal in
    at ∙ get_or_default_zero before j v (omega (arith, e, le, long, equal, counts_length es))

-- the end of the subtrees right below a node, at what a loop reads
pub end_known : (es : List NodeOutline) (x : Node) → es ≡ outlined x → (before : List ℕ) (i j : ℕ) (d : List ℕ) (v : ℕ) → before ≡ found_from i es x → i ≡ suc j → i ≤ length es → d ≡ before → v ≡ get_or before j v →
    (end : ℕ) × (end ≤ length d) × Hops d v (j + 1) end
end_known es x is before i j d v b e le same at =
    let read = read_zero es x is before i j v b e le at in
    let equal : length (counts_of es) ≡ length (sizes x) = counts_length es ∙ ap length is ∙ sizes_length x in
    let long : length d ≡ length (sizes x) = ap length (same ∙ b) ∙ joint_length (counts_of es) (sizes x) i equal in
    let all : AllHop (sizes x) 0 es = subst (AllHop (sizes x) 0) (sym is) (all_hop x) in
    let within : j + slice_index (sizes x) j ≤ length (sizes x) = inside_at (sizes x) 0 es all j j (omega (arith, e, le)) (omega arith) in (
      j + slice_index (sizes x) j,
      omega (arith, long, within),
      subst (λ l. Hops l v (j + 1) (j + slice_index (sizes x) j)) (sym same) (subst (λ k. Hops before k (j + 1) (j + slice_index (sizes x) j)) (sym read) (node_hops es x is before i j b e le)),
    )

-- one more size
pub one_found : (es : List NodeOutline) (x : Node) → es ≡ outlined x → (before after : List ℕ) (i j end : ℕ) (d : List ℕ) (v : ℕ) → before ≡ found_from i es x → i ≡ suc j → i ≤ length es → d ≡ before → v ≡ get_or before j v →
    Hops d v (j + 1) end → after ≡ set before j (end - j) → after ≡ found_from j es x
one_found es x is before after i j end d v b e le same at h a =
    let read = read_zero es x is before i j v b e le at in
    let equal : length (counts_of es) ≡ length (sizes x) = counts_length es ∙ ap length is ∙ sizes_length x in
    let here : Hops before (slice_index before j) (j + 1) end = subst (λ k. Hops before k (j + 1) end) read (subst (λ l. Hops l v (j + 1) end) same h) in
    let ends : end ≡ j + slice_index (sizes x) j = hops_one before (slice_index before j) (j + 1) end (j + slice_index (sizes x) j) here (node_hops es x is before i j b e le) in
    let size : end - j ≡ slice_index (sizes x) j = omega (arith, ends) in
    a ∙ ap (λ v. set before j v) size ∙ ap (λ l. set l j (slice_index (sizes x) j)) (b ∙ ap (λ k. found_from k es x) e)
    ∙ joint_set (counts_of es) (sizes x) j equal (omega (arith, e, le, counts_length es, equal))
