-- The bytes of lines from one number up to another, and the line of one number.
use Rattle.std.proofs.Common.{◌≡◌, ℕ, zero, suc, ◌+◌, ◌-◌, ◌<◌, ◌≤◌, List, [], ◌∷◌, ◌++◌, length, get_or, take, drop, map, Option, Some, IfSome, ap, ◌∙◌, sym, refl, append_assoc, append-nil, arith, subst}
use Rattle.std.proofs.Math.Seq.{take-add}
use Rattle.std.proofs.lemmas.List.Folds.{concat-append}
use Rattle.std.proofs.lemmas.List.{drop-drop, take_all, get_or-map, length-map}
use Rattle.std.proofs.lemmas.Option.{get_or_from_slice_get, slice_get_within}
use Rattle.std.specs.List.{concat, flat_map}
use Rattle.std.specs.Borrow.{Bor}
use Rattle.std.specs.Prelude.{codes, slice_get, slice_range}
use Rattle.std.specs.Fmt.{decimal}
use Rattle.answer_pages.specs.Lines.{joined_between, node_texts}
use Rattle.answer_pages.specs.Puts.{IsSplit}
use Rattle.flat_cactus.specs.Flat.{Flat}
use Rattle.answer_pages.specs.Text.{line, spaced, node_lines, bridge_lines, cycle_lines}
use Rattle.answer_pages.proofs.Putting.{split_start, split_then, split_as}

range_join : (ts : List (List ℕ)) (from mid to : ℕ) → from ≤ mid → mid ≤ to → slice_range ts from to ≡ slice_range ts from mid ++ slice_range ts mid to
range_join ts from mid to low high =
    let whole : to - from ≡ (mid - from) + (to - mid) = omega (arith, low, high) in
    let there : from + (mid - from) ≡ mid = omega (arith, low) in
    ap (λ n. take n (drop from ts)) whole
    ∙ take-add (mid - from) (to - mid) (drop from ts)
    ∙ ap (λ (l : List (List ℕ)). slice_range ts from mid ++ take (to - mid) l) (drop-drop (mid - from) from ts ∙ ap (λ n. drop n ts) there)

-- the lines from one number up to another, and those from there on
pub between_join : (ts : List (List ℕ)) (from mid to : ℕ) → from ≤ mid → mid ≤ to → joined_between ts from mid ++ joined_between ts mid to ≡ joined_between ts from to
between_join ts from mid to low high =
    sym (concat-append (slice_range ts from mid) (slice_range ts mid to)) ∙ ap concat (sym (range_join ts from mid to low high))

pub between_none : (ts : List (List ℕ)) (i : ℕ) → joined_between ts i i ≡ []
between_none ts i =
    let none : i - i ≡ 0 = omega arith in
    ap (λ n. concat (take n (drop i ts))) none

pub between_all : (ts : List (List ℕ)) → joined_between ts 0 (length ts) ≡ concat ts
between_all ts =
    let whole : length ts - 0 ≡ length ts = omega arith in
    ap (λ n. concat (take n ts)) whole ∙ ap concat (take_all (length ts) ts (omega arith))

one_at : (ts : List (List ℕ)) (i : ℕ) → i < length ts → take 1 (drop i ts) ≡ get_or ts i [] ∷ []
one_at [] i h = absurd (omega (arith, h))
one_at (t ∷ ts) zero h = refl
one_at (t ∷ ts) (suc i) h = one_at ts i (omega (arith, h))

pub between_one : (ts : List (List ℕ)) (i : ℕ) → i < length ts → joined_between ts i (i + 1) ≡ get_or ts i []
between_one ts i h =
    let one : (i + 1) - i ≡ 1 = omega arith in
    ap (λ n. concat (take n (drop i ts))) one ∙ ap concat (one_at ts i h) ∙ append-nil (get_or ts i [])

-- one more line was put after those from a number on
pub line_put : (a : List ℕ) {h1 h2 : List ℕ} {t0 t1 t2 : Option (List ℕ)} (ts : List (List ℕ)) (from i : ℕ) → from ≤ i → i < length ts
    → IsSplit (a ++ joined_between ts from i) t0 t1 h1 → IsSplit (h1 ++ get_or ts i []) t1 t2 h2 → IsSplit (a ++ joined_between ts from (i + 1)) t0 t2 h2
line_put a ts from i low h p q =
    split_as (append_assoc a (joined_between ts from i) (get_or ts i [])
    ∙ ap (λ (l : List ℕ). a ++ l) (ap (λ (l : List ℕ). joined_between ts from i ++ l) (sym (between_one ts i h)) ∙ between_join ts from i (i + 1) low (omega arith)))
    (split_then (get_or ts i []) p q)

-- the lines from a number on, one more, and those after it are the lines of the whole range
pub lines_behind : (a : List ℕ) (ts : List (List ℕ)) (from i to : ℕ) → from ≤ i → i < to → to ≤ length ts
    → ((a ++ joined_between ts from i) ++ get_or ts i []) ++ joined_between ts (i + 1) to ≡ a ++ joined_between ts from to
lines_behind a ts from i to low high h =
    let within : i < length ts = omega (arith, high, h) in
    ap (λ (l : List ℕ). l ++ joined_between ts (i + 1) to) (append_assoc a (joined_between ts from i) (get_or ts i []))
    ∙ append_assoc a (joined_between ts from i ++ get_or ts i []) (joined_between ts (i + 1) to)
    ∙ ap (λ (l : List ℕ). a ++ l) (
    ap (λ (l : List ℕ). (joined_between ts from i ++ l) ++ joined_between ts (i + 1) to) (sym (between_one ts i within))
    ∙ ap (λ (l : List ℕ). l ++ joined_between ts (i + 1) to) (between_join ts from i (i + 1) low (omega arith))
    ∙ between_join ts from (i + 1) to (omega (arith, low)) (omega (arith, high)))

-- further lines were put after those from a number on
pub range_put : (a : List ℕ) {h1 h2 : List ℕ} {t0 t1 t2 : Option (List ℕ)} (ts : List (List ℕ)) (from mid to : ℕ) → from ≤ mid → mid ≤ to
    → IsSplit (a ++ joined_between ts from mid) t0 t1 h1 → IsSplit (h1 ++ joined_between ts mid to) t1 t2 h2 → IsSplit (a ++ joined_between ts from to) t0 t2 h2
range_put a ts from mid to low high p q =
    split_as (append_assoc a (joined_between ts from mid) (joined_between ts mid to) ∙ ap (λ (l : List ℕ). a ++ l) (between_join ts from mid to low high))
    (split_then (joined_between ts mid to) p q)

-- two ranges of lines, one after the other, are the lines of both
pub range_end : (a : List ℕ) (ts : List (List ℕ)) (from mid to : ℕ) → from ≤ mid → mid ≤ to
    → (a ++ joined_between ts from mid) ++ joined_between ts mid to ≡ a ++ joined_between ts from to
range_end a ts from mid to low high = append_assoc a (joined_between ts from mid) (joined_between ts mid to) ∙ ap (λ (l : List ℕ). a ++ l) (between_join ts from mid to low high)

-- three ranges of lines, one after another, are the lines of all
pub range_behind : (a : List ℕ) (ts : List (List ℕ)) (from mid end to : ℕ) → from ≤ mid → mid ≤ end → end ≤ to
    → ((a ++ joined_between ts from mid) ++ joined_between ts mid end) ++ joined_between ts end to ≡ a ++ joined_between ts from to
range_behind a ts from mid end to low there high =
    ap (λ (l : List ℕ). l ++ joined_between ts end to) (range_end a ts from mid end low there)
    ∙ range_end a ts from end to (omega (arith, low, there)) high

-- no lines were put yet
pub range_start : (b : List ℕ) (t : Option (List ℕ)) (ts : List (List ℕ)) (i : ℕ) → IsSplit (b ++ joined_between ts i i) t t b
range_start b t ts i = split_as (sym (append-nil b) ∙ ap (λ (l : List ℕ). b ++ l) (sym (between_none ts i))) (split_start b t)

pub node_count : (first : ℕ) (xs : List (List ℕ)) → length (node_texts first xs) ≡ length xs
node_count first [] = refl
node_count first (x ∷ xs) = ap suc (node_count (first + 1) xs)

abbrev line_of : ℕ → List ℕ → List ℕ
line_of n x = line (codes "node") (n ∷ x)

node_text : (first : ℕ) (xs : List (List ℕ)) (i : ℕ) (x : List ℕ) → x ≡ get_or xs i x → i < length xs → get_or (node_texts first xs) i [] ≡ line (codes "node") ((first + i) ∷ x)
node_text first [] i x is h = absurd (omega (arith, h))
node_text first (y ∷ ys) zero x is h =
    let same : first ≡ first + 0 = omega arith in
    ap (line_of first) (sym is) ∙ ap (λ n. line_of n x) same
node_text first (y ∷ ys) (suc i) x is h =
    let same : first + 1 + i ≡ first + suc i = omega arith in
    node_text (first + 1) ys i x is (omega (arith, h)) ∙ ap (λ n. line_of n x) same

node_line : (xs : List (List ℕ)) (i : ℕ) (x : List ℕ) → x ≡ get_or xs i x → i < length xs → get_or (node_texts 0 xs) i [] ≡ line (codes "node") (i ∷ x)
node_line xs i x is h =
    let same : 0 + i ≡ i = omega arith in
    node_text 0 xs i x is h ∙ ap (λ n. line_of n x) same

pub node_texts_joined : (first : ℕ) (xs : List (List ℕ)) → concat (node_texts first xs) ≡ node_lines first xs
node_texts_joined first [] = refl
node_texts_joined first (x ∷ xs) = ap (λ (l : List ℕ). line (codes "node") (first ∷ x) ++ l) (node_texts_joined (first + 1) xs)

map_text : {X : Type 0} (f : X → List ℕ) (xs : List X) (i : ℕ) (x : X) → x ≡ get_or xs i x → i < length xs → f x ≡ get_or (map f xs) i []
map_text f xs i x is h = ap f is ∙ sym (get_or-map f xs i x [] h)

pub map_joined : {X : Type 0} (f : X → List ℕ) (xs : List X) → concat (map f xs) ≡ flat_map f xs
map_joined f [] = refl
map_joined f (x ∷ xs) = ap (λ (l : List ℕ). f x ++ l) (map_joined f xs)

-- the line of a node among those of a cactus
pub node_at : (ts xs : List (List ℕ)) (i : ℕ) (x : List ℕ) → ts ≡ node_texts 0 xs → slice_get xs i ≡ Some x → line (codes "node") (i ∷ x) ≡ get_or ts i []
node_at ts xs i x is e =
    sym (node_line xs i x (sym (get_or_from_slice_get xs i x x e)) (slice_get_within xs i x e)) ∙ ap (λ (l : List (List ℕ)). get_or l i []) (sym is)

-- the line of an element among those of a list
pub line_at : {X : Type 0} (f : X → List ℕ) (ts : List (List ℕ)) (xs : List X) (i : ℕ) (x : X) → ts ≡ map f xs → x ≡ get_or xs i x → i < length ts → f x ≡ get_or ts i []
line_at f ts xs i x is there h =
    map_text f xs i x there (omega (arith, h, ap (λ (l : List (List ℕ)). length l) is, length-map xs f)) ∙ ap (λ (l : List (List ℕ)). get_or l i []) (sym is)

-- all numbers of a list, as lines
pub numbers_text : (xs : List ℕ) → joined_between (map (λ n. 32 ∷ decimal n) xs) 0 (length xs) ≡ spaced xs
numbers_text xs =
    let text = λ (n : ℕ). 32 ∷ decimal n in
    ap (λ n. joined_between (map text xs) 0 n) (sym (length-map xs text)) ∙ between_all (map text xs) ∙ map_joined text xs

-- an element that was taken from a list
pub got : {X : Type 0} (xs : List X) (i : ℕ) (r : Option (Bor X)) (b : Bor X) → IfSome r (λ x. x.now ≡ get_or xs i x.now) → r ≡ Some b → b.now ≡ get_or xs i b.now
got xs i r b h e = subst (λ q. IfSome q (λ x. x.now ≡ get_or xs i x.now)) e h

-- the text of a flat cactus, by its lines
pub flat_text : (first : List ℕ) (flat : Flat) (bridges : List (ℕ × ℕ)) → bridges ≡ flat.bridges
    → first ++ concat (node_texts 0 flat.nodes) ++ concat (map (λ (b : ℕ × ℕ). line (codes "bridge") (b.0 ∷ b.1 ∷ [])) bridges) ++ concat (map (line (codes "cycle")) flat.cycles)
    ≡ first ++ node_lines 0 flat.nodes ++ bridge_lines flat.bridges ++ cycle_lines flat.cycles
flat_text first flat bridges is =
    let bridge = λ (b : ℕ × ℕ). line (codes "bridge") (b.0 ∷ b.1 ∷ []) in
    let cycles = concat (map (line (codes "cycle")) flat.cycles) in
    ap (λ (l : List ℕ). first ++ l ++ concat (map bridge bridges) ++ cycles) (node_texts_joined 0 flat.nodes)
    ∙ ap (λ (l : List ℕ). first ++ node_lines 0 flat.nodes ++ l ++ cycles) (map_joined bridge bridges ∙ ap bridge_lines is)
    ∙ ap (λ (l : List ℕ). first ++ node_lines 0 flat.nodes ++ bridge_lines flat.bridges ++ l) (map_joined (line (codes "cycle")) flat.cycles)
