-- Ranges of numbers, the first nodes of blocks from a number on, and the nodes that follow one in a cycle.
use Rattle.std.proofs.Common.{◌≡◌, ℕ, zero, suc, ◌+◌, ◌-◌, ◌<◌, ◌≤◌, Bool, true, false, cond, not, ◌&&◌, eqb, List, [], ◌∷◌, ◌++◌, length, map, get_or, reverse, refl, sym, ◌∙◌, subst, ap, arith}
use Rattle.std.specs.List.{filter, range_with_len}
use Rattle.std.proofs.lemmas.Bool.{ne_eqb, eq-eqb}
use Rattle.std.proofs.lemmas.List.Elements.{filter-append}
use Rattle.std.proofs.lemmas.List.{map-append}
use Rattle.vertex_set.proofs.Counted.{range-append}
use Rattle.node_tree.specs.Flat.{TreeLinks, is_follower}
use Rattle.node_tree.specs.Forest.{AreFrom}
use Rattle.node_tree.proofs.ForestChanges.{reverse_more}
use Rattle.tree_flattening.specs.Plans.{run_from, run_of}

-- ---- ranges
-- a range that is cut at a number
range_cut : (a b c : ℕ) → a ≤ b → b ≤ c → range_with_len a (c - a) ≡ range_with_len a (b - a) ++ range_with_len b (c - b)
range_cut a b c l m =
    let n : c - a ≡ (b - a) + (c - b) = omega (arith, l, m) in
    let at : a + (b - a) ≡ b = omega (arith, l) in
    ap (range_with_len a) n ∙ range-append (b - a) (c - b) a ∙ ap (λ (k : ℕ). range_with_len a (b - a) ++ range_with_len k (c - b)) at

pub range_front : (b c : ℕ) → b ≤ c → range_with_len 0 c ≡ range_with_len 0 b ++ range_with_len b (c - b)
range_front b c l =
    let n : c ≡ b + (c - b) = omega (arith, l) in
    let at : 0 + b ≡ b = omega arith in
    ap (range_with_len 0) n ∙ range-append b (c - b) 0 ∙ ap (λ (k : ℕ). range_with_len 0 b ++ range_with_len k (c - b)) at

pub range_first : (a c : ℕ) → a < c → range_with_len a (c - a) ≡ a ∷ range_with_len (a + 1) (c - (a + 1))
range_first a c l = let n : c - a ≡ suc (c - (a + 1)) = omega (arith, l) in ap (range_with_len a) n

pub map_range_same : {X : Type 0} (f g : ℕ → X) (d k : ℕ) → ((j : ℕ) → k ≤ j → j < k + d → f j ≡ g j) → map f (range_with_len k d) ≡ map g (range_with_len k d)
map_range_same f g zero k h = refl
map_range_same f g (suc d) k h =
    ap (λ x. x ∷ map f (range_with_len (k + 1) d)) (h k (omega arith) (omega arith))
    ∙ ap (λ l. g k ∷ l) (map_range_same f g d (k + 1) (λ j l m. h j (omega (arith, l)) (omega (arith, m))))

pub from_range : {X : Type 0} (P : ℕ → X → Type 0) (f : ℕ → X) (d k : ℕ) → ((j : ℕ) → k ≤ j → j < k + d → P j (f j)) → AreFrom P k (map f (range_with_len k d))
from_range P f zero k h = tt
from_range P f (suc d) k h =
    let on : k + 1 ≡ suc k = omega arith in
    (h k (omega arith) (omega arith), subst (λ (j : ℕ). AreFrom P j (map f (range_with_len (k + 1) d))) on (from_range P f d (k + 1) (λ j l m. h j (omega (arith, l)) (omega (arith, m)))))

none_passed : (p : ℕ → Bool) (d k : ℕ) → ((j : ℕ) → k ≤ j → j < k + d → p j ≡ false) → filter p (range_with_len k d) ≡ []
none_passed p zero k h = refl
none_passed p (suc d) k h =
    ap (λ t. cond t (k ∷ filter p (range_with_len (k + 1) d)) (filter p (range_with_len (k + 1) d))) (h k (omega arith) (omega arith))
    ∙ none_passed p d (k + 1) (λ j l m. h j (omega (arith, l)) (omega (arith, m)))

pub map_reverse : {X Y : Type 0} (f : X → Y) (xs : List X) → map f (reverse xs) ≡ reverse (map f xs)
map_reverse f [] = refl
map_reverse f (x ∷ xs) = ap (map f) (reverse_more x xs) ∙ map-append f (reverse xs) (x ∷ []) ∙ ap (λ l. l ++ f x ∷ []) (map_reverse f xs) ∙ sym (reverse_more (f x) (map f xs))

-- ---- the first nodes of the blocks below a node
abbrev pub is_head : TreeLinks → ℕ → ℕ → Bool
is_head t i h = not (is_follower t.follows h) && eqb (get_or t.uppers h 0) i

pub follower_no_head : (t : TreeLinks) (i h : ℕ) → is_follower t.follows h ≡ true → is_head t i h ≡ false
follower_no_head t i h e = ap (λ b. not b && eqb (get_or t.uppers h 0) i) e

pub elsewhere_no_head : (t : TreeLinks) (i h : ℕ) → (get_or t.uppers h 0 ≡ i → ⊥) → is_head t i h ≡ false
elsewhere_no_head t i h ne = ap (λ b. not (is_follower t.follows h) && b) (ne_eqb (get_or t.uppers h 0) i ne) ∙ none (not (is_follower t.follows h)) where
  none : (b : Bool) → (b && false) ≡ false
  none true = refl
  none false = refl

pub lead_is_head : (t : TreeLinks) (i h : ℕ) → is_follower t.follows h ≡ false → get_or t.uppers h 0 ≡ i → is_head t i h ≡ true
lead_is_head t i h e u = ap (λ b. not b && eqb (get_or t.uppers h 0) i) e ∙ eq-eqb (get_or t.uppers h 0) i u

-- the first nodes of the blocks below a node, from a number on
abbrev pub late : TreeLinks → ℕ → ℕ → List ℕ
late t k i = filter (is_head t i) (range_with_len k (length t.uppers - k))

pub late_cut : (t : TreeLinks) (i k p : ℕ) → k ≤ p → p ≤ length t.uppers → late t k i ≡ filter (is_head t i) (range_with_len k (p - k)) ++ late t p i
late_cut t i k p l m = ap (filter (is_head t i)) (range_cut k p (length t.uppers) l m) ∙ filter-append (is_head t i) (range_with_len k (p - k)) (range_with_len p (length t.uppers - p))

pub late_end : (t : TreeLinks) (i : ℕ) → late t (length t.uppers) i ≡ []
late_end t i = let none : length t.uppers - length t.uppers ≡ 0 = omega arith in ap (λ (d : ℕ). filter (is_head t i) (range_with_len (length t.uppers) d)) none

-- if no node from one number up to another is the first of a block below a node
pub late_same : (t : TreeLinks) (i k p : ℕ) → k ≤ p → p ≤ length t.uppers → ((h : ℕ) → k ≤ h → h < p → is_head t i h ≡ false) → late t k i ≡ late t p i
late_same t i k p l m none = late_cut t i k p l m ∙ ap (λ hs. hs ++ late t p i) (none_passed (is_head t i) (p - k) k (λ h a b. none h a (omega (arith, b, l))))

-- if the first of them is, and no other
pub late_more : (t : TreeLinks) (i k p : ℕ) → k < p → p ≤ length t.uppers → is_head t i k ≡ true → ((h : ℕ) → k < h → h < p → is_head t i h ≡ false) → late t k i ≡ k ∷ late t p i
late_more t i k p l m here none =
    late_cut t i k p (omega (arith, l)) m
    ∙ ap (λ hs. hs ++ late t p i)
    (ap (filter (is_head t i)) (range_first k p l)
    ∙ ap (λ b. cond b (k ∷ filter (is_head t i) (range_with_len (k + 1) (p - (k + 1)))) (filter (is_head t i) (range_with_len (k + 1) (p - (k + 1))))) here
    ∙ ap (λ hs. k ∷ hs) (none_passed (is_head t i) (p - (k + 1)) (k + 1) (λ h a b. none h (omega (arith, a)) (omega (arith, b, l)))))

-- ---- a node and all that follow it
run_is : (t : TreeLinks) (more d h : ℕ) → d ≤ more → ((j : ℕ) → h < j → j < h + suc d → is_follower t.follows j ≡ true) → is_follower t.follows (h + suc d) ≡ false → run_from more t h ≡ range_with_len h (suc d)
run_is t zero zero h l all end = refl
run_is t zero (suc d) h l all end = absurd (omega (arith, l))
run_is t (suc more) zero h l all end =
    ap (λ b. h ∷ cond b (run_from more t (h + 1)) []) end
run_is t (suc more) (suc d) h l all end =
    let on : h + suc (suc d) ≡ h + 1 + suc d = omega arith in
    ap (λ b. h ∷ cond b (run_from more t (h + 1)) []) (all (h + 1) (omega arith) (omega arith))
    ∙ ap (λ hs. h ∷ hs) (run_is t more d (h + 1) (omega (arith, l)) (λ j a b. all j (omega (arith, a)) (omega (arith, b))) (ap (is_follower t.follows) (sym on) ∙ end))

pub run_range : (t : TreeLinks) (h p : ℕ) → h < p → p ≤ length t.uppers → ((j : ℕ) → h < j → j < p → is_follower t.follows j ≡ true) → is_follower t.follows p ≡ false → run_of t h ≡ range_with_len h (p - h)
run_range t h p l m all end =
    let n : suc (p - h - 1) ≡ p - h = omega (arith, l) in
    let at : h + suc (p - h - 1) ≡ p = omega (arith, l) in
    run_is t (length t.uppers - h - 1) (p - h - 1) h (omega (arith, l, m)) (λ j a b. all j a (omega (arith, b, l))) (ap (is_follower t.follows) at ∙ end)
    ∙ ap (range_with_len h) n
