-- Lists of nodes of which one is changed, and what several lists of nodes have together.
use Rattle.std.proofs.Common.{◌≡◌, ℕ, zero, suc, ◌+◌, ◌<◌, ◌≤◌, List, [], ◌∷◌, ◌++◌, length, map, reverse, get_or, set, take, drop, IsPermutation, refl, sym, ◌∙◌, subst, ap, arith}
use Rattle.std.specs.List.{flat_map}
use Rattle.std.proofs.lemmas.List.{append-nil, append_assoc, length-append, reverse-append, take-append-drop}
use Rattle.std.proofs.lemmas.List.Concat.{flat_map-append}
use Rattle.std.proofs.lemmas.List.Sorted.{IsPermutation-refl, IsPermutation-trans, IsPermutation-append_left, IsPermutation-append_right, IsPermutation-append_comm}
use Rattle.rooted_cactus.specs.declared.tree.Node.{Node}
use Rattle.rooted_cactus.specs.Widths.{widths, joined}
use Rattle.rooted_cactus.proofs.Built.{joined_map}
use Rattle.node_tree.specs.Forest.{AreFrom, IsChangedAt}

-- ---- one node is changed
pub changed : (xs : List Node) (i : ℕ) (x y : Node) (R : Node → Node → Type 0) → i < length xs → x ≡ get_or xs i x → R x y → IsChangedAt i R xs (set xs i y)
changed [] i x y R h e r = absurd (omega (arith, h))
changed (z ∷ zs) zero x y R h e r = record { before = []; node = x; changed = y; after = zs; at = refl; was = ap (λ w. w ∷ zs) (sym e); is = refl; change = r }
changed (z ∷ zs) (suc i) x y R h e r =
    let c = changed zs i x y R (omega (arith, h)) e r in
    record { before = z ∷ c.before; node = c.node; changed = c.changed; after = c.after; at = ap suc c.at; was = ap (λ w. z ∷ w) c.was; is = ap (λ w. z ∷ w) c.is; change = c.change }

pub changed_length : (place : ℕ) (R : Node → Node → Type 0) (old new : List Node) → IsChangedAt place R old new → length new ≡ length old
changed_length place R old new c = omega (arith, ap length c.is, ap length c.was, length-append c.before (c.changed ∷ c.after), length-append c.before (c.node ∷ c.after))

-- ---- what each element is by its place
next_place : (k l : ℕ) → suc k + l ≡ k + suc l
next_place k l = omega arith

pub from_append : {X : Type 0} (P : ℕ → X → Type 0) (k : ℕ) (xs ys : List X) → AreFrom P k xs → AreFrom P (k + length xs) ys → AreFrom P k (xs ++ ys)
from_append P k [] ys h r = let e : k + 0 ≡ k = omega arith in subst (λ j. AreFrom P j ys) e r
from_append P k (x ∷ xs) ys h r = (h.0, from_append P (suc k) xs ys h.1 (subst (λ j. AreFrom P j ys) (sym (next_place k (length xs))) r))

pub from_front : {X : Type 0} (P : ℕ → X → Type 0) (k : ℕ) (xs ys : List X) → AreFrom P k (xs ++ ys) → AreFrom P k xs
from_front P k [] ys h = tt
from_front P k (x ∷ xs) ys h = (h.0, from_front P (suc k) xs ys h.1)

pub from_back : {X : Type 0} (P : ℕ → X → Type 0) (k : ℕ) (xs ys : List X) → AreFrom P k (xs ++ ys) → AreFrom P (k + length xs) ys
from_back P k [] ys h = let e : k ≡ k + 0 = omega arith in subst (λ j. AreFrom P j ys) e h
from_back P k (x ∷ xs) ys h = subst (λ j. AreFrom P j ys) (next_place k (length xs)) (from_back P (suc k) xs ys h.1)

pub from_weaker : {X : Type 0} (P Q : ℕ → X → Type 0) (k : ℕ) (xs : List X) → ((j : ℕ) (x : X) → k ≤ j → j < k + length xs → P j x → Q j x) → AreFrom P k xs → AreFrom Q k xs
from_weaker P Q k [] f h = tt
from_weaker P Q k (x ∷ xs) f h = (f k x (omega arith) (omega arith) h.0, from_weaker P Q (suc k) xs (λ j y l m p. f j y (omega (arith, l)) (omega (arith, m)) p) h.1)

-- where one node is changed, and the others stay
pub from_changed : (P Q : ℕ → Node → Type 0) (place : ℕ) (R : Node → Node → Type 0) (old new : List Node) → IsChangedAt place R old new →
    ((j : ℕ) (x : Node) → j < length old → (j ≡ place → ⊥) → P j x → Q j x) → ((x y : Node) → P place x → R x y → Q place y) → AreFrom P 0 old → AreFrom Q 0 new
from_changed P Q place R old new c other here h =
    let B = c.before in
    let C = c.after in
    let long : length old ≡ length (B ++ c.node ∷ C) = ap length c.was in
    let split : AreFrom P 0 (B ++ c.node ∷ C) = subst (AreFrom P 0) c.was h in
    let behind : AreFrom P (0 + length B) (c.node ∷ C) = from_back P 0 B (c.node ∷ C) split in
    let at : 0 + length B ≡ place = omega (arith, c.at) in
    let many : length (B ++ c.node ∷ C) ≡ length B + suc (length C) = length-append B (c.node ∷ C) in
    let first : AreFrom Q 0 B = from_weaker P Q 0 B (λ j x l m p. other j x (omega (arith, m, long, many)) (λ e. omega (arith, e, m, c.at)) p) (from_front P 0 B (c.node ∷ C) split) in
    let rest : AreFrom P place (c.node ∷ C) = subst (λ j. AreFrom P j (c.node ∷ C)) at behind in
    let last : AreFrom Q (suc place) C = from_weaker P Q (suc place) C (λ j x l m p. other j x (omega (arith, m, long, many, c.at)) (λ e. omega (arith, e, l)) p) rest.1 in
    subst (AreFrom Q 0) (sym c.is) (from_append Q 0 B (c.changed ∷ C) first (subst (λ j. AreFrom Q j (c.changed ∷ C)) (sym at) (here c.node c.changed rest.0 c.change, last)))

-- ---- from the last to the first
pub reverse_more : {X : Type 0} (x : X) (xs : List X) → reverse (x ∷ xs) ≡ reverse xs ++ x ∷ []
reverse_more x xs = reverse-append (x ∷ []) xs

pub flat_reverse : {X Y : Type 0} (f : X → List Y) (xs : List X) → IsPermutation (flat_map f (reverse xs)) (flat_map f xs)
flat_reverse f [] = IsPermutation-refl []
flat_reverse f (x ∷ xs) =
    let last : flat_map f (reverse (x ∷ xs)) ≡ flat_map f (reverse xs) ++ f x =
    ap (flat_map f) (reverse_more x xs) ∙ flat_map-append f (reverse xs) (x ∷ []) ∙ ap (λ l. flat_map f (reverse xs) ++ l) (append-nil (f x)) in
    subst (λ l. IsPermutation l (f x ++ flat_map f xs)) (sym last)
    (IsPermutation-trans _ _ _ (IsPermutation-append_left (f x) _ _ (flat_reverse f xs)) (IsPermutation-append_comm (flat_map f xs) (f x)))

-- ---- what the nodes have together
module _ {Y : Type 0} (f : Node → List Y) (place : ℕ) (R : Node → Node → Type 0) (more : List Y) (old new : List Node) (c : IsChangedAt place R old new) (adds : f c.changed ≡ f c.node ++ more) where
  -- one node has more
  pub changed_flat : IsPermutation (flat_map f new) (more ++ flat_map f old)
  changed_flat =
      let B = flat_map f c.before in
      let C = flat_map f c.after in
      let is : flat_map f new ≡ B ++ (f c.node ++ (more ++ C)) = ap (flat_map f) c.is ∙ flat_map-append f c.before (c.changed ∷ c.after) ∙ ap (λ l. B ++ (l ++ C)) adds ∙ ap (λ l. B ++ l) (append_assoc (f c.node) more C) in
      let was : (B ++ f c.node) ++ C ≡ flat_map f old = append_assoc B (f c.node) C ∙ sym (flat_map-append f c.before (c.node ∷ c.after)) ∙ sym (ap (flat_map f) c.was) in
      let moved : IsPermutation ((B ++ f c.node) ++ (more ++ C)) (more ++ ((B ++ f c.node) ++ C)) =
      subst (λ l. IsPermutation l (more ++ ((B ++ f c.node) ++ C))) (append_assoc (B ++ f c.node) more C)
      (subst (λ l. IsPermutation (((B ++ f c.node) ++ more) ++ C) l) (append_assoc more (B ++ f c.node) C)
      (IsPermutation-append_left C _ _ (IsPermutation-append_comm (B ++ f c.node) more))) in
      subst (λ l. IsPermutation (flat_map f new) (more ++ l)) was (subst (λ l. IsPermutation l (more ++ ((B ++ f c.node) ++ C))) (append_assoc B (f c.node) (more ++ C) ∙ sym is) moved)

-- the last nodes are hung below one of the first, with something more
pub hung_flat : {Y : Type 0} (f : Node → List Y) (place first : ℕ) (R : Node → Node → Type 0) (extra : List Y) (nodes new : List Node) (c : IsChangedAt place R (take first nodes) new) →
    f c.changed ≡ f c.node ++ (extra ++ flat_map f (reverse (drop first nodes))) → IsPermutation (flat_map f new) (extra ++ flat_map f nodes)
hung_flat f place first R extra nodes new c adds =
    let A = flat_map f (take first nodes) in
    let G = flat_map f (drop first nodes) in
    let whole : A ++ G ≡ flat_map f nodes = sym (flat_map-append f (take first nodes) (drop first nodes)) ∙ ap (flat_map f) (take-append-drop first nodes) in
    let moved : IsPermutation ((extra ++ flat_map f (reverse (drop first nodes))) ++ A) ((extra ++ G) ++ A) =
    IsPermutation-append_left A _ _ (IsPermutation-append_right extra _ _ (flat_reverse f (drop first nodes))) in
    let turned : IsPermutation ((extra ++ G) ++ A) (extra ++ flat_map f nodes) =
    subst (λ l. IsPermutation ((extra ++ G) ++ A) (extra ++ l)) whole
    (subst (λ l. IsPermutation l (extra ++ (A ++ G))) (sym (append_assoc extra G A)) (IsPermutation-append_right extra _ _ (IsPermutation-append_comm G A))) in
    IsPermutation-trans _ _ _ (changed_flat f place R (extra ++ flat_map f (reverse (drop first nodes))) (take first nodes) new c adds) (IsPermutation-trans _ _ _ moved turned)

-- ---- the numbers of children
pub widths_joined : (xs : List Node) → joined (map widths xs) ≡ flat_map widths xs
widths_joined xs = joined_map widths xs
