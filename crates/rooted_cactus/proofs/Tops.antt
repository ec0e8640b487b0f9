-- Lists that are taken from their end.
use Rattle.std.proofs.Common.{◌≡◌, ℕ, ◌-◌, ◌≤◌, List, [], ◌∷◌, ◌++◌, length, map, reverse, take, drop, ap, ◌∙◌, sym, refl, arith}
use Rattle.std.proofs.lemmas.List.{append_assoc, append-nil, length-drop, map-append, reverse-append, take-append-drop}
use Rattle.std.proofs.Math.Seq.{take-append_seam, drop-append_seam}
use Rattle.rooted_cactus.specs.Entries.{top_first}
use Rattle.rooted_cactus.proofs.Entries.{top_length}

pub top_both : {X : Type 0} (xs ys : List X) → top_first (xs ++ ys) ≡ top_first ys ++ top_first xs
top_both [] ys = sym (append-nil (top_first ys))
top_both (x ∷ xs) ys = ap (λ l. l ++ x ∷ []) (top_both xs ys) ∙ append_assoc (top_first ys) (top_first xs) (x ∷ [])

pub top_twice : {X : Type 0} (xs : List X) → top_first (top_first xs) ≡ xs
top_twice [] = refl
top_twice (x ∷ xs) = top_both (top_first xs) (x ∷ []) ∙ ap (λ l. x ∷ l) (top_twice xs)

pub top_map : {X Y : Type 0} (f : X → Y) (xs : List X) → map f (top_first xs) ≡ top_first (map f xs)
top_map f [] = refl
top_map f (x ∷ xs) = map-append f (top_first xs) (x ∷ []) ∙ ap (λ l. l ++ f x ∷ []) (top_map f xs)

pub reversed_top : {X : Type 0} (xs : List X) → reverse xs ≡ top_first xs
reversed_top [] = refl
reversed_top (x ∷ xs) = reverse-append (x ∷ []) xs ∙ ap (λ l. l ++ x ∷ []) (reversed_top xs)

-- ---- several elements are taken off the end at once
module _ {X : Type 0} (xs : List X) (n k : ℕ) (all : n ≡ length xs) (few : k ≤ length xs) where
  back_first : top_first (drop (n - k) xs) ++ top_first (take (n - k) xs) ≡ top_first xs
  back_first = sym (top_both (take (n - k) xs) (drop (n - k) xs)) ∙ ap top_first (take-append-drop (n - k) xs)

  back_length : length (top_first (drop (n - k) xs)) ≡ k
  back_length = omega (arith, all, few, top_length (drop (n - k) xs), length-drop (n - k) xs)

  pub top_behind : (ys : List X) → ys ≡ drop (n - k) xs → top_first ys ≡ take k (top_first xs)
  top_behind ys e =
      let back = top_first (drop (n - k) xs) in
      let front = top_first (take (n - k) xs) in
      ap top_first e ∙ sym (take-append_seam back front) ∙ ap (λ j. take j (back ++ front)) back_length ∙ ap (take k) back_first

  pub top_before : (ys : List X) → ys ≡ take (n - k) xs → top_first ys ≡ drop k (top_first xs)
  top_before ys e =
      let back = top_first (drop (n - k) xs) in
      let front = top_first (take (n - k) xs) in
      ap top_first e ∙ sym (drop-append_seam back front) ∙ ap (λ j. drop j (back ++ front)) back_length ∙ ap (drop k) back_first

-- ---- one more of a row that is taken from its end
pub filled_one : {X Y : Type 0} (f : X → Y) (done more : List Y) (before after : List X) (x : X) (all : List Y) → more ≡ done ++ f x ∷ [] → before ≡ x ∷ after → done ++ map f before ≡ all → more ++ map f after ≡ all
filled_one f done more before after x all m b h =
    ap (λ l. l ++ map f after) m ∙ append_assoc done (f x ∷ []) (map f after) ∙ ap (λ l. done ++ map f l) (sym b) ∙ h

pub filled_all : {X Y : Type 0} (f : X → Y) (done : List Y) (row : List X) (all : List Y) → row ≡ [] → done ++ map f row ≡ all → done ≡ all
filled_all f done row all e h = sym (append-nil done) ∙ ap (λ l. done ++ map f l) (sym e) ∙ h
