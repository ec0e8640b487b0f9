-- Lists that a loop makes of the first elements of another, with one element more.
use Rattle.std.proofs.Common.{◌≡◌, ◌<◌, ◌+◌, ℕ, zero, suc, List, [], ◌∷◌, ◌++◌, length, get_or, take, map, ap, sym, ◌∙◌, refl, append-nil}
use Rattle.std.specs.List.{flat_map}
use Rattle.std.specs.Global.{Vec}
use Rattle.std.proofs.lemmas.List.{length-append, map-append, take_more}
use Rattle.std.proofs.lemmas.Grind.{flat_map-append}
use Rattle.rooted_cactus.specs.Spread.{group_at}

pub map_next : {X Y : Type 0} (f : X → Y) (xs : List X) (i : ℕ) (d : X) (old : List Y) → i < length xs → old ≡ map f (take i xs)
    → old ++ f (get_or xs i d) ∷ [] ≡ map f (take (i + 1) xs)
map_next f xs i d old h so =
    let x = get_or xs i d in
    ap (λ l. l ++ f x ∷ []) so ∙ sym (ap (map f) (take_more xs i d h) ∙ map-append f (take i xs) (x ∷ []))

pub flat_next : {X Y : Type 0} (f : X → List Y) (xs : List X) (i : ℕ) (d : X) (old : List Y) → i < length xs → old ≡ flat_map f (take i xs)
    → old ++ f (get_or xs i d) ≡ flat_map f (take (i + 1) xs)
flat_next f xs i d old h so =
    let x = get_or xs i d in
    ap (λ l. l ++ f x) so
    ∙ ap (λ l. flat_map f (take i xs) ++ l) (sym (append-nil (f x)))
    ∙ sym (ap (flat_map f) (take_more xs i d h) ∙ flat_map-append f (take i xs) (x ∷ []))

-- a list without an element put behind others changes none of them
pub no_group_next : (groups : List (Vec ℕ)) (v : Vec ℕ) → v.items ≡ [] → ((k : ℕ) → group_at groups k ≡ []) → (k : ℕ) → group_at (groups ++ v ∷ []) k ≡ []
no_group_next [] v e h zero = e
no_group_next [] v e h (suc k) = refl
no_group_next (g ∷ gs) v e h zero = h zero
no_group_next (g ∷ gs) v e h (suc k) = no_group_next gs v e (λ j. h (suc j)) k

pub one_longer : {X : Type 0} (xs new : List X) (x : X) (n : ℕ) → new ≡ xs ++ x ∷ [] → length xs ≡ n → length new ≡ n + 1
one_longer xs new x n e so = ap length e ∙ length-append xs (x ∷ []) ∙ ap (λ k. k + 1) so
