-- The first of a class, found from any number of it by as many steps as there are numbers.
use Rattle.std.proofs.Common.{◌≡◌, ℕ, zero, suc, ◌<◌, ◌≤◌, ⊎_elim, eqb, true, List, length, get_or, refl, sym, ◌∙◌, ap, arith}
use Rattle.std.specs.Prelude.{◌≢◌}
use Rattle.std.proofs.lemmas.Bool.{cases_eq, eq-eqb, eqb-true}
use Rattle.cut_definitions.specs.Weight.{VertexSet}
use Rattle.vertex_classes.specs.Classes.{AreJoined, AreParents, Respects}

-- this many steps from a number to its parent
climbed : List ℕ → ℕ → ℕ → ℕ
climbed parents zero v = v
climbed parents (suc k) v = climbed parents k (get_or parents v 0)

climbed-first : (parents : List ℕ) (k v : ℕ) → get_or parents v 0 ≡ v → climbed parents k v ≡ v
unfolding climbed
climbed-first parents zero v first = refl
climbed-first parents (suc k) v first = ap (climbed parents k) first ∙ climbed-first parents k v first

climbed-parent : (parents : List ℕ) (k v : ℕ) → climbed parents k (get_or parents v 0) ≡ climbed parents (suc k) v
unfolding climbed
climbed-parent parents k v = refl

-- one step more changes nothing if there were enough
climbed-more : (parents : List ℕ) → AreParents parents → (k v : ℕ) → v < length parents → v ≤ k → climbed parents (suc k) v ≡ climbed parents k v
unfolding climbed
climbed-more parents up zero v l low =
    let le = up v l in
    let first : get_or parents v 0 ≡ v = omega arith in
    first
climbed-more parents up (suc k) v l low =
    let le = up v l in
    ⊎_elim
    (λ (first : get_or parents v 0 ≡ v). climbed-first parents (suc (suc k)) v first ∙ sym (climbed-first parents (suc k) v first))
    (λ (ne : get_or parents v 0 ≢ v). climbed-more parents up k (get_or parents v 0) (omega (arith, le, l)) (omega (arith, le, ne, low)))
    (cases_eq (get_or parents v 0) v)

-- the numbers whose first is this one
of_first : List ℕ → ℕ → VertexSet
of_first parents a v = eqb (climbed parents (length parents) v) a

of_first-respects : (parents : List ℕ) (a : ℕ) → AreParents parents → Respects parents (of_first parents a)
unfolding of_first
of_first-respects parents a up v l = ap (λ (r : ℕ). eqb r a) (climbed-parent parents (length parents) v ∙ climbed-more parents up (length parents) v l (omega arith))

of_first-own : (parents : List ℕ) (a v : ℕ) → get_or parents v 0 ≡ v → of_first parents a v ≡ eqb v a
unfolding of_first
of_first-own parents a v first = ap (λ (r : ℕ). eqb r a) (climbed-first parents (length parents) v first)

-- different firsts are not joined
pub firsts_apart : (parents : List ℕ) (a b : ℕ) → AreParents parents → get_or parents a 0 ≡ a → get_or parents b 0 ≡ b → a ≢ b → ¬ AreJoined parents a b
firsts_apart parents a b up own other ne joined =
    let both = joined (of_first parents a) (of_first-respects parents a up) in
    let here = of_first-own parents a a own ∙ eq-eqb a a refl in
    ne (sym (eqb-true b a (sym (of_first-own parents a b other) ∙ (sym both ∙ here))))

-- no step leads up
climbed-low : (parents : List ℕ) → AreParents parents → (k v : ℕ) → v < length parents → climbed parents k v ≤ v
unfolding climbed
climbed-low parents up zero v l = omega arith
climbed-low parents up (suc k) v l =
    let le = up v l in
    omega (arith, climbed-low parents up k (get_or parents v 0) (omega (arith, le, l)))

of_first-is : (parents : List ℕ) (a v : ℕ) → of_first parents a v ≡ eqb (climbed parents (length parents) v) a
unfolding of_first
of_first-is parents a v = refl

-- no lesser number is joined with a first one
pub first_is_least : (parents : List ℕ) (u v : ℕ) → AreParents parents → get_or parents v 0 ≡ v → u < v → v < length parents → ¬ AreJoined parents u v
first_is_least parents u v up own less l joined =
    let both = joined (of_first parents v) (of_first-respects parents v up) in
    let here = of_first-own parents v v own ∙ eq-eqb v v refl in
    let there : eqb (climbed parents (length parents) u) v ≡ true = sym (of_first-is parents v u) ∙ (both ∙ here) in
    let low = climbed-low parents up (length parents) u (omega (arith, less, l)) in
    omega (arith, eqb-true (climbed parents (length parents) u) v there, low, less)
