-- Members of lists of vertices, ascending or not, and the order of edges.
use Rattle.std.proofs.Common.{◌≡◌, ℕ, ◌≤◌, true, List, ◌∷◌, length, arith, [], sym, ◌||◌, ap, ⊎_elim, refl, ◌+◌, ◌<◌, false, ◌∙◌, inl, inr, Bool}
use Rattle.std.specs.List.{Contains, list_all}
use Rattle.std.specs.Prelude.{◌==◌, ◌≢◌}
use Rattle.std.proofs.lemmas.Bool.{false≢true, eqb-true, eq-eqb, or_right, ne_eqb, cases_Bool}
use Rattle.std.proofs.lemmas.Bool.Decides.{nat_tests}
use Rattle.std.proofs.lemmas.List.Elements.{All-contains, All-weaker, All-contains_itself}
use Rattle.std.proofs.lemmas.List.Sums.{AllPass-from_list_all, list_all-from_AllPass}
use Rattle.std.proofs.lemmas.Map.Views.{Contains-from_any}
use Rattle.cut_definitions.specs.Cuts.{has, IsAscendingWithin, least}
use Rattle.cut_definitions.specs.Graph.{IsBefore}
use Rattle.cut_definitions.specs.declared.edge_list.Edge.{Edge}
use Rattle.cut_definitions.proofs.Lists.{Contains-cons_cases, Contains-nil}
use Rattle.cut_definitions.proofs.Values.{Contains-least}

-- members of a list, as a test and by place
pub length-has : (l : List ℕ) (v : ℕ) → has l v ≡ true → 1 ≤ length l
length-has [] v h = absurd (false≢true h)
length-has (x ∷ xs) v h = omega arith

pub has_contains : (xs : List ℕ) (v : ℕ) → has xs v ≡ true → Contains xs v
has_contains xs v h = Contains-from_any {eq = λ v x. x == v} (λ v x h. sym (eqb-true x v h)) v xs h

pub contains_has : (xs : List ℕ) (v : ℕ) → Contains xs v → has xs v ≡ true
contains_has [] v h = absurd (Contains-nil v h)
contains_has (x ∷ xs) v h =
    ⊎_elim
    (λ e. ap (λ b. b || has xs v) (eq-eqb x v e))
    (λ t. or_right (x == v) (has xs v) (contains_has xs v t))
    (Contains-cons_cases x xs v h)

pub has_other : (x v : ℕ) (xs : List ℕ) → x ≢ v → has (x ∷ xs) v ≡ has xs v
has_other x v xs ne = rw (ne_eqb x v ne) refl

-- where the members of an ascending list lie
pub has_high : (low high v : ℕ) (s : List ℕ) → IsAscendingWithin low high s → high < v → has s v ≡ false
has_high low high v [] a l = refl
has_high low high v (x ∷ xs) a l = has_other x v xs (λ e. omega (arith, a.1)) ∙ has_high (x + 1) high v xs a.2 l

pub member_within : (low high v : ℕ) (vs : List ℕ) → IsAscendingWithin low high vs → has vs v ≡ true → (low ≤ v) × (v ≤ high)
member_within low high v [] h g = absurd (cc g)
member_within low high v (x ∷ xs) h g = elim (cases_Bool (x == v)) [
  | inl e ↦ let same : x ≡ v = eqb-true x v e in (omega (arith, same, h.0), omega (arith, same, h.1))
  | inr e ↦
      let later = member_within (x + 1) high v xs h.2 (sym (ap (λ (b : Bool). b || has xs v) e) ∙ g) in
      (omega (arith, later.0, h.0), later.1)
]

-- the list of one vertex
pub has_one : (x v : ℕ) → has (x ∷ []) v ≡ true → x ≡ v
has_one x v h = grind (arith, nat_tests, h)

-- what holds of all members
pub all_at : (f : ℕ → Bool) (xs : List ℕ) (v : ℕ) → list_all f xs ≡ true → has xs v ≡ true → f v ≡ true
all_at f xs v all is = All-contains (λ u. f u ≡ true) xs v (AllPass-from_list_all f xs all) (has_contains xs v is)

pub all_from : (f : ℕ → Bool) (xs : List ℕ) → ((v : ℕ) → has xs v ≡ true → f v ≡ true) → list_all f xs ≡ true
all_from f xs h = list_all-from_AllPass f xs (All-weaker (Contains xs) (λ u. f u ≡ true) (λ u c. h u (contains_has xs u c)) xs (All-contains_itself xs))

-- the order of edges
pub IsBefore-trans : (a b c : Edge) → IsBefore a b → IsBefore b c → IsBefore a c
IsBefore-trans a b c p q = grind arith

pub IsBefore-irreflexive : (e : Edge) → IsBefore e e → ⊥
IsBefore-irreflexive e p = grind arith

pub same_edge : (e d : Edge) → e.u ≡ d.u → e.v ≡ d.v → e.w ≡ d.w → e ≡ d
same_edge e d p q r =
    ap (λ (x : ℕ). let y : Edge = record { u = x; v = e.v; w = e.w } in y) p
    ∙ (ap (λ (x : ℕ). let y : Edge = record { u = d.u; v = x; w = e.w } in y) q
    ∙ ap (λ (x : ℕ). let y : Edge = record { u = d.u; v = d.v; w = x } in y) r)

-- the least member is there
pub least_has : (l : List ℕ) → (l ≡ [] → ⊥) → has l (least l) ≡ true
least_has [] h = absurd (h refl)
least_has (x ∷ xs) h = contains_has (x ∷ xs) (least (x ∷ xs)) (Contains-least x xs)
