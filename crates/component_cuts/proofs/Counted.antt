-- The parts are as many as the vertices that are joined to no lesser vertex, and that number is one.
use Rattle.std.proofs.Common.{◌≡◌, ℕ, suc, ◌+◌, ◌-◌, ◌<◌, ◌≤◌, Bool, true, false, List, [], ◌∷◌, map, length, get_or, refl, sym, ◌∙◌, ap, subst, arith}
use Rattle.std.specs.Prelude.{◌≢◌}
use Rattle.std.proofs.lemmas.Bool.{false≢true}
use Rattle.std.proofs.lemmas.List.{get_or_default, length-map}
use Rattle.std.proofs.lemmas.List.Elements.{Contains-get_or}
use Rattle.cut_definitions.specs.Graph.{Graph}
use Rattle.cut_definitions.specs.Cuts.{has, least, IsAscendingWithin}
use Rattle.cut_definitions.specs.Components.{HasComponents}
use Rattle.cut_definitions.proofs.Lists.{Contains-from_map, Contains-map}
use Rattle.cut_definitions.proofs.Bridge.{same_ascending}
use Rattle.cut_definitions.proofs.Ascending.{has_contains, contains_has, member_within, least_has}
use Rattle.component_cuts.specs.Parts.{Parts, part_at, IsDivision, IsPart}
use Rattle.component_cuts.specs.Laws.{LawOfComponents, LawOfOneNumber}
use Rattle.component_cuts.proofs.Divided.{least_most}

-- ---- the least vertices ascend

-- a list whose members are of low to high, each before the next
rising : (low high : ℕ) (xs : List (List ℕ)) →
    ((i : ℕ) → i < length xs → (low ≤ least (get_or xs i [])) × (least (get_or xs i []) ≤ high)) →
    ((i j : ℕ) → i < j → j < length xs → least (get_or xs i []) < least (get_or xs j [])) →
    IsAscendingWithin low high (map least xs)
rising low high [] within up = tt
rising low high (x ∷ xs) within up =
    let own = within 0 (omega arith) in (
      own.0,
      own.1,
      rising (least x + 1) high xs
          (λ i l. (let less : least x < least (get_or xs i []) = up 0 (suc i) (omega arith) (omega arith) in omega arith, (within (suc i) (omega arith)).1))
          (λ i j l m. up (suc i) (suc j) (omega arith) (omega arith)),
    )

-- a place of the list of parts is the number of a part
place : (p : Parts) (i : ℕ) → i < length p.parts → IsPart p (suc i)
place p i l = (omega arith, omega arith)

part_there : (p : Parts) (i : ℕ) → part_at p (suc i) ≡ get_or p.parts i []
part_there p i = let e : suc i - 1 ≡ i = omega arith in ap (λ (k : ℕ). get_or p.parts k []) e

leasts_ascend : (p : Parts) → IsDivision p → IsAscendingWithin 1 p.vertices (map least p.parts)
leasts_ascend p d =
    rising 1 p.vertices p.parts
    (λ i l. subst (λ (s : List ℕ). (1 ≤ least s) × (least s ≤ p.vertices)) (part_there p i)
    (member_within 1 p.vertices (least (part_at p (suc i))) (part_at p (suc i)) (d.ascending (suc i) (place p i l))
    (least_has (part_at p (suc i)) (d.nonempty (suc i) (place p i l)))))
    (λ i j l m.
    let up : least (part_at p (suc i)) < least (part_at p (suc j)) = d.in_order (suc i) (suc j) (place p i (omega arith)) (place p j m) (omega arith) in
    rw (← part_there p i, ← part_there p j) up)

-- ---- they are the vertices that are joined to no lesser one

at_least : (p : Parts) (i : ℕ) → IsPart p i → has (map least p.parts) (least (part_at p i)) ≡ true
at_least p i is = contains_has (map least p.parts) (least (part_at p i)) (Contains-map least p.parts (part_at p i) (Contains-get_or p.parts (i - 1) [] (omega (arith, is.0, is.1))))

from_least : (p : Parts) (v : ℕ) → has (map least p.parts) v ≡ true → (i : ℕ) × IsPart p i × (least (part_at p i) ≡ v)
from_least p v h =
    let r = Contains-from_map least p.parts v (has_contains (map least p.parts) v h) in
    let k = r.1.0 in
    let here : get_or p.parts k [] ≡ r.0 = get_or_default p.parts k [] r.0 r.1.1 ∙ r.1.2 in
    (suc k, place p k r.1.1, ap least (part_there p k ∙ here) ∙ r.2)

pub law_of_components : LawOfComponents
law_of_components g p h =
    let d = h.division in
    let n_is : p.vertices ≡ g.vertices = h.same_vertices in
    record {
      firsts = map least p.parts;
      ascending = subst (λ (n : ℕ). IsAscendingWithin 1 n (map least p.parts)) n_is (leasts_ascend p d);
      counted = sym (length-map p.parts least);
      first = λ v one to is u low l together.
          let r = from_least p v is in
          let at_v = subst (λ (x : ℕ). has (part_at p r.0) x ≡ true) r.2 (least_has (part_at p r.0) (d.nonempty r.0 r.1)) in
          let own = d.covered u low (omega arith) in
          let same : own.0 ≡ r.0 = (h.joined own.0 r.0 u v own.1 r.1 own.2 at_v).1 together in
          let at_u = subst (λ (i : ℕ). has (part_at p i) u ≡ true) same own.2 in
          let most : least (part_at p r.0) ≤ u = least_most (part_at p r.0) u at_u in
          let is_v : least (part_at p r.0) ≡ v = r.2 in
          absurd (omega arith);
      later = λ v one to is.
          let own = d.covered v one (omega arith) in
          let u = least (part_at p own.0) in
          let some = least_has (part_at p own.0) (d.nonempty own.0 own.1) in
          let within = member_within 1 p.vertices u (part_at p own.0) (d.ascending own.0 own.1) some in
          let most : u ≤ v = least_most (part_at p own.0) v own.2 in
          let differ : u ≢ v = λ e. false≢true (sym is ∙ subst (λ (x : ℕ). has (map least p.parts) x ≡ true) e (at_least p own.0 own.1)) in
          (u, within.0, omega arith, (h.joined own.0 own.0 u v own.1 own.1 some own.2).0 refl);
    }

-- ---- one number

same_bool : (a b : Bool) → (a ≡ true → b ≡ false → ⊥) → (b ≡ true → a ≡ false → ⊥) → a ≡ b
same_bool true true f g = refl
same_bool true false f g = absurd (f refl refl)
same_bool false true f g = absurd (g refl refl)
same_bool false false f g = refl

-- no vertex is a first of one list and a later one of the other
first_or_later : (g : Graph) (a b : ℕ) (h : HasComponents g a) (k : HasComponents g b) (v : ℕ) → 1 ≤ v → v ≤ g.vertices → has h.firsts v ≡ true → has k.firsts v ≡ false → ⊥
first_or_later g a b h k v one to is not_is =
    let r = k.later v one to not_is in
    h.first v one to is r.0 r.1 r.2 r.3

pub law_of_one_number : LawOfOneNumber
law_of_one_number g a b h k =
    let same : h.firsts ≡ k.firsts = same_ascending 1 g.vertices h.firsts k.firsts h.ascending k.ascending
    (λ v one to. same_bool (has h.firsts v) (has k.firsts v) (first_or_later g a b h k v one to) (first_or_later g b a k h v one to)) in
    h.counted ∙ (ap length same ∙ sym k.counted)
