-- The unions of components by their masses.
use Rattle.std.proofs.Common.{◌≡◌, ℕ, zero, suc, ◌+◌, ◌-◌, ◌<◌, ◌≤◌, ⊎_elim, Bool, true, false, ◌&&◌, ◌||◌, eqb, leb, List, length, get_or, min, refl, sym, ◌∙◌, ap, arith}
use Rattle.std.specs.Prelude.{◌≢◌, if◌then◌else◌}
use Rattle.std.specs.List.{Contains}
use Rattle.std.proofs.lemmas.Bool.{cases_eq, cases_Bool, eq-eqb, ne_eqb, false≢true, and_left, and_right, le-leb, lt-leb}
use Rattle.std.proofs.lemmas.List.Elements.{All-weaker, All-contains_itself}
use Rattle.cut_definitions.specs.Weight.{VertexSet, either}
use Rattle.cut_definitions.specs.Cuts.{has, least}
use Rattle.cut_definitions.specs.Balance.{mass, balance, IsBest}
use Rattle.cut_definitions.proofs.Masses.{mass-agree, mass-either, mass-complement, mass-none}
use Rattle.vertex_set.specs.Side.{VertexList, listed}
use Rattle.vertex_set.proofs.Bits.{has-listed}
use Rattle.component_cuts.specs.Parts.{part_at, divided, unions, IsPart, IsNumbering}
use Rattle.component_cuts.specs.Doubling.{chosen_vertices}
use Rattle.component_cuts.specs.Sums.{mass_of_number, sum_of_rows, AreRows, IsBestSum}
use Rattle.component_cuts.proofs.Divided.{in_part, length_divided, numbering_divides, to_part}
use Rattle.component_cuts.proofs.Doubled.{part_kept, union_from, union_to}
use Rattle.component_cuts.proofs.Rows.{sums_made}
use Rattle.cut_definitions.proofs.Bridge.{IsAscendingWithin-filter}
use Rattle.cut_definitions.proofs.Bools.{and_kept}
use Rattle.cut_definitions.proofs.Numbers.{later_same}
use Rattle.cut_definitions.proofs.Ascending.{least_has}

-- the masses of the numbers of a numbering
pub record AreSums (masses part_of : List ℕ) (count : ℕ) (sums : List ℕ) : Type 0 where
  pub each : (i : ℕ) → i ≤ count → get_or sums i 0 ≡ mass_of_number masses part_of i

-- the vertices of the chosen numbers up to that of a row
abbrev pick : List ℕ → (ℕ → Bool) → ℕ → VertexSet
pick part_of chosen row v = chosen (get_or part_of v 0) && leb (get_or part_of v 0) (row + 1)

with_next : (a b c d e : Bool) → b ≡ false → c ≡ true → d ≡ a → e ≡ true → (a && c) ≡ ((a && b) || (d && e))
with_next a b c d e p q r s = grind arith

without_next : (a b c d e : Bool) → b ≡ c → e ≡ false → (a && c) ≡ ((a && b) || (d && e))
without_next a b c d e p q = grind arith

apart : (a b d e : Bool) → (e ≡ true → b ≡ false) → ((a && b) && (d && e)) ≡ false
apart a b d true h = and_none a b d (h refl)
  where
    and_none : (a b d : Bool) → b ≡ false → ((a && b) && (d && true)) ≡ false
    and_none a b d h = grind arith
apart a b d false h = last_false (a && b) d
  where
    last_false : (a d : Bool) → (a && (d && false)) ≡ false
    last_false a d = grind arith

pick_more : (part_of : List ℕ) (chosen : ℕ → Bool) (row v : ℕ) → pick part_of chosen (suc row) v ≡ either (pick part_of chosen row) (λ u. chosen (row + 2) && eqb (get_or part_of u 0) (row + 2)) v
pick_more part_of chosen row v =
    let l = get_or part_of v 0 in
    let next : suc row + 1 ≡ row + 1 + 1 = omega arith in
    let at : leb l (suc row + 1) ≡ leb l (row + 1 + 1) = ap (leb l) next in
    ⊎_elim
    (λ (e : l ≡ row + 2). with_next (chosen l) (leb l (row + 1)) (leb l (suc row + 1)) (chosen (row + 2)) (eqb l (row + 2)) (lt-leb l (row + 1) (omega arith)) (le-leb l (suc row + 1) (omega arith)) (ap chosen (sym e)) (eq-eqb l (row + 2) e))
    (λ (ne : l ≢ row + 2). without_next (chosen l) (leb l (row + 1)) (leb l (suc row + 1)) (chosen (row + 2)) (eqb l (row + 2)) (later_same l (row + 1) (λ q. ne (omega arith)) ∙ sym at) (ne_eqb l (row + 2) ne))
    (cases_eq l (row + 2))

chosen_mass : (masses part_of : List ℕ) (b : Bool) (i w : ℕ) → w ≡ mass_of_number masses part_of i → mass masses (λ u. b && eqb (get_or part_of u 0) i) ≡ (if b then w else 0)
chosen_mass masses part_of true i w e = sym e
chosen_mass masses part_of false i w e = mass-none masses

mass_picked : (n count : ℕ) (part_of masses sums : List ℕ) → IsNumbering n count part_of → length masses ≡ n → AreSums masses part_of count sums → (chosen : ℕ → Bool) → chosen 1 ≡ false →
    (row : ℕ) → row + 1 ≤ count → mass masses (pick part_of chosen row) ≡ sum_of_rows sums chosen row
mass_picked n count part_of masses sums h long are chosen first zero le =
    mass-agree masses (pick part_of chosen 0) (λ v. false)
    (λ v one to.
    let l = get_or part_of v 0 in
    let low : 1 ≤ l = h.from_one v one (omega arith) in
    ⊎_elim
    (λ (e : l ≡ 1). and_left (chosen l) (leb l 1) (ap chosen e ∙ first))
    (λ (ne : l ≢ 1). and_right (chosen l) (leb l 1) (lt-leb l 1 (omega arith)))
    (cases_eq l 1))
    ∙ mass-none masses
mass_picked n count part_of masses sums h long are chosen first (suc row) le =
    let s = pick part_of chosen row in
    let t = λ (u : ℕ). chosen (row + 2) && eqb (get_or part_of u 0) (row + 2) in
    let split : mass masses (pick part_of chosen (suc row)) ≡ mass masses (either s t) = mass-agree masses (pick part_of chosen (suc row)) (either s t) (λ v one to. pick_more part_of chosen row v) in
    let both : mass masses (either s t) ≡ mass masses s + mass masses t = mass-either masses s t
    (λ v one to. let l = get_or part_of v 0 in
    apart (chosen l) (leb l (row + 1)) (chosen (row + 2)) (eqb l (row + 2)) (λ e. lt-leb l (row + 1) (omega (arith, from_eqb l (row + 2) e)))) in
    let here : mass masses t ≡ (if chosen (row + 2) then get_or sums (row + 2) 0 else 0) = chosen_mass masses part_of (chosen (row + 2)) (row + 2) (get_or sums (row + 2) 0) (are.each (row + 2) (omega arith)) in
    omega (arith, mass_picked n count part_of masses sums h long are chosen first row (omega arith))
  where
    from_eqb : (a b : ℕ) → eqb a b ≡ true → a ≡ b
    from_eqb a b e = grind arith

pub mass_chosen : (n count : ℕ) (part_of masses sums : List ℕ) → IsNumbering n count part_of → length masses ≡ n → AreSums masses part_of count sums → (chosen : ℕ → Bool) → chosen 1 ≡ false → 1 ≤ count →
    (s : VertexSet) → ((v : ℕ) → 1 ≤ v → v ≤ n → s v ≡ chosen (get_or part_of v 0)) → mass masses s ≡ sum_of_rows sums chosen (count - 1)
mass_chosen n count part_of masses sums h long are chosen first one s same =
    mass-agree masses s (pick part_of chosen (count - 1))
    (λ v low high.
    let l = get_or part_of v 0 in
    let to : l ≤ count = h.to_count v in
    same v low (omega arith) ∙ sym (and_kept (chosen l) (leb l (count - 1 + 1)) (le-leb l (count - 1 + 1) (omega arith))))
    ∙ mass_picked n count part_of masses sums h long are chosen first (count - 1) (omega arith)

pub balance_is : (masses side : List ℕ) (sum : ℕ) → mass masses (has side) ≡ sum → balance masses side ≡ min sum (mass masses (λ v. true) - sum)
balance_is masses side sum e =
    let all = mass-complement masses (has side) in
    omega arith

-- no union is more balanced than the best sum
pub none_better : (n count : ℕ) (part_of masses sums : List ℕ) (table : VertexList) (width sum : ℕ) → IsNumbering n count part_of → length masses ≡ n → AreSums masses part_of count sums → 2 ≤ count →
    width ≡ mass masses (λ v. true) + 1 → AreRows sums width (count - 1) table → IsBestSum table width (count - 1) sum → (other : List ℕ) → Contains (unions (divided n count part_of)) other →
    balance masses other ≤ min sum (mass masses (λ v. true) - sum)
none_better n count part_of masses sums table width sum h long are two width_is rows best other c =
    let p = divided n count part_of in
    let d = numbering_divides n count part_of h in
    let u = union_from p d other c in
    let chosen = λ (i : ℕ). has other (least (part_at p i)) in
    let one : IsPart p 1 = (let l : 1 ≤ 1 = omega arith in l, omega (arith, length_divided n count part_of)) in
    let first : chosen 1 ≡ false = ⊎_elim
    (λ (t : chosen 1 ≡ true). absurd (omega (arith, (u.inside 1 (least (part_at p 1)) one (least_has (part_at p 1) (d.nonempty 1 one)) t).0)))
    (λ (f : chosen 1 ≡ false). f)
    (cases_Bool (chosen 1)) in
    let mass_is : mass masses (has other) ≡ sum_of_rows sums chosen (count - 1) = mass_chosen n count part_of masses sums h long are chosen first (omega arith) (has other)
    (λ v low high.
    let at = to_part n count part_of v h low high in
    u.kept (get_or part_of v 0) v (least (part_at p (get_or part_of v 0))) at.0 at.1 (least_has (part_at p (get_or part_of v 0)) (d.nonempty (get_or part_of v 0) at.0))) in
    let y = sum_of_rows sums chosen (count - 1) in
    let all = mass-complement masses (has other) in
    let small : y < width = omega arith in
    let there = sums_made sums width (count - 1) table rows chosen (count - 1) (omega arith) small in
    omega (arith, balance_is masses other y mass_is, best.best y small there)

-- a part after the first is a union
pub second_is_union : (n count : ℕ) (part_of : List ℕ) → IsNumbering n count part_of → 2 ≤ count → Contains (unions (divided n count part_of)) (part_at (divided n count part_of) 2)
second_is_union n count part_of h two =
    let p = divided n count part_of in
    let d = numbering_divides n count part_of h in
    let is : IsPart p 2 = (let l : 1 ≤ 2 = omega arith in l, omega (arith, length_divided n count part_of)) in
    union_to p d (part_at p 2) (record {
      nonempty = d.nonempty 2 is;
      ascending = d.ascending 2 is;
      kept = λ i u v js a b. part_kept p d 2 i u v is js a b;
      inside = λ i v js a b. let e : i ≡ 2 = d.apart i 2 v js is a b in (omega arith, js.1);
    })

-- the chosen parts are a union, if their mass is not 0
pub chosen_is_union : (n count : ℕ) (part_of masses : List ℕ) (chosen : List Bool) (s : VertexList) → IsNumbering n count part_of → 2 ≤ count → length masses ≡ n → get_or chosen 1 false ≡ false → s ≡ listed n (chosen_vertices part_of chosen) →
    1 ≤ mass masses (has s.members) → Contains (unions (divided n count part_of)) s.members
chosen_is_union n count part_of masses chosen s h two long first e some =
    let p = divided n count part_of in
    let d = numbering_divides n count part_of h in
    let t = chosen_vertices part_of chosen in
    let members : s.members ≡ (listed n t).members = ap (λ (x : VertexList). x.members) e in
    let has_is = λ (v : ℕ) (one : 1 ≤ v) (to : v ≤ n). let q : has s.members v ≡ t v = ap (λ (xs : List ℕ). has xs v) members ∙ has-listed n t v one to in q in
    union_to p d s.members (record {
      nonempty = λ none. absurd (omega (arith, ap (λ (xs : List ℕ). mass masses (has xs)) none, mass-none masses));
      ascending = rw members (IsAscendingWithin-filter n 1 n t (omega arith));
      kept = λ i u v is a b.
          let at_u = in_part n count part_of i u is a in
          let at_v = in_part n count part_of i v is b in
          has_is u at_u.0 at_u.1 ∙ (ap (λ (k : ℕ). get_or chosen k false) (at_u.2 ∙ sym at_v.2) ∙ sym (has_is v at_v.0 at_v.1));
      inside = λ i v is a b.
          let at_v = in_part n count part_of i v is a in
          let yes : get_or chosen i false ≡ true = ap (λ (k : ℕ). get_or chosen k false) (sym at_v.2) ∙ (sym (has_is v at_v.0 at_v.1) ∙ b) in
          let other : i ≢ 1 = λ q. false≢true (sym first ∙ (ap (λ (k : ℕ). get_or chosen k false) (sym q) ∙ yes)) in
          (omega (arith, is.0), is.1);
    })

pub is_best : (masses : List ℕ) (sides : List (List ℕ)) (side : List ℕ) → Contains sides side → ((other : List ℕ) → Contains sides other → balance masses other ≤ balance masses side) → IsBest masses sides side
is_best masses sides side c h = record { member = c; none_greater = All-weaker (Contains sides) (λ other. balance masses other ≤ balance masses side) h sides (All-contains_itself sides) }

pub best_second : (n count : ℕ) (part_of masses sums : List ℕ) (table : VertexList) (width sum : ℕ) → IsNumbering n count part_of → length masses ≡ n → AreSums masses part_of count sums → 2 ≤ count →
    width ≡ mass masses (λ v. true) + 1 → AreRows sums width (count - 1) table → IsBestSum table width (count - 1) sum → min sum (mass masses (λ v. true) - sum) ≡ 0 →
    IsBest masses (unions (divided n count part_of)) (part_at (divided n count part_of) 2)
best_second n count part_of masses sums table width sum h long are two width_is rows best none =
    let p = divided n count part_of in
    is_best masses (unions p) (part_at p 2) (second_is_union n count part_of h two)
    (λ other c. omega (arith, none_better n count part_of masses sums table width sum h long are two width_is rows best other c))

pub best_chosen : (n count : ℕ) (part_of masses sums : List ℕ) (table : VertexList) (width sum : ℕ) → IsNumbering n count part_of → length masses ≡ n → AreSums masses part_of count sums → 2 ≤ count →
    width ≡ mass masses (λ v. true) + 1 → AreRows sums width (count - 1) table → IsBestSum table width (count - 1) sum → 1 ≤ sum → (chosen : List Bool) (s : VertexList) → get_or chosen 1 false ≡ false →
    sum_of_rows sums (λ i. get_or chosen i false) (count - 1) ≡ sum → s ≡ listed n (chosen_vertices part_of chosen) → IsBest masses (unions (divided n count part_of)) s.members
best_chosen n count part_of masses sums table width sum h long are two width_is rows best some chosen s first sum_is e =
    let p = divided n count part_of in
    let t = chosen_vertices part_of chosen in
    let mass_is : mass masses (has s.members) ≡ sum = mass_chosen n count part_of masses sums h long are (λ i. get_or chosen i false) first (omega arith) (has s.members)
    (λ v one to. ap (λ (x : VertexList). has x.members v) e ∙ has-listed n t v one to) ∙ sum_is in
    is_best masses (unions p) s.members (chosen_is_union n count part_of masses chosen s h two long first e (omega arith))
    (λ other c. omega (arith, none_better n count part_of masses sums table width sum h long are two width_is rows best other c, balance_is masses s.members sum mass_is))
