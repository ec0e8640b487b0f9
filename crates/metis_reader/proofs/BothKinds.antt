-- The entries of both kinds: to a greater neighbour, and to a smaller one.
use Rattle.std.proofs.Common.{◌≡◌, ◌≤◌, ◌<◌, ◌+◌, ℕ, Bool, true, false, not, List, [], ◌∷◌, map, reverse, arith, inl, inr, subst, sym, ap, refl, ◌∙◌}
use Rattle.std.specs.Prelude.{nat_lt, ◌==◌, ◌&&◌, if◌then◌else◌}
use Rattle.std.specs.List.{Contains, filter, list_any}
use Rattle.std.proofs.lemmas.Bool.{cases_Bool, not-true, not_from_false, not_from_true}
use Rattle.std.proofs.lemmas.Bool.Decides.{nat_tests}
use Rattle.std.proofs.lemmas.List.Sorted.{IsPermutation-reverse, IsPermutation-sym, Contains-permutation}
use Rattle.cut_definitions.specs.declared.edge_list.Edge.{Edge}
use Rattle.cut_definitions.proofs.Lists.{Contains-map, Contains-filter, Contains-from_filter, Contains-from_map}
use Rattle.metis_reader.specs.Profile.{Entry}
use Rattle.metis_reader.specs.File.{edge_of, is_mate, lacks_mate}
use Rattle.metis_reader.specs.Shown.{is_upward, mirrored}
use Rattle.metis_reader.specs.Mates.{is_pair, times, RepeatsAt, IsOnceAt, LacksAt, IsMatchedAt}
use Rattle.metis_reader.proofs.Times.{times_cons}
use Rattle.metis_reader.proofs.Moved.{times_moved}
use Rattle.metis_reader.proofs.Rows.{is_entry, entry_times, entry_cons, is_entry_from, any_false, any_true}

abbrev pub is_downward : Entry → Bool
is_downward e = not (is_upward e)

abbrev pub upward : List Entry → List Edge
upward all = map edge_of (filter is_upward all)

abbrev pub downward : List Entry → List Edge
downward all = map mirrored (filter is_downward all)

pub up_true : (e : Entry) → e.from < e.to → is_upward e ≡ true
up_true e h = grind (arith, nat_tests)

pub up_false : (e : Entry) → e.to ≤ e.from → is_upward e ≡ false
up_false e h = grind (arith, nat_tests)

pub rises : (e : Entry) → is_upward e ≡ true → e.from < e.to
rises e h = grind (arith, nat_tests)

falls : (e : Entry) → is_upward e ≡ false → e.to ≤ e.from
falls e h = grind (arith, nat_tests)

-- How often pairs stand among them.

swap_and : (a b : Bool) → (a && b) ≡ (b && a)
swap_and true true = refl
swap_and true false = refl
swap_and false true = refl
swap_and false false = refl

pair_down : (u v : ℕ) (e : Entry) → is_pair u v (mirrored e) ≡ is_entry v u e
pair_down u v e = swap_and (e.to == u) (e.from == v)

up_cons : (e : Entry) (es : List Entry) → is_upward e ≡ true → upward (e ∷ es) ≡ edge_of e ∷ upward es
up_cons e es t = rw t refl

up_skip : (e : Entry) (es : List Entry) → is_upward e ≡ false → upward (e ∷ es) ≡ upward es
up_skip e es f = rw f refl

down_cons : (e : Entry) (es : List Entry) → is_upward e ≡ false → downward (e ∷ es) ≡ mirrored e ∷ downward es
down_cons e es f = rw f refl

down_skip : (e : Entry) (es : List Entry) → is_upward e ≡ true → downward (e ∷ es) ≡ downward es
down_skip e es t = rw t refl

pub up_at_most : (u v : ℕ) (es : List Entry) → times u v (upward es) ≤ entry_times u v es
up_at_most u v [] = omega arith
up_at_most u v (e ∷ es) =
    let rest : times u v (upward es) ≤ entry_times u v es = up_at_most u v es in
    let right : entry_times u v (e ∷ es) ≡ (if is_entry u v e then 1 else 0) + entry_times u v es = entry_cons u v e es (is_entry u v e) refl in
    elim (cases_Bool (is_upward e)) [
      | inl t ↦
          let left : times u v (edge_of e ∷ upward es) ≡ (if is_entry u v e then 1 else 0) + times u v (upward es) = times_cons u v (edge_of e) (upward es) (is_entry u v e) refl in
          let here : times u v (upward (e ∷ es)) ≡ times u v (edge_of e ∷ upward es) = ap (λ xs. times u v xs) (up_cons e es t) in
          omega arith
      | inr f ↦ let here : times u v (upward (e ∷ es)) ≡ times u v (upward es) = ap (λ xs. times u v xs) (up_skip e es f) in omega arith
    ]

pub up_at_least : (u v : ℕ) (es : List Entry) → u < v → entry_times u v es ≤ times u v (upward es)
up_at_least u v [] lt = omega arith
up_at_least u v (e ∷ es) lt =
    let rest : entry_times u v es ≤ times u v (upward es) = up_at_least u v es lt in
    elim (cases_Bool (is_upward e)) [
      | inl t ↦
          let right : entry_times u v (e ∷ es) ≡ (if is_entry u v e then 1 else 0) + entry_times u v es = entry_cons u v e es (is_entry u v e) refl in
          let left : times u v (edge_of e ∷ upward es) ≡ (if is_entry u v e then 1 else 0) + times u v (upward es) = times_cons u v (edge_of e) (upward es) (is_entry u v e) refl in
          let here : times u v (upward (e ∷ es)) ≡ times u v (edge_of e ∷ upward es) = ap (λ xs. times u v xs) (up_cons e es t) in
          omega arith
      | inr f ↦
          let here : times u v (upward (e ∷ es)) ≡ times u v (upward es) = ap (λ xs. times u v xs) (up_skip e es f) in
          elim (cases_Bool (is_entry u v e)) [
            | inl hit ↦
                let low : e.to ≤ e.from = falls e f in
                let from : e.from ≡ u = (is_entry_from u v e hit).0 in
                let to : e.to ≡ v = (is_entry_from u v e hit).1 in
                absurd (omega arith)
            | inr other ↦ let right : entry_times u v (e ∷ es) ≡ 0 + entry_times u v es = entry_cons u v e es false other in omega arith
          ]
    ]

pub down_at_most : (u v : ℕ) (es : List Entry) → times u v (downward es) ≤ entry_times v u es
down_at_most u v [] = omega arith
down_at_most u v (e ∷ es) =
    let rest : times u v (downward es) ≤ entry_times v u es = down_at_most u v es in
    let right : entry_times v u (e ∷ es) ≡ (if is_entry v u e then 1 else 0) + entry_times v u es = entry_cons v u e es (is_entry v u e) refl in
    elim (cases_Bool (is_upward e)) [
      | inl t ↦ let here : times u v (downward (e ∷ es)) ≡ times u v (downward es) = ap (λ xs. times u v xs) (down_skip e es t) in omega arith
      | inr f ↦
          let left : times u v (mirrored e ∷ downward es) ≡ (if is_entry v u e then 1 else 0) + times u v (downward es) = times_cons u v (mirrored e) (downward es) (is_entry v u e) (pair_down u v e) in
          let here : times u v (downward (e ∷ es)) ≡ times u v (mirrored e ∷ downward es) = ap (λ xs. times u v xs) (down_cons e es f) in
          omega arith
    ]

pub down_at_least : (u v : ℕ) (es : List Entry) → u ≤ v → entry_times v u es ≤ times u v (downward es)
down_at_least u v [] le = omega arith
down_at_least u v (e ∷ es) le =
    let rest : entry_times v u es ≤ times u v (downward es) = down_at_least u v es le in
    elim (cases_Bool (is_upward e)) [
      | inl t ↦
          let here : times u v (downward (e ∷ es)) ≡ times u v (downward es) = ap (λ xs. times u v xs) (down_skip e es t) in
          elim (cases_Bool (is_entry v u e)) [
            | inl hit ↦
                let high : e.from < e.to = rises e t in
                let from : e.from ≡ v = (is_entry_from v u e hit).0 in
                let to : e.to ≡ u = (is_entry_from v u e hit).1 in
                absurd (omega arith)
            | inr other ↦ let right : entry_times v u (e ∷ es) ≡ 0 + entry_times v u es = entry_cons v u e es false other in omega arith
          ]
      | inr f ↦
          let right : entry_times v u (e ∷ es) ≡ (if is_entry v u e then 1 else 0) + entry_times v u es = entry_cons v u e es (is_entry v u e) refl in
          let left : times u v (mirrored e ∷ downward es) ≡ (if is_entry v u e then 1 else 0) + times u v (downward es) = times_cons u v (mirrored e) (downward es) (is_entry v u e) (pair_down u v e) in
          let here : times u v (downward (e ∷ es)) ≡ times u v (mirrored e ∷ downward es) = ap (λ xs. times u v xs) (down_cons e es f) in
          omega arith
    ]

-- the smaller ones are kept in the opposite order
back_times : (u v : ℕ) (xs : List Edge) → times u v (reverse xs) ≡ times u v xs
back_times u v xs = times_moved u v xs (reverse xs) (IsPermutation-reverse xs)

pub entries_once : (x : ℕ) (all : List Entry) → IsOnceAt x (upward all) (reverse (downward all)) → (t : ℕ) → entry_times x t all ≤ 1
entries_once x all once t =
    elim (cases_Bool (nat_lt x t)) [
      | inl up ↦
          let lt : x < t = lt_from x t up in
          let least : entry_times x t all ≤ times x t (upward all) = up_at_least x t all lt in
          let most : times x t (upward all) ≤ 1 = once.0 x t refl in
          omega arith
      | inr down ↦
          let le : t ≤ x = le_from x t down in
          let least : entry_times x t all ≤ times t x (downward all) = down_at_least t x all le in
          let most : times t x (reverse (downward all)) ≤ 1 = once.1 t x refl in
          let same : times t x (reverse (downward all)) ≡ times t x (downward all) = back_times t x (downward all) in
          omega arith
    ]
  where
    lt_from : (a b : ℕ) → nat_lt a b ≡ true → a < b
    lt_from a b h = grind (arith, nat_tests)

    le_from : (a b : ℕ) → nat_lt a b ≡ false → b ≤ a
    le_from a b h = grind (arith, nat_tests)

pub entries_repeat : (x : ℕ) (all : List Entry) → RepeatsAt x (upward all) (reverse (downward all)) → (t : ℕ) × (2 ≤ entry_times x t all)
entries_repeat x all (inl h) =
    let u : ℕ = h.0 in
    let v : ℕ = h.1 in
    let same : u ≡ x = h.2 in
    let two : 2 ≤ times u v (upward all) = h.3 in
    let most : times u v (upward all) ≤ entry_times u v all = up_at_most u v all in
    let found : 2 ≤ entry_times u v all = omega arith in
    (v, subst (λ u. 2 ≤ entry_times u v all) same found)
entries_repeat x all (inr h) =
    let u : ℕ = h.0 in
    let v : ℕ = h.1 in
    let same : v ≡ x = h.2 in
    let two : 2 ≤ times u v (reverse (downward all)) = h.3 in
    let back : times u v (reverse (downward all)) ≡ times u v (downward all) = back_times u v (downward all) in
    let most : times u v (downward all) ≤ entry_times v u all = down_at_most u v all in
    let found : 2 ≤ entry_times v u all = omega arith in
    (u, subst (λ v. 2 ≤ entry_times v u all) same found)

-- Mates.

mate_of : (e d : Entry) → d.from ≡ e.to → d.to ≡ e.from → d.weight ≡ e.weight → is_mate e d ≡ true
mate_of e d p q r = grind (arith, nat_tests)

mate_from : (e d : Entry) → is_mate e d ≡ true → (d.from ≡ e.to) × (d.to ≡ e.from) × (d.weight ≡ e.weight)
mate_from e d h = (grind (arith, nat_tests), grind (arith, nat_tests), grind (arith, nat_tests))

has_mate : (all : List Entry) (e d : Entry) → Contains all d → d.from ≡ e.to → d.to ≡ e.from → d.weight ≡ e.weight → lacks_mate all e ≡ false
has_mate all e d has p q r = not_from_true (list_any (is_mate e) all) (any_true (is_mate e) all d has (mate_of e d p q r))

no_mate : (all : List Entry) (e : Entry) → ((d : Entry) → Contains all d → d.from ≡ e.to → d.to ≡ e.from → d.weight ≡ e.weight → ⊥) → lacks_mate all e ≡ true
no_mate all e none =
    not_from_false (list_any (is_mate e) all) (any_false (is_mate e) all (λ d has.
    elim (cases_Bool (is_mate e d)) [ inl t ↦ let m = mate_from e d t in absurd (none d has m.0 m.1 m.2) | inr f ↦ f ]))

pub up_has : (all : List Entry) (e : Entry) → Contains all e → is_upward e ≡ true → Contains (upward all) (edge_of e)
up_has all e has up = Contains-map edge_of (filter is_upward all) e (Contains-filter is_upward all e has up)

down_has : (all : List Entry) (e : Entry) → Contains all e → is_upward e ≡ false → Contains (reverse (downward all)) (mirrored e)
down_has all e has down =
    Contains-permutation (downward all) (reverse (downward all)) (mirrored e) (IsPermutation-reverse (downward all))
    (Contains-map mirrored (filter is_downward all) e (Contains-filter is_downward all e has (not_from_false (is_upward e) down)))

pub up_from : (all : List Entry) (f : Edge) → Contains (upward all) f → (e : Entry) × Contains all e × (is_upward e ≡ true) × (edge_of e ≡ f)
up_from all f has =
    let m = Contains-from_map edge_of (filter is_upward all) f has in
    let k = Contains-from_filter is_upward all m.0 m.1 in
    (m.0, k.0, k.1, m.2)

down_from : (all : List Entry) (f : Edge) → Contains (reverse (downward all)) f → (e : Entry) × Contains all e × (is_upward e ≡ false) × (mirrored e ≡ f)
down_from all f has =
    let has' = Contains-permutation (reverse (downward all)) (downward all) f (IsPermutation-sym (downward all) (reverse (downward all)) (IsPermutation-reverse (downward all))) has in
    let m = Contains-from_map mirrored (filter is_downward all) f has' in
    let k = Contains-from_filter is_downward all m.0 m.1 in
    (m.0, k.0, not-true (is_upward m.0) k.1, m.2)

edge_is : (f : Edge) (u v w : ℕ) → f.u ≡ u → f.v ≡ v → f.w ≡ w → record { u = u; v = v; w = w } ≡ f
edge_is f u v w p q r = rw (← p, ← q, ← r) refl

pub entries_matched : (x : ℕ) (all : List Entry) → IsMatchedAt x (upward all) (reverse (downward all)) → (e : Entry) → Contains all e → e.from ≡ x → lacks_mate all e ≡ false
entries_matched x all matched e has from =
    elim (cases_Bool (is_upward e)) [
      | inl up ↦
          let there = matched.0 (edge_of e) (up_has all e has up) from in
          let d = down_from all (edge_of e) there in
          has_mate all e d.0 d.1 (ap (λ (f : Edge). f.v) d.3) (ap (λ (f : Edge). f.u) d.3) (ap (λ (f : Edge). f.w) d.3)
      | inr down ↦
          let there = matched.1 (mirrored e) (down_has all e has down) from in
          let d = up_from all (mirrored e) there in
          has_mate all e d.0 d.1 (ap (λ (f : Edge). f.u) d.3) (ap (λ (f : Edge). f.v) d.3) (ap (λ (f : Edge). f.w) d.3)
    ]

pub entries_lack : (x : ℕ) (all : List Entry) → ((f : Edge) → Contains (reverse (downward all)) f → f.u < f.v) → LacksAt x (upward all) (reverse (downward all))
    → (e : Entry) × Contains all e × (e.from ≡ x) × (lacks_mate all e ≡ true)
entries_lack x all proper (inl h) =
    let f : Edge = h.0 in
    let from = up_from all f h.1 in
    let e : Entry = from.0 in
    let up : e.from < e.to = rises e from.2 in (
      e,
      from.1,
      ap (λ (f : Edge). f.u) from.3 ∙ h.2,
      no_mate all e (λ d has p q r.
          let down : d.to ≤ d.from = omega arith in
          let same : mirrored d ≡ f = edge_is f d.to d.from d.weight (ap (λ (f : Edge). f.u) (sym from.3) ∙ sym q) (ap (λ (f : Edge). f.v) (sym from.3) ∙ sym p) (ap (λ (f : Edge). f.w) (sym from.3) ∙ sym r) in
          h.3 (subst (λ f. Contains (reverse (downward all)) f) same (down_has all d has (up_false d down)))),
    )
entries_lack x all proper (inr h) =
    let f : Edge = h.0 in
    let from = down_from all f h.1 in
    let e : Entry = from.0 in
    let order : f.u < f.v = proper f h.1 in
    let eu : e.to ≡ f.u = ap (λ (f : Edge). f.u) from.3 in
    let ev : e.from ≡ f.v = ap (λ (f : Edge). f.v) from.3 in (
      e,
      from.1,
      ev ∙ h.2,
      no_mate all e (λ d has p q r.
          let up : d.from < d.to = omega arith in
          let same : edge_of d ≡ f = edge_is f d.from d.to d.weight (sym eu ∙ sym p) (sym ev ∙ sym q) (ap (λ (f : Edge). f.w) (sym from.3) ∙ sym r) in
          h.3 (subst (λ f. Contains (upward all) f) same (up_has all d has (up_true d up)))),
    )
