-- A search that numbers the vertices as it finds them.
use Rattle.std.proofs.Common.{◌≡◌, ℕ, ◌+◌, ◌-◌, ◌<◌, ◌≤◌, ⊎_elim, List, [], ◌∷◌, ◌++◌, length, set, get_or, refl, sym, ◌∙◌, ap, arith}
use Rattle.std.specs.Prelude.{◌≢◌}
use Rattle.std.specs.List.{Contains}
use Rattle.std.proofs.lemmas.Bool.{cases_eq, cases_lt}
use Rattle.std.proofs.lemmas.List.Elements.{All-from_get_or}
use Rattle.std.proofs.lemmas.List.{get_or_append_left, get_or_default, get_or_push, get_or-set_same, get_or-set_other, length-append, length-set}
use Rattle.cut_definitions.specs.Contraction.{classes, IsLabels}
use Rattle.cut_definitions.proofs.ListLaws.{fold_max-bound}
use Rattle.weighted_graph.proofs.Labelling.{le_length}
use Rattle.vertex_order.specs.declared.finding.Finding.{Finding}
use Rattle.vertex_order.specs.Finding.{IsFinding, number_of, vertex_at}
use Rattle.vertex_order.specs.Numbering.{IsNumbering}

-- ---- a vertex more

pub put_finding : (n : ℕ) (f f' : Finding) (v count : ℕ) → IsFinding n f → f'.order.items ≡ f.order.items ++ v ∷ [] → f'.numbers.items ≡ set f.numbers.items (v - 1) count →
    count ≡ length f'.order.items → 1 ≤ v → v ≤ n → number_of f v ≡ 0 → IsFinding n f'
put_finding n f f' v count h order numbers is one to_n new =
    let here = length f.order.items in
    let more : length f'.order.items ≡ here + 1 = omega (arith, ap length order, length-append f.order.items (v ∷ [])) in
    let same_at = λ (k : ℕ) (l : k < here). (let r : vertex_at f' k ≡ vertex_at f k = ap (λ (xs : List ℕ). get_or xs k 0) order ∙ get_or_append_left f.order.items (v ∷ []) 0 k l in r) in
    let last : vertex_at f' here ≡ v = ap (λ (xs : List ℕ). get_or xs here 0) order ∙ get_or_push f.order.items v 0 here refl in
    let number_v : number_of f' v ≡ count = ap (λ (xs : List ℕ). get_or xs (v - 1) 0) numbers ∙ get_or-set_same f.numbers.items (v - 1) count 0 (omega (arith, one, to_n, h.long)) in
    let other = λ (w : ℕ) (w1 : 1 ≤ w) (ne : w ≢ v). (let r : number_of f' w ≡ number_of f w =
    ap (λ (xs : List ℕ). get_or xs (w - 1) 0) numbers ∙ get_or-set_other f.numbers.items (v - 1) (w - 1) count 0 (λ (e : w - 1 ≡ v - 1). ne (omega (arith, e, w1, one))) in r) in
    let old = λ (k : ℕ) (l : k < here) (e : vertex_at f k ≡ v). (let r : ⊥ = omega (arith, h.numbers k l, ap (number_of f) e, new) in r) in
    let end = λ (k : ℕ) (l : k < length f'.order.items) (far : here ≤ k). (let r : k ≡ here = omega (arith, l, far, more) in r) in
    record {
      long = ap length numbers ∙ length-set f.numbers.items (v - 1) count ∙ h.long;
      some = omega (arith, more);
      first = same_at 0 h.some ∙ h.first;
      vertices = λ k l. ⊎_elim
          (λ (low : k < here). let was = h.vertices k low in let e = same_at k low in (omega (arith, e, was.0), omega (arith, e, was.1)))
          (λ (far : here ≤ k). let e : vertex_at f' k ≡ v = ap (vertex_at f') (end k l far) ∙ last in (omega (arith, e, one), omega (arith, e, to_n)))
          (cases_lt k here);
      numbers = λ k l. ⊎_elim
          (λ (low : k < here). let e = same_at k low in
          ap (number_of f') e ∙ other (vertex_at f k) (h.vertices k low).0 (old k low) ∙ h.numbers k low)
          (λ (far : here ≤ k). let at = end k l far in let e : vertex_at f' k ≡ v = ap (vertex_at f') at ∙ last in omega (arith, ap (number_of f') e, number_v, is, more, at))
          (cases_lt k here);
      placed = λ w w1 wn from. ⊎_elim
          (λ (e : w ≡ v).
          let number_w : number_of f' w ≡ count = ap (number_of f') e ∙ number_v in
          let at : number_of f' w - 1 ≡ here = omega (arith, number_w, is, more) in
          (omega (arith, number_w, is), ap (vertex_at f') at ∙ last ∙ sym e))
          (λ (ne : w ≢ v).
          let same = other w w1 ne in
          let was = h.placed w w1 wn (omega (arith, from, same)) in
          let before : number_of f w - 1 < here = omega (arith, was.0, from, same) in
          (omega (arith, was.0, same, more), ap (λ (c : ℕ). vertex_at f' (c - 1)) same ∙ same_at (number_of f w - 1) before ∙ was.1))
          (cases_eq w v);
    }

-- a vertex that has a number keeps one
pub still_numbered : (xs ys : List ℕ) (v count u : ℕ) → ys ≡ set xs (v - 1) count → 1 ≤ v → v ≤ length xs → 1 ≤ count → 1 ≤ u → 1 ≤ get_or xs (u - 1) 0 → 1 ≤ get_or ys (u - 1) 0
still_numbered xs ys v count u is one to_n some u1 was =
    ⊎_elim
    (λ (e : v ≡ u). let at : u - 1 ≡ v - 1 = omega (arith, e) in omega (arith, ap (λ (zs : List ℕ). get_or zs (u - 1) 0) is, ap (λ (k : ℕ). get_or (set xs (v - 1) count) k 0) at, get_or-set_same xs (v - 1) count 0 (omega (arith, one, to_n)), some))
    (λ (ne : v ≢ u). omega (arith, ap (λ (zs : List ℕ). get_or zs (u - 1) 0) is, get_or-set_other xs (v - 1) (u - 1) count 0 (λ (e : u - 1 ≡ v - 1). ne (omega (arith, e, one, u1))), was))
    (cases_eq v u)

-- ---- no more vertices than there are

-- the place of the vertex that has a number
has_number : (n : ℕ) (f : Finding) → IsFinding n f → (c : ℕ) → 1 ≤ c → c ≤ length f.order.items → get_or f.numbers.items (vertex_at f (c - 1) - 1) 0 ≡ c
has_number n f h c l u = let e : c - 1 + 1 ≡ c = omega (arith, l) in h.numbers (c - 1) (omega (arith, l, u)) ∙ e

has_place : (n : ℕ) (f : Finding) → IsFinding n f → (c : ℕ) → 1 ≤ c → c ≤ length f.order.items → vertex_at f (c - 1) - 1 < length f.numbers.items
has_place n f h c l u = let w = h.vertices (c - 1) (omega (arith, l, u)) in omega (arith, w.0, w.1, h.long)

each_number : (n : ℕ) (f : Finding) → IsFinding n f → (c : ℕ) → 1 ≤ c → c ≤ length f.order.items → Contains f.numbers.items c
each_number n f h c l u =
    let place = has_place n f h c l u in
    (vertex_at f (c - 1) - 1, place, get_or_default f.numbers.items (vertex_at f (c - 1) - 1) c 0 place ∙ has_number n f h c l u)

pub found_at_most : (n : ℕ) (f : Finding) → IsFinding n f → length f.order.items ≤ n
found_at_most n f h = omega (arith, le_length (length f.order.items) f.numbers.items (each_number n f h), h.long)

-- ---- all vertices found

-- a vertex with no number would make room for one more
never_missed : (n : ℕ) (f : Finding) → IsFinding n f → n ≤ length f.order.items → (v : ℕ) → 1 ≤ v → v ≤ n → number_of f v ≡ 0 → ⊥
never_missed n f h all v one to_n none =
    let xs = f.numbers.items in
    let ys = set xs (v - 1) (n + 1) in
    let within : v - 1 < length xs = omega (arith, one, to_n, h.long) in
    let same_length = length-set xs (v - 1) (n + 1) in
    let each = λ (c : ℕ) (l : 1 ≤ c) (u : c ≤ n + 1). (let r : Contains ys c = ⊎_elim
    (λ (low : c < n + 1).
    let place = vertex_at f (c - 1) - 1 in
    let less : c ≤ length f.order.items = omega (arith, low, all) in
    let number = has_number n f h c l less in
    let apart : place ≢ v - 1 = λ (e : place ≡ v - 1). omega (arith, ap (λ (k : ℕ). get_or xs k 0) e, number, none, l) in
    let room : place < length ys = omega (arith, has_place n f h c l less, same_length) in
    (place, room, get_or_default ys place c 0 room ∙ get_or-set_other xs (v - 1) place (n + 1) 0 apart ∙ number))
    (λ (high : n + 1 ≤ c).
    let is : n + 1 ≡ c = omega (arith, high, u) in
    let room : v - 1 < length ys = omega (arith, within, same_length) in
    (v - 1, room, get_or_default ys (v - 1) c 0 room ∙ get_or-set_same xs (v - 1) (n + 1) 0 within ∙ is))
    (cases_lt c (n + 1)) in r) in
    omega (arith, le_length (n + 1) ys each, same_length, h.long)

all_numbered : (n : ℕ) (f : Finding) → IsFinding n f → n ≤ length f.order.items → (v : ℕ) → 1 ≤ v → v ≤ n → 1 ≤ number_of f v
all_numbered n f h all v one to_n = let some = never_missed n f h all v one to_n in omega (arith, some)

-- the number at a place of the list is that of the vertex there
at_place : (n : ℕ) (f : Finding) → IsFinding n f → n ≤ length f.order.items → (k : ℕ) → k < length f.numbers.items →
    (1 ≤ get_or f.numbers.items k 0) × (get_or f.numbers.items k 0 ≤ length f.order.items)
at_place n f h all k l =
    let e : k + 1 - 1 ≡ k = omega arith in
    let same : number_of f (k + 1) ≡ get_or f.numbers.items k 0 = ap (λ (j : ℕ). get_or f.numbers.items j 0) e in
    let to_n : k + 1 ≤ n = omega (arith, l, h.long) in
    let some = all_numbered n f h all (k + 1) (omega arith) to_n in
    (omega (arith, some, same), omega (arith, (h.placed (k + 1) (omega arith) to_n some).0, same))

pub numbers_are_labels : (n : ℕ) (f : Finding) → IsFinding n f → n ≤ length f.order.items → IsLabels f.numbers.items
numbers_are_labels n f h all = record {
  from_one = All-from_get_or (λ c. 1 ≤ c) f.numbers.items 0 (λ k l. (at_place n f h all k l).0);
  used = λ c l u.
      let bound : classes f.numbers.items ≤ length f.order.items = fold_max-bound f.numbers.items 0 (length f.order.items) (omega arith) (λ k less. (at_place n f h all k less).1) in
      each_number n f h c l (omega (arith, u, bound));
  first = λ some. ap (number_of f) (sym h.first) ∙ h.numbers 0 h.some;
}

pub numbers_every_vertex : (n : ℕ) (f : Finding) → IsFinding n f → n ≤ length f.order.items → IsNumbering n f.numbers.items
numbers_every_vertex n f h all = record {
  are_labels = numbers_are_labels n f h all;
  long = h.long;
  apart = λ u v u1 un v1 vn same.
      let at_u = h.placed u u1 un (all_numbered n f h all u u1 un) in
      let at_v = h.placed v v1 vn (all_numbered n f h all v v1 vn) in
      sym at_u.1 ∙ ap (λ (c : ℕ). vertex_at f (c - 1)) same ∙ at_v.1;
}
