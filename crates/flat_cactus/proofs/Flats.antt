-- A list cut at places: what it is after one more place or one more item, and what each part of it is.
use Rattle.std.proofs.Common.{◌≡◌, ℕ, zero, suc, ◌+◌, ◌-◌, ◌≤◌, ◌<◌, inl, inr, ⊎_elim, List, [], ◌∷◌, ◌++◌, length, take, drop, ap, ◌∙◌, subst, sym, refl, arith, add-one, length-append, length-drop}
use Rattle.std.specs.Prelude.{◌≢◌, Some, slice_range, slice_get}
use Rattle.std.proofs.lemmas.List.{take_all, drop_all, take-append-le, drop-append-le, get_or_append_left, get_or_past, get_or_default, length-take-le}
use Rattle.std.proofs.lemmas.List.Sums.{sum_by-cons}
use Rattle.std.proofs.Math.Seq.{get_or-append_seam}
use Rattle.std.proofs.lemmas.Bool.{cases_eq, cases_lt}
use Rattle.flat_cactus.specs.Flat.{appended_from, appended_to_last, cut_from, cut_at, items_in, start_of, AreStarts, BeginsFirst}

cut_from_length : (start : ℕ) (more items : List ℕ) → length (cut_from start more items) ≡ suc (length more)
cut_from_length start [] items = refl
cut_from_length start (next ∷ more) items = ap suc (cut_from_length next more items)

pub cut_length : (starts items : List ℕ) → length (cut_at starts items) ≡ length starts
cut_length [] items = refl
cut_length (start ∷ more) items = cut_from_length start more items

-- a part that goes to the end
to_end : (start : ℕ) (items : List ℕ) → slice_range items start (length items) ≡ drop start items
to_end start items = take_all (length items - start) (drop start items) (omega (arith, length-drop start items))

cut_from_list : (start : ℕ) (more items : List ℕ) → cut_from start (more ++ length items ∷ []) items ≡ cut_from start more items ++ [] ∷ []
cut_from_list start [] items =
    ap (λ (l : List ℕ). l ∷ drop (length items) items ∷ []) (to_end start items) ∙ ap (λ (l : List ℕ). drop start items ∷ l ∷ []) (drop_all (length items) items (omega arith))
cut_from_list start (next ∷ more) items = ap (λ (ls : List (List ℕ)). slice_range items start next ∷ ls) (cut_from_list next more items)

-- a place at the end begins an empty list
pub cut_list : (starts items : List ℕ) → cut_at (starts ++ length items ∷ []) items ≡ cut_at starts items ++ [] ∷ []
cut_list [] items = ap (λ (l : List ℕ). l ∷ []) (drop_all (length items) items (omega arith))
cut_list (start ∷ more) items = cut_from_list start more items

-- a part that ends before the last item is there without it too
part_before : (items : List ℕ) (x start next : ℕ) → start ≤ length items → next ≤ length items → slice_range (items ++ x ∷ []) start next ≡ slice_range items start next
part_before items x start next s n =
    ap (take (next - start)) (drop-append-le start items (x ∷ []) s) ∙ take-append-le (next - start) (drop start items) (x ∷ []) (omega (arith, length-drop start items))

cut_from_item : (start : ℕ) (more items : List ℕ) (x : ℕ) → ((i : ℕ) → start_of (start ∷ more) (length items) i ≤ length items)
    → cut_from start more (items ++ x ∷ []) ≡ appended_to_last (cut_from start more items) x
cut_from_item start [] items x h = ap (λ (l : List ℕ). l ∷ []) (drop-append-le start items (x ∷ []) (h 0))
cut_from_item start (next ∷ []) items x h =
    ap (λ (l : List ℕ). l ∷ drop next (items ++ x ∷ []) ∷ []) (part_before items x start next (h 0) (h 1))
    ∙ ap (λ (ls : List (List ℕ)). slice_range items start next ∷ ls) (cut_from_item next [] items x (λ i. h (suc i)))
cut_from_item start (next ∷ then ∷ more) items x h =
    ap (λ (l : List ℕ). l ∷ cut_from next (then ∷ more) (items ++ x ∷ [])) (part_before items x start next (h 0) (h 1))
    ∙ ap (λ (ls : List (List ℕ)). slice_range items start next ∷ ls) (cut_from_item next (then ∷ more) items x (λ i. h (suc i)))

-- one more item is in the last list
pub cut_item : (starts items : List ℕ) (x : ℕ) → AreStarts starts (length items) → cut_at starts (items ++ x ∷ []) ≡ appended_to_last (cut_at starts items) x
cut_item [] items x h = refl
cut_item (start ∷ more) items x h = cut_from_item start more items x h.within

cut_from_get : (start : ℕ) (more items : List ℕ) (i : ℕ) → i < suc (length more)
    → slice_get (cut_from start more items) i ≡ Some (slice_range items (start_of (start ∷ more) (length items) i) (start_of (start ∷ more) (length items) (suc i)))
cut_from_get start [] items zero h = ap Some (sym (to_end start items))
cut_from_get start [] items (suc i) h = absurd (omega (arith, h))
cut_from_get start (next ∷ more) items zero h = refl
cut_from_get start (next ∷ more) items (suc i) h = cut_from_get next more items i (omega (arith, h))

-- the list of a number goes from its place to the next
pub cut_get : (starts items : List ℕ) (i : ℕ) → i < length starts
    → slice_get (cut_at starts items) i ≡ Some (slice_range items (start_of starts (length items) i) (start_of starts (length items) (i + 1)))
cut_get [] items i h = absurd (omega (arith, h))
cut_get (start ∷ more) items i h = rw (add-one i) (cut_from_get start more items i h)

start_within : (starts : List ℕ) (count : ℕ) (i : ℕ) → i < length starts → start_of starts (count + 1) i ≡ start_of starts count i
start_within starts count i h = get_or_default starts i (count + 1) count h

start_past : (starts : List ℕ) (count : ℕ) (i : ℕ) → length starts ≤ i → start_of starts (count + 1) i ≡ count + 1
start_past starts count i h = get_or_past starts i (count + 1) h

-- the places stay right if the items become more
pub starts_item : (starts : List ℕ) (count : ℕ) → AreStarts starts count → AreStarts starts (count + 1)
starts_item starts count h =
    let within : (i : ℕ) → start_of starts (count + 1) i ≤ count + 1 = λ i.
    elim (cases_lt i (length starts)) as (λ _. start_of starts (count + 1) i ≤ count + 1) [
      | inl l ↦ omega (arith, start_within starts count i l, h.within i)
      | inr g ↦ omega (arith, start_past starts count i g)
    ] in
    let ascend : (i : ℕ) → start_of starts (count + 1) i ≤ start_of starts (count + 1) (i + 1) = λ i.
    elim (cases_lt (i + 1) (length starts)) as (λ _. start_of starts (count + 1) i ≤ start_of starts (count + 1) (i + 1)) [
      | inl l ↦ omega (arith, start_within starts count i (omega arith), start_within starts count (i + 1) l, h.ascend i)
      | inr g ↦ omega (arith, start_past starts count (i + 1) g, within i)
    ] in
    record { ascend = ascend; within = within }

-- one place more at the end: what was past all places begins there, and what is there ends where all end
start_more : (starts : List ℕ) (count i : ℕ) → start_of (starts ++ count ∷ []) count i ≡ start_of starts count i
start_more starts count i =
    elim (cases_lt i (length starts)) as (λ _. start_of (starts ++ count ∷ []) count i ≡ start_of starts count i) [
      | inl l ↦ get_or_append_left starts (count ∷ []) count i l
      | inr g ↦ ⊎_elim
          (λ (e : i ≡ length starts). rw e (get_or-append_seam starts count [] count) ∙ sym (get_or_past starts i count g))
          (λ (ne : i ≢ length starts). get_or_past (starts ++ count ∷ []) i count (omega (arith, length-append starts (count ∷ []))) ∙ sym (get_or_past starts i count g))
          (cases_eq i (length starts))
    ]

-- the places stay right with one more at the end
pub starts_place : (starts more : List ℕ) (count : ℕ) → AreStarts starts count → more ≡ starts ++ count ∷ [] → AreStarts more count
starts_place starts more count h is =
    rw is (record {
      ascend = λ i. omega (arith, start_more starts count i, start_more starts count (i + 1), h.ascend i);
      within = λ i. omega (arith, start_more starts count i, h.within i);
    })

-- the first list begins first, with one item more and with one place more
pub first_item : (starts : List ℕ) (count : ℕ) → 0 < length starts → BeginsFirst starts count → BeginsFirst starts (count + 1)
first_item starts count some h = start_within starts count 0 some ∙ h

pub first_place : (starts more : List ℕ) (count : ℕ) → BeginsFirst starts count → more ≡ starts ++ count ∷ [] → BeginsFirst more count
first_place starts more count h is = rw is (start_more starts count 0 ∙ h)

cut_from_total : (start : ℕ) (more items : List ℕ) → ((i : ℕ) → start_of (start ∷ more) (length items) i ≤ start_of (start ∷ more) (length items) (suc i))
    → ((i : ℕ) → start_of (start ∷ more) (length items) i ≤ length items) → items_in (cut_from start more items) + start ≡ length items
cut_from_total start [] items ascend within = omega (arith, sum_by-cons (λ (l : List ℕ). length l) (drop start items) [], length-drop start items, within 0)
cut_from_total start (next ∷ more) items ascend within =
    let rest = cut_from_total next more items (λ i. ascend (suc i)) (λ i. within (suc i)) in
    let long : length (slice_range items start next) ≡ next - start = length-take-le (next - start) (drop start items) (omega (arith, length-drop start items, within 1)) in
    omega (arith, rest, long, ascend 0, sum_by-cons (λ (l : List ℕ). length l) (slice_range items start next) (cut_from next more items))

-- the lists have all items together
pub cut_items : (starts items : List ℕ) → AreStarts starts (length items) → BeginsFirst starts (length items) → items_in (cut_at starts items) ≡ length items
cut_items [] items h first = sym first
cut_items (start ∷ more) items h first =
    let begins : start ≡ 0 = first in
    let ascend : (i : ℕ) → start_of (start ∷ more) (length items) i ≤ start_of (start ∷ more) (length items) (suc i) = λ i.
    subst (λ (j : ℕ). start_of (start ∷ more) (length items) i ≤ start_of (start ∷ more) (length items) j) (add-one i) (h.ascend i) in
    omega (arith, cut_from_total start more items ascend h.within, begins)

appended_from_last : (first : List ℕ) (front : List (List ℕ)) (last : List ℕ) (x : ℕ)
    → appended_from first (front ++ last ∷ []) x ≡ first ∷ (front ++ (last ++ x ∷ []) ∷ [])
appended_from_last first [] last x = refl
appended_from_last first (l ∷ front) last x = ap (λ (ls : List (List ℕ)). first ∷ ls) (appended_from_last l front last x)

-- what is appended, if the last list is known
pub appended_last : (front : List (List ℕ)) (last : List ℕ) (x : ℕ) → appended_to_last (front ++ last ∷ []) x ≡ front ++ (last ++ x ∷ []) ∷ []
appended_last [] last x = refl
appended_last (l ∷ front) last x = appended_from_last l front last x
