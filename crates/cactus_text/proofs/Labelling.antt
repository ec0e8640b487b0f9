-- Sets of nodes against their labels: a way is halved, two sets are joined, and whether there is one set.
use Rattle.std.proofs.Common.{◌≡◌, ◌≢◌, ◌⊎◌, inl, inr, ◌==◌, ◌&&◌, ◌≤◌, ◌<◌, ◌+◌, ℕ, zero, suc, Bool, true, false, List, [], ◌∷◌, ◌++◌, length, get_or, set, map, ap, subst, sym, ◌∙◌, refl, arith}
use Rattle.std.specs.Prelude.{slice_index, if◌then◌else◌}
use Rattle.std.specs.List.{list_all, range_with_len}
use Rattle.std.proofs.Math.Seq.{get_or-append_seam}
use Rattle.std.proofs.lemmas.Bool.{cases_eq, cases_lt, eq-eqb, ne_eqb}
use Rattle.std.proofs.lemmas.List.{get_or_read, get_or_past, get_or_append_left, length-append, get_or-map, get_or-set_same, get_or-set_other, length-set, length-map, set-get_or}
use Rattle.std.proofs.lemmas.List.Folds.{list_all_at}
use Rattle.std.proofs.lemmas.List.FromFn.{get_or-range_with_len, length-range_with_len}
use Rattle.cut_definitions.proofs.Bools.{either_way}
use Rattle.cactus_text.specs.Reading.{relabelled}
use Rattle.cactus_text.specs.Labels.{IsLabelled}

abbrev new_label : List ℕ → ℕ → ℕ → ℕ → ℕ
new_label labels i j l = if l == slice_index labels j then slice_index labels i else l

at_relabelled : (labels : List ℕ) (i j k : ℕ) → k < length labels → slice_index (relabelled labels (i, j)) k ≡ new_label labels i j (slice_index labels k)
at_relabelled labels i j k h = get_or-map (new_label labels i j) labels k 0 0 h

pub at_changed : (labels : List ℕ) (i j k : ℕ) → k < length labels → slice_index labels k ≡ slice_index labels j → slice_index (relabelled labels (i, j)) k ≡ slice_index labels i
at_changed labels i j k h e =
    at_relabelled labels i j k h
    ∙ ap (λ (b : Bool). if b then slice_index labels i else slice_index labels k) (eq-eqb (slice_index labels k) (slice_index labels j) e)

pub at_kept : (labels : List ℕ) (i j k : ℕ) → k < length labels → slice_index labels k ≢ slice_index labels j → slice_index (relabelled labels (i, j)) k ≡ slice_index labels k
at_kept labels i j k h e =
    at_relabelled labels i j k h
    ∙ ap (λ (b : Bool). if b then slice_index labels i else slice_index labels k) (ne_eqb (slice_index labels k) (slice_index labels j) e)

pub at_same : (labels : List ℕ) (i j k m : ℕ) → k < length labels → m < length labels → slice_index labels k ≡ slice_index labels m
    → slice_index (relabelled labels (i, j)) k ≡ slice_index (relabelled labels (i, j)) m
at_same labels i j k m h g e = at_relabelled labels i j k h ∙ ap (new_label labels i j) e ∙ sym (at_relabelled labels i j m g)

same_label : (c d l : ℕ) → c ≡ d → (if l == d then c else l) ≡ l
same_label c d l e = elim (cases_eq l d) [
  | inl is ↦ ap (λ (b : Bool). if b then c else l) (eq-eqb l d is) ∙ e ∙ sym is
  | inr other ↦ ap (λ (b : Bool). if b then c else l) (ne_eqb l d other)
]

-- the first end keeps its label
pub at_own : (labels : List ℕ) (i j : ℕ) → i < length labels → slice_index (relabelled labels (i, j)) i ≡ slice_index labels i
at_own labels i j h = at_relabelled labels i j i h ∙ either_way (slice_index labels i == slice_index labels j) (slice_index labels i)

map_same : (f : ℕ → ℕ) (ls : List ℕ) → ((l : ℕ) → f l ≡ l) → map f ls ≡ ls
map_same f [] h = refl
map_same f (l ∷ ls) h = ap (λ k. k ∷ map f ls) (h l) ∙ ap (λ ks. l ∷ ks) (map_same f ls h)

-- nothing changes if both ends have one label
unchanged : (labels : List ℕ) (i j : ℕ) → slice_index labels i ≡ slice_index labels j → relabelled labels (i, j) ≡ labels
unchanged labels i j e = map_same (new_label labels i j) labels (λ l. same_label (slice_index labels i) (slice_index labels j) l e)

-- a node that names another one names the one that this names
pub halved : (above labels : List ℕ) (at : ℕ) → IsLabelled above labels → at < length above → slice_index above at < at
    → IsLabelled (set above at (slice_index above (slice_index above at))) labels
halved above labels at h within lower =
    let over = slice_index above at in
    let next = slice_index above over in
    let new = set above at next in
    let here : slice_index new at ≡ next = get_or-set_same above at next 0 within in
    let there : (k : ℕ) → k ≢ at → slice_index new k ≡ slice_index above k = λ k e. get_or-set_other above at k next 0 e in
    let count : length new ≡ length above = length-set above at next in
    let below : next < at = omega (arith, h.down over, lower) in
    let own : (r : ℕ) → slice_index new r ≡ r → slice_index above r ≡ r = λ r is. elim (cases_eq r at) [
      | inl e ↦ absurd (omega (arith, ap (slice_index new) e, here, is, below, e))
      | inr e ↦ sym (there r e) ∙ is
    ] in
    record {
      count = h.count ∙ sym count;
      down = λ k. elim (cases_eq k at) [
        | inl e ↦ omega (arith, ap (slice_index new) e, here, below, e)
        | inr e ↦ omega (arith, there k e, h.down k)
      ];
      along = λ k small. elim (cases_eq k at) [
        | inl e ↦ ap (λ m. slice_index labels (slice_index new m)) e ∙ ap (slice_index labels) here ∙ h.along over (omega (arith, lower, within)) ∙ h.along at within ∙ ap (slice_index labels) (sym e)
        | inr e ↦ ap (slice_index labels) (there k e) ∙ h.along k (omega (arith, small, count))
      ];
      apart = λ r s low high is also same. h.apart r s (omega (arith, low, count)) (omega (arith, high, count)) (own r is) (own s also) same;
    }

-- of two roots one is put below the other
pub put_below : (above labels : List ℕ) (i j a b high low : ℕ) → IsLabelled above labels → a < length above → b < length above
    → slice_index above a ≡ a → slice_index above b ≡ b → slice_index labels a ≡ slice_index labels i → slice_index labels b ≡ slice_index labels j
    → a ≢ b → low < high → ((high ≡ a) × (low ≡ b)) ⊎ ((high ≡ b) × (low ≡ a)) → IsLabelled (set above high low) (relabelled labels (i, j))
put_below above labels i j a b high low h aw bw ar br ai bj different lower which =
    let new = set above high low in
    let grown = relabelled labels (i, j) in
    let size : length labels ≡ length above = h.count in
    let count : length new ≡ length above = length-set above high low in
    let within : high < length above = elim which [ inl e ↦ omega (arith, e.0, aw) | inr e ↦ omega (arith, e.0, bw) ] in
    let here : slice_index new high ≡ low = get_or-set_same above high low 0 within in
    let there : (k : ℕ) → k ≢ high → slice_index new k ≡ slice_index above k = λ k e. get_or-set_other above high k low 0 e in
    let unlike : slice_index labels a ≢ slice_index labels j = λ e. different (h.apart a b aw bw ar br (e ∙ sym bj)) in
    let of_a : slice_index grown a ≡ slice_index labels i = at_kept labels i j a (omega (arith, size, aw)) unlike ∙ ai in
    let of_b : slice_index grown b ≡ slice_index labels i = at_changed labels i j b (omega (arith, size, bw)) bj in
    let ends : slice_index grown low ≡ slice_index grown high = elim which [
      | inl e ↦ ap (slice_index grown) e.1 ∙ of_b ∙ sym of_a ∙ ap (slice_index grown) (sym e.0)
      | inr e ↦ ap (slice_index grown) e.1 ∙ of_a ∙ sym of_b ∙ ap (slice_index grown) (sym e.0)
    ] in
    let not_high : (r : ℕ) → slice_index new r ≡ r → r ≢ high = λ r is e. omega (arith, ap (slice_index new) e, here, is, lower, e) in
    let own : (r : ℕ) → slice_index new r ≡ r → slice_index above r ≡ r = λ r is. sym (there r (not_high r is)) ∙ is in
    let clash : (r s : ℕ) → r < length above → s < length above → slice_index new r ≡ r → slice_index new s ≡ s → slice_index labels r ≡ slice_index labels j
    → slice_index labels s ≡ slice_index labels i → ⊥ = λ r s rw_ sw is also rj si.
    let at_b : r ≡ b = h.apart r b rw_ bw (own r is) br (rj ∙ sym bj) in
    let at_a : s ≡ a = h.apart s a sw aw (own s also) ar (si ∙ sym ai) in
    elim which [ inl e ↦ not_high s also (at_a ∙ sym e.0) | inr e ↦ not_high r is (at_b ∙ sym e.0) ] in
    record {
      count = length-map labels (new_label labels i j) ∙ size ∙ sym count;
      down = λ k. elim (cases_eq k high) [
        | inl e ↦ omega (arith, ap (slice_index new) e, here, lower, e)
        | inr e ↦ omega (arith, there k e, h.down k)
      ];
      along = λ k small. elim (cases_eq k high) [
        | inl e ↦ ap (λ m. slice_index grown (slice_index new m)) e ∙ ap (slice_index grown) here ∙ ends ∙ ap (slice_index grown) (sym e)
        | inr e ↦ ap (slice_index grown) (there k e)
            ∙ at_same labels i j (slice_index above k) k (omega (arith, h.down k, small, count, size)) (omega (arith, small, count, size)) (h.along k (omega (arith, small, count)))
      ];
      apart = λ r s rs ss is also same.
          let rw_ : r < length above = omega (arith, rs, count) in
          let sw : s < length above = omega (arith, ss, count) in
          let rl : r < length labels = omega (arith, rw_, size) in
          let sl : s < length labels = omega (arith, sw, size) in
          elim (cases_eq (slice_index labels r) (slice_index labels j)) [
            | inl rj ↦ elim (cases_eq (slice_index labels s) (slice_index labels j)) [
              | inl sj ↦ h.apart r s rw_ sw (own r is) (own s also) (rj ∙ sym sj)
              | inr sj ↦ absurd (clash r s rw_ sw is also rj (sym (at_kept labels i j s sl sj) ∙ sym same ∙ at_changed labels i j r rl rj))
            ]
            | inr rj ↦ elim (cases_eq (slice_index labels s) (slice_index labels j)) [
              | inl sj ↦ absurd (clash s r sw rw_ also is sj (sym (at_kept labels i j r rl rj) ∙ same ∙ at_changed labels i j s sl sj))
              | inr sj ↦ h.apart r s rw_ sw (own r is) (own s also) (sym (at_kept labels i j r rl rj) ∙ same ∙ at_kept labels i j s sl sj)
            ]
          ];
    }

-- the greater of two roots is put below the less
pub joined_below : (above labels : List ℕ) (i j a b high low : ℕ) → IsLabelled above labels → a < length above → b < length above
    → slice_index above a ≡ a → slice_index above b ≡ b → slice_index labels a ≡ slice_index labels i → slice_index labels b ≡ slice_index labels j
    → low ≤ high → ((high ≡ a) × (low ≡ b)) ⊎ ((high ≡ b) × (low ≡ a)) → IsLabelled (set above high low) (relabelled labels (i, j))
joined_below above labels i j a b high low h aw bw ar br ai bj lower which = elim (cases_eq a b) [
  | inl e ↦
      let both : high ≡ a = elim which [ inl w ↦ w.0 | inr w ↦ w.0 ∙ sym e ] in
      let also : low ≡ a = elim which [ inl w ↦ w.1 ∙ sym e | inr w ↦ w.1 ] in
      let still : set above high low ≡ above =
      ap (λ k. set above k low) both ∙ ap (set above a) (also ∙ sym ar) ∙ set-get_or above a 0 in
      let labels_still : relabelled labels (i, j) ≡ labels = unchanged labels i j (sym ai ∙ ap (slice_index labels) e ∙ bj) in
      subst (λ l. IsLabelled (set above high low) l) (sym labels_still) (subst (λ l. IsLabelled l labels) (sym still) h)
  | inr e ↦ put_below above labels i j a b high low h aw bw ar br ai bj e
      (elim which [ inl w ↦ omega (arith, w.0, w.1, lower, e) | inr w ↦ omega (arith, w.0, w.1, lower, e) ]) which
]

pub initial : (above : List ℕ) (n : ℕ) → length above ≡ n → ((k : ℕ) → slice_index above k ≤ k) → ((k : ℕ) → k < n → slice_index above k ≡ k)
    → IsLabelled above (range_with_len 0 n)
initial above n size down own =
    let labels = range_with_len 0 n in
    let at : (k : ℕ) → k < n → slice_index labels k ≡ k = λ k h. let plain : 0 + k ≡ k = omega arith in get_or-range_with_len 0 n k 0 h ∙ plain in
    record {
      count = length-range_with_len 0 n ∙ sym size;
      down = down;
      along = λ k h. ap (slice_index labels) (own k (omega (arith, h, size)));
      apart = λ r s h g is also same. sym (at r (omega (arith, h, size))) ∙ same ∙ at s (omega (arith, g, size));
    }

-- if no node but the first names itself all have its label
to_first : (above labels : List ℕ) → IsLabelled above labels → ((k : ℕ) → 1 ≤ k → k < length above → slice_index above k ≢ k) → (bound k : ℕ) → k < bound → k < length above
    → slice_index labels k ≡ slice_index labels 0
to_first above labels h none zero k low within = absurd (omega (arith, low))
to_first above labels h none (suc bound) zero low within = refl
to_first above labels h none (suc bound) (suc k) low within =
    let other = none (suc k) (omega arith) within in
    let down = h.down (suc k) in
    sym (h.along (suc k) within) ∙ to_first above labels h none bound (slice_index above (suc k)) (omega (arith, other, down, low)) (omega (arith, down, within))

pub all_equal : (c : ℕ) (ls : List ℕ) → ((k : ℕ) → k < length ls → slice_index ls k ≡ c) → list_all (λ l. l == c) ls ≡ true
all_equal c [] h = refl
all_equal c (l ∷ ls) h =
    ap (λ (b : Bool). b && list_all (λ k. k == c) ls) (eq-eqb l c (h 0 (omega arith))) ∙ all_equal c ls (λ k g. h (suc k) (omega (arith, g)))

pub one_set : (above labels : List ℕ) → IsLabelled above labels → ((k : ℕ) → 1 ≤ k → k < length above → slice_index above k ≢ k)
    → list_all (λ l. l == slice_index labels 0) labels ≡ true
one_set above labels h none = all_equal (slice_index labels 0) labels (λ k g. to_first above labels h none (suc k) k (omega arith) (omega (arith, g, h.count)))

pub more_sets : (above labels : List ℕ) (k : ℕ) → IsLabelled above labels → 1 ≤ k → k < length above → slice_index above k ≡ k
    → list_all (λ l. l == slice_index labels 0) labels ≡ false
more_sets above labels k h some within own =
    let first : slice_index above 0 ≡ 0 = omega (arith, h.down 0) in
    let unlike : slice_index labels k ≢ slice_index labels 0 = λ e. omega (arith, h.apart k 0 within (omega (arith, within)) own first e, some) in
    list_all_at (λ l. l == slice_index labels 0) labels k 0 (omega (arith, within, h.count)) (ne_eqb (slice_index labels k) (slice_index labels 0) unlike)

-- a node that names itself still does if another one's name is changed
pub still_own : (above : List ℕ) (at next r : ℕ) → slice_index above at < at → slice_index above r ≡ r → slice_index (set above at next) r ≡ r
still_own above at next r lower own = elim (cases_eq r at) [
  | inl e ↦ absurd (omega (arith, ap (slice_index above) e, own, lower, e))
  | inr e ↦ get_or-set_other above at r next 0 e ∙ own
]

pub set_down : (above : List ℕ) (at next : ℕ) → next < at → at < length above → ((k : ℕ) → slice_index above k ≤ k) → (k : ℕ) → slice_index (set above at next) k ≤ k
set_down above at next below within down k = elim (cases_eq k at) [
  | inl e ↦ omega (arith, ap (slice_index (set above at next)) e, get_or-set_same above at next 0 within, below, e)
  | inr e ↦ omega (arith, get_or-set_other above at k next 0 e, down k)
]

-- a node two names on is a lesser one
pub stepped : (above : List ℕ) (at first over next : ℕ) → at < length above → first ≡ get_or above at first → over ≡ get_or above at over → next ≡ get_or above over next
    → first < at → ((k : ℕ) → slice_index above k ≤ k) → next < at
stepped above at first over next within is also next_is lower down =
    let one = get_or_read above at first within is 0 in
    let two = get_or_read above at over within also 0 in
    let three = get_or_read above over next (omega (arith, one, two, lower, within)) next_is 0 in
    omega (arith, one, two, three, lower, down over)

snoc_own : (above : List ℕ) (i k : ℕ) → length above ≡ i → ((k : ℕ) → k < i → slice_index above k ≡ k) → k < i + 1 → slice_index (above ++ i ∷ []) k ≡ k
snoc_own above i k size own h = elim (cases_lt k i) [
  | inl low ↦ get_or_append_left above (i ∷ []) 0 k (omega (arith, low, size)) ∙ own k low
  | inr last ↦
      let is : length above ≡ k = omega (arith, size, last, h) in
      let also : i ≡ k = omega (arith, last, h) in
      subst (λ m. slice_index (above ++ i ∷ []) m ≡ i) is (get_or-append_seam above i [] 0) ∙ also
]

-- a node more, which names itself
pub pushed_own : (above new : List ℕ) (i : ℕ) → new ≡ above ++ i ∷ [] → length above ≡ i → ((k : ℕ) → k < i → slice_index above k ≡ k)
    → (k : ℕ) → k < i + 1 → slice_index new k ≡ k
pushed_own above new i e size own k h = ap (λ (l : List ℕ). slice_index l k) e ∙ snoc_own above i k size own h

pub pushed_length : (above new : List ℕ) (i : ℕ) → new ≡ above ++ i ∷ [] → length above ≡ i → length new ≡ i + 1
pushed_length above new i e size = ap (length {A = ℕ}) e ∙ length-append above (i ∷ []) ∙ ap (λ n. n + 1) size

pub pushed_down : (above new : List ℕ) (i : ℕ) → new ≡ above ++ i ∷ [] → length above ≡ i → ((k : ℕ) → k < i → slice_index above k ≡ k)
    → (k : ℕ) → slice_index new k ≤ k
pushed_down above new i e size own k = elim (cases_lt k (i + 1)) [
  | inl low ↦ omega (arith, pushed_own above new i e size own k low)
  | inr past ↦ omega (arith, get_or_past new k 0 (omega (arith, past, pushed_length above new i e size)))
]

pub of_two : (a b high low : ℕ) → a ≤ high → b ≤ high → low + high ≡ a + b → (high ≡ a) ⊎ (high ≡ b) → ((high ≡ a) × (low ≡ b)) ⊎ ((high ≡ b) × (low ≡ a))
of_two a b high low h g total (inl e) = inl (e, omega (arith, total, e))
of_two a b high low h g total (inr e) = inr (e, omega (arith, total, e))
