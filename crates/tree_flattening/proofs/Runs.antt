-- The first nodes of the blocks below a node, and the nodes of each block.
use Rattle.std.proofs.Common.{◌≡◌, ℕ, zero, suc, ◌+◌, ◌-◌, ◌<◌, ◌≤◌, inl, inr, Bool, true, false, not, cond, List, [], ◌∷◌, length, ◌∙◌, sym, refl, arith}
use Rattle.std.specs.Prelude.{◌==◌, ◌&&◌, slice_index}
use Rattle.std.specs.List.{Contains, range_with_len}
use Rattle.std.proofs.lemmas.Bool.{and_parts, not-true, eqb-true}
use Rattle.std.proofs.lemmas.List.FromFn.{length-range_with_len, get_or-range_with_len}
use Rattle.cut_definitions.proofs.Lists.{Contains-nil, Contains-cons_cases, Contains-from_filter}
use Rattle.node_tree.specs.Flat.{TreeLinks, is_follower}
use Rattle.tree_flattening.specs.Plans.{heads_of, run_from, run_of}

pub range_within : (low m x : ℕ) → Contains (range_with_len low m) x → (low ≤ x) × (x < low + m)
range_within low m x h =
    let at : h.0 < m = omega (arith, h.1, length-range_with_len low m) in
    let is : x ≡ low + h.0 = sym h.2 ∙ get_or-range_with_len low m h.0 x at in
    (omega (arith, is), omega (arith, is, at))

-- a node that is the first of a block below another
pub record IsHead (t : TreeLinks) (i h : ℕ) : Type 0 where
  pub after : i < h
  pub before : h < length t.uppers
  pub first : is_follower t.follows h ≡ false
  pub upper : slice_index t.uppers h ≡ i

-- each node but the root hangs from one with a smaller number
abbrev pub AreAfter : TreeLinks → Type 0
AreAfter t = (i : ℕ) → 1 ≤ i → i < length t.uppers → slice_index t.uppers i < i

pub head_is : (t : TreeLinks) → AreAfter t → (i h : ℕ) → Contains (heads_of t i) h → IsHead t i h
head_is t after i h k =
    let found = Contains-from_filter (λ j. not (is_follower t.follows j) && (slice_index t.uppers j == i)) (range_with_len 1 (length t.uppers - 1)) h k in
    let place = range_within 1 (length t.uppers - 1) h found.0 in
    let parts = and_parts (not (is_follower t.follows h)) (slice_index t.uppers h == i) found.1 in
    let upper : slice_index t.uppers h ≡ i = eqb-true (slice_index t.uppers h) i parts.1 in
    let before : h < length t.uppers = omega (arith, place.0, place.1) in
    let low = after h place.0 before in
    record { after = omega (arith, low, upper); before = before; first = not-true (is_follower t.follows h) parts.0; upper = upper }

-- a block has its first node, then the others
pub run_starts : (t : TreeLinks) (h : ℕ) → (rest : List ℕ) × (run_of t h ≡ h ∷ rest)
run_starts t h = starts (length t.uppers - h - 1) t h
  where
    starts : (more : ℕ) (t : TreeLinks) (h : ℕ) → (rest : List ℕ) × (run_from more t h ≡ h ∷ rest)
    starts zero t h = ([], refl)
    starts (suc more) t h = (cond (is_follower t.follows (h + 1)) (run_from more t (h + 1)) [], refl)

run_near : (more : ℕ) (t : TreeLinks) (h j : ℕ) → Contains (run_from more t h) j → (h ≤ j) × (j ≤ h + more)
run_near zero t h j k = elim (Contains-cons_cases h [] j k) [
  | inl e ↦ (omega (arith, e), omega (arith, e))
  | inr t ↦ absurd (Contains-nil j t)
]
run_near (suc more) t h j k = elim (Contains-cons_cases h (cond (is_follower t.follows (h + 1)) (run_from more t (h + 1)) []) j k) [
  | inl e ↦ (omega (arith, e), omega (arith, e))
  | inr m ↦ next (is_follower t.follows (h + 1)) (run_from more t (h + 1)) m (run_near more t (h + 1) j)
]
  where
    next : (b : Bool) (run : List ℕ) → Contains (cond b run []) j → (Contains run j → (h + 1 ≤ j) × (j ≤ h + 1 + more)) → (h ≤ j) × (j ≤ h + suc more)
    next true run m near =
        let r = near m in
        (omega (arith, r.0), omega (arith, r.1))
    next false run m near = absurd (Contains-nil j m)

-- none of them is before the first, and all are nodes
pub run_within : (t : TreeLinks) (h j : ℕ) → h < length t.uppers → Contains (run_of t h) j → (h ≤ j) × (j < length t.uppers)
run_within t h j lt k =
    let r = run_near (length t.uppers - h - 1) t h j k in
    (r.0, omega (arith, r.1, lt))
