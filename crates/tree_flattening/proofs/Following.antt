-- The nodes that follow others in a cycle.
use Rattle.std.proofs.Common.{◌≡◌, ℕ, zero, suc, ◌+◌, ◌-◌, ◌<◌, ◌≤◌, false, true, cond, List, [], ◌∷◌, length, ap, sym, refl, arith}
use Rattle.node_tree.specs.Flat.{TreeLinks, is_follower}
use Rattle.tree_flattening.specs.Plans.{run_from, run_of}

-- the nodes of a cycle from a node on, if it follows the one before it, and none otherwise
abbrev pub rest_from : TreeLinks → ℕ → List ℕ
rest_from t k = cond (is_follower t.follows k) (run_of t k) []

pub rest_none : (t : TreeLinks) (k : ℕ) → is_follower t.follows k ≡ false → rest_from t k ≡ []
rest_none t k e = ap (λ b. cond b (run_of t k) []) e

pub rest_some : (t : TreeLinks) (k : ℕ) → is_follower t.follows k ≡ true → rest_from t k ≡ run_of t k
rest_some t k e = ap (λ b. cond b (run_of t k) []) e

-- a node and those that follow it, if none follows beyond the last
pub run_next : (t : TreeLinks) (h : ℕ) → h < length t.uppers → (length t.uppers ≤ h + 1 → is_follower t.follows (h + 1) ≡ false) → run_of t h ≡ h ∷ rest_from t (h + 1)
run_next t h lt last = stepped (length t.uppers - h - 1) refl where
  stepped : (k : ℕ) → k ≡ length t.uppers - h - 1 → run_from k t h ≡ h ∷ rest_from t (h + 1)
  stepped zero e = ap (λ l. h ∷ l) (sym (rest_none t (h + 1) (last (omega (arith, e, lt)))))
  stepped (suc k) e =
      let same : k ≡ length t.uppers - (h + 1) - 1 = omega (arith, e, lt) in
      ap (λ m. h ∷ cond (is_follower t.follows (h + 1)) (run_from m t (h + 1)) []) same
