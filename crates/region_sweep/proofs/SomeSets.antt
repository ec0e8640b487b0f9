-- A set of what is under several nodes.
use Rattle.std.proofs.Common.{◌≡◌, ℕ, zero, suc, ◌+◌, refl, subst, arith}
use Rattle.cut_definitions.specs.Weight.{VertexSet, either}
use Rattle.node_tree.specs.TreeSets.{IsUnder}
use Rattle.region_sweep.proofs.Hanging.{under_one, under_after}

-- a set of what is under several nodes
pub some_set : (n : ℕ) (under : ℕ → VertexSet) (first more : ℕ) → (x : VertexSet) × IsUnder n under first (first + more) x
some_set n under first zero =
    let e : first ≡ first + 0 = omega arith in
    (under first, subst (λ (k : ℕ). IsUnder n under first k (under first)) e (under_one n under first (under first) (λ v a b. refl)))
some_set n under first (suc more) =
    let rest = some_set n under first more in
    let e : first + more + 1 ≡ first + suc more = omega arith in
    let x = either rest.0 (under (first + more + 1)) in
    (x, subst (λ (k : ℕ). IsUnder n under first k x) e (under_after n under first (first + more) x rest.0 (under (first + more + 1)) rest.1 (λ v a b. refl) (omega arith) (λ v. refl)))
