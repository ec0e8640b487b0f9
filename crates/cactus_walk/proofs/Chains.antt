-- Borders that follow one another in one block.
use Rattle.std.proofs.Common.{◌≡◌, ℕ, zero, suc, ◌+◌, ◌≤◌, ◌<◌, List, ◌∷◌, subst, arith, [], refl, ◌-◌}
use Rattle.rooted_cactus.specs.Borders.{border_at}
use Rattle.cactus_walk.specs.Walking.{AreChained}
use Rattle.rooted_cactus.specs.declared.tree.border.Border.{Border}

-- the next border of the same block
pub next_at : (bs : List Border) (i j : ℕ) → AreChained bs → j ≡ i + 1 → 0 < (border_at bs i).following → ((border_at bs i).place ≤ (border_at bs j).place) × ((border_at bs i).following ≡ (border_at bs j).following + 1)
next_at [] i j h e some = absurd (omega (arith, some))
next_at (b ∷ bs) i zero h e some = absurd (omega (arith, e))
next_at (b ∷ bs) zero (suc j) h e some =
    let z : 0 ≡ j = omega (arith, e) in
    subst (λ k. (b.place ≤ (border_at bs k).place) × (b.following ≡ (border_at bs k).following + 1)) z (h.0 some)
next_at (b ∷ bs) (suc i) (suc j) h e some = next_at bs i j h.1 (omega (arith, e)) some

-- a later border of the same block
pub later : (k : ℕ) (bs : List Border) (i j : ℕ) → AreChained bs → j ≡ i + k → k ≤ (border_at bs i).following → ((border_at bs i).place ≤ (border_at bs j).place) × ((border_at bs i).following ≡ (border_at bs j).following + k)
later zero bs i j h e few =
    let same : i ≡ j = omega (arith, e) in
    subst (λ m. ((border_at bs i).place ≤ (border_at bs m).place) × ((border_at bs i).following ≡ (border_at bs m).following + 0)) same (omega arith, omega arith)
later (suc k) bs i j h e few =
    let first = next_at bs i (i + 1) h refl (omega (arith, few)) in
    let rest = later k bs (i + 1) j h (omega (arith, e)) (omega (arith, few, first.1)) in
    (omega (arith, first.0, rest.0), omega (arith, first.1, rest.1))

-- places do not go down along a block
pub no_less : (bs : List Border) (i a b : ℕ) → AreChained bs → i ≤ a → a ≤ b → b ≤ i + (border_at bs i).following → (border_at bs a).place ≤ (border_at bs b).place
no_less bs i a b h ia ab few =
    let first = later (a - i) bs i a h (omega (arith, ia)) (omega (arith, ia, ab, few)) in
    (later (b - a) bs a b h (omega (arith, ab)) (omega (arith, first.1, ia, ab, few))).0
