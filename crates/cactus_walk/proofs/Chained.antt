-- The borders of a block follow one another, and their places do not descend.
use Rattle.std.proofs.Common.{◌≡◌, ℕ, zero, suc, ◌+◌, ◌≤◌, List, [], ◌∷◌, ◌++◌, length, map, sym, refl, subst, arith}
use Rattle.std.specs.Prelude.{slice_index}
use Rattle.std.proofs.lemmas.List.{map-append}
use Rattle.rooted_cactus.specs.Entered.{entered}
use Rattle.rooted_cactus.specs.Outlines.{Hops, outlined, sizes}
use Rattle.rooted_cactus.specs.Borders.{AllHop, hops_end, hops_more, all_borders, border_at, borders_along, borders_at, placed}
use Rattle.rooted_cactus.specs.Places.{places_from}
use Rattle.cactus_walk.specs.Walking.{AreChained}
use Rattle.rooted_cactus.specs.declared.tree.outline.NodeOutline.{NodeOutline}
use Rattle.rooted_cactus.specs.declared.tree.border.Border.{Border}
use Rattle.rooted_cactus.specs.declared.tree.Node.{Node}
use Rattle.rooted_cactus.proofs.Outlined.{all_hop}
use Rattle.cactus_walk.proofs.PlaceLaws.{sizes_entered, walk_borders}
use Rattle.rooted_cactus.proofs.Sizes.{hops_le}

-- no place is before the one from which they are counted
from_le : (k : ℕ) (ls : List (List ℕ)) (j : ℕ) → j ≤ length ls → k ≤ slice_index (places_from k ls) j
from_le k [] zero h = omega arith
from_le k [] (suc j) h = absurd (omega (arith, h))
from_le k (l ∷ ls) zero h = omega arith
from_le k (l ∷ ls) (suc j) h = omega (arith, from_le (k + length l) ls j (omega (arith, h)))

-- a later node begins at no lesser place
place_mono : (k : ℕ) (ls : List (List ℕ)) (i j : ℕ) → i ≤ j → j ≤ length ls → slice_index (places_from k ls) i ≤ slice_index (places_from k ls) j
place_mono k [] zero zero h w = omega arith
place_mono k [] i (suc j) h w = absurd (omega (arith, w))
place_mono k [] (suc i) zero h w = absurd (omega (arith, h))
place_mono k (l ∷ ls) zero j h w = from_le k (l ∷ ls) j w
place_mono k (l ∷ ls) (suc i) zero h w = absurd (omega (arith, h))
place_mono k (l ∷ ls) (suc i) (suc j) h w = place_mono (k + length l) ls i j (omega (arith, h)) (omega (arith, w))

-- places of a table that do not descend as far as the nodes go
abbrev Ascend : List ℕ → List ℕ → Type 0
Ascend places s = (i j : ℕ) → i ≤ j → j ≤ length s → slice_index places i ≤ slice_index places j

-- the first of the borders of a block
first_along : (places s : List ℕ) (m k : ℕ) (rest : List Border) → border_at (map (placed places) (borders_along s m k) ++ rest) 0 ≡ record { place = slice_index places k; following = m }
first_along places s zero k rest = refl
first_along places s (suc m) k rest = refl

-- the borders of a block, before others that are chained
along_chained : (places s : List ℕ) (m k to : ℕ) (rest : List Border) → Ascend places s → Hops s m k to → to ≤ length s → AreChained rest → AreChained (map (placed places) (borders_along s m k) ++ rest)
along_chained places s zero k to rest up hops within r = (λ some. absurd (omega (arith, some)), r)
along_chained places s (suc m) k to rest up hops within r =
    let next = k + slice_index s k in
    let first = first_along places s m next rest in
    let le : slice_index places k ≤ slice_index places next = up k next (omega arith) (omega (arith, hops_le s m next to hops.1, within)) in (
      λ some. (
        subst (λ (b : Border). slice_index places k ≤ b.place) (sym first) le,
        subst (λ (b : Border). suc m ≡ b.following + 1) (sym first) (omega arith),
      ),
      along_chained places s m next to rest up hops.1 within r,
    )

-- the borders of the block that a node is the first of, if there is one, are chained
at_chained : (places s : List ℕ) (m k to : ℕ) (rest : List Border) → Ascend places s → Hops s m k to → to ≤ length s → AreChained rest → AreChained (map (placed places) (borders_at s m k) ++ rest)
at_chained places s zero k to rest up hops within r = r
at_chained places s (suc m) k to rest up hops within r = along_chained places s (suc m) k to rest up hops within r

-- the borders of all blocks
all_chained : (places s : List ℕ) (k : ℕ) (es : List NodeOutline) → Ascend places s → AllHop s k es → AreChained (map (placed places) (all_borders s k es))
all_chained places s k es up (hops_end t l) = tt
all_chained places s k es up (hops_more t l e rest at more) =
    subst AreChained (sym (map-append (placed places) (borders_at t e.head l) (all_borders t (l + 1) rest)))
    (at_chained places t e.head l at.end (map (placed places) (all_borders t (l + 1) rest)) up at.block at.within (all_chained places t (l + 1) rest up more))

-- the borders of a tree are chained
pub borders_chained : (x : Node) → AreChained (walk_borders x)
borders_chained x =
    all_chained (places_from 0 (entered x)) (sizes x) 0 (outlined x) (λ i j h w. place_mono 0 (entered x) i j h (omega (arith, w, sizes_entered x))) (all_hop x)
