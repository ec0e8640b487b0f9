-- The flat cactus of a cactus whose sides are the minimum cuts of a graph.
use Rattle.std.proofs.Common.{◌≡◌, List, ℕ}
use Rattle.cut_definitions.specs.Cuts.{mincuts}
use Rattle.cut_definitions.specs.Graph.{Graph}
use Rattle.cut_definitions.specs.Members.{SameMembers}
use Rattle.rooted_cactus.specs.Rooted.{Rooted, IsCactus, sides_of}
use Rattle.flat_cactus.specs.Flat.{Flat}
use Rattle.flat_cactus.specs.FlatCuts.{HasSides}
use Rattle.flat_cactus.specs.FlatLaws.{LawOfFlatForm, LawOfFlatSides}
use Rattle.flat_cactus.specs.Flattened.{flat_of}
use Rattle.flat_cactus.specs.Shown.{ShowsCuts}

-- a flat cactus with the sides of a list has those of each list with the same members
same_sides : (flat : Flat) (k l : List (List ℕ)) → HasSides flat k → SameMembers k l → HasSides flat l
same_sides flat k l sides same = λ side. (λ cut. (same side).0 ((sides side).0 cut), λ member. (sides side).1 ((same side).1 member))

pub shows : (g : Graph) (c : Rooted) → LawOfFlatForm → LawOfFlatSides → IsCactus c.vertices c.root → c.vertices ≡ g.vertices → SameMembers (sides_of c) (mincuts g) → ShowsCuts g (flat_of c)
shows g c form sides is over same = record {
  over = over;
  formed = form c.vertices c.root is;
  sides = same_sides (flat_of c) (sides_of c) (mincuts g) (sides c.vertices c.root is) same;
}
