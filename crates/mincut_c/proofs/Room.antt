-- The flat canonical cactus of a graph has few parts.
use Rattle.std.proofs.Common.{◌≡◌, ℕ, true, ◌+◌, ◌-◌, ◌*◌, ◌≤◌, List, [], ◌∷◌, length, refl, sym, ◌∙◌, arith, length-append}
use Rattle.std.specs.List.{All, concat, sum_by}
use Rattle.std.proofs.lemmas.List.Elements.{All-head, All-tail}
use Rattle.std.proofs.lemmas.List.Sums.{sum_by-cons}
use Rattle.canonical_cactus.specs.Canonical.{arranged, is_canonical}
use Rattle.cut_definitions.proofs.Bools.{and_first}
use Rattle.cut_definitions.specs.Graph.{Graph}
use Rattle.flat_cactus.proofs.SomeBlock.{some_block}
use Rattle.flat_cactus.specs.Flat.{Flat, items_in}
use Rattle.flat_cactus.specs.FlatCuts.{IsCycleBelow, IsWellFormed}
use Rattle.flat_cactus.specs.FlatLaws.{LawOfFlatForm}
use Rattle.flat_cactus.specs.Flattened.{flat_of}
use Rattle.rooted_cactus.proofs.Masses.{vertices_length}
use Rattle.rooted_cactus.specs.Entered.{entered}
use Rattle.rooted_cactus.specs.Normal.{is_normal}
use Rattle.rooted_cactus.specs.NormalLaws.{LawOfFewNodes}
use Rattle.rooted_cactus.specs.Rooted.{Rooted}
use Rattle.rooted_cactus.specs.declared.tree.Node.{Node}
use Rattle.mincut_c.specs.Shown.{HasFewParts, IsCanonicalOf}

-- what the cycles add to the nodes, and how long they are together
cycles_long : (count : ℕ) (cycles : List (List ℕ)) → All (IsCycleBelow count) cycles →
    (2 * length cycles ≤ sum_by (λ (c : List ℕ). length c - 1) cycles) × (items_in cycles ≡ length cycles + sum_by (λ (c : List ℕ). length c - 1) cycles)
cycles_long count [] all = (omega arith, refl)
cycles_long count (c ∷ cs) all =
    let one : IsCycleBelow count c = All-head (IsCycleBelow count) c cs all in
    let rest = cycles_long count cs (All-tail (IsCycleBelow count) c cs all) in
    let less = sum_by-cons (λ (d : List ℕ). length d - 1) c cs in
    let whole = sum_by-cons (λ (d : List ℕ). length d) c cs in
    (omega (arith, one.long, rest.0, less), omega (arith, one.long, rest.1, less, whole))

joined_length : (ls : List (List ℕ)) → length (concat ls) ≡ items_in ls
joined_length [] = refl
joined_length (l ∷ ls) = omega (arith, length-append l (concat ls), joined_length ls, sum_by-cons (λ (k : List ℕ). length k) l ls)

few : (n : ℕ) (flat : Flat) → 2 ≤ n → IsWellFormed flat → length flat.nodes ≤ 2 * n - 2 → items_in flat.nodes ≡ n → HasFewParts n flat
few n flat two formed nodes all =
    let cycles = cycles_long (length flat.nodes) flat.cycles formed.cycles in
    record {
      nodes = nodes;
      vertices = all;
      bridges = omega (arith, formed.count);
      cycles = omega (arith, formed.count, cycles.0);
      members = omega (arith, formed.count, cycles.0, cycles.1);
    }

normal_of : (root : Node) → is_canonical root ≡ true → is_normal root ≡ true
normal_of root e = and_first (is_normal root) (arranged root).in_order e

pub few_parts : (g : Graph) (flat : Flat) → LawOfFlatForm → LawOfFewNodes → 2 ≤ g.vertices → IsCanonicalOf g flat → HasFewParts g.vertices flat
few_parts g flat form law two k =
    let c : Rooted = k.rooted in
    let nodes = law c.vertices c.root k.is_cactus (normal_of c.root k.canonical) (some_block g c two k.sides) in
    let all = sym (joined_length (entered c.root)) ∙ vertices_length c.vertices c.root k.is_cactus in
    rw k.entered (few g.vertices (flat_of c) two (form c.vertices c.root k.is_cactus) (omega (arith, nodes, k.over)) (all ∙ k.over))
