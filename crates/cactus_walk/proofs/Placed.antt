-- The places of the cuts of a cactus, and of those that a walk keeps.
use Rattle.std.proofs.Common.{◌≡◌, ℕ, zero, suc, ◌+◌, ◌<◌, ◌≤◌, Bool, true, List, [], ◌∷◌, length, map, ap, ◌∙◌, sym, refl, subst, arith}
use Rattle.std.specs.Prelude.{◌↔◌, slice_index}
use Rattle.std.specs.List.{All, Contains, concat}
use Rattle.std.proofs.lemmas.List.{length-append, length-map}
use Rattle.cut_definitions.proofs.Lists.{Contains-map, Contains-from_map}
use Rattle.rooted_cactus.specs.Entered.{entered}
use Rattle.rooted_cactus.specs.Outlines.{outlined, sizes}
use Rattle.rooted_cactus.specs.Borders.{all_borders, borders_along, borders_at, placed, ranges_between}
use Rattle.rooted_cactus.specs.Places.{AreOnce, places_from, side_at}
use Rattle.cut_definitions.specs.Graph.{IsVertex}
use Rattle.cactus_walk.specs.Repeats.{all_marks, is_between, marks_along, marks_at, ranges_kept}
use Rattle.rooted_cactus.specs.Rooted.{IsCactus, sides_of}
use Rattle.rooted_cactus.specs.Normal.{is_normal}
use Rattle.cut_definitions.specs.Members.{AreDifferent}
use Rattle.cactus_walk.specs.Walking.{AreBorders, AreChained}
use Rattle.rooted_cactus.specs.declared.tree.Node.{Node}
use Rattle.rooted_cactus.specs.declared.tree.outline.NodeOutline.{NodeOutline}
use Rattle.rooted_cactus.specs.declared.tree.border.Border.{Border}
use Rattle.cactus_walk.proofs.Chained.{borders_chained}
use Rattle.cactus_walk.proofs.Counted.{tree_counted}
use Rattle.rooted_cactus.proofs.Distinct.{number_of_sides}
use Rattle.cactus_walk.proofs.Kept.{kept_back, kept_few, kept_is, kept_there, of_nodes}
use Rattle.cactus_walk.proofs.Pigeons.{all_different}
use Rattle.rooted_cactus.proofs.Masses.{vertices_length}
use Rattle.rooted_cactus.proofs.Once.{each_once, all_vertices_within}
use Rattle.rooted_cactus.proofs.Outlined.{all_hop}
use Rattle.cactus_walk.proofs.PlaceLaws.{between_placed, borders_fit, places_length, range_placed, sides_between, sizes_entered, walk_borders}

-- the vertices in the order of entering, and the borders at their places
pub record ArePlaces (n : ℕ) (x : Node) (order : List ℕ) (bs : List Border) : Type 0 where
  pub long : length order ≡ n
  pub vertices : All (IsVertex n) order
  pub once : AreOnce n order
  pub borders : AreBorders (length order) bs
  pub chained : AreChained bs
  pub sides : map (side_at n order) (ranges_between bs) ≡ sides_of record { vertices = n; root = x }

pub are_places : (n : ℕ) (x : Node) (order : List ℕ) (borders : List Border) → IsCactus n x → order ≡ concat (entered x) → borders ≡ walk_borders x → ArePlaces n x order borders
are_places n x order borders cactus o b = record {
  long = ap length o ∙ vertices_length n x cactus;
  vertices = subst (All (IsVertex n)) (sym o) (all_vertices_within n x cactus);
  once = subst (AreOnce n) (sym o) (each_once n x cactus);
  borders = subst (AreBorders (length order)) (sym b) (subst (λ l. AreBorders (length l) (walk_borders x)) (sym o) (borders_fit x));
  chained = subst AreChained (sym b) (borders_chained x);
  sides = ap (λ l. map (side_at n order) (ranges_between l)) b ∙ ap (λ l. map (side_at n l) (ranges_between (walk_borders x))) o ∙ sides_between n x;
}

-- what is read along a tree that was laid out
pub places_many : (x : Node) (s ps : List ℕ) → s ≡ sizes x → ps ≡ places_from 0 (entered x) → length s < length ps
places_many x s ps e f = omega (arith, ap length e, ap length f, places_length 0 (entered x), sizes_entered x)

pub borders_read : (x : Node) (es : List NodeOutline) (s ps : List ℕ) → es ≡ outlined x → s ≡ sizes x → ps ≡ places_from 0 (entered x) → map (placed ps) (all_borders s 0 es) ≡ walk_borders x
borders_read x es s ps e f g =
    ap (λ p. map (placed p) (all_borders s 0 es)) g
    ∙ ap (λ t. map (placed (places_from 0 (entered x))) (all_borders t 0 es)) f
    ∙ ap (λ t. map (placed (places_from 0 (entered x))) (all_borders (sizes x) 0 t)) e

-- ---- the marks of the borders
along_marks : (f : ℕ → Bool) (s : List ℕ) (m k : ℕ) → length (marks_along f s m k) ≡ length (borders_along s m k)
along_marks f s zero k = refl
along_marks f s (suc m) k = ap suc (along_marks f s m (k + slice_index s k))

at_marks : (f : ℕ → Bool) (s : List ℕ) (m k : ℕ) → length (marks_at f s m k) ≡ length (borders_at s m k)
at_marks f s zero k = refl
at_marks f s (suc m) k = along_marks f s (suc m) k

marks_length : (f : ℕ → Bool) (s : List ℕ) (k : ℕ) (es : List NodeOutline) → length (all_marks f s k es) ≡ length (all_borders s k es)
marks_length f s k [] = refl
marks_length f s k (e ∷ es) =
    omega (
      arith,
      length-append (marks_at f s e.head k) (all_marks f s (k + 1) es),
      length-append (borders_at s e.head k) (all_borders s (k + 1) es),
      at_marks f s e.head k,
      marks_length f s (k + 1) es,
    )

abbrev pub walk_marks : Node → List Bool
walk_marks x = all_marks (is_between (places_from 0 (entered x)) (outlined x)) (sizes x) 0 (outlined x)

pub marks_read : (x : Node) (es : List NodeOutline) (s ps : List ℕ) → es ≡ outlined x → s ≡ sizes x → ps ≡ places_from 0 (entered x) → all_marks (is_between ps es) s 0 es ≡ walk_marks x
marks_read x es s ps e f g =
    ap (λ p. all_marks (is_between p es) s 0 es) g
    ∙ ap (λ t. all_marks (is_between (places_from 0 (entered x)) es) t 0 es) f
    ∙ ap (λ t. all_marks (is_between (places_from 0 (entered x)) t) (sizes x) 0 t) e

-- ---- what a walk keeps
map_same : {X Y : Type 0} (f : X → Y) (xs ys : List X) → ((x : X) → Contains xs x → Contains ys x) → (y : Y) → Contains (map f xs) y → Contains (map f ys) y
map_same f xs ys h y c = let w = Contains-from_map f xs y c in subst (λ z. Contains (map f ys) z) w.2 (Contains-map f ys w.0 (h w.0 w.1))

-- the sides at the ranges that are kept are those of the cactus, and they are no more than its cuts
pub record AreKept (n : ℕ) (x : Node) (order : List ℕ) (bs : List Border) (ms : List Bool) : Type 0 where
  pub repeats : length ms ≡ length bs
  pub sides : (side : List ℕ) → Contains (map (side_at n order) (ranges_kept bs ms)) side ↔ Contains (sides_of record { vertices = n; root = x }) side
  pub few : length (ranges_kept bs ms) ≤ length (sides_of record { vertices = n; root = x })
  pub different : is_normal x ≡ true → AreDifferent (map (side_at n order) (ranges_kept bs ms))

-- of a normal cactus a walk keeps no more ranges than it has sides, so it gives none twice
each_once_given : (n : ℕ) (x : Node) → IsCactus n x → is_normal x ≡ true → (given : List (List ℕ)) → length given ≡ length (ranges_kept (walk_borders x) (walk_marks x)) →
    ((side : List ℕ) → Contains given side ↔ Contains (sides_of record { vertices = n; root = x }) side) → AreDifferent given
each_once_given n x cactus normal given long same =
    let ps = places_from 0 (entered x) in
    let s = sizes x in
    let es = outlined x in
    let marked = is_between ps es in
    let d = number_of_sides n x cactus normal in
    let kept : length (ranges_kept (walk_borders x) (walk_marks x)) ≡ length (of_nodes marked s 0 es) = ap length (kept_is ps s es (all_hop x)) ∙ length-map (of_nodes marked s 0 es) (range_placed ps) in
    let few = tree_counted x cactus.wide (omega (arith, cactus.root_has_one.1)) in
    all_different given d.members d.different (λ y c. (same y).1 ((d.same y).0 c)) (λ y c. (d.same y).1 ((same y).0 c)) (omega (arith, long, kept, few, d.many))

pub are_kept : (n : ℕ) (x : Node) (order : List ℕ) (borders : List Border) (repeats : List Bool) → IsCactus n x → ArePlaces n x order borders → borders ≡ walk_borders x → repeats ≡ walk_marks x → AreKept n x order borders repeats
are_kept n x order borders repeats cactus h b r =
    let ps = places_from 0 (entered x) in
    let s = sizes x in
    let es = outlined x in
    let all : map (range_placed ps) (ranges_between (all_borders s 0 es)) ≡ ranges_between borders = sym (between_placed ps (all_borders s 0 es)) ∙ ap ranges_between (sym b) in
    let kept : ranges_kept (walk_borders x) (walk_marks x) ≡ ranges_kept borders repeats = ap (λ l. ranges_kept l (walk_marks x)) (sym b) ∙ ap (ranges_kept borders) (sym r) in
    let side = side_at n order in
    let same : (l : List ℕ) → Contains (map side (ranges_kept borders repeats)) l ↔ Contains (sides_of record { vertices = n; root = x }) l = λ l. (
      (λ c. subst (λ ls. Contains ls l) h.sides
          (map_same side (ranges_kept borders repeats) (ranges_between borders)
          (λ q k. subst (λ rs. Contains rs q) all (kept_back ps s es (all_hop x) q (subst (λ rs. Contains rs q) (sym kept) k))) l c)),
      (λ c. map_same side (ranges_between borders) (ranges_kept borders repeats)
          (λ q k. subst (λ rs. Contains rs q) kept (kept_there ps s es (all_hop x) q (subst (λ rs. Contains rs q) (sym all) k))) l
          (subst (λ ls. Contains ls l) (sym h.sides) c)),
    ) in
    record {
      repeats = ap length r ∙ marks_length (is_between ps es) s 0 es ∙ sym (length-map (all_borders s 0 es) (placed ps)) ∙ ap length (sym b);
      sides = same;
      few = omega (arith, kept_few borders repeats, length-map (ranges_between borders) side, ap length h.sides);
      different = λ normal. each_once_given n x cactus normal (map side (ranges_kept borders repeats)) (length-map (ranges_kept borders repeats) side ∙ ap length (sym kept)) same;
    }
