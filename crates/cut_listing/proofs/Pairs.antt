-- If only two vertices have mass 1, the sides with balance at least 1 are those that separate them.
use Rattle.std.proofs.Common.{ne_eqb, ◌≡◌, ℕ, zero, suc, ◌+◌, ◌-◌, ◌≤◌, ◌<◌, min, inl, inr, Bool, true, false, not, ◌&&◌, ◌||◌, ◌==◌, List, [], ◌∷◌, ◌++◌, length, get_or, ap, ◌∙◌, sym, refl, subst, arith, true≢false}
use Rattle.std.specs.Prelude.{if◌then◌else◌, nat_le}
use Rattle.std.specs.List.{Contains, concat, filter, flat_map, range_with_len, sum_by}
use Rattle.std.proofs.lemmas.Bool.{and_parts, cases_Bool, eq-eqb, leb-true, lt-leb, le-leb}
use Rattle.std.proofs.lemmas.List.Elements.{All-contains}
use Rattle.std.proofs.lemmas.List.FromFn.{get_or-range_with_len, length-range_with_len}
use Rattle.std.proofs.lemmas.List.Sums.{get_or-le-sum_by, sum_by-cons}
use Rattle.std.proofs.Math.Bool.{or-true}
use Rattle.cut_definitions.specs.Balance.{mass, mass_of}
use Rattle.cut_definitions.specs.Cuts.{has, IsAscendingWithin}
use Rattle.cut_definitions.specs.Weight.{VertexSet, complement, parts}
use Rattle.cut_definitions.proofs.Bridge.{has_low, has_within}
use Rattle.cut_definitions.proofs.Lists.{Contains-filter, Contains-from_filter, Contains-from_map}
use Rattle.cut_definitions.proofs.Masses.{mass_term}
use Rattle.cut_definitions.proofs.Ascending.{contains_has}
use Rattle.rooted_cactus.specs.Entered.{entered, entered_block}
use Rattle.rooted_cactus.specs.Rooted.{IsCactus, Rooted, sides_of}
use Rattle.rooted_cactus.specs.Sides.{Part, cuts}
use Rattle.rooted_cactus.specs.Trees.{blocks, vertices}
use Rattle.rooted_cactus.specs.declared.tree.Node.{Node, out-Node, roll-Node}
use Rattle.rooted_cactus.proofs.Layouts.{cut_is_segment}
use Rattle.rooted_cactus.proofs.Orders.{entered_out}
use Rattle.rooted_cactus.proofs.Parts.{part_out}
use Rattle.rooted_cactus.proofs.Segments.{IsSegment, has_append_at, has_both}
use Rattle.cut_listing.specs.Asks.{is_balanced}
use Rattle.cut_listing.specs.Listings.{different}
use Rattle.cut_listing.specs.Pairs.{ArePairMasses, vertex_or_one}
use Rattle.cut_listing.proofs.Listed.{same_different}
use Rattle.cut_listing.proofs.Passes.{ascends_to, has_a_vertex, sides_ascend}

-- ---- two masses of 1
-- terms that are all 0
no_terms : (f : ℕ → ℕ) (k low : ℕ) → ((v : ℕ) → low ≤ v → v < low + k → f v ≡ 0) → sum_by f (range_with_len low k) ≡ 0
no_terms f zero low h = refl
no_terms f (suc k) low h =
    omega (
      arith,
      sum_by-cons f low (range_with_len (low + 1) k),
      h low (omega arith) (omega arith),
      no_terms f k (low + 1) (λ v from to. h v (omega (arith, from)) (omega (arith, to))),
    )

-- a set has the mass of a vertex that it has
own_mass : (masses : List ℕ) (s : VertexSet) (v : ℕ) → 1 ≤ v → v ≤ length masses → s v ≡ true → mass_of masses v ≤ mass masses s
unfolding mass
own_mass masses s v l h there =
    let f = mass_term masses s in
    let all = range_with_len 1 (length masses) in
    let at : get_or all (v - 1) 0 ≡ v = omega (arith, l, get_or-range_with_len 1 (length masses) (v - 1) 0 (omega (arith, l, h))) in
    let term : f v ≡ mass_of masses v = ap (λ b. if b then mass_of masses v else 0) there in
    omega (arith, get_or-le-sum_by f all (v - 1) 0 (omega (arith, l, h, length-range_with_len 1 (length masses))), ap f at, term)

-- a set without a vertex that has a mass has none
no_mass : (masses : List ℕ) (s : VertexSet) → ((v : ℕ) → 1 ≤ v → v ≤ length masses → s v ≡ true → mass_of masses v ≡ 0) → mass masses s ≡ 0
unfolding mass
no_mass masses s none =
    no_terms (mass_term masses s) (length masses) 1 (λ v from to. elim (cases_Bool (s v)) [
      | inl held ↦ ap (λ b. if b then mass_of masses v else 0) held ∙ none v from (omega (arith, to)) held
      | inr lacks ↦ ap (λ b. if b then mass_of masses v else 0) lacks
    ])

module _ (n u v : ℕ) (masses : List ℕ) (are : ArePairMasses n u v masses) (u_from : 1 ≤ u) (u_to : u ≤ n) (v_from : 1 ≤ v) (v_to : v ≤ n) where
  -- a set has a mass if it has one of the two
  some_mass : (s : VertexSet) → nat_le 1 (mass masses s) ≡ (s u || s v)
  some_mass s = elim (cases_Bool (s u)) [
    | inl held ↦
        let one : mass_of masses u ≡ 1 = are.ones u u_from u_to ∙ ap (λ b. if b || (u == v) then 1 else 0) (eq-eqb u u refl) in
        le-leb 1 (mass masses s) (omega (arith, one, own_mass masses s u u_from (omega (arith, u_to, are.many)) held)) ∙ sym (ap (λ b. b || s v) held)
    | inr lacks ↦ elim (cases_Bool (s v)) [
      | inl held ↦
          let one : mass_of masses v ≡ 1 = are.ones v v_from v_to ∙ ap (λ b. if (v == u) || b then 1 else 0) (eq-eqb v v refl) ∙ ap (λ b. if b then 1 else 0) (or-true (v == u)) in
          le-leb 1 (mass masses s) (omega (arith, one, own_mass masses s v v_from (omega (arith, v_to, are.many)) held)) ∙ sym (ap (λ b. b || s v) lacks ∙ held)
      | inr out ↦
          let none : mass masses s ≡ 0 = no_mass masses s (λ w l h there. are.ones w l (omega (arith, h, are.many))
          ∙ ap (λ b. if b || (w == v) then 1 else 0) (ne_eqb w u (λ e. true≢false (sym there ∙ ap s e ∙ lacks)))
          ∙ ap (λ b. if b then 1 else 0) (ne_eqb w v (λ e. true≢false (sym there ∙ ap s e ∙ out)))) in
          lt-leb 1 (mass masses s) (omega (arith, none)) ∙ sym (ap (λ b. b || s v) lacks ∙ out)
    ]
  ]

  -- a balance of 1 or more parts the two
  pub balanced_parts : (side : List ℕ) → is_balanced masses 1 side ≡ parts (has side) u v
  balanced_parts side =
      both (mass masses (has side)) (mass masses (complement (has side)))
      ∙ ap (λ b. b && nat_le 1 (mass masses (complement (has side)))) (some_mass (has side))
      ∙ ap (λ b. (has side u || has side v) && b) (some_mass (complement (has side)))
      ∙ one_of (has side u) (has side v)
    where
      both : (a b : ℕ) → nat_le 1 (min a b) ≡ (nat_le 1 a && nat_le 1 b)
      both zero b = lt-leb 1 (min zero b) (omega arith) ∙ sym (ap (λ t. t && nat_le 1 b) (lt-leb 1 zero (omega arith)))
      both (suc a) zero = lt-leb 1 (min (suc a) zero) (omega arith) ∙ sym (ap (λ t. t && nat_le 1 zero) (le-leb 1 (suc a) (omega arith)) ∙ lt-leb 1 zero (omega arith))
      both (suc a) (suc b) = le-leb 1 (min (suc a) (suc b)) (omega arith) ∙ sym (ap (λ t. t && nat_le 1 (suc b)) (le-leb 1 (suc a) (omega arith)) ∙ le-leb 1 (suc b) (omega arith))

      one_of : (a b : Bool) → ((a || b) && (not a || not b)) ≡ (if a then not b else b)
      one_of true true = refl
      one_of true false = refl
      one_of false true = refl
      one_of false false = refl

-- ---- vertices of 1 to n
within_if : (v n : ℕ) (b : Bool) → (nat_le 1 v && nat_le v n) ≡ b → 1 ≤ n → (1 ≤ (if b then v else 1)) × ((if b then v else 1) ≤ n)
within_if v n true e some = let p = and_parts (nat_le 1 v) (nat_le v n) e in (leb-true 1 v p.0, leb-true v n p.1)
within_if v n false e some = (omega arith, some)

pub vertex_within : (n v : ℕ) → 1 ≤ n → (1 ≤ vertex_or_one n v) × (vertex_or_one n v ≤ n)
vertex_within n v some = within_if v n (nat_le 1 v && nat_le v n) refl some

-- ---- vertex 1 is in no side
none_counted : (v : ℕ) (ls : List (List ℕ)) → length (filter (λ l. has l v) ls) ≡ 0 → has (concat ls) v ≡ false
none_counted v [] e = refl
none_counted v (l ∷ ls) e = elim (cases_Bool (has l v)) [
  | inl held ↦ absurd (omega (arith, sym (more held) ∙ e))
  | inr lacks ↦ has_append_at l (concat ls) v ∙ ap (λ b. b || has (concat ls) v) lacks ∙ none_counted v ls (sym (same lacks) ∙ e)
]
  where
    more : has l v ≡ true → length (filter (λ l. has l v) (l ∷ ls)) ≡ suc (length (filter (λ l. has l v) ls))
    more held = rw held refl

    same : has l v ≡ false → length (filter (λ l. has l v) (l ∷ ls)) ≡ length (filter (λ l. has l v) ls)
    same lacks = rw lacks refl

-- the vertices of the nodes below a node
abbrev under : Node → List (List ℕ)
under x = flat_map entered_block (blocks x)

-- a cut lacks what all nodes below the root lack
cut_lacks : (x : Node) (s : VertexSet) (v : ℕ) → Contains (cuts x) s → has (concat (under x)) v ≡ false → s v ≡ false
cut_lacks x s v m lacks =
    let bare : Node = roll-Node record { vertices = []; blocks = (out-Node x).blocks } in
    let same : cuts x ≡ cuts bare = ap (λ (p : Part). p.cuts) (part_out x) ∙ ap (λ (p : Part). p.cuts) (sym (part_out bare)) in
    let g : IsSegment (entered bare) s = cut_is_segment bare s (subst (λ l. Contains l s) same m) in
    let whole : has (concat (g.before ++ (g.inside ++ g.behind))) v ≡ false = ap (λ ls. has (concat ls) v) (sym g.whole ∙ entered_out bare) ∙ lacks in
    let apart : (has (concat g.before) v || (has (concat g.inside) v || has (concat g.behind) v)) ≡ false =
    sym (ap (λ (t : VertexSet). t v) (has_both g.before (g.inside ++ g.behind)) ∙ ap (λ (t : VertexSet). has (concat g.before) v || t v) (has_both g.inside g.behind)) ∙ whole in
    ap (λ (t : VertexSet). t v) g.set ∙ middle (has (concat g.before) v) (has (concat g.inside) v) (has (concat g.behind) v) apart
  where
    middle : (a b c : Bool) → (a || (b || c)) ≡ false → b ≡ false
    middle a b c h = grind arith

module _ (c : Rooted) (is : IsCactus c.vertices c.root) where
  some : 1 ≤ c.vertices
  some = has_a_vertex c.vertices c.root is

  cut_lacks_one : (s : VertexSet) → Contains (cuts c.root) s → s 1 ≡ false
  cut_lacks_one s m =
      let own = vertices c.root in
      let rest = under c.root in
      let count : length (filter (λ l. has l 1) (own ∷ rest)) ≡ 1 = ap (λ ls. length (filter (λ l. has l 1) ls)) (sym (entered_out c.root)) ∙ is.in_one_node 1 (omega arith) some in
      let split : length (filter (λ l. has l 1) (own ∷ rest)) ≡ suc (length (filter (λ l. has l 1) rest)) = first own rest (contains_has own 1 is.root_has_one) in
      cut_lacks c.root s 1 m (none_counted 1 rest (omega (arith, count, split)))
    where
      first : (l : List ℕ) (ls : List (List ℕ)) → has l 1 ≡ true → length (filter (λ l. has l 1) (l ∷ ls)) ≡ suc (length (filter (λ l. has l 1) ls))
      first l ls held = rw held refl

  side_lacks_one : (side : List ℕ) → Contains (sides_of c) side → has side 1 ≡ false
  side_lacks_one side there =
      let d = Contains-from_map (λ (s : VertexSet). filter s (range_with_len 1 c.vertices)) (cuts c.root) side there in
      ap (λ l. has l 1) (sym d.2) ∙ has_within c.vertices 1 1 d.0 (omega arith) (omega (arith, some)) ∙ cut_lacks_one d.0 d.1

  -- a number that is no vertex is in no side, as vertex 1
  same_vertex : (v : ℕ) (side : List ℕ) → Contains (sides_of c) side → has side (vertex_or_one c.vertices v) ≡ has side v
  same_vertex v side there =
      let n = c.vertices in
      let up = All-contains (IsAscendingWithin 1 n) (sides_of c) side (sides_ascend c) there in
      elim (cases_Bool (nat_le 1 v && nat_le v n)) [
        | inl in_range ↦ ap (λ (b : Bool). has side (if b then v else 1)) in_range
        | inr out ↦ ap (λ (b : Bool). has side (if b then v else 1)) out ∙ side_lacks_one side there ∙ sym (absent v up out)
      ]
    where
      absent : (v : ℕ) → IsAscendingWithin 1 c.vertices side → (nat_le 1 v && nat_le v c.vertices) ≡ false → has side v ≡ false
      absent zero up out = has_low 1 c.vertices 0 side up (omega arith)
      absent (suc v) up out = elim (cases_Bool (has side (suc v))) [
        | inl held ↦
            let low = le-leb 1 (suc v) (omega arith) in
            let high = le-leb (suc v) c.vertices (ascends_to 1 c.vertices (suc v) side up held) in
            absurd (true≢false (sym (ap (λ b. b && nat_le (suc v) c.vertices) low ∙ high) ∙ out))
        | inr lacks ↦ lacks
      ]

  abbrev parting : ℕ → ℕ → List ℕ → Bool
  parting u v side = parts (has side) u v

  -- the sides of a balance of 1 or more are those that part the two
  pub parted : (u v : ℕ) (masses : List ℕ) → ArePairMasses c.vertices (vertex_or_one c.vertices u) (vertex_or_one c.vertices v) masses →
      different (filter (is_balanced masses 1) (sides_of c)) ≡ different (filter (λ side. parts (has side) u v) (sides_of c))
  parted u v masses are =
      let n = c.vertices in
      let sides = sides_of c in
      let first = vertex_within n u some in
      let second = vertex_within n v some in
      let same : (side : List ℕ) → Contains sides side → is_balanced masses 1 side ≡ parting u v side = λ side there.
      balanced_parts n (vertex_or_one n u) (vertex_or_one n v) masses are first.0 first.1 second.0 second.1 side
      ∙ ap (λ b. if b then not (has side (vertex_or_one n v)) else has side (vertex_or_one n v)) (same_vertex u side there)
      ∙ ap (λ b. if has side u then not b else b) (same_vertex v side there) in
      same_different (filter (is_balanced masses 1) sides) (filter (parting u v) sides)
      (λ s h. let d = Contains-from_filter (is_balanced masses 1) sides s h in Contains-filter (parting u v) sides s d.0 (sym (same s d.0) ∙ d.1))
      (λ s h. let d = Contains-from_filter (parting u v) sides s h in Contains-filter (is_balanced masses 1) sides s d.0 (same s d.0 ∙ d.1))
