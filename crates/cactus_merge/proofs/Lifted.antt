-- The cuts of a part's cactus, renamed, are its lifted sides.
use Rattle.std.proofs.Common.{◌≡◌, ℕ, Bool, false, ◌+◌, ◌-◌, ◌≤◌, ◌<◌, ◌==◌, ◌&&◌, ◌||◌, zero, suc, List, [], ◌∷◌, length, map, get_or, refl, sym, ◌∙◌, ap, arith, ⊎_elim}
use Rattle.std.specs.Prelude.{nat_le, not, if◌then◌else◌}
use Rattle.std.specs.List.{Contains, list_any, range_with_len}
use Rattle.std.proofs.Common.{ne_eqb}
use Rattle.std.proofs.lemmas.Bool.{cases_eq, cases_lt, and_left, lt-leb}
use Rattle.cut_definitions.specs.Weight.{VertexSet}
use Rattle.cut_definitions.specs.Cuts.{has}
use Rattle.cut_definitions.proofs.Lists.{Contains-here, Contains-there}
use Rattle.rooted_cactus.specs.Sides.{cuts}
use Rattle.rooted_cactus.specs.Entered.{name_of}
use Rattle.rooted_cactus.specs.Rooted.{IsCactus, sides_of}
use Rattle.rooted_cactus.specs.declared.tree.Node.{Node}
use Rattle.cactus_merge.specs.Assembled.{set_list, stands_for, lifted_side, names_by}
use Rattle.cactus_merge.proofs.Images.{image, any_same, any_filter}
use Rattle.cactus_merge.proofs.Numbered.{same_list}
use Rattle.cactus_merge.proofs.Within.{cut_lacks_zero, cut_lacks_one, cut_lacks_high}

other_default : (xs : List ℕ) (i d e : ℕ) → i < length xs → get_or xs i d ≡ get_or xs i e
other_default [] i d e h = absurd (omega (arith, h))
other_default (x ∷ xs) zero d e h = refl
other_default (x ∷ xs) (suc i) d e h = other_default xs i d e (omega (arith, h))

-- a vertex from 2 on is renamed to that of the list
pub name_at : (own : List ℕ) (u : ℕ) → 2 ≤ u → u < length own + 2 → name_of (names_by own) u ≡ get_or own (u - 2) 0
name_at own u l h =
    let e : u ≡ suc (suc (u - 2)) = omega (arith, l) in
    ap (λ (k : ℕ). get_or (0 ∷ 1 ∷ own) k u) e ∙ other_default own (u - 2) u 0 (omega (arith, l, h))

three_ways : (a b c d e : Bool) → a ≡ false → d ≡ false → (((a && b) || c) || (e && d)) ≡ c
three_ways a b c d e h k = grind arith

high_none : (m v : ℕ) (b : Bool) → (m ≤ v → b ≡ false) → (nat_le m v && b) ≡ (nat_le m v && false)
high_none m v b h = ⊎_elim
    (λ lt. ap (λ (a : Bool). a && b) (lt-leb m v lt) ∙ sym (ap (λ (a : Bool). a && false) (lt-leb m v lt)))
    (λ ge. ap (λ (a : Bool). nat_le m v && a) (h ge))
    (cases_lt v m)

module _ (n : ℕ) (own : List ℕ) (k : ℕ) (root : Node) (is : IsCactus k root) (more : k ≡ length own + 1) where
  one_stands : (s : VertexSet) (v u : ℕ) → Contains (cuts root) s → 1 ≤ u → u < 1 + k → (s u && (name_of (names_by own) u == v)) ≡ (s u && stands_for own u v)
  one_stands s v u m l h = ⊎_elim
      (λ e.
      let no : s u ≡ false = ap s e ∙ cut_lacks_one k root is (omega (arith, more)) s m in
      and_left (s u) _ no ∙ sym (and_left (s u) (stands_for own u v) no))
      (λ ne.
      ap (λ (w : ℕ). s u && (w == v)) (name_at own u (omega (arith, l, ne)) (omega (arith, h, more)))
      ∙ sym (ap (λ (b : Bool). s u && (if b then not (has own v) else get_or own (u - 2) 0 == v)) (ne_eqb u 1 ne)))
      (cases_eq u 1)

  one_side : (s : VertexSet) → Contains (cuts root) s → set_list n (image (names_by own) s) ≡ lifted_side n own (set_list k s)
  one_side s m =
      same_list n _ _ (λ v l b.
      let range : range_with_len 0 (length (names_by own)) ≡ 0 ∷ range_with_len 1 k = ap (λ (j : ℕ). range_with_len 0 (suc j)) (sym more') in
      ap (λ r. list_any (λ u. s u && (name_of (names_by own) u == v)) r || (nat_le (length (names_by own)) v && s v)) range
      ∙ ap (λ (a : Bool). list_any (λ u. s u && (name_of (names_by own) u == v)) (0 ∷ range_with_len 1 k) || a) (high_none (length (names_by own)) v (s v) (λ h. cut_lacks_high k root is (omega (arith, more)) s v m (omega (arith, h, more))))
      ∙ three_ways (s 0) _ _ false (nat_le (length (names_by own)) v) (cut_lacks_zero k root is (omega (arith, more)) s m) refl
      ∙ any_same _ _ 1 k (λ u p q. one_stands s v u m p q)
      ∙ sym (any_filter s (λ u. stands_for own u v) (range_with_len 1 k)))
    where
      more' : k ≡ suc (length own)
      more' = omega (arith, more)

  each_side : (ss : List VertexSet) → ((s : VertexSet) → Contains ss s → Contains (cuts root) s) → map (set_list n) (map (image (names_by own)) ss) ≡ map (lifted_side n own) (map (set_list k) ss)
  each_side [] h = refl
  each_side (s ∷ ss) h =
      ap (λ l. l ∷ map (set_list n) (map (image (names_by own)) ss)) (one_side s (h s (Contains-here s ss)))
      ∙ ap (λ l. lifted_side n own (set_list k s) ∷ l) (each_side ss (λ t m. h t (Contains-there s ss t m)))

  pub lifted_sides : (x : Node) → cuts x ≡ map (image (names_by own)) (cuts root) → map (set_list n) (cuts x) ≡ map (lifted_side n own) (sides_of (record { vertices = k; root = root }))
  lifted_sides x e = ap (map (set_list n)) e ∙ each_side (cuts root) (λ s m. m)
