-- The classes 1, 1 and 2 are those of three vertices.
use Rattle.std.proofs.Common.{◌≡◌, ◌≤◌, ℕ, [], ◌∷◌, refl, sym, subst, arith, ⊎_elim, ◌∙◌}
use Rattle.std.specs.List.{Contains}
use Rattle.std.proofs.lemmas.Bool.{cases_eq}
use Rattle.std.proofs.lemmas.List.Elements.{All-cons, All-nil}
use Rattle.rooted_cactus.specs.Spread.{AreClasses}
use Rattle.tree_tests.proofs.cactuses.spread_out.Goals as goal

abbrev IsClass : ℕ → Type 0
IsClass c = (1 ≤ c) × (c ≤ 2)

used : (c : ℕ) → 1 ≤ c → c ≤ 2 → Contains (1 ∷ 1 ∷ 2 ∷ []) c
used c l h =
    ⊎_elim
    (λ e. subst (Contains (1 ∷ 1 ∷ 2 ∷ [])) (sym e) (0, omega arith, refl))
    (λ ne. let two : 2 ≡ c = omega arith in subst (Contains (1 ∷ 1 ∷ 2 ∷ [])) two (2, omega arith, refl))
    (cases_eq c 1)

are : AreClasses 3 2 (1 ∷ 1 ∷ 2 ∷ [])
are = record {
  each_has_one = refl;
  in_range = All-cons IsClass 1 (1 ∷ 2 ∷ []) (omega arith, omega arith) (All-cons IsClass 1 (2 ∷ []) (omega arith, omega arith) (All-cons IsClass 2 [] (omega arith, omega arith) (All-nil IsClass)));
  used = used;
  first = refl;
}

pub spread-requires : goal.spread-requires
spread-requires c = subst (λ (k : ℕ). AreClasses 3 k (1 ∷ 1 ∷ 2 ∷ [])) (sym c.if-n-ne2.false ∙ c.n.ensures.value) are
