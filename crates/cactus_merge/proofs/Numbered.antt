-- Parts of a tree that have the vertices of the parts of a chain, from one number on.
use Rattle.std.proofs.Common.{◌≡◌, ℕ, Bool, false, ◌+◌, ◌-◌, ◌≤◌, ◌<◌, ◌==◌, ◌&&◌, ◌||◌, suc, List, [], ◌∷◌, ◌++◌, length, map, get_or, refl, sym, ◌∙◌, ap, subst, arith}
use Rattle.std.specs.Prelude.{nat_le}
use Rattle.std.specs.List.{flat_map, range_with_len}
use Rattle.std.proofs.lemmas.Bool.Decides.{nat_tests}
use Rattle.std.proofs.lemmas.List.{map-append}
use Rattle.cut_definitions.specs.Weight.{VertexSet, either}
use Rattle.cut_definitions.specs.Chain.{SameOn, one_part, parts_between}
use Rattle.cut_definitions.proofs.Bridge.{has_within, IsAscendingWithin-filter, same_ascending}
use Rattle.rooted_cactus.specs.Sides.{Part, all_of, belows, from_here, intervals}
use Rattle.cactus_merge.specs.Joined.{tails}
use Rattle.cactus_merge.specs.Assembled.{set_list}

pub same_list : (n : ℕ) (s t : VertexSet) → SameOn n s t → set_list n s ≡ set_list n t
same_list n s t e =
    same_ascending 1 n _ _ (IsAscendingWithin-filter n 1 n s (omega arith)) (IsAscendingWithin-filter n 1 n t (omega arith))
    (λ v l h. has_within n 1 v s l (omega (arith, h)) ∙ e v l h ∙ sym (has_within n 1 v t l (omega (arith, h))))

no_number : (k last a : ℕ) → k ≡ last + 1 → false ≡ (nat_le k a && nat_le a last)
no_number k last a h = grind (arith, nat_tests)

one_more : (k last a : ℕ) → k ≤ last → ((a == k) || (nat_le (k + 1) a && nat_le a last)) ≡ (nat_le k a && nat_le a last)
one_more k last a h = grind (arith, nat_tests)

one_behind : (k j a : ℕ) → k ≤ j → ((nat_le k a && nat_le a j) || (a == j + 1)) ≡ (nat_le k a && nat_le a (j + 1))
one_behind k j a h = grind (arith, nat_tests)

alone : (k a : ℕ) → (a == k) ≡ (nat_le k a && nat_le a k)
alone k a = grind (arith, nat_tests)

module _ (n : ℕ) (at : ℕ → ℕ) where
  abbrev pub AreNumbered : ℕ → List Part → Type 0
  AreNumbered k ps = (i : ℕ) (p : Part) → i < length ps → SameOn n (get_or ps i p).below (one_part at (k + i))

  pub first_numbered : (k : ℕ) (p : Part) (ps : List Part) → AreNumbered k (p ∷ ps) → SameOn n p.below (one_part at k)
  first_numbered k p ps h =
      let e : k + 0 ≡ k = omega arith in
      subst (λ (m : ℕ). SameOn n p.below (one_part at m)) e (h 0 p (omega arith))

  pub rest_numbered : (k : ℕ) (p : Part) (ps : List Part) → AreNumbered k (p ∷ ps) → AreNumbered (k + 1) ps
  rest_numbered k p ps h = λ i q b.
      let e : k + suc i ≡ (k + 1) + i = omega arith in
      subst (λ (m : ℕ). SameOn n (get_or ps i q).below (one_part at m)) e (h (suc i) q (omega (arith, b)))

  abbrev pub side : ℕ → ℕ → List ℕ
  side a b = set_list n (parts_between at a b)

  pub all_between : (k last : ℕ) (ps : List Part) → AreNumbered k ps → k + length ps ≡ last + 1 → SameOn n (all_of (belows ps)) (parts_between at k last)
  all_between k last [] h e = λ v l b. no_number k last (at v) (omega (arith, e))
  all_between k last (p ∷ ps) h e = λ v l b.
      ap (λ (x : Bool). x || all_of (belows ps) v) (first_numbered k p ps h v l b)
      ∙ ap (λ (x : Bool). (at v == k) || x) (all_between (k + 1) last ps (rest_numbered k p ps h) (omega (arith, e)) v l b)
      ∙ one_more k last (at v) (omega (arith, e))

  pub tails_sides : (k last : ℕ) (ps : List Part) → AreNumbered k ps → k + length ps ≡ last + 1 → map (set_list n) (tails ps) ≡ map (λ a. side a last) (range_with_len k (length ps))
  tails_sides k last [] h e = refl
  tails_sides k last (p ∷ ps) h e =
      ap (λ l. l ∷ map (set_list n) (tails ps)) (same_list n _ _ (all_between k last (p ∷ ps) h e))
      ∙ ap (λ l. side k last ∷ l) (tails_sides (k + 1) last ps (rest_numbered k p ps h) (omega (arith, e)))

  from_here_sides : (s : VertexSet) (k j : ℕ) (ps : List Part) → k ≤ j → SameOn n s (parts_between at k j) → AreNumbered (j + 1) ps → map (set_list n) (from_here s (belows ps)) ≡ map (λ b. side k b) (range_with_len j (suc (length ps)))
  from_here_sides s k j [] o e h = ap (λ l. l ∷ []) (same_list n _ _ e)
  from_here_sides s k j (p ∷ ps) o e h =
      let longer : SameOn n (either s p.below) (parts_between at k (j + 1)) = λ v l b.
      ap (λ (x : Bool). x || p.below v) (e v l b) ∙ ap (λ (x : Bool). parts_between at k j v || x) (first_numbered (j + 1) p ps h v l b) ∙ one_behind k j (at v) o in
      ap (λ l. l ∷ map (set_list n) (from_here (either s p.below) (belows ps))) (same_list n _ _ e)
      ∙ ap (λ l. side k j ∷ l) (from_here_sides (either s p.below) k (j + 1) ps (omega (arith, o)) longer (rest_numbered (j + 1) p ps h))

  pub interval_list : (k stop : ℕ) (ps : List Part) → AreNumbered k ps → k + length ps ≡ stop → map (set_list n) (intervals (belows ps)) ≡ flat_map (λ a. map (λ b. side a b) (range_with_len a (stop - a))) (range_with_len k (length ps))
  interval_list k stop [] h e = refl
  interval_list k stop (p ∷ ps) h e =
      let here : SameOn n p.below (parts_between at k k) = λ v l b. first_numbered k p ps h v l b ∙ alone k (at v) in
      let m : suc (length ps) ≡ stop - k = omega (arith, e) in
      map-append (set_list n) (from_here p.below (belows ps)) (intervals (belows ps))
      ∙ ap (λ l. l ++ map (set_list n) (intervals (belows ps))) (from_here_sides p.below k k ps (omega arith) here (rest_numbered k p ps h) ∙ ap (λ (q : ℕ). map (λ b. side k b) (range_with_len k q)) m)
      ∙ ap (λ l. map (λ b. side k b) (range_with_len k (stop - k)) ++ l) (interval_list (k + 1) stop ps (rest_numbered k p ps h) (omega (arith, e)))
