-- The vertices at the top of the node of a part: the first part has vertex 1 there, the last the other end of the chain.
use Rattle.std.proofs.Common.{◌≡◌, ℕ, Bool, true, false, ◌-◌, ◌≤◌, ◌<◌, ◌==◌, ◌&&◌, ◌||◌, [], ◌∷◌, length, drop, refl, sym, ◌∙◌, ap, subst, arith, ⊎_elim, ne_eqb}
use Rattle.std.specs.Prelude.{not}
use Rattle.std.proofs.lemmas.Bool.{cases_eq, eq-eqb}
use Rattle.cut_definitions.specs.Cuts.{has, IsAscendingWithin}
use Rattle.cut_definitions.proofs.Bools.{never_both}
use Rattle.cut_definitions.proofs.Ascending.{has_one}
use Rattle.residual_chain.specs.Chain.{ChainView, IsChainShape}
use Rattle.arc_search.specs.Marks.{mark_of}
use Rattle.rooted_cactus.specs.Entered.{name_of, renamed}
use Rattle.rooted_cactus.specs.Trees.{vertices}
use Rattle.rooted_cactus.specs.declared.tree.Node.{Node}
use Rattle.cactus_merge.specs.declared.part.PartCactus.{PartCactus}
use Rattle.cactus_merge.specs.Assembled.{IsPartOf, names_by, inserted}
use Rattle.cactus_merge.proofs.Lifted.{name_at}
use Rattle.cactus_merge.proofs.Names.{from_two, ascends_at, has_inserted, inserted_ascends}
use Rattle.cactus_merge.proofs.NodeOf.{IsRenamed, IsTop, top_of, renamed_vertices, root_list, top_ascends, top_lacks}

both_true : (a b o : Bool) → a ≡ true → b ≡ true → a ≡ ((b || false) || o)
both_true a b o h k = grind arith

both_false : (a b o x : Bool) → a ≡ false → b ≡ false → o ≡ (a && x) → a ≡ ((b || false) || o)
both_false a b o x h k e = grind arith

left_alone : (a b o x y : Bool) → b ≡ false → x ≡ false → y ≡ false → o ≡ (a && not (x || y)) → a ≡ ((b || false) || o)
left_alone a b o x y h p q e = grind arith

none_false : (a o x : Bool) → a ≡ false → o ≡ (a && x) → a ≡ o
none_false a o x h e = grind arith

none_alone : (a o x y : Bool) → x ≡ false → y ≡ false → o ≡ (a && not (x || y)) → a ≡ o
none_alone a o x y p q e = grind arith

no_end : (a o x y : Bool) → x ≡ true → o ≡ (a && not (x || y)) → o ≡ false
no_end a o x y p e = grind arith

no_end_right : (a o x y : Bool) → y ≡ true → o ≡ (a && not (x || y)) → o ≡ false
no_end_right a o x y p e = grind arith

regroup : (a b : Bool) → (a || b) ≡ ((a || false) || b)
regroup a b = grind arith

module _ (c : ChainView) (shape : IsChainShape c) (source : c.s ≡ 1) (p : PartCactus) (y : Node) (r : IsRenamed p y) where
  own_lacks_s : (number : ℕ) → IsPartOf c number p → has p.own c.s ≡ false
  own_lacks_s number part = no_end (mark_of c.numbers c.s == number) _ _ _ (eq-eqb c.s c.s refl) (part.exact c.s shape.numbered.s_from_one shape.numbered.s_to_n)

  own_lacks_t : (number : ℕ) → IsPartOf c number p → has p.own c.t ≡ false
  own_lacks_t number part = no_end_right (mark_of c.numbers c.t == number) _ (c.t == c.s) _ (eq-eqb c.t c.t refl) (part.exact c.t shape.numbered.t_from_one shape.numbered.t_to_n)

  at_s : (v : ℕ) → v ≡ c.s → mark_of c.numbers v ≡ 1
  at_s v e = ap (mark_of c.numbers) e ∙ shape.numbered.s_first

  at_t : (v : ℕ) → v ≡ c.t → mark_of c.numbers v ≡ c.parts
  at_t v e = ap (mark_of c.numbers) e ∙ shape.numbered.t_last

  exact_first : (part : IsPartOf c 1 p) (v : ℕ) → 1 ≤ v → v ≤ length c.numbers → (mark_of c.numbers v == 1) ≡ (has (1 ∷ []) v || has p.own v)
  exact_first part v l h = ⊎_elim
      (λ e. both_true _ _ _ (eq-eqb (mark_of c.numbers v) 1 (at_s v e)) (eq-eqb 1 v (sym source ∙ sym e)))
      (λ ne. ⊎_elim
      (λ e. both_false _ _ _ _ (ne_eqb (mark_of c.numbers v) 1 (λ q. omega (arith, q, at_t v e, shape.numbered.two))) (ne_eqb 1 v (λ q. ne (sym q ∙ sym source))) (part.exact v l h))
      (λ ne'. left_alone _ _ _ _ _ (ne_eqb 1 v (λ q. ne (sym q ∙ sym source))) (ne_eqb v c.s ne) (ne_eqb v c.t ne') (part.exact v l h))
      (cases_eq v c.t))
      (cases_eq v c.s)

  exact_middle : (number : ℕ) (part : IsPartOf c number p) → 1 < number → number < c.parts → (v : ℕ) → 1 ≤ v → v ≤ length c.numbers → (mark_of c.numbers v == number) ≡ has p.own v
  exact_middle number part low high v l h = ⊎_elim
      (λ e. none_false _ _ _ (ne_eqb (mark_of c.numbers v) number (λ q. omega (arith, q, at_s v e, low))) (part.exact v l h))
      (λ ne. ⊎_elim
      (λ e. none_false _ _ _ (ne_eqb (mark_of c.numbers v) number (λ q. omega (arith, q, at_t v e, high))) (part.exact v l h))
      (λ ne'. none_alone _ _ _ _ (ne_eqb v c.s ne) (ne_eqb v c.t ne') (part.exact v l h))
      (cases_eq v c.t))
      (cases_eq v c.s)

  exact_last : (number : ℕ) (part : IsPartOf c number p) → number ≡ c.parts → (v : ℕ) → 1 ≤ v → v ≤ length c.numbers → (mark_of c.numbers v == number) ≡ (has (c.t ∷ []) v || has p.own v)
  exact_last number part last v l h = ⊎_elim
      (λ e. both_true _ _ _ (eq-eqb (mark_of c.numbers v) number (at_t v e ∙ sym last)) (eq-eqb c.t v (sym e)))
      (λ ne. ⊎_elim
      (λ e. both_false _ _ _ _ (ne_eqb (mark_of c.numbers v) number (λ q. omega (arith, q, at_s v e, last, shape.numbered.two))) (ne_eqb c.t v (λ q. ne (sym q))) (part.exact v l h))
      (λ ne'. left_alone _ _ _ _ _ (ne_eqb c.t v (λ q. ne (sym q))) (ne_eqb v c.s ne') (ne_eqb v c.t ne) (part.exact v l h))
      (cases_eq v c.s))
      (cases_eq v c.t)

  pub top_first : (number : ℕ) → number ≡ 1 → IsPartOf c number p → IsTop c number p (1 ∷ []) (vertices y)
  top_first number e part' =
      let part : IsPartOf c 1 p = subst (λ (k : ℕ). IsPartOf c k p) e part' in
      let lacks : has p.own 1 ≡ false = ap (has p.own) (sym source) ∙ own_lacks_s 1 part in
      let two : IsAscendingWithin 2 (length c.numbers) p.own = from_two (length c.numbers) p.own part.ascending lacks in
      let list : vertices y ≡ 1 ∷ top_of p = renamed_vertices p y r ∙ ap (renamed (names_by p.own)) (root_list c 1 p y part r).0 in
      let one : 1 ≤ length c.numbers = omega (arith, shape.numbered.s_to_n, shape.numbered.s_from_one) in
      let rest : IsAscendingWithin 2 (length c.numbers) (top_of p) = top_ascends c 1 p y part r 2 (λ u l h. (let at = ascends_at 2 (length c.numbers) p.own (u - 2) two (omega (arith, part.one_more, l, h)) in omega (arith, at.0, name_at p.own u l (omega (arith, part.one_more, h))))) in
      let top : IsTop c 1 p (1 ∷ []) (vertices y) = record {
        members = λ v. ap (λ l. has l v) list ∙ regroup (1 == v) (has (top_of p) v);
        ascends = subst (IsAscendingWithin 1 (length c.numbers)) (sym list) (omega arith, one, rest);
        apart = λ v h. ap (has p.own) (sym (has_one 1 v h)) ∙ lacks;
        exact = exact_first part;
        first = λ q. ap (λ l. has l 1) list;
      } in
      subst (λ (k : ℕ). IsTop c k p (1 ∷ []) (vertices y)) (sym e) top

  pub rest_is : (number : ℕ) → IsPartOf c number p → drop 1 (vertices y) ≡ top_of p
  rest_is number part = ap (drop 1) (renamed_vertices p y r ∙ ap (renamed (names_by p.own)) (root_list c number p y part r).0)

  one_named : (number : ℕ) (part : IsPartOf c number p) (u : ℕ) → 2 ≤ u → u ≤ p.cactus.vertices → 1 ≤ name_of (names_by p.own) u
  one_named number part u l h = (let at = ascends_at 1 (length c.numbers) p.own (u - 2) part.ascending (omega (arith, part.one_more, l, h)) in omega (arith, at.0, name_at p.own u l (omega (arith, part.one_more, h))))

  pub top_middle : (number : ℕ) (part : IsPartOf c number p) → 1 < number → number < c.parts → IsTop c number p [] (top_of p)
  top_middle number part low high = record {
    members = λ v. refl;
    ascends = top_ascends c number p y part r 1 (one_named number part);
    apart = λ v h. absurd (never_both false h refl);
    exact = exact_middle number part low high;
    first = λ q. absurd (omega (arith, q, low));
  }

  pub top_last : (number : ℕ) (part : IsPartOf c number p) → number ≡ c.parts → IsTop c number p (c.t ∷ []) (inserted c.t (top_of p))
  top_last number part last = record {
    members = λ v. has_inserted c.t (top_of p) v ∙ regroup (c.t == v) (has (top_of p) v);
    ascends = inserted_ascends 1 (length c.numbers) c.t (top_of p) (top_ascends c number p y part r 1 (one_named number part)) shape.numbered.t_from_one shape.numbered.t_to_n (top_lacks c number p y part r c.t (own_lacks_t number part));
    apart = λ v h. ap (has p.own) (sym (has_one c.t v h)) ∙ own_lacks_t number part;
    exact = exact_last number part last;
    first = λ q. absurd (omega (arith, q, last, shape.numbered.two));
  }
