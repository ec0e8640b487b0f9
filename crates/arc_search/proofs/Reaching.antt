-- What searches show of closed sets.
use Rattle.std.proofs.Common.{◌≡◌, ℕ, zero, suc, ◌-◌, ◌<◌, ◌≤◌, ⊎_elim, Bool, true, eqb, List, get_or, ◌∙◌, subst, ap, arith}
use Rattle.std.proofs.lemmas.Bool.{eqb-true}
use Rattle.cut_definitions.specs.Weight.{VertexSet}
use Rattle.arc_search.specs.Closed.{IsClosed}
use Rattle.arc_search.specs.Found.{SearchState, Leads, IsFoundFrom, IsSearch}
use Rattle.arc_search.specs.SearchLaws.{LawOfNothing, LawOfFound, LawOfWay}
use Rattle.arc_search.proofs.Finding.{nothing as nothing_found}
use Rattle.arc_search.proofs.Climbing.{all_the_way}

pub nothing : LawOfNothing
nothing n goes halts turns starts s h = nothing_found n goes halts turns starts s h

-- ---- what was found

found_upto : (n : ℕ) (goes : ℕ → ℕ → Bool) (halts : ℕ → Bool) (turns : List ℕ) (starts : VertexSet) (s : SearchState) → IsSearch n goes halts turns starts s →
    (x : VertexSet) → IsClosed goes x → ((v : ℕ) → starts v ≡ true → x v ≡ true) → (b j : ℕ) → j ≤ b → j < s.count → x (get_or s.order j 0) ≡ true
found_upto n goes halts turns starts s h x closed begins zero j le l = ⊎_elim
    (λ (k : starts (get_or s.order j 0) ≡ true). begins (get_or s.order j 0) k)
    (λ p. absurd (omega (arith, p.earlier, le)))
    (h.led j l)
found_upto n goes halts turns starts s h x closed begins (suc b) j le l = ⊎_elim
    (λ (k : starts (get_or s.order j 0) ≡ true). begins (get_or s.order j 0) k)
    (λ p. p.leads x closed (found_upto n goes halts turns starts s h x closed begins b (get_or s.parents j 0) (omega (arith, p.earlier, le)) (omega (arith, p.earlier, l))))
    (h.led j l)

pub found : LawOfFound
found n goes halts turns starts s h x closed begins v is =
    let p = h.stands v is in
    subst (λ (k : ℕ). x k ≡ true) p.there (found_upto n goes halts turns starts s h x closed begins p.place p.place (omega arith) p.below)

-- ---- the end

-- ---- the way

-- each place but the first was found from an earlier one, where the only start is the first vertex
found_from : (n : ℕ) (goes : ℕ → ℕ → Bool) (halts : ℕ → Bool) (turns : List ℕ) (s : SearchState) → IsSearch n goes halts turns (λ v. eqb v (get_or s.order 0 0)) s →
    (j : ℕ) → 1 ≤ j → j < s.count → IsFoundFrom goes s.order s.parents j
found_from n goes halts turns s h j one l = ⊎_elim
    (λ (k : eqb (get_or s.order j 0) (get_or s.order 0 0) ≡ true).
    let e = h.distinct j 0 l (omega (arith, l)) (eqb-true (get_or s.order j 0) (get_or s.order 0 0) k) in absurd (omega (arith, e, one)))
    (λ p. p)
    (h.led j l)

pub way : LawOfWay
way n goes halts turns s h some =
    let from = found_from n goes halts turns s h in
    let last = get_or s.order (s.count - 1) 0 in (
      λ j one l. (from j one l).earlier,
      λ v on. subst (λ (x : ℕ). Leads goes x last) (ap (λ (p : ℕ). get_or s.order p 0) on.up.there ∙ on.stands)
          (all_the_way (λ u. Leads goes u last) s.order s.parents s.count some (λ j one l. (from j one l).earlier) (λ j one l up x closed k. up x closed ((from j one l).leads x closed k)) (λ x closed k. k) on.up.steps on.up.below).1,
    )
