-- Marks that are added, with a list of those that have one.
use Rattle.std.proofs.Common.{◌≡◌, ℕ, inl, inr, ⊎_elim, Bool, true, List, ◌++◌, get_or, sym, ◌∙◌, ap}
use Rattle.std.proofs.lemmas.List.{append_assoc}
use Rattle.std.proofs.lemmas.List.Elements.{All-append, All-weaker, Contains-append_left, Contains-append_right}
use Rattle.weighted_graph.specs.Searches.{is_seen}
use Rattle.arc_search.specs.Way.{IsUp, IsTouched, IsMarked, IsMarkedWay}

-- two changes, one after the other
pub touched_both : (marks marks' marks'' : List Bool) (touched touched' touched'' : List ℕ) → IsTouched marks touched marks' touched' → IsTouched marks' touched' marks'' touched'' →
    IsTouched marks touched marks'' touched''
touched_both marks marks' marks'' touched touched' touched'' h k = record {
  long = k.long ∙ h.long;
  kept = λ x is. k.kept x (h.kept x is);
  added = h.added ++ k.added;
  grown = k.grown ∙ ap (λ (xs : List ℕ). xs ++ k.added) h.grown ∙ append_assoc touched h.added k.added;
  new = λ x is. ⊎_elim
      (λ q. ⊎_elim (λ p. inl p) (λ p. inr (Contains-append_left h.added k.added x p)) (h.new x q))
      (λ q. inr (Contains-append_right h.added k.added x q))
      (k.new x is);
  each = All-append (λ (x : ℕ). is_seen marks'' x ≡ true) h.added k.added
      (All-weaker (λ (x : ℕ). is_seen marks' x ≡ true) (λ (x : ℕ). is_seen marks'' x ≡ true) k.kept h.added h.each) k.each;
}

-- the vertex at a place that is reached is marked
pub way_more : (order parents : List ℕ) (last place : ℕ) (marks marks' marks'' : List Bool) (touched touched' touched'' : List ℕ) → IsMarkedWay order parents last marks touched marks' touched' →
    IsUp parents last place → IsMarked (get_or order place 0) marks' touched' marks'' touched'' → IsMarkedWay order parents last marks touched marks'' touched''
way_more order parents last place marks marks' marks'' touched touched' touched'' h up k = record {
  touches = touched_both marks marks' marks'' touched touched' touched'' h.touches k.touches;
  on_way = λ v is. ⊎_elim
      (λ q. h.on_way v q)
      (λ (e : v ≡ get_or order place 0). inr (record { place = place; up = up; stands = sym e }))
      (k.others v is);
}
