-- What is done to one level, and to some of them.
use Rattle.std.proofs.Common.{◌≡◌, ℕ, ◌+◌, ◌<◌, ◌≤◌, ⊎_elim, inl, inr, List, [], ◌∷◌, ◌++◌, length, get_or, set, take, drop, refl, sym, ◌∙◌, ap, subst, arith, get_or-set_other, get_or-set_same, length-set, length-append}
use Rattle.std.specs.Prelude.{◌≢◌, ◌⊎◌}
use Rattle.std.proofs.lemmas.Bool.{cases_eq, cases_lt}
use Rattle.std.proofs.Math.Seq.{get_or-append_seam, take-length}
use Rattle.std.proofs.lemmas.List.{get_or_default, get_or_append_left, take-append-le}
use Rattle.cut_definitions.specs.Weight.{VertexSet}
use Rattle.vertex_classes.specs.Classes.{AreJoined, Respects, HasSameClasses, HasJoined}
use Rattle.forest_contraction.specs.Forests.{level, AreOver, HasSameLevels}
use Rattle.vertex_classes.proofs.Joining.{same_classes, same_classes-more, joined_before}

pub same_levels : (levels : List (List ℕ)) → HasSameLevels levels levels
same_levels levels = record { count = refl; each = λ l h. same_classes (level levels l) }

-- one level gets other parents for the same classes
pub same_levels-set : (old levels : List (List ℕ)) (m : ℕ) (x new : List ℕ) → HasSameLevels old levels → m < length levels → HasSameClasses (get_or levels m x) new → HasSameLevels old (set levels m new)
same_levels-set old levels m x new same lm step = record {
  count = length-set levels m new ∙ same.count;
  each = λ l h.
      ⊎_elim
      (λ (e : l ≡ m).
      let here : level (set levels m new) l ≡ new = rw e (get_or-set_same levels m new [] lm) in
      let was : get_or levels m x ≡ level levels l = rw e (get_or_default levels m x [] lm) in
      let next : HasSameClasses (level levels l) new = subst (λ (ps : List ℕ). HasSameClasses ps new) was step in
      rw here (same_classes-more (level old l) (level levels l) new (same.each l h) next))
      (λ (ne : l ≢ m). rw (get_or-set_other levels m l new [] ne) (same.each l h))
      (cases_eq l m);
}

-- what joins two numbers in one level joined them before
pub joined_in : (old levels : List (List ℕ)) (m : ℕ) (x : List ℕ) (u v : ℕ) → HasSameLevels old levels → m < length levels → AreJoined (get_or levels m x) u v → AreJoined (level old m) u v
joined_in old levels m x u v same lm joined =
    joined_before (level old m) (level levels m) u v (same.each m (omega (arith, same.count)))
    (subst (λ (ps : List ℕ). AreJoined ps u v) (get_or_default levels m x [] lm) joined)

-- the levels from one on and before another have joined two numbers, the others are as before
pub record HaveJoined (old new : List (List ℕ)) (first end u v : ℕ) : Type 0 where
  pub count : length new ≡ length old
  pub inside : (l : ℕ) → first ≤ l → l < end → HasJoined (level old l) (level new l) u v
  pub outside : (l : ℕ) → (l < first) ⊎ (end ≤ l) → level new l ≡ level old l

pub have_joined-set : (old levels : List (List ℕ)) (first m u v : ℕ) (x new : List ℕ) → HaveJoined old levels first m u v → first ≤ m → m < length levels → HasJoined (get_or levels m x) new u v →
    HaveJoined old (set levels m new) first (m + 1) u v
have_joined-set old levels first m u v x new so fm lm step = record {
  count = length-set levels m new ∙ so.count;
  inside = λ l low high.
      ⊎_elim
      (λ (e : l ≡ m).
      let here : level (set levels m new) l ≡ new = rw e (get_or-set_same levels m new [] lm) in
      let was : get_or levels m x ≡ level old l = rw e (get_or_default levels m x [] lm ∙ so.outside m (inr (omega arith))) in
      rw here (subst (λ (ps : List ℕ). HasJoined ps new u v) was step))
      (λ (ne : l ≢ m). rw (get_or-set_other levels m l new [] ne) (so.inside l low (omega arith)))
      (cases_eq l m);
  outside = λ l side.
      ⊎_elim
      (λ (e : l ≡ m). absurd (⊎_elim (λ (h : l < first). omega arith) (λ (h : m + 1 ≤ l). omega arith) side))
      (λ (ne : l ≢ m). get_or-set_other levels m l new [] ne ∙ so.outside l (⊎_elim (λ (h : l < first). inl h) (λ (h : m + 1 ≤ l). inr (omega arith)) side))
      (cases_eq l m);
}

pub over-same : (size : ℕ) (old new : List (List ℕ)) → HasSameLevels old new → AreOver size old → AreOver size new
over-same size old new same over l h = (same.each l (omega (arith, same.count))).long ∙ over l (omega (arith, same.count))

pub over-joined : (size : ℕ) (old new : List (List ℕ)) (first end u v : ℕ) → HaveJoined old new first end u v → AreOver size old → AreOver size new
over-joined size old new first end u v so over l h =
    let lo : l < length old = omega (arith, so.count) in
    ⊎_elim
    (λ (a : l < first). ap length (so.outside l (inl a)) ∙ over l lo)
    (λ (b : first ≤ l).
    ⊎_elim
    (λ (c : l < end). (so.inside l b c).long ∙ over l lo)
    (λ (d : end ≤ l). ap length (so.outside l (inr d)) ∙ over l lo)
    (cases_lt l end))
    (cases_lt l first)

-- what joins two numbers in one level joins them after it
pub joined_after : (old new : List (List ℕ)) (l u v : ℕ) → HasSameLevels old new → l < length old → AreJoined (level old l) u v → AreJoined (level new l) u v
joined_after old new l u v same lo joined s h = joined s (((same.each l lo).respected s).0 h)

-- one more level in which each number is alone
pub over-more : (size : ℕ) (levels : List (List ℕ)) (x : List ℕ) → AreOver size levels → length x ≡ size → AreOver size (levels ++ x ∷ [])
over-more size levels x over is l h =
    ⊎_elim
    (λ (e : l ≡ length levels). rw (e, get_or-append_seam levels x [] []) is)
    (λ ne. let lo : l < length levels = omega (arith, length-append levels (x ∷ [])) in rw (get_or_append_left levels (x ∷ []) [] l lo) (over l lo))
    (cases_eq l (length levels))

pub alone-more : (levels : List (List ℕ)) (x : List ℕ) → ((l : ℕ) → l < length levels → (s : VertexSet) → Respects (level levels l) s) → ((s : VertexSet) → Respects x s) →
    (l : ℕ) → l < length levels + 1 → (s : VertexSet) → Respects (level (levels ++ x ∷ []) l) s
alone-more levels x alone is l h s =
    ⊎_elim
    (λ (e : l ≡ length levels). rw (e, get_or-append_seam levels x [] []) (is s))
    (λ ne. let lo : l < length levels = omega arith in rw (get_or_append_left levels (x ∷ []) [] l lo) (alone l lo s))
    (cases_eq l (length levels))

-- what is written back over a whole list is there
pub written_back : (items new : List (List ℕ)) (n : ℕ) → length new ≡ n → take n (new ++ drop (length new) items) ≡ new
written_back items new n long = take-append-le n new (drop (length new) items) (omega (arith, long)) ∙ (ap (λ (k : ℕ). take k new) (sym long) ∙ take-length new)
