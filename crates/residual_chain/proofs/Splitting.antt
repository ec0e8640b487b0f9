-- Divisions one after another: what one leaves can be divided on, and two make one.
use Rattle.std.proofs.Common.{◌≡◌, ℕ, ◌<◌, ◌≤◌, ⊎_elim, Bool, List, length, sym, ◌∙◌, arith}
use Rattle.std.specs.Prelude.{◌≢◌}
use Rattle.std.proofs.lemmas.Bool.{cases_eq, cases_lt, eq-eqb, eqb-true}
use Rattle.cut_definitions.specs.Weight.{HasVertex}
use Rattle.cut_definitions.specs.Chain.{SameOn, one_part}
use Rattle.arc_search.specs.Marks.{mark_of}
use Rattle.arc_search.specs.Parts.{marked, marked_upto}
use Rattle.arc_search.specs.Paths.{SearchArcs, HasArcs}
use Rattle.arc_search.specs.Split.{IsToSplit, IsSplitOff}
use Rattle.residual_chain.specs.Split.{IsSplit}
use Rattle.arc_search.proofs.Agreeing.{IsClosed-agree, upto_same, upto_new, upto_all}
use Rattle.arc_search.proofs.Stacked.{IsPath-start}
use Rattle.arc_search.proofs.Divided.{IsDivided-start, IsSplitOff-end}

-- nothing is divided yet
pub IsSplitOff-start : (n first : ℕ) (arcs : SearchArcs) (goes : ℕ → ℕ → Bool) (old marks : List ℕ) → HasArcs n arcs goes → length old ≡ n → length marks ≡ n →
    IsToSplit n goes first old marks → IsSplitOff n goes first first old marks old marks
IsSplitOff-start n first arcs goes old marks has old_long long h =
    IsSplitOff-end n first arcs goes old marks first old marks old old old old 0 0 0 (IsDivided-start n first arcs goes old marks has old_long h)
    (IsPath-start n arcs goes marks old old old old old long h.part_marked) (omega arith) (omega arith)

-- what has a part now had a mark before or has got one
part_in : (n : ℕ) (goes : ℕ → ℕ → Bool) (first last : ℕ) (old marks new marks' : List ℕ) → IsSplitOff n goes first last old marks new marks' →
    (v : ℕ) → 1 ≤ v → v ≤ n → mark_of new v ≢ 0 → mark_of marks' v ≢ 0
part_in n goes first last old marks new marks' h v a b some none = some (h.left_out v a b none)

-- what is left can be divided on
pub IsToSplit-after : (n : ℕ) (arcs : SearchArcs) (goes : ℕ → ℕ → Bool) (first last : ℕ) (old marks new marks' : List ℕ) → HasArcs n arcs goes → IsToSplit n goes first old marks →
    IsSplitOff n goes first last old marks new marks' → IsToSplit n goes last new marks'
IsToSplit-after n arcs goes first last old marks new marks' has to_split h = record {
  to_parts = h.to_last;
  part_marked = part_in n goes first last old marks new marks' h;
  closed = IsClosed-agree n goes has.step_from_one has.step_to_n (marked_upto new last) (marked new)
      (λ v a b. sym (upto_all (mark_of new v) last (h.to_last v a b))) (h.closed last h.more (omega arith));
  inside = λ u v g none no_part.
      let a = has.step_from_one u v g in
      let b = has.step_to_n u v g in
      let u_none : mark_of marks u ≡ 0 = ⊎_elim (λ (e : mark_of marks u ≡ 0). e) (λ ne. absurd (h.still_marked u a.0 b.0 ne none)) (cases_eq (mark_of marks u) 0) in
      ⊎_elim
      (λ (e : mark_of marks' v ≡ 0). e)
      (λ ne. ⊎_elim
      (λ (was : mark_of marks v ≡ 0). absurd (omega (arith, h.from_first v a.1 b.1 was ne, no_part)))
      (λ had. absurd (had (to_split.inside u v g u_none (sym (h.kept v a.1 b.1 had) ∙ no_part))))
      (cases_eq (mark_of marks v) 0))
      (cases_eq (mark_of marks' v) 0);
  few = omega (arith, h.few, to_split.few);
}

-- one division after another
pub IsSplitOff-then : (n : ℕ) (arcs : SearchArcs) (goes : ℕ → ℕ → Bool) (first mid last : ℕ) (old marks between marks' new marks'' : List ℕ) → HasArcs n arcs goes →
    IsSplitOff n goes first mid old marks between marks' → IsSplitOff n goes mid last between marks' new marks'' → IsSplitOff n goes first last old marks new marks''
IsSplitOff-then n arcs goes first mid last old marks between marks' new marks'' has h k =
    let m = mark_of between in
    let m' = mark_of new in
    -- a part of the first division was there before the second
    let early : (v : ℕ) → 1 ≤ v → v ≤ n → m' v ≢ 0 → m' v ≤ mid → m' v ≡ m v = λ v a b some l. ⊎_elim
    (λ (none : mark_of marks' v ≡ 0). absurd (omega (arith, l, k.from_first v a b none (part_in n goes mid last between marks' new marks'' k v a b some))))
    (λ had. k.kept v a b had)
    (cases_eq (mark_of marks' v) 0) in
    let same_upto : (i : ℕ) → i ≤ mid → SameOn n (marked_upto between i) (marked_upto new i) = λ i l v a b. ⊎_elim
    (λ (none : mark_of marks' v ≡ 0). ⊎_elim
    (λ (e : m' v ≡ 0). upto_same (m v) (m' v) i (h.left_out v a b none ∙ sym e))
    (λ ne. upto_new (m v) (m' v) i (h.left_out v a b none) (omega (arith, l, k.from_first v a b none (part_in n goes mid last between marks' new marks'' k v a b ne))))
    (cases_eq (m' v) 0))
    (λ had. upto_same (m v) (m' v) i (sym (k.kept v a b had)))
    (cases_eq (mark_of marks' v) 0) in
    record {
      as_long = k.as_long;
      marks_long = k.marks_long;
      more = omega (arith, h.more, k.more);
      still_marked = λ v a b some. k.still_marked v a b (h.still_marked v a b some);
      kept = λ v a b some. k.kept v a b (h.still_marked v a b some) ∙ h.kept v a b some;
      left_out = k.left_out;
      from_first = λ v a b none some. ⊎_elim
          (λ (e : mark_of marks' v ≡ 0). omega (arith, h.more, k.from_first v a b e some))
          (λ had. omega (arith, k.kept v a b had, h.from_first v a b none had))
          (cases_eq (mark_of marks' v) 0);
      to_last = k.to_last;
      none_empty = λ i l u. ⊎_elim
          (λ (late : mid < i). k.none_empty i late u)
          (λ (soon : i ≤ mid).
          let w = h.none_empty i l soon in
          let e : m w.vertex ≡ i = eqb-true _ _ w.is_in in
          let had : mark_of marks' w.vertex ≢ 0 = λ z. absurd (omega (arith, e, h.left_out w.vertex w.from_one w.to_n z)) in
          let there : HasVertex n (one_part m' i) = record { vertex = w.vertex; from_one = w.from_one; to_n = w.to_n; is_in = eq-eqb (m' w.vertex) i (k.kept w.vertex w.from_one w.to_n had ∙ e) } in there)
          (cases_lt mid i);
      closed = λ i l u. ⊎_elim
          (λ (late : mid < i). k.closed i (omega arith) u)
          (λ (soon : i ≤ mid). IsClosed-agree n goes has.step_from_one has.step_to_n (marked_upto between i) (marked_upto new i) (same_upto i soon) (h.closed i l soon))
          (cases_lt mid i);
      whole = λ x c u v a b a' b' f same hx. ⊎_elim
          (λ (late : mid < m' u). k.whole x c u v a b a' b' late same hx)
          (λ (soon : m' u ≤ mid).
          let e : m' u ≡ m u = early u a b (λ z. absurd (omega arith)) soon in
          let e' : m' v ≡ m v = early v a' b' (λ z. absurd (omega (arith, same))) (omega (arith, same)) in
          h.whole x c u v a b a' b' (omega (arith, e)) (sym e' ∙ (same ∙ e)) hx)
          (cases_lt mid (m' u));
      few = omega (arith, h.few, k.few);
    }

-- all is divided
pub IsSplit-all : (n : ℕ) (goes : ℕ → ℕ → Bool) (first last : ℕ) (old marks new marks' : List ℕ) → IsSplitOff n goes first last old marks new marks' →
    ((v : ℕ) → 1 ≤ v → v ≤ n → mark_of marks' v ≢ 0) → IsSplit n goes first last old marks new
IsSplit-all n goes first last old marks new marks' h all = record {
  as_long = h.as_long;
  more = h.more;
  kept = h.kept;
  from_first = λ v a b none. h.from_first v a b none (all v a b);
  to_last = h.to_last;
  none_empty = h.none_empty;
  closed = h.closed;
  whole = h.whole;
  few = omega (arith, h.few);
}
