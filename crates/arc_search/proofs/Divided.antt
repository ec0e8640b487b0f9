-- The parts that the pass has given so far, and one part more: the top set of the path, which no open arc leaves.
use Rattle.std.proofs.Common.{◌≡◌, ℕ, ◌+◌, ◌-◌, ◌<◌, ◌≤◌, ⊎_elim, Bool, true, List, length, refl, sym, ◌∙◌, ap, subst, arith}
use Rattle.std.specs.Prelude.{◌≢◌, slice_index, IsTrue}
use Rattle.std.proofs.lemmas.Bool.{cases_eq, cases_lt, eq-eqb, eqb-true}
use Rattle.cut_definitions.specs.Weight.{VertexSet, HasVertex}
use Rattle.cut_definitions.specs.Chain.{SameOn, one_part}
use Rattle.arc_search.specs.Closed.{IsClosed}
use Rattle.arc_search.specs.Marks.{mark_of, unmarked}
use Rattle.arc_search.specs.Parts.{marked, marked_upto}
use Rattle.arc_search.specs.Paths.{SearchArcs, HasArcs, LeadsOn, IsAmong, HasGiven}
use Rattle.arc_search.specs.Split.{IsToSplit, IsSplitOff}
use Rattle.arc_search.proofs.Agreeing.{IsClosed-agree, upto_same, upto_new, upto_all, upto_yes, upto_marked}
use Rattle.arc_search.proofs.Stacked.{IsPath, IsInside}

-- the parts given so far to vertices that had no mark
pub record IsDivided (n first : ℕ) (goes : ℕ → ℕ → Bool) (old outside : List ℕ) (parts : ℕ) (part_of : List ℕ) : Type 0 where
  pub long : length part_of ≡ n
  pub more : first ≤ parts
  pub kept : (v : ℕ) → 1 ≤ v → v ≤ n → mark_of outside v ≢ 0 → mark_of part_of v ≡ mark_of old v
  pub from_first : (v : ℕ) → 1 ≤ v → v ≤ n → mark_of outside v ≡ 0 → mark_of part_of v ≢ 0 → first < mark_of part_of v
  pub to_parts : (v : ℕ) → 1 ≤ v → v ≤ n → mark_of part_of v ≤ parts
  pub none_empty : (i : ℕ) → first < i → i ≤ parts → HasVertex n (one_part (mark_of part_of) i)
  pub closed : (i : ℕ) → first ≤ i → i ≤ parts → IsClosed goes (marked_upto part_of i)
  pub whole : (x : VertexSet) → IsClosed goes x → (u v : ℕ) → 1 ≤ u → u ≤ n → 1 ≤ v → v ≤ n →
      first < mark_of part_of u → mark_of part_of v ≡ mark_of part_of u → IsTrue (x u) → IsTrue (x v)

pub IsDivided-start : (n first : ℕ) (arcs : SearchArcs) (goes : ℕ → ℕ → Bool) (old outside : List ℕ) → HasArcs n arcs goes → length old ≡ n → IsToSplit n goes first old outside →
    IsDivided n first goes old outside first old
IsDivided-start n first arcs goes old outside has long h = record {
  long = long;
  more = omega arith;
  kept = λ v a b m. refl;
  from_first = λ v a b o some. absurd (h.part_marked v a b some o);
  to_parts = h.to_parts;
  none_empty = λ i a b. absurd (omega arith);
  closed = λ i a b.
      let e : first ≡ i = omega arith in
      subst (λ (z : ℕ). IsClosed goes (marked_upto old z)) e
      (IsClosed-agree n goes has.step_from_one has.step_to_n (marked old) (marked_upto old first) (λ v l u. upto_all (mark_of old v) first (h.to_parts v l u)) h.closed);
  whole = λ x c u v a b l m f. absurd (omega (arith, h.to_parts u a b));
}

pub IsInside-divided : (n first : ℕ) (arcs : SearchArcs) (goes : ℕ → ℕ → Bool) (old outside : List ℕ) (parts : ℕ) (part_of : List ℕ) → HasArcs n arcs goes →
    IsToSplit n goes first old outside → IsDivided n first goes old outside parts part_of → IsInside goes outside part_of
IsInside-divided n first arcs goes old outside parts part_of has to_split h u v g o none =
    ⊎_elim
    (λ (e : mark_of outside v ≡ 0). e)
    (λ ne. to_split.inside u v g o (sym (h.kept v (has.step_from_one u v g).1 (has.step_to_n u v g).1 ne) ∙ none))
    (cases_eq (mark_of outside v) 0)

pub IsDivided-next : (n first : ℕ) (arcs : SearchArcs) (goes : ℕ → ℕ → Bool) (old outside : List ℕ) (parts : ℕ) (part_of marks stack back next borders : List ℕ) (height depth current : ℕ) (part_of' : List ℕ) →
    HasArcs n arcs goes → IsInside goes outside part_of → IsDivided n first goes old outside parts part_of →
    IsPath n arcs goes outside part_of marks stack back next borders height depth current → 0 < height →
    slice_index next current ≡ arcs.size (slice_index stack current) → slice_index borders (depth - 1) ≡ current → HasGiven (parts + 1) stack current height part_of part_of' →
    IsDivided n first goes old outside (parts + 1) part_of'
IsDivided-next n first arcs goes old outside parts part_of marks stack back next borders height depth current part_of' has inside h path some left border given =
    let k = parts + 1 in
    let m = mark_of part_of in
    let m' = mark_of part_of' in
    let in' = path.current_in some in
    let given_at : (v : ℕ) → IsAmong stack current height v → m' v ≡ k = λ v e. sym (ap m' e.there) ∙ given.given e.place e.after e.before in
    let had_none : (v : ℕ) → IsAmong stack current height v → m v ≡ 0 = λ v e. sym (ap m e.there) ∙ path.no_part e.place e.before in
    let still : (v : ℕ) → 1 ≤ v → m v ≢ 0 → m' v ≡ m v = λ v a ne. ⊎_elim (λ e. e) (λ (e : IsAmong stack current height v). absurd (ne (had_none v e))) (given.others v a) in
    let to_parts : (v : ℕ) → 1 ≤ v → v ≤ n → m' v ≤ k = λ v a b. ⊎_elim
    (λ (e : m' v ≡ m v). omega (arith, e, h.to_parts v a b))
    (λ (e : IsAmong stack current height v). omega (arith, given_at v e))
    (given.others v a) in
    let same_upto : (i : ℕ) → i ≤ parts → SameOn n (marked_upto part_of i) (marked_upto part_of' i) = λ i l v a b. ⊎_elim
    (λ (e : m' v ≡ m v). upto_same (m v) (m' v) i (sym e))
    (λ (e : IsAmong stack current height v). upto_new (m v) (m' v) i (had_none v e) (omega (arith, given_at v e)))
    (given.others v a) in
    -- a step from the new part leads to a vertex with a part
    let from_new : (u v : ℕ) → IsTrue (goes u v) → IsAmong stack current height u → m' v ≢ 0 = λ u v g among.
    let p = among.place in
    let w = slice_index stack p in
    let v1 = (has.step_from_one u v g).1 in
    let vn = (has.step_to_n u v g).1 in
    let w1 = path.from_one p among.before in
    let wn = path.to_n p among.before in
    let g' : IsTrue (goes w v) = subst (λ (z : ℕ). IsTrue (goes z v)) (sym among.there) g in
    let arc = has.complete w v w1 wn g' in
    let all : slice_index next p ≡ arcs.size w = ⊎_elim
    (λ (e : current ≡ p). subst (λ (z : ℕ). slice_index next z ≡ arcs.size (slice_index stack z)) e left)
    (λ ne. path.left_above p (omega (arith, among.after)) among.before)
    (cases_eq current p) in
    ⊎_elim
    (λ (none : m v ≡ 0).
    let on : LeadsOn arcs w arc.place part_of = record { open_there = arc.open_there; no_part = ap m arc.to ∙ none } in
    let looked : arc.place < slice_index next p = omega (arith, all, arc.in_row) in
    let some_mark : mark_of marks v ≢ 0 = subst (λ (z : ℕ). mark_of marks z ≢ 0) arc.to (path.settled p arc.place among.before looked on) in
    let depth_some = path.some_set some in
    let high : slice_index borders (depth - 1) < mark_of marks v = subst (λ (z : ℕ). slice_index borders (depth - 1) < mark_of marks z) arc.to
    (path.above p arc.place among.before looked on (depth - 1) (omega arith) (omega (arith, border, among.after))) in
    let at = path.on_stack v v1 vn (inside w v g' (path.within p among.before) none) some_mark none in
    let there : IsAmong stack current height v = record { place = mark_of marks v - 1; after = omega (arith, high, border); before = omega (arith, at.0, high); there = at.1 } in
    λ z. absurd (omega (arith, z, given_at v there)))
    (λ ne z. ne (sym (still v v1 ne) ∙ z))
    (cases_eq (m v) 0) in
    let new_closed : IsClosed goes (marked_upto part_of' k) = λ u v g q.
    let a = has.step_from_one u v g in
    let b = has.step_to_n u v g in
    let v_some : m' v ≢ 0 = ⊎_elim
    (λ (e : m' u ≡ m u).
    let u_some : m u ≢ 0 = λ z. upto_marked (m' u) k q (e ∙ z) in
    let v_was : m v ≢ 0 = upto_marked (m v) parts (h.closed parts h.more (omega arith) u v g (upto_yes (m u) parts u_some (h.to_parts u a.0 b.0))) in
    λ z. v_was (sym (still v a.1 v_was) ∙ z))
    (λ (e : IsAmong stack current height u). from_new u v g e)
    (given.others u a.0) in
    upto_yes (m' v) k v_some (to_parts v a.1 b.1) in
    record {
      long = given.as_long ∙ h.long;
      more = omega (arith, h.more);
      kept = λ v a b o. ⊎_elim
          (λ (e : m' v ≡ m v). e ∙ h.kept v a b o)
          (λ (e : IsAmong stack current height v). absurd (o (sym (ap (mark_of outside) e.there) ∙ path.within e.place e.before)))
          (given.others v a);
      from_first = λ v a b o s. ⊎_elim
          (λ (e : m' v ≡ m v). omega (arith, e, h.from_first v a b o (λ z. s (e ∙ z))))
          (λ (e : IsAmong stack current height v). omega (arith, given_at v e, h.more))
          (given.others v a);
      to_parts = to_parts;
      none_empty = λ i l u. ⊎_elim
          (λ (was : i < k).
          let w = h.none_empty i l (omega arith) in
          let e : m w.vertex ≡ i = eqb-true _ _ w.is_in in
          let s : m w.vertex ≢ 0 = λ z. absurd (omega (arith, e, z)) in
          let there : HasVertex n (one_part m' i) = record { vertex = w.vertex; from_one = w.from_one; to_n = w.to_n; is_in = eq-eqb (m' w.vertex) i (still w.vertex w.from_one s ∙ e) } in there)
          (λ (new : k ≤ i).
          let e : k ≡ i = omega arith in
          let there : HasVertex n (one_part m' i) = record {
            vertex = slice_index stack current;
            from_one = path.from_one current in';
            to_n = path.to_n current in';
            is_in = eq-eqb (m' (slice_index stack current)) i (given.given current (omega arith) in' ∙ e);
          } in there)
          (cases_lt i k);
      closed = λ i l u. ⊎_elim
          (λ (was : i < k). IsClosed-agree n goes has.step_from_one has.step_to_n (marked_upto part_of i) (marked_upto part_of' i) (same_upto i (omega arith)) (h.closed i l (omega arith)))
          (λ (new : k ≤ i). let e : k ≡ i = omega arith in subst (λ (z : ℕ). IsClosed goes (marked_upto part_of' z)) e new_closed)
          (cases_lt i k);
      whole = λ x c u v a b a' b' f same hx. ⊎_elim
          (λ (e : m' u ≡ m u). ⊎_elim
          (λ (e' : m' v ≡ m v). h.whole x c u v a b a' b' (omega (arith, e)) (sym e' ∙ (same ∙ e)) hx)
          (λ (e' : IsAmong stack current height v). absurd (omega (arith, given_at v e', same, e, h.to_parts u a b)))
          (given.others v a'))
          (λ (e : IsAmong stack current height u). ⊎_elim
          (λ (e' : m' v ≡ m v). absurd (omega (arith, given_at u e, same, e', h.to_parts v a' b')))
          (λ (e' : IsAmong stack current height v).
          let hx' : x (slice_index stack e.place) ≡ true = subst (λ (z : ℕ). x z ≡ true) (sym e.there) hx in
          subst (λ (z : ℕ). x z ≡ true) e'.there
          (path.leads_up x c e.place e'.place e.before e'.before hx' (λ i il bi. omega (arith, path.to_current i il, e'.after))))
          (given.others v a'))
          (given.others u a);
    }

pub IsSplitOff-end : (n first : ℕ) (arcs : SearchArcs) (goes : ℕ → ℕ → Bool) (old outside : List ℕ) (parts : ℕ) (part_of marks stack back next borders : List ℕ) (height depth current : ℕ) →
    IsDivided n first goes old outside parts part_of → IsPath n arcs goes outside part_of marks stack back next borders height depth current → height ≤ 0 →
    parts + unmarked marks ≤ first + unmarked outside → IsSplitOff n goes first parts old outside part_of marks
IsSplitOff-end n first arcs goes old outside parts part_of marks stack back next borders height depth current h path ended few = record {
  as_long = h.long;
  marks_long = path.long;
  more = h.more;
  still_marked = path.outside_marked;
  kept = h.kept;
  left_out = λ v a b none. ⊎_elim (λ (e : mark_of part_of v ≡ 0). e) (λ ne. absurd (path.part_marked v a b ne none)) (cases_eq (mark_of part_of v) 0);
  from_first = λ v a b o m. h.from_first v a b o (λ z. absurd (m (omega (arith, ended, (path.on_stack v a b o m z).0))));
  to_last = h.to_parts;
  none_empty = h.none_empty;
  closed = h.closed;
  whole = h.whole;
  few = few;
}
