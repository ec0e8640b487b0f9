-- Rows one after another in one list.
use Rattle.std.proofs.Common.{◌≡◌, ℕ, zero, suc, ◌+◌, ◌-◌, ◌*◌, ◌<◌, ◌≤◌, ⊎_elim, List, [], ◌∷◌, ◌++◌, length, get_or, drop, refl, sym, ◌∙◌, ap, arith}
use Rattle.std.proofs.lemmas.Bool.{cases_lt}
use Rattle.std.proofs.lemmas.List.{get_or_append_left, get_or_push, length_push}
use Rattle.std.proofs.lemmas.Slice.{between_is, take-put_mid_below, between-put_mid}
use borrow.Rule.Slice.PartMut.{put_mid}
use Rattle.cut_definitions.specs.Graph.{Graph}
use Rattle.weighted_graph.specs.Rows.{row_of}
use Rattle.weighted_graph.proofs.Rows.{length-arcs_from-le}
use Rattle.max_flow.specs.Rows.{AreStarts, row_within}

-- a row has at most as many arcs as the graph has edges
pub length-row_of : (g : Graph) (v : ℕ) → length (row_of g v) ≤ length g.edges
unfolding row_of
length-row_of g v = length-arcs_from-le v 0 g.edges

-- the starts so far
pub record Starts (g : Graph) (starts : List ℕ) (v total : ℕ) : Type 0 where
  pub count : length starts ≡ v + 1
  pub last : get_or starts v 0 ≡ total
  pub next : (u : ℕ) → u < v → get_or starts (u + 1) 0 ≡ get_or starts u 0 + length (row_of g u)
  pub small : total ≤ 16777216 * v

-- the start of one row more
pub starts_more : (g : Graph) (starts : List ℕ) (v total size : ℕ) → Starts g starts v total → size ≡ length (row_of g v) → length g.edges ≤ 16777216 →
    Starts g (starts ++ (total + size) ∷ []) (v + 1) (total + size)
starts_more g starts v total size h is few =
    let next_starts = starts ++ (total + size) ∷ [] in
    let end : get_or next_starts (v + 1) 0 ≡ total + size = get_or_push starts (total + size) 0 (v + 1) h.count in
    let kept = λ (u : ℕ) (l : u ≤ v). (let e : get_or next_starts u 0 ≡ get_or starts u 0 = get_or_append_left starts ((total + size) ∷ []) 0 u (omega (arith, h.count)) in e) in
    record {
      count = omega (arith, h.count, length_push starts (total + size));
      last = end;
      next = λ u l. ⊎_elim
          (λ (b : u < v). rw (kept u (omega arith), kept (u + 1) (omega arith)) (h.next u b))
          (λ (b : v ≤ u). let e : u ≡ v = omega arith in rw (e, end, kept v (omega arith), h.last, is) refl)
          (cases_lt u v);
      small = omega (arith, h.small, length-row_of g v);
    }

-- the row of a vertex ends before that of a later one begins
pub starts_ascend : (g : Graph) (starts : List ℕ) → AreStarts g starts → (u v : ℕ) → u < v → v ≤ g.vertices + 1 → get_or starts (u + 1) 0 ≤ get_or starts v 0
starts_ascend g starts h u zero l m = absurd (omega arith)
starts_ascend g starts h u (suc v) l m =
    let step = h.next v (omega arith) in
    let at : suc v ≡ v + 1 = omega arith in
    rw at (⊎_elim
    (λ (b : u < v). omega (arith, starts_ascend g starts h u v b (omega arith)))
    (λ (b : v ≤ u). let e : u ≡ v = omega arith in rw e (omega arith))
    (cases_lt u v))

-- a row is written over
pub row_within-put_same : (starts residuals ys : List ℕ) (v : ℕ) → get_or starts v 0 ≤ length residuals → length ys ≡ get_or starts (v + 1) 0 - get_or starts v 0 →
    row_within (put_mid (get_or starts v 0) (get_or starts (v + 1) 0 - get_or starts v 0) residuals ys) starts v ≡ ys
row_within-put_same starts residuals ys v l n = between-put_mid (get_or starts v 0) _ residuals ys (get_or starts (v + 1) 0) l n

-- the row of an earlier vertex stays as it was
pub row_within-put_later : (starts residuals ys : List ℕ) (a k u : ℕ) → get_or starts (u + 1) 0 ≤ a → a ≤ length residuals →
    row_within (put_mid a k residuals ys) starts u ≡ row_within residuals starts u
row_within-put_later starts residuals ys a k u l m =
    let from = get_or starts u 0 in
    let to = get_or starts (u + 1) 0 in
    between_is (put_mid a k residuals ys) from to
    ∙ (ap (drop from) (take-put_mid_below a k residuals ys to l m)
    ∙ sym (between_is residuals from to))
