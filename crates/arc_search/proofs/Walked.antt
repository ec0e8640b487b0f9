-- A search gives further parts to just the vertices that have the mark 0.
use Rattle.std.proofs.Common.{◌≡◌, ℕ, ◌+◌, ◌-◌, ◌<◌, ◌≤◌, ◌⊎◌, ⊎_elim, Bool, true, false, eqb, ltb, leb, ◌&&◌, List, [], ◌++◌, length, take, drop, get_or, sym, ◌∙◌, subst, ap, arith}
use Rattle.std.specs.Prelude.{◌≢◌, ◌^◌, IsTrue, if◌then◌else◌}
use Rattle.std.specs.List.{All, Contains}
use Rattle.std.proofs.lemmas.Bool.{cases_eq, cases_lt, cases_Bool}
use Rattle.std.proofs.lemmas.List.{take_rest, get_or-drop, get_or-append_right, get_or_append_left, get_or_past, get_or-take, length-take-le, drop_all, length-append, length-drop, append-nil}
use Rattle.std.proofs.lemmas.List.Sums.{count_by-le-length}
use Rattle.std.proofs.lemmas.List.Elements.{All-contains, All-contains_itself, All-get_or}
use borrow.Rule.Slice.PartMut.{post_of, put_mid}
use Rattle.cut_definitions.specs.Weight.{VertexSet}
use Rattle.cut_definitions.specs.Cuts.{has}
use Rattle.cut_definitions.proofs.Ascending.{contains_has, has_contains}
use Rattle.arc_search.specs.Closed.{IsClosed}
use Rattle.arc_search.specs.Marks.{mark_of}
use Rattle.arc_search.specs.Parts.{marked, marked_upto}
use Rattle.arc_search.specs.Paths.{SearchArcs, HasArcs}
use Rattle.arc_search.specs.Split.{IsToSplit, IsSplitOff}
use Rattle.arc_search.proofs.Agreeing.{IsClosed-agree, upto_same, upto_yes, upto_marked}
use Rattle.cut_definitions.specs.Chain.{listed_upto}
use Rattle.arc_search.specs.Further.{AreFurther}
use Rattle.arc_search.specs.Listing.{AreTaken}
use Rattle.cut_definitions.specs.Graph.{IsVertex}

-- ---- numbers from place 1 on

-- all but the first
abbrev pub tail : List ℕ → List ℕ
tail xs = take (length xs - 1) (drop 1 xs)

pub length-tail : (xs : List ℕ) (n : ℕ) → length xs ≡ n + 1 → length (tail xs) ≡ n
length-tail xs n l = rw (take_rest xs 1) (omega (arith, l, length-drop 1 xs))

pub tail_at : (xs : List ℕ) (v : ℕ) → 1 ≤ v → get_or (tail xs) (v - 1) 0 ≡ get_or xs v 0
tail_at xs v a = rw (take_rest xs 1) (get_or-drop 1 xs (v - 1) 0 ∙ ap (λ (k : ℕ). get_or xs k 0) (omega arith))

-- ---- before the search

-- different numbers stand where vertices are to be searched
pub record IsSet (n : ℕ) (goes : ℕ → ℕ → Bool) (count : ℕ) (found turns marks : List ℕ) : Type 0 where
  pub turns_length : length turns ≡ n + 1
  pub marks_length : length marks ≡ n + 1
  pub nobody : get_or turns 0 0 ≡ 0
  pub to_count : (v : ℕ) → get_or turns v 0 ≤ count
  pub within : (v : ℕ) → has found v ≡ true → IsVertex n v
  pub new : (v : ℕ) → has found v ≡ true → get_or turns v 0 ≡ 0
  pub unmarked : (v : ℕ) → has found v ≡ true → get_or marks v 0 ≡ 0
  pub marked : (v : ℕ) → 1 ≤ v → v ≤ n → has found v ≡ false → get_or marks v 0 ≢ 0
  pub closed : IsClosed goes (λ v. ltb 0 (get_or turns v 0))
  pub followed : (u v : ℕ) → IsTrue (goes u v) → IsTrue (has found u) → (1 ≤ get_or turns v 0) ⊎ IsTrue (has found v)
  pub few : count + n < 2 ^ 32

found_by_mark : (n : ℕ) (goes : ℕ → ℕ → Bool) (count : ℕ) (found turns marks : List ℕ) → IsSet n goes count found turns marks → (v : ℕ) → 1 ≤ v → v ≤ n →
    mark_of (tail marks) v ≡ 0 → has found v ≡ true
found_by_mark n goes count found turns marks h v a b none =
    ⊎_elim (λ (yes : has found v ≡ true). yes) (λ (no : has found v ≡ false). absurd (h.marked v a b no (sym (tail_at marks v a) ∙ none))) (cases_Bool (has found v))

pub IsToSplit-set : (n : ℕ) (arcs : SearchArcs) (goes : ℕ → ℕ → Bool) (count : ℕ) (found turns marks : List ℕ) → HasArcs n arcs goes → IsSet n goes count found turns marks →
    IsToSplit n goes count (tail turns) (tail marks)
IsToSplit-set n arcs goes count found turns marks steps h =
    let by_mark = found_by_mark n goes count found turns marks h in
    record {
      to_parts = λ v a b. omega (arith, tail_at turns v a, h.to_count v);
      part_marked = λ v a b some none. some (tail_at turns v a ∙ h.new v (by_mark v a b none));
      closed = IsClosed-agree n goes steps.step_from_one steps.step_to_n (λ v. ltb 0 (get_or turns v 0)) (marked (tail turns))
          (λ v a b. ap (λ (k : ℕ). ltb 0 k) (sym (tail_at turns v a))) h.closed;
      inside = λ u v g none no_part.
          let a = steps.step_from_one u v g in
          let b = steps.step_to_n u v g in
          ⊎_elim
          (λ (l : 1 ≤ get_or turns v 0). absurd (omega (arith, l, tail_at turns v a.1, no_part)))
          (λ (is : has found v ≡ true). tail_at marks v a.1 ∙ h.unmarked v is)
          (h.followed u v g (by_mark u a.0 b.0 none));
      few = omega (arith, h.few, count_by-le-length (λ m. eqb m 0) (tail marks), length-tail marks n h.marks_length);
    }

-- ---- after it

-- the new numbers from place 1 on
pub record IsOver (n : ℕ) (old part new : List ℕ) : Type 0 where
  pub as_long : length new ≡ n + 1
  pub first : get_or new 0 0 ≡ get_or old 0 0
  pub at : (v : ℕ) → 1 ≤ v → v ≤ n → get_or new v 0 ≡ mark_of part v

-- a list with other numbers from place 1 on
pub IsOver-tail : (n : ℕ) (xs ys : List ℕ) → length xs ≡ n + 1 → length ys ≡ n → IsOver n xs ys (put_mid 1 (length xs - 1) xs ys)
IsOver-tail n xs ys long ys_long =
    let one : length (take 1 xs) ≡ 1 = length-take-le 1 xs (omega (arith, long)) in
    let none : post_of 1 (length xs - 1) xs ≡ [] = drop_all (length xs - 1) (drop 1 xs) (omega (arith, length-drop 1 xs)) in
    let is : put_mid 1 (length xs - 1) xs ys ≡ take 1 xs ++ ys = ap (λ (zs : List ℕ). take 1 xs ++ (ys ++ zs)) none ∙ ap (λ (zs : List ℕ). take 1 xs ++ zs) (append-nil ys) in
    subst (λ (zs : List ℕ). IsOver n xs ys zs) (sym is) (record {
      as_long = omega (arith, length-append (take 1 xs) ys, one, ys_long);
      first = get_or_append_left (take 1 xs) ys 0 0 (omega (arith, one)) ∙ get_or-take 1 xs 0 0 (omega arith);
      at = λ v a b. get_or-append_right (take 1 xs) ys 1 v 0 one a;
    })

in_range : (n : ℕ) (xs : List ℕ) → length xs ≡ n + 1 → get_or xs 0 0 ≡ 0 → (v : ℕ) → 1 ≤ get_or xs v 0 → IsVertex n v
in_range n xs long nobody v some = (
  ⊎_elim (λ (l : v < 1). let e : 0 ≡ v = omega arith in absurd (omega (arith, some, subst (λ (k : ℕ). get_or xs k 0 ≡ 0) e nobody))) (λ (l : 1 ≤ v). l) (cases_lt v 1),
  ⊎_elim (λ (l : v < n + 1). omega arith) (λ (l : n + 1 ≤ v). absurd (omega (arith, some, get_or_past xs v 0 (omega (arith, long))))) (cases_lt v (n + 1)),
)

eqb_same : (p q j : ℕ) → p ≡ q → eqb p j ≡ true → eqb q j ≡ true
eqb_same p q j e h = subst (λ (k : ℕ). eqb k j ≡ true) e h

below_upto : (p last : ℕ) → (ltb 0 p && leb p last) ≡ true → 1 ≤ p
below_upto p last h = let ne = upto_marked p last h in ⊎_elim (λ (l : p < 1). absurd (ne (omega arith))) (λ (l : 1 ≤ p). l) (cases_lt p 1)

-- what was looked for has been found, all of it
pub each_found : (n : ℕ) (goes : ℕ → ℕ → Bool) (count last : ℕ) (found turns marks part marks' : List ℕ) → IsSet n goes count found turns marks →
    ((x : VertexSet) → IsClosed goes x → IsTrue (x (get_or found 0 0)) → (v : ℕ) → IsTrue (has found v) → IsTrue (x v)) → IsTrue (has found (get_or found 0 0)) →
    IsSplitOff n goes count last (tail turns) (tail marks) part marks' → mark_of marks' (get_or found 0 0) ≢ 0 → (v : ℕ) → IsTrue (has found v) → 1 ≤ mark_of part v
each_found n goes count last found turns marks part marks' h leads start_in s start_marked v is =
    let start = get_or found 0 0 in
    let r = h.within start start_in in
    let after = s.from_first start r.0 r.1 (tail_at marks start r.0 ∙ h.unmarked start start_in) start_marked in
    let start_yes : marked_upto part last start ≡ true = upto_yes (mark_of part start) last (λ e. absurd (omega (arith, e, after))) (s.to_last start r.0 r.1) in
    below_upto (mark_of part v) last (leads (marked_upto part last) (s.closed last s.more (omega arith)) start_yes v is)

-- a vertex whose part is beyond those of before is one of those looked for
only_found : (n : ℕ) (goes : ℕ → ℕ → Bool) (count last : ℕ) (found turns marks part marks' : List ℕ) → IsSet n goes count found turns marks →
    IsSplitOff n goes count last (tail turns) (tail marks) part marks' → (v : ℕ) → 1 ≤ v → v ≤ n → count < mark_of part v → has found v ≡ true
only_found n goes count last found turns marks part marks' h s v a b l =
    ⊎_elim
    (λ (none : mark_of (tail marks) v ≡ 0). found_by_mark n goes count found turns marks h v a b none)
    (λ ne. absurd (omega (arith, l, s.kept v a b ne, tail_at turns v a, h.to_count v)))
    (cases_eq (mark_of (tail marks) v) 0)

pub AreFurther-walked : (n : ℕ) (arcs : SearchArcs) (goes : ℕ → ℕ → Bool) (count last : ℕ) (found turns marks part marks' new : List ℕ) → HasArcs n arcs goes →
    IsSet n goes count found turns marks → IsSplitOff n goes count last (tail turns) (tail marks) part marks' → IsOver n turns part new →
    AreFurther n goes (λ v. get_or turns v 0) (λ v. get_or new v 0) count last
AreFurther-walked n arcs goes count last found turns marks part marks' new steps h s over =
    let range = in_range n new over.as_long (over.first ∙ h.nobody) in
    record {
      more = s.more;
      kept = λ v some.
          let r = in_range n turns h.turns_length h.nobody v some in
          over.at v r.0 r.1
          ∙ (s.kept v r.0 r.1 (λ none. absurd (omega (arith, some, h.new v (found_by_mark n goes count found turns marks h v r.0 r.1 none))))
          ∙ tail_at turns v r.0);
      after = λ v none some.
          let r = range v some in
          let here = over.at v r.0 r.1 in
          ⊎_elim
          (λ (free : mark_of (tail marks) v ≡ 0). omega (arith, here, s.from_first v r.0 r.1 free (λ q. absurd (omega (arith, some, here, s.left_out v r.0 r.1 q)))))
          (λ ne. absurd (omega (arith, some, here, s.kept v r.0 r.1 ne, tail_at turns v r.0, none)))
          (cases_eq (mark_of (tail marks) v) 0);
      to_last = λ v. ⊎_elim
          (λ (l : get_or new v 0 < 1). omega arith)
          (λ (some : 1 ≤ get_or new v 0). let r = range v some in omega (arith, over.at v r.0 r.1, s.to_last v r.0 r.1))
          (cases_lt (get_or new v 0) 1);
      within = λ v l. range v (omega arith);
      none_empty = λ j a b.
          let w = s.none_empty j a b in
          record { vertex = w.vertex; from_one = w.from_one; to_n = w.to_n; is_in = eqb_same (mark_of part w.vertex) (get_or new w.vertex 0) j (sym (over.at w.vertex w.from_one w.to_n)) w.is_in };
      closed = λ j a b. IsClosed-agree n goes steps.step_from_one steps.step_to_n (marked_upto part j) (listed_upto (λ v. get_or new v 0) j)
          (λ v c d. upto_same (mark_of part v) (get_or new v 0) j (sym (over.at v c d))) (s.closed j (omega arith) b);
      whole = λ x shut u v l same is.
          let p = range u (omega arith) in
          let q = range v (omega (arith, l, same)) in
          let u_at = over.at u p.0 p.1 in
          s.whole x shut u v p.0 p.1 q.0 q.1 (omega (arith, l, u_at)) (sym (over.at v q.0 q.1) ∙ (same ∙ u_at)) is;
    }

pub AreTaken-walked : (n : ℕ) (arcs : SearchArcs) (goes : ℕ → ℕ → Bool) (count last : ℕ) (found turns marks part marks' new : List ℕ) → HasArcs n arcs goes →
    IsSet n goes count found turns marks → ((x : VertexSet) → IsClosed goes x → IsTrue (x (get_or found 0 0)) → (v : ℕ) → IsTrue (has found v) → IsTrue (x v)) →
    IsTrue (has found (get_or found 0 0)) → IsSplitOff n goes count last (tail turns) (tail marks) part marks' → mark_of marks' (get_or found 0 0) ≢ 0 → IsOver n turns part new →
    AreTaken n goes found (λ v. get_or turns v 0) (λ v. get_or new v 0) count last
AreTaken-walked n arcs goes count last found turns marks part marks' new steps h leads start_in s start_marked over = record {
  further = AreFurther-walked n arcs goes count last found turns marks part marks' new steps h s over;
  only = λ v l.
      let r = in_range n new over.as_long (over.first ∙ h.nobody) v (omega arith) in
      only_found n goes count last found turns marks part marks' h s v r.0 r.1 (omega (arith, l, over.at v r.0 r.1));
  each = λ v is.
      let r = h.within v is in
      omega (arith, over.at v r.0 r.1, each_found n goes count last found turns marks part marks' h leads start_in s start_marked v is);
}

-- each vertex has a mark again
pub marked_again : (n : ℕ) (goes : ℕ → ℕ → Bool) (count last : ℕ) (found turns marks part marks' new : List ℕ) → IsSet n goes count found turns marks →
    ((x : VertexSet) → IsClosed goes x → IsTrue (x (get_or found 0 0)) → (v : ℕ) → IsTrue (has found v) → IsTrue (x v)) → IsTrue (has found (get_or found 0 0)) →
    IsSplitOff n goes count last (tail turns) (tail marks) part marks' → mark_of marks' (get_or found 0 0) ≢ 0 → IsOver n marks marks' new →
    (v : ℕ) → 1 ≤ v → v < length new → get_or new v 0 ≢ 0
marked_again n goes count last found turns marks part marks' new h leads start_in s start_marked over v a l none =
    let b : v ≤ n = omega (arith, l, over.as_long) in
    let gone = sym (over.at v a b) ∙ none in
    ⊎_elim
    (λ (yes : has found v ≡ true). absurd (omega (arith, s.left_out v a b gone, each_found n goes count last found turns marks part marks' h leads start_in s start_marked v yes)))
    (λ (no : has found v ≡ false). s.still_marked v a b (λ q. h.marked v a b no (sym (tail_at marks v a) ∙ q)) gone)
    (cases_Bool (has found v))

-- ---- from what is asked of the search

found_all : (P : ℕ → Type 0) (found : List ℕ) → All P found → (v : ℕ) → has found v ≡ true → P v
found_all P found all v is = All-contains P found v all (has_contains found v is)

pub first_found : (found : List ℕ) → 1 ≤ length found → has found (get_or found 0 0) ≡ true
first_found found some = contains_has found (get_or found 0 0) (All-get_or (Contains found) found 0 0 (omega arith) (All-contains_itself found))

written_yes : (found : List ℕ) (number old new v : ℕ) → new ≡ (if has found v then number else old) → has found v ≡ true → new ≡ number
written_yes found number old new v is h = rw h at is

written_no : (found : List ℕ) (number old new v : ℕ) → new ≡ (if has found v then number else old) → has found v ≡ false → new ≡ old
written_no found number old new v is h = rw h at is

pub IsSet-written : (n : ℕ) (goes : ℕ → ℕ → Bool) (count : ℕ) (found turns before marks : List ℕ) → length turns ≡ n + 1 → length before ≡ n + 1 → get_or turns 0 0 ≡ 0 →
    ((v : ℕ) → get_or turns v 0 ≤ count) → ((v : ℕ) → 1 ≤ v → v < length before → get_or before v 0 ≢ 0) → All (IsVertex n) found → All (λ (v : ℕ). get_or turns v 0 ≡ 0) found →
    IsClosed goes (λ v. ltb 0 (get_or turns v 0)) → ((u v : ℕ) → IsTrue (goes u v) → IsTrue (has found u) → (1 ≤ get_or turns v 0) ⊎ IsTrue (has found v)) → count + n < 2 ^ 32 →
    length marks ≡ length before → ((v : ℕ) → get_or marks v 0 ≡ (if has found v then 0 else get_or before v 0)) → IsSet n goes count found turns marks
IsSet-written n goes count found turns before marks long before_long nobody to_count marked within new closed followed few same written = record {
  turns_length = long;
  marks_length = same ∙ before_long;
  nobody = nobody;
  to_count = to_count;
  within = found_all (IsVertex n) found within;
  new = found_all (λ v. get_or turns v 0 ≡ 0) found new;
  unmarked = λ v is. written_yes found 0 (get_or before v 0) (get_or marks v 0) v (written v) is;
  marked = λ v a b no none. marked v a (omega (arith, before_long)) (sym (written_no found 0 (get_or before v 0) (get_or marks v 0) v (written v) no) ∙ none);
  closed = closed;
  followed = followed;
  few = few;
}
