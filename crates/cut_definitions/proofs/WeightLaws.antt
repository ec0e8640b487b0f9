-- Laws on the weights of sets.
use Rattle.std.proofs.Common.{◌≡◌, ℕ, ◌+◌, ◌*◌, ◌≤◌, Bool, true, false, not, ◌&&◌, ◌||◌, arith, ⊎_elim, List, [], ◌∷◌, ap}
use Rattle.std.specs.Bool.{if◌then◌else◌}
use Rattle.std.proofs.lemmas.Bool.{or_left, cases_Bool}
use Rattle.cut_definitions.specs.declared.edge_list.Edge.{Edge}
use Rattle.cut_definitions.specs.Graph.{Graph}
use Rattle.cut_definitions.specs.Weight.{VertexSet, weight, between, complement, both, either, minus, neither, HasVertex, IsCut, IsMinimumCut}
use Rattle.cut_definitions.specs.Laws.{Cross, CornersAreMinimum}
use Rattle.cut_definitions.proofs.Sums.{sum_by-plus, sum_by-twice, sum_by-same}
use Rattle.std.specs.List.{Contains, sum_by}
use Rattle.std.proofs.lemmas.List.Sums.{sum_by-cons}
use Rattle.cut_definitions.proofs.Lists.{Contains-here, Contains-there}

-- what an edge of weight w adds to the weight of a set that has its ends or not
abbrev pub cut_of : Bool → Bool → ℕ → ℕ
cut_of a b w = if (if a then not b else b) then w else 0

-- what it adds to the weight between two sets, where a and b say which ends the first has, c and d the second
abbrev pub join_of : Bool → Bool → Bool → Bool → ℕ → ℕ
join_of a b c d w = if (a && d || c && b) then w else 0

-- the term of an edge in the weight of a set, and in the weight between two
abbrev pub cut_term : VertexSet → Edge → ℕ
cut_term s e = cut_of (s e.u) (s e.v) e.w

abbrev pub join_term : VertexSet → VertexSet → Edge → ℕ
join_term s t e = join_of (s e.u) (s e.v) (t e.u) (t e.v) e.w

edge-complement : (a b : Bool) (w : ℕ) → cut_of (not a) (not b) w ≡ cut_of a b w
edge-complement a b w = grind arith

pub weight-complement : (g : Graph) (s : VertexSet) → weight g (complement s) ≡ weight g s
weight-complement g s =
    sum_by-same (cut_term (complement s)) (cut_term s) (λ e. edge-complement (s e.u) (s e.v) e.w) g.edges

edge-crossing : (a b c d : Bool) (w : ℕ) →
    cut_of a b w + cut_of c d w
    ≡ (cut_of (a && c) (b && d) w + cut_of (a || c) (b || d) w) + 2 * join_of (a && not c) (b && not d) (c && not a) (d && not b) w
edge-crossing a b c d w = grind arith

-- w(S) + w(T) = w(S and T) + w(S or T) + 2 c(S minus T, T minus S)
pub weight-both-either : (g : Graph) (s t : VertexSet) →
    weight g s + weight g t ≡ (weight g (both s t) + weight g (either s t)) + 2 * between g (minus s t) (minus t s)
weight-both-either g s t =
    let f = cut_term s in
    let h = cut_term t in
    let p = cut_term (both s t) in
    let q = cut_term (either s t) in
    let j = join_term (minus s t) (minus t s) in
    let each : (e : Edge) → f e + h e ≡ (p e + q e) + 2 * j e = λ e. edge-crossing (s e.u) (s e.v) (t e.u) (t e.v) e.w in
    omega (
      arith,
      sum_by-plus f h g.edges,
      sum_by-plus p q g.edges,
      sum_by-plus (λ e. p e + q e) (λ e. 2 * j e) g.edges,
      sum_by-twice j g.edges,
      sum_by-same (λ e. f e + h e) (λ e. (p e + q e) + 2 * j e) each g.edges,
    )

edge-corners : (a b c d : Bool) (w : ℕ) →
    cut_of a b w + cut_of c d w
    ≡ (cut_of (a && not c) (b && not d) w + cut_of (c && not a) (d && not b) w)
    + 2 * join_of (a && c) (b && d) (not a && not c) (not b && not d) w
edge-corners a b c d w = grind arith

-- w(S) + w(T) = w(S minus T) + w(T minus S) + 2 c(S and T, outside both)
pub weight-minus-minus : (g : Graph) (s t : VertexSet) →
    weight g s + weight g t ≡ (weight g (minus s t) + weight g (minus t s)) + 2 * between g (both s t) (neither s t)
weight-minus-minus g s t =
    let f = cut_term s in
    let h = cut_term t in
    let p = cut_term (minus s t) in
    let q = cut_term (minus t s) in
    let j = join_term (both s t) (neither s t) in
    let each : (e : Edge) → f e + h e ≡ (p e + q e) + 2 * j e = λ e. edge-corners (s e.u) (s e.v) (t e.u) (t e.v) e.w in
    omega (
      arith,
      sum_by-plus f h g.edges,
      sum_by-plus p q g.edges,
      sum_by-plus (λ e. p e + q e) (λ e. 2 * j e) g.edges,
      sum_by-twice j g.edges,
      sum_by-same (λ e. f e + h e) (λ e. (p e + q e) + 2 * j e) each g.edges,
    )

-- a set has a vertex if it has all that another has
pub HasVertex-more : (n : ℕ) (s t : VertexSet) → ((v : ℕ) → s v ≡ true → t v ≡ true) → HasVertex n s → HasVertex n t
HasVertex-more n s t sub h = record { vertex = h.vertex; from_one = h.from_one; to_n = h.to_n; is_in = sub h.vertex h.is_in }

-- a cut that weighs no more than a minimum cut is one too
pub IsMinimumCut-from_le : (g : Graph) (s t : VertexSet) → IsMinimumCut g s → IsCut g.vertices t → weight g t ≤ weight g s → IsMinimumCut g t
IsMinimumCut-from_le g s t h c le =
    record { is_cut = c; least = λ r k. let far : weight g s ≤ weight g r = h.least r k in omega arith }

both_out : (a b : Bool) → not a ≡ true → not (a && b) ≡ true
both_out a b h = grind arith

minus_out : (a b : Bool) → not a ≡ true → not (a && not b) ≡ true
minus_out a b h = grind arith

either_out : (a b : Bool) → (not a && not b) ≡ true → not (a || b) ≡ true
either_out a b h = grind arith

pub crossing : (g : Graph) (s t : VertexSet) →
    IsMinimumCut g s → IsMinimumCut g t → Cross g.vertices s t → CornersAreMinimum g s t
crossing g s t hs ht x =
    let n = g.vertices in
    let inside : IsCut n (both s t) = record {
      some_in = x.inside;
      some_out = HasVertex-more n (complement s) (complement (both s t)) (λ v. both_out (s v) (t v)) hs.is_cut.some_out;
    } in
    let union : IsCut n (either s t) = record {
      some_in = HasVertex-more n s (either s t) (λ v. or_left (s v) (t v)) hs.is_cut.some_in;
      some_out = HasVertex-more n (neither s t) (complement (either s t)) (λ v. either_out (s v) (t v)) x.outside;
    } in
    let first : IsCut n (minus s t) = record {
      some_in = x.first;
      some_out = HasVertex-more n (complement s) (complement (minus s t)) (λ v. minus_out (s v) (t v)) hs.is_cut.some_out;
    } in
    let second : IsCut n (minus t s) = record {
      some_in = x.second;
      some_out = HasVertex-more n (complement t) (complement (minus t s)) (λ v. minus_out (t v) (s v)) ht.is_cut.some_out;
    } in
    let law1 = weight-both-either g s t in
    let law2 = weight-minus-minus g s t in
    let st : weight g s ≤ weight g t = hs.least t ht.is_cut in
    let ts : weight g t ≤ weight g s = ht.least s hs.is_cut in
    let a : weight g s ≤ weight g (both s t) = hs.least _ inside in
    let b : weight g s ≤ weight g (either s t) = hs.least _ union in
    let c : weight g s ≤ weight g (minus s t) = hs.least _ first in
    let d : weight g s ≤ weight g (minus t s) = hs.least _ second in
    record {
      inside = IsMinimumCut-from_le g s _ hs inside (omega arith);
      first = IsMinimumCut-from_le g s _ hs first (omega arith);
      second = IsMinimumCut-from_le g s _ hs second (omega arith);
      union = IsMinimumCut-from_le g s _ hs union (omega arith);
      none_joins_sides = omega arith;
      none_joins_ends = omega arith;
    }

edge-apart : (a b c d : Bool) (w : ℕ) → (a && c) ≡ false → (b && d) ≡ false → cut_of (a || c) (b || d) w + 2 * join_of a b c d w ≡ cut_of a b w + cut_of c d w
edge-apart a b c d w h k = grind arith

-- two sets that share no vertex: what lies between them counts in each of their weights and not in that of their union
pub weight-apart : (g : Graph) (s t : VertexSet) → ((v : ℕ) → (s v && t v) ≡ false) → weight g (either s t) + 2 * between g s t ≡ weight g s + weight g t
weight-apart g s t apart =
    let f = cut_term s in
    let h = cut_term t in
    let p = cut_term (either s t) in
    let j = join_term s t in
    let each : (e : Edge) → p e + 2 * j e ≡ f e + h e = λ e. edge-apart (s e.u) (s e.v) (t e.u) (t e.v) e.w (apart e.u) (apart e.v) in
    omega (
      arith,
      sum_by-plus f h g.edges,
      sum_by-plus p (λ e. 2 * j e) g.edges,
      sum_by-twice j g.edges,
      sum_by-same (λ e. p e + 2 * j e) (λ e. f e + h e) each g.edges,
    )

-- a sum that is not 0 has a term that is not 0
left_over : (a b c : ℕ) → 1 ≤ a → a ≡ b + c → b ≡ 0 → 1 ≤ c
left_over a b c h e k = omega arith

pub some_term : (p : Edge → Bool) (es : List Edge) → 1 ≤ sum_by (λ (e : Edge). if p e then e.w else 0) es → (e : Edge) × Contains es e × (p e ≡ true)
some_term p [] h = absurd (omega arith)
some_term p (e ∷ es) h = ⊎_elim
    (λ (k : p e ≡ true). (e, Contains-here e es, k))
    (λ (k : p e ≡ false).
    let none : (if p e then e.w else 0) ≡ 0 = ap (λ (b : Bool). if b then e.w else 0) k in
    let f = λ (d : Edge). if p d then d.w else 0 in
    let r = some_term p es (left_over (sum_by f (e ∷ es)) (f e) (sum_by f es) h (sum_by-cons f e es) none) in (r.0, Contains-there e es r.0 r.1, r.2))
    (cases_Bool (p e))
