-- The classes that the edges at the first places of arrays join.
use Rattle.std.proofs.Common.{◌≡◌, ℕ, zero, suc, ◌+◌, true, false, not, List, length, map, get_or, refl, sym, ◌∙◌, subst, arith}
use Rattle.std.specs.Prelude.{Bool, ◌↔◌, ◌<◌, if◌then◌else◌}
use Rattle.std.specs.List.{sum_by, range_with_len}
use Rattle.std.proofs.lemmas.Bool.{false≢true}
use Rattle.std.proofs.lemmas.List.FromFn.{sum_by-map-range_with_len_more}
use Rattle.cut_definitions.specs.Weight.{VertexSet, parts, weight}
use Rattle.edge_arrays.specs.Given.{entry, given}
use Rattle.vertex_classes.specs.Classes.{no_vertex, HasJoined, Respects}
use Rattle.vertex_classes.proofs.Numbered.{zero_out}
use Rattle.weighted_graph.specs.Merging.{term}

-- the sets that respect the classes are those that weigh nothing by the first places
abbrev pub AreJoinedBy : List ℕ → List ℕ → List ℕ → ℕ → List ℕ → Type 0
AreJoinedBy us vs ws count parents = (s : VertexSet) → Respects parents s ↔ (sum_by (term (parts s)) (map (entry us vs ws) (range_with_len 0 count)) ≡ 0)

pub by_none : (us vs ws parents : List ℕ) → ((s : VertexSet) → Respects parents s) → AreJoinedBy us vs ws 0 parents
by_none us vs ws parents alone s = (λ r. refl, λ none. alone s)

-- an edge whose ends no set separates joins nothing
pub by_skip : (us vs ws : List ℕ) (count : ℕ) (parents : List ℕ) → AreJoinedBy us vs ws count parents → ((s : VertexSet) → term (parts s) (entry us vs ws count) ≡ 0) → AreJoinedBy us vs ws (count + 1) parents
by_skip us vs ws count parents h none s =
    let more = sum_by-map-range_with_len_more (term (parts s)) (entry us vs ws) 0 count count (omega arith) in
    (λ r. omega (arith, more, none s, (h s).0 r), λ nothing. (h s).1 (omega (arith, more, nothing)))

not_parted : (a b : Bool) (w : ℕ) → a ≡ b → (if (if a then not b else b) then w else 0) ≡ 0
not_parted true true w e = refl
not_parted true false w e = absurd (false≢true (sym e))
not_parted false true w e = absurd (false≢true e)
not_parted false false w e = refl

not_parting : (a b : Bool) (w : ℕ) → 0 < w → (if (if a then not b else b) then w else 0) ≡ 0 → a ≡ b
not_parting true true w some e = refl
not_parting true false w some e = absurd (omega (arith, some, e))
not_parting false true w some e = absurd (omega (arith, some, e))
not_parting false false w some e = refl

pub by_one : (us vs ws : List ℕ) (count : ℕ) (old new : List ℕ) → AreJoinedBy us vs ws count old → 0 < get_or ws count 0 → HasJoined old new (get_or us count 0 + 1) (get_or vs count 0 + 1) → AreJoinedBy us vs ws (count + 1) new
by_one us vs ws count old new h some joined s =
    let a = s (get_or us count 0 + 1) in
    let b = s (get_or vs count 0 + 1) in
    let w = get_or ws count 0 in
    let more = sum_by-map-range_with_len_more (term (parts s)) (entry us vs ws) 0 count count (omega arith) in (
      λ r. let both = (joined.respected s).0 r in omega (arith, more, (h s).0 both.0, not_parted a b w both.1),
      λ nothing. (joined.respected s).1 ((h s).1 (omega (arith, more, nothing)), not_parting a b w some (omega (arith, more, nothing))),
    )

-- once all places were visited
pub by_all : (n : ℕ) (us vs ws : List ℕ) (count : ℕ) (parents : List ℕ) → AreJoinedBy us vs ws count parents → count ≡ length us → (s : VertexSet) → Respects parents s ↔ (weight (given n us vs ws) s ≡ 0)
by_all n us vs ws count parents h all s = subst (λ (k : ℕ). Respects parents s ↔ (sum_by (term (parts s)) (map (entry us vs ws) (range_with_len 0 k)) ≡ 0)) all (h s)

none_of : (us vs ws : List ℕ) (count : ℕ) → sum_by (term (parts no_vertex)) (map (entry us vs ws) (range_with_len 0 count)) ≡ 0
none_of us vs ws zero = refl
none_of us vs ws (suc i) =
    let here = not_parted (no_vertex (get_or us i 0 + 1)) (no_vertex (get_or vs i 0 + 1)) (get_or ws i 0) (zero_out (get_or us i 0 + 1) (omega arith) ∙ sym (zero_out (get_or vs i 0 + 1) (omega arith))) in
    let next : i + 1 ≡ suc i = omega arith in
    subst (λ (k : ℕ). sum_by (term (parts no_vertex)) (map (entry us vs ws) (range_with_len 0 k)) ≡ 0) next
    (omega (arith, here, none_of us vs ws i, sum_by-map-range_with_len_more (term (parts no_vertex)) (entry us vs ws) 0 i i (omega arith)))

-- the number 0 is in no edge, so it is alone
pub zero_alone : (n : ℕ) (us vs ws parents : List ℕ) → ((s : VertexSet) → Respects parents s ↔ (weight (given n us vs ws) s ≡ 0)) → Respects parents no_vertex
zero_alone n us vs ws parents h = (h no_vertex).1 (none_of us vs ws (length us))
