-- The order of two sets by the least place whose bit only one of them has.
use Rattle.std.proofs.Common.{Ordering, ◌≡◌, ℕ, ◌/◌, ◌<◌, ◌≤◌, inl, inr, ⊎_elim, Bool, true, false, List, length, sym, ◌∙◌, ap, arith}
use Rattle.std.specs.Prelude.{◌≢◌}
use Rattle.std.specs.Ordering.{nat_cmp, ordering_then, ordering_reverse}
use Rattle.std.specs.Cmp.Lexicographic.{slice_cmp}
use Rattle.std.proofs.lemmas.Bool.{cases_lt, cases_Bool}
use Rattle.cut_definitions.specs.Cuts.{has}
use Rattle.cut_definitions.proofs.Orderings.{then_less}
use Rattle.vertex_set.specs.Side.{VertexList, listed, has_bit, AreWords, IsFirstDifference, IsOrderAt}
use Rattle.vertex_set.proofs.Members.{members_are_bits, ascending_members, same_vertices}
use Rattle.vertex_set.proofs.Compared.{AreCompared, cmp_differs, compared_to_end, then_greater}

other_is_out : (a b : Bool) → a ≢ b → a ≡ true → b ≡ false
other_is_out a b ne is = ⊎_elim (λ (h : b ≡ true). absurd (ne (is ∙ sym h))) (λ (h : b ≡ false). h) (cases_Bool b)

pub other_is_in : (a b : Bool) → a ≢ b → a ≡ false → b ≡ true
other_is_in a b ne is = ⊎_elim (λ (h : b ≡ true). h) (λ (h : b ≡ false). absurd (ne (is ∙ sym h))) (cases_Bool b)

pub difference-swap : (a b : List ℕ) (place : ℕ) → IsFirstDifference a b place → IsFirstDifference b a place
difference-swap a b place h = record {
  in_words = h.in_others;
  in_others = h.in_words;
  differ = λ q. h.differ (sym q);
  same_before = λ k l. sym (h.same_before k l);
}

-- if the bit is set for s, and some bit from it on is set for t, then s comes first, and else t
pub compared_at : (m n : ℕ) (a b : List ℕ) (s t : VertexList) → AreWords m a → AreWords n b → listed m (has_bit a) ≡ s → listed n (has_bit b) ≡ t →
    (place : ℕ) → IsFirstDifference a b place → has_bit a place ≡ true → (order rest : Ordering) → IsOrderAt b place order →
    (order ≡ ordering_then (slice_cmp nat_cmp s.members t.members) rest) × (ordering_reverse order ≡ ordering_then (slice_cmp nat_cmp t.members s.members) rest)
compared_at m n a b s t ka kb va vb place d is order rest h =
    let in_a = members_are_bits m a s ka va in
    let in_b = members_are_bits n b t kb vb in
    let one : 1 ≤ place = (ka.within place is).0 in
    let differ = cmp_differs 1 s.vertices t.vertices place s.members t.members (ascending_members m a s va) (ascending_members n b t vb) one
    (λ u l k. in_a u ∙ (d.same_before u k ∙ sym (in_b u))) (in_a place ∙ is) (in_b place ∙ other_is_out (has_bit a place) (has_bit b place) d.differ is) in
    let st = slice_cmp nat_cmp s.members t.members in
    let ts = slice_cmp nat_cmp t.members s.members in
    ⊎_elim
    (λ some. let e = differ.0 some.1 some.2 (in_b some.1 ∙ some.3) in
    (some.0 ∙ sym (then_less st rest e.0), ap ordering_reverse some.0 ∙ sym (then_greater ts rest e.1)))
    (λ none. let e = differ.1 (λ u l. in_b u ∙ none.1 u l) in
    (none.0 ∙ sym (then_greater st rest e.0), ap ordering_reverse none.0 ∙ sym (then_less ts rest e.1)))
    h

-- if no bit differs, n decides
pub compared_all : (m n : ℕ) (a b : List ℕ) (s t : VertexList) → AreWords m a → AreWords n b → listed m (has_bit a) ≡ s → listed n (has_bit b) ≡ t →
    ((k : ℕ) → k / 64 < length a → k / 64 < length b → has_bit a k ≡ has_bit b k) →
    nat_cmp m n ≡ ordering_then (slice_cmp nat_cmp s.members t.members) (nat_cmp s.vertices t.vertices)
compared_all m n a b s t ka kb va vb same =
    let sm = same_vertices m a s va in
    let tn = same_vertices n b t vb in
    let asc : AreCompared s t = record { of_s = ascending_members m a s va; of_t = ascending_members n b t vb } in
    let agree : (u : ℕ) → u ≤ m → u ≤ n → has s.members u ≡ has t.members u =
    λ u x y. members_are_bits m a s ka va u ∙ (same u (omega (arith, ka.long)) (omega (arith, kb.long)) ∙ sym (members_are_bits n b t kb vb u)) in
    let end = ⊎_elim
    (λ (l : m < n). compared_to_end s t asc m (inl (omega arith)) (λ u x y. agree u y (omega arith)))
    (λ (l : n ≤ m). compared_to_end s t asc n (inr (omega arith)) (λ u x y. agree u (omega arith) y))
    (cases_lt m n) in
    ap (λ (x : ℕ). nat_cmp x n) sm ∙ (ap (nat_cmp s.vertices) tn ∙ sym end)
