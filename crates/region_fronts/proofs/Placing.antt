-- The vertices that were put, and where their numbers are once they are sorted.
use Rattle.std.proofs.Common.{◌≡◌, ℕ, ◌<◌, ◌≤◌, ⊎_elim, Bool, eqb, List, [], ◌∷◌, ◌++◌, length, take, drop, set, get_or, sym, ◌∙◌, ap, subst, arith}
use Rattle.std.specs.Prelude.{◌≢◌}
use Rattle.std.specs.List.{All, Contains}
use Rattle.std.specs.List.Sorted.{IsPermutation}
use Rattle.std.proofs.lemmas.Bool.{cases_eq, eq-eqb, ne_eqb, false≢true}
use Rattle.std.proofs.lemmas.List.{get_or-set_same, get_or-set_other, take_at}
use Rattle.std.proofs.lemmas.List.Elements.{All-push, Contains-push, Contains-append_left}
use Rattle.std.proofs.lemmas.List.Quantifiers.{all_pairs_push}
use Rattle.std.proofs.lemmas.List.Sorted.{All-permutation, Contains-permutation, length_permutation}
use Rattle.std.proofs.lemmas.Map.Keys.{IsDistinct-IsPermutation, IsDistinct-from_apart, apart_from_distinct}
use Rattle.region_fronts.specs.declared.parts.Placed.{Placed}
use Rattle.region_fronts.specs.Listed.{AreAllPlaced}

-- ---- one more

new_vertex : (numbers : List ℕ) (placed : List Placed) (v : ℕ) → AreAllPlaced numbers placed → get_or numbers v 0 ≡ 0 → (k : ℕ) (d : Placed) → k < length placed → (get_or placed k d).vertex ≢ v
new_vertex numbers placed v h free k d l e =
    let is = h.numbered k d l in
    let one = h.from_one k d l in
    let z = ap (λ (u : ℕ). get_or numbers u 0) e ∙ free in
    absurd (omega (arith, is, one, z))

pub all_placed_more : (numbers : List ℕ) (placed : List Placed) (v number : ℕ) → AreAllPlaced numbers placed → 1 ≤ number → v < length numbers → get_or numbers v 0 ≡ 0 →
    AreAllPlaced (set numbers v number) (placed ++ record { number = number; vertex = v } ∷ [])
all_placed_more numbers placed v number h one within free =
    let new : Placed = record { number = number; vertex = v } in
    let numbers' = set numbers v number in
    let apart = new_vertex numbers placed v h free in
    let here = get_or-set_same numbers v number 0 within in
    let kept : All (λ (p : Placed). get_or numbers' p.vertex 0 ≡ p.number) placed = λ k d l.
    get_or-set_other numbers v (get_or placed k d).vertex number 0 (apart k d l) ∙ h.numbered k d l in
    record {
      from_one = All-push (λ (p : Placed). 1 ≤ p.number) placed new h.from_one one;
      numbered = All-push (λ (p : Placed). get_or numbers' p.vertex 0 ≡ p.number) placed new kept here;
      every = λ u some. ⊎_elim
          (λ (e : u ≡ v).
          let same : record { number = get_or numbers' u 0; vertex = u } ≡ new = ap (λ (w : ℕ). let p : Placed = record { number = get_or numbers' w 0; vertex = w } in p) e ∙ ap (λ (m : ℕ). let p : Placed = record { number = m; vertex = v } in p) here in
          subst (Contains (placed ++ new ∷ [])) (sym same) (Contains-push placed new))
          (λ (ne : u ≢ v).
          let still = get_or-set_other numbers v u number 0 ne in
          let old : Placed = record { number = get_or numbers u 0; vertex = u } in
          let same : record { number = get_or numbers' u 0; vertex = u } ≡ old = ap (λ (m : ℕ). let p : Placed = record { number = m; vertex = u } in p) still in
          subst (Contains (placed ++ new ∷ [])) (sym same) (Contains-append_left placed (new ∷ []) old (h.every u (omega (arith, still, some)))))
          (cases_eq u v);
      once = all_pairs_push (λ (p q : Placed). p.vertex ≢ q.vertex) placed new h.once apart;
    }

-- ---- another order

abbrev same_vertex : Placed → Placed → Bool
same_vertex p q = eqb p.vertex q.vertex

same_vertex_flips : (p q : Placed) → same_vertex p q ≡ same_vertex q p
same_vertex_flips p q = ⊎_elim
    (λ (e : p.vertex ≡ q.vertex). eq-eqb p.vertex q.vertex e ∙ sym (eq-eqb q.vertex p.vertex (sym e)))
    (λ (ne : p.vertex ≢ q.vertex). ne_eqb p.vertex q.vertex ne ∙ sym (ne_eqb q.vertex p.vertex (λ e. ne (sym e))))
    (cases_eq p.vertex q.vertex)

all_placed_moved : (numbers : List ℕ) (placed moved : List Placed) → IsPermutation placed moved → AreAllPlaced numbers placed → AreAllPlaced numbers moved
all_placed_moved numbers placed moved perm h =
    let distinct = IsDistinct-IsPermutation same_vertex same_vertex_flips placed moved perm
    (IsDistinct-from_apart same_vertex placed (λ i j d l m. ne_eqb (get_or placed i d).vertex (get_or placed j d).vertex (h.once i j d l m))) in
    record {
      from_one = All-permutation (λ (p : Placed). 1 ≤ p.number) placed moved perm h.from_one;
      numbered = All-permutation (λ (p : Placed). get_or numbers p.vertex 0 ≡ p.number) placed moved perm h.numbered;
      every = λ v some. Contains-permutation placed moved (record { number = get_or numbers v 0; vertex = v }) perm (h.every v some);
      once = λ i j d l m e. false≢true (sym (apart_from_distinct same_vertex moved i j d distinct l m) ∙ eq-eqb (get_or moved i d).vertex (get_or moved j d).vertex e);
    }

-- a whole list that was sorted where it lies
pub record IsSortedBack (numbers : List ℕ) (n : ℕ) (old new : List Placed) : Type 0 where
  pub whole : take n (new ++ drop (length new) old) ≡ new
  pub all_placed : AreAllPlaced numbers new

pub sorted_back : (numbers : List ℕ) (n : ℕ) (old lent new : List Placed) → n ≡ length old → lent ≡ old → IsPermutation lent new → AreAllPlaced numbers old → IsSortedBack numbers n old new
sorted_back numbers n old lent new e same moved h =
    let perm = subst (λ (xs : List Placed). IsPermutation xs new) same moved in
    record {
      whole = take_at new (drop (length new) old) n (length_permutation old new perm ∙ sym e);
      all_placed = all_placed_moved numbers old new perm h;
    }

-- ---- bounds
