-- Sides that are gathered vertex by vertex and side by side.
use Rattle.std.proofs.Common.{◌≡◌, ℕ, ◌+◌, ◌≤◌, ◌<◌, ⊎_elim, Bool, true, false, ◌&&◌, ◌||◌, eqb, leb, List, [], ◌∷◌, ◌++◌, length, length-append, map, take, get_or, refl, sym, ◌∙◌, ap, arith}
use Rattle.std.specs.Prelude.{◌≢◌}
use Rattle.std.proofs.lemmas.Bool.{cases_eq, eq-eqb, ne_eqb, or_right, and_right, le-leb, lt-leb}
use Rattle.std.specs.List.{All}
use Rattle.std.proofs.lemmas.List.{append_assoc, get_or_append_left, map-append, take_all, take_more}
use Rattle.std.proofs.lemmas.List.Elements.{All-append, All-get_or, All-map, All-cons, All-nil}
use Rattle.cut_definitions.specs.Weight.{VertexSet, either}
use Rattle.cut_definitions.specs.Cuts.{has}
use Rattle.cut_definitions.specs.Scan.{single}
use Rattle.cut_definitions.proofs.Bools.{or_nothing, and_kept}
use Rattle.cut_definitions.proofs.Numbers.{later_same}
use Rattle.vertex_set.specs.Side.{VertexList, listed, members_of}
use Rattle.vertex_set.proofs.Bits.{has-listed, listed-same, listed-none}
use Rattle.component_cuts.specs.Parts.{divided, part_at}
use Rattle.component_cuts.specs.Doubling.{joined_with, doubled, union_of}
use Rattle.component_cuts.proofs.Divided.{part_divided}

-- ---- the vertices of a number

abbrev pub gathered_to : ℕ → List ℕ → ℕ → ℕ → VertexList
gathered_to n part_of number v = listed n (λ u. eqb (get_or part_of u 0) number && leb u v)

pub gathered_start : (n : ℕ) (part_of : List ℕ) (number : ℕ) (side : VertexList) → side ≡ record { vertices = n; members = [] } → side ≡ gathered_to n part_of number 0
gathered_start n part_of number side e =
    e ∙ sym (listed-same n (λ u. eqb (get_or part_of u 0) number && leb u 0) (λ u. false) (λ u one to. and_right (eqb (get_or part_of u 0) number) (leb u 0) (lt-leb u 0 one))
    ∙ listed-none n (λ u. false) (λ u. refl))

pub gathered_in : (n : ℕ) (part_of : List ℕ) (number v : ℕ) → get_or part_of (v + 1) 0 ≡ number →
    listed n (either (has (gathered_to n part_of number v).members) (single (v + 1))) ≡ gathered_to n part_of number (v + 1)
gathered_in n part_of number v is =
    listed-same n (either (has (gathered_to n part_of number v).members) (single (v + 1))) (λ u. eqb (get_or part_of u 0) number && leb u (v + 1))
    (λ u one to.
    let a = eqb (get_or part_of u 0) number in
    let old = has-listed n (λ u. eqb (get_or part_of u 0) number && leb u v) u one to in
    let b = has (gathered_to n part_of number v).members u in
    ⊎_elim
    (λ (e : u ≡ v + 1).
    or_right b (eqb (v + 1) u) (eq-eqb (v + 1) u (sym e))
    ∙ sym (and_kept a (leb u (v + 1)) (le-leb u (v + 1) (omega arith)) ∙ eq-eqb (get_or part_of u 0) number (ap (λ (x : ℕ). get_or part_of x 0) e ∙ is)))
    (λ (ne : u ≢ v + 1). or_nothing b (eqb (v + 1) u) (ne_eqb (v + 1) u (λ q. ne (sym q))) ∙ (old ∙ ap (λ (x : Bool). a && x) (later_same u v ne)))
    (cases_eq u (v + 1)))

pub gathered_out : (n : ℕ) (part_of : List ℕ) (number v : ℕ) → get_or part_of (v + 1) 0 ≢ number → gathered_to n part_of number v ≡ gathered_to n part_of number (v + 1)
gathered_out n part_of number v is_not =
    listed-same n (λ u. eqb (get_or part_of u 0) number && leb u v) (λ u. eqb (get_or part_of u 0) number && leb u (v + 1))
    (λ u one to. ⊎_elim
    (λ (e : u ≡ v + 1).
    let out : eqb (get_or part_of u 0) number ≡ false = ne_eqb (get_or part_of u 0) number (λ q. is_not (ap (λ (x : ℕ). get_or part_of x 0) (sym e) ∙ q)) in
    ap (λ (x : Bool). x && leb u v) out ∙ sym (ap (λ (x : Bool). x && leb u (v + 1)) out))
    (λ (ne : u ≢ v + 1). ap (λ (x : Bool). eqb (get_or part_of u 0) number && x) (later_same u v ne))
    (cases_eq u (v + 1)))

pub gathered_end : (n count : ℕ) (part_of : List ℕ) (number v : ℕ) → n ≤ v → 1 ≤ number → number ≤ count →
    gathered_to n part_of number v ≡ record { vertices = n; members = part_at (divided n count part_of) number }
gathered_end n count part_of number v le one to =
    listed-same n (λ u. eqb (get_or part_of u 0) number && leb u v) (λ u. eqb (get_or part_of u 0) number)
    (λ u low high. and_kept (eqb (get_or part_of u 0) number) (leb u v) (le-leb u v (omega arith)))
    ∙ ap (λ (xs : List ℕ). let s : VertexList = record { vertices = n; members = xs } in s) (sym (part_divided n count part_of number one to))

-- ---- unions with one part

pub joined_twice : (part side : VertexList) → listed part.vertices (either (has (listed part.vertices (either (has []) (has part.members))).members) (has side.members)) ≡ joined_with part side
joined_twice part side =
    listed-same part.vertices (either (has (listed part.vertices (either (has []) (has part.members))).members) (has side.members)) (either (has part.members) (has side.members))
    (λ v one to. ap (λ (b : Bool). b || has side.members v) (has-listed part.vertices (either (has []) (has part.members)) v one to))

pub one_joined : (part : VertexList) (old items : List VertexList) (i : ℕ) (d : VertexList) → i < length old → items ≡ old ++ map (joined_with part) (take i old) →
    items ++ joined_with part (get_or old i d) ∷ [] ≡ old ++ map (joined_with part) (take (i + 1) old)
one_joined part old items i d l e =
    let f = joined_with part in
    ap (λ (xs : List VertexList). xs ++ f (get_or old i d) ∷ []) e
    ∙ (append_assoc old (map f (take i old)) (f (get_or old i d) ∷ [])
    ∙ ap (λ (xs : List VertexList). old ++ xs) (sym (map-append f (take i old) (get_or old i d ∷ [])) ∙ ap (map f) (sym (take_more old i d l))))

-- a place of the old list is one of the list so far, and holds what it held
pub old_place : (part : VertexList) (old items : List VertexList) (i : ℕ) → i < length old → items ≡ old ++ map (joined_with part) (take i old) → i < length items
old_place part old items i l e = omega (arith, ap (λ (xs : List VertexList). length xs) e, length-append old (map (joined_with part) (take i old)))

pub old_side : (part : VertexList) (old items : List VertexList) (i : ℕ) (d : VertexList) → i < length old → items ≡ old ++ map (joined_with part) (take i old) → d ≡ get_or items i d → d ≡ get_or old i d
old_side part old items i d l e at = at ∙ (ap (λ (xs : List VertexList). get_or xs i d) e ∙ get_or_append_left old (map (joined_with part) (take i old)) d i l)

pub side_over : (part : VertexList) (old : List VertexList) (i : ℕ) (d : VertexList) → i < length old → All (λ (s : VertexList). s.vertices ≡ part.vertices) old → d ≡ get_or old i d → d.vertices ≡ part.vertices
side_over part old i d l over at = ap (λ (s : VertexList). s.vertices) at ∙ All-get_or (λ (s : VertexList). s.vertices ≡ part.vertices) old i d l over

-- all sides are joined, and the part is last
pub all_doubled : (part : VertexList) (old items : List VertexList) (i : ℕ) → length old ≤ i → items ≡ old ++ map (joined_with part) (take i old) → items ++ part ∷ [] ≡ doubled part old
all_doubled part old items i le e =
    ap (λ (xs : List VertexList). xs ++ part ∷ []) (e ∙ ap (λ (xs : List VertexList). old ++ map (joined_with part) xs) (take_all i old le)) ∙ append_assoc old (map (joined_with part) old) (part ∷ [])

pub joined_from : (part side first second : VertexList) (n : ℕ) (empty : VertexList) → n ≡ part.vertices → empty ≡ record { vertices = n; members = [] } →
    first ≡ listed empty.vertices (either (has empty.members) (has part.members)) → second ≡ listed first.vertices (either (has first.members) (has side.members)) → second ≡ joined_with part side
joined_from part side first second n empty over none e1 e2 =
    let at : empty ≡ record { vertices = part.vertices; members = [] } = none ∙ ap (λ (k : ℕ). let s : VertexList = record { vertices = k; members = [] } in s) over in
    let first_is = e1 ∙ ap (λ (s : VertexList). listed s.vertices (either (has s.members) (has part.members))) at in
    e2 ∙ (ap (λ (s : VertexList). listed s.vertices (either (has s.members) (has side.members))) first_is ∙ joined_twice part side)

members_joined : (part : VertexList) (xs : List VertexList) → members_of (map (joined_with part) xs) ≡ map (union_of part.vertices part.members) (members_of xs)
members_joined part [] = refl
members_joined part (x ∷ xs) = ap (λ (ys : List (List ℕ)). union_of part.vertices part.members x.members ∷ ys) (members_joined part xs)

pub members_doubled : (part : VertexList) (xs : List VertexList) → members_of (doubled part xs) ≡ members_of xs ++ (map (union_of part.vertices part.members) (members_of xs) ++ part.members ∷ [])
members_doubled part xs =
    let f = λ (s : VertexList). s.members in
    map-append f xs (map (joined_with part) xs ++ part ∷ [])
    ∙ ap (λ (ys : List (List ℕ)). members_of xs ++ ys)
    (map-append f (map (joined_with part) xs) (part ∷ []) ∙ ap (λ (ys : List (List ℕ)). ys ++ part.members ∷ []) (members_joined part xs))

pub over_doubled : (n : ℕ) (part : VertexList) (xs : List VertexList) → part.vertices ≡ n → All (λ (s : VertexList). s.vertices ≡ n) xs → All (λ (s : VertexList). s.vertices ≡ n) (doubled part xs)
over_doubled n part xs e over =
    let P = λ (s : VertexList). s.vertices ≡ n in
    All-append P xs (map (joined_with part) xs ++ part ∷ []) over
    (All-append P (map (joined_with part) xs) (part ∷ []) (All-map P (joined_with part) xs (λ k d l. e)) (All-cons P part [] e (All-nil P)))

-- ---- the vertices of a set, one after another

abbrev pub taken_to : ℕ → VertexSet → ℕ → VertexList
taken_to n s v = listed n (λ u. s u && leb u v)

pub taken_start : (n : ℕ) (s : VertexSet) (side : VertexList) → side ≡ record { vertices = n; members = [] } → side ≡ taken_to n s 0
taken_start n s side e =
    e ∙ sym (listed-same n (λ u. s u && leb u 0) (λ u. false) (λ u one to. and_right (s u) (leb u 0) (lt-leb u 0 one)) ∙ listed-none n (λ u. false) (λ u. refl))

pub taken_in : (n : ℕ) (s : VertexSet) (v : ℕ) → s (v + 1) ≡ true → listed n (either (has (taken_to n s v).members) (single (v + 1))) ≡ taken_to n s (v + 1)
taken_in n s v is =
    listed-same n (either (has (taken_to n s v).members) (single (v + 1))) (λ u. s u && leb u (v + 1))
    (λ u one to.
    let old = has-listed n (λ u. s u && leb u v) u one to in
    let b = has (taken_to n s v).members u in
    ⊎_elim
    (λ (e : u ≡ v + 1). or_right b (eqb (v + 1) u) (eq-eqb (v + 1) u (sym e)) ∙ sym (and_kept (s u) (leb u (v + 1)) (le-leb u (v + 1) (omega arith)) ∙ (ap s e ∙ is)))
    (λ (ne : u ≢ v + 1). or_nothing b (eqb (v + 1) u) (ne_eqb (v + 1) u (λ q. ne (sym q))) ∙ (old ∙ ap (λ (x : Bool). s u && x) (later_same u v ne)))
    (cases_eq u (v + 1)))

pub taken_out : (n : ℕ) (s : VertexSet) (v : ℕ) → s (v + 1) ≡ false → taken_to n s v ≡ taken_to n s (v + 1)
taken_out n s v out =
    listed-same n (λ u. s u && leb u v) (λ u. s u && leb u (v + 1))
    (λ u one to. ⊎_elim
    (λ (e : u ≡ v + 1). let no : s u ≡ false = ap s e ∙ out in ap (λ (x : Bool). x && leb u v) no ∙ sym (ap (λ (x : Bool). x && leb u (v + 1)) no))
    (λ (ne : u ≢ v + 1). ap (λ (x : Bool). s u && x) (later_same u v ne))
    (cases_eq u (v + 1)))

pub taken_end : (n : ℕ) (s : VertexSet) (v : ℕ) → n ≤ v → taken_to n s v ≡ listed n s
taken_end n s v le = listed-same n (λ u. s u && leb u v) s (λ u low high. and_kept (s u) (leb u v) (le-leb u v (omega arith)))
