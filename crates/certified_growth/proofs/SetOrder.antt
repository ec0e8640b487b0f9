-- One set more behind others, in the order of their owners.
use Rattle.std.proofs.Common.{◌≡◌, ℕ, ◌+◌, ◌<◌, ◌≤◌, ⊎_elim, List, [], ◌∷◌, ◌++◌, map, length, get_or, sym, ◌∙◌, subst, ap, arith}
use Rattle.std.proofs.lemmas.Bool.{cases_lt}
use Rattle.std.proofs.lemmas.List.{length-append, length-map, map-append, get_or_append_left, get_or-append-add}
use Rattle.cut_definitions.specs.Graph.{Graph}
use Rattle.certified_growth.specs.declared.grown_set.GrownSet.{GrownSet}
use Rattle.certified_growth.specs.declared.grown_set.Share.{Share}
use Rattle.certified_growth.specs.GrownSets.{AreInOrder, IsFoundShare, IsGrownSet, sets_at, state_of}
use Rattle.cut_definitions.proofs.ListLaws.{All-back, All-front}
use Rattle.std.specs.List.{All}
use Rattle.certified_growth.specs.Sets.{IsSetOf, SetState}

abbrev none : SetState
none = record { root = 0; count = 0; turns = []; leaves = [] }

pub in_order_more : (g : Graph) (least : ℕ) (owners : List ℕ) (sets : List GrownSet) (s : GrownSet) (own : ℕ) → own ≡ length sets → AreInOrder g least owners sets → IsGrownSet g least owners own s →
    AreInOrder g least owners (sets ++ s ∷ [])
in_order_more g least owners sets s own last are new k l =
    let xs = map state_of sets in
    let long : length xs ≡ length sets = length-map sets state_of in
    let more : length (sets ++ s ∷ []) ≡ length sets + 1 = length-append sets (s ∷ []) in
    let parts : map state_of (sets ++ s ∷ []) ≡ xs ++ state_of s ∷ [] = map-append state_of sets (s ∷ []) in
    ⊎_elim
    (λ (before : k < length sets).
    let e : sets_at (sets ++ s ∷ []) k ≡ sets_at sets k = ap (λ (ys : List SetState). get_or ys k none) parts ∙ get_or_append_left xs (state_of s ∷ []) none k (omega (arith, before, long)) in
    subst (λ (x : SetState). IsSetOf g least owners k x) (sym e) (are k before))
    (λ (past : length sets ≤ k).
    let here : length xs + 0 ≡ k = omega (arith, past, l, more, long) in
    let e : sets_at (sets ++ s ∷ []) k ≡ state_of s =
    ap (λ (ys : List SetState). get_or ys k none) parts ∙ (ap (λ (i : ℕ). get_or (xs ++ state_of s ∷ []) i none) (sym here) ∙ get_or-append-add xs (state_of s ∷ []) 0 none) in
    let me : own ≡ k = omega (arith, last, past, l, more) in
    subst (λ (x : SetState). IsSetOf g least owners k x) (sym e) (subst (λ (i : ℕ). IsSetOf g least owners i (state_of s)) me new))
    (cases_lt k (length sets))

-- the shares before the last one
pub shares_before : (g : Graph) (least : ℕ) (owners : List ℕ) (xs rest : List Share) (s : Share) → xs ≡ rest ++ s ∷ [] → All (IsFoundShare g least owners) xs → All (IsFoundShare g least owners) rest
shares_before g least owners xs rest s is all = All-front (IsFoundShare g least owners) rest (s ∷ []) (subst (All (IsFoundShare g least owners)) is all)

-- the last share
pub last_share : (g : Graph) (least : ℕ) (owners : List ℕ) (xs rest : List Share) (s : Share) → xs ≡ rest ++ s ∷ [] → All (IsFoundShare g least owners) xs → IsFoundShare g least owners s
last_share g least owners xs rest s is all = All-back (IsFoundShare g least owners) rest (s ∷ []) (subst (All (IsFoundShare g least owners)) is all) 0 s (omega arith)
