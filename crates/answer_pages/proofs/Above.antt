-- The members of an ascending list above a number, one after another.
use Rattle.std.proofs.Common.{◌≡◌, ℕ, ◌+◌, ◌<◌, ◌≤◌, ⊎_elim, true, false, List, [], ◌∷◌, ◌++◌, refl, sym, ◌∙◌, ap, append_assoc, append-nil, arith}
use Rattle.std.specs.Prelude.{MatchOption, Option, None, Some, Result, Err}
use Rattle.std.specs.Fmt.{decimal}
use Rattle.std.proofs.lemmas.Bool.{cases_lt, lt-ltb, le-ltb, false≢true}
use Rattle.std.proofs.lemmas.List.{flat_map_more}
use Rattle.std.proofs.lemmas.Grind.{flat_map-append}
use Rattle.cut_definitions.specs.Cuts.{has, IsAscendingWithin}
use Rattle.cut_definitions.proofs.Bridge.{has_low, has_first_of}
use Rattle.cut_definitions.proofs.Ascending.{has_other}
use Rattle.vertex_set.specs.Side.{VertexList, IsNextFrom}
use Rattle.answer_pages.specs.Text.{spaced}
use Rattle.answer_pages.specs.Puts.{IsSplit, Puts}
use Rattle.answer_pages.proofs.Putting.{puts_as, puts_after, puts_failed}
use Rattle.answer_pages.specs.Listings.{above}

above_kept : (k x : ℕ) (xs : List ℕ) → k < x → above k (x ∷ xs) ≡ x ∷ above k xs
above_kept k x xs h = rw (lt-ltb k x h) refl

above_left_out : (k x : ℕ) (xs : List ℕ) → x ≤ k → above k (x ∷ xs) ≡ above k xs
above_left_out k x xs h = rw (le-ltb k x h) refl

-- above what is below all of them are all
pub above_all : (low high k : ℕ) (xs : List ℕ) → IsAscendingWithin low high xs → k < low → above k xs ≡ xs
above_all low high k [] a h = refl
above_all low high k (x ∷ xs) a h = above_kept k x xs (omega (arith, a.0)) ∙ ap (λ (l : List ℕ). x ∷ l) (above_all (x + 1) high k xs a.2 (omega (arith, a.0)))

-- above the greatest is none
pub above_end : (low high k : ℕ) (xs : List ℕ) → IsAscendingWithin low high xs → high ≤ k → above k xs ≡ []
above_end low high k [] a h = refl
above_end low high k (x ∷ xs) a h = above_left_out k x xs (omega (arith, a.1)) ∙ above_end (x + 1) high k xs a.2 h

above_none : (k : ℕ) (xs : List ℕ) → ((u : ℕ) → k + 1 ≤ u → has xs u ≡ false) → above k xs ≡ []
above_none k [] none = refl
above_none k (x ∷ xs) none =
    ⊎_elim
    (λ (l : k < x). absurd (false≢true (sym (none x (omega arith)) ∙ has_first_of x xs)))
    (λ (g : x ≤ k). above_left_out k x xs g ∙ above_none k xs (λ u h. sym (has_other x u xs (λ q. omega arith)) ∙ none u h))
    (cases_lt k x)

above_some : (low high k v : ℕ) (xs : List ℕ) → IsAscendingWithin low high xs → k + 1 ≤ v → has xs v ≡ true → ((u : ℕ) → k + 1 ≤ u → u < v → has xs u ≡ false) → above k xs ≡ v ∷ above v xs
above_some low high k v [] a le member none = absurd (false≢true member)
above_some low high k v (x ∷ xs) a le member none =
    ⊎_elim
    (λ (l : k < x).
    let no_less : x < v → ⊥ = λ h. false≢true (sym (none x (omega arith) h) ∙ has_first_of x xs) in
    let no_more : v < x → ⊥ = λ h. false≢true (sym (has_low x high v (x ∷ xs) (omega arith, a.1, a.2) h) ∙ member) in
    let e : x ≡ v = omega (arith, no_less, no_more) in
    above_kept k x xs l
    ∙ (ap (λ (l : List ℕ). x ∷ l) (above_all (x + 1) high k xs a.2 (omega arith) ∙ sym (above_left_out v x xs (omega arith) ∙ above_all (x + 1) high v xs a.2 (omega arith)))
    ∙ ap (λ (y : ℕ). y ∷ above v (x ∷ xs)) e))
    (λ (g : x ≤ k).
    let rest = above_some (x + 1) high k v xs a.2 le (sym (has_other x v xs (λ q. omega arith)) ∙ member)
    (λ u h l. sym (has_other x u xs (λ q. omega arith)) ∙ none u h l) in
    above_left_out k x xs g ∙ (rest ∙ ap (λ (l : List ℕ). v ∷ l) (sym (above_left_out v x xs (omega arith)))))
    (cases_lt k x)

-- what the next member says of those above a number
pub above_next : (s : VertexList) (k : ℕ) (next : Option ℕ) → IsAscendingWithin 1 s.vertices s.members →
    MatchOption next ((u : ℕ) → k + 1 ≤ u → has s.members u ≡ false) (IsNextFrom s (k + 1)) → MatchOption next (above k s.members ≡ []) (λ v. above k s.members ≡ v ∷ above v s.members)
above_next s k None a h = above_none k s.members h
above_next s k (Some v) a h = above_some 1 s.vertices k v s.members a h.not_before h.member h.none_between

-- ---- the members so far, and one more

pub member_put : (a done : List ℕ) (v : ℕ) → (a ++ spaced done) ++ 32 ∷ decimal v ≡ a ++ spaced (done ++ v ∷ [])
member_put a done v = flat_map_more (λ n. 32 ∷ decimal n) a done v

pub members_further : (all done rest : List ℕ) (v : ℕ) → all ≡ done ++ v ∷ rest → all ≡ (done ++ v ∷ []) ++ rest
members_further all done rest v e = e ∙ sym (append_assoc done (v ∷ []) rest)

pub members_put : (a all done rest : List ℕ) (v : ℕ) → all ≡ done ++ v ∷ rest → ((a ++ spaced done) ++ 32 ∷ decimal v) ++ spaced rest ≡ a ++ spaced all
members_put a all done rest v e =
    ap (λ (l : List ℕ). l ++ spaced rest) (member_put a done v)
    ∙ (append_assoc a (spaced (done ++ v ∷ [])) (spaced rest)
    ∙ ap (λ (l : List ℕ). a ++ l) (sym (flat_map-append (λ n. 32 ∷ decimal n) (done ++ v ∷ []) rest) ∙ ap spaced (sym (members_further all done rest v e))))

-- ---- the last page

-- what holds from an empty page on, once what is held was written out too
pub flushed : {T E : Type 0} {page h1 h2 : List ℕ} {t0 t1 t2 : Option (List ℕ)} {m k n : ℕ} {r : Result T E} (b : List ℕ)
    → page ≡ [] → IsSplit (page ++ b) t0 t1 h1 → k ≡ m → Puts h1 t1 t2 k n h2 r → Puts b t0 t2 m n h2 r
flushed {page = page} {h1 = h1} b none p e q =
    puts_as (append-nil (page ++ b) ∙ ap (λ (l : List ℕ). l ++ b) none) (puts_after [] p e (puts_as (sym (append-nil h1)) q))

-- what holds from an empty page on, if a write failed before
pub not_flushed : {T E T2 E2 : Type 0} {page h : List ℕ} {t0 t1 : Option (List ℕ)} {m n : ℕ} {e : E} {x : E2} {r : Result T2 E2} (b : List ℕ)
    → page ≡ [] → r ≡ Err x → Puts {T = T} (page ++ b) t0 t1 m n h (Err e) → Puts b t0 t1 m n h r
not_flushed {page = page} {h = h} b none is p =
    puts_as (append-nil (page ++ b) ∙ ap (λ (l : List ℕ). l ++ b) none) (puts_failed [] h is p)
