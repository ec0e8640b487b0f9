-- Vertex lines and their entries: each line's entries are those of its own vertex.
use Rattle.std.proofs.Common.{◌≡◌, ◌≢◌, ◌≤◌, ◌<◌, ◌-◌, ◌+◌, ℕ, suc, Bool, true, false, List, [], ◌∷◌, ◌++◌, map, get_or, arith, inl, inr, ⊎_elim, subst, sym, ap, refl, ◌∙◌, sum_by}
use Rattle.std.specs.Prelude.{◌&&◌, ◌==◌, if◌then◌else◌}
use Rattle.std.specs.List.{Contains, list_any}
use Rattle.std.proofs.lemmas.Bool.{cases_lt, cases_Bool, or_right}
use Rattle.std.proofs.lemmas.Bool.Decides.{nat_tests}
use Rattle.std.proofs.lemmas.List.Sums.{sum_by-cons, sum_by-append}
use Rattle.std.proofs.lemmas.List.Elements.{Contains-append_left, Contains-append_right, Contains-append_cases}
use Rattle.cut_definitions.proofs.Lists.{Contains-here, Contains-there, Contains-cons_cases, Contains-nil}
use Rattle.metis_reader.specs.declared.fault.FaultKind.{FaultKind}
use Rattle.metis_reader.specs.Profile.{Finding, Entry}
use Rattle.metis_reader.specs.File.{VertexLine, all_entries, is_to, has_repeat, first_line}
use Rattle.metis_reader.specs.Ending.{FromVertex, RowsFrom}

-- Membership.

pub from_vertex : (k : ℕ) (es : List Entry) (e : Entry) → FromVertex k es → Contains es e → e.from ≡ k
from_vertex k [] e h has = absurd (Contains-nil e has)
from_vertex k (d ∷ es) e h has = ⊎_elim (λ same. ap (λ (e : Entry). e.from) (sym same) ∙ h.0) (λ t. from_vertex k es e h.1 t) (Contains-cons_cases d es e has)

pub from_rows : (k : ℕ) (vs : List VertexLine) (e : Entry) → RowsFrom k vs → Contains (all_entries vs) e → k ≤ e.from
from_rows k [] e h has = absurd (Contains-nil e has)
from_rows k (v ∷ vs) e h has =
    ⊎_elim
    (λ l. let same : e.from ≡ k = from_vertex k v.entries e h.0 l in omega arith)
    (λ r. let more : suc k ≤ e.from = from_rows (suc k) vs e h.1 r in omega arith)
    (Contains-append_cases v.entries (all_entries vs) e has)

pub any_false : {X : Type 0} (p : X → Bool) (xs : List X) → ((x : X) → Contains xs x → p x ≡ false) → list_any p xs ≡ false
any_false p [] h = refl
any_false p (x ∷ xs) h = rw (h x (Contains-here x xs)) (any_false p xs (λ y has. h y (Contains-there x xs y has)))

pub any_true : {X : Type 0} (p : X → Bool) (xs : List X) (x : X) → Contains xs x → p x ≡ true → list_any p xs ≡ true
any_true p [] x h e = absurd (Contains-nil x h)
any_true p (y ∷ xs) x h e =
    ⊎_elim
    (λ same. let here : p y ≡ true = subst (λ z. p z ≡ true) (sym same) e in rw here refl)
    (λ t. or_right (p y) (list_any p xs) (any_true p xs x t e))
    (Contains-cons_cases y xs x h)

-- How often a neighbour is in the line of a vertex.

abbrev pub is_entry : ℕ → ℕ → Entry → Bool
is_entry x v e = e.from == x && e.to == v

abbrev pub entry_times : ℕ → ℕ → List Entry → ℕ
entry_times x v es = sum_by (λ (e : Entry). if is_entry x v e then 1 else 0) es

pub is_entry_from : (x v : ℕ) (e : Entry) → is_entry x v e ≡ true → (e.from ≡ x) × (e.to ≡ v)
is_entry_from x v e h = (grind (arith, nat_tests), grind (arith, nat_tests))

pub is_entry_of : (x v : ℕ) (e : Entry) → e.from ≡ x → e.to ≡ v → is_entry x v e ≡ true
is_entry_of x v e p q = grind (arith, nat_tests)

pub entry_cons : (x v : ℕ) (e : Entry) (es : List Entry) (b : Bool) → is_entry x v e ≡ b → entry_times x v (e ∷ es) ≡ (if b then 1 else 0) + entry_times x v es
entry_cons x v e es b h =
    sum_by-cons (λ (e : Entry). if is_entry x v e then 1 else 0) e es ∙ ap (λ (b : Bool). (if b then 1 else 0) + entry_times x v es) h

pub entry_append : (x v : ℕ) (es fs : List Entry) → entry_times x v (es ++ fs) ≡ entry_times x v es + entry_times x v fs
entry_append x v es fs = sum_by-append (λ (e : Entry). if is_entry x v e then 1 else 0) es fs

other_vertex : (k x v : ℕ) (es : List Entry) → FromVertex k es → x ≢ k → entry_times x v es ≡ 0
other_vertex k x v [] h ne = refl
other_vertex k x v (e ∷ es) h ne =
    let rest : entry_times x v es ≡ 0 = other_vertex k x v es h.1 ne in
    elim (cases_Bool (is_entry x v e)) [
      | inl t ↦ absurd (ne (sym (is_entry_from x v e t).0 ∙ h.0))
      | inr f ↦ let here : entry_times x v (e ∷ es) ≡ 0 + entry_times x v es = entry_cons x v e es false f in omega arith
    ]

later_rows : (k x v : ℕ) (vs : List VertexLine) → RowsFrom k vs → x < k → entry_times x v (all_entries vs) ≡ 0
later_rows k x v [] h lt = refl
later_rows k x v (l ∷ vs) h lt =
    let here : entry_times x v l.entries ≡ 0 = other_vertex k x v l.entries h.0 (omega arith) in
    let rest : entry_times x v (all_entries vs) ≡ 0 = later_rows (suc k) x v vs h.1 (omega arith) in
    let both : entry_times x v (l.entries ++ all_entries vs) ≡ entry_times x v l.entries + entry_times x v (all_entries vs) = entry_append x v l.entries (all_entries vs) in
    omega arith

no_other : (k t : ℕ) (es : List Entry) (e : Entry) → FromVertex k es → entry_times k t es ≡ 0 → e.to ≡ t → list_any (is_to e) es ≡ false
no_other k t [] e h none same = refl
no_other k t (d ∷ es) e h none same =
    elim (cases_Bool (is_entry k t d)) [
      | inl hit ↦ let here : entry_times k t (d ∷ es) ≡ 1 + entry_times k t es = entry_cons k t d es true hit in absurd (omega arith)
      | inr f ↦
          let here : entry_times k t (d ∷ es) ≡ 0 + entry_times k t es = entry_cons k t d es false f in
          let rest : entry_times k t es ≡ 0 = omega arith in
          let apart : is_to e d ≡ false = elim (cases_Bool (is_to e d)) [
            | inl eq ↦ absurd (false_no_true (sym f ∙ is_entry_of k t d h.0 (sym (same_to e d eq) ∙ same)))
            | inr ne ↦ ne
          ] in
          rw apart (no_other k t es e h.1 rest same)
    ]
  where
    false_no_true : false ≡ true → ⊥
    false_no_true e = cc

    same_to : (e d : Entry) → is_to e d ≡ true → e.to ≡ d.to
    same_to e d h = grind (arith, nat_tests)

some_other : (k t : ℕ) (es : List Entry) (e : Entry) → 1 ≤ entry_times k t es → e.to ≡ t → list_any (is_to e) es ≡ true
some_other k t [] e some same = absurd (omega arith)
some_other k t (d ∷ es) e some same =
    elim (cases_Bool (is_entry k t d)) [
      | inl hit ↦ let eq : is_to e d ≡ true = same_is e d (same ∙ sym (is_entry_from k t d hit).1) in rw eq refl
      | inr f ↦
          let here : entry_times k t (d ∷ es) ≡ 0 + entry_times k t es = entry_cons k t d es false f in
          or_right (is_to e d) (list_any (is_to e) es) (some_other k t es e (omega arith) same)
    ]
  where
    same_is : (e d : Entry) → e.to ≡ d.to → is_to e d ≡ true
    same_is e d h = grind (arith, nat_tests)

entry_more : (k t : ℕ) (e : Entry) (es : List Entry) → entry_times k t es ≤ entry_times k t (e ∷ es)
entry_more k t e es =
    elim (cases_Bool (is_entry k t e)) [
      | inl hit ↦ let here : entry_times k t (e ∷ es) ≡ 1 + entry_times k t es = entry_cons k t e es true hit in omega arith
      | inr f ↦ let here : entry_times k t (e ∷ es) ≡ 0 + entry_times k t es = entry_cons k t e es false f in omega arith
    ]

-- a line repeats a neighbour exactly if that is there twice
once_in_line : (k : ℕ) (es : List Entry) → FromVertex k es → ((t : ℕ) → entry_times k t es ≤ 1) → has_repeat es ≡ false
once_in_line k [] h once = refl
once_in_line k (e ∷ es) h once =
    let own : is_entry k e.to e ≡ true = is_entry_of k e.to e h.0 refl in
    let here : entry_times k e.to (e ∷ es) ≡ 1 + entry_times k e.to es = entry_cons k e.to e es true own in
    let most : entry_times k e.to (e ∷ es) ≤ 1 = once e.to in
    let none : entry_times k e.to es ≡ 0 = omega arith in
    let apart : list_any (is_to e) es ≡ false = no_other k e.to es e h.1 none refl in
    rw apart (once_in_line k es h.1 (λ t. let more : entry_times k t es ≤ entry_times k t (e ∷ es) = entry_more k t e es in let all : entry_times k t (e ∷ es) ≤ 1 = once t in omega arith))

twice_in_line : (k t : ℕ) (es : List Entry) → 2 ≤ entry_times k t es → has_repeat es ≡ true
twice_in_line k t [] h = absurd (omega arith)
twice_in_line k t (e ∷ es) h =
    elim (cases_Bool (is_entry k t e)) [
      | inl hit ↦
          let here : entry_times k t (e ∷ es) ≡ 1 + entry_times k t es = entry_cons k t e es true hit in
          let there : list_any (is_to e) es ≡ true = some_other k t es e (omega arith) (is_entry_from k t e hit).1 in
          rw there refl
      | inr f ↦
          let here : entry_times k t (e ∷ es) ≡ 0 + entry_times k t es = entry_cons k t e es false f in
          or_right (list_any (is_to e) es) (has_repeat es) (twice_in_line k t es (omega arith))
    ]

-- The first line for which a test holds.

abbrev pub repeats : VertexLine → Bool
repeats v = has_repeat v.entries

abbrev pub told : FaultKind → ℕ → ℕ → List Finding
told kind end line = record { kind = kind; place = end; line = line } ∷ []

abbrev pub line_of_vertex : ℕ → ℕ → List VertexLine → ℕ
line_of_vertex k x vs = get_or (map (λ (v : VertexLine). v.number) vs) (x - k) 0

pub repeat_none : (kind : FaultKind) (end k : ℕ) (vs : List VertexLine) → RowsFrom k vs → ((x t : ℕ) → entry_times x t (all_entries vs) ≤ 1) → first_line repeats kind end vs ≡ []
repeat_none kind end k [] rows once = refl
repeat_none kind end k (v ∷ vs) rows once =
    let here : has_repeat v.entries ≡ false = once_in_line k v.entries rows.0 (λ t.
    let both : entry_times k t (v.entries ++ all_entries vs) ≡ entry_times k t v.entries + entry_times k t (all_entries vs) = entry_append k t v.entries (all_entries vs) in
    let most : entry_times k t (v.entries ++ all_entries vs) ≤ 1 = once k t in omega arith) in
    rw here (repeat_none kind end (suc k) vs rows.1 (λ x t.
    let both : entry_times x t (v.entries ++ all_entries vs) ≡ entry_times x t v.entries + entry_times x t (all_entries vs) = entry_append x t v.entries (all_entries vs) in
    let most : entry_times x t (v.entries ++ all_entries vs) ≤ 1 = once x t in omega arith))

pub repeat_some : (kind : FaultKind) (end k x t : ℕ) (vs : List VertexLine) → RowsFrom k vs → k ≤ x → 2 ≤ entry_times x t (all_entries vs)
    → ((y t : ℕ) → y < x → entry_times y t (all_entries vs) ≤ 1) → first_line repeats kind end vs ≡ told kind end (line_of_vertex k x vs)
repeat_some kind end k x t [] rows le twice once = absurd (omega arith)
repeat_some kind end k x t (v ∷ vs) rows le twice once =
    let both : entry_times x t (v.entries ++ all_entries vs) ≡ entry_times x t v.entries + entry_times x t (all_entries vs) = entry_append x t v.entries (all_entries vs) in
    elim (cases_lt k x) [
      | inl later ↦
          let other : entry_times x t v.entries ≡ 0 = other_vertex k x t v.entries rows.0 (omega arith) in
          let here : has_repeat v.entries ≡ false = once_in_line k v.entries rows.0 (λ t.
          let both : entry_times k t (v.entries ++ all_entries vs) ≡ entry_times k t v.entries + entry_times k t (all_entries vs) = entry_append k t v.entries (all_entries vs) in
          let most : entry_times k t (v.entries ++ all_entries vs) ≤ 1 = once k t later in omega arith) in
          let line : x - k ≡ suc (x - suc k) = omega arith in
          let more = repeat_some kind end (suc k) x t vs rows.1 later (omega arith) (λ y t lt.
          let both : entry_times y t (v.entries ++ all_entries vs) ≡ entry_times y t v.entries + entry_times y t (all_entries vs) = entry_append y t v.entries (all_entries vs) in
          let most : entry_times y t (v.entries ++ all_entries vs) ≤ 1 = once y t lt in omega arith) in
          rw here (more ∙ ap (λ (n : ℕ). told kind end (get_or (v.number ∷ map (λ (v : VertexLine). v.number) vs) n 0)) (sym line))
      | inr now ↦
          let same : x ≡ k = omega arith in
          let rest : entry_times x t (all_entries vs) ≡ 0 = later_rows (suc k) x t vs rows.1 (omega arith) in
          let here : has_repeat v.entries ≡ true = twice_in_line x t v.entries (omega arith) in
          let line : x - k ≡ 0 = omega arith in
          rw here (ap (λ (n : ℕ). told kind end (get_or (v.number ∷ map (λ (v : VertexLine). v.number) vs) n 0)) (sym line))
    ]

abbrev pub has_any : (Entry → Bool) → VertexLine → Bool
has_any p v = list_any p v.entries

pub any_none : (p : Entry → Bool) (kind : FaultKind) (end : ℕ) (vs : List VertexLine) → ((e : Entry) → Contains (all_entries vs) e → p e ≡ false) → first_line (has_any p) kind end vs ≡ []
any_none p kind end [] h = refl
any_none p kind end (v ∷ vs) h =
    let here : list_any p v.entries ≡ false = any_false p v.entries (λ e has. h e (Contains-append_left v.entries (all_entries vs) e has)) in
    rw here (any_none p kind end vs (λ e has. h e (Contains-append_right v.entries (all_entries vs) e has)))

pub any_some : (p : Entry → Bool) (kind : FaultKind) (end k x : ℕ) (e : Entry) (vs : List VertexLine) → RowsFrom k vs → Contains (all_entries vs) e → e.from ≡ x → p e ≡ true
    → ((d : Entry) → Contains (all_entries vs) d → d.from < x → p d ≡ false) → first_line (has_any p) kind end vs ≡ told kind end (line_of_vertex k x vs)
any_some p kind end k x e [] rows has from is low = absurd (Contains-nil e has)
any_some p kind end k x e (v ∷ vs) rows has from is low =
    ⊎_elim
    (λ l.
    let same : e.from ≡ k = from_vertex k v.entries e rows.0 l in
    let here : list_any p v.entries ≡ true = any_true p v.entries e l is in
    let line : x - k ≡ 0 = omega arith in
    rw here (ap (λ (n : ℕ). told kind end (get_or (v.number ∷ map (λ (v : VertexLine). v.number) vs) n 0)) (sym line)))
    (λ r.
    let later : suc k ≤ e.from = from_rows (suc k) vs e rows.1 r in
    let here : list_any p v.entries ≡ false = any_false p v.entries (λ d has. let own : d.from ≡ k = from_vertex k v.entries d rows.0 has in low d (Contains-append_left v.entries (all_entries vs) d has) (omega arith)) in
    let line : x - k ≡ suc (x - suc k) = omega arith in
    let more = any_some p kind end (suc k) x e vs rows.1 r from is (λ d has lt. low d (Contains-append_right v.entries (all_entries vs) d has) lt) in
    rw here (more ∙ ap (λ (n : ℕ). told kind end (get_or (v.number ∷ map (λ (v : VertexLine). v.number) vs) n 0)) (sym line)))
    (Contains-append_cases v.entries (all_entries vs) e has)
