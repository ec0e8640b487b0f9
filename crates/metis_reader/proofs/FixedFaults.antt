-- Which fault some bytes fix, and which one is that of the whole input, by a reading's findings.
use Rattle.std.proofs.Common.{◌≡◌, ◌<◌, ◌≤◌, ◌^◌, ◌-◌, ℕ, suc, ◌+◌, Bool, true, false, List, [], ◌∷◌, ◌++◌, length, take, drop, Option, None, Some, refl, ap, sym, ◌∙◌, subst, arith, append_assoc, inl, inr, length-append}
use Rattle.std.specs.Prelude.{nat_lt, nat_le, if◌then◌else◌, Result, Ok, Err}
use Rattle.std.specs.List.{filter}
use Rattle.std.proofs.lemmas.Bool.{cases_Bool, cases_lt, lt-ltb, le-ltb, le-leb, lt-leb}
use Rattle.std.proofs.lemmas.List.{length-take, length-take-le, take_all, take-append-le, take-append-drop}
use Rattle.std.proofs.Math.Seq.{take-append-add}
use Rattle.metis_reader.specs.declared.fault.Fault.{Fault}
use Rattle.metis_reader.specs.declared.fault.FaultKind.TheVariants.{InputTooLong}
use Rattle.cut_definitions.specs.Graph.{Graph}
use Rattle.metis_reader.specs.Text.{lines, is_line_feed}
use Rattle.metis_reader.specs.Profile.{Finding, found_at, where_true}
use Rattle.metis_reader.specs.File.{findings, too_long, first, fault_of, fixed, graph_of, edge_list, from_header, is_kept}
use Rattle.metis_reader.specs.Reading.{start, bytes_findings, reading_from, input_end}
use Rattle.metis_reader.proofs.TextLaw.{text_law}
use Rattle.metis_reader.proofs.Running.{findings_append}
use Rattle.metis_reader.proofs.Places.{AllAt, AllFrom, from_append, from_at, from_later, at_input_end, reading_next, bytes_from, head_first, input_parts, first_head, first_second}

take_drop : {X : Type 0} (n : ℕ) (xs : List X) → xs ≡ take n xs ++ drop n xs
take_drop n xs = sym (take-append-drop n xs)

-- the findings of a text, by a reading of it
all_findings : (bytes : List ℕ) → findings bytes ≡ too_long bytes ++ (bytes_findings start bytes ++ input_end (reading_from start bytes))
all_findings bytes = ap (λ fs. too_long bytes ++ fs) (sym (text_law bytes) ∙ input_parts start bytes)

-- what is found after some bytes has a later place
later_from : (front back : List ℕ) (p : ℕ) → p ≤ suc (length front)
    → AllFrom p (bytes_findings (reading_from start front) back ++ input_end (reading_from start (front ++ back)))
later_from front back p le =
    let n : (reading_from start front).next ≡ 1 + length front = reading_next start front in
    let m : (reading_from start (front ++ back)).next ≡ 1 + length (front ++ back) = reading_next start (front ++ back) in
    from_append p (bytes_findings (reading_from start front) back) (input_end (reading_from start (front ++ back)))
    (from_later p (reading_from start front).next _ (omega arith) (bytes_from (reading_from start front) back))
    (from_at p (reading_from start (front ++ back)).next _ (omega (arith, length-append front back)) (at_input_end (reading_from start (front ++ back))))

abbrev after_limit : ℕ → ℕ → Finding
after_limit limit line = record { kind = InputTooLong; place = suc limit; line = line }

abbrev long_by : ℕ → ℕ → Bool → List Finding
long_by limit line b = found_at (suc limit) line (where_true b InputTooLong)

found_first : (long : Bool) (limit line : ℕ) (f : Finding) (others : List Finding) → f.place ≤ limit → AllFrom f.place others
    → first (long_by limit line long ++ (f ∷ others)) ≡ Some f
found_first true limit line f others le h = first_second (after_limit limit line) f others (omega arith) h
found_first false limit line f others le h = first_head f others h

-- the fault of a byte after these
abbrev pub too_long_at : List ℕ → Fault
too_long_at bytes = record { kind = InputTooLong; line = suc (length (filter is_line_feed bytes)) }

-- The bytes within the limit, and those after it.
abbrev pub limit_line : List ℕ → ℕ
limit_line bytes = suc (length (filter is_line_feed (take (2 ^ 33) bytes)))

front_length : (n : ℕ) (bytes : List ℕ) → length (take n bytes) ≤ n
front_length n bytes = omega (arith, length-take n bytes)

front_within : (n : ℕ) (bytes : List ℕ) → length (take n bytes) ≤ length bytes
front_within n bytes = omega (arith, length-take n bytes)

split_findings : (front back : List ℕ) (fs : List Finding) → bytes_findings start front ≡ fs
    → bytes_findings start (front ++ back) ++ input_end (reading_from start (front ++ back))
    ≡ fs ++ (bytes_findings (reading_from start front) back ++ input_end (reading_from start (front ++ back)))
split_findings front back fs e =
    ap (λ found. found ++ input_end (reading_from start (front ++ back))) (findings_append start front back ∙ ap (λ fs. fs ++ bytes_findings (reading_from start front) back) e)
    ∙ append_assoc fs (bytes_findings (reading_from start front) back) (input_end (reading_from start (front ++ back)))

first_within : (front back : List ℕ) (long : Bool) (limit line : ℕ) (f : Finding) (others : List Finding) → length front ≤ limit
    → bytes_findings start front ≡ f ∷ others
    → first (long_by limit line long ++ (bytes_findings start (front ++ back) ++ input_end (reading_from start (front ++ back)))) ≡ Some f
first_within front back long limit line f others le e =
    let head = head_first start front f others e in
    let low : f.place < 1 + length front = head.1 in
    ap (λ fs. first (long_by limit line long ++ fs)) (split_findings front back (f ∷ others) e)
    ∙ found_first long limit line f (others ++ (bytes_findings (reading_from start front) back ++ input_end (reading_from start (front ++ back)))) (omega arith)
    (from_append f.place others _ head.0 (later_from front back f.place (omega arith)))

first_behind : (front back : List ℕ) (limit line : ℕ) → length front ≡ limit → bytes_findings start front ≡ []
    → first (long_by limit line true ++ (bytes_findings start (front ++ back) ++ input_end (reading_from start (front ++ back)))) ≡ Some (after_limit limit line)
first_behind front back limit line le e =
    ap (λ fs. first (after_limit limit line ∷ fs)) (split_findings front back [] e)
    ∙ first_head (after_limit limit line) (bytes_findings (reading_from start front) back ++ input_end (reading_from start (front ++ back)))
    (later_from front back (suc limit) (omega arith))

first_of_findings : (bytes : List ℕ) (o : Option Finding)
    → first (too_long bytes ++ (bytes_findings start (take (2 ^ 33) bytes ++ drop (2 ^ 33) bytes) ++ input_end (reading_from start (take (2 ^ 33) bytes ++ drop (2 ^ 33) bytes)))) ≡ o
    → first (findings bytes) ≡ o
first_of_findings bytes o e =
    ap first (all_findings bytes)
    ∙ ap (λ all. first (too_long bytes ++ (bytes_findings start all ++ input_end (reading_from start all)))) (take_drop (2 ^ 33) bytes)
    ∙ e

fixed_by : ℕ → Option Finding → Option Fault
fixed_by n None = None
fixed_by n (Some f) = if nat_le f.place n then Some (fault_of f) else None

fixed_is : (bytes : List ℕ) (o : Option Finding) → first (findings bytes) ≡ o → fixed bytes ≡ fixed_by (length bytes) o
unfolding fixed fixed_by
fixed_is bytes o e = subst (λ o. elim (first (findings bytes)) [ Some f ↦ (if nat_le f.place (length bytes) then Some (fault_of f) else None) | None ↦ None ] ≡ fixed_by (length bytes) o) e (by (first (findings bytes)))
  where
    by : (o : Option Finding) → elim o [ Some f ↦ (if nat_le f.place (length bytes) then Some (fault_of f) else None) | None ↦ None ] ≡ fixed_by (length bytes) o
    by None = refl
    by (Some f) = refl

fixed_at : (bytes : List ℕ) (f : Finding) → first (findings bytes) ≡ Some f → f.place ≤ length bytes → fixed bytes ≡ Some (fault_of f)
unfolding fixed_by
fixed_at bytes f e le = fixed_is bytes (Some f) e ∙ (rw (le-leb f.place (length bytes) le) refl)

-- The first finding within the limit is the fixed fault.
pub fixed_within : (bytes : List ℕ) (f : Finding) (others : List Finding) → bytes_findings start (take (2 ^ 33) bytes) ≡ f ∷ others → fixed bytes ≡ Some (fault_of f)
fixed_within bytes f others e =
    let low : f.place < 1 + length (take (2 ^ 33) bytes) = (head_first start (take (2 ^ 33) bytes) f others e).1 in
    let within : length (take (2 ^ 33) bytes) ≤ length bytes = front_within (2 ^ 33) bytes in
    fixed_at bytes f
    (first_of_findings bytes (Some f)
    (first_within (take (2 ^ 33) bytes) (drop (2 ^ 33) bytes) (nat_lt (2 ^ 33) (length bytes)) (2 ^ 33) (limit_line bytes) f others (front_length (2 ^ 33) bytes) e))
    (omega arith)

-- If the bytes up to the limit have no fault, the next byte is one.
pub fixed_behind : (bytes : List ℕ) → 2 ^ 33 < length bytes → bytes_findings start (take (2 ^ 33) bytes) ≡ []
    → fixed bytes ≡ Some (too_long_at (take (2 ^ 33) bytes))
fixed_behind bytes long e =
    let test : nat_lt (2 ^ 33) (length bytes) ≡ true = lt-ltb (2 ^ 33) (length bytes) long in
    fixed_at bytes (after_limit (2 ^ 33) (limit_line bytes))
    (first_of_findings bytes (Some (after_limit (2 ^ 33) (limit_line bytes)))
    (rw test (first_behind (take (2 ^ 33) bytes) (drop (2 ^ 33) bytes) (2 ^ 33) (limit_line bytes) (length-take-le (2 ^ 33) bytes (omega arith)) e)))
    (omega arith)

-- Within the limit, and with no finding yet, only the end of the input has faults.
first_at_end : (bytes : List ℕ) → length bytes ≤ 2 ^ 33 → bytes_findings start bytes ≡ [] → first (findings bytes) ≡ first (input_end (reading_from start bytes))
first_at_end bytes short e =
    let test : nat_lt (2 ^ 33) (length bytes) ≡ false = le-ltb (2 ^ 33) (length bytes) short in
    ap first (all_findings bytes ∙ ap (λ fs. too_long bytes ++ (fs ++ input_end (reading_from start bytes))) e)
    ∙ (rw test refl)

at_first : (p : ℕ) (fs : List Finding) (f : Finding) → AllAt p fs → first fs ≡ Some f → f.place ≡ p
at_first p [] f at e = let no : ⊥ = cc in absurd no
at_first p (g ∷ fs) f at e =
    let one : Some g ≡ Some f = sym (first_head g fs (subst (λ q. AllFrom q fs) (sym at.0) (from_at p p fs (omega arith) at.1))) ∙ e in
    let same : g ≡ f = cc in
    ap (λ (f : Finding). f.place) (sym same) ∙ at.0

none_fixed : (n : ℕ) (fs : List Finding) (o : Option Finding) → AllAt (suc n) fs → first fs ≡ o → fixed_by n o ≡ None
unfolding fixed_by
none_fixed n fs None at same = refl
none_fixed n fs (Some f) at same =
    let place : f.place ≡ suc n = at_first (suc n) fs f at same in
    rw (lt-leb f.place n (omega arith)) refl

pub none_within : (bytes : List ℕ) → length bytes ≤ 2 ^ 33 → bytes_findings start bytes ≡ [] → fixed bytes ≡ None
none_within bytes short e =
    let n : (reading_from start bytes).next ≡ 1 + length bytes = reading_next start bytes in
    let m : (reading_from start bytes).next ≡ suc (length bytes) = omega arith in
    fixed_is bytes (first (input_end (reading_from start bytes))) (first_at_end bytes short e)
    ∙ none_fixed (length bytes) (input_end (reading_from start bytes)) (first (input_end (reading_from start bytes)))
    (subst (λ p. AllAt p (input_end (reading_from start bytes))) m (at_input_end (reading_from start bytes))) refl

abbrev answer : Graph → Option Finding → Result Graph Fault
answer g None = Ok g
answer g (Some f) = Err (fault_of f)

graph_by : (bytes : List ℕ) (o : Option Finding) → first (findings bytes) ≡ o → graph_of bytes ≡ answer (edge_list (from_header (filter is_kept (lines bytes)))) o
unfolding graph_of
graph_by bytes o e = subst (λ o. elim (first (findings bytes)) [ Some f ↦ Err (fault_of f) | None ↦ Ok (edge_list (from_header (filter is_kept (lines bytes)))) ] ≡ answer (edge_list (from_header (filter is_kept (lines bytes)))) o) e (by (edge_list (from_header (filter is_kept (lines bytes)))) (first (findings bytes)))
  where
    by : (g : Graph) (o : Option Finding) → elim o [ Some f ↦ Err (fault_of f) | None ↦ Ok g ] ≡ answer g o
    by g None = refl
    by g (Some f) = refl

-- What the input's end finds, once the bytes before it have nothing.
pub refused_at_end : (bytes : List ℕ) (f : Finding) (others : List Finding) → length bytes ≤ 2 ^ 33 → bytes_findings start bytes ≡ []
    → input_end (reading_from start bytes) ≡ f ∷ others → graph_of bytes ≡ Err (fault_of f)
refused_at_end bytes f others short e end =
    let n : (reading_from start bytes).next ≡ 1 + length bytes = reading_next start bytes in
    let at : AllAt (reading_from start bytes).next (f ∷ others) = subst (λ fs. AllAt (reading_from start bytes).next fs) end (at_input_end (reading_from start bytes)) in
    let place : f.place ≡ (reading_from start bytes).next = at.0 in
    graph_by bytes (Some f)
    (first_at_end bytes short e ∙ ap first end ∙ first_head f others (from_at f.place (reading_from start bytes).next others (omega arith) at.1))

pub accepted_at_end : (bytes : List ℕ) → length bytes ≤ 2 ^ 33 → bytes_findings start bytes ≡ []
    → input_end (reading_from start bytes) ≡ [] → graph_of bytes ≡ Ok (edge_list (from_header (filter is_kept (lines bytes))))
accepted_at_end bytes short e end = graph_by bytes None (first_at_end bytes short e ∙ ap first end)

no_fault : (g : Fault) → None ≡ Some g → ⊥
no_fault g e = cc

-- A fixed fault is the first one of the whole input.
first_fixed : (n : ℕ) (g : Fault) (h : Graph) (o : Option Finding) → fixed_by n o ≡ Some g → answer h o ≡ Err g
unfolding fixed_by
first_fixed n g h None e = absurd (no_fault g e)
first_fixed n g h (Some f) e =
    elim (cases_Bool (nat_le f.place n)) [
      | inl t ↦ let e' = rw t at e in let same : fault_of f ≡ g = cc in ap (λ g. Err g) same
      | inr u ↦ absurd (no_fault g (rw u at e))
    ]

pub graph_of_fixed : (bytes : List ℕ) (g : Fault) → fixed bytes ≡ Some g → graph_of bytes ≡ Err g
graph_of_fixed bytes g h =
    graph_by bytes (first (findings bytes)) refl
    ∙ first_fixed (length bytes) g (edge_list (from_header (filter is_kept (lines bytes)))) (first (findings bytes)) (sym (fixed_is bytes (first (findings bytes)) refl) ∙ h)

-- It stays fixed when more bytes come.
stays_long : (bytes more : List ℕ) (g : Fault) (fs : List Finding) → bytes_findings start (take (2 ^ 33) bytes) ≡ fs → 2 ^ 33 < length bytes
    → fixed bytes ≡ Some g → fixed (bytes ++ more) ≡ Some g
stays_long bytes more g (f ∷ others) e long h =
    let full : take (2 ^ 33) (bytes ++ more) ≡ take (2 ^ 33) bytes = take-append-le (2 ^ 33) bytes more (omega arith) in
    fixed_within (bytes ++ more) f others (ap (λ bs. bytes_findings start bs) full ∙ e) ∙ sym (fixed_within bytes f others e) ∙ h
stays_long bytes more g [] e long h =
    let full : take (2 ^ 33) (bytes ++ more) ≡ take (2 ^ 33) bytes = take-append-le (2 ^ 33) bytes more (omega arith) in
    let longer : 2 ^ 33 < length (bytes ++ more) = omega (arith, length-append bytes more) in
    fixed_behind (bytes ++ more) longer (ap (λ bs. bytes_findings start bs) full ∙ e)
    ∙ ap (λ (bs : List ℕ). Some (too_long_at bs)) full
    ∙ sym (fixed_behind bytes long e) ∙ h

stays_short : (bytes more : List ℕ) (g : Fault) (fs : List Finding) → bytes_findings start bytes ≡ fs → length bytes ≤ 2 ^ 33
    → fixed bytes ≡ Some g → fixed (bytes ++ more) ≡ Some g
stays_short bytes more g [] e short h = absurd (no_fault g (sym (none_within bytes short e) ∙ h))
stays_short bytes more g (f ∷ others) e short h =
    let rest : ℕ = 2 ^ 33 - length bytes in
    let whole : length bytes + rest ≡ 2 ^ 33 = omega arith in
    let longer : take (2 ^ 33) (bytes ++ more) ≡ bytes ++ take rest more =
    subst (λ n. take n (bytes ++ more) ≡ bytes ++ take rest more) whole (take-append-add bytes more rest) in
    let found : bytes_findings start (take (2 ^ 33) (bytes ++ more)) ≡ f ∷ (others ++ bytes_findings (reading_from start bytes) (take rest more)) =
    ap (λ bs. bytes_findings start bs) longer ∙ findings_append start bytes (take rest more)
    ∙ ap (λ fs. fs ++ bytes_findings (reading_from start bytes) (take rest more)) e in
    let old : fixed bytes ≡ Some (fault_of f) = fixed_within bytes f others (ap (λ bs. bytes_findings start bs) (take_all (2 ^ 33) bytes short) ∙ e) in
    fixed_within (bytes ++ more) f (others ++ bytes_findings (reading_from start bytes) (take rest more)) found ∙ sym old ∙ h

pub fixed_stays : (bytes more : List ℕ) (g : Fault) → fixed bytes ≡ Some g → fixed (bytes ++ more) ≡ Some g
fixed_stays bytes more g h =
    elim (cases_lt (2 ^ 33) (length bytes)) [
      | inl long ↦ stays_long bytes more g (bytes_findings start (take (2 ^ 33) bytes)) refl long h
      | inr short ↦ stays_short bytes more g (bytes_findings start bytes) refl short h
    ]
