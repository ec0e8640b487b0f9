-- The places of findings: a reading finds in the order of places, so its first finding is the first one of all.
use Rattle.std.proofs.Common.{◌≡◌, ◌<◌, ◌≤◌, ℕ, suc, ◌+◌, ◌*◌, Bool, true, false, List, [], ◌∷◌, ◌++◌, length, Option, None, Some, refl, ap, sym, ◌∙◌, subst, arith, append_assoc, inl, inr}
use Rattle.std.specs.Prelude.{◌==◌, nat_lt, if◌then◌else◌}
use Rattle.std.specs.List.{filter, list_any}
use Rattle.std.proofs.lemmas.Bool.{cases_Bool, lt-ltb}
use Rattle.std.proofs.lemmas.Bool.Decides.{nat_tests}
use Rattle.metis_reader.specs.declared.fault.FaultKind.{FaultKind}
use Rattle.metis_reader.specs.declared.line_part.LinePart.{LinePart}
use Rattle.metis_reader.specs.declared.line_part.LinePart.TheVariants.{Start, Words, Comment}
use Rattle.metis_reader.specs.Text.{is_line_feed, is_blank}
use Rattle.metis_reader.specs.declared.fault.FaultKind.TheVariants.{MissingLines, TooFewEntries, Repeated, Unsymmetric}
use Rattle.metis_reader.specs.Profile.{Finding, Header, found_at, where_true}
use Rattle.metis_reader.specs.File.{VertexLine, first, earlier, first_line, end_findings, all_entries, has_repeat, lacks_mate}
use Rattle.metis_reader.specs.Machine.{State, AtHeader, InLine, AtWeight, After, final_findings, word_faults, line_faults}
use Rattle.metis_reader.specs.Reading.{Reading, word_end, word_end_state, line_end, line_end_state, byte_findings, byte_findings_by, after_byte, after_byte_by, input_end, reading_from, bytes_findings, input_findings}

-- all of these are at this place, or none before it
abbrev pub AllAt : ℕ → List Finding → Type 0
AllAt p [] = Unit {0}
AllAt p (f ∷ fs) = (f.place ≡ p) × AllAt p fs

abbrev pub AllFrom : ℕ → List Finding → Type 0
AllFrom p [] = Unit {0}
AllFrom p (f ∷ fs) = (p ≤ f.place) × AllFrom p fs

at_append : (p : ℕ) (fs gs : List Finding) → AllAt p fs → AllAt p gs → AllAt p (fs ++ gs)
at_append p [] gs h k = k
at_append p (f ∷ fs) gs h k = (h.0, at_append p fs gs h.1 k)

pub from_append : (p : ℕ) (fs gs : List Finding) → AllFrom p fs → AllFrom p gs → AllFrom p (fs ++ gs)
from_append p [] gs h k = k
from_append p (f ∷ fs) gs h k = (h.0, from_append p fs gs h.1 k)

pub from_at : (p q : ℕ) (fs : List Finding) → p ≤ q → AllAt q fs → AllFrom p fs
from_at p q [] le h = tt
from_at p q (f ∷ fs) le h = let here : f.place ≡ q = h.0 in (omega arith, from_at p q fs le h.1)

pub from_later : (p q : ℕ) (fs : List Finding) → p ≤ q → AllFrom q fs → AllFrom p fs
from_later p q [] le h = tt
from_later p q (f ∷ fs) le h = let here : q ≤ f.place = h.0 in (omega arith, from_later p q fs le h.1)

at_found : (place line : ℕ) (kinds : List FaultKind) → AllAt place (found_at place line kinds)
at_found place line [] = tt
at_found place line (kind ∷ kinds) = (refl, at_found place line kinds)

at_word_end : (s : State) (word : List ℕ) (place line : ℕ) → AllAt place (word_end s word place line)
at_word_end s [] place line = tt
at_word_end s (b ∷ bytes) place line = at_found place line (word_faults s (record { bytes = b ∷ bytes; place = place }))

at_line_end : (s : State) (word : List ℕ) (place line : ℕ) → AllAt place (line_end s word place line)
at_line_end s word place line =
    at_append place (word_end s word place line) (found_at place line (line_faults (word_end_state s word place))) (at_word_end s word place line)
    (at_found place line (line_faults (word_end_state s word place)))

at_byte_by : (feed blank : Bool) (part : LinePart) (s : State) (word : List ℕ) (ended next : ℕ)
    → AllAt next (byte_findings_by feed blank (record { state = s; part = part; word = word; ended = ended; next = next }))
at_byte_by true blank Start s word ended next = at_line_end s word next (suc ended)
at_byte_by true blank Words s word ended next = at_line_end s word next (suc ended)
at_byte_by true blank Comment s word ended next = tt
at_byte_by false true Start s word ended next = at_word_end s word next (suc ended)
at_byte_by false true Words s word ended next = at_word_end s word next (suc ended)
at_byte_by false true Comment s word ended next = tt
at_byte_by false false part s word ended next = tt

at_byte : (r : Reading) (b : ℕ) → AllAt r.next (byte_findings r b)
at_byte r b = at_byte_by (is_line_feed b) (is_blank b) r.part r.state r.word r.ended r.next

at_first_line : (test : VertexLine → Bool) (kind : FaultKind) (end : ℕ) (vs : List VertexLine) → AllAt end (first_line test kind end vs)
at_first_line test kind end [] = tt
at_first_line test kind end (v ∷ vs) = elim (cases_Bool (test v)) [ inl t ↦ rw t (refl, tt) | inr f ↦ rw f (at_first_line test kind end vs) ]

at_end : (header : Header) (end count : ℕ) (vs : List VertexLine) → AllAt end (end_findings header end count vs)
at_end header end count vs =
    let missing : List Finding = found_at end count (where_true (nat_lt (length vs) header.vertices) MissingLines) in
    let few : List Finding = found_at end count (where_true (nat_lt (length (all_entries vs)) (2 * header.edges)) TooFewEntries) in
    let repeated : List Finding = first_line (λ v. has_repeat v.entries) Repeated end vs in
    let unsymmetric : List Finding = first_line (λ v. list_any (lacks_mate (all_entries vs)) v.entries) Unsymmetric end vs in
    at_append end ((missing ++ few) ++ repeated) unsymmetric
    (at_append end (missing ++ few) repeated
    (at_append end missing few (at_found end count (where_true (nat_lt (length vs) header.vertices) MissingLines))
    (at_found end count (where_true (nat_lt (length (all_entries vs)) (2 * header.edges)) TooFewEntries)))
    (at_first_line (λ v. has_repeat v.entries) Repeated end vs))
    (at_first_line (λ v. list_any (lacks_mate (all_entries vs)) v.entries) Unsymmetric end vs)

at_final : (s : State) (end count : ℕ) → AllAt end (final_findings s end count)
at_final (AtHeader words) end count = (refl, tt)
at_final (InLine header done mass here leading left) end count = at_end header end count done
at_final (AtWeight header done mass here neighbour left) end count = at_end header end count done
at_final (After header done) end count = at_end header end count done

at_input_end_by : (part : LinePart) (s : State) (word : List ℕ) (ended next : ℕ)
    → AllAt next (input_end (record { state = s; part = part; word = word; ended = ended; next = next }))
at_input_end_by Start s word ended next = at_final s next ended
at_input_end_by Words s word ended next =
    at_append next (line_end s word next (suc ended)) (final_findings (line_end_state s word next (suc ended)) next (suc ended))
    (at_line_end s word next (suc ended)) (at_final (line_end_state s word next (suc ended)) next (suc ended))
at_input_end_by Comment s word ended next = at_final s next (suc ended)

pub at_input_end : (r : Reading) → AllAt r.next (input_end r)
at_input_end r = at_input_end_by r.part r.state r.word r.ended r.next

-- The next byte, and the lines that are ended.

next_by : (feed blank percent : Bool) (r : Reading) (b : ℕ) → (after_byte_by feed blank percent r b).next ≡ suc r.next
next_by true blank percent r b = refl
next_by false true percent r b = refl
next_by false false percent r b = refl

next_is : (r : Reading) (b : ℕ) → (after_byte r b).next ≡ suc r.next
next_is r b = next_by (is_line_feed b) (is_blank b) (b == 37) r b

pub reading_next : (r : Reading) (xs : List ℕ) → (reading_from r xs).next ≡ r.next + length xs
reading_next r [] = omega arith
reading_next r (x ∷ xs) =
    let here : (after_byte r x).next ≡ suc r.next = next_is r x in
    let more : (reading_from (after_byte r x) xs).next ≡ (after_byte r x).next + length xs = reading_next (after_byte r x) xs in
    omega arith

ended_by : (feed blank percent : Bool) (r : Reading) (b : ℕ) → (after_byte_by feed blank percent r b).ended ≡ (if feed then suc r.ended else r.ended)
ended_by true blank percent r b = refl
ended_by false true percent r b = refl
ended_by false false percent r b = refl

pub reading_ended : (r : Reading) (xs : List ℕ) → (reading_from r xs).ended ≡ r.ended + length (filter is_line_feed xs)
reading_ended r [] = omega arith
reading_ended r (x ∷ xs) =
    let more : (reading_from (after_byte r x) xs).ended ≡ (after_byte r x).ended + length (filter is_line_feed xs) = reading_ended (after_byte r x) xs in
    let here = ended_by (is_line_feed x) (is_blank x) (x == 37) r x in
    elim (cases_Bool (is_line_feed x)) [
      | inl t ↦ let one : (after_byte r x).ended ≡ suc r.ended = here ∙ ap (λ (b : Bool). if b then suc r.ended else r.ended) t in
          let whole : (reading_from (after_byte r x) xs).ended ≡ r.ended + suc (length (filter is_line_feed xs)) = omega arith in
          subst (λ (b : Bool). (reading_from (after_byte r x) xs).ended ≡ r.ended + length (if b then x ∷ filter is_line_feed xs else filter is_line_feed xs)) (sym t) whole
      | inr f ↦ let one : (after_byte r x).ended ≡ r.ended = here ∙ ap (λ (b : Bool). if b then suc r.ended else r.ended) f in
          let whole : (reading_from (after_byte r x) xs).ended ≡ r.ended + length (filter is_line_feed xs) = omega arith in
          subst (λ (b : Bool). (reading_from (after_byte r x) xs).ended ≡ r.ended + length (if b then x ∷ filter is_line_feed xs else filter is_line_feed xs)) (sym f) whole
    ]

-- A reading's findings.

pub bytes_from : (r : Reading) (xs : List ℕ) → AllFrom r.next (bytes_findings r xs)
bytes_from r [] = tt
bytes_from r (x ∷ xs) =
    let le : r.next ≤ (after_byte r x).next = let e : (after_byte r x).next ≡ suc r.next = next_is r x in omega arith in
    from_append r.next (byte_findings r x) (bytes_findings (after_byte r x) xs) (from_at r.next r.next (byte_findings r x) (omega arith) (at_byte r x))
    (from_later r.next (after_byte r x).next (bytes_findings (after_byte r x) xs) le (bytes_from (after_byte r x) xs))

abbrev HeadIs : ℕ → List Finding → Type 0
HeadIs high [] = Unit {0}
HeadIs high (f ∷ fs) = AllFrom f.place fs × (f.place < high)

head_of : (here later : List Finding) (next n : ℕ) → AllAt next here → AllFrom (suc next) later → HeadIs (suc next + n) later → HeadIs (next + suc n) (here ++ later)
head_of [] later next n h k head = subst (λ high. HeadIs high later) (omega arith) head
head_of (f ∷ fs) later next n h k head =
    let at : f.place ≡ next = h.0 in (
      from_append f.place fs later (from_at f.place next fs (omega arith) h.1) (from_later f.place (suc next) later (omega arith) k),
      omega arith,
    )

heads : (r : Reading) (xs : List ℕ) → HeadIs (r.next + length xs) (bytes_findings r xs)
heads r [] = tt
heads r (x ∷ xs) =
    let e : (after_byte r x).next ≡ suc r.next = next_is r x in
    head_of (byte_findings r x) (bytes_findings (after_byte r x) xs) r.next (length xs) (at_byte r x)
    (subst (λ n. AllFrom n (bytes_findings (after_byte r x) xs)) e (bytes_from (after_byte r x) xs))
    (subst (λ n. HeadIs (n + length xs) (bytes_findings (after_byte r x) xs)) e (heads (after_byte r x) xs))

-- the first finding of a reading, which no later one precedes
pub head_first : (r : Reading) (xs : List ℕ) (f : Finding) (others : List Finding) → bytes_findings r xs ≡ f ∷ others
    → AllFrom f.place others × (f.place < r.next + length xs)
head_first r xs f others e = subst (λ fs. HeadIs (r.next + length xs) fs) e (heads r xs)

pub input_parts : (r : Reading) (xs : List ℕ) → input_findings r xs ≡ bytes_findings r xs ++ input_end (reading_from r xs)
input_parts r [] = refl
input_parts r (x ∷ xs) =
    ap (λ fs. byte_findings r x ++ fs) (input_parts (after_byte r x) xs)
    ∙ sym (append_assoc (byte_findings r x) (bytes_findings (after_byte r x) xs) (input_end (reading_from (after_byte r x) xs)))

-- The first of a list.

not_earlier : (p q : ℕ) → p ≤ q → nat_lt q p ≡ false
not_earlier p q h = grind (arith, nat_tests)

abbrev SomeFrom : ℕ → Option Finding → Type 0
SomeFrom p None = Unit {0}
SomeFrom p (Some f) = p ≤ f.place

earlier_from : (p : ℕ) (f : Finding) (o : Option Finding) → p ≤ f.place → SomeFrom p o → p ≤ (earlier f o).place
earlier_from p f None h k = h
earlier_from p f (Some g) h k = elim (cases_Bool (nat_lt g.place f.place)) [ inl t ↦ rw t k | inr e ↦ rw e h ]

first_from : (p : ℕ) (fs : List Finding) → AllFrom p fs → SomeFrom p (first fs)
first_from p [] h = tt
first_from p (f ∷ fs) h = earlier_from p f (first fs) h.0 (first_from p fs h.1)

earlier_head : (f : Finding) (o : Option Finding) → SomeFrom f.place o → earlier f o ≡ f
earlier_head f None h = refl
earlier_head f (Some g) h = rw (not_earlier f.place g.place h) refl

pub first_head : (f : Finding) (fs : List Finding) → AllFrom f.place fs → first (f ∷ fs) ≡ Some f
first_head f fs h = ap (λ g. Some g) (earlier_head f (first fs) (first_from f.place fs h))

pub first_second : (g f : Finding) (fs : List Finding) → f.place < g.place → AllFrom f.place fs → first (g ∷ f ∷ fs) ≡ Some f
first_second g f fs lt h =
    ap (λ o. Some (earlier g o)) (first_head f fs h)
    ∙ (rw (lt-ltb f.place g.place lt) refl)
