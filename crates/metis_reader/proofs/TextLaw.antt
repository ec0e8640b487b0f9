-- Byte by byte a reading finds exactly the faults of the lines and words of the text.
use Rattle.std.proofs.Common.{◌≡◌, ℕ, suc, ◌+◌, ◌-◌, Bool, true, false, not, List, [], ◌∷◌, ◌++◌, length, refl, ap, sym, ◌∙◌, subst, append_assoc, arith, inl, inr, length-append}
use Rattle.std.specs.Prelude.{◌==◌, if◌then◌else◌}
use Rattle.std.specs.List.{filter, list_all}
use Rattle.std.proofs.lemmas.Bool.{cases_Bool, and_parts, not-true}
use Rattle.std.proofs.lemmas.Bool.Decides.{nat_tests}
use Rattle.cut_definitions.proofs.ListLaws.{append_none}
use Rattle.metis_reader.proofs.MachineLaw.{lines_law}
use Rattle.metis_reader.specs.declared.line_part.LinePart.TheVariants.{Start, Words, Comment}
use Rattle.metis_reader.specs.Text.{Piece, Line, is_line_feed, is_blank, fields, with_front, placed, has_bytes, words_from, numbered, lines}
use Rattle.metis_reader.specs.Profile.{Finding, found_at}
use Rattle.metis_reader.specs.File.{is_kept, file_findings, from_header}
use Rattle.metis_reader.specs.Machine.{State, AtHeader, line_faults, after_line, final_findings, line_state, line_findings, lines_findings}
use Rattle.metis_reader.specs.Reading.{start, word_end, word_end_state, line_end, line_end_state, input_findings}

-- the bytes before the first separator, and the fields after it
abbrev pub front : (ℕ → Bool) → List ℕ → List ℕ
front p [] = []
front p (b ∷ bytes) = if p b then [] else b ∷ front p bytes

abbrev pub later : (ℕ → Bool) → List ℕ → List (List ℕ)
later p [] = []
later p (b ∷ bytes) = if p b then fields p bytes else later p bytes

pub fields_more : (p : ℕ → Bool) (b : ℕ) (bytes : List ℕ) → p b ≡ false → fields p (b ∷ bytes) ≡ (b ∷ front p bytes) ∷ later p bytes
fields_more p b [] e = rw e refl
fields_more p b (c ∷ bytes) e =
    rw e (elim (cases_Bool (p c)) [ inl t ↦ rw t refl | inr f ↦ rw f (ap (with_front b) (rw f at (fields_more p c bytes f))) ])

-- words

fields_word : (word : List ℕ) (b : ℕ) (bytes : List ℕ) → list_all (λ c. not (is_blank c)) word ≡ true → is_blank b ≡ true
    → fields is_blank (word ++ b ∷ bytes) ≡ word ∷ fields is_blank bytes
fields_word [] b bytes all e = rw e refl
fields_word (c ∷ word) b bytes all e =
    let parts = and_parts (not (is_blank c)) (list_all (λ c. not (is_blank c)) word) all in
    let here : is_blank c ≡ false = not-true (is_blank c) parts.0 in
    rw here (ap (with_front c) (fields_word word b bytes parts.1 e))

fields_last : (c : ℕ) (word : List ℕ) → list_all (λ c. not (is_blank c)) (c ∷ word) ≡ true → fields is_blank (c ∷ word) ≡ (c ∷ word) ∷ []
fields_last c [] all =
    let parts = and_parts (not (is_blank c)) true all in
    let here : is_blank c ≡ false = not-true (is_blank c) parts.0 in
    rw here refl
fields_last c (d ∷ word) all =
    let parts = and_parts (not (is_blank c)) (list_all (λ c. not (is_blank c)) (d ∷ word)) all in
    let here : is_blank c ≡ false = not-true (is_blank c) parts.0 in
    rw here (ap (with_front c) (fields_last d word parts.1))

abbrev pub piece : List ℕ → ℕ → Piece
piece bytes place = record { bytes = bytes; place = place }

abbrev pub is_word : List ℕ → Type 0
is_word word = list_all (λ c. not (is_blank c)) word ≡ true

pub words_blank : (beg at : ℕ) (word : List ℕ) (b : ℕ) (bytes : List ℕ) → is_word word → is_blank b ≡ true → beg + length word ≡ at
    → words_from beg (word ++ b ∷ bytes) ≡ filter has_bytes (piece word at ∷ []) ++ words_from (suc at) bytes
words_blank beg at word b bytes all blank e =
    ap (λ fs. filter has_bytes (placed beg fs)) (fields_word word b bytes all blank)
    ∙ subst (λ at. filter has_bytes (placed beg (word ∷ fields is_blank bytes)) ≡ filter has_bytes (piece word at ∷ []) ++ words_from (suc at) bytes) e
    (split word)
  where
    split : (word : List ℕ) → filter has_bytes (placed beg (word ∷ fields is_blank bytes))
        ≡ filter has_bytes (piece word (beg + length word) ∷ []) ++ words_from (suc (beg + length word)) bytes
    split [] = refl
    split (c ∷ word) = refl

pub words_last : (beg at : ℕ) (word : List ℕ) → is_word word → beg + length word ≡ at → words_from beg (word ++ []) ≡ filter has_bytes (piece word at ∷ [])
words_last beg at [] all e = refl
words_last beg at (c ∷ word) all e =
    ap (λ bytes. words_from beg bytes) (append_none (c ∷ word))
    ∙ ap (λ fs. filter has_bytes (placed beg fs)) (fields_last c word all)
    ∙ ap (λ at. filter has_bytes (piece (c ∷ word) at ∷ [])) e

pub state_word : (s : State) (at : ℕ) (word : List ℕ) (words : List Piece)
    → line_state s (filter has_bytes (piece word at ∷ []) ++ words) ≡ line_state (word_end_state s word at) words
state_word s at [] words = refl
state_word s at (c ∷ word) words = refl

pub is_word-push : (word : List ℕ) (b : ℕ) → is_word word → is_blank b ≡ false → is_word (word ++ b ∷ [])
is_word-push [] b all other = rw other refl
is_word-push (c ∷ word) b all other =
    let parts = and_parts (not (is_blank c)) (list_all (λ c. not (is_blank c)) word) all in
    rw (not-true (is_blank c) parts.0) (is_word-push word b parts.1 other)

-- The three claims, of some bytes that are read from the start of a line, in a comment, or in another line.

abbrev pub lines_behind : ℕ → ℕ → List ℕ → List Line
lines_behind k place bytes = filter is_kept (numbered (suc (suc k)) (placed (suc place) (later is_line_feed bytes)))

abbrev line_then : State → ℕ → ℕ → ℕ → ℕ → List Piece → List Line → List Finding
line_then s k place end count words lines =
    line_findings s (suc k) place words ++ lines_findings (after_line (line_state s words) (suc k)) end count lines

abbrev AtStart : List ℕ → Type 0
AtStart bytes = (s : State) (k at end count : ℕ) → end ≡ at + length bytes → count ≡ k + length (fields is_line_feed bytes)
    → input_findings (record { state = s; part = Start; word = []; ended = k; next = at }) bytes
    ≡ lines_findings s end count (filter is_kept (numbered (suc k) (placed at (fields is_line_feed bytes))))

abbrev InComment : List ℕ → Type 0
InComment bytes = (s : State) (k at place end count : ℕ) → place ≡ at + length (front is_line_feed bytes) → end ≡ at + length bytes
    → count ≡ suc k + length (later is_line_feed bytes)
    → input_findings (record { state = s; part = Comment; word = []; ended = k; next = at }) bytes
    ≡ lines_findings s end count (lines_behind k place bytes)

abbrev InWords : List ℕ → Type 0
InWords bytes = (s : State) (k beg at place end count : ℕ) (word : List ℕ) → is_word word → beg + length word ≡ at
    → place ≡ at + length (front is_line_feed bytes) → end ≡ at + length bytes → count ≡ suc k + length (later is_line_feed bytes)
    → input_findings (record { state = s; part = Words; word = word; ended = k; next = at }) bytes
    ≡ line_then s k place end count (words_from beg (word ++ front is_line_feed bytes)) (lines_behind k place bytes)

line_ends : (s : State) (k beg at place end count : ℕ) (word : List ℕ) (lines : List Line) → is_word word → beg + length word ≡ at → place ≡ at
    → line_end s word at (suc k) ++ lines_findings (line_end_state s word at (suc k)) end count lines
    ≡ line_then s k place end count (words_from beg (word ++ [])) lines
line_ends s k beg at place end count word lines all e p =
    sym (ap (λ words. line_then s k place end count words lines) (words_last beg at word all e)
    ∙ ap (λ place. line_then s k place end count (filter has_bytes (piece word at ∷ [])) lines) p
    ∙ ends word)
  where
    ends : (word : List ℕ) → line_then s k at end count (filter has_bytes (piece word at ∷ [])) lines
        ≡ line_end s word at (suc k) ++ lines_findings (line_end_state s word at (suc k)) end count lines
    ends [] = refl
    ends (c ∷ word) = refl

word_ends : (s : State) (k beg at place end count : ℕ) (word : List ℕ) (b : ℕ) (bytes : List ℕ) (lines : List Line)
    → is_word word → is_blank b ≡ true → beg + length word ≡ at
    → word_end s word at (suc k) ++ line_then (word_end_state s word at) k place end count (words_from (suc at) bytes) lines
    ≡ line_then s k place end count (words_from beg (word ++ b ∷ bytes)) lines
word_ends s k beg at place end count word b bytes lines all blank e =
    sym (ap (λ words. line_then s k place end count words lines) (words_blank beg at word b bytes all blank e) ∙ ends word)
  where
    ends : (word : List ℕ) → line_then s k place end count (filter has_bytes (piece word at ∷ []) ++ words_from (suc at) bytes) lines
        ≡ word_end s word at (suc k) ++ line_then (word_end_state s word at) k place end count (words_from (suc at) bytes) lines
    ends [] = refl
    ends (c ∷ word) = (append_assoc (word_end s (c ∷ word) at (suc k)) (line_findings (word_end_state s (c ∷ word) at) (suc k) place (words_from (suc at) bytes))
        (lines_findings (after_line (line_state (word_end_state s (c ∷ word) at) (words_from (suc at) bytes)) (suc k)) end count lines))

pub record Claims (bytes : List ℕ) : Type 0 where
  pub at_start : AtStart bytes
  pub in_comment : InComment bytes
  pub in_words : InWords bytes

comment_more : (b : ℕ) (bytes : List ℕ) → Claims bytes → InComment (b ∷ bytes)
comment_more b bytes more s k at place end count p e c =
    elim (cases_Bool (is_line_feed b)) [
      | inl t ↦
          let q : at ≡ place = omega (arith, rw t at p) in
          rw t (more.at_start s (suc k) (suc at) end count (omega arith) (rw t at c)
          ∙ ap (λ place. lines_findings s end count (filter is_kept (numbered (suc (suc k)) (placed (suc place) (fields is_line_feed bytes))))) q)
      | inr f ↦
          let q : place ≡ suc at + length (front is_line_feed bytes) = omega (arith, rw f at p) in
          elim (cases_Bool (is_blank b)) [
            | inl blank ↦ rw (f, blank) (more.in_comment s k (suc at) place end count q (omega arith) (rw f at c))
            | inr other ↦ rw (f, other) (more.in_comment s k (suc at) place end count q (omega arith) (rw f at c))
          ]
    ]

words_more : (b : ℕ) (bytes : List ℕ) → Claims bytes → InWords (b ∷ bytes)
words_more b bytes more s k beg at place end count word all at_is p e c =
    elim (cases_Bool (is_line_feed b)) [
      | inl t ↦
          let q : place ≡ at = omega (arith, rw t at p) in
          let r : at ≡ place = omega arith in
          rw t (ap (λ found. line_end s word at (suc k) ++ found) (more.at_start (line_end_state s word at (suc k)) (suc k) (suc at) end count (omega arith) (rw t at c)
          ∙ ap (λ place. lines_findings (line_end_state s word at (suc k)) end count (filter is_kept (numbered (suc (suc k)) (placed (suc place) (fields is_line_feed bytes))))) r)
          ∙ line_ends s k beg at place end count word (filter is_kept (numbered (suc (suc k)) (placed (suc place) (fields is_line_feed bytes)))) all at_is q)
      | inr f ↦
          let q : place ≡ suc at + length (front is_line_feed bytes) = omega (arith, rw f at p) in
          elim (cases_Bool (is_blank b)) [
            | inl blank ↦
                let next : suc at + length {A = ℕ} [] ≡ suc at = omega arith in
                rw (f, blank) (ap (λ found. word_end s word at (suc k) ++ found)
                (more.in_words (word_end_state s word at) k (suc at) (suc at) place end count [] refl next q (omega arith) (rw f at c))
                ∙ word_ends s k beg at place end count word b (front is_line_feed bytes) (lines_behind k place bytes) all blank at_is)
            | inr other ↦
                let longer : beg + length (word ++ b ∷ []) ≡ suc at = omega (arith, length-append word (b ∷ [])) in
                rw (f, other) (more.in_words s k beg (suc at) place end count (word ++ b ∷ []) (is_word-push word b all other) longer q (omega arith) (rw f at c)
                ∙ ap (λ bytes'. line_then s k place end count (words_from beg bytes') (lines_behind k place bytes)) (append_assoc word (b ∷ []) (front is_line_feed bytes)))
          ]
    ]

pub blank_no_percent : (b : ℕ) → is_blank b ≡ true → (b == 37) ≡ false
blank_no_percent b blank = grind (arith, nat_tests)

start_more : (b : ℕ) (bytes : List ℕ) → Claims bytes → AtStart (b ∷ bytes)
start_more b bytes more s k at end count e c =
    elim (cases_Bool (is_line_feed b)) [
      | inl t ↦
          let q : at ≡ at + length {A = ℕ} [] = omega arith in
          rw t (ap (λ found. found_at at (suc k) (line_faults s) ++ found) (more.at_start (after_line s (suc k)) (suc k) (suc at) end count (omega arith) (omega (arith, rw t at c)))
          ∙ ap (λ place. found_at place (suc k) (line_faults s) ++ lines_findings (after_line s (suc k)) end count (filter is_kept (numbered (suc (suc k)) (placed (suc place) (fields is_line_feed bytes))))) q)
      | inr f ↦
          let fs : fields is_line_feed (b ∷ bytes) ≡ (b ∷ front is_line_feed bytes) ∷ later is_line_feed bytes = fields_more is_line_feed b bytes f in
          let place : ℕ = at + suc (length (front is_line_feed bytes)) in
          let place_is : place ≡ suc at + length (front is_line_feed bytes) = omega arith in
          let end_is : end ≡ suc at + length bytes = omega arith in
          let count_is : count ≡ suc k + length (later is_line_feed bytes) = omega (arith, subst (λ fs. count ≡ k + length fs) fs c) in
          let back : at ≡ place - suc (length (front is_line_feed bytes)) = omega arith in
          let goal : List Finding → Type 0 = λ found. found ≡ lines_findings s end count (filter is_kept (numbered (suc k) (placed at ((b ∷ front is_line_feed bytes) ∷ later is_line_feed bytes)))) in
          let finish : (found : List Finding) → goal found → found ≡ lines_findings s end count (filter is_kept (numbered (suc k) (placed at (fields is_line_feed (b ∷ bytes))))) =
          λ found g. g ∙ ap (λ fs. lines_findings s end count (filter is_kept (numbered (suc k) (placed at fs)))) (sym fs) in
          finish (input_findings (record { state = s; part = Start; word = []; ended = k; next = at }) (b ∷ bytes))
          (elim (cases_Bool (is_blank b)) [
            | inl blank ↦
                let no : (b == 37) ≡ false = blank_no_percent b blank in
                let next : suc at + length {A = ℕ} [] ≡ suc at = omega arith in
                let here : at + length {A = ℕ} [] ≡ at = omega arith in
                rw (f, blank, no) (rw blank at (more.in_words s k (suc at) (suc at) place end count [] refl next place_is end_is count_is
                ∙ word_ends s k at at place end count [] b (front is_line_feed bytes) (lines_behind k place bytes) refl blank here
                ∙ ap (λ beg. line_then s k place end count (words_from beg (b ∷ front is_line_feed bytes)) (lines_behind k place bytes)) back))
            | inr other ↦
                elim (cases_Bool (b == 37)) [
                  | inl percent ↦ rw (f, other, percent) (more.in_comment s k (suc at) place end count place_is end_is count_is)
                  | inr unlike ↦
                      let one : at + length (b ∷ []) ≡ suc at = omega arith in
                      rw (f, other, unlike) (rw other at (more.in_words s k at (suc at) place end count (b ∷ []) (rw other refl) one place_is end_is count_is
                      ∙ ap (λ beg. line_then s k place end count (words_from beg (b ∷ front is_line_feed bytes)) (lines_behind k place bytes)) back))
                ]
          ])
    ]

start_none : AtStart []
start_none s k at end count e c =
    let p : at ≡ end = omega arith in
    let q : k ≡ count = omega arith in
    ap (λ end. final_findings s end k) p ∙ ap (λ count. final_findings s end count) q

comment_none : InComment []
comment_none s k at place end count p e c =
    let q : at ≡ end = omega arith in
    let r : suc k ≡ count = omega arith in
    ap (λ end. final_findings s end (suc k)) q ∙ ap (λ count. final_findings s end count) r

words_none : InWords []
words_none s k beg at place end count word all at_is p e c =
    let q : at ≡ end = omega arith in
    let r : suc k ≡ count = omega arith in
    let here : place ≡ at = omega arith in
    ap (λ end. line_end s word at (suc k) ++ final_findings (line_end_state s word at (suc k)) end (suc k)) q
    ∙ ap (λ count. line_end s word at (suc k) ++ final_findings (line_end_state s word at (suc k)) end count) r
    ∙ line_ends s k beg at place end count word [] all at_is here

claims : (bytes : List ℕ) → Claims bytes
claims [] = record { at_start = start_none; in_comment = comment_none; in_words = words_none }
claims (b ∷ bytes) = record { at_start = start_more b bytes (claims bytes); in_comment = comment_more b bytes (claims bytes); in_words = words_more b bytes (claims bytes) }

length_lines : (number at : ℕ) (fs : List (List ℕ)) → length (numbered number (placed at fs)) ≡ length fs
length_lines number at [] = refl
length_lines number at (f ∷ fs) = ap (λ n. suc n) (length_lines (suc number) (suc (at + length f)) fs)

-- the faults of a file, but for its length, are those that a reading of its bytes finds
pub text_law : (bytes : List ℕ) → input_findings start bytes
    ≡ file_findings (suc (length bytes)) (length (lines bytes)) (from_header (filter is_kept (lines bytes)))
text_law bytes =
    let end : suc (length bytes) ≡ 1 + length bytes = omega arith in
    let count : length (lines bytes) ≡ 0 + length (fields is_line_feed bytes) = omega (arith, length_lines 1 1 (fields is_line_feed bytes)) in
    (claims bytes).at_start (AtHeader []) 0 1 (suc (length bytes)) (length (lines bytes)) end count
    ∙ lines_law (suc (length bytes)) (length (lines bytes)) (filter is_kept (lines bytes))
