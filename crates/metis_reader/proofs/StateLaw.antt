-- Byte by byte a reading comes to the state that the lines and words of the text lead to.
use Rattle.std.proofs.Common.{◌≡◌, ℕ, suc, ◌+◌, ◌-◌, true, false, List, [], ◌∷◌, ◌++◌, length, refl, ap, sym, ◌∙◌, append_assoc, arith, inl, inr, length-append}
use Rattle.std.specs.Prelude.{◌==◌}
use Rattle.std.specs.List.{filter}
use Rattle.std.proofs.lemmas.Bool.{cases_Bool}
use Rattle.metis_reader.specs.declared.line_part.LinePart.TheVariants.{Start, Words, Comment}
use Rattle.metis_reader.specs.Text.{Piece, Line, is_line_feed, is_blank, fields, placed, has_bytes, words_from, numbered, lines}
use Rattle.metis_reader.specs.File.{is_kept}
use Rattle.metis_reader.specs.Machine.{State, AtHeader, after_line, line_state}
use Rattle.metis_reader.specs.Reading.{start, word_end_state, line_end_state, reading_from}
use Rattle.metis_reader.specs.Ending.{end_state}
use Rattle.metis_reader.proofs.TextLaw.{front, later, fields_more, words_blank, words_last, state_word, is_word-push, blank_no_percent, piece, is_word, lines_behind}

-- the state after some lines
abbrev pub lines_state : State → List Line → State
lines_state s [] = s
lines_state s (line ∷ lines) = lines_state (after_line (line_state s line.words) line.number) lines

abbrev AtStart : List ℕ → Type 0
AtStart bytes = (s : State) (k at : ℕ)
    → end_state (reading_from (record { state = s; part = Start; word = []; ended = k; next = at }) bytes)
    ≡ lines_state s (filter is_kept (numbered (suc k) (placed at (fields is_line_feed bytes))))

abbrev InComment : List ℕ → Type 0
InComment bytes = (s : State) (k at place : ℕ) → place ≡ at + length (front is_line_feed bytes)
    → end_state (reading_from (record { state = s; part = Comment; word = []; ended = k; next = at }) bytes) ≡ lines_state s (lines_behind k place bytes)

abbrev line_then : State → ℕ → List Piece → List Line → State
line_then s k words lines = lines_state (after_line (line_state s words) (suc k)) lines

abbrev InWords : List ℕ → Type 0
InWords bytes = (s : State) (k beg at place : ℕ) (word : List ℕ) → is_word word → beg + length word ≡ at → place ≡ at + length (front is_line_feed bytes)
    → end_state (reading_from (record { state = s; part = Words; word = word; ended = k; next = at }) bytes)
    ≡ line_then s k (words_from beg (word ++ front is_line_feed bytes)) (lines_behind k place bytes)

line_ends : (s : State) (k beg at : ℕ) (word : List ℕ) (lines : List Line) → is_word word → beg + length word ≡ at
    → lines_state (line_end_state s word at (suc k)) lines ≡ line_then s k (words_from beg (word ++ [])) lines
line_ends s k beg at word lines all e =
    sym (ap (λ words. line_then s k words lines) (words_last beg at word all e) ∙ ends word)
  where
    ends : (word : List ℕ) → line_then s k (filter has_bytes (piece word at ∷ [])) lines ≡ lines_state (line_end_state s word at (suc k)) lines
    ends [] = refl
    ends (c ∷ word) = refl

word_ends : (s : State) (k beg at : ℕ) (word : List ℕ) (b : ℕ) (bytes : List ℕ) (lines : List Line)
    → is_word word → is_blank b ≡ true → beg + length word ≡ at
    → line_then (word_end_state s word at) k (words_from (suc at) bytes) lines ≡ line_then s k (words_from beg (word ++ b ∷ bytes)) lines
word_ends s k beg at word b bytes lines all blank e =
    sym (ap (λ words. line_then s k words lines) (words_blank beg at word b bytes all blank e)
    ∙ ap (λ state. lines_state (after_line state (suc k)) lines) (state_word s at word (words_from (suc at) bytes)))

record Claims (bytes : List ℕ) : Type 0 where
  pub at_start : AtStart bytes
  pub in_comment : InComment bytes
  pub in_words : InWords bytes

comment_more : (b : ℕ) (bytes : List ℕ) → Claims bytes → InComment (b ∷ bytes)
comment_more b bytes more s k at place p =
    elim (cases_Bool (is_line_feed b)) [
      | inl t ↦
          let q : at ≡ place = omega (arith, rw t at p) in
          rw t (more.at_start s (suc k) (suc at)
          ∙ ap (λ place. lines_state s (filter is_kept (numbered (suc (suc k)) (placed (suc place) (fields is_line_feed bytes))))) q)
      | inr f ↦
          let q : place ≡ suc at + length (front is_line_feed bytes) = omega (arith, rw f at p) in
          elim (cases_Bool (is_blank b)) [
            | inl blank ↦ rw (f, blank) (more.in_comment s k (suc at) place q)
            | inr other ↦ rw (f, other) (more.in_comment s k (suc at) place q)
          ]
    ]

words_more : (b : ℕ) (bytes : List ℕ) → Claims bytes → InWords (b ∷ bytes)
words_more b bytes more s k beg at place word all at_is p =
    elim (cases_Bool (is_line_feed b)) [
      | inl t ↦
          let q : place ≡ at = omega (arith, rw t at p) in
          rw t (more.at_start (line_end_state s word at (suc k)) (suc k) (suc at)
          ∙ ap (λ place. lines_state (line_end_state s word at (suc k)) (filter is_kept (numbered (suc (suc k)) (placed (suc place) (fields is_line_feed bytes))))) (sym q)
          ∙ line_ends s k beg at word (filter is_kept (numbered (suc (suc k)) (placed (suc place) (fields is_line_feed bytes)))) all at_is)
      | inr f ↦
          let q : place ≡ suc at + length (front is_line_feed bytes) = omega (arith, rw f at p) in
          elim (cases_Bool (is_blank b)) [
            | inl blank ↦
                let next : suc at + length {A = ℕ} [] ≡ suc at = omega arith in
                rw (f, blank) (more.in_words (word_end_state s word at) k (suc at) (suc at) place [] refl next q
                ∙ word_ends s k beg at word b (front is_line_feed bytes) (lines_behind k place bytes) all blank at_is)
            | inr other ↦
                let longer : beg + length (word ++ b ∷ []) ≡ suc at = omega (arith, length-append word (b ∷ [])) in
                rw (f, other) (more.in_words s k beg (suc at) place (word ++ b ∷ []) (is_word-push word b all other) longer q
                ∙ ap (λ bytes'. line_then s k (words_from beg bytes') (lines_behind k place bytes)) (append_assoc word (b ∷ []) (front is_line_feed bytes)))
          ]
    ]

start_more : (b : ℕ) (bytes : List ℕ) → Claims bytes → AtStart (b ∷ bytes)
start_more b bytes more s k at =
    elim (cases_Bool (is_line_feed b)) [
      | inl t ↦
          let q : at ≡ at + length {A = ℕ} [] = omega arith in
          rw t (more.at_start (after_line s (suc k)) (suc k) (suc at)
          ∙ ap (λ place. lines_state (after_line s (suc k)) (filter is_kept (numbered (suc (suc k)) (placed (suc place) (fields is_line_feed bytes))))) q)
      | inr f ↦
          let fs : fields is_line_feed (b ∷ bytes) ≡ (b ∷ front is_line_feed bytes) ∷ later is_line_feed bytes = fields_more is_line_feed b bytes f in
          let place : ℕ = at + suc (length (front is_line_feed bytes)) in
          let place_is : place ≡ suc at + length (front is_line_feed bytes) = omega arith in
          let back : at ≡ place - suc (length (front is_line_feed bytes)) = omega arith in
          let finish : (t : State) → t ≡ lines_state s (filter is_kept (numbered (suc k) (placed at ((b ∷ front is_line_feed bytes) ∷ later is_line_feed bytes))))
          → t ≡ lines_state s (filter is_kept (numbered (suc k) (placed at (fields is_line_feed (b ∷ bytes))))) =
          λ t g. g ∙ ap (λ fs. lines_state s (filter is_kept (numbered (suc k) (placed at fs)))) (sym fs) in
          finish (end_state (reading_from (record { state = s; part = Start; word = []; ended = k; next = at }) (b ∷ bytes)))
          (elim (cases_Bool (is_blank b)) [
            | inl blank ↦
                let no : (b == 37) ≡ false = blank_no_percent b blank in
                let next : suc at + length {A = ℕ} [] ≡ suc at = omega arith in
                let here : at + length {A = ℕ} [] ≡ at = omega arith in
                rw (f, blank, no) (rw blank at (more.in_words s k (suc at) (suc at) place [] refl next place_is
                ∙ word_ends s k at at [] b (front is_line_feed bytes) (lines_behind k place bytes) refl blank here
                ∙ ap (λ beg. line_then s k (words_from beg (b ∷ front is_line_feed bytes)) (lines_behind k place bytes)) back))
            | inr other ↦
                elim (cases_Bool (b == 37)) [
                  | inl percent ↦ rw (f, other, percent) (more.in_comment s k (suc at) place place_is)
                  | inr unlike ↦
                      let one : at + length (b ∷ []) ≡ suc at = omega arith in
                      rw (f, other, unlike) (rw other at (more.in_words s k at (suc at) place (b ∷ []) (rw other refl) one place_is
                      ∙ ap (λ beg. line_then s k (words_from beg (b ∷ front is_line_feed bytes)) (lines_behind k place bytes)) back))
                ]
          ])
    ]

words_none : InWords []
words_none s k beg at place word all at_is p = line_ends s k beg at word [] all at_is

claims : (bytes : List ℕ) → Claims bytes
claims [] = record { at_start = λ s k at. refl; in_comment = λ s k at place p. refl; in_words = words_none }
claims (b ∷ bytes) = record { at_start = start_more b bytes (claims bytes); in_comment = comment_more b bytes (claims bytes); in_words = words_more b bytes (claims bytes) }

-- the state at the end of the input is that of the lines of the text
pub state_law : (bytes : List ℕ) → end_state (reading_from start bytes) ≡ lines_state (AtHeader []) (filter is_kept (lines bytes))
state_law bytes = (claims bytes).at_start (AtHeader []) 0 1
