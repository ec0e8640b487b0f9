-- The header's end is among the bytes exactly if a reading of them has passed it.
use Rattle.std.proofs.Common.{◌≡◌, ◌≢◌, ℕ, zero, suc, Bool, true, false, List, [], ◌∷◌, ◌++◌, refl, ap, sym, ◌∙◌, subst, append_assoc}
use Rattle.std.specs.Prelude.{◌==◌}
use Rattle.std.specs.List.{filter}
use Rattle.metis_reader.specs.declared.line_part.LinePart.{LinePart}
use Rattle.metis_reader.specs.declared.line_part.LinePart.TheVariants.{Start, Words, Comment}
use Rattle.metis_reader.specs.Text.{Piece, Line, lines, is_line_feed, is_blank}
use Rattle.metis_reader.specs.Profile.{Header, Entry, header_of}
use Rattle.metis_reader.specs.File.{is_kept, from_header, VertexLine}
use Rattle.metis_reader.specs.Machine.{State, AtHeader, InLine, AtWeight, After, after_word, after_line, line_state, at_line, end_vertex, after_neighbour}
use Rattle.metis_reader.specs.Reading.{Reading, start, word_end_state, line_end_state, after_byte, after_byte_by, reading_from}
use Rattle.metis_reader.specs.Shown.{EndsHeader}
use Rattle.metis_reader.specs.Holding.{ByteEndsHeader, BytesEndHeader}
use Rattle.metis_reader.specs.Fed.{HasHeader, HeaderEndsIn}
use Rattle.metis_reader.proofs.MachineLaw.{seen_words}
use Rattle.metis_reader.proofs.StateLaw.{lines_state, state_law}
use Rattle.metis_reader.specs.Ending.{end_state}
use Rattle.metis_reader.proofs.Running.{reading_append}

-- the header is read whole
abbrev pub IsBehind : State → Type 0
IsBehind (AtHeader words) = ⊥
IsBehind _ = Unit {0}

behind_start : (header : Header) (done : List VertexLine) (left : ℕ) → IsBehind (at_line header done left)
behind_start header done zero = tt
behind_start header done (suc left) = tt

behind_neighbour : (has : Bool) (header : Header) (done : List VertexLine) (mass : ℕ) (here : List Entry) (left : ℕ) (word : Piece) → IsBehind (after_neighbour has header done mass here left word)
behind_neighbour true header done mass here left word = tt
behind_neighbour false header done mass here left word = tt

behind_word : (s : State) (word : Piece) → IsBehind s → IsBehind (after_word s word)
behind_word (AtHeader words) word h = absurd h
behind_word (InLine header done mass here zero left) word h = behind_neighbour header.has_edge_weights header done mass here left word
behind_word (InLine header done mass here (suc leading) left) word h = tt
behind_word (AtWeight header done mass here neighbour left) word h = tt
behind_word (After header done) word h = tt

pub behind_line : (s : State) (number : ℕ) → IsBehind s → IsBehind (after_line s number)
behind_line (AtHeader words) number h = absurd h
behind_line (InLine header done mass here leading left) number h = behind_start header (end_vertex done number mass here) left
behind_line (AtWeight header done mass here neighbour left) number h = behind_start header (end_vertex done number mass here) left
behind_line (After header done) number h = tt

behind_words : (s : State) (words : List Piece) → IsBehind s → IsBehind (line_state s words)
behind_words s [] h = h
behind_words s (word ∷ words) h = behind_words (after_word s word) words (behind_word s word h)

behind_lines : (s : State) (ls : List Line) → IsBehind s → IsBehind (lines_state s ls)
behind_lines s [] h = h
behind_lines s (line ∷ ls) h = behind_lines (after_line (line_state s line.words) line.number) ls (behind_line (line_state s line.words) line.number (behind_words s line.words h))

behind_word_end : (s : State) (word : List ℕ) (place : ℕ) → IsBehind s → IsBehind (word_end_state s word place)
behind_word_end s [] place h = h
behind_word_end s (b ∷ bytes) place h = behind_word s (record { bytes = b ∷ bytes; place = place }) h

behind_byte_by : (feed blank percent : Bool) (part : LinePart) (s : State) (word : List ℕ) (ended next b : ℕ) → IsBehind s
    → IsBehind (after_byte_by feed blank percent (record { state = s; part = part; word = word; ended = ended; next = next }) b).state
behind_byte_by true blank percent Start s word ended next b h = behind_line (word_end_state s word next) (suc ended) (behind_word_end s word next h)
behind_byte_by true blank percent Words s word ended next b h = behind_line (word_end_state s word next) (suc ended) (behind_word_end s word next h)
behind_byte_by true blank percent Comment s word ended next b h = h
behind_byte_by false true percent Start s word ended next b h = behind_word_end s word next h
behind_byte_by false true percent Words s word ended next b h = behind_word_end s word next h
behind_byte_by false true percent Comment s word ended next b h = h
behind_byte_by false false percent part s word ended next b h = h

behind_byte : (r : Reading) (b : ℕ) → IsBehind r.state → IsBehind (after_byte r b).state
behind_byte r b h = behind_byte_by (is_line_feed b) (is_blank b) (b == 37) r.part r.state r.word r.ended r.next b h

pub behind_bytes : (r : Reading) (bs : List ℕ) → IsBehind r.state → IsBehind (reading_from r bs).state
behind_bytes r [] h = h
behind_bytes r (b ∷ bs) h = behind_bytes (after_byte r b) bs (behind_byte r b h)

-- Lines that have a header lead past it, and no others do.

header_line : (number : ℕ) (comment : Bool) (words : List Piece) (place : ℕ) (ls : List Line)
    → (from_header ls ≢ [] → IsBehind (lines_state (AtHeader []) ls))
    → from_header (record { number = number; is_comment = comment; words = words; place = place } ∷ ls) ≢ []
    → IsBehind (lines_state (AtHeader []) (record { number = number; is_comment = comment; words = words; place = place } ∷ ls))
header_line number comment [] place ls again h = again h
header_line number comment (word ∷ words) place ls again h =
    behind_lines (after_line (line_state (AtHeader []) (word ∷ words)) number) ls
    (subst (λ s. IsBehind (after_line s number)) (sym (seen_words [] (word ∷ words))) (behind_start (header_of (word ∷ words)) [] (header_of (word ∷ words)).vertices))

lines_behind_header : (ls : List Line) → from_header ls ≢ [] → IsBehind (lines_state (AtHeader []) ls)
lines_behind_header [] h = absurd (h refl)
lines_behind_header (line ∷ ls) h = header_line line.number line.is_comment line.words line.place ls (lines_behind_header ls) h

no_header_line : (number : ℕ) (comment : Bool) (words : List Piece) (place : ℕ) (ls : List Line)
    → (from_header ls ≡ [] → lines_state (AtHeader []) ls ≡ AtHeader [])
    → from_header (record { number = number; is_comment = comment; words = words; place = place } ∷ ls) ≡ []
    → lines_state (AtHeader []) (record { number = number; is_comment = comment; words = words; place = place } ∷ ls) ≡ AtHeader []
no_header_line number comment [] place ls again e = again e
no_header_line number comment (word ∷ words) place ls again e = let no : ⊥ = cc in absurd no

pub lines_no_header : (ls : List Line) → from_header ls ≡ [] → lines_state (AtHeader []) ls ≡ AtHeader []
lines_no_header [] e = refl
lines_no_header (line ∷ ls) e = no_header_line line.number line.is_comment line.words line.place ls (lines_no_header ls) e

-- a line feed leads to the state that the end of the input would lead to
feed_state : (part : LinePart) (s : State) (word : List ℕ) (ended next : ℕ) → IsBehind (end_state (record { state = s; part = part; word = word; ended = ended; next = next }))
    → IsBehind (after_byte (record { state = s; part = part; word = word; ended = ended; next = next }) 10).state
feed_state Start s word ended next h = behind_byte (record { state = s; part = Start; word = word; ended = ended; next = next }) 10 h
feed_state Words s word ended next h = h
feed_state Comment s word ended next h = h

-- a reading of bytes that have the header's end has passed it
pub has_header_behind : (bytes : List ℕ) → HasHeader bytes → IsBehind (reading_from start bytes).state
has_header_behind bytes has =
    let r : Reading = reading_from start has.before in
    let ended : IsBehind (end_state r) = subst IsBehind (sym (state_law has.before)) (lines_behind_header (filter is_kept (lines has.before)) has.header) in
    let fed : IsBehind (after_byte r 10).state = feed_state r.part r.state r.word r.ended r.next ended in
    subst (λ bs. IsBehind (reading_from start bs).state) (sym has.parts)
    (subst (λ r. IsBehind r.state) (sym (reading_append start has.before (10 ∷ has.behind))) (behind_bytes (after_byte r 10) has.behind fed))

ends_behind : (s : State) (number : ℕ) → EndsHeader s → IsBehind (after_line s number)
ends_behind (AtHeader []) number h = absurd h
ends_behind (AtHeader (n ∷ [])) number h = absurd h
ends_behind (AtHeader (n ∷ m ∷ words)) number h = behind_start (header_of (n ∷ m ∷ words)) [] (header_of (n ∷ m ∷ words)).vertices
ends_behind (InLine header done mass here leading left) number h = absurd h
ends_behind (AtWeight header done mass here neighbour left) number h = absurd h
ends_behind (After header done) number h = absurd h

ends_not_behind : (s : State) → EndsHeader s → IsBehind s → ⊥
ends_not_behind (AtHeader words) h b = b
ends_not_behind (InLine header done mass here leading left) h b = h
ends_not_behind (AtWeight header done mass here neighbour left) h b = h
ends_not_behind (After header done) h b = h

no_words_end : (word : List ℕ) (place : ℕ) → EndsHeader (word_end_state (AtHeader []) word place) → ⊥
no_words_end [] place h = h
no_words_end (b ∷ bytes) place h = h

behind_no_start : (s : State) → IsBehind s → s ≡ AtHeader [] → ⊥
behind_no_start s h e = subst IsBehind e h

-- if the header ends at a line feed, the lines before that have a header
ends_by : (part : LinePart) (s : State) (word : List ℕ) (ended next : ℕ) → part ≢ Comment → EndsHeader (word_end_state s word next)
    → end_state (record { state = s; part = part; word = word; ended = ended; next = next }) ≡ AtHeader [] → ⊥
ends_by Start s word ended next apart ends e = no_words_end word next (subst (λ s. EndsHeader (word_end_state s word next)) e ends)
ends_by Words s word ended next apart ends e = behind_no_start (line_end_state s word next (suc ended)) (ends_behind (word_end_state s word next) (suc ended) ends) e
ends_by Comment s word ended next apart ends e = absurd (apart refl)

ends_at : (r : Reading) → r.part ≢ Comment → EndsHeader (word_end_state r.state r.word r.next) → end_state r ≡ AtHeader [] → ⊥
ends_at r = ends_by r.part r.state r.word r.ended r.next

pub header_ends_in : (bytes piece : List ℕ) → BytesEndHeader (reading_from start bytes) piece → HeaderEndsIn bytes piece
header_ends_in bytes piece h =
    let front : List ℕ = bytes ++ h.before in
    let r : Reading = reading_from (reading_from start bytes) h.before in
    let same : reading_from start front ≡ r = reading_append start bytes h.before in (
      record {
        before = front;
        behind = h.behind;
        parts = ap (λ p. bytes ++ p) h.parts ∙ sym (append_assoc bytes h.before (10 ∷ h.behind));
        header = λ e. ends_at r h.ends.1 h.ends.2
            (ap end_state (sym same) ∙ state_law front ∙ lines_no_header (filter is_kept (lines front)) e);
      },
      λ has. ends_not_behind (word_end_state r.state r.word r.next) h.ends.2
          (behind_word_end r.state r.word r.next (behind_bytes (reading_from start bytes) h.before (has_header_behind bytes has))),
    )

-- one line feed more would end a header that the end of the input ends
pub ends_at_last : (bytes : List ℕ) → ByteEndsHeader (reading_from start bytes) 10 → HeaderEndsIn bytes (10 ∷ [])
ends_at_last bytes ends = header_ends_in bytes (10 ∷ []) (record { before = []; behind = []; parts = refl; ends = ends })
