-- Where the bit of an edge or of a vertex is in the words of a board.
use Rattle.std.specs.Prelude.{ℕ, zero, suc, ◌+◌, ◌*◌, ◌/◌, ◌%◌, ◌^◌, Bool, false, ◌==◌, if◌then◌else◌, nat_lt, List, slice_index}
use Rattle.std.specs.Int.{bit_at}

-- word 0 is the bound, and flag f is bit f mod 64 of the word f div 64 + 1
abbrev pub word_of : ℕ → ℕ
word_of f = f / 64 + 1

abbrev pub mask_of : ℕ → ℕ
mask_of f = 1 * 2 ^ (f % 64) % 2 ^ 64

abbrev pub bit_of : ℕ → ℕ → Bool
bit_of n f = bit_at n (f % 64) == 1

abbrev pub is_flagged : List ℕ → ℕ → Bool
is_flagged words f = bit_of (slice_index words (word_of f)) f

-- edge e is flag e, and vertex v flag v - 1 from the first word after the mark words on
abbrev pub mark_words : ℕ → ℕ
mark_words edges = edges / 64 + 1

abbrev pub base_of : ℕ → ℕ
base_of edges = mark_words edges * 64

abbrev pub taken_words : ℕ → ℕ
taken_words n = n / 64 + 1

abbrev pub words_for : ℕ → ℕ → ℕ
words_for edges n = mark_words edges + taken_words n + 1

abbrev pub marked_at : List ℕ → ℕ → ℕ → Bool
marked_at words edges e = if nat_lt e edges then is_flagged words e else false

abbrev pub taken_at : List ℕ → ℕ → ℕ → ℕ → Bool
taken_at words edges n zero = false
taken_at words edges n (suc u) = if nat_lt u n then is_flagged words (base_of edges + u) else false
