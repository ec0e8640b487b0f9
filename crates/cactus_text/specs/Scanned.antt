-- What is left of a line that is being read.
use Rattle.std.specs.Prelude.{◌≡◌, ◌≢◌, ◌<◌, ◌≤◌, ◌^◌, ⊤, ℕ, List, [], ◌∷◌, ◌++◌, length, take, slice_index}
use Rattle.std.specs.Char.{digit_value}
use Rattle.std.specs.Fmt.{decimal}
use Rattle.answer_pages.specs.Text.{spaced}
use Rattle.cactus_text.specs.Reading.{words}

-- each number is below 2^64
abbrev pub AreSmall : List ℕ → Type 0
AreSmall [] = ⊤
AreSmall (n ∷ ns) = (n < 2 ^ 64) × AreSmall ns

-- the end of a line with these numbers
pub record IsRest (bytes numbers : List ℕ) : Type 0 where
  pub parts : bytes ≡ spaced numbers ++ 10 ∷ []
  pub small : AreSmall numbers

-- a number is at the front in this many digits, and no digit follows
pub record IsLeading (text : List ℕ) (number count : ℕ) : Type 0 where
  pub small : number < 2 ^ 64
  pub within : count ≤ length text
  pub digits : take count text ≡ decimal number
  pub ends : 10 ≤ digit_value (slice_index text count)

-- a space and a number are taken off the front
pub record TakesNumber (bytes : List ℕ) (number : ℕ) (rest : List ℕ) : Type 0 where
  pub parts : bytes ≡ 32 ∷ decimal number ++ rest
  pub small : number < 2 ^ 64
  pub ends : 10 ≤ digit_value (slice_index rest 0)

-- there is no line feed in the bytes
abbrev pub IsPlain : List ℕ → Type 0
IsPlain [] = ⊤
IsPlain (b ∷ bytes) = (b ≢ 10) × IsPlain bytes

-- a line's rest is these numbers and then a further rest: it states what that one states, after them
pub record Follows (start numbers rest : List ℕ) : Type 0 where
  pub forward : (more : List ℕ) → IsRest rest more → IsRest start (numbers ++ more)
  pub back : (all : List ℕ) → IsRest start all → (more : List ℕ) × (all ≡ numbers ++ more) × IsRest rest more

-- a word without a space, which can be alone or before a space
pub record IsWord (word : List ℕ) : Type 0 where
  pub alone : words word ≡ word ∷ []
  pub apart : (rest : List ℕ) → words (word ++ 32 ∷ rest) ≡ word ∷ words rest
