-- Small laws on tests, which many proofs use: what std has is not here.
use Rattle.std.proofs.Common.{◌≡◌, Bool, true, false, ◌||◌, refl, arith, sym, ◌∙◌, not, ◌&&◌, ◌⊎◌, inl, inr, ℕ, ◌≤◌, ◌+◌}
use Rattle.std.specs.Prelude.{if◌then◌else◌}
use Rattle.std.proofs.lemmas.Bool.{false≢true, and_parts}

-- no test says both
pub never_both : (b : Bool) → b ≡ true → b ≡ false → ⊥
never_both b h k = grind arith

pub contrary : {b : Bool} → b ≡ true → b ≡ false → ⊥
contrary is_true is_false = false≢true (sym is_false ∙ is_true)

pub never_with_not : (a : Bool) → a ≡ true → not a ≡ true → ⊥
never_with_not a h k = grind arith

pub not_then_never : (q : Bool) → not q ≡ true → q ≡ true → ⊥
not_then_never q h k = grind arith

pub never_apart : (a b : Bool) → a ≡ b → a ≡ true → not b ≡ true → ⊥
never_apart a b e h k = grind arith

-- twice turned
pub twice_not : (b : Bool) → b ≡ true → not (not b) ≡ true
twice_not b e = grind arith

pub turned : (a b : Bool) → not a ≡ b → a ≡ not b
turned a b h = grind arith

-- one of the tests is a plain `true` or `false`
pub not_or_true : (e : Bool) → (not e || true) ≡ true
not_or_true true = refl
not_or_true false = refl

pub from_not_and : (a : Bool) → (not a && true) ≡ false → a ≡ true
from_not_and true h = refl
from_not_and false h = absurd (false≢true (sym h))

-- a set separates two vertices if it has one of them and not the other
pub parts_from_same : (a b : Bool) → a ≡ b → (if a then not b else b) ≡ false
parts_from_same a b e = grind arith

pub same_from_parts : (a b : Bool) → (if a then not b else b) ≡ false → a ≡ b
same_from_parts a b h = grind arith

pub parts_from_false : (a b : Bool) → a ≡ false → (if a then not b else b) ≡ b
parts_from_false a b h = grind arith

pub one_parts : (a b : Bool) → a ≡ true → b ≡ false → (if a then not b else b) ≡ true
one_parts a b h k = grind arith

pub parts_flip : (a b : Bool) → (if a then not b else b) ≡ true → (if b then not a else a) ≡ true
parts_flip a b h = grind arith

-- one in neither of two sets, or in the first alone
pub in_neither : (a b : Bool) → a ≡ false → b ≡ false → (not a && not b) ≡ true
in_neither a b h k = grind arith

pub not_in_minus : (a b : Bool) → a ≡ false → (a && not b) ≡ false
not_in_minus a b h = grind arith

pub in_minus : (a b : Bool) → a ≡ true → b ≡ false → (a && not b) ≡ true
in_minus a b h k = grind arith

-- the second test has no say
pub or_nothing : (a b : Bool) → b ≡ false → (a || b) ≡ a
or_nothing a b h = grind arith

pub kept_or : (a b c : Bool) → b ≡ false → (a || (b && c)) ≡ a
kept_or a b c h = grind arith

pub and_kept : (a b : Bool) → b ≡ true → (a && b) ≡ a
and_kept a b h = grind arith

-- what two tests at once say of each
pub and_first : (a b : Bool) → (a && b) ≡ true → a ≡ true
and_first a b h = grind arith

pub and_second : (a b : Bool) → (a && b) ≡ true → b ≡ true
and_second a b h = grind arith

pub minus_first : (a b : Bool) → (a && not b) ≡ true → a ≡ true
minus_first a b h = grind arith

pub minus_second : (a b : Bool) → (a && not b) ≡ true → b ≡ false
minus_second a b h = grind arith

pub minus_parts : (a b : Bool) → (a && not b) ≡ true → (a ≡ true) × (b ≡ false)
minus_parts true false h = (refl, refl)
minus_parts true true h = cc
minus_parts false b h = cc

-- what no hit of either test says of each
pub no_left : (a b : Bool) → (a || b) ≡ false → a ≡ false
no_left a b e = grind arith

pub no_right : (a b : Bool) → (a || b) ≡ false → b ≡ false
no_right a b e = grind arith

-- if one test fails, either test is the other
pub nothing_or : (a b : Bool) → a ≡ false → (a || b) ≡ b
nothing_or a b h = grind arith

pub only_first : (a b : Bool) → b ≡ false → (a || b) ≡ true → a ≡ true
only_first a b h k = grind arith

pub only_second : (a b : Bool) → a ≡ false → (a || b) ≡ true → b ≡ true
only_second a b h k = grind arith

-- tests that exclude each other, or where one follows from the other
pub apart_at : (a b : Bool) → (a ≡ true → b ≡ false) → (a && b) ≡ false
apart_at a b h = grind arith

pub put_back : (a b : Bool) → (a ≡ true → b ≡ true) → (a || (b && not a)) ≡ b
put_back true b h = sym (h refl)
put_back false true h = refl
put_back false false h = refl

-- two tests that give each other are the same
pub same_tests : (a b : Bool) → (a ≡ true → b ≡ true) → (b ≡ true → a ≡ true) → a ≡ b
same_tests true b h k = sym (h refl)
same_tests false true h k = k refl
same_tests false false h k = refl

-- three tests, and four
pub or_assoc : (a b c : Bool) → (a || (b || c)) ≡ ((a || b) || c)
or_assoc a b c = grind arith

pub four_and : (a b c d : Bool) → ((a && b) && (c && d)) ≡ ((a && c) && (b && d))
four_and a b c d = grind arith

pub second_in : (a b c : Bool) → a ≡ (b || c) → c ≡ true → a ≡ true
second_in a b c h k = grind arith

-- of two vertices that a set separates, it separates one from any third
pub parts_one_of : (a b c : Bool) → a ≡ true → not b ≡ true → ((if c then not a else a) ≡ true) ⊎ ((if c then not b else b) ≡ true)
parts_one_of a b true h k = inr k
parts_one_of a b false h k = inl h

pub parts_itself : (a : Bool) → (if a then not a else a) ≡ false
parts_itself a = grind arith

-- equal tests, put together alike, are equal
pub minus_same : (a b c d : Bool) → a ≡ c → b ≡ d → (a && not b) ≡ (c && not d)
minus_same a b c d e f = grind arith

pub or_same : (a b c d : Bool) → a ≡ c → b ≡ d → (a || b) ≡ (c || d)
or_same a b c d e f = grind arith

-- two sets join the ends of an edge one way round or the other
pub joined_on : (a b c d : Bool) → a ≡ true → d ≡ true → (a && d || c && b) ≡ true
joined_on a b c d h k = grind arith

pub join_cases : (a b c d : Bool) → (a && d || c && b) ≡ true → ((a ≡ true) × (d ≡ true)) ⊎ ((c ≡ true) × (b ≡ true))
join_cases true b c true h = inl (refl, refl)
join_cases true b c false h = inr (and_parts c b h)
join_cases false b c d h = inr (and_parts c b h)

-- a test that gives another, where it passes and where it fails
pub passes : (x q : Bool) → (not x || q) ≡ true → x ≡ true → q ≡ true
passes x q h k = grind arith

pub fails : (x q : Bool) → not (not x || q) ≡ true → (x && not q) ≡ true
fails x q h = grind arith

pub peel : (x c p q r : Bool) → (c && not x) ≡ p → (x || c) ≡ q → r ≡ not p → x ≡ (r && q)
peel x c p q r h k m = grind arith

-- a term counted if a test says so
pub counted_in : (b : Bool) (m : ℕ) → b ≡ true → (if b then m else 0) ≡ m
counted_in b m h = grind arith

pub counted_out : (b : Bool) (m : ℕ) → b ≡ false → (if b then m else 0) ≡ 0
counted_out b m h = grind arith

pub counted_none : (b : Bool) (m : ℕ) → m ≡ 0 → (if b then m else 0) ≡ 0
counted_none b m h = grind arith

pub counted_sum : (b : Bool) (m k : ℕ) → (if b then m + k else 0) ≡ (if b then m else 0) + (if b then k else 0)
counted_sum b m k = grind arith

pub at_most_one : (b : Bool) (k : ℕ) → k ≡ (if b then 1 else 0) → k ≤ 1
at_most_one b k e = grind arith

pub one_seen : (b : Bool) (k : ℕ) → k ≡ (if b then 1 else 0) → 1 ≤ k → b ≡ true
one_seen b k e some = grind arith

pub term_bound : (b : Bool) (m most : ℕ) → m ≤ most → (if b then m else 0) ≤ most
term_bound b m most h = grind arith

pub either_le : (b : Bool) (w : ℕ) → (if b then w else 0) ≤ w
either_le b w = grind arith

pub either_way : (b : Bool) (z : ℕ) → (if b then z else z) ≡ z
either_way b z = grind arith
