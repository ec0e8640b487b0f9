-- The number of the different sides of a cactus.
use Rattle.std.proofs.Common.{◌≡◌, ℕ, List, length, ap, ◌∙◌, sym}
use Rattle.rooted_cactus.specs.Different.{HasDifferent}
use Rattle.rooted_cactus.specs.Rooted.{Rooted, sides_of}
use Rattle.cut_listing.specs.declared.ask.Ask.TheVariants.{All}
use Rattle.cut_listing.specs.Listings.{asked_sides, different}
use Rattle.cut_listing.proofs.Listed.{all_different, pass_true, same_different}

-- ---- as many different ones as a list of different ones has
pub number_different : (k : ℕ) (xs : List (List ℕ)) → HasDifferent k xs → length (different xs) ≡ k
number_different k xs h = ap length (sym (same_different h.members xs (λ s. (h.same s).0) (λ s. (h.same s).1))) ∙ all_different h.members h.different ∙ h.many

pub number_all : (k : ℕ) (c : Rooted) → HasDifferent k (sides_of c) → k ≡ length (different (asked_sides All c))
number_all k c h = sym (ap (λ l. length (different l)) (pass_true (sides_of c)) ∙ number_different k (sides_of c) h)
