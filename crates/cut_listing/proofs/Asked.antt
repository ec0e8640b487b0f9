-- Facts about asks.
use Rattle.std.proofs.Common.{ℕ}
use Rattle.cut_listing.specs.Asks.{HasMasses, IsAskWithin}
use Rattle.cut_listing.specs.declared.ask.Ask.{Ask}
use Rattle.cut_listing.specs.declared.ask.Ask.TheVariants.{All, Parting, Least}

-- an ask of the vertices 1 to n has their masses
pub within_masses : (n : ℕ) (ask : Ask) → IsAskWithin n ask → HasMasses n ask
within_masses n All within = tt
within_masses n (Parting u v) within = tt
within_masses n (Least least weights) within = within
