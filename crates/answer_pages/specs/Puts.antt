-- What a page holds of a text, and what a sink took of it.
use Rattle.std.specs.Prelude.{◌≡◌, ℕ, List, ◌++◌, Option, Result, OnOk, OnErr}
use Rattle.std.specs.Io.KnownBytes.{Appends}
use Rattle.outside.specs.Faults.{HasCause, AppendsPrefix}

-- a first part of the bytes was taken, and the rest is held
pub record IsSplit (bytes : List ℕ) (before now : Option (List ℕ)) (held : List ℕ) : Type 0 where
  pub gone : List ℕ
  pub parts : bytes ≡ gone ++ held
  pub taken : Appends before now gone

-- the bytes go to the sink through the page: what it held, and the bytes after that, were taken or are held; if a write failed, a
-- first part of them was taken
pub record Puts {T E : Type 0} (bytes : List ℕ) (before now : Option (List ℕ)) (m n : ℕ) (held : List ℕ) (result : Result T E) : Type 0 where
  pub ok : OnOk result (IsSplit bytes before now held)
  pub err : OnErr result (AppendsPrefix before now bytes)
  pub cause : HasCause m n result
