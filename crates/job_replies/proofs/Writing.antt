-- A text that was written, in part or whole.
use Rattle.std.proofs.Common.{◌≡◌, ℕ, List, Option, subst, Result, Ok, Err}
use Rattle.std.specs.Prelude.{OnOk}
use Rattle.std.specs.Io.KnownBytes.{Appends}
use Rattle.outside.specs.Faults.{Rose, AppendsPrefix}
use Rattle.job_replies.specs.Answers.{Wrote, Failed}

pub wrote_by : {T E : Type 0} (r : Result T E) (text other : List ℕ) (before after : Option (List ℕ)) (m n : ℕ) → other ≡ text → OnOk r (Appends before after other) → OnOk r (n ≡ m) →
    OnOk r (Wrote text before after m n)
wrote_by (Ok x) text other before after m n same taken count = record { text_taken = subst (λ (t : List ℕ). Appends before after t) same taken; same_count = count }
wrote_by (Err e) text other before after m n same taken count = tt

pub failed_by : (text other : List ℕ) (before after : Option (List ℕ)) (m n : ℕ) → other ≡ text → AppendsPrefix before after other → Rose m n → Failed text before after m n
failed_by text other before after m n same taken rose = record { part_taken = subst (λ (t : List ℕ). AppendsPrefix before after t) same taken; rose = rose }
