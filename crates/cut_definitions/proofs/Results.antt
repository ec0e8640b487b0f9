-- What holds of a result that is `Ok`.
use Rattle.std.specs.Prelude.{IfOk, Result, Ok, Err}

-- what holds of the value, and what follows from that
pub if_ok_more : {A E : Type 0} (P Q : A → Type 0) (r : Result A E) → ((x : A) → P x → Q x) → IfOk r P → IfOk r Q
if_ok_more P Q (Ok x) more h = more x h
if_ok_more P Q (Err e) more h = h

pub if_both : {X E : Type 0} (r : Result X E) (P Q R : X → Type 0) → ((x : X) → P x → Q x → R x) → IfOk r P → IfOk r Q → IfOk r R
if_both (Ok x) P Q R both p q = both x p q
if_both (Err e) P Q R both p q = p
