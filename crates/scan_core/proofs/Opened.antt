-- The facts of the machine hold from the opening state on.
use Rattle.std.proofs.Common.{◌≡◌, ℕ, zero, suc, false, true≢false, List, [], ◌∷◌, refl, sym, ap, ◌∙◌, subst, arith}
use mathlib.Core.Option.{some, some-injective, some-ne-none}
use lib.ListN.{get_elem?}
use Rattle.cut_definitions.specs.Graph.{Graph}
use Rattle.cut_definitions.specs.Safe.{IsFair}
use Rattle.scan_core.specs.Machine.{Knows, Machine, Move, loads, lowers, looks, marks, splits, joins, takes, fresh, ended, opening_machine, after, FitsSeat, IsKept}
use Rattle.scan_core.specs.Laws.{Makes, LawOfSteps, LawOfKeeping, LawOfFalling}
use Rattle.scan_core.proofs.Keeps.{kept_after}

pub opened : (g : Graph) (slack bound : ℕ) → IsFair g bound → IsKept (opening_machine g slack bound)
opened g slack bound fair =
    let m = opening_machine g slack bound in
    let first : FitsSeat m (fresh bound) = record { above = omega arith; fair = fair; marked = λ e has. let none = has.1 in absurd (omega arith); taken = λ v has. let none = has.1 in absurd (omega arith) } in record {
      fair = fair;
      lowered = omega arith;
      safe = λ e is. absurd (true≢false (sym is));
      seats = λ k s at live. only m bound k s at first;
      once = λ v. refl;
      gone = λ k s at dead. gone_none bound k s at dead;
      marker = λ e is. absurd (true≢false (sym is));
    }
  where
    gone_none : (bound k : ℕ) (s : Knows) → get_elem? (fresh bound ∷ []) k ≡ some s → s.live ≡ false → s ≡ ended
    gone_none bound zero s at dead = absurd (true≢false (ap (λ (x : Knows). x.live) (some-injective (fresh bound) s at) ∙ dead))
    gone_none bound (suc k) s at dead = absurd (some-ne-none s (sym at))

    only : (m : Machine) (bound k : ℕ) (s : Knows) → get_elem? (fresh bound ∷ []) k ≡ some s → FitsSeat m (fresh bound) → FitsSeat m s
    only m bound zero s at h = subst (FitsSeat m) (some-injective (fresh bound) s at) h
    only m bound (suc k) s at h = absurd (some-ne-none s (sym at))

made : (m : Machine) (moves : List Move) (n : Machine) → IsKept m → Makes m moves n → IsKept n
made m [] n kept is = subst IsKept (sym is) kept
made m (move ∷ moves) n kept (allowed, rest) = made (after m move) moves n (kept_after m move kept allowed) rest

pub law_of_steps : LawOfSteps
law_of_steps g slack bound fair moves m is = made (opening_machine g slack bound) moves m (opened g slack bound fair) is

pub law_of_keeping : LawOfKeeping
law_of_keeping m move kept allowed = kept_after m move kept allowed

pub law_of_falling : LawOfFalling
law_of_falling m (loads k) = omega arith
law_of_falling m (lowers k x) = omega arith
law_of_falling m (looks k e) = omega arith
law_of_falling m (marks k e) = omega arith
law_of_falling m (splits k) = omega arith
law_of_falling m (joins k j) = omega arith
law_of_falling m (takes k v) = omega arith
