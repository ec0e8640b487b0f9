-- One more event of a list.
use Rattle.std.proofs.Common.{◌≡◌, ℕ, zero, suc, ◌+◌, ◌<◌, true, false, List, [], ◌∷◌, ◌++◌, length, take, get_or, refl, sym, ap, ◌∙◌, subst, inl, inr, Result, Ok, Err, OnErr, arith}
use Rattle.scan_core.specs.declared.event.Event.{Event}
use Rattle.scan_core.specs.Machine.{Machine, after}
use Rattle.scan_core.specs.Shown.{CoreView, Shows, move_of, IsAllowedEvent, IsAnswer, Goes, HasGone}

goes_on : (m : Machine) (events : List Event) (count : ℕ) (n : Machine) (e : Event) → Goes m events count n → IsAllowedEvent n e → Goes m (events ++ e ∷ []) (suc count) (after n (move_of n.graph e))
goes_on m [] count n e (none, same) allowed =
    inl (subst (λ (x : Machine). IsAllowedEvent x e) same allowed, zero, ap suc none, (refl, ap (λ (x : Machine). after x (move_of x.graph e)) same))
goes_on m (x ∷ xs) count n e (inl (al, rest, is, more)) allowed = inl (al, suc rest, ap suc is, goes_on (after m (move_of m.graph x)) xs rest n e more allowed)
goes_on m (x ∷ xs) count n e (inr (off, more)) allowed = inr (off, goes_on m xs count n e more allowed)

skips : (m : Machine) (events : List Event) (count : ℕ) (n : Machine) (e : Event) → Goes m events count n → (IsAllowedEvent n e → ⊥) → Goes m (events ++ e ∷ []) count n
skips m [] count n e (none, same) refused = inr (subst (λ (x : Machine). IsAllowedEvent x e → ⊥) same refused, (none, same))
skips m (x ∷ xs) count n e (inl (al, rest, is, more)) refused = inl (al, rest, is, skips (after m (move_of m.graph x)) xs rest n e more refused)
skips m (x ∷ xs) count n e (inr (off, more)) refused = inr (off, skips m xs count n e more refused)

longer_by : (events : List Event) (k : ℕ) (e : Event) → k < length events → e ≡ get_or events k e → take (suc k) events ≡ take k events ++ e ∷ []
longer_by [] k e lt is = absurd (omega arith)
longer_by (x ∷ xs) zero e lt is = ap (λ (y : Event). y ∷ []) (sym is)
longer_by (x ∷ xs) (suc k) e lt is = ap (λ (l : List Event). x ∷ l) (longer_by xs k e (omega arith) is)

longer : (events : List Event) (k : ℕ) (e : Event) → k < length events → e ≡ get_or events k e → take (k + 1) events ≡ take k events ++ e ∷ []
longer events k e lt is = let more : k + 1 ≡ suc k = omega arith in ap (λ (i : ℕ). take i events) more ∙ longer_by events k e lt is

pub none_gone : (m : Machine) (view : CoreView) → Shows view m → HasGone m [] 0 view
none_gone m view sh = record { machine = m; goes = (refl, refl); shows = sh }

pub one_gone : (m : Machine) (events : List Event) (k count : ℕ) (old new : CoreView) (e : Event) → HasGone m (take k events) count old → k < length events → e ≡ get_or events k e → IsAnswer old new e true →
    HasGone m (take (k + 1) events) (count + 1) new
one_gone m events k count old new e gone lt is answer =
    let n = gone.machine in
    let told = (answer n gone.shows).0 refl in
    let more : suc count ≡ count + 1 = omega arith in record {
      machine = after n (move_of n.graph e);
      goes = subst (λ (l : List Event). Goes m l (count + 1) (after n (move_of n.graph e))) (sym (longer events k e lt is))
          (subst (λ (i : ℕ). Goes m (take k events ++ e ∷ []) i (after n (move_of n.graph e))) more (goes_on m (take k events) count n e gone.goes told.0));
      shows = told.2;
    }

pub one_skipped : (m : Machine) (events : List Event) (k count : ℕ) (old new : CoreView) (e : Event) → HasGone m (take k events) count old → k < length events → e ≡ get_or events k e → IsAnswer old new e false →
    HasGone m (take (k + 1) events) count new
one_skipped m events k count old new e gone lt is answer =
    let n = gone.machine in
    let told = (answer n gone.shows).1 refl in record {
      machine = n;
      goes = subst (λ (l : List Event). Goes m l count n) (sym (longer events k e lt is)) (skips m (take k events) count n e gone.goes told.0);
      shows = subst (λ (v : CoreView). Shows v n) (sym told.1) gone.shows;
    }

-- what holds of any result holds of an error
pub on_err : {A B : Type 0} (r : Result A B) (P : Type 0) → P → OnErr r P
on_err (Ok x) P p = tt
on_err (Err e) P p = p
