-- Lists of cuts, no two of them the same.
use Rattle.std.proofs.Common.{◌≡◌, ℕ, zero, suc, ◌+◌, ◌<◌, ◌≤◌, ◌⊎◌, ⊎_elim, inl, inr, Bool, true, false, List, [], ◌∷◌, ◌++◌, set, take, length, get_or, refl, sym, ◌∙◌, ap, subst, arith}
use Rattle.std.specs.Prelude.{◌≢◌, Option, None, Some, IfSome, if◌then◌else◌}
use Rattle.std.specs.List.{All, Contains}
use Rattle.std.proofs.lemmas.List.{get_or-set_same}
use Rattle.std.proofs.lemmas.List.Elements.{All-cons, All-contains, All-contains_itself, All-head, All-nil, All-push, All-tail, All-take, All-weaker, Contains-push_cases}
use Rattle.cut_definitions.specs.Cuts.{has, value}
use Rattle.cut_definitions.specs.Graph.{Graph}
use Rattle.cut_definitions.specs.Members.{AreDifferent}
use Rattle.cut_definitions.proofs.Lists.{Contains-from_map, Contains-here, Contains-nil, Contains-there}
use Rattle.region_flow.specs.Inflow.{IsAround, IsStopReached}
use Rattle.least_cut.specs.declared.lightest.LightestCut.{LightestCut}
use Rattle.least_cut.specs.CutsBelow.{AreCutsBelow, BeginsWithLightest, IsKeptBeside, IsPutBehind, sides_in, with_best}
use Rattle.least_cut.specs.Lightest.{IsCutFound, IsFoundBelow, limit_of}
use Rattle.least_cut.specs.Sweep.{IsSwept}
use Rattle.least_cut.proofs.FoundCuts.{lightest_found, limit_at_least, limit_at_most}
use Rattle.least_cut.proofs.Sweeping.{swept_on, zero_kept}

-- ---- lists without repeats

abbrev Lists : Type 0
Lists = List (List ℕ)

different_push : (xs : Lists) (x : List ℕ) → AreDifferent xs → (Contains xs x → ⊥) → AreDifferent (xs ++ x ∷ [])
different_push [] x d out = (λ h. Contains-nil x h, tt)
different_push (y ∷ xs) x d out = (
  λ h. elim (Contains-push_cases xs x y h) [
    | inl t ↦ d.0 t
    | inr e ↦ out (subst (λ (z : List ℕ). Contains (y ∷ xs) z) (sym e) (Contains-here y xs))
  ],
  different_push xs x d.1 (λ t. out (Contains-there y xs x t)),
)

from_take : (k : ℕ) (xs : Lists) (x : List ℕ) → Contains (take k xs) x → Contains xs x
from_take k xs x h = All-contains (Contains xs) (take k xs) x (All-take (Contains xs) k xs (All-contains_itself xs)) h

different_take : (k : ℕ) (xs : Lists) → AreDifferent xs → AreDifferent (take k xs)
different_take zero xs d = tt
different_take (suc k) [] d = tt
different_take (suc k) (x ∷ xs) d = (λ h. d.0 (from_take k xs x h), different_take k xs d.1)

-- the sides of the first cuts, and of one more
sides_push : (k : ℕ) (old : List LightestCut) (cut : LightestCut) → sides_in (take k old ++ cut ∷ []) ≡ take k (sides_in old) ++ cut.side.members ∷ []
sides_push zero old cut = refl
sides_push (suc k) [] cut = refl
sides_push (suc k) (c ∷ old) cut = ap (λ (l : Lists). c.side.members ∷ l) (sides_push k old cut)

-- ---- a cut behind others

put_all : (P : LightestCut → Type 0) (cut : LightestCut) (old new : List LightestCut) → IsPutBehind cut old new → All P old → P cut → All P new
put_all P cut old new put all one = elim put [
  | inl same ↦ subst (All P) (sym same) all
  | inr at ↦ subst (All P) (sym at.1) (All-push P (take at.0 old) cut (All-take P at.0 old all) one)
]

-- what is there now was there before, or is the cut
put_within : (cut : LightestCut) (old new : List LightestCut) → IsPutBehind cut old new → (x : List ℕ) → Contains (sides_in new) x → Contains (sides_in old) x ⊎ (cut.side.members ≡ x)
put_within cut old new put x h = elim put [
  | inl same ↦ inl (subst (λ (l : List LightestCut). Contains (sides_in l) x) same h)
  | inr at ↦ (
      let h' : Contains (take at.0 (sides_in old) ++ cut.side.members ∷ []) x = subst (λ (l : Lists). Contains l x) (ap sides_in at.1 ∙ sides_push at.0 old cut) h in
      elim (Contains-push_cases (take at.0 (sides_in old)) cut.side.members x h') [ inl t ↦ inl (from_take at.0 (sides_in old) x t) | inr e ↦ inr e ])
]

put_different : (cut : LightestCut) (old new : List LightestCut) → IsPutBehind cut old new → AreDifferent (sides_in old) → (Contains (sides_in old) cut.side.members → ⊥) → AreDifferent (sides_in new)
put_different cut old new put d out = elim put [
  | inl same ↦ subst (λ (l : List LightestCut). AreDifferent (sides_in l)) (sym same) d
  | inr at ↦ subst AreDifferent (sym (ap sides_in at.1 ∙ sides_push at.0 old cut))
      (different_push (take at.0 (sides_in old)) cut.side.members (different_take at.0 (sides_in old) d) (λ t. out (from_take at.0 (sides_in old) cut.side.members t)))
]

-- ---- a cut that is kept beside the best and others

pub kept_all : (P : LightestCut → Type 0) (best : Option LightestCut) (found kept : LightestCut) (old new : List LightestCut) → IsKeptBeside best found kept old new → All P (with_best best old) → P found → All P (kept ∷ new)
kept_all P None found kept old new h all one = All-cons P kept new (subst P (sym h.0) one) (subst (All P) (sym h.1) all)
kept_all P (Some b) found kept old new h all one =
    let first = All-head P b old all in
    let rest = All-tail P b old all in
    elim h [
      | inl k ↦ All-cons P kept new (subst P (sym k.0) one) (put_all P b old new k.2 rest first)
      | inr k ↦ All-cons P kept new (subst P (sym k.0) first) (put_all P found old new k.2 rest one)
    ]

-- a cut is not among others from which it differs
pub not_among : (P : LightestCut → Type 0) (cut : LightestCut) (cuts : List LightestCut) → All P cuts → ((d : LightestCut) → P d → d.side.members ≢ cut.side.members) → Contains (sides_in cuts) cut.side.members → ⊥
not_among P cut cuts all other there =
    let d = Contains-from_map (λ (c : LightestCut). c.side.members) cuts cut.side.members there in
    other d.0 (All-contains P cuts d.0 all d.1) d.2

pub kept_different : (best : Option LightestCut) (found kept : LightestCut) (old new : List LightestCut) → IsKeptBeside best found kept old new → AreDifferent (sides_in (with_best best old)) →
    (Contains (sides_in (with_best best old)) found.side.members → ⊥) → AreDifferent (sides_in (kept ∷ new))
kept_different None found kept old new h d out = rw (h.0, h.1) (out, d)
kept_different (Some b) found kept old new h d out =
    let later = λ (t : Contains (sides_in old) found.side.members). out (Contains-there b.side.members (sides_in old) found.side.members t) in
    let first = λ (e : b.side.members ≡ found.side.members). out (subst (λ (x : List ℕ). Contains (sides_in (b ∷ old)) x) e (Contains-here b.side.members (sides_in old))) in
    elim h [
      | inl k ↦ rw k.0 (
        λ t. ⊎_elim later first (put_within b old new k.2 found.side.members t),
        put_different b old new k.2 d.1 d.0,
      )
      | inr k ↦ rw k.0 (
        λ t. ⊎_elim d.0 (λ (e : found.side.members ≡ b.side.members). first (sym e)) (put_within found old new k.2 b.side.members t),
        put_different found old new k.2 d.1 later,
      )
    ]

-- the cut that is best now weighs no more than what was best, and no more than what was found
pub kept_is_lighter : (bound : ℕ) (best : Option LightestCut) (found kept : LightestCut) (old new : List LightestCut) → IsKeptBeside best found kept old new → found.weight ≤ bound →
    (kept.weight ≤ limit_of best bound) × (kept.weight ≤ found.weight)
kept_is_lighter bound None found kept old new h most = rw h.0 (most, omega arith)
kept_is_lighter bound (Some b) found kept old new h most = elim h [
  | inl k ↦ rw k.0 (k.1, omega arith)
  | inr k ↦ rw k.0 (omega arith, k.1)
]

-- ---- what a sweep keeps

-- a cut below a bound, of which some vertex has entered
pub record IsMet (g : Graph) (bound : ℕ) (labels : List ℕ) (c : LightestCut) : Type 0 where
  pub cut : IsCutFound g c
  pub below : c.weight < bound
  pub vertex : ℕ
  pub is_in : has c.side.members vertex ≡ true
  pub entered : get_or labels vertex 0 ≡ 0

-- it is another cut than one inside a region
pub met_is_other : (g : Graph) (bound : ℕ) (labels : List ℕ) (t : ℕ) (found : LightestCut) → IsAround labels t (has found.side.members) →
    (d : LightestCut) → IsMet g bound labels d → d.side.members ≢ found.side.members
met_is_other g bound labels t found around d met = λ e.
    let there : has found.side.members met.vertex ≡ true = ap (λ (l : List ℕ). has l met.vertex) (sym e) ∙ met.is_in in
    omega (arith, around.inside.labelled met.vertex there, around.inside.outside, met.entered)

-- it stays so when one more vertex enters
pub met_still : (g : Graph) (bound : ℕ) (labels labels' : List ℕ) (t : ℕ) → t < length labels → labels' ≡ set labels t 0 → (c : LightestCut) → IsMet g bound labels c → IsMet g bound labels' c
met_still g bound labels labels' t l is c met = record {
  cut = met.cut;
  below = met.below;
  vertex = met.vertex;
  is_in = met.is_in;
  entered = rw is (zero_kept labels t met.vertex met.entered l);
}

-- what is found around the vertex that enters
pub found_is_met : (g : Graph) (bound limit : ℕ) (labels labels' : List ℕ) (t : ℕ) (found : LightestCut) → t < length labels → labels' ≡ set labels t 0 → limit ≤ bound → IsFoundBelow g limit (Some found) →
    IsAround labels t (has found.side.members) → IsMet g bound labels' found
found_is_met g bound limit labels labels' t found l is most below around = record {
  cut = below.cut;
  below = omega (arith, below.less, most);
  vertex = t;
  is_in = around.there;
  entered = rw is (get_or-set_same labels t 0 0 l);
}

-- the best of what is kept is a cut below the bound
pub best_is_found : (g : Graph) (bound : ℕ) (labels : List ℕ) (best : Option LightestCut) (others : List LightestCut) → All (IsMet g bound labels) (with_best best others) → IsFoundBelow g bound best
best_is_found g bound labels None others all = record { cut = tt; less = tt }
best_is_found g bound labels (Some b) others all = let h = All-head (IsMet g bound labels) b others all in record { cut = h.cut; less = h.below }

-- the stop is at most the bound, and at least what the best weighs
pub stop_between : (g : Graph) (bound stop : ℕ) (room : Bool) (best : Option LightestCut) → IsFoundBelow g bound best → stop ≡ (if room then bound else limit_of best bound) → (stop ≤ bound) × (limit_of best bound ≤ stop)
stop_between g bound stop true best h is = (omega (arith, is), omega (arith, is, limit_at_most g bound best h))
stop_between g bound stop false best h is = (omega (arith, is, limit_at_most g bound best h), omega (arith, is))

-- what is kept, and what it says of the value
pub record AreKept (g : Graph) (bound : ℕ) (labels : List ℕ) (best : Option LightestCut) (others : List LightestCut) : Type 0 where
  pub met : All (IsMet g bound labels) (with_best best others)
  pub different : AreDifferent (sides_in (with_best best others))
  pub swept : IsSwept g bound labels (limit_of best bound)

-- nothing yet
pub none_kept : (g : Graph) (bound : ℕ) (labels : List ℕ) (others : List LightestCut) → others ≡ [] → IsSwept g bound labels bound → AreKept g bound labels None others
none_kept g bound labels others is swept = rw is (record { met = All-nil (IsMet g bound labels); different = tt; swept = swept })

-- after a vertex entered around which a cut was found
pub kept_with : (g : Graph) (bound stop : ℕ) (labels labels' : List ℕ) (t : ℕ) (best : Option LightestCut) (others new : List LightestCut) (answer : Option LightestCut) (found kept : LightestCut) → t < length labels →
    labels' ≡ set labels t 0 → AreKept g bound labels best others → (stop ≤ bound) × (limit_of best bound ≤ stop) → answer ≡ Some found → IsFoundBelow g stop answer → IfSome answer (λ c. IsAround labels t (has c.side.members)) →
    IsStopReached g labels t (limit_of answer stop) → IsKeptBeside best found kept others new → AreKept g bound labels' (Some kept) new
kept_with g bound stop labels labels' t best others new answer found kept l is h between was below around least beside =
    let found_below : IsFoundBelow g stop (Some found) = subst (IsFoundBelow g stop) was below in
    let found_around : IsAround labels t (has found.side.members) = subst (λ (a : Option LightestCut). IfSome a (λ c. IsAround labels t (has c.side.members))) was around in
    let reached : IsStopReached g labels t found.weight = subst (λ (a : Option LightestCut). IsStopReached g labels t (limit_of a stop)) was least in
    let lighter = kept_is_lighter bound best found kept others new beside (omega (arith, found_below.less, between.0)) in
    let before = All-weaker (IsMet g bound labels) (IsMet g bound labels') (met_still g bound labels labels' t l is) (with_best best others) h.met in
    let met = kept_all (IsMet g bound labels') best found kept others new beside before (found_is_met g bound stop labels labels' t found l is between.0 found_below found_around) in
    record {
      met = met;
      different = kept_different best found kept others new beside h.different (not_among (IsMet g bound labels) found (with_best best others) h.met (met_is_other g bound labels t found found_around));
      swept = swept_on g labels labels' t bound (limit_of best bound) found.weight kept.weight l h.swept reached is lighter.0 lighter.1 (limit_at_least g bound (Some kept) (best_is_found g bound labels' (Some kept) new met));
    }

-- and after one around which none was found
pub kept_without : (g : Graph) (bound stop : ℕ) (labels labels' : List ℕ) (t : ℕ) (best : Option LightestCut) (others : List LightestCut) (answer : Option LightestCut) → t < length labels →
    labels' ≡ set labels t 0 → AreKept g bound labels best others → (stop ≤ bound) × (limit_of best bound ≤ stop) → answer ≡ None → IsStopReached g labels t (limit_of answer stop) → AreKept g bound labels' best others
kept_without g bound stop labels labels' t best others answer l is h between was least =
    let reached : IsStopReached g labels t stop = subst (λ (a : Option LightestCut). IsStopReached g labels t (limit_of a stop)) was least in
    let met = All-weaker (IsMet g bound labels) (IsMet g bound labels') (met_still g bound labels labels' t l is) (with_best best others) h.met in
    record {
      met = met;
      different = h.different;
      swept = swept_on g labels labels' t bound (limit_of best bound) stop (limit_of best bound) l h.swept reached is (omega arith) between.1 (limit_at_least g bound best (best_is_found g bound labels' best others met));
    }

-- ---- the end

-- the cuts that are kept, once no cut undercuts the best or the bound
pub cuts_in_the_end : (g : Graph) (bound room : ℕ) (labels : List ℕ) (best : Option LightestCut) (others cuts : List LightestCut) → cuts ≡ with_best best others → AreKept g bound labels best others →
    length others + 1 ≤ room → limit_of best bound ≤ value g → AreCutsBelow g bound room cuts
cuts_in_the_end g bound room labels best others cuts is h few low = rw is (record {
  each = All-weaker (IsMet g bound labels) (IsCutFound g) (λ c h. h.cut) (with_best best others) h.met;
  below = All-weaker (IsMet g bound labels) (λ (c : LightestCut). c.weight < bound) (λ c h. h.below) (with_best best others) h.met;
  different = h.different;
  few = long best;
  least = λ some less. begins best h.met low less;
})
  where
    long : (b : Option LightestCut) → length (with_best b others) ≤ room
    long None = omega (arith, few)
    long (Some b) = omega (arith, few)

    begins : (b : Option LightestCut) → All (IsMet g bound labels) (with_best b others) → limit_of b bound ≤ value g → value g < bound → BeginsWithLightest g (with_best b others)
    begins None met most less = absurd (omega (arith, most, less))
    begins (Some b) met most less = lightest_found g bound (Some b) (best_is_found g bound labels (Some b) others met) most
