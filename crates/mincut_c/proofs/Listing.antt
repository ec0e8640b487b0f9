-- A listing of a cactus of all minimum cuts lists those that are asked for.
use Rattle.std.proofs.Common.{◌≡◌, ℕ, ◌*◌, ◌≤◌, ◌<◌, ◌^◌, ◌⊎◌, inl, inr, Bool, true, List, [], ◌∷◌, refl, length, sym, ◌∙◌, subst, ap, arith}
use Rattle.std.specs.Prelude.{◌≢◌, nat_le, Result, IfOk, IfErr}
use Rattle.std.specs.Global.{Vec}
use Rattle.std.specs.List.{All, filter}
use Rattle.std.proofs.lemmas.List.{length-map}
use Rattle.std.proofs.lemmas.Result.{IfOk-weaker, IfErr-weaker}
use Rattle.std.proofs.lemmas.Bool.Decides.{nat_tests}
use Rattle.cut_definitions.specs.Balance.{balance}
use Rattle.cut_definitions.specs.Cuts.{mincuts, value}
use Rattle.cut_definitions.specs.Graph.{Graph}
use Rattle.vertex_set.specs.Side.{VertexList, members_of}
use Rattle.rooted_cactus.specs.Solving.{IsSolved}
use Rattle.rooted_cactus.specs.declared.solved.Solved.{Solved}
use Rattle.cut_listing.specs.Asks.{is_balanced, lets}
use Rattle.cut_listing.specs.Laws.{LawOfCount, LawOfMinimumCuts}
use Rattle.cut_listing.specs.Listings.{IsList, IsRefusal}
use Rattle.cut_listing.specs.declared.ask.Ask.{Ask}
use Rattle.cut_listing.specs.declared.list_refusal.ListRefusal.{ListRefusal}
use Rattle.cut_listing.specs.declared.list_refusal.ListRefusal.TheVariants.{TooLarge, NoMemory}
use Rattle.edge_arrays.specs.Given.{given}
use Rattle.edge_arrays.specs.declared.arrays.ArrayFault.TheVariants.{OutOfMemory}
use Rattle.mincut_c.specs.Listed.{AreListed, AreSides, AreTooMany, balanced_cuts}
use Rattle.mincut_c.specs.Statuses.{HasCuts, TellsFault}
use Rattle.mincut_c.specs.declared.status.Fault.TheVariants.{Arrays, NoRoom, TooManySides}

-- there are as many sides as cuts
many : (n : ℕ) (cuts : List (List ℕ)) (list : List VertexList) → AreSides n cuts list → length list ≡ length cuts
many n cuts list s = sym (length-map list (λ (x : VertexList). x.members)) ∙ ap (λ (xs : List (List ℕ)). length xs) s.same

-- by the cactus of a solved graph
module _ (g : Graph) (solved : Solved) (ask : Ask) (s : IsSolved g solved) where
  sides : LawOfMinimumCuts → (list : List VertexList) → IsList (2 ^ 30) solved.cactus.vertices ask solved.cactus list → AreSides g.vertices (filter (lets ask) (mincuts g)) list
  sides law list l =
      let cuts = filter (lets ask) (mincuts g) in
      let same : members_of list ≡ cuts = law g solved.cactus ask (members_of list) s.sides l.listing in
      let long : length list ≡ length cuts = sym (length-map list (λ (x : VertexList). x.members)) ∙ ap (λ (xs : List (List ℕ)). length xs) same in
      record {
        over_n = subst (λ (n : ℕ). All (λ (x : VertexList). x.vertices ≡ n) list) s.over l.over_n;
        same = same;
        few = subst (λ (k : ℕ). length cuts * k ≤ 2 ^ 30) s.over (subst (λ (k : ℕ). k * solved.cactus.vertices ≤ 2 ^ 30) long l.not_too_large);
      }

  too_many : LawOfCount → (refusal : ListRefusal) → IsRefusal (2 ^ 30) solved.cactus.vertices ask solved.cactus refusal → AreTooMany g.vertices (filter (lets ask) (mincuts g)) refusal
  too_many law (TooLarge count n) r =
      let counted : count ≡ length (filter (lets ask) (mincuts g)) = law g solved.cactus ask count s.sides r.0 in
      (counted, subst (λ (k : ℕ). 2 ^ 30 < k * g.vertices) counted (subst (λ (k : ℕ). 2 ^ 30 < count * k) s.over r.2))
  too_many law NoMemory r = tt

  pub listed : LawOfMinimumCuts → LawOfCount → (result : Result (Vec VertexList) ListRefusal) → IfOk result (λ v. IsList (2 ^ 30) solved.cactus.vertices ask solved.cactus v.items) →
      IfErr result (IsRefusal (2 ^ 30) solved.cactus.vertices ask solved.cactus) → AreListed g.vertices (filter (lets ask) (mincuts g)) result
  listed law count result ok err = (IfOk-weaker result _ _ (λ v h. sides law v.items h) ok, IfErr-weaker result _ _ (λ r h. too_many count r h) err)

-- each cut has a balance of at least 0
pass_each : (p : List ℕ → Bool) (xs : List (List ℕ)) → ((side : List ℕ) → p side ≡ true) → filter p xs ≡ xs
pass_each p [] all = refl
pass_each p (x ∷ xs) all = rw (all x) (ap (λ (l : List (List ℕ)). x ∷ l) (pass_each p xs all))

none_below : (least b : ℕ) → least ≡ 0 → nat_le least b ≡ true
none_below least b none = grind (arith, nat_tests)

pub all_balanced : (g : Graph) (masses : List ℕ) (least : ℕ) → least ≡ 0 → balanced_cuts g masses least ≡ mincuts g
all_balanced g masses least none = pass_each (is_balanced masses least) (mincuts g) (λ side. none_below least (balance masses side) none)

-- what is listed by masses that are equal
pub listed_as : (g : Graph) (weights masses : List ℕ) (least : ℕ) (result : Result (Vec VertexList) ListRefusal) → weights ≡ masses → AreListed g.vertices (balanced_cuts g weights least) result → AreListed g.vertices (balanced_cuts g masses least) result
listed_as g weights masses least result same h = subst (λ (ms : List ℕ). AreListed g.vertices (balanced_cuts g ms least) result) same h

-- the sides of a list are over n, and few
pub over_each : (n : ℕ) (cuts : List (List ℕ)) (result : Result (Vec VertexList) ListRefusal) → AreListed n cuts result → IfOk result (λ v. All (λ (s : VertexList). s.vertices ≡ n) v.items)
over_each n cuts result h = IfOk-weaker result _ _ (λ v s. s.over_n) h.0

pub few_sides : (n : ℕ) (cuts : List (List ℕ)) (result : Result (Vec VertexList) ListRefusal) → AreListed n cuts result → IfOk result (λ v. length v.items * n ≤ 2 ^ 30)
few_sides n cuts result h = IfOk-weaker result _ _ (λ v s. subst (λ (k : ℕ). k * n ≤ 2 ^ 30) (sym (many n cuts v.items s)) s.few) h.0

-- a status of a list but 0 has its reason
pub list_fault : (status n : ℕ) (us vs ws : List ℕ) → (status ≡ 0) ⊎ ((status ≡ 2) ⊎ ((status ≡ 9) ⊎ (status ≡ 11))) → HasCuts n us vs ws → 1 ≤ value (given n us vs ws) → status ≢ 0 → TellsFault status n us vs ws
list_fault status n us vs ws (inl zero) cuts some not = absurd (not zero)
list_fault status n us vs ws (inr (inl two)) cuts some not = record { fault = Arrays OutOfMemory; number = two; reason = tt }
list_fault status n us vs ws (inr (inr (inl nine))) cuts some not = record { fault = NoRoom; number = nine; reason = (cuts, some) }
list_fault status n us vs ws (inr (inr (inr eleven))) cuts some not = record { fault = TooManySides; number = eleven; reason = (cuts, some) }

pub list_known : (status : ℕ) → (status ≡ 0) ⊎ ((status ≡ 2) ⊎ ((status ≡ 9) ⊎ (status ≡ 11))) → status ≤ 11
list_known status (inl zero) = omega (arith, zero)
list_known status (inr (inl two)) = omega (arith, two)
list_known status (inr (inr (inl nine))) = omega (arith, nine)
list_known status (inr (inr (inr eleven))) = omega (arith, eleven)

-- 0, 9 and 11 are not 2
pub is_counted : (status : ℕ) → (status ≡ 0) ⊎ ((status ≡ 9) ⊎ (status ≡ 11)) → status ≢ 2
is_counted status told = λ two. elim told [
  | inl zero ↦ absurd (omega (arith, zero, two))
  | inr more ↦ elim more [ inl nine ↦ absurd (omega (arith, nine, two)) | inr eleven ↦ absurd (omega (arith, eleven, two)) ]
]
