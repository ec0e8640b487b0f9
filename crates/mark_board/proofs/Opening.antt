-- An opened board's table meets the rule.
use Rattle.std.proofs.Common.{◌≡◌, ℕ, zero, suc, ◌+◌, ◌≤◌, Bool, true, false, true≢false, List, [], ◌∷◌, length, set, get_or, replicate, refl, sym, ap, ◌∙◌, subst, if◌then◌else◌, length-set, get_or-set_same, lt_of_not-le, arith}
use Rattle.std.specs.Prelude.{slice_index, nat_lt, Contains}
use Rattle.std.proofs.lemmas.List.{length-replicate, get_or-replicate, get_or_past}
use mathlib.Core.Logic.{dite}
use mathlib.Core.Option.{some, some-injective, some-ne-none}
use native.Mathlib.Decide.{dec_le}
use lib.ListN.{get_elem?}
use Rattle.atomic_table.specs.Table.{opening}
use Rattle.cut_definitions.specs.Safe.{IsFair}
use Rattle.scan_core.specs.Machine.{Knows, Machine, ended, FitsSeat, times, wins}
use Rattle.mark_board.specs.declared.rule.View.{View}
use Rattle.mark_board.specs.declared.rule.Opened.{Opened}
use Rattle.mark_board.specs.Words.{word_of, bit_of, is_flagged, base_of, words_for, taken_at}
use Rattle.mark_board.specs.Rule.{edge_count, IsBoard, Agrees, first_view, machine_of, knows, IsBare}
use Rattle.mark_board.proofs.Bits.{bit_of_none, is_flagged_bound, marked_in}

abbrev pub zeros : ℕ → List ℕ
zeros count = replicate count 0

zero_words : (count i : ℕ) → get_or (zeros count) i 0 ≡ 0
zero_words count i = dite (dec_le count i) (λ past. get_or_past (zeros count) i 0 (subst (λ (n : ℕ). n ≤ i) (sym (length-replicate {A = ℕ} count 0)) past)) (λ within. get_or-replicate count i 0 0 (lt_of_not-le within))

no_flags : (count bound f : ℕ) → is_flagged (set (zeros count) 0 bound) f ≡ false
no_flags count bound f = is_flagged_bound (zeros count) bound f ∙ (ap (λ (n : ℕ). bit_of n f) (zero_words count (word_of f)) ∙ bit_of_none f)

no_taken : (ws : List ℕ) (edges n v : ℕ) → ((f : ℕ) → is_flagged ws f ≡ false) → taken_at ws edges n v ≡ false
no_taken ws edges n zero none = refl
no_taken ws edges n (suc u) none = cases (nat_lt u n) ∙ refl
  where
    cases : (b : Bool) → (if b then is_flagged ws (base_of edges + u) else false) ≡ false
    cases true = none (base_of edges + u)
    cases false = refl

pub opens : (key : Opened) (count : ℕ) → count ≡ words_for (edge_count key.graph.value) key.graph.value.vertices → IsFair key.graph.value key.bound
    → IsBoard key (opening (set (zeros count) 0 key.bound) [] (first_view key))
opens key count is fair =
    let ws : List ℕ = set (zeros count) 0 key.bound in
    let s = opening ws [] (first_view key) in
    let edges : ℕ = edge_count key.graph.value in
    let none : (f : ℕ) → is_flagged ws f ≡ false = no_flags count key.bound in
    let len : length (zeros count) ≡ count = length-replicate {A = ℕ} count 0 in
    let b : slice_index ws 0 ≡ key.bound = get_or-set_same (zeros count) 0 key.bound 0 (omega arith) in
    let m = machine_of key s in
    let fair' : IsFair key.graph.value (slice_index ws 0) = subst (IsFair key.graph.value) (sym b) fair in
    let mine : FitsSeat m (knows (first_view key)) = record { above = omega arith; fair = fair; marked = λ e has. let lt = has.1 in absurd (omega arith); taken = λ e has. let lt = has.1 in absurd (omega arith) } in record {
      kept = record {
        fair = fair';
        lowered = omega arith;
        safe = λ e marked. absurd (true≢false (sym (marked_in ws edges e marked).1 ∙ none e));
        seats = λ k x at live. only k x (knows (first_view key)) m at mine;
        once = λ v. sym (ap (λ (c : Bool). if c then 1 else 0) (no_taken ws edges key.graph.value.vertices v none));
        gone = λ k x at dead. alive k x (knows (first_view key)) at refl dead;
        marker = λ e marked. absurd (true≢false (sym (marked_in ws edges e marked).1 ∙ none e));
      };
      agree = λ k v at live. first k v at;
      sized = length-set (zeros count) 0 key.bound ∙ (len ∙ is);
      spare = λ f h lt. none f;
      past = λ f h. none f;
    }
  where
    alive : (k : ℕ) (x y : Knows) → get_elem? (y ∷ []) k ≡ some x → y.live ≡ true → x.live ≡ false → x ≡ ended
    alive zero x y at live dead = absurd (true≢false (sym live ∙ ap (λ (z : Knows). z.live) (some-injective y x at) ∙ dead))
    alive (suc k) x y at live dead = absurd (some-ne-none x (sym at))

    only : (k : ℕ) (x y : Knows) (m : Machine) → get_elem? (y ∷ []) k ≡ some x → FitsSeat m y → FitsSeat m x
    only zero x y m at h = subst (FitsSeat m) (some-injective y x at) h
    only (suc k) x y m at h = absurd (some-ne-none x (sym at))

    first : (k : ℕ) (v : View) → get_elem? (first_view key ∷ []) k ≡ some v → Agrees key v
    first zero v at = subst (Agrees key) (some-injective (first_view key) v at) (record { graph = refl; slack = refl; opening = refl })
    first (suc k) v at = absurd (some-ne-none v (sym at))

-- a seat that has marked and won nothing, alone on a board
pub bare : (v : View) → v.own ≡ [] → v.won ≡ [] → IsBare v
bare v own won m kept seats = (λ e. unmarked e (m.is_marked e) refl, λ x. untaken x (m.is_taken x) refl)
  where
    unmarked : (e : ℕ) (b : Bool) → m.is_marked e ≡ b → m.is_marked e ≡ false
    unmarked e false is = is
    unmarked e true is = absurd (nobody (kept.marker e is).0 (kept.marker e is).1 (kept.marker e is).2 (kept.marker e is).3)
      where
        its : (k : ℕ) (s : Knows) → get_elem? (knows v ∷ []) k ≡ some s → Contains s.own e → ⊥
        its zero s at has =
            let none : Contains [] e = subst (λ (l : List ℕ). Contains l e) (ap (λ (z : Knows). z.own) (sym (some-injective (knows v) s at)) ∙ own) has in
            let lt = none.1 in omega arith
        its (suc k) s at has = absurd (some-ne-none s (sym at))

        nobody : (k : ℕ) (s : Knows) → get_elem? m.seats k ≡ some s → Contains s.own e → ⊥
        nobody k s at has = its k s (subst (λ (l : List Knows). get_elem? l k ≡ some s) seats at) has

    untaken : (x : ℕ) (b : Bool) → m.is_taken x ≡ b → m.is_taken x ≡ false
    untaken x false is = is
    untaken x true is =
        let none : wins x m.seats ≡ 0 = ap (λ (l : List Knows). wins x l) seats ∙ ap (λ (l : List ℕ). 0 + times x l) won in
        let one : wins x m.seats ≡ 1 = kept.once x ∙ ap (λ (b : Bool). if b then 1 else 0) is in
        absurd (omega arith)
