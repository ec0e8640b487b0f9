-- The list of the parts from one side, and the border.
use Rattle.std.proofs.Common.{◌≡◌, ℕ, zero, suc, ◌+◌, ◌<◌, ◌≤◌, ◌⊎◌, inl, inr, ⊎_elim, Bool, true, false, List, [], ◌∷◌, ◌-◌, ◌++◌, length, get_or, set, take, refl, sym, ◌∙◌, subst, ap, arith}
use Rattle.std.specs.Prelude.{◌≢◌, if◌then◌else◌}
use Rattle.std.specs.List.{All, AllPairs, Contains}
use Rattle.std.proofs.lemmas.Bool.{cases_lt, cases_eq, cases_Bool, false≢true}
use Rattle.std.proofs.lemmas.List.{get_or-append_right, get_or_append_left, length-append, length-set, get_or-set_same, append_assoc, take_more}
use Rattle.std.proofs.lemmas.List.Elements.{All-nil, All-cons, All-weaker, All-append, All-contains, All-contains_itself, All-get_or, Contains-append_left, Contains-append_right, Contains-push}
use Rattle.cut_definitions.specs.Graph.{Graph, IsGraph, IsVertex}
use Rattle.cut_definitions.specs.Cuts.{has}
use Rattle.cut_definitions.proofs.Bools.{at_most_one, one_seen}
use Rattle.cut_definitions.proofs.Numbers.{cases_zero}
use Rattle.cut_definitions.proofs.Ascending.{contains_has, has_contains}
use Rattle.weighted_graph.specs.declared.graph.Arc.{Arc}
use Rattle.weighted_graph.specs.Rows.{row_of, no_arc}
use Rattle.weighted_graph.specs.Searches.{is_seen}
use Rattle.weighted_graph.proofs.Searched.{arc_within, seen-before, seen-more, unseen_fewer}
use Rattle.weighted_graph.proofs.RowLaws.{row_arc}
use Rattle.arc_search.proofs.Finding.{none_seen}
use Rattle.arc_search.specs.Listing.{ListingState, IsBorder, IsKept, IsNothingListed, IsMet, IsRowMet, IsBordered, StaysAtBorder, HasMore, AreTaken}

-- an arc of a row leads to a vertex
pub row_end : (g : Graph) → IsGraph g → (row : List Arc) (v k : ℕ) → row ≡ row_of g v → k < length row → IsVertex g.vertices (get_or row k no_arc).to
row_end g ok row v k is l = arc_within g ok v (get_or row k no_arc) (row_arc g row v k is l)

-- what is met stays so while the border grows
pub met_more : (labels : List ℕ) (region : ℕ) (turns : List ℕ) (old new : List Bool) (v : ℕ) → StaysAtBorder old new → IsMet labels region turns old v → IsMet labels region turns new v
met_more labels region turns old new v stays h same = ⊎_elim (λ l. inl l) (λ is. inr (stays v is)) (h same)

pub row_met_more : (g : Graph) (labels turns : List ℕ) (old new : List Bool) (v : ℕ) → StaysAtBorder old new → IsRowMet g labels turns old v → IsRowMet g labels turns new v
row_met_more g labels turns old new v stays h =
    All-weaker (λ (a : Arc). IsMet labels (get_or labels v 0) turns old a.to) (λ (a : Arc). IsMet labels (get_or labels v 0) turns new a.to)
    (λ a k. met_more labels (get_or labels v 0) turns old new a.to stays k) (row_of g v) h

-- ---- the list

pub more_twice : (xs ys zs : List ℕ) → HasMore xs ys → HasMore ys zs → HasMore xs zs
more_twice xs ys zs h k = record { longer = omega (arith, h.longer, k.longer); same = λ i l. k.same i (omega (arith, l, h.longer)) ∙ h.same i l }

pub list_more : (before list found : List ℕ) (k : ℕ) → list ≡ before ++ take k found → k < length found → list ++ get_or found k 0 ∷ [] ≡ before ++ take (k + 1) found
list_more before list found k is l =
    ap (λ (xs : List ℕ). xs ++ get_or found k 0 ∷ []) is
    ∙ (append_assoc before (take k found) (get_or found k 0 ∷ [])
    ∙ ap (λ (xs : List ℕ). before ++ xs) (sym (take_more found k 0 l)))

-- two lists of different elements, which have none in common
pub apart_append : (xs ys : List ℕ) → AllPairs (λ (u v : ℕ). u ≢ v) xs → AllPairs (λ (u v : ℕ). u ≢ v) ys → ((v : ℕ) → Contains xs v → Contains ys v → ⊥) →
    AllPairs (λ (u v : ℕ). u ≢ v) (xs ++ ys)
apart_append xs ys left right none i j d below within e =
    let both = length-append xs ys in
    ⊎_elim
    (λ (j_left : j < length xs).
    left i j d below j_left (sym (get_or_append_left xs ys d i (omega arith)) ∙ (e ∙ get_or_append_left xs ys d j j_left)))
    (λ (j_right : length xs ≤ j).
    let j_at : get_or (xs ++ ys) j d ≡ get_or ys (j - length xs) d = get_or-append_right xs ys (length xs) j d refl j_right in
    let j_in : Contains ys (get_or ys (j - length xs) d) = All-get_or (Contains ys) ys (j - length xs) d (omega arith) (All-contains_itself ys) in
    ⊎_elim
    (λ (i_left : i < length xs).
    let i_in : Contains xs (get_or xs i d) = All-get_or (Contains xs) xs i d i_left (All-contains_itself xs) in
    none (get_or xs i d) i_in (subst (λ (v : ℕ). Contains ys v) (sym j_at ∙ (sym e ∙ get_or_append_left xs ys d i i_left)) j_in))
    (λ (i_right : length xs ≤ i).
    right (i - length xs) (j - length xs) d (omega arith) (omega arith) (sym (get_or-append_right xs ys (length xs) i d refl i_right) ∙ (e ∙ j_at)))
    (cases_lt i (length xs)))
    (cases_lt j (length xs))

-- ---- more vertices are listed

-- just the vertices of a list are listed more
pub record IsGrownBy (n : ℕ) (found old new : List ℕ) (last : ℕ) : Type 0 where
  pub as_long : length new ≡ n + 1
  pub nobody : get_or new 0 0 ≡ 0
  pub to_last : (v : ℕ) → get_or new v 0 ≤ last
  pub still : (v : ℕ) → 1 ≤ get_or old v 0 → 1 ≤ get_or new v 0
  pub from : (v : ℕ) → 1 ≤ get_or new v 0 → (1 ≤ get_or old v 0) ⊎ (has found v ≡ true)
  pub each : (v : ℕ) → has found v ≡ true → 1 ≤ get_or new v 0

pub grown_taken : (n : ℕ) (goes : ℕ → ℕ → Bool) (found old new : List ℕ) (count last : ℕ) → get_or old 0 0 ≡ 0 → length new ≡ n + 1 →
    AreTaken n goes found (λ v. get_or old v 0) (λ v. get_or new v 0) count last → IsGrownBy n found old new last
grown_taken n goes found old new count last nobody long t = record {
  as_long = long;
  nobody = ⊎_elim
      (λ (e : get_or new 0 0 ≡ 0). e)
      (λ (some : 1 ≤ get_or new 0 0). absurd (omega (arith, (t.further.within 0 (t.further.after 0 nobody some)).0)))
      (cases_zero (get_or new 0 0));
  to_last = t.further.to_last;
  still = λ v some. omega (arith, some, t.further.kept v some);
  from = λ v some. ⊎_elim
      (λ (e : get_or old v 0 ≡ 0). inr (t.only v (t.further.after v e some)))
      (λ (l : 1 ≤ get_or old v 0). inl l)
      (cases_zero (get_or old v 0));
  each = t.each;
}

one_if : (b : Bool) (k : ℕ) → k ≡ (if b then 1 else 0) → b ≡ true → 1 ≤ k
one_if b k e is = grind arith

no_one : (b : Bool) (k : ℕ) → k ≡ (if b then 1 else 0) → (b ≡ true → ⊥) → k ≡ 0
no_one b k e none = grind arith

-- nothing was listed before
pub turns_first : (found old new : List ℕ) → ((v : ℕ) → get_or old v 0 ≡ 0) → ((v : ℕ) → get_or new v 0 ≡ (if has found v then 1 else get_or old v 0)) →
    (v : ℕ) → get_or new v 0 ≡ (if has found v then 1 else 0)
turns_first found old new none written v = written v ∙ ap (λ (k : ℕ). if has found v then 1 else k) (none v)

pub grown_first : (n : ℕ) (found old new : List ℕ) → All (IsVertex n) found → ((v : ℕ) → get_or old v 0 ≡ 0) → length new ≡ n + 1 →
    ((v : ℕ) → get_or new v 0 ≡ (if has found v then 1 else 0)) → IsGrownBy n found old new 1
grown_first n found old new within none long turns = record {
  as_long = long;
  nobody = no_one (has found 0) (get_or new 0 0) (turns 0) (λ is. omega (arith, (All-contains (IsVertex n) found 0 within (has_contains found 0 is)).0));
  to_last = λ v. at_most_one (has found v) (get_or new v 0) (turns v);
  still = λ v some. absurd (omega (arith, some, none v));
  from = λ v some. inr (one_seen (has found v) (get_or new v 0) (turns v) some);
  each = λ v is. one_if (has found v) (get_or new v 0) (turns v) is;
}

-- an empty listing is kept
pub border_nothing : (n : ℕ) (s : ListingState) → IsNothingListed n s → IsBorder n s.border s.at_border
border_nothing n s h = record {
  at_border_length = h.at_border_length;
  has_all = λ v is. absurd (false≢true (sym (h.at_border v) ∙ is));
  within = subst (λ (xs : List ℕ). All (λ (v : ℕ). IsVertex n v × (is_seen s.at_border v ≡ true)) xs) (sym h.border) (All-nil (λ (v : ℕ). IsVertex n v × (is_seen s.at_border v ≡ true)));
  rest = omega (arith, none_seen s.at_border h.at_border, h.at_border_length, ap (λ (xs : List ℕ). length xs) h.border);
}

pub kept_nothing : (n : ℕ) (s : ListingState) → IsNothingListed n s → IsKept n s
kept_nothing n s h = record {
  turns_length = h.turns_length;
  nobody = h.turns 0;
  to_count = λ v. omega (arith, h.turns v);
  has_all = λ v some. absurd (omega (arith, some, h.turns v));
  within = subst (λ (xs : List ℕ). All (λ (v : ℕ). IsVertex n v × (1 ≤ get_or s.turns v 0)) xs) (sym h.list) (All-nil (λ (v : ℕ). IsVertex n v × (1 ≤ get_or s.turns v 0)));
  apart = subst (λ (xs : List ℕ). AllPairs (λ (u v : ℕ). u ≢ v) xs) (sym h.list) (λ i j d below within e. absurd (omega (arith, within)));
  border = border_nothing n s h;
}

pub kept_after : (n : ℕ) (s : ListingState) (new found list border : List ℕ) (at_border : List Bool) (last : ℕ) → IsKept n s → IsGrownBy n found s.turns new last →
    AllPairs (λ (u v : ℕ). u ≢ v) found → All (IsVertex n) found → All (λ (v : ℕ). get_or s.turns v 0 ≡ 0) found → list ≡ s.list ++ found → IsBorder n border at_border →
    IsKept n (record { turns = new; count = last; list = list; border = border; at_border = at_border })
kept_after n s new found list border at_border last h grown apart within free is b =
    let old_listed = λ (v : ℕ). IsVertex n v × (1 ≤ get_or s.turns v 0) in
    let listed = λ (v : ℕ). IsVertex n v × (1 ≤ get_or new v 0) in
    record {
      turns_length = grown.as_long;
      nobody = grown.nobody;
      to_count = grown.to_last;
      has_all = λ v some. subst (λ (xs : List ℕ). Contains xs v) (sym is) (⊎_elim
          (λ (l : 1 ≤ get_or s.turns v 0). Contains-append_left s.list found v (h.has_all v l))
          (λ (there : has found v ≡ true). Contains-append_right s.list found v (has_contains found v there))
          (grown.from v some));
      within = subst (λ (xs : List ℕ). All listed xs) (sym is) (All-append listed s.list found
          (All-weaker old_listed listed (λ v p. (p.0, grown.still v p.1)) s.list h.within)
          (λ k d l. (within k d l, grown.each (get_or found k d) (contains_has found (get_or found k d) (All-contains_itself found k d l)))));
      apart = subst (λ (xs : List ℕ). AllPairs (λ (u v : ℕ). u ≢ v) xs) (sym is) (apart_append s.list found h.apart apart
          (λ v here there. absurd (omega (arith, (All-contains old_listed s.list v h.within here).1, All-contains (λ (u : ℕ). get_or s.turns u 0 ≡ 0) found v free there))));
      border = b;
    }

grown_met : (labels : List ℕ) (region : ℕ) (turns new : List ℕ) (at_border : List Bool) (v : ℕ) → ((u : ℕ) → 1 ≤ get_or turns u 0 → 1 ≤ get_or new u 0) →
    IsMet labels region turns at_border v → IsMet labels region new at_border v
grown_met labels region turns new at_border v still h same = ⊎_elim (λ l. inl (still v l)) (λ is. inr is) (h same)

pub bordered_after : (g : Graph) (labels : List ℕ) (s : ListingState) (new found list border : List ℕ) (at_border : List Bool) (last : ℕ) → IsBordered g labels s →
    IsGrownBy g.vertices found s.turns new last → StaysAtBorder s.at_border at_border → All (IsRowMet g labels new at_border) found →
    IsBordered g labels (record { turns = new; count = last; list = list; border = border; at_border = at_border })
bordered_after g labels s new found list border at_border last h grown stays met v some =
    let before = λ (a : Arc). IsMet labels (get_or labels v 0) s.turns at_border a.to in
    let after = λ (a : Arc). IsMet labels (get_or labels v 0) new at_border a.to in
    ⊎_elim
    (λ (l : 1 ≤ get_or s.turns v 0). All-weaker before after (λ a k. grown_met labels (get_or labels v 0) s.turns new at_border a.to grown.still k) (row_of g v)
    (row_met_more g labels s.turns s.at_border at_border v stays (h v l)))
    (λ (there : has found v ≡ true). All-contains (IsRowMet g labels new at_border) found v met (has_contains found v there))
    (grown.from v some)

-- nothing is listed, so nothing has an end that is not met
pub bordered_nothing : (g : Graph) (labels : List ℕ) (s : ListingState) → IsNothingListed g.vertices s → IsBordered g labels s
bordered_nothing g labels s h v some = absurd (omega (arith, some, h.turns v))

-- what was taken into a list, with equal numbers of vertices and of listed ones and equal turns in their places
pub taken_as : (m n : ℕ) (goes : ℕ → ℕ → Bool) (found turns old : List ℕ) (new : ℕ → ℕ) (was count last : ℕ) → m ≡ n → turns ≡ old → was ≡ count →
    AreTaken m goes found (λ v. get_or turns v 0) new was last → AreTaken n goes found (λ v. get_or old v 0) new count last
taken_as m n goes found turns old new was count last vertices same counted t =
    subst (λ (k : ℕ). AreTaken k goes found (λ v. get_or old v 0) new count last) vertices
    (subst (λ (xs : List ℕ). AreTaken m goes found (λ v. get_or xs v 0) new count last) same
    (subst (λ (k : ℕ). AreTaken m goes found (λ v. get_or turns v 0) new k last) counted t))

-- ---- all is forgotten

cleared : (b : Bool) (k : ℕ) (old : ℕ) → k ≡ (if b then 0 else old) → (1 ≤ old → b ≡ true) → k ≡ 0
cleared b k zero e all = ⊎_elim (λ (h : b ≡ true). rw h at e) (λ (h : b ≡ false). rw h at e) (cases_Bool b)
cleared b k (suc old) e all = rw (all (omega arith)) at e

left : (b k old : Bool) → k ≡ (if b then false else old) → (old ≡ true → b ≡ true) → k ≡ false
left b k true e all = rw (all refl) at e
left b k false e all = ⊎_elim (λ (h : b ≡ true). rw h at e) (λ (h : b ≡ false). rw h at e) (cases_Bool b)

pub nothing_after : (n : ℕ) (s : ListingState) (turns list border : List ℕ) (at_border : List Bool) → IsKept n s → length turns ≡ length s.turns → length at_border ≡ length s.at_border →
    ((v : ℕ) → get_or turns v 0 ≡ (if has s.list v then 0 else get_or s.turns v 0)) → ((v : ℕ) → is_seen at_border v ≡ (if has s.border v then false else is_seen s.at_border v)) →
    list ≡ [] → border ≡ [] → IsNothingListed n (record { turns = turns; count = 0; list = list; border = border; at_border = at_border })
nothing_after n s turns list border at_border h long border_long written leaving no_list no_border = record {
  turns_length = long ∙ h.turns_length;
  at_border_length = border_long ∙ h.border.at_border_length;
  turns = λ v. cleared (has s.list v) (get_or turns v 0) (get_or s.turns v 0) (written v) (λ some. contains_has s.list v (h.has_all v some));
  count = refl;
  list = no_list;
  border = no_border;
  at_border = λ v. left (has s.border v) (is_seen at_border v) (is_seen s.at_border v) (leaving v) (λ is. contains_has s.border v (h.border.has_all v is));
}

-- ---- one vertex more at the border

pub border_more : (n v : ℕ) (border new : List ℕ) (at_border : List Bool) → new ≡ border ++ v ∷ [] → 1 ≤ v → v < length at_border → is_seen at_border v ≡ false → IsBorder n border at_border →
    IsBorder n new (set at_border v true)
border_more n v border new at_border items one within free h =
    let fewer = unseen_fewer at_border v within free in
    let to_n : v ≤ n = omega (arith, within, h.at_border_length) in
    let P : ℕ → Type 0 = λ u. IsVertex n u × (is_seen (set at_border v true) u ≡ true) in
    subst (λ (xs : List ℕ). IsBorder n xs (set at_border v true)) (sym items) (record {
      at_border_length = length-set at_border v true ∙ h.at_border_length;
      has_all = λ u is. ⊎_elim
          (λ (e : u ≡ v). subst (Contains (border ++ v ∷ [])) (sym e) (Contains-push border v))
          (λ (ne : u ≢ v). Contains-append_left border (v ∷ []) u (h.has_all u (seen-before at_border v u ne is)))
          (cases_eq u v);
      within = All-append P border (v ∷ [])
          (All-weaker (λ (u : ℕ). IsVertex n u × (is_seen at_border u ≡ true)) P (λ u p. (p.0, seen-more at_border v u within p.1)) border h.within)
          (All-cons P v [] ((one, to_n), get_or-set_same at_border v true false within) (All-nil P));
      rest = omega (arith, fewer, h.rest, length-append border (v ∷ []));
    })
