-- Rows of sums in a table of bits.
use Rattle.std.proofs.Common.{◌^◌, ◌≡◌, ℕ, zero, suc, ◌+◌, ◌-◌, ◌*◌, ◌<◌, ◌≤◌, ⊎_elim, Bool, true, false, not, ◌&&◌, ◌||◌, eqb, ltb, List, [], length, set, get_or, length-set, get_or-set_same, get_or-set_other, refl, sym, ◌∙◌, ap, subst, arith}
use Rattle.std.specs.Prelude.{◌≢◌, if◌then◌else◌}
use Rattle.std.proofs.Math.Nat.{mul-le-mul_left}
use Rattle.std.proofs.lemmas.Bool.{cases_eq, cases_lt, cases_Bool, eq-eqb, eqb-true, ne_eqb, false≢true, or_right}
use Rattle.cut_definitions.specs.Weight.{either}
use Rattle.cut_definitions.specs.Cuts.{has}
use Rattle.cut_definitions.specs.Scan.{single}
use Rattle.cut_definitions.proofs.Bools.{or_nothing}
use Rattle.vertex_set.specs.Side.{VertexList, listed}
use Rattle.vertex_set.proofs.Bits.{has-listed}
use Rattle.component_cuts.specs.Sums.{has_sum, is_made, sum_of_rows, AreRows}

-- ---- places in the table

cells_differ : (w a b s t : ℕ) → s < w → t < w → a < b → a * w + s ≡ b * w + t → ⊥
cells_differ w a b s t ls lt l e = absurd (omega (arith, mul-le-mul_left w (let h : a + 1 ≤ b = omega arith in h)))

pub sum_at : (table : VertexList) (width row sum : ℕ) → has_sum table width (row + 1) sum ≡ has table.members (row * width + sum + 1)
sum_at table width row sum =
    let ne : eqb (row + 1) 0 ≡ false = ne_eqb (row + 1) 0 (λ e. omega arith) in
    let back : row + 1 - 1 ≡ row = omega arith in
    ap (λ (b : Bool). if b then eqb sum 0 else has table.members ((row + 1 - 1) * width + sum + 1)) ne
    ∙ ap (λ (k : ℕ). has table.members (k * width + sum + 1)) back

-- a place of a row is one of the table
pub place_within : (width row sum n : ℕ) → sum < width → (row + 1) * width ≤ n → (1 ≤ row * width + sum + 1) × (row * width + sum + 1 ≤ n)
place_within width row sum n l le = (omega arith, omega arith)

-- what an inserted sum changes
set_sum : (old new : VertexList) (width row x : ℕ) → x < width → (row + 1) * width ≤ old.vertices → new ≡ listed old.vertices (either (has old.members) (single (row * width + x + 1))) → has_sum new width (row + 1) x ≡ true
set_sum old new width row x l le e =
    let p = row * width + x + 1 in
    let w = place_within width row x old.vertices l le in
    sum_at new width row x
    ∙ (ap (λ (t : VertexList). has t.members p) e
    ∙ (has-listed old.vertices (either (has old.members) (single p)) p w.0 w.1 ∙ or_right (has old.members p) (eqb p p) (eq-eqb p p refl)))

keep_sum : (old new : VertexList) (width row x other sum : ℕ) → x < width → new ≡ listed old.vertices (either (has old.members) (single (row * width + x + 1))) →
    (other ≡ row + 1 → sum ≢ x) → other * width ≤ old.vertices → sum < width → has_sum new width other sum ≡ has_sum old width other sum
keep_sum old new width row x zero sum lx e differ le l = refl
keep_sum old new width row x (suc k) sum lx e differ le l =
    let p = row * width + x + 1 in
    let q = k * width + sum + 1 in
    let next : suc k ≡ k + 1 = omega arith in
    let room : (k + 1) * width ≤ old.vertices = subst (λ (j : ℕ). j * width ≤ old.vertices) next le in
    let w = place_within width k sum old.vertices l room in
    let ne : p ≢ q = λ same. ⊎_elim
    (λ (d : row < k). cells_differ width row k x sum lx l d (omega arith))
    (λ (d : k ≤ row). ⊎_elim
    (λ (d : k ≡ row). let own : k * width ≡ row * width = ap (λ (j : ℕ). j * width) d in let equal : sum ≡ x = omega arith in differ (omega arith) equal)
    (λ (ne : k ≢ row). cells_differ width k row sum x l lx (omega arith) (omega arith))
    (cases_eq k row))
    (cases_lt row k) in
    let same : has_sum new width (k + 1) sum ≡ has_sum old width (k + 1) sum =
    sum_at new width k sum
    ∙ (ap (λ (t : VertexList). has t.members q) e
    ∙ (has-listed old.vertices (either (has old.members) (single p)) q w.0 w.1 ∙ (or_nothing (has old.members q) (eqb p q) (ne_eqb p q ne) ∙ sym (sum_at old width k sum)))) in
    subst (λ (j : ℕ). has_sum new width j sum ≡ has_sum old width j sum) (sym next) same

made_same : (old new : VertexList) (width row weight sum : ℕ) → sum < width → ((s : ℕ) → s < width → has_sum new width row s ≡ has_sum old width row s) → is_made new width row weight sum ≡ is_made old width row weight sum
made_same old new width row weight sum l same =
    ap (λ (b : Bool). b || (not (ltb sum weight) && has_sum new width row (sum - weight))) (same sum l)
    ∙ ap (λ (b : Bool). has_sum old width row sum || (not (ltb sum weight) && b)) (same (sum - weight) (omega arith))

-- ---- one row

-- the row after a row, up to a sum
pub record IsAdding (old table : VertexList) (width row weight x : ℕ) : Type 0 where
  pub vertices : table.vertices ≡ old.vertices
  pub added : (sum : ℕ) → sum < x → has_sum table width (row + 1) sum ≡ is_made old width row weight sum
  pub empty : (sum : ℕ) → x ≤ sum → sum < width → has_sum table width (row + 1) sum ≡ false
  pub others : (other sum : ℕ) → other ≢ row + 1 → other * width ≤ old.vertices → sum < width → has_sum table width other sum ≡ has_sum old width other sum

pub adding_start : (old : VertexList) (width row weight : ℕ) → ((sum : ℕ) → sum < width → has_sum old width (row + 1) sum ≡ false) → IsAdding old old width row weight 0
adding_start old width row weight none = record { vertices = refl; added = λ s l. absurd (omega arith); empty = λ s l u. none s u; others = λ o s ne le l. refl }

row_room : (width row n : ℕ) → (row + 1) * width ≤ n → row * width ≤ n
row_room width row n le = omega arith

adding_made : (old table : VertexList) (width row weight x sum : ℕ) → (row + 1) * width ≤ old.vertices → sum < width → IsAdding old table width row weight x → is_made table width row weight sum ≡ is_made old width row weight sum
adding_made old table width row weight x sum le l h = made_same old table width row weight sum l (λ s u. h.others row s (λ e. omega arith) (row_room width row old.vertices le) u)

pub adding_in : (old table new : VertexList) (width row weight x : ℕ) → IsAdding old table width row weight x → x < width → (row + 1) * width ≤ old.vertices → is_made table width row weight x ≡ true →
    new ≡ listed table.vertices (either (has table.members) (single (row * width + x + 1))) → IsAdding old new width row weight (x + 1)
adding_in old table new width row weight x h l le is e =
    let room : (row + 1) * width ≤ table.vertices = omega (arith, h.vertices) in
    record {
      vertices = ap (λ (t : VertexList). t.vertices) e ∙ h.vertices;
      added = λ s u. ⊎_elim
          (λ (q : s ≡ x). subst (λ (k : ℕ). has_sum new width (row + 1) k ≡ is_made old width row weight k) (sym q)
          (set_sum table new width row x l room e ∙ (sym is ∙ adding_made old table width row weight x x le l h)))
          (λ (ne : s ≢ x). keep_sum table new width row x (row + 1) s l e (λ z. ne) room (omega arith) ∙ h.added s (omega arith))
          (cases_eq s x);
      empty = λ s u v. keep_sum table new width row x (row + 1) s l e (λ z q. omega arith) room v ∙ h.empty s (omega arith) v;
      others = λ o s ne ole u. keep_sum table new width row x o s l e (λ z. absurd (ne z)) (omega (arith, h.vertices)) u ∙ h.others o s ne ole u;
    }

pub adding_out : (old table : VertexList) (width row weight x : ℕ) → IsAdding old table width row weight x → x < width → (row + 1) * width ≤ old.vertices → is_made table width row weight x ≡ false → IsAdding old table width row weight (x + 1)
adding_out old table width row weight x h l le is = record {
  vertices = h.vertices;
  added = λ s u. ⊎_elim
      (λ (q : s ≡ x). subst (λ (k : ℕ). has_sum table width (row + 1) k ≡ is_made old width row weight k) (sym q)
      (h.empty x (omega arith) l ∙ (sym is ∙ adding_made old table width row weight x x le l h)))
      (λ (ne : s ≢ x). h.added s (omega arith))
      (cases_eq s x);
  empty = λ s u v. h.empty s (omega arith) v;
  others = h.others;
}

-- ---- all rows

pub record AreFilled (weights : List ℕ) (width rows row : ℕ) (table : VertexList) : Type 0 where
  pub vertices : table.vertices ≡ rows * width
  pub filled : AreRows weights width row table
  pub empty : (other sum : ℕ) → row ≤ other → other < rows → sum < width → has_sum table width (other + 1) sum ≡ false

pub filled_start : (weights : List ℕ) (width rows : ℕ) (table : VertexList) → table ≡ record { vertices = rows * width; members = [] } → AreFilled weights width rows 0 table
filled_start weights width rows table e = record {
  vertices = ap (λ (t : VertexList). t.vertices) e;
  filled = λ row sum l u. absurd (omega arith);
  empty = λ o s le l u. sum_at table width o s ∙ ap (λ (t : VertexList). has t.members (o * width + s + 1)) e;
}

row_within : (width a b n : ℕ) → a ≤ b → n ≡ b * width → a * width ≤ n
row_within width a b n l e = omega (arith, mul-le-mul_left width l)

pub filled_more : (weights : List ℕ) (width rows row : ℕ) (old new : VertexList) → AreFilled weights width rows row old → row < rows → new.vertices ≡ old.vertices →
    ((sum : ℕ) → sum < width → has_sum new width (row + 1) sum ≡ is_made old width row (get_or weights (row + 2) 0) sum) →
    ((other sum : ℕ) → other ≢ row + 1 → other * width ≤ old.vertices → sum < width → has_sum new width other sum ≡ has_sum old width other sum) → AreFilled weights width rows (row + 1) new
filled_more weights width rows row old new h l same_n added others =
    let same = λ (o : ℕ) (lo : o < row + 1) (s : ℕ) (u : s < width). others o s (λ e. omega arith) (row_within width o rows old.vertices (omega arith) h.vertices) u in
    record {
      vertices = same_n ∙ h.vertices;
      filled = λ r s lr u. ⊎_elim
          (λ (q : r ≡ row). subst (λ (k : ℕ). has_sum new width (k + 1) s ≡ is_made new width k (get_or weights (k + 2) 0) s) (sym q)
          (added s u ∙ sym (made_same old new width row (get_or weights (row + 2) 0) s u (same row (omega arith)))))
          (λ (ne : r ≢ row). same (r + 1) (omega arith) s u ∙ (h.filled r s (omega arith) u ∙ sym (made_same old new width r (get_or weights (r + 2) 0) s u (same r (omega arith)))))
          (cases_eq r row);
      empty = λ o s le lo u. others (o + 1) s (λ e. omega arith) (row_within width (o + 1) rows old.vertices (omega arith) h.vertices) u ∙ h.empty o s (omega arith) lo u;
    }

-- ---- every choice makes a sum of its row

not_less : (a b : ℕ) → b ≤ a → not (ltb a b) ≡ true
not_less a b h = grind arith

made_with : (a b c : Bool) → b ≡ true → c ≡ true → (a || (b && c)) ≡ true
made_with a b c p q = grind arith

made_without : (a b c : Bool) → a ≡ true → (a || (b && c)) ≡ true
made_without a b c p = grind arith

made_cases : (a b c : Bool) → (a || (b && c)) ≡ true → a ≡ false → (b ≡ true) × (c ≡ true)
made_cases true b c h e = absurd (false≢true (sym e))
made_cases false true c h e = (refl, h)
made_cases false false c h e = absurd (false≢true h)

pub sums_made : (weights : List ℕ) (width rows : ℕ) (table : VertexList) → AreRows weights width rows table → (chosen : ℕ → Bool) (row : ℕ) → row ≤ rows → sum_of_rows weights chosen row < width →
    has_sum table width row (sum_of_rows weights chosen row) ≡ true
sums_made weights width rows table h chosen zero le l = refl
sums_made weights width rows table h chosen (suc row) le l =
    let before = sum_of_rows weights chosen row in
    let weight = get_or weights (row + 2) 0 in
    let whole = sum_of_rows weights chosen (suc row) in
    let next : suc row ≡ row + 1 = omega arith in
    let at : has_sum table width (row + 1) whole ≡ is_made table width row weight whole = h row whole (omega arith) l in
    let there : is_made table width row weight whole ≡ true = ⊎_elim
    (λ (t : chosen (row + 2) ≡ true).
    let e : whole ≡ before + weight = ap (λ (b : Bool). before + (if b then weight else 0)) t in
    let rest : has_sum table width row before ≡ true = sums_made weights width rows table h chosen row (omega arith) (omega arith) in
    let back : whole - weight ≡ before = omega arith in
    made_with (has_sum table width row whole) (not (ltb whole weight)) (has_sum table width row (whole - weight)) (not_less whole weight (omega arith))
    (ap (λ (s : ℕ). has_sum table width row s) back ∙ rest))
    (λ (f : chosen (row + 2) ≡ false).
    let e : whole ≡ before + 0 = ap (λ (b : Bool). before + (if b then weight else 0)) f in
    let same : whole ≡ before = omega arith in
    let rest : has_sum table width row before ≡ true = sums_made weights width rows table h chosen row (omega arith) (omega arith) in
    made_without (has_sum table width row whole) (not (ltb whole weight)) (has_sum table width row (whole - weight)) (ap (λ (s : ℕ). has_sum table width row s) same ∙ rest))
    (cases_Bool (chosen (row + 2))) in
    subst (λ (k : ℕ). has_sum table width k whole ≡ true) (sym next) (at ∙ there)

-- ---- a choice, from the last number back

sum_same : (weights : List ℕ) (f g : ℕ → Bool) (rows : ℕ) → ((i : ℕ) → 2 ≤ i → i ≤ rows + 1 → f i ≡ g i) → sum_of_rows weights f rows ≡ sum_of_rows weights g rows
sum_same weights f g zero same = refl
sum_same weights f g (suc row) same =
    let here : (if f (row + 2) then get_or weights (row + 2) 0 else 0) ≡ (if g (row + 2) then get_or weights (row + 2) 0 else 0) =
    ap (λ (b : Bool). if b then get_or weights (row + 2) 0 else 0) (same (row + 2) (omega arith) (omega arith)) in
    omega (arith, sum_same weights f g row (λ i low high. same i low (omega arith)))

sum_more : (weights : List ℕ) (f g : ℕ → Bool) (at rows : ℕ) → at < rows → f (at + 2) ≡ false → g (at + 2) ≡ true → ((i : ℕ) → i ≢ at + 2 → g i ≡ f i) →
    sum_of_rows weights g rows ≡ sum_of_rows weights f rows + get_or weights (at + 2) 0
sum_more weights f g at zero l out is same = absurd (omega arith)
sum_more weights f g at (suc row) l out is same =
    let w = get_or weights (row + 2) 0 in
    ⊎_elim
    (λ (e : at ≡ row).
    let g_is : (if g (row + 2) then w else 0) ≡ w = ap (λ (b : Bool). if b then w else 0) (subst (λ (k : ℕ). g (k + 2) ≡ true) e is) in
    let f_is : (if f (row + 2) then w else 0) ≡ 0 = ap (λ (b : Bool). if b then w else 0) (subst (λ (k : ℕ). f (k + 2) ≡ false) e out) in
    let w_is : get_or weights (at + 2) 0 ≡ w = ap (λ (k : ℕ). get_or weights (k + 2) 0) e in
    let before : sum_of_rows weights g row ≡ sum_of_rows weights f row = sum_same weights g f row (λ i low high. same i (λ q. omega arith)) in
    omega arith)
    (λ (ne : at ≢ row).
    let here : (if g (row + 2) then w else 0) ≡ (if f (row + 2) then w else 0) = ap (λ (b : Bool). if b then w else 0) (same (row + 2) (λ q. ne (omega arith))) in
    omega (arith, sum_more weights f g at row (omega arith) out is same))
    (cases_eq at row)

abbrev pub as_choice : List Bool → ℕ → Bool
as_choice chosen i = get_or chosen i false

pub row_back : (width row rows n : ℕ) → row ≤ rows → rows * width ≤ n → (row - 1) * width ≤ n
row_back width row rows n l le =
    let low : row - 1 ≤ rows = omega arith in
    omega (arith, mul-le-mul_left width low)

-- a product that is small, with two factors of which one is two at least
pub few_sums : (k m : ℕ) → 2 ≤ k → k * (m + 1) ≤ 2 ^ 32 → m < 2 ^ 31
few_sums k m two le =
    let more : (m + 1) * 2 ≤ (m + 1) * k = mul-le-mul_left (m + 1) two in
    omega arith

-- a table of one row less is smaller
pub few_places : (k width rows n : ℕ) → n ≡ rows * width → rows + 1 ≡ k → 1 ≤ width → k * width ≤ 2 ^ 32 → n < 2 ^ 32
few_places k width rows n e next some le =
    let whole : (rows + 1) * width ≤ 2 ^ 32 = subst (λ (j : ℕ). j * width ≤ 2 ^ 32) (sym next) le in
    omega arith

-- what is left of a sum before a row, and what is chosen after it
pub record IsChoosing (weights : List ℕ) (width rows sum : ℕ) (table : VertexList) (row left : ℕ) (chosen : List Bool) : Type 0 where
  pub long : length chosen ≡ length weights
  pub row_within : row ≤ rows
  pub left_within : left < width
  pub made : has_sum table width row left ≡ true
  pub none : (i : ℕ) → i ≤ row + 1 → get_or chosen i false ≡ false
  pub total : sum_of_rows weights (as_choice chosen) rows + left ≡ sum

pub sum_none : (weights : List ℕ) (f : ℕ → Bool) (rows : ℕ) → ((i : ℕ) → f i ≡ false) → sum_of_rows weights f rows ≡ 0
sum_none weights f zero h = refl
sum_none weights f (suc row) h =
    let here : (if f (row + 2) then get_or weights (row + 2) 0 else 0) ≡ 0 = ap (λ (b : Bool). if b then get_or weights (row + 2) 0 else 0) (h (row + 2)) in
    omega (arith, sum_none weights f row h)

pub choosing_start : (weights : List ℕ) (width rows sum : ℕ) (table : VertexList) (chosen : List Bool) → length chosen ≡ length weights → ((i : ℕ) → get_or chosen i false ≡ false) → sum < width →
    has_sum table width rows sum ≡ true → IsChoosing weights width rows sum table rows sum chosen
choosing_start weights width rows sum table chosen long none l is = record {
  long = long;
  row_within = omega arith;
  left_within = l;
  made = is;
  none = λ i le. none i;
  total = omega (arith, sum_none weights (as_choice chosen) rows none);
}

pub choosing_skip : (weights : List ℕ) (width rows sum : ℕ) (table : VertexList) (row left : ℕ) (chosen : List Bool) → IsChoosing weights width rows sum table row left chosen → 0 < row →
    has_sum table width (row - 1) left ≡ true → IsChoosing weights width rows sum table (row - 1) left chosen
choosing_skip weights width rows sum table row left chosen h some is = record {
  long = h.long;
  row_within = omega (arith, h.row_within);
  left_within = h.left_within;
  made = is;
  none = λ i le. h.none i (omega arith);
  total = h.total;
}

from_not_less : (a b : ℕ) → not (ltb a b) ≡ true → b ≤ a
from_not_less a b h = grind arith

-- the weight of the next number is in what is left
pub left_has : (weights : List ℕ) (width rows sum : ℕ) (table : VertexList) (row left : ℕ) (chosen : List Bool) → AreRows weights width rows table → IsChoosing weights width rows sum table row left chosen → 0 < row →
    has_sum table width (row - 1) left ≡ false → (get_or weights (row - 1 + 2) 0 ≤ left) × (has_sum table width (row - 1) (left - get_or weights (row - 1 + 2) 0) ≡ true)
left_has weights width rows sum table row left chosen are h some out =
    let r = row - 1 in
    let w = get_or weights (r + 2) 0 in
    let next : row ≡ r + 1 = omega arith in
    let at : is_made table width r w left ≡ true =
    sym (are r left (omega (arith, h.row_within)) h.left_within) ∙ subst (λ (k : ℕ). has_sum table width k left ≡ true) next h.made in
    let c = made_cases (has_sum table width r left) (not (ltb left w)) (has_sum table width r (left - w)) at out in
    (from_not_less left w c.0, c.1)

pub choosing_take : (weights : List ℕ) (width rows sum : ℕ) (table : VertexList) (row left : ℕ) (chosen : List Bool) → rows + 2 ≡ length weights → AreRows weights width rows table →
    IsChoosing weights width rows sum table row left chosen → 0 < row → has_sum table width (row - 1) left ≡ false →
    IsChoosing weights width rows sum table (row - 1) (left - get_or weights (row - 1 + 2) 0) (set chosen (row - 1 + 2) true)
choosing_take weights width rows sum table row left chosen size are h some out =
    let r = row - 1 in
    let w = get_or weights (r + 2) 0 in
    let has_it = left_has weights width rows sum table row left chosen are h some out in
    let there : r + 2 < length chosen = omega (arith, h.long, h.row_within) in
    let more : sum_of_rows weights (as_choice (set chosen (r + 2) true)) rows ≡ sum_of_rows weights (as_choice chosen) rows + w =
    sum_more weights (as_choice chosen) (as_choice (set chosen (r + 2) true)) r rows (omega (arith, h.row_within)) (h.none (r + 2) (omega arith)) (get_or-set_same chosen (r + 2) true false there)
    (λ i ne. get_or-set_other chosen (r + 2) i true false ne) in
    record {
      long = length-set chosen (r + 2) true ∙ h.long;
      row_within = omega (arith, h.row_within);
      left_within = omega (arith, h.left_within);
      made = has_it.1;
      none = λ i le. get_or-set_other chosen (r + 2) i true false (λ e. omega arith) ∙ h.none i (omega arith);
      total = omega (arith, h.total, has_it.0);
    }

pub choosing_end : (weights : List ℕ) (width rows sum : ℕ) (table : VertexList) (row left : ℕ) (chosen : List Bool) → IsChoosing weights width rows sum table row left chosen → row ≡ 0 → sum_of_rows weights (as_choice chosen) rows ≡ sum
choosing_end weights width rows sum table row left chosen h e =
    let none : left ≡ 0 = eqb-true left 0 (subst (λ (k : ℕ). has_sum table width k left ≡ true) e h.made) in
    omega (arith, h.total)
