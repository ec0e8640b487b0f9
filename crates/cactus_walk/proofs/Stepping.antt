-- One step of a walk: the first of the sides still to come, and what is left.
use Rattle.std.proofs.Common.{◌≡◌, ℕ, zero, suc, ◌+◌, ◌≤◌, ◌<◌, List, [], ◌∷◌, ◌++◌, Bool, true, not, ◌&&◌, ◌||◌, length, get_or, take, drop, map, ap, ◌∙◌, sym, refl, subst, arith}
use Rattle.cut_definitions.specs.Weight.{VertexSet, either, minus}
use Rattle.cut_definitions.specs.Cuts.{has}
use Rattle.vertex_set.specs.Side.{VertexList, listed}
use Rattle.vertex_set.proofs.Bits.{listed-same, has-listed}
use Rattle.rooted_cactus.specs.CutRanges.{Range, elements_at}
use Rattle.rooted_cactus.specs.Borders.{ranges_to, ranges_between, border_at}
use Rattle.rooted_cactus.specs.Places.{side_at}
use Rattle.cactus_walk.specs.Repeats.{mark_at, passed_over, ranges_kept, ranges_left}
use Rattle.cactus_walk.specs.Walking.{AreBorders, IsStart, sides_left}
use Rattle.rooted_cactus.specs.declared.tree.border.Border.{Border}

-- a border on which none follows
pub end_passed : (bs : List Border) (i j : ℕ) → i < length bs → (border_at bs i).following ≡ 0 → j ≡ i + 1 → ranges_between (drop j bs) ≡ ranges_between (drop i bs)
end_passed [] i j h e f = absurd (omega (arith, h))
end_passed (b ∷ bs) zero zero h e f = absurd (omega (arith, f))
end_passed (b ∷ bs) zero (suc j) h e f =
    let z : j ≡ 0 = omega (arith, f) in
    ap (λ k. ranges_between (drop k bs)) z ∙ sym (ap (λ k. ranges_to b.place (take k bs) ++ ranges_between bs) e)
end_passed (b ∷ bs) (suc i) zero h e f = absurd (omega (arith, f))
end_passed (b ∷ bs) (suc i) (suc j) h e f = end_passed bs i j (omega (arith, h)) e (omega (arith, f))

-- nothing is left behind all that are passed
none_left : (bs : List Border) (m d : ℕ) → m ≤ d → drop d (take m bs) ≡ []
none_left bs zero zero h = refl
none_left bs zero (suc d) h = refl
none_left bs (suc m) zero h = absurd (omega (arith, h))
none_left [] (suc m) (suc d) h = refl
none_left (b ∷ bs) (suc m) (suc d) h = none_left bs m d (omega (arith, h))

-- a border at which no cut begins that is kept
pub none_kept : (bs : List Border) (ms : List Bool) (i j : ℕ) → i < length bs → length ms ≡ length bs → (border_at bs i).following ≤ passed_over (mark_at ms i) → j ≡ i + 1 →
    ranges_kept (drop j bs) (drop j ms) ≡ ranges_kept (drop i bs) (drop i ms)
none_kept [] ms i j h same few e = absurd (omega (arith, h))
none_kept (b ∷ bs) [] i j h same few e = absurd (omega (arith, same))
none_kept (b ∷ bs) (m ∷ ms) zero zero h same few e = absurd (omega (arith, e))
none_kept (b ∷ bs) (m ∷ ms) zero (suc j) h same few e =
    let z : j ≡ 0 = omega (arith, e) in
    ap (λ k. ranges_kept (drop k bs) (drop k ms)) z ∙ sym (ap (λ l. ranges_to b.place l ++ ranges_kept bs ms) (none_left bs b.following (passed_over m) few))
none_kept (b ∷ bs) (m ∷ ms) (suc i) zero h same few e = absurd (omega (arith, e))
none_kept (b ∷ bs) (m ∷ ms) (suc i) (suc j) h same few e = none_kept bs ms i j (omega (arith, h)) (omega (arith, same)) few (omega (arith, e))

-- a walk that comes to a border passes over those that are left out
start_left : (bs : List Border) (ms : List Bool) (i : ℕ) → length ms ≡ length bs → ranges_left (drop i bs) (drop i ms) (passed_over (mark_at ms i)) ≡ ranges_kept (drop i bs) (drop i ms)
start_left [] ms zero same = refl
start_left [] ms (suc i) same = refl
start_left (b ∷ bs) [] i same = absurd (omega (arith, same))
start_left (b ∷ bs) (m ∷ ms) zero same = refl
start_left (b ∷ bs) (m ∷ ms) (suc i) same = start_left bs ms i (omega (arith, same))

pub starts : (n : ℕ) (order : List ℕ) (bs : List Border) (ms : List Bool) (i passed : ℕ) → length ms ≡ length bs → passed ≡ passed_over (mark_at ms i) → sides_left n order bs ms i passed ≡ map (side_at n order) (ranges_kept (drop i bs) (drop i ms))
starts n order bs ms i passed same e = ap (λ k. sides_left n order bs ms i k) e ∙ ap (map (side_at n order)) (start_left bs ms i same)

-- where a new walk stands, along borrowed lists
pub starts_at : (bs bs' : List Border) (ms ms' ms'' : List Bool) (first passed : ℕ) → bs' ≡ bs → ms' ≡ ms → ms'' ≡ ms → (first < length bs' → passed_over (mark_at ms' first) < (border_at bs' first).following) → passed ≡ passed_over (mark_at ms'' first) →
    IsStart bs first passed
starts_at bs bs' ms ms' ms'' first passed b m m' h p = λ w.
    let less : passed_over (mark_at ms first) < (border_at bs first).following =
    subst (λ l. passed_over (mark_at l first) < (border_at bs first).following) m (subst (λ l. first < length l → passed_over (mark_at ms' first) < (border_at l first).following) b h w) in
    omega (arith, less, p, ap (λ l. passed_over (mark_at l first)) m')

pub all_left : (n : ℕ) (order : List ℕ) (bs bs' : List Border) (ms ms' ms'' : List Bool) (first passed : ℕ) → length ms ≡ length bs → bs' ≡ bs → ms' ≡ ms → ms'' ≡ ms →
    ranges_kept (drop first bs') (drop first ms') ≡ ranges_kept bs' ms' → passed ≡ passed_over (mark_at ms'' first) → sides_left n order bs ms first passed ≡ map (side_at n order) (ranges_kept bs ms)
all_left n order bs bs' ms ms' ms'' first passed same b m m' h p =
    let moved : ranges_kept (drop first bs) (drop first ms) ≡ ranges_kept bs ms =
    subst (λ l. ranges_kept (drop first bs) (drop first l) ≡ ranges_kept bs l) m (subst (λ l. ranges_kept (drop first l) (drop first ms') ≡ ranges_kept l ms') b h) in
    starts n order bs ms first passed same (p ∙ ap (λ l. passed_over (mark_at l first)) m') ∙ ap (map (side_at n order)) moved

pub ranges_lent : (bs bs' : List Border) (ms ms' : List Bool) (i j : ℕ) → bs' ≡ bs → ms' ≡ ms → ranges_kept (drop i bs') (drop i ms') ≡ ranges_kept (drop j bs') (drop j ms') → ranges_kept (drop i bs) (drop i ms) ≡ ranges_kept (drop j bs) (drop j ms)
ranges_lent bs bs' ms ms' i j b m h =
    subst (λ l. ranges_kept (drop i bs) (drop i l) ≡ ranges_kept (drop j bs) (drop j l)) m (subst (λ l. ranges_kept (drop i l) (drop i ms') ≡ ranges_kept (drop j l) (drop j ms')) b h)

nth_left : (bs : List Border) (m given : ℕ) → given < m → m ≤ length bs → drop given (take m bs) ≡ border_at bs given ∷ drop (suc given) (take m bs)
nth_left bs zero given h w = absurd (omega (arith, h))
nth_left [] (suc m) given h w = absurd (omega (arith, w))
nth_left (b ∷ bs) (suc m) zero h w = refl
nth_left (b ∷ bs) (suc m) (suc given) h w = nth_left bs m given (omega (arith, h)) (omega (arith, w))

abbrev range : ℕ → ℕ → Range
range from to = record { from = from; to = to }

first_left : (long : ℕ) (bs : List Border) (ms : List Bool) (first given at : ℕ) → AreBorders long bs → length ms ≡ length bs → first < length bs → given < (border_at bs first).following → at ≡ first + given + 1 →
    ranges_left (drop first bs) (drop first ms) given ≡ range (border_at bs first).place (border_at bs at).place ∷ ranges_left (drop first bs) (drop first ms) (suc given)
first_left long [] ms first given at h same w g e = absurd (omega (arith, w))
first_left long (b ∷ bs) [] first given at h same w g e = absurd (omega (arith, same))
first_left long (b ∷ bs) (m ∷ ms) first given zero h same w g e = absurd (omega (arith, e))
first_left long (b ∷ bs) (m ∷ ms) zero given (suc at) h same w g e =
    let here : given ≡ at = omega (arith, e) in
    subst (λ k. ranges_left (b ∷ bs) (m ∷ ms) given ≡ range b.place (border_at bs k).place ∷ ranges_left (b ∷ bs) (m ∷ ms) (suc given)) here
    (ap (λ l. ranges_to b.place l ++ ranges_kept bs ms) (nth_left bs b.following given g h.1))
first_left long (b ∷ bs) (m ∷ ms) (suc first) given (suc at) h same w g e = first_left long bs ms first given at h.2 (omega (arith, same)) (omega (arith, w)) g (omega (arith, e))

-- the border at which a cut ends is there
pub end_there : (long : ℕ) (bs : List Border) (first given at : ℕ) → AreBorders long bs → first < length bs → given < (border_at bs first).following → at ≡ first + given + 1 → at < length bs
end_there long [] first given at h w g e = absurd (omega (arith, w))
end_there long (b ∷ bs) first given zero h w g e = absurd (omega (arith, e))
end_there long (b ∷ bs) zero given (suc at) h w g e = omega (arith, e, g, h.1)
end_there long (b ∷ bs) (suc first) given (suc at) h w g e = omega (arith, end_there long bs first given at h.2 (omega (arith, w)) g (omega (arith, e)))

pub place_within : (long : ℕ) (bs : List Border) (at : ℕ) → AreBorders long bs → at < length bs → (border_at bs at).place ≤ long
place_within long [] at h w = absurd (omega (arith, w))
place_within long (b ∷ bs) zero h w = h.0
place_within long (b ∷ bs) (suc at) h w = place_within long bs at h.2 (omega (arith, w))

last_left : (long : ℕ) (bs : List Border) (ms : List Bool) (first given next : ℕ) → AreBorders long bs → length ms ≡ length bs → first < length bs → (border_at bs first).following ≡ given → next ≡ first + 1 →
    ranges_left (drop first bs) (drop first ms) given ≡ ranges_kept (drop next bs) (drop next ms)
last_left long [] ms first given next h same w g e = absurd (omega (arith, w))
last_left long (b ∷ bs) [] first given next h same w g e = absurd (omega (arith, same))
last_left long (b ∷ bs) (m ∷ ms) first given zero h same w g e = absurd (omega (arith, e))
last_left long (b ∷ bs) (m ∷ ms) zero given (suc next) h same w g e =
    let z : 0 ≡ next = omega (arith, e) in
    ap (λ l. ranges_to b.place l ++ ranges_kept bs ms) (none_left bs b.following given (omega (arith, g))) ∙ ap (λ k. ranges_kept (drop k bs) (drop k ms)) z
last_left long (b ∷ bs) (m ∷ ms) (suc first) given (suc next) h same w g e = last_left long bs ms first given next h.2 (omega (arith, same)) (omega (arith, w)) g (omega (arith, e))

-- the first side to come is that between two borders
pub next_side : (n long : ℕ) (order : List ℕ) (bs : List Border) (ms : List Bool) (first given at : ℕ) → AreBorders long bs → length ms ≡ length bs → first < length bs → given < (border_at bs first).following → at ≡ first + given + 1 →
    sides_left n order bs ms first given ≡ side_at n order (range (border_at bs first).place (border_at bs at).place) ∷ sides_left n order bs ms first (given + 1)
next_side n long order bs ms first given at h same w g e =
    let next : suc given ≡ given + 1 = omega arith in
    ap (map (side_at n order)) (first_left long bs ms first given at h same w g e)
    ∙ ap (λ k. side_at n order (range (border_at bs first).place (border_at bs at).place) ∷ sides_left n order bs ms first k) next

pub next_border : (n long : ℕ) (order : List ℕ) (bs : List Border) (ms : List Bool) (first given next passed : ℕ) → AreBorders long bs → length ms ≡ length bs → first < length bs → (border_at bs first).following ≡ given →
    ranges_kept (drop next bs) (drop next ms) ≡ ranges_kept (drop (first + 1) bs) (drop (first + 1) ms) → passed ≡ passed_over (mark_at ms next) →
    sides_left n order bs ms first given ≡ sides_left n order bs ms next passed
next_border n long order bs ms first given next passed h same w g e p =
    ap (map (side_at n order)) (last_left long bs ms first given (first + 1) h same w g refl ∙ sym e) ∙ sym (starts n order bs ms next passed same p)

cleared_or : (r a s : Bool) → a ≡ true → ((r && not a) || s) ≡ s
cleared_or r a s h = grind arith

-- a room that was cleared, and then got a side
pub filled : (n : ℕ) (s : VertexSet) (room all side clear full : VertexList) → room.vertices ≡ n → all ≡ listed n (λ v. true) → side ≡ listed n s →
    clear ≡ listed room.vertices (minus (has room.members) (has all.members)) → full ≡ listed clear.vertices (either (has clear.members) (has side.members)) → full ≡ listed n s
filled n s room all side clear full same every is c f =
    let empty : clear ≡ listed n (minus (has room.members) (has all.members)) = c ∙ ap (λ k. listed k (minus (has room.members) (has all.members))) same in
    let e : clear.vertices ≡ n = ap (λ (x : VertexList). x.vertices) empty in
    f ∙ ap (λ k. listed k (either (has clear.members) (has side.members))) e
    ∙ listed-same n (either (has clear.members) (has side.members)) s
    (λ u a b. ap (λ z. z || has side.members u) (ap (λ (x : VertexList). has x.members u) empty ∙ has-listed n (minus (has room.members) (has all.members)) u a b)
    ∙ cleared_or (has room.members u) (has all.members u) (has side.members u) (ap (λ (x : VertexList). has x.members u) every ∙ has-listed n (λ v. true) u a b)
    ∙ ap (λ (x : VertexList). has x.members u) is ∙ has-listed n s u a b)

-- a border that was read
pub border_is : (bs : List Border) (i : ℕ) (b : Border) → b ≡ get_or bs i b → i < length bs → b ≡ border_at bs i
border_is bs i b e h = e ∙ any bs i b record { place = 0; following = 0 } h
  where
    any : (bs : List Border) (i : ℕ) (x y : Border) → i < length bs → get_or bs i x ≡ get_or bs i y
    any [] i x y h = absurd (omega (arith, h))
    any (b ∷ bs) zero x y h = refl
    any (b ∷ bs) (suc i) x y h = any bs i x y (omega (arith, h))

-- a side that was changed along a list that was lent
pub lent_shown : (n : ℕ) (xs ys : List ℕ) (s t : VertexList) (r : Range) → s.vertices ≡ n → ys ≡ xs → t ≡ listed s.vertices (has (elements_at ys r)) → t ≡ listed n (has (elements_at xs r))
lent_shown n xs ys s t r same lent h = h ∙ ap (λ k. listed k (has (elements_at ys r))) same ∙ ap (λ l. listed n (has (elements_at l r))) lent
