-- Closed sets of edges: of lists one after another, and of the way round a cycle.
use Rattle.std.proofs.Common.{◌≡◌, ℕ, Bool, true, List, [], ◌∷◌, ◌++◌, sym, ◌∙◌, subst}
use Rattle.std.specs.Prelude.{⊤}
use Rattle.std.specs.List.{flat_map}
use Rattle.std.proofs.lemmas.List.Concat.{flat_map-append}
use Rattle.flat_cactus.specs.FlatCuts.{IsClosed, cycle_edges, edges_along}

abbrev pub Edges : Type 0
Edges = List (ℕ × ℕ)

-- the edges of several cycles
abbrev pub around : List (List ℕ) → Edges
around = flat_map cycle_edges

pub closed_append : (xs ys : Edges) (set : ℕ → Bool) → IsClosed xs set → IsClosed ys set → IsClosed (xs ++ ys) set
closed_append [] ys set h k = k
closed_append (x ∷ xs) ys set h k = (h.0, closed_append xs ys set h.1 k)

pub closed_left : (xs ys : Edges) (set : ℕ → Bool) → IsClosed (xs ++ ys) set → IsClosed xs set
closed_left [] ys set h = tt
closed_left (x ∷ xs) ys set h = (h.0, closed_left xs ys set h.1)

pub closed_right : (xs ys : Edges) (set : ℕ → Bool) → IsClosed (xs ++ ys) set → IsClosed ys set
closed_right [] ys set h = h
closed_right (x ∷ xs) ys set h = closed_right xs ys set h.1

-- a set is closed for some edges exactly if it is closed for each of two lists of edges
pub record Splits (whole one two : Edges) : Type 0 where
  pub first : (set : ℕ → Bool) → IsClosed whole set → IsClosed one set
  pub second : (set : ℕ → Bool) → IsClosed whole set → IsClosed two set
  pub both : (set : ℕ → Bool) → IsClosed one set → IsClosed two set → IsClosed whole set

-- two pairs of lists
pub split_four : (a b c d : Edges) → Splits ((a ++ b) ++ (c ++ d)) (a ++ c) (b ++ d)
split_four a b c d = record {
  first = λ set h. closed_append a c set (closed_left a b set (closed_left (a ++ b) (c ++ d) set h)) (closed_left c d set (closed_right (a ++ b) (c ++ d) set h));
  second = λ set h. closed_append b d set (closed_right a b set (closed_left (a ++ b) (c ++ d) set h)) (closed_right c d set (closed_right (a ++ b) (c ++ d) set h));
  both = λ set h k. closed_append (a ++ b) (c ++ d) set
      (closed_append a b set (closed_left a c set h) (closed_left b d set k))
      (closed_append c d set (closed_right a c set h) (closed_right b d set k));
}

-- two lists with a third between them
pub split_middle : (a m c : Edges) → Splits (a ++ (m ++ c)) (a ++ c) m
split_middle a m c = record {
  first = λ set h. closed_append a c set (closed_left a (m ++ c) set h) (closed_right m c set (closed_right a (m ++ c) set h));
  second = λ set h. closed_left m c set (closed_right a (m ++ c) set h);
  both = λ set h k. closed_append a (m ++ c) set (closed_left a c set h) (closed_append m c set k (closed_right a c set h));
}

pub around_append : (cs ds : List (List ℕ)) → around (cs ++ ds) ≡ around cs ++ around ds
around_append cs ds = flat_map-append cycle_edges cs ds

pub split_around : (a b : Edges) (cs ds : List (List ℕ)) → Splits ((a ++ b) ++ around (cs ++ ds)) (a ++ around cs) (b ++ around ds)
split_around a b cs ds = subst (λ es. Splits ((a ++ b) ++ es) (a ++ around cs) (b ++ around ds)) (sym (around_append cs ds)) (split_four a b (around cs) (around ds))

-- the set has all numbers of the list, or none
abbrev pub IsEach : (ℕ → Bool) → Bool → List ℕ → Type 0
IsEach set b [] = ⊤
IsEach set b (x ∷ xs) = (set x ≡ b) × IsEach set b xs

-- the way round a cycle has its ends both in a closed set, and then all that lies between them
pub way_ends : (first at : ℕ) (rest : List ℕ) (set : ℕ → Bool) → IsClosed (edges_along first at rest) set → set at ≡ set first
way_ends first at [] set h = h.0
way_ends first at (next ∷ rest) set h = h.0 ∙ way_ends first next rest set h.1

pub way_reached : (first at : ℕ) (rest : List ℕ) (set : ℕ → Bool) → IsClosed (edges_along first at rest) set → set first ≡ true → IsEach set true rest
way_reached first at [] set h is = tt
way_reached first at (next ∷ rest) set h is = (way_ends first next rest set h.1 ∙ is, way_reached first next rest set h.1 is)

pub way_closed : (first at : ℕ) (rest : List ℕ) (set : ℕ → Bool) (b : Bool) → set first ≡ b → set at ≡ b → IsEach set b rest → IsClosed (edges_along first at rest) set
way_closed first at [] set b f a h = (a ∙ sym f, tt)
way_closed first at (next ∷ rest) set b f a h = (a ∙ sym h.0, way_closed first next rest set b f h.0 h.1)
