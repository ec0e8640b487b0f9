-- What is wrong with some entries is wrong with them in every order.
use Rattle.std.proofs.Common.{◌≡◌, ◌≤◌, ℕ, List, inl, inr, subst}
use Rattle.std.specs.Prelude.{if◌then◌else◌}
use Rattle.std.specs.List.{Contains}
use Rattle.std.specs.List.Sorted.{IsPermutation}
use Rattle.std.proofs.lemmas.List.Sorted.{IsPermutation-sym, Contains-permutation, sum_by-IsPermutation}
use Rattle.cut_definitions.specs.declared.edge_list.Edge.{Edge}
use Rattle.metis_reader.specs.declared.mates.End.{End}
use Rattle.metis_reader.specs.declared.mates.End.TheVariants.{Lesser, Greater}
use Rattle.metis_reader.specs.Mates.{is_pair, times, Repeats, IsOnce, IsMatched, Lacks, RepeatsAt, IsOnceAt, LacksAt, IsMatchedAt}

pub times_moved : (u v : ℕ) (xs ys : List Edge) → IsPermutation xs ys → times u v ys ≡ times u v xs
times_moved u v xs ys p = sum_by-IsPermutation (λ (e : Edge). if is_pair u v e then 1 else 0) xs ys p

repeats_moved : (end : End) (x : ℕ) (xs ys : List Edge) → IsPermutation xs ys → Repeats end x ys → Repeats end x xs
repeats_moved end x xs ys p h = (h.0, h.1, h.2, subst (λ n. 2 ≤ n) (times_moved h.0 h.1 xs ys p) h.3)

once_moved : (end : End) (x : ℕ) (xs ys : List Edge) → IsPermutation xs ys → IsOnce end x ys → IsOnce end x xs
once_moved end x xs ys p h = λ u v at. subst (λ n. n ≤ 1) (times_moved u v xs ys p) (h u v at)

back : (xs ys : List Edge) (e : Edge) → IsPermutation xs ys → Contains ys e → Contains xs e
back xs ys e p h = Contains-permutation ys xs e (IsPermutation-sym xs ys p) h

matched_moved : (end : End) (x : ℕ) (xs ys us vs : List Edge) → IsPermutation xs ys → IsPermutation us vs → IsMatched end x ys vs → IsMatched end x xs us
matched_moved end x xs ys us vs p q h = λ e has at. back us vs e q (h e (Contains-permutation xs ys e p has) at)

lacks_moved : (end : End) (x : ℕ) (xs ys us vs : List Edge) → IsPermutation xs ys → IsPermutation us vs → Lacks end x ys vs → Lacks end x xs us
lacks_moved end x xs ys us vs p q h = (h.0, back xs ys h.0 p h.1, h.2, λ has. h.3 (Contains-permutation us vs h.0 q has))

pub repeats_at_moved : (x : ℕ) (xs ys us vs : List Edge) → IsPermutation xs ys → IsPermutation us vs → RepeatsAt x ys vs → RepeatsAt x xs us
repeats_at_moved x xs ys us vs p q (inl h) = inl (repeats_moved Lesser x xs ys p h)
repeats_at_moved x xs ys us vs p q (inr h) = inr (repeats_moved Greater x us vs q h)

pub once_at_moved : (x : ℕ) (xs ys us vs : List Edge) → IsPermutation xs ys → IsPermutation us vs → IsOnceAt x ys vs → IsOnceAt x xs us
once_at_moved x xs ys us vs p q h = (once_moved Lesser x xs ys p h.0, once_moved Greater x us vs q h.1)

pub lacks_at_moved : (x : ℕ) (xs ys us vs : List Edge) → IsPermutation xs ys → IsPermutation us vs → LacksAt x ys vs → LacksAt x xs us
lacks_at_moved x xs ys us vs p q (inl h) = inl (lacks_moved Lesser x xs ys us vs p q h)
lacks_at_moved x xs ys us vs p q (inr h) = inr (lacks_moved Greater x us vs xs ys q p h)

pub matched_at_moved : (x : ℕ) (xs ys us vs : List Edge) → IsPermutation xs ys → IsPermutation us vs → IsMatchedAt x ys vs → IsMatchedAt x xs us
matched_at_moved x xs ys us vs p q h = (matched_moved Lesser x xs ys us vs p q h.0, matched_moved Greater x us vs xs ys q p h.1)
