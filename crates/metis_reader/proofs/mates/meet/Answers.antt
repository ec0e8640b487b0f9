use Rattle.std.proofs.Common.{◌≡◌, ◌≤◌, ◌<◌, ◌+◌, ◌++◌, ◌∷◌, [], ◌∙◌, ap, sym, subst, ℕ, List, length, take, drop, get_or, set, arith, append_assoc}
use Rattle.std.specs.List.Sorted.{IsPermutation}
use Rattle.std.proofs.lemmas.List.{take_more_set, drop-set-lt, drop_more}
use Rattle.std.proofs.lemmas.List.Sorted.{IsPermutation-trans, IsPermutation-middle, IsPermutation-append_left}
use Rattle.cut_definitions.specs.declared.edge_list.Edge.{Edge}
use Rattle.metis_reader.specs.Meeting.{met_from, with_met}
use Rattle.metis_reader.proofs.mates.meet.Goals as goal
use Rattle.metis_reader.proofs.mates.meet.Goals.{then-not-advance, else-not-advance}

origin : Edge
origin = record { u = 0; v = 0; w = 0 }

-- an entry that was met
met : (base old new before after : List Edge) (e : Edge) → IsPermutation base (old ++ (before ++ e ∷ after)) → IsPermutation (e ∷ old) new → IsPermutation base (new ++ (before ++ after))
met base old new before after e h m =
    IsPermutation-trans base (old ++ (before ++ e ∷ after)) (new ++ (before ++ after)) h
    (IsPermutation-trans (old ++ (before ++ e ∷ after)) (e ∷ (old ++ (before ++ after))) (new ++ (before ++ after))
    (subst (λ ys. IsPermutation ys (e ∷ (old ++ (before ++ after)))) (append_assoc old before (e ∷ after))
    (subst (λ ys. IsPermutation ((old ++ before) ++ e ∷ after) (e ∷ ys)) (append_assoc old before after) (IsPermutation-middle (old ++ before) e after)))
    (IsPermutation-append_left (before ++ after) (e ∷ old) new m))

-- an entry that stays
stays : (edges : List Edge) (left i : ℕ) → left ≤ i → i < length edges
    → take (left + 1) (set edges left (get_or edges i origin)) ++ drop (i + 1) (set edges left (get_or edges i origin)) ≡ take left edges ++ drop i edges
stays edges left i le lt =
    let e : Edge = get_or edges i origin in
    ap (λ xs. xs ++ drop (i + 1) (set edges left e)) (take_more_set edges left e (omega arith))
    ∙ ap (λ ys. (take left edges ++ e ∷ []) ++ ys) (drop-set-lt (i + 1) edges left e (omega arith))
    ∙ append_assoc (take left edges) (e ∷ []) (drop (i + 1) edges)
    ∙ ap (λ ys. take left edges ++ ys) (sym (drop_more edges i origin lt))

stay : (base old edges now : List Edge) (left i next : ℕ) → left ≤ i → i < length edges → now ≡ set edges left (get_or edges i origin) → next ≡ left + 1
    → IsPermutation base (old ++ (take left edges ++ drop i edges)) → IsPermutation base (old ++ (take next now ++ drop (i + 1) now))
stay base old edges now left i next le lt is is_next h =
    subst (λ ys. IsPermutation base (old ++ ys))
    (sym (ap (λ n. take n now ++ drop (i + 1) now) is_next ∙ ap (λ xs. take (left + 1) xs ++ drop (i + 1) xs) is ∙ stays edges left i le lt)) h

leave : (base old new edges now : List Edge) (left i next : ℕ) → i < length edges → now ≡ edges → next ≡ left → IsPermutation (get_or edges i origin ∷ old) new
    → IsPermutation base (old ++ (take left edges ++ drop i edges)) → IsPermutation base (new ++ (take next now ++ drop (i + 1) now))
leave base old new edges now left i next lt is is_next m h =
    subst (λ ys. IsPermutation base (new ++ ys)) (sym (ap (λ n. take n now ++ drop (i + 1) now) is_next ∙ ap (λ xs. take left xs ++ drop (i + 1) xs) is))
    (met base old new (take left edges) (drop (i + 1) edges) (get_or edges i origin)
    (subst (λ ys. IsPermutation base (old ++ (take left edges ++ ys))) (drop_more edges i origin lt) h) m)

pub loop-i-preserved : goal.loop-i-preserved
unfolding origin
loop-i-preserved c =
    let g = c.args.greater.now in
    let base = with_met g c.args.cursors.now c.args.lesser.now in
    let edges = c.loop-i.lesser in
    let left : ℕ = c.loop-i.left in
    let i : ℕ = c.loop-i.i in
    let inside : i < length edges = omega arith in
    elim c.if-not-advance.branch [
      | then-not-advance w ↦ record {
        from = omega arith;
        behind = omega arith;
        moved = subst (λ cursors. IsPermutation base (met_from 0 cursors g ++ (take c.if-not-advance.left c.if-not-advance.lesser ++ drop (i + 1) c.if-not-advance.lesser)))
            (sym (c.advance.ensures.same w.if-not-advance.true))
            (stay base (met_from 0 c.loop-i.cursors g) edges c.if-not-advance.lesser left i c.if-not-advance.left c.loop-i.invariant.behind inside w.lesser-is w.left-is c.loop-i.invariant.moved);
      }
      | else-not-advance w ↦ record {
        from = omega arith;
        behind = omega arith;
        moved = leave base (met_from 0 c.loop-i.cursors g) (met_from 0 c.advance.new.cursors g) edges c.if-not-advance.lesser left i c.if-not-advance.left inside w.lesser-is w.left-is
            (c.advance.ensures.met w.if-not-advance.false) c.loop-i.invariant.moved;
      }
    ]
