-- What a new parent does to the classes.
use Rattle.std.proofs.Common.{◌≡◌, ℕ, ◌<◌, ◌≤◌, ⊎_elim, List, length, get_or, set, max, min, refl, sym, ◌∙◌, ap, arith, get_or-set_other, get_or-set_same, length-set}
use Rattle.std.specs.Prelude.{◌↔◌, ◌≢◌}
use Rattle.std.proofs.lemmas.Bool.{cases_eq, cases_lt}
use Rattle.cut_definitions.specs.Weight.{VertexSet}
use Rattle.vertex_classes.specs.Classes.{AreParents, Respects, AreJoined, HasSameClasses, HasJoined}

pub same_classes : (ps : List ℕ) → HasSameClasses ps ps
same_classes ps = record { long = refl; respected = λ s. ((λ h. h), (λ h. h)) }

pub same_classes-more : (old mid new : List ℕ) → HasSameClasses old mid → HasSameClasses mid new → HasSameClasses old new
same_classes-more old mid new first next = record {
  long = next.long ∙ first.long;
  respected = λ s. ((λ h. (first.respected s).0 ((next.respected s).0 h)), (λ h. (next.respected s).1 ((first.respected s).1 h)));
}

pub parents-set : (ps : List ℕ) (a x : ℕ) → AreParents ps → x ≤ a → AreParents (set ps a x)
parents-set ps a x are le v l =
    ⊎_elim
    (λ (e : v ≡ a). rw e (omega (arith, get_or-set_same ps a x 0 (omega (arith, e, length-set ps a x)))))
    (λ (ne : v ≢ a). omega (arith, get_or-set_other ps a v x 0 ne, are v (omega (arith, length-set ps a x))))
    (cases_eq v a)

-- a first of a class stays one if another vertex gets a new parent
pub firsts-set : (ps : List ℕ) (a x u : ℕ) → u ≢ a → get_or ps u 0 ≡ u → get_or (set ps a x) u 0 ≡ u
firsts-set ps a x u ne first = get_or-set_other ps a u x 0 ne ∙ first

-- a set respects the classes with one new parent if it respects all others and has the vertex exactly if it has that
respects-set : (ps : List ℕ) (a x : ℕ) (s : VertexSet) → a < length ps → s x ≡ s a → ((v : ℕ) → v < length ps → v ≢ a → s (get_or ps v 0) ≡ s v) → Respects (set ps a x) s
respects-set ps a x s la same others v l =
    ⊎_elim
    (λ (e : v ≡ a). rw e (ap s (get_or-set_same ps a x 0 la) ∙ same))
    (λ (ne : v ≢ a). ap s (get_or-set_other ps a v x 0 ne) ∙ others v (omega (arith, length-set ps a x)) ne)
    (cases_eq v a)

at_set : (ps : List ℕ) (a x : ℕ) (s : VertexSet) → a < length ps → Respects (set ps a x) s → s x ≡ s a
at_set ps a x s la h = ap s (sym (get_or-set_same ps a x 0 la)) ∙ h a (omega (arith, length-set ps a x))

off_set : (ps : List ℕ) (a x : ℕ) (s : VertexSet) → Respects (set ps a x) s → (v : ℕ) → v < length ps → v ≢ a → s (get_or ps v 0) ≡ s v
off_set ps a x s h v l ne = ap s (sym (get_or-set_other ps a v x 0 ne)) ∙ h v (omega (arith, length-set ps a x))

-- a vertex gets the parent of its parent
pub halved : (ps : List ℕ) (a p : ℕ) → a < length ps → p ≡ get_or ps a 0 → p < length ps → HasSameClasses ps (set ps a (get_or ps p 0))
halved ps a p la is lp =
    let x = get_or ps p 0 in
    record {
      long = length-set ps a x;
      respected = λ s. (
        (λ h v l.
            ⊎_elim
            (λ (e : v ≡ a).
            let here : s x ≡ s a = at_set ps a x s la h in
            let upper : s p ≡ s a = ⊎_elim (λ (q : p ≡ a). ap s q) (λ (ne : p ≢ a). sym (off_set ps a x s h p lp ne) ∙ here) (cases_eq p a) in
            rw e (ap s (sym is) ∙ upper))
            (λ (ne : v ≢ a). off_set ps a x s h v l ne)
            (cases_eq v a)),
        (λ h. respects-set ps a x s la (h p lp ∙ (ap s is ∙ h a la)) (λ v l ne. h v l)),
      );
    }

-- the first of a class gets a parent
linked : (ps : List ℕ) (last low : ℕ) → last < length ps → get_or ps last 0 ≡ last → (s : VertexSet) → Respects (set ps last low) s ↔ (Respects ps s × (s low ≡ s last))
linked ps last low l first s = (
  (λ h. (
    (λ v lv. ⊎_elim (λ (e : v ≡ last). rw e (ap s first)) (λ (ne : v ≢ last). off_set ps last low s h v lv ne) (cases_eq v last)),
    at_set ps last low s l h,
  )),
  (λ h. respects-set ps last low s l h.1 (λ v lv ne. h.0 v lv)),
)

-- the lesser of two is in a set exactly if the greater is, if the one is exactly if the other is
either_way : (s : VertexSet) (a b : ℕ) → (s (min a b) ≡ s (max a b)) ↔ (s a ≡ s b)
either_way s a b =
    ⊎_elim
    (λ (l : a < b).
    let low : min a b ≡ a = omega arith in
    let high : max a b ≡ b = omega arith in
    rw (low, high) ((λ h. h), (λ h. h)))
    (λ (l : b ≤ a).
    let low : min a b ≡ b = omega arith in
    let high : max a b ≡ a = omega arith in
    rw (low, high) ((λ h. sym h), (λ h. sym h)))
    (cases_lt a b)

-- the firsts of two classes are linked
pub joined : (old mid : List ℕ) (u v a b : ℕ) → HasSameClasses old mid → AreJoined old a u → AreJoined old b v → a < length mid → b < length mid →
    get_or mid a 0 ≡ a → get_or mid b 0 ≡ b → HasJoined old (set mid (max a b) (min a b)) u v
joined old mid u v a b same ja jb la lb fa fb =
    let last = max a b in
    let low = min a b in
    let first : get_or mid last 0 ≡ last = ⊎_elim
    (λ (l : a < b). let q : max a b ≡ b = omega arith in rw q fb)
    (λ (l : b ≤ a). let q : max a b ≡ a = omega arith in rw q fa)
    (cases_lt a b) in
    let link = linked mid last low (omega arith) first in
    record {
      long = length-set mid last low ∙ same.long;
      respected = λ s. (
        (λ h.
            let split = (link s).0 h in
            let of_old = (same.respected s).0 split.0 in
            let ends : s a ≡ s b = (either_way s a b).0 split.1 in
            (of_old, sym (ja s of_old) ∙ (ends ∙ jb s of_old))),
        (λ h.
            let ends : s a ≡ s b = ja s h.0 ∙ (h.1 ∙ sym (jb s h.0)) in
            (link s).1 ((same.respected s).1 h.0, (either_way s a b).1 ends)),
      );
    }

-- two numbers with one first of their class are in one class
pub joined_by_first : (old mid : List ℕ) (u v a b : ℕ) → HasSameClasses old mid → AreJoined old a u → AreJoined mid b v → a ≡ b → AreJoined old u v
joined_by_first old mid u v a b same ja jb e s h = sym (ja s h) ∙ (ap s e ∙ jb s ((same.respected s).1 h))

pub joined_before : (old mid : List ℕ) (u v : ℕ) → HasSameClasses old mid → AreJoined mid u v → AreJoined old u v
joined_before old mid u v same j s h = j s ((same.respected s).1 h)
