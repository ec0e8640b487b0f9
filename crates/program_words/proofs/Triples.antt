-- Texts read as insertions, three each.
use Rattle.std.proofs.Common.{◌≡◌, ℕ, ◌+◌, ◌<◌, ◌≤◌, List, [], ◌∷◌, ◌++◌, length, map, drop, get_or, append_assoc, refl, sym, ◌∙◌, ap, arith, Option, Some, None}
use Rattle.std.proofs.lemmas.List.{length-drop, length-map, drop_more}
use Rattle.std.specs.Borrow.{Bor}
use Rattle.clap.specs.Words.{Text}
use Rattle.program_words.specs.Insertions.{Insertion}
use Rattle.program_words.specs.Numbers.{number_of}
use Rattle.program_words.specs.Words.{after_all, before_all, insertion_of, insertions_of, job_of, long_job_of}

abbrev pub texts_from : List (Bor Text) → ℕ → List Text
texts_from values j = map (λ v. v.now) (drop j values)

pub three_from : (values : List (Bor Text)) (j : ℕ) (d e f : Bor Text) (r : Option Insertion) → j + 3 ≤ length values →
    r ≡ insertion_of (number_of (get_or values j d).now) (number_of (get_or values (j + 1) e).now) (number_of (get_or values (j + 2) f).now) →
    insertions_of (texts_from values j) ≡ before_all r (insertions_of (texts_from values (j + 3)))
three_from values j d e f r room is =
    let second : j + 1 + 1 ≡ j + 2 = omega arith in
    let third : j + 2 + 1 ≡ j + 3 = omega arith in
    let u = get_or values j d in
    let v = get_or values (j + 1) e in
    let w = get_or values (j + 2) f in
    let parts : drop j values ≡ u ∷ v ∷ w ∷ drop (j + 3) values = drop_more values j d (omega (arith, room))
    ∙ ap (λ (l : List (Bor Text)). u ∷ l) (drop_more values (j + 1) e (omega (arith, room)) ∙ ap (λ k. v ∷ drop k values) second
    ∙ ap (λ (l : List (Bor Text)). v ∷ l) (drop_more values (j + 2) f (omega (arith, room)) ∙ ap (λ k. w ∷ drop k values) third)) in
    ap (λ (l : List (Bor Text)). insertions_of (map (λ v. v.now) l)) parts ∙ ap (λ (o : Option Insertion). before_all o (insertions_of (texts_from values (j + 3)))) (sym is)

pub none_before : (o : Option (List Insertion)) → after_all [] o ≡ o
none_before None = refl
none_before (Some is) = refl

pub one_more : (done : List Insertion) (x : Insertion) (o : Option (List Insertion)) → after_all done (before_all (Some x) o) ≡ after_all (done ++ x ∷ []) o
one_more done x None = refl
one_more done x (Some is) = ap Some (sym (append_assoc done (x ∷ []) is))

few_none : (xs : List Text) → 1 ≤ length xs → length xs < 3 → insertions_of xs ≡ None
few_none [] some few = absurd (omega (arith, some))
few_none (u ∷ []) some few = refl
few_none (u ∷ v ∷ []) some few = refl
few_none (u ∷ v ∷ w ∷ more) some few = absurd (omega (arith, few))

pub some_left : (values : List (Bor Text)) (done : List Insertion) (j : ℕ) → j < length values → length values < j + 3 → insertions_of (texts_from values 0) ≡ after_all done (insertions_of (texts_from values j)) →
    None ≡ insertions_of (map (λ v. v.now) values)
some_left values done j some few is =
    let long : length (texts_from values j) ≡ length (drop j values) = length-map (drop j values) (λ (v : Bor Text). v.now) in
    let rest = length-drop j values in
    sym (is ∙ ap (after_all done) (few_none (texts_from values j) (omega (arith, long, rest, some)) (omega (arith, long, rest, some, few))))

pub long_is : (name : Text) (xs : List Text) → 3 ≤ length xs → long_job_of name xs ≡ job_of name xs
long_is name [] long = absurd (omega (arith, long))
long_is name (u ∷ []) long = absurd (omega (arith, long))
long_is name (u ∷ v ∷ []) long = absurd (omega (arith, long))
long_is name (u ∷ v ∷ w ∷ more) long = refl
