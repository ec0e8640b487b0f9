-- One call after another: what is put by both, and what is put if one of them failed.
use Rattle.std.proofs.Common.{◌≡◌, ℕ, ◌+◌, ◌<◌, ◌≤◌, List, [], ◌∷◌, ◌++◌, length, get_or, take, drop, ap, subst, ◌∙◌, sym, append_assoc, append-nil, refl, arith}
use Rattle.std.specs.Prelude.{Option, Result, Ok, Err, OnOk, OnErr}
use Rattle.std.specs.List.{flat_map}
use Rattle.std.proofs.lemmas.List.{take_more, take_all, take-append-drop}
use Rattle.std.proofs.lemmas.Grind.{flat_map-append}
use Rattle.std.specs.Io.KnownBytes.{Appends}
use Rattle.std.proofs.KnownBytes.{Appends-trans, Appends-nil}
use Rattle.outside.specs.Faults.{HasCause, AppendsPrefix}
use Rattle.answer_pages.specs.Puts.{IsSplit, Puts}

pub split_start : (b : List ℕ) (t : Option (List ℕ)) → IsSplit b t t b
split_start b t = record { gone = []; parts = refl; taken = Appends-nil t }

pub split_then : {b h1 h2 : List ℕ} {t0 t1 t2 : Option (List ℕ)} (c : List ℕ) → IsSplit b t0 t1 h1 → IsSplit (h1 ++ c) t1 t2 h2 → IsSplit (b ++ c) t0 t2 h2
split_then {h1 = h1} {h2 = h2} {t0 = t0} {t1 = t1} {t2 = t2} c p q = record {
  gone = p.gone ++ q.gone;
  parts = ap (λ (l : List ℕ). l ++ c) p.parts ∙ append_assoc p.gone h1 c ∙ ap (λ (l : List ℕ). p.gone ++ l) q.parts ∙ sym (append_assoc p.gone q.gone h2);
  taken = Appends-trans t0 t1 t2 p.gone q.gone p.taken q.taken;
}

-- the bytes under another grouping
pub split_as : {b b' h : List ℕ} {t0 t1 : Option (List ℕ)} → b ≡ b' → IsSplit b t0 t1 h → IsSplit b' t0 t1 h
split_as {b} {b'} {h} {t0} {t1} e p = subst (λ (l : List ℕ). IsSplit l t0 t1 h) e p

prefix_then : {b h1 : List ℕ} {t0 t1 : Option (List ℕ)} (t2 : Option (List ℕ)) (c : List ℕ) → IsSplit b t0 t1 h1 → AppendsPrefix t1 t2 (h1 ++ c) → AppendsPrefix t0 t2 (b ++ c)
prefix_then {b} {h1} {t0} {t1} t2 c p (done, rest, parts, taken) = (
  p.gone ++ done,
  rest,
  ap (λ (l : List ℕ). l ++ c) p.parts ∙ append_assoc p.gone h1 c ∙ ap (λ (l : List ℕ). p.gone ++ l) parts ∙ sym (append_assoc p.gone done rest),
  Appends-trans t0 t1 t2 p.gone done p.taken taken,
)

prefix_more : (b : List ℕ) (t0 t1 : Option (List ℕ)) (c : List ℕ) → AppendsPrefix t0 t1 b → AppendsPrefix t0 t1 (b ++ c)
prefix_more b t0 t1 c (done, rest, parts, taken) = (done, rest ++ c, ap (λ (l : List ℕ). l ++ c) parts ∙ append_assoc done rest c, taken)

pub puts_as : {T E : Type 0} {b b' : List ℕ} {t0 t1 : Option (List ℕ)} {m n : ℕ} {h : List ℕ} {r : Result T E} → b ≡ b' → Puts b t0 t1 m n h r → Puts b' t0 t1 m n h r
puts_as {T} {E} {b} {b'} {t0} {t1} {m} {n} {h} {r} e p = subst (λ (l : List ℕ). Puts l t0 t1 m n h r) e p

cause_from : {T E : Type 0} {m k n : ℕ} {r : Result T E} → k ≡ m → HasCause k n r → HasCause m n r
cause_from {T} {E} {m} {k} {n} {r} e c = subst (λ (j : ℕ). HasCause j n r) e c

split_result : {T E : Type 0} {b h1 : List ℕ} {t0 t1 : Option (List ℕ)} (r : Result T E) (t2 : Option (List ℕ)) (c h2 : List ℕ) → IsSplit b t0 t1 h1
    → OnOk r (IsSplit (h1 ++ c) t1 t2 h2) → OnOk r (IsSplit (b ++ c) t0 t2 h2)
split_result (Ok x) t2 c h2 p q = split_then c p q
split_result (Err e) t2 c h2 p q = tt

prefix_result : {T E : Type 0} {b h1 : List ℕ} {t0 t1 : Option (List ℕ)} (r : Result T E) (t2 : Option (List ℕ)) (c : List ℕ) → IsSplit b t0 t1 h1
    → OnErr r (AppendsPrefix t1 t2 (h1 ++ c)) → OnErr r (AppendsPrefix t0 t2 (b ++ c))
prefix_result (Ok x) t2 c p q = tt
prefix_result (Err e) t2 c p q = prefix_then t2 c p q

-- a call after what went well
pub puts_after : {T E : Type 0} {b h1 h2 : List ℕ} {t0 t1 t2 : Option (List ℕ)} {m k n : ℕ} {r : Result T E} (c : List ℕ)
    → IsSplit b t0 t1 h1 → k ≡ m → Puts (h1 ++ c) t1 t2 k n h2 r → Puts (b ++ c) t0 t2 m n h2 r
puts_after {h2 = h2} {t2 = t2} {r = r} c p e q = record { ok = split_result r t2 c h2 p q.ok; err = prefix_result r t2 c p q.err; cause = cause_from e q.cause }

-- a failed call ends all, whatever was still to be put
pub puts_failed : {T E T2 E2 : Type 0} {b h : List ℕ} {t0 t1 : Option (List ℕ)} {m n : ℕ} {e : E} {x : E2} {r : Result T2 E2} (c h2 : List ℕ)
    → r ≡ Err x → Puts {T = T} b t0 t1 m n h (Err e) → Puts (b ++ c) t0 t1 m n h2 r
puts_failed {b = b} {t0 = t0} {t1 = t1} {m = m} {n = n} c h2 is p =
    subst (λ r. Puts (b ++ c) t0 t1 m n h2 r) (sym is) (record {
      ok = tt;
      err = prefix_more b t0 t1 c p.err;
      cause = record { never_falls = p.cause.never_falls; ok = tt; failed = p.cause.failed };
    })

-- what is held after a call that went well, with further bytes after it
pub puts_more : {T E T2 E2 : Type 0} {b h h2 : List ℕ} {t0 t1 : Option (List ℕ)} {m n : ℕ} (x : T) {y : T2} (c : List ℕ)
    → h2 ≡ h ++ c → Puts {T = T} {E = E} b t0 t1 m n h (Ok x) → Puts {T = T2} {E = E2} (b ++ c) t0 t1 m n h2 (Ok y)
puts_more {b = b} {h = h} x c is p = record {
  ok = record {
    gone = p.ok.gone;
    parts = ap (λ (l : List ℕ). l ++ c) p.ok.parts ∙ append_assoc p.ok.gone h c ∙ ap (λ (l : List ℕ). p.ok.gone ++ l) (sym is);
    taken = p.ok.taken;
  };
  err = tt;
  cause = record { never_falls = p.cause.never_falls; ok = p.cause.ok; failed = tt };
}

-- the parts of a line after what was there
pub three_parts : (a b c d : List ℕ) → ((a ++ b) ++ c) ++ d ≡ a ++ ((b ++ c) ++ d)
three_parts a b c d = ap (λ (l : List ℕ). l ++ d) (append_assoc a b c) ∙ append_assoc a (b ++ c) d

-- all was put, and no write failed
pub puts_ok : {T E : Type 0} {b h : List ℕ} {t0 t1 : Option (List ℕ)} {m n : ℕ} (x : T) → IsSplit b t0 t1 h → n ≡ m → Puts {T = T} {E = E} b t0 t1 m n h (Ok x)
puts_ok x p e = record { ok = p; err = tt; cause = record { never_falls = omega (arith, e); ok = e; failed = tt } }

-- the bytes of a list that is put entry by entry, with one entry more
pub entry_put : {X : Type 0} (f : X → List ℕ) (a : List ℕ) (xs : List X) (i : ℕ) (x : X) → x ≡ get_or xs i x → i < length xs
    → (a ++ flat_map f (take i xs)) ++ f x ≡ a ++ flat_map f (take (i + 1) xs)
entry_put f a xs i x is h =
    append_assoc a (flat_map f (take i xs)) (f x)
    ∙ ap (λ (l : List ℕ). a ++ (flat_map f (take i xs) ++ l)) (sym (append-nil (f x)))
    ∙ ap (λ (l : List ℕ). a ++ l) (sym (flat_map-append f (take i xs) (x ∷ [])))
    ∙ ap (λ y. a ++ flat_map f (take i xs ++ y ∷ [])) is
    ∙ ap (λ ys. a ++ flat_map f ys) (sym (take_more xs i x h))

rest_put : {X : Type 0} (f : X → List ℕ) (a : List ℕ) (xs : List X) (i : ℕ) → (a ++ flat_map f (take i xs)) ++ flat_map f (drop i xs) ≡ a ++ flat_map f xs
rest_put f a xs i =
    append_assoc a (flat_map f (take i xs)) (flat_map f (drop i xs))
    ∙ ap (λ (l : List ℕ). a ++ l) (sym (flat_map-append f (take i xs) (drop i xs)) ∙ ap (flat_map f) (take-append-drop i xs))

-- the bytes of the first entries, of one more, and of all that follow are the bytes of the list
pub entries_put : {X : Type 0} (f : X → List ℕ) (a : List ℕ) (xs : List X) (i : ℕ) (x : X) → x ≡ get_or xs i x → i < length xs
    → ((a ++ flat_map f (take i xs)) ++ f x) ++ flat_map f (drop (i + 1) xs) ≡ a ++ flat_map f xs
entries_put f a xs i x is h = ap (λ (l : List ℕ). l ++ flat_map f (drop (i + 1) xs)) (entry_put f a xs i x is h) ∙ rest_put f a xs (i + 1)

pub all_put : {X : Type 0} (f : X → List ℕ) (a : List ℕ) (xs : List X) (i : ℕ) → length xs ≤ i → a ++ flat_map f (take i xs) ≡ a ++ flat_map f xs
all_put f a xs i h = ap (λ ys. a ++ flat_map f ys) (take_all i xs h)

-- the parts of the line of a node after what was there
pub node_word : (a b c d e : List ℕ) → (a ++ b) ++ (c ++ d ++ e) ≡ a ++ (b ++ (c ++ d) ++ e)
node_word a b c d e = simp append_assoc

pub node_number : (a b c d e : List ℕ) → ((a ++ b) ++ c) ++ (d ++ e) ≡ a ++ (b ++ (c ++ d) ++ e)
node_number a b c d e = simp append_assoc

pub node_parts : (a b c d e : List ℕ) → (((a ++ b) ++ c) ++ d) ++ e ≡ a ++ (b ++ (c ++ d) ++ e)
node_parts a b c d e = simp append_assoc

pub line_word : (a b c d : List ℕ) → (a ++ b) ++ (c ++ d) ≡ a ++ (b ++ c ++ d)
line_word a b c d = simp append_assoc

-- the parts of a text after what was there
pub text_first : (a b c d e : List ℕ) → (a ++ b) ++ (c ++ d ++ e) ≡ a ++ (b ++ c ++ d ++ e)
text_first a b c d e = simp append_assoc

pub text_second : (a b c d e : List ℕ) → ((a ++ b) ++ c) ++ (d ++ e) ≡ a ++ (b ++ c ++ d ++ e)
text_second a b c d e = simp append_assoc

pub text_parts : (a b c d e : List ℕ) → (((a ++ b) ++ c) ++ d) ++ e ≡ a ++ (b ++ c ++ d ++ e)
text_parts a b c d e = simp append_assoc

-- if nothing is held any more all was taken
pub all_taken : {T E : Type 0} (r : Result T E) (b h : List ℕ) (t0 t1 : Option (List ℕ)) → OnOk r (IsSplit b t0 t1 h) → OnOk r (h ≡ []) → OnOk r (Appends t0 t1 b)
all_taken (Ok x) b h t0 t1 p e =
    let whole : b ≡ p.gone = p.parts ∙ ap (λ (l : List ℕ). p.gone ++ l) e ∙ append-nil p.gone in
    subst (Appends t0 t1) (sym whole) p.taken
all_taken (Err x) b h t0 t1 p e = tt

all_gone : {T E : Type 0} (t0 t1 : Option (List ℕ)) (r : Result T E) (c : List ℕ) → OnOk r (Appends t0 t1 c) → OnOk r (IsSplit c t0 t1 [])
all_gone t0 t1 (Ok x) c whole = record { gone = c; parts = sym (append-nil c); taken = whole }
all_gone t0 t1 (Err x) c whole = tt

-- a page was written out, and then bytes that did not pass through it
pub puts_written : {T E : Type 0} {b h : List ℕ} {t0 t1 t2 : Option (List ℕ)} {m k n : ℕ} (r : Result T E) (c : List ℕ)
    → IsSplit b t0 t1 h → h ≡ [] → k ≡ m → OnOk r (Appends t1 t2 c) → OnErr r (AppendsPrefix t1 t2 c) → HasCause k n r → Puts (b ++ c) t0 t2 m n h r
puts_written {t1 = t1} {t2 = t2} {k = k} {n = n} r c p none e whole part cause =
    puts_after c p e (subst (λ (l : List ℕ). Puts (l ++ c) t1 t2 k n l r) (sym none) (record { ok = all_gone t1 t2 r c whole; err = part; cause = cause }))
