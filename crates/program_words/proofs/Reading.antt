-- From what `clap` says of a parse to the command of the words.
use Rattle.std.proofs.Common.{◌≡◌, ◌∙◌, true, refl, ap, subst, List, [], ◌∷◌, map, Option, Some, None, option_map, inl, inr, codes, Result, Ok, Err}
use Rattle.std.specs.Prelude.{unwrap_or}
use Rattle.std.specs.Borrow.{Bor}
use Rattle.clap.specs.Words.{App, HasKind, HasMatchesOf, Kinds, Text, Row, fault_of, first_value, found_of, is_simple, is_simple_and_free, kind_of, matched_of, matches_of, raw_values, rows_of}
use Rattle.clap.specs.declared.error.Error.{Error}
use Rattle.clap.specs.declared.error.kind.ErrorKind.TheVariants.{OutOfMemory}
use Rattle.clap.specs.declared.parser.matches.ArgMatches.{ArgMatches}
use Rattle.clap.specs.declared.parser.matches.Found.{Found}
use Rattle.clap.proofs.OnLiterals.{clap_on_literals}
use Rattle.clap.proofs.WalkLemmas.{first_value-rows, raw_values-rows}
use Rattle.program_words.specs.Line.{mincut}
use Rattle.program_words.specs.Words.{command_by, command_in, command_of}

is_free_line : is_simple_and_free mincut ≡ true
unfolding clap_on_literals
is_free_line = refl

is_simple_line : is_simple mincut ≡ true
unfolding clap_on_literals
is_simple_line = refl

pub no_fault : (a : App) (words : List Text) → a ≡ mincut → (is_simple_and_free a ≡ true → fault_of a words ≡ []) → fault_of mincut words ≡ []
no_fault a words e h = subst (λ (x : App). is_simple_and_free x ≡ true → fault_of x words ≡ []) e h is_free_line

pub rows_matched : (a : App) (words : List Text) (m : ArgMatches) → a ≡ mincut → HasMatchesOf a words m → rows_of (found_of m) ≡ matches_of mincut words
rows_matched a words m e h = (subst (λ (x : App). HasMatchesOf x words m) e h is_simple_line).0

pub has_fault : (a : App) (words : List Text) (e : Error) → a ≡ mincut → (is_simple_and_free a ≡ true → HasKind (fault_of a words) e) → (kind_of e ≡ OutOfMemory → ⊥) → command_of words ≡ None
unfolding command_of
has_fault a words e is h not_memory = go (fault_of mincut words) refl (subst (λ (x : App). is_simple_and_free x ≡ true → HasKind (fault_of x words) e) is h is_free_line)
  where
    go : (kinds : Kinds) → fault_of mincut words ≡ kinds → HasKind kinds e → command_of words ≡ None
    go kinds f (inl memory) = absurd (not_memory memory)
    go [] f (inr among) = absurd among
    go (k ∷ ks) f (inr among) = rw f refl

pub command_found : (words : List Text) (rows : List Row) → fault_of mincut words ≡ [] → rows ≡ matches_of mincut words → command_of words ≡ command_in rows
unfolding command_of
command_found words rows f r = rw (f, r) refl

-- the values behind the references, or none
pub values_or_none : (o : Option (Bor (List (Bor Text)))) (d : Bor (List (Bor Text))) → d.now ≡ [] → map (λ v. v.now) (unwrap_or o d).now ≡ unwrap_or (option_map (λ s. map (λ v. v.now) s.now) o) []
values_or_none None d e = ap (map (λ v. v.now)) e
values_or_none (Some s) d e = refl

-- what the rules make of what the getters read
pub read_by_rows : (found : Found) (name workers least : Option (Bor Text)) (all : Option (Bor (List (Bor Text)))) (none : Bor (List (Bor Text))) → none.now ≡ []
    → option_map (λ s. s.now) name ≡ first_value found (codes "job")
    → option_map (λ s. map (λ v. v.now) s.now) all ≡ option_map raw_values (matched_of found (codes "values"))
    → option_map (λ s. s.now) workers ≡ first_value found (codes "workers")
    → option_map (λ s. s.now) least ≡ first_value found (codes "least")
    → command_by (option_map (λ s. s.now) name) (map (λ v. v.now) (unwrap_or all none).now) (option_map (λ s. s.now) workers) (option_map (λ s. s.now) least) ≡ command_in (rows_of found)
read_by_rows found name workers least all none nil n v w l =
    let names = n ∙ first_value-rows found (codes "job") in
    let counts = w ∙ first_value-rows found (codes "workers") in
    let values = values_or_none all none nil ∙ ap (λ (o : Option (List Text)). unwrap_or o []) (v ∙ raw_values-rows found (codes "values")) in
    let balances = l ∙ first_value-rows found (codes "least") in
    λ i. command_by (names i) (values i) (counts i) (balances i)

-- the refusal in an `Err`
pub refusal_is : {T E : Type 0} (d : E) (e x : E) → ◌≡◌ {A = Result T E} (Err e) (Err x) → e ≡ x
refusal_is {T} {E} d e x h = ap (λ (r : Result T E). elim r [ Ok v ↦ d | Err y ↦ y ]) h
