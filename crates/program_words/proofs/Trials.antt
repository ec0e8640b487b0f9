-- The number of a trial is in range, and a trial reads no graph.
use Rattle.std.proofs.Common.{◌≡◌, ℕ, ◌&&◌, Bool, true, false, List, [], ◌∷◌, Option, Some, None, option_map, codes, refl, sym, ◌∙◌, ap, subst, if◌then◌else◌, nat_le}
use Rattle.std.specs.Prelude.{IfSome, unwrap_or}
use Rattle.std.specs.Str.{bytes_eq}
use Rattle.std.proofs.lemmas.Bool.{leb-true}
use Rattle.clap.specs.Words.{Text, all_of, first_of, fault_of, matches_of}
use Rattle.program_words.specs.Line.{mincut}
use Rattle.program_words.specs.Numbers.{number_of}
use Rattle.program_words.specs.Words.{IsMakeable, IsReading, ReadsGraph, before_all, command_by, command_from, command_of, grow_of, insertion_of, insertions_of, is_clean, job_of, least_for, named_job_of, part_of, taken_with, trial_of, with_least, within, workers_of}
use Rattle.std.specs.Prelude.{◌*◌, ◌==◌, ◌≤◌, length, not}
use Rattle.std.specs.List.{All}
use Rattle.std.proofs.Common.{arith}
use Rattle.std.proofs.lemmas.Bool.{eqb-false}
use Rattle.std.proofs.lemmas.List.Elements.{All-nil, All-cons}
use Rattle.program_words.specs.Insertions.{Insertion, IsInsertion}
use Rattle.program_words.specs.declared.command.Job.TheVariants as job
use Rattle.program_words.specs.declared.command.Job.{Job}
use Rattle.program_words.specs.declared.command.Command.{Command}

-- what holds of both branches holds of a choice
chosen : {X : Type 0} (P : X → Type 0) (b : Bool) (x y : Option X) → IfSome x P → IfSome y P → IfSome (if b then x else y) P
chosen P true x y p q = p
chosen P false x y p q = q

trial_within : (o : Option ℕ) → IfSome (trial_of (within 12 100000 o)) IsMakeable
trial_within None = tt
trial_within (Some n) = go (nat_le 12 n) (nat_le n 100000) refl refl
  where
    go : (a b : Bool) → nat_le 12 n ≡ a → nat_le n 100000 ≡ b → IfSome (trial_of (if a && b then Some n else None)) IsMakeable
    go true true low high = (leb-true 12 n low, leb-true n 100000 high)
    go true false low high = tt
    go false b low high = tt

part_within : (a b : Option ℕ) → IfSome (part_of a b) IsMakeable
part_within None b = tt
part_within (Some u) None = tt
part_within (Some u) (Some v) = tt

-- the insertions of texts
record AreRead (texts : List Text) (is : List Insertion) : Type 0 where
  many : length texts ≡ 3 * length is
  each : All IsInsertion is

insertion_read : (u v w : Option ℕ) → IfSome (insertion_of u v w) IsInsertion
insertion_read None v w = tt
insertion_read (Some u) None w = tt
insertion_read (Some u) (Some v) None = tt
insertion_read (Some u) (Some v) (Some w) = go (u == v) (nat_le 1 w) refl refl
  where
    go : (a b : Bool) → (u == v) ≡ a → nat_le 1 w ≡ b → IfSome (if not a && b then Some (u, v, w) else None) IsInsertion
    go true b same le = tt
    go false false same le = tt
    go false true same le = (eqb-false u v same, leb-true 1 w le)

insertions_read : (texts : List Text) → IfSome (insertions_of texts) (AreRead texts)
insertions_read [] = record { many = refl; each = All-nil IsInsertion }
insertions_read (u ∷ []) = tt
insertions_read (u ∷ v ∷ []) = tt
insertions_read (u ∷ v ∷ w ∷ more) = join (insertion_of (number_of u) (number_of v) (number_of w)) (insertions_of more) (insertion_read (number_of u) (number_of v) (number_of w)) (insertions_read more)
  where
    join : (i : Option Insertion) (is : Option (List Insertion)) → IfSome i IsInsertion → IfSome is (AreRead more) → IfSome (before_all i is) (AreRead (u ∷ v ∷ w ∷ more))
    join None is p q = tt
    join (Some i) None p q = tt
    join (Some i) (Some is) p q = record { many = omega (arith, q.many); each = All-cons IsInsertion i is p q.each }

grow_within : (texts : List Text) → 3 ≤ length texts → IfSome (grow_of texts) IsMakeable
grow_within texts some = go (nat_le (length texts) 3000) (insertions_of texts) refl (insertions_read texts)
  where
    go : (b : Bool) (o : Option (List Insertion)) → nat_le (length texts) 3000 ≡ b → IfSome o (AreRead texts) → IfSome (if b then option_map job.Grow o else None) IsMakeable
    go false o few read = tt
    go true None few read = tt
    go true (Some is) few read =
        let most : length texts ≤ 3000 = leb-true (length texts) 3000 few in
        record { some = omega (arith, some, read.many); few = omega (arith, most, read.many); each = read.each }

job_within : (name : Text) (values : List Text) → IfSome (job_of name values) IsMakeable
job_within name [] =
    chosen IsMakeable (bytes_eq name (codes "value")) _ _ tt
    (chosen IsMakeable (bytes_eq name (codes "cactus")) _ _ tt
    (chosen IsMakeable (bytes_eq name (codes "cuts")) _ _ tt
    (chosen IsMakeable (bytes_eq name (codes "count")) _ _ tt
    (chosen IsMakeable (bytes_eq name (codes "balanced")) _ _ tt (chosen IsMakeable (bytes_eq name (codes "augment")) _ _ tt tt)))))
job_within name (first ∷ []) = chosen IsMakeable (bytes_eq name (codes "trial")) _ _ (trial_within (number_of first)) tt
job_within name (first ∷ second ∷ []) = chosen IsMakeable (bytes_eq name (codes "part")) _ _ (part_within (number_of first) (number_of second)) tt
job_within name (first ∷ second ∷ third ∷ more) = chosen IsMakeable (bytes_eq name (codes "grow")) _ _ (grow_within (first ∷ second ∷ third ∷ more) (omega arith)) tt

abbrev IsMade : Command → Type 0
IsMade command = IsMakeable command.job

from_within : (j : Option Job) (n : Option ℕ) → IfSome j IsMakeable → IfSome (command_from j n) IsMade
from_within None n h = tt
from_within (Some j) None h = tt
from_within (Some j) (Some n) h = h

-- a least balance leaves the job as it is
least_within : (least : Option Text) (command : Command) → IsMade command → IfSome (with_least least command) IsMade
least_within None command h = h
least_within (Some text) command h = go (least_for command.job (number_of text))
  where
    go : (o : Option ℕ) → IfSome (option_map (λ k. record command { least = Some k }) o) IsMade
    go None = tt
    go (Some k) = h

taken_within : (least : Option Text) (o : Option Command) → IfSome o IsMade → IfSome (taken_with least o) IsMade
taken_within least None h = tt
taken_within least (Some command) h = least_within least command h

by_within : (name : Option Text) (values : List Text) (workers least : Option Text) → IfSome (command_by name values workers least) IsMade
by_within name values None least = tt
by_within name values (Some workers) least =
    taken_within least (command_from (named_job_of name values) (workers_of workers)) (from_within (named_job_of name values) (workers_of workers) (named_within name))
  where
    named_within : (name : Option Text) → IfSome (named_job_of name values) IsMakeable
    named_within None = tt
    named_within (Some name) = job_within name values

command_within : (words : List Text) → IfSome (command_of words) IsMade
unfolding command_of
command_within words = chosen IsMade (is_clean (fault_of mincut words)) _ _ (by_within (first_of (codes "job") (matches_of mincut words)) (unwrap_or (all_of (codes "values") (matches_of mincut words)) []) (first_of (codes "workers") (matches_of mincut words)) (first_of (codes "least") (matches_of mincut words))) tt

-- the number of a trial that words ask for is in range
pub is_makeable : (words : List Text) (command : Command) → command_of words ≡ Some command → IsMakeable command.job
is_makeable words command is = subst (λ (o : Option Command). IfSome o IsMade) is (command_within words)

pub some_is : {X : Type 0} (x y : X) → ◌≡◌ {A = Option X} (Some x) (Some y) → x ≡ y
some_is {X} x y e = ap (λ (o : Option X). elim o [ Some v ↦ v | None ↦ x ]) e

-- what words that read a graph have as their command does so
pub is_reading : (words : List Text) (command : Command) → command_of words ≡ Some command → ReadsGraph words → IsReading command.job
is_reading words command is reads = subst (λ (c : Command). IsReading c.job) (some_is reads.command command (sym reads.commanded ∙ is)) reads.reading
