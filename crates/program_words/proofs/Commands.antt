-- The command of words that are written out.
use Rattle.std.proofs.Common.{◌≡◌, refl, [], ◌∷◌, Some, None, codes}
use Rattle.clap.proofs.OnLiterals.{clap_on_literals}
use Rattle.program_words.specs.Words.{command_of}
use Rattle.program_words.specs.declared.command.Job.TheVariants as job

job_alone : command_of (codes "value" ∷ []) ≡ Some (record { job = job.Value; workers = 4; least = None })
unfolding clap_on_literals command_of
job_alone = refl

option_first : command_of (codes "--workers=8" ∷ codes "value" ∷ []) ≡ Some (record { job = job.Value; workers = 8; least = None })
unfolding clap_on_literals command_of
option_first = refl

option_last : command_of (codes "value" ∷ codes "--workers" ∷ codes "064" ∷ []) ≡ Some (record { job = job.Value; workers = 64; least = None })
unfolding clap_on_literals command_of
option_last = refl

no_help : command_of (codes "--help" ∷ []) ≡ None
unfolding clap_on_literals command_of
no_help = refl

no_word : command_of [] ≡ None
unfolding clap_on_literals command_of
no_word = refl

another_job : command_of (codes "Value" ∷ []) ≡ None
unfolding clap_on_literals command_of
another_job = refl

the_number : command_of (codes "count" ∷ []) ≡ Some (record { job = job.Count; workers = 4; least = None })
unfolding clap_on_literals command_of
the_number = refl

a_value_too_many : command_of (codes "value" ∷ codes "3" ∷ []) ≡ None
unfolding clap_on_literals command_of
a_value_too_many = refl

no_workers : command_of (codes "value" ∷ codes "--workers" ∷ codes "0" ∷ []) ≡ None
unfolding clap_on_literals command_of
no_workers = refl

too_many_workers : command_of (codes "value" ∷ codes "--workers" ∷ codes "65" ∷ []) ≡ None
unfolding clap_on_literals command_of
too_many_workers = refl

an_option_twice : command_of (codes "value" ∷ codes "--workers" ∷ codes "8" ∷ codes "--workers" ∷ codes "9" ∷ []) ≡ None
unfolding clap_on_literals command_of
an_option_twice = refl

two_numbers : command_of (codes "part" ∷ codes "007" ∷ codes "2" ∷ []) ≡ Some (record { job = job.Part 7 2; workers = 4; least = None })
unfolding clap_on_literals command_of
two_numbers = refl

one_number : command_of (codes "part" ∷ codes "1" ∷ []) ≡ None
unfolding clap_on_literals command_of
one_number = refl

a_trial : command_of (codes "trial" ∷ codes "012" ∷ []) ≡ Some (record { job = job.Trial 12; workers = 4; least = None })
unfolding clap_on_literals command_of
a_trial = refl

a_great_trial : command_of (codes "trial" ∷ codes "100000" ∷ []) ≡ Some (record { job = job.Trial 100000; workers = 4; least = None })
unfolding clap_on_literals command_of
a_great_trial = refl

too_small_a_trial : command_of (codes "trial" ∷ codes "11" ∷ []) ≡ None
unfolding clap_on_literals command_of
too_small_a_trial = refl

too_great_a_trial : command_of (codes "trial" ∷ codes "100001" ∷ []) ≡ None
unfolding clap_on_literals command_of
too_great_a_trial = refl

no_number : command_of (codes "trial" ∷ []) ≡ None
unfolding clap_on_literals command_of
no_number = refl

a_least_balance : command_of (codes "cuts" ∷ codes "--least" ∷ codes "2" ∷ []) ≡ Some (record { job = job.Cuts; workers = 4; least = Some 2 })
unfolding clap_on_literals command_of
a_least_balance = refl

a_least_balance_first : command_of (codes "--least=07" ∷ codes "cuts" ∷ codes "--workers=2" ∷ []) ≡ Some (record { job = job.Cuts; workers = 2; least = Some 7 })
unfolding clap_on_literals command_of
a_least_balance_first = refl

a_least_balance_of_another_job : command_of (codes "count" ∷ codes "--least" ∷ codes "2" ∷ []) ≡ None
unfolding clap_on_literals command_of
a_least_balance_of_another_job = refl

a_least_balance_without_a_number : command_of (codes "cuts" ∷ codes "--least" ∷ codes "two" ∷ []) ≡ None
unfolding clap_on_literals command_of
a_least_balance_without_a_number = refl
