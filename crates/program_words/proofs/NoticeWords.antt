-- Words that ask for a notice are no command.
use Rattle.std.proofs.Common.{◌≡◌, ◌∷◌, true, false, refl, sym, List, [], None, codes, ⊎_elim, subst}
use Rattle.std.specs.Prelude.{IsSome}
use Rattle.std.specs.Str.{bytes_eq}
use Rattle.std.proofs.lemmas.Bool.{cases_Bool, false≢true}
use Rattle.std.proofs.lemmas.Slice.Eq.{bytes_eq-Decides}
use Rattle.clap.specs.Words.{Text}
use Rattle.clap.proofs.OnLiterals.{clap_on_literals}
use Rattle.program_words.specs.Notices.{notice_named, notice_of}
use Rattle.program_words.specs.Words.{command_of}

no_help : command_of (codes "--help" ∷ []) ≡ None
unfolding clap_on_literals command_of
no_help = refl

no_short_help : command_of (codes "-h" ∷ []) ≡ None
unfolding clap_on_literals command_of
no_short_help = refl

no_version : command_of (codes "--version" ∷ []) ≡ None
unfolding clap_on_literals command_of
no_version = refl

no_short_version : command_of (codes "-V" ∷ []) ≡ None
unfolding clap_on_literals command_of
no_short_version = refl

written : (word literal : Text) → bytes_eq word literal ≡ true → command_of (literal ∷ []) ≡ None → command_of (word ∷ []) ≡ None
written word literal same none = subst (λ (w : Text). command_of (w ∷ []) ≡ None) (sym ((bytes_eq-Decides word literal).0 same)) none

one_word : (word : Text) → IsSome (notice_named word) → command_of (word ∷ []) ≡ None
one_word word there =
    ⊎_elim (λ (a : bytes_eq word (codes "--help") ≡ true). written word (codes "--help") a no_help)
    (λ (a : bytes_eq word (codes "--help") ≡ false).
    ⊎_elim (λ (b : bytes_eq word (codes "-h") ≡ true). written word (codes "-h") b no_short_help)
    (λ (b : bytes_eq word (codes "-h") ≡ false).
    ⊎_elim (λ (d : bytes_eq word (codes "--version") ≡ true). written word (codes "--version") d no_version)
    (λ (d : bytes_eq word (codes "--version") ≡ false).
    ⊎_elim (λ (e : bytes_eq word (codes "-V") ≡ true). written word (codes "-V") e no_short_version)
    (λ (e : bytes_eq word (codes "-V") ≡ false). absurd (nothing word a b d e there))
    (cases_Bool (bytes_eq word (codes "-V"))))
    (cases_Bool (bytes_eq word (codes "--version"))))
    (cases_Bool (bytes_eq word (codes "-h"))))
    (cases_Bool (bytes_eq word (codes "--help")))
  where
    nothing : (word : Text) → bytes_eq word (codes "--help") ≡ false → bytes_eq word (codes "-h") ≡ false → bytes_eq word (codes "--version") ≡ false →
        bytes_eq word (codes "-V") ≡ false → IsSome (notice_named word) → ⊥
    nothing word a b d e there = false≢true (rw (a, b, d, e) at there)

pub notice_is_no_command : (words : List Text) → IsSome (notice_of words) → command_of words ≡ None
notice_is_no_command [] there = absurd (false≢true there)
notice_is_no_command (word ∷ []) there = one_word word there
notice_is_no_command (word ∷ next ∷ more) there = absurd (false≢true there)
