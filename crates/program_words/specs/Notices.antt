-- What the program says about itself.
use Rattle.std.specs.Prelude.{◌||◌, ◌++◌, ◌∷◌, ℕ, List, [], Option, Some, None, codes, if◌then◌else◌}
use Rattle.std.specs.Str.{bytes_eq}
use Rattle.program_words.specs.Texts.{line}
use Rattle.program_words.specs.declared.notice.Notice.{Notice}
use Rattle.program_words.specs.declared.notice.Notice.TheVariants.{Help, Version}

abbrev pub text_of : Notice → List ℕ
text_of Help =
    line (codes "usage: mincut JOB [U V] [--workers N]")
    ++ line (codes "the graph comes in METIS text from standard input: mincut JOB < GRAPH")
    ++ line (codes "value: prints the least weight of a cut")
    ++ line (codes "count: prints this value and the number of minimum cuts")
    ++ line (codes "cactus: prints all minimum cuts as one cactus")
    ++ line (codes "cuts: lists the minimum cuts, each by its side without vertex 1")
    ++ line (codes "part U V: lists those that separate the vertices U and V")
    ++ line (codes "balanced: prints a minimum cut whose lighter side is heaviest")
    ++ line (codes "augment: prints the fewest edges of weight 1 that raise the value, and the sets that show it")
    ++ line (codes "grow U V W ..: inserts edges U V of weight W, and prints value and count after each, then the cactus")
    ++ line (codes "trial N: prints five facts about a graph of about N vertices that it makes, 12 to 100000")
    ++ line (codes "--workers N: the number of threads, 1 to 64, and 4 if not given; the text is the same")
    ++ line (codes "--least W, with cuts: only those whose lighter side weighs W or more")
    ++ line (codes "--help, -h: prints this text")
    ++ line (codes "--version, -V: prints the version")
text_of Version = line (codes "mincut 0.4.0")

-- the notice of this name
abbrev pub notice_named : List ℕ → Option Notice
notice_named word =
    if bytes_eq word (codes "--help") || bytes_eq word (codes "-h") then Some Help
    else (if bytes_eq word (codes "--version") || bytes_eq word (codes "-V") then Some Version else None)

-- the notice that the words ask for: they are the one word that names it
abbrev pub notice_of : List (List ℕ) → Option Notice
notice_of [] = None
notice_of (word ∷ []) = notice_named word
notice_of (word ∷ next ∷ more) = None
