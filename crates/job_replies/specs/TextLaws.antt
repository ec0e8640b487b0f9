-- What is written of a cactus, of a side of best balance, and of an augmentation is a function of the graph. What a
-- trial writes is a function of its number, and what any other job writes is one of the bytes read.
use Rattle.std.specs.Prelude.{ℕ, ◌≡◌, List, Ok}
use Rattle.cut_definitions.specs.Graph.{Graph}
use Rattle.cut_definitions.specs.Components.{IsConnected}
use Rattle.metis_reader.specs.File.{graph_of}
use Rattle.program_words.specs.declared.command.Command.{Command}
use Rattle.program_words.specs.declared.command.Job.TheVariants.{Balanced}
use Rattle.job_replies.specs.Intake.{IsJobAnswer}
use Rattle.job_replies.specs.Jobs.{IsAugmentText, IsBalancedText, IsCactusText}
use Rattle.job_replies.specs.Trials.{IsTrialText}

-- a graph has one text of its cactus
abbrev pub LawOfOneCactusText : Type 0
LawOfOneCactusText = (g : Graph) (t u : List ℕ) → IsCactusText g t → IsCactusText g u → t ≡ u

-- a connected graph whose vertices have these masses has one text of a best side
abbrev pub LawOfOneBalancedText : Type 0
LawOfOneBalancedText = (masses : List ℕ) (g : Graph) → IsConnected g → (t u : List ℕ) → IsBalancedText masses g t → IsBalancedText masses g u → t ≡ u

-- a graph has one text of an augmentation
abbrev pub LawOfOneAugmentText : Type 0
LawOfOneAugmentText = (g : Graph) (t u : List ℕ) → IsAugmentText g t → IsAugmentText g u → t ≡ u

-- for the bytes of a file all commands with one job and one least balance have one text, whatever their numbers of
-- workers; for `balanced` this holds if the graph is connected
abbrev pub LawOfOneAnswer : Type 0
LawOfOneAnswer = (first second : Command) → first.job ≡ second.job → first.least ≡ second.least → (bytes t u : List ℕ)
    → ((g : Graph) → graph_of bytes ≡ Ok g → first.job ≡ Balanced → IsConnected g)
    → IsJobAnswer first bytes t → IsJobAnswer second bytes u → t ≡ u

-- a number has one text of a trial
abbrev pub LawOfOneTrialText : Type 0
LawOfOneTrialText = (number : ℕ) (t u : List ℕ) → IsTrialText number t → IsTrialText number u → t ≡ u
