-- What the job `grow` replies.
use Rattle.std.specs.Prelude.{ℕ, ◌≡◌, ◌≤◌, ◌⊎◌, ⊤, List}
use Rattle.cut_definitions.specs.Components.{IsConnected, HasComponents}
use Rattle.cut_definitions.specs.Graph.{Graph}
use Rattle.program_words.specs.Insertions.{Insertion}
use Rattle.job_replies.specs.GrownGraphs.{IsFirstBeyond, StaysWithin}
use Rattle.job_replies.specs.Jobs.{IsGrowText}
use Rattle.program_words.specs.Texts.{disconnected_line}
use Rattle.stop_lines.specs.declared.stop.Stop.{Stop}
use Rattle.stop_lines.specs.declared.stop.Stop.TheVariants.{GrowTooLarge, NoMemory}

-- the text for a graph of one component, or the number of its components
pub record IsGrowReply (g : Graph) (is : List Insertion) (text : List ℕ) : Type 0 where
  pub within : StaysWithin g is
  pub count : ℕ
  pub components : HasComponents g count
  pub answer : ((2 ≤ count) × (text ≡ disconnected_line count)) ⊎ (IsConnected g × IsGrowText g is text)

-- the first insertion after which the graph is too large
abbrev pub IsGrowStop : Graph → List Insertion → Stop → Type 0
IsGrowStop g is (GrowTooLarge number) = ((count : ℕ) × HasComponents g count) × IsFirstBeyond g is number
IsGrowStop g is NoMemory = ⊤
IsGrowStop g is _ = ⊥
