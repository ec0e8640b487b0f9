-- What is reported if there is nothing to write to `out`.
use Rattle.std.specs.Prelude.{ℕ, List, ◌++◌, codes}
use Rattle.std.specs.Fmt.{decimal}
use Rattle.metis_reader.specs.declared.fault.FaultKind.{FaultKind}
use Rattle.metis_reader.specs.declared.fault.FaultKind.TheVariants.{NoHeader, HeaderWords, BadNumber, BadFormat, TooManyVertices, TooManyEdges, BadConstraints, NeighbourRange, SelfLoop, ZeroWeight, WordMissing, TooManyEntries, ExtraLine, WeightSum, InputTooLong, MissingLines, TooFewEntries, Repeated, Unsymmetric}
use Rattle.metis_reader.specs.declared.fault.ReadRefusal.{ReadRefusal}
use Rattle.metis_reader.specs.declared.fault.ReadRefusal.TheVariants as reader
use Rattle.stop_lines.specs.declared.stop.Stop.{Stop}
use Rattle.stop_lines.specs.declared.stop.Stop.TheVariants as stop
use Rattle.stop_lines.specs.declared.status.Status.{Status}
use Rattle.stop_lines.specs.declared.status.Status.TheVariants as status
use Rattle.program_words.specs.Texts.{line, usage_line, read_failed_line, out_of_memory_line, vertex_line, too_large_line, too_many_unions_line, count_too_large_line, balance_too_large_line, grow_too_large_line}

abbrev pub stop_of : ReadRefusal → Stop
stop_of (reader.Fault fault) = stop.Refused fault
stop_of reader.NoMemory = stop.NoMemory

abbrev pub status_of : Stop → Status
status_of stop.BadWords = status.BadWords
status_of (stop.Refused fault) = status.Refused
status_of stop.ReadFailed = status.ReadFault
status_of stop.NoMemory = status.OutOfMemory
status_of (stop.BadVertex vertex n) = status.BadVertex
status_of (stop.TooLarge cuts n) = status.ListTooLarge
status_of (stop.TooManyUnions components n) = status.ListTooLarge
status_of (stop.CountTooLarge components) = status.CountTooLarge
status_of (stop.BalanceTooLarge components total) = status.BalanceTooLarge
status_of (stop.GrowTooLarge number) = status.GrowTooLarge

abbrev pub kind_name_of : FaultKind → List ℕ
kind_name_of NoHeader = codes "NoHeader"
kind_name_of HeaderWords = codes "HeaderWords"
kind_name_of BadNumber = codes "BadNumber"
kind_name_of BadFormat = codes "BadFormat"
kind_name_of TooManyVertices = codes "TooManyVertices"
kind_name_of TooManyEdges = codes "TooManyEdges"
kind_name_of BadConstraints = codes "BadConstraints"
kind_name_of NeighbourRange = codes "NeighbourRange"
kind_name_of SelfLoop = codes "SelfLoop"
kind_name_of ZeroWeight = codes "ZeroWeight"
kind_name_of WordMissing = codes "WordMissing"
kind_name_of TooManyEntries = codes "TooManyEntries"
kind_name_of ExtraLine = codes "ExtraLine"
kind_name_of WeightSum = codes "WeightSum"
kind_name_of InputTooLong = codes "InputTooLong"
kind_name_of MissingLines = codes "MissingLines"
kind_name_of TooFewEntries = codes "TooFewEntries"
kind_name_of Repeated = codes "Repeated"
kind_name_of Unsymmetric = codes "Unsymmetric"

abbrev pub line_of : Stop → List ℕ
line_of stop.BadWords = usage_line
line_of (stop.Refused fault) = line (codes "refused: " ++ kind_name_of fault.kind ++ codes " at line " ++ decimal fault.line)
line_of stop.ReadFailed = read_failed_line
line_of stop.NoMemory = out_of_memory_line
line_of (stop.BadVertex vertex n) = vertex_line vertex n
line_of (stop.TooLarge cuts n) = too_large_line cuts n
line_of (stop.TooManyUnions components n) = too_many_unions_line components n
line_of (stop.CountTooLarge components) = count_too_large_line components
line_of (stop.BalanceTooLarge components total) = balance_too_large_line components total
line_of (stop.GrowTooLarge number) = grow_too_large_line number
