-- The status of each fault, and what it tells of the arrays of a graph.
use Rattle.std.specs.Prelude.{ℕ, ◌≡◌, ◌≢◌, ◌<◌, ◌≤◌, ◌^◌, ◌⊎◌, ⊤, List, [], ◌∷◌, length, replicate, sum}
use Rattle.cut_definitions.specs.Cuts.{value}
use Rattle.cut_definitions.specs.Graph.{Graph}
use Rattle.edge_arrays.specs.declared.arrays.ArrayFault.{ArrayFault}
use Rattle.edge_arrays.specs.declared.arrays.ArrayFault.TheVariants.{OutOfMemory, BadLength, TooManyVertices, TooManyEdges, BadVertex, WeightSum}
use Rattle.edge_arrays.specs.Given.{AreVertices, IsGiven, given}
use Rattle.edge_arrays.specs.Faults.{Explains}
use Rattle.mincut_c.specs.declared.status.Fault.{Fault}
use Rattle.mincut_c.specs.declared.status.Fault.TheVariants.{Arrays, NoCut, Disconnected, NoRoom, MassCount, MassSum, NoVertex, TooManySides}

-- the number by which a call tells of a fault
abbrev pub number_of : Fault → ℕ
number_of NoCut = 1
number_of (Arrays OutOfMemory) = 2
number_of (Arrays BadLength) = 3
number_of (Arrays TooManyVertices) = 4
number_of (Arrays TooManyEdges) = 5
number_of (Arrays BadVertex) = 6
number_of (Arrays WeightSum) = 7
number_of Disconnected = 8
number_of NoRoom = 9
number_of MassCount = 3
number_of MassSum = 10
number_of NoVertex = 6
number_of TooManySides = 11

-- the arrays give a graph that has cuts
abbrev pub HasCuts : ℕ → List ℕ → List ℕ → List ℕ → Type 0
HasCuts n us vs ws = IsGiven n us vs ws × (2 ≤ n)

-- when a fault of the graph is told; want of memory may be anywhere
abbrev pub IsReason : Fault → ℕ → List ℕ → List ℕ → List ℕ → Type 0
IsReason (Arrays fault) n us vs ws = Explains fault n us vs ws
IsReason NoCut n us vs ws = IsGiven n us vs ws × (n < 2)
IsReason Disconnected n us vs ws = HasCuts n us vs ws × (value (given n us vs ws) ≡ 0)
IsReason NoRoom n us vs ws = HasCuts n us vs ws × (1 ≤ value (given n us vs ws))
IsReason MassCount n us vs ws = ⊥
IsReason MassSum n us vs ws = ⊥
IsReason NoVertex n us vs ws = ⊥
IsReason TooManySides n us vs ws = HasCuts n us vs ws × (1 ≤ value (given n us vs ws))

-- the masses of n vertices by an array: 1 for each vertex where the array has no entry
abbrev pub masses_for : ℕ → List ℕ → List ℕ
masses_for n [] = replicate n 1
masses_for n (m ∷ ms) = m ∷ ms

-- the array gives masses: as many as the vertices, or none, and together less than 2^64
pub record AreMasses (n : ℕ) (masses : List ℕ) : Type 0 where
  pub many : length (masses_for n masses) ≡ n
  pub small : sum (masses_for n masses) < 2 ^ 64

-- when a fault of masses is told
abbrev pub IsMassReason : Fault → ℕ → List ℕ → Type 0
IsMassReason MassCount n masses = length (masses_for n masses) ≢ n
IsMassReason MassSum n masses = (length (masses_for n masses) ≡ n) × (2 ^ 64 ≤ sum (masses_for n masses))
IsMassReason _ n masses = ⊥

-- when a call that takes masses tells of a fault: they are looked at first
abbrev pub IsWeighedReason : Fault → ℕ → List ℕ → List ℕ → List ℕ → List ℕ → Type 0
IsWeighedReason fault n us vs ws masses = IsMassReason fault n masses ⊎ (AreMasses n masses × IsReason fault n us vs ws)

-- when a fault of two vertices is told, which are to be separated
abbrev pub IsPairReason : Fault → ℕ → ℕ → ℕ → Type 0
IsPairReason NoVertex n a b = (n ≤ a) ⊎ (n ≤ b)
IsPairReason _ n a b = ⊥

-- when a call that takes two vertices tells of a fault: they are looked at first
abbrev pub IsPairedReason : Fault → ℕ → List ℕ → List ℕ → List ℕ → ℕ → ℕ → Type 0
IsPairedReason fault n us vs ws a b = IsPairReason fault n a b ⊎ (AreVertices n a b × IsReason fault n us vs ws)

-- a status is that of a fault of the arrays, for which there is reason
pub record TellsArrayFault (status n : ℕ) (us vs ws : List ℕ) : Type 0 where
  pub fault : ArrayFault
  pub number : status ≡ number_of (Arrays fault)
  pub reason : Explains fault n us vs ws

-- a status is that of a fault that there is reason for
pub record TellsFault (status n : ℕ) (us vs ws : List ℕ) : Type 0 where
  pub fault : Fault
  pub number : status ≡ number_of fault
  pub reason : IsReason fault n us vs ws

-- the same of a call that takes masses
pub record TellsWeighedFault (status n : ℕ) (us vs ws masses : List ℕ) : Type 0 where
  pub fault : Fault
  pub number : status ≡ number_of fault
  pub reason : IsWeighedReason fault n us vs ws masses

-- and of one that takes two vertices
pub record TellsPairFault (status n : ℕ) (us vs ws : List ℕ) (a b : ℕ) : Type 0 where
  pub fault : Fault
  pub number : status ≡ number_of fault
  pub reason : IsPairedReason fault n us vs ws a b

-- why a list of edges is not solved: memory is wanting, or its value is 0
abbrev pub IsUnsolved : Fault → Graph → Type 0
IsUnsolved (Arrays OutOfMemory) list = ⊤
IsUnsolved Disconnected list = value list ≡ 0
IsUnsolved _ list = ⊥
