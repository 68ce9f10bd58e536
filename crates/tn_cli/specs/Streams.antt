-- Inputs that are read whole, and outputs that are written in parts.
use Rattle.std.specs.Prelude.{◌≡◌, ℕ, ◌+◌, ◌<◌, List, ◌++◌, ◌⊎◌, Option, length, take}
use Rattle.std.specs.Io.KnownBytes.{Appends}
use Rattle.tn_cli.specs.declared.fault.CliFault.{CliFault}
use Rattle.tn_cli.specs.declared.fault.CliFault.TheVariants.{Read, TooLong, Script, World, Write, Memory}

-- the most bytes of an input
abbrev pub max_input : ℕ
max_input = 1048576

-- the most reads of an input
abbrev pub max_reads : ℕ
max_reads = 2097152

-- the most reads of a stream that is printed as it comes
abbrev pub max_pieces : ℕ
max_pieces = 18446744073709551615

-- the most writes of an output
abbrev pub max_writes : ℕ
max_writes = 18446744073709551615

-- the faults by which reading an input can fail
abbrev pub IsReadFault : CliFault → Type 0
IsReadFault Read = Unit {0}
IsReadFault TooLong = Unit {0}
IsReadFault Memory = Unit {0}
IsReadFault (Script line) = ⊥
IsReadFault (World line) = ⊥
IsReadFault Write = ⊥

-- the faults by which writing lines as they come can fail
abbrev pub IsPrintFault : CliFault → Type 0
IsPrintFault Write = Unit {0}
IsPrintFault Memory = Unit {0}
IsPrintFault Read = ⊥
IsPrintFault TooLong = ⊥
IsPrintFault (Script line) = ⊥
IsPrintFault (World line) = ⊥

-- A piece more is kept of an input of which this number of bytes were read before, after all of those; or
-- fewer bytes are kept than were read.
abbrev pub KeepsPiece : ℕ → List ℕ → List ℕ → List ℕ → Type 0
KeepsPiece count piece old new =
    ((length old ≡ count) × (new ≡ old ++ piece)) ⊎ (length new < count + length piece)

-- a prefix of the output was appended
abbrev pub AppendsPrefix : Option (List ℕ) → Option (List ℕ) → List ℕ → Type 0
AppendsPrefix old new output = (count : ℕ) × Appends old new (take count output)
