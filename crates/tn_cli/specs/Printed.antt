-- Entries as lines of text.
use Rattle.std.specs.{Prelude.{ℕ, List, ◌++◌, codes}, List.flat_map}
use Rattle.hex.specs.Hex.{encode_lower}
use Rattle.tn_discipline.specs.declared.reads.{Entry.{Entry, TheVariants.{Text, Eof, Signal}}, Sig.Sig}
use Rattle.tn_discipline.specs.declared.reads.Sig.TheVariants.{Int, Quit, Tstp}

-- the line of a signal
abbrev pub signal_line : Sig → List ℕ
signal_line Int = codes "signal int\n"
signal_line Quit = codes "signal quit\n"
signal_line Tstp = codes "signal tstp\n"

-- an entry as a line: a text's bytes are in lower hexadecimal
abbrev pub printed_entry : Entry → List ℕ
printed_entry (Text bytes) = codes "text " ++ encode_lower bytes ++ codes "\n"
printed_entry Eof = codes "eof\n"
printed_entry (Signal sig) = signal_line sig

-- entries, each on a line of its own
abbrev pub printed : List Entry → List ℕ
printed entries = flat_map printed_entry entries
