-- The numbers of entries, and of what keys do.
use Rattle.std.specs.Prelude.{ℕ, Option, Some, None, List, [], length, replicate}
use Rattle.tn_discipline.specs.declared.reads.{Sig.{Sig, TheVariants.{Int, Quit, Tstp}}, Entry.Entry}
use Rattle.tn_discipline.specs.declared.half_line.Effect.{Effect}
use Rattle.tn_discipline.specs.declared.reads.Entry.TheVariants as entry
use Rattle.tn_discipline.specs.declared.half_line.Effect.TheVariants as effect

-- the number of a signal
abbrev pub sig_number : Sig → ℕ
sig_number Int = 3
sig_number Quit = 4
sig_number Tstp = 5

-- the number of an entry's kind
abbrev pub entry_number : Entry → ℕ
entry_number (entry.Text text) = 1
entry_number entry.Eof = 2
entry_number (entry.Signal sig) = sig_number sig

-- the number of an entry's kind, 0 if there is none
abbrev pub kind_number : Option Entry → ℕ
kind_number None = 0
kind_number (Some e) = entry_number e

-- the number of a signal, 0 if there is none
abbrev pub signal_number : Option Sig → ℕ
signal_number None = 0
signal_number (Some sig) = sig_number sig

-- the number of a key's effect
abbrev pub effect_number : Effect → ℕ
effect_number effect.Nothing = 0
effect_number (effect.Gives e) = entry_number e
effect_number effect.Kept = 6
effect_number effect.Erased = 7
effect_number effect.ErasedAhead = 8
effect_number (effect.Killed count) = 9
effect_number effect.Dropped = 10

-- the entry that an effect gives
abbrev pub entry_given : Effect → Option Entry
entry_given (effect.Gives e) = Some e
entry_given _ = None

-- an entry whose text has become zeros
abbrev pub wiped_entry : Option Entry → Option Entry
wiped_entry (Some (entry.Text text)) = Some (entry.Text (replicate (length text) 0))
wiped_entry e = e

-- the bytes of an entry that is a text
abbrev pub text_of : Option Entry → List ℕ
text_of (Some (entry.Text text)) = text
text_of _ = []
