-- The end of a run of a subcommand: its outcome, its input, its output, and the calls that failed.
use Rattle.std.specs.Prelude.{◌≡◌, ◌≢◌, ⊤, ℕ, ◌<◌, ◌≤◌, List, length, Option, IfSome, Result, Err, IfOk, OnOk}
use Rattle.std.specs.Prelude.{OnErr, IfErr, IsErrOf}
use Rattle.tn_cli.specs.{Decode.{Decodes, DecodesRead, DecodesSome}, declared.unprinted.Unprinted.Unprinted}
use Rattle.tn_cli.specs.Playing.{AppendsText, PlaysScript, PlaysScriptPrefix, StopsAtBadLine}
use Rattle.tn_cli.specs.{Playing.StopsAtRefusedLine, Streams.{max_input, max_pieces, max_reads, max_writes}}
use Rattle.tn_cli.specs.{Replay.{Replays, ReplaysPrefix}, Scripts.lines_of, Unprinted.LeavesUnprinted}
use Rattle.tn_cli.specs.{Typing.{PrintsKeys, PrintsKeysPrefix}, declared.fault.CliFault.CliFault}
use Rattle.tn_cli.specs.declared.fault.CliFault.TheVariants as fault
use Rattle.tn_cores.specs.streams.Telling.{Calls, HasFailed, SomeFailed}

-- The promise of every run, if the bytes that its reader will give are known. `Prints` relates such an input
-- and the output before and after a run that ends well, and `PrintsPrefix` does if a write fails. Too long an
-- input gives `TooLong`, unless a read fails: no other fault comes before it.
pub record EndsRun (Prints PrintsPrefix : List ℕ → Option (List ℕ) → Option (List ℕ) → Type 0)
    (ended : Result ⊤ CliFault) (input old new : Option (List ℕ)) : Type 0 where
  pub ok : OnOk ended (IfSome input (λ bytes. Prints bytes old new))
  pub write : IsErrOf ended fault.Write → IfSome input (λ bytes. PrintsPrefix bytes old new)
  pub short : ended ≢ Err fault.TooLong → ended ≢ Err fault.Read
      → IfSome input (λ bytes. length bytes ≤ max_input)
  pub too_long : IsErrOf ended fault.TooLong → IfSome input (λ bytes. max_input < length bytes)

-- The promise of every run, if the numbers of failed calls of its reader and its writer are known. `Read`: a
-- read failed, or 2,097,152 were made. `Write`: a write failed, or took none of its bytes, or 2^64 - 1 were
-- made.
pub record EndsByCalls (ended : Result ⊤ CliFault) (reads reads_after writes writes_after : Option Calls)
    : Type 0 where
  pub read_failed : IsErrOf ended fault.Read → HasFailed max_reads reads reads_after
  pub write_failed : IsErrOf ended fault.Write → HasFailed max_writes writes writes_after

-- The promise for keys and for a stream: no line of them is at fault, and after any fault but `Write` nothing
-- was written.
pub record EndsPlainly (Prints PrintsPrefix : List ℕ → Option (List ℕ) → Option (List ℕ) → Type 0)
    (ended : Result ⊤ CliFault) (input old new : Option (List ℕ)) : Type 0 where
  pub run : EndsRun Prints PrintsPrefix ended input old new
  pub unwritten : OnErr ended (ended ≢ Err fault.Write → new ≡ old)
  pub no_script : (line : ℕ) → ended ≢ Err (fault.Script line)
  pub no_world : (line : ℕ) → ended ≢ Err (fault.World line)

-- the end of typing keys at one local terminal
abbrev pub EndsLocal : Result ⊤ CliFault → Option (List ℕ) → Option (List ℕ) → Option (List ℕ) → Type 0
EndsLocal = EndsPlainly PrintsKeys PrintsKeysPrefix

-- the end of replaying a client's stream
abbrev pub EndsReplay : Result ⊤ CliFault → Option (List ℕ) → Option (List ℕ) → Option (List ℕ) → Type 0
EndsReplay = EndsPlainly Replays ReplaysPrefix

-- the faults by which decoding a stream can fail
abbrev pub IsDecodeFault : CliFault → Type 0
IsDecodeFault fault.Read = Unit {0}
IsDecodeFault fault.Write = Unit {0}
IsDecodeFault fault.Memory = Unit {0}
IsDecodeFault fault.TooLong = ⊥
IsDecodeFault (fault.Script line) = ⊥
IsDecodeFault (fault.World line) = ⊥

-- The end of decoding a stream, of any length, which is printed as it comes. All of it is printed, or after a
-- read that failed, all that was read; after a write that failed, or out of memory, a beginning.
pub record EndsDecode (ended : Result Unprinted CliFault)
    (input rest old new : Option (List ℕ)) : Type 0 where
  pub ok : OnOk ended (IfSome input (λ stream. Decodes stream old new))
  pub left : IfOk ended (λ unprinted. IfSome input (λ stream. LeavesUnprinted stream unprinted))
  pub read : IsErrOf ended fault.Read → DecodesRead input rest old new
  pub some : OnErr ended (DecodesSome input rest old new)
  pub fault : IfErr ended IsDecodeFault

-- `Read`: a read failed, or 2^64 - 1 were made. `Write`: some write failed, or took none of its bytes, or
-- 2^64 - 1 were made.
pub record EndsDecodeByCalls (ended : Result Unprinted CliFault)
    (reads reads_after writes writes_after : Option Calls)
    : Type 0 where
  pub read_failed : IsErrOf ended fault.Read → HasFailed max_pieces reads reads_after
  pub write_failed : IsErrOf ended fault.Write → SomeFailed max_writes writes writes_after

-- The end of a script. If a line of it is no command, or is refused, the lines before it were done, and what
-- they print was written.
pub record EndsWorld (ended : Result ⊤ CliFault) (input old new : Option (List ℕ)) : Type 0 where
  pub run : EndsRun PlaysScript PlaysScriptPrefix ended input old new
  pub script : (line : ℕ) → IsErrOf ended (fault.Script line)
      → IfSome input (λ text. AppendsText (StopsAtBadLine (lines_of text) line) old new)
  pub world : (line : ℕ) → IsErrOf ended (fault.World line)
      → IfSome input (λ text. AppendsText (StopsAtRefusedLine (lines_of text) line) old new)
  pub unwritten : OnErr ended (ended ≢ Err fault.Write → ((line : ℕ) → ended ≢ Err (fault.Script line))
      → ((line : ℕ) → ended ≢ Err (fault.World line)) → new ≡ old)
