-- A server end as it is seen from outside, the end that a history leads to, and why a call is refused.
use Rattle.std.specs.Prelude.{◌≡◌, ℕ, Bool, List, ◌++◌, length, Option, Some, None, option_map, if◌then◌else◌}
use Rattle.tn_codes.specs.declared.codes.Func.{Func}
use Rattle.tn_discipline.specs.{Characters.{Characters, char_fault}, declared.reads.Entry.Entry}
use Rattle.tn_discipline.specs.Advancing as discipline
use Rattle.tn_linemode.specs.Modes.{Modes}
use Rattle.tn_nvt.specs.Feeding.{DecoderState}
use Rattle.tn_pty.specs.Terminal.{Terminal}
use Rattle.tn_server.specs.{Events.{History, limit, breaks}, Lines.{roles, entries, taken_count}}
use Rattle.tn_server.specs.Terms.{Terms, terms, linemode, asked_mask, mode, settings, chars}
use Rattle.tn_server.specs.{Screen.{queue, due, size}, declared.faults.ServerFault.ServerFault}
use Rattle.tn_server.specs.declared.faults.ServerFault.TheVariants as fault

-- a server end, seen from outside
pub record End : Type 0 where
  pub decoder : DecoderState
  pub terms : Terms
  pub modes : Modes
  pub table : Characters
  pub terminal : Terminal
  pub pulled : Bool
  pub breaks : ℕ
  pub failed : Bool

-- the history leads to this end
pub record LeadsTo (h : History) (end : End) : Type 0 where
  pub settings : end.terminal.settings ≡ settings h
  pub table : end.table ≡ chars h
  pub terms : end.terms ≡ terms h
  pub modes : end.modes ≡ record { asked = asked_mask h; current = mode h }
  pub limit : end.terminal.line.limit ≡ limit h
  pub line : discipline.LeadsTo (roles h) end.terminal.line
  pub ahead : end.terminal.line.ahead ≡ 0
  pub read : List Entry
  pub count : length read ≡ taken_count h
  pub waits : entries h ≡ read ++ end.terminal.entries
  pub queue : end.terminal.queue ≡ queue h
  pub size : (end.terminal.width, end.terminal.height) ≡ size h
  pub due : end.pulled ≡ due h
  pub breaks : end.breaks ≡ breaks h

-- why a call is refused whatever memory there is: the end has failed before
abbrev pub call_fault : End → Option ServerFault
call_fault end = if end.failed then Some fault.Failed else None

-- why a special character is refused: the end has failed, or the terminal cannot have the character
abbrev pub char_fault_at : End → Func → Option ℕ → Option ServerFault
char_fault_at end func value =
    if end.failed then Some fault.Failed else option_map fault.Char (char_fault end.table func value)

-- why a forward mask is refused: the end has failed, or LINEMODE is not on, and the client takes no mask
abbrev pub mask_fault : End → Option ServerFault
mask_fault end =
    if end.failed then Some fault.Failed else (if linemode end.terms.options then None else Some fault.NotOn)
