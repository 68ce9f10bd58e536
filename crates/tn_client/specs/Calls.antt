-- A client end as it is seen from outside, the end that a history leads to, and why a call is refused.
use Rattle.std.specs.Prelude.{◌≡◌, ℕ, Bool, true, false, Option, Some, None, option_map, if◌then◌else◌}
use Rattle.tn_codes.specs.declared.{codes.Func.Func, masks.Mask.Mask}
use Rattle.tn_discipline.specs.{Characters.{Characters, char_fault}, HalfLine.HalfLine}
use Rattle.tn_discipline.specs.Advancing as discipline
use Rattle.tn_nvt.specs.{Feeding.DecoderState, declared.items.Item.Item}
use Rattle.tn_option.specs.Options.{Options}
use Rattle.tn_linemode.specs.Words.{IsList}
use Rattle.tn_client.specs.{Events.History, Terms.{options, mode, forward, chars, size, linemode, payload_at}}
use Rattle.tn_client.specs.Lines.{line_limit, edited_roles, ahead, count_under}
use Rattle.tn_client.specs.declared.faults.ClientFault.{ClientFault}
use Rattle.tn_client.specs.declared.faults.ClientFault.TheVariants as fault

-- a client end, seen from outside
pub record End : Type 0 where
  pub decoder : DecoderState
  pub options : Options
  pub mode : ℕ
  pub forward : Option Mask
  pub table : Characters
  pub line : HalfLine
  -- the length of a half-typed line that the server edits, with ISIG and without
  pub trapped : ℕ
  pub plain : ℕ
  pub width : ℕ
  pub height : ℕ
  pub failed : Bool

-- the history leads to this end
pub record LeadsTo (h : History) (end : End) : Type 0 where
  pub options : end.options ≡ options h
  pub mode : end.mode ≡ mode h
  pub forward : end.forward ≡ forward h
  pub table : end.table ≡ chars h
  pub line : discipline.LeadsTo (edited_roles h) end.line
  pub ahead : end.line.ahead ≡ ahead h
  pub limit : end.line.limit ≡ line_limit h
  pub trapped : end.trapped ≡ count_under true h
  pub plain : end.plain ≡ count_under false h
  pub size : (end.width, end.height) ≡ size h

-- a list of local characters that is not empty is read
abbrev pub ReadsList : Options → Item → Type 0
ReadsList o item = IsList (payload_at o item)

-- why a call is refused whatever memory there is: the end has failed before
abbrev pub call_fault : End → Option ClientFault
call_fault end = if end.failed then Some fault.Failed else None

-- why a proposal is refused
abbrev pub propose_fault : End → Func → Option ℕ → Option ClientFault
propose_fault end func value =
    if end.failed then Some fault.Failed else (
    if linemode end.options then option_map fault.Char (char_fault end.table func value)
    else Some fault.NotOn)

-- a call that is not refused for such a cause is refused only when out of memory
abbrev pub IsFault : Option ClientFault → ClientFault → Type 0
IsFault (Some cause) f = f ≡ cause
IsFault None f = f ≡ fault.Memory
