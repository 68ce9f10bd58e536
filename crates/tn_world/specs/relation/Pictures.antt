-- The server as the relation between both ends sees it, and what stays as it was at a mark.
use Rattle.std.specs.Prelude.{◌≡◌, ◌⊎◌, ℕ, Bool, IsTrue, Some, List}
use Rattle.tn_discipline.specs.{declared.{reads.Entry.Entry, termios.Flags.Flags}, Canon.Canon}
use Rattle.tn_discipline.specs.declared.termios.Settings.{Settings}
use Rattle.tn_codes.specs.OptionCodes as option_code
use Rattle.tn_linemode.specs.Modes.{edits}
use Rattle.tn_option.specs.{Options.{agrees_to, state_of}, declared.q_method.Side.TheVariants.{Us, Them}}
use Rattle.tn_option.specs.declared.q_method.QState.{QState, TheVariants.{WantYesEmpty, WantYesOpposite}}
use Rattle.tn_option.specs.declared.q_method.QState.TheVariants.{No, Yes, WantNoEmpty, WantNoOpposite}
use Rattle.tn_server.specs.Calls as server
use Rattle.tn_server.specs.Terms as server_terms
use Rattle.tn_server.specs.declared.wishes.Editing.TheVariants.{Local}
use Rattle.tn_client.specs.Calls as client

-- A server as far as lines go: whether LINEMODE is on, whether it takes bytes as edited, its half-typed line,
-- and the entries that wait.
pub record Server : Type 0 where
  pub linemode : Bool
  pub edit : Bool
  pub half : List ℕ
  pub waiting : List Entry

-- the part of a server end that concerns lines
abbrev pub server_core : server.End → Server
server_core end =
    record {
      linemode = server_terms.linemode end.terms.options;
      edit = edits end.modes.current;
      half = end.terminal.line.held;
      waiting = end.terminal.entries;
    }

-- LINEMODE is off, on or asked for, and never on its way off
abbrev pub NeverEnds : QState → Type 0
NeverEnds No = Unit {0}
NeverEnds Yes = Unit {0}
NeverEnds WantYesEmpty = Unit {0}
NeverEnds WantNoEmpty = ⊥
NeverEnds WantNoOpposite = ⊥
NeverEnds WantYesOpposite = ⊥

-- the client never asks for it
abbrev pub IsOffOrOn : QState → Type 0
IsOffOrOn No = Unit {0}
IsOffOrOn Yes = Unit {0}
IsOffOrOn WantYesEmpty = ⊥
IsOffOrOn WantNoEmpty = ⊥
IsOffOrOn WantNoOpposite = ⊥
IsOffOrOn WantYesOpposite = ⊥

-- a request that these flags allow
abbrev pub IsAllowed : Flags → ℕ → Type 0
IsAllowed f wish = (wish ≡ 0) ⊎ (server_terms.mask_for f Local ≡ Some wish)

-- every flag but ECHO is as it was
abbrev pub IsFlagged : Canon → Settings → Type 0
IsFlagged canon s = s.flags ≡ record (canon.settings.flags) { echo = s.flags.echo }

-- LINEMODE is agreed to and does not end, and the request in force is allowed; the special characters, of the
-- end and of its terminal, and every flag but ECHO are as they were; nothing of the half-typed line was
-- handed on
pub record ServerStays (canon : Canon) (end : server.End) : Type 0 where
  pub agreed : IsTrue (agrees_to end.terms.options Them option_code.linemode)
  pub linemode : NeverEnds (state_of end.terms.options Them option_code.linemode)
  pub wish : IsAllowed end.terminal.settings.flags end.terms.wish
  pub chars : end.table ≡ canon.settings.chars
  pub own : end.terminal.settings.chars ≡ canon.settings.chars
  pub flags : IsFlagged canon end.terminal.settings
  pub limit : end.terminal.line.limit ≡ canon.limit
  pub ahead : end.terminal.line.ahead ≡ 0

-- LINEMODE is agreed to and does not end, and the special characters are as they were
pub record ClientStays (canon : Canon) (end : client.End) : Type 0 where
  pub agreed : IsTrue (agrees_to end.options Us option_code.linemode)
  pub linemode : IsOffOrOn (state_of end.options Us option_code.linemode)
  pub chars : end.table ≡ canon.settings.chars
  pub limit : end.line.limit ≡ canon.limit
