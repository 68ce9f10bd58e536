-- The headline. From a settled moment on, and from the opening on if the special characters are the standard
-- ones, every quiet list of events keeps this: the entries that jobs took, followed by those that wait, are a
-- prefix of the entries that the typed keys give at a local terminal. They are all of them once nothing is in
-- flight to the server, if no end has failed, and the half-typed line is the local terminal's, too. Read
-- `Headline` at the end first, and then the definitions that it uses.
use Rattle.std.specs.Prelude.{◌≡◌, ◌⊎◌, ℕ, Bool, true, IsTrue, false, IsFalse, List, [], ◌∷◌, ◌++◌}
use Rattle.tn_codes.specs.OptionCodes as option_code
use Rattle.tn_discipline.specs.{Canon.{Canon, typed_entries, typed_half}, Characters.standard_characters}
use Rattle.tn_discipline.specs.declared.reads.Entry.{Entry}
use Rattle.tn_option.specs.{Options.{Options, state_of}, declared.q_method.{Side.Side, QState.QState}}
use Rattle.tn_option.specs.declared.q_method.Side.TheVariants.{Us, Them}
use Rattle.tn_option.specs.declared.q_method.QState.TheVariants.{No, Yes, WantNoEmpty, WantNoOpposite}
use Rattle.tn_option.specs.declared.q_method.QState.TheVariants.{WantYesEmpty, WantYesOpposite}
use Rattle.tn_nvt.specs.Prefixes.{IsPrefixOf}
use Rattle.tn_world.specs.{Commands.IsTypeable, Opened.IsOpened, Past.HasPast, declared.events.Event.Event}
use Rattle.tn_server.specs.declared.openings.Opening.{Opening}
use Rattle.tn_world.specs.{Worlds.{World, RunsEvent, Refuses, canon_of}, declared.faults.Cause.Cause}
use Rattle.tn_world.specs.declared.events.Event.TheVariants.{Send, SetChar, Propose}

-- A SETTLED MOMENT: the state that `mark` finds.

-- RFC 1143: no request waits after another
abbrev pub is_in_order : QState → Bool
is_in_order WantNoOpposite = false
is_in_order WantYesOpposite = false
is_in_order No = true
is_in_order Yes = true
is_in_order WantNoEmpty = true
is_in_order WantYesEmpty = true

-- no request waits after another at any option
abbrev pub IsSteady : Options → Type 0
IsSteady o = (side : Side) (option : ℕ) → IsTrue (is_in_order (state_of o side option))

-- LINEMODE is on at both ends, or off at both
abbrev pub AgreeOnLinemode : Options → Options → Type 0
AgreeOnLinemode server client =
    ((state_of server Them option_code.linemode ≡ Yes) × (state_of client Us option_code.linemode ≡ Yes))
    ⊎ ((state_of server Them option_code.linemode ≡ No) × (state_of client Us option_code.linemode ≡ No))

-- Nothing is in flight, and neither end has stopped or failed.
pub record IsIdle (w : World) : Type 0 where
  pub to_server : w.to_server ≡ []
  pub to_client : w.to_client ≡ []
  pub server_stopped : IsFalse w.server_stopped
  pub server_failed : IsFalse w.server.failed
  pub client_stopped : IsFalse w.client_stopped
  pub client_failed : IsFalse w.client.failed

-- the mask that was asked for is in force at the server, and at the client
abbrev pub AgreeOnMask : World → Type 0
AgreeOnMask w = (w.server.modes.asked ≡ w.server.modes.current) × (w.server.modes.current ≡ w.client.mode)

-- The ends agree: on LINEMODE, on the mask, which is acknowledged, and on the special characters.
pub record IsAgreed (w : World) : Type 0 where
  pub linemode : AgreeOnLinemode w.server.terms.options w.client.options
  pub mask : AgreeOnMask w
  pub chars : w.server.table ≡ w.client.table
  pub server_steady : IsSteady w.server.terms.options
  pub client_steady : IsSteady w.client.options

-- the client counts no half-typed line that the server edits
abbrev pub IsUncounted : World → Type 0
IsUncounted w = (w.client.trapped ≡ 0) × (w.client.plain ≡ 0)

-- No line is half typed, and no entry waits.
pub record IsEmpty (w : World) : Type 0 where
  pub half : w.server.terminal.line.held ≡ []
  pub held : w.client.line.held ≡ []
  pub ahead : w.client.line.ahead ≡ 0
  pub counts : IsUncounted w
  pub waiting : w.server.terminal.entries ≡ []

-- All is at rest, and both ends agree.
pub record IsSettled (w : World) : Type 0 where
  pub idle : IsIdle w
  pub agreed : IsAgreed w
  pub empty : IsEmpty w

-- A BEGINNING, from which typed keys and taken entries are listed: a settled moment, or the opening.

-- A settled moment. The lists are reset there.
pub record IsMark (canon : Canon) (w : World) : Type 0 where
  pub past : HasPast w
  pub settled : IsSettled w
  pub rules : canon_of w ≡ canon
  pub typed : w.typed ≡ []
  pub taken : w.taken ≡ []

-- The opening of a world whose server has the standard characters, which a client has until the server's
-- table reaches it.
pub record IsOpening (canon : Canon) (w : World) : Type 0 where
  pub standard : canon.settings.chars ≡ standard_characters
  pub width : ℕ
  pub height : ℕ
  pub opening : Opening
  pub opened : IsOpened opening canon width height w

-- a beginning: a mark, or the opening
abbrev pub IsBeginning : Canon → World → Type 0
IsBeginning canon w = IsMark canon w ⊎ IsOpening canon w

-- QUIET LISTS OF EVENTS: no special character is set or proposed, and if BRK or IP is sent, the server's
-- terminal has a key that interrupts. A mode may change in the middle of a line, and so may masks, sizes and
-- ECHO; no event turns LINEMODE off or changes another flag.

-- the event sets and proposes no character, and sends only a command that stands for a key
abbrev pub IsQuietEvent : World → Event → Type 0
IsQuietEvent w (SetChar func value) = ⊥
IsQuietEvent w (Propose func value) = ⊥
IsQuietEvent w (Send command) = IsTypeable command (canon_of w).settings
IsQuietEvent w e = Unit {0}

-- the event is done, and quiet, or it is refused
abbrev pub RunsQuietly : World → Event → World → Type 0
RunsQuietly old e new = (IsQuietEvent old e × RunsEvent old e new)
    ⊎ ((cause : Cause) × Refuses old e cause new)

-- these events, each quiet if it is done, lead from one world to the other
abbrev pub PassesQuietly : World → List Event → World → Type 0
PassesQuietly old [] new = new ≡ old
PassesQuietly old (e ∷ events) new = (mid : World) × RunsQuietly old e mid × PassesQuietly mid events new

-- the list is quiet, as far as its events are done
abbrev pub IsQuiet : World → List Event → Type 0
IsQuiet w [] = Unit {0}
IsQuiet w (e ∷ events) = (mid : World) → RunsEvent w e mid → IsQuietEvent w e × IsQuiet mid events

-- each of these events is quiet in every world, done or not
abbrev pub AreQuietEvents : List Event → Type 0
AreQuietEvents [] = Unit {0}
AreQuietEvents (e ∷ events) = ((w : World) → IsQuietEvent w e) × AreQuietEvents events

-- This world came from a beginning, at which the server had these settings and this limit, by a quiet list of
-- events.
pub record Follows (canon : Canon) (w : World) : Type 0 where
  pub start : World
  pub begins : IsBeginning canon start
  pub events : List Event
  pub passes : PassesQuietly start events w

-- THE THEOREM

-- neither end has failed
abbrev pub NoneFailed : World → Type 0
NoneFailed w = IsFalse w.server.failed × IsFalse w.client.failed

-- nothing is in flight to either end
abbrev pub NothingInFlight : World → Type 0
NothingInFlight w = (w.to_server ≡ []) × (w.to_client ≡ [])

-- the entries that jobs took, and those that wait for them
abbrev pub entries_made : World → List Entry
entries_made w = w.taken ++ w.server.terminal.entries

-- the half-typed line: the bytes that the server has of it, and those that the client holds
abbrev pub half_made : World → List ℕ
half_made w = w.server.terminal.line.held ++ w.client.line.held

-- the entries of these keys at a local terminal, and the half-typed line that they leave
abbrev pub local_entries : Canon → List ℕ → List Entry
local_entries canon typed = typed_entries canon typed

-- the half-typed line that these keys leave at a local terminal
abbrev pub local_half : Canon → List ℕ → List ℕ
local_half canon typed = typed_half canon typed

-- The facts of a world that follows a beginning. The first part holds whichever end failed on the way, out of
-- memory or because too many entries waited; the two others whatever is in flight to the client.
pub record Headline (canon : Canon) (w : World) : Type 0 where
  pub prefix : IsPrefixOf (entries_made w) (local_entries canon w.typed)
  pub complete : NoneFailed w → w.to_server ≡ [] → entries_made w ≡ local_entries canon w.typed
  pub half : NoneFailed w → w.to_server ≡ [] → half_made w ≡ local_half canon w.typed
