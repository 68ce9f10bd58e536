-- The facts of a server end that its client changes, and the bits for those that differ.
use Rattle.std.specs.Prelude.{◌≡◌, ◌≢◌, ◌⊎◌, ◌↔◌, ℕ, ◌+◌, Bool, true, false, IsTrue, List, [], ◌∷◌}
use Rattle.tn_codes.specs.OptionCodes as option_code
use Rattle.tn_discipline.specs.Characters.{Characters}
use Rattle.tn_option.specs.{Options.{Options, state_of}, declared.q_method.Side.TheVariants.{Us, Them}}
use Rattle.tn_server.specs.{Calls.LeadsTo, Events.{History, breaks}, Screen.size, Terms.{chars, mode, options}}
use Rattle.tn_c.specs.{parts.Readings.{char_number, state_number}, declared.parts.changes.Seen.Seen}
use Rattle.tn_c.specs.declared.parts.server.HeldServer.{HeldServer}

-- the states of the sides of options to which a server end agrees
abbrev pub states_seen : Options → List ℕ
states_seen o =
    state_number (state_of o Us option_code.echo)
    ∷ state_number (state_of o Us option_code.suppress_go_ahead)
    ∷ state_number (state_of o Them option_code.suppress_go_ahead)
    ∷ state_number (state_of o Them option_code.naws)
    ∷ state_number (state_of o Them option_code.linemode)
    ∷ []

-- the special characters, in the numbers of `tn.h`
abbrev pub chars_seen : Characters → List ℕ
chars_seen c =
    char_number c.intr ∷ char_number c.quit ∷ char_number c.eof ∷ char_number c.susp
    ∷ char_number c.erase ∷ char_number c.kill ∷ char_number c.eol ∷ char_number c.eol2 ∷ []

-- the facts that an end has after this history
pub record IsSeen (h : History) (seen : Seen) : Type 0 where
  pub size : (seen.width, seen.height) ≡ size h
  pub mode : seen.mode ≡ mode h
  pub options : seen.options ≡ states_seen (options h)
  pub chars : seen.chars ≡ chars_seen (chars h)
  pub breaks : seen.breaks ≡ breaks h

-- a bit if it is set, or 0
abbrev pub bit : Bool → ℕ → ℕ
bit true value = value
bit false value = 0

-- The bits show all that differs.
pub record TellsChanges (bits : ℕ) (old new : Seen) : Type 0 where
  pub size : Bool
  pub mode : Bool
  pub options : Bool
  pub chars : Bool
  pub breaks : Bool
  pub sum : bits ≡ bit size 1 + bit mode 2 + bit options 4 + bit chars 8 + bit breaks 16
  pub size_is : IsTrue size ↔ ((new.width ≢ old.width) ⊎ (new.height ≢ old.height))
  pub mode_is : IsTrue mode ↔ (new.mode ≢ old.mode)
  pub options_is : IsTrue options ↔ (new.options ≢ old.options)
  pub chars_is : IsTrue chars ↔ (new.chars ≢ old.chars)
  pub breaks_is : IsTrue breaks ↔ (new.breaks ≢ old.breaks)

-- The bits show all that differs from the facts that were seen, and the present facts of the end are seen.
pub record ChangesCall (bits : ℕ) (before after : HeldServer) : Type 0 where
  pub tells : TellsChanges bits before.seen after.seen
  pub seen : (h : History) → LeadsTo h before.end → IsSeen h after.seen
  pub end : after.end ≡ before.end
  pub pending : after.pending.items ≡ before.pending.items
  pub entry : after.entry ≡ before.entry
  pub owned : after.owned ≡ before.owned
