-- The terms on which a client end has agreed with its server: options, special characters, the mode of
-- editing and the forward mask.
use Rattle.std.specs.Prelude.{ℕ, Bool, true, false, ◌&&◌, ◌==◌, Option, Some, None, [], ◌∷◌, if◌then◌else◌}
use Rattle.tn_codes.specs.OptionCodes as option_code
use Rattle.tn_codes.specs.declared.{masks.Mask.Mask, payloads.Payload.Payload}
use Rattle.tn_codes.specs.declared.payloads.Payload.TheVariants.{Mode, ForwardOn, ForwardOff, Slc}
use Rattle.tn_discipline.specs.Characters.{Characters, standard_characters}
use Rattle.tn_linemode.specs.{Modes.client_mask_after, Exchange.client_after, Words.{payload_under, differ}}
use Rattle.tn_nvt.specs.declared.items.Item.{Item, TheVariants.{Neg, Sub}}
use Rattle.tn_option.specs.Options.{Options, new_options, options_after_word, state_of, is_yes}
use Rattle.tn_option.specs.declared.{negotiation.Agree.Agree, q_method.Side.TheVariants.{Us, Them}}
use Rattle.tn_client.specs.Events.{got, resized, History, begun, next}

-- the client's own SUPPRESS-GO-AHEAD, NAWS and LINEMODE are agreed to, and the server's ECHO and
-- SUPPRESS-GO-AHEAD
abbrev pub agreement : Agree
agreement =
    record { us = false ∷ true ∷ true ∷ true ∷ []; them = true ∷ true ∷ false ∷ false ∷ [] }

-- LINEMODE is on at the client's side
abbrev pub linemode : Options → Bool
linemode o = is_yes (state_of o Us option_code.linemode)

-- the client sends its window's size (RFC 1073)
abbrev pub tells_size : Options → Bool
tells_size o = is_yes (state_of o Us option_code.naws)

-- the server echoes (RFC 857)
abbrev pub is_echoed : Options → Bool
is_echoed o = is_yes (state_of o Them option_code.echo)

-- the payload of LINEMODE that an item brings, if LINEMODE is on
abbrev pub payload_at : Options → Item → Option Payload
payload_at o (Sub option params) =
    payload_under ((option == option_code.linemode) && linemode o) option params
payload_at o _ = None

-- the options after an item
abbrev pub options_after : Options → Item → Options
options_after o (Neg verb option) = options_after_word o verb option
options_after o _ = o

-- the client sends no message of its own accord
abbrev pub options : History → Options
options (begun width height limit) = new_options agreement
options (next h (got item)) = options_after (options h) item
options (next h _) = options h

-- LINEMODE came on or went off
abbrev pub changes : Options → Options → Bool
changes old new = differ (linemode old) (linemode new)

-- RFC 1184, section 2.2: the client takes a mask that acknowledges nothing
abbrev pub mode_by : ℕ → Option Payload → ℕ
mode_by mode (Some (Mode mask)) = client_mask_after mode mask
mode_by mode _ = mode

-- the mask after an item: LINEMODE begins and ends without one
abbrev pub mode_at : Options → ℕ → Item → ℕ
mode_at o mode (Neg verb option) = if changes o (options_after_word o verb option) then 0 else mode
mode_at o mode (Sub option params) = mode_by mode (payload_at o (Sub option params))
mode_at o mode _ = mode

-- the mask in force after a history
abbrev pub mode : History → ℕ
mode (begun width height limit) = 0
mode (next h (got item)) = mode_at (options h) (mode h) item
mode (next h _) = mode h

-- RFC 1184, section 2.3: the client takes a forward mask, and drops it again
abbrev pub forward_by : Option Mask → Option Payload → Option Mask
forward_by forward (Some (ForwardOn mask)) = Some mask
forward_by forward (Some ForwardOff) = None
forward_by forward _ = forward

-- the forward mask after an item: LINEMODE begins and ends without one
abbrev pub forward_at : Options → Option Mask → Item → Option Mask
forward_at o forward (Neg verb option) =
    if changes o (options_after_word o verb option) then None else forward
forward_at o forward (Sub option params) = forward_by forward (payload_at o (Sub option params))
forward_at o forward _ = forward

-- the forward mask after a history
abbrev pub forward : History → Option Mask
forward (begun width height limit) = None
forward (next h (got item)) = forward_at (options h) (forward h) item
forward (next h _) = forward h

-- the special characters after a list of local characters
abbrev pub chars_by : Characters → Option Payload → Characters
chars_by c (Some (Slc triples)) = client_after c triples
chars_by c _ = c

-- the characters in force: the standard ones, changed by each list of the server
abbrev pub chars : History → Characters
chars (begun width height limit) = standard_characters
chars (next h (got item)) = chars_by (chars h) (payload_at (options h) item)
chars (next h _) = chars h

-- the window's size: its width and its height
abbrev pub size : History → ℕ × ℕ
size (begun width height limit) = (width, height)
size (next h (resized width height)) = (width, height)
size (next h _) = size h
