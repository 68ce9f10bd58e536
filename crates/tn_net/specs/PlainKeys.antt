-- The keys that a user types to a service without Telnet, up to the request to leave.
use Rattle.std.specs.Prelude.{ℕ, Bool, true, false, List, [], ◌∷◌, ◌++◌, if◌then◌else◌}
use Rattle.tn_net.specs.{Typing.{prompt_after, typed_after}, declared.escaping.Escaping.Escaping}
use Rattle.tn_net.specs.declared.escaping.{EscapeCommand.{EscapeCommand, TheVariants.Close}, Typed.Typed}
use Rattle.tn_net.specs.declared.{escaping.Keyboard.Keyboard, prompt.Prompt.Prompt}
use Rattle.tn_net.specs.declared.escaping.Typed.TheVariants as typed

-- the key that a byte is, if it is one; a control function is none, and goes to no service
abbrev pub key_in : Typed → List ℕ
key_in (typed.Key key) = key ∷ []
key_in _ = []

-- the command closes the connection
abbrev pub is_close : EscapeCommand → Bool
is_close (Close next) = true
is_close _ = false

-- the input asks to leave
abbrev pub asks_to_leave : Typed → Bool
asks_to_leave (typed.Command command) = is_close command
asks_to_leave _ = false

-- the keys that bytes are, after this part of a line
unfoldable pub keys_typed : Keyboard → Prompt → List ℕ → List ℕ
keys_typed keyboard prompt [] = []
keys_typed keyboard prompt (byte ∷ bytes) =
    key_in (typed_after keyboard prompt byte) ++ (if asks_to_leave (typed_after keyboard prompt byte) then []
    else keys_typed keyboard (prompt_after keyboard prompt byte) bytes)

-- the keys that are still to come of bytes; none once the user has left
abbrev pub keys_left : Bool → Escaping → List ℕ → List ℕ
keys_left true escaping bytes = []
keys_left false escaping bytes = keys_typed escaping.keyboard escaping.prompt bytes
