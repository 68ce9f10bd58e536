-- The bytes that a client end shows on its screen.
use Rattle.std.specs.Prelude.{ℕ, Bool, true, false, ◌||◌, ◌==◌, Option, Some, None, List, [], ◌∷◌, ◌++◌}
use Rattle.std.specs.{Prelude.if◌then◌else◌, List.flat_map}
use Rattle.tn_discipline.specs.{Echo.echo_at, HalfLine.{HalfLine, effect_of}, declared.keys.Role.Role}
use Rattle.tn_discipline.specs.declared.{echo.Symbol.Symbol, termios.Settings.Settings}
use Rattle.tn_discipline.specs.declared.echo.Symbol.TheVariants as symbol
use Rattle.tn_linemode.specs.Modes.{edits}
use Rattle.tn_nvt.specs.{declared.items.Item.{Item, TheVariants.{Byte, Newline}}, Spelling.lf}
use Rattle.tn_client.specs.Events.{Event, typed, got, resized, proposed, sent, History, begun, next, entered}
use Rattle.tn_client.specs.{Terms.{options, mode, chars, is_echoed}, Lines.{key_settings, role_at, line}}

-- CR LF, as which the screen shows a new line
abbrev pub new_line : List ℕ
new_line = 13 ∷ 10 ∷ []

-- the bytes that show a symbol
abbrev pub symbol_shown : Symbol → List ℕ
symbol_shown (symbol.Byte byte) = byte ∷ []
symbol_shown symbol.Newline = new_line

-- the bytes that show a symbol, if there is one
abbrev pub on_screen : Option Symbol → List ℕ
on_screen None = []
on_screen (Some s) = symbol_shown s

-- the echo of a key without EDIT: both bytes that end a line are a new line
abbrev pub echoed_raw : ℕ → List ℕ
echoed_raw key = if key == 10 || key == 13 then new_line else (key ∷ [])

-- the echo of a key with EDIT, as a terminal's
abbrev pub echoed_edited : Settings → Role → HalfLine → List ℕ
echoed_edited s r l = flat_map on_screen (echo_at s.flags r (effect_of l r))

-- the client echoes a key unless the server echoes
abbrev pub passed_shown : Bool → ℕ → List ℕ
passed_shown true key = []
passed_shown false key = echoed_raw key

-- the echo of a key that the client edits, unless the server echoes
abbrev pub edited_shown : Bool → Settings → Role → HalfLine → List ℕ
edited_shown true s r l = []
edited_shown false s r l = echoed_edited s r l

-- the echo of a key, by whether the server echoes and whether the client edits
abbrev pub key_shown : Bool → Bool → Settings → Role → HalfLine → ℕ → List ℕ
key_shown echo true s r l key = edited_shown echo s r l
key_shown echo false s r l key = passed_shown echo key

-- the bytes that the server wrote, of an item
abbrev pub item_shown : Item → List ℕ
item_shown (Byte byte) = byte ∷ []
item_shown Newline = new_line
item_shown _ = []

-- the bytes that an event shows
abbrev pub shows : History → Event → List ℕ
shows h (typed key) =
    let terminal = key_settings (mode h) (chars h) in
    key_shown (is_echoed (options h)) (edits (mode h)) terminal (role_at h key) (line h) key
shows h entered =
    let terminal = key_settings (mode h) (chars h) in
    key_shown (is_echoed (options h)) (edits (mode h)) terminal (role_at h lf) (line h) lf
shows h (got item) = item_shown item
shows h (resized width height) = []
shows h (proposed func value) = []
shows h (sent command) = []

-- all bytes that were shown
abbrev pub text_shown : History → List ℕ
text_shown (begun width height limit) = []
text_shown (next h e) = text_shown h ++ shows h e
