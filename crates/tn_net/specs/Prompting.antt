-- The line that a user types to the client itself, after the escape character: how it is edited.
use Rattle.std.specs.Prelude.{ℕ, nat_le, ◌==◌, ◌||◌, ◌&&◌, ◌+◌, ◌-◌, true, false, not, List, [], ◌∷◌, ◌++◌}
use Rattle.std.specs.{Prelude.{length, Option, Some, None, codes, take, if◌then◌else◌}, Str.bytes_eq}
use Rattle.tn_net.specs.{Mapping.mapped, declared.prompt.{Edit.Edit, Prompt.Prompt, Sequence.Sequence}}
use Rattle.tn_net.specs.declared.{own_characters.OwnCharacters.OwnCharacters, returns.ReturnKey.ReturnKey}
use Rattle.tn_net.specs.declared.prompt.Edit.TheVariants.{Enter, Leave, Erase, Kill, Add, Skip, Refuse}
use Rattle.tn_net.specs.declared.returns.ReturnKey.TheVariants.{CrNul, CrLf, Lf}
use Rattle.tn_net.specs.declared.prompt.Sequence.TheVariants as sequence

-- no line is typed, and one begins
abbrev pub closed : Prompt
closed = record { is_open = false; line = []; sequence = sequence.Nothing; returns = None }

-- the state after a line was begun
abbrev pub opened : Prompt → Prompt
opened prompt = record prompt { is_open = true; line = []; sequence = sequence.Nothing }

-- a line has at most 255 bytes
abbrev pub with_added : List ℕ → ℕ → List ℕ
with_added line byte = if nat_le (length line + 1) 255 then line ++ byte ∷ [] else line

-- the line without its last byte
abbrev pub without_last : List ℕ → List ℕ
without_last line = take (length line - 1) line

-- the effect of a standard character: both BS and DEL erase
abbrev pub edit_by : ℕ → Edit
edit_by character =
    if character == 8 || character == 127 then Erase else if character == 21 then Kill
    else if character == 3 then Leave else if nat_le 32 character && nat_le character 126 then Add else Refuse

-- the effect of a byte that is part of no sequence: a line feed ends a line as a return does
abbrev pub plain_edit : OwnCharacters → ℕ → Edit
plain_edit own byte =
    if byte == 10 || byte == 13 then Enter else if byte == 27 then Skip sequence.Escape
    else edit_by (mapped own byte)

-- The effect of a byte. A sequence is ESC, a bracket, signs and digits, and one letter or sign more; or ESC,
-- O and one byte (ECMA-48, 5.4). It is passed over.
abbrev pub edit_of : OwnCharacters → Sequence → ℕ → Edit
edit_of own sequence.Nothing byte = plain_edit own byte
edit_of own sequence.Escape byte =
    if byte == 91 then Skip sequence.Control else if byte == 79 then Skip sequence.Letter else plain_edit own byte
edit_of own sequence.Control byte =
    if nat_le 32 byte && nat_le byte 63 then Skip sequence.Control
    else if nat_le 64 byte && nat_le byte 126 then Skip sequence.Nothing else plain_edit own byte
edit_of own sequence.Letter byte =
    if nat_le 32 byte && nat_le byte 126 then Skip sequence.Nothing else plain_edit own byte

-- the bytes that a line asks RETURN to send, if it asks for that
abbrev pub return_in : List ℕ → Option ReturnKey
return_in line =
    if bytes_eq line (codes "return crnul") then Some CrNul else if bytes_eq line (codes "return crlf") then Some CrLf
    else if bytes_eq line (codes "return lf") then Some Lf else None

-- the last of two requests for what RETURN sends
abbrev pub later : Option ReturnKey → Option ReturnKey → Option ReturnKey
later (Some asked) before = Some asked
later None before = before

-- the bytes that RETURN is to send after a line, which may ask for others
abbrev pub last_return : List ℕ → Option ReturnKey → Option ReturnKey
last_return line before = later (return_in line) before

-- the line after an edit
abbrev pub after_edit : Edit → ℕ → Prompt → Prompt
after_edit Enter byte prompt =
    record prompt { is_open = false; sequence = sequence.Nothing; returns = last_return prompt.line prompt.returns }
after_edit Leave byte prompt = record prompt { is_open = false; sequence = sequence.Nothing }
after_edit Erase byte prompt = record prompt { line = without_last prompt.line; sequence = sequence.Nothing }
after_edit Kill byte prompt = record prompt { line = []; sequence = sequence.Nothing }
after_edit Add byte prompt = record prompt { line = with_added prompt.line byte; sequence = sequence.Nothing }
after_edit (Skip s) byte prompt = record prompt { sequence = s }
after_edit Refuse byte prompt = record prompt { sequence = sequence.Nothing }

-- the line after the escape character, which ends an empty one
abbrev pub after_escape : Prompt → Prompt
after_escape prompt = record prompt { is_open = not (length prompt.line == 0); sequence = sequence.Nothing }
