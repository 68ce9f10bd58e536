-- Lines that go to a plain terminal once they end: the roles of the keys that go there.
use Rattle.std.specs.Prelude.{ℕ, List, [], ◌∷◌, ◌++◌, map}
use Rattle.tn_discipline.specs.{Canon.Canon, declared.keys.Role.Role}
use Rattle.tn_discipline.specs.declared.keys.Role.TheVariants as role
use Rattle.tn_editor.specs.{Changing.{Typed, under}, Edited.{Editing, line_bytes, edited_next}}
use Rattle.tn_editor.specs.declared.edit_keys.EditRole.{EditRole, TheVariants.{Plain}}

-- the bytes of a line, each of them an ordinary key
abbrev pub ordinary : List ℕ → List Role
ordinary bytes = map role.Ordinary bytes

-- the keys that go when a key of this role is typed: the line and the key that closes it, or a signal
abbrev pub goes_with : Editing → EditRole → List Role
goes_with e (Plain role.Nl) = ordinary (line_bytes e) ++ role.Nl ∷ []
goes_with e (Plain (role.Eol byte)) = ordinary (line_bytes e) ++ role.Eol byte ∷ []
goes_with e (Plain (role.Eol2 byte)) = ordinary (line_bytes e) ++ role.Eol2 byte ∷ []
goes_with e (Plain role.Eof) = ordinary (line_bytes e) ++ role.Eof ∷ []
goes_with e (Plain (role.Signal sig)) = role.Signal sig ∷ []
goes_with e _ = []

-- all that go
abbrev pub whole_lines : Canon → Editing → List Typed → List Role
whole_lines canon e [] = []
whole_lines canon e (key ∷ more) =
    goes_with e key.role ++ whole_lines canon (edited_next (under canon key.keys) e key.role) more
