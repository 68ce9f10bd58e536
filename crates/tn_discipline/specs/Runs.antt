-- Keys, one after another.
use Rattle.std.specs.Prelude.{ℕ, List, [], ◌∷◌, ◌++◌, map}
use Rattle.tn_discipline.specs.{HalfLine.{HalfLine, effect_of, line_after, effect_entries}, Keys.role_of_key}
use Rattle.tn_discipline.specs.declared.{reads.Entry.Entry, keys.Role.{Role, TheVariants.Ordinary}}
use Rattle.tn_discipline.specs.declared.termios.Settings.{Settings}

-- the line after keys of these roles
abbrev pub line_after_all : HalfLine → List Role → HalfLine
line_after_all line [] = line
line_after_all line (r ∷ roles) = line_after_all (line_after line r) roles

-- the entries that keys of these roles give, from this line on
abbrev pub gains_from : HalfLine → List Role → List Entry
gains_from line [] = []
gains_from line (r ∷ roles) = effect_entries (effect_of line r) ++ gains_from (line_after line r) roles

-- the role of each typed byte; Ignored if it is dropped
abbrev pub each_role : Settings → List ℕ → List Role
each_role settings keys = map (role_of_key settings) keys

-- the roles of bytes that join the line as they are
abbrev pub ordinary_roles : List ℕ → List Role
ordinary_roles bytes = map (λ byte. Ordinary byte) bytes
