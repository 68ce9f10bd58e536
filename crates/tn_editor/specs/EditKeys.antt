-- The roles of typed keys at a terminal with editing keys.
use Rattle.std.specs.Prelude.{ℕ, Bool, true, false, ◌&&◌, Option, Some, None, List, map, if◌then◌else◌}
use Rattle.tn_discipline.specs.{Characters.is_set_to, Canon.Canon, Keys.{roles_of, role_of_key}}
use Rattle.tn_discipline.specs.declared.{keys.Role.Role, termios.Settings.Settings}
use Rattle.tn_discipline.specs.declared.keys.Role.TheVariants as role
use Rattle.tn_editor.specs.declared.edit_keys.{EditKeys.EditKeys, EditRole.EditRole}
use Rattle.tn_editor.specs.declared.edit_keys.EditRole.TheVariants.{Plain, EraseWord, Reprint}

-- a plain terminal, and the editing keys in front of it
pub record Terminal : Type 0 where
  pub canon : Canon
  pub keys : EditKeys

-- the terminal has this special character
abbrev pub is_present : Option ℕ → Bool
is_present None = false
is_present (Some byte) = true

-- the role of a key that has this role at the plain terminal: only a byte that would join the line can be an
-- editing key, there is no WERASE without ERASE, and no REPRINT unless what is typed is shown (ECHO)
abbrev pub edit_role : Settings → EditKeys → Role → EditRole
edit_role settings keys (role.Ordinary byte) =
    if is_set_to keys.werase byte && is_present settings.chars.erase then EraseWord else
    (if is_set_to keys.rprnt byte && settings.flags.echo then Reprint else Plain (role.Ordinary byte))
edit_role settings keys r = Plain r

-- the role of a typed byte
abbrev pub edit_role_of_key : Terminal → ℕ → EditRole
edit_role_of_key t key = edit_role t.canon.settings t.keys (role_of_key t.canon.settings key)

-- the roles of the typed bytes; a carriage return that is dropped is absent
abbrev pub edit_roles_of : Terminal → List ℕ → List EditRole
edit_roles_of t keys = map (edit_role t.canon.settings t.keys) (roles_of t.canon.settings keys)
