-- Keys that are typed while the editing keys change within a line. The settings that gave a key its role may
-- change as well, so that they are not named in this file.
use Rattle.std.specs.Prelude.{List, [], ◌∷◌, ◌++◌}
use Rattle.tn_discipline.specs.{Canon.Canon, declared.{keys.Role.Role, reads.Entry.Entry}}
use Rattle.tn_editor.specs.{EditKeys.Terminal, Edited.{Editing, edited_next, edited_gain}, Expanding.{times, played_times}}
use Rattle.tn_editor.specs.declared.edit_keys.{EditKeys.EditKeys, EditRole.EditRole}

-- a key of this role, typed while these editing keys were set
pub record Typed : Type 0 where
  pub keys : EditKeys
  pub role : EditRole

module _ (canon : Canon) where
  -- the terminal with these editing keys
  abbrev pub under : EditKeys → Terminal
  under keys = record { canon = canon; keys = keys }

  -- the state that typed keys leave
  abbrev pub typed_all : Editing → List Typed → Editing
  typed_all e [] = e
  typed_all e (key ∷ more) = typed_all (edited_next (under key.keys) e key.role) more

  -- the entries that typed keys give
  abbrev pub typed_gains : Editing → List Typed → List Entry
  typed_gains e [] = []
  typed_gains e (key ∷ more) = edited_gain e key.role ++ typed_gains (edited_next (under key.keys) e key.role) more

  -- the roles at the plain terminal of what typed keys become
  abbrev pub expanded_roles : Editing → List Typed → List Role
  expanded_roles e [] = []
  expanded_roles e (key ∷ more) =
      let t = under key.keys in
      played_times key.role (times t e key.role) ++ expanded_roles (edited_next t e key.role) more
