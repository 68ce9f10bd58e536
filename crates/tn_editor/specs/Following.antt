-- The state of an editor, for every half-typed line that it may hold.
use Rattle.std.specs.Prelude.{◌≡◌, ℕ, replicate}
use Rattle.tn_editor.specs.{EditKeys.{Terminal, edit_role_of_key}, Edited.{Editing, edited_next}, Expanding.expanded_key}
use Rattle.tn_editor.specs.{EditedLines.as_held, declared.editor.{Editor.Editor, Presses.Presses}}

-- the editor of this terminal holds what was typed
pub record Holds (t : Terminal) (e : Editing) (editor : Editor) : Type 0 where
  pub settings : editor.roles ≡ t.canon.settings
  pub keys : editor.keys ≡ t.keys
  pub line : editor.line ≡ as_held t.canon.limit e
  pub refused : editor.refused ≡ e.refused

-- at every terminal, and after all that may have been typed there, the new editor holds what this key leaves
abbrev pub GoesOn : Editor → ℕ → Editor → Type 0
GoesOn old key new =
    (t : Terminal) (e : Editing) → Holds t e old → Holds t (edited_next t e (edit_role_of_key t key)) new

-- at every terminal, and after all that may have been typed there, these presses are what this key becomes
abbrev pub Becomes : Editor → ℕ → Presses → Type 0
Becomes old key presses =
    (t : Terminal) (e : Editing) → Holds t e old → replicate presses.count presses.key ≡ expanded_key t e key
