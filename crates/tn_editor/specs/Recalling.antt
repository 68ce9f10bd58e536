-- An earlier line, typed again.
use Rattle.std.specs.Prelude.{◌≡◌, ℕ, List, ◌∷◌}
use Rattle.tn_discipline.specs.declared.keys.Role.TheVariants.{Ordinary}
use Rattle.tn_editor.specs.{EditKeys.{Terminal, edit_role_of_key}, declared.edit_keys.EditRole.TheVariants.Plain}

-- the key joins the line as it is
abbrev pub IsItself : Terminal → ℕ → Type 0
IsItself t key = edit_role_of_key t key ≡ Plain (Ordinary key)

-- the keys that put a line in place of the half-typed line: KILL, and the bytes of the line
abbrev pub recalling : ℕ → List ℕ → List ℕ
recalling kill line = kill ∷ line
