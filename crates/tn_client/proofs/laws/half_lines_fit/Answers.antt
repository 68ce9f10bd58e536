use Rattle.std.proofs.Common.{◌≤◌, ℕ, Bool, true, false, length, if◌then◌else◌, arith}
use Rattle.tn_discipline.proofs.lemmas.Histories.{half_of-fits}
use Rattle.tn_discipline.specs.{Entries.half_of, Limits.max_counted}
use Rattle.tn_linemode.specs.Modes.{edits}
use Rattle.tn_client.specs.{Lines.{line_limit, edited_roles, roles_under}, Terms.mode}
use Rattle.tn_client.proofs.laws.half_lines_fit.Goals as goal

pub returns-clause-here : goal.returns-clause-here
returns-clause-here c = λ h. half_of-fits (line_limit h) (edited_roles h)

none_or : (edit : Bool) (n most : ℕ) → n ≤ most → (if edit then 0 else n) ≤ most
none_or true n most few = omega arith
none_or false n most few = few

pub returns-clause-there : goal.returns-clause-there
returns-clause-there c = λ isig h.
    none_or (edits (mode h)) (length (half_of (line_limit h) (roles_under isig h))) (max_counted (line_limit h))
    (half_of-fits (line_limit h) (roles_under isig h))
