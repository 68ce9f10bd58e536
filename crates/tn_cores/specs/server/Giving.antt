-- The entries that went to the foreground job.
use Rattle.std.specs.Prelude.{◌≡◌, ◌≤◌, Option, Some, None, List, [], ◌∷◌, ◌++◌, length}
use Rattle.tn_discipline.specs.declared.reads.Entry.{Entry}
use Rattle.tn_server.specs.{Events.History, Lines.{entries, taken_count, waiting}}

-- the entries among what was put
abbrev pub entries_put : List (Option Entry) → List Entry
entries_put [] = []
entries_put (None ∷ puts) = entries_put puts
entries_put (Some entry ∷ puts) = entry ∷ entries_put puts

-- the entries that were put are the history's, up to those that wait
pub record Gives (puts : List (Option Entry)) (h : History) : Type 0 where
  pub all : entries_put puts ++ waiting h ≡ entries h
  pub taken : taken_count h ≤ length (entries h)

-- the entries that were put are a prefix of the history's
abbrev pub GivesPrefix : List (Option Entry) → History → Type 0
GivesPrefix puts h = (rest : List Entry) × (entries_put puts ++ rest ≡ entries h)
