-- The job's text.
use Rattle.std.specs.Prelude.{◌≡◌, ℕ, Option, Some, None, List, ◌++◌, codes}
use Rattle.tn_discipline.specs.declared.reads.Entry.{Entry, TheVariants.{Text, Eof, Signal}}
use Rattle.tn_jobs.specs.declared.{reactions.Reaction.Reaction, verdicts.After.After}
use Rattle.tn_jobs.specs.declared.verdicts.After.TheVariants.{Done, Hide, Show}

-- a reaction with this text
abbrev pub says : List ℕ → After → Reaction
says words after = record { text = words; after = after }

-- the reaction that ends the session
abbrev pub bye : Reaction
bye = says (codes "bye\n") Done

-- after a name its password is asked for, which is not echoed, and then the name is greeted; at a signal the
-- user reads the size of the window, which no clause knows; the end of the file ends the job
abbrev pub Answers : Entry → Option (List ℕ) → Reaction → Type 0
Answers (Text name) None reaction = reaction ≡ says (codes "password: ") Hide
Answers (Text password) (Some name) reaction = reaction ≡ says (codes "\nhello, " ++ name) Show
Answers (Signal sig) name reaction = reaction.after ≡ Show
Answers Eof name reaction = reaction ≡ bye

-- the name whose password is asked for, after this entry
abbrev pub asked : Entry → Option (List ℕ) → Option (List ℕ)
asked (Text name) None = Some name
asked (Text password) (Some name) = None
asked (Signal sig) name = None
asked Eof name = None
