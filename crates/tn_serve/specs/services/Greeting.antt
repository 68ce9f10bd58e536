-- Jobs whose user is greeted: those of a maker, and one in the background that shows a text.
use Rattle.std.specs.Prelude.{◌≡◌, IsTrue, Option, Some, None, []}
use Rattle.tn_discipline.specs.declared.reads.Entry.{Entry}
use Rattle.tn_jobs.specs.declared.{reactions.Reaction.Reaction, verdicts.After.TheVariants.Done}
use Rattle.tn_serve.specs.{services.Sending.{say, silent}, declared.services.greeting.Greeted.Greeted}
use Rattle.tn_serve.specs.declared.services.greeting.Greeting.{Greeting}
use Rattle.tn_serve.specs.declared.services.greeting.Greeted.TheVariants as who

-- the job has done nothing yet
abbrev pub IsFresh : {J : Type 0} → (J → Type 0) → Greeted J → Type 0
IsFresh fresh (who.Answers job) = fresh job
IsFresh fresh (who.Greets text) = Unit {0}

-- an entry goes to the job in the foreground; the one that greets is never asked
abbrev pub Reacts : {J : Type 0} → (J → Entry → Reaction → J → Type 0) → Greeted J → Entry → Reaction
    → Greeted J → Type 0
Reacts reacts (who.Answers old) entry reaction (who.Answers new) = reacts old entry reaction new
Reacts reacts (who.Answers old) entry reaction (who.Greets text) = ⊥
Reacts reacts (who.Greets text) entry reaction new = (reaction ≡ silent Done) × (new ≡ who.Greets text)

-- the one that greets shows its text, and is done
abbrev pub Steps : {J : Type 0} → (J → Reaction → J → Type 0) → Greeted J → Reaction → Greeted J → Type 0
Steps steps (who.Answers old) reaction (who.Answers new) = steps old reaction new
Steps steps (who.Answers old) reaction (who.Greets text) = ⊥
Steps steps (who.Greets text) reaction new = (reaction ≡ say text Done) × (new ≡ who.Greets [])

-- the one that greets wants no memory
abbrev pub MayRefuse : {J : Type 0} → (J → Option Entry → Type 0) → Greeted J → Option Entry → Type 0
MayRefuse refuses (who.Answers job) entry = refuses job entry
MayRefuse refuses (who.Greets text) entry = ⊥

-- the first job is the maker's own, the next one greets, and those after it are the maker's own again
abbrev pub GivesJob : {M J : Type 0} → (M → J → M → Type 0) → Greeting M → Greeted J → Greeting M → Type 0
GivesJob gives old (who.Answers job) new =
    gives old.maker job new.maker × (IsTrue old.begun → old.text ≡ None) × (new.text ≡ old.text)
    × IsTrue new.begun
GivesJob gives old (who.Greets text) new =
    IsTrue old.begun × (old.text ≡ Some text) × (new.text ≡ None) × (new.maker ≡ old.maker)
    × IsTrue new.begun
