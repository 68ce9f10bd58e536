-- The effects and the output of a world's script.
use Rattle.std.specs.Prelude.{◌≡◌, ◌≢◌, ◌⊎◌, ℕ, ◌+◌, ◌≤◌, Option, Some, None, option_to_list, List, [], ◌∷◌}
use Rattle.std.specs.{Prelude.{◌++◌, map, length, codes}, Io.KnownBytes.Appends}
use Rattle.hex.specs.Hex.{encode_lower}
use Rattle.tn_discipline.specs.declared.reads.Entry.{Entry}
use Rattle.tn_server.specs.declared.openings.Opening.TheVariants.{Keys}
use Rattle.tn_world.specs.{Headline.{NothingInFlight, IsSettled}, Opened.{IsOpened, with_new_lists}}
use Rattle.tn_world.specs.{Settling.{RunsRounds, RefusesRound}, Worlds.{World, Runs}}
use Rattle.tn_world.specs.declared.{events.Event.Event, faults.Cause.Cause}
use Rattle.tn_world.specs.Worlds as world_words
use Rattle.tn_world.specs.declared.events.Event.TheVariants as event
use Rattle.tn_cli.specs.{Printed.printed_entry, Scripts.{command_of, lines_of}, Streams.AppendsPrefix}
use Rattle.tn_cli.specs.{Typing.standard, declared.{fault.CliFault.CliFault, scripts.Command.Command}}
use Rattle.tn_cli.specs.declared.scripts.Command.TheVariants.{Keys, Happen, Settle, Take, Mark, Flight, Shown}
use Rattle.tn_cli.specs.declared.fault.CliFault.TheVariants as fault

-- bytes in lower hexadecimal, or a dash if there are none
abbrev pub printed_bytes : List ℕ → List ℕ
printed_bytes [] = codes "-\n"
printed_bytes (b ∷ bs) = encode_lower (b ∷ bs) ++ codes "\n"

-- the lines of the bytes in flight
abbrev pub printed_flight : World → List ℕ
printed_flight w =
    codes "to-server " ++ printed_bytes w.to_server ++ codes "to-client " ++ printed_bytes w.to_client

-- the line of an entry, if there is one
abbrev pub printed_read : Option Entry → List ℕ
printed_read (Some entry) = printed_entry entry
printed_read None = codes "none\n"

-- one of the events is refused
abbrev pub RefusesEvents : World → List Event → Type 0
RefusesEvents w events =
    (at : ℕ) × (cause : Cause) × (new : World) × world_words.StopsWithin w events at cause new

-- Rounds until nothing is in flight, and at most 64.
pub record Settles (old new : World) : Type 0 where
  pub count : ℕ
  pub rounds : RunsRounds count old new
  pub most : count ≤ 64
  pub ended : NothingInFlight new ⊎ (count ≡ 64)

-- A delivery of a round after fewer than 64 is refused.
pub record RefusesToSettle (old : World) : Type 0 where
  pub count : ℕ
  pub mid : World
  pub rounds : RunsRounds count old mid
  pub less : count + 1 ≤ 64
  pub flies : ¬ NothingInFlight mid
  pub place : ℕ
  pub cause : Cause
  pub new : World
  pub refuses : RefusesRound mid place cause new

-- The job asks for an entry: the one that it got, or none, is printed.
pub record TakesOne (old : World) (text : List ℕ) (new : World) : Type 0 where
  pub entry : Option Entry
  pub runs : Runs old (event.Take ∷ []) new
  pub gained : new.taken ≡ old.taken ++ option_to_list entry
  pub printed : text ≡ printed_read entry

-- At rest the lists of typed keys and taken entries are reset.
abbrev pub PrintsMark : World → List ℕ → World → Type 0
PrintsMark old text new =
    (IsSettled old × (text ≡ codes "mark true\n") × (new ≡ with_new_lists old))
    ⊎ ((¬ IsSettled old) × (text ≡ codes "mark false\n") × (new ≡ old))

-- the command is done and prints this text
abbrev pub RunsCommand : World → Command → List ℕ → World → Type 0
RunsCommand old (Keys keys) text new = Runs old (map event.Key keys) new × (text ≡ [])
RunsCommand old (Happen e) text new = Runs old (e ∷ []) new × (text ≡ [])
RunsCommand old Settle text new = Settles old new × (text ≡ [])
RunsCommand old Take text new = TakesOne old text new
RunsCommand old Mark text new = PrintsMark old text new
RunsCommand old Flight text new = (text ≡ printed_flight old) × (new ≡ old)
RunsCommand old Shown text new = (text ≡ codes "shown " ++ printed_bytes old.shown) × (new ≡ old)

-- an effect of this kind, from one world to another, appended its text
abbrev pub Prints : (List ℕ → World → Type 0) → List ℕ → List ℕ → World → Type 0
Prints does before after new = (text : List ℕ) × does text new × (after ≡ before ++ text)

-- an event of the command is refused
abbrev pub RefusesCommand : World → Command → Type 0
RefusesCommand w (Keys keys) = RefusesEvents w (map event.Key keys)
RefusesCommand w (Happen e) = RefusesEvents w (e ∷ [])
RefusesCommand w Settle = RefusesToSettle w
RefusesCommand w Take = RefusesEvents w (event.Take ∷ [])
RefusesCommand w Mark = ⊥
RefusesCommand w Flight = ⊥
RefusesCommand w Shown = ⊥

-- a line is done: an empty one is skipped
abbrev pub RunsLine : World → List ℕ → List ℕ → World → Type 0
RunsLine old [] text new = (text ≡ []) × (new ≡ old)
RunsLine old (b ∷ bs) text new =
    (command : Command) × (command_of (b ∷ bs) ≡ Some command) × RunsCommand old command text new

-- a line that is not empty, and no command
abbrev pub IsBad : List ℕ → Type 0
IsBad line = (line ≢ []) × (command_of line ≡ None)

-- an event of the line's command is refused
abbrev pub RefusesLine : World → List ℕ → Type 0
RefusesLine w line =
    (line ≢ []) × (command : Command) × (command_of line ≡ Some command) × RefusesCommand w command

-- lines are done, one after another
abbrev pub RunsLines : World → List (List ℕ) → List ℕ → World → Type 0
RunsLines old [] text new = (text ≡ []) × (new ≡ old)
RunsLines old (line ∷ lines) text new =
    (mid : World) × (head : List ℕ) × (rest : List ℕ)
    × RunsLine old line head mid × RunsLines mid lines rest new × (text ≡ head ++ rest)

-- These lines were done in a world that was opened with standard settings, lines of the standard limit and a
-- window of 80 by 24, and printed this text.
pub record LeadsTo (lines : List (List ℕ)) (text : List ℕ) (new : World) : Type 0 where
  pub start : World
  pub opened : IsOpened Keys standard 80 24 start
  pub plays : RunsLines start lines text new

-- all of these lines were done and printed this text
abbrev pub PrintsWhole : List (List ℕ) → List ℕ → Type 0
PrintsWhole lines text = (new : World) × LeadsTo lines text new

-- A script stops at the line of this number, counted from 1: those before it were done and printed this text.
pub record StopsWithin (lines : List (List ℕ)) (number : ℕ) (text : List ℕ) : Type 0 where
  pub done : List (List ℕ)
  pub line : List ℕ
  pub left : List (List ℕ)
  pub whole : lines ≡ done ++ line ∷ left
  pub place : number ≡ length done + 1
  pub world : World
  pub played : LeadsTo done text world

-- the line at which the script stops is no command
abbrev pub StopsAtBadLine : List (List ℕ) → ℕ → List ℕ → Type 0
StopsAtBadLine lines number text = (stop : StopsWithin lines number text) × IsBad stop.line

-- an event of that line's command is refused
abbrev pub StopsAtRefusedLine : List (List ℕ) → ℕ → List ℕ → Type 0
StopsAtRefusedLine lines number text =
    (stop : StopsWithin lines number text) × RefusesLine stop.world stop.line

-- the end of a script, and what it had printed
abbrev pub EndsWith : List (List ℕ) → Option CliFault → List ℕ → Type 0
EndsWith lines None text = PrintsWhole lines text
EndsWith lines (Some (fault.Script number)) text = StopsAtBadLine lines number text
EndsWith lines (Some (fault.World number)) text = StopsAtRefusedLine lines number text
EndsWith lines (Some f) text = ⊥

-- the output of a script, whole, or the part before the line at which it stops
abbrev pub PrintsSome : List (List ℕ) → List ℕ → Type 0
PrintsSome lines text = (end : Option CliFault) × EndsWith lines end text

-- such a text was appended
abbrev pub AppendsPrint : (List ℕ → Type 0) → List ℕ → List ℕ → Type 0
AppendsPrint is old new = (text : List ℕ) × is text × (new ≡ old ++ text)

-- such a text was appended, if the writer's content is known
abbrev pub AppendsText : (List ℕ → Type 0) → Option (List ℕ) → Option (List ℕ) → Type 0
AppendsText is old new = (text : List ℕ) × is text × Appends old new text

-- a prefix of such a text was appended
abbrev pub AppendsPrefixOfText : (List ℕ → Type 0) → Option (List ℕ) → Option (List ℕ) → Type 0
AppendsPrefixOfText is old new = (text : List ℕ) × is text × AppendsPrefix old new text

-- the output of a whole script was appended
abbrev pub PlaysScript : List ℕ → Option (List ℕ) → Option (List ℕ) → Type 0
PlaysScript script = AppendsText (PrintsWhole (lines_of script))

-- a prefix of that output was appended: of the whole, or of the part before the line at which the script stops
abbrev pub PlaysScriptPrefix : List ℕ → Option (List ℕ) → Option (List ℕ) → Type 0
PlaysScriptPrefix script = AppendsPrefixOfText (PrintsSome (lines_of script))
