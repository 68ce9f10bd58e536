-- The messages of the desk: it asks, and answers each entry that it gets.
use Rattle.std.specs.Prelude.{◌≡◌, List, Option, Some, None, [], ◌∷◌, ◌++◌, ◌⊎◌, map, flat_map}
use Rattle.std.specs.List.{FoldsTo}
use Rattle.tn_discipline.specs.declared.reads.Entry.{Entry}
use Rattle.tn_jobs.specs.declared.{reactions.Reaction.Reaction, held_jobs.JobId.JobId}
use Rattle.tn_jobs.specs.declared.verdicts.After.TheVariants.{Done}
use Rattle.tn_cores.specs.declared.messages.Message.{Message, TheVariants.{Take, Said, Refused, Left}}
use Rattle.tn_cores.specs.queue.Queue.{taker}
use Rattle.tn_session.specs.declared.workers.{mail.Sender.TheVariants.Desk, channels.View.View}
use Rattle.tn_session.specs.workers.{Acts.JobActs, EntryChannel.EntryHand, Mailbox.{mail, sender}}

-- an entry, and what the job answered
abbrev pub turn_said : JobId → Entry × Reaction → List Message
turn_said id t = Take ∷ Said id t.1.text t.1.after ∷ []

-- the messages of the foreground job for these entries and answers
abbrev pub turns_said : JobId → List (Entry × Reaction) → List Message
turns_said id turns = flat_map (turn_said id) turns

-- the job goes from one state to another by these turns
abbrev pub Answers : {J : Type 0} → (J → Entry → Reaction → J → Type 0) → J → List (Entry × Reaction) → J
    → Type 0
Answers reacts s turns t = FoldsTo (λ a x b. reacts a x.0 x.1 b) s turns t

-- the entries that were answered
abbrev pub entries_of : List (Entry × Reaction) → List (Option Entry)
entries_of turns = map (λ t. Some t.0) turns

-- the last answer ends the job
abbrev pub ends_done : List (Entry × Reaction) → Type 0
ends_done [] = ⊥
ends_done (t ∷ []) = t.1.after ≡ Done
ends_done (t ∷ u ∷ us) = ends_done (u ∷ us)

-- the view of the desk that has sent these messages
abbrev pub desk_sends : List Message → View
desk_sends messages = sender Desk (map (mail Desk) messages)

-- the end of the talk: the end came, the job was done, or memory ran out for it at an entry
abbrev pub Closes : JobId → (Entry → Type 0) → List (Entry × Reaction) → View → EntryHand → Type 0
Closes id refuses turns v w =
    ((v ≡ desk_sends (turns_said id turns ++ Take ∷ Left ∷ [])) × (w ≡ taker (entries_of turns ++ None ∷ [])))
    ⊎ ((v ≡ desk_sends (turns_said id turns ++ Left ∷ [])) × (w ≡ taker (entries_of turns)) × ends_done turns)
    ⊎ ((e : Entry) × (v ≡ desk_sends (turns_said id turns ++ Take ∷ Refused ∷ Left ∷ []))
    × (w ≡ taker (entries_of turns ++ Some e ∷ [])) × refuses e)

-- the job itself
abbrev pub IsJob : {J : Type 0} → J → J → Type 0
IsJob job other = other ≡ job

-- the job's thread asked before each thing that it took, and answered each entry from the job's state, which
-- began so
abbrev pub IsTalk : {J : Type 0} → JobId → (J → Type 0) → JobActs J → View → EntryHand → Type 0
IsTalk {J} id began acts v w =
    (turns : List (Entry × Reaction)) × (first : J) × (last : J)
    × began first × Answers acts.reacts first turns last
    × Closes id (λ e. acts.refuses last (Some e)) turns v w
