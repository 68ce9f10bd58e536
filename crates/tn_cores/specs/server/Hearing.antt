-- The bytes that the messages bring from the network, and runs that a hang-up ends.
use Rattle.std.specs.Prelude.{◌≡◌, ◌≢◌, ℕ, Bool, true, IsFalse, Option, Some, None, List, [], ◌∷◌, ◌++◌, map}
use Rattle.std.specs.Prelude.{flat_map}
use Rattle.tn_discipline.specs.{Canon.Canon, declared.reads.Entry.Entry}
use Rattle.tn_jobs.specs.declared.verdicts.After.TheVariants.{Done}
use Rattle.tn_nvt.specs.declared.items.Item.{Item}
use Rattle.tn_server.specs.{Events.{items, gets}, Lines.entries, declared.openings.Approach.Approach}
use Rattle.tn_linemode.specs.Prefixes.{IsRead}
use Rattle.tn_cores.specs.{server.Run.{Run, opening}, Pieces.bytes_in, declared.messages.Message.Message}
use Rattle.tn_cores.specs.declared.messages.Message.TheVariants.{Piece, HangUp, ReadFailed, Said, Refused}

-- the pieces joined
abbrev pub heard : List Message → List ℕ
heard messages = flat_map bytes_in messages

-- whether input has ended once this message came
abbrev pub at_end_after : Bool → Message → Bool
at_end_after at_end HangUp = true
at_end_after at_end ReadFailed = true
at_end_after at_end _ = at_end

-- once input has ended no piece comes
abbrev pub MayCome : Bool → Message → Type 0
MayCome at_end (Piece piece) = IsFalse at_end
MayCome at_end _ = Unit {0}

-- these messages may come one after another
abbrev pub MayAllCome : Bool → List Message → Type 0
MayAllCome at_end [] = Unit {0}
MayAllCome at_end (m ∷ messages) = MayCome at_end m × MayAllCome (at_end_after at_end m) messages

-- nothing failed, and the job of this number is not done
abbrev pub KeepsOn : ℕ → Message → Type 0
KeepsOn id (Said job text after) = after ≡ Done → job.0 ≢ id
KeepsOn id ReadFailed = ⊥
KeepsOn id Refused = ⊥
KeepsOn id _ = Unit {0}

-- none of these messages ends the job of this number, or is a fault
abbrev pub AllKeepOn : ℕ → List Message → Type 0
AllKeepOn id [] = Unit {0}
AllKeepOn id (m ∷ messages) = KeepsOn id m × AllKeepOn id messages

-- the entries of a terminal that these items come to, whatever else is done there
abbrev pub entries_by : Canon → Approach → List Item → List Entry
entries_by canon approach xs = entries (gets (opening canon approach) xs)

-- The stream is the first bytes of the pieces, and all of them while messages have their effect; its items
-- are read by the definitions of the stream, and the entries are theirs.
pub record Hears (canon : Canon) (approach : Approach) (messages : List Message) (c : Run) : Type 0 where
  pub unheard : List ℕ
  pub stream_first : heard messages ≡ c.stream ++ unheard
  pub all : IsFalse c.progress.over → unheard ≡ []
  pub read : IsRead c.stream (items c.history)
  pub entries_are : entries c.history ≡ entries_by canon approach (items c.history)

-- the entries that are put before the first end are these
abbrev pub AllBeforeEnd : List (Option Entry) → List Entry → Type 0
AllBeforeEnd puts all =
    (given : List Entry) (more : List (Option Entry)) → puts ≡ map (λ e. Some e) given ++ None ∷ more
    → given ≡ all

-- If a hang-up ended the run: nothing failed, the job of this number was not done, all pieces were read, and
-- all entries were put before an end was.
pub record HangsUp (id : ℕ) (messages : List Message) (c : Run) : Type 0 where
  pub kept_on : AllKeepOn id messages
  pub all_heard : c.stream ≡ heard messages
  pub all_put : AllBeforeEnd c.puts (entries c.history)
