-- The terminal to which a run leads, and what a call adds to it, for any run.
use Rattle.std.specs.Prelude.{◌≡◌, ℕ, ◌<◌, All, Bool, true, IsTrue, false, IsFalse, Option, List, [], ◌++◌}
use Rattle.tn_discipline.specs.declared.reads.Entry.{Entry}
use Rattle.tn_nvt.specs.{Spelling.spells, declared.items.Item.Item}
use Rattle.tn_nvt.specs.Feeding as nvt
use Rattle.tn_server.specs.{Events.{History, items, gets, opening_settings}, Replies.items_said, Calls.End}
use Rattle.tn_server.specs.declared.faults.ServerFault.{ServerFault}
use Rattle.tn_server.specs.Calls as server
use Rattle.tn_cores.specs.server.{Marks.{Turns, is_whole, put_or_not}, Counting.{after_piece, after_halt}}
use Rattle.tn_cores.specs.{server.Refusing.IsRefusalCause, declared.messages.Message.Message}
use Rattle.tn_cores.specs.server.Run.{Run, Handles, Reads, feed, writes, Cuts, after_said, end_if, puts_of}
use Rattle.tn_cores.specs.declared.server.{messages.{ServerMark.ServerMark, Put.Put}, terminal.Term.Term}
use Rattle.tn_jobs.specs.declared.verdicts.Verdict.{Verdict}

-- the facts that hold while messages have their effect
pub record IsLive (c : Run) (t : Term) : Type 0 where
  pub leads : server.LeadsTo c.history t.end
  pub read : nvt.LeadsTo c.stream (items c.history) t.end.decoder
  pub bytes : All (λ b. b < 256) c.stream
  pub failed : IsFalse t.end.failed
  pub closed : IsFalse t.end.terminal.closed
  pub tostop : t.tostop ≡ (opening_settings c.history).flags.tostop
  pub jobs : t.table ≡ c.jobs

-- the run leads to this terminal
pub record LeadsTo (c : Run) (t : Term) : Type 0 where
  pub live : IsFalse t.progress.over → IsLive c t
  pub progress : t.progress ≡ c.progress

-- The history goes on by this path, from wherever the end may stand,
-- and what was appended spells what it sends more.
pub record FollowsPath (path : History → History) (old : End) (before after : List ℕ)
    (new : End) : Type 0 where
  pub said : List Item
  pub appended : after ≡ before ++ spells said
  pub sends : (h : History) → server.LeadsTo h old → items_said (path h) ≡ items_said h ++ said
  pub leads : (h : History) → server.LeadsTo h old → server.LeadsTo (path h) new
  pub decoder : new.decoder ≡ old.decoder
  pub failed : new.failed ≡ old.failed
  pub closed : new.terminal.closed ≡ old.terminal.closed
  pub items : (h : History) → items (path h) ≡ items h
  pub settings : (h : History) → opening_settings (path h) ≡ opening_settings h

-- The run changes like this, from wherever the terminal may be; what was appended spells what it sends more,
-- and this was put.
pub record AdvancesRun (change : Run → Run) (old : Term) (before after : List ℕ) (put : List (Option Entry))
    (new : Term) : Type 0 where
  pub said : List Item
  pub appended : after ≡ before ++ spells said
  pub leads : (c : Run) → LeadsTo c old → LeadsTo (change c) new
  pub sends : (c : Run) → LeadsTo c old → items_said (change c).history ≡ items_said c.history ++ said
  pub puts : (c : Run) → LeadsTo c old → (change c).puts ≡ c.puts ++ put

-- The run was to change like this, and a call was refused: a prefix of what it sends more was appended.
pub record BreaksOff (change : Run → Run) (old : Term) (before after : List ℕ) (put : List (Option Entry))
    (new : Term) : Type 0 where
  pub part : List ℕ
  pub appended : after ≡ before ++ part
  pub sends : (c : Run) → LeadsTo c old
      → (rest : List ℕ)
      × (spells (items_said (change c).history) ≡ spells (items_said c.history) ++ (part ++ rest))
  pub progress : (c : Run) → LeadsTo c old → new.progress ≡ (change c).progress
  pub puts : (c : Run) → LeadsTo c old → (change c).puts ≡ c.puts ++ put

-- a piece was fed: the items are those that it completes, and the run goes on by them
pub record Feeds (old : Term) (piece before after : List ℕ) (new : Term) : Type 0 where
  pub items : List Item
  pub reads : (c : Run) → LeadsTo c old → Reads c piece items
  pub does : AdvancesRun (feed piece items) old before after [] new

-- a piece was refused: a prefix of what its items make the end send was appended
pub record FeedBreaksOff (old : Term) (piece before after : List ℕ) (new : Term) : Type 0 where
  pub part : List ℕ
  pub appended : after ≡ before ++ part
  pub leads : (c : Run) → LeadsTo c old →
      (xs : List Item) × Reads c piece xs × (rest : List ℕ)
      × (spells (items_said (gets c.history xs)) ≡ spells (items_said c.history) ++ (part ++ rest))
  pub progress : new.progress ≡ after_piece old.progress

-- if it ends all, the terminal has no effect from this message on, and a request that waits is answered by
-- the end
abbrev pub HaltsIf : Bool → Term → List (Option Entry) → Term → Type 0
HaltsIf true old put new =
    (new ≡ record old { progress = after_halt old.progress }) × (put ≡ end_if old.progress.asks)
HaltsIf false old put new = (new ≡ old) × (put ≡ [])

-- A reaction that has this verdict. It takes eight, of which five are those of every relation in this file:
-- the terminal and the output, each before and after, and what is put.
pub record Says (id : ℕ) (text : List ℕ) (v : Option Verdict) (old : Term) (before after : List ℕ)
    (put : Put) (new : Term) : Type 0 where
  pub parts : List (List ℕ)
  pub cuts : Cuts (writes v) text parts
  pub does : AdvancesRun (after_said id parts v) old before after (puts_of put) new

-- a reaction that has this verdict, if a call was refused; it takes the eight of `Says`
pub record SayBreaksOff (id : ℕ) (text : List ℕ) (v : Option Verdict) (old : Term) (before after : List ℕ)
    (put : Put) (new : Term) : Type 0 where
  pub parts : List (List ℕ)
  pub cuts : Cuts (writes v) text parts
  pub breaks : BreaksOff (after_said id parts v) old before after (puts_of put) new

-- a message was done wholly: from any state of the terminal, the message leads to its new state
pub record DoesWhole (old : Term) (message : Message) (before after : List ℕ) (put : Put)
    (new : Term) : Type 0 where
  pub said : List Item
  pub appended : after ≡ before ++ spells said
  pub leads : (c : Run) → LeadsTo c old →
      (next : Run) × Handles c message next × LeadsTo next new
      × (items_said next.history ≡ items_said c.history ++ said)
      × (next.puts ≡ c.puts ++ puts_of put)

-- a call of a message was refused: a prefix of what the whole message sends was appended
pub record StopsWithin (old : Term) (message : Message) (given : Bool) (before after : List ℕ)
    (put : Put) (new : Term) : Type 0 where
  pub part : List ℕ
  pub appended : after ≡ before ++ part
  pub leads : (c : Run) → LeadsTo c old →
      (whole : Run) × Handles c message whole × (rest : List ℕ)
      × (spells (items_said whole.history) ≡ spells (items_said c.history) ++ (part ++ rest))
      × (new.progress ≡ (put_or_not given message c whole).progress)
      × ((put_or_not given message c whole).puts ≡ c.puts ++ puts_of put)

-- the call was refused for its cause, wherever the terminal may have been
abbrev pub RefusesFor : Term → Message → ServerFault → Type 0
RefusesFor old message f = (c : Run) → LeadsTo c old → IsRefusalCause c message f

-- One message with its mark, from wherever the terminal may have been: these bytes were given, the first of
-- those that the run sends, and all of them unless something failed.
pub record IsTurn (mark : ServerMark) (old : Term) (message : Message) (bytes : List ℕ)
    (put last : Put) (new : Term) : Type 0 where
  pub leads : (c : Run) → LeadsTo c old →
      (next : Run) × Turns c (message, mark) next × LeadsTo next new
      × (next.puts ≡ c.puts ++ (puts_of put ++ puts_of last))
      × (rest : List ℕ)
      × (spells (items_said next.history) ≡ spells (items_said c.history) ++ (bytes ++ rest))
      × (IsTrue (is_whole mark) → rest ≡ [])
  pub over : IsFalse (is_whole mark) → IsTrue new.progress.over
  pub stays : IsTrue old.progress.over → IsTrue new.progress.over
  pub idle : IsTrue old.progress.over → (bytes ≡ []) × IsTrue (is_whole mark)
