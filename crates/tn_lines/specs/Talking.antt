-- A talk with a service: what was read, what was sent to it and what was shown, for every order in which keys and bytes
-- come.
use Rattle.std.specs.{Prelude.{◌≡◌, ℕ, Bool, Option, List, [], ◌++◌}, Io.KnownBytes.{Consumes, Appends}}
use Rattle.tn_lines.specs.{Edges.{HasShown, ShowsOn, at_screen}, Logs.bytes_in, Said.{LeadsTo, Reads, said_of}}
use Rattle.tn_lines.specs.Openings.{Listens, Rises, negotiates, opening_of, warnings_if}
use Rattle.tn_lines.specs.declared.{line_ends.LineEnd.LineEnd, talk.Talk.Talk}

-- the known facts of the four streams: what the keys and the service still give, what was sent to the
-- service, and what is shown; and how often the user was warned of a service that speaks Telnet
pub record Streams : Type 0 where
  pub keys : Option (List ℕ)
  pub service : Option (List ℕ)
  pub told : Option (List ℕ)
  pub screen : Option (List ℕ)
  pub warned : Option ℕ

-- the known facts of a talk's streams
abbrev pub streams : Option (List ℕ) → Option (List ℕ) → Option (List ℕ) → Option (List ℕ) → Option ℕ
    → Streams
streams keys service told screen warned =
    record { keys = keys; service = service; told = told; screen = screen; warned = warned }

-- These keys and these bytes were read. The bytes to be sent for the lines of the keys were sent, but for
-- those that wait, and the bytes that came are shown. The user was warned once if those show that the service
-- speaks Telnet, and else not.
pub record Talked (line_end : LineEnd) (at_terminal : Bool) (typed heard waiting : List ℕ)
    (first last : Streams) : Type 0 where
  pub told : List ℕ
  pub keys : Consumes first.keys last.keys typed
  pub service : Consumes first.service last.service heard
  pub tells : Appends first.told last.told told
  pub shows : Appends first.screen last.screen (at_screen at_terminal heard)
  pub lines : told ++ waiting ≡ said_of line_end typed
  pub warns : Rises first.warned last.warned (warnings_if (negotiates heard))

-- the talk is at the state to which these keys and bytes lead
pub record LeadsBy (keys came : List ℕ) (line_end : LineEnd) (at_terminal : Bool) (first last : Streams)
    (talk : Talk) : Type 0
  where
    pub talked : Talked line_end at_terminal keys came talk.waiting first last
    pub typed : LeadsTo keys talk.lines
    pub line_end_is : talk.lines.line_end ≡ line_end
    pub shown : HasShown came talk.edge
    pub terminal : talk.edge.at_terminal ≡ at_terminal
    pub opening : talk.opening ≡ opening_of came

-- the talk is at the state to which the keys and the bytes that its logs name lead
abbrev pub Leads : LineEnd → Bool → Streams → Streams → Talk → Type 0
Leads line_end at_terminal first last talk =
    LeadsBy (bytes_in talk.typed) (bytes_in talk.heard) line_end at_terminal first last talk

-- whatever state the old talk had come to, the new one goes on from there
abbrev pub GoesOn : Streams → Talk → Streams → Talk → Type 0
GoesOn old talk new next =
    (line_end : LineEnd) (at_terminal : Bool) (first : Streams)
    → Leads line_end at_terminal first old talk → Leads line_end at_terminal first new next

-- these keys were taken while nothing waited: the bytes to be sent for them wait
pub record TypesKeys (piece : List ℕ) (old new : Talk) : Type 0 where
  pub takes : Reads old.lines piece new.waiting new.lines
  pub edge : new.edge ≡ old.edge
  pub typed : bytes_in new.typed ≡ bytes_in old.typed ++ piece
  pub heard : bytes_in new.heard ≡ bytes_in old.heard
  pub opening : new.opening ≡ old.opening

-- these bytes of the service are shown
pub record ShowsBytes (piece : List ℕ) (seen : Option (List ℕ)) (told : Option ℕ) (old : Talk)
    (shown : Option (List ℕ))
    (tells : Option ℕ) (new : Talk) : Type 0 where
  pub bytes : List ℕ
  pub takes : ShowsOn old.edge piece bytes new.edge
  pub shows : Appends seen shown bytes
  pub lines : new.lines ≡ old.lines
  pub waiting : new.waiting ≡ old.waiting
  pub typed : bytes_in new.typed ≡ bytes_in old.typed
  pub heard : bytes_in new.heard ≡ bytes_in old.heard ++ piece
  pub listens : Listens piece old.opening told new.opening tells

-- The talk has begun: nothing was read, sent or shown.
pub record Begins (line_end : LineEnd) (at_terminal : Bool) (talk : Talk) : Type 0 where
  pub lines : LeadsTo [] talk.lines
  pub line_end_is : talk.lines.line_end ≡ line_end
  pub edge : HasShown [] talk.edge
  pub terminal : talk.edge.at_terminal ≡ at_terminal
  pub waiting : talk.waiting ≡ []
  pub typed : bytes_in talk.typed ≡ []
  pub heard : bytes_in talk.heard ≡ []
  pub opening : talk.opening ≡ opening_of []
