-- The threads of a server's session as a system of steps: the place of each, what the channels between them
-- hold, and what each may do next. A step is one access to what they share. `tools/progress/server.pml` is
-- this system for Spin; a comment above each loop of `tn_session` names its thread: Net, Desk, Back, Term.
--
-- Of a channel only numbers are known in this model, so that what waits in it may be taken in any order, but
-- for one thing: the foreground job's request is taken after the text that it sent before.
use Rattle.std.specs.Prelude.{ℕ, ◌+◌, ◌-◌, ◌<◌, Bool, true, false}

-- 1 for something that is there, and 0 if it is not
abbrev pub one : Bool → ℕ
one true = 1
one false = 0

-- Why the network is read no more: nothing more comes, or there is no memory for it.
pub data End : Type 0 where
  nothing_comes : End
  no_memory : End

-- Net reads the network. A piece is held until there is a credit for it, and then handed to Term. Before it
-- sends that nothing more comes it may send last words.
pub data Net : Type 0 where
  reading : Net
  holding : Net
  handing : Net
  net_says : Net
  net_tells : End → Net
  net_leaves : End → Net
  net_gone : End → Net

-- Why the foreground job takes no more entries: it is done, or a call of it was refused; or no entry comes
-- any more.
pub data Stop : Type 0 where
  is_done : Stop
  is_refused : Stop

-- why the foreground job's thread leaves
pub data Cause : Type 0 where
  stops : Stop → Cause
  none_comes : Cause

-- Desk runs the foreground job: it asks for an entry, waits for it, and sends the job's answer.
pub data Desk : Type 0 where
  asking : Desk
  waiting : Desk
  answering : Desk
  desk_says : Desk
  desk_tells : Stop → Desk
  desk_leaves : Cause → Desk
  desk_gone : Cause → Desk

-- Back runs the jobs in the background, a step of each in turn. For each it takes a credit, which Term gives
-- back as it takes the step's text: so only as many of these wait for Term as there are credits.
pub data Back : Type 0 where
  back_waits : Back
  stepping : Back
  back_says : Back
  back_tells : Back
  back_leaves : Back
  back_gone : Back

-- Term has the terminal: it receives a message, handles it, and writes. Of a write it is kept whether the
-- message was a piece, for which a credit is due then, and whether the foreground job gets the end of its
-- entries after it.
pub data Term : Type 0 where
  receiving : Term
  writing : Bool → Bool → Term
  joining : Term
  ended : Term

-- A message to Term: a piece; last words of the network; that it ended; that the foreground job takes an
-- entry; that job's text; the text of a step of a job in the background; that the foreground job is done;
-- that a call was refused; that a thread has left.
pub data Kind : Type 0 where
  piece : Kind
  words : Kind
  ending : Kind
  take : Kind
  said : Kind
  step : Kind
  done : Kind
  refusal : Kind
  left : Kind

-- the number of messages of each kind that wait for Term
pub record Box : Type 0 where
  pub pieces : ℕ
  pub words : ℕ
  pub endings : ℕ
  pub takes : ℕ
  pub said : ℕ
  pub steps : ℕ
  pub done : ℕ
  pub refusals : ℕ
  pub left : ℕ

-- the state of a server's session
pub record State : Type 0 where
  pub net : Net
  pub desk : Desk
  pub back : Back
  pub term : Term
  pub box : Box
  -- the content of the channel to the foreground job: entries, and ends of the entries
  pub entries : ℕ
  pub ends : ℕ
  -- the content of the channel to Net
  pub credits : ℕ
  -- the content of the channel to Back
  pub step_credits : ℕ
  -- a credit is owed to Net, until few enough entries wait
  pub owed : Bool
  -- the foreground job asks for an entry
  pub asks : Bool
  -- nothing more comes from the network
  pub at_end : Bool
  -- nothing has any effect any more
  pub over : Bool
  -- Back was asked to stop
  pub stop : Bool
  -- the number of entries that wait for the foreground job
  pub waits : ℕ
  -- the number of threads that have sent that they left
  pub lefts : ℕ

-- the number of messages that a mailbox holds, the number of steps that Back may be ahead of Term, and the
-- most entries that may wait before one more piece is welcome
pub record Sizes : Type 0 where
  pub mails : ℕ
  pub ahead : ℕ
  pub before_piece : ℕ

-- no message waits in the mailbox
abbrev pub none_waits : Box
none_waits =
    record {
      pieces = 0;
      words = 0;
      endings = 0;
      takes = 0;
      said = 0;
      steps = 0;
      done = 0;
      refusals = 0;
      left = 0;
    }

-- the first state: Term has written its opening messages, and gives the first credit and those for steps
abbrev pub start : Sizes → State
start sizes = record {
  net = reading;
  desk = asking;
  back = back_waits;
  term = receiving;
  box = none_waits;
  entries = 0;
  ends = 0;
  credits = 1;
  step_credits = sizes.ahead;
  owed = false;
  asks = false;
  at_end = false;
  over = false;
  stop = false;
  waits = 0;
  lefts = 0;
}

-- the number of messages in the mailbox
abbrev pub waiting_mails : Box → ℕ
waiting_mails box =
    box.pieces + box.words + box.endings + box.takes + box.said + box.steps + box.done + box.refusals
    + box.left

-- there is room for one more message
abbrev pub HasRoom : Sizes → State → Type 0
HasRoom sizes s = waiting_mails s.box < sizes.mails

-- the number of messages of a kind that wait
abbrev pub count_of : Kind → Box → ℕ
count_of piece box = box.pieces
count_of words box = box.words
count_of ending box = box.endings
count_of take box = box.takes
count_of said box = box.said
count_of step box = box.steps
count_of done box = box.done
count_of refusal box = box.refusals
count_of left box = box.left

-- the mailbox with one more message of this kind
abbrev pub put : Kind → Box → Box
put piece box = record box { pieces = box.pieces + 1 }
put words box = record box { words = box.words + 1 }
put ending box = record box { endings = box.endings + 1 }
put take box = record box { takes = box.takes + 1 }
put said box = record box { said = box.said + 1 }
put step box = record box { steps = box.steps + 1 }
put done box = record box { done = box.done + 1 }
put refusal box = record box { refusals = box.refusals + 1 }
put left box = record box { left = box.left + 1 }

-- with one less
abbrev pub taken : Kind → Box → Box
taken piece box = record box { pieces = box.pieces - 1 }
taken words box = record box { words = box.words - 1 }
taken ending box = record box { endings = box.endings - 1 }
taken take box = record box { takes = box.takes - 1 }
taken said box = record box { said = box.said - 1 }
taken step box = record box { steps = box.steps - 1 }
taken done box = record box { done = box.done - 1 }
taken refusal box = record box { refusals = box.refusals - 1 }
taken left box = record box { left = box.left - 1 }

-- the message to Term about why the network ended, and why the job did
abbrev pub told_of_end : End → Kind
told_of_end nothing_comes = ending
told_of_end no_memory = refusal

-- the message to Term about why the job ended
abbrev pub told_of_stop : Stop → Kind
told_of_stop is_done = done
told_of_stop is_refused = refusal
