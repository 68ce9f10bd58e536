-- The threads of a client's session over a connection, as a system of steps, as in `Server`: the threads that
-- read the network and the keys, the core, and the one that sends what the core puts into the queue of
-- writes. `tools/progress/client.pml` is the same for Spin.
use Rattle.std.specs.Prelude.{ℕ, ◌+◌, ◌-◌, ◌<◌, Bool, false}
use Rattle.tn_theorems.specs.progress.Server.{End, nothing_comes, no_memory}

-- Net reads the network, and hands each piece to the core.
pub data Net : Type 0 where
  reading : Net
  net_hands : Net
  net_tells : End → Net
  net_leaves : Net
  net_gone : Net

-- Keys waits until little is to be sent, then for the user, hands the keys to the core, and looks whether it
-- was asked to stop.
pub data Keys : Type 0 where
  held : Keys
  typing : Keys
  keys_hands : Keys
  looking : Keys
  keys_tells : End → Keys
  keys_leaves : Keys
  keys_gone : Keys

-- The core receives a message and handles it; it puts what goes to the network into the queue, and shows the
-- rest. Once no more is to be sent it puts the end there.
pub data Core : Type 0 where
  receiving : Core
  putting : Core
  showing : Core
  closing : Core
  joining : Core
  ended : Core

-- Sending takes a write from the queue, and sends it. If that failed because the user has left or the screen
-- is gone, it discards what still comes.
pub data Sending : Type 0 where
  taking : Sending
  sends : Sending
  discards : Sending
  sent_all : Sending

-- A message to the core: keys, or a size; a piece of the network; that nothing more comes from the network,
-- or of the keys; that there was no memory; that a thread has left.
pub data Kind : Type 0 where
  keys : Kind
  piece : Kind
  ending : Kind
  keys_ending : Kind
  refusal : Kind
  net_left : Kind
  keys_left : Kind

-- the number of messages of each kind that wait for the core
pub record Box : Type 0 where
  pub keys : ℕ
  pub pieces : ℕ
  pub endings : ℕ
  pub keys_endings : ℕ
  pub refusals : ℕ
  pub net_left : ℕ
  pub keys_left : ℕ

-- the state of a client's session
pub record State : Type 0 where
  pub net : Net
  pub typist : Keys
  pub core : Core
  pub sending : Sending
  pub box : Box
  -- the content of the queue: writes, and the end after them
  pub writes : ℕ
  pub ends : ℕ
  -- the end was put
  pub is_put : Bool
  -- nothing more comes from the network, or nothing has any effect any more: the thread of the keys sees it
  pub closed : Bool
  pub at_end : Bool
  -- nothing has any effect any more
  pub over : Bool
  -- the keys have ended
  pub no_keys : Bool
  -- Keys was asked to stop
  pub stop : Bool
  -- the number of threads that have sent that they left
  pub lefts : ℕ

-- The number of messages that the mailbox holds, of writes that the queue holds, and the number of unsent
-- ones beyond which no more keys are read; and whether what comes from the network may have to be answered.
pub record Sizes : Type 0 where
  pub mails : ℕ
  pub queue : ℕ
  pub mark : ℕ
  pub answers : Bool

-- no message waits in the mailbox
abbrev pub none_waits : Box
none_waits = record {
  keys = 0;
  pieces = 0;
  endings = 0;
  keys_endings = 0;
  refusals = 0;
  net_left = 0;
  keys_left = 0;
}

-- the first state
abbrev pub start : State
start = record {
  net = reading;
  typist = held;
  core = receiving;
  sending = taking;
  box = none_waits;
  writes = 0;
  ends = 0;
  is_put = false;
  closed = false;
  at_end = false;
  over = false;
  no_keys = false;
  stop = false;
  lefts = 0;
}

-- the number of messages in the mailbox
abbrev pub waiting_mails : Box → ℕ
waiting_mails box = box.keys + box.pieces + box.endings + box.keys_endings + box.refusals + box.net_left
    + box.keys_left

-- the mailbox has room for one more message
abbrev pub HasRoom : Sizes → State → Type 0
HasRoom sizes s = waiting_mails s.box < sizes.mails

-- there is room in the queue for one more
abbrev pub HasPlace : Sizes → State → Type 0
HasPlace sizes s = s.writes + s.ends < sizes.queue

-- the number of messages of this kind in the mailbox
abbrev pub count_of : Kind → Box → ℕ
count_of keys box = box.keys
count_of piece box = box.pieces
count_of ending box = box.endings
count_of keys_ending box = box.keys_endings
count_of refusal box = box.refusals
count_of net_left box = box.net_left
count_of keys_left box = box.keys_left

-- the mailbox with one more message of this kind
abbrev pub put : Kind → Box → Box
put keys box = record box { keys = box.keys + 1 }
put piece box = record box { pieces = box.pieces + 1 }
put ending box = record box { endings = box.endings + 1 }
put keys_ending box = record box { keys_endings = box.keys_endings + 1 }
put refusal box = record box { refusals = box.refusals + 1 }
put net_left box = record box { net_left = box.net_left + 1 }
put keys_left box = record box { keys_left = box.keys_left + 1 }

-- the mailbox with one message of this kind less
abbrev pub taken : Kind → Box → Box
taken keys box = record box { keys = box.keys - 1 }
taken piece box = record box { pieces = box.pieces - 1 }
taken ending box = record box { endings = box.endings - 1 }
taken keys_ending box = record box { keys_endings = box.keys_endings - 1 }
taken refusal box = record box { refusals = box.refusals - 1 }
taken net_left box = record box { net_left = box.net_left - 1 }
taken keys_left box = record box { keys_left = box.keys_left - 1 }

-- the message to the core about why the network ended
abbrev pub told_of_end : End → Kind
told_of_end nothing_comes = ending
told_of_end no_memory = refusal

-- the message to the core about why the keys ended
abbrev pub told_of_keys : End → Kind
told_of_keys nothing_comes = keys_ending
told_of_keys no_memory = refusal

-- a write is being sent
abbrev pub busy : Sending → ℕ
busy sends = 1
busy _ = 0

-- the number of writes that are not sent yet
abbrev pub unsent : State → ℕ
unsent s = s.writes + busy s.sending
