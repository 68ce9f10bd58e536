-- The next steps that the threads of a server's session may make.
use Rattle.std.specs.Prelude.{◌≡◌, ◌≢◌, ℕ, zero, suc, ◌+◌, ◌-◌, ◌*◌, ◌<◌, ◌≤◌, Bool, true, IsTrue, false}
use Rattle.std.specs.Prelude.{◌||◌, ◌⊎◌}
use Rattle.tn_theorems.specs.progress.Server.{one, End, nothing_comes, reading, holding, handing, net_says, net_tells}
use Rattle.tn_theorems.specs.progress.Server.{net_leaves, net_gone, words, Stop, Cause, stops, none_comes, asking}
use Rattle.tn_theorems.specs.progress.Server.{waiting, answering, desk_says, desk_tells, desk_leaves, desk_gone}
use Rattle.tn_theorems.specs.progress.Server.{back_waits, stepping, back_says, back_tells, back_leaves, back_gone}
use Rattle.tn_theorems.specs.progress.Server.{Term, receiving, writing, joining, ended, Kind, piece, ending, take}
use Rattle.tn_theorems.specs.progress.Server.{said, step, done, refusal, left, Box, State, Sizes, start, HasRoom}
use Rattle.tn_theorems.specs.progress.Server.{waiting_mails, count_of, put, taken, told_of_end, told_of_stop}

-- TERM HANDLES A MESSAGE

-- The effect of a message: a piece completes this number of entries; or a call is refused, before the message
-- has any effect or after all of it.
pub data Choice : Type 0 where
  gives : ℕ → Choice
  refused_first : Choice
  refused_last : Choice

-- the message is a piece
abbrev pub is_piece : Kind → Bool
is_piece piece = true
is_piece _ = false

-- the message says that a thread has left
abbrev pub is_left : Kind → Bool
is_left left = true
is_left _ = false

-- the message is a step of a background job
abbrev pub is_step : Kind → Bool
is_step step = true
is_step _ = false

-- the message is taken, with the credit for one more if a step sent it, and a write follows
abbrev pub received : Kind → State → State
received kind s = record s {
  box = taken kind s.box;
  step_credits = s.step_credits + one (is_step kind);
  term = writing (is_piece kind) false;
  lefts = s.lefts + one (is_left kind);
}

-- all is over: a job that asks gets the end of its entries at once
abbrev pub halted : State → State
halted s = record s { over = true; asks = false; ends = s.ends + one s.asks }

-- a call was refused, and all is over: a job that asks gets the end of its entries after the write
abbrev pub is_writing_piece : Term → Bool
is_writing_piece (writing p l) = p
is_writing_piece _ = false

-- the state after a call was refused
abbrev pub refused : State → State
refused s = record s { over = true; asks = false; term = writing (is_writing_piece s.term) s.asks }

-- this number of entries more is complete: a job that asks gets the first
abbrev pub completed : Bool → ℕ → State → State
completed true (suc more) s = record s { entries = s.entries + 1; asks = false; waits = s.waits + more }
completed asks more s = record s { waits = s.waits + more }

-- the foreground job asks for an entry, if this number wait, and more come or not
abbrev pub asked : ℕ → Bool → State → State
asked (suc waits) at_end s = record s { entries = s.entries + 1; asks = false; waits = waits }
asked zero true s = record s { ends = s.ends + 1; asks = false }
asked zero false s = record s { asks = true }

-- the state after a message had its effect, while anything has one
abbrev pub comes_of : Kind → ℕ → State → State
comes_of piece more s = completed s.asks more s
comes_of ending more s = record s { at_end = true; asks = false; ends = s.ends + one s.asks }
comes_of take more s = asked s.waits s.at_end s
comes_of done more s = halted s
comes_of refusal more s = halted s
comes_of said more s = s
comes_of words more s = s
comes_of step more s = s
comes_of left more s = s

-- the state after the job asks for an entry
abbrev pub asks_anew : Kind → State → State
asks_anew take s = record s { asks = true }
asks_anew _ s = s

-- the state after a message had this effect
abbrev pub chosen : Choice → Kind → State → State
chosen (gives more) kind s = comes_of kind more s
chosen refused_first kind s = refused (asks_anew kind s)
chosen refused_last kind s = refused (comes_of kind 0 s)

-- the effect of a message once nothing has any: a job that asks gets the end of its entries
abbrev pub comes_of_late : Kind → State → State
comes_of_late take s = record s { ends = s.ends + 1 }
comes_of_late _ s = s

-- the state after a message, by whether all is over
abbrev pub handled_by : Bool → Choice → Kind → State → State
handled_by true choice kind s = comes_of_late kind s
handled_by false choice kind s = chosen choice kind s

-- the state after Term handled a message
abbrev pub handled : Choice → Kind → State → State
handled choice kind s = handled_by s.over choice kind (received kind s)

-- AFTER A WRITE

-- a failed write is the end of all, and a job that asks gets the end of its entries
abbrev pub broken : Bool → Bool → State → State
broken true false s = record s { over = true; asks = false; ends = s.ends + one s.asks }
broken failed over s = s

-- a credit that is owed is given, once few enough entries wait or all is over
abbrev pub is_few : ℕ → ℕ → Bool
is_few zero most = true
is_few (suc waits) zero = false
is_few (suc waits) (suc most) = is_few waits most

-- the state after a credit is given, if it is owed and a piece is welcome
abbrev pub paid : Bool → Bool → State → State
paid true true s = record s { credits = s.credits + 1; owed = false }
paid owed welcome s = record s { owed = owed }

-- a write ended, whether it failed or not
abbrev pub written : Sizes → Bool → Bool → Bool → State → State
written sizes failed p last s =
    let t = broken failed s.over (record s { ends = s.ends + one last; term = receiving }) in
    paid (s.owed || p) (is_few s.waits sizes.before_piece || t.over)
    (record t { stop = t.stop || (t.over || t.at_end) })

-- THE STEPS

-- A thread goes on by itself.
pub data Own : Type 0 where
  takes_credit : Own
  hands_piece : Own
  says_words : Own
  tells_end : End → Own
  net_left : End → Own
  asks_entry : Own
  takes_entry : Own
  takes_end : Own
  says_answer : Own
  tells_stop : Stop → Own
  desk_left : Cause → Own
  takes_step_credit : Own
  says_step : Own
  is_stopped : Own
  tells_refusal : Own
  back_left : Own
  handles : Choice → Kind → Own
  writes_nothing : Bool → Bool → Own
  joins : Own
  finishes : Own

-- A thread goes on once something outside lets it: the network brings something or ends, with last words or
-- without, a job returns, the network takes what is written or does not.
pub data Outer : Type 0 where
  brings : Outer
  has_words : Outer
  is_read_out : End → Outer
  answers : Outer
  takes_no_more : Stop → Outer
  steps : Outer
  refuses : Outer
  has_no_job : Outer
  writes : Bool → Bool → Bool → Outer

-- the text that the foreground job sent before it asks is taken before that
abbrev pub waits_behind : Kind → Box → ℕ
waits_behind take box = box.said
waits_behind _ box = 0

-- this step of a thread's own may come
abbrev pub MayGo : Sizes → Own → State → Type 0
MayGo sizes takes_credit s = (s.net ≡ holding) × (0 < s.credits)
MayGo sizes hands_piece s = (s.net ≡ handing) × HasRoom sizes s
MayGo sizes says_words s = (s.net ≡ net_says) × HasRoom sizes s
MayGo sizes (tells_end e) s = (s.net ≡ net_tells e) × HasRoom sizes s
MayGo sizes (net_left e) s = (s.net ≡ net_leaves e) × HasRoom sizes s
MayGo sizes asks_entry s = (s.desk ≡ asking) × HasRoom sizes s
MayGo sizes takes_entry s = (s.desk ≡ waiting) × (0 < s.entries)
MayGo sizes takes_end s = (s.desk ≡ waiting) × (0 < s.ends)
MayGo sizes says_answer s = (s.desk ≡ desk_says) × HasRoom sizes s
MayGo sizes (tells_stop c) s = (s.desk ≡ desk_tells c) × HasRoom sizes s
MayGo sizes (desk_left c) s = (s.desk ≡ desk_leaves c) × HasRoom sizes s
MayGo sizes takes_step_credit s = (s.back ≡ back_waits) × (0 < s.step_credits)
MayGo sizes says_step s = (s.back ≡ back_says) × HasRoom sizes s
MayGo sizes is_stopped s = (s.back ≡ stepping) × IsTrue s.stop
MayGo sizes tells_refusal s = (s.back ≡ back_tells) × HasRoom sizes s
MayGo sizes back_left s = (s.back ≡ back_leaves) × HasRoom sizes s
MayGo sizes (handles choice kind) s = (s.term ≡ receiving) × (s.lefts ≢ 3) × (0 < count_of kind s.box)
    × (waits_behind kind s.box ≡ 0)
MayGo sizes (writes_nothing p last) s = (s.term ≡ writing p last) × IsTrue s.over
MayGo sizes joins s = (s.term ≡ receiving) × (s.lefts ≡ 3)
MayGo sizes finishes s =
    (s.term ≡ joining) × ((e : End) × (s.net ≡ net_gone e)) × ((c : Cause) × (s.desk ≡ desk_gone c))
    × (s.back ≡ back_gone)

-- the state after this step of a thread's own
abbrev pub gone_on : Sizes → Own → State → State
gone_on sizes takes_credit s = record s { net = handing; credits = s.credits - 1 }
gone_on sizes hands_piece s = record s { net = reading; box = put piece s.box }
gone_on sizes says_words s = record s { net = net_tells nothing_comes; box = put words s.box }
gone_on sizes (tells_end e) s = record s { net = net_leaves e; box = put (told_of_end e) s.box }
gone_on sizes (net_left e) s = record s { net = net_gone e; box = put left s.box }
gone_on sizes asks_entry s = record s { desk = waiting; box = put take s.box }
gone_on sizes takes_entry s = record s { desk = answering; entries = s.entries - 1 }
gone_on sizes takes_end s = record s { desk = desk_leaves none_comes; ends = s.ends - 1 }
gone_on sizes says_answer s = record s { desk = asking; box = put said s.box }
gone_on sizes (tells_stop c) s = record s { desk = desk_leaves (stops c); box = put (told_of_stop c) s.box }
gone_on sizes (desk_left c) s = record s { desk = desk_gone c; box = put left s.box }
gone_on sizes takes_step_credit s = record s { back = stepping; step_credits = s.step_credits - 1 }
gone_on sizes says_step s = record s { back = back_waits; box = put step s.box }
gone_on sizes is_stopped s = record s { back = back_leaves }
gone_on sizes tells_refusal s = record s { back = back_leaves; box = put refusal s.box }
gone_on sizes back_left s = record s { back = back_gone; box = put left s.box }
gone_on sizes (handles choice kind) s = handled choice kind s
gone_on sizes (writes_nothing p last) s = written sizes false p last s
gone_on sizes joins s = record s { term = joining }
gone_on sizes finishes s = record s { term = ended }

-- this event from outside may come
abbrev pub MayBeLet : Outer → State → Type 0
MayBeLet brings s = s.net ≡ reading
MayBeLet has_words s = s.net ≡ reading
MayBeLet (is_read_out e) s = s.net ≡ reading
MayBeLet answers s = s.desk ≡ answering
MayBeLet (takes_no_more c) s = s.desk ≡ answering
MayBeLet steps s = s.back ≡ stepping
MayBeLet refuses s = s.back ≡ stepping
MayBeLet has_no_job s = s.back ≡ stepping
MayBeLet (writes failed p last) s = s.term ≡ writing p last

-- the state after this event from outside
abbrev pub let_on : Sizes → Outer → State → State
let_on sizes brings s = record s { net = holding }
let_on sizes has_words s = record s { net = net_says }
let_on sizes (is_read_out e) s = record s { net = net_tells e }
let_on sizes answers s = record s { desk = desk_says }
let_on sizes (takes_no_more c) s = record s { desk = desk_tells c }
let_on sizes steps s = record s { back = back_says }
let_on sizes refuses s = record s { back = back_tells }
let_on sizes has_no_job s = record s { back = back_leaves }
let_on sizes (writes failed p last) s = written sizes failed p last s

-- one step
abbrev pub Goes : Sizes → State → State → Type 0
Goes sizes s t = (own : Own) × MayGo sizes own s × (t ≡ gone_on sizes own s)

-- an event from outside comes
abbrev pub IsLet : Sizes → State → State → Type 0
IsLet sizes s t = (outer : Outer) × MayBeLet outer s × (t ≡ let_on sizes outer s)

-- the states to which steps lead
pub data Reached (sizes : Sizes) : State → Type 0 where
  at_start : (s : State) → s ≡ start sizes → Reached sizes s
  goes_on : (s t : State) → Reached sizes s → Goes sizes s t → Reached sizes t
  let_go : (s t : State) → Reached sizes s → IsLet sizes s t → Reached sizes t

-- WHAT HOLDS OF THEM

-- the event for which a state waits: the network that is read, the foreground job, or a write
pub data WaitsFor (s : State) : Type 0 where
  for_network : s.net ≡ reading → WaitsFor s
  for_job : s.desk ≡ answering → WaitsFor s
  for_write : (p last : Bool) → s.term ≡ writing p last → WaitsFor s

-- In each state that is reached and is not the end a thread goes on by itself, or one of these is waited for,
-- and goes on once it is let. A job in the background is never waited for.
abbrev pub NeverGetsStuck : Type 0
NeverGetsStuck =
    (sizes : Sizes) (s : State) → 0 < sizes.mails → 0 < sizes.ahead → Reached sizes s → s.term ≢ ended
    → ((t : State) × Goes sizes s t) ⊎ (WaitsFor s × ((t : State) × IsLet sizes s t))

-- No put of an entry, and no credit, ever waits: a place is free in either channel, however small it is.
abbrev pub PutsNeverWait : Type 0
PutsNeverWait = (sizes : Sizes) (s : State) → Reached sizes s → (s.entries + s.ends ≤ 1) × (s.credits ≤ 1)

-- However fast the jobs in the background are, at most this number of messages wait for Term. So no more than
-- that pass a key that comes; and if the mailbox has more places, no thread ever waits for one.
abbrev pub FewMailsWait : Type 0
FewMailsWait = (sizes : Sizes) (s : State) → Reached sizes s → waiting_mails s.box ≤ sizes.ahead + 7

-- this number of steps, each a thread's own, leads to the last state
pub data Alone (sizes : Sizes) : ℕ → State → State → Type 0 where
  no_step : (s t : State) → s ≡ t → Alone sizes 0 s t
  one_more : (n : ℕ) (s t u : State) → Goes sizes s t → Alone sizes n t u → Alone sizes (n + 1) s u

-- If nothing outside happens, the threads come to rest, after at most this number of steps.
abbrev pub ComesToRest : Type 0
ComesToRest =
    (sizes : Sizes) (n : ℕ) (s t : State) → Reached sizes s → Alone sizes n s t → n ≤ 47 + 4 * sizes.mails
