-- The next steps that the threads of a client's session may make.
use Rattle.std.specs.Prelude.{◌≡◌, ◌≢◌, ℕ, ◌+◌, ◌-◌, ◌*◌, ◌<◌, ◌≤◌, Bool, true, IsTrue, false, IsFalse, ◌||◌}
use Rattle.std.specs.Prelude.{◌⊎◌}
use Rattle.tn_theorems.specs.progress.Server.{one, End, nothing_comes, no_memory}
use Rattle.tn_theorems.specs.progress.Client.{reading, net_hands, net_tells, net_leaves, net_gone, held, typing}
use Rattle.tn_theorems.specs.progress.Client.{keys_hands, looking, keys_tells, keys_leaves, keys_gone, Core, receiving}
use Rattle.tn_theorems.specs.progress.Client.{putting, showing, closing, joining, ended, taking, sends, discards}
use Rattle.tn_theorems.specs.progress.Client.{sent_all, Kind, keys, piece, ending, keys_ending, refusal, net_left}
use Rattle.tn_theorems.specs.progress.Client.{keys_left, State, Sizes, start, HasRoom, HasPlace, count_of, put, taken}
use Rattle.tn_theorems.specs.progress.Client.{told_of_end, told_of_keys, unsent}

-- THE CORE HANDLES A MESSAGE

-- the message says that a thread has left
abbrev pub is_left : Kind → Bool
is_left net_left = true
is_left keys_left = true
is_left _ = false

-- For keys, and for a piece that may have to be answered, there may be something to write; and a call for it
-- may be refused.
abbrev pub MayWrite : Bool → Kind → Type 0
MayWrite answers keys = Unit {0}
MayWrite true piece = Unit {0}
MayWrite false piece = ⊥
MayWrite answers ending = ⊥
MayWrite answers keys_ending = ⊥
MayWrite answers refusal = ⊥
MayWrite answers net_left = ⊥
MayWrite answers keys_left = ⊥

-- the state after a message of this kind had its effect
abbrev pub comes_of : Kind → State → State
comes_of keys s = s
comes_of piece s = s
comes_of ending s = record s { at_end = true }
comes_of keys_ending s = s
comes_of refusal s = record s { over = true }
comes_of net_left s = s
comes_of keys_left s = record s { no_keys = true }

-- a write follows, or what is shown
abbrev pub then_at : Bool → Core
then_at true = putting
then_at false = showing

-- the state after the core handled a message of this kind
abbrev pub handled : Bool → Bool → Kind → State → State
handled writes refused kind s =
    let t = comes_of kind (record s {
      box = taken kind s.box;
      lefts = s.lefts + one (is_left kind);
      core = then_at writes;
    }) in
    record t { over = t.over || refused; closed = t.closed || (t.over || refused) }

-- After what is shown, Keys is asked to stop if nothing has any effect any more or nothing more comes; and
-- the end is put if no more is to be sent.
abbrev pub behind : Bool → Bool → Core
behind true false = closing
behind ends is_put = receiving

-- the state after the core showed its text, or failed to
abbrev pub shown : Bool → State → State
shown failed s =
    let over = s.over || failed in
    record s { over = over; stop = s.stop || (over || s.at_end); core = behind (over || s.no_keys) s.is_put }

-- THE STEPS

-- A thread goes on by itself.
pub data Own : Type 0 where
  hands_piece : Own
  tells_end : End → Own
  leaves_net : Own
  may_read : Own
  sees_end : Own
  hands_keys : Own
  goes_on_reading : Own
  is_stopped : Own
  tells_keys_end : End → Own
  leaves_keys : Own
  handles : Bool → Bool → Kind → Own
  puts : Own
  puts_in_vain : Own
  puts_end : Own
  puts_end_in_vain : Own
  closes : Own
  joins : Own
  finishes : Own
  takes_write : Own
  takes_end : Own
  drops_write : Own
  drops_end : Own

-- A thread goes on once something outside lets it: the network brings something, or ends; the user types, or
-- ends the keys; the screen takes what is shown, or does not; the network takes what is sent, or does not.
pub data Outer : Type 0 where
  brings : Outer
  is_read_out : End → Outer
  types : Outer
  ends_typing : End → Outer
  shows : Bool → Outer
  is_sent : Outer
  breaks : Outer
  is_given_up : Outer

-- no more keys are read while more than that are not sent, and they are being sent
abbrev pub IsLittle : Sizes → State → Type 0
IsLittle sizes s = (unsent s ≤ sizes.mark) ⊎ (s.sending ≡ sent_all)

-- this step of a thread's own may come
abbrev pub MayGo : Sizes → Own → State → Type 0
MayGo sizes hands_piece s = (s.net ≡ net_hands) × HasRoom sizes s
MayGo sizes (tells_end e) s = (s.net ≡ net_tells e) × HasRoom sizes s
MayGo sizes leaves_net s = (s.net ≡ net_leaves) × HasRoom sizes s
MayGo sizes may_read s = (s.typist ≡ held) × IsLittle sizes s
MayGo sizes sees_end s = ((s.typist ≡ held) ⊎ (s.typist ≡ typing)) × IsTrue s.closed
MayGo sizes hands_keys s = (s.typist ≡ keys_hands) × HasRoom sizes s
MayGo sizes goes_on_reading s = (s.typist ≡ looking) × IsFalse s.stop
MayGo sizes is_stopped s = (s.typist ≡ looking) × IsTrue s.stop
MayGo sizes (tells_keys_end e) s = (s.typist ≡ keys_tells e) × HasRoom sizes s
MayGo sizes leaves_keys s = (s.typist ≡ keys_leaves) × HasRoom sizes s
MayGo sizes (handles true refused kind) s =
    (s.core ≡ receiving) × (s.lefts ≢ 2) × (0 < count_of kind s.box) × MayWrite sizes.answers kind
MayGo sizes (handles false refused kind) s = (s.core ≡ receiving) × (s.lefts ≢ 2) × (0 < count_of kind s.box)
MayGo sizes puts s = (s.core ≡ putting) × HasPlace sizes s
MayGo sizes puts_in_vain s = (s.core ≡ putting) × ((s.sending ≡ sent_all) ⊎ IsTrue s.is_put)
MayGo sizes puts_end s = (s.core ≡ closing) × HasPlace sizes s × IsFalse s.is_put
MayGo sizes puts_end_in_vain s = (s.core ≡ closing) × (s.sending ≡ sent_all) × IsFalse s.is_put
MayGo sizes closes s = (s.core ≡ receiving) × (s.lefts ≡ 2) × IsFalse s.is_put
MayGo sizes joins s = (s.core ≡ receiving) × (s.lefts ≡ 2) × IsTrue s.is_put
MayGo sizes finishes s = (s.core ≡ joining) × (s.net ≡ net_gone) × (s.typist ≡ keys_gone)
    × (s.sending ≡ sent_all)
MayGo sizes takes_write s = (s.sending ≡ taking) × (0 < s.writes)
MayGo sizes takes_end s = (s.sending ≡ taking) × (s.writes ≡ 0) × (0 < s.ends)
MayGo sizes drops_write s = (s.sending ≡ discards) × (0 < s.writes)
MayGo sizes drops_end s = (s.sending ≡ discards) × (s.writes ≡ 0) × (0 < s.ends)

-- the state after this step of a thread's own
abbrev pub gone_on : Own → State → State
gone_on hands_piece s = record s { net = reading; box = put piece s.box }
gone_on (tells_end e) s = record s { net = net_leaves; box = put (told_of_end e) s.box }
gone_on leaves_net s = record s { net = net_gone; box = put net_left s.box }
gone_on may_read s = record s { typist = typing }
gone_on sees_end s = record s { typist = keys_tells nothing_comes }
gone_on hands_keys s = record s { typist = looking; box = put keys s.box }
gone_on goes_on_reading s = record s { typist = held }
gone_on is_stopped s = record s { typist = keys_leaves }
gone_on (tells_keys_end e) s = record s { typist = keys_leaves; box = put (told_of_keys e) s.box }
gone_on leaves_keys s = record s { typist = keys_gone; box = put keys_left s.box }
gone_on (handles writes refused kind) s = handled writes refused kind s
gone_on puts s = record s { core = showing; writes = s.writes + 1 }
gone_on puts_in_vain s = record s { core = showing; over = true }
gone_on puts_end s = record s { core = receiving; ends = s.ends + 1; is_put = true }
gone_on puts_end_in_vain s = record s { core = receiving; is_put = true }
gone_on closes s = record s { core = closing }
gone_on joins s = record s { core = joining }
gone_on finishes s = record s { core = ended }
gone_on takes_write s = record s { sending = sends; writes = s.writes - 1 }
gone_on takes_end s = record s { sending = sent_all; ends = s.ends - 1 }
gone_on drops_write s = record s { writes = s.writes - 1 }
gone_on drops_end s = record s { sending = sent_all; ends = s.ends - 1 }

-- this event from outside may come
abbrev pub MayBeLet : Outer → State → Type 0
MayBeLet brings s = s.net ≡ reading
MayBeLet (is_read_out e) s = s.net ≡ reading
MayBeLet types s = s.typist ≡ typing
MayBeLet (ends_typing e) s = s.typist ≡ typing
MayBeLet (shows failed) s = s.core ≡ showing
MayBeLet is_sent s = s.sending ≡ sends
MayBeLet breaks s = s.sending ≡ sends
MayBeLet is_given_up s = s.sending ≡ sends

-- if nothing more comes from the network, that is to be seen at once
abbrev pub closes_link : End → Bool
closes_link nothing_comes = true
closes_link no_memory = false

-- the state after this event from outside
abbrev pub let_on : Outer → State → State
let_on brings s = record s { net = net_hands }
let_on (is_read_out e) s = record s { net = net_tells e; closed = s.closed || closes_link e }
let_on types s = record s { typist = keys_hands }
let_on (ends_typing e) s = record s { typist = keys_tells e }
let_on (shows failed) s = shown failed s
let_on is_sent s = record s { sending = taking }
let_on breaks s = record s { sending = sent_all }
let_on is_given_up s = record s { sending = discards }

-- a thread makes a step by itself
abbrev pub Goes : Sizes → State → State → Type 0
Goes sizes s t = (own : Own) × MayGo sizes own s × (t ≡ gone_on own s)

-- an event from outside comes
abbrev pub IsLet : State → State → Type 0
IsLet s t = (outer : Outer) × MayBeLet outer s × (t ≡ let_on outer s)

-- the states to which steps lead
pub data Reached (sizes : Sizes) : State → Type 0 where
  at_start : (s : State) → s ≡ start → Reached sizes s
  goes_on : (s t : State) → Reached sizes s → Goes sizes s t → Reached sizes t
  let_go : (s t : State) → Reached sizes s → IsLet s t → Reached sizes t

-- WHAT HOLDS OF THEM

-- the event for which a state waits: the network that is read, the user as long as the connection stands, the
-- screen, or the network to which it is sent
pub data WaitsFor (s : State) : Type 0 where
  for_network : s.net ≡ reading → WaitsFor s
  for_user : s.typist ≡ typing → IsFalse s.closed → WaitsFor s
  for_screen : s.core ≡ showing → WaitsFor s
  for_sending : s.sending ≡ sends → WaitsFor s

-- In each state that is reached and is not the end a thread goes on by itself, or one of these is waited for,
-- and goes on once it is let.
abbrev pub NeverGetsStuck : Type 0
NeverGetsStuck =
    (sizes : Sizes) (s : State) → 0 < sizes.mails → 0 < sizes.queue → Reached sizes s → s.core ≢ ended
    → ((t : State) × Goes sizes s t) ⊎ (WaitsFor s × ((t : State) × IsLet s t))

-- The core never waits for the network to take what is sent, if nothing that comes has to be answered, and
-- the queue holds three writes more than the mailbox and what may wait while keys are read.
abbrev pub NeverWaitsToSend : Type 0
NeverWaitsToSend =
    (sizes : Sizes) (s : State) → IsFalse sizes.answers → sizes.mark + sizes.mails + 3 ≤ sizes.queue
    → Reached sizes s
    → (s.core ≡ putting) ⊎ (s.core ≡ closing) → HasPlace sizes s ⊎ (s.sending ≡ sent_all)

-- this number of steps, each a thread's own, leads to the last state
pub data Alone (sizes : Sizes) : ℕ → State → State → Type 0 where
  no_step : (s t : State) → s ≡ t → Alone sizes 0 s t
  one_more : (n : ℕ) (s t u : State) → Goes sizes s t → Alone sizes n t u → Alone sizes (n + 1) s u

-- If nothing outside happens, the threads come to rest, after at most this number of steps.
abbrev pub ComesToRest : Type 0
ComesToRest =
    (sizes : Sizes) (n : ℕ) (s t : State) → Reached sizes s → Alone sizes n s t
    → n ≤ 36 + 4 * sizes.mails + sizes.queue
