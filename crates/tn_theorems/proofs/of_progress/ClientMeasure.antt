-- Each step that a thread of a client's session makes by itself is one towards a state in which no thread
-- goes on by itself.
use Rattle.std.proofs.Common.{arith, ℕ, ◌+◌, ◌*◌, ◌<◌, ◌≤◌, Bool, true, false, ap}
use Rattle.tn_theorems.specs.progress.Client.{Net, net_hands, net_tells, net_leaves, Keys, held, typing, keys_hands, looking, keys_tells, keys_leaves}
use Rattle.tn_theorems.specs.progress.Client.{keys_gone, Core, receiving, putting, closing, joining, Sending, sent_all, State, Sizes, waiting_mails}
use Rattle.tn_theorems.specs.progress.ClientSteps.{Own, MayGo, gone_on, Reached, ComesToRest, Alone, no_step, one_more}
use Rattle.tn_theorems.proofs.of_progress.ClientKeeps.{holds}

abbrev pub net_size : Net → ℕ
net_size net_hands = 5
net_size (net_tells e) = 10
net_size net_leaves = 5
net_size _ = 0

abbrev pub keys_size : Keys → ℕ
keys_size held = 12
keys_size typing = 11
keys_size keys_hands = 18
keys_size looking = 13
keys_size (keys_tells e) = 10
keys_size keys_leaves = 5
keys_size keys_gone = 0

abbrev pub core_size : Core → ℕ
core_size receiving = 4
core_size putting = 2
core_size closing = 3
core_size joining = 1
core_size _ = 0

abbrev pub sending_size : Sending → ℕ
sending_size sent_all = 0
sending_size _ = 1

abbrev pub unput : Bool → ℕ
unput true = 0
unput false = 3

-- the most steps of its own that a session has before it
abbrev pub size : State → ℕ
size s =
    net_size s.net + keys_size s.typist + core_size s.core + sending_size s.sending + unput s.is_put + s.writes + s.ends + 4 * waiting_mails s.box

smaller : (sizes : Sizes) (own : Own) (s : State) → MayGo sizes own s → size (gone_on own s) < size s
smaller sizes own s may = grind arith

most_net : (n : Net) → net_size n ≤ 10
most_net n = grind arith

most_keys : (k : Keys) → keys_size k ≤ 18
most_keys k = grind arith

most_core : (c : Core) → core_size c ≤ 4
most_core c = grind arith

most_sending : (a : Sending) → sending_size a ≤ 1
most_sending a = grind arith

most_unput : (b : Bool) → unput b ≤ 3
most_unput b = grind arith

most_size : (sizes : Sizes) (s : State) → Reached sizes s → size s ≤ 36 + 4 * sizes.mails + sizes.queue
most_size sizes s r =
    let h = holds sizes s r in
    omega (arith, h.fits, h.queued, most_net s.net, most_keys s.typist, most_core s.core, most_sending s.sending, most_unput s.is_put)

within : (sizes : Sizes) (n : ℕ) (s t : State) → Alone sizes n s t → n ≤ size s
within sizes n s t (no_step a b e) = omega arith
within sizes n s u (one_more m a b c (own, may, e) more) = omega (arith, smaller sizes own a may, within sizes m b c more, ap size e)

pub comes_to_rest : ComesToRest
comes_to_rest sizes n s t r alone = omega (arith, within sizes n s t alone, most_size sizes s r)
