-- Each step that a thread makes by itself is one towards a state in which no thread goes on by itself.
use Rattle.std.proofs.Common.{arith, ℕ, ◌+◌, ◌*◌, ◌<◌, ◌≤◌, ap}
use Rattle.tn_theorems.proofs.of_progress.{Invariant.{is_waiting, last_of}, Keeps.holds}
use Rattle.tn_theorems.specs.progress.Server.{one, Net, holding, handing, net_says, net_tells, net_leaves, Desk, asking, waiting, desk_says, desk_tells, desk_leaves}
use Rattle.tn_theorems.specs.progress.Server.{Back, back_waits, stepping, back_says, back_tells, back_leaves, back_gone, Term, receiving, writing, joining, ended, State}
use Rattle.tn_theorems.specs.progress.Server.{Sizes, waiting_mails}
use Rattle.tn_theorems.specs.progress.ServerSteps.{Own, MayGo, gone_on, ComesToRest, Reached, Alone, no_step, one_more}

abbrev pub net_size : Net → ℕ
net_size holding = 6
net_size handing = 5
net_size net_says = 15
net_size (net_tells e) = 10
net_size (net_leaves e) = 5
net_size _ = 0

abbrev pub desk_size : Desk → ℕ
desk_size asking = 11
desk_size waiting = 6
desk_size desk_says = 16
desk_size (desk_tells c) = 10
desk_size (desk_leaves c) = 5
desk_size _ = 0

abbrev pub back_size : Back → ℕ
back_size back_waits = 7
back_size stepping = 6
back_size back_says = 12
back_size back_tells = 10
back_size back_leaves = 5
back_size back_gone = 0

abbrev pub term_size : Term → ℕ
term_size receiving = 2
term_size (writing p last) = 4 + one last
term_size joining = 1
term_size ended = 0

-- the most steps of its own that a session has before it
abbrev pub size : State → ℕ
size s = net_size s.net + desk_size s.desk + back_size s.back + term_size s.term + s.entries + s.ends + 4 * waiting_mails s.box

smaller : (sizes : Sizes) (own : Own) (s : State) → MayGo sizes own s → size (gone_on sizes own s) < size s
smaller sizes own s may = grind arith

most_net : (n : Net) → net_size n ≤ 15
most_net n = grind arith

most_desk : (d : Desk) → desk_size d + is_waiting d ≤ 16
most_desk d = grind arith

most_back : (b : Back) → back_size b ≤ 12
most_back b = grind arith

most_term : (t : Term) → term_size t ≤ 4 + last_of t
most_term t = grind arith

most_size : (sizes : Sizes) (s : State) → Reached sizes s → size s ≤ 47 + 4 * sizes.mails
most_size sizes s r =
    let h = holds sizes s r in
    omega (arith, h.fits, h.one_request, most_net s.net, most_desk s.desk, most_back s.back, most_term s.term)

within : (sizes : Sizes) (n : ℕ) (s t : State) → Alone sizes n s t → n ≤ size s
within sizes n s t (no_step a b e) = omega arith
within sizes n s u (one_more m a b c (own, may, e) more) = omega (arith, smaller sizes own a may, within sizes m b c more, ap size e)

pub comes_to_rest : ComesToRest
comes_to_rest sizes n s t r alone = omega (arith, within sizes n s t alone, most_size sizes s r)
