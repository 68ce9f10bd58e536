-- The facts that hold of each state that a client's session can reach, and that each step keeps.
use Rattle.std.proofs.Common.{arith, ◌≡◌, ℕ, ◌+◌, ◌*◌, ◌≤◌, sym, subst}
use Rattle.tn_theorems.specs.progress.{Server.one, Client.{Sending, sent_all, State}}
use Rattle.tn_theorems.specs.progress.Client.{Sizes, waiting_mails, Net, net_gone, Keys, typing, keys_hands, keys_gone, Core, putting, closing, joining, ended}
use Rattle.tn_theorems.specs.progress.ClientSteps.{Own, hands_piece, Outer, brings, MayGo, gone_on, MayBeLet, let_on, Reached, at_start, goes_on, let_go}

abbrev pub net_gone_in : Net → ℕ
net_gone_in net_gone = 1
net_gone_in _ = 0

abbrev pub keys_gone_in : Keys → ℕ
keys_gone_in keys_gone = 1
keys_gone_in _ = 0

-- keys that were read and not handed yet, or that may be read
abbrev pub in_hand : Keys → ℕ
in_hand typing = 1
in_hand keys_hands = 1
in_hand _ = 0

abbrev pub is_putting : Core → ℕ
is_putting putting = 1
is_putting _ = 0

abbrev pub has_joined : Core → ℕ
has_joined joining = 1
has_joined ended = 1
has_joined _ = 0

abbrev pub all_sent : Sending → ℕ
all_sent sent_all = 1
all_sent _ = 0

abbrev pub still_closing : Core → ℕ
still_closing closing = 1
still_closing _ = 0

pub record Holds (sizes : Sizes) (s : State) : Type 0 where
  pub fits : waiting_mails s.box ≤ sizes.mails
  pub queued : s.writes + s.ends ≤ sizes.queue
  pub leaves : s.lefts + (s.box.net_left + s.box.keys_left) ≡ net_gone_in s.net + keys_gone_in s.typist
  pub joins : 2 * has_joined s.core ≤ s.lefts
  pub joins_behind : has_joined s.core ≤ one s.is_put
  pub is_open : still_closing s.core + one s.is_put ≤ 1
  pub put_once : s.ends ≤ one s.is_put
  pub put : one s.is_put ≤ s.ends + all_sent s.sending

pub keeps_own : (sizes : Sizes) (own : Own) (s : State) → Holds sizes s → MayGo sizes own s → Holds sizes (gone_on own s)
keeps_own sizes hands_piece s h may = grind arith
keeps_own sizes own s h may = grind arith

pub keeps_let : (sizes : Sizes) (outer : Outer) (s : State) → Holds sizes s → MayBeLet outer s → Holds sizes (let_on outer s)
keeps_let sizes brings s h at = grind arith
keeps_let sizes outer s h at = grind arith

pub holds : (sizes : Sizes) (s : State) → Reached sizes s → Holds sizes s
holds sizes u (at_start s e) = subst (λ (v : State). Holds sizes v) (sym e) (grind arith)
holds sizes u (goes_on s t r (own, may, e)) = subst (λ (v : State). Holds sizes v) (sym e) (keeps_own sizes own s (holds sizes s r) may)
holds sizes u (let_go s t r (outer, may, e)) = subst (λ (v : State). Holds sizes v) (sym e) (keeps_let sizes outer s (holds sizes s r) may)
