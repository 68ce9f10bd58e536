-- A client's session goes on by itself, or waits for the network, the user or the screen.
use Rattle.std.proofs.Common.{arith, ◌≡◌, ◌≢◌, ℕ, zero, suc, ◌+◌, ◌<◌, ◌≤◌, Bool, true, false, ◌⊎◌, inl, inr, refl, ap, subst}
use Rattle.tn_theorems.specs.progress.{Server.one, Client.{State, Sizes, HasRoom, HasPlace, waiting_mails}}
use Rattle.tn_theorems.specs.progress.Client.{count_of, unsent, Net, reading, net_hands, net_tells, net_leaves, net_gone, Keys, held, typing, keys_hands}
use Rattle.tn_theorems.specs.progress.Client.{looking, keys_tells, keys_leaves, keys_gone, Core, receiving, putting, showing, closing, joining, ended, Sending}
use Rattle.tn_theorems.specs.progress.Client.{taking, sends, discards, sent_all, Box, Kind, keys, piece, ending, keys_ending, refusal, net_left, keys_left}
use Rattle.tn_theorems.specs.progress.ClientSteps.{for_network, for_user, for_screen, for_sending, NeverGetsStuck, Own, hands_piece, tells_end, leaves_net}
use Rattle.tn_theorems.specs.progress.ClientSteps.{may_read, sees_end, hands_keys, goes_on_reading, is_stopped, tells_keys_end, leaves_keys, handles, puts}
use Rattle.tn_theorems.specs.progress.ClientSteps.{puts_in_vain, puts_end, puts_end_in_vain, closes, joins, finishes, takes_write, takes_end, drops_write}
use Rattle.tn_theorems.specs.progress.ClientSteps.{drops_end, Outer, brings, types, shows, is_sent, MayGo, gone_on, MayBeLet, let_on, Goes, IsLet, WaitsFor}
use Rattle.tn_theorems.proofs.of_progress.ClientKeeps.{Holds, holds, net_gone_in, keys_gone_in, all_sent}

abbrev DoesNotGetStuck : Sizes → State → Type 0
DoesNotGetStuck sizes s = ((t : State) × Goes sizes s t) ⊎ (WaitsFor s × ((t : State) × IsLet s t))

let_by : (sizes : Sizes) (s : State) (outer : Outer) → MayBeLet outer s → WaitsFor s → DoesNotGetStuck sizes s
let_by sizes s outer may waits = inr (waits, (let_on outer s, (outer, may, refl)))

goes_by : (sizes : Sizes) (s : State) (own : Own) → MayGo sizes own s → DoesNotGetStuck sizes s
goes_by sizes s own may = inl (gone_on own s, (own, may, refl))

le_or_lt : (a b : ℕ) → (a ≤ b) ⊎ (b < a)
le_or_lt a b = grind arith

-- a message waits, or there is room
mail_or_room : (box : Box) → ((kind : Kind) × (0 < count_of kind box)) ⊎ (waiting_mails box ≡ 0)
mail_or_room box = by box.keys box.pieces box.endings box.keys_endings box.refusals box.net_left box.keys_left refl refl refl refl refl refl refl
  where
    by : (a b c d e f g : ℕ) → box.keys ≡ a → box.pieces ≡ b → box.endings ≡ c → box.keys_endings ≡ d → box.refusals ≡ e → box.net_left ≡ f → box.keys_left ≡ g
        → ((kind : Kind) × (0 < count_of kind box)) ⊎ (waiting_mails box ≡ 0)
    by (suc a) b c d e f g p q r s t u v = inl (keys, omega arith)
    by zero (suc b) c d e f g p q r s t u v = inl (piece, omega arith)
    by zero zero (suc c) d e f g p q r s t u v = inl (ending, omega arith)
    by zero zero zero (suc d) e f g p q r s t u v = inl (keys_ending, omega arith)
    by zero zero zero zero (suc e) f g p q r s t u v = inl (refusal, omega arith)
    by zero zero zero zero zero (suc f) g p q r s t u v = inl (net_left, omega arith)
    by zero zero zero zero zero zero (suc g) p q r s t u v = inl (keys_left, omega arith)
    by zero zero zero zero zero zero zero p q r s t u v = inr (omega arith)

-- Something waits to be sent: it goes on, or the network is waited for; or Sending has ended.
by_sending : (sizes : Sizes) (s : State) (a : Sending) (writes : ℕ) → s.sending ≡ a → s.writes ≡ writes
    → (a ≡ sends) ⊎ (0 < s.writes + s.ends) → (a ≡ sent_all → DoesNotGetStuck sizes s) → DoesNotGetStuck sizes s
by_sending sizes s taking (suc writes) at e f g = goes_by sizes s takes_write (at, omega arith)
by_sending sizes s taking zero at e (inl f) g = cc
by_sending sizes s taking zero at e (inr f) g = goes_by sizes s takes_end (at, e, omega arith)
by_sending sizes s sends writes at e f g = let_by sizes s is_sent at (for_sending at)
by_sending sizes s discards (suc writes) at e f g = goes_by sizes s drops_write (at, omega arith)
by_sending sizes s discards zero at e (inl f) g = cc
by_sending sizes s discards zero at e (inr f) g = goes_by sizes s drops_end (at, e, omega arith)
by_sending sizes s sent_all writes at e f g = g refl

-- if more is unsent than that, something is sent or waits
unsent_some : (s : State) (a : Sending) (mark : ℕ) → s.sending ≡ a → mark < unsent s → (a ≡ sends) ⊎ (0 < s.writes + s.ends)
unsent_some s a mark at more = grind arith

-- Keys' turn
by_keys : (sizes : Sizes) (s : State) (k : Keys) (closed stop : Bool) → HasRoom sizes s → s.typist ≡ k → s.closed ≡ closed → s.stop ≡ stop
    → (k ≡ keys_gone → DoesNotGetStuck sizes s) → DoesNotGetStuck sizes s
by_keys sizes s held true stop room at c t g = goes_by sizes s sees_end (inl at, c)
by_keys sizes s held false stop room at c t g = by (le_or_lt (unsent s) sizes.mark)
  where
    by : (unsent s ≤ sizes.mark) ⊎ (sizes.mark < unsent s) → DoesNotGetStuck sizes s
    by (inl few) = goes_by sizes s may_read (at, inl few)
    by (inr more) =
        by_sending sizes s s.sending s.writes refl refl (unsent_some s s.sending sizes.mark refl more) (λ all. goes_by sizes s may_read (at, inr all))
by_keys sizes s typing true stop room at c t g = goes_by sizes s sees_end (inr at, c)
by_keys sizes s typing false stop room at c t g = let_by sizes s types at (for_user at c)
by_keys sizes s keys_hands closed stop room at c t g = goes_by sizes s hands_keys (at, room)
by_keys sizes s looking closed true room at c t g = goes_by sizes s is_stopped (at, t)
by_keys sizes s looking closed false room at c t g = goes_by sizes s goes_on_reading (at, t)
by_keys sizes s (keys_tells e) closed stop room at c t g = goes_by sizes s (tells_keys_end e) (at, room)
by_keys sizes s keys_leaves closed stop room at c t g = goes_by sizes s leaves_keys (at, room)
by_keys sizes s keys_gone closed stop room at c t g = g refl

-- Net's turn
by_net : (sizes : Sizes) (s : State) (n : Net) → HasRoom sizes s → s.net ≡ n → (n ≡ net_gone → DoesNotGetStuck sizes s) → DoesNotGetStuck sizes s
by_net sizes s reading room at g = let_by sizes s brings at (for_network at)
by_net sizes s net_hands room at g = goes_by sizes s hands_piece (at, room)
by_net sizes s (net_tells e) room at g = goes_by sizes s (tells_end e) (at, room)
by_net sizes s net_leaves room at g = goes_by sizes s leaves_net (at, room)
by_net sizes s net_gone room at g = g refl

both_left : (sizes : Sizes) (s : State) → Holds sizes s → waiting_mails s.box ≡ 0 → s.net ≡ net_gone → s.typist ≡ keys_gone → s.lefts ≡ 2
both_left sizes s h none n k = let l = h.leaves in let e = ap net_gone_in n in let f = ap keys_gone_in k in omega arith

waiting_on : (sizes : Sizes) (s : State) → 0 < sizes.mails → Holds sizes s → s.core ≡ receiving → s.lefts ≢ 2
    → ((kind : Kind) × (0 < count_of kind s.box)) ⊎ (waiting_mails s.box ≡ 0) → DoesNotGetStuck sizes s
waiting_on sizes s some h at not_both (inl (kind, there)) = goes_by sizes s (handles false false kind) (at, not_both, there)
waiting_on sizes s some h at not_both (inr none) =
    let room : HasRoom sizes s = omega arith in
    by_net sizes s s.net room refl
    (λ n. by_keys sizes s s.typist s.closed s.stop room refl refl refl (λ k. absurd (not_both (both_left sizes s h none n k))))

by_lefts : (sizes : Sizes) (s : State) (lefts : ℕ) (is_put : Bool) → 0 < sizes.mails → Holds sizes s → s.core ≡ receiving → s.lefts ≡ lefts → s.is_put ≡ is_put
    → DoesNotGetStuck sizes s
by_lefts sizes s zero is_put some h at e p = waiting_on sizes s some h at (λ f. omega arith) (mail_or_room s.box)
by_lefts sizes s (suc zero) is_put some h at e p = waiting_on sizes s some h at (λ f. omega arith) (mail_or_room s.box)
by_lefts sizes s (suc (suc zero)) true some h at e p = goes_by sizes s joins (at, e, p)
by_lefts sizes s (suc (suc zero)) false some h at e p = goes_by sizes s closes (at, e, p)
by_lefts sizes s (suc (suc (suc more))) is_put some h at e p = waiting_on sizes s some h at (λ f. omega arith) (mail_or_room s.box)

-- the queue has a place, or something waits there
by_place : (sizes : Sizes) (s : State) → 0 < sizes.queue → (HasPlace sizes s → DoesNotGetStuck sizes s) → (s.sending ≡ sent_all → DoesNotGetStuck sizes s)
    → DoesNotGetStuck sizes s
by_place sizes s some place all = by (le_or_lt sizes.queue (s.writes + s.ends))
  where
    by : (sizes.queue ≤ s.writes + s.ends) ⊎ (s.writes + s.ends < sizes.queue) → DoesNotGetStuck sizes s
    by (inl full) = by_sending sizes s s.sending s.writes refl refl (inr (omega arith)) all
    by (inr free) = place free

net_gone_of : (n : Net) → net_gone_in n ≡ 1 → n ≡ net_gone
net_gone_of net_gone f = refl
net_gone_of _ f = cc

keys_gone_of : (k : Keys) → keys_gone_in k ≡ 1 → k ≡ keys_gone
keys_gone_of keys_gone f = refl
keys_gone_of _ f = cc

at_most_net : (n : Net) → net_gone_in n ≤ 1
at_most_net n = grind arith

at_most_keys : (k : Keys) → keys_gone_in k ≤ 1
at_most_keys k = grind arith

-- once both have left, the end is put: it is sent, or Sending has ended
finishing : (sizes : Sizes) (s : State) (a : Sending) (writes ends : ℕ) → Holds sizes s → s.core ≡ joining → s.sending ≡ a → s.writes ≡ writes → s.ends ≡ ends
    → DoesNotGetStuck sizes s
finishing sizes s sent_all writes ends h at e f g =
    let i = subst (λ (c : Core). Holds sizes (record s { core = c })) at h in
    let n = at_most_net s.net in
    let k = at_most_keys s.typist in
    let j = i.joins in
    let l = i.leaves in
    goes_by sizes s finishes (at, net_gone_of s.net (omega arith), keys_gone_of s.typist (omega arith), e)
finishing sizes s sends writes ends h at e f g = let_by sizes s is_sent e (for_sending e)
finishing sizes s taking (suc writes) ends h at e f g = goes_by sizes s takes_write (e, omega arith)
finishing sizes s taking zero (suc ends) h at e f g = goes_by sizes s takes_end (e, f, omega arith)
finishing sizes s taking zero zero h at e f g =
    absurd (let i = subst (λ (c : Core). Holds sizes (record s { core = c })) at h in let a = ap all_sent e in grind arith)
finishing sizes s discards (suc writes) ends h at e f g = goes_by sizes s drops_write (e, omega arith)
finishing sizes s discards zero (suc ends) h at e f g = goes_by sizes s drops_end (e, f, omega arith)
finishing sizes s discards zero zero h at e f g =
    absurd (let i = subst (λ (c : Core). Holds sizes (record s { core = c })) at h in let a = ap all_sent e in grind arith)

closing_on : (sizes : Sizes) (s : State) (is_put : Bool) → 0 < sizes.queue → Holds sizes s → s.core ≡ closing → s.is_put ≡ is_put → DoesNotGetStuck sizes s
closing_on sizes s false place h at p = by_place sizes s place (λ free. goes_by sizes s puts_end (at, free, p))
    (λ all. goes_by sizes s puts_end_in_vain (at, all, p))
closing_on sizes s true place h at p =
    absurd (let i = subst (λ (c : Core). Holds sizes (record s { core = c })) at h in let a = ap one p in grind arith)

by_core : (sizes : Sizes) (s : State) (c : Core) → 0 < sizes.mails → 0 < sizes.queue → Holds sizes s → s.core ≡ c → s.core ≢ ended → DoesNotGetStuck sizes s
by_core sizes s receiving some place h at on = by_lefts sizes s s.lefts s.is_put some h at refl refl
by_core sizes s putting some place h at on = by_place sizes s place (λ free. goes_by sizes s puts (at, free))
    (λ all. goes_by sizes s puts_in_vain (at, inl all))
by_core sizes s showing some place h at on = let_by sizes s (shows false) at (for_screen at)
by_core sizes s closing some place h at on = closing_on sizes s s.is_put place h at refl
by_core sizes s joining some place h at on = finishing sizes s s.sending s.writes s.ends h at refl refl refl
by_core sizes s ended some place h at on = absurd (on at)

pub never_gets_stuck : NeverGetsStuck
never_gets_stuck sizes s some place r on = by_core sizes s s.core some place (holds sizes s r) refl on
