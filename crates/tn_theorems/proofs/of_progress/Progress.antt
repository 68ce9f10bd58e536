-- A server's session goes on by itself, or waits for the network, for its foreground job or for a write.
use Rattle.std.proofs.Common.{arith, ◌≡◌, ◌≢◌, ℕ, zero, suc, ◌+◌, ◌<◌, ◌≤◌, Bool, true, false, ◌⊎◌, inl, inr, refl, subst}
use Rattle.tn_theorems.proofs.of_progress.Invariant.{Holds, may_have_said, net_left_in, desk_left_in, back_left_in, is_waiting, has_step_credit, has_ended}
use Rattle.tn_theorems.proofs.of_progress.{Invariant.{has_failed, done_by, refused_by, desk_by, has_answer, is_leaving}, Keeps.holds}
use Rattle.tn_theorems.specs.progress.Server.{End, Net, reading, holding, handing, net_says, net_tells, net_leaves, net_gone, Cause, Desk, asking, waiting, answering}
use Rattle.tn_theorems.specs.progress.Server.{desk_says, desk_tells, desk_leaves, desk_gone, Back, back_waits, stepping, back_says, back_tells, back_leaves, back_gone}
use Rattle.tn_theorems.specs.progress.Server.{Term, receiving, writing, joining, ended, Kind, piece, words, ending, take, said, step, done, refusal, left, Box, State}
use Rattle.tn_theorems.specs.progress.Server.{Sizes, HasRoom, waiting_mails, count_of}
use Rattle.tn_theorems.specs.progress.ServerSteps.{IsLet, waits_behind, NeverGetsStuck, PutsNeverWait, FewMailsWait}
use Rattle.tn_theorems.specs.progress.ServerSteps.{gives, Own, takes_credit, hands_piece, says_words, tells_end, net_left, asks_entry, takes_entry, takes_end}
use Rattle.tn_theorems.specs.progress.ServerSteps.{says_answer, tells_stop, desk_left, takes_step_credit, says_step, is_stopped, tells_refusal, back_left, handles}
use Rattle.tn_theorems.specs.progress.ServerSteps.{joins, finishes, MayGo, gone_on, Goes, WaitsFor, for_network, for_job, for_write, brings, answers, writes, let_on}

abbrev DoesNotGetStuck : Sizes → State → Type 0
DoesNotGetStuck sizes s = ((t : State) × Goes sizes s t) ⊎ (WaitsFor s × ((t : State) × IsLet sizes s t))

goes_by : (sizes : Sizes) (s : State) (own : Own) → MayGo sizes own s → DoesNotGetStuck sizes s
goes_by sizes s own may = inl (gone_on sizes own s, (own, may, refl))

-- a message waits that may be taken, or there is room
mail_or_room : (box : Box) → ((kind : Kind) × (0 < count_of kind box) × (waits_behind kind box ≡ 0)) ⊎ (waiting_mails box ≡ 0)
mail_or_room box = by box.pieces box.words box.endings box.said box.takes box.steps box.done box.refusals box.left refl refl refl refl refl refl refl refl refl
  where
    by : (a m b c d e f g k : ℕ) → box.pieces ≡ a → box.words ≡ m → box.endings ≡ b → box.said ≡ c → box.takes ≡ d → box.steps ≡ e → box.done ≡ f
        → box.refusals ≡ g → box.left ≡ k → ((kind : Kind) × (0 < count_of kind box) × (waits_behind kind box ≡ 0)) ⊎ (waiting_mails box ≡ 0)
    by (suc a) m b c d e f g k p n q r s t u v w = inl (piece, omega arith, refl)
    by zero (suc m) b c d e f g k p n q r s t u v w = inl (words, omega arith, refl)
    by zero zero (suc b) c d e f g k p n q r s t u v w = inl (ending, omega arith, refl)
    by zero zero zero (suc c) d e f g k p n q r s t u v w = inl (said, omega arith, refl)
    by zero zero zero zero (suc d) e f g k p n q r s t u v w = inl (take, omega arith, r)
    by zero zero zero zero zero (suc e) f g k p n q r s t u v w = inl (step, omega arith, refl)
    by zero zero zero zero zero zero (suc f) g k p n q r s t u v w = inl (done, omega arith, refl)
    by zero zero zero zero zero zero zero (suc g) k p n q r s t u v w = inl (refusal, omega arith, refl)
    by zero zero zero zero zero zero zero zero (suc k) p n q r s t u v w = inl (left, omega arith, refl)
    by zero zero zero zero zero zero zero zero zero p n q r s t u v w = inr (omega arith)

-- The known facts of a state in which Term waits for a message and none is there, with its threads at these
-- places.
record Idle (sizes : Sizes) (s : State) (n : Net) (d : Desk) (b : Back) (asks : Bool) (waits : ℕ) : Type 0 where
  pub holds : Holds sizes (record s { net = n; desk = d; back = b; term = receiving; asks = asks; waits = waits })
  pub no_mail : waiting_mails s.box ≡ 0
  pub not_all : s.lefts ≢ 3

-- Net waits for a credit, and then Desk does not wait for an entry, nor has it left
no_credit : (sizes : Sizes) (s : State) (b : Back) (asks : Bool) (waits : ℕ) → Idle sizes s holding waiting b asks waits → s.credits ≡ 0
    → (s.entries ≡ 0) × (s.ends ≡ 0) → ⊥
no_credit sizes s b asks waits i c e = let h = i.holds in grind arith

nor_left : (sizes : Sizes) (s : State) (x : Cause) (b : Back) (asks : Bool) (waits : ℕ) → Idle sizes s holding (desk_gone x) b asks waits → s.credits ≡ 0 → ⊥
nor_left sizes s x b asks waits i c = let h = i.holds in grind arith

-- Net has left, and then Back was asked to stop, and Desk does not wait for an entry
gone_waiting : (sizes : Sizes) (s : State) (e : End) (b : Back) (asks : Bool) (waits : ℕ) → Idle sizes s (net_gone e) waiting b asks waits
    → (s.entries ≡ 0) × (s.ends ≡ 0) → ⊥
gone_waiting sizes s e b asks waits i f = let h = i.holds in grind arith

not_stopped : (sizes : Sizes) (s : State) (e : End) (d : Desk) (b : Back) (asks : Bool) (waits : ℕ) → Idle sizes s (net_gone e) d b asks waits
    → s.stop ≡ false → ⊥
not_stopped sizes s e d b asks waits i f = let h = i.holds in grind arith

all_gone : (sizes : Sizes) (s : State) (e : End) (c : Cause) (asks : Bool) (waits : ℕ) → Idle sizes s (net_gone e) (desk_gone c) back_gone asks waits → ⊥
all_gone sizes s e c asks waits i = i.not_all (let h = i.holds in omega arith)

module _ (sizes : Sizes) (s : State) (room : HasRoom sizes s) where
  -- Desk's turn, with what is so if it waits in vain or has left
  by_desk : (d : Desk) (entries ends : ℕ) → s.desk ≡ d → s.entries ≡ entries → s.ends ≡ ends
      → (d ≡ waiting → entries ≡ 0 → ends ≡ 0 → DoesNotGetStuck sizes s) → ((c : Cause) → d ≡ desk_gone c → DoesNotGetStuck sizes s) → DoesNotGetStuck sizes s
  by_desk asking entries ends at e f w g = goes_by sizes s asks_entry (at, room)
  by_desk waiting (suc entries) ends at e f w g = goes_by sizes s takes_entry (at, omega arith)
  by_desk waiting zero (suc ends) at e f w g = goes_by sizes s takes_end (at, omega arith)
  by_desk waiting zero zero at e f w g = w refl refl refl
  by_desk answering entries ends at e f w g = inr (for_job at, (let_on sizes answers s, (answers, at, refl)))
  by_desk desk_says entries ends at e f w g = goes_by sizes s says_answer (at, room)
  by_desk (desk_tells c) entries ends at e f w g = goes_by sizes s (tells_stop c) (at, room)
  by_desk (desk_leaves c) entries ends at e f w g = goes_by sizes s (desk_left c) (at, room)
  by_desk (desk_gone c) entries ends at e f w g = g c refl

  -- Back's turn
  by_back : (b : Back) (stop : Bool) → s.back ≡ b → s.stop ≡ stop → 0 < s.step_credits + has_step_credit b
      → (b ≡ stepping → stop ≡ false → DoesNotGetStuck sizes s) → (b ≡ back_gone → DoesNotGetStuck sizes s) → DoesNotGetStuck sizes s
  by_back back_waits stop at e l w g = goes_by sizes s takes_step_credit (at, omega arith)
  by_back stepping true at e l w g = goes_by sizes s is_stopped (at, e)
  by_back stepping false at e l w g = w refl refl
  by_back back_says stop at e l w g = goes_by sizes s says_step (at, room)
  by_back back_tells stop at e l w g = goes_by sizes s tells_refusal (at, room)
  by_back back_leaves stop at e l w g = goes_by sizes s back_left (at, room)
  by_back back_gone stop at e l w g = g refl

-- the known facts with its threads at these places
idle : (sizes : Sizes) (s : State) (n : Net) (d : Desk) (b : Back) → Holds sizes s → s.term ≡ receiving → waiting_mails s.box ≡ 0 → s.lefts ≢ 3
    → s.net ≡ n → s.desk ≡ d → s.back ≡ b → Idle sizes s n d b s.asks s.waits
idle sizes s n d b h at none not_all en ed eb = record {
  holds =
      subst (λ (m : Net). Holds sizes (record s { net = m; desk = d; back = b; term = receiving })) en
      (subst (λ (m : Desk). Holds sizes (record s { desk = m; back = b; term = receiving })) ed
      (subst (λ (m : Back). Holds sizes (record s { back = m; term = receiving })) eb
      (subst (λ (m : Term). Holds sizes (record s { term = m })) at h)));
  no_mail = none;
  not_all = not_all;
}

-- Term waits for a message, and none is there
module _ (sizes : Sizes) (s : State) (h : Holds sizes s) (at : s.term ≡ receiving) (none : waiting_mails s.box ≡ 0)
    (not_all : s.lefts ≢ 3) (room : HasRoom sizes s) (goes : 0 < sizes.ahead) where
  holding_on : s.net ≡ holding → s.credits ≡ 0 → DoesNotGetStuck sizes s
  holding_on en c =
      by_desk sizes s room s.desk s.entries s.ends refl refl refl
      (λ ed e f. absurd (no_credit sizes s s.back s.asks s.waits (idle sizes s holding waiting s.back h at none not_all en ed refl) c (e, f)))
      (λ x ed. absurd (nor_left sizes s x s.back s.asks s.waits (idle sizes s holding (desk_gone x) s.back h at none not_all en ed refl) c))

  gone_on_by : (e : End) → s.net ≡ net_gone e → DoesNotGetStuck sizes s
  gone_on_by e en =
      by_desk sizes s room s.desk s.entries s.ends refl refl refl
      (λ ed f g. absurd (gone_waiting sizes s e s.back s.asks s.waits (idle sizes s (net_gone e) waiting s.back h at none not_all en ed refl) (f, g)))
      (λ x ed. by_back sizes s room s.back s.stop refl refl (let l = h.one_credit_each in omega arith)
      (λ eb f. absurd (not_stopped sizes s e (desk_gone x) stepping s.asks s.waits
      (idle sizes s (net_gone e) (desk_gone x) stepping h at none not_all en ed eb) f))
      (λ eb. absurd (all_gone sizes s e x s.asks s.waits (idle sizes s (net_gone e) (desk_gone x) back_gone h at none not_all en ed eb))))

  by_net : (n : Net) (credits : ℕ) → s.net ≡ n → s.credits ≡ credits → DoesNotGetStuck sizes s
  by_net reading credits en c = inr (for_network en, (let_on sizes brings s, (brings, en, refl)))
  by_net holding zero en c = holding_on en c
  by_net holding (suc credits) en c = goes_by sizes s takes_credit (en, omega arith)
  by_net handing credits en c = goes_by sizes s hands_piece (en, room)
  by_net net_says credits en c = goes_by sizes s says_words (en, room)
  by_net (net_tells e) credits en c = goes_by sizes s (tells_end e) (en, room)
  by_net (net_leaves e) credits en c = goes_by sizes s (net_left e) (en, room)
  by_net (net_gone e) credits en c = gone_on_by e en

-- all have left, once Term has received the Left of all three
net_gone_of : (n : Net) → net_left_in n ≡ 1 → (e : End) × (n ≡ net_gone e)
net_gone_of (net_gone e) f = (e, refl)
net_gone_of _ f = cc

desk_gone_of : (d : Desk) → desk_left_in d ≡ 1 → (c : Cause) × (d ≡ desk_gone c)
desk_gone_of (desk_gone c) f = (c, refl)
desk_gone_of _ f = cc

back_gone_of : (b : Back) → back_left_in b ≡ 1 → b ≡ back_gone
back_gone_of back_gone f = refl
back_gone_of _ f = cc

at_most_net : (n : Net) → net_left_in n ≤ 1
at_most_net n = grind arith

at_most_desk : (d : Desk) → desk_left_in d ≤ 1
at_most_desk d = grind arith

at_most_back : (b : Back) → back_left_in b ≤ 1
at_most_back b = grind arith

finishing : (sizes : Sizes) (s : State) → Holds sizes s → s.term ≡ joining → DoesNotGetStuck sizes s
finishing sizes s h at =
    let i = subst (λ (t : Term). Holds sizes (record s { term = t })) at h in
    let n = at_most_net s.net in
    let d = at_most_desk s.desk in
    let b = at_most_back s.back in
    let j = i.joins in
    let l = i.leaves in
    goes_by sizes s finishes (at, net_gone_of s.net (omega arith), desk_gone_of s.desk (omega arith), back_gone_of s.back (omega arith))

-- Term waits for a message, and not all have left
waiting_on : (sizes : Sizes) (s : State) → 0 < sizes.mails → 0 < sizes.ahead → Holds sizes s → s.term ≡ receiving → s.lefts ≢ 3
    → ((kind : Kind) × (0 < count_of kind s.box) × (waits_behind kind s.box ≡ 0)) ⊎ (waiting_mails s.box ≡ 0) → DoesNotGetStuck sizes s
waiting_on sizes s some credit h at not_all (inl (kind, there, first)) = goes_by sizes s (handles (gives 0) kind) (at, not_all, there, first)
waiting_on sizes s some credit h at not_all (inr none) = by_net sizes s h at none not_all (omega arith) credit s.net s.credits refl refl

by_lefts : (sizes : Sizes) (s : State) (lefts : ℕ) → 0 < sizes.mails → 0 < sizes.ahead → Holds sizes s → s.term ≡ receiving → s.lefts ≡ lefts
    → DoesNotGetStuck sizes s
by_lefts sizes s (suc (suc (suc zero))) some credit h at e = goes_by sizes s joins (at, e)
by_lefts sizes s lefts some credit h at e = waiting_on sizes s some credit h at (λ f. omega arith) (mail_or_room s.box)

by_term : (sizes : Sizes) (s : State) (t : Term) → 0 < sizes.mails → 0 < sizes.ahead → Holds sizes s → s.term ≡ t → s.term ≢ ended → DoesNotGetStuck sizes s
by_term sizes s receiving some credit h at on = by_lefts sizes s s.lefts some credit h at refl
by_term sizes s (writing p last) some credit h at on = inr (for_write p last at, (let_on sizes (writes false p last) s, (writes false p last, at, refl)))
by_term sizes s joining some credit h at on = finishing sizes s h at
by_term sizes s ended some credit h at on = absurd (on at)

pub never_gets_stuck : NeverGetsStuck
never_gets_stuck sizes s some credit r on = by_term sizes s s.term some credit (holds sizes s r) refl on

at_most_waiting : (d : Desk) → is_waiting d ≤ 1
at_most_waiting d = grind arith

pub puts_never_wait : PutsNeverWait
puts_never_wait sizes s r =
    let h = holds sizes s r in
    let w = at_most_waiting s.desk in
    let q = h.one_request in
    let c = h.one_credit in
    (omega arith, omega arith)

-- the most messages of each thread that wait
most_of_net : (n : Net) → may_have_said n + has_ended n + has_failed n + net_left_in n ≤ 3
most_of_net n = grind arith

most_of_desk : (d : Desk) → is_waiting d + desk_by done_by d + desk_by refused_by d + desk_left_in d ≤ 1 + has_answer d
most_of_desk d = grind arith

most_of_back : (b : Back) → is_leaving b + back_left_in b ≤ 1 + has_step_credit b
most_of_back b = grind arith

pub few_mails_wait : FewMailsWait
few_mails_wait sizes s r =
    let h = holds sizes s r in
    let n = most_of_net s.net in
    let d = most_of_desk s.desk in
    let b = most_of_back s.back in
    let c = h.one_credit in
    let q = h.one_request in
    let l = h.one_credit_each in
    let a = h.one_answer in
    let m = h.says_last in
    let e = h.ends_once in
    let f = h.tells_refusals in
    let g = h.tells_done in
    let v = h.leaves in
    omega arith
