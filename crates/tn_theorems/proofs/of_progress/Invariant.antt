-- The facts that hold of each state that a server's session can reach.
use Rattle.std.proofs.Common.{◌≡◌, ℕ, zero, suc, ◌+◌, ◌*◌, ◌≤◌}
use Rattle.tn_theorems.specs.progress.Server.{one, End, nothing_comes, no_memory, Net, handing, net_tells, net_leaves, net_gone, is_done, is_refused, Cause, stops}
use Rattle.tn_theorems.specs.progress.Server.{none_comes, Desk, asking, waiting, desk_leaves, desk_gone, Back, back_waits, back_leaves, back_gone, Term, writing}
use Rattle.tn_theorems.specs.progress.Server.{joining, ended, State, Sizes, waiting_mails}

abbrev pub is_handing : Net → ℕ
is_handing handing = 1
is_handing _ = 0

-- 1 for an end because nothing more comes
abbrev pub by_nothing : End → ℕ
by_nothing nothing_comes = 1
by_nothing no_memory = 0

abbrev pub by_memory : End → ℕ
by_memory nothing_comes = 0
by_memory no_memory = 1

abbrev pub has_ended : Net → ℕ
has_ended (net_leaves e) = by_nothing e
has_ended (net_gone e) = by_nothing e
has_ended _ = 0

abbrev pub has_failed : Net → ℕ
has_failed (net_leaves e) = by_memory e
has_failed (net_gone e) = by_memory e
has_failed _ = 0

-- 1 for a thread that may have sent last words
abbrev pub may_have_said : Net → ℕ
may_have_said (net_tells e) = by_nothing e
may_have_said (net_leaves e) = by_nothing e
may_have_said (net_gone e) = by_nothing e
may_have_said _ = 0

abbrev pub net_left_in : Net → ℕ
net_left_in (net_gone e) = 1
net_left_in _ = 0

abbrev pub is_waiting : Desk → ℕ
is_waiting waiting = 1
is_waiting _ = 0

abbrev pub done_by : Cause → ℕ
done_by (stops is_done) = 1
done_by _ = 0

abbrev pub refused_by : Cause → ℕ
refused_by (stops is_refused) = 1
refused_by _ = 0

abbrev pub told_by : Cause → ℕ
told_by none_comes = 1
told_by _ = 0

abbrev pub desk_by : (Cause → ℕ) → Desk → ℕ
desk_by f (desk_leaves c) = f c
desk_by f (desk_gone c) = f c
desk_by f _ = 0

-- the entry for which it asked has come
abbrev pub has_answer : Desk → ℕ
has_answer asking = 0
has_answer waiting = 0
has_answer _ = 1

abbrev pub desk_left_in : Desk → ℕ
desk_left_in (desk_gone c) = 1
desk_left_in _ = 0

abbrev pub back_left_in : Back → ℕ
back_left_in back_gone = 1
back_left_in _ = 0

-- 1 for a thread that has a credit to step, or had one as it stopped
abbrev pub has_step_credit : Back → ℕ
has_step_credit back_waits = 0
has_step_credit _ = 1

abbrev pub is_leaving : Back → ℕ
is_leaving back_leaves = 1
is_leaving back_gone = 1
is_leaving _ = 0

abbrev pub is_writing : Term → ℕ
is_writing (writing p last) = 1
is_writing _ = 0

abbrev pub of_piece : Term → ℕ
of_piece (writing p last) = one p
of_piece _ = 0

abbrev pub last_of : Term → ℕ
last_of (writing p last) = one last
last_of _ = 0

abbrev pub has_joined : Term → ℕ
has_joined joining = 1
has_joined ended = 1
has_joined _ = 0

-- 1 if more than this number wait
abbrev pub many : ℕ → ℕ → ℕ
many zero most = 0
many (suc waits) zero = 1
many (suc waits) (suc most) = many waits most

pub record Holds (sizes : Sizes) (s : State) : Type 0 where
  pub fits : waiting_mails s.box ≤ sizes.mails
  pub one_credit : s.credits + one s.owed + is_handing s.net + s.box.pieces + of_piece s.term ≡ 1
  pub one_request : s.box.takes + one s.asks + s.entries + s.ends + last_of s.term ≡ is_waiting s.desk
  pub one_credit_each : s.step_credits + s.box.steps + has_step_credit s.back ≡ sizes.ahead
  pub one_answer : s.box.said + one s.asks + s.entries + s.ends + last_of s.term + has_answer s.desk ≤ 1
  pub says_last : s.box.words ≤ may_have_said s.net
  pub tells_done : s.box.done ≤ desk_by done_by s.desk
  pub tells_refusals : s.box.refusals ≤ has_failed s.net + desk_by refused_by s.desk + is_leaving s.back
  pub asks_first : one s.asks * s.waits ≡ 0
  pub asks_while : one s.asks + one s.over ≤ 1
  pub asks_before : one s.asks + one s.at_end ≤ 1
  pub owes : one s.owed ≤ is_writing s.term + many s.waits sizes.before_piece
  pub owes_while : one s.owed + one s.over ≤ 1 + is_writing s.term
  pub leaves : s.lefts + s.box.left ≡ net_left_in s.net + desk_left_in s.desk + back_left_in s.back
  pub joins : 3 * has_joined s.term ≤ s.lefts
  pub ends_once : s.box.endings + one s.at_end ≤ has_ended s.net
  pub hears_end : has_ended s.net ≤ s.box.endings + one s.at_end + one s.over
  pub hears_failure : has_failed s.net ≤ s.box.refusals + one s.over
  pub hears_done : desk_by done_by s.desk ≤ s.box.done + one s.over
  pub hears_refused : desk_by refused_by s.desk ≤ s.box.refusals + one s.over
  pub told_late : desk_by told_by s.desk ≤ one s.over + one s.at_end
  pub ends_late : s.ends ≤ one s.over + one s.at_end
  pub last_late : last_of s.term ≤ one s.over
  pub stops_over : one s.over ≤ one s.stop + is_writing s.term
  pub stops_end : one s.at_end ≤ one s.stop + is_writing s.term
