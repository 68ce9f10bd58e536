-- The ends of the sessions of a server.
use Rattle.std.specs.Prelude.{◌≡◌, ◌≤◌, ◌⊎◌, ℕ, pos, IsTrue, false, Option, Some, None, Result, Ok, Err, IfOk}
use Rattle.std.specs.{Prelude.IsOk, IoError.raw_os_error, declared.io.Error.Error}
use Rattle.std.specs.declared.net.tcp.TcpStream.{TcpStream}
use Rattle.tn_serve.specs.declared.{acceptor.Accepted.Accepted, conversed.{Conversed.Conversed, Ran.Ran}}
use Rattle.tn_serve.specs.declared.{finished.Finished.Finished, served.Served.Served}
use Rattle.tn_cores.specs.{Ending.EndsWhole, declared.faults.{Ended.Ended, SessionFault.TheVariants.Start}}
use Rattle.tn_cores.specs.declared.faults.{SessionFault.SessionFault, Ended.TheVariants.{HangUp, Done, Fault}}
use Rattle.tn_net.specs.{network.Asked.AcceptsAll, declared.network.peers.Peer.Peer}
use Rattle.tn_session.specs.declared.parties.Report.{Report}

-- the session came to its report, and ended without a fault
abbrev pub IsWhole : Finished → Type 0
IsWhole finished = IsOk finished.report × IfOk finished.report (λ report. EndsWhole report.ended)

-- 1 if it ended without a fault
abbrev pub whole_end : Ended → ℕ
whole_end HangUp = 1
whole_end Done = 1
whole_end (Fault fault) = 0

-- 1 if a session with this report ended without a fault
abbrev pub whole_report : Result Report SessionFault → ℕ
whole_report (Ok report) = whole_end report.ended
whole_report (Err fault) = 0

-- 1 if the session is whole
abbrev pub whole_of : Finished → ℕ
whole_of finished = whole_report finished.report

-- the report of a session that ran
abbrev pub report_told : Result Conversed SessionFault → Result Report SessionFault
report_told (Ok conversed) = Ok conversed.report
report_told (Err fault) = Err fault

-- the end of a session, as its service gets it
abbrev pub finished_as : Ran → Finished
finished_as ran = record { report = report_told ran.ended; idle = ran.idle; too_long = ran.too_long }

-- none of its threads could be started
abbrev pub not_started : Finished
not_started = record { report = Err Start; idle = false; too_long = false }

-- as many connections were accepted as were asked for
abbrev pub ServesAll : ℕ → Served → Type 0
ServesAll count served = served.accepted ≡ count

-- this number of connections was served; or no more than that, and `until` reported that no more are to come
abbrev pub ServesUntil : ℕ → Type 0 → Served → Type 0
ServesUntil count told served = ServesAll count served ⊎ ((served.accepted ≤ count) × told)

-- there is one, and it is so
abbrev pub IfAny : {A : Type 0} → (A → Type 0) → Option A → Type 0
IfAny P None = ⊥
IfAny P (Some x) = P x

-- the listener takes no connection, and never will (POSIX, accept: EBADF, EINVAL, ENOTSOCK)
abbrev pub IsBroken : Error → Type 0
IsBroken error =
    (raw_os_error error ≡ Some (pos 9))
    ⊎ ((raw_os_error error ≡ Some (pos 22)) ⊎ (raw_os_error error ≡ Some (pos 88)))

-- each connection of a number below this count was accepted, and if it is so reported, `until` reported that
-- no more are to come
pub record AcceptsUntil (accepts : ℕ → Result (TcpStream × Peer) Error → Type 0) (ended : Type 0)
    (accepted : Accepted) : Type 0 where
  pub all : AcceptsAll accepts accepted.count
  pub told : IsTrue accepted.is_told → ended

-- as many were accepted as were asked for, or no more, if it was so reported
abbrev pub AreEnough : ℕ → Accepted → Type 0
AreEnough count accepted = (accepted.count ≡ count) ⊎ ((accepted.count ≤ count) × IsTrue accepted.is_told)
