use Rattle.std.proofs.Common.{ℕ, List, [], IfErr, refl, subst}
use Rattle.tn_cores.specs.declared.{messages.Message.TheVariants.{HangUp, ReadFailed, Left, Resized, Asked, Said, Refused}, faults.Ended.TheVariants.Fault}
use Rattle.tn_cores.specs.{server.{Reaching.RefusesFor, Run.{hang_up, ends_by}}, declared.server.messages.Put.TheVariants.Nothing}
use Rattle.tn_cores.specs.declared.faults.SessionFault.TheVariants as fault
use Rattle.tn_cores.proofs.of_terminal.{Doing.{does_nothing, does_then}, Refusing.{take_cause, quiet_cause}}
use Rattle.tn_cores.proofs.of_terminal.Handling.{with_ok, with_stuck, handled_hang_up, handled_fault, handled_left, handled_resized, handled_asked}
use Rattle.tn_cores.proofs.of_terminal.Handling.{stops_hang_up, stops_fault, stops_left, stops_resized, stops_asked}
use Rattle.tn_cores.proofs.server.terminal.Term.act.Goals as goal

pub returns-in-HangUp-clause-ok : goal.returns-in-HangUp-clause-ok
returns-in-HangUp-clause-ok c =
    rw c.in-HangUp.is (with_ok _ _ c.finish.result c.hang_up-put.result
    (λ d. handled_hang_up c.args.self.now c.hang_up-put.new.self c.finish.new.self _ _ c.hang_up-put.result c.requires (c.hang_up-put.ensures.does _) d)
    c.finish.ensures.ok)

pub returns-in-HangUp-clause-err : goal.returns-in-HangUp-clause-err
returns-in-HangUp-clause-err c =
    rw c.in-HangUp.is (with_stuck c.args.self.now HangUp _ _ c.finish.new.self _ c.finish.result c.hang_up-put.result
    (λ d. stops_hang_up c.args.self.now c.hang_up-put.new.self c.finish.new.self _ _ c.hang_up-put.result c.requires (c.hang_up-put.ensures.does _) d)
    c.finish.ensures.err)

pub returns-in-ReadFailed-clause-ok : goal.returns-in-ReadFailed-clause-ok
returns-in-ReadFailed-clause-ok c =
    let put = c.hang_up-put-in-ReadFailed in
    let last = c.finish-in-ReadFailed in
    rw c.in-ReadFailed.is (with_ok _ _ last.result put.result (λ d.
    handled_fault c.args.self.now c.ends_by.new.self put.new.self last.new.self _ _ put.result c.requires (c.ends_by.ensures.does _) (put.ensures.does _) d)
    last.ensures.ok)

pub returns-in-ReadFailed-clause-err : goal.returns-in-ReadFailed-clause-err
returns-in-ReadFailed-clause-err c =
    let put = c.hang_up-put-in-ReadFailed in
    let last = c.finish-in-ReadFailed in
    rw c.in-ReadFailed.is (with_stuck c.args.self.now ReadFailed _ _ last.new.self _ last.result put.result
    (λ d. stops_fault c.args.self.now c.ends_by.new.self put.new.self last.new.self _ _ put.result c.requires (c.ends_by.ensures.does _)
    (put.ensures.does _) d) last.ensures.err)

pub returns-in-Left-clause-ok : goal.returns-in-Left-clause-ok
returns-in-Left-clause-ok c =
    rw c.in-Left.is (with_ok _ _ c.finish-in-Left.result Nothing
    (λ d. handled_left c.args.self.now c.finish-in-Left.new.self _ _ c.requires d) c.finish-in-Left.ensures.ok)

pub returns-in-Resized-clause-ok : goal.returns-in-Resized-clause-ok
returns-in-Resized-clause-ok c =
    rw c.in-Resized.is (with_ok _ _ c.finish-in-Resized.result Nothing
    (λ d. handled_resized c.in-Resized.field-0 c.args.self.now c.finish-in-Resized.new.self _ _ c.requires d) c.finish-in-Resized.ensures.ok)

pub returns-in-Asked-clause-ok : goal.returns-in-Asked-clause-ok
returns-in-Asked-clause-ok c =
    rw c.in-Asked.is (with_ok _ _ c.finish-in-Asked.result Nothing
    (λ d. handled_asked c.in-Asked.field-0 c.args.self.now c.finish-in-Asked.new.self _ _ c.requires d) c.finish-in-Asked.ensures.ok)

pub returns-in-Left-clause-err : goal.returns-in-Left-clause-err
returns-in-Left-clause-err c =
    rw c.in-Left.is (with_stuck c.args.self.now Left _ _ c.finish-in-Left.new.self _ c.finish-in-Left.result Nothing
    (λ d. stops_left c.args.self.now c.finish-in-Left.new.self _ _ c.requires d) c.finish-in-Left.ensures.err)

pub returns-in-Resized-clause-err : goal.returns-in-Resized-clause-err
returns-in-Resized-clause-err c =
    rw c.in-Resized.is (with_stuck c.args.self.now (Resized c.in-Resized.field-0) _ _ c.finish-in-Resized.new.self _ c.finish-in-Resized.result Nothing
    (λ d. stops_resized c.in-Resized.field-0 c.args.self.now c.finish-in-Resized.new.self _ _ c.requires d) c.finish-in-Resized.ensures.err)

pub returns-in-Asked-clause-err : goal.returns-in-Asked-clause-err
returns-in-Asked-clause-err c =
    rw c.in-Asked.is (with_stuck c.args.self.now (Asked c.in-Asked.field-0) _ _ c.finish-in-Asked.new.self _ c.finish-in-Asked.result Nothing
    (λ d. stops_asked c.in-Asked.field-0 c.args.self.now c.finish-in-Asked.new.self _ _ c.requires d) c.finish-in-Asked.ensures.err)

pub returns-in-HangUp-clause-cause : goal.returns-in-HangUp-clause-cause
returns-in-HangUp-clause-cause c =
    let put = c.hang_up-put in
    rw c.in-HangUp.is (quiet_cause hang_up c.args.self.now put.new.self HangUp [] [] _ c.finish.result tt (λ d. refl)
    (put.ensures.does []) c.finish.ensures.fault c.finish.ensures.grows)

pub returns-in-ReadFailed-clause-cause : goal.returns-in-ReadFailed-clause-cause
returns-in-ReadFailed-clause-cause c =
    let put = c.hang_up-put-in-ReadFailed in
    let last = c.finish-in-ReadFailed in
    rw c.in-ReadFailed.is (quiet_cause (λ d. hang_up (ends_by (Fault fault.Read) d)) c.args.self.now put.new.self ReadFailed [] [] _ last.result tt (λ d. refl)
    (does_then (ends_by (Fault fault.Read)) hang_up c.args.self.now c.ends_by.new.self put.new.self [] [] [] _ _ (c.ends_by.ensures.does [])
    (put.ensures.does [])) last.ensures.fault last.ensures.grows)

pub returns-in-Take-clause-cause : goal.returns-in-Take-clause-cause
returns-in-Take-clause-cause c = rw c.in-Take.is (take_cause c.args.self.now c.take.result c.take.ensures.fault c.take.ensures.grows)

pub returns-in-Said-clause-cause : goal.returns-in-Said-clause-cause
returns-in-Said-clause-cause c =
    let s = c.in-Said in
    let text = c.as_slice-in-Said in
    let P : List ℕ → Type 0 = λ t. IfErr c.react.result (λ r. RefusesFor c.args.self.now (Said s.job t s.after) r.fault) in
    rw s.is (subst P text.ensures c.react.ensures.cause)

pub returns-in-Refused-clause-cause : goal.returns-in-Refused-clause-cause
returns-in-Refused-clause-cause c =
    rw c.in-Refused.is (quiet_cause (λ d. d) c.args.self.now c.args.self.now Refused [] [] _ c.refused.result tt (λ d. refl)
    (does_nothing c.args.self.now []) c.refused.ensures.fault c.refused.ensures.grows)

pub returns-in-Left-clause-cause : goal.returns-in-Left-clause-cause
returns-in-Left-clause-cause c =
    let last = c.finish-in-Left in
    rw c.in-Left.is (quiet_cause (λ d. d) c.args.self.now c.args.self.now Left [] [] _ last.result tt (λ d. refl)
    (does_nothing c.args.self.now []) last.ensures.fault last.ensures.grows)

pub returns-in-Resized-clause-cause : goal.returns-in-Resized-clause-cause
returns-in-Resized-clause-cause c =
    let last = c.finish-in-Resized in
    rw c.in-Resized.is (quiet_cause (λ d. d) c.args.self.now c.args.self.now (Resized c.in-Resized.field-0) [] [] _ last.result tt (λ d. refl)
    (does_nothing c.args.self.now []) last.ensures.fault last.ensures.grows)

pub returns-in-Asked-clause-cause : goal.returns-in-Asked-clause-cause
returns-in-Asked-clause-cause c =
    let last = c.finish-in-Asked in
    rw c.in-Asked.is (quiet_cause (λ d. d) c.args.self.now c.args.self.now (Asked c.in-Asked.field-0) [] [] _ last.result tt (λ d. refl)
    (does_nothing c.args.self.now []) last.ensures.fault last.ensures.grows)
