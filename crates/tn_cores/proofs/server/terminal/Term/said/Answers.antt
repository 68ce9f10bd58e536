use Rattle.std.proofs.Common.{Option, OnErr, IfErr, true, ◌≡◌, subst, sym, ◌∙◌}
use Rattle.tn_jobs.specs.declared.verdicts.Verdict.{Verdict}
use Rattle.tn_cores.specs.server.{Reaching.{LeadsTo, SayBreaksOff}, Refusing.WaitsWithText, Run.{Run, writes}}
use Rattle.tn_cores.specs.declared.server.messages.Put.TheVariants.{Nothing}
use Rattle.tn_cores.proofs.of_terminal.Handling.{with_ok, with_broken, says_none, breaks_none, verdict_none, verdict_judged}
use Rattle.tn_cores.proofs.server.terminal.Term.said.Goals as goal

pub returns-in_default-clause-ok : goal.returns-in_default-clause-ok
returns-in_default-clause-ok c =
    with_ok _ _ c.finish.result Nothing (λ d. says_none c.args.id.0 c.args.text.now _ c.args.self.now c.finish.new.self _ _
    (verdict_none _ c.args.text.now c.args.after c.args.self.now.tostop (sym c.state.ensures.state ∙ c.in_default.is)) d) c.finish.ensures.ok

pub returns-in_default-clause-err : goal.returns-in_default-clause-err
returns-in_default-clause-err c =
    with_broken c.args.id.0 c.args.text.now _ c.args.self.now _ _ c.finish.new.self _ c.finish.result Nothing
    (λ d. breaks_none c.args.id.0 c.args.text.now _ c.args.self.now c.finish.new.self _ _
    (verdict_none _ c.args.text.now c.args.after c.args.self.now.tostop (sym c.state.ensures.state ∙ c.in_default.is)) d) c.finish.ensures.err

pub returns-in-Some-judge-clause-err : goal.returns-in-Some-judge-clause-err
returns-in-Some-judge-clause-err c =
    let P : Option Verdict → Type 0 = λ v. IfErr c.judged.result
    (λ s. (s.given ≡ true) × SayBreaksOff c.args.id.0 c.args.text.now v c.args.self.now c.args.out.now.items c.judged.new.out.items s.put c.judged.new.self)
    in
    subst P (sym (verdict_judged _ c.in-Some.state c.args.text.now c.args.after c.args.self.now.tostop c.is_empty.result _
    (sym c.state.ensures.state ∙ c.in-Some.is) c.is_empty.ensures c.judge.ensures ∙ c.in-Some-judge.is)) c.judged.ensures.err

pub returns-in-None-clause-ok : goal.returns-in-None-clause-ok
returns-in-None-clause-ok c =
    with_ok _ _ c.finish-in-None.result Nothing (λ d. says_none c.args.id.0 c.args.text.now _ c.args.self.now c.finish-in-None.new.self _ _
    (verdict_judged _ c.in-Some.state c.args.text.now c.args.after c.args.self.now.tostop c.is_empty.result _
    (sym c.state.ensures.state ∙ c.in-Some.is) c.is_empty.ensures c.judge.ensures ∙ c.in-None.is) d) c.finish-in-None.ensures.ok

pub returns-in-None-clause-err : goal.returns-in-None-clause-err
returns-in-None-clause-err c =
    with_broken c.args.id.0 c.args.text.now _ c.args.self.now _ _ c.finish-in-None.new.self _ c.finish-in-None.result Nothing
    (λ d. breaks_none c.args.id.0 c.args.text.now _ c.args.self.now c.finish-in-None.new.self _ _
    (verdict_judged _ c.in-Some.state c.args.text.now c.args.after c.args.self.now.tostop c.is_empty.result _
    (sym c.state.ensures.state ∙ c.in-Some.is) c.is_empty.ensures c.judge.ensures ∙ c.in-None.is) d) c.finish-in-None.ensures.err

pub returns-in_default-clause-grows : goal.returns-in_default-clause-grows
returns-in_default-clause-grows c =
    let P : Option Verdict → Type 0 = λ v. OnErr c.finish.result ((d : Run) → LeadsTo d c.args.self.now → WaitsWithText (writes v) d.history c.args.text.now) in
    subst P (sym (verdict_none _ c.args.text.now c.args.after c.args.self.now.tostop (sym c.state.ensures.state ∙ c.in_default.is))) c.finish.ensures.grows

pub returns-in-Some-judge-clause-grows : goal.returns-in-Some-judge-clause-grows
returns-in-Some-judge-clause-grows c =
    let P : Option Verdict → Type 0 = λ v. OnErr c.judged.result ((d : Run) → LeadsTo d c.args.self.now → WaitsWithText (writes v) d.history c.args.text.now) in
    subst P (sym (verdict_judged _ c.in-Some.state c.args.text.now c.args.after c.args.self.now.tostop c.is_empty.result _
    (sym c.state.ensures.state ∙ c.in-Some.is) c.is_empty.ensures c.judge.ensures ∙ c.in-Some-judge.is)) c.judged.ensures.grows

pub returns-in-None-clause-grows : goal.returns-in-None-clause-grows
returns-in-None-clause-grows c =
    let P : Option Verdict → Type 0 = λ v. OnErr c.finish-in-None.result
    ((d : Run) → LeadsTo d c.args.self.now → WaitsWithText (writes v) d.history c.args.text.now) in
    subst P (sym (verdict_judged _ c.in-Some.state c.args.text.now c.args.after c.args.self.now.tostop c.is_empty.result _
    (sym c.state.ensures.state ∙ c.in-Some.is) c.is_empty.ensures c.judge.ensures ∙ c.in-None.is)) c.finish-in-None.ensures.grows
