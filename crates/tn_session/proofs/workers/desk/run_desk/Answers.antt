use Rattle.std.proofs.{Common.{◌∷◌, [], ◌++◌, refl, ap, ◌∙◌, sym, inl, inr, Option}, lemmas.Option.IfSome_then}
use Rattle.tn_discipline.specs.declared.reads.Entry.{Entry}
use Rattle.tn_cores.specs.queue.Queue.{taker}
use Rattle.tn_session.specs.{workers.Talk.{desk_sends, entries_of}, declared.workers.mail.Sender.TheVariants.Desk}
use Rattle.tn_session.proofs.lemmas.workers.Readers.{said, said_two, said_three, role}
use Rattle.tn_session.proofs.of_workers.Talk.{turns_said-push, entries_of-push, ends_done-push, answers-push}
use Rattle.tn_session.proofs.workers.desk.run_desk.Goals as goal

pub say-requires-in_default-clause-role : goal.say-requires-in_default-clause-role
say-requires-in_default-clause-role g c = role Desk _ _ (said Desk _ _ _ _ c.loop.invariant.2.2 c.in_ok-say.ensures.said)

pub returns-in_default-clause-talk : goal.returns-in_default-clause-talk
returns-in_default-clause-talk g c =
    let i = c.loop.invariant.2 in
    IfSome_then c.say-in_default.result c.say-in_default.ensures.said (λ left f. (
      i.0,
      c.args.job,
      c.loop.job,
      refl,
      i.1,
      inl (
        said_two Desk _ _ _ _ _ _ i.2 c.in_ok-say.ensures.said f,
        c.in_ok-entry.ensures.took _ i.3 ∙ ap (λ (o : Option Entry). taker (entries_of i.0 ++ o ∷ [])) c.in_default.is,
      ),
    ))

pub say-requires-in_default-entry-clause-role : goal.say-requires-in_default-entry-clause-role
say-requires-in_default-entry-clause-role g c = role Desk _ _ (said Desk _ _ _ _ c.loop.invariant.2.2 c.in_ok-say.ensures.said)

pub say-requires-in_default-entry-2-clause-role : goal.say-requires-in_default-entry-2-clause-role
say-requires-in_default-entry-2-clause-role g c = role Desk _ _ (said_two Desk _ _ _ _ _ _ c.loop.invariant.2.2 c.in_ok-say.ensures.said
    c.in_ok-say-2.ensures.said)

pub returns-in_default-entry-clause-talk : goal.returns-in_default-entry-clause-talk
returns-in_default-entry-clause-talk g c =
    let i = c.loop.invariant.2 in
    IfSome_then c.say-in_default-entry-2.result c.say-in_default-entry-2.ensures.said (λ left f. (
      i.0,
      c.args.job,
      c.loop.job,
      refl,
      i.1,
      inr (inr (
        c.in-Some.entry,
        said_three Desk _ _ _ _ _ _ _ _ i.2 c.in_ok-say.ensures.said c.in_ok-say-2.ensures.said f,
        c.in_ok-entry.ensures.took _ i.3 ∙ ap (λ (o : Option Entry). taker (entries_of i.0 ++ o ∷ [])) c.in-Some.is,
        c.in_default-entry.ensures.refused,
      )),
    ))

pub say-requires-in-loop-clause-role : goal.say-requires-in-loop-clause-role
say-requires-in-loop-clause-role g c = role Desk _ _ (said Desk _ _ _ _ c.loop.invariant.2.2 c.in_ok-say.ensures.said)

pub loop-preserved : goal.loop-preserved
loop-preserved g c =
    let i = c.loop.invariant.2 in
    let e = c.in-Some.entry in
    let r = c.in-Ok.reaction in (
      c.say-in-loop.ensures.seat,
      c.next_entry.ensures.seat,
      (
        i.0 ++ (e, r) ∷ [],
        answers-push g.J.Job.reacts c.args.job i.0 c.loop.job c.entry.new.self e r i.1 c.in-Ok.ensures.answers,
        said_two Desk _ _ _ _ _ _ i.2 c.in_ok-say.ensures.said c.in_ok-say-3.ensures.said ∙ ap desk_sends (sym (turns_said-push c.args.id i.0 e r)),
        c.in_ok-entry.ensures.took _ i.3 ∙ ap (λ (o : Option Entry). taker (entries_of i.0 ++ o ∷ [])) c.in-Some.is
            ∙ ap taker (sym (entries_of-push i.0 e r)),
      ),
      c.loop.invariant.3,
      c.loop.invariant.4,
    )

pub say-requires-in-Done-clause-role : goal.say-requires-in-Done-clause-role
say-requires-in-Done-clause-role g c = role Desk _ _ (said_two Desk _ _ _ _ _ _ c.loop.invariant.2.2 c.in_ok-say.ensures.said c.in_ok-say-3.ensures.said)

pub returns-in-Done-clause-talk : goal.returns-in-Done-clause-talk
returns-in-Done-clause-talk g c =
    let i = c.loop.invariant.2 in
    let e = c.in-Some.entry in
    let r = c.in-Ok.reaction in
    IfSome_then c.say-in-Done.result c.say-in-Done.ensures.said (λ left f. (
      i.0 ++ (e, r) ∷ [],
      c.args.job,
      c.entry.new.self,
      refl,
      answers-push g.J.Job.reacts c.args.job i.0 c.loop.job c.entry.new.self e r i.1 c.in-Ok.ensures.answers,
      inr (inl (
        said Desk _ _ _ _ (said_two Desk _ _ _ _ _ _ i.2 c.in_ok-say.ensures.said c.in_ok-say-3.ensures.said
            ∙ ap desk_sends (sym (turns_said-push c.args.id i.0 e r))) f,
        c.in_ok-entry.ensures.took _ i.3 ∙ ap (λ (o : Option Entry). taker (entries_of i.0 ++ o ∷ [])) c.in-Some.is
            ∙ ap taker (sym (entries_of-push i.0 e r)),
        ends_done-push i.0 e r c.in-Done.is,
      )),
    ))
