use Rattle.std.proofs.Common.{ap, map, subst, ◌∙◌, List}
use Rattle.tn_net.specs.network.Asked.{Listens, Place, at_place}
use Rattle.tn_serve.specs.{Causes.{FailsBy, place_at}, declared.served.Served.Served}
use Rattle.tn_program.proofs.Asked.{always, answers, counted_alone, counted_joined, joins, unless}
use Rattle.tn_program.proofs.serving.serve_noted.Goals as goal

pub returns-in_default-clause-counted : goal.returns-in_default-clause-counted
returns-in_default-clause-counted g c =
    counted_alone c.serve.result c.args.asked.now.to _ _ c.in_default.is
    (answers _ _ _ _ _ _ c.answering_of-service.result.ticks _ c.serving_of-serving.ensures.options c.answering_of-service.ensures c.serve.ensures.each)

pub returns-in_err-from_str-clause-listened : goal.returns-in_err-from_str-clause-listened
returns-in_err-from_str-clause-listened g c = unless _ _ c.from_residual-in_err-from_str.ensures.1

pub returns-clause-counted : goal.returns-clause-counted
returns-clause-counted g c =
    counted_joined c.serve-2.result c.args.asked.now.to c.in-Some.to _ _ c.in-Some.is
    (joins _ _ _ _ c.args.rt c.in-Some.to.port c.args.asked.now.dial _ _ _ _ _ _ c.serving_of-serving.ensures.options
    (c.in_ok-from_str.ensures.ok ∙ c.as_str.ensures.value) c.lines_of.ensures c.serve-2.ensures.each)

pub returns-in_default-clause-listened : goal.returns-in_default-clause-listened
returns-in_default-clause-listened g c = always _ _ (subst (λ (places : List Place). Listens (at_place (g.H.Network.listens c.args.rt))
    (g.H.Network.shares c.args.rt) (g.H.Network.accepts c.args.rt) places (λ (served : Served). served.accepted)
    (λ error ended. FailsBy error ended) c.serve.result) (ap (map place_at) c.deref.ensures.value ∙ c.in_ok-at.ensures) c.serve.ensures.listened)

pub returns-clause-listened : goal.returns-clause-listened
returns-clause-listened g c = always _ _ (subst (λ (places : List Place). Listens (at_place (g.H.Network.listens c.args.rt))
    (g.H.Network.shares c.args.rt) (g.H.Network.accepts c.args.rt) places (λ (served : Served). served.accepted)
    (λ error ended. FailsBy error ended) c.serve-2.result) (ap (map place_at) c.deref-2.ensures.value ∙ c.in_ok-at.ensures) c.serve-2.ensures.listened)
