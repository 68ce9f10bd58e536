use Rattle.std.proofs.Common.{refl, ap, ◌∙◌, ◌++◌, option_to_list}
use Rattle.tn_session.proofs.lemmas.workers.Turning.{kept_on, let_go, none_first, stays_is}
use Rattle.tn_session.specs.workers.Stepping.{stays}
use Rattle.tn_session.proofs.workers.back.advance.Goals as goal

pub returns-in_default : goal.returns-in_default
returns-in_default g c = none_first c.args.queue.now.items c.pop_front.new.self.items c.in_default.ensures.items c.in_default.ensures.rest

pub returns-in_default-step : goal.returns-in_default-step
returns-in_default-step g c = (
  c.in-Some.field-0,
  c.pop_front.ensures.items ∙ ap (λ o. option_to_list o ++ c.pop_front.new.self.items) c.in-Some.is,
  c.in_default-step.ensures.refused,
)

pub returns-then-not-on : goal.returns-then-not-on
returns-then-not-on g c = record {
  runner = c.in-Some.field-0;
  rest = c.pop_front.new.self.items;
  job = c.step.new.self;
  was = c.pop_front.ensures.items ∙ ap (λ o. option_to_list o ++ c.pop_front.new.self.items) c.in-Some.is;
  number = refl;
  step = c.in-Ok.ensures.stepped;
  left = let_go (stays c.args.tostop c.in-Ok.reaction) c.pop_front.new.self.items (record { id = c.in-Some.field-0.id; job = c.step.new.self })
      (stays_is c.args.tostop c.in-Ok.reaction c.as_slice.result.now c.is_empty.result c.goes_on-on.result c.as_slice.ensures c.is_empty.ensures
      c.goes_on-on.ensures ∙ c.if-not-on.true);
}

pub returns : goal.returns
returns g c = record {
  runner = c.in-Some.field-0;
  rest = c.pop_front.new.self.items;
  job = c.step.new.self;
  was = c.pop_front.ensures.items ∙ ap (λ o. option_to_list o ++ c.pop_front.new.self.items) c.in-Some.is;
  number = refl;
  step = c.in-Ok.ensures.stepped;
  left = kept_on (stays c.args.tostop c.in-Ok.reaction) c.pop_front.new.self.items c.push_back_reserved.new.self.items
      (record { id = c.in-Some.field-0.id; job = c.step.new.self })
      (stays_is c.args.tostop c.in-Ok.reaction c.as_slice.result.now c.is_empty.result c.goes_on-on.result c.as_slice.ensures c.is_empty.ensures
      c.goes_on-on.ensures ∙ c.if-not-on.false) c.push_back_reserved.ensures.items;
}
