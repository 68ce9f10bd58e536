use Rattle.std.proofs.Common.{ℕ, List, refl, sym, ap, ◌∙◌, arith}
use Rattle.tn_c.specs.parts.OwnOptions.{has_option}
use Rattle.tn_c.proofs.of_parts.Saying.{sub_put, sub_starved, sub_long, sub_not_owned}
use Rattle.tn_c.proofs.parts.owned.Owned.put_sub.Goals as goal

pub returns-then-not-has_option : goal.returns-then-not-has_option
returns-then-not-has_option c =
    sub_not_owned c.args.self.now.sieve.options.items c.args.option c.args.out.now _ c.args.params.now
    (sym (ap (λ (l : List ℕ). has_option l c.args.option) c.as_slice.ensures.value) ∙ sym c.has_option.ensures ∙ c.if-not-has_option.true) refl

pub returns-then-params-gt-MAX_PARAMETERS : goal.returns-then-params-gt-MAX_PARAMETERS
returns-then-params-gt-MAX_PARAMETERS c =
    sub_long c.args.self.now.sieve.options.items c.args.option c.args.out.now _ c.args.params.now
    (sym (ap (λ (l : List ℕ). has_option l c.args.option) c.as_slice.ensures.value) ∙ sym c.has_option.ensures ∙ c.if-not-has_option.false) (omega (arith, c.if-params-gt-MAX_PARAMETERS.true)) refl

pub returns-in-Ok : goal.returns-in-Ok
returns-in-Ok c =
    sub_put c.args.self.now.sieve.options.items c.args.option c.args.out.now _ c.args.params.now
    (sym (ap (λ (l : List ℕ). has_option l c.args.option) c.as_slice.ensures.value) ∙ sym c.has_option.ensures ∙ c.if-not-has_option.false) (omega (arith, c.if-params-gt-MAX_PARAMETERS.false)) c.in-Ok.ensures.ok

pub returns-in-Err : goal.returns-in-Err
returns-in-Err c =
    sub_starved c.args.self.now.sieve.options.items c.args.option c.args.out.now _ c.args.params.now
    (sym (ap (λ (l : List ℕ). has_option l c.args.option) c.as_slice.ensures.value) ∙ sym c.has_option.ensures ∙ c.if-not-has_option.false) (omega (arith, c.if-params-gt-MAX_PARAMETERS.false)) c.in-Err.ensures.err c.in-Err.ensures.full
