use Rattle.std.proofs.Common.{ℕ, List, refl, sym, ap, ◌∙◌}
use Rattle.tn_c.specs.parts.OwnOptions.{has_option}
use Rattle.tn_c.proofs.of_parts.Saying.{word_put, word_starved, word_unknown, word_not_owned}
use Rattle.tn_c.proofs.parts.owned.Owned.put_word.Goals as goal

pub returns-then-not-has_option : goal.returns-then-not-has_option
returns-then-not-has_option c =
    word_not_owned c.args.self.now.sieve.options.items c.args.option c.args.out.now _ c.args.word
    (sym (ap (λ (l : List ℕ). has_option l c.args.option) c.as_slice.ensures.value) ∙ sym c.has_option.ensures ∙ c.if-not-has_option.true) refl

pub returns-in-Ok : goal.returns-in-Ok
returns-in-Ok c =
    word_put c.args.self.now.sieve.options.items c.args.option c.args.out.now _ c.args.word c.in-Some.verb
    (sym (ap (λ (l : List ℕ). has_option l c.args.option) c.as_slice.ensures.value) ∙ sym c.has_option.ensures ∙ c.if-not-has_option.false) c.in-Some.ensures c.in-Ok.ensures.ok

pub returns-in-Err : goal.returns-in-Err
returns-in-Err c =
    word_starved c.args.self.now.sieve.options.items c.args.option c.args.out.now _ c.args.word c.in-Some.verb
    (sym (ap (λ (l : List ℕ). has_option l c.args.option) c.as_slice.ensures.value) ∙ sym c.has_option.ensures ∙ c.if-not-has_option.false) c.in-Some.ensures c.in-Err.ensures.err c.in-Err.ensures.full

pub returns-in-None : goal.returns-in-None
returns-in-None c =
    word_unknown c.args.self.now.sieve.options.items c.args.option c.args.out.now _ c.args.word
    (sym (ap (λ (l : List ℕ). has_option l c.args.option) c.as_slice.ensures.value) ∙ sym c.has_option.ensures ∙ c.if-not-has_option.false) (λ verb n. absurd (let e = (c.in-None.ensures verb).1 n in cc)) refl
