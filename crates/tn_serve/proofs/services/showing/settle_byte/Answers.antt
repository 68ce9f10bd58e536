use Rattle.std.proofs.{Common.{◌≡◌, ◌++◌, [], ◌∷◌, ℕ, Bool, true, false, List, sym, ap, ap₂, ◌∙◌, append_assoc, append-nil, length, arith}, lemmas.Bool.ne_eqb}
use Rattle.tn_serve.specs.services.NewLines.{ends_by_return, settled, waiting}
use Rattle.tn_serve.proofs.of_services.NewLines.{both_other, feed_waits_not, one_feed, one_other, one_return, other_waits_not, return_waits}
use Rattle.tn_serve.proofs.services.showing.settle_byte.Goals as goal

pub returns-in-true-eq13-clause-items : goal.returns-in-true-eq13-clause-items
returns-in-true-eq13-clause-items c =
    let is = c.in-true-eq13 in
    c.push_reserved.ensures.items ∙ ap (λ (l : List ℕ). c.args.text.now.items ++ l)
    (sym (ap₂ (λ (w : Bool) (b : ℕ). settled (waiting w ++ b ∷ [])) is.is-0 is.is-1 ∙ one_return true))

pub returns-in-true-eq13-clause-waits : goal.returns-in-true-eq13-clause-waits
returns-in-true-eq13-clause-waits c = return_waits ∙ ap (λ (b : ℕ). ends_by_return (b ∷ [])) (sym c.in-true-eq13.is-1)

pub returns-in-true-eq10-clause-items : goal.returns-in-true-eq10-clause-items
returns-in-true-eq10-clause-items c =
    let is = c.in-true-eq10 in
    c.push_reserved-in-true-eq10.ensures.items ∙ ap (λ (l : List ℕ). c.args.text.now.items ++ l)
    (sym (ap₂ (λ (w : Bool) (b : ℕ). settled (waiting w ++ b ∷ [])) is.is-0 is.is-1 ∙ one_feed))

pub returns-in-true-eq10-clause-waits : goal.returns-in-true-eq10-clause-waits
returns-in-true-eq10-clause-waits c = feed_waits_not ∙ ap (λ (b : ℕ). ends_by_return (b ∷ [])) (sym c.in-true-eq10.is-1)

pub returns-in-true-default-clause-items : goal.returns-in-true-default-clause-items
returns-in-true-default-clause-items c =
    let byte = c.args.byte in
    let text = c.args.text.now.items in
    let is = c.in-true-default in
    c.push_reserved-in-true-default-2.ensures.items
    ∙ ap (λ (l : List ℕ). l ++ byte ∷ []) c.push_reserved-in-true-default.ensures.items
    ∙ append_assoc text (13 ∷ []) (byte ∷ [])
    ∙ ap (λ (l : List ℕ). text ++ l) (sym (ap (λ (w : Bool). settled (waiting w ++ byte ∷ [])) is.is-0
    ∙ both_other byte (ne_eqb byte 13 is.is-1.0.1) (ne_eqb byte 10 is.is-1.1)))

pub returns-in-true-default-clause-waits : goal.returns-in-true-default-clause-waits
returns-in-true-default-clause-waits c = other_waits_not c.args.byte (ne_eqb c.args.byte 13 c.in-true-default.is-1.0.1)

pub push_reserved-requires-in-true-default-2 : goal.push_reserved-requires-in-true-default-2
push_reserved-requires-in-true-default-2 c =
    let one : length (waiting c.args.waited) ≡ 1 = ap (λ (w : Bool). length (waiting w)) c.in-true-default.is-0 in
    omega (arith, one, c.requires, c.push_reserved-in-true-default.ensures.len, c.push_reserved-in-true-default.ensures.capacity)

pub returns-in-false-eq13-clause-items : goal.returns-in-false-eq13-clause-items
returns-in-false-eq13-clause-items c =
    let is = c.in-false-eq13 in
    let text = c.args.text.now.items in
    sym (append-nil text) ∙ ap (λ (l : List ℕ). text ++ l) (sym (ap₂ (λ (w : Bool) (b : ℕ). settled (waiting w ++ b ∷ [])) is.is-0 is.is-1 ∙ one_return false))

pub returns-in-false-eq13-clause-waits : goal.returns-in-false-eq13-clause-waits
returns-in-false-eq13-clause-waits c = return_waits ∙ ap (λ (b : ℕ). ends_by_return (b ∷ [])) (sym c.in-false-eq13.is-1)

pub returns-in-false-default-clause-items : goal.returns-in-false-default-clause-items
returns-in-false-default-clause-items c =
    let byte = c.args.byte in
    let is = c.in-false-default in
    c.push_reserved-in-false-default.ensures.items ∙ ap (λ (l : List ℕ). c.args.text.now.items ++ l)
    (sym (ap (λ (w : Bool). settled (waiting w ++ byte ∷ [])) is.is-0 ∙ one_other byte (ne_eqb byte 13 is.is-1.1)))

pub returns-in-false-default-clause-waits : goal.returns-in-false-default-clause-waits
returns-in-false-default-clause-waits c = other_waits_not c.args.byte (ne_eqb c.args.byte 13 c.in-false-default.is-1.1)
