use Rattle.std.proofs.Common.{sym, ap, ◌∙◌, refl}
use Rattle.tn_client.specs.Calls.{End}
use Rattle.tn_client.proofs.Loans.{same_loan, feeds_of, breaks_of}
use Rattle.tn_client.proofs.end.ClientEnd.feed.Goals as goal

pub returns-in-Ok-clause-ok : goal.returns-in-Ok-clause-ok
returns-in-Ok-clause-ok c =
    let f = c.feed_to-fed.ensures in
    let same = same_loan c.feed_to-fed.result _ _ _ _ _ f.ok f.refused f.memory f.failed_hands in
    let here = c.self-2.view_is ∙ c.self-1.given.1 (sym same.end) in
    let out = c.out-1.given.1 (sym same.out) in
    let screen = c.screen-1.given.1 (sym same.screen) in
    rw (← c.self.view_is) (feeds_of _ _ _ _ _ _ _ _ c.feed_to-fed.new.sink refl (rw c.replace-decoder.ensures.value at c.in-Ok.ensures.ok)
    (ap (λ (e : End). record e { decoder = c.feed_to-fed.new.self }) here) (ap (λ o. o.items) out) (ap (λ s. s.items) screen))

pub returns-in-Err-clause-memory : goal.returns-in-Err-clause-memory
returns-in-Err-clause-memory c = λ _.
    let f = c.feed_to-fed.ensures in
    let same = same_loan c.feed_to-fed.result _ _ _ _ _ f.ok f.refused f.memory f.failed_hands in
    let out = c.out-1.given.1 (sym same.out) in
    let screen = c.screen-1.given.1 (sym same.screen) in
    rw (← c.self.view_is) (breaks_of c.feed_to-fed.result _ c.in-Err.is _ _ _ _ _ _ c.feed_to-fed.new.sink refl
    (rw c.replace-decoder.ensures.value at f.refused) (rw c.replace-decoder.ensures.value at f.memory)
    (rw c.replace-decoder.ensures.value at f.failed) f.failed_hands (ap (λ o. o.items) out) (ap (λ s. s.items) screen))
