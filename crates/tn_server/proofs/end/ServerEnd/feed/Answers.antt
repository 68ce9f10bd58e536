use Rattle.std.proofs.Common.{refl, sym, ap, ◌∙◌, true}
use Rattle.tn_server.specs.Calls.{End}
use Rattle.tn_server.proofs.Loans.{same_loan, feeds_of, halts_of, is_refusal, true_is_not_false}
use Rattle.tn_server.proofs.end.ServerEnd.feed.Goals as goal

pub returns-in-Ok-clause-ok : goal.returns-in-Ok-clause-ok
returns-in-Ok-clause-ok c =
    let f = c.feed_to-fed.ensures in
    let same = same_loan c.feed_to-fed.result _ _ _ _ _ f.ok f.refused f.memory f.failed_hands in
    let here = c.self-2.view_is ∙ c.self-1.given.1 (sym same.end) in
    let out = c.out-1.given.1 (sym same.out) in
    rw (← c.self.view_is) (feeds_of _ _ _ _ _ _ _ c.feed_to-fed.new.sink refl (rw c.replace-decoder.ensures.value at c.in-Ok.ensures.ok)
    (ap (λ (e : End). record e { decoder = c.feed_to-fed.new.self }) here) (ap (λ o. o.items) out))

pub returns-in-Err-clause-halts : goal.returns-in-Err-clause-halts
returns-in-Err-clause-halts c = λ _.
    let f = c.feed_to-fed.ensures in
    let same = same_loan c.feed_to-fed.result _ _ _ _ _ f.ok f.refused f.memory f.failed_hands in
    let here = c.self-2.view_is ∙ c.self-1.given.1 (sym same.end) in
    let out = c.out-1.given.1 (sym same.out) in
    rw (← c.self.view_is) (halts_of c.feed_to-fed.result _ c.in-Err.is _ _ _ _ _ _ _ c.feed_to-fed.new.sink refl refl
    (rw c.replace-decoder.ensures.value at f.refused) (rw c.replace-decoder.ensures.value at f.memory)
    (rw c.replace-decoder.ensures.value at f.failed) f.failed_hands (ap (λ (e : End). record e { decoder = c.feed_to-fed.new.self; failed = true }) here)
    (ap (λ o. o.items) out))

pub returns-in-Err-clause-failed : goal.returns-in-Err-clause-failed
returns-in-Err-clause-failed c =
    let f = c.feed_to-fed.ensures in
    let r = is_refusal c.feed_to-fed.result _ c.in-Err.is _ _ _ c.feed_to-fed.new.sink refl f.refused f.memory f.failed_hands in
    rw (← c.self.view_is) (λ e. absurd (r.runs e), λ e. absurd (true_is_not_false (sym e ∙ c.if-self.false)))

pub returns-in-Err-clause-failed_stays : goal.returns-in-Err-clause-failed_stays
returns-in-Err-clause-failed_stays c =
    let f = c.feed_to-fed.ensures in
    let r = is_refusal c.feed_to-fed.result _ c.in-Err.is _ _ _ c.feed_to-fed.new.sink refl f.refused f.memory f.failed_hands in
    λ e. absurd (r.runs e)

pub returns-in-Err-clause-failed_appends : goal.returns-in-Err-clause-failed_appends
returns-in-Err-clause-failed_appends c =
    let f = c.feed_to-fed.ensures in
    let r = is_refusal c.feed_to-fed.result _ c.in-Err.is _ _ _ c.feed_to-fed.new.sink refl f.refused f.memory f.failed_hands in
    λ e. absurd (r.runs e)

pub returns-in-Err-clause-of_piece : goal.returns-in-Err-clause-of_piece
returns-in-Err-clause-of_piece c =
    let f = c.feed_to-fed.ensures in
    let r = is_refusal c.feed_to-fed.result _ c.in-Err.is _ _ _ c.feed_to-fed.new.sink refl f.refused f.memory f.failed_hands in
    r.of_piece

pub returns-in-Err-clause-shut : goal.returns-in-Err-clause-shut
returns-in-Err-clause-shut c =
    let f = c.feed_to-fed.ensures in
    let r = is_refusal c.feed_to-fed.result _ c.in-Err.is _ _ _ c.feed_to-fed.new.sink refl f.refused f.memory f.failed_hands in
    rw (← c.self.view_is) r.shut
