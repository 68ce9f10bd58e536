use Rattle.std.proofs.Common.{rules, ◌≡◌, ◌≢◌, ℕ, List, [], ◌∷◌, refl, ap, ◌∙◌}
use Rattle.tn_discipline.specs.declared.reads.Text.{Text}
use Rattle.tn_jobs.specs.declared.{held_jobs.JobId.JobId, verdicts.After.TheVariants.Stay}
use Rattle.tn_cores.specs.declared.messages.Message.TheVariants.{Said}
use Rattle.tn_session.specs.workers.Reader.{said_by}
use Rattle.tn_session.proofs.workers.reader.last_words.Goals as goal

said_some : (job : JobId) (words : List ℕ) → words ≢ [] → Said job words Stay ∷ [] ≡ said_by job words
said_some job [] some = absurd (some refl)
said_some job (word ∷ words) some = refl

pub returns : goal.returns
returns g c =
    let job = c.in-Some-HangUp.job in
    let words = c.last_words-words.result.now in
    rw (c.in-Some-HangUp.is-0, c.in-Some-HangUp.is-1) (
      words,
      c.last_words-words.ensures.one,
      ap (λ (text : Text). Said job text Stay ∷ []) (c.from-text.ensures ∙ c.in_ok-from_slice.ensures.items)
          ∙ said_some job words (search rules),
    )
