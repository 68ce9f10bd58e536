-- The writer is finished once, and nothing is written after that.
use Rattle.std.proofs.Common.{◌≡◌, Bool, true, false, ◌||◌, Option, refl, ap, ◌∙◌, subst, sym}
use Rattle.tn_session.specs.Closing.{Closes}
use Rattle.tn_cores.specs.streams.Sending.{Sending, finished_on, StaysOpen, IsFinished}

-- the state of the writer: more may come, or it was finished and nothing more is sent
abbrev pub StandsAt : Bool → Bool → Option Sending → Option Sending → Type 0
StandsAt false done first now = StaysOpen first now
StandsAt true done first now = IsFinished first now × (done ≡ true)

pub open_none : (a : Option Sending) → StaysOpen a a
open_none a e = e

pub open_finished : (a b c : Option Sending) → StaysOpen a b → IsFinished b c → IsFinished a c
open_finished a b c one two e = two (one e)

-- one message more: nothing is written once nothing more is sent
pub stands_next : (closes closed told done now : Bool) (first old mid new : Option Sending) → StandsAt closed done first old → StaysOpen old mid
    → (done ≡ true → mid ≡ old) → (done ≡ true → now ≡ true) → closes ≡ now → Closes closes closed told mid new → StandsAt told now first new
stands_next closes true told done now first old mid new at more silent stays by c =
    let P : Bool → Type 0 = λ t. StandsAt t now first new in
    subst P (sym c.0) (λ e. c.1 ∙ silent at.1 ∙ at.0 e, stays at.1)
stands_next true false told done now first old mid new at more silent stays by c =
    let P : Bool → Type 0 = λ t. StandsAt t now first new in
    subst P (sym c.0) (λ e. c.1 ∙ ap finished_on (more (at e)), sym by)
stands_next false false told done now first old mid new at more silent stays by c =
    let P : Bool → Type 0 = λ t. StandsAt t now first new in
    subst P (sym c.0) (λ e. c.1 ∙ more (at e))

-- the sending was finished at the end
pub stands_last : (closed done : Bool) (first old new : Option Sending) → StandsAt closed done first old → Closes true closed true old new
    → IsFinished first new
stands_last true done first old new at c e = c.1 ∙ at.0 e
stands_last false done first old new at c e = c.1 ∙ ap finished_on (at e)

right : (c d : Bool) → d ≡ true → (c || d) ≡ true
right true d e = refl
right false d e = e

pub stays_done : (a b c d : Bool) → (a ≡ true → c ≡ true) → (b ≡ true → d ≡ true) → (a || b) ≡ true → (c || d) ≡ true
stays_done true b c d one two e = ap (λ (x : Bool). x || d) (one refl)
stays_done false b c d one two e = right c d (two e)

pub or_elim : {A : Type 0} (a b : Bool) → (a || b) ≡ true → (a ≡ true → A) → (b ≡ true → A) → A
or_elim true b e one two = one refl
or_elim false b e one two = two e
