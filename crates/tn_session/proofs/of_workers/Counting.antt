-- The thread that reads takes a credit for each piece, and that of the background jobs uses one for each step.
use Rattle.std.proofs.Common.{◌≡◌, ℕ, ◌+◌, List, [], ◌∷◌, ◌++◌, Option, Some, None, refl, sym, ap, ◌∙◌, subst, arith, length, length-append, map}
use Rattle.std.proofs.lemmas.List.{map-append}
use Rattle.tn_jobs.specs.declared.{held_jobs.JobId.JobId, reactions.Reaction.Reaction}
use Rattle.tn_cores.specs.declared.messages.Message.{Message, TheVariants.{Piece, HangUp, ReadFailed, Take, Said, Refused, Left, Resized, Asked}}
use Rattle.tn_session.specs.workers.{Credits.{HaveUsed, HaveTaken, piece_one, pieces_among, steps_among}, Mailbox.{mail, sender}, Reader.{SaysAll, sends}}
use Rattle.tn_session.specs.workers.{Reading.{IsEnding, Telling, piece_told, size_told, control_told, told_messages, pieces_in}, Stepping.step_said}
use Rattle.tn_session.specs.declared.workers.{channels.View.View, credit.{CreditSeat.CreditSeat, StepCredits.StepCredits}, mail.{Mail.Mail, Sender.Sender}}
use Rattle.tn_session.specs.declared.workers.mail.Sender.TheVariants.{Net, Desk, Back, Keys}
use Rattle.tn_session.proofs.lemmas.workers.Readers.{IsSaid, Says, if_said, said, said_all, said_piece, pieces-push}

pub taken_none : (o : Option CreditSeat) → HaveTaken 0 o o
taken_none None = tt
taken_none (Some seat) = omega arith

pub taken_more : (n : ℕ) (a b d : Option CreditSeat) → HaveTaken n a b → HaveTaken 1 b d → HaveTaken (n + 1) a d
taken_more n None None None p q = tt
taken_more n None None (Some d) p q = absurd q
taken_more n None (Some b) d p q = absurd p
taken_more n (Some a) None d p q = absurd p
taken_more n (Some a) (Some b) None p q = absurd q
taken_more n (Some a) (Some b) (Some d) p q = omega (arith, p, q)

pub taken_piece : (ps : List (List ℕ)) (p : List ℕ) (a b d : Option CreditSeat) → HaveTaken (length ps) a b → HaveTaken 1 b d
    → HaveTaken (length (ps ++ p ∷ [])) a d
taken_piece ps p a b d h one = subst (λ (n : ℕ). HaveTaken n a d) (sym (length-append ps (p ∷ []))) (taken_more (length ps) a b d h one)

pieces-append : (xs ys : List Mail) → pieces_among (xs ++ ys) ≡ pieces_among xs + pieces_among ys
pieces-append [] ys = omega arith
pieces-append (x ∷ xs) ys = omega (arith, pieces-append xs ys)

count_told : (who : Sender) (told : List Telling) → pieces_among (map (mail who) (told_messages told)) ≡ length (pieces_in told)
count_told who [] = refl
count_told who (piece_told p ∷ told) = omega (arith, count_told who told)
count_told who (size_told s ∷ told) = omega (arith, count_told who told)
count_told who (control_told c ∷ told) = omega (arith, count_told who told)

sender_is : (who : Sender) (a b : List Mail) → sender who a ≡ sender who b → a ≡ b
sender_is Net a b e = let same : Some a ≡ Some b = ap (λ (v : View). v.net) e in cc
sender_is Desk a b e = let same : Some a ≡ Some b = ap (λ (v : View). v.desk) e in cc
sender_is Back a b e = let same : Some a ≡ Some b = ap (λ (v : View). v.back) e in cc
sender_is Keys a b e = let same : Some a ≡ Some b = ap (λ (v : View). v.keys) e in cc

no_piece : (last : Message) (left : Option (List ℕ)) → IsEnding last left → piece_one last ≡ 0
no_piece HangUp left e = refl
no_piece ReadFailed left e = refl
no_piece Refused left e = refl
no_piece (Piece p) left e = absurd e
no_piece Take left e = refl
no_piece (Said id text after) left e = refl
no_piece Left left e = refl
no_piece (Resized s) left e = refl
no_piece (Asked control) left e = refl

counted : (who : Sender) (told : List Telling) (close : List Message) (v : View) (mails : List Mail) → v ≡ sends who (told_messages told ++ close)
    → pieces_among (map (mail who) close) ≡ 0 → v ≡ sender who mails → pieces_among mails ≡ length (pieces_in told)
counted who told close v mails e none f =
    let all = map (mail who) (told_messages told) ++ map (mail who) close in
    let same : mails ≡ all = sender_is who mails all (sym f ∙ e ∙ ap (sender who) (map-append (mail who) (told_messages told) close)) in
    omega (arith, ap pieces_among same, pieces-append (map (mail who) (told_messages told)) (map (mail who) close), count_told who told, none)

as_many : (n m : ℕ) (a b : Option CreditSeat) → n ≡ m → HaveTaken m a b → HaveTaken n a b
as_many n m a b e h = subst (λ (k : ℕ). HaveTaken k a b) (sym e) h

-- the reading ended
pub paid_ends : (who : Sender) (told : List Telling) (last : Message) (left : Option (List ℕ)) (text : List Message) (v w : View) (a b : Option CreditSeat)
    → IsEnding last left → IsSaid text → HaveTaken (length (pieces_in told)) a b → v ≡ sends who (told_messages told)
    → SaysAll who (text ++ last ∷ Left ∷ []) v w → (mails : List Mail) → w ≡ sender who mails → HaveTaken (pieces_among mails) a b
paid_ends who told last left text v w a b ending is taken old says mails e =
    let whole = said_all who (told_messages told) (text ++ last ∷ Left ∷ []) v w old says in
    let one : pieces_among (map (mail who) (last ∷ Left ∷ [])) ≡ 0 = omega (arith, no_piece last left ending) in
    let none = if_said (λ (ms : List Message). pieces_among (map (mail who) (ms ++ last ∷ Left ∷ [])) ≡ 0) text is one
    (λ job words. omega (arith, no_piece last left ending)) in
    as_many (pieces_among mails) (length (pieces_in told)) a b (counted who told (text ++ last ∷ Left ∷ []) w mails whole none e) taken

-- the reading was stopped after a piece
pub paid_stops : (who : Sender) (told : List Telling) (p : List ℕ) (v w u : View) (a b d : Option CreditSeat) → HaveTaken (length (pieces_in told)) a b
    → HaveTaken 1 b d → v ≡ sends who (told_messages told) → Says who (Piece p) v w → Says who Left w u → (mails : List Mail) → u ≡ sender who mails
    → HaveTaken (pieces_among mails) a d
paid_stops who told p v w u a b d taken one_more old one two mails e =
    let all = told ++ piece_told p ∷ [] in
    let whole = said who (told_messages all) Left w u (said_piece who told p v w old one) two in
    let count : pieces_among mails ≡ length (pieces_in told) + 1 =
    counted who all (Left ∷ []) u mails whole refl e ∙ ap length (pieces-push told p) ∙ length-append (pieces_in told) (p ∷ []) in
    as_many (pieces_among mails) (length (pieces_in told) + 1) a d count (taken_more (length (pieces_in told)) a b d taken one_more)

-- CREDITS FOR STEPS

pub used_none : (c : StepCredits) → HaveUsed 0 c c
used_none c = omega arith

pub used_more : (n : ℕ) (a b d : StepCredits) → HaveUsed n a b → HaveUsed 1 b d → HaveUsed (n + 1) a d
used_more n a b d p q = omega (arith, p, q)

-- one was used for nothing
pub used_still : (n : ℕ) (a b d : StepCredits) → HaveUsed n a b → HaveUsed 1 b d → HaveUsed n a d
used_still n a b d p q = omega (arith, p, q)

steps-append : (xs ys : List Mail) → steps_among (xs ++ ys) ≡ steps_among xs + steps_among ys
steps-append [] ys = omega arith
steps-append (x ∷ xs) ys = omega (arith, steps-append xs ys)

count_steps : (ss : List (JobId × Reaction)) → steps_among (map (mail Back) (map step_said ss)) ≡ length ss
count_steps [] = refl
count_steps (s ∷ ss) = omega (arith, count_steps ss)

-- the thread used one credit for each step that it sent
pub used_for : (ss : List (JobId × Reaction)) (close : List Message) (v : View) (a b : StepCredits) → HaveUsed (length ss) a b
    → v ≡ sender Back (map (mail Back) (map step_said ss ++ close)) → steps_among (map (mail Back) close) ≡ 0 → (mails : List Mail) → v ≡ sender Back mails
    → HaveUsed (steps_among mails) a b
used_for ss close v a b used is none mails e =
    let all = map (mail Back) (map step_said ss) ++ map (mail Back) close in
    let same : mails ≡ all = sender_is Back mails all (sym e ∙ is ∙ ap (sender Back) (map-append (mail Back) (map step_said ss) close)) in
    omega (arith, used, ap steps_among same, steps-append (map (mail Back) (map step_said ss)) (map (mail Back) close), count_steps ss, none)
