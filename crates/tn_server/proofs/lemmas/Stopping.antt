-- The end that a refused piece leaves, seen from the piece's items.
use Rattle.std.proofs.Common.{◌≡◌, ◌≢◌, ℕ, List, [], ◌∷◌, ◌++◌, length, refl, sym, ap, ◌∙◌, subst, append_assoc}
use Rattle.tn_nvt.specs.{Feeding.{DecoderState, failed}, declared.items.Item.Item}
use Rattle.tn_nvt.specs.Feeding as nvt
use Rattle.tn_pty.specs.{Terminal.max_waiting, declared.pty.PtyFault.TheVariants.TooFarAhead}
use Rattle.tn_linemode.proofs.lemmas.Reading.{stopped_in}
use Rattle.tn_server.specs.{Answering.{first_said, IsStopCause, StopsWithin}, Calls.{End, LeadsTo}, Course.{Course, fed, stream, ReadsAs, CourseLeadsTo}}
use Rattle.tn_server.specs.{Events.{History, items, gets}, Lines.waiting, Replies.items_said, Steps.{end_after_item, end_after_items, says_items}}
use Rattle.tn_server.specs.{Stopping.StopsBetween, declared.faults.ServerFault.{ServerFault, TheVariants.Pty}}
use Rattle.tn_server.proofs.lemmas.{Leading.{stands_all, says_all, stands_halted}, Courses.one_history, Ends.waits_are, Gathering.says_both}
use Rattle.tn_server.proofs.lemmas.Histories.{gets-append}

-- a prefix of the first reply is a prefix of the replies to all items
pub front_said : (end : End) (left more part rest : List Item) → first_said end left ≡ part ++ rest → (unsaid : List Item)
    × (says_items end (left ++ more) ≡ part ++ unsaid)
front_said end [] more part rest e =
    (says_items end more, ap (λ (xs : List Item). xs ++ says_items end more) (no_front part rest (sym e)))
  where
    no_front : (xs ys : List Item) → xs ++ ys ≡ [] → [] ≡ xs
    no_front [] ys f = refl
    no_front (x ∷ xs) ys f = absurd (cc)
front_said end (item ∷ left) more part rest e =
    let later = says_items (end_after_item end item) (left ++ more) in
    (rest ++ later, ap (λ (xs : List Item). xs ++ later) e ∙ append_assoc part rest later)

-- a decoder that has read a stream has not failed
pub has_read : (d : DecoderState) (bytes : List ℕ) (had : List Item) → nvt.LeadsTo bytes had d → d ≢ failed
has_read d bytes had r = λ is. (subst (λ x. nvt.LeadsTo bytes had x) is r).stands

-- after a refused piece the end is at the history that has the items that were done
pub stands_stopped : (h : History) (old new : End) (piece before after : List ℕ) (fault : ServerFault) → (s : StopsWithin old piece fault before after new)
    → LeadsTo h old → LeadsTo (gets h s.done) new
stands_stopped h old new piece before after fault s leads =
    stands_halted (gets h s.done) (end_after_items old s.done) new s.step (stands_all h old s.done leads)

-- the pair was too far behind at an item, and then as many waited as may
pub many_by : (end : End) (left : List Item) (here : DecoderState) (back : List ℕ) → IsStopCause end left here back (Pty TooFarAhead)
    → length end.terminal.entries ≡ max_waiting
many_by end [] here back why = absurd (let f = why.0 in cc)
many_by end (item ∷ left) here back why = why.1

pub many_wait : (h : History) (old new : End) (piece before after : List ℕ) (fault : ServerFault) (s : StopsWithin old piece fault before after new)
    → fault ≡ Pty TooFarAhead → old.decoder ≢ failed → LeadsTo h old → length (waiting (gets h s.done)) ≡ max_waiting
many_wait h old new piece before after fault s is runs leads =
    let end = end_after_items old s.done in
    ap length (waits_are (gets h s.done) end (stands_all h old s.done leads))
    ∙ many_by end s.left s.here s.back (subst (λ (f : ServerFault). IsStopCause end s.left s.here s.back f) is (s.cause runs))

pub stopped : (c : Course) (old new : End) (piece before after : List ℕ) (fault : ServerFault) (h whole : History) → CourseLeadsTo c old
    → StopsWithin old piece fault before after new → ReadsAs c h → ReadsAs (fed c piece) whole → StopsBetween h whole fault before after new
stopped c old new piece before after fault h whole a s leads also =
    subst (λ (x : History). StopsBetween x whole fault before after new) (one_history c a.history h a.reads_as leads)
    (go (one_history c also.0 a.history also.2 a.reads_as))
  where
    go : also.0 ≡ a.history → StopsBetween a.history whole fault before after new
    go same =
        let k = a.history in
        let here = s.reads (stream c) (items k) a.reads in
        let others = stopped_in items gets gets-append also.0 k whole (stream c) piece s.front s.back also.1 s.done s.left same s.whole
        (a.reads.rest, a.reads.reading) (here.rest, here.reading) also.3 also.4 in
        let all = s.done ++ (s.left ++ others.0) in
        let said = says_items old s.done in
        let u = front_said (end_after_items old s.done) s.left others.0 s.part s.rest s.begins in
        let told : says_items old all ≡ (said ++ s.part) ++ u.0 =
        says_both old s.done (s.left ++ others.0) ∙ ap (λ (xs : List Item). said ++ xs) u.1 ∙ sym (append_assoc said s.part u.0) in
        record {
          done = s.done;
          left = s.left ++ others.0;
          goes_on = others.1;
          leads = stands_stopped k old new piece before after fault s a.leads;
          said = said ++ s.part;
          unsaid = u.0;
          appended = s.said;
          sends =
              ap items_said (others.1 ∙ sym (gets-append k s.done (s.left ++ others.0))) ∙ says_all k old all a.leads
              ∙ ap (λ (xs : List Item). items_said k ++ xs) told;
          too_far = λ is. many_wait k old new piece before after fault s is (has_read old.decoder (stream c) (items k) a.reads) a.leads;
        }
