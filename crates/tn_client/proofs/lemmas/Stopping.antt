-- The end that a refused piece leaves, seen from the piece's items.
use Rattle.std.proofs.Common.{◌≡◌, ℕ, List, [], ◌∷◌, ◌++◌, sym, ap, ◌∙◌, subst, append_assoc}
use Rattle.tn_nvt.specs.{Feeding.DecoderState, declared.items.Item.Item}
use Rattle.tn_linemode.proofs.lemmas.Reading.{stopped_in}
use Rattle.tn_client.specs.{Course.{Course, fed, stream, ReadsAs, CourseLeadsTo}, Calls.End, Steps.{end_after_item, end_after_items, says_items, items_shown}}
use Rattle.tn_client.specs.{Events.{History, items, gets}, Replies.items_said, Screen.text_shown, Answering.{IsStopCause, StopsWithin}, Stopping.StopsBetween}
use Rattle.tn_client.proofs.lemmas.{Courses.one_history, Histories.gets-append, Gathering.{says_both, shown_both}, Standings.{says_all, shows_all}}

-- a prefix of the first reply is a prefix of the replies to all items
pub front_said : (end : End) (left more part : List Item) (here : DecoderState) (back : List ℕ) → IsStopCause end left part here back → (unsaid : List Item)
    × (says_items end (left ++ more) ≡ part ++ unsaid)
front_said end [] more part here back why = (says_items end more, ap (λ (xs : List Item). xs ++ says_items end more) (sym why.0))
front_said end (item ∷ left) more part here back why =
    let later = says_items (end_after_item end item) (left ++ more) in
    (why.rest ++ later, ap (λ (xs : List Item). xs ++ later) why.whole ∙ append_assoc part why.rest later)

pub stopped : (c : Course) (old : End) (piece before after seen now : List ℕ) (h whole : History) → CourseLeadsTo c old
    → StopsWithin old piece before after seen now → ReadsAs c h → ReadsAs (fed c piece) whole → StopsBetween h whole before after seen now
stopped c old piece before after seen now h whole a s leads also =
    subst (λ (x : History). StopsBetween x whole before after seen now) (one_history c a.history h a.reads_as leads)
    (go (one_history c also.0 a.history also.2 a.reads_as))
  where
    go : also.0 ≡ a.history → StopsBetween a.history whole before after seen now
    go same =
        let k = a.history in
        let here = s.reads (stream c) (items k) a.reads in
        let others = stopped_in items gets gets-append also.0 k whole (stream c) piece s.front s.back also.1 s.done s.left same s.whole
        (a.reads.rest, a.reads.reading) (here.rest, here.reading) also.3 also.4 in
        let all = s.done ++ (s.left ++ others.0) in
        let u = front_said (end_after_items old s.done) s.left others.0 s.part s.here s.back (s.cause (stream c) (items k) a.reads) in
        let said = says_items old s.done in
        let told : says_items old all ≡ (said ++ s.part) ++ u.0 =
        says_both old s.done (s.left ++ others.0) ∙ ap (λ (xs : List Item). said ++ xs) u.1 ∙ sym (append_assoc said s.part u.0) in
        let here : whole ≡ gets k all = others.1 ∙ sym (gets-append k s.done (s.left ++ others.0)) in
        record {
          said = said ++ s.part;
          unsaid = u.0;
          appended = s.said;
          sends = ap items_said here ∙ says_all k old all a.leads ∙ ap (λ (xs : List Item). items_said k ++ xs) told;
          text = items_shown s.done;
          unshown = items_shown (s.left ++ others.0);
          displayed = s.shown;
          shows = ap text_shown here ∙ shows_all k all ∙ ap (λ (xs : List ℕ). text_shown k ++ xs) (shown_both s.done (s.left ++ others.0));
        }
