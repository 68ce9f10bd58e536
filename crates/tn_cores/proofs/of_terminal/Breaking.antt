-- The state that is left if a call is refused.
use Rattle.std.proofs.Common.{◌≡◌, ℕ, Bool, true, false, List, [], ◌∷◌, ◌++◌, Option, Result, Ok, Err, IfOk, IfErr, refl, sym, ap, ◌∙◌, subst, append-nil}
use Rattle.std.proofs.{Common.{append_assoc, length, arith, ◌<◌, All}, lemmas.List.Elements.{All-nil, All-cons}}
use Rattle.std.specs.List.{concat}
use Rattle.tn_cores.proofs.{lemmas.Pieces.read_on, of_terminal.Following.in_parts-append}
use Rattle.tn_server.specs.{Faults.{IsOfItem, IsOfPiece}, Answering.StopsWithin, Calls.End, Steps.{end_after_items, says_items}, Course.in_parts, Lines.waiting}
use Rattle.tn_server.specs.{declared.faults.ServerFault.ServerFault, Events.{History, next, took, wrote, pulled, gets, items}, Replies.{items_said, replies}}
use Rattle.tn_server.specs.Screen.{queue}
use Rattle.tn_server.proofs.lemmas.{Gathering.says_both, Leading.says_all, Stopping.front_said}
use Rattle.tn_server.specs.declared.faults.ServerFault.TheVariants as server
use Rattle.tn_discipline.specs.declared.reads.Entry.{Entry}
use Rattle.tn_nvt.proofs.lemmas.Reading.{spells-append}
use Rattle.tn_nvt.specs.{Spelling.spells, declared.items.Item.Item}
use Rattle.tn_cores.specs.server.{Counting.{after_halt, after_piece}, Reaching.{LeadsTo, AdvancesRun, BreaksOff, FeedBreaksOff, HaltsIf}}
use Rattle.tn_cores.specs.server.Run.{Run, Reads, flushed_history, show, ask, ask_if, answer, halt, halt_if, end_if, IsPart}
use Rattle.tn_cores.specs.declared.server.{progress.ServerProgress.ServerProgress, terminal.Term.Term}

-- the longer history sends more
abbrev pub Grows : History → History → Type 0
Grows h k = (more : List Item) × (items_said k ≡ items_said h ++ more)

pub grows_none : (h : History) → Grows h h
grows_none h = ([], sym (append-nil (items_said h)))

pub grows_then : (h k l : History) → Grows h k → Grows k l → Grows h l
grows_then h k l (xs, one) (ys, two) = (xs ++ ys, two ∙ ap (λ (zs : List Item). zs ++ ys) one ∙ append_assoc (items_said h) xs ys)

pub grows_flushed : (h : History) → Grows h (flushed_history h)
grows_flushed h = (replies h (pulled (length (queue h))), refl)

pub grows_parts : (h : History) (parts : List (List ℕ)) → Grows h (in_parts h parts)
grows_parts h [] = grows_none h
grows_parts h (part ∷ parts) =
    let k = flushed_history (next h (wrote part)) in
    grows_then h k (in_parts k parts) (grows_then h (next h (wrote part)) k ([], refl) (grows_flushed (next h (wrote part)))) (grows_parts k parts)

pub kept_history : (c : Run) (ws : List Entry) → (answer c ws).history ≡ c.history
kept_history c [] = refl
kept_history c (w ∷ ws) = refl

pub grows_ask : (c : Run) → Grows c.history (ask c).history
grows_ask c = (replies c.history took, ap items_said (kept_history (record c { history = next c.history took }) (waiting c.history)))

pub grows_ask_if : (b : Bool) (c : Run) → Grows c.history (ask_if b c).history
grows_ask_if true c = grows_ask c
grows_ask_if false c = grows_none c.history

-- the items that are sent more are spelled after the others
pub spelled_more : (h k : History) → Grows h k → (rest : List ℕ) × (spells (items_said k) ≡ spells (items_said h) ++ rest)
spelled_more h k (more, e) = (spells more, ap spells e ∙ spells-append (items_said h) more)

pub rest_more : (h k l : History) (part : List ℕ) → (rest : List ℕ) × (spells (items_said k) ≡ spells (items_said h) ++ (part ++ rest)) → Grows k l
    → (rest : List ℕ) × (spells (items_said l) ≡ spells (items_said h) ++ (part ++ rest))
rest_more h k l part (rest, e) g =
    let m = spelled_more k l g in (
      rest ++ m.0,
      m.1 ∙ ap (λ (bs : List ℕ). bs ++ m.0) e ∙ append_assoc (spells (items_said h)) (part ++ rest) m.0
          ∙ ap (λ (bs : List ℕ). spells (items_said h) ++ bs) (append_assoc part rest m.0),
    )

-- nothing was done of a change that only sends more
pub breaks_at_once : (change : Run → Run) (t new : Term) (x y : List ℕ) → new ≡ t → y ≡ x → ((c : Run) → Grows c.history (change c).history)
    → ((c : Run) → (change c).progress ≡ c.progress) → ((c : Run) → (change c).puts ≡ c.puts) → BreaksOff change t x y [] new
breaks_at_once change t new x y is same grows stays puts = record {
  part = [];
  appended = same ∙ sym (append-nil x);
  sends = λ c at. spelled_more c.history (change c).history (grows c);
  progress = λ c at. ap (λ (u : Term). u.progress) is ∙ at.progress ∙ sym (stays c);
  puts = λ c at. puts c ∙ sym (append-nil c.puts);
}

pub breaks_after : (f g : Run → Run) (a b d : Term) (x y z : List ℕ) (p q : List (Option Entry)) → AdvancesRun f a x y p b → BreaksOff g b y z q d
    → BreaksOff (λ c. g (f c)) a x z (p ++ q) d
breaks_after f g a b d x y z p q one two = record {
  part = spells one.said ++ two.part;
  appended = two.appended ∙ ap (λ (bs : List ℕ). bs ++ two.part) one.appended ∙ append_assoc x (spells one.said) two.part;
  sends = λ c at.
      let s = two.sends (f c) (one.leads c at) in (
        s.0,
        s.1 ∙ ap (λ (bs : List ℕ). bs ++ (two.part ++ s.0)) (ap spells (one.sends c at) ∙ spells-append (items_said c.history) one.said)
            ∙ append_assoc (spells (items_said c.history)) (spells one.said) (two.part ++ s.0)
            ∙ ap (λ (bs : List ℕ). spells (items_said c.history) ++ bs) (sym (append_assoc (spells one.said) two.part s.0)),
      );
  progress = λ c at. two.progress (f c) (one.leads c at);
  puts = λ c at. two.puts (f c) (one.leads c at) ∙ ap (λ (ps : List (Option Entry)). ps ++ q) (one.puts c at) ∙ append_assoc c.puts p q;
}

-- the steps that would have come after send more, and change nothing else
pub breaks_before : (f g : Run → Run) (a b : Term) (x y : List ℕ) (p : List (Option Entry)) → ((c : Run) → Grows c.history (g c).history)
    → ((c : Run) → (g c).progress ≡ c.progress) → ((c : Run) → (g c).puts ≡ c.puts) → BreaksOff f a x y p b → BreaksOff (λ c. g (f c)) a x y p b
breaks_before f g a b x y p grows stays puts one = record {
  part = one.part;
  appended = one.appended;
  sends = λ c at. rest_more c.history (f c).history (g (f c)).history one.part (one.sends c at) (grows (f c));
  progress = λ c at. one.progress c at ∙ sym (stays (f c));
  puts = λ c at. puts (f c) ∙ one.puts c at;
}

pub breaks_same : (f g : Run → Run) (a b : Term) (x y : List ℕ) (p : List (Option Entry)) → ((c : Run) → LeadsTo c a → g c ≡ f c) → BreaksOff f a x y p b
    → BreaksOff g a x y p b
breaks_same f g a b x y p same one = record {
  part = one.part;
  appended = one.appended;
  sends = λ c at. let P : Run → Type 0 = λ d. (rest : List ℕ) × (spells (items_said d.history) ≡ spells (items_said c.history) ++ (one.part ++ rest))
      in subst P (sym (same c at)) (one.sends c at);
  progress = λ c at. one.progress c at ∙ ap (λ (d : Run). d.progress) (sym (same c at));
  puts = λ c at. ap (λ (d : Run). d.puts) (same c at) ∙ one.puts c at;
}

breaks_halt : (f : Run → Run) (a b d : Term) (x y : List ℕ) (p q : List (Option Entry)) → BreaksOff f a x y p b
    → d ≡ record b { progress = after_halt b.progress } → q ≡ end_if b.progress.asks → BreaksOff (λ c. halt (f c)) a x y (p ++ q) d
breaks_halt f a b d x y p q one is puts = record {
  part = one.part;
  appended = one.appended;
  sends = one.sends;
  progress = λ c at. ap (λ (t : Term). t.progress) is ∙ ap after_halt (one.progress c at);
  puts = λ c at.
      ap (λ (ps : List (Option Entry)). ps ++ end_if (f c).progress.asks) (one.puts c at)
      ∙ append_assoc c.puts p (end_if (f c).progress.asks)
      ∙ ap (λ (ps : List (Option Entry)). c.puts ++ (p ++ ps)) (ap (λ (r : ServerProgress). end_if r.asks) (sym (one.progress c at)) ∙ sym puts);
}

pub breaks_halt_if : (e : Bool) (f : Run → Run) (a b d : Term) (x y : List ℕ) (p q : List (Option Entry)) → BreaksOff f a x y p b → HaltsIf e b q d
    → BreaksOff (λ c. halt_if e (f c)) a x y (p ++ q) d
breaks_halt_if true f a b d x y p q one h = breaks_halt f a b d x y p q one h.0 h.1
breaks_halt_if false f a b d x y p q one h =
    let P : List (Option Entry) → Type 0 = λ ps. BreaksOff f a x y ps d in
    subst P (sym (ap (λ (ps : List (Option Entry)). p ++ ps) h.1 ∙ append-nil p)) (let Q : Term → Type 0 = λ t. BreaksOff f a x y p t in subst Q (sym h.0) one)

-- a text in parts of one byte
pub in_single : (text : List ℕ) → (parts : List (List ℕ)) × (concat parts ≡ text) × All IsPart parts
in_single [] = ([], refl, All-nil IsPart)
in_single (b ∷ bs) =
    let more = in_single bs in
    ((b ∷ []) ∷ more.0, ap (λ (xs : List ℕ). b ∷ xs) more.1, All-cons IsPart (b ∷ []) more.0 (omega arith) more.2)

-- a part could not be shown: those before it were, and those after it are not
pub breaks_parts : (done : List (List ℕ)) (part : List ℕ) (more : List (List ℕ)) (a b d : Term) (x y z : List ℕ) → AdvancesRun (show done) a x y [] b
    → BreaksOff (show (part ∷ [])) b y z [] d → BreaksOff (show (done ++ part ∷ more)) a x z [] d
breaks_parts done part more a b d x y z one two =
    let f : Run → Run = λ c. show (part ∷ []) (show done c) in
    let g : Run → Run = λ c. show more c in
    breaks_same (λ c. g (f c)) (show (done ++ part ∷ more)) a d x z []
    (λ c at. ap (λ (h : History). record c { history = h }) (in_parts-append c.history done (part ∷ more)))
    (breaks_before f g a d x z [] (λ c. grows_parts c.history more) (λ c. refl) (λ c. refl)
    (breaks_after (show done) (show (part ∷ [])) a b d x y z [] [] one two))

pub breaks_part : (old new : Term) (mid : End) (part x y : List ℕ) → new ≡ record old { end = mid } → y ≡ x → BreaksOff (show (part ∷ [])) old x y [] new
breaks_part old new mid part x y is same = record {
  part = [];
  appended = same ∙ sym (append-nil x);
  sends = λ c at. spelled_more c.history (in_parts c.history (part ∷ [])) (grows_parts c.history (part ∷ []));
  progress = λ c at. ap (λ (t : Term). t.progress) is ∙ at.progress;
  puts = λ c at. sym (append-nil c.puts);
}

-- the items of the whole piece go on from those of its front
pub read_past : (old : Term) (end : End) (piece x y : List ℕ) (f : ServerFault) → old.progress.over ≡ false → All (λ b. b < 256) piece
    → (h : StopsWithin old.end piece f x y end) → (c : Run) → LeadsTo c old → (more : List Item) × Reads c piece (h.done ++ (h.left ++ more))
read_past old end piece x y f on small h c at =
    let l = at.live on in
    let before = h.reads c.stream (items c.history) l.read in
    read_on c.stream piece h.front h.back (items c.history) h.done h.left l.bytes small h.whole (before.rest, before.reading)

-- the first items of a piece were done, and one or the decoder was refused
halts_break : (old new : Term) (end : End) (piece x y : List ℕ) (f : ServerFault) → old.progress.over ≡ false
    → new ≡ record old { end = end; progress = after_piece old.progress } → All (λ b. b < 256) piece → StopsWithin old.end piece f x y end
    → FeedBreaksOff old piece x y new
halts_break old new end piece x y f on is small h =
    let said = says_items old.end h.done ++ h.part in
    record {
      part = spells said;
      appended = h.said;
      leads = λ c at.
          let l = at.live on in
          let past = read_past old end piece x y f on small h c at in
          let xs : List Item = h.done ++ (h.left ++ past.0) in
          let u = front_said (end_after_items old.end h.done) h.left past.0 h.part h.rest h.begins in
          let all : items_said (gets c.history xs) ≡ items_said c.history ++ (said ++ u.0) =
          says_all c.history old.end xs l.leads
          ∙ ap (λ (ys : List Item). items_said c.history ++ ys) (says_both old.end h.done (h.left ++ past.0)
          ∙ ap (λ (ys : List Item). says_items old.end h.done ++ ys) u.1 ∙ sym (append_assoc (says_items old.end h.done) h.part u.0)) in (
            xs,
            past.1,
            spells u.0,
            ap spells all ∙ spells-append (items_said c.history) (said ++ u.0)
                ∙ ap (λ (bs : List ℕ). spells (items_said c.history) ++ bs) (spells-append said u.0),
          );
      progress = ap (λ (t : Term). t.progress) is;
    }

-- an end that had failed is fed nothing, but a run never leads there
failed_break : (old new : Term) (end : End) (piece x y : List ℕ) → old.progress.over ≡ false
    → new ≡ record old { end = end; progress = after_piece old.progress } → old.end.failed ≡ true → y ≡ x → FeedBreaksOff old piece x y new
failed_break old new end piece x y on is failed same = record {
  part = [];
  appended = same ∙ sym (append-nil x);
  leads = λ c at. absurd (true_false (sym failed ∙ (at.live on).failed));
  progress = ap (λ (t : Term). t.progress) is;
}
  where
    true_false : true ≡ false → ⊥
    true_false e = cc

pub feed_breaks : (old new : Term) (end : End) (piece x y : List ℕ) (f : ServerFault) → old.progress.over ≡ false
    → new ≡ record old { end = end; progress = after_piece old.progress } → All (λ b. b < 256) piece → (IsOfItem f → StopsWithin old.end piece f x y end)
    → (f ≡ server.Failed → (old.end.failed ≡ true) × (y ≡ x)) → IsOfPiece f → FeedBreaksOff old piece x y new
feed_breaks old new end piece x y (server.Pty g) on is small halts failed none = halts_break old new end piece x y (server.Pty g) on is small (halts tt)
feed_breaks old new end piece x y server.Memory on is small halts failed none = halts_break old new end piece x y server.Memory on is small (halts tt)
feed_breaks old new end piece x y server.Failed on is small halts failed none = let g = failed refl in failed_break old new end piece x y on is g.0 g.1
feed_breaks old new end piece x y _ on is small halts failed none = absurd none

pub if_ok : {A E : Type 0} (P Q : A → Type 0) (r : Result A E) → IfOk r P → ((x : A) → P x → Q x) → IfOk r Q
if_ok P Q (Ok x) h f = f x h
if_ok P Q (Err e) h f = tt

pub if_err : {A E : Type 0} (P Q : E → Type 0) (r : Result A E) → IfErr r P → ((x : E) → P x → Q x) → IfErr r Q
if_err P Q (Ok x) h f = tt
if_err P Q (Err e) h f = f e h
