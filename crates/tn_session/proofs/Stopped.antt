-- The word to stop: how it is sent and taken, and after which messages.
use Rattle.std.proofs.Common.{◌≡◌, Bool, true, false, not, ◌||◌, ◌&&◌, List, [], ◌∷◌, ◌++◌, Option, Some, None, IfSome, refl, sym, ap, ◌∙◌, subst, map}
use Rattle.std.proofs.Common.{append_assoc, arith}
use Rattle.crossbeam_channel.specs.{Claims.IsSeatAt, Ends.{sends_on, receives_on}}
use Rattle.tn_cores.specs.declared.messages.Message.{Message, TheVariants.{Piece, HangUp, ReadFailed, Take, Said, Refused, Left, Resized, Asked}}
use Rattle.tn_cores.specs.queue.Queue.{putter, put_more, joined_hands, one_of, LeftOver}
use Rattle.tn_session.proofs.Lefts.{lefts_here, lefts_else}
use Rattle.tn_session.specs.{workers.{Mailbox.{same, from, mail}, Stops.{StopHand, StopsStay, has_stopped, took_some}}, declared.workers.mail.Mail.Mail}
use Rattle.tn_session.specs.declared.workers.{mail.Sender.{Sender, TheVariants.{Net, Desk, Back, Keys}}, stops.{Stop.Stop, StopSeat.StopSeat}}
use Rattle.tn_session.specs.{Stops.{IsTold, AreNewStops, LeavesAt, StandsTold, is_left, leaves, has_left}, Turns.{left_one, lefts_of}}
use Rattle.tn_session.specs.declared.stops.StopTeller.{StopTeller}

false_true : false ≡ true → ⊥
false_true e = cc

true_false : true ≡ false → ⊥
true_false e = cc

some_left : (x : Stop) (xs : List Stop) → x ∷ xs ≡ [] → ⊥
some_left x xs e = cc

-- THE SEAT

-- a thread without a seat is never asked to stop
pub unseated : (o : Option StopSeat) → StopsStay None o → has_stopped o ≡ false
unseated None stays = refl
unseated (Some seat) stays = absurd stays

-- the seat that comes back is still at the channel of the thread that sends the word
pub seat_at : (a b : Option StopSeat) (old new : StopTeller) → StopsStay a b → IfSome a (λ seat. AreNewStops old seat) → new.to ≡ old.to
    → IfSome b (λ seat. IsSeatAt (sends_on new.to) seat.pass)
seat_at None None old new stays is to = tt
seat_at None (Some b) old new stays is to = absurd stays
seat_at (Some a) None old new stays is to = absurd stays
seat_at (Some a) (Some b) old new stays is to =
    let by_from = subst (λ f. IsSeatAt (receives_on f) b.pass) stays.0 stays.1 in
    let by_channel = subst (λ t. IsSeatAt t b.pass) is.one_channel by_from in
    subst (λ t. IsSeatAt (sends_on t) b.pass) (sym to) by_channel

-- THE WORD

pub not_told : (told : Bool) (v : StopHand) → told ≡ false → IsTold told v → v ≡ putter []
not_told told v e is = let P : Bool → Type 0 = λ b. IsTold b v in subst P e is

pub told_now : (v w : StopHand) (word : Stop) → v ≡ putter [] → w ≡ put_more v word → IsTold true w
told_now v w word e f = (word, f ∙ ap (λ (u : StopHand). put_more u word) e)

pub told_words : (told : Bool) (v : StopHand) → IsTold told v → (l : List Stop) × (v ≡ putter l)
told_words true v is = (is.0 ∷ [], is.1)
told_words false v is = ([], is)

-- a thread that has taken the word was asked to stop
pub told_first : (v w u : StopHand) (items : List Stop) → u ≡ joined_hands v w → LeftOver u items → took_some w.taken ≡ true → v ≡ putter [] → ⊥
told_first v w u items e left took none = by w.taken refl took
  where
    by : (o : Option (List Stop)) → w.taken ≡ o → took_some o ≡ true → ⊥
    by None f t = false_true t
    by (Some []) f t = false_true t
    by (Some (s ∷ l)) f t =
        let put : u.put ≡ Some [] = ap (λ (h : StopHand). h.put) e ∙ ap (λ (h : StopHand). one_of h.put w.put) none in
        let taken : u.taken ≡ Some (s ∷ l) = ap (λ (h : StopHand). h.taken) e ∙ ap (λ (h : StopHand). one_of h.taken w.taken) none ∙ f in
        some_left s (l ++ items) (left [] (s ∷ l) put taken)

-- the pass is joined and cut again
pub same_words : (v w u x y : StopHand) (l : List Stop) → v ≡ putter l → u ≡ joined_hands v w → x ≡ u → y ≡ record x { taken = None } → y ≡ v
same_words v w u x y l ev eu ex ey = ey ∙ ap (λ (h : StopHand). record h { taken = None }) (ex ∙ eu ∙ ap (λ (h : StopHand). joined_hands h w) ev) ∙ sym ev

-- a thread that stopped was asked to
pub stopped_told : (told stopped : Bool) (v : StopHand) → IsTold told v → (stopped ≡ true → v ≡ putter [] → ⊥) → stopped ≡ true → told ≡ true
stopped_told true stopped v is never on = refl
stopped_told false stopped v is never on = absurd (never on is)

-- ONE MAIL MORE

or_false : (b : Bool) → (b || false) ≡ b
or_false true = refl
or_false false = refl

and_true : (b : Bool) → (b && true) ≡ b
and_true true = refl
and_true false = refl

and_none : (b : Bool) → (b && false) ≡ false
and_none true = refl
and_none false = refl

neither : (a b : Bool) → (a || b) ≡ false → (a ≡ false) × (b ≡ false)
neither true b e = absurd (true_false e)
neither false b e = (refl, e)

both : (a b : Bool) → (a && b) ≡ true → (a ≡ true) × (b ≡ true)
both true b e = (refl, e)
both false b e = absurd (false_true e)

has_left-push : (who : Sender) (xs : List Mail) (x : Mail) → has_left who (xs ++ x ∷ []) ≡ (has_left who xs || leaves who x)
has_left-push who [] x = or_false (leaves who x)
has_left-push who (y ∷ xs) x = ap (λ (b : Bool). leaves who y || b) (has_left-push who xs x) ∙ assoc (leaves who y) (has_left who xs) (leaves who x)
  where
    assoc : (a b c : Bool) → (a || (b || c)) ≡ ((a || b) || c)
    assoc true b c = refl
    assoc false b c = refl

pub left_next : (who : Sender) (xs : List Mail) (x : Mail) (before now : Bool) → before ≡ has_left who xs → now ≡ (before || leaves who x)
    → now ≡ has_left who (xs ++ x ∷ [])
left_next who xs x before now e f = f ∙ ap (λ (b : Bool). b || leaves who x) e ∙ sym (has_left-push who xs x)

same_is : (a b : Sender) → same a b ≡ true → a ≡ b
same_is Net Net e = refl
same_is Net Desk e = absurd (false_true e)
same_is Net Back e = absurd (false_true e)
same_is Net Keys e = absurd (false_true e)
same_is Desk Net e = absurd (false_true e)
same_is Desk Desk e = refl
same_is Desk Back e = absurd (false_true e)
same_is Desk Keys e = absurd (false_true e)
same_is Back Net e = absurd (false_true e)
same_is Back Desk e = absurd (false_true e)
same_is Back Back e = refl
same_is Back Keys e = absurd (false_true e)
same_is Keys Net e = absurd (false_true e)
same_is Keys Desk e = absurd (false_true e)
same_is Keys Back e = absurd (false_true e)
same_is Keys Keys e = refl

left_is : (m : Message) → is_left m ≡ true → m ≡ Left
left_is (Piece p) e = absurd (false_true e)
left_is HangUp e = absurd (false_true e)
left_is ReadFailed e = absurd (false_true e)
left_is Take e = absurd (false_true e)
left_is (Said id text after) e = absurd (false_true e)
left_is Refused e = absurd (false_true e)
left_is Left e = refl
left_is (Resized size) e = absurd (false_true e)
left_is (Asked control) e = absurd (false_true e)

left_mail : (who : Sender) (x : Mail) → leaves who x ≡ true → x ≡ mail who Left
left_mail who x e =
    let b = both (same x.from who) (is_left x.message) e in
    let from = same_is x.from who b.0 in
    let message = left_is x.message b.1 in
    λ i. record { from = from i; message = message i }

-- as long as it has not left, it is asked to stop if that is due
here_now : (told due now mid next gone : Bool) → gone ≡ false → told ≡ mid → (mid ≡ true → next ≡ true) → due ≡ (next && not gone) → now ≡ (told || due)
    → now ≡ next
here_now true due now mid next gone g e more d n = n ∙ sym (more (sym e))
here_now false due now mid next gone g e more d n = n ∙ d ∙ ap (λ (b : Bool). next && not b) g ∙ and_true next

-- once it has left, it is not asked to stop any more
kept_now : (told due now next gone : Bool) → gone ≡ true → due ≡ (next && not gone) → now ≡ (told || due) → now ≡ told
kept_now told due now next gone g d n = n ∙ ap (λ (b : Bool). told || b) (d ∙ ap (λ (b : Bool). next && not b) g ∙ and_none next) ∙ or_false told

module _ {Said Mark Run : Type 0} (who : Sender) (said : List Mail → List Said) (runs : List (Said × Mark) → Run → Type 0) (stops : Run → Bool) where
  Gone : List Mail → List (Said × Mark) → Bool → Type 0
  Gone xs ms told = (at : LeavesAt who said runs xs ms) × (told ≡ stops at.by_then)

  more_gone : (xs : List Mail) (x : Mail) (ms : List (Said × Mark)) (k : Said × Mark) (told now : Bool) → now ≡ told → (at : LeavesAt who said runs xs ms)
      → told ≡ stops at.by_then → (now_at : LeavesAt who said runs (xs ++ x ∷ []) (ms ++ k ∷ [])) × (now ≡ stops now_at.by_then)
  more_gone xs x ms k told now same at e = (
    record {
      before = at.before;
      after = at.after ++ x ∷ [];
      whole = ap (λ (l : List Mail). l ++ x ∷ []) at.whole ∙ append_assoc at.before (mail who Left ∷ at.after) (x ∷ []);
      here = at.here;
      first = at.first;
      later = at.later ++ k ∷ [];
      marks = ap (λ (l : List (Said × Mark)). l ++ k ∷ []) at.marks ∙ append_assoc at.first at.later (k ∷ []);
      messages = at.messages;
      by_then = at.by_then;
      leads = at.leads;
    },
    same ∙ e,
  )

  now_gone : (xs : List Mail) (x : Mail) (ms : List (Said × Mark)) (k : Said × Mark) (mid : Run) (now : Bool) → has_left who xs ≡ false → x ≡ mail who Left
      → map (λ m. m.0) ms ≡ said xs → runs ms mid → now ≡ stops mid → (at : LeavesAt who said runs (xs ++ x ∷ []) (ms ++ k ∷ [])) × (now ≡ stops at.by_then)
  now_gone xs x ms k mid now here is messages leads e = (
    record {
      before = xs;
      after = [];
      whole = ap (λ (m : Mail). xs ++ m ∷ []) is;
      here = here;
      first = ms;
      later = k ∷ [];
      marks = refl;
      messages = messages;
      by_then = mid;
      leads = leads;
    },
    e,
  )

  pub stands_more : (xs : List Mail) (x : Mail) (ms : List (Said × Mark)) (k : Said × Mark) (mid next : Run) (told due now : Bool)
      → StandsTold who said runs stops xs ms (stops mid) told → map (λ m. m.0) ms ≡ said xs → runs ms mid → (stops mid ≡ true → stops next ≡ true)
      → due ≡ (stops next && not (has_left who (xs ++ x ∷ []))) → now ≡ (told || due)
      → StandsTold who said runs stops (xs ++ x ∷ []) (ms ++ k ∷ []) (stops next) now
  stands_more xs x ms k mid next told due now s messages leads more d n = record {
    here = λ none. here_now told due now (stops mid) (stops next) (has_left who (xs ++ x ∷ [])) none
        (s.here (neither (has_left who xs) (leaves who x) (sym (has_left-push who xs x) ∙ none)).0) more d n;
    gone = λ on. by (has_left who xs) refl on;
  }
    where
      by : (b : Bool) → has_left who xs ≡ b → has_left who (xs ++ x ∷ []) ≡ true → (at : LeavesAt who said runs (xs ++ x ∷ []) (ms ++ k ∷ []))
          × (now ≡ stops at.by_then)
      by true e on = let at = s.gone e in more_gone xs x ms k told now (kept_now told due now (stops next) (has_left who (xs ++ x ∷ [])) on d n) at.0 at.1
      by false e on =
          let here = ap (λ (b : Bool). b || leaves who x) (sym e) ∙ sym (has_left-push who xs x) ∙ on in
          now_gone xs x ms k mid now e (left_mail who x here) messages leads
          (kept_now told due now (stops next) (has_left who (xs ++ x ∷ [])) on d n ∙ s.here e)

  pub stands_first : (ms : List (Said × Mark)) (told now : Bool) → told ≡ now → StandsTold who said runs stops [] ms now told
  stands_first ms told now e = record { here = λ none. e; gone = λ on. absurd (false_true on) }

-- AT THE END

no_left_one : (m : Message) → is_left m ≡ false → left_one m ≡ 0
no_left_one (Piece p) e = refl
no_left_one HangUp e = refl
no_left_one ReadFailed e = refl
no_left_one Take e = refl
no_left_one (Said id text after) e = refl
no_left_one Refused e = refl
no_left_one Left e = absurd (true_false e)
no_left_one (Resized size) e = refl
no_left_one (Asked control) e = refl

none_of : (who : Sender) (xs : List Mail) → has_left who xs ≡ false → lefts_of (from who xs) ≡ 0
none_of who [] e = refl
none_of who (x ∷ xs) e =
    let b = neither (leaves who x) (has_left who xs) e in
    by (same x.from who) refl b.0 (none_of who xs b.1)
  where
    by : (t : Bool) → same x.from who ≡ t → leaves who x ≡ false → lefts_of (from who xs) ≡ 0 → lefts_of (from who (x ∷ xs)) ≡ 0
    by true is f ih =
        let l = lefts_here who x xs is in
        let z = no_left_one x.message (sym (ap (λ (b : Bool). b && is_left x.message) is) ∙ f) in
        omega (arith, l, z, ih)
    by false is f ih = lefts_else who x xs is ∙ ih

-- a thread whose one Left was handled has left
pub was_left : (who : Sender) (handled mails : List Mail) → from who handled ≡ mails → lefts_of mails ≡ 1 → has_left who handled ≡ true
was_left who handled mails is one = by (has_left who handled) refl
  where
    by : (b : Bool) → has_left who handled ≡ b → b ≡ true
    by true e = refl
    by false e =
        let none = none_of who handled e in
        let all = ap lefts_of is in
        absurd (omega (arith, none, all, one))
