-- Once a client has had all option messages, a server reads what is left, and sends it at most one message;
-- once a client has had that, the server sends none for its answer.
use Rattle.std.proofs.Common.{◌≡◌, ◌⊎◌, inl, inr, ℕ, Bool, true, false, not, ◌||◌, None, List, [], ◌∷◌, map, refl, sym, ap, ◌∙◌, subst}
use Rattle.tn_codes.specs.declared.codes.Verb.{Verb}
use Rattle.tn_option.specs.{EnginePair.{EnginePair, engine_step, ask_here, got_here}, QMethod.cell, declared.q_method.{QState.QState, Side.TheVariants.Us}}
use Rattle.tn_option.specs.Options.{Options, options_after_word, reply_to, options_after_wish, answer_to, state_of, is_yes}
use Rattle.tn_option.specs.declared.q_method.QState.TheVariants.{No, Yes, WantNoEmpty, WantNoOpposite, WantYesEmpty, WantYesOpposite}
use Rattle.tn_server.specs.Terms as terms
use Rattle.tn_linemode.specs.Words.{differ}
use Rattle.tn_world.proofs.Stages.{Question, linemode, naws, ours, theirs, echo, Progress, before, done, asks, grants, next, left, Lead, server_at, opening_at}
use Rattle.tn_world.proofs.Stages.{IsOpening, both_on, both_off, asked_on, asked_off, granted_on, granted_off, pair_at, Stage, IsAtStage, same_question}
use Rattle.tn_world.proofs.Stages.{not_done, wish_step, go_ahead, server_options, LineStage, asks_both, asks_size, asks_none, waits_asks, waits_none, line_pair}
use Rattle.tn_world.proofs.Stages.{unasked, asked, untold, told, consented}

-- WHILE A SERVER READS, once no option message was on its way to the client: the opening, all of whose
-- questions the client has received
pub record IsReading (e : EnginePair) : Type 0 where
  pub waits : Question
  pub queued : Bool
  pub going : List Question
  pub lead : Lead (before waits) going done
  pub is : e ≡ opening_at waits queued going done

-- WHILE A SERVER READS, or after it: a contrary request is queued only after a question that is answered
-- already
pub data Waiting : Type 0 where
  w_on : Waiting
  w_off : Waiting
  w_asked_on : Waiting
  w_asked_off : Waiting
  w_granted_on : Bool → Waiting
  w_granted_off : Bool → Waiting

abbrev pub stage_of : Waiting → Stage
stage_of w_on = both_on
stage_of w_off = both_off
stage_of w_asked_on = asked_on false
stage_of w_asked_off = asked_off false
stage_of (w_granted_on b) = granted_on b
stage_of (w_granted_off b) = granted_off b

pub record IsHeard (e : EnginePair) : Type 0 where
  pub suppressed : Bool
  pub waiting : Waiting
  pub is : e ≡ pair_at suppressed (stage_of waiting)

-- WHILE A SERVER READS after an opening for lines: both answers, or that of NAWS
pub data LineReading : Type 0 where
  both_untold : LineReading
  both_agreed : Bool → LineReading
  one_untold : LineReading
  one_told : LineReading
  one_agreed : Bool → LineReading

abbrev pub line_of : LineReading → LineStage
line_of both_untold = asks_none untold
line_of (both_agreed b) = asks_none (consented b)
line_of one_untold = waits_none untold
line_of one_told = waits_none (told false)
line_of (one_agreed b) = waits_none (consented b)

pub record IsLineReading (e : EnginePair) : Type 0 where
  pub reading : LineReading
  pub is : e ≡ line_pair (line_of reading)

abbrev pub IsWaiting : EnginePair → Type 0
IsWaiting e = IsReading e ⊎ (IsLineReading e ⊎ IsHeard e)

heard_at : (g : Bool) (w : Waiting) (e : EnginePair) → e ≡ pair_at g (stage_of w) → IsWaiting e
heard_at g w e is = inr (inr (record { suppressed = g; waiting = w; is = is }))

line_at : (r : LineReading) (e : EnginePair) → e ≡ line_pair (line_of r) → IsWaiting e
line_at r e is = inr (inl (record { reading = r; is = is }))

-- if no message is on its way to the client
later_heard : (g : Bool) (s : Stage) → (pair_at g s).to_there ≡ [] → IsWaiting (pair_at g s)
later_heard g both_on e = heard_at g w_on _ refl
later_heard g both_off e = heard_at g w_off _ refl
later_heard g (asked_on b) e = absurd (cc)
later_heard g (asked_off b) e = absurd (cc)
later_heard g (granted_on b) e = heard_at g (w_granted_on b) _ refl
later_heard g (granted_off b) e = heard_at g (w_granted_off b) _ refl

line_heard : (s : LineStage) → (line_pair s).to_there ≡ [] → IsWaiting (line_pair s)
line_heard (asks_both e) none = absurd (cc)
line_heard (asks_size e) none = absurd (cc)
line_heard (asks_none untold) none = line_at both_untold _ refl
line_heard (asks_none (told b)) none = absurd (cc)
line_heard (asks_none (consented b)) none = line_at (both_agreed b) _ refl
line_heard (waits_asks e) none = absurd (cc)
line_heard (waits_none untold) none = line_at one_untold _ refl
line_heard (waits_none (told b)) none = absurd (cc)
line_heard (waits_none (consented b)) none = line_at (one_agreed b) _ refl

all_asked : (p : Progress) → map asks (left p) ≡ [] → p ≡ done
all_asked done e = refl
all_asked (before linemode) e = absurd (cc)
all_asked (before naws) e = absurd (cc)
all_asked (before ours) e = absurd (cc)
all_asked (before theirs) e = absurd (cc)
all_asked (before echo) e = absurd (cc)

opening_heard : (e : EnginePair) → IsOpening e → e.to_there ≡ [] → IsReading e
opening_heard e o none =
    let heard : o.heard ≡ done = all_asked o.heard (sym (ap (λ (x : EnginePair). x.to_there) o.is) ∙ none) in
    record {
      waits = o.waits;
      queued = o.queued;
      going = o.going;
      lead = subst (λ (p : Progress). Lead (before o.waits) o.going p) heard o.lead;
      is = o.is ∙ ap (λ (p : Progress). opening_at o.waits o.queued o.going p) heard;
    }

pub all_heard : (e : EnginePair) → IsAtStage e → e.to_there ≡ [] → IsWaiting e
all_heard e (inl o) none = inl (opening_heard e o none)
all_heard e (inr (inl l)) none = subst IsWaiting (sym l.is) (line_heard l.stage (sym (ap (λ (x : EnginePair). x.to_there) l.is) ∙ none))
all_heard e (inr (inr s)) none = subst IsWaiting (sym s.is) (later_heard s.suppressed s.stage (sym (ap (λ (x : EnginePair). x.to_there) s.is) ∙ none))

-- the server reads the next message, and if LINEMODE comes on requests its ECHO or rejects it
abbrev pub echo_due : Bool → Bool → EnginePair → EnginePair
echo_due true wanted e = engine_step (ask_here Us 1 wanted) e
echo_due false wanted e = e

abbrev pub heard_by : Bool → EnginePair → EnginePair
heard_by wanted e =
    echo_due (differ (terms.linemode e.here) (terms.linemode (engine_step got_here e).here)) wanted (engine_step got_here e)

reading : (q : Question) (b : Bool) (going : List Question) → Lead (before q) going done → IsWaiting (opening_at q b going done)
reading q b going lead = inl (record { waits = q; queued = b; going = going; lead = lead; is = refl })

-- nothing is left to read
none_read : (wanted : Bool) (q : Question) (b : Bool) → heard_by wanted (opening_at q b [] done) ≡ opening_at q b [] done
unfolding state_of
none_read wanted linemode b = refl
none_read wanted naws b = refl
none_read wanted ours b = refl
none_read wanted theirs b = refl
none_read wanted echo b = refl

one_read : (wanted : Bool) (q : Question) (b : Bool) (going : List Question) → Lead (next q) going done
    → IsWaiting (heard_by wanted (opening_at q b (q ∷ going) done))
unfolding options_after_word reply_to options_after_wish answer_to state_of cell
one_read wanted linemode b going lead =
    subst IsWaiting (sym (wish_step naws b wanted (opening_at naws b going done) refl)) (reading naws (not wanted) going lead)
one_read wanted naws b going lead = reading ours b going lead
one_read wanted ours b going lead = reading theirs b going lead
one_read wanted theirs b going lead = reading echo b going lead
one_read wanted echo false [] lead = heard_at true w_on _ refl
one_read wanted echo true [] lead = heard_at true w_asked_off _ refl
one_read wanted echo b (q ∷ going) lead = absurd (not_done q lead.0)

reading_on : (wanted : Bool) (q : Question) (b : Bool) (going : List Question) → Lead (before q) going done
    → IsWaiting (heard_by wanted (opening_at q b going done))
reading_on wanted q b [] lead = subst IsWaiting (sym (none_read wanted q b)) (reading q b [] lead)
reading_on wanted q b (p ∷ going) lead =
    let same : p ≡ q = sym (same_question q p lead.0) in
    subst (λ (r : Question). IsWaiting (heard_by wanted (opening_at q b (r ∷ going) done))) (sym same)
    (one_read wanted q b going (subst (λ (r : Question). Lead (next r) going done) same lead.1))

later_on : (wanted g : Bool) (s : Waiting) → IsWaiting (heard_by wanted (pair_at g (stage_of s)))
unfolding options_after_word reply_to state_of cell
later_on wanted g w_on = heard_at g w_on _ refl
later_on wanted g w_off = heard_at g w_off _ refl
later_on wanted g w_asked_on = heard_at g w_asked_on _ refl
later_on wanted g w_asked_off = heard_at g w_asked_off _ refl
later_on wanted g (w_granted_on false) = heard_at g w_on _ refl
later_on wanted g (w_granted_on true) = heard_at g w_asked_off _ refl
later_on wanted g (w_granted_off false) = heard_at g w_off _ refl
later_on wanted g (w_granted_off true) = heard_at g w_asked_on _ refl

line_on : (wanted : Bool) (r : LineReading) → IsWaiting (heard_by wanted (line_pair (line_of r)))
unfolding options_after_word reply_to options_after_wish answer_to state_of cell
line_on true both_untold = line_at one_told _ refl
line_on false both_untold = line_at one_untold _ refl
line_on true (both_agreed true) = line_at (one_agreed false) _ refl
line_on true (both_agreed false) = line_at (one_agreed false) _ refl
line_on false (both_agreed true) = line_at (one_agreed true) _ refl
line_on false (both_agreed false) = line_at (one_agreed true) _ refl
line_on wanted one_untold = heard_at false w_off _ refl
line_on wanted one_told = heard_at false w_asked_on _ refl
line_on wanted (one_agreed b) = heard_at false (w_granted_on b) _ refl

pub waits_on : (wanted : Bool) (e : EnginePair) → IsWaiting e → IsWaiting (heard_by wanted e)
waits_on wanted e (inl o) = subst (λ (x : EnginePair). IsWaiting (heard_by wanted x)) (sym o.is) (reading_on wanted o.waits o.queued o.going o.lead)
waits_on wanted e (inr (inl l)) = subst (λ (x : EnginePair). IsWaiting (heard_by wanted x)) (sym l.is) (line_on wanted l.reading)
waits_on wanted e (inr (inr s)) = subst (λ (x : EnginePair). IsWaiting (heard_by wanted x)) (sym s.is) (later_on wanted s.suppressed s.waiting)

-- THE END of what it reads: no contrary request is queued
abbrev pub is_opposite : QState → Bool
is_opposite No = false
is_opposite Yes = false
is_opposite WantNoEmpty = false
is_opposite WantNoOpposite = true
is_opposite WantYesEmpty = false
is_opposite WantYesOpposite = true

abbrev pub is_awaited : QState → Bool
is_awaited WantYesEmpty = true
is_awaited WantYesOpposite = true
is_awaited _ = false

abbrev pub is_pending : Options → Bool
is_pending o = not (is_yes o.them.naws.state) || (is_awaited o.them.suppress_go_ahead.state || is_opposite o.us.echo.state)

-- once all is answered, only ECHO may be pending
by_echo : (g : Bool) (q : QState) → is_pending (server_options Yes Yes (go_ahead g) (go_ahead g) q) ≡ is_opposite q
by_echo true q = refl
by_echo false q = refl

some_going : (q : Question) (going : List Question) → Lead (before q) going done → map grants going ≡ [] → ⊥
some_going q [] lead e = not_done q (sym lead)
some_going q (p ∷ going) lead e = cc

later_none : (g : Bool) (s : Waiting) → (pair_at g (stage_of s)).to_here ≡ [] → is_pending (pair_at g (stage_of s)).here ≡ false
later_none g w_on e = by_echo g Yes
later_none g w_off e = by_echo g No
later_none g w_asked_on e = by_echo g WantYesEmpty
later_none g w_asked_off e = by_echo g WantNoEmpty
later_none g (w_granted_on b) e = absurd (cc)
later_none g (w_granted_off b) e = absurd (cc)

line_going : (r : LineReading) → (line_pair (line_of r)).to_here ≡ [] → ⊥
line_going both_untold e = cc
line_going (both_agreed b) e = cc
line_going one_untold e = cc
line_going one_told e = cc
line_going (one_agreed b) e = cc

pub none_pending : (e : EnginePair) → IsWaiting e → e.to_here ≡ [] → is_pending e.here ≡ false
none_pending e (inl o) none = absurd (some_going o.waits o.going o.lead (sym (ap (λ (x : EnginePair). x.to_here) o.is) ∙ none))
none_pending e (inr (inl l)) none = absurd (line_going l.reading (sym (ap (λ (x : EnginePair). x.to_here) l.is) ∙ none))
none_pending e (inr (inr s)) none =
    ap (λ (x : EnginePair). is_pending x.here) s.is ∙ later_none s.suppressed s.waiting (sym (ap (λ (x : EnginePair). x.to_here) s.is) ∙ none)

-- THE LAST ANSWERS: they are answered by nothing
pub data Calm : Type 0 where
  c_on : Calm
  c_off : Calm
  c_granted_on : Calm
  c_granted_off : Calm

abbrev pub calm_stage : Calm → Stage
calm_stage c_on = both_on
calm_stage c_off = both_off
calm_stage c_granted_on = granted_on false
calm_stage c_granted_off = granted_off false

pub record IsCalm (e : EnginePair) : Type 0 where
  pub suppressed : Bool
  pub calm : Calm
  pub is : e ≡ pair_at suppressed (calm_stage calm)

last_going : (going : List Question) → Lead (before echo) going done → going ≡ echo ∷ []
last_going [] lead = absurd (not_done echo (sym lead))
last_going (q ∷ []) lead = ap (λ (p : Question). p ∷ []) (sym (same_question echo q lead.0))
last_going (q ∷ p ∷ going) lead =
    absurd (not_done p (subst (λ (r : Question). next r ≡ before p) (sym (same_question echo q lead.0)) lead.1.0))

reading_calms : (q : Question) (b : Bool) (going : List Question) → Lead (before q) going done → is_pending (server_at q b) ≡ false
    → IsCalm (opening_at q b going done)
reading_calms linemode b going lead p = absurd (cc)
reading_calms naws b going lead p = absurd (cc)
reading_calms ours b going lead p = absurd (cc)
reading_calms theirs b going lead p = absurd (cc)
reading_calms echo true going lead p = absurd (cc)
reading_calms echo false going lead p =
    record { suppressed = true; calm = c_granted_on; is = ap (λ (qs : List Question). opening_at echo false qs done) (last_going going lead) }

later_calms : (g : Bool) (s : Waiting) → is_opposite (pair_at g (stage_of s)).here.us.echo.state ≡ false → (pair_at g (stage_of s)).to_there ≡ []
    → IsCalm (pair_at g (stage_of s))
later_calms g w_on p e = record { suppressed = g; calm = c_on; is = refl }
later_calms g w_off p e = record { suppressed = g; calm = c_off; is = refl }
later_calms g w_asked_on p e = absurd (cc)
later_calms g w_asked_off p e = absurd (cc)
later_calms g (w_granted_on false) p e = record { suppressed = g; calm = c_granted_on; is = refl }
later_calms g (w_granted_on true) p e = absurd (cc)
later_calms g (w_granted_off false) p e = record { suppressed = g; calm = c_granted_off; is = refl }
later_calms g (w_granted_off true) p e = absurd (cc)

later_echo : (g : Bool) (s : Waiting) → is_pending (pair_at g (stage_of s)).here ≡ is_opposite (pair_at g (stage_of s)).here.us.echo.state
later_echo g w_on = by_echo g Yes
later_echo g w_off = by_echo g No
later_echo g w_asked_on = by_echo g WantYesEmpty
later_echo g w_asked_off = by_echo g WantNoEmpty
later_echo g (w_granted_on true) = by_echo g WantYesOpposite
later_echo g (w_granted_on false) = by_echo g WantYesEmpty
later_echo g (w_granted_off true) = by_echo g WantNoOpposite
later_echo g (w_granted_off false) = by_echo g WantNoEmpty

line_pends : (r : LineReading) → is_pending (line_pair (line_of r)).here ≡ false → ⊥
line_pends both_untold p = cc
line_pends (both_agreed b) p = cc
line_pends one_untold p = cc
line_pends one_told p = cc
line_pends (one_agreed b) p = cc

waiting_calms : (e : EnginePair) → IsWaiting e → is_pending e.here ≡ false → e.to_there ≡ [] → IsCalm e
waiting_calms e (inl o) p none =
    subst IsCalm (sym o.is) (reading_calms o.waits o.queued o.going o.lead (sym (ap (λ (x : EnginePair). is_pending x.here) o.is) ∙ p))
waiting_calms e (inr (inl l)) p none = absurd (line_pends l.reading (sym (ap (λ (x : EnginePair). is_pending x.here) l.is) ∙ p))
waiting_calms e (inr (inr s)) p none =
    subst IsCalm (sym s.is)
    (later_calms s.suppressed s.waiting (sym (later_echo s.suppressed s.waiting) ∙ sym (ap (λ (x : EnginePair). is_pending x.here) s.is) ∙ p)
    (sym (ap (λ (x : EnginePair). x.to_there) s.is) ∙ none))

pub calms_down : (e : EnginePair) → IsAtStage e → is_pending e.here ≡ false → e.to_there ≡ [] → IsCalm e
calms_down e at p none = waiting_calms e (all_heard e at none) p none

-- the next message is answered by none, and LINEMODE stays
abbrev pub IsUnanswered : Options → List (Verb × ℕ) → Type 0
IsUnanswered o [] = Unit {0}
IsUnanswered o (w ∷ ws) =
    (reply_to o w.0 w.1 ≡ None) × (differ (terms.linemode o) (terms.linemode (options_after_word o w.0 w.1)) ≡ false)

pub calm_answers : (g : Bool) (s : Calm) → IsUnanswered (pair_at g (calm_stage s)).here (pair_at g (calm_stage s)).to_here
unfolding options_after_word reply_to state_of cell
calm_answers g c_on = tt
calm_answers g c_off = tt
calm_answers g c_granted_on = (refl, refl)
calm_answers g c_granted_off = (refl, refl)

pub calm_on : (g : Bool) (s : Calm) → IsCalm (engine_step got_here (pair_at g (calm_stage s)))
unfolding options_after_word reply_to cell
calm_on g c_on = record { suppressed = g; calm = c_on; is = refl }
calm_on g c_off = record { suppressed = g; calm = c_off; is = refl }
calm_on g c_granted_on = record { suppressed = g; calm = c_on; is = refl }
calm_on g c_granted_off = record { suppressed = g; calm = c_off; is = refl }
