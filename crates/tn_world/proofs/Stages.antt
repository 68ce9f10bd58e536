-- A talk that began with the opening messages is at one of these stages: the client has received the first of
-- the five questions, or two, and the server the first of its answers; or all are answered, and only the
-- server's requests for ECHO are negotiated. The Bool: a contrary request is queued after the question (RFC 1143).
use Rattle.std.proofs.Common.{◌≡◌, ◌⊎◌, inl, inr, ℕ, Bool, true, false, not, Option, None, List, [], ◌∷◌, ◌++◌, map, refl, sym, ap, ◌∙◌, subst, append-nil}
use Rattle.std.proofs.lemmas.List.{map-append}
use Rattle.std.specs.Prelude.{option_to_list}
use Rattle.tn_codes.specs.declared.codes.Verb.{Verb, TheVariants.{Will, Wont, DoIt, DontIt}}
use Rattle.tn_option.specs.EnginePair.{EnginePair, engine_step, asked_word, ask_here, got_here, got_there, Talk, wishes_echo, server_hears, client_hears}
use Rattle.tn_option.specs.{EnginePair.{step_of, talk_steps, TalkTo}, QMethod.cell, declared.{negotiation.OptionSide.OptionSide, q_method.QState.QState}}
use Rattle.tn_option.specs.{Options.{Options, options_after_word, reply_to, options_after_wish, answer_to, new_options}, declared.q_method.Side.TheVariants.Us}
use Rattle.tn_option.specs.declared.q_method.QState.TheVariants.{No, Yes, WantNoEmpty, WantNoOpposite, WantYesEmpty, WantYesOpposite}
use Rattle.tn_server.specs.declared.openings.Opening.{Opening, TheVariants.{Keys, Lines}}
use Rattle.tn_world.specs.Past.{HasTalked, opening_pair}

-- THE FIVE QUESTIONS, in the order in which they are asked: LINEMODE, NAWS, both directions of SUPPRESS-GO-AHEAD, and
-- the server's ECHO
pub data Question : Type 0 where
  linemode : Question
  naws : Question
  ours : Question
  theirs : Question
  echo : Question

abbrev pub asks : Question → Verb × ℕ
asks linemode = (DoIt, 34)
asks naws = (DoIt, 31)
asks ours = (Will, 3)
asks theirs = (DoIt, 3)
asks echo = (Will, 1)

abbrev pub grants : Question → Verb × ℕ
grants linemode = (Will, 34)
grants naws = (Will, 31)
grants ours = (DoIt, 3)
grants theirs = (Will, 3)
grants echo = (DoIt, 1)

-- how far an end is: before a question, or past all of them
pub data Progress : Type 0 where
  before : Question → Progress
  done : Progress

abbrev pub next : Question → Progress
next linemode = before naws
next naws = before ours
next ours = before theirs
next theirs = before echo
next echo = done

abbrev pub left : Progress → List Question
left (before linemode) = linemode ∷ naws ∷ ours ∷ theirs ∷ echo ∷ []
left (before naws) = naws ∷ ours ∷ theirs ∷ echo ∷ []
left (before ours) = ours ∷ theirs ∷ echo ∷ []
left (before theirs) = theirs ∷ echo ∷ []
left (before echo) = echo ∷ []
left done = []

-- these questions lead from the first state to the last
abbrev pub Lead : Progress → List Question → Progress → Type 0
Lead p [] r = p ≡ r
Lead p (q ∷ qs) r = (p ≡ before q) × Lead (next q) qs r

-- THE OPTIONS of both ends: LINEMODE, NAWS, both directions of SUPPRESS-GO-AHEAD, and ECHO
abbrev pub want_yes : Bool → QState
want_yes false = WantYesEmpty
want_yes true = WantYesOpposite

abbrev pub want_no : Bool → QState
want_no false = WantNoEmpty
want_no true = WantNoOpposite

abbrev pub seat : Bool → QState → OptionSide
seat agreed state = record { agreed = agreed; state = state }

abbrev pub server_options : QState → QState → QState → QState → QState → Options
server_options l n o t e = record {
  us = record { echo = seat true e; suppress_go_ahead = seat true o; naws = seat false No; linemode = seat false No };
  them = record { echo = seat false No; suppress_go_ahead = seat true t; naws = seat true n; linemode = seat true l };
}

abbrev pub client_options : QState → QState → QState → QState → QState → Options
client_options l n t o e = record {
  us = record { echo = seat false No; suppress_go_ahead = seat true o; naws = seat true n; linemode = seat true l };
  them = record { echo = seat true e; suppress_go_ahead = seat true t; naws = seat false No; linemode = seat false No };
}

-- a server that waits for the answer to this question, and to those after it
abbrev pub server_at : Question → Bool → Options
server_at linemode b = server_options WantYesEmpty WantYesEmpty WantYesEmpty WantYesEmpty (want_yes b)
server_at naws b = server_options Yes WantYesEmpty WantYesEmpty WantYesEmpty (want_yes b)
server_at ours b = server_options Yes Yes WantYesEmpty WantYesEmpty (want_yes b)
server_at theirs b = server_options Yes Yes Yes WantYesEmpty (want_yes b)
server_at echo b = server_options Yes Yes Yes Yes (want_yes b)

abbrev pub client_at : Progress → Options
client_at (before linemode) = client_options No No No No No
client_at (before naws) = client_options Yes No No No No
client_at (before ours) = client_options Yes Yes No No No
client_at (before theirs) = client_options Yes Yes Yes No No
client_at (before echo) = client_options Yes Yes Yes Yes No
client_at done = client_options Yes Yes Yes Yes Yes

-- THE OPENING: the client granted these questions, whose answers the server has not received yet
abbrev pub opening_at : Question → Bool → List Question → Progress → EnginePair
opening_at q b going heard =
    record { here = server_at q b; there = client_at heard; to_here = map grants going; to_there = map asks (left heard) }

pub record IsOpening (e : EnginePair) : Type 0 where
  pub waits : Question
  pub queued : Bool
  pub going : List Question
  pub heard : Progress
  pub lead : Lead (before waits) going heard
  pub is : e ≡ opening_at waits queued going heard

-- AFTER IT
pub data Stage : Type 0 where
  both_on : Stage
  both_off : Stage
  asked_on : Bool → Stage
  asked_off : Bool → Stage
  granted_on : Bool → Stage
  granted_off : Bool → Stage

-- SUPPRESS-GO-AHEAD, in both directions: on after an opening for keys, and off after one for lines
abbrev pub go_ahead : Bool → QState
go_ahead true = Yes
go_ahead false = No

abbrev pub pair_of_echo : Bool → QState → QState → List (Verb × ℕ) → List (Verb × ℕ) → EnginePair
pair_of_echo g here there to_here to_there =
    record {
      here = server_options Yes Yes (go_ahead g) (go_ahead g) here;
      there = client_options Yes Yes (go_ahead g) (go_ahead g) there;
      to_here = to_here;
      to_there = to_there;
    }

abbrev pub pair_at : Bool → Stage → EnginePair
pair_at g both_on = pair_of_echo g Yes Yes [] []
pair_at g both_off = pair_of_echo g No No [] []
pair_at g (asked_on b) = pair_of_echo g (want_yes b) No [] ((Will, 1) ∷ [])
pair_at g (asked_off b) = pair_of_echo g (want_no b) Yes [] ((Wont, 1) ∷ [])
pair_at g (granted_on b) = pair_of_echo g (want_yes b) Yes ((DoIt, 1) ∷ []) []
pair_at g (granted_off b) = pair_of_echo g (want_no b) No ((DontIt, 1) ∷ []) []

pub record IsLater (e : EnginePair) : Type 0 where
  pub suppressed : Bool
  pub stage : Stage
  pub is : e ≡ pair_at suppressed stage

-- AN OPENING FOR LINES: LINEMODE and NAWS are asked for, and the server may request its ECHO meanwhile. ECHO is
-- not asked for; or it is; or the client has granted it.
pub data Echo : Type 0 where
  unasked : Echo
  asked : Bool → Echo

pub data Told : Type 0 where
  untold : Told
  told : Bool → Told
  consented : Bool → Told

-- the client has received both questions
abbrev told_of : Echo → Told
told_of unasked = untold
told_of (asked b) = told b

-- before either question, after the first, and after both, while the server waits for LINEMODE; and after the
-- first and both, while it waits for NAWS
pub data LineStage : Type 0 where
  asks_both : Echo → LineStage
  asks_size : Echo → LineStage
  asks_none : Told → LineStage
  waits_asks : Echo → LineStage
  waits_none : Told → LineStage

abbrev pub echo_there : Echo → QState
echo_there unasked = No
echo_there (asked b) = want_yes b

abbrev pub echo_words : Echo → List (Verb × ℕ)
echo_words unasked = []
echo_words (asked b) = (Will, 1) ∷ []

abbrev pub told_there : Told → QState
told_there untold = No
told_there (told b) = want_yes b
told_there (consented b) = want_yes b

abbrev pub told_here : Told → QState
told_here (consented b) = Yes
told_here _ = No

abbrev pub told_words : Told → List (Verb × ℕ)
told_words (told b) = (Will, 1) ∷ []
told_words _ = []

abbrev pub agreed_words : Told → List (Verb × ℕ)
agreed_words (consented b) = (DoIt, 1) ∷ []
agreed_words _ = []

abbrev pub line_pair : LineStage → EnginePair
line_pair (asks_both e) =
    record {
      here = server_options WantYesEmpty WantYesEmpty No No (echo_there e);
      there = client_options No No No No No;
      to_here = [];
      to_there = (DoIt, 34) ∷ (DoIt, 31) ∷ echo_words e;
    }
line_pair (asks_size e) =
    record {
      here = server_options WantYesEmpty WantYesEmpty No No (echo_there e);
      there = client_options Yes No No No No;
      to_here = (Will, 34) ∷ [];
      to_there = (DoIt, 31) ∷ echo_words e;
    }
line_pair (asks_none e) =
    record {
      here = server_options WantYesEmpty WantYesEmpty No No (told_there e);
      there = client_options Yes Yes No No (told_here e);
      to_here = (Will, 34) ∷ (Will, 31) ∷ agreed_words e;
      to_there = told_words e;
    }
line_pair (waits_asks e) =
    record {
      here = server_options Yes WantYesEmpty No No (echo_there e);
      there = client_options Yes No No No No;
      to_here = [];
      to_there = (DoIt, 31) ∷ echo_words e;
    }
line_pair (waits_none e) =
    record {
      here = server_options Yes WantYesEmpty No No (told_there e);
      there = client_options Yes Yes No No (told_here e);
      to_here = (Will, 31) ∷ agreed_words e;
      to_there = told_words e;
    }

pub record IsLineOpening (e : EnginePair) : Type 0 where
  pub stage : LineStage
  pub is : e ≡ line_pair stage

abbrev pub IsAtStage : EnginePair → Type 0
IsAtStage e = IsOpening e ⊎ (IsLineOpening e ⊎ IsLater e)

later : (g : Bool) (s : Stage) (e : EnginePair) → e ≡ pair_at g s → IsAtStage e
later g s e is = inr (inr (record { suppressed = g; stage = s; is = is }))

lines : (s : LineStage) (e : EnginePair) → e ≡ line_pair s → IsAtStage e
lines s e is = inr (inl (record { stage = s; is = is }))

-- EACH STEP of a talk leads from a stage to a stage: the server reads an answer
pub same_question : (p q : Question) → before p ≡ before q → p ≡ q
same_question p q e = cc

pub not_done : (q : Question) → done ≡ before q → ⊥
not_done q e = cc

opens : (q : Question) (b : Bool) (going : List Question) (heard : Progress) (said : List (Verb × ℕ)) → Lead (before q) going heard
    → said ≡ map asks (left heard) → IsAtStage (record (opening_at q b going heard) { to_there = said })
opens q b going heard said lead is =
    inl (record {
      waits = q;
      queued = b;
      going = going;
      heard = heard;
      lead = lead;
      is = ap (λ (x : List (Verb × ℕ)). record (opening_at q b going heard) { to_there = x }) is;
    })

last_by_queue : (b : Bool) → IsAtStage (engine_step got_here (opening_at echo b (echo ∷ []) done))
unfolding options_after_word reply_to cell
last_by_queue false = later true both_on _ refl
last_by_queue true = later true (asked_off false) _ refl

last_read : (b : Bool) (heard : Progress) → done ≡ heard → IsAtStage (engine_step got_here (opening_at echo b (echo ∷ []) heard))
last_read b heard is = subst (λ (p : Progress). IsAtStage (engine_step got_here (opening_at echo b (echo ∷ []) p))) is (last_by_queue b)

reads : (q : Question) (b : Bool) (going : List Question) (heard : Progress) → Lead (next q) going heard
    → IsAtStage (engine_step got_here (opening_at q b (q ∷ going) heard))
unfolding options_after_word reply_to cell
reads linemode b going heard lead = opens naws b going heard _ lead (append-nil (map asks (left heard)))
reads naws b going heard lead = opens ours b going heard _ lead (append-nil (map asks (left heard)))
reads ours b going heard lead = opens theirs b going heard _ lead (append-nil (map asks (left heard)))
reads theirs b going heard lead = opens echo b going heard _ lead (append-nil (map asks (left heard)))
reads echo b [] heard lead = last_read b heard lead
reads echo b (q ∷ going) heard lead = absurd (not_done q lead.0)

server_step : (q : Question) (b : Bool) (going : List Question) (heard : Progress) → Lead (before q) going heard
    → IsAtStage (engine_step got_here (opening_at q b going heard))
server_step q b [] heard lead = inl (record { waits = q; queued = b; going = []; heard = heard; lead = lead; is = refl })
server_step q b (p ∷ going) heard lead =
    let same : p ≡ q = sym (same_question q p lead.0) in
    subst (λ (r : Question). IsAtStage (engine_step got_here (opening_at q b (r ∷ going) heard))) (sym same)
    (reads q b going heard (subst (λ (r : Question). Lead (next r) going heard) same lead.1))

-- the client reads a question, and grants it
lead_on : (p : Progress) (going : List Question) (q : Question) → Lead p going (before q) → Lead p (going ++ q ∷ []) (next q)
lead_on p [] q lead = (lead, refl)
lead_on p (r ∷ going) q lead = (lead.0, lead_on (next r) going q lead.1)

granted : (p q : Question) (b : Bool) (going : List Question) → engine_step got_there (opening_at q b going (before p))
    ≡ record (opening_at q b going (next p)) { to_here = map grants going ++ grants p ∷ [] }
unfolding options_after_word reply_to cell
granted linemode q b going = refl
granted naws q b going = refl
granted ours q b going = refl
granted theirs q b going = refl
granted echo q b going = refl

client_step : (q : Question) (b : Bool) (going : List Question) (heard : Progress) → Lead (before q) going heard
    → IsAtStage (engine_step got_there (opening_at q b going heard))
client_step q b going done lead = inl (record { waits = q; queued = b; going = going; heard = done; lead = lead; is = refl })
client_step q b going (before p) lead =
    inl (record {
      waits = q;
      queued = b;
      going = going ++ p ∷ [];
      heard = next p;
      lead = lead_on (before q) going p lead;
      is = granted p q b going ∙ ap (λ (x : List (Verb × ℕ)). record (opening_at q b going (next p)) { to_here = x }) (sym (map-append grants going (p ∷ [])));
    })

-- the server requests its ECHO, or rejects it, before that question is answered: nothing is sent
wish_queued : (l n o t : QState) (b on : Bool) → options_after_wish (server_options l n o t (want_yes b)) Us 1 on ≡ server_options l n o t (want_yes (not on))
unfolding options_after_wish cell
wish_queued l n o t false false = refl
wish_queued l n o t false true = refl
wish_queued l n o t true false = refl
wish_queued l n o t true true = refl

wish_silent : (l n o t : QState) (b on : Bool) → asked_word (answer_to (server_options l n o t (want_yes b)) Us 1 on) ≡ None
unfolding answer_to cell
wish_silent l n o t false false = refl
wish_silent l n o t false true = refl
wish_silent l n o t true false = refl
wish_silent l n o t true true = refl

queued_at : (q : Question) (b on : Bool) → options_after_wish (server_at q b) Us 1 on ≡ server_at q (not on)
queued_at linemode b on = wish_queued WantYesEmpty WantYesEmpty WantYesEmpty WantYesEmpty b on
queued_at naws b on = wish_queued Yes WantYesEmpty WantYesEmpty WantYesEmpty b on
queued_at ours b on = wish_queued Yes Yes WantYesEmpty WantYesEmpty b on
queued_at theirs b on = wish_queued Yes Yes Yes WantYesEmpty b on
queued_at echo b on = wish_queued Yes Yes Yes Yes b on

silent_at : (q : Question) (b on : Bool) → asked_word (answer_to (server_at q b) Us 1 on) ≡ None
silent_at linemode b on = wish_silent WantYesEmpty WantYesEmpty WantYesEmpty WantYesEmpty b on
silent_at naws b on = wish_silent Yes WantYesEmpty WantYesEmpty WantYesEmpty b on
silent_at ours b on = wish_silent Yes Yes WantYesEmpty WantYesEmpty b on
silent_at theirs b on = wish_silent Yes Yes Yes WantYesEmpty b on
silent_at echo b on = wish_silent Yes Yes Yes Yes b on

pub wish_step : (q : Question) (b on : Bool) (e : EnginePair) → e.here ≡ server_at q b
    → engine_step (ask_here Us 1 on) e ≡ record e { here = server_at q (not on) }
wish_step q b on e is =
    ap (λ (o : Options). record e { here = options_after_wish o Us 1 on; to_there = e.to_there ++ option_to_list (asked_word (answer_to o Us 1 on)) }) is
    ∙ ap (λ (o : Options). record e { here = o; to_there = e.to_there ++ option_to_list (asked_word (answer_to (server_at q b) Us 1 on)) }) (queued_at q b on)
    ∙ ap (λ (w : Option (Verb × ℕ)). record e { here = server_at q (not on); to_there = e.to_there ++ option_to_list w }) (silent_at q b on)
    ∙ ap (λ (x : List (Verb × ℕ)). record e { here = server_at q (not on); to_there = x }) (append-nil e.to_there)

opening_steps : (t : Talk) (q : Question) (b : Bool) (going : List Question) (heard : Progress) → Lead (before q) going heard
    → IsAtStage (engine_step (step_of t) (opening_at q b going heard))
opening_steps server_hears q b going heard lead = server_step q b going heard lead
opening_steps client_hears q b going heard lead = client_step q b going heard lead
opening_steps (wishes_echo on) q b going heard lead =
    inl (record { waits = q; queued = not on; going = going; heard = heard; lead = lead; is = wish_step q b on (opening_at q b going heard) refl })

-- each step after the opening leads to one of the later states
later_steps : (t : Talk) (g : Bool) (s : Stage) → (r : Stage) × (engine_step (step_of t) (pair_at g s) ≡ pair_at g r)
unfolding options_after_word reply_to options_after_wish answer_to cell
later_steps server_hears g both_on = (both_on, refl)
later_steps server_hears g both_off = (both_off, refl)
later_steps server_hears g (asked_on b) = (asked_on b, refl)
later_steps server_hears g (asked_off b) = (asked_off b, refl)
later_steps server_hears g (granted_on false) = (both_on, refl)
later_steps server_hears g (granted_on true) = (asked_off false, refl)
later_steps server_hears g (granted_off false) = (both_off, refl)
later_steps server_hears g (granted_off true) = (asked_on false, refl)
later_steps client_hears g both_on = (both_on, refl)
later_steps client_hears g both_off = (both_off, refl)
later_steps client_hears g (asked_on b) = (granted_on b, refl)
later_steps client_hears g (asked_off b) = (granted_off b, refl)
later_steps client_hears g (granted_on b) = (granted_on b, refl)
later_steps client_hears g (granted_off b) = (granted_off b, refl)
later_steps (wishes_echo true) g both_on = (both_on, refl)
later_steps (wishes_echo true) g both_off = (asked_on false, refl)
later_steps (wishes_echo true) g (asked_on false) = (asked_on false, refl)
later_steps (wishes_echo true) g (asked_on true) = (asked_on false, refl)
later_steps (wishes_echo true) g (asked_off false) = (asked_off true, refl)
later_steps (wishes_echo true) g (asked_off true) = (asked_off true, refl)
later_steps (wishes_echo true) g (granted_on false) = (granted_on false, refl)
later_steps (wishes_echo true) g (granted_on true) = (granted_on false, refl)
later_steps (wishes_echo true) g (granted_off false) = (granted_off true, refl)
later_steps (wishes_echo true) g (granted_off true) = (granted_off true, refl)
later_steps (wishes_echo false) g both_on = (asked_off false, refl)
later_steps (wishes_echo false) g both_off = (both_off, refl)
later_steps (wishes_echo false) g (asked_on false) = (asked_on true, refl)
later_steps (wishes_echo false) g (asked_on true) = (asked_on true, refl)
later_steps (wishes_echo false) g (asked_off false) = (asked_off false, refl)
later_steps (wishes_echo false) g (asked_off true) = (asked_off false, refl)
later_steps (wishes_echo false) g (granted_on false) = (granted_on true, refl)
later_steps (wishes_echo false) g (granted_on true) = (granted_on true, refl)
later_steps (wishes_echo false) g (granted_off false) = (granted_off false, refl)
later_steps (wishes_echo false) g (granted_off true) = (granted_off false, refl)

-- each step after an opening for lines
line_hears : (s : LineStage) → IsAtStage (engine_step got_here (line_pair s))
unfolding options_after_word reply_to cell
line_hears (asks_both e) = lines (asks_both e) _ refl
line_hears (asks_size unasked) = lines (waits_asks unasked) _ refl
line_hears (asks_size (asked b)) = lines (waits_asks (asked b)) _ refl
line_hears (asks_none untold) = lines (waits_none untold) _ refl
line_hears (asks_none (told b)) = lines (waits_none (told b)) _ refl
line_hears (asks_none (consented b)) = lines (waits_none (consented b)) _ refl
line_hears (waits_asks e) = lines (waits_asks e) _ refl
line_hears (waits_none untold) = later false both_off _ refl
line_hears (waits_none (told b)) = later false (asked_on b) _ refl
line_hears (waits_none (consented b)) = later false (granted_on b) _ refl

line_tells : (s : LineStage) → IsAtStage (engine_step got_there (line_pair s))
unfolding options_after_word reply_to cell
line_tells (asks_both e) = lines (asks_size e) _ refl
line_tells (asks_size unasked) = lines (asks_none untold) _ refl
line_tells (asks_size (asked b)) = lines (asks_none (told b)) _ refl
line_tells (asks_none untold) = lines (asks_none untold) _ refl
line_tells (asks_none (told b)) = lines (asks_none (consented b)) _ refl
line_tells (asks_none (consented b)) = lines (asks_none (consented b)) _ refl
line_tells (waits_asks unasked) = lines (waits_none untold) _ refl
line_tells (waits_asks (asked b)) = lines (waits_none (told b)) _ refl
line_tells (waits_none untold) = lines (waits_none untold) _ refl
line_tells (waits_none (told b)) = lines (waits_none (consented b)) _ refl
line_tells (waits_none (consented b)) = lines (waits_none (consented b)) _ refl

abbrev echo_asked : Bool → Echo → Echo
echo_asked true unasked = asked false
echo_asked false unasked = unasked
echo_asked on (asked b) = asked (not on)

abbrev pub told_asked : Bool → Told → Told
told_asked true untold = told false
told_asked false untold = untold
told_asked on (told b) = told (not on)
told_asked on (consented b) = consented (not on)

abbrev line_asked : Bool → LineStage → LineStage
line_asked on (asks_both e) = asks_both (echo_asked on e)
line_asked on (asks_size e) = asks_size (echo_asked on e)
line_asked on (asks_none e) = asks_none (told_asked on e)
line_asked on (waits_asks e) = waits_asks (echo_asked on e)
line_asked on (waits_none e) = waits_none (told_asked on e)

line_wishes : (on : Bool) (s : LineStage) → engine_step (ask_here Us 1 on) (line_pair s) ≡ line_pair (line_asked on s)
unfolding options_after_wish answer_to cell
line_wishes true (asks_both unasked) = refl
line_wishes false (asks_both unasked) = refl
line_wishes true (asks_both (asked true)) = refl
line_wishes false (asks_both (asked true)) = refl
line_wishes true (asks_both (asked false)) = refl
line_wishes false (asks_both (asked false)) = refl
line_wishes true (asks_size unasked) = refl
line_wishes false (asks_size unasked) = refl
line_wishes true (asks_size (asked true)) = refl
line_wishes false (asks_size (asked true)) = refl
line_wishes true (asks_size (asked false)) = refl
line_wishes false (asks_size (asked false)) = refl
line_wishes true (asks_none untold) = refl
line_wishes false (asks_none untold) = refl
line_wishes true (asks_none (told true)) = refl
line_wishes false (asks_none (told true)) = refl
line_wishes true (asks_none (told false)) = refl
line_wishes false (asks_none (told false)) = refl
line_wishes true (asks_none (consented true)) = refl
line_wishes false (asks_none (consented true)) = refl
line_wishes true (asks_none (consented false)) = refl
line_wishes false (asks_none (consented false)) = refl
line_wishes true (waits_asks unasked) = refl
line_wishes false (waits_asks unasked) = refl
line_wishes true (waits_asks (asked true)) = refl
line_wishes false (waits_asks (asked true)) = refl
line_wishes true (waits_asks (asked false)) = refl
line_wishes false (waits_asks (asked false)) = refl
line_wishes true (waits_none untold) = refl
line_wishes false (waits_none untold) = refl
line_wishes true (waits_none (told true)) = refl
line_wishes false (waits_none (told true)) = refl
line_wishes true (waits_none (told false)) = refl
line_wishes false (waits_none (told false)) = refl
line_wishes true (waits_none (consented true)) = refl
line_wishes false (waits_none (consented true)) = refl
line_wishes true (waits_none (consented false)) = refl
line_wishes false (waits_none (consented false)) = refl

line_steps : (t : Talk) (s : LineStage) → IsAtStage (engine_step (step_of t) (line_pair s))
line_steps server_hears s = line_hears s
line_steps client_hears s = line_tells s
line_steps (wishes_echo on) s = lines (line_asked on s) _ (line_wishes on s)

steps_on : (t : Talk) (e : EnginePair) → IsAtStage e → IsAtStage (engine_step (step_of t) e)
steps_on t e (inl o) =
    subst (λ (x : EnginePair). IsAtStage (engine_step (step_of t) x)) (sym o.is) (opening_steps t o.waits o.queued o.going o.heard o.lead)
steps_on t e (inr (inl l)) = subst (λ (x : EnginePair). IsAtStage (engine_step (step_of t) x)) (sym l.is) (line_steps t l.stage)
steps_on t e (inr (inr s)) =
    let on = later_steps t s.suppressed s.stage in
    later s.suppressed on.0 _ (ap (engine_step (step_of t)) s.is ∙ on.1)

goes_on : (list : List Talk) (e : EnginePair) → IsAtStage e → IsAtStage (talk_steps list e)
goes_on [] e at = at
goes_on (t ∷ list) e at = goes_on list (engine_step (step_of t) e) (steps_on t e at)

begins : (o : Opening) → IsAtStage (opening_pair o)
unfolding new_options options_after_wish cell
begins Keys = inl (record { waits = linemode; queued = false; going = []; heard = before linemode; lead = refl; is = refl })
begins Lines = lines (asks_both unasked) _ refl

-- wherever a talk leads
pub at_stage : (e : EnginePair) → HasTalked e → IsAtStage e
at_stage e m = subst IsAtStage m.talk.1 (goes_on m.talk.0 (opening_pair m.opening) (begins m.opening))
