-- Two ends with all their options, and the messages that are on their way between them.
use Rattle.std.specs.Prelude.{◌≡◌, ◌⊎◌, ℕ, ◌==◌, Bool, true, false, ◌&&◌, Option, None, option_to_list}
use Rattle.std.specs.Prelude.{Result, Ok, Err, List, [], ◌∷◌, ◌++◌}
use Rattle.tn_codes.specs.OptionCodes as option_code
use Rattle.tn_codes.specs.declared.codes.Verb.{Verb, TheVariants.{Will, Wont, DoIt, DontIt}}
use Rattle.tn_option.specs.Options.{Options, new_options, options_after_word, reply_to, options_after_wish}
use Rattle.tn_option.specs.{Options.{answer_to, state_of}, declared.negotiation.Agree.Agree}
use Rattle.tn_option.specs.declared.q_method.{AskFault.AskFault, Side.{Side, TheVariants.{Us, Them}}}
use Rattle.tn_option.specs.declared.q_method.QState.TheVariants.{No, Yes}

-- the options of both ends, and the messages on their way to each, the next one first
pub record EnginePair : Type 0 where
  pub here : Options
  pub there : Options
  pub to_here : List (Verb × ℕ)
  pub to_there : List (Verb × ℕ)

-- a step of two ends
pub data EngineStep : Type 0 where
  -- an end requests that one side of an option be on or off
  ask_here : Side → ℕ → Bool → EngineStep
  ask_there : Side → ℕ → Bool → EngineStep
  -- the next message arrives at an end
  got_here : EngineStep
  got_there : EngineStep

-- the message that a request sends
abbrev pub asked_word : Result (Option (Verb × ℕ)) AskFault → Option (Verb × ℕ)
asked_word (Ok word) = word
asked_word (Err fault) = None

-- the pair after a request of the first end
abbrev pub pair_after_ask : Side → ℕ → Bool → EnginePair → EnginePair
pair_after_ask side code on e = record e {
  here = options_after_wish e.here side code on;
  to_there = e.to_there ++ option_to_list (asked_word (answer_to e.here side code on));
}

-- the pair after the first end takes the next message, if there is one
abbrev pub pair_after_word : List (Verb × ℕ) → EnginePair → EnginePair
pair_after_word [] e = e
pair_after_word (word ∷ rest) e = record e {
  here = options_after_word e.here word.0 word.1;
  to_here = rest;
  to_there = e.to_there ++ option_to_list (reply_to e.here word.0 word.1);
}

-- the pair seen from the other end
abbrev pub turned_pair : EnginePair → EnginePair
turned_pair e = record { here = e.there; there = e.here; to_here = e.to_there; to_there = e.to_here }

-- the pair after a step
abbrev pub engine_step : EngineStep → EnginePair → EnginePair
engine_step (ask_here side code on) e = pair_after_ask side code on e
engine_step (ask_there side code on) e = turned_pair (pair_after_ask side code on (turned_pair e))
engine_step got_here e = pair_after_word e.to_here e
engine_step got_there e = turned_pair (pair_after_word e.to_there (turned_pair e))

-- the pair after some steps, one after another
abbrev pub engine_steps : List EngineStep → EnginePair → EnginePair
engine_steps [] e = e
engine_steps (first ∷ rest) e = engine_steps rest (engine_step first e)

-- A TALK of a server and a client after the server's opening messages: the server requests only its own ECHO
-- (RFC 857), and the client requests nothing
pub data Talk : Type 0 where
  wishes_echo : Bool → Talk
  -- the next message arrives at the server, and at the client
  server_hears : Talk
  client_hears : Talk

-- an event of a talk as a step of two ends
abbrev pub step_of : Talk → EngineStep
step_of (wishes_echo on) = ask_here Us option_code.echo on
step_of server_hears = got_here
step_of client_hears = got_there

-- the pair after some events of a talk
abbrev pub talk_steps : List Talk → EnginePair → EnginePair
talk_steps [] e = e
talk_steps (first ∷ rest) e = talk_steps rest (engine_step (step_of first) e)

-- a talk leads from one pair to the other
abbrev pub TalkTo : EnginePair → EnginePair → Type 0
TalkTo old new = (list : List Talk) × (talk_steps list old ≡ new)

-- two fresh ends that agree to these options
abbrev pub pair_of : Agree → Agree → EnginePair
pair_of here there =
    record { here = new_options here; there = new_options there; to_here = []; to_there = [] }

-- a message that an end receives is about this side of it
abbrev pub is_about : Side → Verb → Bool
is_about Us DoIt = true
is_about Us DontIt = true
is_about Us Will = false
is_about Us Wont = false
is_about Them DoIt = false
is_about Them DontIt = false
is_about Them Will = true
is_about Them Wont = true

-- the message is the one for on
abbrev pub says_on : Verb → Bool
says_on Will = true
says_on Wont = false
says_on DoIt = true
says_on DontIt = false

-- the messages with one more before them, if it is about this side and option
abbrev pub with_word_about : Bool → Bool → List Bool → List Bool
with_word_about true on rest = on ∷ rest
with_word_about false on rest = rest

-- the messages on their way to an end about this side of this option, each as on or off
abbrev pub words_about : Side → ℕ → List (Verb × ℕ) → List Bool
words_about side code [] = []
words_about side code (word ∷ words) =
    with_word_about (is_about side word.0 && (word.1 == code)) (says_on word.0) (words_about side code words)

-- the side of the other end that is this side of this end
abbrev pub facing : Side → Side
facing Us = Them
facing Them = Us

-- if no message about an option is on its way, both ends have it on or both have it off
abbrev pub EnginesAgree : EnginePair → Side → ℕ → Type 0
EnginesAgree e side code =
    words_about side code e.to_here ≡ [] → words_about (facing side) code e.to_there ≡ []
    → ((state_of e.here side code ≡ Yes) × (state_of e.there (facing side) code ≡ Yes))
    ⊎ ((state_of e.here side code ≡ No) × (state_of e.there (facing side) code ≡ No))

-- some steps lead from two fresh ends to these two ends
pub record LeadTo (here there : Agree) (e : EnginePair) : Type 0 where
  pub list : List EngineStep
  pub is : engine_steps list (pair_of here there) ≡ e
