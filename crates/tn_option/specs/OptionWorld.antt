-- One option in one direction, between two ends that keep the table of RFC 1143.
use Rattle.std.specs.Prelude.{◌≡◌, ◌⊎◌, ℕ, ◌+◌, ◌≤◌, ◌*◌, Bool, true, false, Option, Some, None, List, []}
use Rattle.std.specs.Prelude.{◌∷◌, ◌++◌}
use Rattle.tn_option.specs.{QMethod.{cell, wish_for}, declared.q_method.Side.{Side, TheVariants.{Us, Them}}}
use Rattle.tn_option.specs.declared.q_method.{QState.{QState, TheVariants.{No, Yes}}, OptionEvent.OptionEvent}
use Rattle.tn_option.specs.declared.q_method.{OptionEvent.TheVariants.{HeardOn, HeardOff}, Answer.Answer}
use Rattle.tn_option.specs.declared.q_method.Answer.TheVariants as answer

-- the state of the option at one end, and the messages that are on their way to it, the next one first. A
-- message is whether it is the other end's message for on (WILL or DO) or for off (WONT or DONT)
pub record OptionEnd : Type 0 where
  pub state : QState
  pub coming : List Bool

-- the end that performs the option and the other end, the number of accepted requests, and the number of
-- messages that were sent
pub record OptionWorld : Type 0 where
  pub performing : OptionEnd
  pub other : OptionEnd
  pub wishes : ℕ
  pub words : ℕ

-- The side is that of the end at which it happens: Us at the end that performs the option. The first
-- Bool: this end agrees, at this step, to have the option on
pub data OptionStep : Type 0 where
  -- an end requests that it be on or off
  wish : Side → Bool → Bool → OptionStep
  -- the next message arrives, if there is one
  deliver : Side → Bool → OptionStep

-- the event that a message is at the end where it arrives
abbrev pub cause_of_word : Bool → OptionEvent
cause_of_word true = HeardOn
cause_of_word false = HeardOff

-- the message that an answer sends
abbrev pub word_of : Answer → Option Bool
word_of answer.Nothing = None
word_of answer.SayOn = Some true
word_of answer.SayOff = Some false
word_of answer.AlreadySo = None
word_of answer.AlreadyAsked = None
word_of answer.AlreadyQueued = None

-- one for a request that is accepted
abbrev pub accepted_count : Answer → ℕ
accepted_count answer.Nothing = 1
accepted_count answer.SayOn = 1
accepted_count answer.SayOff = 1
accepted_count answer.AlreadySo = 0
accepted_count answer.AlreadyAsked = 0
accepted_count answer.AlreadyQueued = 0

-- the messages on their way with one more, if there is one
abbrev pub with_word : List Bool → Option Bool → List Bool
with_word coming None = coming
with_word coming (Some word) = coming ++ (word ∷ [])

-- one for a message that is sent
abbrev pub word_count : Option Bool → ℕ
word_count None = 0
word_count (Some word) = 1

-- the performing end takes a cell of the table: its next state, and the message that it sends
abbrev pub world_after_cell : QState × Answer → OptionWorld → OptionWorld
world_after_cell c w = record w {
  performing = record w.performing { state = c.0 };
  other = record w.other { coming = with_word w.other.coming (word_of c.1) };
  words = w.words + word_count (word_of c.1);
}

-- the world after a request of the performing end
abbrev pub world_after_wish : QState × Answer → OptionWorld → OptionWorld
world_after_wish c w = record (world_after_cell c w) { wishes = w.wishes + accepted_count c.1 }

-- the world after the performing end takes the next message, if there is one
abbrev pub world_after_word : Bool → List Bool → OptionWorld → OptionWorld
world_after_word agreed [] w = w
world_after_word agreed (word ∷ rest) w =
    world_after_cell (cell agreed (cause_of_word word) w.performing.state)
    (record w { performing = record w.performing { coming = rest } })

-- the two ends change places
abbrev pub swapped_world : OptionWorld → OptionWorld
swapped_world w = record w { performing = w.other; other = w.performing }

-- the world after a step, of either end
abbrev pub step : OptionStep → OptionWorld → OptionWorld
step (wish Us agreed on) w = world_after_wish (cell agreed (wish_for on) w.performing.state) w
step (wish Them agreed on) w =
    swapped_world (world_after_wish (cell agreed (wish_for on) w.other.state) (swapped_world w))
step (deliver Us agreed) w = world_after_word agreed w.performing.coming w
step (deliver Them agreed) w = swapped_world (world_after_word agreed w.other.coming (swapped_world w))

-- the world after some steps, one after another
abbrev pub steps : List OptionStep → OptionWorld → OptionWorld
steps [] w = w
steps (first ∷ rest) w = steps rest (step first w)

-- the option is off at both ends, and neither end has requested or sent anything
abbrev pub opening_world : OptionWorld
opening_world = record {
  performing = record { state = No; coming = [] };
  other = record { state = No; coming = [] };
  wishes = 0;
  words = 0;
}

-- if no message is on its way, the option is on at both ends or off at both
abbrev pub EndsAgree : OptionWorld → Type 0
EndsAgree w =
    w.performing.coming ≡ [] → w.other.coming ≡ []
    → ((w.performing.state ≡ Yes) × (w.other.state ≡ Yes))
    ⊎ ((w.performing.state ≡ No) × (w.other.state ≡ No))

-- at most two messages were sent for each accepted request
abbrev pub FewWords : OptionWorld → Type 0
FewWords w = w.words ≤ 2 * w.wishes
