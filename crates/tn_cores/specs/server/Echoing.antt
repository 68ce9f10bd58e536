-- Whether typed keys are echoed (the terminal's flag ECHO), after a message.
use Rattle.std.specs.Prelude.{Bool, true, false, Option, Some, None}
use Rattle.tn_cores.specs.declared.messages.Message.{Message, TheVariants.Said}
use Rattle.tn_cores.specs.server.Run.{Run, in_foreground, echo_by}
use Rattle.tn_server.specs.Terms.{flags}

-- typed keys are echoed
abbrev pub is_echoing : Run → Bool
is_echoing c = (flags c.history).echo

-- the echo that was asked for, or the one before
abbrev pub asked_or : Option Bool → Bool → Bool
asked_or None before = before
asked_or (Some on) before = on

-- the echo after a message is the one for which the job in the foreground asks; no other message changes it
abbrev pub echo_by_message : Run → Message → Bool
echo_by_message c (Said id text after) = asked_or (echo_by (in_foreground c id.0) after) (is_echoing c)
echo_by_message c _ = is_echoing c

-- nor does a message that has no effect
abbrev pub echo_unless : Bool → Run → Message → Bool
echo_unless true c message = is_echoing c
echo_unless false c message = echo_by_message c message

-- whether typed keys are echoed after a message
abbrev pub echo_after : Run → Message → Bool
echo_after c message = echo_unless c.progress.over c message
