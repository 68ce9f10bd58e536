-- The progress of a client's session, after each event.
use Rattle.std.specs.Prelude.{true, false}
use Rattle.tn_cores.specs.declared.client.messages.Origin.{Origin, TheVariants.{Keys, Net}}
use Rattle.tn_cores.specs.declared.{client.progress.ClientProgress.ClientProgress, messages.Message.Message}
use Rattle.tn_cores.specs.{Counting.{one_more, first_end}, declared.faults.SessionFault.SessionFault}
use Rattle.tn_cores.specs.declared.messages.Message.TheVariants.{HangUp, ReadFailed, Refused, Left}
use Rattle.tn_cores.specs.declared.faults.Ended.TheVariants as ended
use Rattle.tn_cores.specs.declared.faults.SessionFault.TheVariants as fault

-- the progress at the beginning
abbrev pub nothing_yet : ClientProgress
nothing_yet = record { at_end = false; closed = false; over = false; ended = ended.HangUp; pieces = 0 }

-- one more piece had its effect
abbrev pub after_piece : ClientProgress → ClientProgress
after_piece p = record p { pieces = one_more p.pieces }

-- no more bytes come from the network; keys may still come
abbrev pub after_hang_up : ClientProgress → ClientProgress
after_hang_up p = record p { at_end = true }

-- no more keys come, and nothing more goes to the network
abbrev pub after_close : ClientProgress → ClientProgress
after_close p = record p { closed = true }

-- the first fault counts
abbrev pub after_fault : SessionFault → ClientProgress → ClientProgress
after_fault f p = record p { ended = first_end p.ended (ended.Fault f) }

-- something failed: nothing has any effect from this message on
abbrev pub after_failure : SessionFault → ClientProgress → ClientProgress
after_failure f p = record p { ended = first_end p.ended (ended.Fault f); over = true }

-- a message that brings no bytes; no thread sends one that is not named in this definition
abbrev pub after_message : Origin → Message → ClientProgress → ClientProgress
after_message Net HangUp p = after_hang_up p
after_message Net ReadFailed p = after_hang_up (after_fault fault.Read p)
after_message Keys ReadFailed p = after_fault fault.Read p
after_message Keys Left p = after_close p
after_message Keys Refused p = after_failure fault.Memory p
after_message Net Refused p = after_failure fault.Memory p
after_message _ _ p = p
