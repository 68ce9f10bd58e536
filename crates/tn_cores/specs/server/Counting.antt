-- The progress of a session, after each event.
use Rattle.std.specs.Prelude.{true, false, not}
use Rattle.tn_cores.specs.{Counting.{one_more, first_end}, declared.faults.Ended.{Ended, TheVariants.HangUp}}
use Rattle.tn_cores.specs.declared.server.progress.ServerProgress.{ServerProgress}

-- the progress at the beginning
abbrev pub nothing_yet : ServerProgress
nothing_yet =
    record { asks = false; at_end = false; over = false; ended = HangUp; pieces = 0; entries = 0; stops = 0 }

-- one more piece had its effect
abbrev pub after_piece : ServerProgress → ServerProgress
after_piece p = record p { pieces = one_more p.pieces }

-- a request was answered by an entry
abbrev pub after_answer : ServerProgress → ServerProgress
after_answer p = record p { asks = false; entries = one_more p.entries }

-- a request that no entry answers waits, unless input has ended
abbrev pub after_no_entry : ServerProgress → ServerProgress
after_no_entry p = record p { asks = not p.at_end }

-- a request that cannot be answered waits
abbrev pub after_request : ServerProgress → ServerProgress
after_request p = record p { asks = true }

-- no more bytes come, and no request waits
abbrev pub after_hang_up : ServerProgress → ServerProgress
after_hang_up p = record p { asks = false; at_end = true }

-- the session has got this end, unless it had one
abbrev pub after_end : Ended → ServerProgress → ServerProgress
after_end ended p = record p { ended = first_end p.ended ended }

-- one more stop of the foreground job
abbrev pub after_stop : ServerProgress → ServerProgress
after_stop p = record p { stops = one_more p.stops }

-- nothing has any effect any more, and no request waits
abbrev pub after_halt : ServerProgress → ServerProgress
after_halt p = record p { asks = false; over = true }
