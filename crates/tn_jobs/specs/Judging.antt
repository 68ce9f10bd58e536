-- POSIX.1-2017, XBD 11.1.4: a job in the background that reads from its terminal is stopped by SIGTTIN,
-- and one that writes to it while TOSTOP is set by SIGTTOU. What reaches the terminal is this project's own.
use Rattle.std.specs.Prelude.{Bool, true, false, Option, Some, None}
use Rattle.tn_jobs.specs.declared.verdicts.After.{After, TheVariants.{Stay, WantsInput, Done, Stop, Hide, Show}}
use Rattle.tn_jobs.specs.declared.verdicts.{JobState.JobState, Why.TheVariants.{Tstp, Ttin, Ttou}}
use Rattle.tn_jobs.specs.declared.verdicts.JobState.TheVariants.{Foreground, Background, Stopped, Ended}
use Rattle.tn_jobs.specs.declared.verdicts.Verdict.{Verdict}

-- whether the text is written, and the next state
abbrev pub verdict : Bool → JobState → Option Verdict
verdict write next = Some (record { write = write; next = next })

-- the state, whether the step wrote a text, what comes after it, and the flag TOSTOP.
-- The first line that fits decides
abbrev pub judged : JobState → Bool → After → Bool → Option Verdict
judged (Stopped why) wrote after tostop = None
judged Ended wrote after tostop = None
judged Background true after true = verdict false (Stopped Ttou)
judged Background wrote WantsInput tostop = verdict wrote (Stopped Ttin)
judged Foreground wrote WantsInput tostop = verdict wrote Foreground
judged Foreground wrote Stay tostop = verdict wrote Foreground
judged Background wrote Stay tostop = verdict wrote Background
judged Foreground wrote Hide tostop = verdict wrote Foreground
judged Background wrote Hide tostop = verdict wrote Background
judged Foreground wrote Show tostop = verdict wrote Foreground
judged Background wrote Show tostop = verdict wrote Background
judged state wrote Stop tostop = verdict wrote (Stopped Tstp)
judged state wrote Done tostop = verdict wrote Ended

-- the echo that is asked for, of what is typed from then on
abbrev pub echo_asked : After → Option Bool
echo_asked Hide = Some false
echo_asked Show = Some true
echo_asked _ = None
