-- The terms of a client end: who edits and by which characters, who echoes, whether GO AHEAD is suppressed, and how
-- much of a line is held.
use Rattle.std.specs.Prelude.{Bool, is_some, length}
use Rattle.tn_client.specs.{Events.History, Lines.held_bytes, Terms.{options, mode, linemode, is_echoed, forward, chars}}
use Rattle.tn_codes.specs.OptionCodes as option_code
use Rattle.tn_cores.specs.declared.client.terms.Terms.{Terms}
use Rattle.tn_linemode.specs.Modes.{edits, traps}
use Rattle.tn_option.specs.{Options.{Options, state_of, is_yes}, declared.q_method.Side.TheVariants.Them}

-- the server suppresses GO AHEAD (RFC 858)
abbrev pub is_suppressed : Options → Bool
is_suppressed o = is_yes (state_of o Them option_code.suppress_go_ahead)

-- the terms of a client after a history
abbrev pub terms_at : History → Terms
terms_at h =
    record {
      linemode = linemode (options h);
      edits = edits (mode h);
      traps = traps (mode h);
      forwards = is_some (forward h);
      chars = chars h;
      echoed = is_echoed (options h);
      suppressed = is_suppressed (options h);
      held = length (held_bytes h);
    }
