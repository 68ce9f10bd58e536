-- A terminal's flags as C gives them.
use Rattle.tn_discipline.specs.declared.termios.Flags.{Flags}
use Rattle.tn_c.specs.declared.parts.flags.TerminalFlags.{TerminalFlags}

-- the flags that C gives, as those of a terminal
abbrev pub flags_given : TerminalFlags → Flags
flags_given f =
    record {
      icrnl = f.icrnl;
      inlcr = f.inlcr;
      igncr = f.igncr;
      isig = f.isig;
      echo = f.echo;
      echoe = f.echoe;
      echok = f.echok;
      echonl = f.echonl;
      tostop = f.tostop;
      opost = f.opost;
      onlcr = f.onlcr;
    }
