-- The end of a script that was read whole.
use Rattle.std.proofs.Common.{◌≡◌, ℕ, ◌≤◌, List, length, Option, Some, Result, Ok, Err, refl, sym, subst}
use Rattle.std.specs.{Bool.⊤, Io.KnownBytes.{Consumes, IsAtEnd}}
use Rattle.tn_cli.proofs.Outputs.{whole_input}
use Rattle.tn_cli.specs.{Ends.EndsWorld, Playing.{AppendsText, EndsWith, PlaysScript, PlaysScriptPrefix, StopsAtBadLine, StopsAtRefusedLine}, Scripts.lines_of}
use Rattle.tn_cli.specs.{Streams.max_input, declared.fault.CliFault.CliFault}
use Rattle.tn_cli.specs.declared.fault.CliFault.TheVariants as fault

-- well: all that it prints was written
pub ends_well : (had rest : Option (List ℕ)) (input : List ℕ) (old new : Option (List ℕ)) → Consumes had rest input → IsAtEnd rest → length input ≤ max_input
    → PlaysScript input old new → EndsWorld (Ok tt) had old new
ends_well had rest input old new consumed end fits printed = record {
  run = record {
    ok = whole_input (λ text. PlaysScript text old new) had rest input consumed end printed;
    write = λ e. absurd (cc);
    short = λ a b. whole_input (λ text. length text ≤ max_input) had rest input consumed end fits;
    too_long = λ e. absurd (cc);
  };
  script = λ line e. absurd (cc);
  world = λ line e. absurd (cc);
  unwritten = tt;
}

-- the run ends by a write that failed
pub ends_by_write : (ended : Result ⊤ CliFault) (had rest : Option (List ℕ)) (input : List ℕ) (old new : Option (List ℕ)) → ended ≡ Err fault.Write
    → Consumes had rest input → IsAtEnd rest → length input ≤ max_input → PlaysScriptPrefix input old new → EndsWorld ended had old new
ends_by_write ended had rest input old new is consumed end fits printed =
    subst (λ r. EndsWorld r had old new) (sym is) (record {
      run = record {
        ok = tt;
        write = λ e. whole_input (λ text. PlaysScriptPrefix text old new) had rest input consumed end printed;
        short = λ a b. whole_input (λ text. length text ≤ max_input) had rest input consumed end fits;
        too_long = λ e. absurd (cc);
      };
      script = λ line e. absurd (cc);
      world = λ line e. absurd (cc);
      unwritten = λ a b c. absurd (a refl);
    })

-- the run ends at a line: what the lines before it print was written
pub ends_at_line : (f : CliFault) (had rest : Option (List ℕ)) (input : List ℕ) (old new : Option (List ℕ)) → Consumes had rest input → IsAtEnd rest
    → length input ≤ max_input
    → AppendsText (EndsWith (lines_of input) (Some f)) old new → EndsWorld (Err f) had old new
ends_at_line (fault.Script number) had rest input old new consumed end fits printed = record {
  run = record {
    ok = tt;
    write = λ e. absurd (cc);
    short = λ a b. whole_input (λ text. length text ≤ max_input) had rest input consumed end fits;
    too_long = λ e. absurd (cc);
  };
  script = λ line e. let same : number ≡ line = cc in whole_input
      (λ text. AppendsText (StopsAtBadLine (lines_of text) line) old new) had rest input consumed end
      (subst (λ n. AppendsText (StopsAtBadLine (lines_of input) n) old new) same printed);
  world = λ line e. absurd (cc);
  unwritten = λ a b c. absurd (b number refl);
}
ends_at_line (fault.World number) had rest input old new consumed end fits printed = record {
  run = record {
    ok = tt;
    write = λ e. absurd (cc);
    short = λ a b. whole_input (λ text. length text ≤ max_input) had rest input consumed end fits;
    too_long = λ e. absurd (cc);
  };
  script = λ line e. absurd (cc);
  world = λ line e. let same : number ≡ line = cc in whole_input
      (λ text. AppendsText (StopsAtRefusedLine (lines_of text) line) old new) had rest input consumed end
      (subst (λ n. AppendsText (StopsAtRefusedLine (lines_of input) n) old new) same printed);
  unwritten = λ a b c. absurd (c number refl);
}
ends_at_line fault.Read had rest input old new consumed end fits (text, never, added) = absurd never
ends_at_line fault.TooLong had rest input old new consumed end fits (text, never, added) = absurd never
ends_at_line fault.Write had rest input old new consumed end fits (text, never, added) = absurd never
ends_at_line fault.Memory had rest input old new consumed end fits (text, never, added) = absurd never
