use Rattle.std.proofs.Common.{◌≡◌, ◌≤◌, ◌<◌, length, drop}
use Rattle.std.specs.Str.{all_ascii_digits, Parse.{digits_value, digits_value_after}}
use Rattle.tn_cli.proofs.scripts.number_within.Given as goal

abbrev pub invariant-loop-digit : goal.invariant-loop-digit
invariant-loop-digit l =
    record {
      some : 0 < length l.word;
      digits : all_ascii_digits l.word ≡ all_ascii_digits (drop l.digit-index l.word);
      value : digits_value 10 l.word ≡ digits_value_after 10 l.number (drop l.digit-index l.word);
      within : l.number ≤ l.most;
    }
