use Rattle.std.proofs.Common.{◌≡◌, ◌+◌, length, take}
use Rattle.tn_editor.specs.{Grouping.past, EditedLines.{is_parting, weigh}}
use Rattle.tn_editor.proofs.edited_line.EditedLine.take_while.Given as goal

-- the characters that are left give the result for all of them, and only last characters are gone
abbrev pub invariant-loop : goal.invariant-loop
invariant-loop l =
    record {
      rest : past (is_parting l.parting l.words) l.self.characters ≡ past (is_parting l.fn.parting l.fn.words) l.fn.self.characters;
      held : l.self.held ≡ take (weigh l.self.characters) l.fn.self.held;
      ahead : l.self.ahead ≡ l.fn.self.ahead;
      limit : l.self.limit ≡ l.fn.self.limit;
      count : length l.self.characters + l.counter ≡ length l.fn.self.characters;
      whole : l.end ≡ length l.fn.self.characters;
    }
