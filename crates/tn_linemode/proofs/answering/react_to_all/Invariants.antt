use Rattle.std.proofs.Common.{◌≡◌, ◌+◌, ◌≤◌, ◌++◌, length, take, vec_len, vec_capacity}
use Rattle.tn_linemode.specs.Exchange.{table_after, answers_along}
use Rattle.tn_linemode.proofs.answering.react_to_all.Given as goal

abbrev pub invariant-loop-triple : goal.invariant-loop-triple
invariant-loop-triple g l =
    let seen = take l.triple-index l.triples in
    let replies = answers_along g.T.Reacts.next g.T.Reacts.answer l.initial.table seen in
    record {
      table : l.table ≡ table_after g.T.Reacts.next l.initial.table seen;
      answers : l.answers.items ≡ l.initial.answers.items ++ replies;
      len : vec_len l.answers ≡ vec_len l.initial.answers + length replies;
      capacity : vec_capacity l.initial.answers ≤ vec_capacity l.answers;
    }
