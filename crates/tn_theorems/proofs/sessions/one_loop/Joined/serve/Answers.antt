use Rattle.std.proofs.Common.{ℕ, ◌++◌, Option, List, refl, ap, ◌∙◌, append_assoc}
use Rattle.tn_discipline.specs.declared.reads.Entry.{Entry}
use Rattle.tn_cores.specs.server.Run.{puts_of}
use Rattle.tn_theorems.proofs.sessions.one_loop.Joined.serve.Goals as goal

pub returns-clause-serves : goal.returns-clause-serves
returns-clause-serves c =
    let outcome = c.handle-put.result in
    let first = puts_of outcome.put in
    let last = puts_of outcome.last in
    record {
      mark = outcome.mark;
      bytes = c.handle-put.new.out.items;
      put = outcome.put;
      last = outcome.last;
      turn = c.handle-put.ensures.turns;
      to_client = c.in_ok-extend_from_slice.ensures.items
          ∙ ap (λ (more : List ℕ). c.args.self.now.to_client.items ++ more) (search depth 0);
      puts = c.in_ok-keep-2.ensures.put ∙ ap (λ (puts : List (Option Entry)). puts ++ last) c.in_ok-keep.ensures.put
          ∙ append_assoc c.args.self.now.puts.items first last;
      core = refl;
      to_server = refl;
      shown = refl;
    }
