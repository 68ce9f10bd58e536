use Rattle.std.proofs.{Common.{◌++◌, drop, map, take, ap, ◌∙◌, arith}, lemmas.List.drop-drop}
use Rattle.tn_nvt.specs.Spelling.{spells}
use Rattle.tn_server.specs.Replies.{data_of}
use Rattle.tn_server.proofs.Spelling.{spelled_both, shown_still}
use Rattle.tn_server.proofs.screen.spell_front.Goals as goal

pub loop-done-preserved : goal.loop-done-preserved
loop-done-preserved c =
    let before = c.args.pair.now in
    let i = c.loop-done.done in
    let n = c.spell_some-done.result in
    let out = rw c.loop-done.invariant.pair at c.spell_some-done.ensures.out in
    let rest = rw c.loop-done.invariant.pair at c.spell_some-done.ensures.pair in
    record {
      within = omega arith;
      pair = rest ∙ ap (λ q. shown_still before q) (drop-drop n i before.queue);
      items =
          out
          ∙ ap (λ xs. xs ++ spells (map data_of (take n (drop i before.queue)))) c.loop-done.invariant.items
          ∙ spelled_both c.args.out.now.items before.queue i n;
      room = omega (arith, c.spell_some-done.ensures.len, c.spell_some-done.ensures.capacity, c.loop-done.invariant.room, c.spell_some-done.ensures.within);
    }
