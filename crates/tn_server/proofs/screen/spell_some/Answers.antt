use Rattle.std.proofs.{Common.{◌++◌, length, map, take, drop, ap, ◌∙◌, arith, length-drop}, lemmas.List.drop-drop}
use Rattle.tn_nvt.specs.Spelling.{spells}
use Rattle.tn_server.specs.Replies.{data_of}
use Rattle.tn_server.proofs.Spelling.{spelled_both, shown_still}
use Rattle.tn_server.proofs.screen.spell_some.Goals as goal

pub spell_each-requires : goal.spell_each-requires
spell_each-requires c =
    let run = c.pull_front-run in
    let left = ap (λ p. length p.queue) run.ensures.pair ∙ length-drop run.result c.args.pair.now.queue in
    record {
      enough = omega (arith, left, c.count_behind-more.ensures.within, c.requires.enough);
      room = omega (arith, run.ensures.len, run.ensures.capacity, c.count_behind-more.ensures.within, c.requires.room);
    }

pub returns : goal.returns
returns c =
    let before = c.args.pair.now in
    let i = c.pull_front-run.result in
    let n = c.count_behind-more.result in
    let first = c.pull_front-run.ensures in
    let then = c.spell_each.ensures in
    let out = rw first.pair at then.out in
    let rest = rw first.pair at then.pair in
    record {
      some = c.count_behind-more.ensures.some c.requires.some;
      within = c.count_behind-more.ensures.within;
      out =
          out
          ∙ ap (λ xs. xs ++ spells (map data_of (take n (drop i before.queue)))) first.out
          ∙ spelled_both c.args.out.now.items before.queue i n;
      pair = rest ∙ ap (λ q. shown_still before q) (drop-drop n i before.queue);
      len = omega (arith, first.len, then.len);
      capacity = omega (arith, first.capacity, then.capacity);
    }
