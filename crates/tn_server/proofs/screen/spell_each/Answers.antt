use Rattle.std.proofs.{Common.{◌≡◌, ◌++◌, length, map, take, drop, refl, sym, ap, ◌∙◌, arith, append-nil, length-drop}, lemmas.List.drop-drop}
use Rattle.tn_nvt.specs.Spelling.{spells}
use Rattle.tn_server.specs.Replies.{data_of}
use Rattle.tn_server.proofs.Spelling.{spelled_both, shown_still}
use Rattle.tn_server.proofs.screen.spell_each.Goals as goal

pub loop-symbol-init : goal.loop-symbol-init
loop-symbol-init c =
    record { pair = refl; items = sym (append-nil c.args.out.now.items); len = omega (arith); capacity = omega (arith) }

pub spell_next-requires : goal.spell_next-requires
spell_next-requires c =
    let i = c.loop-symbol._symbol in
    let left = ap (λ p. length p.queue) c.loop-symbol.invariant.pair ∙ length-drop i c.args.pair.now.queue in
    record {
      some = omega (arith, left, c.loop-symbol-test.true, c.requires.enough);
      room = omega (arith, c.loop-symbol.invariant.len, c.loop-symbol.invariant.capacity, c.loop-symbol-test.true, c.requires.room);
    }

pub loop-symbol-preserved : goal.loop-symbol-preserved
loop-symbol-preserved c =
    let before = c.args.pair.now in
    let i = c.loop-symbol._symbol in
    let had = c.loop-symbol.invariant in
    let next = c.spell_next.ensures in
    let out = rw had.pair at next.out in
    let rest = rw had.pair at next.pair in
    record {
      pair = rest ∙ ap (λ q. shown_still before q) (drop-drop 1 i before.queue);
      items =
          out
          ∙ ap (λ xs. xs ++ spells (map data_of (take 1 (drop i before.queue)))) had.items
          ∙ spelled_both c.args.out.now.items before.queue i 1;
      len = omega (arith, had.len, next.len);
      capacity = omega (arith, had.capacity, next.capacity);
    }

pub returns : goal.returns
returns c =
    let had = c.loop-symbol.invariant in
    let all : c.loop-symbol._symbol ≡ c.args.count = omega (arith, c.loop-symbol.auto._symbol-end, c.loop-symbol-test.false) in
    record {
      out = rw all at had.items;
      pair = rw all at had.pair;
      len = rw all at had.len;
      capacity = had.capacity;
    }
