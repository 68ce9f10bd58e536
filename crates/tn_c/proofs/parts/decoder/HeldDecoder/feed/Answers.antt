use Rattle.std.proofs.Common.{sym, subst}
use Rattle.tn_c.specs.{parts.{DecoderCalls.FeedCall, Faults.nvt_answer, Items.ReadStream}, declared.parts.codes.Code.Code}
use Rattle.tn_c.proofs.of_parts.Gathering.{fed_by}
use Rattle.tn_c.proofs.parts.decoder.HeldDecoder.feed.Goals as goal

pub returns : goal.returns
returns c =
    let told = c.feed_to.ensures in
    let after : ReadStream = record { decoder = c.feed_to.new.self; waiting = c.feed_to.new.sink; item = c.self.inside.item } in
    subst (λ (answer : Code). FeedCall c.args.piece.now answer c.args.self.now after) (sym c.code_of.ensures)
    (subst (λ (before : ReadStream). FeedCall c.args.piece.now (nvt_answer c.feed_to.result) before after) c.self.view_is
    (fed_by c.feed_to.result c.self.inside.decoder c.feed_to.new.self c.args.piece.now c.self.inside.waiting c.feed_to.new.sink c.self.inside.item
    told.ok told.refused told.memory told.lets_go told.fails told.failed told.failed_hands))
