-- The passes of a session, ready and put together.
use Rattle.std.specs.Prelude.{◌≡◌, List, Option, Some, None, [], ◌++◌}
use Rattle.crossbeam_channel.specs.{Claims.{view, IsSeatAt}, Ends.{sends_on, receives_on, ruled_capacity}}
use Rattle.tn_discipline.specs.declared.reads.Entry.{Entry}
use Rattle.tn_session.specs.{Credits.AreNewCredits, Facts.SessionViews, declared.session.Channels.Channels}
use Rattle.tn_session.specs.{workers.Mailbox.{Interleaves, four, sender}, declared.workers.channels.View.View}
use Rattle.tn_session.specs.declared.workers.mail.{Mail.Mail, Sender.TheVariants.{Net, Desk, Back}}
use Rattle.tn_cores.specs.queue.Queue.{putter, taker}
use Rattle.tn_nvt.specs.Prefixes.{IsPrefixOf}

-- the view of the one that handles, in a session of three senders; no thread sends as Keys
abbrev pub handler : List Mail → View
handler h = record { handled = Some h; net = None; desk = None; back = None; keys = Some [] }

-- nothing was sent, handled, put or taken; the mailbox holds 64 messages, and the channel of entries two; 32
-- steps may be sent and not yet handled; each pass has its seat
pub record IsReady (c : Channels) : Type 0 where
  pub one_mailbox : receives_on c.ends.from ≡ sends_on c.ends.to
  pub mails : ruled_capacity (sends_on c.ends.to) ≡ 64
  pub net_to : sends_on c.net.to ≡ sends_on c.ends.to
  pub desk_to : sends_on c.desk.to ≡ sends_on c.ends.to
  pub back_to : sends_on c.back.to ≡ sends_on c.ends.to
  pub pass : IsSeatAt (sends_on c.ends.to) c.passes.mails
  pub net : IsSeatAt (sends_on c.ends.to) c.net.pass
  pub desk : IsSeatAt (sends_on c.ends.to) c.desk.pass
  pub back : IsSeatAt (sends_on c.ends.to) c.back.pass
  pub pass_is : view c.passes.mails ≡ handler []
  pub net_is : view c.net.pass ≡ sender Net []
  pub desk_is : view c.desk.pass ≡ sender Desk []
  pub back_is : view c.back.pass ≡ sender Back []
  pub one_channel : receives_on c.take.from ≡ sends_on c.ends.put
  pub entries : ruled_capacity (sends_on c.ends.put) ≡ 2
  pub hand : IsSeatAt (sends_on c.ends.put) c.passes.hand
  pub took : IsSeatAt (sends_on c.ends.put) c.take.pass
  pub hand_is : view c.passes.hand ≡ putter []
  pub took_is : view c.take.pass ≡ taker []
  pub one_credit : receives_on c.credits.from ≡ sends_on c.ends.give
  pub give : IsSeatAt (sends_on c.ends.give) c.passes.give
  pub credits : IsSeatAt (sends_on c.ends.give) c.credits.pass
  pub step_credits : AreNewCredits c.passes.step_credits c.step_credits

-- for any lists: they are those of the new passes too, what was handled begins an interleaving of what was
-- sent, and what was taken begins what was put; the word to stop stays as it was
abbrev pub AreSettled : SessionViews → SessionViews → Type 0
AreSettled old new =
    (h a b c : List Mail) (p t : List (Option Entry)) → old.term ≡ handler h → old.net ≡ sender Net a
    → old.desk ≡ sender Desk b → old.back ≡ sender Back c
    → old.put ≡ putter p → old.took ≡ taker t
    → (new.net ≡ sender Net a) × (new.desk ≡ sender Desk b) × (new.back ≡ sender Back c)
    × (new.term ≡ handler h) × (new.put ≡ putter p) × (new.took ≡ taker t)
    × ((items : List Mail) × Interleaves (h ++ items) (four a b c [])) × IsPrefixOf t p
    × (new.told ≡ old.told)
