-- Interleavings, and the rule of the mailbox.
use Rattle.std.specs.Prelude.{◌≡◌, Bool, true, false, List, Option, Some, None, [], ◌∷◌, ◌++◌, filter}
use Rattle.tn_session.specs.declared.workers.mail.Sender.{Sender, TheVariants.{Net, Desk, Back, Keys}}
use Rattle.tn_session.specs.declared.workers.{mail.Mail.Mail, channels.View.View}
use Rattle.tn_cores.specs.declared.messages.Message.{Message}

-- both are one sender
abbrev pub same : Sender → Sender → Bool
same Net Net = true
same Desk Desk = true
same Back Back = true
same Keys Keys = true
same _ _ = false

-- the messages of one sender, in order
abbrev pub from : Sender → List Mail → List Mail
from s mails = filter (λ m. same m.from s) mails

-- the messages of each sender are its list
abbrev pub Interleaves : List Mail → (Sender → List Mail) → Type 0
Interleaves mails lists = (s : Sender) → from s mails ≡ lists s

-- None is the role of the one that handles the messages
abbrev pub share : View → Option Sender → Option (List Mail)
share v None = v.handled
share v (Some Net) = v.net
share v (Some Desk) = v.desk
share v (Some Back) = v.back
share v (Some Keys) = v.keys

-- the messages that were handled, and then those that the mailbox holds, are an interleaving of those that
-- were sent
abbrev pub Woven : List Mail → (Option Sender → List Mail) → Type 0
Woven items held = Interleaves (held None ++ items) (λ s. held (Some s))

-- a list with one more message, if it is known
abbrev pub add : Option (List Mail) → Mail → Option (List Mail)
add None x = None
add (Some l) x = Some (l ++ x ∷ [])

-- the view with one more message of this sender
abbrev pub grown_at : Sender → View → Mail → View
grown_at Net v x = record v { net = add v.net x }
grown_at Desk v x = record v { desk = add v.desk x }
grown_at Back v x = record v { back = add v.back x }
grown_at Keys v x = record v { keys = add v.keys x }

-- the view after its sender sent the message
abbrev pub grown : View → Mail → View
grown v x = grown_at x.from v x

-- the view after the message was handled
abbrev pub handed : View → Mail → View
handed v x = record v { handled = add v.handled x }

-- the view of a pass with no role
abbrev pub nobody : View
nobody = record { handled = None; net = None; desk = None; back = None; keys = None }

-- the view of a pass with all roles, before any message
abbrev pub everyone : View
everyone = record { handled = Some []; net = Some []; desk = Some []; back = Some []; keys = Some [] }

-- the first list that is known
abbrev pub either : Option (List Mail) → Option (List Mail) → Option (List Mail)
either (Some l) o = Some l
either None o = o

-- the view of two passes that are joined
abbrev pub union : View → View → View
union v w = record {
  handled = either v.handled w.handled;
  net = either v.net w.net;
  desk = either v.desk w.desk;
  back = either v.back w.back;
  keys = either v.keys w.keys;
}

-- the facts that a pass gets of the roles that it has
abbrev pub Total : View → List Mail → Type 0
Total v items =
    (s : Sender) (h l : List Mail) → v.handled ≡ Some h → share v (Some s) ≡ Some l → from s (h ++ items) ≡ l

-- the view of a pass that has only the role of one sender
abbrev pub sender : Sender → List Mail → View
sender Net l = record nobody { net = Some l }
sender Desk l = record nobody { desk = Some l }
sender Back l = record nobody { back = Some l }
sender Keys l = record nobody { keys = Some l }

-- a message of this sender
abbrev pub mail : Sender → Message → Mail
mail s m = record { from = s; message = m }

-- the view with these handled messages
abbrev pub with_handled : View → List Mail → View
with_handled v l = record v { handled = Some l }

-- the lists of the four senders
abbrev pub four : List Mail → List Mail → List Mail → List Mail → Sender → List Mail
four net desk back keys Net = net
four net desk back keys Desk = desk
four net desk back keys Back = back
four net desk back keys Keys = keys
