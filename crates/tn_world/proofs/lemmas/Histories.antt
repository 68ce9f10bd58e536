-- The relation of two histories, with no end and no flight of bytes: it holds of the opening if the special
-- characters are the standard ones, and each event keeps it.
use Rattle.std.proofs.Common.{◌≡◌, ℕ, false, List, [], ◌∷◌, ◌++◌, refl, sym, ap, ◌∙◌, subst, append_assoc, append-nil}
use Rattle.std.proofs.lemmas.List.{append_cancel_left, take-append-drop}
use Rattle.std.specs.Prelude.{Option, Some, None, option_to_list}
use Rattle.tn_client.specs.Events as client
use Rattle.tn_client.specs.Replies as client_says
use Rattle.tn_client.specs.{Replies.command_sent, declared.commands.UserCommand.UserCommand, Steps.{end_after, says}}
use Rattle.tn_client.specs.declared.commands.UserCommand.TheVariants as user
use Rattle.tn_codes.specs.declared.codes.Command.TheVariants as command
use Rattle.tn_discipline.specs.{Canon.{Canon, typed_entries}, Characters.standard_characters, declared.{termios.Settings.Settings, reads.Entry.Entry}}
use Rattle.tn_discipline.specs.HalfLine.{HalfLine}
use Rattle.tn_linemode.specs.Modes.{Modes, edits}
use Rattle.tn_nvt.specs.{Spelling.lf, declared.items.Item.{Item, TheVariants.Cmd}, Feeding.failed, Prefixes.IsPrefixOf}
use Rattle.tn_server.specs.Events as server
use Rattle.tn_server.specs.{Calls.{End as ServerEnd, LeadsTo}, Lines.{entries, taken_count}, Steps.{end_after as server_after, says as server_said}}
use Rattle.tn_server.specs.{Terms.Terms, declared.{openings.Opening.Opening, wishes.Editing.Editing}}
use Rattle.tn_server.specs.Replies as server_says
use Rattle.tn_server.specs.Terms as server_terms
use Rattle.tn_server.proofs.lemmas.Ends.{end_at as server_at, stands_there as server_there, taken_at, taken_got, taken_took, line_is, waits_are}
use Rattle.tn_server.proofs.lemmas.Leading as server_leads
use Rattle.tn_client.proofs.lemmas.{Standings.says_as, Lines.{end_at, end_next, stands_there}}
use Rattle.tn_world.proofs.Tied.{key-tied, line-tied, interrupt-tied, aside-tied, resize-tied, return-tied, client-as, reach-tied, call-tied, take-tied}
use Rattle.tn_world.proofs.{Tied.{server-as, tied-begins, tied-complete}, Interrupting.interrupts_there, Opening.begun_tied, ServerSteps.IsCall}
use Rattle.tn_world.proofs.Machine.{SaysItems}
use Rattle.tn_world.proofs.ClientSteps as client_steps
use Rattle.tn_world.proofs.ServerSteps as server_steps
use Rattle.tn_world.specs.{Commands.{IsTypeable, key_for, interrupt_key}, relation.{Pictures.{server_core, ServerStays}, Relation.IsTied}}

-- TWO ENDS that one history leads to
same_core : (h : server.History) (a b : ServerEnd) → LeadsTo h a → LeadsTo h b → server_core a ≡ server_core b
same_core h a b s t =
    ap (λ (x : Terms). record (server_core a) { linemode = server_terms.linemode x.options }) (s.terms ∙ sym t.terms)
    ∙ ap (λ (x : Modes). record (server_core a) { linemode = server_terms.linemode b.terms.options; edit = edits x.current }) (s.modes ∙ sym t.modes)
    ∙ ap (λ (x : HalfLine). record (server_core b) { half = x.held; waiting = a.terminal.entries }) (line_is h a s ∙ sym (line_is h b t))
    ∙ ap (λ (x : List Entry). record (server_core b) { waiting = x }) (sym (waits_are h a s) ∙ waits_are h b t)

same_stays : (canon : Canon) (h : server.History) (a b : ServerEnd) → LeadsTo h a → LeadsTo h b → ServerStays canon a → ServerStays canon b
same_stays canon h a b s t k =
    server_steps.stays_aside canon a b (t.terms ∙ sym s.terms) (t.table ∙ sym s.table) (t.settings ∙ sym s.settings) (t.limit ∙ sym s.limit) (t.ahead ∙ sym s.ahead) k

-- the end after one more event
next_core : (h : server.History) (e : server.Event) → server_core (server_at (server.next h e)) ≡ server_core (server_after (server_at h) e)
next_core h e =
    same_core (server.next h e) (server_at (server.next h e)) (server_after (server_at h) e) (server_there (server.next h e))
    (server_leads.stands h (server_at h) e (server_there h))

next_stays : (canon : Canon) (h : server.History) (e : server.Event) → ServerStays canon (server_after (server_at h) e)
    → ServerStays canon (server_at (server.next h e))
next_stays canon h e k =
    same_stays canon (server.next h e) (server_after (server_at h) e) (server_at (server.next h e)) (server_leads.stands h (server_at h) e (server_there h))
    (server_there (server.next h e)) k

next_said : (h : server.History) (e : server.Event) → server_says.replies h e ≡ server_said (server_at h) e
next_said h e = server_leads.says_as h (server_at h) e (server_there h)

items_call : (h : server.History) (e : server.Event) → IsCall e → server.items (server.next h e) ≡ server.items h
items_call h (server.got item) is = absurd is
items_call h (server.char_set func value) is = absurd is
items_call h _ is = refl

-- the keys that were typed at a client, a new line as LF and a command as the key that it stands for at a
-- terminal with these settings
abbrev pub keys_typed : Settings → client.History → List ℕ
keys_typed s (client.begun width height limit) = []
keys_typed s (client.next h (client.typed key)) = keys_typed s h ++ key ∷ []
keys_typed s (client.next h client.entered) = keys_typed s h ++ lf ∷ []
keys_typed s (client.next h (client.sent command)) = keys_typed s h ++ option_to_list (key_for command s)
keys_typed s (client.next h _) = keys_typed s h

-- each command stands for a key there, or is no input
abbrev pub AreTypeable : Settings → client.History → Type 0
AreTypeable s (client.begun width height limit) = Unit {0}
AreTypeable s (client.next h (client.sent command)) = AreTypeable s h × IsTypeable command s
AreTypeable s (client.next h _) = AreTypeable s h

-- TWO HISTORIES: what each has got are the first items that the other sent; the others are on their way.
pub record TiedHistories (canon : Canon) (h : server.History) (k : client.History) : Type 0 where
  pub there : List Item
  pub said : client_says.items_said k ≡ server.items h ++ there
  pub back : List Item
  pub told : server_says.items_said h ≡ client.items k ++ back
  pub tied : IsTied canon (keys_typed canon.settings k) (taken_at h) there back (server_at h) (end_at k)

-- the first of what is left
next_of : (xs there all : List Item) (x : Item) → all ≡ xs ++ there → IsPrefixOf (xs ++ x ∷ []) all → (later : List Item) × (there ≡ x ∷ later)
next_of xs there all x e p = (p.0, append_cancel_left xs there (x ∷ p.0) (sym e ∙ sym p.1 ∙ append_assoc xs (x ∷ []) p.0))

-- THE SERVER: the longer history leads to it
server_next : (canon : Canon) (h : server.History) (k : client.History) (e : server.Event) (there back : List Item)
    → IsTied canon (keys_typed canon.settings k) (taken_at (server.next h e)) there (back ++ server_said (server_at h) e) (server_after (server_at h) e) (end_at k)
    → IsTied canon (keys_typed canon.settings k) (taken_at (server.next h e)) there (back ++ server_says.replies h e) (server_at (server.next h e)) (end_at k)
server_next canon h k e there back t =
    subst (λ (r : List Item). IsTied canon (keys_typed canon.settings k) (taken_at (server.next h e)) there (back ++ r) (server_at (server.next h e)) (end_at k))
    (sym (next_said h e)) (server-as t (server_at (server.next h e)) (next_core h e) (next_stays canon h e t.server))

pub reaches : (canon : Canon) (h : server.History) (k : client.History) (x : Item) → IsPrefixOf (server.items h ++ x ∷ []) (client_says.items_said k)
    → TiedHistories canon h k → TiedHistories canon (server.next h (server.got x)) k
reaches canon h k x p t =
    let n = next_of (server.items h) t.there (client_says.items_said k) x t.said p in
    let r = server_says.replies h (server.got x) in
    let whole = t.said ∙ ap (λ (l : List Item). server.items h ++ l) n.1 in
    let said = server_said (server_at h) (server.got x) in
    let one = reach-tied t.tied (x ∷ []) n.0 n.1 in
    let end = server_after (server_at h) (server.got x) in
    record {
      there = n.0;
      said = whole ∙ sym (append_assoc (server.items h) (x ∷ []) n.0);
      back = t.back ++ r;
      told = ap (λ (l : List Item). l ++ r) t.told ∙ append_assoc (client.items k) t.back r;
      tied = server_next canon h k (server.got x) n.0 t.back
          (subst (λ (es : List Entry). IsTied canon (keys_typed canon.settings k) es n.0 (t.back ++ said) end (end_at k)) (sym (taken_got h x))
          (subst (λ (l : List Item). IsTied canon (keys_typed canon.settings k) (taken_at h) n.0 (t.back ++ l) end (end_at k)) (append-nil said) one));
    }

-- a call that takes no entry, and one that takes the first
tied_called : (canon : Canon) (h : server.History) (k : client.History) (e : server.Event) (there back : List Item) → IsCall e
    → IsTied canon (keys_typed canon.settings k) (taken_at h) there back (server_at h) (end_at k)
    → IsTied canon (keys_typed canon.settings k) (taken_at (server.next h e)) there (back ++ server_said (server_at h) e) (server_after (server_at h) e) (end_at k)
tied_called canon h k server.took there back is t =
    subst (λ (es : List Entry). IsTied canon (keys_typed canon.settings k) es there (back ++ server_said (server_at h) server.took)
    (server_after (server_at h) server.took) (end_at k)) (sym (taken_took h)) (take-tied t)
tied_called canon h k (server.wrote bytes) there back is t = call-tied t (server.wrote bytes) tt
tied_called canon h k (server.pulled n) there back is t = call-tied t (server.pulled n) tt
tied_called canon h k (server.wished editing) there back is t = call-tied t (server.wished editing) tt
tied_called canon h k (server.echo_set on) there back is t = call-tied t (server.echo_set on) tt
tied_called canon h k (server.mask_set mask) there back is t = call-tied t (server.mask_set mask) tt
tied_called canon h k _ there back is t = absurd is

pub called : (canon : Canon) (h : server.History) (k : client.History) (e : server.Event) → IsCall e → TiedHistories canon h k
    → TiedHistories canon (server.next h e) k
called canon h k e is t =
    let r = server_says.replies h e in
    record {
      there = t.there;
      said = t.said ∙ ap (λ (l : List Item). l ++ t.there) (sym (items_call h e is));
      back = t.back ++ r;
      told = ap (λ (l : List Item). l ++ r) t.told ∙ append_assoc (client.items k) t.back r;
      tied = server_next canon h k e t.there t.back (tied_called canon h k e t.there t.back is t.tied);
    }

-- THE CLIENT: what it sends joins what is on its way
says_more : (canon : Canon) (h : server.History) (k : client.History) (e : client.Event) (back : List Item) (t : TiedHistories canon h k)
    → server_says.items_said h ≡ client.items (client.next k e) ++ back
    → IsTied canon (keys_typed canon.settings (client.next k e)) (taken_at h) (t.there ++ says (end_at k) e) back (server_at h) (end_after (end_at k) e)
    → TiedHistories canon h (client.next k e)
says_more canon h k e back t told tied =
    let r = says (end_at k) e in
    record {
      there = t.there ++ r;
      said = ap (λ (l : List Item). client_says.items_said k ++ l) (says_as k (end_at k) e (stands_there k)) ∙ ap (λ (l : List Item). l ++ r) t.said
          ∙ append_assoc (server.items h) t.there r;
      back = back;
      told = told;
      tied = subst (IsTied canon (keys_typed canon.settings (client.next k e)) (taken_at h) (t.there ++ r) back (server_at h)) (sym (end_next k e))
          (client-as tied failed false);
    }

pub types : (canon : Canon) (h : server.History) (k : client.History) (key : ℕ) → TiedHistories canon h k
    → TiedHistories canon h (client.next k (client.typed key))
types canon h k key t = says_more canon h k (client.typed key) t.back t t.told (key-tied t.tied key)

pub enters : (canon : Canon) (h : server.History) (k : client.History) → TiedHistories canon h k → TiedHistories canon h (client.next k client.entered)
enters canon h k t = says_more canon h k client.entered t.back t t.told (line-tied t.tied)

pub resizes : (canon : Canon) (h : server.History) (k : client.History) (width height : ℕ) → TiedHistories canon h k
    → TiedHistories canon h (client.next k (client.resized width height))
resizes canon h k width height t = says_more canon h k (client.resized width height) t.back t t.told (resize-tied t.tied width height)

-- a command, by the key that it stands for
sends_as : (canon : Canon) (h : server.History) (k : client.History) (sending : UserCommand) (key : Option ℕ) (t : TiedHistories canon h k)
    → key_for sending canon.settings ≡ key
    → IsTied canon (keys_typed canon.settings k ++ option_to_list key) (taken_at h) (t.there ++ Cmd (command_sent sending) ∷ []) t.back (server_at h) (end_at k)
    → TiedHistories canon h (client.next k (client.sent sending))
sends_as canon h k sending key t is tied =
    says_more canon h k (client.sent sending) t.back t t.told
    (subst (λ (o : Option ℕ). IsTied canon (keys_typed canon.settings k ++ option_to_list o) (taken_at h) (t.there ++ Cmd (command_sent sending) ∷ []) t.back
    (server_at h) (end_at k)) (sym is) tied)

-- a command that interrupts, as the key would
interrupts : (canon : Canon) (h : server.History) (k : client.History) (sending : UserCommand) (key : ℕ) → key_for sending canon.settings ≡ Some key
    → interrupt_key canon.settings ≡ Some key → SaysItems canon (Cmd command.Ip ∷ []) (Cmd (command_sent sending) ∷ [])
    → TiedHistories canon h k → TiedHistories canon h (client.next k (client.sent sending))
interrupts canon h k sending key is there writes t =
    sends_as canon h k sending (Some key) t is
    (interrupt-tied t.tied key (Cmd (command_sent sending) ∷ []) (interrupts_there canon.settings canon.settings.chars.intr key there) writes)

-- a command that is no input
passes : (canon : Canon) (h : server.History) (k : client.History) (sending : UserCommand) → key_for sending canon.settings ≡ None
    → SaysItems canon [] (Cmd (command_sent sending) ∷ []) → TiedHistories canon h k → TiedHistories canon h (client.next k (client.sent sending))
passes canon h k sending is writes t =
    let said = Cmd (command_sent sending) ∷ [] in
    sends_as canon h k sending None t is
    (subst (λ (keys : List ℕ). IsTied canon keys (taken_at h) (t.there ++ said) t.back (server_at h) (end_at k)) (sym (append-nil (keys_typed canon.settings k)))
    (aside-tied t.tied said writes))

pub sends : (canon : Canon) (h : server.History) (k : client.History) (sending : UserCommand) → IsTypeable sending canon.settings → TiedHistories canon h k
    → TiedHistories canon h (client.next k (client.sent sending))
sends canon h k user.Brk typeable t = interrupts canon h k user.Brk typeable.0 typeable.1 typeable.1 (client_steps.brk-writes canon) t
sends canon h k user.Ip typeable t = interrupts canon h k user.Ip typeable.0 typeable.1 typeable.1 (client_steps.ip-writes canon) t
sends canon h k user.Ayt typeable t = passes canon h k user.Ayt refl (client_steps.ayt-writes canon) t
sends canon h k user.Nop typeable t = passes canon h k user.Nop refl (client_steps.nop-writes canon) t

pub returns : (canon : Canon) (h : server.History) (k : client.History) (x : Item) → IsPrefixOf (client.items k ++ x ∷ []) (server_says.items_said h)
    → TiedHistories canon h k → TiedHistories canon h (client.next k (client.got x))
returns canon h k x p t =
    let n = next_of (client.items k) t.back (server_says.items_said h) x t.told p in
    let said = says (end_at k) (client.got x) in
    says_more canon h k (client.got x) n.0 t
    (t.told ∙ ap (λ (l : List Item). client.items k ++ l) n.1 ∙ sym (append_assoc (client.items k) (x ∷ []) n.0))
    (subst (λ (l : List Item). IsTied canon (keys_typed canon.settings k) (taken_at h) (t.there ++ l) n.0 (server_at h) (end_after (end_at k) (client.got x)))
    (append-nil said) (return-tied t.tied (x ∷ []) n.0 n.1))

-- THE OPENING
begun : (o : Opening) (canon : Canon) (width height : ℕ) → canon.settings.chars ≡ standard_characters
    → TiedHistories canon (server.begun o canon) (client.begun width height canon.limit)
begun o canon width height standard = record {
  there = [];
  said = refl;
  back = server_says.opening o;
  told = refl;
  tied = begun_tied o canon width height (server_at (server.begun o canon)) (end_at (client.begun width height canon.limit)) standard
      (server_there (server.begun o canon)) (stands_there (client.begun width height canon.limit));
}

-- the histories begin with a request, and with what it echoes shown
pub begins : (o : Opening) (canon : Canon) (editing : Editing) (width height n : ℕ) → canon.settings.chars ≡ standard_characters
    → TiedHistories canon (server.next (server.next (server.begun o canon) (server.wished editing)) (server.pulled n)) (client.begun width height canon.limit)
begins o canon editing width height n standard =
    let h = server.begun o canon in
    let k = client.begun width height canon.limit in
    called canon (server.next h (server.wished editing)) k (server.pulled n) tt
    (called canon h k (server.wished editing) tt (begun o canon width height standard))

-- WHAT IT STATES OF ENTRIES: those that were taken, and those that wait
pub prefix : (canon : Canon) (h : server.History) (k : client.History) → TiedHistories canon h k
    → IsPrefixOf (entries h) (typed_entries canon (keys_typed canon.settings k))
prefix canon h k t =
    let more = tied-begins t.tied in
    (more.0, ap (λ (es : List Entry). es ++ more.0) (sym (take-append-drop (taken_count h) (entries h))) ∙ more.1)

pub complete : (canon : Canon) (h : server.History) (k : client.History) → TiedHistories canon h k → server.items h ≡ client_says.items_said k
    → entries h ≡ typed_entries canon (keys_typed canon.settings k)
complete canon h k t all =
    let none = append_cancel_left (server.items h) t.there [] (sym t.said ∙ sym all ∙ sym (append-nil (server.items h))) in
    sym (take-append-drop (taken_count h) (entries h)) ∙ tied-complete t.tied none
