-- The keys and commands that a reader gives and those that were read, and what more of them add.
use Rattle.std.proofs.Common.{◌≡◌, ℕ, Bool, true, All, Option, Some, None, option_to_list, List, [], ◌∷◌, ◌++◌, map, refl, sym, ap, ◌∙◌, subst, append_assoc}
use Rattle.std.proofs.{Common.append-nil, lemmas.{Grind.flat_map-append, List.Elements.{All-nil, All-cons, All-head, All-tail, All-pop}}}
use Rattle.std.specs.Io.KnownBytes.{Consumes}
use Rattle.tn_client.specs.{Events.{History, begun, next, got, resized, proposed}, declared.commands.UserCommand.UserCommand}
use Rattle.tn_client.specs.Events as client
use Rattle.tn_client.specs.declared.commands.UserCommand.TheVariants as user
use Rattle.tn_cores.specs.{client.Bringing.{Input, key_typed, command_sent, line_entered, keys_in, all_asked, input_of, inputs}, streams.Beside.TellsFirst}
use Rattle.tn_cores.specs.declared.streams.control.Control.{Control}
use Rattle.tn_nvt.specs.{Spelling.lf, Prefixes.IsPrefixOf}
use Rattle.tn_discipline.proofs.lemmas.{Histories.entries-all, KeyRoles.roles_of-append}
use Rattle.tn_discipline.specs.{Canon.{Canon, typed_entries}, Entries.{entries_of, half_of}, Characters.{Characters, standard_characters}, Steps.gain_all}
use Rattle.tn_discipline.specs.{Keys.{roles_of, role_by_signal}, declared.{reads.Sig.TheVariants.Int, termios.{Flags.Flags, Settings.Settings}, keys.Role.Role}}
use Rattle.tn_theorems.specs.sessions.Theorem.{HasKey, key_of, keys_of}
use Rattle.tn_session.specs.{workers.Mailbox.sender, declared.workers.{channels.View.View, mail.Mail.Mail}}
use Rattle.tn_session.specs.declared.workers.mail.Sender.TheVariants as who
use Rattle.tn_world.proofs.lemmas.Histories.{AreTypeable, keys_typed}
use Rattle.tn_world.specs.Commands.{IsTypeable, key_for, key_if, interrupt_key}

-- these bytes come first in what a reader gives
pub given_first : (all : List ℕ) (left : Option (List ℕ)) (first later bytes : List ℕ) → bytes ≡ first ++ later → Consumes (Some all) left bytes
    → (more : List ℕ) × (all ≡ first ++ more)
given_first all None first later bytes e c = absurd c
given_first all (Some ys) first later bytes e c = (later ++ ys, c ∙ ap (λ (bs : List ℕ). bs ++ ys) e ∙ append_assoc first later ys)

-- more keys only add entries
pub more_entries : (canon : Canon) (first more all : List ℕ) → all ≡ first ++ more → IsPrefixOf (typed_entries canon first) (typed_entries canon all)
more_entries canon first more all e =
    let before = roles_of canon.settings first in
    let after = roles_of canon.settings more in (
      gain_all canon.limit (half_of canon.limit before) after,
      sym (ap (λ (ks : List ℕ). typed_entries canon ks) e
          ∙ ap (λ (rs : List Role). entries_of canon.limit rs) (roles_of-append canon.settings first more)
          ∙ entries-all canon.limit before after),
    )

pub one_list : (a b : List Mail) → sender who.Keys a ≡ sender who.Keys b → a ≡ b
one_list a b e = is_some a b (ap (λ (v : View). v.keys) e)
  where
    is_some : (x y : List Mail) → Some x ≡ Some y → x ≡ y
    is_some x y eq = cc

-- WHAT IS TYPED, AS KEYS OF A TERMINAL
pub keys_of-append : (s : Settings) (xs ys : List Input) → keys_of s (xs ++ ys) ≡ keys_of s xs ++ keys_of s ys
keys_of-append s xs ys = flat_map-append (key_of s) xs ys

-- the standard key INTR interrupts, if ISIG is set
interrupts : (flags : Flags) → flags.isig ≡ true → interrupt_key (record { flags = flags; chars = standard_characters }) ≡ Some 3
interrupts flags isig = ap (λ (b : Bool). key_if (role_by_signal b (Some Int) 3) 3) isig

there : (s : Settings) → s.chars ≡ standard_characters → s.flags.isig ≡ true → interrupt_key s ≡ Some 3
there s standard isig = subst (λ (c : Characters). interrupt_key (record { flags = s.flags; chars = c }) ≡ Some 3) (sym standard) (interrupts s.flags isig)

intr_is : (s : Settings) → s.chars ≡ standard_characters → s.flags.isig ≡ true → option_to_list (interrupt_key s) ≡ option_to_list s.chars.intr
intr_is s standard isig = ap option_to_list (there s standard isig ∙ sym (ap (λ (c : Characters). c.intr) standard))

key_as : (s : Settings) (command : UserCommand) → s.chars ≡ standard_characters → HasKey s (command_sent command)
    → option_to_list (key_for command s) ≡ key_of s (command_sent command)
key_as s user.Brk standard has = intr_is s standard has
key_as s user.Ip standard has = intr_is s standard has
key_as s user.Ayt standard has = refl
key_as s user.Nop standard has = refl

has_typeable : (s : Settings) (command : UserCommand) → s.chars ≡ standard_characters → HasKey s (command_sent command) → IsTypeable command s
has_typeable s user.Brk standard has = (3, there s standard has)
has_typeable s user.Ip standard has = (3, there s standard has)
has_typeable s user.Ayt standard has = tt
has_typeable s user.Nop standard has = tt

module _ (s : Settings) (standard : s.chars ≡ standard_characters) where
  abbrev pub HaveKeys : List Input → Type 0
  HaveKeys xs = All (λ input. HasKey s input) xs

  last_of : (xs : List Input) (x : Input) → HaveKeys (xs ++ x ∷ []) → HaveKeys xs × HasKey s x
  last_of xs x all = let one = All-pop (λ input. HasKey s input) (xs ++ x ∷ []) xs (Some x) refl all in (one.0, one.1)

  -- they are those that tn_world counts
  pub typed_as : (k : History) → HaveKeys (inputs k) → keys_typed s k ≡ keys_of s (inputs k)
  typed_as (begun width height limit) all = refl
  typed_as (next k (client.typed key)) all =
      ap (λ (ks : List ℕ). ks ++ key ∷ []) (typed_as k (last_of (inputs k) (key_typed key) all).0) ∙ sym (keys_of-append s (inputs k) (key_typed key ∷ []))
  typed_as (next k (client.sent command)) all =
      let both = last_of (inputs k) (command_sent command) all in
      let one = key_of s (command_sent command) in
      ap (λ (ks : List ℕ). keys_typed s k ++ ks) (key_as s command standard both.1 ∙ sym (append-nil one))
      ∙ ap (λ (ks : List ℕ). ks ++ (one ++ [])) (typed_as k both.0)
      ∙ sym (keys_of-append s (inputs k) (command_sent command ∷ []))
  typed_as (next k client.entered) all =
      ap (λ (ks : List ℕ). ks ++ lf ∷ []) (typed_as k (last_of (inputs k) line_entered all).0) ∙ sym (keys_of-append s (inputs k) (line_entered ∷ []))
  typed_as (next k (got item)) all = typed_as k all
  typed_as (next k (resized width height)) all = typed_as k all
  typed_as (next k (proposed func value)) all = typed_as k all

  -- each command that the client sends has its key at the server
  pub typeable : (k : History) → HaveKeys (inputs k) → AreTypeable s k
  typeable (begun width height limit) all = tt
  typeable (next k (client.typed key)) all = typeable k (last_of (inputs k) (key_typed key) all).0
  typeable (next k (client.sent command)) all =
      let both = last_of (inputs k) (command_sent command) all in
      (typeable k both.0, has_typeable s command standard both.1)
  typeable (next k client.entered) all = typeable k (last_of (inputs k) line_entered all).0
  typeable (next k (got item)) all = typeable k all
  typeable (next k (resized width height)) all = typeable k all
  typeable (next k (proposed func value)) all = typeable k all

pub first_of_all : {X : Type 0} (P : X → Type 0) (xs ys : List X) → All P (xs ++ ys) → All P xs
first_of_all P [] ys all = All-nil P
first_of_all P (x ∷ xs) ys all = All-cons P x xs (All-head P x (xs ++ ys) all) (first_of_all P xs ys (All-tail P x (xs ++ ys) all))

-- if nothing is asked for between keys, keys are keys
no_more : (x : Input) (xs : List Input) → x ∷ xs ≡ [] → ⊥
no_more x xs e = cc

pub only_keys : (s : Settings) (xs : List Input) → all_asked xs ≡ [] → keys_of s xs ≡ keys_in xs
only_keys s [] none = refl
only_keys s (key_typed key ∷ xs) none = ap (λ (ks : List ℕ). key ∷ ks) (only_keys s xs none)
only_keys s (command_sent command ∷ xs) none = absurd (no_more (command_sent command) (all_asked xs) none)
only_keys s (line_entered ∷ xs) none = absurd (no_more line_entered (all_asked xs) none)

pub none_told : (all : Option (List Control)) (told : List Control) → all ≡ Some [] → TellsFirst all told → map input_of told ≡ []
none_told all told is first =
    let tells = subst (λ (o : Option (List Control)). TellsFirst o told) is first in
    ap (map input_of) (nothing told tells.1.0 (sym tells.1.1))
  where
    nothing : (xs ys : List Control) → xs ++ ys ≡ [] → xs ≡ []
    nothing [] ys e = refl
    nothing (x ∷ xs) ys e = cc
