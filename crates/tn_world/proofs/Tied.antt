-- The effect of each step of an end on two ends that are tied by the items between them.
use Rattle.std.proofs.{Common.{◌≡◌, ℕ, Bool, true, false, List, [], ◌∷◌, ◌++◌, take, refl, sym, ap, ◌∙◌, if◌then◌else◌, subst}, lemmas.List.Elements.All-append}
use Rattle.std.specs.Prelude.{All}
use Rattle.tn_codes.specs.declared.codes.Command.TheVariants.{Ip}
use Rattle.tn_nvt.specs.{declared.items.Item.{Item, TheVariants.Cmd}, Feeding.DecoderState, Spelling.{lf, Fits}, Prefixes.IsPrefixOf}
use Rattle.tn_discipline.specs.{Canon.{Canon, typed_entries, typed_half}, Keys.role_of_key, declared.reads.{Entry.Entry, Sig.TheVariants.Int}}
use Rattle.tn_discipline.specs.declared.keys.Role.TheVariants as role
use Rattle.tn_linemode.specs.Modes.{edits}
use Rattle.tn_client.specs.Calls as client
use Rattle.tn_client.specs.{Steps.{end_after_key, says_key, says_new_line, end_after_resize, says_resize, end_after_items, says_items}, Terms.linemode}
use Rattle.tn_server.specs.Calls as server
use Rattle.tn_server.specs.Events as server_calls
use Rattle.tn_server.specs.Steps as server_steps
use Rattle.tn_world.specs.relation.{Calm.{IsCalmToServer, IsCalmToClient, bits, IsAskable}, Pictures.{Server, server_core, ServerStays, ClientStays}}
use Rattle.tn_world.specs.relation.Relation.{Agrees, AreOrdinary, IsTied, server_at}
use Rattle.tn_world.proofs.{Machine.{AreSaid, SaysItems, read_all}, ClientSteps.{key_said, line_said, key_stays, items-come, resized-writes}}
use Rattle.tn_world.proofs.{ServerSteps.{KeepsEntries, calls, goes_on, calm_call, stays_call, core_call}, Reading.{all_parts, read_all-append}}
use Rattle.tn_world.proofs.Changing.{key-agrees, line-agrees, interrupt-agrees, beside-agrees}
use Rattle.tn_world.proofs.Prefixes.{take-agrees, agreed, prefix_after, prefix_trans, prefix_same, read-more}

-- tied, if what the steps of lines make of the server agrees
tie : (canon : Canon) (typed : List ℕ) (taken : List Entry) (there back : List Item) (s : server.End) (c : client.End) → All Fits there
    → All (IsCalmToServer canon.settings) there → All (IsCalmToClient canon.settings) back → ServerStays canon s → ClientStays canon c
    → Agrees canon typed taken (read_all canon (server_core s) there) c → IsTied canon typed taken there back s c
tie canon typed taken there back s c fit calm asked server client agrees = record {
  fit = fit;
  calm = calm;
  calm_back = asked;
  agrees = subst (λ u. Agrees canon typed taken u c) (sym (goes_on canon s there server fit calm).core) agrees;
  server = server;
  client = client;
}

module _ {canon : Canon} {typed : List ℕ} {taken : List Entry} {there back : List Item} {s : server.End} {c : client.End}
    (t : IsTied canon typed taken there back s c) where
  abbrev pub v : Server
  v = read_all canon (server_core s) there

  pub seen : Agrees canon typed taken v c
  seen = subst (λ u. Agrees canon typed taken u c) (goes_on canon s there t.server t.fit t.calm).core t.agrees

  -- THE CLIENT sends these
  client-says : (later said : List Item) (keys : List ℕ) (new : client.End) → AreSaid canon said → All (IsCalmToClient canon.settings) later
      → ClientStays canon new → Agrees canon keys taken (read_all canon v said) new → IsTied canon keys taken (there ++ said) later s new
  client-says later said keys new w asked stays agrees =
      tie canon keys taken (there ++ said) later s new (All-append Fits there said t.fit w.fit)
      (All-append (IsCalmToServer canon.settings) there said t.calm w.calm) asked t.server stays
      (subst (λ u. Agrees canon keys taken u new) (sym (read_all-append canon (server_core s) there said)) agrees)

  -- which a server reads as these
  client-writes : (says said : List Item) (keys : List ℕ) (new : client.End) → SaysItems canon says said → ClientStays canon new
      → Agrees canon keys taken (read_all canon v says) new → IsTied canon keys taken (there ++ said) back s new
  client-writes says said keys new w stays agrees =
      client-says back said keys new (record { fit = w.fit; calm = w.calm }) t.calm_back stays (subst (λ u. Agrees canon keys taken u new) (sym (w.says_so v)) agrees)

  pub key-tied : (key : ℕ) → IsTied canon (typed ++ key ∷ []) taken (there ++ says_key c key) back s (end_after_key c key)
  key-tied key =
      client-says back (says_key c key) (typed ++ key ∷ []) (end_after_key c key) (key_said canon c key) t.calm_back (key_stays canon c key t.client)
      (key-agrees canon typed taken v c key t.client seen)

  pub line-tied : IsTied canon (typed ++ lf ∷ []) taken (there ++ says_new_line c) back s (end_after_key c lf)
  line-tied =
      client-says back (says_new_line c) (typed ++ lf ∷ []) (end_after_key c lf) (line_said canon c) t.calm_back (key_stays canon c lf t.client)
      (line-agrees canon typed taken v c t.client seen)

  pub interrupt-tied : (key : ℕ) (said : List Item) → role_of_key canon.settings key ≡ role.Signal Int → SaysItems canon (Cmd Ip ∷ []) said
      → IsTied canon (typed ++ key ∷ []) taken (there ++ said) back s c
  interrupt-tied key said is w =
      client-writes (Cmd Ip ∷ []) said (typed ++ key ∷ []) c w t.client (interrupt-agrees canon typed taken v c key is seen)

  pub aside-tied : (said : List Item) → SaysItems canon [] said → IsTied canon typed taken (there ++ said) back s c
  aside-tied said w = client-writes [] said typed c w t.client seen

  pub resize-tied : (width height : ℕ) → IsTied canon typed taken (there ++ says_resize c width height) back s (end_after_resize c width height)
  resize-tied width height =
      client-writes [] (says_resize c width height) typed (end_after_resize c width height) (resized-writes canon c width height)
      (record { agreed = t.client.agreed; linemode = t.client.linemode; chars = t.client.chars; limit = t.client.limit })
      (beside-agrees canon typed taken v c (end_after_resize c width height) refl refl seen)

  -- the first items arrive
  pub return-tied : (got later : List Item) → back ≡ got ++ later → IsTied canon typed taken (there ++ says_items c got) later s (end_after_items c got)
  return-tied got later is =
      let parts = all_parts (IsCalmToClient canon.settings) got later (subst (All (IsCalmToClient canon.settings)) is t.calm_back) in
      let all = items-come canon c got t.client parts.0 in
      client-says later (says_items c got) typed (end_after_items c got) all.said parts.1 all.stays (all.agrees typed taken v seen)

  -- its decoder and its failure have no part in it
  pub client-as : (d : DecoderState) (failed : Bool) → IsTied canon typed taken there back s (record c { decoder = d; failed = failed })
  client-as d failed = record {
    fit = t.fit;
    calm = t.calm;
    calm_back = t.calm_back;
    agrees = beside-agrees canon typed taken (server_core (server_steps.end_after_items s there)) c (record c { decoder = d; failed = failed }) refl refl t.agrees;
    server = t.server;
    client = record { agreed = t.client.agreed; linemode = t.client.linemode; chars = t.client.chars; limit = t.client.limit };
  }

  -- THE SERVER sends these
  server-says : (later said : List Item) (entries : List Entry) (new : server.End) → All Fits later → All (IsCalmToServer canon.settings) later
      → All (IsCalmToClient canon.settings) said → ServerStays canon new → Agrees canon typed entries (read_all canon (server_core new) later) c
      → IsTied canon typed entries later (back ++ said) new c
  server-says later said entries new fit calm asked stays agrees =
      tie canon typed entries later (back ++ said) new c fit calm (All-append (IsCalmToClient canon.settings) back said t.calm_back asked) stays t.client agrees

  -- the first items arrive
  pub reach-tied : (got later : List Item) → there ≡ got ++ later
      → IsTied canon typed taken later (back ++ server_steps.says_items s got) (server_steps.end_after_items s got) c
  reach-tied got later is =
      let fit = all_parts Fits got later (subst (All Fits) is t.fit) in
      let calm = all_parts (IsCalmToServer canon.settings) got later (subst (All (IsCalmToServer canon.settings)) is t.calm) in
      let after = goes_on canon s got t.server fit.0 calm.0 in
      server-says later (server_steps.says_items s got) taken (server_steps.end_after_items s got) fit.1 calm.1 after.calm after.stays
      (subst (λ u. Agrees canon typed taken u c)
      (ap (read_all canon (server_core s)) is ∙ read_all-append canon (server_core s) got later ∙ ap (λ u. read_all canon u later) (sym after.core)) seen)

  -- the owner's calls
  pub call-tied : (e : server_calls.Event) → KeepsEntries e → IsTied canon typed taken there (back ++ server_steps.says s e) (server_steps.end_after s e) c
  call-tied e plain =
      server-says there (server_steps.says s e) taken (server_steps.end_after s e) t.fit t.calm (calm_call canon s e (calls e plain) t.server)
      (stays_call canon s e (calls e plain) t.server)
      (subst (λ u. Agrees canon typed taken (read_all canon u there) c) (sym (core_call s e plain)) seen)

  pub take-tied : IsTied canon typed (taken ++ take 1 s.terminal.entries) there (back ++ server_steps.says s server_calls.took)
      (server_steps.end_after s server_calls.took) c
  take-tied =
      server-says there (server_steps.says s server_calls.took) (taken ++ take 1 s.terminal.entries) (server_steps.end_after s server_calls.took) t.fit t.calm
      (calm_call canon s server_calls.took tt t.server) (stays_call canon s server_calls.took tt t.server)
      (take-agrees canon typed taken (server_core s) c there seen)

  -- the relation depends on no more of the server than what it has of lines
  pub server-as : (new : server.End) → server_core new ≡ server_core s → ServerStays canon new → IsTied canon typed taken there back new c
  server-as new core stays =
      tie canon typed taken there back new c t.fit t.calm t.calm_back stays t.client
      (subst (λ u. Agrees canon typed taken (read_all canon u there) c) (sym core) seen)

  -- WHAT IT STATES OF ENTRIES and of the half-typed line
  pub tied-begins : IsPrefixOf (taken ++ s.terminal.entries) (typed_entries canon typed)
  tied-begins =
      prefix_trans (taken ++ s.terminal.entries) (taken ++ v.waiting) (typed_entries canon typed)
      (prefix_after taken s.terminal.entries v.waiting (read-more canon (server_core s) there))
      (prefix_same (taken ++ v.waiting) (typed_entries canon typed) (agreed canon typed taken v c seen))

  pub tied-complete : there ≡ [] → taken ++ s.terminal.entries ≡ typed_entries canon typed
  tied-complete none =
      subst (λ l. taken ++ (server_steps.end_after_items s l).terminal.entries ≡ typed_entries canon typed) none
      (agreed canon typed taken (server_core (server_steps.end_after_items s there)) c t.agrees)

  pub tied-half : there ≡ [] → s.terminal.line.held ++ c.line.held ≡ typed_half canon typed
  tied-half none =
      subst (λ l. (server_steps.end_after_items s l).terminal.line.held ++ c.line.held ≡ typed_half canon typed) none
      (ap (λ (u : Server). u.half ++ c.line.held) t.agrees.is ∙ sym t.agrees.line)

no_count : (b : Bool) (n : ℕ) → (if b then n else n) ≡ n
no_count true n = refl
no_count false n = refl

-- the ends at rest under this mode
pub rest-agrees : (canon : Canon) (c : client.End) → IsAskable canon.settings (bits c.mode) → (linemode c.options ≡ false → edits c.mode ≡ false)
    → c.line.held ≡ [] → c.line.ahead ≡ 0 → c.trapped ≡ 0 → c.plain ≡ 0 → Agrees canon [] [] (server_at (linemode c.options) (edits c.mode) [] []) c
rest-agrees canon c askable off held ahead trapped plain =
    record {
      half = [];
      waiting = [];
      is = refl;
      off = off;
      entries = refl;
      line = sym held;
      askable = askable;
      ahead = λ e. sym ahead;
      none = λ e. held;
      plain = subst (AreOrdinary canon.settings.chars) (sym held) tt;
      count = λ e allowed.
          ap (λ n. if canon.settings.flags.isig then n else c.plain) trapped
          ∙ ap (λ n. if canon.settings.flags.isig then 0 else n) plain
          ∙ no_count canon.settings.flags.isig 0;
    }
