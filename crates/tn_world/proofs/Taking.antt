-- A job takes an entry, or the call is refused.
use Rattle.std.proofs.Common.{◌≡◌, ◌≢◌, ℕ, Option, Some, None, List, [], ◌∷◌, ◌++◌, take, refl, sym, ap, ◌∙◌, subst, append-nil}
use Rattle.std.specs.Prelude.{MatchOption, option_to_list}
use Rattle.tn_discipline.specs.declared.reads.Entry.{Entry}
use Rattle.tn_nvt.specs.Spelling.{spells}
use Rattle.tn_server.specs.Calls as server
use Rattle.tn_server.specs.Events as server_calls
use Rattle.tn_server.specs.Steps as server_steps
use Rattle.tn_server.specs.declared.faults.ServerFault.{ServerFault}
use Rattle.tn_server.specs.declared.faults.ServerFault.TheVariants as server_faults
use Rattle.tn_world.specs.Worlds.{World, TakesEntry, ServerRefusesCall}

-- the result of the call is the first entry, if one waits
first_is : (found : Option Entry) (waits later : List Entry) → MatchOption found (waits ≡ []) (λ e. waits ≡ e ∷ later) → option_to_list found ≡ take 1 waits
first_is None waits later is = ap (take 1) (sym is)
first_is (Some e) waits later is = ap (take 1) (sym is)

-- the entry joins those that were taken
pub takes_entry : (old : World) (end : server.End) (later : List ℕ) (found : Option Entry) (entries left : List Entry)
    → MatchOption found (old.server.terminal.entries ≡ []) (λ e. old.server.terminal.entries ≡ e ∷ left)
    → end ≡ server_steps.end_after old.server server_calls.took → later ≡ old.to_client ++ spells (server_steps.says old.server server_calls.took)
    → entries ≡ old.taken ++ option_to_list found → (w : World) → old ≡ w → TakesEntry w (record old { server = end; to_client = later; taken = entries })
takes_entry old end later found entries left first step said joined w is =
    let joins : entries ≡ old.taken ++ take 1 old.server.terminal.entries =
    joined ∙ ap (λ (es : List Entry). old.taken ++ es) (first_is found old.server.terminal.entries left first) in
    subst (λ (w : World). TakesEntry w (record old { server = end; to_client = later; taken = entries })) is
    (ap (λ (e : server.End). record old { server = e; to_client = later; taken = entries }) step
    ∙ ap (λ (x : List ℕ). record old { server = server_steps.end_after old.server server_calls.took; to_client = x; taken = entries }) said
    ∙ ap (λ (es : List Entry). record old {
      server = server_steps.end_after old.server server_calls.took;
      to_client = old.to_client ++ spells (server_steps.says old.server server_calls.took);
      taken = es;
    }) joins)

-- none waits
pub takes_none : (old : World) (end : server.End) (later : List ℕ) → end ≡ server_steps.end_after old.server server_calls.took
    → later ≡ old.to_client ++ spells (server_steps.says old.server server_calls.took) → (w : World) → old ≡ w → w.server.terminal.entries ≡ []
    → TakesEntry w (record old { server = end; to_client = later })
takes_none old end later step said w is none =
    let here : old.server.terminal.entries ≡ [] = ap (λ (x : World). x.server.terminal.entries) is ∙ none in
    takes_entry old end later None old.taken [] here step said (sym (append-nil old.taken)) w is

-- the end refuses the call, and all is as it was
pub take_refused : (old : World) (end : server.End) (later : List ℕ) (entries : List Entry) (fault : ServerFault) → fault ≡ server_faults.Memory
    → server_steps.says old.server server_calls.took ≢ [] → end ≡ old.server → later ≡ old.to_client
    → entries ≡ old.taken → (w : World) → old ≡ w
    → ServerRefusesCall w.server server_calls.took fault × (record old { server = end; to_client = later; taken = entries } ≡ w)
take_refused old end later entries fault memory grows a b d w is =
    subst (λ (w : World). ServerRefusesCall w.server server_calls.took fault × (record old { server = end; to_client = later; taken = entries } ≡ w)) is
    (record { cause = memory; grows = λ m. grows }, rw (a, b, d) refl)

-- there is no memory for the entry that waits
pub take_wants : (old : World) (entries : List Entry) → entries ≡ old.taken → (w : World) → old ≡ w → w.server.terminal.entries ≢ []
    → (w.server.terminal.entries ≢ []) × (record old { taken = entries } ≡ w)
take_wants old entries kept w is some = (some, ap (λ (l : List Entry). record old { taken = l }) kept ∙ is)
