-- A refusal has the code of its cause.
use Rattle.std.proofs.Common.{◌≡◌, ◌≢◌, ◌⊎◌, inl, inr, ℕ, Bool, true, false, Option, Some, None, Result, Ok, Err, OnOk, OnErr, IsErrOf, List, refl, sym, ap}
use Rattle.std.proofs.Common.{subst, ◌∙◌, if◌then◌else◌}
use Rattle.std.specs.Prelude.{◌↔◌, ◌++◌, [], option_map}
use Rattle.tn_codes.specs.{Codes.func_code, declared.{codes.Func.Func, masks.Mask.Mask}}
use Rattle.tn_discipline.specs.declared.characters.CharFault.{CharFault}
use Rattle.tn_discipline.specs.declared.characters.CharFault.TheVariants as char
use Rattle.tn_pty.specs.declared.pty.PtyFault.{PtyFault}
use Rattle.tn_server.specs.Faults as server
use Rattle.tn_server.specs.declared.faults.ServerFault.{ServerFault}
use Rattle.tn_server.specs.declared.faults.ServerFault.TheVariants as fault
use Rattle.tn_client.specs.Answering as answers
use Rattle.tn_client.specs.Calls as client
use Rattle.tn_client.specs.{Calls.call_fault, Events.Event, Steps.{end_after, says}, declared.commands.UserCommand.UserCommand}
use Rattle.tn_client.specs.declared.faults.ClientFault.{ClientFault}
use Rattle.tn_client.specs.declared.faults.ClientFault.TheVariants as client_fault
use Rattle.tn_nvt.specs.{Spelling.{spelling, spells}, declared.items.Item.Item}
use Rattle.tn_c.specs.{parts.{Bytes.Gives, Calling.OfFunction, ClientCalls.Acts, ServerCalls.SetMaskCall}, declared.parts.client.HeldClient.HeldClient}
use Rattle.tn_c.specs.{declared.parts.{codes.Code.Code, server.HeldServer.HeldServer}, parts.Spelled.{Room, Spells}}
use Rattle.tn_c.specs.parts.Faults.{server_code, server_refusal, client_code, client_answer, client_refusal}
use Rattle.tn_c.specs.declared.parts.codes.Code.TheVariants as code

pub server_told : (cause : Option ServerFault) (f g : ServerFault) → f ≡ g → server.IsFault cause f → server_code g ≡ server_refusal cause
server_told None f g e h = ap server_code (sym e ∙ h)
server_told (Some cause) f g e h = ap server_code (sym e ∙ h)

client_told : (cause : Option ClientFault) (f : ClientFault) → client.IsFault cause f → client_code f ≡ client_refusal cause
client_told None f is = ap client_code is
client_told (Some cause) f is = ap client_code is

-- a refusal has a code of its own
never_done : (f : ClientFault) → client_code f ≡ code.Done → ⊥
never_done client_fault.Memory e = cc
never_done client_fault.Failed e = cc
never_done client_fault.NotOn e = cc
never_done (client_fault.Char char.NotSettable) e = cc
never_done (client_fault.Char char.Reserved) e = cc
never_done (client_fault.Char char.Taken) e = cc

-- the fault that has this code
abbrev fault_of : Code → ClientFault
fault_of code.Failed = client_fault.Failed
fault_of code.NotOn = client_fault.NotOn
fault_of code.NotSettable = client_fault.Char char.NotSettable
fault_of code.Reserved = client_fault.Char char.Reserved
fault_of code.Taken = client_fault.Char char.Taken
fault_of _ = client_fault.Memory

fault_of-code : (f : ClientFault) → fault_of (client_code f) ≡ f
fault_of-code client_fault.Memory = refl
fault_of-code client_fault.Failed = refl
fault_of-code client_fault.NotOn = refl
fault_of-code (client_fault.Char char.NotSettable) = refl
fault_of-code (client_fault.Char char.Reserved) = refl
fault_of-code (client_fault.Char char.Taken) = refl

pub never_unknown : {T : Type 0} (r : Result T ClientFault) (answer : Code) → answer ≡ client_answer r → (answer ≢ code.NoFunction) × (answer ≢ code.NoCommand)
never_unknown (Ok x) answer is = (λ e. cc, λ e. cc)
never_unknown (Err client_fault.Memory) answer is = (λ e. cc, λ e. cc)
never_unknown (Err client_fault.Failed) answer is = (λ e. cc, λ e. cc)
never_unknown (Err client_fault.NotOn) answer is = (λ e. cc, λ e. cc)
never_unknown (Err (client_fault.Char char.NotSettable)) answer is = (λ e. cc, λ e. cc)
never_unknown (Err (client_fault.Char char.Reserved)) answer is = (λ e. cc, λ e. cc)
never_unknown (Err (client_fault.Char char.Taken)) answer is = (λ e. cc, λ e. cc)

-- a fact of a call that follows from its answer follows from its code
pub when_done : {T P : Type 0} (r : Result T ClientFault) (answer : Code) → answer ≡ client_answer r → OnOk r P → answer ≡ code.Done → P
when_done (Ok x) answer is p done = p
when_done (Err f) answer is p done = absurd (never_done f (sym is ∙ done))

pub unless_done : {T P : Type 0} (r : Result T ClientFault) (answer : Code) → answer ≡ client_answer r → OnErr r P → answer ≢ code.Done → P
unless_done (Ok x) answer is p refused = absurd (refused is)
unless_done (Err f) answer is p refused = p

pub for_fault : {T P : Type 0} (fault : ClientFault) (r : Result T ClientFault) (answer : Code) → answer ≡ client_answer r → (IsErrOf r fault → P)
    → answer ≡ client_code fault → P
for_fault fault (Ok x) answer is p e = absurd (never_done fault (sym e ∙ is))
for_fault fault (Err f) answer is p e = p (ap Err (sym (fault_of-code f) ∙ ap fault_of (sym is ∙ e) ∙ fault_of-code fault))

-- a call was done, having no cause to be refused, or was refused for its cause
pub as_caused : {T : Type 0} (cause : Option ClientFault) (r : Result T ClientFault) (answer : Code) → answer ≡ client_answer r → answers.AnswersBy cause r
    → (answer ≡ code.Done → cause ≡ None) × ((answer ≡ code.Done) ⊎ (answer ≡ client_refusal cause))
as_caused cause (Ok x) answer is caused = (λ _. caused, inl is)
as_caused cause (Err f) answer is caused = (λ done. absurd (never_done f (sym is ∙ done)), inr (is ∙ client_told cause f caused))

-- a call of the owner
pub call_acts : {T : Type 0} (e : Event) (cause : client.End → Option ClientFault) (r : Result T ClientFault) (answer : Code) (before after : HeldClient)
    → answer ≡ client_answer r → OnOk r (after.end ≡ end_after before.end e)
    → OnOk r (after.pending.items ≡ before.pending.items ++ spells (says before.end e)) → answers.AnswersBy (cause before.end) r
    → OnErr r (answers.SaysNothing before.end before.pending.items after.pending.items after.end)
    → (answer ≢ code.Done → after.shown.items ≡ before.shown.items) → after.owned ≡ before.owned → Acts e cause answer before after
call_acts e cause r answer before after is step out caused err shown owned =
    let by = as_caused (cause before.end) r answer is caused in
    record {
      step = when_done r answer is step;
      sends = when_done r answer is out;
      accepted = by.0;
      refused = by.1;
      err = λ refused. let same = unless_done r answer is err refused in record { end = same.end; pending = same.out; shown = shown refused; owned = owned };
      owned = owned;
    }

-- a key that is refused sends nothing
key_says_nothing : {T : Type 0} (r : Result T ClientFault) (old new : client.End) (before after seen now : List ℕ)
    → OnErr r (answers.Untouched old before after seen now new) → OnErr r (answers.SaysNothing old before after new)
key_says_nothing (Ok x) old new before after seen now same = tt
key_says_nothing (Err f) old new before after seen now same = record { end = same.end; out = same.out }

-- a call that types a key
pub key_acts : {T : Type 0} (e : Event) (r : Result T ClientFault) (answer : Code) (before after : HeldClient) → answer ≡ client_answer r
    → OnOk r (after.end ≡ end_after before.end e)
    → OnOk r (after.pending.items ≡ before.pending.items ++ spells (says before.end e))
    → answers.AnswersBy (call_fault before.end) r
    → OnErr r (answers.Untouched before.end before.pending.items after.pending.items before.shown.items after.shown.items after.end)
    → after.owned ≡ before.owned → Acts e call_fault answer before after
key_acts e r answer before after is step out caused err owned =
    call_acts e call_fault r answer before after is step out caused
    (key_says_nothing r before.end after.end before.pending.items after.pending.items before.shown.items after.shown.items err)
    (λ refused. (unless_done r answer is err refused).screen) owned

-- no character is refused by the pair
pub never_pty : (failed : Bool) (o : Option CharFault) (f : ServerFault) (p : PtyFault) → f ≡ fault.Pty p
    → server.IsFault (if failed then Some fault.Failed else option_map fault.Char o) f → ⊥
never_pty true o f p e h = cc
never_pty false None f p e h = cc
never_pty false (Some g) f p e h = cc

octets_mask : List ℕ → Mask
octets_mask octets = record { 0 = octets }

-- a mask is its octets
pub same_mask : (m n : Mask) → m.0 ≡ n.0 → m ≡ n
unfolding octets_mask
same_mask m n e = ap octets_mask e

-- a call that holds of a mask holds of its octets
pub octets_told : {answer : Code} {before after : HeldServer} (m n : Mask) → m.0 ≡ n.0 → SetMaskCall (Some m) answer before after
    → SetMaskCall (Some n) answer before after
octets_told {answer} {before} {after} m n e told = subst (λ (mask : Mask). SetMaskCall (Some mask) answer before after) (same_mask m n e) told

-- a code that is the first of two or the second, and not the second, is the first
pub is_done : {answer : Code} → (answer ≡ code.Done) ⊎ (answer ≡ code.NoFunction) → (answer ≡ code.NoFunction → ⊥) → answer ≡ code.Done
is_done (inl done) other = done
is_done (inr none) other = absurd (other none)

-- a command that was found is the one that was found
pub same_command : (c d : UserCommand) → Some c ≡ Some d → c ≡ d
same_command c d e = cc

-- no call was both done and refused for want of memory
pub not_memory : code.Done ≡ code.Memory → ⊥
not_memory e = cc

same_func : (f g : Func) → Some f ≡ Some g → f ≡ g
same_func f g e = cc

-- a function was found by its number, and this is so of it
pub of_found : {X : Type 0} (number : ℕ) (R : Func → Code → X → X → Type 0) (answer : Code) (before after : X) (found : Func)
    → ((func : Func) → (Some found ≡ Some func) ↔ (func_code func ≡ number)) → R found answer before after → answer ≢ code.NoFunction
    → OfFunction number R answer before after
of_found number R answer before after found is told known =
    record {
      known = λ func n. subst (λ (x : Func). R x answer before after) (same_func found func ((is func).1 n)) told;
      unknown = (λ e. absurd (known e), λ none. absurd (none found ((is found).0 refl)));
      stays = λ e. absurd (known e);
    }

-- a spelling was put into a list that was empty, and given
pub spelled : (item : Item) (begun out bytes : List ℕ) (room : Room) → begun ≡ [] → out ≡ begun ++ spelling item → bytes ≡ out
    → Gives bytes room.old_buf room.new_buf room.new_count → Spells item room code.Done
spelled item begun out bytes room empty appended is gives =
    record {
      codes = inl refl;
      ok = λ _. subst (λ (b : List ℕ). Gives b room.old_buf room.new_buf room.new_count)
          (is ∙ appended ∙ ap (λ (x : List ℕ). x ++ spelling item) empty) gives;
      err = λ e. absurd (not_memory e);
    }
