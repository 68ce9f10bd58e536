-- The desk's turns, one after another.
use Rattle.std.proofs.{Common.{◌≡◌, List, [], ◌∷◌, ◌++◌, Some}, lemmas.{List.map-append, Grind.flat_map-append, Fn.FoldsTo-push}}
use Rattle.tn_discipline.specs.declared.reads.Entry.{Entry}
use Rattle.tn_jobs.specs.declared.{reactions.Reaction.Reaction, verdicts.After.TheVariants.Done, held_jobs.JobId.JobId}
use Rattle.tn_cores.specs.declared.messages.Message.TheVariants.{Take, Said}
use Rattle.tn_session.specs.workers.Talk.{turn_said, turns_said, Answers, entries_of, ends_done}

pub turns_said-push : (id : JobId) (turns : List (Entry × Reaction)) (e : Entry) (r : Reaction)
    → turns_said id (turns ++ (e, r) ∷ []) ≡ turns_said id turns ++ Take ∷ Said id r.text r.after ∷ []
turns_said-push id turns e r = flat_map-append (turn_said id) turns ((e, r) ∷ [])

pub entries_of-push : (turns : List (Entry × Reaction)) (e : Entry) (r : Reaction) → entries_of (turns ++ (e, r) ∷ []) ≡ entries_of turns ++ Some e ∷ []
entries_of-push turns e r = map-append (λ (t : Entry × Reaction). Some t.0) turns ((e, r) ∷ [])

pub ends_done-push : (turns : List (Entry × Reaction)) (e : Entry) (r : Reaction) → r.after ≡ Done → ends_done (turns ++ (e, r) ∷ [])
ends_done-push [] e r is = is
ends_done-push (t ∷ []) e r is = is
ends_done-push (t ∷ u ∷ us) e r is = ends_done-push (u ∷ us) e r is

pub answers-push : {J : Type 0} (reacts : J → Entry → Reaction → J → Type 0) (first : J) (turns : List (Entry × Reaction)) (s t : J) (e : Entry) (r : Reaction)
    → Answers reacts first turns s → reacts s e r t → Answers reacts first (turns ++ (e, r) ∷ []) t
answers-push {J} reacts first turns s t e r old one = FoldsTo-push (λ (a : J) (x : Entry × Reaction) (b : J). reacts a x.0 x.1 b) first turns s (e, r) t old one
