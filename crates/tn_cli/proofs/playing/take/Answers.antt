use Rattle.std.proofs.Common.{◌≡◌, ◌<◌, ◌++◌, ◌∷◌, [], List, Some, ap, refl, sym, subst, length, take, get_or, ◌∙◌, arith}
use Rattle.std.proofs.lemmas.List.{get_or_push, append-nil}
use Rattle.tn_discipline.specs.declared.reads.Entry.{Entry}
use Rattle.tn_world.specs.Worlds.{World}
use Rattle.tn_cli.specs.Printed.{printed_entry}
use Rattle.tn_cli.proofs.playing.take.Goals as goal

-- the list of taken entries has become longer, so the first entry that waited was taken
one_more : (old new waits : List Entry) (entry : Entry) → new ≡ old ++ take 1 waits → length old < length new → entry ≡ get_or new (length old) entry
    → new ≡ old ++ entry ∷ []
one_more old new [] entry is longer here =
    let same : new ≡ old = is ∙ append-nil old in
    let longer_old : length old < length old = subst (λ (xs : List Entry). length old < length xs) same longer in
    let bad : ⊥ = omega (arith, longer_old) in
    absurd bad
one_more old new (first ∷ waits) entry is longer here =
    let found : entry ≡ first = here ∙ ap (λ xs. get_or xs (length old) entry) is ∙ get_or_push old first entry (length old) refl in
    is ∙ ap (λ x. old ++ x ∷ []) (sym found)

pub returns-in_ok-print_entry-in-Some-clause-ok : goal.returns-in_ok-print_entry-in-Some-clause-ok
returns-in_ok-print_entry-in-Some-clause-ok c =
    let (world, world_is, new_is) = c.in_ok-run_event.ensures.ok in
    let old = c.args.world.now in
    let new = c.run_event.new.world in
    let entry = c.in-Some.entry.now in
    let lookup = c.in-Some.ensures.lookup in
    let took = ap (λ (w : World). w.taken) (new_is ∙ world_is) in
    let longer : length old.taken < length new.taken =
    subst (λ (xs : List Entry). length xs < length new.taken) c.taken-before.ensures
    (subst (λ (xs : List Entry). length c.taken-before.result.now < length xs) c.taken.ensures lookup.3.0) in
    let here : entry ≡ get_or new.taken (length old.taken) entry =
    subst (λ (xs : List Entry). entry ≡ get_or new.taken (length xs) entry) c.taken-before.ensures
    (subst (λ (xs : List Entry). entry ≡ get_or xs (length c.taken-before.result.now) entry) c.taken.ensures lookup.1) in (
      printed_entry entry,
      record {
        entry = Some entry;
        runs = c.in_ok-run_event.ensures.ok;
        gained = one_more old.taken new.taken old.server.terminal.entries entry took longer here;
        printed = refl;
      },
      c.in_ok-print_entry-in-Some.ensures,
    )
