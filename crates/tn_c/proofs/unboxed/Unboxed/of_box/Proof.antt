-- `of_box` hands what the box owned on to its parts.
--   1. The box is [what is boxed; the right to free it; the handle], at a word w.
--   2. `into_raw_with_allocator` takes it, and gives an address and the handle with the same two.
--   3. Both go into a struct, whose word is a box's again.
use mathlib.Core.Path.{◌≡◌, refl, sym, subst, ap, ◌∙◌}
use mathlib.Core.List.{List, [], ◌∷◌, ◌++◌}
use seplogic.Ra.Ura.{Ura}
use mir.Syntax.{Fn, Dict}
use mir.MapTy.{inst_fn}
use mir.Raw.{raw as bare}
use mir.Val.{Val, vstruct, of_list}
use base.Logic.{SProp, ent, id⊢, never, fst∗}
use base.Fml.{ftrue, fsep, flft}
use contract.BorrowLft.{◌⊑◌}
use prog.Memory.{Memory}
use prog.Routine.{Routine}
use prog.Wp.{WpFn, Tables}
use types.Logic.{Logic, sem}
use contract.Monad.{Fun, fact}
use contract.Running.{tables, tables_of}
use sound.WpLaws.{fm_of, WpFn-mono}
use types.Kit.{Item, ‵, raw, ◌⊛◌, some, later, ◌$◌, ◌∵◌, !, qed, by, move, drop, use1, join, split, split3, pick, rewrite, fsplit, fjoin, fpick, feq_l}
use types.Kit.{suffices, await, done}
use types.Part.{whole, sub, agg}
use types.Run.{stop, fld, no_more, and_then, of_opd, returns, enter}
use types.ByLocal.{alloc_all, pass_all, free_all, look_at, get, get_in, sets, lands_as}
use denote.Exit.{no}
use denote.RawPtr.{Ptr, RawPtr, null_ptr, ptr_val, in_a_block}
use denote.Signature.{plain}
use denote.Steps.{heard, nothing, only}
use denote.Struct.Tuple.{Tuple}
use denote.Triple.Call.{calls_at}
use denote.Triple.Clauses.{Ended, Clauses}
use denote.Triple.Spec.{triple_of}
use denote.Triple.Statement.{Triple, Contract}
use denote.Triple.Table.{entered}
use denote.Triple.Walked.{says, Stays, stay_dropped, walk_of, ends_at, walk_Meets}
use Rattle.std.proofs.{alloc.Calls.{token, handle_tells, Goes-blank}, BoxSteps.{Form.{Bx, τ, R, P, B, word, box_typed}, Steps.{box_out, box_in}}}
use Rattle.std.specs.Box.Ownership.{box_owns}
use Rattle.std.specs.contracts.boxed.Box.into_raw_with_allocator as callee
use Rattle.std.proofs.boxed.Box.into_raw_with_allocator.Symbol as symbol
use Rattle.std.proofs.boxed.Box.into_raw_with_allocator.Met as callee_met
use Rattle.tn_c.proofs.{Unboxing.{Parts, boxed, parted, dropping}, unboxed.Unboxed.of_box.Statement.statement}
use Rattle.tn_c.specs.contracts.unboxed.Unboxed.of_box as F
use Rattle.tn_c.specs.contracts.unboxed.Unboxed.of_box.Key.{name as #self}
use Rattle.tn_c.proofs.unboxed.Unboxed.of_box.Code as code

module _ (E : Bx) (glue : Dict) where
  abbrev body : Fn
  body = inst_fn (dropping E glue) code.function

  abbrev ending : Ended
  ending = F.ended E.row E.al.row E.al.g E.al.d E.al.drops glue

  abbrev left : Stays ending.signature.params ending.kept
  left = (stay_dropped (plain (λ _. B E)) no, tt)

  module _ {M : Type 1} {𝓤 : Ura M} (𝓛 : Logic 𝓤) (memory : Memory → SProp 𝓤) (runs : Routine → Fun 𝓤) (𝓣 : Tables 𝓤 𝓛.H) where
    open 𝓛 use {H}

    abbrev said : Clauses 𝓤 ending
    said = F.clauses E.row E.al.row E.al.g E.al.d E.al.drops glue 𝓛 memory runs

    abbrev Opens : Contract 𝓤
    Opens = triple_of 𝓛 (callee.signature E.row E.al.row E.al.g E.al.d E.al.drops glue) (callee.spec E.row E.al.row E.al.g E.al.d E.al.drops glue 𝓛 memory runs)

    walk : Triple 𝓤 (𝓣.C (symbol.name (dropping E glue))) Opens → (z : (walk_of 𝓛 ending left said).Ghost)
        → ent 𝓤 ((walk_of 𝓛 ending left said).pre z) (WpFn 𝓤 H 𝓣.C 𝓣.Λ body (z.0.4.0 ++ []) ((walk_of 𝓛 ending left said).post z))
    walk known z =
        let lfts = z.0.0 in let shares = z.0.1 in let given = z.0.3.0 in let handle = given.alloc in let Post = (walk_of 𝓛 ending left said).post z in
        let tokens : Item 𝓤 = ‵ (flft lfts.0 shares.0) ⊛ ‵ (flft lfts.1.0 shares.1.0) ⊛ ‵ ftrue in
        let alive : Item 𝓤 = raw (fact 𝓤 (lfts.0 ⊑ E.row.lives)) ⊛ raw (fact 𝓤 (lfts.1.0 ⊑ E.al.row.lives)) ⊛ ‵ ftrue in
        let Owned = λ (p : Ptr). box_owns (token E.al handle) (R E) p given.value in
        let Pair = Tuple (RawPtr ∷ P E ∷ []) in
        qed 𝓛 ((tokens ⊛ ‵ (fsep ((B E).own_val given z.0.4.0) ftrue)) ∷ alive ∷ []) ∵ split ! $ move ! (1 ∷ []) $ fsplit ! $
        -- 1
        box_out E ! given z.0.4.0 (λ b o bits at is fits. box_in E ! given b o given.value at refl $
        let w = word E bits b o in
        let y : Opens.Ghost = ((lfts, shares, tt, (given, tt), (w ∷ [], tt)), tt) in
        let Γ : List (Item 𝓤) = ‵ ((B E).own_val given (w ∷ [])) ∷ ‵ ftrue ∷ tokens ∷ alive ∷ [] in
        by ! (subst (λ (us : List Val). ent 𝓤 (types.Kit.⋆ 𝓛 Γ) (WpFn 𝓤 H 𝓣.C 𝓣.Λ body (us ++ []) Post)) (sym is)
        (qed 𝓛 Γ ∵ enter ! 𝓣.C 𝓣.Λ body (w ∷ []) _ $
        alloc_all ! (λ locals. pass_all ! refl (box_typed E bits b o fits, tt) $
        sets ! (of_opd ! (get ! refl)) refl (box_typed E bits b o fits) $
        -- 2
        fjoin ! $ move ! (1 ∷ 0 ∷ []) $ join ! $ join ! $ use1 𝓛 (raw (Opens.pre y)) (id⊢ 𝓤 _) $
        calls_at ! (fm_of 𝓤 H 𝓛.laws 𝓣) Opens known y (and_then ! (get ! refl) (no_more !)) (λ u.
        use1 𝓛 (later (some (λ (r : Ptr × E.al.row.Denot). (tokens ⊛ ‵ (Pair.own_val r (u ∷ [])))
        ⊛ some (λ (_ : (Unit {0} × (Unit {0} × Unit {0})) × Unit {0}). ‵ (fsep (fsep ftrue (fsep ftrue ftrue)) ftrue)
        ⊛ (raw (fact 𝓤 (r.1 ≡ handle)) ⊛ ‵ (Owned r.0)))))) (id⊢ 𝓤 _) $
        await ! tt $ pick ! (λ r. split ! $ move ! (1 ∷ []) $ pick ! (λ _. split3 ! $ drop ! $ heard ! (r.1 ≡ handle) (λ same.
        in_a_block ! r.0 Owned (fst∗ 𝓤 (never 𝓤) (sem 𝓛 (token E.al handle (bare (τ E)) null_ptr))) (λ b' o' there.
        move ! (1 ∷ []) $ split ! $ move ! (1 ∷ []) $
        fpick ! (λ parts. fsplit ! $ feq_l ! (λ pair. fsplit ! $ feq_l ! (λ first. fsplit ! $
        rewrite ! 0 (λ (s : E.al.row.Denot). ‵ (E.al.row.own_val s parts.1.0)) same refl $
        handle_tells E.al ! handle parts.1.0 (λ bits' second fits'.
        let typed = box_typed E bits' b' o' fits' in
        -- 3
        lands_as ! (ap only (pair ∙ (λ j. vstruct (of_list ((first ∙ ap (λ (p : Ptr). ptr_val p ∷ []) there) j ++ (second j ++ []))) ∷ []))) refl typed $
        sets ! (of_opd ! (get_in ! (fld ! refl (stop !)) (sub ! 0 refl (whole !)))) refl (tt, tt) $
        sets ! (of_opd ! (get_in ! (fld ! refl (stop !)) (sub ! 1 refl (whole !)))) refl fits' $
        sets ! (of_opd ! (get ! refl)) refl fits' $
        sets ! (agg ! (and_then ! (get ! refl) (and_then ! (get ! refl) (no_more !)))) refl typed $
        returns ! (look_at ! 0 refl) $ free_all ! refl $
        -- [the handle; nothing; the tokens; what is boxed with the right to free it]
        move ! (3 ∷ []) $ fsplit ! $ box_in E ! (boxed E b' o' handle given.value) b' o' given.value refl refl $
        use1 𝓛 (‵ ((Parts E).own_val (parted E b' o' handle given.value) (word E bits' b' o' ∷ []))) (id⊢ 𝓤 _) $ move ! (1 ∷ []) $ drop ! $
        suffices ! _ (ends_at 𝓛 ending left said z (word E bits' b' o') (parted E b' o' handle given.value) ((tt, (tt, tt)), tt) (tt, tt)) $ says ! refl $
        nothing ! $ nothing ! $ fjoin ! $ join ! $ move ! (1 ∷ 0 ∷ []) $ join ! $ done !)))))))))))))

pub of_box_spec : {M : Type 1} → statement M
unfolding tables_of
of_box_spec 𝓤 𝓛 𝓜 𝓡 wired X Z X-laws Z-laws g d drops glue allocator drops-met glue-met =
    let E : Bx = record { row = X; laws = X-laws; al = record { row = Z; laws = Z-laws; g = g; d = d; drops = drops } } in
    let 𝓣 : Tables 𝓤 𝓛.H = tables_of 𝓤 𝓛.H 𝓜 (tables 𝓤 𝓛.H 𝓜 𝓡 𝓡.env) in
    let known = callee_met.met 𝓤 𝓛 𝓜 𝓡 (code.calls-std_alloc::boxed::Box::into_raw_with_allocator 𝓡.env wired) X Z X-laws Z-laws g d drops glue allocator
    drops-met glue-met in
    entered 𝓤 𝓛.H (triple_of 𝓛 (ending E glue).signature (F.spec X Z g d drops glue 𝓛 𝓜.mem 𝓡.returns)) 𝓣.C 𝓣.Λ (#self (dropping E glue)) (body E glue)
    (code.unfolded 𝓤 𝓛.H 𝓜 𝓡 wired (X, (Z, tt)) d drops glue)
    (walk_Meets 𝓛 (ending E glue) (left E glue) (Goes-blank 𝓛 2 (plain (λ _. B E)) no (λ κs x f. tt), tt) (said E glue 𝓛 𝓜.mem 𝓡.returns 𝓣)
    (WpFn 𝓤 𝓛.H 𝓣.C 𝓣.Λ (body E glue)) (WpFn-mono 𝓤 𝓛.H 𝓛.laws 𝓣 (body E glue))
    (walk E glue 𝓛 𝓜.mem 𝓡.returns 𝓣 known))
