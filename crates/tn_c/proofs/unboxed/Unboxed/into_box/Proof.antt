-- `into_box` hands what the parts own on to the box.
--   1. The parts are [what is boxed; the right to free it; the handle], at a box's word w.
--   2. `from_raw` takes the address and the handle with these two, and gives a box.
use mathlib.Core.Path.{◌≡◌, refl, sym, subst, ap}
use mathlib.Core.List.{List, [], ◌∷◌, ◌++◌}
use lib.Dec.{T}
use seplogic.Ra.Ura.{Ura}
use mir.Syntax.{Fn, Body, place, copy, assign, rv_opd, seq, return}
use mir.MapTy.{inst_fn}
use mir.Val.{Val, vptr, has_ty, WT}
use base.Logic.{SProp, ent, id⊢}
use base.Fml.{ftrue, fsep, flft}
use contract.BorrowLft.{◌⊑◌}
use prog.Memory.{Memory}
use prog.Routine.{Routine}
use prog.Wp.{WpFn, Tables}
use types.Logic.{Logic}
use contract.Monad.{Fun, fact}
use contract.Running.{tables, tables_of}
use sound.WpLaws.{fm_of, WpFn-mono}
use types.Kit.{Item, at_ret, ‵, raw, ◌⊛◌, some, later, ◌$◌, ◌∵◌, !, qed, by, move, drop, use1, join, split, split3, pick, rewrite, fsplit, fjoin, feq_i}
use types.Kit.{suffices, await, done}
use types.Part.{whole, sub}
use types.Run.{stop, fld, no_more, and_then, of_opd, returns, enter, first, blocks, exec}
use types.ByLocal.{alloc_all, pass_all, free_all, look_at, get, get_in, sets, lands_last, env}
use denote.Exit.{no}
use denote.RawPtr.{block_ptr}
use denote.Signature.{plain}
use denote.Steps.{heard, nothing, only}
use denote.Triple.Call.{calls_at_last}
use denote.Triple.Clauses.{Ended, Clauses}
use denote.Triple.Spec.{triple_of}
use denote.Triple.Statement.{Triple, Contract}
use denote.Triple.Table.{entered}
use denote.Triple.Walked.{says, Stays, stay_dropped, walk_of, ends_at, walk_Meets}
use Rattle.std.proofs.{alloc.Calls.{token, Goes-blank}, BoxSteps.{Form.{Bx, D, R, P, B, args, box_ty, word, box_typed}, Steps.{box_out, box_in}}}
use Rattle.std.specs.Box.Ownership.{box_owns}
use Rattle.std.specs.contracts.boxed.Box.from_raw as callee
use Rattle.std.proofs.boxed.Box.from_raw.Symbol as symbol
use Rattle.std.proofs.boxed.Box.from_raw.Met as callee_met
use Rattle.tn_c.proofs.{Unboxing.Parts, unboxed.Unboxed.into_box.Statement.statement}
use Rattle.tn_c.specs.contracts.unboxed.Unboxed.into_box as F
use Rattle.tn_c.specs.contracts.unboxed.Unboxed.into_box.Key.{name as #self}
use Rattle.tn_c.proofs.unboxed.Unboxed.into_box.Code as code

-- the code that runs once `from_raw` has returned
abbrev returning : Body
returning = seq (assign (place 0 []) (rv_opd (copy (place 4 [])))) return

module _ (E : Bx) where
  abbrev body : Fn
  body = inst_fn (args E) code.function

  abbrev ending : Ended
  ending = F.ended E.row E.al.row E.al.g E.al.d E.al.drops

  abbrev left : Stays ending.signature.params ending.kept
  left = (stay_dropped (plain (λ _. Parts E)) no, tt)

  module _ {M : Type 1} {𝓤 : Ura M} (𝓛 : Logic 𝓤) (memory : Memory → SProp 𝓤) (runs : Routine → Fun 𝓤) (𝓣 : Tables 𝓤 𝓛.H) where
    open 𝓛 use {H}

    abbrev said : Clauses 𝓤 ending
    said = F.clauses E.row E.al.row E.al.g E.al.d E.al.drops 𝓛 memory runs

    abbrev Shuts : Contract 𝓤
    Shuts = triple_of 𝓛 (callee.signature E.row E.al.row E.al.g E.al.d E.al.drops) (callee.spec E.row E.al.row E.al.g E.al.d E.al.drops 𝓛 memory runs)

    walk : Triple 𝓤 (𝓣.C (symbol.name (args E))) Shuts → (z : (walk_of 𝓛 ending left said).Ghost)
        → ent 𝓤 ((walk_of 𝓛 ending left said).pre z) (WpFn 𝓤 H 𝓣.C 𝓣.Λ body (z.0.4.0 ++ []) ((walk_of 𝓛 ending left said).post z))
    walk known z =
        let lfts = z.0.0 in let shares = z.0.1 in let handle = z.0.3.0.alloc in let value = z.0.3.0.value in let Post = (walk_of 𝓛 ending left said).post z in
        let given : D E = record { ptr = z.0.3.0.at; alloc = handle; value = value } in
        let tokens : Item 𝓤 = ‵ (flft lfts.0 shares.0) ⊛ ‵ (flft lfts.1.0 shares.1.0) ⊛ ‵ ftrue in
        let lives : Item 𝓤 = raw (fact 𝓤 (lfts.0 ⊑ E.row.lives)) in let handle_lives : Item 𝓤 = raw (fact 𝓤 (lfts.1.0 ⊑ E.al.row.lives)) in
        qed 𝓛 ((tokens ⊛ ‵ (fsep ((B E).own_val given z.0.4.0) ftrue)) ∷ (lives ⊛ handle_lives ⊛ ‵ ftrue) ∷ []) ∵ split ! $ move ! (1 ∷ []) $ fsplit ! $
        -- 1
        box_out E ! given z.0.4.0 (λ b o bits at is fits. fjoin ! $
        let w = word E bits b o in
        let y : Shuts.Ghost = ((lfts, shares, tt, (handle, (block_ptr b o, tt)), (bits ∷ [], (vptr b o ∷ [], tt))), value) in
        let Γ : List (Item 𝓤) = ‵ (box_owns (token E.al handle) (R E) (block_ptr b o) value) ∷ ‵ ((P E).own_val handle (bits ∷ [])) ∷ ‵ ftrue ∷ tokens ∷
        (lives ⊛ handle_lives ⊛ ‵ ftrue) ∷ [] in
        by ! (subst (λ (us : List Val). ent 𝓤 (types.Kit.⋆ 𝓛 Γ) (WpFn 𝓤 H 𝓣.C 𝓣.Λ body (us ++ []) Post)) (sym is)
        (qed 𝓛 Γ ∵ enter ! 𝓣.C 𝓣.Λ body (w ∷ []) _ $
        alloc_all ! (λ locals. pass_all ! refl (box_typed E bits b o fits, tt) $
        sets ! (of_opd ! (get_in ! (fld ! refl (stop !)) (sub ! 0 refl (whole !)))) refl (tt, tt) $
        sets ! (of_opd ! (get_in ! (fld ! refl (stop !)) (sub ! 1 refl (whole !)))) refl fits $
        first ! $ blocks ! $ sets ! (of_opd ! (get ! refl)) refl fits $
        move ! (4 ∷ []) $ split3 ! $ move ! (2 ∷ []) $ drop ! $ move ! (1 ∷ 2 ∷ []) $ join ! $ move ! (1 ∷ 0 ∷ []) $ join ! $
        -- [what `from_raw` requires; the handle; nothing; the tokens]
        move ! (2 ∷ []) $ feq_i ! (List Val) (vptr b o ∷ []) (vptr b o ∷ []) refl $ fjoin ! $ move ! (2 ∷ 0 ∷ []) $ fjoin ! $
        move ! (2 ∷ 0 ∷ []) $ join ! $ join ! $ use1 𝓛 (raw (Shuts.pre y)) (id⊢ 𝓤 _) $
        -- 2
        calls_at_last ! (fm_of 𝓤 H 𝓛.laws 𝓣) Shuts known y (and_then ! (get ! refl) (and_then ! (get ! refl) (no_more !))) (λ u.
        use1 𝓛 (later (some (λ (r : D E). (tokens ⊛ ‵ ((B E).own_val r (u ∷ [])))
        ⊛ some (λ (_ : Unit {0} × (Unit {0} × Unit {0})). ‵ (fsep ftrue (fsep ftrue ftrue))
        ⊛ (raw (fact 𝓤 (r.value ≡ value)) ⊛ raw (fact 𝓤 (r.alloc ≡ handle))))))) (id⊢ 𝓤 _) $
        await ! tt $ pick ! (λ r. split ! $ move ! (1 ∷ []) $ pick !
        (λ _. split3 ! $ drop ! $ heard ! (r.value ≡ value) (λ same. drop ! $ split ! $ move ! (1 ∷ []) $
        box_out E ! r (u ∷ []) (λ b' o' bits' at' is' fits'. box_in E ! r b' o' r.value at' refl $
        rewrite ! 0 (λ (us : List Val). ‵ ((B E).own_val r us)) (sym is') refl $
        let typed : T (has_ty (box_ty E) u) × WT u = subst (λ (v : Val). T (has_ty (box_ty E) v) × WT v) (sym (ap only is')) (box_typed E bits' b' o' fits') in
        lands_last ! refl typed $ exec ! 𝓣.C 𝓣.Λ (env body.locals locals) returning (at_ret (env body.locals locals) Post) $
        sets ! (of_opd ! (get ! refl)) refl typed $ returns ! (look_at ! 0 refl) $ free_all ! refl $
        suffices ! _ (ends_at 𝓛 ending left said z u r ((tt, (tt, tt)), tt) (tt, tt)) $ says ! same $
        nothing ! $ nothing ! $ fjoin ! $ join ! $ move ! (1 ∷ 0 ∷ []) $ join ! $ done !)))))))))

pub into_box_spec : {M : Type 1} → statement M
unfolding tables_of
into_box_spec 𝓤 𝓛 𝓜 𝓡 wired X Z X-laws Z-laws g d drops allocator drops-met =
    let E : Bx = record { row = X; laws = X-laws; al = record { row = Z; laws = Z-laws; g = g; d = d; drops = drops } } in
    let 𝓣 : Tables 𝓤 𝓛.H = tables_of 𝓤 𝓛.H 𝓜 (tables 𝓤 𝓛.H 𝓜 𝓡 𝓡.env) in
    let known = callee_met.met 𝓤 𝓛 𝓜 𝓡 (code.calls-std_alloc::boxed::Box::from_raw 𝓡.env wired) X Z X-laws Z-laws g d drops allocator drops-met in
    entered 𝓤 𝓛.H (triple_of 𝓛 (ending E).signature (F.spec X Z g d drops 𝓛 𝓜.mem 𝓡.returns)) 𝓣.C 𝓣.Λ (#self (args E)) (body E)
    (code.unfolded 𝓤 𝓛.H 𝓜 𝓡 wired (X, (Z, tt)) d drops)
    (walk_Meets 𝓛 (ending E) (left E) (Goes-blank 𝓛 2 (plain (λ _. Parts E)) no (λ κs x f. tt), tt) (said E 𝓛 𝓜.mem 𝓡.returns 𝓣) (WpFn 𝓤 𝓛.H 𝓣.C 𝓣.Λ (body E))
    (WpFn-mono 𝓤 𝓛.H 𝓛.laws 𝓣 (body E))
    (walk E 𝓛 𝓜.mem 𝓡.returns 𝓣 known))
