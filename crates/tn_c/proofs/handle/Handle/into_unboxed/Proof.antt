-- `into_unboxed` tests the pointer: null is what an empty handle has, and else two fields move, and what they own goes with them.
use mathlib.Core.Path.{refl, sym, ap, ◌∙◌, subst}
use mathlib.Core.List.{List, [], ◌∷◌, ◌++◌}
use seplogic.Ra.Ura.{Ura}
use mir.Syntax.{w64}
use mir.Raw.{raw as bare}
use mir.Val.{Val, vint, vstruct, vcons, vnil, of_list}
use base.Logic.{SProp, ent, emp, id⊢, guard_i}
use base.Fml.{ftrue, fsep, fex, feq}
use prog.Memory.{Memory}
use prog.Routine.{Routine}
use prog.Wp.{WpFn, Tables}
use types.Logic.{Logic, sem}
use contract.Monad.{Fun, fact_use}
use contract.Running.{tables, tables_of}
use sound.WpLaws.{WpFn-mono}
use types.Kit.{Item, ‵, raw, ◌⊛◌, given, at_ret, ◌$◌, ◌∵◌, !, qed, by, move, drop, learn, use0, use1, join, split, rewrite, fsplit, fjoin, fpick, feq_l}
use types.Kit.{suffices, done}
use types.Part.{whole, sub, agg}
use types.Match.{live}
use types.Run.{stop, fld, lit, bin, no_more, and_then, of_opd, first, branches, exec, returns, enter}
use types.ByLocal.{alloc_all, pass_all, free_all, look_at, get, get_in, sets, sets_last, env}
use denote.Exit.{yes}
use denote.RattleType.{RattleType, Valss}
use denote.RawPtr.{Ptr, RawPtr, null_ptr, block_ptr, ptr_val, Testable, tests_null}
use denote.Signature.{type_at}
use denote.Steps.{nothing}
use denote.Struct.Struct.{within}
use denote.Struct.Owning.{shape}
use denote.Triple.Spec.{triple_of}
use denote.Triple.Table.{entered}
use denote.Triple.Walked.{says, Stays, stay_dropped, walk_of, ends_at, Goes-dropped, walk_Meets}
use lib.Dec.{lit<}
use Rattle.std.specs.{Prelude.{Option, None, Some}, contracts.impls.GlobalAllocator.TheImpl.ghosts}
use Rattle.std.specs.contracts.alloc.Global as Heap
use Rattle.std.proofs.{GlobalToken.dealloc_token-Testable, ResultValues.and_tt, option.Made.{Some-of, none_of}, alloc.Calls.{token, handle_tells}}
use Rattle.std.proofs.BoxSteps.{Form.{D, B, P, τ, owning, word, box_typed}, Steps.{box_out, box_in}}
use Rattle.tn_c.specs.contracts.held.Held as State
use Rattle.tn_c.specs.contracts.handle.Handle as Handle
use Rattle.tn_c.specs.contracts.unboxed.Unboxed as Unboxed
use Rattle.tn_c.proofs.AsBox.{E, FromHandle as From, opt_cases}
use Rattle.tn_c.specs.contracts.handle.Handle.into_unboxed as F
use Rattle.tn_c.specs.contracts.handle.Handle.into_unboxed.Key.{name as #self}
use Rattle.tn_c.proofs.handle.Handle.into_unboxed.Statement as stated
use Rattle.tn_c.proofs.handle.Handle.into_unboxed.Code as code

abbrev stayed : Stays (F.ended).signature.params (F.ended).kept
stayed = (stay_dropped From yes, tt)

abbrev Row : RattleType
Row = Unboxed.the_row State.the_row Heap.the_row ghosts

module _ {M : Type 1} {𝓤 : Ura M} (𝓛 : Logic 𝓤) (at_mem : Memory → SProp 𝓤) (run : Routine → Fun 𝓤) (𝓣 : Tables 𝓤 𝓛.H) where
  open 𝓛 use {H}

  walk : (z : (walk_of 𝓛 F.ended stayed (F.clauses 𝓛 at_mem run)).Ghost)
      → ent 𝓤 ((walk_of 𝓛 F.ended stayed (F.clauses 𝓛 at_mem run)).pre z)
      (WpFn 𝓤 H 𝓣.C 𝓣.Λ code.function (z.0.4.0 ++ []) ((walk_of 𝓛 F.ended stayed (F.clauses 𝓛 at_mem run)).post z))
  walk z =
      let Post = (walk_of 𝓛 F.ended stayed (F.clauses 𝓛 at_mem run)).post z in
      let h = z.0.3.0 in let vs = z.0.4.0 in
      let Out = type_at (F.signature).result tt in
      let Held = λ (o : Option State.the_row.Denot). ‵ (Handle.the_row.own_val (record { at = h.at; alloc = h.alloc; held = o }) vs) in
      qed 𝓛 ((‵ ftrue ⊛ ‵ (fsep (Handle.the_row.own_val h vs) ftrue)) ∷ raw (emp 𝓤) ∷ []) ∵ split ! $ drop ! $ fsplit ! $ move !
      (1 ∷ 2 ∷ []) $ drop ! $ drop ! $
      opt_cases ! h.held
      (λ is. rewrite ! 0 Held is refl $
      use1 𝓛 (‵ (fsep (fex (Valss (RawPtr ∷ P E ∷ [])) (within (shape (owning E)) (h.at, (h.alloc, tt)) vs)) (feq Ptr h.at null_ptr))) (id⊢ 𝓤 _) $
      fsplit ! $ move ! (1 ∷ []) $ feq_l ! (λ en. fpick ! (λ vss.
      fsplit ! $ feq_l ! (λ ev. fsplit ! $ feq_l ! (λ ep. fsplit ! $ handle_tells E.al ! h.alloc vss.1.0 (λ hv eh fa. drop ! $ drop ! $
      let w : Val = vstruct (vcons (vint w64 0) (vcons hv vnil)) in
      by ! (subst (λ (us : List Val). ent 𝓤 (types.Kit.⋆ 𝓛 []) (WpFn 𝓤 H 𝓣.C 𝓣.Λ code.function (us ++ []) Post))
      (sym (ev ∙ (λ j. vstruct (of_list ((ep ∙ ap (λ (π : Ptr). ptr_val π ∷ []) en) j ++ (eh j ++ []))) ∷ [])))
      (qed 𝓛 [] ∵ enter ! 𝓣.C 𝓣.Λ code.function (w ∷ []) _ $ alloc_all ! (λ ls. pass_all ! refl ((and_tt _ fa.0, (record { fits = lit< tt }, (fa.1, tt))), tt) $
      sets ! (of_opd ! (get_in ! (fld ! refl (stop !)) (sub ! 0 refl (whole !)))) refl (tt, record { fits = lit< tt }) $
      sets ! (of_opd ! (get_in ! (fld ! refl (stop !)) (sub ! 1 refl (whole !)))) refl fa $
      sets ! (bin ! (get ! refl) (lit ! tt) tt) refl (tt, tt) $ first ! $ branches ! (get ! refl)
      (λ _. sets_last ! (agg ! (and_then ! (lit ! tt) (no_more !))) refl (tt, (record { fits = lit< tt }, tt)) $
      exec ! 𝓣.C 𝓣.Λ (env code.Mir.locals ls) code.Mir.t-5 (at_ret (env code.Mir.locals ls) Post) $
      sets ! (of_opd ! (get ! refl)) refl (tt, (record { fits = lit< tt }, tt)) $ returns ! (look_at ! 0 refl) $ free_all ! refl $
      use0 𝓛 (‵ (Out.own_val None (live 0 vnil ∷ []))) (none_of 𝓛 Row) $
      suffices ! _ (ends_at 𝓛 F.ended stayed (F.clauses 𝓛 at_mem run) z (live 0 vnil) None (tt, tt) (tt, tt)) $ says ! is $
      nothing ! $ nothing ! $ fjoin ! $ join ! $ nothing ! $ join ! $ done !) (λ wrong. absurd wrong))))))))))
      (λ x is. rewrite ! 0 Held is refl $
      let v : D E = record { ptr = h.at; alloc = h.alloc; value = x } in
      let made : Row.Denot = record { at = v.ptr; alloc = v.alloc; value = x } in
      use1 𝓛 (‵ ((B E).own_val v vs)) (id⊢ 𝓤 _) $
      box_out E ! v vs (λ b o hv e ws fa. move ! (1 ∷ []) $
      let Token = token E.al v.alloc (bare (τ E)) (block_ptr b o) in
      use1 𝓛 (given (Testable (block_ptr b o)) (‵ Token))
      (fact_use 𝓤 (Testable (block_ptr b o)) (dealloc_token-Testable 𝓛 v.alloc (bare (τ E)) (block_ptr b o))
      (guard_i 𝓤 (Testable (block_ptr b o)) (sem 𝓛 Token))) $ learn ! (λ t.
      move ! (1 ∷ []) $ box_in E ! v b o v.value e refl $ use1 𝓛 (‵ (Row.own_val made (word E hv b o ∷ []))) (id⊢ 𝓤 _) $
      let w = word E hv b o in let out : Val = live 1 (vcons w vnil) in let typed = box_typed E hv b o fa in
      let Γ : List (Item 𝓤) = ‵ (Row.own_val made (w ∷ [])) ∷ [] in
      by ! (subst (λ (us : List Val). ent 𝓤 (types.Kit.⋆ 𝓛 Γ) (WpFn 𝓤 H 𝓣.C 𝓣.Λ code.function (us ++ []) Post)) (sym ws)
      (qed 𝓛 Γ ∵ enter ! 𝓣.C 𝓣.Λ code.function (w ∷ []) _ $ alloc_all ! (λ ls. pass_all ! refl (typed, tt) $
      sets ! (of_opd ! (get_in ! (fld ! refl (stop !)) (sub ! 0 refl (whole !)))) refl (tt, tt) $
      sets ! (of_opd ! (get_in ! (fld ! refl (stop !)) (sub ! 1 refl (whole !)))) refl fa $
      sets ! (bin ! (get ! refl) (lit ! tt) (tests_null (block_ptr b o) t)) refl (tt, tt) $ first ! $ branches ! (get ! refl) (λ wrong. absurd wrong) (λ _.
      sets ! (of_opd ! (get ! refl)) refl (tt, tt) $ sets ! (agg ! (and_then ! (get ! refl) (and_then ! (get ! refl) (no_more !)))) refl typed $
      sets_last ! (agg ! (and_then ! (lit ! tt) (and_then ! (get ! refl) (no_more !)))) refl (and_tt _ typed.0, (record { fits = lit< tt }, (typed.1, tt))) $
      exec ! 𝓣.C 𝓣.Λ (env code.Mir.locals ls) code.Mir.t-5 (at_ret (env code.Mir.locals ls) Post) $
      sets ! (of_opd ! (get ! refl)) refl (and_tt _ typed.0, (record { fits = lit< tt }, (typed.1, tt))) $ returns ! (look_at ! 0 refl) $ free_all ! refl $
      use1 𝓛 (‵ (Out.own_val (Some made) (out ∷ []))) (Some-of 𝓛 Row made w) $
      suffices ! _ (ends_at 𝓛 F.ended stayed (F.clauses 𝓛 at_mem run) z out (Some made) (tt, tt) (tt, tt)) $ says ! is $
      nothing ! $ nothing ! $ fjoin ! $ join ! $ nothing ! $ join ! $ done !)))))))

pub into_unboxed_spec : {M : Type 1} → stated.statement M
unfolding tables_of
into_unboxed_spec 𝓤 𝓛 𝓜 𝓡 wired =
    let 𝓣 : Tables 𝓤 𝓛.H = tables_of 𝓤 𝓛.H 𝓜 (tables 𝓤 𝓛.H 𝓜 𝓡 𝓡.env) in
    entered 𝓤 𝓛.H (triple_of 𝓛 F.signature (F.spec 𝓛 𝓜.mem 𝓡.returns)) 𝓣.C 𝓣.Λ #self code.function (code.unfolded 𝓤 𝓛.H 𝓜 𝓡 wired)
    (walk_Meets 𝓛 F.ended stayed (Goes-dropped 𝓛 0 From yes (λ κs x f. refl), tt) (F.clauses 𝓛 𝓜.mem 𝓡.returns) (WpFn 𝓤 𝓛.H 𝓣.C 𝓣.Λ code.function)
    (WpFn-mono 𝓤 𝓛.H 𝓛.laws 𝓣 code.function)
    (walk 𝓛 𝓜.mem 𝓡.returns 𝓣))
