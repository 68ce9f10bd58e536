-- Two ends and the messages between them, from their beginning, step by step.
use Rattle.std.proofs.Common.{◌≡◌, ℕ, Some, List, [], ◌∷◌, ◌++◌, refl, ◌∙◌, ap, subst}
use Rattle.tn_option.specs.EnginePair.{EnginePair, EngineStep, engine_step, engine_steps, Talk, step_of, talk_steps, TalkTo, pair_of, LeadTo, EnginesAgree}
use Rattle.tn_option.specs.{Options.known_option, declared.{known.Known.Known, negotiation.Agree.Agree, q_method.Side.Side}}
use Rattle.tn_option.proofs.EngineSteps as inner

pub engines-agree : (a b : Agree) (list : List EngineStep) (side : Side) (code : ℕ) (option : Known)
    → known_option code ≡ Some option
    → EnginesAgree (engine_steps list (pair_of a b)) side code
engines-agree = inner.engines-agree

engine_steps-more : (list more : List EngineStep) (e : EnginePair)
    → engine_steps (list ++ more) e ≡ engine_steps more (engine_steps list e)
engine_steps-more [] more e = refl
engine_steps-more (first ∷ rest) more e = engine_steps-more rest more (engine_step first e)

-- two ends that begin
pub fresh-LeadTo : (a b : Agree) → LeadTo a b (pair_of a b)
fresh-LeadTo a b = record { list = []; is = refl }

-- one step more
pub step-LeadTo : (a b : Agree) (next : EngineStep) (e : EnginePair) → LeadTo a b e
    → LeadTo a b (engine_step next e)
step-LeadTo a b next e p =
    record { list = p.list ++ (next ∷ []); is = engine_steps-more p.list (next ∷ []) (pair_of a b) ∙ ap (engine_step next) p.is }

pub steps-LeadTo : (a b : Agree) (list : List EngineStep) (e : EnginePair) → LeadTo a b e
    → LeadTo a b (engine_steps list e)
steps-LeadTo a b list e p = record { list = p.list ++ list; is = engine_steps-more p.list list (pair_of a b) ∙ ap (engine_steps list) p.is }

-- if no message about an option is on its way, they agree on it
pub LeadTo-agree : (a b : Agree) (e : EnginePair) (side : Side) (code : ℕ) (option : Known)
    → known_option code ≡ Some option → LeadTo a b e
    → EnginesAgree e side code
LeadTo-agree a b e side code option known_as p = subst (λ (x : EnginePair). EnginesAgree x side code) p.is (engines-agree a b p.list side code option known_as)

-- A TALK from one pair to another
abbrev pub Moves : EnginePair → EnginePair → Type 0
Moves old new = TalkTo old new

talk_steps-more : (list more : List Talk) (e : EnginePair)
    → talk_steps (list ++ more) e ≡ talk_steps more (talk_steps list e)
talk_steps-more [] more e = refl
talk_steps-more (first ∷ rest) more e = talk_steps-more rest more (engine_step (step_of first) e)

pub same-Moves : (e : EnginePair) → Moves e e
same-Moves e = ([], refl)

pub then-Moves : (a b c : EnginePair) → Moves a b → Moves b c → Moves a c
then-Moves a b c m n = (m.0 ++ n.0, talk_steps-more m.0 n.0 a ∙ ap (talk_steps n.0) m.1 ∙ n.1)

talk-LeadTo : (a b : Agree) (list : List Talk) (e : EnginePair) → LeadTo a b e → LeadTo a b (talk_steps list e)
talk-LeadTo a b [] e p = p
talk-LeadTo a b (first ∷ rest) e p =
    talk-LeadTo a b rest (engine_step (step_of first) e) (step-LeadTo a b (step_of first) e p)

pub moves-LeadTo : (a b : Agree) (old new : EnginePair) → Moves old new → LeadTo a b old → LeadTo a b new
moves-LeadTo a b old new m p = subst (LeadTo a b) m.1 (talk-LeadTo a b m.0 old p)
