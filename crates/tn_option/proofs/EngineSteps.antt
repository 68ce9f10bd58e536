-- Each step of two ends is, for each side of each option, a step of its own world or none.
use Rattle.std.proofs.Common.{◌≡◌, ◌≢◌, ◌⊎◌, inl, inr, ℕ, ◌==◌, Bool, true, false, ◌&&◌, Option, Some, None, option_to_list, List, [], ◌∷◌, ◌++◌, refl, sym, ap}
use Rattle.std.proofs.{Common.{◌∙◌, subst}, lemmas.Bool.Decides.eqb_tells}
use Rattle.tn_codes.specs.declared.codes.Verb.{Verb, TheVariants.{Will, Wont, DoIt, DontIt}}
use Rattle.tn_option.specs.{QMethod.{cell, side_of, cause_of, wish_for, word_on, word_off, word_of_answer, result_of_answer}, Laws.IsElsewhere}
use Rattle.tn_option.specs.Options.{Options, known_option, word_now, answer_now, state_or_no, new_options, options_after_word, reply_to, options_after_wish}
use Rattle.tn_option.specs.{Options.{answer_to, state_of, agrees_to}, OptionWorld.{OptionEnd, word_of, with_word, cause_of_word}, declared.known.Known.Known}
use Rattle.tn_option.specs.EnginePair.{EnginePair, EngineStep, ask_here, ask_there, got_here, got_there, asked_word, pair_after_ask, pair_after_word}
use Rattle.tn_option.specs.EnginePair.{turned_pair, engine_step, engine_steps, pair_of, is_about, says_on, with_word_about, words_about, facing, EnginesAgree}
use Rattle.tn_option.specs.declared.{known.Known.TheVariants.{Echo, SuppressGoAhead, Naws, Linemode}, negotiation.Agree.Agree, q_method.Answer.Answer}
use Rattle.tn_option.specs.declared.q_method.{OptionEvent.{OptionEvent, TheVariants.HeardOn}, Side.{Side, TheVariants.{Us, Them}}, QState.QState}
use Rattle.tn_option.specs.declared.q_method.QState.TheVariants.{No}
use Rattle.tn_option.specs.declared.q_method.Answer.TheVariants as answer
use Rattle.tn_option.proofs.OptionLaws.{MovesByCell-moved, LeavesOthers-moved}
use Rattle.tn_option.proofs.OptionRows.{Stands, world_of, ends_as, wished-Stands, heard-Stands, swapped-Stands, opening-Stands, Stands-EndsAgree}

-- two ends that stand in a world of some number of requests and messages
record Standing (near far : OptionEnd) : Type 0 where
  pub wishes : ℕ
  pub words : ℕ
  pub stands : Stands (world_of near far wishes words)

heard-Standing : (agreed on : Bool) (s t s' : QState) (rest q q' : List Bool)
    → s' ≡ (cell agreed (cause_of_word on) s).0 → q' ≡ with_word q (word_of (cell agreed (cause_of_word on) s).1)
    → Standing (ends_as s (on ∷ rest)) (ends_as t q) → Standing (ends_as s' rest) (ends_as t q')
heard-Standing agreed on s t s' rest q q' e f st = rw (e, f) (record { wishes = _; words = _; stands = heard-Stands agreed _ st.stands })

wished-Standing : (agreed on : Bool) (s t s' : QState) (p q q' : List Bool)
    → s' ≡ (cell agreed (wish_for on) s).0 → q' ≡ with_word q (word_of (cell agreed (wish_for on) s).1)
    → Standing (ends_as s p) (ends_as t q) → Standing (ends_as s' p) (ends_as t q')
wished-Standing agreed on s t s' p q q' e f st = rw (e, f) (record { wishes = _; words = _; stands = wished-Stands agreed on _ st.stands })

swapped-Standing : (near far : OptionEnd) → Standing near far → Standing far near
swapped-Standing near far st = record { wishes = st.wishes; words = st.words; stands = swapped-Stands _ st.stands }

-- the state that one message asks for on this side of this option, if it is about it
abbrev told_if : Bool → Bool → Option Bool
told_if true on = Some on
told_if false on = None

abbrev told_one : Side → ℕ → Option (Verb × ℕ) → Option Bool
told_one side code None = None
told_one side code (Some word) = told_if (is_about side word.0 && (word.1 == code)) (says_on word.0)

told-more : (here on : Bool) (words : List Bool) (more : Option Bool)
    → with_word_about here on (with_word words more) ≡ with_word (with_word_about here on words) more
told-more true on words None = refl
told-more true on words (Some word) = refl
told-more false on words None = refl
told-more false on words (Some word) = refl

told-last : (here on : Bool) → with_word_about here on [] ≡ with_word [] (told_if here on)
told-last true on = refl
told-last false on = refl

told-append : (side : Side) (code : ℕ) (words : List (Verb × ℕ)) (more : Option (Verb × ℕ))
    → words_about side code (words ++ option_to_list more) ≡ with_word (words_about side code words) (told_one side code more)
told-append side code [] None = refl
told-append side code [] (Some word) = told-last _ _
told-append side code (first ∷ words) more =
    ap (λ (l : List Bool). with_word_about (is_about side first.0 && (first.1 == code)) (says_on first.0) l) (told-append side code words more)
    ∙ told-more (is_about side first.0 && (first.1 == code)) (says_on first.0) (words_about side code words) (told_one side code more)

same-code : (code : ℕ) → (code == code) ≡ true
same-code code = elim (eqb_tells code code) [ inl same ↦ same.0 | inr other ↦ absurd (other.1 refl) ]

other-code : (c code : ℕ) → (code ≢ c) → (c == code) ≡ false
other-code c code differ = elim (eqb_tells c code) [ inl same ↦ absurd (differ (sym same.1)) | inr other ↦ other.0 ]

-- a message is about this side of this option, or about something else
abbrev This : Side → ℕ → Side → ℕ → Type 0
This side code s c = (s ≡ side) × (c ≡ code)

abbrev Which : Side → ℕ → Side → ℕ → Bool → Type 0
Which side code s c test = ((test ≡ true) × This side code s c) ⊎ ((test ≡ false) × IsElsewhere s c side code)

code-which : (side : Side) (code c : ℕ) → Which side code side c (c == code)
code-which side code c = elim (eqb_tells c code) [ inl same ↦ inl (same.0, (refl, same.1)) | inr other ↦ inr (other.0, inl (λ e. other.1 (sym e))) ]

told-which : (side : Side) (code : ℕ) (verb : Verb) (c : ℕ) → Which side code (side_of verb) c (is_about side verb && (c == code))
told-which Us code DoIt c = code-which Us code c
told-which Us code DontIt c = code-which Us code c
told-which Us code Will c = inr (refl, inr (λ e. cc))
told-which Us code Wont c = inr (refl, inr (λ e. cc))
told-which Them code DoIt c = inr (refl, inr (λ e. cc))
told-which Them code DontIt c = inr (refl, inr (λ e. cc))
told-which Them code Will c = code-which Them code c
told-which Them code Wont c = code-which Them code c

-- an answer asks the far end for its state
said-told : (side : Side) (code : ℕ) (a : Answer) → told_one (facing side) code (word_of_answer side code a) ≡ word_of a
said-told Us code answer.SayOn = ap (λ (b : Bool). told_if b true) (same-code code)
said-told Us code answer.SayOff = ap (λ (b : Bool). told_if b false) (same-code code)
said-told Them code answer.SayOn = ap (λ (b : Bool). told_if b true) (same-code code)
said-told Them code answer.SayOff = ap (λ (b : Bool). told_if b false) (same-code code)
said-told side code a = refl

-- a request sends the message of its answer
asked-said : (side : Side) (code : ℕ) (a : Answer) → asked_word (result_of_answer side code a) ≡ word_of_answer side code a
asked-said side code answer.Nothing = refl
asked-said side code a = refl

-- a message about another side or option does not concern this one
on-elsewhere : (side : Side) (code : ℕ) (s : Side) (c : ℕ) → IsElsewhere s c side code → (is_about (facing side) (word_on s) && (c == code)) ≡ false
on-elsewhere Us code Us c (inl differ) = other-code c code differ
on-elsewhere Us code Us c (inr differ) = absurd (differ refl)
on-elsewhere Them code Them c (inl differ) = other-code c code differ
on-elsewhere Them code Them c (inr differ) = absurd (differ refl)
on-elsewhere Us code Them c other = refl
on-elsewhere Them code Us c other = refl

off-elsewhere : (side : Side) (code : ℕ) (s : Side) (c : ℕ) → IsElsewhere s c side code → (is_about (facing side) (word_off s) && (c == code)) ≡ false
off-elsewhere Us code Us c (inl differ) = other-code c code differ
off-elsewhere Us code Us c (inr differ) = absurd (differ refl)
off-elsewhere Them code Them c (inl differ) = other-code c code differ
off-elsewhere Them code Them c (inr differ) = absurd (differ refl)
off-elsewhere Us code Them c other = refl
off-elsewhere Them code Us c other = refl

said-elsewhere : (side : Side) (code : ℕ) (s : Side) (c : ℕ) (a : Answer) → IsElsewhere s c side code
    → told_one (facing side) code (word_of_answer s c a) ≡ None
said-elsewhere side code s c answer.SayOn other = ap (λ (b : Bool). told_if b (says_on (word_on s))) (on-elsewhere side code s c other)
said-elsewhere side code s c answer.SayOff other = ap (λ (b : Bool). told_if b (says_on (word_off s))) (off-elsewhere side code s c other)
said-elsewhere side code s c a other = refl

said_now-elsewhere : (o : Options) (side : Side) (code : ℕ) (s : Side) (c : ℕ) (cause : OptionEvent) (option : Option Known) → IsElsewhere s c side code
    → told_one (facing side) code (word_now o s c cause option) ≡ None
said_now-elsewhere o side code s c cause (Some option) other = said-elsewhere side code s c _ other
said_now-elsewhere o side code s c HeardOn None other = ap (λ (b : Bool). told_if b (says_on (word_off s))) (off-elsewhere side code s c other)
said_now-elsewhere o side code s c cause None other = refl

answered_now-elsewhere : (o : Options) (side : Side) (code : ℕ) (s : Side) (c : ℕ) (cause : OptionEvent) (option : Option Known) → IsElsewhere s c side code
    → told_one (facing side) code (asked_word (answer_now o s c cause option)) ≡ None
answered_now-elsewhere o side code s c cause (Some option) other =
    ap (λ (r : Option (Verb × ℕ)). told_one (facing side) code r) (asked-said s c _) ∙ said-elsewhere side code s c _ other
answered_now-elsewhere o side code s c cause None other = refl

-- the cell that a cause has at one side of an option, by what the ends show
abbrev cell_shown : Options → Side → ℕ → OptionEvent → QState × Answer
cell_shown o side code cause = cell (agrees_to o side code) cause (state_of o side code)

said_now-told : (o : Options) (side : Side) (code : ℕ) (cause : OptionEvent) (option : Known) → known_option code ≡ Some option
    → told_one (facing side) code (word_now o side code cause (known_option code)) ≡ word_of (cell_shown o side code cause).1
unfolding state_of agrees_to
said_now-told o side code cause option e = rw e (said-told side code _)

answered_now-told : (o : Options) (side : Side) (code : ℕ) (cause : OptionEvent) (option : Known) → known_option code ≡ Some option
    → told_one (facing side) code (asked_word (answer_now o side code cause (known_option code))) ≡ word_of (cell_shown o side code cause).1
unfolding state_of agrees_to
answered_now-told o side code cause option e = rw e (ap (λ (r : Option (Verb × ℕ)). told_one (facing side) code r) (asked-said side code _)
    ∙ said-told side code _)

-- an end and the messages to it, and the messages to the far end
abbrev Between : Side → ℕ → Options → List (Verb × ℕ) → OptionEnd → Type 0
Between side code o words far = Standing (ends_as (state_of o side code) (words_about side code words)) far

abbrev far_end : Side → ℕ → QState → List (Verb × ℕ) → OptionEnd
far_end side code t words = ends_as t (words_about (facing side) code words)

same-Standing : (s t s' : QState) (p p' q q' : List Bool) → s' ≡ s → p' ≡ p → q' ≡ q → Standing (ends_as s p) (ends_as t q)
    → Standing (ends_as s' p') (ends_as t q')
same-Standing s t s' p p' q q' e f g st = rw (e, f, g) st

-- one more message that does not concern this option
told-silent : (side : Side) (code : ℕ) (words : List (Verb × ℕ)) (more : Option (Verb × ℕ)) → told_one side code more ≡ None
    → words_about side code (words ++ option_to_list more) ≡ words_about side code words
told-silent side code words more e = told-append side code words more ∙ ap (λ (r : Option Bool). with_word (words_about side code words) r) e

told-says : (side : Side) (code : ℕ) (words : List (Verb × ℕ)) (more : Option (Verb × ℕ)) (word : Option Bool) → told_one side code more ≡ word
    → words_about side code (words ++ option_to_list more) ≡ with_word (words_about side code words) word
told-says side code words more word e = told-append side code words more ∙ ap (λ (r : Option Bool). with_word (words_about side code words) r) e

heard-cause : (verb : Verb) → cause_of verb ≡ cause_of_word (says_on verb)
heard-cause Will = refl
heard-cause Wont = refl
heard-cause DoIt = refl
heard-cause DontIt = refl

-- a message about this side of this option
got-this : (o : Options) (verb : Verb) (c : ℕ) (rest out : List (Verb × ℕ)) (t : QState) (option : Known) → known_option c ≡ Some option
    → Standing (ends_as (state_of o (side_of verb) c) (says_on verb ∷ words_about (side_of verb) c rest)) (far_end (side_of verb) c t out)
    → Between (side_of verb) c (options_after_word o verb c) rest (far_end (side_of verb) c t (out ++ option_to_list (reply_to o verb c)))
unfolding options_after_word reply_to
got-this o verb c rest out t option e st =
    heard-Standing (agrees_to o (side_of verb) c) (says_on verb) _ t _ _ _ _
    (MovesByCell-moved o (side_of verb) c (cause_of verb) option e ∙ ap (λ (k : OptionEvent). (cell_shown o (side_of verb) c k).0) (heard-cause verb))
    (told-says (facing (side_of verb)) c out _ _ (said_now-told o (side_of verb) c (cause_of verb) option e
    ∙ ap (λ (k : OptionEvent). word_of (cell_shown o (side_of verb) c k).1) (heard-cause verb)))
    st

-- a message about something else
got-other : (o : Options) (side : Side) (code : ℕ) (verb : Verb) (c : ℕ) (rest out : List (Verb × ℕ)) (t : QState) → IsElsewhere (side_of verb) c side code
    → Between side code o rest (far_end side code t out)
    → Between side code (options_after_word o verb c) rest (far_end side code t (out ++ option_to_list (reply_to o verb c)))
unfolding options_after_word reply_to
got-other o side code verb c rest out t other st =
    same-Standing _ t _ _ _ _ _
    (LeavesOthers-moved o (side_of verb) c (cause_of verb) side code other)
    refl
    (told-silent (facing side) code out _ (said_now-elsewhere o side code (side_of verb) c (cause_of verb) (known_option c) other))
    st

got-word : (o : Options) (side : Side) (code : ℕ) (verb : Verb) (c : ℕ) (rest out : List (Verb × ℕ)) (t : QState) (option : Known)
    → known_option code ≡ Some option
    → Which side code (side_of verb) c (is_about side verb && (c == code))
    → Between side code o ((verb, c) ∷ rest) (far_end side code t out)
    → Between side code (options_after_word o verb c) rest (far_end side code t (out ++ option_to_list (reply_to o verb c)))
got-word o side code verb c rest out t option e (inl this) st =
    let told_so = subst (λ (b : Bool). Standing (ends_as (state_of o side code) (with_word_about b (says_on verb) (words_about side code rest)))
    (far_end side code t out)) this.0 st in
    subst (λ (s : Side). Standing (ends_as (state_of o s code) (says_on verb ∷ words_about s code rest)) (far_end s code t out)
    → Between s code (options_after_word o verb c) rest (far_end s code t (out ++ option_to_list (reply_to o verb c)))) this.1.0
    (subst (λ (k : ℕ). known_option k ≡ Some option → Standing (ends_as (state_of o (side_of verb) k) (says_on verb ∷ words_about (side_of verb) k rest))
    (far_end (side_of verb) k t out) → Between (side_of verb) k (options_after_word o verb c) rest
    (far_end (side_of verb) k t (out ++ option_to_list (reply_to o verb c)))) this.1.1
    (λ f. got-this o verb c rest out t option f) e)
    told_so
got-word o side code verb c rest out t option e (inr elsewhere) st =
    got-other o side code verb c rest out t elsewhere.1
    (subst (λ (b : Bool). Standing (ends_as (state_of o side code) (with_word_about b (says_on verb) (words_about side code rest))) (far_end side code t out))
    elsewhere.0 st)

-- both ends stand, at one side of one option
abbrev PairStanding : Side → ℕ → EnginePair → Type 0
PairStanding side code e = Between side code e.here e.to_here (far_end side code (state_of e.there (facing side) code) e.to_there)

got-PairStanding : (side : Side) (code : ℕ) (option : Known) → known_option code ≡ Some option → (words : List (Verb × ℕ)) (e : EnginePair)
    → Between side code e.here words (far_end side code (state_of e.there (facing side) code) e.to_there) → e.to_here ≡ words
    → PairStanding side code (pair_after_word words e)
got-PairStanding side code option known_as [] e st is = rw is st
got-PairStanding side code option known_as (word ∷ rest) e st is =
    got-word e.here side code word.0 word.1 rest e.to_there _ option known_as (told-which side code word.0 word.1) st

-- a request about one side of one option
side-which : (side : Side) (code : ℕ) (s : Side) (c : ℕ) → This side code s c ⊎ IsElsewhere s c side code
side-which Us code Us c = elim (eqb_tells c code) [ inl same ↦ inl (refl, same.1) | inr other ↦ inr (inl (λ e. other.1 (sym e))) ]
side-which Them code Them c = elim (eqb_tells c code) [ inl same ↦ inl (refl, same.1) | inr other ↦ inr (inl (λ e. other.1 (sym e))) ]
side-which Us code Them c = inr (inr (λ e. cc))
side-which Them code Us c = inr (inr (λ e. cc))

asked-this : (side : Side) (code : ℕ) (on : Bool) (e : EnginePair) (option : Known) → known_option code ≡ Some option → PairStanding side code e
    → PairStanding side code (pair_after_ask side code on e)
unfolding options_after_wish answer_to
asked-this side code on e option known_as st =
    wished-Standing (agrees_to e.here side code) on _ _ _ _ _ _
    (MovesByCell-moved e.here side code (wish_for on) option known_as)
    (told-says (facing side) code e.to_there _ _ (answered_now-told e.here side code (wish_for on) option known_as))
    st

asked-other : (side : Side) (code : ℕ) (s : Side) (c : ℕ) (on : Bool) (e : EnginePair) → IsElsewhere s c side code → PairStanding side code e
    → PairStanding side code (pair_after_ask s c on e)
unfolding options_after_wish answer_to
asked-other side code s c on e other st =
    same-Standing _ _ _ _ _ _ _
    (LeavesOthers-moved e.here s c (wish_for on) side code other)
    refl
    (told-silent (facing side) code e.to_there _ (answered_now-elsewhere e.here side code s c (wish_for on) (known_option c) other))
    st

asked-PairStanding : (side : Side) (code : ℕ) (option : Known) → known_option code ≡ Some option → (s : Side) (c : ℕ) (on : Bool) (e : EnginePair)
    → PairStanding side code e → PairStanding side code (pair_after_ask s c on e)
asked-PairStanding side code option known_as s c on e st =
    elim (side-which side code s c) [
      | inl this ↦ subst (λ (x : Side). PairStanding side code (pair_after_ask x c on e)) (sym this.0)
          (subst (λ (k : ℕ). PairStanding side code (pair_after_ask side k on e)) (sym this.1) (asked-this side code on e option known_as st))
      | inr other ↦ asked-other side code s c on e other st
    ]

turned-PairStanding : (side : Side) (code : ℕ) (e : EnginePair) → PairStanding side code e → PairStanding (facing side) code (turned_pair e)
turned-PairStanding Us code e st = swapped-Standing _ _ st
turned-PairStanding Them code e st = swapped-Standing _ _ st

back-PairStanding : (side : Side) (code : ℕ) (e : EnginePair) → PairStanding (facing side) code e → PairStanding side code (turned_pair e)
back-PairStanding Us code e st = swapped-Standing _ _ st
back-PairStanding Them code e st = swapped-Standing _ _ st

step-PairStanding : (side : Side) (code : ℕ) (option : Known) → known_option code ≡ Some option → (next : EngineStep) (e : EnginePair)
    → PairStanding side code e → PairStanding side code (engine_step next e)
step-PairStanding side code option known_as (ask_here s c on) e st = asked-PairStanding side code option known_as s c on e st
step-PairStanding side code option known_as (ask_there s c on) e st =
    back-PairStanding side code _ (asked-PairStanding (facing side) code option known_as s c on (turned_pair e) (turned-PairStanding side code e st))
step-PairStanding side code option known_as got_here e st = got-PairStanding side code option known_as e.to_here e st refl
step-PairStanding side code option known_as got_there e st =
    back-PairStanding side code _ (got-PairStanding (facing side) code option known_as e.to_there (turned_pair e) (turned-PairStanding side code e st) refl)

steps-PairStanding : (side : Side) (code : ℕ) (option : Known) → known_option code ≡ Some option → (list : List EngineStep) (e : EnginePair)
    → PairStanding side code e → PairStanding side code (engine_steps list e)
steps-PairStanding side code option known_as [] e st = st
steps-PairStanding side code option known_as (next ∷ rest) e st =
    steps-PairStanding side code option known_as rest (engine_step next e) (step-PairStanding side code option known_as next e st)

fresh-state : (agree : Agree) (side : Side) (option : Option Known) → state_or_no (new_options agree) side option ≡ No
unfolding new_options
fresh-state agree side None = refl
fresh-state agree Us (Some Echo) = refl
fresh-state agree Us (Some SuppressGoAhead) = refl
fresh-state agree Us (Some Naws) = refl
fresh-state agree Us (Some Linemode) = refl
fresh-state agree Them (Some Echo) = refl
fresh-state agree Them (Some SuppressGoAhead) = refl
fresh-state agree Them (Some Naws) = refl
fresh-state agree Them (Some Linemode) = refl

fresh-state_of : (agree : Agree) (side : Side) (code : ℕ) → state_of (new_options agree) side code ≡ No
unfolding state_of
fresh-state_of agree side code = fresh-state agree side (known_option code)

fresh-PairStanding : (a b : Agree) (side : Side) (code : ℕ) → PairStanding side code (pair_of a b)
fresh-PairStanding a b side code =
    rw (fresh-state_of a side code, fresh-state_of b (facing side) code) (record { wishes = 0; words = 0; stands = opening-Stands })

pub engines-agree : (a b : Agree) (list : List EngineStep) (side : Side) (code : ℕ) (option : Known) → known_option code ≡ Some option
    → EnginesAgree (engine_steps list (pair_of a b)) side code
engines-agree a b list side code option known_as =
    Stands-EndsAgree _ (steps-PairStanding side code option known_as list (pair_of a b) (fresh-PairStanding a b side code)).stands
