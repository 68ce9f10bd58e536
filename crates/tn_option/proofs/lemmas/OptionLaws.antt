-- The parts of the options that a message or a request leaves as they were.
use Rattle.std.proofs.Common.{ℕ, Bool}
use Rattle.tn_codes.specs.declared.codes.Verb.{Verb}
use Rattle.tn_option.specs.{QMethod.{side_of, cause_of, wish_for}, Options.{Options, known_option, options_after_cause, options_after_word, options_after_wish}}
use Rattle.tn_option.specs.{Laws.{LeavesOthers, AgreesAsBefore}, declared.q_method.{OptionEvent.OptionEvent, Side.Side}}
use Rattle.tn_option.proofs.OptionLaws as inner

pub LeavesOthers-moved : (o : Options) (side : Side) (code : ℕ) (cause : OptionEvent)
    → LeavesOthers o (options_after_cause o side cause (known_option code)) side code
LeavesOthers-moved = inner.LeavesOthers-moved

pub AgreesAsBefore-moved : (o : Options) (side : Side) (code : ℕ) (cause : OptionEvent)
    → AgreesAsBefore o (options_after_cause o side cause (known_option code))
AgreesAsBefore-moved = inner.AgreesAsBefore-moved

pub LeavesOthers-word : (o : Options) (verb : Verb) (code : ℕ)
    → LeavesOthers o (options_after_word o verb code) (side_of verb) code
unfolding options_after_word
LeavesOthers-word o verb code = LeavesOthers-moved o (side_of verb) code (cause_of verb)

pub LeavesOthers-wish : (o : Options) (side : Side) (code : ℕ) (on : Bool)
    → LeavesOthers o (options_after_wish o side code on) side code
unfolding options_after_wish
LeavesOthers-wish o side code on = LeavesOthers-moved o side code (wish_for on)
