-- By whose characters keys are taken changes nothing of what is known of them beforehand.
use Rattle.std.proofs.Common.{◌≡◌, ℕ, Bool, List, Option, refl}
use Rattle.tn_connect.specs.{Clients.foreseen, declared.settings.KeySource.{KeySource, TheVariants.{Reader, Input, Terminal}}}
use Rattle.tn_program.specs.Settings.{origin_as}
use Rattle.tn_cli.specs.declared.arguments.settings.Characters.{Characters, TheVariants.{Own, Standard}}

pub foreseen_as : (characters : Characters) (origin : KeySource) (text : Bool) (bytes : Option (List ℕ))
    → foreseen (origin_as characters origin) text bytes ≡ foreseen origin text bytes
foreseen_as Own origin text bytes = refl
foreseen_as Standard Reader text bytes = refl
foreseen_as Standard Input text bytes = refl
foreseen_as Standard (Terminal own) text bytes = refl
