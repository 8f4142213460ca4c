-- How it is shown why the states are not listed.
use Rattle.std.specs.Prelude.{ℕ, List, codes}
use Rattle.power_loss.specs.declared.Unlisted.{Unlisted}
use Rattle.power_loss.specs.declared.Unlisted.TheVariants.{Memory, TooManyInFlight}

abbrev pub shown_as : Unlisted → List ℕ
shown_as Memory = codes "no memory"
shown_as TooManyInFlight = codes "too many blocks in flight"
