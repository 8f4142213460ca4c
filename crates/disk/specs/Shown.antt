-- How the end of a write is shown.
use Rattle.std.specs.Prelude.{ℕ, List, ◌++◌, codes, decimal}
use Rattle.disk.specs.declared.Outcome.{Outcome}
use Rattle.disk.specs.declared.Outcome.TheVariants.{Written, Failed}

-- as in "written", or "failed in layer 2 at block 7"
abbrev pub shown_as : Outcome → List ℕ
shown_as Written = codes "written"
shown_as (Failed layer block) = codes "failed in layer " ++ (decimal layer ++ (codes " at block " ++ decimal block))
