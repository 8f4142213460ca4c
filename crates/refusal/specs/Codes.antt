-- The number of each refusal, its place, and how it is shown.
use Rattle.std.specs.Prelude.{◌≡◌, ℕ, Bool, List, ◌++◌, codes, decimal, nat_eq}
use Rattle.std.specs.Ordering.{on, eq_of_both}
use Rattle.refusal.specs.declared.Refusal.{Refusal}
use Rattle.refusal.specs.declared.Refusal.TheVariants.{UnfitBytes, NoSuchBlock, BadByteRange, TooManyNames, UnknownPatch, UnknownGroup, BadScriptLength, MisplacedWord, ShortReportList, GroupNotLower, ShortText, SetNotClosed, PatchTableFull, GroupTableFull, WrongGroupState, GroupNamesFull, BlockInFlight, BlockNotInFlight, NothingToSend, BlockNotOpen, NumbersUsedUp, UnfitBuffer, TooManyHeld}

-- the number by which users know a refusal
abbrev pub code_of : Refusal → ℕ
code_of UnfitBytes = 1
code_of NoSuchBlock = 2
code_of BadByteRange = 3
code_of TooManyNames = 4
code_of UnknownPatch = 5
code_of UnknownGroup = 6
code_of BadScriptLength = 7
code_of (MisplacedWord place) = 8
code_of ShortReportList = 9
code_of GroupNotLower = 10
code_of ShortText = 11
code_of SetNotClosed = 12
code_of PatchTableFull = 20
code_of GroupTableFull = 21
code_of WrongGroupState = 22
code_of GroupNamesFull = 23
code_of BlockInFlight = 25
code_of BlockNotInFlight = 26
code_of NothingToSend = 27
code_of BlockNotOpen = 28
code_of NumbersUsedUp = 29
code_of UnfitBuffer = 30
code_of TooManyHeld = 31

-- the place of the misplaced word, and 0 for every other refusal
abbrev pub place_of : Refusal → ℕ
place_of UnfitBytes = 0
place_of NoSuchBlock = 0
place_of BadByteRange = 0
place_of TooManyNames = 0
place_of UnknownPatch = 0
place_of UnknownGroup = 0
place_of BadScriptLength = 0
place_of (MisplacedWord place) = place
place_of ShortReportList = 0
place_of GroupNotLower = 0
place_of ShortText = 0
place_of SetNotClosed = 0
place_of PatchTableFull = 0
place_of GroupTableFull = 0
place_of WrongGroupState = 0
place_of GroupNamesFull = 0
place_of BlockInFlight = 0
place_of BlockNotInFlight = 0
place_of NothingToSend = 0
place_of BlockNotOpen = 0
place_of NumbersUsedUp = 0
place_of UnfitBuffer = 0
place_of TooManyHeld = 0

-- no two refusals share a number and a place
abbrev pub Tells : Refusal → ℕ → Type 0
Tells refusal code = (other : Refusal) → code_of other ≡ code → place_of other ≡ place_of refusal → other ≡ refusal

-- whether two refusals have the same number and the same place; `same_refusal-decides` of proofs/Same.antt says that they then are the same
abbrev pub same_refusal : Refusal → Refusal → Bool
same_refusal = eq_of_both (on code_of nat_eq) (on place_of nat_eq)

-- as in "refused 8 3": the number, then the place
abbrev pub shown_as : Refusal → List ℕ
shown_as refusal = codes "refused " ++ (decimal (code_of refusal) ++ (codes " " ++ decimal (place_of refusal)))
