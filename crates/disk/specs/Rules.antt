-- The rule of each call of a disk, by cases on the answer; m is the meaning before the call, after the one behind it.
use Rattle.std.specs.Prelude.{◌≡◌, ℕ, ◌<◌, ◌≤◌, true, false, List, length, Some, None, Ok, Err, Result, ◌≢◌}
use Rattle.refusal.specs.declared.Refusal.{Refusal}
use Rattle.refusal.specs.declared.Refusal.TheVariants.{UnfitBytes, NoSuchBlock, BadByteRange, TooManyNames, UnknownPatch, UnknownGroup, BadScriptLength, MisplacedWord, ShortReportList, GroupNotLower, ShortText, SetNotClosed, PatchTableFull, GroupTableFull, WrongGroupState, GroupNamesFull, BlockInFlight, BlockNotInFlight, NothingToSend, BlockNotOpen, NumbersUsedUp, UnfitBuffer, TooManyHeld}
use Rattle.disk.specs.Meaning.{Meaning, flies}
use Rattle.disk.specs.declared.Outcome.{Outcome}
use Rattle.disk.specs.declared.Outcome.TheVariants.{Written, Failed}

-- the five reasons for which a disk refuses: what must hold for each of them
pub record Reasons : Type 1 where
  pub unfit : Type 0
  pub absent : Type 0
  pub flying : Type 0
  pub grounded : Type 0
  pub shut : Type 0

-- a disk refuses for its reasons only
abbrev pub RefusedFor : Reasons → Refusal → Type 0
RefusedFor why UnfitBytes = why.unfit
RefusedFor why NoSuchBlock = why.absent
RefusedFor why BadByteRange = ⊥
RefusedFor why TooManyNames = ⊥
RefusedFor why UnknownPatch = ⊥
RefusedFor why UnknownGroup = ⊥
RefusedFor why BadScriptLength = ⊥
RefusedFor why (MisplacedWord place) = ⊥
RefusedFor why ShortReportList = ⊥
RefusedFor why GroupNotLower = ⊥
RefusedFor why ShortText = ⊥
RefusedFor why SetNotClosed = ⊥
RefusedFor why PatchTableFull = ⊥
RefusedFor why GroupTableFull = ⊥
RefusedFor why WrongGroupState = ⊥
RefusedFor why GroupNamesFull = ⊥
RefusedFor why BlockInFlight = why.flying
RefusedFor why BlockNotInFlight = why.grounded
RefusedFor why NothingToSend = ⊥
RefusedFor why BlockNotOpen = why.shut
RefusedFor why NumbersUsedUp = ⊥
RefusedFor why UnfitBuffer = ⊥
RefusedFor why TooManyHeld = ⊥

-- what holds of an accepted call
abbrev pub Accepted : {X : Type 0} → (X → Type 0) → Result X Refusal → Type 0
Accepted holds (Ok x) = holds x
Accepted holds (Err e) = Unit {0}

-- what holds of a refused call
abbrev pub Refused : {X : Type 0} → Type 0 → Result X Refusal → Type 0
Refused holds (Ok x) = Unit {0}
Refused holds (Err e) = holds

-- a check refuses just what does not fit, as unfit
abbrev pub CheckRule : Type 0 → Result (Unit {0}) Refusal → Type 0
CheckRule fits (Ok x) = fits
CheckRule fits (Err e) = (e ≡ UnfitBytes) × (fits → ⊥)

-- a block that is not below the number of blocks is refused, and no other
abbrev pub BlockRule : ℕ → ℕ → Result (Unit {0}) Refusal → Type 0
BlockRule b blocks (Ok x) = b < blocks
BlockRule b blocks (Err e) = (e ≡ NoSuchBlock) × (blocks ≤ b)

-- the image is in flight at b; the open set is free but for its laws
pub record StartEffect (m : Meaning) (b : ℕ) (image : List ℕ) (after : Meaning) : Type 0 where
  pub blocks : after.blocks ≡ m.blocks
  pub medium : (a : ℕ) → a < m.blocks → after.medium a ≡ m.medium a
  pub here : after.air b ≡ Some image
  pub elsewhere : (a : ℕ) → (a ≢ b) → after.air a ≡ m.air a
  pub spent : after.spent ≡ m.spent

-- the image in flight at b is on the medium; the open set is free but for its laws
pub record WriteEffect (m : Meaning) (b : ℕ) (after : Meaning) : Type 0 where
  pub blocks : after.blocks ≡ m.blocks
  pub here : m.air b ≡ Some (after.medium b)
  pub medium : (a : ℕ) → a < m.blocks → (a ≢ b) → after.medium a ≡ m.medium a
  pub landed : after.air b ≡ None
  pub elsewhere : (a : ℕ) → (a ≢ b) → after.air a ≡ m.air a
  pub spent : after.spent ≡ m.spent

-- the image in flight at b is gone; free are the open set but for its laws, and whether the disk is spent now
pub record FailEffect (m : Meaning) (b : ℕ) (after : Meaning) : Type 0 where
  pub blocks : after.blocks ≡ m.blocks
  pub medium : (a : ℕ) → a < m.blocks → after.medium a ≡ m.medium a
  pub landed : after.air b ≡ None
  pub elsewhere : (a : ℕ) → (a ≢ b) → after.air a ≡ m.air a
  pub spent : m.spent ≡ true → after.spent ≡ true

-- free are whether the write failed, and the layer, from 1 on, and the block there that a failure names
abbrev pub FinishEffect : Meaning → ℕ → Outcome → Meaning → Type 0
FinishEffect m b Written after = WriteEffect m b after
FinishEffect m b (Failed layer block) after = (0 < layer) × FailEffect m b after

-- read copies out the medium's block b
abbrev pub ReadRule : Meaning → ℕ → List ℕ → List ℕ → Meaning → Result (Unit {0}) Refusal → Type 0
ReadRule m b old new after (Ok x) = (length old ≡ 256) × (b < m.blocks) × (new ≡ m.medium b) × (after ≡ m)
ReadRule m b old new after (Err e) = (new ≡ old) × (after ≡ m) × RefusedFor
    (record {
      unfit = length old ≡ 256 → ⊥;
      absent = (length old ≡ 256) × (m.blocks ≤ b);
      flying = ⊥;
      grounded = ⊥;
      shut = ⊥;
    })
    e

-- start puts the image into flight at an open block
abbrev pub StartRule : Meaning → ℕ → List ℕ → Meaning → Result (Unit {0}) Refusal → Type 0
StartRule m b image after (Ok x) = (length image ≡ 256) × (m.opens b ≡ true) × StartEffect m b image after
StartRule m b image after (Err e) = (after ≡ m) × RefusedFor
    (record {
      unfit = length image ≡ 256 → ⊥;
      absent = (length image ≡ 256) × (m.blocks ≤ b);
      flying = (length image ≡ 256) × (b < m.blocks) × (flies m b ≡ true);
      grounded = ⊥;
      shut = (length image ≡ 256) × (b < m.blocks) × (flies m b ≡ false) × (m.opens b ≡ false);
    })
    e

-- finish ends the write in flight at a block
abbrev pub FinishRule : Meaning → ℕ → Meaning → Result Outcome Refusal → Type 0
FinishRule m b after (Ok o) = (flies m b ≡ true) × FinishEffect m b o after
FinishRule m b after (Err e) = (after ≡ m) × RefusedFor
    (record {
      unfit = ⊥;
      absent = m.blocks ≤ b;
      flying = ⊥;
      grounded = (b < m.blocks) × (flies m b ≡ false);
      shut = ⊥;
    })
    e

-- image copies out the image in flight at a block
abbrev pub ImageRule : Meaning → ℕ → List ℕ → List ℕ → Result (Unit {0}) Refusal → Type 0
ImageRule m b old new (Ok x) = (length old ≡ 256) × (m.air b ≡ Some new)
ImageRule m b old new (Err e) = (new ≡ old) × RefusedFor
    (record {
      unfit = length old ≡ 256 → ⊥;
      absent = (length old ≡ 256) × (m.blocks ≤ b);
      flying = ⊥;
      grounded = (length old ≡ 256) × (b < m.blocks) × (flies m b ≡ false);
      shut = ⊥;
    })
    e
