-- Two disks as one: the blocks of the left side come first, then those of the right side.
use Rattle.std.specs.Prelude.{◌≡◌, ℕ, ◌+◌, ◌-◌, ◌<◌, ◌≤◌, min, false, cond, ◌||◌, [], None, Ok, Err, Result, nat_lt}
use Rattle.refusal.specs.declared.Refusal.{Refusal}
use Rattle.refusal.specs.declared.Refusal.TheVariants.{NoSuchBlock}
use Rattle.disk.specs.Meaning.{Meaning}
use Rattle.disk.specs.declared.Outcome.{Outcome}
use Rattle.disk.specs.declared.Outcome.TheVariants.{Written, Failed}
use Rattle.join_disk.specs.declared.join.Side.{Side}
use Rattle.join_disk.specs.declared.join.Side.TheVariants.{Left, Right}

-- block a of m is block b of the side
pub record BlockOf (side : Meaning) (b : ℕ) (m : Meaning) (a : ℕ) : Type 0 where
  pub medium : m.medium a ≡ side.medium b
  pub air : m.air a ≡ side.air b
  pub opens : m.opens a ≡ side.opens b

-- the law of a join m: the blocks of l and then those of r, but none where these are more than 65,535; spent when a side is
pub record Sides (l r m : Meaning) : Type 0 where
  pub fits : l.blocks + r.blocks < 65536 → m.blocks ≡ l.blocks + r.blocks
  pub left : l.blocks + r.blocks < 65536 → (b : ℕ) → b < l.blocks → BlockOf l b m b
  pub right : l.blocks + r.blocks < 65536 → (b : ℕ) → b < r.blocks → BlockOf r b m (l.blocks + b)
  pub overfull : 65536 ≤ l.blocks + r.blocks → m.blocks ≡ 0
  pub beyond : (b : ℕ) → m.blocks ≤ b → (m.air b ≡ None) × (m.opens b ≡ false)
  pub spent : m.spent ≡ (l.spent || r.spent)

-- the number of blocks over sides of n and m
abbrev pub width : ℕ → ℕ → ℕ
width n m = cond (nat_lt (n + m) 65536) (n + m) 0

-- what the side of block b has at b: the left side below n, from n on the right side, which counts from 0; past the blocks, none
abbrev pub at_side : {X : Type 0} → X → ℕ → ℕ → (ℕ → X) → (ℕ → X) → ℕ → X
at_side none n m left right b = cond (nat_lt b (width n m)) (cond (nat_lt b n) (left b) (right (b - n))) none

-- what a join means, computed from its sides
abbrev pub joined : Meaning → Meaning → Meaning
joined l r = record {
  blocks = width l.blocks r.blocks;
  medium = at_side [] l.blocks r.blocks l.medium r.medium;
  air = at_side None l.blocks r.blocks l.air r.air;
  opens = at_side false l.blocks r.blocks l.opens r.opens;
  spent = l.spent || r.spent;
}

-- where block b lies over sides of n and m, as numbered there; past the last block it is refused
abbrev pub Lies : ℕ → ℕ → ℕ → Result Side Refusal → Type 0
Lies n m b (Ok (Left a)) = (b < width n m) × (b < n) × (a ≡ b)
Lies n m b (Ok (Right a)) = (b < width n m) × (n ≤ b) × (a ≡ b - n)
Lies n m b (Err e) = (e ≡ NoSuchBlock) × (width n m ≤ b)

-- a call at block b is a call on its side, as numbered there, and the other side is as it was; n is the left side's number of blocks
pub record OnSide {L R : Type 0} (n b : ℕ) (call_left : L → ℕ → L → Type 0) (call_right : R → ℕ → R → Type 0) (l : L) (r : R) (new_l : L) (new_r : R) : Type 0 where
  pub left : b < n → call_left l b new_l × (new_r ≡ r)
  pub right : n ≤ b → call_right r (b - n) new_r × (new_l ≡ l)

-- an outcome seen from one layer further up: the layer's number is one more, staying at 255, and the block is kept
abbrev pub raise : Outcome → Outcome
raise Written = Written
raise (Failed layer block) = Failed (min 255 (layer + 1)) block

-- the finish of block b on a side, of which the join answers o
pub record Raised {S : Type 0} (ended : S → ℕ → Outcome → S → Type 0) (o : Outcome) (s : S) (b : ℕ) (new : S) : Type 0 where
  pub was : Outcome
  pub is : o ≡ raise was
  pub ends : ended s b was new
