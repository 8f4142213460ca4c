-- A row of bytes as blocks of 256.
use Rattle.std.specs.Prelude.{◌≡◌, ℕ, ◌+◌, ◌*◌, ◌≤◌, List, ◌++◌, length, take, drop, Ok, Err, Result}
use Rattle.refusal.specs.declared.Refusal.{Refusal}
use Rattle.disk.specs.Rules.{RefusedFor}

-- a row has block i
abbrev pub Has : ℕ → List ℕ → Type 0
Has i row = 256 * i + 256 ≤ length row

-- an image is one block
abbrev pub Whole : List ℕ → Type 0
Whole image = length image ≡ 256

-- block i of a row
unfoldable pub block : ℕ → List ℕ → List ℕ
block i row = take 256 (drop (256 * i) row)

-- the row with block i replaced
unfoldable pub put_block : ℕ → List ℕ → List ℕ → List ℕ
put_block i image row = take (256 * i) row ++ (image ++ drop (256 * i + 256) row)

-- a refusal of bytes that are not whole, and then of a row that lacks a block
abbrev pub RowRefusal : Type 0 → Type 0 → Refusal → Type 0
RowRefusal whole has = RefusedFor (record { unfit = whole → ⊥; absent = whole × (has → ⊥); flying = ⊥; grounded = ⊥; shut = ⊥ })

-- whether a row has block i and an image is one block
abbrev pub FitsRule : List ℕ → ℕ → List ℕ → Result (Unit {0}) Refusal → Type 0
FitsRule row i image (Ok x) = Has i row × Whole image
FitsRule row i image (Err e) = RowRefusal (Whole image) (Has i row) e

-- block i of a row is copied out over the old bytes
abbrev pub GetRule : List ℕ → ℕ → List ℕ → List ℕ → Result (Unit {0}) Refusal → Type 0
GetRule row i old new (Ok x) = Has i row × Whole old × (new ≡ block i row)
GetRule row i old new (Err e) = RowRefusal (Whole old) (Has i row) e × (new ≡ old)

-- an image is written over block i of a row
abbrev pub PutRule : List ℕ → ℕ → List ℕ → List ℕ → Result (Unit {0}) Refusal → Type 0
PutRule row i image new (Ok x) = Has i row × Whole image × (new ≡ put_block i image row)
PutRule row i image new (Err e) = RowRefusal (Whole image) (Has i row) e × (new ≡ row)

-- one block of a row is copied over another
abbrev pub MoveRule : List ℕ → ℕ → ℕ → List ℕ → Result (Unit {0}) Refusal → Type 0
MoveRule row from to new (Ok x) = Has from row × Has to row × (new ≡ put_block to (block from row) row)
MoveRule row from to new (Err e) = RowRefusal (Unit {0}) (Has from row × Has to row) e × (new ≡ row)
