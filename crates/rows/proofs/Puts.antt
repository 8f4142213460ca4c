-- Blocks of a row, and what a write of one block leaves of them.
use Rattle.std.proofs.Common.{◌≡◌, ℕ, ◌+◌, ◌-◌, ◌*◌, ◌<◌, List, ◌++◌, length, take, drop, sym, ap, ◌∙◌, inl, inr, ⊎_elim, arith}
use Rattle.std.proofs.lemmas.List.{length-append, length-take-le, length-drop, drop_at, take_at, drop-drop, drop-take, take-append-le, take-take}
use Rattle.std.proofs.lemmas.Bool.{cases_order}
use Rattle.rows.specs.Blocks.{Has, Whole, block, put_block}

pub length-block : (i : ℕ) (row : List ℕ) → Has i row → length (block i row) ≡ 256
unfolding block
length-block i row h = length-take-le 256 (drop (256 * i) row) (omega (arith, length-drop (256 * i) row))

module _ (i : ℕ) (image row : List ℕ) (fits : Has i row) (whole : Whole image) where
  front : length (take (256 * i) row) ≡ 256 * i
  front = length-take-le (256 * i) row (omega arith)

  pub length-put : length (put_block i image row) ≡ length row
  unfolding put_block
  length-put = simp (length-append, length-drop) (omega (arith, front))

  rest : drop (256 * i) (put_block i image row) ≡ image ++ drop (256 * i + 256) row
  unfolding put_block
  rest = drop_at (take (256 * i) row) (image ++ drop (256 * i + 256) row) (256 * i) front

  pub block-put-same : block i (put_block i image row) ≡ image
  unfolding block
  block-put-same = ap (take 256) rest ∙ take_at image (drop (256 * i + 256) row) 256 whole

  behind : drop (256 * i + 256) (put_block i image row) ≡ drop (256 * i + 256) row
  behind = sym (drop-drop 256 (256 * i) (put_block i image row)) ∙ ap (drop 256) rest ∙ drop_at image (drop (256 * i + 256) row) 256 whole

  before : (j : ℕ) → j < i → block j (put_block i image row) ≡ block j row
  unfolding block put_block
  before j l =
      sym (drop-take (256 * j) 256 (put_block i image row))
      ∙ ap (drop (256 * j)) (take-append-le (256 * j + 256) (take (256 * i) row) (image ++ drop (256 * i + 256) row) (omega (arith, front)) ∙ take-take (256 * j + 256) (256 * i) row (omega arith))
      ∙ drop-take (256 * j) 256 row

  after : (j : ℕ) → i < j → block j (put_block i image row) ≡ block j row
  unfolding block
  after j l =
      let n = 256 * j - (256 * i + 256) in
      let e : (256 * i + 256) + n ≡ 256 * j = omega arith in
      let split : (xs : List ℕ) → drop (256 * j) xs ≡ drop n (drop (256 * i + 256) xs) = λ xs. ap (λ (m : ℕ). drop m xs) (sym e) ∙ sym (drop-drop n (256 * i + 256) xs) in
      ap (take 256) (split (put_block i image row) ∙ ap (drop n) behind ∙ sym (split row))

  pub block-put-other : (j : ℕ) → (j ≡ i → ⊥) → block j (put_block i image row) ≡ block j row
  block-put-other j d = elim (cases_order j i) [ inl e ↦ absurd (d e) | inr o ↦ ⊎_elim (before j) (after j) o ]
