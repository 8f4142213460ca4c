-- Which blocks are among those of a list.
use Rattle.std.proofs.Common.{◌≡◌, ℕ, zero, suc, ◌+◌, ◌<◌, ◌≤◌, Bool, true, false, cond, ◌&&◌, eqb, ◌||◌, List, [], ◌∷◌, ◌++◌, filter, sym, refl, ap, ◌∙◌, append-nil, map-id, arith}
use Rattle.std.specs.List.{range_with_len, list_any}
use Rattle.std.proofs.lemmas.List.FromFn.{filter_of_map_range_with_len_more}
use Rattle.std.proofs.lemmas.Bool.{eqb-true, eq-eqb, ne_eqb, or_left, cond-true, cond-false}
use Rattle.power_loss.specs.States.{among}

-- one more block in front
pub among-here : (x b : ℕ) (xs : List ℕ) → x ≡ b → among (x ∷ xs) b ≡ true
among-here x b xs e = or_left (eqb x b) (among xs b) (eq-eqb x b e)

pub among-past : (x b : ℕ) (xs : List ℕ) → (x ≡ b → ⊥) → among (x ∷ xs) b ≡ among xs b
among-past x b xs d = ap (λ t. t || among xs b) (ne_eqb x b d)

-- what a filter keeps
pub among-kept-by : (p : ℕ → Bool) (xs : List ℕ) (b : ℕ) → among (filter p xs) b ≡ (among xs b && p b)
among-kept-by p [] b = refl
among-kept-by p (x ∷ xs) b =
    let ih = among-kept-by p xs b in
    let e = eqb-true x b in
    grind arith

-- one more block is looked at
pub kept_more : (p : ℕ → Bool) (n : ℕ) → filter p (range_with_len 0 (n + 1)) ≡ filter p (range_with_len 0 n) ++ cond (p n) (n ∷ []) []
kept_more p n = simp map-id at (filter_of_map_range_with_len_more {X = ℕ} p (λ x. x) 0 n n (omega arith))

pub kept-yes : (p : ℕ → Bool) (n : ℕ) → p n ≡ true → filter p (range_with_len 0 (n + 1)) ≡ filter p (range_with_len 0 n) ++ n ∷ []
kept-yes p n t = kept_more p n ∙ ap (λ l. filter p (range_with_len 0 n) ++ l) (cond-true (p n) (n ∷ []) [] t)

pub kept-no : (p : ℕ → Bool) (n : ℕ) → p n ≡ false → filter p (range_with_len 0 (n + 1)) ≡ filter p (range_with_len 0 n)
kept-no p n f = kept_more p n ∙ ap (λ l. filter p (range_with_len 0 n) ++ l) (cond-false (p n) (n ∷ []) [] f) ∙ append-nil (filter p (range_with_len 0 n))

-- the blocks from a on
pub among-counting : (a n b : ℕ) → a ≤ b → b < a + n → among (range_with_len a n) b ≡ true
among-counting a zero b l h = absurd (omega arith)
among-counting a (suc n) b l h =
    let rest = among-counting (a + 1) n b in
    grind arith

among-counting-below : (a n b : ℕ) → b < a → among (range_with_len a n) b ≡ false
among-counting-below a zero b l = refl
among-counting-below a (suc n) b l = let rest = among-counting-below (a + 1) n b (omega arith) in grind arith

-- a list with no block twice
abbrev pub Apart : List ℕ → Type 0
Apart [] = Unit {0}
Apart (x ∷ xs) = (among xs x ≡ false) × Apart xs

pub apart-kept : (p : ℕ → Bool) (a n : ℕ) → Apart (filter p (range_with_len a n))
apart-kept p a zero = tt
apart-kept p a (suc n) =
    let rest = apart-kept p (a + 1) n in
    let out = among-kept-by p (range_with_len (a + 1) n) a in
    let below = among-counting-below (a + 1) n a (omega arith) in
    grind arith

-- what a search of the list answers
pub among_any : (xs : List ℕ) (b : ℕ) → among xs b ≡ list_any (λ y. eqb y b) xs
among_any [] b = refl
among_any (x ∷ xs) b = let ih = among_any xs b in grind arith

pub contains-among : (xs : List ℕ) (b : ℕ) → list_any (λ y. eqb y b) xs ≡ among xs b
contains-among xs b = sym (among_any xs b)
