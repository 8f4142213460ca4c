-- What a write of one mark leaves of a row of marks.
use Rattle.std.proofs.Common.{◌≡◌, ℕ, ◌+◌, ◌<◌, Bool, true, false, cond, List, length, get_or, set, Some, None, count_by, position, sym, refl, subst, inl, inr, arith, length-set, get_or-set_other, get_or-set_same}
use Rattle.std.proofs.lemmas.Bool.{cases_eq}
use Rattle.std.proofs.lemmas.List.Sums.{sum_by-set}
use Rattle.rows.specs.Marks.{AtMostOne}
use Rattle.rows.proofs.Firsts.{position-none, position-some}

pub false-from : (t : Bool) → (t ≡ true → ⊥) → t ≡ false
false-from true h = absurd (h refl)
false-from false h = refl

module _ {X : Type 0} where
  -- what holds of the new element and of each other
  pub at_set : (P : X → Type 0) (xs : List X) (j : ℕ) (v d : X) (i : ℕ) → j < length xs → (i ≡ j → P v) → ((i ≡ j → ⊥) → P (get_or xs i d)) → P (get_or (set xs j v) i d)
  at_set P xs j v d i l here other =
      elim (cases_eq i j) [
        | inl e ↦ subst (λ (m : ℕ). P (get_or (set xs j v) m d)) (sym e) (subst P (sym (get_or-set_same xs j v d l)) (here e))
        | inr n ↦ subst P (sym (get_or-set_other xs j i v d n)) (other n)
      ]

  module _ (p : X → Bool) (xs : List X) (d : X) (one : AtMostOne p xs d) where
    -- an element that passes is the first
    pub only : (j : ℕ) → j < length xs → p (get_or xs j d) ≡ true → position p xs ≡ Some j
    only j l t = position-some p xs d j l t (λ i h. false-from (p (get_or xs i d)) (λ q. omega (arith, one i j (omega arith) l q t)))

    -- a new element that passes takes the place of the one that did
    pub one_set : (j : ℕ) (v : X) → j < length xs → (p v ≡ true → (i : ℕ) → i < length xs → p (get_or xs i d) ≡ true → i ≡ j) → AtMostOne p (set xs j v) d
    one_set j v l alone a b al bl =
        let len = length-set xs j v in
        at_set (λ x. p x ≡ true → p (get_or (set xs j v) b d) ≡ true → a ≡ b) xs j v d a l
        (λ e t. at_set (λ x. p x ≡ true → a ≡ b) xs j v d b l (λ f _. omega arith) (λ _ u. omega (arith, alone t b (omega arith) u)))
        (λ _ t. at_set (λ x. p x ≡ true → a ≡ b) xs j v d b l (λ f u. omega (arith, alone u a (omega arith) t)) (λ _ u. one a b (omega arith) (omega arith) t u))

    -- where the one that passed is replaced by one that does not, none passes
    pub none-set : (j : ℕ) (v : X) → j < length xs → p (get_or xs j d) ≡ true → p v ≡ false → position p (set xs j v) ≡ None
    none-set j v l t f =
        let len = length-set xs j v in
        position-none p (set xs j v) d (λ i h. at_set (λ x. p x ≡ false) xs j v d i l (λ _. f) (λ n. false-from (p (get_or xs i d)) (λ q. n (one i j (omega arith) l q t))))

  -- a new element that passes where none did is the first, and the only one
  pub first-set : (p : X → Bool) (xs : List X) (d : X) (j : ℕ) (v : X) → j < length xs → ((i : ℕ) → i < length xs → (i ≡ j → ⊥) → p (get_or xs i d) ≡ false) → p v ≡ true → position p (set xs j v) ≡ Some j
  first-set p xs d j v l others t =
      let len = length-set xs j v in
      position-some p (set xs j v) d j (omega arith) (subst (λ (x : X). p x ≡ true) (sym (get_or-set_same xs j v d l)) t)
      (λ i h. let n : i ≡ j → ⊥ = λ e. omega arith in subst (λ (x : X). p x ≡ false) (sym (get_or-set_other xs j i v d n)) (others i (omega arith) n))

  -- what a write of one element does to a count
  pub count_set : (p : X → Bool) (xs : List X) (j : ℕ) (v d : X) (s t : Bool) → j < length xs → p (get_or xs j d) ≡ s → p v ≡ t → count_by p (set xs j v) + cond s 1 0 ≡ count_by p xs + cond t 1 0
  count_set p xs j v d s t l e f = subst (λ (u : Bool). count_by p (set xs j v) + cond u 1 0 ≡ count_by p xs + cond t 1 0) e (subst (λ (u : Bool). count_by p (set xs j v) + cond (p (get_or xs j d)) 1 0 ≡ count_by p xs + cond u 1 0) f (sum_by-set (λ x. cond (p x) 1 0) xs j v d l))
