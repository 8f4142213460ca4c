-- Where the first element that passes is.
use Rattle.std.proofs.Common.{◌≡◌, ℕ, zero, suc, ◌<◌, ◌≤◌, Bool, true, false, cond, ltb, List, [], ◌∷◌, length, get_or, set, take, is_some, Some, None, count_by, position, Option, sym, refl, ap, ◌∙◌, ⊎_elim, arith, length-set}
use Rattle.std.specs.List.{position_or_len}
use Rattle.std.specs.Option.{option_map}
use Rattle.std.proofs.lemmas.Bool.{both_ways, cases_lt, cond-true, cond-false, lt-ltb, le-ltb}
use Rattle.std.proofs.lemmas.List.Folds.{position_or_len-set}
use Rattle.std.proofs.lemmas.List.Quantifiers.{position-Some}
use Rattle.std.proofs.lemmas.List.Sums.{sum_by-cons, get_or-le-sum_by, position_or_len_is, fails_before_first}

module _ {X : Type 0} (p : X → Bool) where
  inside : (xs : List X) → position_or_len p xs < length xs → position p xs ≡ Some (position_or_len p xs)
  inside xs l = cond-true _ _ _ (lt-ltb (position_or_len p xs) (length xs) l)

  outside : (xs : List X) → length xs ≤ position_or_len p xs → position p xs ≡ None
  outside xs l = cond-false _ _ _ (le-ltb (position_or_len p xs) (length xs) l)

  pub position-none : (xs : List X) (d : X) → ((j : ℕ) → j < length xs → p (get_or xs j d) ≡ false) → position p xs ≡ None
  position-none xs d h =
      let at = position_or_len_is p xs (length xs) d (omega arith) h (λ l. absurd (omega arith)) in
      outside xs (omega (arith, at))

  pub position-some : (xs : List X) (d : X) (j : ℕ) → j < length xs → p (get_or xs j d) ≡ true → ((i : ℕ) → i < j → p (get_or xs i d) ≡ false) → position p xs ≡ Some j
  position-some xs d j l t h =
      let at = position_or_len_is p xs j d (omega arith) h (λ _. t) in
      inside xs (omega (arith, at)) ∙ ap Some at

  -- a write that leaves the test as it was leaves the index
  pub position-set : (xs : List X) (d : X) (j : ℕ) (v : X) → p (get_or xs j d) ≡ p v → position p (set xs j v) ≡ position p xs
  position-set xs d j v e =
      ap (λ (n : ℕ). cond (ltb n (length (set xs j v))) (Some n) None) (position_or_len-set p xs j v d (sym e))
      ∙ ap (λ (n : ℕ). cond (ltb (position_or_len p xs) n) (Some (position_or_len p xs)) None) (length-set xs j v)

  -- where none is found each fails
  pub missing : (xs : List X) (d : X) → position p xs ≡ None → (j : ℕ) → j < length xs → p (get_or xs j d) ≡ false
  missing xs d e j l =
      ⊎_elim
      (λ q. absurd (both_ways _ (ap is_some e) (ap is_some (inside xs q))))
      (λ q. fails_before_first p xs j d (omega arith))
      (cases_lt (position_or_len p xs) (length xs))

  -- what the index says of the list
  abbrev pub FirstAt : List X → X → Option ℕ → Type 0
  FirstAt xs d None = (j : ℕ) → j < length xs → p (get_or xs j d) ≡ false
  FirstAt xs d (Some j) = (j < length xs) × (p (get_or xs j d) ≡ true) × ((i : ℕ) → i < j → p (get_or xs i d) ≡ false)

  pub position-at : (xs : List X) (d : X) → FirstAt xs d (position p xs)
  position-at xs d = by (position p xs) refl
    where
      by : (o : Option ℕ) → position p xs ≡ o → FirstAt xs d o
      by None e = missing xs d e
      by (Some j) e = position-Some p xs j d e

  -- and what says so is the index
  pub position-is : (xs : List X) (d : X) (o : Option ℕ) → FirstAt xs d o → position p xs ≡ o
  position-is xs d None h = position-none xs d h
  position-is xs d (Some j) h = position-some xs d j h.0 h.1 h.2

  pub step : (x : X) (xs : List X) (d : X) (t : Bool) (o : Option ℕ) → p x ≡ t → FirstAt xs d o → FirstAt (x ∷ xs) d (cond t (Some 0) (option_map suc o))
  step x xs d true o e h = (omega arith, e, λ i l. absurd (omega arith))
  step x xs d false None e h = below
    where
      below : (j : ℕ) → j < length (x ∷ xs) → p (get_or (x ∷ xs) j d) ≡ false
      below zero l = e
      below (suc j) l = h j (omega arith)
  step x xs d false (Some j) e h = (omega arith, h.1, before)
    where
      before : (i : ℕ) → i < suc j → p (get_or (x ∷ xs) i d) ≡ false
      before zero l = e
      before (suc i) l = h.2 i (omega arith)

  -- the index in a list with one more element in front
  pub position-cons : (x : X) (xs : List X) → position p (x ∷ xs) ≡ cond (p x) (Some 0) (option_map suc (position p xs))
  position-cons x xs = position-is (x ∷ xs) x _ (step x xs x (p x) (position p xs) refl (position-at xs x))

  -- the first i elements fail if the first one does, and those past it
  past-first : (x : X) (xs : List X) (d : X) (i : ℕ) → i < length xs → position p (x ∷ take i xs) ≡ None → (p x ≡ false) × (position p (take i xs) ≡ None)
  past-first x xs d i l e =
      (missing (x ∷ take i xs) d e 0 (omega arith), position-none (take i xs) d (λ j h. missing (x ∷ take i xs) d e (suc j) (omega arith)))

  -- where the first i elements fail, the next one is the first that passes
  pub first-at : (xs : List X) (d : X) (i : ℕ) → i < length xs → position p (take i xs) ≡ None → p (get_or xs i d) ≡ true → position p xs ≡ Some i
  first-at [] d i l e t = absurd (omega arith)
  first-at (x ∷ xs) d zero l e t = position-cons x xs ∙ cond-true (p x) _ _ t
  first-at (x ∷ xs) d (suc i) l e t =
      let rest = past-first x xs d i (omega arith) e in
      position-cons x xs ∙ cond-false (p x) _ _ rest.0 ∙ ap (option_map suc) (first-at xs d i (omega arith) rest.1 t)

  -- or it fails too
  pub first_past : (xs : List X) (d : X) (i : ℕ) → i < length xs → position p (take i xs) ≡ None → p (get_or xs i d) ≡ false → position p (take (suc i) xs) ≡ None
  first_past [] d i l e t = absurd (omega arith)
  first_past (x ∷ xs) d zero l e t = position-none (x ∷ []) d each
    where
      each : (j : ℕ) → j < 1 → p (get_or (x ∷ []) j d) ≡ false
      each zero h = t
      each (suc j) h = absurd (omega arith)
  first_past (x ∷ xs) d (suc i) l e t =
      let rest = past-first x xs d i (omega arith) e in
      position-cons x (take (suc i) xs) ∙ cond-false (p x) _ _ rest.0 ∙ ap (option_map suc) (first_past xs d i (omega arith) rest.1 t)

  -- where none passes the count is 0
  pub count_none : (xs : List X) → position p xs ≡ None → count_by p xs ≡ 0
  count_none [] e = refl
  count_none (x ∷ xs) e =
      let n : ◌≡◌ {A = ℕ} (cond (p x) 1 0) 0 = cond-false (p x) 1 0 (missing (x ∷ xs) x e 0 (omega arith)) in
      omega (arith, sum_by-cons (λ y. cond (p y) 1 0) x xs, count_none xs (position-none xs x (λ j l. missing (x ∷ xs) x e (suc j) (omega arith))))

  -- where the count is 0 none passes
  pub none-count : (xs : List X) → count_by p xs ≡ 0 → position p xs ≡ None
  none-count [] e = refl
  none-count (x ∷ xs) e = position-none (x ∷ xs) x (λ j l. by (p (get_or (x ∷ xs) j x)) (omega (arith, e, get_or-le-sum_by (λ y. cond (p y) 1 0) (x ∷ xs) j x l)))
    where
      by : (t : Bool) → cond t 1 0 ≤ 0 → t ≡ false
      by true h = absurd (omega arith)
      by false h = refl

  -- where the count is not 0 one passes
  pub some-count : (xs : List X) → 0 < count_by p xs → is_some (position p xs) ≡ true
  some-count xs h = by (position p xs) refl
    where
      by : (o : Option ℕ) → position p xs ≡ o → is_some o ≡ true
      by None e = absurd (omega (arith, count_none xs e))
      by (Some j) e = refl

  -- where an element passes one is found
  pub some_at : (xs : List X) (d : X) (j : ℕ) → j < length xs → p (get_or xs j d) ≡ true → is_some (position p xs) ≡ true
  some_at xs d j l t = by (position p xs) refl
    where
      by : (o : Option ℕ) → position p xs ≡ o → is_some o ≡ true
      by None e = absurd (both_ways _ (missing xs d e j l) t)
      by (Some k) e = refl
