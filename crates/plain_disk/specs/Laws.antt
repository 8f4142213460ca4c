-- Why the laws of every disk hold of a plain disk under its condition.
use Rattle.std.specs.Prelude.{◌≡◌, ℕ, zero, suc, ◌+◌, ◌<◌, ◌≤◌, true, false, cond, ltb, List, [], ◌∷◌, length, is_some, Some, None, Option, position, nat_lt, slice_index_or, refl}
use Rattle.std.proofs.Common.{sym, ap, ◌∙◌, ⊎_elim, arith, rules}
use Rattle.std.specs.Option.{option_map}
use Rattle.std.proofs.lemmas.Bool.{both_ways, cond-false, eqb-true, eq-eqb, cases_lt, lt-ltb, le-ltb, ltb-true, and_parts, and_from, not-true, not_from_false}
use Rattle.std.proofs.lemmas.List.Sums.{sum_by-cons}
use Rattle.std.proofs.lemmas.List.Quantifiers.{position-Some}
use Rattle.disk.specs.Meaning.{Lawful, Still, flies}
use Rattle.rows.specs.Blocks.{Has, Whole, block}
use Rattle.rows.proofs.Firsts.{position-none, position-cons, missing, count_none, none-count}
use Rattle.rows.proofs.Options.{some_mapped, none_from, some-from, mapped_at}
use Rattle.rows.proofs.Puts.{length-block}
use Rattle.plain_disk.specs.declared.places.Places.{Places}
use Rattle.plain_disk.specs.declared.places.Slot.{Slot}
use Rattle.plain_disk.specs.declared.places.Slot.TheVariants.{Free, Holding, Absent}
use Rattle.plain_disk.specs.Slots.{same_slot, busy, present, place, flights}
use Rattle.plain_disk.specs.Plain.{plain, Sound}

ltb-suc : (a b : ℕ) → nat_lt (suc a) (suc b) ≡ nat_lt a b
ltb-suc a b = ⊎_elim (λ l. lt-ltb (suc a) (suc b) (omega arith) ∙ sym (lt-ltb a b l)) (λ l. le-ltb (suc a) (suc b) (omega arith) ∙ sym (le-ltb a b l)) (cases_lt a b)

-- two slots that are the same are equal
pub same-is : (v s : Slot) → same_slot v s ≡ true → s ≡ v
same-is Free Free e = refl
same-is (Holding a) (Holding b) e = ap Holding (sym (eqb-true a b e))
same-is Absent Absent e = refl
same-is _ _ e = search rules

idle-other : (b : ℕ) (s : Slot) → busy s ≡ false → same_slot (Holding b) s ≡ false
idle-other b Free e = refl
idle-other b (Holding a) e = absurd (both_ways true e refl)
idle-other b Absent e = refl

-- a slot that is not free in front changes not whether one is free
next : (x : Slot) (ss : List Slot) → same_slot Free x ≡ false → is_some (place Free (x ∷ ss)) ≡ is_some (place Free ss)
next x ss e = ap is_some (position-cons (same_slot Free) x ss ∙ cond-false _ _ _ e) ∙ some_mapped suc (place Free ss)

-- where k places are there, one is free just while fewer than k are busy
pub free-place : (k : ℕ) (ss : List Slot) → k ≤ length ss → ((j : ℕ) → j < length ss → present (slice_index_or ss j Free) ≡ nat_lt j k) → (is_some (place Free ss) ≡ nat_lt (flights ss) k) × (flights ss ≤ k)
free-place k [] l h = (sym (le-ltb 0 k (omega arith)), omega arith)
free-place zero (Free ∷ ss) l h = absurd (both_ways true (h 0 (omega arith)) refl)
free-place zero (Holding b ∷ ss) l h = absurd (both_ways true (h 0 (omega arith)) refl)
free-place zero (Absent ∷ ss) l h =
    let r = free-place zero ss (omega arith) (λ j q. h (suc j) (omega arith) ∙ le-ltb (suc j) 0 (omega arith) ∙ sym (le-ltb j 0 (omega arith))) in
    let e = sum_by-cons (λ s. cond (busy s) 1 0) Absent ss in
    (next Absent ss refl ∙ r.0 ∙ ap (λ (n : ℕ). ltb n 0) (omega (arith, e)), omega (arith, e, r.1))
free-place (suc k) (Free ∷ ss) l h =
    let r = free-place k ss (omega arith) (λ j q. h (suc j) (omega arith) ∙ ltb-suc j k) in
    let e = sum_by-cons (λ s. cond (busy s) 1 0) Free ss in
    (ap is_some (position-cons (same_slot Free) Free ss) ∙ sym (lt-ltb (flights (Free ∷ ss)) (suc k) (omega (arith, e, r.1))), omega (arith, e, r.1))
free-place (suc k) (Holding b ∷ ss) l h =
    let r = free-place k ss (omega arith) (λ j q. h (suc j) (omega arith) ∙ ltb-suc j k) in
    let e = sum_by-cons (λ s. cond (busy s) 1 0) (Holding b) ss in
    let f : flights (Holding b ∷ ss) ≡ suc (flights ss) = omega (arith, e) in
    (next (Holding b) ss refl ∙ r.0 ∙ sym (ap (λ (n : ℕ). ltb n (suc k)) f ∙ ltb-suc (flights ss) k), omega (arith, e, r.1))
free-place (suc k) (Absent ∷ ss) l h = absurd (both_ways (nat_lt 0 (suc k)) (sym (h 0 (omega arith))) (lt-ltb 0 (suc k) (omega arith)))

-- nothing is in flight where no place is busy, found or counted
pub none-place : (ss : List Slot) → position busy ss ≡ None → (b : ℕ) → place (Holding b) ss ≡ None
none-place ss e b = position-none (same_slot (Holding b)) ss Free (λ j l. idle-other b (slice_index_or ss j Free) (missing busy ss Free e j l))

pub idle-place : (ss : List Slot) → flights ss ≡ 0 → (b : ℕ) → place (Holding b) ss ≡ None
idle-place ss e = none-place ss (none-count busy ss e)

module _ (bytes : List ℕ) (p : Places) (s : Sound bytes p) where
  pub flies-plain : (b : ℕ) → flies (plain bytes p) b ≡ is_some (place (Holding b) p.slots)
  flies-plain b = some_mapped (λ j. block (p.blocks + j) bytes) (place (Holding b) p.slots)

  -- a place that was looked up is one of those that are there
  pub there-at : (w : Slot) (j : ℕ) → present w ≡ true → place w p.slots ≡ Some j → j < p.count
  there-at w j h e =
      let f = position-Some (same_slot w) p.slots j Free e in
      ltb-true j p.count (sym (s.there j (omega (arith, f.0, s.eight))) ∙ ap present (same-is w (slice_index_or p.slots j Free) f.1) ∙ h)

  -- a block in flight is below the number of blocks
  pub held_below : (b j : ℕ) → place (Holding b) p.slots ≡ Some j → b < p.blocks
  held_below b j e = let f = position-Some (same_slot (Holding b)) p.slots j Free e in s.below j b (omega (arith, f.0, s.eight)) f.1

  -- where there is a block, each place that is there lies within the bytes
  pub place-fits : (b j : ℕ) → b < p.blocks → j < p.count → Has (p.blocks + j) bytes
  place-fits b j l h = omega (arith, s.long (omega arith))

  -- a free place is there just while fewer than k are in flight
  pub roomy : is_some (place Free p.slots) ≡ nat_lt (flights p.slots) p.count
  roomy = (free-place p.count p.slots (omega (arith, s.most, s.eight)) (λ j l. s.there j (omega (arith, s.eight)))).0

  -- where nothing is in flight no place is busy
  pub still-none : Still (plain bytes p) → position busy p.slots ≡ None
  still-none still = position-none busy p.slots Free (λ j l. clear j l (slice_index_or p.slots j Free) refl)
    where
      clear : (j : ℕ) → j < length p.slots → (x : Slot) → slice_index_or p.slots j Free ≡ x → busy x ≡ false
      clear j l Free e = refl
      clear j l (Holding a) e =
          let h : same_slot (Holding a) (slice_index_or p.slots j Free) ≡ true = ap (same_slot (Holding a)) e ∙ eq-eqb a a refl in
          let none = none_from _ (sym (flies-plain a) ∙ still a (s.below j a (omega (arith, s.eight)) h)) in
          absurd (both_ways _ (missing (same_slot (Holding a)) p.slots Free none j l) h)
      clear j l Absent e = refl

  pub still-idle : Still (plain bytes p) → flights p.slots ≡ 0
  still-idle still = count_none busy p.slots (still-none still)

  flying_below : (b : ℕ) (o : Option ℕ) → place (Holding b) p.slots ≡ o → is_some o ≡ true → b < p.blocks
  flying_below b o e t = some-from (b < p.blocks) o t (λ j q. held_below b j (e ∙ q))

  whole_image : (b : ℕ) (image : List ℕ) (o : Option ℕ) → place (Holding b) p.slots ≡ o → option_map (λ j. block (p.blocks + j) bytes) o ≡ Some image → length image ≡ 256
  whole_image b image o e q = mapped_at (Whole image) (λ j. block (p.blocks + j) bytes) o image q
      (λ j r w. ap length (sym w) ∙ length-block (p.blocks + j) bytes (place-fits b j (held_below b j (e ∙ r)) (there-at (Holding b) j refl (e ∙ r))))

  pub lawful-plain : Lawful (plain bytes p)
  lawful-plain = record {
    few_blocks = s.few;
    whole_block = λ b l. length-block b bytes (omega (arith, s.long (omega arith), s.some));
    whole_image = λ b image e. whole_image b image (place (Holding b) p.slots) refl e;
    flying_below = λ b e. flying_below b (place (Holding b) p.slots) refl (sym (flies-plain b) ∙ e);
    open_below = λ b e. ltb-true b p.blocks (and_parts _ _ e).0;
    open_grounded = λ b e. flies-plain b ∙ not-true _ (and_parts _ _ (and_parts _ _ e).1).0;
    idle_open = λ still _ b l. and_from _ _ (lt-ltb b p.blocks l) (and_from _ _ (not_from_false _ (sym (flies-plain b) ∙ still b l)) (lt-ltb _ _ (omega (arith, still-idle still, s.some))));
  }
