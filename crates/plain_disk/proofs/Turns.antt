-- What start and finish of a plain disk do to its condition and its meaning.
use Rattle.std.proofs.Common.{◌≡◌, ℕ, ◌+◌, ◌<◌, true, false, ltb, List, length, get_or, set, is_some, Some, None, sym, refl, ap, ◌∙◌, subst, subst₂, arith, length-set}
use Rattle.std.specs.Option.{option_map}
use Rattle.std.proofs.lemmas.Bool.{both_ways, eqb-true, eq-eqb, ne_eqb, lt-ltb}
use Rattle.std.proofs.lemmas.List.Quantifiers.{position-Some}
use Rattle.disk.specs.Rules.{StartEffect, WriteEffect}
use Rattle.rows.specs.Blocks.{Has, Whole, block, put_block}
use Rattle.rows.proofs.Firsts.{position-set, missing}
use Rattle.rows.proofs.Options.{mapped-same, open-when}
use Rattle.rows.proofs.Puts.{length-block, length-put, block-put-same, block-put-other}
use Rattle.rows.proofs.Sets.{false-from, at_set, one_set, none-set, first-set}
use Rattle.plain_disk.specs.declared.places.Places.{Places}
use Rattle.plain_disk.specs.declared.places.Slot.{Slot}
use Rattle.plain_disk.specs.declared.places.Slot.TheVariants.{Free, Holding, Absent}
use Rattle.plain_disk.specs.Slots.{same_slot, present, place, flights}
use Rattle.plain_disk.specs.Places.{put_slot}
use Rattle.plain_disk.specs.Plain.{plain, Sound, PlainStart, PlainFinish}
use Rattle.plain_disk.specs.Laws.{same-is, there-at, held_below, place-fits, roomy}

-- a slot that holds no other block
free_other : (b : ℕ) (s : Slot) → same_slot Free s ≡ true → same_slot (Holding b) s ≡ false
free_other b s t = ap (same_slot (Holding b)) (same-is Free s t)

same_block : (a b : ℕ) (s : Slot) → same_slot (Holding a) s ≡ true → same_slot (Holding b) s ≡ true → a ≡ b
same_block a b s t u = eqb-true a b (ap (same_slot (Holding a)) (sym (same-is (Holding b) s u)) ∙ t)

module _ (bytes : List ℕ) (p : Places) (s : Sound bytes p) (j : ℕ) (here : j < p.count) where
  within : j < length p.slots
  within = omega (arith, s.most, s.eight)

  -- a place that is there may take a slot whose block, if any, is below n and nowhere else
  sound-put : (new : List ℕ) (v : Slot) → length new ≡ length bytes → present v ≡ true
      → ((b : ℕ) → same_slot (Holding b) v ≡ true → b < p.blocks)
      → ((b : ℕ) → same_slot (Holding b) v ≡ true → (i : ℕ) → i < length p.slots → same_slot (Holding b) (get_or p.slots i Free) ≡ true → i ≡ j)
      → Sound new (put_slot j v p)
  sound-put new v len there below alone = record {
    few = s.few;
    some = s.some;
    most = s.most;
    eight = length-set p.slots j v ∙ s.eight;
    there = λ i l. at_set (λ x. present x ≡ ltb i p.count) p.slots j v Free i within (λ e. there ∙ sym (lt-ltb i p.count (omega arith))) (λ _. s.there i l);
    below = λ i b l. at_set (λ x. same_slot (Holding b) x ≡ true → b < p.blocks) p.slots j v Free i within (λ _. below b) (λ _. s.below i b l);
    apart = λ b. one_set (same_slot (Holding b)) p.slots Free (s.apart b) j v within (alone b);
    long = λ h. len ∙ s.long h;
  }

-- the image in flight at a stays where the new slot holds a just where the old one did, and the block at its place stays
air-same : (bytes new : List ℕ) (p : Places) (j : ℕ) (v : Slot) (a : ℕ) → same_slot (Holding a) (get_or p.slots j Free) ≡ same_slot (Holding a) v → ((i : ℕ) → place (Holding a) p.slots ≡ Some i → block (p.blocks + i) new ≡ block (p.blocks + i) bytes) → (plain new (put_slot j v p)).air a ≡ (plain bytes p).air a
air-same bytes new p j v a e h =
    ap (option_map (λ i. block (p.blocks + i) new)) (position-set (same_slot (Holding a)) p.slots Free j v e)
    ∙ mapped-same (λ i. block (p.blocks + i) new) (λ i. block (p.blocks + i) bytes) (place (Holding a) p.slots) h

module _ (bytes : List ℕ) (p : Places) (s : Sound bytes p) (b j : ℕ) (image : List ℕ) (lowest : place Free p.slots ≡ Some j) (idle : place (Holding b) p.slots ≡ None) (below : b < p.blocks) (whole : Whole image) where
  free : same_slot Free (get_or p.slots j Free) ≡ true
  free = (position-Some (same_slot Free) p.slots j Free lowest).1

  here : j < p.count
  here = there-at bytes p s Free j refl lowest

  fits : Has (p.blocks + j) bytes
  fits = place-fits bytes p s b j below here

  start-sound : Sound (put_block (p.blocks + j) image bytes) (put_slot j (Holding b) p)
  start-sound = sound-put bytes p s j here (put_block (p.blocks + j) image bytes) (Holding b) (length-put (p.blocks + j) image bytes fits whole) refl
      (λ a t. omega (arith, eqb-true a b t))
      (λ a t i l u. absurd (both_ways _ (missing (same_slot (Holding b)) p.slots Free idle i l) (subst (λ (x : ℕ). same_slot (Holding x) (get_or p.slots i Free) ≡ true) (eqb-true a b t) u)))

  -- the block is now found at the place that it took
  taken : place (Holding b) (set p.slots j (Holding b)) ≡ Some j
  taken = first-set (same_slot (Holding b)) p.slots Free j (Holding b) (position-Some (same_slot Free) p.slots j Free lowest).0 (λ i h _. missing (same_slot (Holding b)) p.slots Free idle i h) (eq-eqb b b refl)

  start-effect : StartEffect (plain bytes p) b image (plain (put_block (p.blocks + j) image bytes) (put_slot j (Holding b) p))
  start-effect = record {
    blocks = refl;
    medium = λ a l. block-put-other (p.blocks + j) image bytes fits whole a (λ e. omega arith);
    here = ap (option_map (λ i. block (p.blocks + i) (put_block (p.blocks + j) image bytes))) taken ∙ ap Some (block-put-same (p.blocks + j) image bytes fits whole);
    elsewhere = λ a d. air-same bytes (put_block (p.blocks + j) image bytes) p j (Holding b) a (free_other a (get_or p.slots j Free) free ∙ sym (ne_eqb a b d))
        (λ i e. block-put-other (p.blocks + j) image bytes fits whole (p.blocks + i) (λ q.
        both_ways _ (free_other a (get_or p.slots j Free) free) (subst (λ (m : ℕ). same_slot (Holding a) (get_or p.slots m Free) ≡ true) (omega (arith, q)) (position-Some (same_slot (Holding a)) p.slots i Free e).1)));
    spent = refl;
  }

module _ (bytes : List ℕ) (p : Places) (s : Sound bytes p) (b j : ℕ) (held : place (Holding b) p.slots ≡ Some j) where
  seated : j < p.count
  seated = there-at bytes p s (Holding b) j refl held

  below : b < p.blocks
  below = held_below bytes p s b j held

  taking : same_slot (Holding b) (get_or p.slots j Free) ≡ true
  taking = (position-Some (same_slot (Holding b)) p.slots j Free held).1

  pub source_fits : Has (p.blocks + j) bytes
  source_fits = place-fits bytes p s b j below seated

  pub target_fits : Has b bytes
  target_fits = omega (arith, below, source_fits)

  whole : Whole (block (p.blocks + j) bytes)
  whole = length-block (p.blocks + j) bytes source_fits

  finish-sound : Sound (put_block b (block (p.blocks + j) bytes) bytes) (put_slot j Free p)
  finish-sound = sound-put bytes p s j seated (put_block b (block (p.blocks + j) bytes) bytes) Free (length-put b (block (p.blocks + j) bytes) bytes target_fits whole) refl
      (λ a t. absurd (both_ways false refl t))
      (λ a t i l u. absurd (both_ways false refl t))

  write-effect : WriteEffect (plain bytes p) b (plain (put_block b (block (p.blocks + j) bytes) bytes) (put_slot j Free p))
  write-effect = record {
    blocks = refl;
    here = ap (option_map (λ i. block (p.blocks + i) bytes)) held ∙ ap Some (sym (block-put-same b (block (p.blocks + j) bytes) bytes target_fits whole));
    medium = λ a l d. block-put-other b (block (p.blocks + j) bytes) bytes target_fits whole a d;
    landed = ap (option_map (λ i. block (p.blocks + i) (put_block b (block (p.blocks + j) bytes) bytes))) (none-set (same_slot (Holding b)) p.slots Free (s.apart b) j Free (position-Some (same_slot (Holding b)) p.slots j Free held).0 taking refl);
    elsewhere = λ a d. air-same bytes (put_block b (block (p.blocks + j) bytes) bytes) p j Free a (false-from (same_slot (Holding a) (get_or p.slots j Free)) (λ t. d (same_block a b (get_or p.slots j Free) t taking)))
        (λ i e. block-put-other b (block (p.blocks + j) bytes) bytes target_fits whole (p.blocks + i) (λ q. omega (arith, below)));
    spent = refl;
  }

-- a block that is not in flight is open just while a place is free
pub open-while : (bytes : List ℕ) (p : Places) (b : ℕ) → Sound bytes p → place (Holding b) p.slots ≡ None → b < p.blocks → (plain bytes p).opens b ≡ is_some (place Free p.slots)
open-while bytes p b s idle below =
    open-when (ltb b p.blocks) (ltb (flights p.slots) p.count) (place (Holding b) p.slots) (lt-ltb b p.blocks below) idle ∙ sym (roomy bytes p s)

-- what stands at the place that was found, and at those below it
pub found-slot : (w : Slot) (ss : List Slot) (j : ℕ) → place w ss ≡ Some j → get_or ss j Absent ≡ w
found-slot w ss j e = let f = position-Some (same_slot w) ss j Absent e in same-is w (get_or ss j Absent) f.1

pub lower-slots : (w : Slot) (ss : List Slot) (j : ℕ) → same_slot w w ≡ true → place w ss ≡ Some j → (i : ℕ) → i < j → get_or ss i Absent ≡ w → ⊥
lower-slots w ss j t e i l q = both_ways _ ((position-Some (same_slot w) ss j Absent e).2 i l) (ap (same_slot w) q ∙ t)

-- what is to be shown of a start: the condition after it, that the block was open, the effect that every disk's start has, and that of a plain disk's
pub record Started (old : List ℕ) (p : Places) (b : ℕ) (image new : List ℕ) (q : Places) : Type 0 where
  pub keeps : Sound new q
  pub opens : (plain old p).opens b ≡ true
  pub effect : StartEffect (plain old p) b image (plain new q)
  pub starts : PlainStart old p b image new q

pub started : (old : List ℕ) (p : Places) (s : Sound old p) (b j : ℕ) (image new : List ℕ) (q : Places) → place (Holding b) p.slots ≡ None → b < p.blocks → Whole image → place Free p.slots ≡ Some j
    → new ≡ put_block (p.blocks + j) image old → q ≡ put_slot j (Holding b) p → Started old p b image new q
started old p s b j image new q idle below whole lowest bytes places = record {
  keeps = subst₂ Sound (sym bytes) (sym places) (start-sound old p s b j image lowest idle below whole);
  opens = open-while old p b s idle below ∙ ap is_some lowest;
  effect = subst₂ (λ (xs : List ℕ) (x : Places). StartEffect (plain old p) b image (plain xs x)) (sym bytes) (sym places) (start-effect old p s b j image lowest idle below whole);
  starts = record { at = j; found = lowest; free = found-slot Free p.slots j lowest; lowest = lower-slots Free p.slots j refl lowest; bytes = bytes; places = places };
}

-- the same of a finish
pub record Finished (old : List ℕ) (p : Places) (b : ℕ) (new : List ℕ) (q : Places) : Type 0 where
  pub keeps : Sound new q
  pub effect : WriteEffect (plain old p) b (plain new q)
  pub ends : PlainFinish old p b new q

pub finished : (old : List ℕ) (p : Places) (s : Sound old p) (b j : ℕ) (new : List ℕ) (q : Places) → place (Holding b) p.slots ≡ Some j
    → new ≡ put_block b (block (p.blocks + j) old) old → q ≡ put_slot j Free p → Finished old p b new q
finished old p s b j new q held bytes places = record {
  keeps = subst₂ Sound (sym bytes) (sym places) (finish-sound old p s b j held);
  effect = subst₂ (λ (xs : List ℕ) (x : Places). WriteEffect (plain old p) b (plain xs x)) (sym bytes) (sym places) (write-effect old p s b j held);
  ends = record { at = j; found = held; held = found-slot (Holding b) p.slots j held; bytes = bytes; places = places };
}
