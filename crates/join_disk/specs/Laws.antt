-- Why a join has the law of its sides, and the laws of every disk where its sides have them.
use Rattle.std.specs.Prelude.{◌≡◌, ℕ, ◌+◌, ◌-◌, ◌<◌, ◌≤◌, true, false, [], length, is_some, Some, None, refl}
use Rattle.std.proofs.Common.{sym, ap, ◌∙◌, subst, ⊎_elim, arith}
use Rattle.std.proofs.lemmas.Bool.{cases_lt, cond-false, le-ltb, or_parts}
use Rattle.std.proofs.lemmas.Bool.Decides.{nat_tests}
use Rattle.disk.specs.Meaning.{Meaning, Lawful, Still, flies}
use Rattle.join_disk.specs.Join.{width, at_side, joined, BlockOf, Sides}

-- a join has all blocks of its sides where these are few enough
width_few : (n m : ℕ) → n + m < 65536 → width n m ≡ n + m
width_few n m few = grind (arith, nat_tests)

module _ {X : Type 0} (none : X) (n m : ℕ) (f g : ℕ → X) where
  -- at a block of the left side, at one of the right side, past both
  at_left : n + m < 65536 → (b : ℕ) → b < n → at_side none n m f g b ≡ f b
  at_left few b q = grind (arith, nat_tests)

  at_right : n + m < 65536 → (b : ℕ) → b < m → at_side none n m f g (n + b) ≡ g b
  at_right few b q = grind (arith, nat_tests)

  at_none : (b : ℕ) → width n m ≤ b → at_side none n m f g b ≡ none
  at_none b q = grind (arith, nat_tests)

-- what is computed from the sides has the law of a join
pub sides-joined : (l r : Meaning) → Sides l r (joined l r)
sides-joined l r =
    let n = l.blocks in
    let m = r.blocks in
    record {
      fits = width_few n m;
      left = λ few b q. record {
        medium = at_left [] n m l.medium r.medium few b q;
        air = at_left None n m l.air r.air few b q;
        opens = at_left false n m l.opens r.opens few b q;
      };
      right = λ few b q. record {
        medium = at_right [] n m l.medium r.medium few b q;
        air = at_right None n m l.air r.air few b q;
        opens = at_right false n m l.opens r.opens few b q;
      };
      overfull = λ many. cond-false _ _ _ (le-ltb (n + m) 65536 many);
      beyond = λ b q. (at_none None n m l.air r.air b q, at_none false n m l.opens r.opens b q);
      spent = refl;
    }

module _ (l r m : Meaning) (s : Sides l r m) where
  -- a join that has a block has all blocks of its sides
  few-by : (b : ℕ) → b < m.blocks → l.blocks + r.blocks < 65536
  few-by b h = grind arith

  -- what holds of the blocks of each side holds of those of the join
  pub on_both : (P : ℕ → Type 0) → ((b : ℕ) → b < l.blocks → BlockOf l b m b → P b) → ((b : ℕ) → b < r.blocks → BlockOf r b m (l.blocks + b) → P (l.blocks + b)) → (b : ℕ) → b < m.blocks → P b
  on_both P left right b h =
      let few = few-by b h in
      ⊎_elim
      (λ q. left b q (s.left few b q))
      (λ q.
      let a = b - l.blocks in
      let below : a < r.blocks = omega (arith, s.fits few) in
      let e : l.blocks + a ≡ b = omega arith in
      subst P e (right a below (s.right few a below)))
      (cases_lt b l.blocks)

  -- where a join has a block and nothing is in flight, nothing is on either side
  pub still-each : (a : ℕ) → a < m.blocks → Still m → Still l × Still r
  still-each a h still =
      let few = few-by a h in (
        (λ b q. ap is_some (sym (s.left few b q).air) ∙ still b (omega (arith, s.fits few))),
        (λ b q. ap is_some (sym (s.right few b q).air) ∙ still (l.blocks + b) (omega (arith, s.fits few))),
      )

  -- what is in flight, and what is open, is below the number of blocks
  flying_below : (b : ℕ) → flies m b ≡ true → b < m.blocks
  flying_below b e = let beyond = s.beyond b in grind arith

  open_below : (b : ℕ) → m.opens b ≡ true → b < m.blocks
  open_below b e = let beyond = s.beyond b in grind arith

  -- each law holds of a block of the join as it does on its side
  lawful-sides : Lawful l → Lawful r → Lawful m
  lawful-sides left right = record {
    few_blocks = grind arith;
    whole_block = on_both (λ b. length (m.medium b) ≡ 256) (λ b q o. ap length o.medium ∙ left.whole_block b q) (λ b q o. ap length o.medium ∙ right.whole_block b q);
    whole_image = λ b image e. on_both (λ a. m.air a ≡ Some image → length image ≡ 256) (λ a q o f. left.whole_image a image (sym o.air ∙ f)) (λ a q o f. right.whole_image a image (sym o.air ∙ f)) b (flying_below b (ap is_some e)) e;
    flying_below = flying_below;
    open_below = open_below;
    open_grounded = λ b e. on_both (λ a. m.opens a ≡ true → flies m a ≡ false) (λ a q o f. ap is_some o.air ∙ left.open_grounded a (sym o.opens ∙ f)) (λ a q o f. ap is_some o.air ∙ right.open_grounded a (sym o.opens ∙ f)) b (open_below b e) e;
    idle_open = λ still unspent b h.
        let idle = still-each b h still in
        let whole = or_parts _ _ (sym s.spent ∙ unspent) in
        on_both (λ a. m.opens a ≡ true) (λ a q o. o.opens ∙ left.idle_open idle.0 whole.0 a q) (λ a q o. o.opens ∙ right.idle_open idle.1 whole.1 a q) b h;
  }

-- a join has the laws of every disk
pub lawful-joined : (l r : Meaning) → Lawful l → Lawful r → Lawful (joined l r)
lawful-joined l r = lawful-sides l r (joined l r) (sides-joined l r)
