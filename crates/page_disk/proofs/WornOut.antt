-- One block in two pages of life 1, write by write.
use Rattle.std.proofs.Common.{◌≡◌, ℕ, zero, suc, ◌<◌, ◌≤◌, true, false, List, ◌∷◌, length, get_or, replicate, is_some, None, Ok, Err, Result, sym, refl, ap, ◌∙◌, subst, ⊎_elim, arith, get_or-set_other, get_or-set_same}
use Rattle.std.proofs.lemmas.List.{get_or-replicate, length-replicate, get_or_past}
use Rattle.std.proofs.lemmas.Bool.{both_ways, cases_lt}
use Rattle.refusal.specs.declared.Refusal.{Refusal}
use Rattle.refusal.specs.declared.Refusal.TheVariants.{UnfitBytes, NoSuchBlock, BadByteRange, TooManyNames, UnknownPatch, UnknownGroup, BadScriptLength, MisplacedWord, ShortReportList, GroupNotLower, ShortText, SetNotClosed, PatchTableFull, GroupTableFull, WrongGroupState, GroupNamesFull, BlockInFlight, BlockNotInFlight, NothingToSend, BlockNotOpen, NumbersUsedUp, UnfitBuffer, TooManyHeld}
use Rattle.disk.specs.Meaning.{Meaning}
use Rattle.disk.specs.Rules.{Reasons, RefusedFor, StartRule}
use Rattle.disk.specs.declared.Outcome.{Outcome}
use Rattle.disk.specs.declared.Outcome.TheVariants.{Written, Failed}
use Rattle.rows.specs.Blocks.{Whole, block, put_block}
use Rattle.rows.proofs.Firsts.{position-none}
use Rattle.rows.proofs.Options.{some_mapped, open-when}
use Rattle.rows.proofs.Sets.{at_set}
use Rattle.page_disk.specs.declared.pages.Page.{Page}
use Rattle.page_disk.specs.declared.pages.Page.TheVariants.{Retired, Spare, Medium, Image}
use Rattle.page_disk.specs.declared.pages.Pages.{Pages}
use Rattle.page_disk.specs.Pages.{same_page, live, place, put_page}
use Rattle.page_disk.specs.Wear.{PageFinish, EndsIn, landed}
use Rattle.page_disk.specs.Paged.{paged}
use Rattle.page_disk.specs.Runs.{WriteOf, WornOut, CanWearOut}
use Rattle.page_disk.specs.Laws.{in_table}
use Rattle.page_disk.proofs.Turns.{apart}

-- two pages and their lives
abbrev two : Page → Page → List Page
two p q = p ∷ q ∷ replicate 78 Retired

abbrev table : Page → Page → ℕ → ℕ → Pages
table p q a c = record { blocks = 1; pages = two p q; lives = a ∷ c ∷ replicate 78 0 }

abbrev zeros : List ℕ
zeros = replicate 256 0

-- every other page is retired
retired : (i : ℕ) → get_or (replicate 78 Retired) i Retired ≡ Retired
retired i = ⊎_elim (get_or-replicate 78 i Retired Retired) (λ l. get_or_past (replicate 78 Retired) i Retired (omega (arith, length-replicate 78 Retired))) (cases_lt i 78)

beyond : (i : ℕ) → live (get_or (replicate 78 Retired) i Retired) ≡ false
beyond i = ap live (retired i)

first_of : (p q w : Page) (i : ℕ) → live w ≡ true → (q ≡ w → ⊥) → get_or (two p q) i Retired ≡ w → i ≡ 0
first_of p q w zero l d e = refl
first_of p q w (suc zero) l d e = absurd (d e)
first_of p q w (suc (suc i)) l d e = absurd (both_ways _ (beyond i) (ap live e ∙ l))

second-of : (p q w : Page) (i : ℕ) → live w ≡ true → (p ≡ w → ⊥) → get_or (two p q) i Retired ≡ w → i ≡ 1
second-of p q w zero l d e = absurd (d e)
second-of p q w (suc zero) l d e = refl
second-of p q w (suc (suc i)) l d e = absurd (both_ways _ (beyond i) (ap live e ∙ l))

-- pages that are for different things differ
differ : (x y : Page) → same_page x y ≡ false → same_page y y ≡ true → x ≡ y → ⊥
differ x y f t e = both_ways _ f (ap (λ (z : Page). same_page z y) e ∙ t)

-- page j is the only spare one, page o the only one with the block, and nothing is in flight
record Ready (t : Pages) (j o : ℕ) : Type 0 where
  spare : get_or t.pages j Retired ≡ Spare
  one-spare : (k : ℕ) → get_or t.pages k Retired ≡ Spare → k ≡ j
  home : get_or t.pages o Retired ≡ Medium 0
  one_home : (k : ℕ) → get_or t.pages k Retired ≡ Medium 0 → k ≡ o
  idle : (k : ℕ) → get_or t.pages k Retired ≡ Image 0 → ⊥

ready-second : (a c : ℕ) → Ready (table (Medium 0) Spare a c) 1 0
ready-second a c = record {
  spare = refl;
  one-spare = λ k. second-of (Medium 0) Spare Spare k refl (differ (Medium 0) Spare refl refl);
  home = refl;
  one_home = λ k. first_of (Medium 0) Spare (Medium 0) k refl (differ Spare (Medium 0) refl refl);
  idle = λ k e. absurd (omega (arith, first_of (Medium 0) Spare (Image 0) k refl (differ Spare (Image 0) refl refl) e, second-of (Medium 0) Spare (Image 0) k refl (differ (Medium 0) (Image 0) refl refl) e));
}

ready-first : (a c : ℕ) → Ready (table Spare (Medium 0) a c) 0 1
ready-first a c = record {
  spare = refl;
  one-spare = λ k. first_of Spare (Medium 0) Spare k refl (differ (Medium 0) Spare refl refl);
  home = refl;
  one_home = λ k. second-of Spare (Medium 0) (Medium 0) k refl (differ Spare (Medium 0) refl refl);
  idle = λ k e. absurd (omega (arith, first_of Spare (Medium 0) (Image 0) k refl (differ (Medium 0) (Image 0) refl refl) e, second-of Spare (Medium 0) (Image 0) k refl (differ Spare (Image 0) refl refl) e));
}

-- the pages while the write is in flight
abbrev during : ℕ → Pages → Pages
during j t = put_page j (Image 0) t

module _ (t : Pages) (j o : ℕ) (r : Ready t j o) where
  inside : j < length t.pages
  inside = in_table t.pages j Spare r.spare refl

  -- every write goes from page o to page j
  goes : (x y : List ℕ) (how : Outcome) (u : Pages) → WriteOf x t 0 how y u → EndsIn j o (during j t) 0 how u
  goes x y how u w =
      let s = w.start in
      let m : w.meanwhile ≡ during j t = s.pages ∙ ap (λ (k : ℕ). during k t) (r.one-spare s.at s.spare) in
      let f : PageFinish w.air (during j t) 0 how y u = subst (λ (v : Pages). PageFinish w.air v 0 how y u) m w.finish in
      let i : f.at ≡ j = at_set (λ x. x ≡ Image 0 → f.at ≡ j) t.pages j (Image 0) Retired f.at inside (λ e _. e) (λ _ q. absurd (r.idle f.at q)) f.image in
      let k : f.home ≡ o = at_set (λ x. x ≡ Medium 0 → f.home ≡ o) t.pages j (Image 0) Retired f.home inside (λ _ q. absurd (differ (Image 0) (Medium 0) refl refl q)) (λ _. r.one_home f.home) f.medium in
      subst (λ (n : ℕ). EndsIn j n (during j t) 0 how u) k (subst (λ (n : ℕ). EndsIn n f.home (during j t) 0 how u) i f.end)

  -- and there is one, however it ends
  there : (x : List ℕ) (how : Outcome) (u : Pages) → EndsIn j o (during j t) 0 how u → WriteOf x t 0 how (put_block j zeros x) u
  there x how u e = record {
    image = zeros;
    whole = length-replicate {A = ℕ} 256 0;
    air = put_block j zeros x;
    meanwhile = during j t;
    start = record {
      at = j;
      spare = r.spare;
      most = λ k q. subst (λ (n : ℕ). get_or t.lives n 0 ≤ get_or t.lives j 0) (sym (r.one-spare k q)) (omega arith);
      lowest = λ k l q. absurd (omega (arith, r.one-spare k q));
      bytes = refl;
      pages = refl;
    };
    finish = record {
      at = j;
      image = get_or-set_same t.pages j (Image 0) Retired inside;
      home = o;
      medium = get_or-set_other t.pages j o (Image 0) Retired (apart t.pages o j (Medium 0) Spare r.home r.spare refl refl) ∙ r.home;
      end = e;
      same = refl;
    };
  }

-- with life left it is written, with none it fails
alive : (j h l : ℕ) (m u : Pages) (o : Outcome) → get_or m.lives j 0 ≡ suc l → EndsIn j h m 0 o u → (o ≡ Written) × (u ≡ landed j h 0 m)
alive j h l m u Written e r = (refl, r.1)
alive j h l m u (Failed layer block) e r = absurd (omega (arith, e, r.0))

worn : (j h : ℕ) (m u : Pages) (o : Outcome) → get_or m.lives j 0 ≡ 0 → EndsIn j h m 0 o u → (o ≡ Failed 1 0) × (u ≡ put_page j Retired m)
worn j h m u Written e r = absurd (omega (arith, e, r.0))
worn j h m u (Failed layer block) e r = (ap (λ (x : ℕ). Failed x block) r.1 ∙ ap (λ (x : ℕ). Failed 1 x) r.2, r.3)

-- the only reason that is left is that the block is not open
shut-only : (why : Reasons) (e : Refusal) → (why.unfit → ⊥) → (why.absent → ⊥) → (why.flying → ⊥) → (why.grounded → ⊥) → RefusedFor why e → e ≡ BlockNotOpen
shut-only why UnfitBytes a b c d r = absurd (a r)
shut-only why NoSuchBlock a b c d r = absurd (b r)
shut-only why BadByteRange a b c d r = absurd r
shut-only why TooManyNames a b c d r = absurd r
shut-only why UnknownPatch a b c d r = absurd r
shut-only why UnknownGroup a b c d r = absurd r
shut-only why BadScriptLength a b c d r = absurd r
shut-only why (MisplacedWord place) a b c d r = absurd r
shut-only why ShortReportList a b c d r = absurd r
shut-only why GroupNotLower a b c d r = absurd r
shut-only why ShortText a b c d r = absurd r
shut-only why SetNotClosed a b c d r = absurd r
shut-only why PatchTableFull a b c d r = absurd r
shut-only why GroupTableFull a b c d r = absurd r
shut-only why WrongGroupState a b c d r = absurd r
shut-only why GroupNamesFull a b c d r = absurd r
shut-only why BlockInFlight a b c d r = absurd (c r)
shut-only why BlockNotInFlight a b c d r = absurd (d r)
shut-only why NothingToSend a b c d r = absurd r
shut-only why BlockNotOpen a b c d r = refl
shut-only why NumbersUsedUp a b c d r = absurd r
shut-only why UnfitBuffer a b c d r = absurd r
shut-only why TooManyHeld a b c d r = absurd r

-- with the block in the first page and the second retired nothing else is found
nowhere : (w : Page) → same_page w (Medium 0) ≡ false → same_page w Retired ≡ false → place w (two (Medium 0) Retired) ≡ None
nowhere w f g = position-none (same_page w) (two (Medium 0) Retired) Retired (λ j _. each j)
  where
    each : (j : ℕ) → same_page w (get_or (two (Medium 0) Retired) j Retired) ≡ false
    each zero = f
    each (suc zero) = g
    each (suc (suc i)) = ap (same_page w) (retired i) ∙ g

-- so no start is accepted
refused : (w image : List ℕ) (after : Meaning) (answer : Result (Unit {0}) Refusal) → Whole image → StartRule (paged w (table (Medium 0) Retired 0 0)) 0 image after answer → answer ≡ Err BlockNotOpen
refused w image after (Ok x) h r =
    let closed = open-when true (is_some (place Spare (two (Medium 0) Retired))) (place (Image 0) (two (Medium 0) Retired)) refl (nowhere (Image 0) refl refl) in
    absurd (both_ways _ (closed ∙ ap is_some (nowhere Spare refl refl)) r.1)
refused w image after (Err e) h r =
    let idle = some_mapped (λ j. block j w) (place (Image 0) (two (Medium 0) Retired)) ∙ ap is_some (nowhere (Image 0) refl refl) in
    ap Err (shut-only _ e (λ f. f h) (λ f. omega (arith, f.1)) (λ f. both_ways _ idle f.2) (λ f. f) r.1)

pub worn-out : WornOut
worn-out x z w image u v p q r after answer run h s =
    let e1 = alive 1 0 0 (during 1 (table (Medium 0) Spare 1 1)) run.t p refl (goes (table (Medium 0) Spare 1 1) 1 0 (ready-second 1 1) x run.y p run.t run.first) in
    let w2 : WriteOf run.y (table Spare (Medium 0) 1 0) 0 q z u = subst (λ (a : Pages). WriteOf run.y a 0 q z u) e1.1 run.second in
    let e2 = alive 0 1 0 (during 0 (table Spare (Medium 0) 1 0)) u q refl (goes (table Spare (Medium 0) 1 0) 0 1 (ready-first 1 0) run.y z q u w2) in
    let w3 : WriteOf z (table (Medium 0) Spare 0 0) 0 r w v = subst (λ (a : Pages). WriteOf z a 0 r w v) e2.1 run.third in
    let e3 = worn 1 0 (during 1 (table (Medium 0) Spare 0 0)) v r refl (goes (table (Medium 0) Spare 0 0) 1 0 (ready-second 0 0) z w r v w3) in
    let last : StartRule (paged w (table (Medium 0) Retired 0 0)) 0 image after answer = subst (λ (a : Pages). StartRule (paged w a) 0 image after answer) e3.1 s in
    (e1.0, e2.0, e3.0, ap (λ (a : Pages). (paged z a).spent) e2.1, ap (λ (a : Pages). (paged w a).spent) e3.1, refused w image after answer h last)

pub can-wear-out : CanWearOut
can-wear-out x =
    let y = put_block 1 zeros x in
    let z = put_block 0 zeros y in
    let t = table Spare (Medium 0) 1 0 in
    let u = table (Medium 0) Spare 0 0 in
    let v = table (Medium 0) Retired 0 0 in (
      z,
      (
        u,
        (
          put_block 1 zeros z,
          (
            v,
            record {
              y = y;
              t = t;
              first = there (table (Medium 0) Spare 1 1) 1 0 (ready-second 1 1) x Written t (omega arith, refl);
              second = there t 0 1 (ready-first 1 0) y Written u (omega arith, refl);
              third = there u 1 0 (ready-second 0 0) z (Failed 1 0) v (refl, refl, refl, refl);
            },
          ),
        ),
      ),
    )
