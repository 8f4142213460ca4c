use Rattle.std.proofs.Common.{◌≡◌, is_some, Some, None, refl, ap, ◌∙◌, arith, rules}
use Rattle.rows.proofs.Options.{none_from}
use Rattle.plain_disk.specs.declared.places.Slot.TheVariants.{Free, Holding}
use Rattle.plain_disk.specs.Slots.{place}
use Rattle.plain_disk.specs.Laws.{there-at, place-fits, flies-plain}
use Rattle.plain_disk.proofs.Turns.{open-while, started}
use Rattle.plain_disk.proofs.plain.PlainDisk.start.Goals as goal

pub returns-in_err-j-clause-rule : goal.returns-in_err-j-clause-rule
returns-in_err-j-clause-rule c =
    let x = c.args.self.now in
    let none : place Free x.places.slots ≡ None = search rules in
    let idle : place (Holding c.args.b) x.places.slots ≡ None = none_from _ (search rules) in
    let flies = flies-plain x.bytes.now x.places x.sound c.args.b ∙ ap is_some idle in
    let opens = open-while x.bytes.now x.places c.args.b x.sound idle (omega arith) ∙ ap is_some none in
    search rules

pub take-requires-clause-within : goal.take-requires-clause-within
take-requires-clause-within c =
    let x = c.args.self.now in
    let lowest : place Free x.places.slots ≡ Some c.in_ok-j.j = search rules in
    place-fits x.bytes.now x.places x.sound c.args.b c.in_ok-j.j (omega arith) (there-at x.bytes.now x.places x.sound Free c.in_ok-j.j refl lowest)

pub invariant_of-self : goal.invariant_of-self
invariant_of-self c =
    let x = c.args.self.now in
    record {
      sound = (started x.bytes.now x.places x.sound c.args.b c.in_ok-j.j c.args.image.now c.take.new.bytes c.take.new.places (none_from _ (search rules)) (search rules) (search rules) (search rules) c.take.ensures.bytes c.take.ensures.places).keeps;
    }

pub returns : goal.returns
returns c =
    let x = c.args.self.now in
    let s = started x.bytes.now x.places x.sound c.args.b c.in_ok-j.j c.args.image.now c.take.new.bytes c.take.new.places (none_from _ (search rules)) (search rules) (search rules) (search rules) c.take.ensures.bytes c.take.ensures.places in
    record { rule = (search rules, s.opens, s.effect); same = tt; starts = s.starts }
