use Rattle.std.proofs.Common.{◌≡◌, is_some, Some, refl, ap, ◌∙◌, rules}
use Rattle.plain_disk.specs.declared.places.Slot.TheVariants.{Holding}
use Rattle.plain_disk.specs.Slots.{place}
use Rattle.plain_disk.specs.Laws.{flies-plain}
use Rattle.plain_disk.proofs.Turns.{source_fits, finished}
use Rattle.plain_disk.proofs.plain.PlainDisk.finish.Goals as goal

pub land-requires-clause-source : goal.land-requires-clause-source
land-requires-clause-source c =
    let x = c.args.self.now in
    source_fits x.bytes.now x.places x.sound c.args.b c.in_ok-j.j (search rules)

pub invariant_of-self : goal.invariant_of-self
invariant_of-self c =
    let x = c.args.self.now in
    record { sound = (finished x.bytes.now x.places x.sound c.args.b c.in_ok-j.j c.land.new.bytes c.land.new.places (search rules) c.land.ensures.bytes c.land.ensures.places).keeps }

pub returns : goal.returns
returns c =
    let x = c.args.self.now in
    let held : place (Holding c.args.b) x.places.slots ≡ Some c.in_ok-j.j = search rules in
    let f = finished x.bytes.now x.places x.sound c.args.b c.in_ok-j.j c.land.new.bytes c.land.new.places held c.land.ensures.bytes c.land.ensures.places in
    record { rule = (flies-plain x.bytes.now x.places x.sound c.args.b ∙ ap is_some held, f.effect); same = tt; ends = (refl, f.ends) }
