use Rattle.std.proofs.Common.{◌≡◌, Some, rules}
use Rattle.plain_disk.specs.declared.places.Slot.TheVariants.{Holding}
use Rattle.plain_disk.specs.Slots.{place}
use Rattle.plain_disk.proofs.Turns.{source_fits}
use Rattle.plain_disk.proofs.plain.PlainInFlight.image.Goals as goal

pub show-requires : goal.show-requires
show-requires c =
    let x = c.args.self.now in
    source_fits x.bytes.now x.places x.sound c.args.b c.in_ok-j.j (search rules)

pub returns : goal.returns
returns c =
    let x = c.args.self.now in
    let held : place (Holding c.args.b) x.places.slots ≡ Some c.in_ok-j.j = search rules in
    let fits = source_fits x.bytes.now x.places x.sound c.args.b c.in_ok-j.j held in
    search rules
