use Rattle.std.proofs.Common.{List, ap, rules}
use Rattle.rows.proofs.Made.{made}
use Rattle.plain_disk.specs.declared.places.Slot.{Slot}
use Rattle.plain_disk.specs.declared.places.Slot.TheVariants.{Free}
use Rattle.plain_disk.specs.Slots.{fresh_slot}
use Rattle.plain_disk.proofs.places.Places.fresh.Goals as goal

pub returns : goal.returns
returns c = ap (λ (ss : List Slot). record { blocks = c.args.blocks; count = c.args.count; slots = ss }) (made _ _ _ Free (fresh_slot c.args.count) (λ i y q k. search rules) 8 c.from_fn.ensures.items)
