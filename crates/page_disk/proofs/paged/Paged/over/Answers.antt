use Rattle.page_disk.proofs.Fresh.{sound-fresh, still-fresh, begins-fresh}
use Rattle.page_disk.proofs.paged.Paged.over.Goals as goal

pub invariant_of-result : goal.invariant_of-result
invariant_of-result c = record { sound = rw c.fresh.ensures (sound-fresh c.args.bytes.now c.args.blocks c.args.lives.now c.requires.few c.requires.long) }

pub returns-clause-begins : goal.returns-clause-begins
returns-clause-begins c = rw c.fresh.ensures (begins-fresh c.args.bytes.now c.args.blocks c.args.lives.now c.requires.few c.requires.long)

pub returns-clause-still : goal.returns-clause-still
returns-clause-still c = rw c.fresh.ensures (still-fresh c.args.bytes.now c.args.blocks c.args.lives.now c.requires.few c.requires.long)
