use Rattle.std.proofs.Common.{sym, subst, arith}
use Rattle.disk.specs.Meaning.{Still}
use Rattle.plain_disk.specs.declared.places.Places.{Places}
use Rattle.plain_disk.specs.Plain.{plain, Sound}
use Rattle.plain_disk.proofs.Fresh.{sound-fresh, still-fresh}
use Rattle.plain_disk.proofs.plain.Plain.over.Goals as goal

pub invariant_of-result : goal.invariant_of-result
invariant_of-result c =
    let a = c.args in
    record { sound = subst (Sound a.bytes.now) (sym c.fresh.ensures) (sound-fresh a.bytes.now a.blocks a.places (omega arith) c.requires.places.0 c.requires.places.1 c.requires.long) }

pub returns-clause-still : goal.returns-clause-still
returns-clause-still c = subst (λ (p : Places). Still (plain c.args.bytes.now p)) (sym c.fresh.ensures) (still-fresh c.args.bytes.now c.args.blocks c.args.places)
