use Rattle.std.proofs.Common.{◌≡◌, map, vec_items}
use Rattle.std.specs.List.{range_with_len}
use Rattle.disk.specs.Meaning.{stands}
use Rattle.power_loss.specs.States.{among}
use Rattle.power_loss.proofs.state_with.Given as goal

abbrev pub invariant-loop-b : goal.invariant-loop-b
invariant-loop-b g l =
    (g.D.Disk.meaning l.disk ≡ g.D.Disk.meaning l.initial.disk)
    × (vec_items l.blocks ≡ map (stands (g.D.Disk.meaning l.initial.disk) (among (vec_items l.written))) (range_with_len 0 l.b))
