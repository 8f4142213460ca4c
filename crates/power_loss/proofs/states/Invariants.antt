use Rattle.std.proofs.Common.{◌≡◌, map, vec_items}
use Rattle.std.specs.List.{range_with_len}
use Rattle.power_loss.specs.Numbered.{airborne, picked}
use Rattle.power_loss.proofs.Listings.{shown}
use Rattle.power_loss.proofs.states.Given as goal

abbrev pub invariant-loop-number : goal.invariant-loop-number
invariant-loop-number g l =
    (g.D.Disk.meaning l.disk ≡ g.D.Disk.meaning l.initial.disk)
    × (map (λ s. vec_items s.written) (vec_items l.states) ≡ map (λ n. picked n (airborne (g.D.Disk.meaning l.initial.disk))) (range_with_len 0 l.number))
    × (map (λ s. vec_items s.blocks) (vec_items l.states) ≡ map (shown (g.D.Disk.meaning l.initial.disk)) (range_with_len 0 l.number))
