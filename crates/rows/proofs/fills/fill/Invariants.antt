use Rattle.std.proofs.Common.{◌≡◌, map, length, take}
use Rattle.std.specs.List.{range_with_len}
use Rattle.rows.proofs.fills.fill.Given as goal

abbrev pub invariant-loop-i : goal.invariant-loop-i
invariant-loop-i g l = (length l.marks ≡ length l.initial.marks) × (take l.i l.marks ≡ map (g.R.Rule.at l.rule) (range_with_len 0 l.i))
