use Rattle.std.proofs.Common.{◌≡◌, ℕ, [], ◌∷◌, ◌++◌, map, length, take, sym, ap, ◌∙◌, arith, length-set}
use Rattle.std.specs.List.{range_with_len}
use Rattle.std.proofs.lemmas.List.{take_all, take_more_set}
use Rattle.std.proofs.lemmas.List.FromFn.{map-range_with_len_more}
use Rattle.rows.proofs.fills.fill.Goals as goal

pub loop-i-preserved : goal.loop-i-preserved
loop-i-preserved g c =
    let f = g.R.Rule.at c.args.rule.now in
    let xs = c.loop-i.marks in
    let i = c.loop-i.i in
    let front : take i xs ++ c.at.result ∷ [] ≡ map f (range_with_len 0 i) ++ f i ∷ [] = ap (λ ys. ys ++ c.at.result ∷ []) c.loop-i.invariant.1 ∙ ap (λ y. map f (range_with_len 0 i) ++ y ∷ []) c.at.ensures in
    (length-set _ _ _ ∙ c.loop-i.invariant.0, take_more_set xs i c.at.result (omega arith) ∙ front ∙ sym (map-range_with_len_more f 0 i i (omega arith)))

pub returns : goal.returns
returns g c =
    let f = g.R.Rule.at c.args.rule.now in
    let n : c.loop-i.i ≡ length c.args.marks.now = omega arith in
    sym (take_all c.loop-i.i c.loop-i.marks (omega (arith, c.loop-i.invariant.0))) ∙ c.loop-i.invariant.1 ∙ ap (λ (m : ℕ). map f (range_with_len 0 m)) n
