use Rattle.std.proofs.Common.{◌≡◌, ℕ, suc, ◌+◌, take, None, position, sym, refl, ap, ◌∙◌, subst, arith}
use Rattle.std.proofs.lemmas.List.{take_all}
use Rattle.rows.proofs.Firsts.{first-at, first_past}
use Rattle.rows.proofs.marks.find.Goals as goal

pub loop-i-init : goal.loop-i-init
loop-i-init g c = refl

pub returns-then-passes : goal.returns-then-passes
returns-then-passes g c =
    let p = g.T.Test.passes c.args.test.now in
    sym (first-at p c.args.marks.now c.index-marks-i.result c.loop-i.i (omega arith) c.loop-i.invariant (ap p (sym c.index-marks-i.is) ∙ sym c.passes.ensures ∙ c.if-passes.true))

pub loop-i-preserved : goal.loop-i-preserved
loop-i-preserved g c =
    let p = g.T.Test.passes c.args.test.now in
    let xs = c.args.marks.now in
    let e : suc c.loop-i.i ≡ c.loop-i.i + 1 = omega arith in
    subst (λ (n : ℕ). position p (take n xs) ≡ None) e (first_past p xs c.index-marks-i.result c.loop-i.i (omega arith) c.loop-i.invariant (ap p (sym c.index-marks-i.is) ∙ sym c.passes.ensures ∙ c.if-passes.false))

pub returns : goal.returns
returns g c = sym c.loop-i.invariant ∙ ap (position (g.T.Test.passes c.args.test.now)) (take_all c.loop-i.i c.args.marks.now (omega arith))
