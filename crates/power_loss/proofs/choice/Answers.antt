use Rattle.std.proofs.Common.{◌≡◌, ◌==◌, ◌%◌, ◌/◌, ◌^◌, IfOk, vec_items, sym, subst, rules}
use Rattle.std.proofs.lemmas.Iterator.{YieldsList-from_slice, YieldsList-from_map, items_from_collect}
use Rattle.std.proofs.lemmas.Iterator.Consumers.{YieldsList-at, YieldsList-from_enumerate, YieldsList-from_filter}
use borrow.Author.Tests.{tests}
use Rattle.power_loss.proofs.Picks.{picked-places}
use Rattle.power_loss.proofs.choice.Goals as goal

pub returns : goal.returns
returns c =
    let n = c.args.number in
    let fl = c.args.flying.now in
    subst (λ l. IfOk c.collect.result (λ v. vec_items v ≡ l)) (sym (picked-places n fl))
    (items_from_collect c.collect.result c.collect.ensures.ran
    (YieldsList-from_map _ (λ p. p.1)
    (YieldsList-at c.map.ensures.source
    (YieldsList-from_filter _ (λ p. n / 2 ^ p.0 % 2 == 1)
    (YieldsList-at c.filter.ensures.source (YieldsList-from_enumerate (YieldsList-from_slice fl cc) c.enumerate.ensures.count))
    c.filter.ensures.closure (λ x r q k. search (rules, tests))))
    c.map.ensures.closure (λ x r q k. search (rules, tests))))
