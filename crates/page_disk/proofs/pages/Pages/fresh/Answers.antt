use Rattle.std.proofs.Common.{length, get_or, rules, refl}
use Rattle.page_disk.specs.declared.pages.Page.TheVariants.{Retired}
use Rattle.page_disk.specs.Pages.{fresh_page}
use Rattle.std.proofs.lemmas.Simd.{map-map}
use Rattle.rows.proofs.Made.{made}
use Rattle.page_disk.proofs.pages.Pages.fresh.Goals as goal

pub returns : goal.returns
returns c =
    let lives = c.args.lives.now in
    let entries = made _ _ _ (record { page = Retired; life = 0 }) (λ i. record { page = fresh_page c.args.blocks (length lives) i; life = get_or lives i 0 }) (λ i y q k. search rules) 80 c.from_fn.ensures.items in
    rw (entries, map-map, map-map) refl
