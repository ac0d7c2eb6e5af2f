-- `pack::events::store` meets its contract. Assumes nothing.
use mathlib.Core.Path.{◌≡◌, refl, ◌∙◌}
use lib.ListN.{length}
use Rattle.pack.proofs.Stored.{stores_part, stores_full}
use Rattle.pack.proofs.events.store.Goals as goal

pub returns-then-count-lt24 : goal.returns-then-count-lt24
returns-then-count-lt24 c = stores_part _ _ _ _ refl c.add_record.ensures _ _ c.if-count-lt24.true

pub returns : goal.returns
returns c =
    let long : length c.close.new.block ≡ 512 = c.close.auto.block ∙ c.add_record.auto.block ∙ c.requires.0 in
    stores_full _ _ _ _ refl c.add_record.ensures _ _ (length c.close.new.block) c.if-count-lt24.false c.close.ensures
    c.put_bytes.ensures c.clear.ensures long
