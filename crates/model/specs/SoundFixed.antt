-- When the fixed-price book is sound (02: #107), on a sound day: Sound has the clauses that read the day alone.
use Rattle.std.specs.Prelude.{◌+◌, ◌*◌, Bool, not, ◌&&◌, ◌||◌, List, leb, ltb}
use Rattle.model.specs.declared.Order.{Order}
use Rattle.model.specs.declared.Day.{Day}
use Rattle.model.specs.Lists.{all, any, total}
use Rattle.model.specs.Clock.{matching_from}
use Rattle.model.specs.Book.{stands_on}
use Rattle.model.specs.Arrival.{in_arrival}
use Rattle.model.specs.Figures.{close_price}
use Rattle.model.specs.Sound.{is_free, is_order_of, is_empty, between}
use Rattle.model.specs.FixedBook.{is_void}

-- one-sided at most
unfoldable pub one_sided : List Order → Bool
one_sided book = not (any (stands_on 0) book && any (stands_on 1) book)

-- twice the shares traded plus all resting shares is at most 1,000,000 times the numbers issued
unfoldable pub fixed_sums : Day → List Order → Bool
fixed_sums d book = leb (2 * d.fixed.shares + total (λ o. o.left) book) (1_000_000 * d.fixed.issued)

unfoldable pub sound_fixed : Day → List Order → Bool
sound_fixed d book =
    all (λ o. is_free o || is_order_of d d.fixed.issued o) book
    -- by time alone, free places last
    && in_arrival (λ o. o.number) book
    -- empty outside 9:15 to 15:30
    && (between 33_300 55_799 d.time || is_empty book)
    -- from 15:05 one-sided at most with no limit that 20 names; before that it may cross
    && (ltb d.time matching_from || (one_sided book && not (any (is_void (close_price d)) book)))
    && fixed_sums d book
