-- The judge by evaluation, at the price that is left: our own trades, the same fills otherwise paired and cut, and what is one share,
-- one number or one price off. (Which price is left speaks of all 999,999 prices: laws say it.) Assumes nothing.
use Prim.Native.Nat.{ℕ}
use mathlib.Core.Path.{◌≡◌, refl}
use mathlib.Core.Bool.{Bool, true, false}
use mathlib.Core.List.{List, [], ◌∷◌, map}
use Rattle.model.specs.declared.Order.{Order}
use Rattle.judge.specs.declared.Claim.{Claim}
use Rattle.judge.specs.declared.Verdict.TheVariants.{Refused, Yes, No}
use Rattle.model.specs.Lists.{keep, all, any, total}
use Rattle.model.specs.Book.{free, is_live, stands_on, better, ahead, insert, in_priority, queue}
use Rattle.model.specs.Auction.{shares_of, demand, supply, volume}
use Rattle.model.specs.Pairing.{cut, head_less, pair, trades_at}
use Rattle.model.specs.Words.{held, granted}
use Rattle.judge.specs.Judging.{has_order, joins, party, claimed_for, granted_to, fills_right, claims_right, agrees, verdict_numbers}
use Rattle.judge.specs.Verdicts.{our_claim}

abbrev order : ℕ → ℕ → ℕ → ℕ → ℕ → Order
order side account left price number =
    record { side = side; account = account; left = left; price = price; number = number }

abbrev claim : ℕ → ℕ → ℕ → Claim
claim shares buyer seller = record { shares = shares; buyer = buyer; seller = seller }

-- buys of 60 and 150 at 1002 and of 100 at 1000, sells of 30 at 990, of 250 and of 70 at 1000: 310 trade at 1000, and of order 6
-- only 30; order 7 and the free place get nothing
abbrev book : List Order
book =
    order 1 8 70 1000 6
    ∷ order 0 7 100 1000 1
    ∷ order 1 8 250 1000 5
    ∷ free
    ∷ order 0 7 150 1002 3
    ∷ order 1 8 30 990 4
    ∷ order 0 7 60 1002 2
    ∷ order 0 7 500 999 7
    ∷ []

abbrev says : List Claim → Bool
says cs = agrees 1000 1000 book cs

-- each order once is enough, in any order, with any partner and in any cut
pub yes_tried :
    map says
    (map our_claim (trades_at 1000 book)
    ∷ (claim 30 2 4 ∷ claim 30 2 5 ∷ claim 150 3 5 ∷ claim 70 1 5 ∷ claim 30 1 6 ∷ [])
    ∷ (claim 100 1 5 ∷ claim 60 2 5 ∷ claim 90 3 5 ∷ claim 30 3 4 ∷ claim 30 3 6 ∷ [])
    ∷ (claim 1 2 4 ∷ claim 29 2 4 ∷ claim 30 2 5 ∷ claim 150 3 5 ∷ claim 70 1 5 ∷ claim 30 1 6 ∷ [])
    ∷ [])
    ≡ true ∷ true ∷ true ∷ true ∷ []
unfolding keep all any total free is_live stands_on better ahead insert in_priority queue shares_of demand supply volume cut head_less pair trades_at held granted has_order joins party claimed_for granted_to fills_right claims_right agrees verdict_numbers our_claim
yes_tried = refl

-- no trade at all; the last one left out; a share too many of order 6; order 7 filled though it is not its turn; buyer and seller
-- exchanged; a trade of no share; an order that is not there, and number 0; shares whose sum comes round after 64 bits
pub no_tried :
    map says
    ([]
    ∷ (claim 30 2 4 ∷ claim 30 2 5 ∷ claim 150 3 5 ∷ claim 70 1 5 ∷ [])
    ∷ (claim 30 2 4 ∷ claim 30 2 5 ∷ claim 150 3 5 ∷ claim 69 1 5 ∷ claim 31 1 6 ∷ [])
    ∷ (claim 30 2 4 ∷ claim 30 2 5 ∷ claim 150 3 5 ∷ claim 70 1 5 ∷ claim 30 7 6 ∷ [])
    ∷ (claim 30 4 2 ∷ claim 30 2 5 ∷ claim 150 3 5 ∷ claim 70 1 5 ∷ claim 30 1 6 ∷ [])
    ∷ (claim 0 2 4 ∷ claim 30 2 4 ∷ claim 30 2 5 ∷ claim 150 3 5 ∷ claim 70 1 5 ∷ claim 30 1 6 ∷ [])
    ∷ (claim 30 2 4 ∷ claim 30 2 5 ∷ claim 150 3 5 ∷ claim 70 1 5 ∷ claim 30 1 9 ∷ [])
    ∷ (claim 30 2 4 ∷ claim 30 2 5 ∷ claim 150 3 5 ∷ claim 70 1 5 ∷ claim 30 1 0 ∷ [])
    ∷ (claim 30 2 4
    ∷ claim 30 2 5
    ∷ claim 150 3 5
    ∷ claim 70 1 5
    ∷ claim 30 1 6
    ∷ claim 9_223_372_036_854_775_808 2 4
    ∷ claim 9_223_372_036_854_775_808 2 4
    ∷ [])
    ∷ [])
    ≡ false ∷ false ∷ false ∷ false ∷ false ∷ false ∷ false ∷ false ∷ false ∷ []
unfolding keep all any total free is_live stands_on better ahead insert in_priority queue shares_of demand supply volume cut head_less pair trades_at held granted has_order joins party claimed_for granted_to fills_right claims_right agrees verdict_numbers our_claim
no_tried = refl

-- another price; and a book of which no price is left
pub price_tried :
    (agrees 1000 999 book (map our_claim (trades_at 1000 book)) ≡ false)
    × (map (λ p. agrees 0 p (order 0 7 100 990 1 ∷ order 1 8 100 1000 2 ∷ []) []) (0 ∷ 990 ∷ []) ≡ true ∷ false ∷ [])
    × (agrees 0 0 (order 0 7 100 990 1 ∷ order 1 8 100 1000 2 ∷ []) (claim 1 1 2 ∷ []) ≡ false)
unfolding keep all any total free is_live stands_on better ahead insert in_priority queue shares_of demand supply volume cut head_less pair trades_at held granted has_order joins party claimed_for granted_to fills_right claims_right agrees verdict_numbers our_claim
price_tried = (refl, refl, refl)

pub numbers_tried : map verdict_numbers (Refused 15 ∷ Yes ∷ No ∷ []) ≡ (15 ∷ 0 ∷ []) ∷ (0 ∷ 1 ∷ []) ∷ (0 ∷ 0 ∷ []) ∷ []
unfolding verdict_numbers
numbers_tried = refl
