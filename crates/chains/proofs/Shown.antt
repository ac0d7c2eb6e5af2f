-- What the screen of a sound day shows of its book fits numbers of 64 bits: five levels a side, and the auction's price, volume and
-- surplus. Assumes nothing.
use Prim.Native.Nat.{ℕ, zero, suc, ◌≤◌, ◌<◌, ◌^◌}
use mathlib.Core.Logic.{⊎_elim}
use mathlib.Core.Bool.{Bool, true, false, cond, not, ◌&&◌}
use mathlib.Core.List.{List, [], ◌∷◌, ◌++◌, map}
use native.Mathlib.Omega.{arith}
use lib.IntN.{ℤ, pos, negsuc}
use lib.Signed.{mag}
use lib.ListN.{get_or, take}
use lib.Dec.{eqb}
use Rattle.model.specs.declared.Order.{Order}
use Rattle.model.specs.declared.Level.{Level}
use Rattle.model.specs.declared.Day.{Day}
use Rattle.model.specs.Lists.{among, once}
use Rattle.model.specs.Book.{stands_on, queue}
use Rattle.model.specs.Matching.{five_best}
use Rattle.model.specs.Figures.{no_level, published_shares, published_turnover}
use Rattle.model.specs.Halts.{phase_now}
use Rattle.model.specs.Auction.{volume, surplus, auction_price}
use Rattle.model.specs.Screen.{level_at, levels_of, shown_price, screen_of}
use Rattle.model.specs.Words.{Each}
use Rattle.book.specs.Standing.{Fair, Ranked}
use Rattle.book.proofs.Lists.{each_keep, each_take, each_append}
use Rattle.book.proofs.Queues.{each_queue}
use Rattle.auction.proofs.Sums.{shares_bound}
use Rattle.auction.proofs.Sides.{demand_bound, supply_bound}
use Rattle.auction.proofs.Signed.{difference_fits}
use Rattle.auction.proofs.Rules.{auction_price_cases}
use Rattle.replies.specs.Words.{word}
use Rattle.records.specs.Layout.{Word, levels_row, screen_row}

word_fits : (z : ℤ) → mag z < 2 ^ 63 → Word (word z)
unfolding word
word_fits (pos n) h = omega arith
word_fits (negsuc n) h = omega arith

-- ---- the levels

abbrev Small : Level → Type 0
Small l = (l.price ≤ 999_999) × (l.shares ≤ 4_096_000_000)

abbrev Priced : ℕ → Type 0
Priced p = p ≤ 999_999

once_priced : (xs : List ℕ) → Each Priced xs → Each Priced (once xs)
unfolding once
once_priced [] e = tt
once_priced (x ∷ xs) e = (e.0, each_keep Priced (λ y. not (eqb x y)) (once xs) (once_priced xs e.1))

fair_priced : (os : List Order) → Each Fair os → Each Priced (map (λ o. o.price) os)
fair_priced [] e = tt
fair_priced (o ∷ os) e = (e.0.price, fair_priced os e.1)

level_at_lem : (ls : List Level) (i : ℕ) → Each Small ls → Small (get_or ls i no_level)
unfolding no_level
level_at_lem [] i e = (omega arith, omega arith)
level_at_lem (l ∷ ls) zero e = e.0
level_at_lem (l ∷ ls) (suc i) e = level_at_lem ls i e.1

module _ (book : List Order) (r : Ranked book) where
  levels_small : (side : ℕ) (ps : List ℕ) → Each Priced ps → Each Small (map (level_at side book) ps)
  unfolding level_at
  levels_small side [] e = tt
  levels_small side (p ∷ ps) e =
      ((e.0, shares_bound (λ o. stands_on side o && eqb o.price p) book r), levels_small side ps e.1)

  best_small : (side : ℕ) → Each Small (map (level_at side book) (five_best (queue side book)))
  unfolding five_best
  best_small side =
      let fair : Each Fair (queue side book) = each_queue Fair side book (each_keep Fair (stands_on side) book r.stands.fair) in
      let ps : List ℕ = map (λ (o : Order). o.price) (queue side book) in
      levels_small side (take 5 (once ps)) (each_take Priced 5 (once ps) (once_priced ps (fair_priced (queue side book) fair)))

  levels_words : (side : ℕ) → Each Word (levels_row (levels_of side book))
  unfolding levels_of
  levels_words side =
      let ls : List Level = map (level_at side book) (five_best (queue side book)) in
      let word : (i : ℕ) → Word (get_or ls i no_level).price × Word (get_or ls i no_level).shares =
      λ i. let s : Small (get_or ls i no_level) = level_at_lem ls i (best_small side) in (omega (arith, s.0), omega (arith, s.1)) in (
        (word 0).0,
        (
          (word 0).1,
          (
            (word 1).0,
            (
              (word 1).1,
              ((word 2).0, ((word 2).1, ((word 3).0, ((word 3).1, ((word 4).0, ((word 4).1, tt)))))),
            ),
          ),
        ),
      )

  -- ---- the auction's figures

  shown_small : (d : Day) → shown_price d book ≤ 999_999
  unfolding shown_price
  shown_small d = go (among (1 ∷ 2 ∷ 6 ∷ []) (phase_now d))
    where
      price : auction_price d book ≤ 999_999
      price = ⊎_elim (λ q. q.0.price.high) (λ z. omega (arith, z.0)) (auction_price_cases book r.stands d)

      go : (b : Bool) → cond b (auction_price d book) 0 ≤ 999_999
      go true = price
      go false = omega arith

  volume_small : (p : ℕ) → volume book p ≤ 4_096_000_000
  unfolding volume
  volume_small p = omega (arith, demand_bound book p r)

  surplus_small : (p : ℕ) → mag (surplus book p) < 2 ^ 63
  unfolding surplus
  surplus_small p = (difference_fits _ _ (demand_bound book p r) (supply_bound book p r)).sfits

  -- ---- the screen, with a high and a low of 64 bits

  module _ (d : Day) (high low : ℕ) where
    volume_word : Word (cond (eqb (shown_price d book) 0) 0 (volume book (shown_price d book)))
    volume_word = go (eqb (shown_price d book) 0)
      where
        go : (b : Bool) → Word (cond b 0 (volume book (shown_price d book)))
        go true = omega arith
        go false = let v = volume_small (shown_price d book) in omega (arith, v)

    pub shown_surplus : mag (screen_of d book high low).surplus < 2 ^ 63
    unfolding screen_of
    shown_surplus = go (eqb (shown_price d book) 0)
      where
        go : (b : Bool) → mag (cond b (pos 0) (surplus book (shown_price d book))) < 2 ^ 63
        go true = omega arith
        go false = surplus_small (shown_price d book)

    pub screen_words :
        Word d.last
        → Word (published_shares d)
        → Word (published_turnover d)
        → Word high
        → Word low
        → Each Word (screen_row (screen_of d book high low))
    unfolding screen_of
    screen_words last shares turnover h l =
        let p = shown_small d in
        let traded : List ℕ = d.last ∷ high ∷ low ∷ published_shares d ∷ published_turnover d ∷ [] in
        let buys : List ℕ = levels_row (levels_of 0 book) in
        let sells : List ℕ = levels_row (levels_of 1 book) in
        let volume_shown : ℕ = cond (eqb (shown_price d book) 0) 0 (volume book (shown_price d book)) in
        let called : List ℕ = shown_price d book ∷ volume_shown ∷ word (screen_of d book high low).surplus ∷ [] in
        let first_words : Each Word traded = (last, (h, (l, (shares, (turnover, tt))))) in
        let last_words : Each Word called = (omega (arith, p), (volume_word, (word_fits (screen_of d book high low).surplus shown_surplus, tt))) in
        each_append Word (traded ++ buys ++ sells) called
        (each_append Word (traded ++ buys) sells (each_append Word traded buys first_words (levels_words 0)) (levels_words 1))
        last_words
