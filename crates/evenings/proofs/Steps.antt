-- What is due at 15:00, at 15:05 and at 15:30, each from a state in memory to the next. Assumes nothing.
use Prim.Native.Nat.{ℕ, ◌+◌, ◌≤◌}
use mathlib.Core.Path.{◌≡◌, sym, ap, ◌∙◌}
use mathlib.Core.Bool.{not}
use mathlib.Core.List.{List, [], ◌++◌, append-nil}
use native.Mathlib.Omega.{arith}
use lib.ListN.{length, take, drop, length-map}
use lib.Seq.{drop-drop}
use Rattle.model.specs.declared.Order.{Order}
use Rattle.model.specs.declared.Trade.{Trade}
use Rattle.model.specs.declared.Day.{Day}
use Rattle.model.specs.Lists.{keep, total}
use Rattle.model.specs.Books.{with_fixed, with_blocks}
use Rattle.model.specs.Matching.{settle}
use Rattle.model.specs.Figures.{close_price, tally_fixed, tally_blocks}
use Rattle.model.specs.Auction.{shares_of}
use Rattle.model.specs.FixedBook.{is_void, matches, lined}
use Rattle.model.specs.Blocks.{confirmations, unnamed, held_in, none_held}
use Rattle.model.specs.Calls.{cleared}
use Rattle.model.specs.AfterClose.{After, confirm_all, match_all, end_all}
use Rattle.model.specs.AllCalls.{move_trades}
use Rattle.book.specs.declared.Dealt.{Dealt}
use Rattle.book.specs.Deals.{dealt}
use Rattle.evenings.specs.declared.Evening.{Evening}
use Rattle.evenings.specs.Stage.{Stage}
use Rattle.evenings.proofs.Appending.{Behind}
use Rattle.model.specs.declared.Declaration.{Declaration}

-- past n places, and then past k more
further : (n k : ℕ) (xs ys : List Trade) → drop n xs ≡ drop n ys → drop (n + k) xs ≡ drop (n + k) ys
further n k xs ys e =
    sym (drop-drop k n xs) ∙ ap (drop k) e ∙ drop-drop k n ys

module _ (h : After) (lent : List Trade) (e : Evening) (fixed : List Order) (blocks : List Declaration) (trades : List Trade) (s : Stage h lent e fixed blocks trades) where
  -- trades that were written behind those so far
  module _ (ts : List Trade) {r : Dealt} {after : List Trade} (f : r ≡ dealt ts) (w : Behind e.made ts trades after) where
    many : r.made ≡ length ts
    unfolding dealt
    many = ap (λ (x : Dealt). x.made) f

    list_then : (take (e.made + r.made) after) ≡ move_trades h ++ ts
    list_then = rw many (w.list ∙ ap (λ (l : List Trade). l ++ ts) s.list)

    past_then : drop (e.made + r.made) after ≡ drop (e.made + r.made) lent
    past_then = rw many (w.past ∙ further e.made (length ts) trades lent s.past)

    within_then : e.made + r.made ≤ length after
    within_then = omega (arith, many, w.within)

  -- 15:00
  abbrev confirmed : List Trade
  confirmed = confirmations blocks

  pub three :
      {r : Dealt} {after : List Trade} {blocks' : List Declaration} {day : Day}
      → h.confirmed ≡ []
      → h.fixed ≡ []
      → r ≡ dealt confirmed
      → Behind e.made confirmed trades after
      → blocks' ≡ held_in (length blocks) (unnamed confirmed blocks)
      → day ≡ tally_blocks confirmed e.day
      → Stage (confirm_all h) lent
      (record { day = day; made = e.made + r.made; confirmed = r.made; fixed = e.fixed; void = e.void; lapsed = e.lapsed })
      fixed blocks' after
  unfolding confirm_all with_blocks move_trades
  three none nor f w left tallied =
      let same : blocks ≡ h.books.blocks = s.held in
      record {
        day = tallied ∙ rw (same, s.day);
        orders = s.orders;
        held = left ∙ rw same;
        confirmed = many confirmed f w ∙ rw (same, none);
        fixed = s.fixed;
        void = s.void;
        lapsed = s.lapsed;
        list = list_then confirmed f w ∙ rw (same, none, nor, append-nil h.auctions, append-nil h.auctions, append-nil (h.auctions ++ confirmations h.books.blocks));
        within = within_then confirmed f w;
        past = past_then confirmed f w;
      }

  -- 15:05
  module _ (close : ℕ) where
    abbrev stay : List Order
    stay = keep (λ o. not (is_void close o)) fixed

    abbrev matched : List Trade
    matched = matches close stay

    pub five_past_lem :
        {r : Dealt} {after : List Trade} {fixed' : List Order} {void : ℕ} {day : Day}
        → close ≡ close_price e.day
        → h.fixed ≡ []
        → r ≡ dealt matched
        → Behind e.made matched trades after
        → fixed' ≡ lined (length fixed) (settle matched stay)
        → void ≡ shares_of (is_void close) fixed
        → day ≡ tally_fixed matched e.day
        → Stage (match_all h) lent
        (record { day = day; made = e.made + r.made; confirmed = e.confirmed; fixed = r.made; void = void; lapsed = e.lapsed })
        fixed' blocks after
    unfolding match_all with_fixed move_trades
    five_past_lem c nor f w left out tallied =
        let same : fixed ≡ h.books.fixed = s.orders in
        let at : close ≡ close_price h.day = c ∙ ap close_price s.day in
        record {
          day = tallied ∙ rw (at, same, s.day);
          orders = left ∙ rw (at, same);
          held = s.held;
          confirmed = s.confirmed;
          fixed = many matched f w ∙ rw (at, same, nor);
          void = out ∙ rw (at, same);
          lapsed = s.lapsed;
          list = list_then matched f w ∙ rw (at, same, nor, append-nil (h.auctions ++ h.confirmed));
          within = within_then matched f w;
          past = past_then matched f w;
        }

  -- 15:30
  pub end :
      {lapsed : ℕ} {fixed' : List Order} {blocks' : List Declaration}
      → lapsed ≡ total (λ o. o.left) fixed
      → fixed' ≡ (cleared fixed)
      → blocks' ≡ (none_held blocks)
      → Stage (end_all h) lent
      (record { day = e.day; made = e.made; confirmed = e.confirmed; fixed = e.fixed; void = e.void; lapsed = lapsed })
      fixed' blocks' trades
  unfolding end_all move_trades
  end out gone none =
      record {
        day = s.day;
        orders = gone ∙ ap cleared s.orders;
        held = none ∙ ap none_held s.held;
        confirmed = s.confirmed;
        fixed = s.fixed;
        void = s.void;
        lapsed = out ∙ ap (λ (os : List Order). total (λ o. o.left) os) s.orders;
        list = s.list;
        within = s.within;
        past = s.past;
      }
