-- The whole move: where the main book's move leaves it, and where what is due after the close leaves it. Assumes nothing.
use Prim.Native.Nat.{ℕ, ◌+◌, ◌*◌, ◌^◌, ◌≤◌, ◌<◌}
use mathlib.Core.Path.{◌≡◌, refl, sym, ap, ◌∙◌}
use mathlib.Core.Logic.{⊎_elim}
use mathlib.Core.Bool.{Bool, true, false}
use mathlib.Core.List.{List, [], ◌++◌, append-nil}
use native.Mathlib.Omega.{arith}
use native.Mathlib.Nat.{mul-le-mul_right}
use lib.ListN.{length, take}
use Rattle.model.specs.declared.Order.{Order}
use Rattle.model.specs.declared.Declaration.{Declaration}
use Rattle.model.specs.declared.Day.{Day}
use Rattle.model.specs.Clock.{confirming_from, matching_from, day_end, passed}
use Rattle.model.specs.Books.{Books}
use Rattle.model.specs.Matching.{filled}
use Rattle.model.specs.Figures.{money, reference, close_price, at, with_fixed_figures, with_block_figures}
use Rattle.model.specs.Blocks.{confirmations}
use Rattle.model.specs.ClockCall.{Held, start, moved}
use Rattle.model.specs.AfterClose.{After, confirm_all, match_all, end_all}
use Rattle.model.specs.AllCalls.{start_after, moved_on, move_trades}
use Rattle.model.proofs.Evening.{due, by_stops}
use Rattle.book.specs.Books.{books_of}
use Rattle.book.specs.Standing.{Ranked}
use Rattle.figures.specs.Figures.{Publishable}
use Rattle.soundness.specs.SoundDay.{EveningDay}
use Rattle.soundness.specs.Ready.{Ready}
use Rattle.soundness.proofs.EveningClauses.{close_small, fixed_paid}
use Rattle.declarations.specs.Declared.{Declared}
use Rattle.fixed_book.specs.Ready.{Lined}
use Rattle.fixed_book.proofs.Sides.{closing_shares}
use Rattle.fixed_book.proofs.Tallying.{matched_money}
use Rattle.fixed_demands.specs.Moving.{matched_trades}
use Rattle.fixed_demands.proofs.Evenings.{evening}
use Rattle.fixed_demands.proofs.MainPart.{main_part}
use Rattle.moves.specs.declared.Passage.{Passage}
use Rattle.moves.specs.Stops.{passes}
use Rattle.moves.specs.Moving.{Underway, Reached}
use Rattle.moves.proofs.OtherLists.{OthersStay, moved_others}
use Rattle.moves.proofs.Stopping.{start_underway, through_underway}
use Rattle.moves.proofs.ClockLaws.{reached_made}
use Rattle.foreseen.proofs.Closes.{moved_close}
use Rattle.evenings.specs.declared.Evening.{Evening}
use Rattle.evenings.specs.Counts.{confirmed_ahead, matched_ahead}
use Rattle.evenings.specs.Stage.{Stage, Unconfirmed, Spacious, Movable}
use Rattle.evenings.proofs.Bounds.{confirmed_shares}
use Rattle.evenings.proofs.Places.{passes_told, misses_told, counted}
use Rattle.model.specs.declared.Trade.{Trade}

module _ (d : Day) (t : ℕ) (main fixed : List Order) (blocks : List Declaration) (lent : List Trade) (m : Movable d main fixed blocks t) where
  abbrev s : Books
  s = books_of main fixed blocks

  abbrev h : After
  h = moved_on d t s

  abbrev k : Held
  k = moved d t main

  v : EveningDay d
  v = m.ready.evening

  moved_underway : Underway k
  unfolding moved
  moved_underway = through_underway (passed d.time t) (start d main) (start_underway d main m.ready)

  close_then : close_price k.day ≤ 999_999
  close_then =
      moved_close d t main m.ready.ranked m.onward (unfold close_price in close_small d main m.ready.sound)

  -- the main book's trades are among those of the whole move
  pub main_fits : {n : ℕ} → length (move_trades h) ≤ n → length k.trades ≤ n
  main_fits f = omega (arith, f, counted d t s m.onward)

  -- ---- where the main book's move leaves it

  module _ {p : Passage} {main' : List Order} {trades' : List Trade} (r : Reached k lent p main' trades') where
    abbrev begun : Evening
    begun = record { day = p.day; made = p.made; confirmed = 0; fixed = 0; void = 0; lapsed = 0 }

    day_is : p.day ≡ k.day
    day_is = ap (λ (x : Held). x.day) r.state

    pub begun_stage : Stage (start_after k s) lent begun fixed blocks trades'
    unfolding start_after move_trades
    begun_stage =
        record {
          day = day_is;
          orders = refl;
          held = refl;
          confirmed = refl;
          fixed = refl;
          void = refl;
          lapsed = refl;
          list = ap (λ (x : Held). x.trades) r.state ∙ sym (append-nil k.trades) ∙ sym (append-nil (k.trades ++ []));
          within = r.within;
          past = r.past;
        }

    pub begun_spacious : (p.day.blocks.shares ≤ 50_000_000_000_000) × Spacious p.day
    begun_spacious =
        let o : OthersStay d k.day = moved_others d t main in
        let q : d.fixed.money ≤ 999_999 * d.fixed.shares = fixed_paid d main m.ready.sound v in
        rw (day_is, o.blocks) (
          omega (arith, v.blocks_shares, v.blocks_issued),
          record {
            shares = rw o.fixed (omega (arith, v.fixed_shares, v.fixed_issued));
            money = rw o.fixed q;
            close = close_then;
          },
        )

    pub begun_room :
        length trades' ≡ length lent
        → length (move_trades h) ≤ length lent
        → p.made + confirmed_ahead d.time t blocks + matched_ahead (close_price p.day) d.time t fixed ≤ length trades'
    begun_room e f = rw (reached_made r, day_is) (omega (arith, counted d t s m.onward, e, f))

    pub main_then : main' ≡ h.books.main
    main_then = ap (λ (x : Held). x.book) r.state ∙ sym (main_part d t s).book

    pub main_ranked : Ranked main'
    main_ranked = rw (ap (λ (x : Held). x.book) r.state) moved_underway.ranked

    pub auctions_are : p.made ≡ length h.auctions
    auctions_are = reached_made r ∙ sym (ap length (main_part d t s).trades)

  pub begun_unconfirmed : Unconfirmed (start_after k s)
  unfolding start_after
  begun_unconfirmed = record { confirmed = refl; fixed = refl }

  -- ---- where what is due after the close leaves it

  pub done_stage :
      {e : Evening} {fixed' : List Order} {blocks' : List Declaration} {trades' : List Trade}
      → Stage (due 55_800 end_all d.time t (due 54_300 match_all d.time t (due 54_000 confirm_all d.time t (start_after k s)))) lent e fixed' blocks' trades'
      → Stage h lent e fixed' blocks' trades'
  unfolding moved_on day_end matching_from confirming_from
  done_stage x = rw (by_stops d.time t (start_after k s) m.onward) x

  -- ---- what is published then are numbers of 64 bits

  blocks_then : h.day.blocks.shares ≤ 50_409_600_000_000
  unfolding confirming_from
  blocks_then = go (passes 54_000 d.time t) refl
    where
      go : (b : Bool) → passes 54_000 d.time t ≡ b → h.day.blocks.shares ≤ 50_409_600_000_000
      go true e =
          rw ((evening d t s m.onward).confirmed (passes_told 54_000 d.time t e)).figures
          (omega (arith, confirmed_shares blocks m.declared, v.blocks_shares, v.blocks_issued))
      go false e =
          rw ((evening d t s m.onward).unconfirmed (misses_told 54_000 d.time t e)).figures
          (omega (arith, v.blocks_shares, v.blocks_issued))

  fixed_then : (h.day.fixed.shares ≤ 504_096_000_000) × (h.day.fixed.money ≤ 999_999 * 504_096_000_000)
  unfolding matching_from
  fixed_then = go (passes 54_300 d.time t) refl
    where
      q : d.fixed.money ≤ 999_999 * d.fixed.shares
      q = fixed_paid d main m.ready.sound v

      sold : ℕ
      sold = filled (matched_trades (close_price k.day) fixed)

      paid : money (matched_trades (close_price k.day) fixed) ≤ 999_999 * sold
      paid = rw (matched_money (close_price k.day) _) (mul-le-mul_right sold close_then)

      go :
          (b : Bool)
          → passes 54_300 d.time t ≡ b
          → (h.day.fixed.shares ≤ 504_096_000_000) × (h.day.fixed.money ≤ 999_999 * 504_096_000_000)
      go true e =
          let c : sold ≤ 4_096_000_000 = closing_shares (close_price k.day) fixed m.lined in
          rw ((evening d t s m.onward).matched (passes_told 54_300 d.time t e)).figures
          (omega (arith, c, v.fixed_shares, v.fixed_issued), omega (arith, c, q, paid, v.fixed_shares, v.fixed_issued))
      go false e =
          rw ((evening d t s m.onward).unmatched (misses_told 54_300 d.time t e)).figures
          (omega (arith, v.fixed_shares, v.fixed_issued), omega (arith, q, v.fixed_shares, v.fixed_issued))

  pub done_publishable : {e : Evening} {fixed' : List Order} {blocks' : List Declaration} {trades' : List Trade} → Stage h lent e fixed' blocks' trades' → Publishable (at t e.day)
  unfolding at with_fixed_figures with_block_figures
  done_publishable x =
      let u = moved_underway in
      let w = (main_part d t s).day in
      let a : h.day.shares ≡ k.day.shares = ap (λ (y : Day). y.shares) w in
      let b : h.day.turnover ≡ k.day.turnover = ap (λ (y : Day). y.turnover) w in
      rw x.day
      (record {
        shares = λ _. omega (arith, a, u.shares, blocks_then, fixed_then.0);
        money = λ _. omega (arith, b, u.shares, u.most, fixed_then.1);
      })
