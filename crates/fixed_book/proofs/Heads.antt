-- Who trades next: the walk to the first order of a side that is not void, and a head that has traded. Assumes nothing.
use Prim.Native.Nat.{ℕ, suc, ◌+◌, ◌-◌, ◌≤◌, ◌<◌, min}
use mathlib.Core.Path.{◌≡◌, refl, sym, ap, ◌∙◌}
use mathlib.Core.Bool.{true, false, not}
use mathlib.Core.List.{List, [], ◌∷◌, map}
use native.Mathlib.Omega.{arith}
use native.Mathlib.Numerals.{add-one}
use lib.ListN.{length, get_or, drop, length-map, drop_of_length-le}
use lib.Seq.{drop-cons}
use borrow.Author.Tests.{lt-ltb}
use Rattle.model.specs.declared.Order.{Order}
use Rattle.model.specs.Lists.{keep}
use Rattle.model.specs.Book.{free, stands_on}
use Rattle.model.specs.Pairing.{head_less}
use Rattle.model.specs.FixedBook.{is_void}
use Rattle.model.specs.Words.{Each}
use Rattle.model.proofs.Bools.{and_right}
use Rattle.book.specs.declared.Head.{Head}
use Rattle.book.specs.Standing.{Fair}
use Rattle.book.proofs.Lists.{keep_true, keep_false, each_at}
use Rattle.book.proofs.Queues.{on_live}
use Rattle.pairing.specs.Dealing.{dealt}
use Rattle.pairing.proofs.Turns.{head_stays, head_goes}
use Rattle.fixed_book.specs.Heads.{may_trade, brings, head_share, shares_from, headed, HeadOf}

-- ---- one order

module _ (close side : ℕ) (o : Order) where
  pub trades_on : may_trade close side o ≡ true → stands_on side o ≡ true
  unfolding may_trade
  trades_on e = and_right (not (is_void close o)) (stands_on side o) e

-- ---- heads and those behind them

module _ (close side : ℕ) (book : List Order) where
  pub headed_some : (h : Head) → 0 < h.left → headed close side h book ≡ head_share h ∷ shares_from close side (h.at + 1) book
  unfolding headed
  headed_some h l = rw (lt-ltb 0 h.left l)

  pub headed_none : (h : Head) → h.left ≡ 0 → headed close side h book ≡ []
  unfolding headed
  headed_none h z = rw z

  -- a head of which q have traded
  pub past_some :
      (h r : Head) (q : ℕ)
      → q < h.left
      → h.at < length book
      → r ≡ record { at = h.at; number = h.number; price = h.price; left = h.left - q }
      → HeadOf close side book (head_less q (head_share h) (shares_from close side (h.at + 1) book)) r
  past_some h r q l i e =
      rw e
      (record {
        same =
            headed_some (record { at = h.at; number = h.number; price = h.price; left = h.left - q }) (omega arith)
            ∙ sym (head_stays q (head_share h) (shares_from close side (h.at + 1) book) l);
        inside = λ _. i;
      })

  pub past_next :
      (h r : Head) (q : ℕ)
      → h.left ≤ q
      → HeadOf close side book (shares_from close side (h.at + 1) book) r
      → HeadOf close side book (head_less q (head_share h) (shares_from close side (h.at + 1) book)) r
  past_next h r q l k =
      record { same = k.same ∙ sym (head_goes q (head_share h) (shares_from close side (h.at + 1) book) l); inside = k.inside }

-- ---- the walk

-- nobody from the first place up to this one may trade
pub record Sought (close side : ℕ) (rows : List Order) (from at : ℕ) : Type 0 where
  pub same : shares_from close side at rows ≡ shares_from close side from rows
  pub within : at ≤ length rows

pub sought_none : (close side : ℕ) (rows : List Order) (from : ℕ) → from ≤ length rows → Sought close side rows from from
sought_none close side rows from h = record { same = refl; within = h }

module _ (close side : ℕ) (rows : List Order) {from at : ℕ} (w : Sought close side rows from at) where
  module _ {o : Order} (inside : at < length rows) (e : o ≡ get_or rows at free) where
    here : drop at rows ≡ o ∷ drop (at + 1) rows
    here =
        drop-cons rows at free (omega arith)
        ∙ ap (λ (x : Order). x ∷ drop (suc at) rows) (sym (e))
        ∙ ap (λ n. o ∷ drop n rows) (sym (add-one at))

    pub sought_next : may_trade close side o ≡ false → Sought close side rows from (at + 1)
    unfolding shares_from
    sought_next f =
        record {
          same =
              sym
              (ap (λ (l : List Order). map brings (keep (may_trade close side) l)) here
              ∙ ap (map brings) (keep_false (may_trade close side) o (drop (at + 1) rows) f))
              ∙ w.same;
          within = omega arith;
        }

    pub sought_found :
        Each Fair rows
        → may_trade close side o ≡ true
        → HeadOf close side rows (shares_from close side from rows) (record { at = at; number = o.number; price = o.price; left = o.left })
    unfolding shares_from
    sought_found f t =
        let h : Head = record { at = at; number = o.number; price = o.price; left = o.left } in
        record {
          same =
              headed_some close side rows h some
              ∙ sym
              (ap (λ (l : List Order). map brings (keep (may_trade close side) l)) here
              ∙ ap (map brings) (keep_true (may_trade close side) o (drop (at + 1) rows) t))
              ∙ w.same;
          inside = λ _. omega arith;
        }
      where
        fair : Fair o
        fair = rw (e) (each_at Fair rows free f at (omega arith))

        some : 0 < o.left
        some = omega (arith, fair.some (on_live side o (trades_on close side o t)))

  pub sought_all :
      length rows ≤ at
      → HeadOf close side rows (shares_from close side from rows) (record { at = at; number = 0; price = 0; left = 0 })
  unfolding shares_from keep
  sought_all h =
      record {
        same =
            headed_none close side rows (record { at = at; number = 0; price = 0; left = 0 }) refl
            ∙ sym (ap (λ (l : List Order). map brings (keep (may_trade close side) l)) (drop_of_length-le rows {i = at} (omega arith)))
            ∙ w.same;
        inside = λ l. absurd (omega arith);
      }
