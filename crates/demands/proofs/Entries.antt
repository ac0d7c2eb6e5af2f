-- One accepted order: what matching's laws say of its trades, in the words of the demand. Assumes nothing.
use Rattle.std.specs.Prelude.{if◌then◌else◌}
use Prim.Native.Nat.{ℕ, ◌+◌, ◌-◌}
use mathlib.Core.Path.{◌≡◌, refl, ap}
use mathlib.Core.Bool.{Bool, true, false, cond, ◌&&◌}
use mathlib.Core.List.{List, [], ◌∷◌, map}
use native.Mathlib.Omega.{arith}
use lib.ListN.{length, take}
use lib.Dec.{ltb, eqb}
use borrow.Author.Tests.{eqb-true}
use Rattle.model.specs.declared.Order.{Order}
use Rattle.model.specs.declared.Asked.{Asked}
use Rattle.model.specs.declared.Trade.{Trade}
use Rattle.model.specs.declared.Taker.{Taker}
use Rattle.model.specs.declared.Entry.{Entry}
use Rattle.model.specs.declared.Day.{Day}
use Rattle.model.specs.declared.Remainder.TheVariants.{Nothing, Rests, Withdrawn}
use Rattle.model.specs.declared.OrderReply as OrderReply
use Rattle.model.specs.declared.OrderAnswer.{OrderAnswer}
use Rattle.model.specs.Book.{stands_on, other, arranged}
use Rattle.model.specs.Matching.{meets, trade_with, sweep, filled, levels, settle}
use Rattle.model.specs.Figures.{next_number}
use Rattle.model.specs.Entry.{opposite, entry_trades, rest_price}
use Rattle.model.specs.Replies.{resting_of, withdrawn_of}
use Rattle.model.specs.Calls.{Outcome, ended, joined, entered, order_call}
use Rattle.model.specs.Words.{Each, Some}
use Rattle.book.proofs.Lists.{each}
use Rattle.matching.proofs.Trades.{Deal}
use Rattle.matching.proofs.EntryLaws.{entry_cases, taker, entry_filled, entry_levels, entry_deals, entry_allowed, rest_limit}
use Rattle.demands.specs.Entering.{With, InPriority, Accepted}
use Rattle.demands.proofs.Elements.{some_map}
use Rattle.demands.proofs.Cases.{order_cases}
use Rattle.demands.proofs.Entered.{Allowed, allowed}

-- ---- whom it trades with, in which order

abbrev partner : Taker → Trade → ℕ
partner t r = if eqb t.side 0 then r.seller else r.buyer

trade_partner : (t : Taker) (q : ℕ) (o : Order) → partner t (trade_with t q o) ≡ o.number
unfolding trade_with
trade_partner t q o = go (eqb t.side 0)
  where
    go : (b : Bool) → cond b (cond b o.number t.number) (cond b t.number o.number) ≡ o.number
    go true = refl
    go false = refl

sweep_partners :
    (t : Taker) (q : ℕ) (os : List Order)
    → map (partner t) (sweep t q os) ≡ take (length (sweep t q os)) (map (λ (o : Order). o.number) os)
unfolding sweep
sweep_partners t q [] = refl
sweep_partners t q (o ∷ os) =
    go (ltb 0 q && meets t.side t.limit o.price) (sweep_partners t (q - o.left) os)
  where
    go :
        (b : Bool)
        → map (partner t) (sweep t (q - o.left) os)
        ≡ take (length (sweep t (q - o.left) os)) (map (λ (x : Order). x.number) os)
        → map (partner t) (cond b (trade_with t q o ∷ sweep t (q - o.left) os) [])
        ≡ take (length (cond b (trade_with t q o ∷ sweep t (q - o.left) os) [])) (map (λ (x : Order). x.number) (o ∷ os))
    go true e = cc (trade_partner t q o)
    go false e = refl

module _ (d : Day) (a : Asked) (book : List Order) where
  abbrev ts : List Trade
  ts = entry_trades d a book

  abbrev left : ℕ
  left = a.quantity - filled ts

  abbrev at : ℕ
  at = rest_price a ts book

  -- how what is left ends
  pub all_ends : resting_of (ended left at) + withdrawn_of (ended left at) ≡ left
  unfolding ended resting_of withdrawn_of
  all_ends = go (eqb left 0) refl (eqb at 0)
    where
      go :
          (b : Bool)
          → eqb left 0 ≡ b
          → (c : Bool)
          → resting_of (cond b Nothing (cond c (Withdrawn left) (Rests left))) + withdrawn_of (cond b Nothing (cond c (Withdrawn left) (Rests left)))
          ≡ left
      go true e c = let z : left ≡ 0 = eqb-true left 0 e in omega arith
      go false e true = omega arith
      go false e false = omega arith

  pub rests_somewhere : (resting_of (ended left at) ≡ 0 → ⊥) → at ≡ 0 → ⊥
  unfolding ended resting_of
  rests_somewhere n z = n (go (eqb left 0))
    where
      go : (b : Bool) → resting_of (cond b Nothing (cond (eqb at 0) (Withdrawn left) (Rests left))) ≡ 0
      go true = refl
      go false = rw z

  -- what rests is what joins the others
  pub joined_rests : (n : ℕ) (os : List Order) → joined a n left at os ≡ joined a n (resting_of (ended left at)) at os
  unfolding joined ended resting_of
  joined_rests n os = go (eqb left 0) refl (eqb at 0) refl
    where
      go :
          (b : Bool)
          → eqb left 0 ≡ b
          → (c : Bool)
          → eqb at 0 ≡ c
          → joined a n left at os ≡ joined a n (resting_of (cond b Nothing (cond c (Withdrawn left) (Rests left)))) at os
      go true e c f = rw (eqb-true left 0 e)
      go false e true f = rw (f, e)
      go false e false f = refl

  -- whom it trades with
  partners : Each (λ (t : Trade). Some (With a (next_number d) t) book) ts
  partners =
      each (λ (t : Trade). Some (λ o. Deal (taker d a book) o t × (stands_on (other a.side) o ≡ true)) book)
      (λ (t : Trade). Some (With a (next_number d) t) book) ts
      (λ t.
      some_map
      (λ o (k : Deal (taker d a book) o t × (stands_on (other a.side) o ≡ true)).
      record {
        opposite = k.1;
        price = k.0.price;
        quantity = k.0.quantity;
        buyer = k.0.buyer;
        seller = k.0.seller;
      })
      book)
      (entry_deals d a book)

  in_priority_lem : InPriority a book ts
  in_priority_lem =
      entry_cases d a book (λ rs. InPriority a book rs) refl (λ n. sweep_partners (taker d a book) a.quantity (opposite a book))

  abbrev pub entry : Entry
  entry = record { number = next_number d; filled = filled ts; levels = levels ts; remainder = ended left at }

  entry_accepted : (lent : List Trade) → Allowed d a book → Accepted d a book lent entry (entered d a book lent)
  unfolding entered next_number
  entry_accepted lent k =
      record {
        sized = k.sized;
        number = refl;
        made = refl;
        trades = refl;
        adds_up =
            record {
              whole = omega (arith, all_ends, entry_filled d a book);
              shares = refl;
              prices = refl;
              five = entry_levels d a book;
            };
        within_limit =
            record {
              partners = partners;
              trades = entry_allowed d a book;
              rests = λ n. rest_limit d a book (rests_somewhere n);
              book_after = ap (arranged (length book)) (joined_rests (next_number d) (settle ts book));
            };
        in_priority = in_priority_lem;
      }

-- what holds of every entry that no rule refuses holds of every accepted order
pub accepted_cases :
    (d : Day) (a : Asked) (book : List Order) (lent : List Trade) (e : Entry) (P : Entry → Outcome OrderAnswer → Type 0)
    → (Allowed d a book → P (entry d a book) (entered d a book lent))
    → (order_call d a book lent).answer.reply ≡ OrderReply.TheVariants.Accepted e
    → P e (order_call d a book lent)
accepted_cases d a book lent e P h =
    order_cases d a book lent
    (λ o. o.answer.reply ≡ OrderReply.TheVariants.Accepted e → P e o)
    (λ n r. let z : entry d a book ≡ e = same r in rw (← z) (h (allowed d a book lent n)))
    (λ _ r. absurd (apart r))
  where
    same : (entered d a book lent).answer.reply ≡ OrderReply.TheVariants.Accepted e → entry d a book ≡ e
    same r = unfold entered in cc

    apart : {n : ℕ} → OrderReply.TheVariants.Refused n ≡ OrderReply.TheVariants.Accepted e → ⊥
    apart r = let z : ◌≡◌ {A = ℕ} 0 1 = cc in omega arith

pub accepted :
    (d : Day) (a : Asked) (book : List Order) (lent : List Trade) (e : Entry)
    → (order_call d a book lent).answer.reply ≡ OrderReply.TheVariants.Accepted e
    → Accepted d a book lent e (order_call d a book lent)
accepted d a book lent e = accepted_cases d a book lent e (Accepted d a book lent) (entry_accepted d a book lent)
