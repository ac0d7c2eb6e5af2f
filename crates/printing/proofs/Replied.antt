-- The lines of trades one after the other, and a reply's line from its numbers. Assumes nothing.
use Prim.Native.Nat.{ℕ, suc, ◌+◌, ◌-◌, ◌*◌, ◌≤◌, ◌<◌}
use mathlib.Core.Path.{◌≡◌, refl, sym, ap, ◌∙◌}
use mathlib.Core.Bool.{Bool, true, false, cond}
use mathlib.Core.List.{List, [], ◌∷◌, ◌++◌, append_assoc}
use native.Mathlib.Nat.{le_refl}
use native.Mathlib.Numerals.{add-one}
use native.Mathlib.Omega.{arith}
use lib.Dec.{eqb}
use lib.ListN.{length, take, drop, get_or, length-append, length-map, get_or-map}
use lib.Seq.{take-suc, take-length, length-take-le}
use borrow.Author.Tests.{eq-eqb, ne_eqb}
use Rattle.model.specs.declared.Trade.{Trade}
use Rattle.model.specs.declared.OpenReply as OpenReply
use Rattle.model.specs.declared.OrderReply as OrderReply
use Rattle.model.specs.declared.CancelReply as CancelReply
use Rattle.model.specs.declared.ClockReply as ClockReply
use Rattle.model.specs.Replies.{entry_numbers, open_numbers, clock_numbers, order_numbers, cancel_numbers}
use Rattle.model.specs.Lines.{reply, refusal_line, trade_lines, reply_line, open_line, clock_line, order_line, with_number, cancel_line}
use Rattle.printing.specs.Printing.{Wrote}
use Rattle.printing.proofs.Printed.{nothing_put, and_then, put_as, reply_fits}
use Rattle.model.specs.Matching.{no_trade}
use Rattle.model.specs.declared.Order.{Order}

-- ---- trades

trades_more : (ts : List Trade) (t : Trade) → trade_lines (ts ++ (t ∷ [])) ≡ trade_lines ts ++ trade_lines (t ∷ [])
unfolding trade_lines
trades_more [] t = refl
trades_more (u ∷ ts) t = rw (trades_more ts t, append_assoc)

pub trades_fit : (ts : List Trade) → length (trade_lines ts) ≤ 128 * length ts
unfolding trade_lines
trades_fit [] = le_refl 0
trades_fit (t ∷ ts) =
    let g = trades_fit ts in
    let h = reply_fits 77 (t.price ∷ t.quantity ∷ t.buyer ∷ t.seller ∷ t.buyerleft ∷ t.sellerleft ∷ []) in
    rw length-append (omega arith)

pub trades_start : (ts : List Trade) {out : List ℕ} {p : ℕ} → Wrote out p (trade_lines (take 0 ts)) out p
unfolding trade_lines
trades_start ts = nothing_put

-- the next trade after those that are put
module _
    (rows : List Trade) {out₀ : List ℕ} {p₀ : ℕ} {out : List ℕ} {p : ℕ} (i : ℕ)
    (w : Wrote out₀ p₀ (trade_lines (take i rows)) out p) where
  pub trades_room : i ≤ length rows → p ≤ p₀ + 128 * i
  trades_room h =
      let l : length (take i rows) ≡ i = length-take-le i rows (h) in
      omega (arith, w.place, trades_fit (take i rows))

  pub trades_on :
      i < length rows
      → (t : Trade)
      → t ≡ get_or rows i no_trade
      → {out' : List ℕ} {p' : ℕ}
      → Wrote out p (trade_lines (t ∷ [])) out' p'
      → Wrote out₀ p₀ (trade_lines (take (i + 1) rows)) out' p'
  trades_on h t e v =
      let k : i < length rows = h in
      let f : take (i + 1) rows ≡ take i rows ++ (t ∷ []) =
      rw (add-one, take-suc rows i no_trade k, e)
      in
      put_as (sym (ap trade_lines f ∙ trades_more (take i rows) t)) (and_then w v)

-- ---- replies

-- a reply's line never needs more than 110 bytes
pub refusal_fits : (n : ℕ) → length (refusal_line n) ≤ 110
unfolding refusal_line
refusal_fits n = let h = reply_fits 88 (n ∷ []) in omega arith

pub answer_fits : (c n : ℕ) (values : List ℕ) → length values ≤ 5 → length (reply_line c (n ∷ values)) ≤ 110
unfolding reply_line
answer_fits c n values h = go (eqb n 0)
  where
    go : (t : Bool) → length (cond t (reply c values) (refusal_line n)) ≤ 110
    go true = let f = reply_fits c values in omega arith
    go false = refusal_fits n

pub open_fits : (told : OpenReply.OpenReply) → length (open_line told) ≤ 110
unfolding open_line open_numbers
open_fits (OpenReply.TheVariants.Refused n) = answer_fits 68 n [] (omega arith)
open_fits (OpenReply.TheVariants.Opened d) = answer_fits 68 0 [] (omega arith)

pub clock_fits : (told : ClockReply.ClockReply) → length (clock_line told) ≤ 110
unfolding clock_line clock_numbers
clock_fits (ClockReply.TheVariants.Refused n) = answer_fits 75 n (0 ∷ 0 ∷ []) (omega arith)
clock_fits (ClockReply.TheVariants.Moved phase trades) = answer_fits 75 0 (phase ∷ trades ∷ []) (omega arith)

pub order_fits : (told : OrderReply.OrderReply) → length (order_line told) ≤ 110
unfolding order_line order_numbers entry_numbers
order_fits (OrderReply.TheVariants.Refused n) = answer_fits 65 n (0 ∷ 0 ∷ 0 ∷ 0 ∷ 0 ∷ []) (omega arith)
order_fits (OrderReply.TheVariants.Accepted e) = answer_fits 65 0 (entry_numbers e) (omega arith)

pub cancel_fits : (number : ℕ) (told : CancelReply.CancelReply) → length (cancel_line number told) ≤ 110
unfolding cancel_line cancel_numbers with_number
cancel_fits number (CancelReply.TheVariants.Refused n) = answer_fits 87 n (number ∷ 0 ∷ []) (omega arith)
cancel_fits number (CancelReply.TheVariants.Withdrawn q) = answer_fits 87 0 (number ∷ q ∷ []) (omega arith)

-- a reply that is accepted is its letter with the values, any other its refusal
pub accepted_line :
    (c : ℕ) (ns : List ℕ)
    → 1 ≤ length ns
    → get_or ns 0 0 ≡ 0
    → reply c (take (length ns - 1) (drop 1 ns)) ≡ reply_line c ns
unfolding reply_line
accepted_line c [] h e = absurd (omega arith)
accepted_line c (n ∷ values) h e =
    let l : suc (length values) - 1 ≡ length values = omega arith in rw (eq-eqb n 0 e, l, take-length values)

pub refused_line_lem : (c : ℕ) (ns : List ℕ) → 1 ≤ length ns → (get_or ns 0 0 ≡ 0 → ⊥) → refusal_line (get_or ns 0 0) ≡ reply_line c ns
unfolding reply_line
refused_line_lem c [] h e = absurd (omega arith)
refused_line_lem c (n ∷ values) h e = rw (ne_eqb n 0 e)

-- a reply's line from its numbers
module _ {ns : List ℕ} where
  pub open_line_lem : (told : OpenReply.OpenReply) → ns ≡ open_numbers told → reply_line 68 ns ≡ open_line told
  unfolding open_line
  open_line_lem told e = rw e

  pub clock_line_lem : (told : ClockReply.ClockReply) → ns ≡ clock_numbers told → reply_line 75 ns ≡ clock_line told
  unfolding clock_line
  clock_line_lem told e = rw e

  pub order_line_lem : (told : OrderReply.OrderReply) → ns ≡ order_numbers told → reply_line 65 ns ≡ order_line told
  unfolding order_line
  order_line_lem told e = rw e

  pub cancel_line_lem :
      (number : ℕ) (told : CancelReply.CancelReply)
      → ns ≡ cancel_numbers told
      → reply_line 87 (get_or ns 0 0 ∷ number ∷ get_or ns 1 0 ∷ []) ≡ cancel_line number told
  unfolding cancel_line cancel_numbers with_number
  cancel_line_lem number told e = rw e (go told)
    where
      go : (told : CancelReply.CancelReply) → reply_line 87 (get_or (cancel_numbers told) 0 0 ∷ number ∷ get_or (cancel_numbers told) 1 0 ∷ []) ≡ reply_line 87 (with_number number (cancel_numbers told))
      go (CancelReply.TheVariants.Refused n) = refl
      go (CancelReply.TheVariants.Withdrawn q) = refl
