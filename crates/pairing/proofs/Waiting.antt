-- What the volume that is left grants to those who are still to trade on a side, as the loop goes on.
use Prim.Native.Nat.{ℕ, ◌+◌, ◌-◌, ◌≤◌, ◌<◌}
use mathlib.Core.Path.{◌≡◌, refl, sym, ap, ◌∙◌}
use mathlib.Core.List.{List, [], ◌∷◌}
use mathlib.Core.Logic.{inl, inr}
use native.Mathlib.Decide.{dec_lt}
use native.Mathlib.Omega.{arith}
use lib.ListN.{length, take}
use Rattle.model.specs.declared.Order.{Order}
use Rattle.model.specs.Lists.{total}
use Rattle.model.specs.Pairing.{Share, cut, head_less}
use Rattle.book.specs.declared.Head.{Head}
use Rattle.model.specs.Words.{Each}
use Rattle.book.specs.Lines.{line}
use Rattle.book.specs.Heads.{head_of, as_order, waiting}
use Rattle.book.proofs.Lines.{line_end}
use Rattle.book.proofs.Waiting.{waiting_some, waiting_none, behind, Placed, then_waiting, less, then_some, then_next}
use Rattle.auction.proofs.Walks.{Goes, goes}
use Rattle.pairing.specs.Dealing.{share_of}
use Rattle.pairing.proofs.Turns.{head_stays, head_goes, cut_some, cut_nothing}

unfoldable pub shares : List Order → ℕ
shares os = total (λ o. o.left) os

shares_none : shares [] ≡ 0
unfolding shares total
shares_none = refl

cut_head :
    (v : ℕ) (h : Head) (os : List Order)
    → 0 < v
    → cut v (as_order h ∷ os) ≡ share_of v h ∷ cut (v - h.left) os
unfolding as_order
cut_head v h os a = cut_some v (as_order h) os a

head_holds : (h : Head) (os : List Order) → shares (as_order h ∷ os) ≡ h.left + shares os
unfolding as_order shares total
head_holds h os = refl

-- an order as a head is granted and holds the same
abbrev headed : ℕ → Order → Head
headed at o = record { at = at; number = o.number; price = o.price; left = o.left }

headed_cut : (v at : ℕ) (o : Order) (os : List Order) → cut v (as_order (headed at o) ∷ os) ≡ cut v (o ∷ os)
unfolding as_order cut
headed_cut v at o os = refl

headed_shares : (at : ℕ) (o : Order) (os : List Order) → shares (as_order (headed at o) ∷ os) ≡ shares (o ∷ os)
unfolding as_order shares total
headed_shares at o os = refl

alike :
    (n whole : ℕ) (os : List Order) {a b v w : ℕ}
    → a ≡ b
    → v ≡ w
    → record { number = n; left = a; whole = whole } ∷ cut v os ≡ record { number = n; left = b; whole = whole } ∷ cut w os
alike n whole os e f = rw (e, f)

module _ (end : ℕ) (rows : List Order) (short : end ≤ length rows) (full : Each (λ o. 1 ≤ o.left) (take end rows)) where
  -- the first from a place on and those behind it are all from there on
  pub head_cut : (at v : ℕ) → cut v (waiting (head_of at (line at end rows)) (line (at + 1) end rows)) ≡ cut v (line at end rows)
  head_cut at v = go (goes end rows short full at)
    where
      go : Goes end rows short full at → cut v (waiting (head_of at (line at end rows)) (line (at + 1) end rows)) ≡ cut v (line at end rows)
      go (inl k) = ap (cut v) (k.1 ∙ sym k.0)
      go (inr k) = ap (cut v) k.2 ∙ headed_cut v at k.0 (line (at + 1) end rows) ∙ sym (ap (cut v) k.1)

  pub head_shares : (at : ℕ) → shares (waiting (head_of at (line at end rows)) (line (at + 1) end rows)) ≡ shares (line at end rows)
  head_shares at = go (goes end rows short full at)
    where
      go : Goes end rows short full at → shares (waiting (head_of at (line at end rows)) (line (at + 1) end rows)) ≡ shares (line at end rows)
      go (inl k) = ap shares (k.1 ∙ sym k.0)
      go (inr k) = ap shares k.2 ∙ headed_shares at k.0 (line (at + 1) end rows) ∙ sym (ap shares k.1)

  -- ---- a head that trades q
  module _ (q : ℕ) (h : Head) where
    abbrev os : List Order
    os = behind end rows short full h

    abbrev then : List Order
    then = then_waiting end rows short full q h

    abbrev rest : Head
    rest = less end rows short full q h

    -- what is granted to the head, less what it trades, is what the rest of the volume grants to the rest of the side
    pub past_cut :
        (v : ℕ)
        → 0 < v
        → q ≤ v
        → q ≤ h.left
        → head_less q (share_of v h) (cut (v - h.left) os) ≡ cut (v - q) then
    past_cut v a b c =
        let s : Share = share_of v h in
        elim (dec_lt q h.left) [
          | yes l ↦ elim (dec_lt q v) [
            | yes m ↦
                head_stays q s (cut (v - h.left) os) (omega arith)
                ∙ alike h.number (h.left - q) os (omega arith) (omega arith)
                ∙ sym (ap (cut (v - q)) (then_some end rows short full q h l) ∙ cut_head (v - q) rest os (omega arith))
            | no m ↦
                let z : v - h.left ≡ 0 = omega arith in
                let y : v - q ≡ 0 = omega arith in
                head_goes q s (cut (v - h.left) os) (omega arith)
                ∙ ap (λ n. cut n os) z
                ∙ cut_nothing os
                ∙ sym (ap (λ n. cut n then) y ∙ cut_nothing then)
          ]
          | no l ↦
              let z : v - h.left ≡ v - q = omega arith in
              head_goes q s (cut (v - h.left) os) (omega arith)
              ∙ ap (λ n. cut n os) z
              ∙ sym (ap (cut (v - q)) (then_next end rows short full q h (omega arith)) ∙ head_cut (h.at + 1) (v - q))
        ]

    pub past_shares : (v : ℕ) → 0 < h.left → q ≤ h.left → v ≤ shares (waiting h os) → v - q ≤ shares then
    past_shares v a b c =
        let now : shares (waiting h os) ≡ h.left + shares os = ap shares (waiting_some h os a) ∙ head_holds h os in
        elim (dec_lt q h.left) [
          | yes l ↦ omega (arith, ap shares (then_some end rows short full q h l), head_holds rest os)
          | no l ↦ omega (arith, ap shares (then_next end rows short full q h (omega arith)), head_shares (h.at + 1))
        ]

  -- some shares are still to trade: so the head has some, and stands before the end
  pub head_ready :
      (v : ℕ) (h : Head)
      → 0 < v
      → v ≤ shares (waiting h (line (h.at + 1) end rows))
      → Placed end rows short full h
      → (0 < h.left) × (h.at < end)
  head_ready v h a b (inl p) = p
  head_ready v h a b (inr p) =
      absurd
      (omega (
        arith,
        ap shares (waiting_none h (line (h.at + 1) end rows) (omega (arith, p.0))),
        ap shares (line_end (h.at + 1) end rows (omega (arith, p.1))),
        shares_none,
      ))

  pub waiting_cut :
      (v : ℕ) (h : Head)
      → 0 < v
      → 0 < h.left
      → cut v (waiting h (line (h.at + 1) end rows)) ≡ share_of v h ∷ cut (v - h.left) (line (h.at + 1) end rows)
  waiting_cut v h a b =
      ap (cut v) (waiting_some h (line (h.at + 1) end rows) b) ∙ cut_head v h (line (h.at + 1) end rows) a
