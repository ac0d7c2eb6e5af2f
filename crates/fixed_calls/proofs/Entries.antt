-- An accepted fixed-price order: its number, the day with it, and its reply. Assumes nothing.
use Rattle.std.specs.Prelude.{if◌then◌else◌}
use Prim.Native.Nat.{ℕ, suc, ◌+◌, ◌-◌}
use mathlib.Core.Path.{◌≡◌, refl, sym, ap, ◌∙◌}
use mathlib.Core.Bool.{false, not}
use mathlib.Core.List.{List, [], ◌∷◌, map}
use native.Mathlib.Numerals.{add-one}
use native.Mathlib.Omega.{arith}
use lib.ListN.{length}
use lib.Dec.{eqb}
use borrow.Author.Tests.{eq-eqb, ne_eqb}
use Rattle.model.specs.declared.AskedFixed.{AskedFixed}
use Rattle.model.specs.declared.Trade.{Trade}
use Rattle.model.specs.declared.Day.{Day}
use Rattle.model.specs.declared.Remainder.{Remainder}
use Rattle.model.specs.declared.Remainder.TheVariants.{Nothing, Rests}
use Rattle.model.specs.Lists.{once, different}
use Rattle.model.specs.Matching.{filled, levels}
use Rattle.model.specs.Figures.{next_fixed, with_fixed_figures, issue_fixed}
use Rattle.model.specs.Calls.{ended}
use Rattle.model.specs.Words.{Each}
use Rattle.book.specs.declared.Dealt.{Dealt}
use Rattle.book.specs.Deals.{dealt}
use Rattle.book.proofs.Lists.{each, each_keep, keep_none}
use Rattle.fixed_book.specs.Asked.{incoming}
use Rattle.fixed_calls.specs.Entries.{entry_of}

-- ---- its number

pub next_number_lem : (d : Day) → d.fixed.issued + 1 ≡ next_fixed d
unfolding next_fixed
next_number_lem d = add-one d.fixed.issued

pub issued_one :
    (d : Day)
    → with_fixed_figures (record { issued = d.fixed.issued + 1; shares = d.fixed.shares; money = d.fixed.money }) d
    ≡ issue_fixed d
unfolding issue_fixed
issued_one d = rw (next_number_lem d)

pub incoming_is :
    (d : Day) (a : AskedFixed)
    → record {
      side = a.side;
      account = a.account;
      left = a.quantity;
      price = a.price;
      number = d.fixed.issued + 1;
    }
    ≡ incoming d a
incoming_is d a = rw (next_number_lem d)

-- ---- its reply

pub nothing_left : (q : ℕ) → q ≡ 0 → (p : ℕ) → (p ≡ 0 → ⊥) → Nothing ≡ ended q p
unfolding ended
nothing_left q z p n = rw (eq-eqb q 0 z)

pub some_left : (q : ℕ) → (q ≡ 0 → ⊥) → (p : ℕ) → (p ≡ 0 → ⊥) → Rests q ≡ ended q p
unfolding ended
some_left q z p n = rw (ne_eqb q 0 z, ne_eqb p 0 n)

pub entry_is :
    (d : Day) (a : AskedFixed) (made shares : ℕ) {l : ℕ} {rest : Remainder}
    → l ≡ (if eqb made 0 then 0 else 1)
    → rest ≡ ended (a.quantity - shares) a.price
    → record { number = d.fixed.issued + 1; filled = shares; levels = l; remainder = rest } ≡ entry_of d a made shares
unfolding entry_of
entry_is d a made shares e f = rw (next_number_lem d, e, f)

-- ---- trades at one price

once_each : (P : ℕ → Type 0) (xs : List ℕ) → Each P xs → Each P (once xs)
unfolding once
once_each P [] e = tt
once_each P (x ∷ xs) e = (e.0, each_keep P (λ y. not (eqb x y)) (once xs) (once_each P xs e.1))

prices_each : (p : ℕ) (ts : List Trade) → Each (λ t. t.price ≡ p) ts → Each (λ n. n ≡ p) (map (λ (t : Trade). t.price) ts)
prices_each p [] e = tt
prices_each p (t ∷ ts) e = (e.0, prices_each p ts e.1)

pub one_level : (p : ℕ) (ts : List Trade) → Each (λ t. t.price ≡ p) ts → levels ts ≡ (if eqb (length ts) 0 then 0 else 1)
unfolding levels different once
one_level p [] e = refl
one_level p (t ∷ ts) e =
    let some : eqb (suc (length ts)) 0 ≡ false = ne_eqb (suc (length ts)) 0 (λ z. omega (arith, z)) in
    rw some
    (ap (λ (l : List ℕ). suc (length l))
    (keep_none (λ y. not (eqb t.price y)) (once (map (λ (x : Trade). x.price) ts))
    (each (λ y. y ≡ p) (λ y. not (eqb t.price y) ≡ false) (once (map (λ (x : Trade). x.price) ts)) (λ y h. ap not (eq-eqb t.price y (e.0 ∙ sym h)))
    (once_each (λ y. y ≡ p) (map (λ (x : Trade). x.price) ts) (prices_each p ts e.1)))))

-- the shares that a run of trades is of
pub shares_dealt : (ts : List Trade) {c : Dealt} → c ≡ dealt ts → c.shares ≡ filled ts
unfolding dealt
shares_dealt ts e = ap (λ (x : Dealt). x.shares) e
