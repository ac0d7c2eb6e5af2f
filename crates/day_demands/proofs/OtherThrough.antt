-- From one day and its other lists to a later one, over events with these trades and these accepted orders or declarations: without any,
-- and one after the other. Assumes nothing.
use Prim.Native.Nat.{ℕ, ◌+◌, ◌*◌}
use mathlib.Core.Path.{◌≡◌, refl}
use mathlib.Core.List.{List, [], ◌++◌, append_assoc}
use native.Mathlib.Omega.{arith}
use Rattle.model.specs.declared.Order.{Order}
use Rattle.model.specs.declared.Declaration.{Declaration}
use Rattle.model.specs.declared.Trade.{Trade}
use Rattle.model.specs.declared.Fixed.{Fixed}
use Rattle.model.specs.declared.Blocks.{Blocks}
use Rattle.model.specs.Lists.{total}
use Rattle.model.specs.Matching.{filled}
use Rattle.model.specs.Figures.{money}
use Rattle.model.specs.Words.{Some}
use Rattle.book.proofs.Lists.{each}
use Rattle.demands.specs.Running.{Owner}
use Rattle.demands.proofs.Elements.{some_left}
use Rattle.demands.proofs.Tallied.{total_append}
use Rattle.demands.proofs.Issued.{Counts, counts_none, counts_join}
use Rattle.demands.proofs.Owned.{Owned, more}
use Rattle.day_demands.specs.Running.{Fate, nothing, Was, AllWere}

-- ---- trades behind others

pub filled_append : (ts us : List Trade) → filled (ts ++ us) ≡ filled ts + filled us
unfolding filled
filled_append ts us = total_append (λ (t : Trade). t.quantity) ts us

pub money_append : (ts us : List Trade) → money (ts ++ us) ≡ money ts + money us
unfolding money
money_append ts us = total_append (λ (t : Trade). t.price * t.quantity) ts us

no_shares : filled [] ≡ 0
unfolding filled total
no_shares = refl

no_money : money [] ≡ 0
unfolding money total
no_money = refl

-- ---- the fixed-price book

abbrev pub resting : List Order → ℕ
resting book = total (λ (o : Order). o.left) book

-- what became of the shares of two runs together
abbrev pub both : Fate → Fate → Fate
both f g =
    record {
      entered = f.entered + g.entered;
      cancelled = f.cancelled + g.cancelled;
      void = f.void + g.void;
      lapsed = f.lapsed + g.lapsed;
    }

pub record FixedThrough (d e : Fixed) (book after : List Order) (ts : List Trade) (ws : List Owner) (f : Fate) : Type 0 where
  pub counts : Counts d.issued e.issued ws
  pub owned : (vs : List Owner) → Owned vs book → Owned (vs ++ ws) after
  pub shares : e.shares ≡ d.shares + filled ts
  pub money : e.money ≡ d.money + money ts
  pub adds_up : 2 * filled ts + resting after + f.void + f.cancelled + f.lapsed ≡ f.entered + resting book

pub fixed_then :
    (d e k : Fixed) (a b c : List Order) (ts us : List Trade) (ws vs : List Owner) (f g : Fate)
    → FixedThrough d e a b ts ws f
    → FixedThrough e k b c us vs g
    → FixedThrough d k a c (ts ++ us) (ws ++ vs) (both f g)
fixed_then d e k a b c ts us ws vs f g x y =
    record {
      counts = counts_join d.issued e.issued k.issued ws vs x.counts y.counts;
      owned = λ os h. rw (← append_assoc os ws vs) (y.owned (os ++ ws) (x.owned os h));
      shares = omega (arith, x.shares, y.shares, filled_append ts us);
      money = omega (arith, x.money, y.money, money_append ts us);
      adds_up = omega (arith, x.adds_up, y.adds_up, filled_append ts us);
    }

pub fixed_still : (d : Fixed) (book : List Order) → FixedThrough d d book book [] [] nothing
unfolding nothing
fixed_still d book =
    record {
      counts = counts_none d.issued d.issued refl;
      owned = λ vs h. more vs [] book h;
      shares = omega (arith, no_shares);
      money = omega (arith, no_money);
      adds_up = omega (arith, no_shares);
    }

-- ---- declarations

-- a declaration is one of these, where the place is not free
abbrev pub Meant : List Owner → Declaration → Type 0
Meant ws x = (x.number ≡ 0 → ⊥) → Some (Was x) ws

pub more_meant : (ws vs : List Owner) (held : List Declaration) → AllWere ws held → AllWere (ws ++ vs) held
more_meant ws vs held = each (Meant ws) (Meant (ws ++ vs)) held (λ x h n. some_left (Was x) ws vs (h n))

pub record BlocksThrough (d e : Blocks) (held after : List Declaration) (ts : List Trade) (ws : List Owner) : Type 0 where
  pub counts : Counts d.issued e.issued ws
  pub meant : (vs : List Owner) → AllWere vs held → AllWere (vs ++ ws) after
  pub shares : e.shares ≡ d.shares + filled ts

pub blocks_then :
    (d e k : Blocks) (a b c : List Declaration) (ts us : List Trade) (ws vs : List Owner)
    → BlocksThrough d e a b ts ws
    → BlocksThrough e k b c us vs
    → BlocksThrough d k a c (ts ++ us) (ws ++ vs)
blocks_then d e k a b c ts us ws vs x y =
    record {
      counts = counts_join d.issued e.issued k.issued ws vs x.counts y.counts;
      meant = λ os h. rw (← append_assoc os ws vs) (y.meant (os ++ ws) (x.meant os h));
      shares = omega (arith, x.shares, y.shares, filled_append ts us);
    }

pub blocks_still : (d : Blocks) (held : List Declaration) → BlocksThrough d d held held [] []
blocks_still d held =
    record {
      counts = counts_none d.issued d.issued refl;
      meant = λ vs h. more_meant vs [] held h;
      shares = omega (arith, no_shares);
    }
