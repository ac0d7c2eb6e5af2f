-- A book and the same orders arranged: their queues are the same, and so is all that counts or tests orders wherever they stand.
use Prim.Native.Nat.{ℕ, zero, suc, ◌+◌, ◌≤◌}
use mathlib.Core.Path.{◌≡◌, refl, sym, ap, ◌∙◌}
use mathlib.Core.Bool.{Bool, true, false, cond, not}
use mathlib.Core.List.{List, [], map}
use mathlib.Core.Logic.{inl, inr}
use native.Mathlib.Decide.{dec_lt}
use native.Mathlib.Omega.{arith}
use lib.ListN.{length, replicate, length-replicate}
use Rattle.model.specs.declared.Order.{Order}
use Rattle.model.specs.declared.Trade.{Trade}
use Rattle.model.specs.Lists.{keep, all, any, total}
use Rattle.model.specs.Book.{free, is_live, stands_on, in_priority, queue, arranged}
use Rattle.model.specs.Matching.{settle}
use Rattle.model.specs.Sound.{has_places}
use Rattle.model.specs.Calls.{Outcome, cleared}
use Rattle.model.proofs.Bools.{not_both, not_true_false}
use Rattle.model.specs.Words.{Each}
use Rattle.book.specs.Standing.{Fair, Standing}
use Rattle.book.proofs.Lists.{both, each, keep_none}
use Rattle.book.proofs.Queues.{Place, place_of, on_side}
use Rattle.book.proofs.Best.{each_on, on_each}
use Rattle.book.proofs.Kept.{after, standing_settle, standing_cleared}
use Rattle.book.proofs.Thinning.{queue_settled}
use Rattle.book.proofs.Parts.{keep_frees, take_frees}
use Rattle.book.proofs.Counting.{orders, queues_orders, queues_fit, full, not_full}
use Rattle.book.proofs.Arranging.{same_arranged, cleared_frees, arranged_buys, arranged_sells, arranged_length, arranged_stands, each_arranged, total_arranged}
use Rattle.soundness.proofs.Says.{says_itself, says_none, says_same}
use Rattle.demands.proofs.Settled.{settle_length}
use Rattle.demands.proofs.SameQueues.{Alike}

-- two choices by one test
pub either :
    {A B : Type 0} (R : A → B → Type 0) (b : Bool) {x z : A} {y w : B}
    → (b ≡ true → R x y)
    → R z w
    → R (cond b x z) (cond b y w)
either R true f r = f refl
either R false f r = r

-- the older book o, and c with its orders arranged in as many places
pub record Twin (n : ℕ) (o c : List Order) : Type 0 where
  pub stands : Standing o
  pub long : length o ≡ n
  pub made : c ≡ arranged n o

-- two outcomes that are answered alike, and whose books are twins
pub record Agree {A : Type 0} (n : ℕ) (x y : Outcome A) : Type 0 where
  pub answer : x.answer ≡ y.answer
  pub book : Twin n x.book y.book
  pub trades : x.trades ≡ y.trades

-- orders that have its queues, arranged
pub twin_of :
    {n : ℕ} (o os : List Order)
    → Standing o
    → length o ≡ n
    → Alike os o
    → Twin n o (arranged n os)
twin_of {n} o os s l e = record { stands = s; long = l; made = same_arranged n os o (e 0) (e 1) }

-- nobody stands on a third side
no_queue : (side : ℕ) (book : List Order) → 2 ≤ side → Each Fair book → queue side book ≡ []
unfolding queue in_priority
no_queue side book h f =
    ap (in_priority side)
    (keep_none (stands_on side) book
    (each Fair (λ x. stands_on side x ≡ false) book
    (λ x k. not_true_false (λ e. omega (arith, k.side, on_side side x e))) f))

-- what each order of the queues has, each place has
each_place :
    (P : Order → Type 0) (book : List Order)
    → Each Fair book
    → P free
    → Each (λ x. stands_on 0 x ≡ true → P x) book
    → Each (λ x. stands_on 1 x ≡ true → P x) book
    → Each P book
each_place P book f h buys sells =
    both Fair (λ x. (stands_on 0 x ≡ true → P x) × (stands_on 1 x ≡ true → P x)) P book (λ x k g. go x k g (place_of x k)) f
    (both (λ x. stands_on 0 x ≡ true → P x) (λ x. stands_on 1 x ≡ true → P x)
    (λ x. (stands_on 0 x ≡ true → P x) × (stands_on 1 x ≡ true → P x)) book (λ x a b. (a, b)) buys sells)
  where
    go : (x : Order) → Fair x → (stands_on 0 x ≡ true → P x) × (stands_on 1 x ≡ true → P x) → Place x → P x
    go x k g (inl e) = g.0 e.0
    go x k g (inr (inl e)) = g.1 e.1
    go x k g (inr (inr e)) = rw (k.none e.2) h

module _ {n : ℕ} {o c : List Order} (t : Twin n o c) where
  fit : length (queue 0 o) + length (queue 1 o) ≤ n
  fit = omega (arith, queues_fit o t.stands.fair, t.long)

  pub twin_stands : Standing c
  twin_stands = rw t.made (arranged_stands n o t.stands fit)

  pub twin_length : length c ≡ n
  twin_length = ap length t.made ∙ arranged_length n o

  pub twin_alike : Alike o c
  twin_alike zero = sym (ap (queue 0) t.made ∙ arranged_buys n o t.stands fit)
  twin_alike (suc zero) = sym (ap (queue 1) t.made ∙ arranged_sells n o t.stands fit)
  twin_alike (suc (suc side)) =
      no_queue (suc (suc side)) o (omega arith) t.stands.fair
      ∙ sym (no_queue (suc (suc side)) c (omega arith) twin_stands.fair)

  pub twin_places : has_places o ≡ has_places c
  unfolding has_places
  twin_places = rw (t.long, twin_length)

  -- ---- what each has, either way

  pub twin_each : (P : Order → Type 0) → P free → Each P c → Each P o
  twin_each P h e = each_place P o t.stands.fair h (on 0) (on 1)
    where
      on : (side : ℕ) → Each (λ x. stands_on side x ≡ true → P x) o
      on side =
          each_on P side o
          (rw (twin_alike side) (on_each P side c (each P (λ x. stands_on side x ≡ true → P x) c (λ x k g. k) e)))

  pub twin_none : (p : Order → Bool) → p free ≡ false → not (any p o) ≡ not (any p c)
  twin_none p f =
      says_same
      (λ e. rw t.made (each_arranged (λ x. p x ≡ true → ⊥) n o no e))
      (twin_each (λ x. p x ≡ true → ⊥) no)
      (says_none p (λ x. p x ≡ true) (λ x. says_itself (p x)) o)
      (says_none p (λ x. p x ≡ true) (λ x. says_itself (p x)) c)
    where
      no : p free ≡ true → ⊥
      no e = not_both e f

  -- ---- what is counted

  pub twin_total : (f : Order → ℕ) → f free ≡ 0 → total f o ≡ total f c
  twin_total f z = sym (ap (total f) t.made ∙ total_arranged n o t.stands fit f z)

  pub twin_full : all is_live o ≡ all is_live c
  twin_full = elim (dec_lt (orders o) n) [
    | yes l ↦
        not_full o (omega (arith, t.long)) ∙ sym (not_full c (omega (arith, twin_length, same)))
    | no l ↦ full o (omega (arith, t.long)) ∙ sym (full c (omega (arith, twin_length, same)))
  ]
    where
      same : orders o ≡ orders c
      same =
          sym (queues_orders o t.stands.fair)
          ∙ rw (twin_alike 0, twin_alike 1) (queues_orders c twin_stands.fair)

-- ---- after trades, and cleared

pub settled_alike : (ts : List Trade) (o c : List Order) → Standing o → Standing c → Alike o c → Alike (settle ts o) (settle ts c)
settled_alike ts o c s u e side =
    queue_settled ts side o s
    ∙ ap (λ (q : List Order). keep is_live (map (after ts) q)) (e side)
    ∙ sym (queue_settled ts side c u)

pub settled_twin :
    {n : ℕ} {o c : List Order} (ts : List Trade)
    → Twin n o c
    → Twin n (settle ts o) (arranged n (settle ts c))
settled_twin {n} {o} {c} ts t =
    twin_of (settle ts o) (settle ts c) (standing_settle ts o t.stands) (settle_length ts o ∙ t.long)
    (λ side. sym (settled_alike ts o c t.stands (twin_stands t) (twin_alike t) side))

frees_arranged : (n : ℕ) → arranged n (replicate n free) ≡ replicate n free
unfolding arranged queue in_priority
frees_arranged n = rw (keep_frees 0 n, keep_frees 1 n) (take_frees n n (omega arith))

pub cleared_twin : {n : ℕ} {o c : List Order} → Twin n o c → Twin n (cleared o) (cleared c)
cleared_twin {n} {o} {c} t =
    let older : cleared o ≡ replicate n free = cleared_frees o ∙ rw t.long in
    let newer : cleared c ≡ replicate n free = cleared_frees c ∙ rw (twin_length t) in
    record {
      stands = standing_cleared o;
      long = ap length older ∙ length-replicate n free;
      made = newer ∙ sym (ap (arranged n) older ∙ frees_arranged n);
    }
