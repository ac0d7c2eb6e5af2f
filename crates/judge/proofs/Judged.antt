-- What is promised of the judge, all of it (judging); a yes fixes every order's fills, and stays within what the orders have. Assumes nothing.
use Prim.Native.Nat.{ℕ, ◌≤◌}
use mathlib.Core.Path.{◌≡◌, refl, sym, ◌∙◌}
use mathlib.Core.Logic.{⊎_elim}
use mathlib.Core.Bool.{true}
use mathlib.Core.List.{List}
use native.Mathlib.Omega.{arith}
use Rattle.model.specs.declared.Order.{Order}
use Rattle.model.specs.declared.Day.{Day}
use Rattle.model.specs.Book.{is_live, stands_on, queue}
use Rattle.model.specs.Auction.{volume}
use Rattle.model.specs.Pairing.{cut}
use Rattle.model.specs.Words.{Each, granted}
use Rattle.book.specs.Standing.{Fair, Standing}
use Rattle.book.proofs.Lists.{both}
use Rattle.book.proofs.Queues.{live_number, on_side, place_of}
use Rattle.book.proofs.Best.{each_on}
use Rattle.book.proofs.Numbers.{queue_own}
use Rattle.pairing.proofs.Filling.{grants_within}
use Rattle.demands.proofs.Pricings.{sound_stands}
use Rattle.judge.specs.declared.Claim.{Claim}
use Rattle.judge.specs.declared.Verdict.{Verdict}
use Rattle.judge.specs.declared.Verdict.TheVariants.{Yes}
use Rattle.judge.specs.Judging.{claimed_for, granted_to, judge_call}
use Rattle.judge.specs.Promises.{JudgePromise}
use Rattle.judge.specs.Verdicts.{Right, Judging}
use Rattle.judge.proofs.Rightness.{refused, yes_sound, exactly}
use Rattle.judge.proofs.Own.{own}
use Rattle.judge.proofs.NoneLeft.{none_left}
use Rattle.judge.proofs.Freedoms.{any_order, any_cut}

-- ---- two lists that get a yes

yes_right : (d : Day) (p : ℕ) (book : List Order) (cs : List Claim) → judge_call d p book cs ≡ Yes → Right d p book cs
yes_right d p book cs e = (exactly d p book cs (yes_sound d p book cs e)).0 e

fixed :
    (d : Day) (p q : ℕ) (book : List Order) (cs ds : List Claim)
    → judge_call d p book cs ≡ Yes
    → judge_call d q book ds ≡ Yes
    → (p ≡ q) × Each (λ o. is_live o ≡ true → claimed_for o cs ≡ claimed_for o ds) book
fixed d p q book cs ds e f =
    let r = yes_right d p book cs e in
    let s = yes_right d q book ds f in
    let same : p ≡ q = r.left ∙ sym s.left in (
      same,
      both (λ o. is_live o ≡ true → claimed_for o cs ≡ granted_to p book o) (λ o. is_live o ≡ true → claimed_for o ds ≡ granted_to p book o)
          (λ o. is_live o ≡ true → claimed_for o cs ≡ claimed_for o ds) book (λ o x y l. x l ∙ sym (y l)) r.granted
          (rw same s.granted),
    )

-- ---- nobody is granted more than he has

module _ (p : ℕ) (book : List Order) (s : Standing book) where
  abbrev Within : ℕ → Order → Type 0
  Within side o = granted o.number (cut (volume book p) (queue side book)) ≤ o.left

  on : (side : ℕ) → Each (λ o. stands_on side o ≡ true → Within side o) book
  on side = each_on (Within side) side book (grants_within (volume book p) (queue side book) (queue_own book s side))

  granted_within : Each (λ o. is_live o ≡ true → granted_to p book o ≤ o.left) book
  unfolding granted_to
  granted_within =
      both Fair (λ o. (stands_on 0 o ≡ true → Within 0 o) × (stands_on 1 o ≡ true → Within 1 o))
      (λ o. is_live o ≡ true → granted o.number (cut (volume book p) (queue o.side book)) ≤ o.left) book
      (λ o f w l.
      ⊎_elim (λ k. rw (on_side 0 o k.0) (w.0 k.0))
      (λ m. ⊎_elim (λ k. rw (on_side 1 o k.1) (w.1 k.1)) (λ k. absurd (live_number o l k.2)) m)
      (place_of o f))
      s.fair
      (both (λ o. stands_on 0 o ≡ true → Within 0 o) (λ o. stands_on 1 o ≡ true → Within 1 o)
      (λ o. (stands_on 0 o ≡ true → Within 0 o) × (stands_on 1 o ≡ true → Within 1 o)) book (λ o x y. (x, y)) (on 0) (on 1))

never_round :
    (d : Day) (rows : List Order) (claims : List Claim) (price : ℕ)
    → JudgePromise d rows claims price Yes
    → Each (λ o. is_live o ≡ true → (claimed_for o claims ≤ o.left) × (o.left ≤ 1_000_000)) rows
never_round d rows claims price e =
    let book : List Order = rows in
    let s = sound_stands d book (yes_sound d price book claims (sym e)) in
    let r = yes_right d price book claims (sym e) in
    both (λ o. is_live o ≡ true → claimed_for o claims ≡ granted_to price book o)
    (λ o. (is_live o ≡ true → granted_to price book o ≤ o.left) × Fair o)
    (λ o. is_live o ≡ true → (claimed_for o claims ≤ o.left) × (o.left ≤ 1_000_000)) book
    (λ o x y l. let a = x l in let b = y.0 l in (omega arith, y.1.left)) r.granted
    (both (λ o. is_live o ≡ true → granted_to price book o ≤ o.left) Fair _ book (λ o x y. (x, y)) (granted_within price book s) s.fair)

-- ---- all

pub judge_determined :
    (d : Day) (rows : List Order) (claims : List Claim) (price : ℕ) (v w : Verdict)
    → JudgePromise d rows claims price v
    → JudgePromise d rows claims price w
    → v ≡ w
judge_determined d rows claims price v w e f = e ∙ sym f

pub judging : Judging
judging =
    record {
      refused = refused;
      exactly = exactly;
      own = own;
      none_left = none_left;
      any_order = any_order;
      any_cut = any_cut;
      fixed = fixed;
      answered = λ d rows claims price. (judge_call d price rows claims, refl, λ w e. e);
      never_round = never_round;
    }
