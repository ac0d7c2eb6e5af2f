-- Two of those that are held fit exactly where somebody is confirmed. Assumes nothing.
use Rattle.std.specs.Prelude.{if◌then◌else◌}
use Prim.Native.Nat.{ℕ, ◌≤◌}
use mathlib.Core.Path.{◌≡◌, refl, sym, ap, ◌∙◌}
use mathlib.Core.Logic.{◌⊎◌, inl, inr, ⊎_elim}
use mathlib.Core.Bool.{Bool, true, false, not}
use mathlib.Core.List.{List, [], ◌∷◌, ◌++◌, nil≢cons}
use native.Mathlib.Omega.{arith}
use native.Mathlib.Decide.{ℕ_discrete}
use lib.ListN.{length, get_or}
use lib.Dec.{ltb}
use borrow.Author.Tests.{eq-eqb, ne_eqb, lt-ltb}
use Rattle.model.specs.declared.Declaration.{Declaration}
use Rattle.model.specs.declared.Trade.{Trade}
use Rattle.model.specs.Lists.{keep, any}
use Rattle.model.specs.Book.{other}
use Rattle.model.specs.Arrival.{is_taken}
use Rattle.model.specs.Blocks.{undeclared, is_held, fits, confirmation, with_earliest, in_turn, confirmations}
use Rattle.model.specs.Words.{Each}
use Rattle.model.proofs.Bools.{and_both, not_both, not_true_false}
use Rattle.book.proofs.Lists.{each, each_keep, each_at, at_each}
use Rattle.declarations.specs.Declared.{WellFormed, Declared}
use Rattle.partners.specs.Partners.{is_buyer}
use Rattle.partners.proofs.Tests.{any_none, none_any, each_of_kept, same_when_false}
use Rattle.partners.proofs.Turns.{none_earliest, turn_nobody}
use Rattle.partners.proofs.Buyers.{Fitting, fits_fitting, fitting_fits, other_buyer, other_seller, free_side, free_price}

-- nobody fits anybody
abbrev Unfit : List Declaration → List Declaration → Type 0
Unfit bs held = Each (λ b. Each (λ s. fits b s ≡ false) held) bs

unfit_none : (bs held : List Declaration) → Unfit bs held → in_turn bs held ≡ []
unfolding in_turn
unfit_none [] held u = refl
unfit_none (b ∷ bs) held u = turn_nobody b bs held (none_earliest b held u.0) ∙ unfit_none bs held u.1

none_unfit_one : (b : Declaration) (held : List Declaration) → with_earliest b held ≡ [] → Each (λ s. fits b s ≡ false) held
unfolding with_earliest
none_unfit_one b [] e = tt
none_unfit_one b (s ∷ held) e = go (fits b s) refl e (none_unfit_one b held)
  where
    go :
        (t : Bool)
        → fits b s ≡ t
        → (if t then confirmation b s ∷ [] else with_earliest b held) ≡ []
        → (with_earliest b held ≡ [] → Each (λ r. fits b r ≡ false) held)
        → Each (λ r. fits b r ≡ false) (s ∷ held)
    go true f h r = absurd (nil≢cons (sym h))
    go false f h r = (f, r h)

front_none : (ts us : List Trade) → ts ++ us ≡ [] → ts ≡ []
front_none [] us e = refl
front_none (t ∷ ts) us e = absurd (nil≢cons (sym e))

none_unfit : (bs held : List Declaration) → in_turn bs held ≡ [] → Unfit bs held
unfolding in_turn
none_unfit [] held e = tt
none_unfit (b ∷ bs) held e =
    let none : with_earliest b held ≡ [] = front_none (with_earliest b held) _ e in
    (none_unfit_one b held none, none_unfit bs held (sym (turn_nobody b bs held none) ∙ e))

-- ---- of two that fit one buys

-- what has no price is a free place
unpriced : (x : Declaration) → WellFormed x → x.price ≡ 0 → x.side ≡ 0
unpriced x w z = elim (ℕ_discrete x.number 0) [
  | yes e ↦ ap (λ (y : Declaration). y.side) (w.none e) ∙ free_side
  | no n ↦ absurd (omega (arith, w.priced n))
]

module _ (x y : Declaration) (w : WellFormed x) (v : WellFormed y) (e : fits x y ≡ true) where
  two : Fitting x y
  two = fits_fitting x y e

  opposite : (side : ℕ) → side ≤ 1 → other (other side) ≡ side
  opposite side l = elim (ℕ_discrete side 0) [
    | yes z ↦ ap other (other_buyer side z) ∙ other_seller 1 (λ h. omega arith) ∙ sym z
    | no n ↦ ap other (other_seller side n) ∙ other_buyer 0 refl ∙ omega arith
  ]

  fits_back : fits y x ≡ true
  fits_back =
      fitting_fits
      record {
        price = sym two.price;
        quantity = sym two.quantity;
        agreement = sym two.agreement;
        side = sym (ap other two.side ∙ opposite y.side v.side);
        counter = two.account;
        account = two.counter;
      }

  -- a free place fits nobody: neither price is 0
  priced : x.price ≡ 0 → ⊥
  priced z =
      let a : x.side ≡ 0 = unpriced x w z in
      let b : y.side ≡ 0 = unpriced y v (sym two.price ∙ z) in
      omega (arith, two.side, other_buyer y.side b)

  held_if : (z : Declaration) → WellFormed z → z.price ≡ x.price → is_held z ≡ true
  unfolding is_held is_taken
  held_if z u p =
      ap not
      (ne_eqb z.number 0 (λ n. priced (sym p ∙ ap (λ (t : Declaration). t.price) (u.none n) ∙ free_price)))

  buyer_of_two : (is_buyer x ≡ true) ⊎ (is_buyer y ≡ true)
  unfolding is_buyer
  buyer_of_two = elim (ℕ_discrete y.side 0) [
    | yes z ↦ inr (and_both (held_if y v (sym two.price)) (eq-eqb y.side 0 z))
    | no n ↦ inl (and_both (held_if x w refl) (eq-eqb x.side 0 (two.side ∙ other_seller y.side n)))
  ]

one_buys :
    (x y : Declaration)
    → WellFormed x
    → WellFormed y
    → (is_buyer x ≡ true → fits x y ≡ false)
    → (is_buyer y ≡ true → fits y x ≡ false)
    → fits x y ≡ false
one_buys x y w v f g =
    not_true_false
    (λ e. ⊎_elim (λ b. not_both e (f b)) (λ b. not_both (fits_back x y w v e) (g b)) (buyer_of_two x y w v e))

buyers_all : (held : List Declaration) → Each WellFormed held → Unfit (keep is_buyer held) held → Unfit held held
buyers_all held w u =
    let each_buyer : Each (λ x. is_buyer x ≡ true → Each (λ s. fits x s ≡ false) held) held = each_of_kept is_buyer _ held u in
    at_each _ held undeclared
    (λ i h.
    at_each _ held undeclared
    (λ j k.
    one_buys (get_or held i undeclared) (get_or held j undeclared) (each_at _ held undeclared w i h) (each_at _ held undeclared w j k)
    (λ b. each_at _ held undeclared (each_at _ held undeclared each_buyer i h b) j k)
    (λ b. each_at _ held undeclared (each_at _ held undeclared each_buyer j k b) i h)))

unfit_any : (held : List Declaration) → Unfit held held → any (λ x. any (fits x) held) held ≡ false
unfit_any held u = none_any _ held (each _ _ held (λ x h. none_any (fits x) held h) u)

any_unfit : (held : List Declaration) → any (λ x. any (fits x) held) held ≡ false → Unfit held held
any_unfit held e = each _ _ held (λ x h. any_none (fits x) held h) (any_none (λ x. any (fits x) held) held e)

module _ (held : List Declaration) (d : Declared held) where
  none_due : confirmations held ≡ [] → any (λ x. any (fits x) held) held ≡ false
  unfolding confirmations is_buyer
  none_due e = unfit_any held (buyers_all held d.formed (none_unfit (keep is_buyer held) held e))

  due_none : any (λ x. any (fits x) held) held ≡ false → confirmations held ≡ []
  unfolding confirmations is_buyer
  due_none e = unfit_none (keep is_buyer held) held (each_keep _ is_buyer held (any_unfit held e))

  -- two fit exactly where somebody is confirmed
  pub due : any (λ x. any (fits x) held) held ≡ ltb 0 (length (confirmations held))
  due = same_when_false _ _ (λ e. none (due_none e)) (λ e. none_due (empty (confirmations held) e))
    where
      none : confirmations held ≡ [] → ltb 0 (length (confirmations held)) ≡ false
      none e = ap (λ (ts : List Trade). ltb 0 (length ts)) e

      empty : (ts : List Trade) → ltb 0 (length ts) ≡ false → ts ≡ []
      empty [] e = refl
      empty (t ∷ ts) e = absurd (not_both (lt-ltb 0 (length (t ∷ ts)) (omega arith)) e)
