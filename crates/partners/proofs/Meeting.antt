-- The walk over both sides, sorted by class: whom it meets, whom it passes by, and what the list of partners has then.
-- Assumes nothing.
use Prim.Native.Nat.{ℕ, zero, suc, ◌+◌, ◌≤◌, ◌<◌}
use mathlib.Core.Path.{◌≡◌, refl, sym, ap, ◌∙◌}
use mathlib.Core.Bool.{Bool, true, false}
use mathlib.Core.List.{List, [], ◌∷◌, ◌++◌, map, append_assoc, append-nil}
use native.Mathlib.Omega.{arith}
use native.Mathlib.Numerals.{add-one}
use lib.ListN.{length, get_or, set, drop, replicate, length-map, length-replicate, drop_of_length-le, get_or-map}
use lib.Seq.{drop-cons}
use Rattle.model.specs.declared.Declaration.{Declaration}
use Rattle.model.specs.declared.Trade.{Trade}
use Rattle.model.specs.Blocks.{fits, confirmation}
use Rattle.model.specs.Words.{Each}
use Rattle.model.proofs.Bools.{not_both, not_true_false}
use Rattle.book.proofs.Lists.{each, both, each_at, each_drop}
use Rattle.declarations.specs.Declared.{Declared}
use Rattle.classes.specs.Classes.{class_of, is_same, is_before}
use Rattle.classes.specs.Sorting.{class_at, InOrder}
use Rattle.classes.proofs.Keys.{same_self, same_equal, before_other, before_trans, neither_before, not_before_self}
use Rattle.partners.specs.Partners.{partners}
use Rattle.partners.specs.Places.{at, partners_in, BothSorted}
use Rattle.partners.proofs.Naming.{Leaves}
use Rattle.partners.proofs.Buyers.{Buys, held_line}
use Rattle.partners.proofs.Joining.{partners_none, partners_in_length, two_more}
use Rattle.partners.proofs.Classes.{fits_same}
use Rattle.partners.proofs.Pairs.{Pair, pair_of, paired, skip_buyer, skip_seller, pair_heads, no_sellers}
use Rattle.partners.proofs.InPairs.{trade_of, Sells}
use Rattle.partners.proofs.Once.{Unlike, once_before}
use Rattle.partners.proofs.Gathering.{sides_sorted, places_within}
use Rattle.partners.proofs.Sides.{Sides, buyers_buy, sellers_sell, numbers_apart, paired_once, same_partners}

-- ---- two heads

module _ (b s : Declaration) (p : Buys b) (q : Sells s) where
  -- of a class before the other: they do not fit
  early_buyer : is_before (class_of b) (class_of s) ≡ true → fits b s ≡ false
  early_buyer e = fits_same b s p.side q.side ∙ before_other (class_of b) (class_of s) e

  early_seller : is_before (class_of s) (class_of b) ≡ true → fits b s ≡ false
  early_seller e =
      not_true_false
      (λ f.
      let same : class_of b ≡ class_of s = same_equal (class_of b) (class_of s) (sym (fits_same b s p.side q.side) ∙ f) in
      not_both e (ap (is_before (class_of s)) same ∙ not_before_self (class_of s)))

  -- of the same class: they fit
  neither_early : is_before (class_of b) (class_of s) ≡ false → is_before (class_of s) (class_of b) ≡ false → fits b s ≡ true
  neither_early e f =
      fits_same b s p.side q.side
      ∙ ap (is_same (class_of b)) (sym (neither_before (class_of b) (class_of s) e f)) ∙ same_self (class_of b)

module _ (b s : Declaration) (bs ss : List Declaration) (ob : InOrder class_of (b ∷ bs)) (os : InOrder class_of (s ∷ ss)) (eb : Each Buys (b ∷ bs)) (es : Each Sells (s ∷ ss)) where
  pass_buyer : is_before (class_of b) (class_of s) ≡ true → paired (b ∷ bs) (s ∷ ss) ≡ paired bs (s ∷ ss)
  pass_buyer e =
      skip_buyer b bs (s ∷ ss) (
        early_buyer b s eb.0 es.0 e,
        both Sells (λ r. is_before (class_of r) (class_of s) ≡ false) (λ r. fits b r ≡ false) ss
            (λ r q h. early_buyer b r eb.0 q (before_trans (class_of b) (class_of s) (class_of r) e h)) es.1 os.0,
      )

  pass_seller : is_before (class_of s) (class_of b) ≡ true → paired (b ∷ bs) (s ∷ ss) ≡ paired (b ∷ bs) ss
  pass_seller e =
      skip_seller s (b ∷ bs) ss (
        early_seller b s eb.0 es.0 e,
        both Buys (λ r. is_before (class_of r) (class_of b) ≡ false) (λ r. fits r s ≡ false) bs
            (λ r q h. early_seller r s q es.0 (before_trans (class_of s) (class_of b) (class_of r) e h)) eb.1 ob.0,
      )

  meet : is_before (class_of b) (class_of s) ≡ false → is_before (class_of s) (class_of b) ≡ false → paired (b ∷ bs) (s ∷ ss) ≡ pair_of b s ∷ paired bs ss
  meet e f = pair_heads b s bs ss (neither_early b s eb.0 es.0 e f)

order_drop : (n : ℕ) (xs : List Declaration) → InOrder class_of xs → InOrder class_of (drop n xs)
order_drop zero xs o = o
order_drop (suc n) [] o = tt
order_drop (suc n) (x ∷ xs) o = order_drop n xs o.1

-- ---- met so far

-- the trades so far, which the list of partners has, and those of the rest
pub record Met (held : List Declaration) (buyers sellers partner : List ℕ) (i j : ℕ) : Type 0 where
  pub made : List Trade
  pub same : partner ≡ partners_in made held
  pub whole :
      made ++ map trade_of (paired (drop i (map (at held) buyers)) (drop j (map (at held) sellers)))
      ≡ map trade_of (paired (map (at held) buyers) (map (at held) sellers))
  pub low : i ≤ length buyers
  pub high : j ≤ length sellers

pub met_start : (held : List Declaration) (buyers sellers : List ℕ) {partner : List ℕ} → partner ≡ replicate (length held) 0 → Met held buyers sellers partner 0 0
met_start held buyers sellers e =
    record { made = []; same = e ∙ partners_none held; whole = refl; low = omega arith; high = omega arith }

-- the declarations at the places from i on
at_head : (held : List Declaration) (ps : List ℕ) (i : ℕ) → i < length ps → drop i (map (at held) ps) ≡ at held (get_or ps i 0) ∷ drop (suc i) (map (at held) ps)
at_head held ps i h =
    let l : i < length (map (at held) ps) = omega (arith, length-map ps (at held)) in
    drop-cons (map (at held) ps) i (at held 0) l
    ∙ ap (λ (x : Declaration). x ∷ drop (suc i) (map (at held) ps)) (get_or-map (at held) ps i 0)

at_end : (held : List Declaration) (ps : List ℕ) (i : ℕ) → length ps ≤ i → drop i (map (at held) ps) ≡ []
at_end held ps i h =
    let l : length (map (at held) ps) ≤ i = omega (arith, length-map ps (at held)) in
    drop_of_length-le (map (at held) ps) l

-- what the one at a place has, where each has it
at_own : (P : Declaration → Type 0) (held : List Declaration) (ps : List ℕ) (i : ℕ) → i < length ps → Each P (map (at held) ps) → P (at held (get_or ps i 0))
at_own P held ps i h e = (rw (at_head held ps i h) at (each_drop P i (map (at held) ps) e)).0

module _
    (held : List Declaration) (d : Declared held) (buyers sellers : List ℕ) (sorted : BothSorted held buyers sellers)
    (partner : List ℕ) (i j : ℕ) (m : Met held buyers sellers partner i j) where
  sides : Sides held (map (at held) buyers) (map (at held) sellers)
  sides = sides_sorted held buyers sellers sorted

  ended : map trade_of (paired (drop i (map (at held) buyers)) (drop j (map (at held) sellers))) ≡ [] → partner ≡ partners held
  ended e =
      m.same
      ∙ ap (λ (ts : List Trade). partners_in ts held) (sym (append-nil m.made) ∙ ap (λ (ts : List Trade). m.made ++ ts) (sym e) ∙ m.whole)
      ∙ same_partners held d (map (at held) buyers) (map (at held) sellers) sides

  pub met_buyers : length buyers ≤ i → partner ≡ partners held
  unfolding paired
  met_buyers h = ended (ap (λ (l : List Declaration). map trade_of (paired l (drop j (map (at held) sellers)))) (at_end held buyers i h))

  pub met_sellers : length sellers ≤ j → partner ≡ partners held
  met_sellers h =
      ended
      (ap (λ (l : List Declaration). map trade_of (paired (drop i (map (at held) buyers)) l)) (at_end held sellers j h)
      ∙ ap (map trade_of) (no_sellers (drop i (map (at held) buyers))))

  module _ (hi : i < length buyers) (hj : j < length sellers) where
    pub place_p : get_or buyers i 0 < length held
    place_p = each_at (λ n. n < length held) buyers 0 (places_within held 0 buyers sorted.buying) i hi

    pub place_q : get_or sellers j 0 < length held
    place_q = each_at (λ n. n < length held) sellers 0 (places_within held 1 sellers sorted.selling) j hj

    -- the two heads, and those behind them
    heads :
        paired (drop i (map (at held) buyers)) (drop j (map (at held) sellers))
        ≡ paired (at held (get_or buyers i 0) ∷ drop (suc i) (map (at held) buyers)) (at held (get_or sellers j 0) ∷ drop (suc j) (map (at held) sellers))
    heads =
        ap (λ (l : List Declaration). paired l (drop j (map (at held) sellers))) (at_head held buyers i hi)
        ∙ ap (λ (l : List Declaration). paired (at held (get_or buyers i 0) ∷ drop (suc i) (map (at held) buyers)) l) (at_head held sellers j hj)

    order_b : InOrder class_of (at held (get_or buyers i 0) ∷ drop (suc i) (map (at held) buyers))
    order_b = rw (at_head held buyers i hi) at (order_drop i (map (at held) buyers) sides.buyers.order)

    order_s : InOrder class_of (at held (get_or sellers j 0) ∷ drop (suc j) (map (at held) sellers))
    order_s = rw (at_head held sellers j hj) at (order_drop j (map (at held) sellers) sides.sellers.order)

    buy : Each Buys (at held (get_or buyers i 0) ∷ drop (suc i) (map (at held) buyers))
    buy = rw (at_head held buyers i hi) at (each_drop Buys i (map (at held) buyers) (buyers_buy held d (map (at held) buyers) (map (at held) sellers) sides))

    sell : Each Sells (at held (get_or sellers j 0) ∷ drop (suc j) (map (at held) sellers))
    sell = rw (at_head held sellers j hj) at (each_drop Sells j (map (at held) sellers) (sellers_sell held d (map (at held) buyers) (map (at held) sellers) sides))

    pub met_early_buyer :
        {r : Bool} → r ≡ is_before (class_at held (get_or buyers i 0)) (class_at held (get_or sellers j 0)) → r ≡ true → Met held buyers sellers partner (i + 1) j
    unfolding class_at
    met_early_buyer e t =
        record {
          made = m.made;
          same = m.same;
          whole =
              rw (add-one i)
              (ap (λ (ps : List Pair). m.made ++ map trade_of ps)
              (ap (paired (drop (suc i) (map (at held) buyers))) (at_head held sellers j hj)
              ∙ sym (heads ∙ pass_buyer _ _ _ _ order_b order_s buy sell (sym e ∙ t)))
              ∙ m.whole);
          low = omega arith;
          high = m.high;
        }

    pub met_early_seller :
        {r : Bool} → r ≡ is_before (class_at held (get_or sellers j 0)) (class_at held (get_or buyers i 0)) → r ≡ true → Met held buyers sellers partner i (j + 1)
    unfolding class_at
    met_early_seller e t =
        record {
          made = m.made;
          same = m.same;
          whole =
              rw (add-one j)
              (ap (λ (ps : List Pair). m.made ++ map trade_of ps)
              (ap (λ (l : List Declaration). paired l (drop (suc j) (map (at held) sellers))) (at_head held buyers i hi)
              ∙ sym (heads ∙ pass_seller _ _ _ _ order_b order_s buy sell (sym e ∙ t)))
              ∙ m.whole);
          low = m.low;
          high = omega arith;
        }

    -- the two of one class
    module _
        {r t : Bool} (e : r ≡ is_before (class_at held (get_or buyers i 0)) (class_at held (get_or sellers j 0))) (n : r ≡ false)
        (f : t ≡ is_before (class_at held (get_or sellers j 0)) (class_at held (get_or buyers i 0))) (k : t ≡ false) where
      next :
          m.made ++ confirmation (at held (get_or buyers i 0)) (at held (get_or sellers j 0)) ∷ map trade_of (paired (drop (suc i) (map (at held) buyers)) (drop (suc j) (map (at held) sellers)))
          ≡ map trade_of (paired (map (at held) buyers) (map (at held) sellers))
      unfolding class_at
      next =
          ap (λ (ps : List Pair). m.made ++ map trade_of ps) (sym (heads ∙ meet _ _ _ _ order_b order_s buy sell (sym e ∙ n) (sym f ∙ k)))
          ∙ m.whole

      -- neither is in a trade so far
      apart_so_far :
          Each (λ u. Leaves (confirmation (at held (get_or buyers i 0)) (at held (get_or sellers j 0))).buyer u × Leaves (confirmation (at held (get_or buyers i 0)) (at held (get_or sellers j 0))).seller u) m.made
      apart_so_far =
          once_before m.made (confirmation (at held (get_or buyers i 0)) (at held (get_or sellers j 0)))
          (map trade_of (paired (drop (suc i) (map (at held) buyers)) (drop (suc j) (map (at held) sellers))))
          (rw next (paired_once held d (map (at held) buyers) (map (at held) sellers) sides))

      buyer_left : Each (Leaves (at held (get_or buyers i 0)).number) m.made
      unfolding confirmation
      buyer_left = each _ (Leaves (at held (get_or buyers i 0)).number) m.made (λ u h. h.0) apart_so_far

      seller_left : Each (Leaves (at held (get_or sellers j 0)).number) m.made
      unfolding confirmation
      seller_left = each _ (Leaves (at held (get_or sellers j 0)).number) m.made (λ u h. h.1) apart_so_far

      two_numbers : (at held (get_or buyers i 0)).number ≡ (at held (get_or sellers j 0)).number → ⊥
      two_numbers z =
          at_own (λ x. Unlike x (at held (get_or sellers j 0))) held buyers i hi
          (at_own (λ y. Each (λ x. Unlike x y) (map (at held) buyers)) held sellers j hj (numbers_apart held d (map (at held) buyers) (map (at held) sellers) sides))
          (sym z)

      pub met_two :
          {partner' : List ℕ}
          → partner' ≡ set (set partner (get_or buyers i 0) (at held (get_or sellers j 0)).number) (get_or sellers j 0) (at held (get_or buyers i 0)).number
          → Met held buyers sellers partner' (i + 1) (j + 1)
      met_two w =
          record {
            made = m.made ++ confirmation (at held (get_or buyers i 0)) (at held (get_or sellers j 0)) ∷ [];
            same =
                w
                ∙ ap (λ (l : List ℕ). set (set l (get_or buyers i 0) (at held (get_or sellers j 0)).number) (get_or sellers j 0) (at held (get_or buyers i 0)).number) m.same
                ∙ two_more m.made held (get_or buyers i 0) (get_or sellers j 0) (at held (get_or buyers i 0)) (at held (get_or sellers j 0)) (held_line held d) place_p place_q refl refl
                two_numbers buy.0.number sell.0.number buyer_left seller_left;
            whole =
                rw (add-one i, add-one j)
                (append_assoc m.made (confirmation (at held (get_or buyers i 0)) (at held (get_or sellers j 0)) ∷ [])
                (map trade_of (paired (drop (suc i) (map (at held) buyers)) (drop (suc j) (map (at held) sellers))))
                ∙ next);
            low = omega arith;
            high = omega arith;
          }

-- ---- as the code has it

module _ (rows : List Declaration) (buyers sellers : List ℕ) where
  pub walk_start : {partner : List ℕ} → partner ≡ replicate (length rows) 0 → Met rows buyers sellers partner 0 0
  walk_start e = met_start rows buyers sellers (e)

  module _ (partner : List ℕ) (i j : ℕ) (m : Met rows buyers sellers partner i j) where
    pub walk_long : length partner ≡ length rows
    walk_long = ap length m.same ∙ partners_in_length m.made rows

    pub walk_length : {partner₀ : List ℕ} → partner₀ ≡ replicate (length rows) 0 → length partner ≡ length partner₀
    walk_length e = walk_long ∙ sym (ap length e ∙ length-replicate {A = ℕ} (length rows) 0)

    pub walk_places :
        Declared rows
        → BothSorted rows buyers sellers
        → i < length buyers
        → j < length sellers
        → (get_or buyers i 0 < length rows) × (get_or sellers j 0 < length rows)
    walk_places d s hi hj = (
      omega (arith, place_p rows d buyers sellers s partner i j m hi hj),
      omega (arith, place_q rows d buyers sellers s partner i j m hi hj),
    )
