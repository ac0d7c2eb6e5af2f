-- The next price of a side in memory, and the five lines filled by one price after the other. Assumes nothing.
use Prim.Native.Nat.{ℕ, suc, ◌+◌, ◌-◌, ◌*◌, ◌≤◌, ◌<◌}
use mathlib.Core.Path.{◌≡◌, refl, sym, ap, ◌∙◌}
use mathlib.Core.Bool.{Bool, true, false}
use mathlib.Core.List.{List, [], ◌∷◌}
use native.Mathlib.Decide.{dec_lt}
use native.Mathlib.Omega.{arith}
use lib.ListN.{length, get_or, take}
use lib.Seq.{drop-drop}
use lib.Dec.{eqb}
use borrow.Author.Tests.{eqb-true, eqb-false}
use Rattle.model.specs.declared.Order.{Order}
use Rattle.model.specs.declared.Levels.{Levels}
use Rattle.model.specs.Book.{free, queue}
use Rattle.model.specs.Figures.{no_level, no_levels}
use Rattle.model.specs.Screen.{levels_of}
use Rattle.model.specs.Words.{Each}
use Rattle.book.specs.declared.Stretch.{Stretch}
use Rattle.book.specs.Standing.{Fair, Ranked}
use Rattle.book.specs.Lines.{line, StretchOf}
use Rattle.book.proofs.Lists.{each_at, each_take, each_drop}
use Rattle.book.proofs.Lines.{line_end, line_cons, line_length}
use Rattle.auction.specs.declared.Tier.{Tier}
use Rattle.auction.specs.Tiers.{run_of, alike, tier_from}
use Rattle.auction.proofs.Leaving.{run_on, run_off}
use Rattle.levels.specs.declared.Next.{Next}
use Rattle.levels.specs.Fronts.{first_level, behind_first, next_from, moved_up, shown}
use Rattle.levels.proofs.Tops.{levels_shown}

-- ---- how much can stand at a price

run_most : (p : ℕ) (os : List Order) → Each Fair os → run_of p os ≤ length os * 1_000_000
run_most p [] f = unfold run_of in omega arith
run_most p (o ∷ os) f = go (eqb o.price p) refl (run_most p os f.1)
  where
    go : (b : Bool) → eqb o.price p ≡ b → run_of p os ≤ length os * 1_000_000 → run_of p (o ∷ os) ≤ suc (length os) * 1_000_000
    go true e h = omega (arith, run_on p o os (eqb-true o.price p e), f.0.left)
    go false e h = omega (arith, run_off p o os (eqb-false o.price p e))

line_most : (rows : List Order) (at end p : ℕ) → Ranked rows → end ≤ length rows → run_of p (line at end rows) ≤ 4_096_000_000
line_most rows at end p r h =
    let fair : Each Fair (line at end rows) =
    unfold line in each_drop Fair at (take end rows) (each_take Fair end rows r.stands.fair)
    in
    omega (arith, run_most p (line at end rows) fair, line_length at end rows h, r.few)

-- an order and a run of others
pub run_fits :
    (rows : List Order) (from end p : ℕ)
    → Ranked rows
    → end ≤ length rows
    → (end ≤ length rows) × (run_of p (line from end rows) ≤ 4_096_000_000)
run_fits rows from end p r h = (h, line_most rows from end p r h)

pub sum_fits :
    (rows : List Order) (at from end p : ℕ) {o : Order} {t : Tier}
    → Ranked rows
    → end ≤ length rows
    → at < end
    → o ≡ get_or rows at free
    → t ≡ tier_from from p (line from end rows)
    → o.left + t.shares ≤ 4_097_000_000
unfolding tier_from
sum_fits rows at from end p {o} {t} r h l e g =
    let fair : Fair (get_or rows at free) =
    each_at Fair rows free r.stands.fair at (omega arith)
    in
    let same : o ≡ get_or rows at free = e in
    omega (
      arith,
      ap (λ (x : Order). x.left) same,
      fair.left,
      ap (λ (x : Tier). x.shares) g,
      line_most rows from end p r h,
    )

-- ---- the next price

level_of : (at : ℕ) (os : List Order) → (next_from at os).level ≡ first_level os
unfolding next_from first_level
level_of at [] = refl
level_of at (o ∷ os) = refl

module _ (rows : List Order) (at end : ℕ) where
  pub next_none : end ≤ at → record { level = record { price = 0; shares = 0 }; behind = at } ≡ next_from at (line at end rows)
  unfolding next_from no_level
  next_none h = rw (line_end at end rows h)

  module _ (short : end ≤ length rows) where
    module _ (l : at < end) {o : Order} (e : o ≡ get_or rows at free) where
      begins : line at end rows ≡ o ∷ line (at + 1) end rows
      begins = line_cons at end rows l short e

      module _ {t : Tier} (g : t ≡ tier_from (at + 1) o.price (line (at + 1) end rows)) where
        pub next_some :
            record { level = record { price = o.price; shares = o.left + t.shares }; behind = t.behind }
            ≡ next_from at (line at end rows)
        unfolding next_from first_level tier_from
        next_some = rw (begins, g)

    behind_some : (o : Order) → line (next_from at (o ∷ line (at + 1) end rows)).behind end rows ≡ behind_first (o ∷ line (at + 1) end rows)
    unfolding next_from behind_first line
    behind_some o = sym (drop-drop (alike o.price (line (at + 1) end rows)) (at + 1) (take end rows))

    behind_end : line at end rows ≡ [] → line (next_from at []).behind end rows ≡ behind_first []
    unfolding next_from behind_first
    behind_end e = e

    behind_is : line (next_from at (line at end rows)).behind end rows ≡ behind_first (line at end rows)
    behind_is = elim (dec_lt at end) [
      | yes l ↦ rw (line_cons at end rows {o = get_or rows at free} l short refl) (behind_some (get_or rows at free))
      | no l ↦ let e : line at end rows ≡ [] = line_end at end rows (omega arith) in at_end (line at end rows) e e
    ]
      where
        at_end : (os : List Order) → os ≡ [] → line at end rows ≡ [] → line (next_from at os).behind end rows ≡ behind_first os
        at_end os f e = rw f (behind_end e)

-- ---- line after line

shown_one : (n : ℕ) (os : List Order) (ls : Levels) → shown (suc n) os ls ≡ shown n (behind_first os) (moved_up ls (first_level os))
unfolding shown
shown_one n os ls = refl

shown_all : (os : List Order) (ls : Levels) → shown 0 os ls ≡ ls
unfolding shown
shown_all os ls = refl

-- what the prices still to come make of the lines is what all make of empty lines
pub record Showing (side : ℕ) (rows : List Order) (end at : ℕ) (levels : Levels) (n : ℕ) : Type 0 where
  pub rest : shown (5 - n) (line at end rows) levels ≡ shown 5 (queue side rows) no_levels

module _ (side : ℕ) (rows : List Order) where
  pub showing_start : {r : Stretch} {ls : Levels} → StretchOf side rows r → ls ≡ no_levels → Showing side rows r.to r.from ls 0
  showing_start s e = record { rest = rw (s.orders, e) refl }

  module _ {end at n : ℕ} {levels : Levels} (k : Showing side rows end at levels n) where
    pub showing_next :
        {r : Next} {ls : Levels}
        → end ≤ length rows
        → n < 5
        → r ≡ next_from at (line at end rows)
        → ls ≡ moved_up levels r.level
        → Showing side rows end r.behind ls (n + 1)
    showing_next {r} {ls} short l e f =
        let m : 5 - n ≡ suc (5 - (n + 1)) = omega arith in
        let b : line r.behind end rows ≡ behind_first (line at end rows) =
        ap (λ (x : Next). line x.behind end rows) e ∙ behind_is rows at end short
        in
        let v : r.level ≡ first_level (line at end rows) =
        ap (λ (x : Next). x.level) e ∙ level_of at (line at end rows)
        in
        record {
          rest =
              rw (b, f, v)
              (sym (shown_one (5 - (n + 1)) (line at end rows) levels)
              ∙ ap (λ (i : ℕ). shown i (line at end rows) levels) (sym m)
              ∙ k.rest);
        }

    pub showing_end : 5 ≤ n → Ranked rows → levels ≡ levels_of side rows
    showing_end h r =
        let z : 5 - n ≡ 0 = omega arith in
        sym (shown_all (line at end rows) levels)
        ∙ ap (λ (i : ℕ). shown i (line at end rows) levels) (sym z)
        ∙ k.rest
        ∙ levels_shown side rows no_levels r.stands
