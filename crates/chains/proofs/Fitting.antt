-- What a sound day leaves fits numbers of 64 bits, so that what an event stores as bytes is read back from them. Accounts alone are not
-- bounded by soundness: an order in the book has the account of one that stood there, or of the order that came in. Assumes nothing.
use Prim.Native.Nat.{ℕ, zero, suc, ◌+◌, ◌*◌, ◌/◌, ◌^◌, ◌≤◌, ◌<◌}
use mathlib.Core.Path.{◌≡◌, refl, sym, ap, subst, ◌∙◌}
use mathlib.Core.Logic.{inl, inr, ⊎_elim}
use mathlib.Core.Bool.{Bool, true, false, cond}
use mathlib.Core.List.{List, [], ◌∷◌, ◌++◌, map}
use native.Mathlib.Omega.{arith}
use native.Mathlib.Decide.{ℕ_discrete}
use lib.Dec.{leb}
use borrow.Author.Tests.{leb-true}
use lib.Signed.{mag}
use lib.ListN.{length, drop}
use Rattle.model.specs.declared.Order.{Order}
use Rattle.model.specs.declared.Trade.{Trade}
use Rattle.model.specs.declared.Screen.{Screen}
use Rattle.model.specs.declared.Day.{Day}
use Rattle.model.specs.declared.Event as Event
use Rattle.model.specs.declared.OrderReply as OrderReply
use Rattle.model.specs.Book.{free}
use Rattle.model.specs.Screen.{screen_of}
use Rattle.model.specs.Calls.{order_call}
use Rattle.model.specs.Session.{Desk}
use Rattle.model.specs.Words.{Each, Some, Sound}
use Rattle.model.specs.Clock.{day_end}
use Rattle.model.specs.Figures.{published_shares, published_turnover}
use Rattle.model.proofs.Bools.{and_both}
use Rattle.model.proofs.SameScreens.{fits_counted}
use Rattle.book.specs.Standing.{Fair, Ranked}
use Rattle.book.proofs.Lists.{each, each_append}
use Rattle.soundness.specs.SoundDay.{SoundDay, HaltDay, EveningDay}
use Rattle.figures.specs.Figures.{Publishable}
use Rattle.soundness.proofs.EveningClauses.{fixed_paid, publishable}
use Rattle.soundness.proofs.SoundDays.{sound_day, sound_screen, sound_halt, sound_evening, ranked as sound_ranked, day_stands}
use Rattle.demands.specs.Running.{is_opening, Owner, Is, owners_by, accepted_by, stepped_by}
use Rattle.demands.proofs.Elements.{each_map}
use Rattle.demands.proofs.HaltDays.{running}
use Rattle.demands.proofs.Owned.{Known, Owned, event_owned}
use Rattle.octets.specs.Numbers.{AllBytes, parts}
use Rattle.octets.proofs.Digits.{bytes_drop}
use Rattle.records.specs.Layout.{Word, Fits, DayFits, numbers, order_in, book_in, day_in, screen_row, fixed_row, blocks_row, day_bytes, book_bytes, over}
use Rattle.records.proofs.Back.{numbers_fit, length_book_in, day_back, book_back}
use Rattle.chains.proofs.Ranges.{WordRange}
use Rattle.chains.proofs.Shown.{screen_words, shown_surplus}

abbrev pub WordAccount : Order → Type 0
WordAccount o = Word o.account

-- ---- numbers that are read from bytes

account_in : (b : List ℕ) → AllBytes b → WordAccount (order_in b)
unfolding numbers parts
account_in b s = numbers_fit 5 1 b s

each_part : (n : ℕ) (b : List ℕ) → AllBytes b → Each WordAccount (parts order_in 40 n b)
unfolding parts
each_part zero b s = tt
each_part (suc n) b s = (account_in b s, each_part n (drop 40 b) (bytes_drop 40 b s))

pub accounts_in : (b : List ℕ) → AllBytes b → Each WordAccount (book_in b)
unfolding book_in
accounts_in b s = each_part (length b / 40) b s

-- ---- accounts after an event

abbrev owner : Order → Owner
owner o = record { number = o.number; account = o.account; side = o.side }

own_book : (book : List Order) → Owned (map owner book) book
own_book [] = tt
own_book (o ∷ os) = (
  λ _. inl (record { number = refl; account = refl; side = refl }),
  each (Known (map owner os)) (Known (owner o ∷ map owner os)) os (λ p h n. inr (h n)) (own_book os),
)

abbrev WordOwner : Owner → Type 0
WordOwner w = Word w.account

known_word : (ws : List Owner) (o : Order) → Each WordOwner ws → Some (Is o) ws → WordAccount o
known_word [] o e h = absurd h
known_word (w ∷ ws) o e h = ⊎_elim (λ (i : Is o w). subst Word i.account e.0) (λ k. known_word ws o e.1 k) h

place_word : (ws : List Owner) (o : Order) → Each WordOwner ws → Fair o → Known ws o → WordAccount o
unfolding free
place_word ws o e f k = elim (ℕ_discrete o.number 0) [
  | yes z ↦ let a : o.account ≡ 0 = ap (λ (p : Order). p.account) (f.none z) in omega (arith, a)
  | no n ↦ known_word ws o e (k n)
]

book_words : (ws : List Owner) (book : List Order) → Each WordOwner ws → Each Fair book → Owned ws book → Each WordAccount book
book_words ws [] e f k = tt
book_words ws (o ∷ os) e f k = (place_word ws o e f.0 k.0, book_words ws os e f.1 k.1)

-- the account that an event brings in is a number of 64 bits
abbrev pub WordEvent : Event.Event → Type 0
WordEvent (Event.TheVariants.Open close mark) = Unit {0}
WordEvent (Event.TheVariants.Clock t) = Unit {0}
WordEvent (Event.TheVariants.Order a) = Word a.account
WordEvent (Event.TheVariants.Cancel account number) = Unit {0}

new_owners : (e : Event.Event) (lent : List Trade) (s : Desk) → WordEvent e → Each WordOwner (accepted_by e lent s)
unfolding accepted_by owners_by
new_owners (Event.TheVariants.Open close mark) lent s w = tt
new_owners (Event.TheVariants.Clock t) lent s w = tt
new_owners (Event.TheVariants.Order a) lent s w = go (order_call s.day a s.book lent).answer.reply
  where
    go : (r : OrderReply.OrderReply) → Each WordOwner (owners_by a r)
    go (OrderReply.TheVariants.Refused n) = tt
    go (OrderReply.TheVariants.Accepted x) = (w, tt)
new_owners (Event.TheVariants.Cancel account number) lent s w = tt

pub event_accounts :
    (e : Event.Event) → is_opening e ≡ false → (lent : List Trade) (s : Desk)
    → WordEvent e
    → Each WordAccount s.book
    → Sound (stepped_by e lent s).day (stepped_by e lent s).book
    → Each WordAccount (stepped_by e lent s).book
event_accounts e o lent s w a k =
    let ws : List Owner = map owner s.book in
    let old : Each WordOwner ws = each_map WordOwner owner s.book a in
    book_words (ws ++ accepted_by e lent s) (stepped_by e lent s).book
    (each_append WordOwner ws (accepted_by e lent s) old (new_owners e lent s w))
    (day_stands (stepped_by e lent s).day (stepped_by e lent s).book (sound_day (stepped_by e lent s).day (stepped_by e lent s).book k.1)).fair
    (event_owned ws e o lent s (own_book s.book))

-- ---- a sound day and its book are read back

order_fits : (o : Order) → Fair o → WordAccount o → Fits o
order_fits o f a =
    (omega (arith, f.side), (a, (omega (arith, f.left), (omega (arith, f.price), (omega (arith, f.number), tt)))))

each_fits : (book : List Order) → Each Fair book → Each WordAccount book → Each Fits book
each_fits [] f a = tt
each_fits (o ∷ os) f a = (order_fits o f.0 a.0, each_fits os f.1 a.1)

-- what is published is the day's own, or the sum of all
published_words : (d : Day) → Publishable d → Word d.shares → Word d.turnover → Word (published_shares d) × Word (published_turnover d)
unfolding published_shares published_turnover day_end
published_words d p a b = go (leb 55_800 d.time) refl
  where
    go :
        (t : Bool)
        → leb 55_800 d.time ≡ t
        → Word (cond t (d.shares + d.fixed.shares + d.blocks.shares) d.shares) × Word (cond t (d.turnover + d.fixed.money) d.turnover)
    go true e = (p.shares (leb-true 55_800 d.time e), p.money (leb-true 55_800 d.time e))
    go false e = (a, b)

day_words : (d : Day) (book : List Order) → Sound d book → WordRange d → DayFits d
day_words d book s r =
    let k : SoundDay d book = sound_day d book s.1 in
    let h : HaltDay d = sound_halt d book s.1 in
    let counted : d.screen ≡ screen_of d book d.screen.high d.screen.low = fits_counted d book (sound_screen d book s.1) in
    let ranked : Ranked book = sound_ranked d book (and_both s.0 s.1) in
    let v : EveningDay d = sound_evening d book s.1 in
    let paid : d.fixed.money ≤ 999_999 * d.fixed.shares = fixed_paid d book k v in
    let shares : d.shares ≤ 500_000_000_000 = omega (arith, k.shares, k.issued) in
    let turnover : d.turnover < 2 ^ 64 = omega (arith, shares, k.most) in
    let prices : Word d.first × Word d.last = elim (ℕ_discrete d.shares 0) [
      | yes z ↦ (omega (arith, (k.untraded z).0), omega (arith, (k.untraded z).1))
      | no n ↦ (omega (arith, (k.traded n).0.high), omega (arith, (k.traded n).1.high))
    ] in
    let halt : Word d.halt = elim (ℕ_discrete d.halt 0) [
      | yes z ↦ omega (arith, z)
      | no n ↦ omega (arith, (running d h n).latest)
    ] in
    let figs : List ℕ = d.close ∷ d.limited ∷ d.time ∷ d.issued ∷ d.shares ∷ d.turnover ∷ d.first ∷ d.last ∷ [] in
    let figures : Each Word figs = (
      omega (arith, k.close.high),
      (omega (arith, k.limited), (omega (arith, k.time), (omega (arith, k.issued), (omega (arith, shares), (turnover, (prices.0, (prices.1, tt))))))),
    ) in
    let marks : Each Word (d.halt ∷ d.used30 ∷ d.used60 ∷ []) = (halt, (omega (arith, h.thirty), (omega (arith, h.sixty), tt))) in
    let screen : Each Word (screen_row d.screen) =
    subst (λ (x : Screen). Each Word (screen_row x)) (sym counted)
    (screen_words book ranked d d.screen.high d.screen.low prices.1 (published_words d (publishable d book k v) (omega (arith, shares)) turnover).0
    (published_words d (publishable d book k v) (omega (arith, shares)) turnover).1 r.high r.low) in
    let fixed_words : Each Word (fixed_row d.fixed) =
    (omega (arith, v.fixed_issued), (omega (arith, v.fixed_shares, v.fixed_issued), (omega (arith, paid, v.fixed_shares, v.fixed_issued), tt))) in
    let blocks_words : Each Word (blocks_row d.blocks) =
    (omega (arith, v.blocks_issued), (omega (arith, v.blocks_shares, v.blocks_issued), tt)) in
    let halts : List ℕ = d.halt ∷ d.used30 ∷ d.used60 ∷ [] in
    record {
      words =
          each_append Word (figs ++ screen_row d.screen ++ halts ++ fixed_row d.fixed) (blocks_row d.blocks)
          (each_append Word (figs ++ screen_row d.screen ++ halts) (fixed_row d.fixed)
          (each_append Word (figs ++ screen_row d.screen) halts (each_append Word figs (screen_row d.screen) figures screen) marks)
          fixed_words)
          blocks_words;
      surplus =
          subst (λ (x : Screen). mag x.surplus < 2 ^ 63) (sym counted) (shown_surplus book ranked d d.screen.high d.screen.low);
    }

abbrev pub both : Day → List Order → Desk
both d book = record { day = d; book = book }

module _ (d : Day) (book : List Order) (k : Sound d book) (r : WordRange d) where
  day_read : (day : List ℕ) → day_in (over (day_bytes d) day) ≡ d
  unfolding over
  day_read day = day_back d (drop (length (day_bytes d)) day) (day_words d book k r)

  book_read : (b : List ℕ) → Each WordAccount book → length book ≡ length (book_in b) → book_in (over (book_bytes book) b) ≡ book
  book_read b a e =
      book_back book b (each_fits book (day_stands d book (sound_day d book k.1)).fair a) (e ∙ length_book_in b)

  -- so memory in which a sound day and its book are stored holds just these
  pub desk_read :
      (day b : List ℕ)
      → Each WordAccount book
      → length book ≡ length (book_in b)
      → both (day_in (over (day_bytes d) day)) (book_in (over (book_bytes book) b)) ≡ both d book
  desk_read day b a e = rw (day_read day, book_read b a e)
