-- A day, a book, declarations, trades and a reply as a call reads and stores them. Assumes nothing.
use Prim.Native.Nat.{ℕ, ◌+◌, ◌*◌, ◌/◌, ◌≤◌, min}
use mathlib.Core.Path.{◌≡◌, refl, sym, ap, ◌∙◌}
use mathlib.Core.List.{List, [], ◌∷◌, ◌++◌}
use native.Mathlib.Omega.{arith}
use lib.ListN.{length, take, length-take}
use lib.Seq.{sets}
use Rattle.std.proofs.lemmas.List.{take_min}
use Rattle.model.specs.declared.Screen.{Screen}
use Rattle.model.specs.declared.Day.{Day}
use Rattle.octets.specs.Numbers.{digits, parts, flat}
use Rattle.octets.proofs.Parts.{flat_append}
use Rattle.replies.specs.Words.{word}
use Rattle.records.specs.Layout.{bytes, levels_row, screen_row, fixed_row, blocks_row, day_bytes, order_in, order_bytes, book_in, book_bytes, declaration_in, declaration_bytes, declarations_in, declarations_bytes, trade_bytes, trades_bytes, over, replied}
use Rattle.records.proofs.Runs.{sets_on, sets_over}
use Rattle.records.proofs.Sizes.{length_bytes, length_day, length_book, length_declarations, length_trades}
use Rattle.model.specs.declared.Order.{Order}
use Rattle.model.specs.declared.Trade.{Trade}
use Rattle.model.specs.declared.Declaration.{Declaration}

-- one row of numbers behind another
then_put :
    (b xs ys : List ℕ) (at n : ℕ) {b₁ b₂ : List ℕ}
    → 8 * length xs ≡ n
    → b₁ ≡ sets b at (bytes xs)
    → b₂ ≡ sets b₁ (at + n) (bytes ys)
    → b₂ ≡ sets b at (bytes (xs ++ ys))
unfolding bytes
then_put b xs ys at n {b₁} {b₂} e f g =
    g
    ∙ ap (λ (l : List ℕ). sets l (at + n) (bytes ys)) f
    ∙ sets_on b (bytes xs) (bytes ys) at n (length_bytes xs ∙ e)
    ∙ ap (sets b at) (sym (flat_append (digits 8) xs ys))

pub screen_put :
    (b : List ℕ) (at : ℕ) (s : Screen) {w : ℕ} {b₁ b₂ b₃ b₄ : List ℕ}
    → w ≡ word s.surplus
    → b₁ ≡ sets b at (bytes (s.last ∷ s.high ∷ s.low ∷ s.shares ∷ s.turnover ∷ []))
    → b₂ ≡ sets b₁ (at + 40) (bytes (levels_row s.buys))
    → b₃ ≡ sets b₂ (at + 120) (bytes (levels_row s.sells))
    → b₄ ≡ sets b₃ (at + 200) (bytes (s.price ∷ s.volume ∷ w ∷ []))
    → b₄ ≡ sets b at (bytes (screen_row s))
screen_put b at s {w} {b₁} {b₂} {b₃} {b₄} e f g h k =
    let traded : List ℕ = s.last ∷ s.high ∷ s.low ∷ s.shares ∷ s.turnover ∷ [] in
    let two : b₂ ≡ sets b at (bytes (traded ++ levels_row s.buys)) = then_put b traded (levels_row s.buys) at 40 refl f g in
    let three : b₃ ≡ sets b at (bytes (traded ++ levels_row s.buys ++ levels_row s.sells)) =
    then_put b (traded ++ levels_row s.buys) (levels_row s.sells) at 120 refl two h in
    then_put b (traded ++ levels_row s.buys ++ levels_row s.sells) (s.price ∷ s.volume ∷ w ∷ []) at 200 refl three k
    ∙ ap (λ (x : ℕ). sets b at (bytes (traded ++ levels_row s.buys ++ levels_row s.sells ++ (s.price ∷ s.volume ∷ x ∷ [])))) e

pub day_put :
    (b : List ℕ) (d : Day) {b₁ b₂ b₃ : List ℕ}
    → 352 ≤ length b
    → b₁ ≡ sets b 0 (bytes (d.close ∷ d.limited ∷ d.time ∷ d.issued ∷ d.shares ∷ d.turnover ∷ d.first ∷ d.last ∷ []))
    → b₂ ≡ sets b₁ 64 (bytes (screen_row d.screen))
    → b₃ ≡ sets b₂ 288 (bytes ((d.halt ∷ d.used30 ∷ d.used60 ∷ []) ++ fixed_row d.fixed ++ blocks_row d.blocks))
    → b₃ ≡ over (day_bytes d) b
unfolding day_bytes
day_put b d {b₁} {b₂} {b₃} h e f g =
    let figures : List ℕ = d.close ∷ d.limited ∷ d.time ∷ d.issued ∷ d.shares ∷ d.turnover ∷ d.first ∷ d.last ∷ [] in
    let rest : List ℕ = (d.halt ∷ d.used30 ∷ d.used60 ∷ []) ++ fixed_row d.fixed ++ blocks_row d.blocks in
    let two : b₂ ≡ sets b 0 (bytes (figures ++ screen_row d.screen)) = then_put b figures (screen_row d.screen) 0 64 refl e f in
    then_put b (figures ++ screen_row d.screen) rest 0 288 refl two g
    ∙ sets_over (day_bytes d) b (omega (arith, length_day d))

-- the rows of as many places as the bytes hold
pub book_read :
    (b : List ℕ) (rows : List Order) {n : ℕ} → n ≡ length b / 40 → rows ≡ parts order_in 40 n b → rows ≡ book_in b
unfolding book_in
book_read b rows n e = e ∙ rw n

pub book_put :
    (b : List ℕ) (rows : List Order) (b' : List ℕ)
    → 40 * length rows ≤ length b
    → b' ≡ sets b 0 (flat order_bytes rows)
    → b' ≡ over (book_bytes rows) b
unfolding book_bytes
book_put b rows b' h e =
    e ∙ sets_over (book_bytes rows) b (omega (arith, length_book rows))

pub held_read :
    (b : List ℕ) (rows : List Declaration) {n : ℕ}
    → n ≡ length b / 56
    → rows ≡ parts declaration_in 56 n b
    → rows ≡ declarations_in b
unfolding declarations_in
held_read b rows n e = e ∙ rw n

pub held_put :
    (b : List ℕ) (rows : List Declaration) (b' : List ℕ)
    → 56 * length rows ≤ length b
    → b' ≡ sets b 0 (flat declaration_bytes rows)
    → b' ≡ over (declarations_bytes rows) b
unfolding declarations_bytes
held_put b rows b' h e =
    e ∙ sets_over (declarations_bytes rows) b (omega (arith, length_declarations rows))

pub trades_put :
    (b : List ℕ) (list : List Trade) (b' : List ℕ)
    → 48 * length list ≤ length b
    → b' ≡ sets b 0 (flat trade_bytes list)
    → b' ≡ over (trades_bytes list) b
unfolding trades_bytes
trades_put b list b' h e =
    e ∙ sets_over (trades_bytes list) b (omega (arith, length_trades list))

-- as many numbers as fit
pub reply_put :
    (reply ns : List ℕ) {n : ℕ} {reply' : List ℕ}
    → n ≡ min (length reply / 8) (length ns)
    → reply' ≡ sets reply 0 (bytes (take n ns))
    → reply' ≡ replied ns reply
unfolding replied
reply_put reply ns {n} e f =
    let some : take n ns ≡ take (length reply / 8) ns = rw e (take_min (length reply / 8) ns) in
    let front = take (length reply / 8) ns in
    f ∙ rw some (sets_over (bytes front) reply (omega (arith, length_bytes front, length-take (length reply / 8) ns)))
