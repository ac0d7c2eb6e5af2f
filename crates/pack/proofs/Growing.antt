-- A file that grows event by event: the blocks that more events fill, those that wait, and the last block. Assumes nothing.
use Prim.Native.Nat.{ℕ, zero, suc, ◌+◌, ◌*◌, ◌/◌, ◌%◌, ◌≤◌, ◌<◌}
use mathlib.Core.Path.{◌≡◌, refl, sym, ap, ap₂, ◌∙◌}
use mathlib.Core.Bool.{Bool, true, false, cond}
use mathlib.Core.List.{List, [], ◌∷◌, ◌++◌, append_assoc, append-nil}
use native.Mathlib.Omega.{arith}
use lib.Dec.{eqb}
use lib.ListN.{length, take, drop, length-append, length-drop, drop_of_length-le}
use lib.Seq.{take-append-le, drop-append-le, drop-append_seam, drop-drop, take_all}
use borrow.Author.Tests.{eqb-true, eqb-false}
use Rattle.model.specs.declared.Event.{Event}
use Rattle.file_blocks.specs.Blocks.{block_bytes}
use Rattle.day_files.specs.Files.{blocks_from, file_bytes}
use Rattle.pack.specs.Packing.{waiting, new_blocks, last_block}

-- ---- blocks in two parts

blocks_front :
    (m number : ℕ) (a b : List Event) → 25 * m ≤ length a → blocks_from m number (a ++ b) ≡ blocks_from m number a
unfolding blocks_from
blocks_front zero number a b h = refl
blocks_front (suc m) number a b h =
    let front : take 25 (a ++ b) ≡ take 25 a = take-append-le 25 a b (omega arith) in
    let behind : drop 25 (a ++ b) ≡ drop 25 a ++ b = drop-append-le 25 a b (omega arith) in
    rw (front, behind, blocks_front m (suc number) (drop 25 a) b (rw length-drop (omega arith)))

blocks_split :
    (m n number : ℕ) (es : List Event)
    → blocks_from (m + n) number es ≡ blocks_from m number es ++ blocks_from n (number + m) (drop (25 * m) es)
unfolding blocks_from
blocks_split zero n number es = let e : number + 0 ≡ number = omega arith in let z : 0 + n ≡ n = omega arith in rw (z, e)
blocks_split (suc m) n number es =
    let s : suc m + n ≡ suc (m + n) = omega arith in
    let e : number + suc m ≡ suc number + m = omega arith in
    let d : 25 * suc m ≡ 25 + 25 * m = omega arith in
    rw (s, e, d, ← drop-drop (25 * m) 25 es, append_assoc)
    (ap (λ (l : List ℕ). block_bytes number (take 25 es) ++ l) (blocks_split m n (suc number) (drop 25 es)))

-- ---- those that wait

pub length_waiting : (es : List Event) → length (waiting es) ≡ length es % 25
unfolding waiting
length_waiting es = rw length-drop (omega arith)

-- how many blocks all have, from those that wait
more_blocks : (m n : ℕ) → (m + n) / 25 ≡ m / 25 + (m % 25 + n) / 25
more_blocks m n = omega arith

both_long : (es more : List Event) → length (waiting es ++ more) ≡ length es % 25 + length more
both_long es more = rw (length-append, length_waiting)

behind_full : (es more : List Event) → drop (25 * (length es / 25)) (es ++ more) ≡ waiting es ++ more
unfolding waiting
behind_full es more = drop-append-le (25 * (length es / 25)) es more (omega arith)

-- ---- the blocks that are full

-- so far
abbrev full : List Event → List ℕ
full es = blocks_from (length es / 25) 1 es

full_more : (es more : List Event) → full (es ++ more) ≡ full es ++ new_blocks es more
unfolding new_blocks
full_more es more =
    let n : length (es ++ more) / 25 ≡ length es / 25 + length (waiting es ++ more) / 25 =
    rw (length-append, both_long) (more_blocks (length es) (length more)) in
    let one : 1 + length es / 25 ≡ suc (length es / 25) = omega arith in
    rw n
    (blocks_split (length es / 25) (length (waiting es ++ more) / 25) 1 (es ++ more)
    ∙ rw (one, behind_full es more, blocks_front (length es / 25) 1 es more (omega arith)))

cancel : (a b c : List ℕ) → a ++ b ≡ a ++ c → b ≡ c
cancel a b c e = sym (drop-append_seam a b) ∙ ap (drop (length a)) e ∙ drop-append_seam a c

pub new_more : (es a b : List Event) → new_blocks es (a ++ b) ≡ new_blocks es a ++ new_blocks (es ++ a) b
new_more es a b =
    cancel (full es) (new_blocks es (a ++ b)) (new_blocks es a ++ new_blocks (es ++ a) b)
    (sym (full_more es (a ++ b))
    ∙ ap full (sym (append_assoc es a b))
    ∙ full_more (es ++ a) b
    ∙ rw (full_more es a, append_assoc))

pub new_none : (es : List Event) → new_blocks es [] ≡ []
unfolding new_blocks blocks_from
new_none es =
    let none : length (waiting es ++ []) / 25 ≡ 0 = rw both_long (omega arith) in rw none

-- ---- one event more

module _ (es : List Event) (e : Event) where
  pub new_part : length es % 25 < 24 → new_blocks es (e ∷ []) ≡ []
  unfolding new_blocks blocks_from
  new_part h =
      let none : length (waiting es ++ (e ∷ [])) / 25 ≡ 0 = rw both_long (omega arith) in rw none

  pub new_full : 24 ≤ length es % 25 → new_blocks es (e ∷ []) ≡ block_bytes (suc (length es / 25)) (waiting es ++ (e ∷ []))
  unfolding new_blocks blocks_from
  new_full h =
      let long : length (waiting es ++ (e ∷ [])) ≡ 25 = rw both_long (omega arith) in
      let one : length (waiting es ++ (e ∷ [])) / 25 ≡ 1 = omega arith in
      rw (one, take_all 25 (waiting es ++ (e ∷ [])) (omega arith), append-nil)

  pub waiting_part : length es % 25 < 24 → waiting (es ++ (e ∷ [])) ≡ waiting es ++ (e ∷ [])
  unfolding waiting
  waiting_part h =
      let same : length (es ++ (e ∷ [])) / 25 ≡ length es / 25 = rw length-append (omega arith) in
      ap (λ (n : ℕ). drop (25 * n) (es ++ (e ∷ []))) same ∙ behind_full es (e ∷ [])

  pub waiting_full : 24 ≤ length es % 25 → waiting (es ++ (e ∷ [])) ≡ []
  unfolding waiting
  waiting_full h =
      let long : length (es ++ (e ∷ [])) ≡ length es + 1 = rw length-append in
      drop_of_length-le (es ++ (e ∷ [])) {i = 25 * (length (es ++ (e ∷ [])) / 25)} (omega arith)

-- ---- the whole file

full_is : (es : List Event) → new_blocks [] es ≡ full es
unfolding new_blocks waiting
full_is es = refl

last_is : (es : List Event) → (length es % 25 ≡ 0 → ⊥) → blocks_from 1 (1 + length es / 25) (drop (25 * (length es / 25)) es) ≡ block_bytes (suc (length es / 25)) (waiting es)
unfolding blocks_from waiting
last_is es h =
    let one : 1 + length es / 25 ≡ suc (length es / 25) = omega arith in
    let few : length (drop (25 * (length es / 25)) es) ≤ 25 = rw length-drop (omega arith) in
    rw (one, take_all 25 (drop (25 * (length es / 25)) es) few, append-nil)

pub file_is : (es : List Event) → file_bytes es ≡ new_blocks [] es ++ last_block es
unfolding file_bytes last_block
file_is es = go (eqb (length es % 25) 0) refl
  where
    go :
        (t : Bool)
        → eqb (length es % 25) 0 ≡ t
        → blocks_from ((length es + 24) / 25) 1 es
        ≡ new_blocks [] es ++ cond t [] (block_bytes (suc (length es / 25)) (waiting es))
    go true h =
        let e = eqb-true (length es % 25) 0 h in
        let n : (length es + 24) / 25 ≡ length es / 25 = omega arith in
        rw n (sym (append-nil (new_blocks [] es) ∙ full_is es))
    go false h =
        let e = eqb-false (length es % 25) 0 h in
        let n : (length es + 24) / 25 ≡ length es / 25 + 1 = omega arith in
        rw n (blocks_split (length es / 25) 1 1 es ∙ ap₂ ◌++◌ (sym (full_is es)) (last_is es e))
