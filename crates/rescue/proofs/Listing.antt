-- The list as lines: a block's, those of several blocks one after the other, and the end. Assumes nothing.
use Prim.Native.Nat.{ℕ, zero, suc, ◌+◌, ◌-◌, ◌*◌, ◌/◌, ◌%◌, ◌≤◌, ◌<◌}
use mathlib.Core.Path.{◌≡◌, refl, sym, ap, ◌∙◌}
use mathlib.Core.Bool.{Bool, true, false, cond, ◌&&◌}
use mathlib.Core.List.{List, [], ◌∷◌, ◌++◌, append_assoc, append-nil}
use native.Mathlib.Omega.{arith}
use mir.Val.{bool_byte}
use lib.Dec.{ltb}
use borrow.Author.Tests.{lt-ltb}
use lib.ListN.{length, take, drop, length-append, length-drop}
use lib.Seq.{drop-drop, take_all, take-take, length-take-le}
use Rattle.model.specs.Lines.{reply}
use Rattle.printing.specs.Printing.{Wrote}
use Rattle.printing.proofs.Printed.{nothing_put, and_then, put_as, put_long, reply_fits}
use Rattle.octets.specs.Numbers.{flat}
use Rattle.octets.proofs.Parts.{flat_append}
use Rattle.file_blocks.specs.Blocks.{number_in, right_check, own_layout}
use Rattle.rescue.specs.Rescue.{Listed, list_from}
use Rattle.rescue.specs.Chunkwise.{list_line, blocks_listed, tail_listed}
use Rattle.rescue.specs.Marks.{mark, Tells}

-- ---- one block

pub mark_byte : (t : Bool) → bool_byte t ≡ mark t
mark_byte true = refl
mark_byte false = refl

pub block_line :
    (b : List ℕ) (place : ℕ) {sound number : ℕ}
    → length b ≡ 512
    → sound ≡ mark (right_check b && own_layout b)
    → number ≡ number_in b
    → reply 66 (place ∷ sound ∷ number ∷ []) ≡ flat list_line (blocks_listed 1 place b)
unfolding flat list_line blocks_listed
block_line b place long s n =
    let whole : take 512 b ≡ b = take_all 512 b (omega arith) in
    rw (whole, s, n, append-nil)

-- ---- several

-- the lines of so many blocks, from a place on
abbrev lines : ℕ → ℕ → List ℕ → List ℕ
lines n place rest = flat list_line (blocks_listed n place rest)

one_line : (place : ℕ) (rest : List ℕ) → lines 1 place (take 512 rest) ≡ lines 1 place rest
unfolding flat blocks_listed
one_line place rest = let same : take 512 (take 512 rest) ≡ take 512 rest = take-take 512 512 rest (omega arith) in rw same

next_line_lem : (n place : ℕ) (rest : List ℕ) → lines (suc n) place rest ≡ lines 1 place rest ++ lines n (suc place) (drop 512 rest)
unfolding flat blocks_listed
next_line_lem n place rest = rw append-nil

pub line_short : (l : Listed) → length (list_line l) ≤ 65
unfolding list_line
line_short l = reply_fits 66 (l.place ∷ mark l.sound ∷ l.number ∷ [])

one_short : (place : ℕ) (rest : List ℕ) → length (lines 1 place rest) ≤ 65
unfolding flat blocks_listed
one_short place rest =
    rw append-nil
    (line_short
    (record { place = place; sound = right_check (take 512 rest) && own_layout (take 512 rest); number = number_in (take 512 rest) }))

pub record Going (file : List ℕ) (blocks place : ℕ) (said₀ said : List ℕ) (p i : ℕ) : Type 0 where
  pub done : i ≤ blocks
  pub long : length said ≡ length said₀
  pub room : p ≤ 65 * i
  pub text : List ℕ
  pub put : Wrote said₀ 0 text said p
  pub all : text ++ lines (blocks - i) (place + i) (drop (512 * i) file) ≡ lines blocks place file

module _ (file : List ℕ) (blocks place : ℕ) (said₀ : List ℕ) where
  pub going_start : Going file blocks place said₀ said₀ 0 0
  going_start =
      let b : blocks - 0 ≡ blocks = omega arith in
      let p : place + 0 ≡ place = omega arith in
      record { done = omega arith; long = refl; room = omega arith; text = []; put = nothing_put; all = rw (b, p) }

  module _ {said : List ℕ} {p i : ℕ} (g : Going file blocks place said₀ said p i) where
    pub going_next :
        i < blocks
        → {b said' : List ℕ} {q : ℕ}
        → b ≡ take (512 * i + 512 - 512 * i) (drop (512 * i) file)
        → Wrote said p (lines 1 (place + i) b) said' q
        → Going file blocks place said₀ said' q (i + 1)
    going_next h {b} e w =
        let n : 512 * i + 512 - 512 * i ≡ 512 = omega arith in
        let same : b ≡ take 512 (drop (512 * i) file) = rw n at e in
        let m : blocks - i ≡ suc (blocks - (i + 1)) = omega arith in
        let d : 512 * (i + 1) ≡ 512 * i + 512 = omega arith in
        let q : place + (i + 1) ≡ suc (place + i) = omega arith in
        let line : lines 1 (place + i) b ≡ lines 1 (place + i) (drop (512 * i) file) =
        rw same (one_line (place + i) (drop (512 * i) file)) in
        record {
          done = omega arith;
          long = put_long w ∙ g.long;
          room = omega (arith, w.place, g.room, ap length line, one_short (place + i) (drop (512 * i) file));
          text = g.text ++ lines 1 (place + i) b;
          put = and_then g.put w;
          all =
              rw (append_assoc, line, q, d, ← drop-drop 512 (512 * i) file)
              (ap (λ (l : List ℕ). g.text ++ l) (sym (next_line_lem (blocks - (i + 1)) (place + i) (drop (512 * i) file))) ∙ rw (← m) g.all);
        }

    pub going_end : blocks ≤ i → 65 * blocks ≤ length said₀ → Tells (lines blocks place file) said₀ said p
    unfolding flat blocks_listed
    going_end h r =
        let z : blocks - i ≡ 0 = omega arith in
        record {
          put = put_as (sym (append-nil g.text) ∙ (rw z at g.all)) g.put;
          room = omega (arith, g.room, g.done);
        }

-- a block's part has 512 bytes
pub part_long :
    (file : List ℕ) (blocks i : ℕ) {b : List ℕ}
    → 512 * blocks ≤ length file
    → i < blocks
    → b ≡ take (512 * i + 512 - 512 * i) (drop (512 * i) file)
    → length b ≡ 512
part_long file blocks i h l e =
    let n : 512 * i + 512 - 512 * i ≡ 512 = omega arith in
    ap length (rw n at e) ∙ length-take-le 512 (drop (512 * i) file) (rw length-drop (omega arith))

-- ---- the tail, and the end

pub tail_none : (bytes place : ℕ) → bytes ≡ 0 → [] ≡ flat list_line (tail_listed bytes place)
unfolding flat tail_listed
tail_none bytes place e = rw e

pub tail_some : (bytes place : ℕ) → (bytes ≡ 0 → ⊥) → reply 66 (place ∷ 0 ∷ 0 ∷ []) ≡ flat list_line (tail_listed bytes place)
unfolding flat tail_listed list_line
tail_some bytes place e = rw (lt-ltb 0 bytes (omega arith), append-nil)

pub tail_short : (bytes place : ℕ) → length (flat list_line (tail_listed bytes place)) ≤ 65
unfolding flat tail_listed
tail_short bytes place = go (ltb 0 bytes) (line_short (record { place = place; sound = false; number = 0 }))
  where
    go :
        (t : Bool)
        → length (list_line (record { place = place; sound = false; number = 0 })) ≤ 65
        → length (flat list_line (cond t (record { place = place; sound = false; number = 0 } ∷ []) [])) ≤ 65
    go true h = rw append-nil h
    go false h = omega arith

-- a list in two parts: so many blocks, and what stands behind them
pub list_split :
    (n k place : ℕ) (rest : List ℕ) → list_from (n + k) place rest ≡ blocks_listed n place rest ++ list_from k (place + n) (drop (512 * n) rest)
unfolding list_from blocks_listed
list_split zero k place rest =
    let z : 0 + k ≡ k = omega arith in let p : place + 0 ≡ place = omega arith in rw (z, p)
list_split (suc n) k place rest =
    let s : suc n + k ≡ suc (n + k) = omega arith in
    let p : place + suc n ≡ suc place + n = omega arith in
    let d : 512 * suc n ≡ 512 + 512 * n = omega arith in
    rw (s, p, d, ← drop-drop (512 * n) 512 rest) (ap (λ (l : List Listed). record { place = place; sound = right_check (take 512 rest) && own_layout (take 512 rest); number = number_in (take 512 rest) } ∷ l)
    (list_split n k (suc place) (drop 512 rest)))

tail_is : (place : ℕ) (rest : List ℕ) → list_from 0 place rest ≡ tail_listed (length rest) place
unfolding list_from tail_listed
tail_is place rest = refl

pub list_whole :
    (place : ℕ) (rest : List ℕ) (n bytes : ℕ)
    → n ≡ length rest / 512
    → bytes ≡ length rest % 512
    → lines n place rest ++ flat list_line (tail_listed bytes (place + n)) ≡ flat list_line (list_from (length rest / 512) place rest)
list_whole place rest n bytes e f =
    let z : n + 0 ≡ length rest / 512 = omega arith in
    let l : length (drop (512 * n) rest) ≡ bytes = length-drop (512 * n) rest ∙ omega arith in
    sym
    (ap (λ (k : ℕ). flat list_line (list_from k place rest)) (sym z)
    ∙ ap (flat list_line) (list_split n 0 place rest)
    ∙ flat_append list_line (blocks_listed n place rest) (list_from 0 (place + n) (drop (512 * n) rest))
    ∙ ap (λ (t : List Listed). lines n place rest ++ flat list_line t) (tail_is (place + n) (drop (512 * n) rest) ∙ rw l))

lines_short : (k q : ℕ) (rest : List ℕ) → length (lines k q rest) ≤ 65 * k
unfolding flat blocks_listed
lines_short zero q rest = omega arith
lines_short (suc k) q rest =
    let g = lines_short k (suc q) (drop 512 rest) in
    let l = line_short (record { place = q; sound = right_check (take 512 rest) && own_layout (take 512 rest); number = number_in (take 512 rest) }) in
    rw length-append (omega arith)

-- there is room for the tail's line, and for the count
module _ (file : List ℕ) (place n : ℕ) (said : List ℕ) (e : n ≡ length file / 512) (h : 65 * (length file / 512 + 2) ≤ length said) where
  pub tail_room : {said₁ : List ℕ} {p : ℕ} → Tells (lines n place file) said said₁ p → p + 65 ≤ length said₁
  tail_room t = omega (arith, t.put.place, lines_short n place file, put_long t.put)

  module _ {bytes : ℕ} (b : bytes ≡ length file % 512) {said₁ said₂ : List ℕ} {p q : ℕ}
      (t : Tells (lines n place file) said said₁ p)
      (w : Wrote said₁ p (flat list_line (tail_listed bytes (place + n))) said₂ q) where
    pub end_room : q + 21 * 1 + 2 ≤ length said₂
    end_room =
        omega (arith, t.put.place, lines_short n place file, put_long t.put, w.place, tail_short bytes (place + n), put_long w)

    pub all_told :
        (records : ℕ) {said₃ : List ℕ} {r : ℕ}
        → Wrote said₂ q (reply 75 (records ∷ [])) said₃ r
        → Tells (flat list_line (list_from (length file / 512) place file) ++ reply 75 (records ∷ [])) said said₃ r
    all_told records v =
        record {
          put = put_as (ap (λ (l : List ℕ). l ++ reply 75 (records ∷ [])) (list_whole place file n bytes e b)) (and_then (and_then t.put w) v);
          room = omega (arith, t.put.place, lines_short n place file, put_long t.put, w.place, tail_short bytes (place + n), put_long w, v.place, reply_fits 75 (records ∷ []));
        }
