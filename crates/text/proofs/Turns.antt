-- A chunk answered round by round and carried over is the definitions' step from chunk to chunk, and turn by turn the memory holds what
-- the chunks so far have made of the outset. Assumes nothing.
use Prim.Native.Nat.{ℕ, zero-le, ◌-◌, ◌≤◌}
use mathlib.Core.Path.{◌≡◌, refl, sym, ap, subst, ◌∙◌}
use mathlib.Core.Bool.{Bool, true, false}
use mathlib.Core.List.{List, [], ◌∷◌, ◌++◌, append-nil}
use native.Mathlib.Omega.{arith}
use lib.ListN.{length, take, drop, length-take}
use Rattle.model.specs.Lines.{lines_of, refusal_line}
use Rattle.printing.specs.Printing.{Wrote}
use Rattle.printing.proofs.Replied.{refusal_fits}
use Rattle.text.specs.declared.Carry.{Carry}
use Rattle.text.specs.Readers.{asks_of}
use Rattle.text.specs.Chunks.{CarriedOver, is_left}
use Rattle.text.specs.Answers.{Program, replies_to, state_after, carry_after, kept_after, chunkwise}
use Rattle.text.specs.Points.{Point, Onward, Through}
use Rattle.text.specs.Turns.{Between, outset, Holds, after_chunk, after_chunks, Reached, Turned, Steps}
use Rattle.text.proofs.Carrying.{drop_take}
use Rattle.text.proofs.Sessions.{carried_after, carry_few, kept_after_lem}
use Rattle.text.proofs.LineByLine.{through_state}

-- ---- a chunk

-- what is put at the front of a buffer ends in it
pub put_within : {before after : List ℕ} {n : ℕ} → Wrote before 0 (take n after) after n → n ≤ length after
put_within {after = after} {n} w = omega (arith, w.place, length-take n after)

pub put_count : {before after : List ℕ} {n : ℕ} → Wrote before 0 (take n after) after n → n ≡ length (take n after)
put_count w = omega (arith, w.place)

module _ {A S : Type 0} (P : Program A S) where
  module _
      (buf after : List ℕ) (n : ℕ) (p q : Point S) (c : Carry) (start : p.at ≡ 0)
      (o : Onward P (take n buf) p q)
      (t : Through P (take n buf) q)
      (k : CarriedOver buf (take (n - q.at) (drop q.at buf)) q.long after c) where
    abbrev chunk : List ℕ
    chunk = take n buf

    whole : drop p.at chunk ≡ chunk
    whole = ap (λ (i : ℕ). drop i chunk) start

    carried : (c ≡ carry_after p.long chunk) × (take c.kept after ≡ kept_after p.long chunk)
    carried =
        carried_after buf after q.long c p.long chunk (take (n - q.at) (drop q.at buf)) k
        (sym (drop_take q.at n buf) ∙ sym (rw whole at (o.tail ∙ t.tail)))
        (sym (rw whole at (o.still ∙ t.still)))

    pub steps : Steps P chunk p.long p.state c after q.state
    steps = record { state = rw whole at (through_state P chunk o t); carry = carried.0; kept = carried.1 }

  -- ---- the end of the input

  module _ (s : S) (refused : P.text P.reader.malformed s ≡ refusal_line 16) where
    pub end_left : (c : Carry) → is_left c ≡ true → refusal_line 16 ≡ chunkwise P c [] s []
    unfolding chunkwise replies_to
    end_left c e = rw (e, append-nil) (sym refused)

    pub end_none : (c : Carry) → is_left c ≡ false → [] ≡ chunkwise P c [] s []
    unfolding chunkwise replies_to
    end_none c e = rw e

    pub end_fits_lem : (c : Carry) → length (chunkwise P c [] s []) ≤ 110
    end_fits_lem c = go (is_left c) refl
      where
        go : (b : Bool) → is_left c ≡ b → length (chunkwise P c [] s []) ≤ 110
        go true e = rw (← end_left c e) (refusal_fits 16)
        go false e = rw (← end_none c e) zero-le

  -- ---- a turn

  -- what was read stands after what was kept
  module _ (c : Carry) (before : List ℕ) (s : S) (buf : List ℕ) (n : ℕ) (fresh : List ℕ) (f : take n buf ≡ take c.kept before ++ fresh) where
    pub turned :
        {c' : Carry} {buf' : List ℕ} {s' : S} → Steps P (take n buf) c.long s c' buf' s' → Turned P c before s c' buf' s'
    unfolding after_chunk
    turned t = record {
      chunk = fresh;
      holds = λ b k.
          let l : c.long ≡ b.carry.long = ap (λ (x : Carry). x.long) k.carry in
          let w : take n buf ≡ b.kept ++ fresh = f ∙ ap (λ (x : List ℕ). x ++ fresh) k.kept in
          record {
            carry = t.carry ∙ ap (λ (x : Bool). carry_after x (take n buf)) l ∙ ap (carry_after b.carry.long) w;
            kept = t.kept ∙ ap (λ (x : Bool). kept_after x (take n buf)) l ∙ ap (kept_after b.carry.long) w;
            state =
                t.state
                ∙ ap (λ (x : Bool). state_after P (asks_of P.reader x (lines_of (take n buf))) s) l
                ∙ ap (λ (x : List ℕ). state_after P (asks_of P.reader b.carry.long (lines_of x)) s) w
                ∙ ap (state_after P (asks_of P.reader b.carry.long (lines_of (b.kept ++ fresh)))) k.state;
          };
    }

  -- ---- turn by turn

  pub at_outset : (first : S) (buf : List ℕ) → Reached P first (record { kept = 0; long = false }) buf first
  unfolding outset after_chunks
  at_outset first buf = record { chunks = []; holds = record { carry = refl; kept = refl; state = refl } }

  one_more : (b : Between S) (bs : List (List ℕ)) (chunk : List ℕ) → after_chunks P b (bs ++ (chunk ∷ [])) ≡ after_chunk P (after_chunks P b bs) chunk
  unfolding after_chunks
  one_more b [] last = refl
  one_more b (x ∷ bs) last = one_more (after_chunk P b x) bs last

  pub reached_on :
      {first : S} {c c' : Carry} {buf buf' : List ℕ} {s s' : S}
      → Reached P first c buf s
      → Turned P c buf s c' buf' s'
      → Reached P first c' buf' s'
  reached_on {first} {c' = c'} {buf' = buf'} {s' = s'} r t = record {
    chunks = r.chunks ++ (t.chunk ∷ []);
    holds =
        subst (λ (b : Between S). Holds b c' buf' s') (sym (one_more (outset first) r.chunks t.chunk))
        (t.holds (after_chunks P (outset first) r.chunks) r.holds);
  }

  module _ (Fair : S → Type 0) (keeps : (a : A) (s : S) → Fair s → Fair (P.next a s)) where
    -- a carry of 79 bytes at most, and a state that is fair
    record Well (b : Between S) : Type 0 where
      few : b.carry.kept ≤ 79
      fair : Fair b.state

    still_well : (bs : List (List ℕ)) (b : Between S) → Well b → Well (after_chunks P b bs)
    unfolding after_chunks after_chunk
    still_well [] b w = w
    still_well (x ∷ bs) b w =
        still_well bs (after_chunk P b x)
        (record {
          few = carry_few b.carry.long (b.kept ++ x);
          fair = kept_after_lem P Fair keeps (asks_of P.reader b.carry.long (lines_of (b.kept ++ x))) b.state w.fair;
        })

    first_well : (first : S) → Fair first → Well (outset first)
    unfolding outset
    first_well first f = record { few = zero-le; fair = f }

    module _ {first : S} (f : Fair first) {c : Carry} {buf : List ℕ} {s : S} (r : Reached P first c buf s) where
      well : Well (after_chunks P (outset first) r.chunks)
      well = still_well r.chunks (outset first) (first_well first f)

      pub reached_few : c.kept ≤ 79
      reached_few = rw (ap (λ (x : Carry). x.kept) r.holds.carry) well.few

      pub reached_fair : Fair s
      reached_fair = subst Fair (sym r.holds.state) well.fair
