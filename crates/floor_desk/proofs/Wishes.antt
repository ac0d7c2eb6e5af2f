-- What a line of ./floor is answered with, as the definitions have it: a line of ./run, and a question with a day and without. Assumes nothing.
use Rattle.model.specs.declared.Order as Orders
use Prim.Native.Nat.{ℕ, ◌+◌, ◌≤◌}
use mathlib.Core.Path.{◌≡◌, refl, sym, ap, ap₂, subst, ◌∙◌}
use mathlib.Core.Bool.{Bool, true, false, cond, ◌&&◌}
use mathlib.Core.List.{List, []}
use mathlib.Core.Option.{Option, some}
use native.Mathlib.Omega.{arith}
use lib.Dec.{leb}
use lib.ListN.{length}
use Rattle.model.specs.declared.Command.{Command}
use Rattle.model.specs.declared.Command.TheVariants.{Malformed, Asks}
use Rattle.model.specs.declared.Day.{Day}
use Rattle.model.specs.declared.Event.{Event}
use Rattle.model.specs.declared.Event.TheVariants.{Open, Clock, Order, Cancel}
use Rattle.model.specs.Limits.{is_price}
use Rattle.model.specs.Sound.{is_mark, has_places}
use Rattle.model.specs.Refusals.{◌when◌, first_of}
use Rattle.model.specs.Calls.{open_rules, open_call}
use Rattle.model.specs.Lines.{refusal_line}
use Rattle.model.specs.Session as Session
use Rattle.model.specs.Session.{lent_places}
use Rattle.judge.specs.declared.Claim.{Claim}
use Rattle.printing.specs.Printing.{Wrote}
use Rattle.printing.proofs.Printed.{line_within}
use Rattle.printing.proofs.Replied.{refusal_fits}
use Rattle.desk.specs.declared.Desk as Desk
use Rattle.desk.specs.declared.Answered as desk
use Rattle.desk.specs.Desks.{Answering}
use Rattle.floors.specs.declared.Question.{Question}
use Rattle.floors.specs.declared.Wish.{Wish}
use Rattle.floors.specs.declared.Wish.TheVariants.{Says, Wants}
use Rattle.floors.specs.Floor as Floor
use Rattle.floors.specs.Floor.{noted_after, command_answer, question_answer, wish_answer}
use Rattle.floor_desk.specs.declared.Told.{Told}
use Rattle.floor_desk.specs.declared.FloorAnswered.{FloorAnswered}
use Rattle.floor_desk.specs.Floors.{noted_in, starts_over, noted_past, Replied, Leaves}
use Rattle.model.specs.declared.Trade.{Trade}

-- ---- a new day

places_lent : has_places lent_places ≡ true
unfolding has_places lent_places
places_lent = refl

after_open : (close mark : ℕ) (noted : List Claim) → noted_after (Asks (Open close mark)) noted ≡ cond (is_price close && is_mark mark) [] noted
unfolding noted_after open_call open_rules first_of ◌when◌
after_open close mark noted = go (is_price close) (is_mark mark) refl refl
  where
    go :
        (a b : Bool)
        → is_price close ≡ a
        → is_mark mark ≡ b
        → noted_after (Asks (Open close mark)) noted ≡ cond (is_price close && is_mark mark) [] noted
    go true true e f = rw (noted_after, open_call, open_rules, e, f, places_lent)
    go true false e f = rw (noted_after, open_call, open_rules, e, f)
    go false b e f = rw (noted_after, open_call, open_rules, e)

noted_past_lem : (c : Command) (noted : List Claim) → noted_after c noted ≡ cond (starts_over c) [] noted
unfolding noted_after starts_over
noted_past_lem Malformed noted = refl
noted_past_lem (Asks (Open close mark)) noted = after_open close mark noted
noted_past_lem (Asks (Clock t)) noted = refl
noted_past_lem (Asks (Order a)) noted = refl
noted_past_lem (Asks (Cancel account number)) noted = refl

-- as the code has it
module _ {c : Command} {e : Event} {close mark : ℕ} (is : c ≡ Asks e) (told : e ≡ Open close mark) where
  pub opens : is_price close ≡ true → leb mark 1 ≡ starts_over c
  unfolding starts_over is_mark
  opens p = rw (is, told, p)

  pub opens_not : is_price close ≡ false → false ≡ starts_over c
  unfolding starts_over
  opens_not p = rw (is, told, p)

kept_past : (c : Command) (claims : List Claim) (noted : ℕ) → noted_in claims (noted_past c noted) ≡ noted_after c (noted_in claims noted)
kept_past c claims noted = go (starts_over c) ∙ sym (noted_past_lem c (noted_in claims noted))
  where
    go : (b : Bool) → noted_in claims (cond b 0 noted) ≡ cond b [] (noted_in claims noted)
    go true = refl
    go false = refl

past_few : (c : Command) (noted : ℕ) → noted ≤ 4_096 → noted_past c noted ≤ 4_096
past_few c noted h = go (starts_over c)
  where
    go : (b : Bool) → cond b 0 noted ≤ 4_096
    go true = omega arith
    go false = h

-- ---- answers

abbrev floor_with : Option Session.Desk → List Claim → Floor.Floor
floor_with x cs = record { desk = x; noted = cs }

module _ {before after : List ℕ} {at : ℕ} (k : Desk.Desk) (rows : List Orders.Order) (claims : List Claim) (noted : ℕ) (few : noted ≤ 4_096) where
  pub said_leaves :
      (c : Command) {trades : List Trade} {rows' : List Orders.Order} {trades' : List Trade} {a : desk.Answered} (kept : ℕ)
      → Answering c k rows trades before at rows' trades' after a
      → kept ≡ noted_past c noted
      → Leaves (Says c) k rows claims noted before at rows' claims after (record { desk = a.desk; noted = kept; next = a.next })
  unfolding wish_answer command_answer
  said_leaves c {a = a} kept l e = record {
    text = l.leaves.text;
    fits = l.leaves.fits;
    floor =
        ap₂ floor_with l.leaves.desk (ap (noted_in claims) e ∙ kept_past c claims noted);
    few = rw e (past_few c noted few);
  }

  module _ (q : Question) where
    -- 17: no day opened yet
    pub unasked_leaves :
        (next : ℕ)
        → at + 262_254 ≤ length before
        → k ≡ Desk.TheVariants.Closed
        → Wrote before at (refusal_line 17) after next
        → Leaves (Wants q) k rows claims noted before at rows claims after (record { desk = k; noted = noted; next = next })
    unfolding wish_answer question_answer
    unasked_leaves next h e w = record {
      text = rw e w;
      fits = line_within w (refusal_fits 17) (omega arith);
      floor = rw e;
      few = few;
    }

    pub asked_leaves :
        {d : Day} {claims' : List Claim} {told : Told}
        → k ≡ Desk.TheVariants.Open d
        → Replied q (record { day = d; book = rows }) claims noted before at claims' after told
        → Leaves (Wants q) k rows claims noted before at rows claims' after (record { desk = Desk.TheVariants.Open d; noted = told.noted; next = told.next })
    unfolding wish_answer question_answer
    asked_leaves {d} e r = record {
      text = rw e r.text;
      fits = r.fits;
      floor = rw e (ap (λ (cs : List Claim). floor_with (some (record { day = d; book = rows })) cs) r.kept);
      few = r.few;
    }

-- the line asks for what it was taken to ask for
pub as_wish :
    {w x : Wish} {k : Desk.Desk} {rows : List Orders.Order} {claims : List Claim} {rows' : List Orders.Order} {claims' : List Claim} {noted : ℕ} {before after : List ℕ} {at : ℕ} {r : FloorAnswered}
    → w ≡ x
    → Leaves x k rows claims noted before at rows' claims' after r
    → Leaves w k rows claims noted before at rows' claims' after r
as_wish {k = k} {rows} {claims} {rows'} {claims'} {noted} {before} {after} {at} {r} e l =
    subst (λ (y : Wish). Leaves y k rows claims noted before at rows' claims' after r) (sym e) l
