-- What a C author may rely on follows from the chains: what each call shows is what is seen of the definitions' call. Assumes nothing.
use Prim.Native.Nat.{ℕ, zero, suc, ◌/◌, ◌≤◌}
use mathlib.Core.Path.{◌≡◌, refl, sym, ap, subst, ◌∙◌}
use mathlib.Core.Logic.{◌⊎◌, inl, inr, ⊎_elim}
use mathlib.Core.Bool.{true, false, cond}
use mathlib.Core.List.{List, [], ◌∷◌, ◌++◌, map, append_assoc}
use native.Mathlib.Omega.{arith}
use lib.ListN.{length, get_or, take, drop, length-map}
use lib.Seq.{drop_at}
use lib.Dec.{eqb}
use borrow.Author.Tests.{eq-eqb, ne_eqb}
use Rattle.model.specs.declared.Asked.{Asked}
use Rattle.model.specs.declared.OrderAnswer.{OrderAnswer}
use Rattle.model.specs.declared.ReportReply as ReportReply
use Rattle.model.specs.declared.CancelReply as CancelReply
use Rattle.model.specs.Book.{free}
use Rattle.model.specs.Lists.{from}
use Rattle.model.specs.Figures.{next_number}
use Rattle.model.specs.Calls.{Outcome, CancelOutcome, entered, order_call, cancel_call}
use Rattle.model.specs.Replies.{entry_numbers, order_numbers, cancel_numbers, report_numbers}
use Rattle.model.specs.Session.{Desk}
use Rattle.model.specs.Words.{Each, Some, Sound}
use Rattle.book.specs.Standing.{Fair}
use Rattle.book.proofs.Lists.{each_at}
use Rattle.soundness.proofs.SoundDays.{sound_day, day_stands}
use Rattle.demands.specs.Running.{moves_to, enters, cancels, Owner, owners_by, accepted_by, accepted, accepted_in}
use Rattle.demands.specs.Running as run
use Rattle.demands.specs.Histories.{AnyCall, Happens, Reports, Lists, Seen, Opened, Moved, Entered, Cancelled, Reported, Listed, present, event_seen, seen, event_desk, stepped, all_seen, after}
use Rattle.demands.specs.Chains.{Link, Chained, last_left, calls_of, Shown, refusal_of, events_of, FromOpening}
use Rattle.demands.proofs.Cases.{order_cases, cancel_cases}
use Rattle.demands.proofs.Chains.{same_desk, step_sound, chain_holds}
use Rattle.demands.proofs.Demands.{own_only}
use Rattle.demands.proofs.Runs.{fresh_sound}
use Rattle.octets.specs.Numbers.{digits, flat}
use Rattle.records.specs.Layout.{Word, number_in, bytes, over, returned, replied, book_in, trades_in}
use Rattle.octets.proofs.Digits.{length_digits}
use Rattle.records.proofs.Back.{number_back}
use Rattle.replies.specs.Words.{word, report_words}
use Rattle.chains.specs.Bytes.{Slice, Memory, Asks, Clock, Order as OrderOf, Cancel, Report, Prices, Reply, Gives, Promise, call, numbers_in, Answers, Shows, desk_in, door, OpenedOn}
use Rattle.chains.specs.ForC.{returned_by, second, HoldsTwo, OrderHoldsTwo, told_by, told_in, AcceptedAs, TakesItsOwn, ForC}
use Rattle.chains.proofs.Bytes.{HasDay, shows, leaves, keeps_step}
use Rattle.chains.proofs.Opened.{begun_room, begun_fresh, byte_chains}
use Rattle.chains.proofs.Untouched as untouched

-- ---- the number that is returned is the refusal that is seen

returned_by_lem : (a : Asks) (x : Seen) (g : Gives a) → Shows a x g → returned_by a g ≡ returned (numbers_in x)
unfolding returned_by
returned_by_lem (Clock t trades reply) x g s = s.0.returns
returned_by_lem (OrderOf a w trades reply) x g s = s.0.returns
returned_by_lem (Cancel account number reply) x g s = s.returns
returned_by_lem (Report reply) x g s = s.returns
returned_by_lem (Prices asked prices reply) x g s = s.0.returns

pub told_refusal : (x : Seen) → returned (numbers_in x) ≡ refusal_of x
unfolding numbers_in refusal_of report_words report_numbers word
told_refusal (Opened r) = refl
told_refusal (Moved r made trades) = refl
told_refusal (Entered r made trades) = refl
told_refusal (Cancelled r) = refl
told_refusal (Reported (ReportReply.TheVariants.Refused n)) = refl
told_refusal (Reported (ReportReply.TheVariants.Priced price volume surplus)) = refl
told_refusal (Listed r prices) = refl

each_not_15 :
    (ls : List (Link door)) (xs : List Seen)
    → Shown door ls xs
    → Each (λ (x : Seen). refusal_of x ≡ 15 → ⊥) xs
    → Each (λ (l : Link door). returned_by l.asks l.gives ≡ 15 → ⊥) ls
each_not_15 [] [] s n = tt
each_not_15 [] (x ∷ xs) s n = tt
each_not_15 (l ∷ ls) [] s n = absurd s
each_not_15 (l ∷ ls) (x ∷ xs) (s, ss) (n, ns) = (
  λ e. n (sym (told_refusal x) ∙ sym (returned_by_lem l.asks x l.gives s) ∙ e),
  each_not_15 ls xs ss ns,
)

-- ---- the second number of a reply

module _ (n₀ n₁ : ℕ) (rest : List ℕ) (w : Word n₁) where
  -- where the buffer has places for more than two
  second_cut : (k : ℕ) (behind : List ℕ) → number_in (drop 8 (bytes (take (suc (suc k)) (n₀ ∷ n₁ ∷ rest)) ++ behind)) ≡ n₁
  unfolding bytes flat
  second_cut k behind =
      rw (append_assoc, drop_at (digits 8 n₀) ((digits 8 n₁ ++ flat (digits 8) (take k rest)) ++ behind) 8 (length_digits 8 n₀), append_assoc)
      (number_back n₁ w (flat (digits 8) (take k rest) ++ behind))

  second_over : (k : ℕ) (b : List ℕ) → 2 ≤ k → number_in (drop 8 (over (bytes (take k (n₀ ∷ n₁ ∷ rest))) b)) ≡ n₁
  unfolding over
  second_over zero b h = absurd (omega (arith, h))
  second_over (suc zero) b h = absurd (omega (arith, h))
  second_over (suc (suc k)) b h = second_cut k (drop (length (bytes (take (suc (suc k)) (n₀ ∷ n₁ ∷ rest)))) b)

  second_told : (reply buffer : Slice) → HoldsTwo reply → buffer.bytes ≡ replied (n₀ ∷ n₁ ∷ rest) reply.bytes → second buffer ≡ n₁
  unfolding replied
  second_told reply buffer h e =
      let two : 2 ≤ length reply.bytes / 8 = omega (arith, h) in
      ap (λ (b : List ℕ). number_in (drop 8 b)) e ∙ second_over (length reply.bytes / 8) reply.bytes two

-- ---- the accepted orders of a chain

-- whose order a call was
owners_of : AnyCall → Desk → List Owner
owners_of (Happens c) s = accepted c s
owners_of Reports s = []
owners_of (Lists asked lent) s = []

owners_first :
    (v : AnyCall) (vs : List AnyCall) (s : Desk)
    → accepted_in (events_of (v ∷ vs)) s ≡ owners_of v s ++ accepted_in (events_of vs) (stepped present v s)
unfolding events_of accepted_in owners_of stepped
owners_first (Happens c) vs s =
    ap (λ (t : Desk). accepted c s ++ accepted_in (events_of vs) t) (sym (same_desk c.event c.lent s))
owners_first Reports vs s = refl
owners_first (Lists asked lent) vs s = refl

abbrev number_of : Owner → ℕ
number_of w = w.number

module _ (s : Desk) (k : Sound s.day s.book) where
  next_word : Word (next_number s.day)
  unfolding next_number
  next_word = let i = (sound_day s.day s.book k.1).issued in omega (arith, i)

  module _ (a : Asked) (trades reply buffer : Slice) (r : ℕ) where
    abbrev Sees : Outcome OrderAnswer → Type 0
    Sees o =
        (r ≡ returned (order_numbers o.answer.reply))
        × (buffer.bytes ≡ replied (order_numbers o.answer.reply) reply.bytes)

    order_tells :
        HoldsTwo reply
        → Sees (order_call s.day a s.book (trades_in trades.bytes))
        → cond (eqb r 0) (second buffer ∷ []) []
        ≡ map number_of (owners_by a (order_call s.day a s.book (trades_in trades.bytes)).answer.reply)
    unfolding entered order_numbers entry_numbers owners_by
    order_tells h =
        order_cases s.day a s.book (trades_in trades.bytes)
        (λ o. Sees o → cond (eqb r 0) (second buffer ∷ []) [] ≡ map number_of (owners_by a o.answer.reply))
        (λ _ e.
        let z : eqb r 0 ≡ true = eq-eqb r 0 e.0 in
        rw z (ap (λ (x : ℕ). x ∷ []) (second_told 0 (next_number s.day) _ next_word reply buffer h e.1)))
        (λ n e. let z : eqb r 0 ≡ false = ne_eqb r 0 (λ q. n (sym e.0 ∙ q)) in rw z refl)

    order_owned :
        (account number : ℕ)
        → Sees (order_call s.day a s.book (trades_in trades.bytes))
        → Some (λ (w : Owner). (w.number ≡ number) × (w.account ≡ account))
        (owners_by a (order_call s.day a s.book (trades_in trades.bytes)).answer.reply)
        → (a.account ≡ account) × (r ≡ 0) × (HoldsTwo reply → second buffer ≡ number)
    unfolding entered order_numbers entry_numbers owners_by
    order_owned account number =
        order_cases s.day a s.book (trades_in trades.bytes)
        (λ o.
        Sees o
        → Some (λ (w : Owner). (w.number ≡ number) × (w.account ≡ account)) (owners_by a o.answer.reply)
        → (a.account ≡ account) × (r ≡ 0) × (HoldsTwo reply → second buffer ≡ number))
        (λ _ e w.
        ⊎_elim
        (λ q. (q.1, e.0, λ h. second_told 0 (next_number s.day) _ next_word reply buffer h e.1 ∙ q.0))
        (λ q. absurd q)
        w)
        (λ _ e w. absurd w)

  one_told : (a : Asks) (g : Gives a) → Shows a (seen present (call a) s) g → OrderHoldsTwo a → told_by a g ≡ map number_of (owners_of (call a) s)
  unfolding told_by owners_of accepted_by seen event_seen present moves_to enters cancels numbers_in
  one_told (Clock t trades reply) g x h = refl
  one_told (OrderOf a w trades reply) g x h =
      order_tells a trades reply g.answer.buffer g.answer.returns h (x.0.returns, x.0.buffer)
  one_told (Cancel account number reply) g x h = refl
  one_told (Report reply) g x h = refl
  one_told (Prices asked prices reply) g x h = refl

  one_owned :
      (account number : ℕ) (a : Asks) (g : Gives a)
      → Shows a (seen present (call a) s) g
      → Some (λ (w : Owner). (w.number ≡ number) × (w.account ≡ account)) (owners_of (call a) s)
      → AcceptedAs account number a g
  unfolding owners_of accepted_by seen event_seen present moves_to enters cancels numbers_in
  one_owned account number (Clock t trades reply) g x h = h
  one_owned account number (OrderOf a w trades reply) g x h =
      order_owned a trades reply g.answer.buffer g.answer.returns account number (x.0.returns, x.0.buffer) h
  one_owned account number (Cancel account' number' reply) g x h = h
  one_owned account number (Report reply) g x h = h
  one_owned account number (Prices asked prices reply) g x h = h

map_append : (xs ys : List Owner) → map number_of (xs ++ ys) ≡ map number_of xs ++ map number_of ys
map_append [] ys = refl
map_append (x ∷ xs) ys = ap (λ (l : List ℕ). x.number ∷ l) (map_append xs ys)

all_told :
    (ls : List (Link door)) (s : Desk)
    → Sound s.day s.book
    → Shown door ls (all_seen present (calls_of door ls) s)
    → Each (λ (l : Link door). OrderHoldsTwo l.asks) ls
    → told_in ls ≡ map number_of (accepted_in (events_of (calls_of door ls)) s)
unfolding told_in calls_of all_seen events_of accepted_in
all_told [] s k x h = refl
all_told (l ∷ ls) s k (x, xs) (h, hs) =
    let v : AnyCall = call l.asks in
    let t : Desk = stepped present v s in
    let vs : List AnyCall = calls_of door ls in
    ap (λ (ns : List ℕ). ns ++ told_in ls) (one_told s k l.asks l.gives x h)
    ∙ ap (λ (ns : List ℕ). map number_of (owners_of v s) ++ ns) (all_told ls t (step_sound v s k) xs hs)
    ∙ sym (map_append (owners_of v s) (accepted_in (events_of vs) t))
    ∙ ap (map number_of) (sym (owners_first v vs s))

some_split : {A : Type 0} (P : A → Type 0) (xs ys : List A) → Some P (xs ++ ys) → Some P xs ⊎ Some P ys
some_split P [] ys h = inr h
some_split P (x ∷ xs) ys h =
    ⊎_elim (λ p. inl (inl p)) (λ k. ⊎_elim (λ q. inl (inr q)) (λ q. inr q) (some_split P xs ys k)) h

some_owned :
    (account number : ℕ) (ls : List (Link door)) (s : Desk)
    → Sound s.day s.book
    → Shown door ls (all_seen present (calls_of door ls) s)
    → Some (λ (w : Owner). (w.number ≡ number) × (w.account ≡ account)) (accepted_in (events_of (calls_of door ls)) s)
    → Some (λ (l : Link door). AcceptedAs account number l.asks l.gives) ls
unfolding calls_of all_seen events_of accepted_in
some_owned account number [] s k x h = h
some_owned account number (l ∷ ls) s k (x, xs) h =
    let v : AnyCall = call l.asks in
    let t : Desk = stepped present v s in
    let vs : List AnyCall = calls_of door ls in
    let P : Owner → Type 0 = λ w. (w.number ≡ number) × (w.account ≡ account) in
    let g : Some P (owners_of v s ++ accepted_in (events_of vs) t) = rw (owners_first v vs s) at h in
    ⊎_elim (λ q. inl (one_owned s k account number l.asks l.gives x q))
    (λ q. inr (some_owned account number ls t (step_sound v s k) xs q))
    (some_split P (owners_of v s) (accepted_in (events_of vs) t) g)

-- ---- a chain from an opening that returned 0

module _ (m : Memory) (o : OpenedOn m) (ls : List (Link door)) (c : Chained door m ls) where
  goes : FromOpening door m ls
  goes = byte_chains.chain m o ls c

  begins_sound : Sound (desk_in m).day (desk_in m).book
  begins_sound = fresh_sound (desk_in m) (begun_fresh m o)

  numbered :
      Each (λ (l : Link door). OrderHoldsTwo l.asks) ls
      → told_in ls ≡ from 1 (length (told_in ls))
  numbered h =
      let e = all_told ls (desk_in m) begins_sound goes.runs.shown h in
      let w : List Owner = accepted_in (events_of (calls_of door ls)) (desk_in m) in
      let n : length (told_in ls) ≡ length w = ap length e ∙ length-map w number_of in
      e ∙ goes.told.running.once ∙ ap (from 1) (sym n)

  last_desk : desk_in (last_left door m ls) ≡ run.after (events_of (calls_of door ls)) (desk_in m)
  last_desk = goes.runs.ends ∙ goes.told.ends

  last_sound : Sound (desk_in (last_left door m ls)).day (desk_in (last_left door m ls)).book
  last_sound = subst (λ (s : Desk). Sound s.day s.book) (sym last_desk) goes.told.running.kept

  module _ (account number : ℕ) (reply : Slice) (g : Reply) (n : Memory)
      (p : Promise (Cancel account number reply) (last_left door m ls) g n) (z : g.returns ≡ 0) where
    abbrev here : Desk
    here = desk_in (last_left door m ls)

    room : HasDay (last_left door m ls)
    room = chain_holds door HasDay keeps_step ls m (begun_room m o) begins_sound c

    told : Answers (Cancelled (cancel_call here.day account number here.book).answer.reply) reply g
    unfolding seen event_seen present cancels
    told = shows (Cancel account number reply) (last_left door m ls) g n room p

    withdrawn : (q : ℕ) × ((cancel_call here.day account number here.book).answer.reply ≡ CancelReply.TheVariants.Withdrawn q)
    unfolding numbers_in cancel_numbers
    withdrawn =
        cancel_cases here.day account number here.book
        (λ (x : CancelOutcome). returned (cancel_numbers x.answer.reply) ≡ 0 → (q : ℕ) × (x.answer.reply ≡ CancelReply.TheVariants.Withdrawn q))
        (λ _ _. (_, refl))
        (λ k e. absurd (k e))
        (sym told.returns ∙ z)

    left : book_in n.book.bytes ≡ (cancel_call here.day account number here.book).book
    unfolding stepped event_desk present cancels
    left = ap (λ (s : Desk). s.book) (leaves (Cancel account number reply) (last_left door m ls) g n room last_sound p)

    takes_its_own : TakesItsOwn ls account number reply g (last_left door m ls).book n.book
    unfolding numbers_in cancel_numbers
    takes_its_own =
        let q : ℕ = withdrawn.0 in
        let e = withdrawn.1 in
        let t = own_only.cancel here.day account number q here.book last_sound e in
        let f : Fair (get_or here.book t.place free) =
        each_at Fair here.book free (day_stands here.day here.book (sound_day here.day here.book last_sound.1)).fair t.place t.inside in
        let small : Word q = omega (arith, f.left, t.its_shares) in
        let b : g.buffer.bytes ≡ replied (0 ∷ q ∷ []) reply.bytes = rw e at told.buffer in
        record {
          shares = q;
          takes_out = rw left t;
          tells = λ h. second_told 0 q [] small reply g.buffer h b;
          accepted =
              some_owned account number ls (desk_in m) begins_sound goes.runs.shown
              (goes.told.running.cancels_own account number q
              (subst (λ (s : Desk). (cancel_call s.day account number s.book).answer.reply ≡ CancelReply.TheVariants.Withdrawn q) last_desk e));
        }

pub for_c : ForC
for_c =
    record {
      never_15 = λ m o ls c. each_not_15 ls _ (goes m o ls c).runs.shown (goes m o ls c).told.never_unsound;
      numbered = numbered;
      cancels_its_own = takes_its_own;
      open_refused = λ day book reply day' book' reply' close mark r.
          untouched.open_refused day book reply.bytes day'.bytes book'.bytes reply'.bytes close mark r;
      clock_refused = λ day book trades reply day' book' trades' reply' time r.
          untouched.clock_refused_lem day book trades reply.bytes day'.bytes book'.bytes trades'.bytes reply'.bytes r time;
      order_refused = λ day book trades reply day' book' trades' reply' a r.
          untouched.order_refused_lem day book trades reply.bytes day'.bytes book'.bytes trades'.bytes reply'.bytes r a;
      cancel_refused = λ day book reply day' book' reply' account number r.
          untouched.cancel_refused_lem day book reply.bytes day'.bytes book'.bytes reply'.bytes account number r;
      list_refused = λ day book prices reply prices' reply' asked r.
          untouched.list_refused day book prices reply.bytes prices'.bytes reply'.bytes asked r;
    }
