-- Those without a partner close up: who stays of the places from here on does not change, and free places follow the last of them.
use Prim.Native.Nat.{ℕ, zero, suc, ◌+◌, ◌-◌, ◌≤◌, ◌<◌}
use mathlib.Core.Path.{◌≡◌, refl, sym, ap, ◌∙◌}
use mathlib.Core.Bool.{Bool, true, false, cond}
use mathlib.Core.List.{List, [], ◌∷◌, ◌++◌, append_assoc, append-nil}
use native.Mathlib.Omega.{arith}
use native.Mathlib.Numerals.{add-one}
use lib.ListN.{length, get_or, take, drop, set, replicate, length-set, drop_of_length-le}
use lib.Seq.{drop-cons, drop-drop, drop-set-lt, get_or-drop, take-suc-set, length-take-le}
use lib.Dec.{eqb}
use borrow.Author.Tests.{eq-eqb, ne_eqb}
use Rattle.model.specs.declared.Declaration.{Declaration}
use Rattle.model.specs.Blocks.{undeclared}
use Rattle.partners.specs.Partners.{alone}
use Rattle.blocks.specs.Confirming.{Stayed, followed}

-- ---- rows

held_append : (xs ys : List Declaration) → (xs ++ ys) ≡ xs ++ ys
held_append [] ys = refl
held_append (x ∷ xs) ys = ap (λ (l : List Declaration). x ∷ l) (held_append xs ys)

held_free : (n : ℕ) → (replicate n undeclared) ≡ replicate n undeclared
held_free zero = refl
held_free (suc n) = ap (λ (l : List Declaration). undeclared ∷ l) (held_free n)

-- ---- one place

module _ {x : Declaration} {p kept : ℕ} {rows : List Declaration} where
  pub leaves_place : (p ≡ 0 → ⊥) → Stayed x p kept rows kept rows
  leaves_place n = let e : eqb p 0 ≡ false = ne_eqb p 0 n in record { places = rw e; written = rw e }

  pub stays_place :
      {rows' : List Declaration} → p ≡ 0 → rows' ≡ set rows kept x → Stayed x p kept rows (kept + 1) rows'
  stays_place z g = let e : eqb p 0 ≡ true = eq-eqb p 0 z in record { places = rw e; written = rw e g }

-- ---- place by place

alone_stays :
    (x : Declaration) (held : List Declaration) (p : ℕ) (ps : List ℕ)
    → eqb p 0 ≡ true
    → alone (x ∷ held) (p ∷ ps) ≡ x ∷ alone held ps
unfolding alone
alone_stays x held p ps e = rw e

alone_leaves :
    (x : Declaration) (held : List Declaration) (p : ℕ) (ps : List ℕ)
    → eqb p 0 ≡ false
    → alone (x ∷ held) (p ∷ ps) ≡ alone held ps
unfolding alone
alone_leaves x held p ps e = rw e

pub record Staying (rows₀ : List Declaration) (ps : List ℕ) (rows : List Declaration) (kept i : ℕ) : Type 0 where
  pub same : take kept rows ++ alone (drop i rows₀) (drop i ps) ≡ alone rows₀ ps
  pub rest : drop i rows ≡ drop i rows₀
  pub long : length rows ≡ length rows₀
  pub few : kept ≤ i
  pub within : i ≤ length rows₀

module _ (rows₀ : List Declaration) (ps : List ℕ) where
  abbrev held₀ : List Declaration
  held₀ = rows₀

  pub staying_start : Staying rows₀ ps rows₀ 0 0
  staying_start = record { same = refl; rest = refl; long = refl; few = omega arith; within = omega arith }

  module _ {rows : List Declaration} {kept i : ℕ} (w : Staying rows₀ ps rows kept i) where
    -- the place that is read next is as it was
    read_next : get_or rows i undeclared ≡ get_or held₀ i undeclared
    read_next =
        let z : i + 0 ≡ i = omega arith in
        ap (λ (n : ℕ). get_or rows n undeclared) (sym z)
        ∙ sym (get_or-drop i rows 0 undeclared)
        ∙ ap (λ (l : List Declaration). get_or l 0 undeclared) w.rest
        ∙ get_or-drop i held₀ 0 undeclared
        ∙ ap (λ (n : ℕ). get_or held₀ n undeclared) z

    later : drop (i + 1) rows ≡ drop (i + 1) held₀
    later = sym (drop-drop 1 i rows) ∙ ap (drop 1) w.rest ∙ drop-drop 1 i held₀

    module _ {x : Declaration} {p : ℕ} (h : i < length rows) (k : i < length ps) (e : x ≡ get_or rows i undeclared) (f : p ≡ get_or ps i 0) where
      here : alone (drop i held₀) (drop i ps) ≡ alone (x ∷ drop (i + 1) held₀) (p ∷ drop (i + 1) ps)
      here =
          let inside : i < length held₀ = omega (arith, w.long) in
          let there : x ≡ get_or held₀ i undeclared = e ∙ read_next in
          let held_next : drop i held₀ ≡ x ∷ drop (i + 1) held₀ =
          drop-cons held₀ i undeclared inside ∙ rw (sym there, add-one i) in
          let ps_next : drop i ps ≡ p ∷ drop (i + 1) ps = drop-cons ps i 0 k ∙ rw (sym f, add-one i) in
          ap (λ (l : List Declaration). alone l (drop i ps)) held_next ∙ ap (alone (x ∷ drop (i + 1) held₀)) ps_next

      one_stays : {rows' : List Declaration} → eqb p 0 ≡ true → rows' ≡ set rows kept x → Staying rows₀ ps rows' (kept + 1) (i + 1)
      one_stays {rows'} t g =
          let put : rows' ≡ set rows kept x = g in
          let inside : kept < length rows = omega (arith, w.few) in
          let more : alone (drop i held₀) (drop i ps) ≡ x ∷ alone (drop (i + 1) held₀) (drop (i + 1) ps) =
          here ∙ alone_stays x (drop (i + 1) held₀) p (drop (i + 1) ps) t in
          record {
            same =
                rw (put, add-one kept, take-suc-set rows kept x inside)
                (append_assoc (take kept rows) (x ∷ []) (alone (drop (i + 1) held₀) (drop (i + 1) ps))
                ∙ ap (λ (l : List Declaration). take kept rows ++ l) (sym more)
                ∙ w.same);
            rest = rw put (drop-set-lt (i + 1) rows kept x (omega (arith, w.few)) ∙ later);
            long = ap length g ∙ length-set rows kept x ∙ w.long;
            few = omega (arith, w.few);
            within = omega (arith, w.long);
          }

      one_leaves : eqb p 0 ≡ false → Staying rows₀ ps rows kept (i + 1)
      one_leaves t =
          record {
            same =
                ap (λ (l : List Declaration). take kept rows ++ l)
                (sym (here ∙ alone_leaves x (drop (i + 1) held₀) p (drop (i + 1) ps) t))
                ∙ w.same;
            rest = later;
            long = w.long;
            few = omega (arith, w.few);
            within = omega (arith, w.long);
          }

      pub staying_next : {r : ℕ} {rows' : List Declaration} → Stayed x p kept rows r rows' → Staying rows₀ ps rows' r (i + 1)
      staying_next {r} {rows'} s = go (eqb p 0) refl s.places s.written
        where
          go :
              (b : Bool)
              → eqb p 0 ≡ b
              → r ≡ cond b (kept + 1) kept
              → rows' ≡ cond b (set rows kept x) rows
              → Staying rows₀ ps rows' r (i + 1)
          go true t m g = rw m (one_stays t g)
          go false t m g = rw (m, g) (one_leaves t)

    -- the end of the walk: free places follow those that stay
    pub staying_end :
        {rows' : List Declaration}
        → length rows ≤ i
        → rows' ≡ take kept rows ++ replicate (length rows - kept) undeclared
        → rows' ≡ followed (length rows₀) (alone held₀ ps)
    unfolding followed alone
    staying_end {rows'} h g =
        let short : kept ≤ length rows = omega (arith, w.few, w.within, w.long) in
        let none : drop i held₀ ≡ [] = drop_of_length-le held₀ {i = i} (omega (arith, w.long)) in
        let all : take kept rows ≡ alone held₀ ps =
        sym (append-nil (take kept rows))
        ∙ ap (λ (l : List Declaration). take kept rows ++ alone l (drop i ps)) (sym none)
        ∙ w.same in
        let many : length (alone held₀ ps) ≡ kept =
        sym (ap length all) ∙ length-take-le kept rows (omega arith) in
        g
        ∙ held_append (take kept rows) (replicate (length rows - kept) undeclared)
        ∙ ap (λ (l : List Declaration). l ++ (replicate (length rows - kept) undeclared)) all
        ∙ ap (λ (l : List Declaration). alone held₀ ps ++ l) (held_free (length rows - kept))
        ∙ rw (w.long, many)
