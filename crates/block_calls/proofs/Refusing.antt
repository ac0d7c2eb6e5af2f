-- A declaration's rules: the groups in which the code goes through them are the rules of #108 in its order, and which is the first to
-- hold, from the tests' answers.
use Prim.Native.Nat.{ℕ, ◌≤◌, ◌<◌}
use mathlib.Core.Path.{◌≡◌, refl, sym, ap, ◌∙◌}
use mathlib.Core.Bool.{true, false, ◌||◌}
use mathlib.Core.List.{List, ◌∷◌, ◌++◌}
use lib.ListN.{length}
use borrow.Author.Tests.{lt-ltb, le-ltb, eq-eqb, ne_eqb, not-false}
use Rattle.model.specs.declared.Order.{Order}
use Rattle.model.specs.declared.Declaration.{Declaration}
use Rattle.model.specs.declared.AskedBlock.{AskedBlock}
use Rattle.model.specs.declared.Day.{Day}
use Rattle.model.specs.Lists.{all}
use Rattle.model.specs.Blocks.{is_held}
use Rattle.model.specs.Refusals.{◌when◌, first_of, unsound, unsound_blocks}
use Rattle.model.specs.BlockCalls.{block_trades, block_rules}
use Rattle.model.proofs.Rules.{NoneHolds, none_holds, hit, skip, given_by, passed_by}
use Rattle.blocks.proofs.Newcomers.{AskedWell}
use Rattle.block_entries.specs.Rules.{asked_rules, place_rules}
use Rattle.block_entries.proofs.Asking.{asked_numbered}

pub block_groups :
    (d : Day) (a : AskedBlock) (main : List Order) (held : List Declaration) (room : ℕ)
    → block_rules d a main held room
    ≡ 15 when (unsound d main || unsound_blocks d held) ∷ (asked_rules d a ++ place_rules d a held room)
unfolding block_rules asked_rules place_rules
block_groups d a main held room = refl

-- where none of the first group holds, what is asked is well formed
pub asked_well : (d : Day) (a : AskedBlock) → first_of (asked_rules d a) ≡ 0 → AskedWell d a
unfolding asked_rules ◌when◌
asked_well d a z =
    let n : NoneHolds (asked_rules d a) = none_holds (asked_rules d a) (asked_numbered d a) z in
    record {
      side = not-false _ n.0;
      accounts = n.1.0;
      hours = not-false _ n.1.1.0;
      limited = n.1.1.1.0;
      price = not-false _ n.1.1.1.1.0;
      size = not-false _ n.1.1.1.1.1.0;
      band = not-false _ n.1.1.1.1.1.1.0;
    }

-- ---- one group after the other

module _ (d : Day) (a : AskedBlock) (main : List Order) (held : List Declaration) (room : ℕ) where
  abbrev pub rules : ℕ
  rules = first_of (block_rules d a main held room)

  pub block_unsound : unsound d main || unsound_blocks d held ≡ true → 15 ≡ rules
  block_unsound u = sym (ap first_of (block_groups d a main held room) ∙ hit 15 (asked_rules d a ++ place_rules d a held room) u)

  module _ (u : unsound d main ≡ false) (s : unsound_blocks d held ≡ false) where
    past_soundness : first_of (asked_rules d a ++ place_rules d a held room) ≡ rules
    past_soundness =
        sym (ap first_of (block_groups d a main held room) ∙ skip 15 (asked_rules d a ++ place_rules d a held room) (rw (u, s)))

    pub block_asked : {n : ℕ} → n ≡ first_of (asked_rules d a) → (n ≡ 0 → ⊥) → n ≡ rules
    block_asked e n = given_by (asked_rules d a) (place_rules d a held room) e n ∙ past_soundness

    module _ (z : first_of (asked_rules d a) ≡ 0) where
      past_asked : {n : ℕ} → n ≡ first_of (place_rules d a held room) → n ≡ rules
      past_asked g = passed_by (asked_rules d a) (place_rules d a held room) (asked_numbered d a) refl z g ∙ past_soundness

      pub block_full : all is_held held ≡ true → 10 ≡ rules
      unfolding place_rules first_of ◌when◌
      block_full f = past_asked (rw f)

      module _ (f : all is_held held ≡ false) where
        pub block_numbers_lem : d.blocks.issued ≡ 999_999 → 11 ≡ rules
        unfolding place_rules first_of ◌when◌
        block_numbers_lem n = past_asked (rw (f, eq-eqb d.blocks.issued 999_999 n))

        module _ (n : d.blocks.issued ≡ 999_999 → ⊥) where
          pub block_lacks : room < length (block_trades d a held) → 13 ≡ rules
          unfolding place_rules first_of ◌when◌
          block_lacks h =
              past_asked (rw (f, ne_eqb d.blocks.issued 999_999 n, lt-ltb room (length (block_trades d a held)) h))

          pub block_none : length (block_trades d a held) ≤ room → 0 ≡ rules
          unfolding place_rules first_of ◌when◌
          block_none h =
              past_asked (rw (f, ne_eqb d.blocks.issued 999_999 n, le-ltb room (length (block_trades d a held)) h))
