-- The place of an account's order.
use Rattle.std.specs.Prelude.{ℕ, suc, Bool, List, [], ◌∷◌, if◌then◌else◌}
use Rattle.model.specs.declared.Order.{Order}
use Rattle.model.specs.Calls.{is_own}

-- the first place whose order passes the test, or the number of places where none does
unfoldable pub first_with : (Order → Bool) → List Order → ℕ
first_with p [] = 0
first_with p (o ∷ os) = if p o then 0 else suc (first_with p os)

-- the place of the account's live order with this number
unfoldable pub place_of : ℕ → ℕ → List Order → ℕ
place_of account number book = first_with (is_own account number) book
