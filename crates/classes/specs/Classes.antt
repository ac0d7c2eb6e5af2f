-- The class of a declaration: what a buyer and a seller that fit have in common. Classes are compared number by number.
use Rattle.std.specs.Prelude.{ℕ, Bool, true, false, ◌&&◌, List, [], ◌∷◌, eqb, ltb, if◌then◌else◌}
use Rattle.model.specs.declared.Declaration.{Declaration}

-- who buys, and who sells, by what a declaration says
unfoldable pub buying_account : Declaration → ℕ
buying_account x = if eqb x.side 0 then x.account else x.counter

unfoldable pub selling_account : Declaration → ℕ
selling_account x = if eqb x.side 0 then x.counter else x.account

abbrev pub accounts_of : Declaration → List ℕ
accounts_of x = buying_account x ∷ selling_account x ∷ []

unfoldable pub class_of : Declaration → List ℕ
class_of x = x.price ∷ x.quantity ∷ x.agreement ∷ buying_account x ∷ selling_account x ∷ []

unfoldable pub is_same : List ℕ → List ℕ → Bool
is_same [] [] = true
is_same [] (y ∷ ys) = false
is_same (x ∷ xs) [] = false
is_same (x ∷ xs) (y ∷ ys) = eqb x y && is_same xs ys

-- the first number in which two differ decides
unfoldable pub is_before : List ℕ → List ℕ → Bool
is_before [] [] = false
is_before [] (y ∷ ys) = true
is_before (x ∷ xs) [] = false
is_before (x ∷ xs) (y ∷ ys) = if eqb x y then is_before xs ys else ltb x y
