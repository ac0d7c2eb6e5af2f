-- Numbers as bytes, least byte first, and records in a row.
use Rattle.std.specs.Prelude.{ℕ, zero, suc, ◌+◌, ◌*◌, ◌/◌, ◌%◌, ◌<◌, List, [], ◌∷◌, ◌++◌, drop, get_or}

-- every element is a byte
abbrev pub AllBytes : List ℕ → Type 0
AllBytes b = (i : ℕ) → get_or b i 0 < 256

-- what some bytes are worth
unfoldable pub worth : List ℕ → ℕ
worth [] = 0
worth (b ∷ bs) = b + 256 * worth bs

-- a number as so many bytes
unfoldable pub digits : ℕ → ℕ → List ℕ
digits zero x = []
digits (suc n) x = x % 256 ∷ digits n (x / 256)

-- n things of so many bytes each, every one read off the front
unfoldable pub parts : {A : Type 0} → (List ℕ → A) → ℕ → ℕ → List ℕ → List A
parts f size zero b = []
parts f size (suc n) b = f b ∷ parts f size n (drop size b)

-- one after the other
unfoldable pub flat : {A : Type 0} → (A → List ℕ) → List A → List ℕ
flat f [] = []
flat f (x ∷ xs) = f x ++ flat f xs
