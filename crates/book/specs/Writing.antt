-- A list written at the front of a lent one.
use Rattle.std.specs.Prelude.{List, ◌++◌, length, take, drop}

-- as many as fit stand at the front; the rest of the lent list stays
unfoldable pub fitted : {A : Type 0} → List A → List A → List A
fitted xs lent = take (length lent) xs ++ drop (length xs) lent
