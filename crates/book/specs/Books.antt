-- The lists of a day as the definitions have them.
use Rattle.std.specs.Prelude.{List}
use Rattle.model.specs.declared.Order.{Order}
use Rattle.model.specs.declared.Declaration.{Declaration}
use Rattle.model.specs.Books.{Books}

-- the main book, the fixed-price book and the declarations
abbrev pub books_of : List Order → List Order → List Declaration → Books
books_of main fixed blocks = record { main = main; fixed = fixed; blocks = blocks }
