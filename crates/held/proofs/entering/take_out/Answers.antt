-- Those behind the place move up by one, and the last place becomes free.
use mathlib.Core.Path.{◌≡◌, ap, ◌∙◌}
use mathlib.Core.List.{List}
use Prim.Native.Nat.{◌+◌, ◌-◌}
use lib.ListN.{length, set}
use borrow.Author.Rules.{rules}
use Rattle.std.specs.List.{copy_within}
use Rattle.model.specs.declared.Declaration.{Declaration}
use Rattle.held.proofs.Closing.{moved_up}
use Rattle.held.proofs.entering.take_out.Goals as goal

pub returns : goal.returns
returns c =
    let rows = c.args.rows.now in
    let place = c.args.place in
    let moved : c.copy_within.new.self ≡ copy_within rows (place + 1) (length rows) place = search rules in
    ap (λ (l : List Declaration). set l (length rows - 1) c.no_declaration.result) moved
    ∙ ap (λ (x : Declaration). set (copy_within rows (place + 1) (length rows) place) (length rows - 1) x) c.no_declaration.ensures
    ∙ moved_up _ rows place c.requires
