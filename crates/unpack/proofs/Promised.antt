-- What is promised of a day file unpacked holds. Assumes nothing.
use Prim.Native.Nat.{ℕ, suc}
use mathlib.Core.Path.{◌≡◌, ap}
use mathlib.Core.Bool.{Bool, true, false, cond}
use mathlib.Core.List.{List, []}
use native.Mathlib.Omega.{arith}
use lib.Dec.{eqb}
use Rattle.model.specs.declared.Event.{Event}
use Rattle.model.specs.Refusals.{first_of}
use Rattle.day_files.specs.Files.{Reading, file_bytes, read_file, read_rules, whole_blocks, events_of}
use Rattle.day_files.proofs.Changed.{read_means}
use Rattle.day_files.proofs.Filed.{read_back}
use Rattle.file_scripts.specs.Scripts.{script_of}
use Rattle.fronts.specs.Good.{good_blocks}
use Rattle.fronts.proofs.Read.{read_good}
use Rattle.unpack.specs.Unpacking.{refused_line, unpacked}
use Rattle.unpack.specs.Promises.{Unpacks}

whole : (file : List ℕ) (es : List Event) → read_file file ≡ Reading.Read es → unpacked file ≡ record { script = script_of es; told = [] }
unfolding unpacked refused_line
whole file es e = let k = read_means file es e in rw (k.0, read_good file es e, k.1)

refused : (file : List ℕ) (n : ℕ) → read_file file ≡ Reading.Refused n → (unpacked file).told ≡ refused_line n (suc (good_blocks file))
unfolding unpacked read_file
refused file n e = ap (λ (m : ℕ). refused_line m (suc (good_blocks file))) (go (eqb (first_of (read_rules file)) 0) e)
  where
    go :
        (t : Bool)
        → cond t (Reading.Read (events_of (whole_blocks file) file)) (Reading.Refused (first_of (read_rules file))) ≡ Reading.Refused n
        → first_of (read_rules file) ≡ n
    go true f = let z : ◌≡◌ {A = ℕ} 0 1 = cc in absurd (omega arith)
    go false f = cc

pub unpacks : Unpacks
unpacks =
    record { whole = whole; back = λ es h l. whole (file_bytes es) es (read_back es h l); refused = refused }
