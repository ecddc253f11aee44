-- Two stores, one behind the other.
use mathlib.Core.Path.{◌≡◌, refl}
use Prim.Native.Nat.{◌/◌, ◌%◌}
use native.Mathlib.Omega.{arith}
use Rattle.plan.proofs.Laying.{put_laid}
use Rattle.dimacs.proofs.Recording.{two_stores}
use Rattle.dimacs.proofs.printing.Printer.two.Goals as goal

pub returns : goal.returns
returns c =
    let high : c.args.value / 256 % 256 ≡ c.args.value / 256 = omega arith in
    record { laid = rw (c.to_be_bytes.ensures, high) (put_laid (two_stores _ _ _ c.requires)); same_reference = refl }
