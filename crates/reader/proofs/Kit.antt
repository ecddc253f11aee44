-- What the proofs of this crate take from the libraries.
-- Assumes nothing.
pub use mathlib.Core.Path.{◌≡◌, refl, sym, ap, ◌∙◌, subst}
pub use mathlib.Core.Logic.{⊎_elim}
pub use mathlib.Core.Bool.{Bool, true, false, not, ◌&&◌, ◌||◌, and-eq-true_iff, or-true, false≢true}
pub use mathlib.Core.List.Memᴰ.{append_cases as List·Memᴰ·append-cases}
pub use mathlib.Core.List.Memᴰ.{cases_cons as List·Memᴰ·cases-cons}
pub use mathlib.Core.List.Memᴰ.{eq_of_singleton as List·Memᴰ·eq-of-singleton}
pub use mathlib.Core.List.Memᴰ.{not-nil as List·Memᴰ·not-nil}
pub use mathlib.Core.List.{List, [], ◌∷◌, ◌++◌, append-nil, Memᴰ as List-as-Memᴰ}
pub use Prim.Native.Nat.{ℕ, zero, suc, ◌+◌, ◌-◌, ◌*◌, ◌/◌, ◌<◌, ◌≤◌}
pub use native.Mathlib.Omega.{arith}
pub use borrow.Author.Rules.{rules}
pub use borrow.Author.Tests.{lt-ltb, le-ltb, lt-leb, le-leb, eq-eqb, ne_eqb, ltb-true, leb-true, eqb-true, not-true}
pub use lib.Dec.{ltb, leb, eqb}
pub use lib.IntN.{ℤ, pos, negsuc, nat_abs}
pub use lib.ListN.{length, take, drop, get_or, set, length-drop, length-append}
