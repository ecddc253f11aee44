-- 16-bit words as signed numbers.
-- Assumes nothing.
use Rattle.reader.proofs.Kit.{◌≡◌, refl, ap, ◌∙◌, Bool, true, false, ℕ, ◌-◌, ◌<◌, ◌≤◌, arith, rules, lt-ltb, le-ltb, ltb, ℤ, pos, negsuc}
use mir.Syntax.{w16}
use mir.Val.{SFits, sel, to_z, of_z}
use mir.Facts.{to_z-of_z, sfits_to_z}
use Rattle.reader.specs.Format.{twos, pick_z}

pub twos_low : (x : ℕ) → x < 32768 → twos x ≡ pos x
twos_low x h = ap (λ b. pick_z b (pos x) (negsuc (65535 - x))) (lt-ltb x 32768 h)

pub twos_high : (x : ℕ) → 32768 ≤ x → twos x ≡ negsuc (65535 - x)
twos_high x h = ap (λ b. pick_z b (pos x) (negsuc (65535 - x))) (le-ltb x 32768 h)

-- a word that is cast, and passed on
pub cast_is : {w x : ℕ} {l : ℤ} → w < 65536 → l ≡ to_z w16 w → w ≡ x → to_z w16 (of_z w16 l) ≡ twos x
cast_is {w} {x} {l} h e same =
    let f : SFits w16 l = rw e (sfits_to_z (search rules)) in
    to_z-of_z f ∙ e ∙ go (ltb w 32768) (omega arith) ∙ ap twos same
  where
    go : (b : Bool) {k m : ℕ} → k ≡ m → sel b (pos w) (negsuc k) ≡ pick_z b (pos w) (negsuc m)
    go true q = refl
    go false q = ap negsuc q
