-- Visiting the nodes of a set one by one, the lowest first.
-- Assumes nothing.
use mathlib.Core.Path.{◌≡◌, refl, sym, ap, ◌∙◌, subst}
use mathlib.Core.Logic.{⊎_elim}
use mathlib.Core.List.{List}
use Prim.Native.Nat.{ℕ, ◌+◌, ◌<◌}
use native.Mathlib.Decide.{ℕ_discrete}
use native.Mathlib.Omega.{arith}
use lib.ListN.{length, get_or, set, length-set}
use lib.Seq.{get_or-set_same, get_or-set_other}
use lib.Dec.{T}
use Rattle.walk.specs.Walking.{bit}
use Rattle.walk.specs.Front.{size, Visited}
use Rattle.walk.specs.Members.{Lowest}
use Rattle.walk.proofs.Sets.{bit_empty, size_empty, size_lowest, Taken, taken_lowest}

-- a set without nodes
pub visited_none : (x c tail : ℕ) (counts queue : List ℕ) → x ≡ 0 → Visited x c tail counts queue tail counts queue
visited_none x c tail counts queue e = record {
  ends = omega (arith, ap size e, size_empty 64);
  kept = λ i l. refl;
  only = λ i l m. absurd (omega arith);
  place = λ w t. absurd (none w t);
  number = λ w t. absurd (none w t);
  other = λ w n. refl;
  numbered = refl;
  places = refl;
}
  where
    none : (w : ℕ) → T (bit w x) → ⊥
    none w t = bit_empty w (subst (λ (y : ℕ). T (bit w y)) e t)

-- the lowest node and then the others
module _ (x node rest c tail : ℕ) (counts queue : List ℕ) (end : ℕ) (counts' queue' : List ℕ) (l : Lowest x node rest) (long : length counts ≡ 64) (room : tail < length queue)
    (v : Visited rest c (tail + 1) (set counts node c) (set queue tail node) end counts' queue') where
  t : Taken x node rest
  t = taken_lowest l

  at_tail : get_or queue' tail 0 ≡ node
  at_tail = v.kept tail (omega arith) ∙ get_or-set_same queue tail node 0 room

  pub visited_more : Visited x c tail counts queue end counts' queue'
  visited_more = record {
    ends = omega (arith, v.ends, size_lowest l);
    kept = λ i l. v.kept i (omega arith) ∙ get_or-set_other queue tail i node 0 (λ e. omega arith);
    only = λ i l m. elim (ℕ_discrete i tail) [
      | yes e ↦ subst (λ (y : ℕ). T (bit y x)) (sym (ap (λ (y : ℕ). get_or queue' y 0) e ∙ at_tail)) t.is
      | no d ↦ t.kept (get_or queue' i 0) (v.only i (omega arith) m)
    ];
    place = λ w b. ⊎_elim
        (λ e. (tail, omega arith, omega (arith, v.ends), at_tail ∙ sym e))
        (λ r. let p = v.place w r in (p.0, omega (arith, p.1), p.2, p.3))
        (t.other w b);
    number = λ w b. ⊎_elim
        (λ e. ap (λ (y : ℕ). get_or counts' y 0) e ∙ v.other node t.gone ∙ get_or-set_same counts node c 0 (omega (arith, long, t.inside)))
        (λ r. v.number w r)
        (t.other w b);
    other = λ w n.
        v.other w (λ r. n (t.kept w r)) ∙ get_or-set_other counts node w c 0 (λ e. n (subst (λ (y : ℕ). T (bit y x)) (sym e) t.is));
    numbered = v.numbered ∙ length-set counts node c;
    places = v.places ∙ length-set queue tail node;
  }
