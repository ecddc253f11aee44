-- The look at one clause of the flat table: where it stops, and what the clause then does.
-- Assumes nothing.
use mathlib.Core.Path.{◌≡◌, sym, subst, ◌∙◌, ap}
use mathlib.Core.Logic.{◌⊎◌, inl, inr, ◌≢◌, ⊎_elim}
use mathlib.Core.List.{List, Memᴰ}
use Prim.Native.Nat.{ℕ, ◌+◌, ◌≤◌, ◌<◌}
use native.Mathlib.Decide.{ℕ_discrete}
use native.Mathlib.Omega.{arith}
use lib.ListN.{length, get_or}
use lib.IntN.{ℤ, pos, neg_ℤ, ℤ_discrete}
use lib.Dec.{T}
use mir.Syntax.{w8, w16}
use mir.Val.{SFits, of_z, to_z}
use mir.Facts.{to_z-of_z}
use Rattle.plan.specs.Meaning.{true_in}
use Rattle.plan.specs.Ranged.{LiteralFits}
use Rattle.plan.specs.ClauseTable.{EndsAt, End, part}
use Rattle.plan.specs.Tables.{literal_value}
use Rattle.plan.proofs.Signs.{bits_eq, bits_same}
use Rattle.plan.proofs.Literals.{bits_true, bits_false, true_bits, false_bits}
use Rattle.plan.proofs.Bools.{T?}
use Rattle.plan.proofs.Places.{found_on}
use Rattle.plan.proofs.Lists.{le_or_lt}
use Rattle.plan.proofs.ClauseTable.{not_last, part_in, part_out}
use Rattle.unit.specs.Clauses.{Ready, Stops, Stop, OthersFalse, SaysAt}
use Rattle.std.specs.Prelude.{Some, None, Ok, Err}
use Rattle.unit.specs.declared.Clash.{Clash}
use Rattle.unit.proofs.Calm.{quiet_true, quiet_two}

-- where the look goes on: at a literal that is the one passed over, or false
goes_on : (a : List ℤ) (passed l : ℤ) → (Stops a passed l → ⊥) → (l ≢ pos 0) × ((l ≡ passed) ⊎ T (true_in a (neg_ℤ l)))
goes_on a passed l n = ((λ z. n (inl z)), go (ℤ_discrete l passed) (T? (true_in a (neg_ℤ l))))
  where
    go : Dec (l ≡ passed) → T (true_in a (neg_ℤ l)) ⊎ (T (true_in a (neg_ℤ l)) → ⊥) → (l ≡ passed) ⊎ T (true_in a (neg_ℤ l))
    go (yes e) f = inl e
    go (no d) (inl f) = inr f
    go (no d) (inr f) = absurd (n (inr (d, f)))

-- the clause goes on behind a stop at a literal
stop_inside : (cs a : List ℤ) (passed : ℤ) {from r e : ℕ} → Stop cs a from passed r → get_or cs r (pos 0) ≢ pos 0 → End cs from e → r < e
stop_inside cs a passed {r = r} {e = e} s some n = go (le_or_lt e r) (ℕ_discrete e r)
  where
    go : (e ≤ r) ⊎ (r < e) → Dec (e ≡ r) → r < e
    go (inr h) d = h
    go (inl h) (yes q) = absurd (some (sym (ap (λ j. get_or cs j (pos 0)) q) ∙ n.here))
    go (inl h) (no d) = absurd (s.before e n.after (omega arith) (inl n.here))

-- a number behind which the look goes on, or at which it stops, as the code tests it
module _ {cs a : List ℤ} {at : ℕ} (ready : Ready cs a) (inside : at < length cs) (f : SFits w16 (get_or cs at (pos 0))) (n : of_z w16 (get_or cs at (pos 0)) ≡ 0 → ⊥) where
  not_zero : get_or cs at (pos 0) ≢ pos 0
  not_zero z = n (ap (of_z w16) z)

  fits_here : LiteralFits (length a) (get_or cs at (pos 0))
  fits_here = ready.table.fits at inside not_zero

  pub next_inside : at + 1 < length cs
  next_inside = not_last cs at ready.table.ended inside not_zero

  pub goes_passed : {passed : ℤ} → SFits w16 passed → of_z w16 (get_or cs at (pos 0)) ≡ of_z w16 passed → Stops a passed (get_or cs at (pos 0)) → ⊥
  goes_passed g e s = ⊎_elim not_zero (λ u. u.0 (bits_same w16 _ _ f g e)) s

  module _ {v : ℤ} (e : v ≡ literal_value a (to_z w16 (of_z w16 (get_or cs at (pos 0))))) where
    value_here : v ≡ literal_value a (get_or cs at (pos 0))
    value_here = e ∙ ap (literal_value a) (to_z-of_z f)

    pub goes_false : {passed : ℤ} → of_z w8 v ≡ 255 → Stops a passed (get_or cs at (pos 0)) → ⊥
    goes_false x s = ⊎_elim not_zero (λ u. u.1 (bits_false a _ v ready.shape fits_here value_here x)) s

    pub stops_here : {passed : ℤ} → (of_z w16 (get_or cs at (pos 0)) ≡ of_z w16 passed → ⊥) → (of_z w8 v ≡ 255 → ⊥) → Stops a passed (get_or cs at (pos 0))
    stops_here p x = inr ((λ q. p (ap (of_z w16) q)), (λ t. x (false_bits a _ v ready.shape fits_here value_here t)))

-- the four ways out of the look at the clause that begins at `at`
module _ {cs a : List ℤ} {at first : ℕ} (ready : Ready cs a) (s : Stop cs a at (pos 0) first) where
  abbrev literal : ℤ
  literal = get_or cs first (pos 0)

  all_before : (k : ℕ) → at ≤ k → k < first → T (true_in a (neg_ℤ (get_or cs k (pos 0))))
  all_before k x y = let q = goes_on a (pos 0) (get_or cs k (pos 0)) (s.before k x y) in ⊎_elim (λ z. absurd (q.0 z)) (λ t. t) q.1

  pub at_zero : literal ≡ pos 0 → (c : Clash) → SaysAt cs at a (Err c)
  at_zero z c e n l m = let q = part_out cs at e n l m in subst (λ x. T (true_in a (neg_ℤ x))) (sym q.3) (go q.0 q.1 q.2 (le_or_lt first q.0))
    where
      go : (k : ℕ) → at ≤ k → k < e → (first ≤ k) ⊎ (k < first) → T (true_in a (neg_ℤ (get_or cs k (pos 0))))
      go k x y (inl h) = absurd (n.before first s.after (omega arith) z)
      go k x y (inr h) = all_before k x h

  -- a literal stands at the first stop
  module _ (some : literal ≢ pos 0) where
    pub literal_fits : LiteralFits (length a) literal
    literal_fits = ready.table.fits first s.inside some

    not_false : T (true_in a (neg_ℤ literal)) → ⊥
    not_false t = ⊎_elim (λ z. some z) (λ q. q.1 t) s.here

    first_in : (e : ℕ) → End cs at e → Memᴰ literal (part cs at e)
    first_in e n = part_in cs at e n first s.after (stop_inside cs a (pos 0) s some n)

    pub at_true : T (true_in a literal) → SaysAt cs at a (Ok None)
    at_true t e n = quiet_true a (part cs at e) literal (first_in e n) t

    -- the second stop, behind the first
    module _ {second : ℕ} (r : Stop cs a (first + 1) literal second) where
      pub at_second : get_or cs second (pos 0) ≢ pos 0 → SaysAt cs at a (Ok None)
      at_second z e n =
          let x = s.after in
          let y = r.after in
          let h = stop_inside cs a (pos 0) s some n in
          let w = stop_inside cs a literal r z (found_on (EndsAt cs) n (omega arith) (omega arith)) in
          quiet_two (true_in a) (part cs at e) literal (get_or cs second (pos 0)) (first_in e n) (part_in cs at e n second (omega arith) w) not_false
          (λ t. ⊎_elim (λ o. z o) (λ o. o.1 t) r.here) (λ t. ⊎_elim (λ o. z o) (λ o. o.0 t) r.here)

      pub at_end : get_or cs second (pos 0) ≡ pos 0 → (T (true_in a literal) → ⊥) → SaysAt cs at a (Ok (Some literal))
      at_end z f e n = (literal_fits, record { among = first_in e n; others = others; not_true = f; not_false = not_false })
        where
          go : (k : ℕ) → at ≤ k → k < e → get_or cs k (pos 0) ≢ literal → (first ≤ k) ⊎ (k < first) → (second ≤ k) ⊎ (k < second) → T (true_in a (neg_ℤ (get_or cs k (pos 0))))
          go k p q o (inr h) w = all_before k p h
          go k p q o (inl h) (inl w) = absurd (n.before second (omega (arith, s.after, r.after)) (omega arith) z)
          go k p q o (inl h) (inr w) =
              let d : k ≡ first → ⊥ = λ y. o (ap (λ j. get_or cs j (pos 0)) y) in
              ⊎_elim (λ y. absurd (o y)) (λ t. t) (goes_on a literal (get_or cs k (pos 0)) (r.before k (omega arith) w)).1

          others : OthersFalse (true_in a) (part cs at e) literal
          others m i o = let q = part_out cs at e n m i in subst (λ x. T (true_in a (neg_ℤ x))) (sym q.3) (go q.0 q.1 q.2 (λ w. o (q.3 ∙ w)) (le_or_lt first q.0) (le_or_lt second q.0))

-- the same ways out as the code tests them
module _ {cs a : List ℤ} {at first : ℕ} (ready : Ready cs a) (s : Stop cs a at (pos 0) first) (f : SFits w16 (get_or cs first (pos 0))) where
  pub tested_zero : of_z w16 (get_or cs first (pos 0)) ≡ 0 → (c : Clash) → SaysAt cs at a (Err c)
  tested_zero z = at_zero ready s (bits_eq w16 _ 0 f z)

  module _ (n : of_z w16 (get_or cs first (pos 0)) ≡ 0 → ⊥) where
    some : get_or cs first (pos 0) ≢ pos 0
    some = not_zero ready s.inside f n

    module _ {v : ℤ} (e : v ≡ literal_value a (to_z w16 (of_z w16 (get_or cs first (pos 0))))) where
      pub tested_true : of_z w8 v ≡ 1 → SaysAt cs at a (Ok None)
      tested_true t = at_true ready s some (bits_true a _ v ready.shape (fits_here ready s.inside f n) (value_here ready s.inside f n e) t)

      module _ {second : ℕ} (r : Stop cs a (first + 1) (to_z w16 (of_z w16 (get_or cs first (pos 0)))) second) where
        second_stop : Stop cs a (first + 1) (get_or cs first (pos 0)) second
        second_stop = subst (λ l. Stop cs a (first + 1) l second) (to_z-of_z f) r

        pub tested_second : (of_z w16 (get_or cs second (pos 0)) ≡ 0 → ⊥) → SaysAt cs at a (Ok None)
        tested_second o = at_second ready s some second_stop (λ z. o (ap (of_z w16) z))

        pub tested_end : SFits w16 (get_or cs second (pos 0)) → of_z w16 (get_or cs second (pos 0)) ≡ 0 → (of_z w8 v ≡ 1 → ⊥)
            → SaysAt cs at a (Ok (Some (to_z w16 (of_z w16 (get_or cs first (pos 0))))))
        tested_end g z t =
            let value = value_here ready s.inside f n e in
            rw (to_z-of_z f) (at_end ready s some second_stop (bits_eq w16 _ 0 g z) (λ u. t (true_bits a _ v ready.shape (fits_here ready s.inside f n) value u)))
