-- The queue through the looks at the clauses: what waits, what is left, and what the looks lead to.
-- Assumes nothing.
use mathlib.Core.Path.{◌≡◌, refl, sym, subst, ◌∙◌}
use mathlib.Core.Logic.{◌⊎◌, inl, inr, ⊎_elim}
use mathlib.Core.List.Memᴰ
use mathlib.Core.List.{List, Memᴰ}
use Prim.Native.Nat.{ℕ, ◌+◌, ◌≤◌, ◌<◌}
use native.Mathlib.Decide.{ℕ_discrete}
use native.Mathlib.Omega.{arith}
use lib.ListN.{length, get_or, set, drop, length-set}
use lib.Seq.{get_or-set_same, get_or-set_other}
use lib.IntN.{ℤ, pos, negsuc, neg_ℤ, nat_abs}
use mir.Syntax.{w16}
use mir.Val.{SFits, of_z, to_z}
use mir.Facts.{to_z-of_z}
use lib.Dec.{T}
use Rattle.plan.specs.Meaning.{PlanFile, true_in, add}
use Rattle.plan.specs.Ranged.{max_variables, LiteralFits}
use Rattle.plan.specs.Closing.{unit, all_false}
use Rattle.plan.specs.Search.{Assigned, opens, nothing}
use Rattle.plan.specs.Tables.{clauses_of}
use Rattle.plan.specs.ClauseTable.{Ended, End, BeginsAt, Begin, part, Stands, Around}
use Rattle.plan.proofs.Add.{add_above, add_has, add_shape, add_opens}
use Rattle.plan.proofs.Closing.{clash_mono}
use Rattle.plan.proofs.Exists.{opens_le}
use Rattle.plan.proofs.Lists.{le_or_lt}
use Rattle.plan.proofs.ClauseTable.{end_some, first_clause, no_more, stands_in, begins_behind, stands_from, around_one, around_some}
use Rattle.plan.proofs.Signs.{nat_abs_neg}
use Rattle.index.specs.Places.{Place, Indexed, slot}
use Rattle.unit.specs.Clauses.{Ready, Says, SaysAt, Quiet, HasClauses, ByClauses, ClauseClash, Ends, Propagated}
use Rattle.std.specs.Prelude.{Option, Some, None, Result, Ok, Err}
use Rattle.unit.specs.Queue.{Does, Applied, Waits, Used, Pending, NoClause, Follows, Tried}
use Rattle.unit.specs.declared.Clash.{Clash}
use Rattle.unit.proofs.Steps.{onward_none, onward_then, onward_add}
use Rattle.unit.proofs.Calm.{quiet_or_waits, quiet_true, add_only}

sized : {n : ℕ} {v : List ℤ} → Assigned n v → Assigned (length v) v
sized {n} {v} s = subst (λ k. Assigned k v) (sym s.long) s

shape_of : {n : ℕ} {cs : List ℤ} (φ : PlanFile) → HasClauses n cs φ → (v : List ℤ) → Assigned n v → Assigned φ.variables v
shape_of φ h v s = subst (λ k. Assigned k v) (sym h.size) s

-- several steps by what clauses give
by_none : (cs v : List ℤ) → Assigned (length v) v → ByClauses cs v v
by_none cs v s = record { shape = s; onward = λ φ h. onward_none φ v (shape_of φ h v s) }

module _ {cs u v : List ℤ} (k : ByClauses cs u v) where
  size_is : (φ : PlanFile) → HasClauses (length u) cs φ → HasClauses (length v) cs φ
  size_is φ h = record { ranged = h.ranged; size = h.size ∙ sym k.shape.long; clauses = h.clauses }

  by_then : {w : List ℤ} → ByClauses cs v w → ByClauses cs u w
  by_then {w} p = record { shape = subst (λ n. Assigned n w) k.shape.long p.shape; onward = λ φ h. onward_then φ u v w (k.onward φ h) (p.onward φ (size_is φ h)) }

  clash_back : ClauseClash cs v → ClauseClash cs u
  clash_back p = λ φ h. (k.onward φ h).back nothing (p φ (size_is φ h))

-- what Pending says of a clause
abbrev Calm : (List ℤ → Type 0) → List ℤ → List ℤ → ℕ → ℕ → List ℤ → Type 0
Calm Left v q head end C = Left C ⊎ (Quiet (true_in v) C ⊎ Waits q head end C)

-- an empty queue
pending_start : {cs v q : List ℤ} {Left : List ℤ → Type 0} → length v ≤ max_variables → length q ≡ max_variables → ((C : List ℤ) → Memᴰ C (clauses_of cs) → Calm Left v q 0 0 C)
    → Pending cs Left v q 0 0
pending_start {cs} {v} small long calm = record { queue = record { long = long; room = omega (arith, opens_le v); fits = λ k h. absurd (omega arith) }; calm = calm }

-- less is left
pending_less : {cs v q : List ℤ} {head end : ℕ} {Left Left' : List ℤ → Type 0} → ((D : List ℤ) → Memᴰ D (clauses_of cs) → Left D → Left' D ⊎ Quiet (true_in v) D)
    → Pending cs Left v q head end → Pending cs Left' v q head end
pending_less {cs} {v} {q} {head} {end} {Left} {Left'} less t = record { queue = t.queue; calm = λ D m. go D m (t.calm D m) }
  where
    go : (D : List ℤ) → Memᴰ D (clauses_of cs) → Calm Left v q head end D → Calm Left' v q head end D
    go D m (inl x) = ⊎_elim inl (λ y. inr (inl y)) (less D m x)
    go D m (inr x) = inr x

-- one literal more, which waits at the queue's end
module _ {v : List ℤ} {l : ℤ} (s : Assigned (length v) v) (f : LiteralFits (length v) l) (not_true : T (true_in v l) → ⊥) (not_false : T (true_in v (neg_ℤ l)) → ⊥) where
  pub end_inside : (end : ℕ) → end + opens v ≤ max_variables → end < max_variables
  end_inside end h = omega (arith, add_opens (length v) v l s f.low f.high not_true not_false)

  module _ {cs q : List ℤ} {head end : ℕ} {Left Left' : List ℤ → Type 0} (h : head ≤ end) (t : Pending cs Left v q head end)
      (less : (D : List ℤ) → Memᴰ D (clauses_of cs) → Left D → Left' D ⊎ Quiet (true_in (add v l)) D) where
    inside : end < length q
    inside = omega (arith, t.queue.long, end_inside end t.queue.room)

    same_size : length (add v l) ≡ length v
    same_size = (add_shape (length v) v l f.high s).long

    fits_more : (k : ℕ) → k < end + 1 → Dec (k ≡ end) → LiteralFits (length (add v l)) (get_or (set q end l) k (pos 0))
    fits_more k y (yes e) = rw (same_size, e, get_or-set_same q end l (pos 0) inside) f
    fits_more k y (no n) = rw (same_size, get_or-set_other q end k l (pos 0) n) (t.queue.fits k (omega arith))

    waits_still : (D : List ℤ) → Waits q head end D → Waits (set q end l) head (end + 1) D
    waits_still D w =
        let n : w.place ≡ end → ⊥ = λ e. omega (arith, w.upto) in
        record { place = w.place; from = w.from; upto = omega (arith, w.upto); among = subst (λ x. Memᴰ (neg_ℤ x) D) (sym (get_or-set_other q end w.place l (pos 0) n)) w.among }

    calm_more : (D : List ℤ) → Memᴰ D (clauses_of cs) → Calm Left v q head end D → Calm Left' (add v l) (set q end l) head (end + 1) D
    calm_more D i (inl x) = ⊎_elim inl (λ y. inr (inl y)) (less D i x)
    calm_more D i (inr (inl x)) =
        inr (quiet_or_waits v (add v l) (set q end l) head (end + 1) (add_above v l f.high not_false)
        (λ m y z. (end, h, omega arith, get_or-set_same q end l (pos 0) inside ∙ sym (add_only v l m f.high y z))) D x)
    calm_more D i (inr (inr x)) = inr (inr (waits_still D x))

    pending_add : Pending cs Left' (add v l) (set q end l) head (end + 1)
    pending_add = record {
      queue = record {
        long = length-set q end l ∙ t.queue.long;
        room = omega (arith, t.queue.room, add_opens (length v) v l s f.low f.high not_true not_false);
        fits = λ k y. fits_more k y (ℕ_discrete k end);
      };
      calm = λ D i. calm_more D i (t.calm D i);
    }

small_fits : (l : ℤ) → nat_abs l ≤ max_variables → SFits w16 l
small_fits (pos n) h = record { sfits = omega arith }
small_fits (negsuc n) h = record { sfits = omega arith }

-- what a clause gives is a literal, and there is room for it
module _ {cs v : List ℤ} {at : ℕ} {l : ℤ} (ready : Ready cs v) (h : at < length cs) (g : SaysAt cs at v (Ok (Some l))) where
  given : (C : List ℤ) × Says v C (Ok (Some l))
  given = let e = end_some cs at ready.table.ended h in (_, g e.0 e.1)

  pub given_number : to_z w16 (of_z w16 l) ≡ l
  given_number = to_z-of_z (small_fits l (omega (arith, given.1.0.high, ready.small)))

  pub given_fits : LiteralFits (length v) (to_z w16 (of_z w16 l))
  given_fits = rw given_number given.1.0

  pub given_room : (end : ℕ) → end + opens v ≤ max_variables → end < max_variables
  given_room = let u = given.1.1 in end_inside ready.shape given.1.0 u.not_true u.not_false

-- the literal tried, behind an assignment in which every clause is quiet
pub pending_tried : {cs v p : List ℤ} {l : ℤ} {end next : ℕ} (q : List ℤ) → Ready cs v → length q ≡ max_variables → end ≡ 0 → p ≡ set q end (to_z w16 (of_z w16 l)) → next ≡ end + 1
    → Tried cs v l → Pending cs NoClause v p 0 next
pending_tried {cs} {v} {l = l} q ready long z e n t =
    let h : length t.before ≤ max_variables = omega (arith, t.shape.long, ready.small) in
    let s : Pending cs NoClause t.before q 0 0 = pending_start h long (λ C i. inr (inl (t.quiet C i))) in
    let f : LiteralFits (length t.before) l = subst (λ k. LiteralFits k l) (sym t.shape.long) t.fits in
    rw (n, e, z, to_z-of_z (small_fits l (omega (arith, f.high))), t.is) (pending_add (sized t.shape) f t.not_true t.not_false (omega arith) s (λ D i x. absurd x))

-- the looks at clauses, one after the other, where those of Left are left
pub record Looks (cs v₀ v q : List ℤ) (Left : List ℤ → Type 0) (head end : ℕ) : Type 0 where
  pub steps : ByClauses cs v₀ v
  pub below : head ≤ end
  pub pending : Pending cs Left v q head end

-- one look: what the clause says is done
module _ {cs C v₀ v w q p : List ℤ} {Left : List ℤ → Type 0} {at e head end next : ℕ} {r : Result (Unit {0}) Clash} (s : Looks cs v₀ v q Left head end) (t : Stands cs C at e)
    (a : Applied cs at v w q p end next r) where
  abbrev shape : Assigned (length v) v
  shape = sized s.steps.shape

  says : Says v C a.said
  says = rw t.is (a.says e t.ends)

  among : {φ : PlanFile} → HasClauses (length v) cs φ → Memᴰ C φ.clauses
  among h = rw h.clauses (stands_in t)

  does_steps : (said : Result (Option ℤ) Clash) → Says v C said → Does v w q p end next said r → ByClauses cs v w
  does_steps (Err c) x d = rw d.1 (by_none cs v shape)
  does_steps (Ok (Some l)) x d =
      rw d.2 (record {
        shape = add_shape (length v) v l x.0.high shape;
        onward = λ φ h. onward_add φ h.ranged v (shape_of φ h v shape) l (unit C (among h) l x.1.among x.1.others) x.1.not_false;
      })
  does_steps (Ok None) x d = rw d.2 (by_none cs v shape)

  look_steps : ByClauses cs v₀ w
  look_steps = by_then s.steps (does_steps a.said says a.does)

  does_clash : {c : Clash} (said : Result (Option ℤ) Clash) → r ≡ Err c → Says v C said → Does v w q p end next said r → ClauseClash cs v
  does_clash (Err c) e x d = λ φ h R g o. clash_mono φ (true_in v) R g (all_false C (among h) x)
  does_clash (Ok (Some l)) e x d = let n = d.0 in cc
  does_clash (Ok None) e x d = let n = d.0 in cc

  pub look_clash : {c : Clash} {more : ℕ} → r ≡ Err c → Follows cs v₀ w p head more (Err c)
  look_clash u = record { steps = look_steps; leads = clash_back s.steps (does_clash a.said u says a.does) }

  -- C is left no more
  module _ {Left' : List ℤ → Type 0} (less : (D : List ℤ) → Left D → (D ≡ C) ⊎ Left' D) where
    less_quiet : (S : List ℤ) → Quiet (true_in S) C → (D : List ℤ) → (D ≡ C) ⊎ Left' D → Left' D ⊎ Quiet (true_in S) D
    less_quiet S x D (inl e) = inr (rw e x)
    less_quiet S x D (inr y) = inl y

    does_more : (said : Result (Option ℤ) Clash) → r ≡ Ok tt → Says v C said → Does v w q p end next said r → (head ≤ next) × Pending cs Left' w p head next
    does_more (Err c) e x d = let n = d.0 in cc
    does_more (Ok (Some l)) e (f, u) d = (
      omega (arith, s.below, d.1),
      rw (d.1, d.2, d.3) (pending_add shape f u.not_true u.not_false s.below s.pending
          (λ D m y. less_quiet (add v l) (quiet_true (add v l) C l u.among (add_has v l f.low f.high)) D (less D y))),
    )
    does_more (Ok None) e x d = (omega (arith, s.below, d.1), rw (d.1, d.2, d.3) (pending_less (λ D m y. less_quiet v x D (less D y)) s.pending))

    pub look_more : r ≡ Ok tt → Looks cs v₀ w p Left' head next
    look_more u = let m = does_more a.said u says a.does in record { steps = look_steps; below = m.0; pending = m.1 }

-- all looks are done
pub look_ends : {cs v₀ v q : List ℤ} {head end : ℕ} {Left : List ℤ → Type 0} → ByClauses cs v₀ v → Pending cs Left v q head end → ((D : List ℤ) → Left D → ⊥)
    → Follows cs v₀ v q head end (Ok tt)
look_ends k t none = record { steps = k; leads = pending_less (λ D m x. absurd (none D x)) t }

-- the pass over the clauses, before the one that begins at `at`
abbrev pub Behind : List ℤ → ℕ → List ℤ → Type 0
Behind cs at C = Memᴰ C (clauses_of (drop at cs))

pub record Passing (cs v₀ v q : List ℤ) (end at : ℕ) : Type 0 where
  pub looks : Looks cs v₀ v q (Behind cs at) 0 end
  pub begins : BeginsAt cs at

pub passing_start : {cs v q : List ℤ} → Ready cs v → length q ≡ max_variables → Passing cs v v q 0 0
passing_start {cs} {v} s long = record {
  looks = record { steps = by_none cs v s.shape; below = omega arith; pending = pending_start s.small long (λ C i. inl i) };
  begins = λ h. absurd (omega arith);
}

module _ {cs v₀ v w q p : List ℤ} {at e end next : ℕ} {r : Result (Unit {0}) Clash} (s : Passing cs v₀ v q end at) (n : End cs at e)
    (a : Applied cs at v w q p end next r) where
  stands : Stands cs (part cs at e) at e
  stands = record { begins = s.begins; ends = n; is = refl }

  pub pass_clash : {c : Clash} {more : ℕ} → r ≡ Err c → Follows cs v₀ w p 0 more (Err c)
  pass_clash = look_clash s.looks stands a

  pub pass_more : r ≡ Ok tt → Passing cs v₀ w p next (e + 1)
  pass_more t = record {
    looks = look_more s.looks stands a (λ D x. Memᴰ.cases_cons (rw (first_clause cs at e n) at x)) t;
    begins = begins_behind cs at e n;
  }

pub pass_ends : {cs v₀ v q : List ℤ} {end at : ℕ} → Passing cs v₀ v q end at → length cs ≤ at → Follows cs v₀ v q 0 end (Ok tt)
pass_ends {cs} {at = at} s h = look_ends s.looks.steps s.looks.pending (λ D i. Memᴰ.not-nil (rw (no_more cs at h) at i))

-- the clause has the number m at a place from `place` on
pub record Later (cs : List ℤ) (m : ℤ) (place : ℕ) (C : List ℤ) : Type 0 where
  pub at : ℕ
  pub after : place ≤ at
  pub inside : at < length cs
  pub is : get_or cs at (pos 0) ≡ m
  pub around : Around cs at C

-- the looks at the clauses that have m, before the one around `place`
pub record Following (cs v₀ v q : List ℤ) (m : ℤ) (head end place : ℕ) : Type 0 where
  pub looks : Looks cs v₀ v q (Later cs m place) head end
  pub here : place < length cs → get_or cs place (pos 0) ≡ m

later_on : {cs : List ℤ} {m : ℤ} {from place : ℕ} → Place cs m from place → (C : List ℤ) (k : ℕ) → from ≤ k → k < length cs → get_or cs k (pos 0) ≡ m → Around cs k C
    → Later cs m place C
later_on {cs} {m} {from} {place} f C k h l e a = record { at = k; after = go (le_or_lt place k); inside = l; is = e; around = a }
  where
    go : (place ≤ k) ⊎ (k < place) → place ≤ k
    go (inl x) = x
    go (inr x) = absurd (f.before k h x e)

pub following_start : {cs v q : List ℤ} {head end place : ℕ} → Ready cs v → head < end → Pending cs NoClause v q head end → Place cs (neg_ℤ (get_or q head (pos 0))) 0 place
    → Following cs v v q (neg_ℤ (get_or q head (pos 0))) (head + 1) end place
following_start {cs} {v} {q} {head} {end} {place} s h t f = record {
  looks = record { steps = by_none cs v s.shape; below = omega arith; pending = record { queue = t.queue; calm = λ C i. go C i (t.calm C i) } };
  here = f.here;
}
  where
    waits : (C : List ℤ) → Memᴰ C (clauses_of cs) → (x : Waits q head end C) → Dec (x.place ≡ head) → Calm (Later cs (neg_ℤ (get_or q head (pos 0))) place) v q (head + 1) end C
    waits C i x (yes e) =
        let k = around_some cs s.table.ended C i (neg_ℤ (get_or q head (pos 0))) (subst (λ j. Memᴰ (neg_ℤ (get_or q j (pos 0))) C) e x.among) in
        inl (later_on f C k.0 (omega arith) k.1 k.2 k.3)
    waits C i x (no n) = inr (inr (record { place = x.place; from = omega (arith, x.from); upto = x.upto; among = x.among }))

    go : (C : List ℤ) → Memᴰ C (clauses_of cs) → Calm NoClause v q head end C → Calm (Later cs (neg_ℤ (get_or q head (pos 0))) place) v q (head + 1) end C
    go C i (inl x) = absurd x
    go C i (inr (inl x)) = inr (inl x)
    go C i (inr (inr x)) = waits C i x (ℕ_discrete x.place head)

-- the first place, as the index gives it for the opposite of the queue's literal
pub first_opposite : {cs v q : List ℤ} {places : List ℕ} {head end place : ℕ} {other : ℤ} → Ready cs v → Indexed cs places → head < end → Used v q end
    → other ≡ neg_ℤ (to_z w16 (of_z w16 (get_or q head (pos 0)))) → place ≡ get_or places (slot (to_z w16 (of_z w16 other))) 0 → Place cs (neg_ℤ (get_or q head (pos 0))) 0 place
first_opposite {q = q} {head = head} ready i h u o e =
    let l : ℤ = get_or q head (pos 0) in
    let low : nat_abs l ≤ max_variables = omega (arith, (u.fits head h).high, ready.small) in
    let low_other : nat_abs (neg_ℤ l) ≤ max_variables = omega (arith, nat_abs_neg l) in
    rw (e, o, to_z-of_z (small_fits l low), to_z-of_z (small_fits (neg_ℤ l) low_other)) (i.first (neg_ℤ l) low_other)

module _ {cs v₀ v w q p : List ℤ} {m : ℤ} {head end more place start : ℕ} {r : Result (Unit {0}) Clash} (s : Following cs v₀ v q m head end place)
    (z : Ended cs) (h : place < length cs) (b : Begin cs place start) (a : Applied cs start v w q p end more r) where
  stop : (e : ℕ) × End cs place e
  stop = end_some cs place z h

  stands_here : Stands cs (part cs start stop.0) start stop.0
  stands_here = stands_from b stop.1

  pub follow_clash : {c : Clash} {k : ℕ} → r ≡ Err c → Follows cs v₀ w p head k (Err c)
  follow_clash = look_clash s.looks stands_here a

  pub follow_more : {next : ℕ} → Place cs (get_or cs place (pos 0)) (place + 1) next → r ≡ Ok tt → Following cs v₀ w p m head more next
  follow_more {next} f t = record {
    looks = look_more s.looks stands_here a (λ D x. go D x (ℕ_discrete x.at place)) t;
    here = λ l. f.here l ∙ s.here h;
  }
    where
      go : (D : List ℤ) (x : Later cs m place D) → Dec (x.at ≡ place) → (D ≡ part cs start stop.0) ⊎ Later cs m next D
      go D x (yes e) = inl (around_one (subst (λ k. Around cs k D) e x.around) (record { start = start; stop = stop.0; stands = stands_here; from = b.before; upto = stop.1.after }))
      go D x (no n) = inr (later_on (subst (λ l. Place cs l (place + 1) next) (s.here h) f) D x.at (omega (arith, x.after)) x.inside x.is x.around)

pub follow_ends : {cs v₀ v q : List ℤ} {m : ℤ} {head end place : ℕ} → Following cs v₀ v q m head end place → length cs ≤ place → Follows cs v₀ v q head end (Ok tt)
follow_ends s h = look_ends s.looks.steps s.looks.pending (λ D x. omega (arith, x.after, x.inside))

-- what several lead to
pub leads_clash : {cs u v q : List ℤ} {head end : ℕ} {c : Clash} → Follows cs u v q head end (Err c) → Propagated cs u v (Err c)
leads_clash a = record { steps = a.steps; ends = a.leads }

pub propagated_then : {cs u v w q : List ℤ} {head end : ℕ} {z r : Result (Unit {0}) Clash} → Follows cs u v q head end z → Propagated cs v w r → Propagated cs u w r
propagated_then {cs} {u} {v} {w} {r = r} a x = record { steps = by_then a.steps x.steps; ends = go r x.ends }
  where
    go : (r : Result (Unit {0}) Clash) → Ends cs v w r → Ends cs u w r
    go (Err c) y = clash_back a.steps y
    go (Ok t) y = y
