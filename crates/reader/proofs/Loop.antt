-- From record to record: what is read from where the loop stands is what the file reads as.
-- Assumes nothing.
use Rattle.reader.proofs.Kit.{◌≡◌, refl, ap, ◌∙◌, subst, List, ℕ, suc, ◌-◌, ◌<◌, ◌≤◌, arith, length, false}
use Rattle.std.specs.Prelude.{Ok, Err}
use Rattle.plan.specs.Meaning.{PlanFile}
use Rattle.plan.specs.Ranged.{Ranged}
use Rattle.plan.specs.Refusals.{number_of, value_of}
use Rattle.plan.specs.declared.Plan as counted
use Rattle.plan.specs.declared.refusal.Refusal.{Refusal}
use Rattle.plan.specs.declared.refusal.Refusal.TheVariants.{Cut}
use Rattle.reader.specs.Format.{Step, refuse, fits, refused, accepted, onward, step_at, head_at, read_plan}
use Rattle.reader.specs.Filling.{Tables, Steps, refuses, leads, ends, Takes}
use Rattle.reader.specs.declared.Buffers.{Buffers}
use Rattle.reader.specs.declared.Step as code
use Rattle.reader.specs.declared.Step.TheVariants.{Next, Done}
use Rattle.reader.proofs.Accepts.{Good, step_good, head_good}
use Rattle.reader.proofs.Exact.{Ahead, step_ahead, head_ahead, read_from, read_head, read_step}

-- how much of the file is left behind a step
abbrev pub left : List ℕ → code.Step → ℕ
left f (Next at c) = suc (length f) - at
left f (Done c) = 0

-- The code's step x is a step of the definition, from which the file is read.
pub record Reached (f : List ℕ) (x : code.Step) (b : Buffers) : Type 0 where
  pub from : ℕ
  pub step : Step
  pub reads : read_plan f ≡ onward (read_from f) step
  pub stands : Steps b step (Ok x)
  pub ahead : Ahead f from step
  pub good : Good step

-- A plan file in range stands in the tables, and the file is read on from the offset.
pub record Standing (f : List ℕ) (at : ℕ) (c : counted.Plan) (b : Buffers) : Type 0 where
  pub plan : PlanFile
  pub reads : read_plan f ≡ read_from f at plan
  pub within : at ≤ length f
  pub tables : Tables plan c b
  pub ranged : Ranged plan

-- the whole plan file does
pub record Whole (f : List ℕ) (c : counted.Plan) (b : Buffers) : Type 0 where
  pub plan : PlanFile
  pub reads : read_plan f ≡ accepted plan
  pub tables : Tables plan c b
  pub ranged : Ranged plan

-- the file is refused, with the number and the value of y
pub record Refused (f : List ℕ) (y : Refusal) : Type 0 where
  pub is : read_plan f ≡ refused (number_of y) (value_of y)

pub begins : (f : List ℕ) {x : code.Step} {b : Buffers} → Steps b (head_at f) (Ok x) → Reached f x b
begins f h = record { from = 0; step = head_at f; reads = read_head f; stands = h; ahead = head_ahead f; good = head_good f }

module _ (f : List ℕ) {b : Buffers} where
  refused_by : {s : Step} {y : Refusal} → Steps b s (Err y) → read_plan f ≡ onward (read_from f) s → Refused f y
  refused_by (refuses n v) e = record { is = rw (e, n, v) refl }

  whole_by : {s : Step} {c : counted.Plan} → Steps b s (Ok (Done c)) → read_plan f ≡ onward (read_from f) s → Good s → Whole f c b
  whole_by (ends {p = p} t) e g = record { plan = p; reads = e; tables = t; ranged = g }

  standing_by : {s : Step} {at : ℕ} {c : counted.Plan} → Steps b s (Ok (Next at c)) → read_plan f ≡ onward (read_from f) s → (from : ℕ) → Ahead f from s → Good s
      → Standing f at c b
  standing_by (leads {p = p} q t) e from a g =
      record { plan = p; reads = e ∙ ap (λ x. read_from f x p) q; within = omega (arith, q, a.1); tables = t; ranged = g }

  falls_by : {s : Step} {x : code.Step} → Steps b s (Ok x) → (at : ℕ) → at ≤ length f → Ahead f at s → left f x < suc (length f) - at
  falls_by (leads q t) at w a = omega (arith, q, a)
  falls_by (ends t) at w a = omega arith

-- the head refuses
pub head_refused : (f : List ℕ) {b : Buffers} {y : Refusal} → Steps b (head_at f) (Err y) → Refused f y
head_refused f h = refused_by f h (read_head f)

module _ {f : List ℕ} {x : code.Step} {b : Buffers} (w : Reached f x b) where
  known : {z : code.Step} → x ≡ z → Steps b w.step (Ok z)
  known e = subst (λ z. Steps b w.step (Ok z)) e w.stands

  pub whole : {c : counted.Plan} → x ≡ Done c → Whole f c b
  whole e = whole_by f (known e) w.reads w.good

  pub standing : {at : ℕ} {c : counted.Plan} → x ≡ Next at c → Standing f at c b
  standing e = standing_by f (known e) w.reads w.from w.ahead w.good

-- one record further, or none
module _ {f : List ℕ} {at : ℕ} {c : counted.Plan} {b : Buffers} (w : Standing f at c b) where
  reads_on : read_plan f ≡ onward (read_from f) (step_at f at w.plan)
  reads_on = w.reads ∙ read_step f at w.plan w.within

  step_cut : fits f at ≡ false → step_at f at w.plan ≡ refuse 2 at
  unfolding step_at
  step_cut n = rw n refl

  pub cut_at : fits f at ≡ false → Refused f (Cut at)
  cut_at n = record { is = reads_on ∙ ap (onward (read_from f)) (step_cut n) }

  pub refused_at : (y : Refusal) (b' : Buffers) → Takes (step_at f at) c b (Err y) b' → Refused f y
  refused_at y b' k = refused_by f (k w.plan w.tables) reads_on

  module _ (x : code.Step) (b' : Buffers) (k : Takes (step_at f at) c b (Ok x) b') where
    pub goes_on : Reached f x b'
    goes_on = record {
      from = at;
      step = step_at f at w.plan;
      reads = reads_on;
      stands = k w.plan w.tables;
      ahead = step_ahead f at w.plan;
      good = step_good f at w.plan w.ranged;
    }

    pub falls : left f x < left f (Next at c)
    falls = falls_by f (k w.plan w.tables) at w.within (step_ahead f at w.plan)
