-- From the marks to the reason, and from the clause that is written to the answer.
-- Assumes nothing.
use mathlib.Core.Path.{refl, subst}
use mathlib.Core.Logic.{◌↔◌, inl, inr, ⊎_elim}
use mathlib.Core.Bool.{Bool, true, false}
use mathlib.Core.List.{List, Memᴰ}
use Prim.Native.Nat.{ℕ, suc, ◌≤◌}
use lib.ListN.{get_or, replicate}
use lib.IntN.{ℤ}
use lib.Dec.{T}
use Rattle.std.specs.Prelude.{Result, Ok, Err, MatchResult}
use Rattle.std.specs.Result.{result_map_both}
use Rattle.plan.specs.Buffers.{Answered}
use Rattle.plan.specs.declared.refusal.Short.{Short}
use Rattle.plan.specs.Meaning.{Atom, PlanFile, edge, on, off, true_in}
use Rattle.plan.specs.Closing.{Settles}
use Rattle.plan.specs.Reason.{Cut, HoldsBy, FailsBy}
use Rattle.plan.proofs.Lists.{mem_at}
use Rattle.walk.specs.Walking.{Placed}
use Rattle.reason.specs.Answers.{TooLong, AnswerIs}
use Rattle.reason.specs.declared.Answer.TheVariants.{Holds, Fails}
use Rattle.reason.specs.Marks.{Away, PathMarked, premises, clause_of}
use Rattle.reason.proofs.Paths.{path_placed}
use Rattle.reason.proofs.Cuts.{blank}
use Rattle.reason.proofs.Listing.{listed_marks}

module _ (φ : PlanFile) (a : List ℤ) (A : Atom) (n : ℕ) (m : List Bool) (placed : Placed φ.edges n) where
  pub holds_by : (z k : ℕ) → Settles φ (true_in a) A true → Away φ.edges a A A.to k → PathMarked φ.edges a A A.to k (replicate z false) m
      → HoldsBy φ a A (clause_of (on A.variable) false m n)
  holds_by z k t near p = record {
    truth = t;
    count = k;
    path = p.path;
    nearest = near;
    read = p.back;
    premises = premises m n;
    listed = listed_marks (λ v. Memᴰ v p.path) m n
        (λ i. ((λ y. ⊎_elim (λ b. absurd (blank z i b)) (λ h. h) ((p.marks.exact i).0 y)), (λ h. (p.marks.exact i).1 (inr h))))
        (λ v i. path_placed placed p.back v i);
    clause = refl;
  }

  pub fails_by : Settles φ (true_in a) A false → ((i : ℕ) → T (get_or m i false) ↔ Cut φ a A (suc i)) → FailsBy φ a A (clause_of (off A.variable) true m n)
  fails_by f c = record {
    falsity = f;
    premises = premises m n;
    listed = listed_marks (Cut φ a A) m n c
        (λ v i. subst (λ (x : ℕ). (1 ≤ x) × (x ≤ n)) i.its (placed (edge φ.edges i.number) (mem_at φ.edges _ i.number i.listed)));
    clause = refl;
  }

-- the answer that the clause of a reason gives, where it is written and where there is no room
module _ (φ : PlanFile) (a : List ℤ) (A : Atom) (C before after : List ℤ) where
  pub answer_holds : (r : Result ℕ Short) → HoldsBy φ a A C → MatchResult r (Answered C before after) (λ short. TooLong C before after short.0)
      → AnswerIs φ a A (result_map_both Holds (λ short. short) r) before after
  answer_holds (Ok n) h w = (C, h, w)
  answer_holds (Err short) h w = (C, inl h, w)

  pub answer_fails : (r : Result ℕ Short) → FailsBy φ a A C → MatchResult r (Answered C before after) (λ short. TooLong C before after short.0)
      → AnswerIs φ a A (result_map_both Fails (λ short. short) r) before after
  answer_fails (Ok n) h w = (C, h, w)
  answer_fails (Err short) h w = (C, inr h, w)
