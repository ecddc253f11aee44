-- What a read gives stands behind what was read before.
use Rattle.std.proofs.Common.{◌≡◌, ℕ, ◌+◌, ◌-◌, ◌≤◌, List, ◌++◌, rules, length, take, sym, ap, ◌∙◌, length-take-le}
use Rattle.std.proofs.KnownBytes.{Consumes-trans}
use Rattle.std.proofs.Math.Seq.{take-append-add}
use Rattle.std.proofs.lemmas.List.{take-append-le}
use borrow.Rule.Slice.PartMut.{put_mid}
use Rattle.text.proofs.read_full.Goals as goal

take-put_mid_behind : (a n k : ℕ) (xs ys : List ℕ) → a ≤ length xs → n ≤ length ys → take (a + n) (put_mid a k xs ys) ≡ take a xs ++ take n ys
take-put_mid_behind a n k xs ys within fits =
    ap (λ m. take (m + n) (put_mid a k xs ys)) (sym (length-take-le a xs within)) ∙ take-append-add (take a xs) _ n ∙ ap (λ l. take a xs ++ l) (take-append-le n ys _ fits)

pub loop-done-preserved : goal.loop-done-preserved
loop-done-preserved g c =
    let done = c.loop-done.done in
    let count = c.in_ok-count.count in
    let both = take-put_mid_behind done count (length c.loop-done.buffer - done) c.loop-done.buffer c.read.new.buf c.loop-done.invariant.0 c.in_ok-count.ensures.bound.0 in
    (search rules, rw both (Consumes-trans _ _ _ _ _ c.loop-done.invariant.1 c.in_ok-count.ensures.bytes.0))
