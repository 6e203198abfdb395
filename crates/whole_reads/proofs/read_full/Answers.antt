-- `read_full` meets its contract: what a read gives stands behind what the earlier ones gave.
use mathlib.Core.Path.{◌≡◌, sym, ◌∙◌, ap, ap₂}
use mathlib.Core.List.{List, ◌++◌, append_assoc}
use Prim.Native.Nat.{ℕ, ◌+◌, ◌-◌, ◌≤◌}
use borrow.Author.Rules.{rules}
use borrow.Rule.Slice.PartMut.{put_mid, post_of}
use lib.ListN.{length, take}
use lib.Seq.{length-take-le, take-add, take_at, drop_at}
use native.Mathlib.Omega.{arith}
use Rattle.std.proofs.lemmas.List.{take-append-le}
use Rattle.std.specs.Prelude.{Option, Some, None}
use Rattle.std.specs.Io.KnownBytes.{Consumes}
use Rattle.whole_reads.proofs.read_full.Goals as goal

-- What is read after bs stands behind them.
consumes_both : (old mid new : Option (List ℕ)) (bs cs : List ℕ) → Consumes old mid bs → Consumes mid new cs → Consumes old new (bs ++ cs)
consumes_both None mid new bs cs h k = tt
consumes_both (Some xs) None new bs cs h k = absurd h
consumes_both (Some xs) (Some ys) None bs cs h k = absurd k
consumes_both (Some xs) (Some ys) (Some zs) bs cs h k = h ∙ ap (λ (l : List ℕ). bs ++ l) k ∙ sym (append_assoc bs cs zs)

-- The first bytes of a buffer whose part from a on was written.
front_written : (a k n : ℕ) (xs ys : List ℕ) → a ≤ length xs → n ≤ length ys → take (a + n) (put_mid a k xs ys) ≡ take a xs ++ take n ys
front_written a k n xs ys within fits =
    take-add a n (put_mid a k xs ys)
    ∙ ap₂ ◌++◌ (take_at (take a xs) (ys ++ post_of a k xs) a long)
    (ap (take n) (drop_at (take a xs) (ys ++ post_of a k xs) a long) ∙ take-append-le n ys (post_of a k xs) fits)
  where
    long : length (take a xs) ≡ a
    long = length-take-le a xs within

pub loop-done-preserved : goal.loop-done-preserved
loop-done-preserved g c =
    let (within, before) = c.loop-done.invariant in
    let fits : c.in-Ok.n ≤ length c.read.new.buf = omega (arith, c.in-Ok.ensures.bound) in (
      search rules,
      rw (front_written c.loop-done.done (length c.loop-done.buffer - c.loop-done.done) c.in-Ok.n c.loop-done.buffer c.read.new.buf within fits)
          (consumes_both _ _ _ _ _ before c.in-Ok.ensures.bytes.0),
    )
