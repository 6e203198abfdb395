-- A run has one output, and so has a turn.
use mathlib.Core.Path.{◌≡◌, refl, sym, ◌∙◌, ap, ap₂, subst⁻¹, subst₂}
use mathlib.Core.List.{List, [], ◌++◌, flatten}
use Prim.Native.Nat.{ℕ, ◌+◌, ◌*◌, ◌≤◌}
use native.Mathlib.Omega.{arith}
use lib.ListN.{length, drop}
use Rattle.request_laws.specs.Chunk.{request_size}
use Rattle.bench_run.specs.Limit.{most}
use Rattle.bench_run.specs.Run.{Replies, EndsWith, whole, piece, excess, Run}
use Rattle.bench_run.specs.Turn.{Closes, goes_on, is_whole, has_piece, has_excess, ending_reply, ending_more, Turned, Turn, Turns}
use Rattle.bench_run.specs.declared.ending.Ending.{Ending}
use Rattle.bench_run.proofs.RepliesLaws.{replies_once}
use Rattle.bench_run.proofs.RunLaws.{run_writes}

-- One end, after one count of requests.
ends_once : {input x y : List ℕ} {m n : ℕ} → m ≤ most → n ≤ most → EndsWith input m x → EndsWith input n y → (m ≡ n) × (x ≡ y)
ends_once few less (whole h) (whole m') = (omega arith, refl)
ends_once few less (whole h) (piece m' n' o) = absurd (omega arith)
ends_once few less (whole h) (excess m' n') = absurd (omega arith)
ends_once few less (piece h k l) (whole m') = absurd (omega arith)
ends_once few less (piece h k l) (piece m' n' o) = (omega arith, refl)
ends_once few less (piece h k l) (excess m' n') = absurd (omega arith)
ends_once few less (excess h k) (whole m') = absurd (omega arith)
ends_once few less (excess h k) (piece m' n' o) = absurd (omega arith)
ends_once few less (excess h k) (excess m' n') = (omega arith, refl)

pub run_once : {input a b : List ℕ} → Run input a → Run input b → a ≡ b
run_once {input} h k =
    let (count, ending) = ends_once h.few k.few h.ends k.ends in
    h.is
    ∙ ap₂ ◌++◌ (replies_once h.count h.answers (subst⁻¹ (λ (n : ℕ). Replies n input k.replies) count k.answers)) ending
    ∙ sym k.is

-- The sizes of the pieces do not matter.
pub pieces_once : {arrivals others : List (List ℕ)} {a b : List ℕ} → flatten arrivals ≡ flatten others → Turns [] 0 arrivals a → Turns [] 0 others b
    → a ≡ b
pieces_once {b = b} same h k = run_once (run_writes h) (subst⁻¹ (λ (l : List ℕ). Run l b) same (run_writes k))

-- How a turn closes is fixed by what it has.
closes_once : {arrived kept answered : ℕ} {x y : Ending} → Closes arrived kept answered x → Closes arrived kept answered y → x ≡ y
closes_once (goes_on h k) (goes_on m' n') = refl
closes_once (goes_on h k) (is_whole m' n') = absurd (omega arith)
closes_once (goes_on h k) (has_piece m' n' o) = absurd (omega arith)
closes_once (goes_on h none) (has_excess all n') = absurd (omega (arith, none all))
closes_once (is_whole h k) (goes_on m' n') = absurd (omega arith)
closes_once (is_whole h k) (is_whole m' n') = refl
closes_once (is_whole h k) (has_piece m' n' o) = absurd (omega arith)
closes_once (is_whole h k) (has_excess m' n') = absurd (omega arith)
closes_once (has_piece h k l) (goes_on m' n') = absurd (omega arith)
closes_once (has_piece h k l) (is_whole m' n') = absurd (omega arith)
closes_once (has_piece h k l) (has_piece m' n' o) = refl
closes_once (has_piece h k l) (has_excess m' n') = absurd (omega arith)
closes_once (has_excess all k) (goes_on m' none) = absurd (omega (arith, none all))
closes_once (has_excess h k) (is_whole m' n') = absurd (omega arith)
closes_once (has_excess h k) (has_piece m' n' o) = absurd (omega arith)
closes_once (has_excess h k) (has_excess m' n') = refl

module _ {held arrived : List ℕ} {answered : ℕ} {l m : Turned} (h : Turn held arrived answered l) (k : Turn held arrived answered m) where
  counts : h.count ≡ k.count
  counts = h.counts ∙ sym k.counts

  kept : l.kept ≡ m.kept
  kept = h.keeps ∙ ap (λ (n : ℕ). drop n (held ++ arrived)) (ap (λ (n : ℕ). request_size * n) counts) ∙ sym k.keeps

  answers : l.answered ≡ m.answered
  answers = h.sums ∙ ap (λ (n : ℕ). answered + n) counts ∙ sym k.sums

  endings : h.ending ≡ k.ending
  endings =
      closes_once h.closes
      (subst₂ (λ (n j : ℕ). Closes (length arrived) n j k.ending) (sym (ap length kept)) (sym answers) k.closes)

  written : l.written ≡ m.written
  written =
      h.writes
      ∙ ap₂ ◌++◌ (replies_once h.count h.answers (subst⁻¹ (λ (n : ℕ). Replies n (held ++ arrived) k.replies) counts k.answers))
      (ap ending_reply endings)
      ∙ sym k.writes

  more : l.more ≡ m.more
  more = h.follows ∙ ap ending_more endings ∙ sym k.follows

  -- A turn leaves one thing.
  pub turn_once : l ≡ m
  turn_once = λ i. record { written = written i; kept = kept i; answered = answers i; more = more i }
