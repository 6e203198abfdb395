-- The theorem on runs: however the input arrives, what is written is what document 01 says of the whole input.
use mathlib.Core.Bool.{true, false, true≢false}
use mathlib.Core.Path.{◌≡◌, refl, sym, ◌∙◌, ap, subst, subst⁻¹, subst₂}
use mathlib.Core.Logic.{⊎_elim}
use mathlib.Core.List.{List, [], ◌++◌, append_assoc, append-nil, flatten}
use Prim.Native.Nat.{ℕ, ◌+◌, ◌*◌, ◌-◌, ◌<◌, ◌≤◌}
use native.Mathlib.Omega.{arith}
use lib.ListN.{length, drop, length-append, length-drop}
use lib.Seq.{drop-append-le, drop-drop}
use Rattle.patterns.proofs.ValueLaws.{le_or_lt}
use Rattle.request_laws.specs.Chunk.{request_size}
use Rattle.bench_run.specs.Limit.{most}
use Rattle.bench_run.specs.Run.{Replies, EndsWith, whole, piece, excess, Run}
use Rattle.bench_run.specs.Turn.{Closes, goes_on, is_whole, has_piece, has_excess, ending_reply, ending_more, Turned, Turn, Turns, last_turn, next_turn}
use Rattle.bench_run.specs.declared.ending.Ending.{Ending}
use Rattle.bench_run.proofs.RepliesLaws.{replies_none, replies_front, replies_join}

-- Where a run stands between two turns: `taken` has arrived, `held` is not answered yet, and `output` is written.
pub record Underway (taken held : List ℕ) (answered : ℕ) (output : List ℕ) : Type 0 where
  pub few : answered ≤ most
  pub fits : request_size * answered ≤ length taken
  pub answers : Replies answered taken output
  pub holds : held ≡ drop (request_size * answered) taken
  pub short : length held < request_size
  pub full : answered ≡ most → length held ≡ 0

pub underway_start : Underway [] [] 0 []
underway_start =
    record { few = omega arith; fits = omega arith; answers = replies_none []; holds = refl; short = omega arith; full = λ e. refl }

-- One turn more.
module _ {taken held arrived output : List ℕ} {answered : ℕ} {left : Turned} (u : Underway taken held answered output) (t : Turn held arrived answered left) where
  there : held ++ arrived ≡ drop (request_size * answered) (taken ++ arrived)
  there =
      ap (λ (l : List ℕ). l ++ arrived) u.holds
      ∙ sym (drop-append-le (request_size * answered) taken arrived u.fits)

  length_there : length (held ++ arrived) ≡ length (taken ++ arrived) - request_size * answered
  length_there = ap length there ∙ length-drop (request_size * answered) (taken ++ arrived)

  fits : request_size * answered ≤ length (taken ++ arrived)
  fits = omega (arith, length-append taken arrived, u.fits)

  counted : request_size * t.count ≤ length (held ++ arrived)
  counted = omega (arith, t.counts)

  answered_all : Replies (answered + t.count) (taken ++ arrived) (output ++ t.replies)
  answered_all =
      replies_join answered t.count (replies_front answered arrived u.fits u.answers)
      (subst (λ (l : List ℕ). Replies t.count l t.replies) there t.answers)

  kept : left.kept ≡ drop (request_size * (answered + t.count)) (taken ++ arrived)
  kept =
      t.keeps
      ∙ ap (drop (request_size * t.count)) there
      ∙ drop-drop (request_size * t.count) (request_size * answered) (taken ++ arrived)
      ∙ ap (λ (n : ℕ). drop n (taken ++ arrived)) {x = request_size * answered + request_size * t.count} {y = request_size * (answered + t.count)} (omega arith)

  few' : answered + t.count ≤ most
  few' = omega (arith, t.counts, u.few)

  fits' : request_size * (answered + t.count) ≤ length (taken ++ arrived)
  fits' = omega (arith, counted, length_there, fits)

  rest : length left.kept ≡ length (taken ++ arrived) - request_size * (answered + t.count)
  rest = ap length kept ∙ length-drop (request_size * (answered + t.count)) (taken ++ arrived)

  short' : answered + t.count < most → length left.kept < request_size
  short' less = omega (arith, t.counts, rest, length_there, fits)

  written : output ++ left.written ≡ (output ++ t.replies) ++ ending_reply t.ending
  written = ap (λ (l : List ℕ). output ++ l) t.writes ∙ sym (append_assoc output t.replies (ending_reply t.ending))

-- Which endings another turn follows.
onward : {arrived kept answered : ℕ} {ending : Ending} → Closes arrived kept answered ending → ending_more ending ≡ true
    → (0 < arrived) × (answered ≡ most → kept ≡ 0) × (ending_reply ending ≡ [])
onward (goes_on some none) e = (some, none, refl)
onward (is_whole _ _) e = absurd (true≢false (sym e))
onward (has_piece _ _ _) e = absurd (true≢false (sym e))
onward (has_excess _ _) e = absurd (true≢false (sym e))

-- What a turn leaves that another follows: less than a request, and more bytes taken than before.
pub record GoesOn (held arrived : List ℕ) (answered : ℕ) (left : Turned) : Type 0 where
  pub few : left.answered ≤ most
  pub short : length left.kept < request_size
  pub full : left.answered ≡ most → length left.kept ≡ 0
  pub some : 0 < length arrived
  pub all : request_size * left.answered + length left.kept ≡ request_size * answered + (length held + length arrived)
  pub within : request_size * left.answered + length left.kept ≤ request_size * most

pub goes_on_lem : {held arrived : List ℕ} {answered : ℕ} {left : Turned} → answered ≤ most → Turn held arrived answered left → left.more ≡ true
    → GoesOn held arrived answered left
goes_on_lem {held} {arrived} {answered} {left} few t more =
    let (some, full, none) = onward t.closes (sym t.follows ∙ more) in
    let long = length-append held arrived in
    let kept : length left.kept ≡ length (held ++ arrived) - request_size * t.count =
    ap length t.keeps ∙ length-drop (request_size * t.count) (held ++ arrived) in
    let last = le_or_lt most left.answered in
    let done : most ≤ left.answered → length left.kept ≡ 0 = λ all. full (omega (arith, t.counts, t.sums)) in
    record {
      few = omega (arith, t.counts, t.sums);
      short = ⊎_elim (λ all. omega (arith, done all)) (λ less. omega (arith, t.counts, t.sums, kept)) last;
      full = full;
      some = some;
      all = omega (arith, t.counts, t.sums, kept, long);
      within = ⊎_elim (λ all. omega (arith, done all, t.counts, t.sums)) (λ less. omega (arith, t.counts, t.sums, kept)) last;
    }

-- A turn that another follows.
underway_next : {taken held arrived output : List ℕ} {answered : ℕ} {left : Turned} → Underway taken held answered output
    → Turn held arrived answered left → left.more ≡ true
    → Underway (taken ++ arrived) left.kept left.answered (output ++ left.written)
underway_next {taken} {held} {arrived} {output} {answered} {left} u t more =
    let (_, _, none) = onward t.closes (sym t.follows ∙ more) in
    let goes = goes_on_lem u.few t more in
    let is : output ++ left.written ≡ output ++ t.replies =
    written u t ∙ ap (λ (l : List ℕ). (output ++ t.replies) ++ l) none ∙ append-nil (output ++ t.replies) in
    record {
      few = goes.few;
      fits = omega (arith, fits' u t, t.sums);
      answers = subst₂ (λ (n : ℕ) (l : List ℕ). Replies n (taken ++ arrived) l) (sym t.sums) (sym is) (answered_all u t);
      holds = kept u t ∙ ap (λ (n : ℕ). drop (request_size * n) (taken ++ arrived)) (sym t.sums);
      short = goes.short;
      full = goes.full;
    }

-- What a run's last turn writes.
ended : {input : List ℕ} {arrived kept answered : ℕ} {ending : Ending} → Closes arrived kept answered ending → ending_more ending ≡ false
    → kept ≡ length input - request_size * answered → request_size * answered ≤ length input → (answered < most → kept < request_size)
    → EndsWith input answered (ending_reply ending)
ended (goes_on _ _) e rest fits short = absurd (true≢false e)
ended (is_whole none nothing) e rest fits short = whole (omega arith)
ended (has_piece none some less) e rest fits short = piece less (omega arith) (omega (arith, short less))
ended (has_excess all some) e rest fits short = excess all (omega arith)

run_last : {taken held arrived output : List ℕ} {answered : ℕ} {left : Turned} → Underway taken held answered output
    → Turn held arrived answered left → left.more ≡ false → Run (taken ++ arrived) (output ++ left.written)
run_last {taken} {held} {arrived} {output} {answered} {left} u t over =
    record {
      count = answered + t.count;
      few = few' u t;
      replies = output ++ t.replies;
      answers = answered_all u t;
      ending = ending_reply t.ending;
      ends =
          ended
          (subst (λ (n : ℕ). Closes (length arrived) (length left.kept) n t.ending) t.sums t.closes)
          (sym t.follows ∙ over) (rest u t) (fits' u t) (short' u t);
      is = written u t;
    }

-- The turns that follow.
run_from : {taken held output written : List ℕ} {answered : ℕ} {arrivals : List (List ℕ)} → Underway taken held answered output
    → Turns held answered arrivals written → Run (taken ++ flatten arrivals) (output ++ written)
unfolding flatten
run_from {taken} {output = output} u (last_turn {arrived = arrived} {left = left} t over) =
    subst⁻¹ (λ (l : List ℕ). Run (taken ++ l) (output ++ left.written)) (append-nil arrived) (run_last u t over)
run_from {taken} {output = output} u (next_turn {arrived = arrived} {output = later} {arrivals = arrivals} {left = left} t more turns) =
    subst₂ Run (append_assoc taken arrived (flatten arrivals)) (append_assoc output left.written later) (run_from (underway_next u t more) turns)

-- What a run writes for all that arrives, in pieces of any sizes, is what document 01 says of it.
pub run_writes : {arrivals : List (List ℕ)} {output : List ℕ} → Turns [] 0 arrivals output → Run (flatten arrivals) output
run_writes turns = run_from underway_start turns
