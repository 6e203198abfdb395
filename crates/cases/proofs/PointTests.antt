-- Tests of the point functions' relations, at given fractions.
use mathlib.Core.Bool.{Bool, false, not}
use mathlib.Core.Logic.{⊎_elim}
use Prim.Native.Nat.{◌+◌, ◌-◌, ◌*◌, ◌/◌}
use lib.Dec.{T, eqb, eqb→eq, T_not}
use Rattle.meaning.specs.Fraction.{Fraction, ◌≈◌, ◌⊕◌, negated, whole, half, Whole, Even}
use Rattle.meaning.specs.Points.{Unary, neg, abs, ceil, floor, round, round_ties_even, sign, trunc, Ceil, Floor, Nearest, Sign, Trunc, Makes₁}
use Rattle.meaning.specs.Pairs.{both}
use Rattle.meaning.proofs.PairLaws.{split}
use Rattle.cases.proofs.Tests.{either, of_either, le_test, lt_test, eq_test, le_tested, lt_tested, eq_tested, eq_passes, le_passes, lt_passes}

abbrev whole_test : Fraction → Bool
whole_test r = eqb (r.up + (r.down - r.up) / r.over * r.over) ((r.up - r.down) / r.over * r.over + r.down)

whole_tested : (r : Fraction) → T (whole_test r) → Whole r
whole_tested r t = record { plus = (r.up - r.down) / r.over; minus = (r.down - r.up) / r.over; is = eqb→eq _ _ t }

abbrev even_test : Fraction → Bool
even_test r = eqb (r.up + 2 * ((r.down - r.up) / (2 * r.over)) * r.over) (2 * ((r.up - r.down) / (2 * r.over)) * r.over + r.down)

even_tested : (r : Fraction) → T (even_test r) → Even r
even_tested r t = record { plus = (r.up - r.down) / (2 * r.over); minus = (r.down - r.up) / (2 * r.over); is = eqb→eq _ _ t }

-- A test that succeeds where another does.
abbrev if_test : Bool → Bool → Bool
if_test a b = either (not a) b

if-tested : {P Q : Type 0} (a b : Bool) → (P → T a) → (T b → Q) → T (if_test a b) → P → Q
if-tested a b p q t h = ⊎_elim (λ n. absurd (T_not a n (p h))) q (of_either (not a) b t)

abbrev ceil_test : Fraction → Fraction → Bool
ceil_test x r = both (whole_test r) (both (le_test x r) (lt_test r (x ⊕ whole 1)))

ceil_tested : (x r : Fraction) → T (ceil_test x r) → Ceil x r
ceil_tested x r t =
    let s = split (whole_test r) (both (le_test x r) (lt_test r (x ⊕ whole 1))) t in
    let k = split (le_test x r) (lt_test r (x ⊕ whole 1)) s.1 in
    record { is_whole = whole_tested r s.0; not_below = le_tested x r k.0; near = lt_tested r (x ⊕ whole 1) k.1 }

abbrev floor_test : Fraction → Fraction → Bool
floor_test x r = both (whole_test r) (both (le_test r x) (lt_test x (r ⊕ whole 1)))

floor_tested : (x r : Fraction) → T (floor_test x r) → Floor x r
floor_tested x r t =
    let s = split (whole_test r) (both (le_test r x) (lt_test x (r ⊕ whole 1))) t in
    let k = split (le_test r x) (lt_test x (r ⊕ whole 1)) s.1 in
    record { is_whole = whole_tested r s.0; not_above = le_tested r x k.0; near = lt_tested x (r ⊕ whole 1) k.1 }

abbrev nearest_test : Fraction → Fraction → Bool
nearest_test x r = both (whole_test r) (both (le_test x (r ⊕ half)) (le_test r (x ⊕ half)))

nearest_tested : (x r : Fraction) → T (nearest_test x r) → Nearest x r
nearest_tested x r t =
    let s = split (whole_test r) (both (le_test x (r ⊕ half)) (le_test r (x ⊕ half))) t in
    let k = split (le_test x (r ⊕ half)) (le_test r (x ⊕ half)) s.1 in
    record { is_whole = whole_tested r s.0; not_far_below = le_tested x (r ⊕ half) k.0; not_far_above = le_tested r (x ⊕ half) k.1 }

-- A nearest number with a rule for each kind of tie.
abbrev tie_test : (x r : Fraction) (down up : Bool) → Bool
tie_test x r down up = both (nearest_test x r) (both (if_test (eq_test x (r ⊕ half)) down) (if_test (eq_test r (x ⊕ half)) up))

tie_tested : (x r : Fraction) (down up : Bool) {P Q : Type 0} → (T down → P) → (T up → Q) → T (tie_test x r down up)
    → Nearest x r × (x ≈ r ⊕ half → P) × (r ≈ x ⊕ half → Q)
tie_tested x r down up p q t =
    let first = if_test (eq_test x (r ⊕ half)) down in
    let second = if_test (eq_test r (x ⊕ half)) up in
    let s = split (nearest_test x r) (both first second) t in
    let k = split first second s.1 in (
      nearest_tested x r s.0,
      if-tested (eq_test x (r ⊕ half)) down (eq_passes x (r ⊕ half)) p k.0,
      if-tested (eq_test r (x ⊕ half)) up (eq_passes r (x ⊕ half)) q k.1,
    )

abbrev sign_test : Fraction → Fraction → Bool
sign_test x r =
    both (if_test (lt_test (whole 0) x) (eq_test r (whole 1)))
    (both (if_test (eq_test x (whole 0)) (eq_test r (whole 0))) (if_test (lt_test x (whole 0)) (eq_test r (negated (whole 1)))))

sign_tested : (x r : Fraction) → T (sign_test x r) → Sign x r
sign_tested x r t =
    let first = if_test (lt_test (whole 0) x) (eq_test r (whole 1)) in
    let second = if_test (eq_test x (whole 0)) (eq_test r (whole 0)) in
    let third = if_test (lt_test x (whole 0)) (eq_test r (negated (whole 1))) in
    let s = split first (both second third) t in
    let k = split second third s.1 in
    record {
      of_positive = if-tested (lt_test (whole 0) x) (eq_test r (whole 1)) (lt_passes (whole 0) x) (eq_tested r (whole 1)) s.0;
      of_zero = if-tested (eq_test x (whole 0)) (eq_test r (whole 0)) (eq_passes x (whole 0)) (eq_tested r (whole 0)) k.0;
      of_negative = if-tested (lt_test x (whole 0)) (eq_test r (negated (whole 1))) (lt_passes x (whole 0)) (eq_tested r (negated (whole 1))) k.1;
    }

abbrev trunc_test : Fraction → Fraction → Bool
trunc_test x r = both (if_test (le_test (whole 0) x) (floor_test x r)) (if_test (le_test x (whole 0)) (ceil_test x r))

trunc_tested : (x r : Fraction) → T (trunc_test x r) → Trunc x r
trunc_tested x r t =
    let first = if_test (le_test (whole 0) x) (floor_test x r) in
    let second = if_test (le_test x (whole 0)) (ceil_test x r) in
    let s = split first second t in
    record {
      of_positive = if-tested (le_test (whole 0) x) (floor_test x r) (le_passes (whole 0) x) (floor_tested x r) s.0;
      of_negative = if-tested (le_test x (whole 0)) (ceil_test x r) (le_passes x (whole 0)) (ceil_tested x r) s.1;
    }

-- r is the value at x of the integer function. `neg` and `abs` are none.
abbrev pub made_test : Unary → Fraction → Fraction → Bool
made_test neg x r = false
made_test abs x r = false
made_test ceil x r = ceil_test x r
made_test floor x r = floor_test x r
made_test round x r = tie_test x r (lt_test x (whole 0)) (lt_test (whole 0) x)
made_test round_ties_even x r = tie_test x r (even_test r) (even_test r)
made_test sign x r = sign_test x r
made_test trunc x r = trunc_test x r

pub made_tested : (op : Unary) (x r : Fraction) → T (made_test op x r) → Makes₁ op x r
made_tested neg x r t = absurd t
made_tested abs x r t = absurd t
made_tested ceil x r t = ceil_tested x r t
made_tested floor x r t = floor_tested x r t
made_tested round x r t =
    let s = tie_tested x r (lt_test x (whole 0)) (lt_test (whole 0) x) (lt_tested x (whole 0)) (lt_tested (whole 0) x) t in
    record { nearest = s.0; tie_down = s.1; tie_up = s.2 }
made_tested round_ties_even x r t =
    let s = tie_tested x r (even_test r) (even_test r) (even_tested r) (even_tested r) t in
    record { nearest = s.0; tie_down = s.1; tie_up = s.2 }
made_tested sign x r t = sign_tested x r t
made_tested trunc x r t = trunc_tested x r t
