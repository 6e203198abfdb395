-- The inspector's wrong versions: none of them satisfies the statement of any operation.
use mathlib.Core.Path.{◌≡◌, refl, sym}
use mathlib.Core.Logic.{inl, ⊎_elim}
use Prim.Native.Nat.{ℕ}
use native.Mathlib.Omega.{arith}
use Rattle.meaning.specs.Refusals.{Refusal}
use Rattle.patterns.specs.Format.{binary64, infinity, sign_bit}
use Rattle.patterns.specs.Value.{value, magnitude, plus, minus}
use Rattle.meaning.specs.Fraction.{Fraction}
use Rattle.meaning.specs.Sets.{Set}
use Rattle.meaning.specs.Points.{Unary}
use Rattle.meaning.specs.Results.{Operation}
use Rattle.meaning.specs.Pairs.{Pair, Proper, Bare}
use Rattle.meaning.specs.Decorations.{Decoration, Trv}
use Rattle.meaning.specs.Statement.{Outcome, refused, given, sound, wrong, bare_good, right₁, right₂, first₁, first₂, second₂, JudgedDecorated, decorated_good, DecPair, RightDecorated, right_nai, right_interval, HullOf, Bare₁, Bare₂, Decorated₁, Decorated₂}
use Rattle.meaning.specs.Overlap.{State, finished_by, meets, BareOverlap, interval_state, DecOverlap}
use Rattle.meaning.proofs.Unique.{bare₁_once, bare₂_once, hull_once}
use Rattle.meaning.proofs.KindLaws.{bare_not_nans}
use Rattle.uniqueness.proofs.VerdictLaws.{judged_decorated_once}
use Rattle.uniqueness.proofs.OverlapLaws.{bare_overlap_once, dec_overlap_once}
use Rattle.cases.specs.Rows.{RightState}
use Rattle.cases.specs.Table.{entire, emptiness, pair, only, one, two, three}
use Rattle.cases.proofs.StateTests.{bounded_set, state_tested}
use Rattle.cases.proofs.Examples.{Telling, Example₁, Example₂, example₁, example₂}

-- A wrong version answers every call by one rule: it refuses, or it gives ENTIRE, EMPTY or its first operand.
pub data Wrong (x : Pair) : Outcome Pair → Type 0 where
  refuses : (r : Refusal) → Wrong x (refused r)
  answers_entire : Wrong x (given entire)
  answers_empty : Wrong x (given emptiness)
  hands_back : Wrong x (given x)

-- A telling answer is none of these.
not_wrong : {x z : Pair} → Telling x z → {o : Outcome Pair} → Wrong x o → o ≡ given z → ⊥
not_wrong t (refuses r) e = let z : ◌≡◌ {A = ℕ} 0 1 = cc in omega arith
not_wrong t answers_entire e = t.not_entire (cc)
not_wrong t answers_empty e = t.not_empty (cc)
not_wrong t hands_back e = t.not_first (cc)

-- No function whose every outcome is one of these satisfies the statement of a bare operation.
pub no_wrong₁ : (op : Unary) (f : Pair → Outcome Pair) → ((x : Pair) → Wrong x (f x)) → ((x : Pair) → Bare₁ binary64 op x (f x)) → ⊥
no_wrong₁ op f bad all =
    let e = example₁ op in
    not_wrong e.telling (bad e.x) (bare₁_once binary64 op e.x (all e.x) (right₁ (bare_good (inl e.proper)) e.right))

pub no_wrong₂ : (op : Operation) (f : Pair → Pair → Outcome Pair) → ((x y : Pair) → Wrong x (f x y)) → ((x y : Pair) → Bare₂ binary64 op x y (f x y)) → ⊥
no_wrong₂ op f bad all =
    let e = example₂ op in
    not_wrong e.telling (bad e.x e.y)
    (bare₂_once binary64 op e.x e.y (all e.x e.y) (right₂ (bare_good (inl e.proper)) (bare_good (inl e.proper_too)) e.right))

-- Decorated operations: whatever the decoration of the answer, its interval is the bare one.
abbrev pub trivially : Pair → DecPair
trivially x = record { pair = x; decoration = Trv }

pub data WrongDec (x : DecPair) : Outcome DecPair → Type 0 where
  refuses_dec : (r : Refusal) → WrongDec x (refused r)
  answers_entire_dec : (d : Decoration) → WrongDec x (given (record { pair = entire; decoration = d }))
  answers_empty_dec : (d : Decoration) → WrongDec x (given (record { pair = emptiness; decoration = d }))
  hands_back_dec : WrongDec x (given x)

pub sound_trivially : {x : Pair} → Bare binary64 x → JudgedDecorated binary64 (trivially x) sound
sound_trivially {x} h =
    decorated_good (inl h)
    (record {
      not_ill = λ p e. let z : ◌≡◌ {A = ℕ} 0 1 = cc in omega arith;
      bounded = λ p e. let z : ◌≡◌ {A = ℕ} 0 1 = cc in absurd (omega arith);
      empty_trv = λ k. refl;
      nans_ill = λ k. absurd (bare_not_nans binary64 h k);
    })

-- The interval of a right decorated answer.
not_wrong_interval : {x z : Pair} → Telling x z → {w : DecPair} → w.pair ≡ z → WrongDec (trivially x) (given w) → ⊥
not_wrong_interval t e (answers_entire_dec d) = t.not_entire (sym e)
not_wrong_interval t e (answers_empty_dec d) = t.not_empty (sym e)
not_wrong_interval t e hands_back_dec = t.not_first (sym e)

not_wrong_decorated : {x z : Pair} {IsNaI : Type 0} {R : Fraction → Type 0} {Allows : Set → Decoration → Type 0} {d : Decoration} {w : DecPair}
    → Telling x z → HullOf binary64 R z → (IsNaI → ⊥) → RightDecorated binary64 IsNaI R Allows d w → WrongDec (trivially x) (given w) → ⊥
not_wrong_decorated t h never (right_nai n) bad = never n
not_wrong_decorated {z = z} {R = R} t h never (right_interval {z = w} n k l) bad =
    not_wrong_interval t (hull_once binary64 R w.pair z k h) bad

wrong_not_sound : (x : DecPair) {n : ℕ} → JudgedDecorated binary64 x (wrong n) → JudgedDecorated binary64 x sound → ⊥
wrong_not_sound x {n} h k =
    let e : wrong n ≡ sound = judged_decorated_once binary64 x (wrong n) sound h k in
    let z : ◌≡◌ {A = ℕ} 0 1 = cc in omega arith

pub no_wrong_decorated₁ : (op : Unary) (f : DecPair → Outcome DecPair) → ((x : DecPair) → WrongDec x (f x))
    → ((x : DecPair) → Decorated₁ binary64 op x (f x)) → ⊥
no_wrong_decorated₁ op f bad all = let e = example₁ op in go e (bad (trivially e.x)) (all (trivially e.x))
  where
    go : (e : Example₁ op) {o : Outcome DecPair} → WrongDec (trivially e.x) o → Decorated₁ binary64 op (trivially e.x) o → ⊥
    go e b (first₁ j) = wrong_not_sound (trivially e.x) j (sound_trivially (inl e.proper))
    go e b (right₁ j r) = not_wrong_decorated e.telling e.right (bare_not_nans binary64 (inl e.proper)) r b

pub no_wrong_decorated₂ : (op : Operation) (f : DecPair → DecPair → Outcome DecPair) → ((x y : DecPair) → WrongDec x (f x y))
    → ((x y : DecPair) → Decorated₂ binary64 op x y (f x y)) → ⊥
no_wrong_decorated₂ op f bad all =
    let e = example₂ op in go e (bad (trivially e.x) (trivially e.y)) (all (trivially e.x) (trivially e.y))
  where
    go : (e : Example₂ op) {o : Outcome DecPair} → WrongDec (trivially e.x) o → Decorated₂ binary64 op (trivially e.x) (trivially e.y) o → ⊥
    go e b (first₂ j) = wrong_not_sound (trivially e.x) j (sound_trivially (inl e.proper))
    go e b (second₂ j k) = wrong_not_sound (trivially e.y) k (sound_trivially (inl e.proper_too))
    go e b (right₂ j k r) =
        not_wrong_decorated e.telling e.right
        (⊎_elim (bare_not_nans binary64 (inl e.proper)) (bare_not_nans binary64 (inl e.proper_too))) r b

-- Overlap: a wrong version refuses every call, or answers one state always.
finished : RightState (pair one two) (only two) finished_by 10
unfolding infinity sign_bit value magnitude plus minus
finished = state_tested (pair one two) (only two) finished_by 10 tt

met : RightState (pair one two) (pair two three) meets 4
unfolding infinity sign_bit value magnitude plus minus
met = state_tested (pair one two) (pair two three) meets 4 tt

pub no_refusing_overlap : (r : Pair → Pair → Refusal) → ((x y : Pair) → BareOverlap binary64 x y (refused (r x y))) → ⊥
no_refusing_overlap r all =
    let e : ◌≡◌ {A = Outcome ℕ} (refused (r (pair one two) (only two))) (given 10) =
    bare_overlap_once binary64 (pair one two) (only two) (all (pair one two) (only two)) finished.answered in
    let z : ◌≡◌ {A = ℕ} 0 1 = cc in omega arith

pub no_constant_overlap : (n : ℕ) → ((x y : Pair) → BareOverlap binary64 x y (given n)) → ⊥
no_constant_overlap n all =
    let e : ◌≡◌ {A = Outcome ℕ} (given n) (given 10) = bare_overlap_once binary64 (pair one two) (only two) (all (pair one two) (only two)) finished.answered in
    let d : ◌≡◌ {A = Outcome ℕ} (given n) (given 4) = bare_overlap_once binary64 (pair one two) (pair two three) (all (pair one two) (pair two three)) met.answered in
    let z : ◌≡◌ {A = ℕ} 10 4 = cc in omega arith

-- The same with decorations.
one_two_proper : Proper binary64 (pair one two)
unfolding infinity sign_bit value magnitude plus minus
one_two_proper = (bounded_set binary64 (pair one two) tt).0

two_proper : Proper binary64 (only two)
unfolding infinity sign_bit value magnitude plus minus
two_proper = (bounded_set binary64 (only two) tt).0

two_three_proper : Proper binary64 (pair two three)
unfolding infinity sign_bit value magnitude plus minus
two_three_proper = (bounded_set binary64 (pair two three) tt).0

decorated_state : {x y : Pair} {s : State} {n : ℕ} → Proper binary64 x → Proper binary64 y → RightState x y s n
    → DecOverlap binary64 (trivially x) (trivially y) (given n)
decorated_state {x} {y} {s} p q right =
    right₂ (sound_trivially (inl p)) (sound_trivially (inl q))
    (interval_state (⊎_elim (bare_not_nans binary64 (inl p)) (bare_not_nans binary64 (inl q)))
    (record { state = s; holds = right.holds; is = right.numbered }))

finished_trivially : DecOverlap binary64 (trivially (pair one two)) (trivially (only two)) (given 10)
finished_trivially = decorated_state one_two_proper two_proper finished

met_trivially : DecOverlap binary64 (trivially (pair one two)) (trivially (pair two three)) (given 4)
met_trivially = decorated_state one_two_proper two_three_proper met

pub no_refusing_dec_overlap : (r : DecPair → DecPair → Refusal) → ((x y : DecPair) → DecOverlap binary64 x y (refused (r x y))) → ⊥
no_refusing_dec_overlap r all =
    let x = trivially (pair one two) in
    let y = trivially (only two) in
    let e : ◌≡◌ {A = Outcome ℕ} (refused (r x y)) (given 10) = dec_overlap_once binary64 x y (all x y) finished_trivially in
    let z : ◌≡◌ {A = ℕ} 0 1 = cc in omega arith

pub no_constant_dec_overlap : (n : ℕ) → ((x y : DecPair) → DecOverlap binary64 x y (given n)) → ⊥
no_constant_dec_overlap n all =
    let x = trivially (pair one two) in
    let y = trivially (only two) in
    let w = trivially (pair two three) in
    let e : ◌≡◌ {A = Outcome ℕ} (given n) (given 10) = dec_overlap_once binary64 x y (all x y) finished_trivially in
    let d : ◌≡◌ {A = Outcome ℕ} (given n) (given 4) = dec_overlap_once binary64 x w (all x w) met_trivially in
    let z : ◌≡◌ {A = ℕ} 10 4 = cc in omega arith
