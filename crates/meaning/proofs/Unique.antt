-- Two answers that satisfy a statement are equal, once for all operations and formats.
use mathlib.Core.Path.{◌≡◌, refl, sym, ◌∙◌, ap, subst₂}
use mathlib.Core.List.{List}
use mathlib.Core.Logic.{◌⊎◌, inl, inr, ⊎_elim}
use Prim.Native.Nat.{ℕ, ◌+◌, ◌*◌, ◌^◌, ◌<◌}
use native.Mathlib.Nat.{eq_of_mul-eq-mul_right}
use native.Mathlib.Omega.{arith}
use lib.Pow.{pow_pos}
use Rattle.patterns.specs.Format.{Format, infinity, sign_bit}
use Rattle.patterns.specs.Value.{Finite, opposite, plus, minus}
use Rattle.patterns.specs.Rounding.{UpperPattern}
use Rattle.patterns.proofs.UpLaws.{value_unique}
use Rattle.patterns.proofs.SignLaws.{infinity_below, opposite_opposite, finite_opposite}
use Rattle.meaning.specs.Fraction.{Fraction, ◌≈◌}
use Rattle.meaning.specs.Sets.{End, at, unbounded, empty, span, Inside, SameSet, Ordered, SameEnd, same_number}
use Rattle.meaning.specs.Pairs.{Pair, worth, minus_infinity, Proper, Bare, Canonical, end_of, set_of}
use Rattle.meaning.specs.Statement.{Outcome, given, Verdict, sound, wrong, Answered₁, first₁, right₁, Answered₂, first₂, second₂, right₂, JudgedBare, bare_five, bare_good, HullOf, Bare₁, Bare₂}
use Rattle.meaning.specs.Bytes.{Written}
use Rattle.meaning.specs.Points.{Unary}
use Rattle.meaning.specs.Results.{Operation, Result₁, Result₂}
use Rattle.meaning.proofs.SetLaws.{same_upper, same_lower, some_member}
use Rattle.meaning.proofs.HullLaws.{hull_unique}
use Rattle.meaning.proofs.PairLaws.{end_finite, end_infinity, end_opposite, opposite_minus_infinity, opposite_sign, set_proper, set_empty, proper_ordered}

-- Two finite patterns that are worth the same and are not -0.0 are equal.
pub worth_unique : (F : Format) {a b : ℕ} → Finite F a → Finite F b → (a ≡ sign_bit F → ⊥) → (b ≡ sign_bit F → ⊥)
    → worth F a ≈ worth F b → a ≡ b
worth_unique F {a} {b} f g m n h =
    value_unique F f g m n
    (eq_of_mul-eq-mul_right (2 ^ F.point) (pow_pos F.point) (plus F a + minus F b) (plus F b + minus F a) (omega (arith, h.eq)))

-- Two upper ends that bound by the same end are one pattern.
pub upper_unique : (F : Format) {a b : ℕ} → UpperPattern F a → UpperPattern F b → SameEnd (end_of F a) (end_of F b) → a ≡ b
upper_unique F {a} {b} h k s = go h.number k.number
  where
    number : {p q : Fraction} → SameEnd (at p) (at q) → p ≈ q
    number (same_number e) = e

    number_none : {p : Fraction} → SameEnd (at p) unbounded → ⊥
    number_none e = elim e [ ]

    none_number : {p : Fraction} → SameEnd unbounded (at p) → ⊥
    none_number e = elim e [ ]

    go : Finite F a ⊎ (a ≡ infinity F) → Finite F b ⊎ (b ≡ infinity F) → a ≡ b
    go (inl f) (inl g) =
        worth_unique F f g h.not_minus_zero k.not_minus_zero (number (subst₂ SameEnd (end_finite F f) (end_finite F g) s))
    go (inl f) (inr e) =
        absurd (number_none (subst₂ SameEnd (end_finite F f) (ap (end_of F) e ∙ end_infinity F) s))
    go (inr e) (inl g) =
        absurd (none_number (subst₂ SameEnd (ap (end_of F) e ∙ end_infinity F) (end_finite F g) s))
    go (inr e) (inr d) = e ∙ sym d

-- A valid span is not inside EMPTY.
not_empty_lem : {a b : End} → Ordered a b → Inside (span a b) empty → ⊥
not_empty_lem h k = let t = some_member h in k t.0 t.1

-- The opposite of a lower end's pattern may be an upper end.
lower_pattern : (F : Format) {b : ℕ} → Finite F b ⊎ (b ≡ minus_infinity F) → b < 2 * sign_bit F
unfolding minus_infinity
lower_pattern F {b} h = ⊎_elim (λ f. f.pattern) (λ e. omega (arith, infinity_below F)) h

opposite_upper : (F : Format) {b : ℕ} → Finite F b ⊎ (b ≡ minus_infinity F) → (b ≡ 0 → ⊥) → UpperPattern F (opposite F b)
opposite_upper F {b} h not_zero = record { number = number h; not_minus_zero = not_sign }
  where
    number : Finite F b ⊎ (b ≡ minus_infinity F) → Finite F (opposite F b) ⊎ (opposite F b ≡ infinity F)
    number (inl f) = inl (finite_opposite F f)
    number (inr e) = inr (ap (opposite F) e ∙ opposite_minus_infinity F)

    not_sign : opposite F b ≡ sign_bit F → ⊥
    not_sign e = not_zero (sym (opposite_opposite F (lower_pattern F h)) ∙ ap (opposite F) e ∙ opposite_sign F)

-- Two canonical pairs that stand for the same set are equal.
pub canonical_unique : (F : Format) (p q : Pair) → Canonical F p → Canonical F q → SameSet (set_of F p) (set_of F q) → p ≡ q
canonical_unique F p q h k same = go h.bare k.bare
  where
    uppers : Proper F p → Proper F q → p.upper ≡ q.upper
    uppers f g =
        upper_unique F (record { number = f.upper_end; not_minus_zero = h.upper_zero }) (record { number = g.upper_end; not_minus_zero = k.upper_zero })
        (same_upper (proper_ordered F p f) (proper_ordered F q g) (subst₂ SameSet (set_proper F p f) (set_proper F q g) same))

    mirrored : Proper F p → Proper F q → SameEnd (end_of F (opposite F p.lower)) (end_of F (opposite F q.lower))
    mirrored f g =
        rw (end_opposite F (lower_pattern F f.lower_end), end_opposite F (lower_pattern F g.lower_end))
        (same_lower (proper_ordered F p f) (proper_ordered F q g) (subst₂ SameSet (set_proper F p f) (set_proper F q g) same))

    lowers : Proper F p → Proper F q → p.lower ≡ q.lower
    lowers f g =
        sym (opposite_opposite F (lower_pattern F f.lower_end))
        ∙ ap (opposite F)
        (upper_unique F (opposite_upper F f.lower_end h.lower_zero) (opposite_upper F g.lower_end k.lower_zero) (mirrored f g))
        ∙ opposite_opposite F (lower_pattern F g.lower_end)

    pair : {a b c d : ℕ} → a ≡ c → b ≡ d → ◌≡◌ {A = Pair} (record { lower = a; upper = b }) (record { lower = c; upper = d })
    pair e f = λ i. record { lower = e i; upper = f i }

    go : Bare F p → Bare F q → p ≡ q
    go (inl f) (inl g) = pair (lowers f g) (uppers f g)
    go (inr f) (inr g) = pair (f.lower_is ∙ sym g.lower_is) (f.upper_is ∙ sym g.upper_is)
    go (inl f) (inr g) =
        absurd (not_empty_lem (proper_ordered F p f) (subst₂ SameSet (set_proper F p f) (set_empty F q g) same).0)
    go (inr f) (inl g) =
        absurd (not_empty_lem (proper_ordered F q g) (subst₂ SameSet (set_empty F p f) (set_proper F q g) same).1)

-- At most one value.
abbrev pub One : {A : Type 0} → (A → Type 0) → Type 0
One {A} R = (z w : A) → R z → R w → z ≡ w

pub written_once : {A : Type 0} {write : A → List ℕ} {Right : A → Type 0} → One Right → One (Written write Right)
written_once {write = write} one z w h k = h.written ∙ ap write (one h.answer k.answer h.right k.right) ∙ sym k.written

pub one_answer₁ : {A B : Type 0} {Judged : A → Verdict → Type 0} {Right : A → B → Type 0} {x : A} {o p : Outcome B}
    → ((v w : Verdict) → Judged x v → Judged x w → v ≡ w)
    → ((z w : B) → Right x z → Right x w → z ≡ w)
    → Answered₁ Judged Right x o → Answered₁ Judged Right x p → o ≡ p
one_answer₁ {x = x} once single (first₁ {n} j) (first₁ {n = m} k) = let h : wrong n ≡ wrong m = once (wrong n) (wrong m) j k in cc
one_answer₁ {x = x} once single (first₁ {n} j) (right₁ k r) = let h : wrong n ≡ sound = once (wrong n) sound j k in cc
one_answer₁ {x = x} once single (right₁ j r) (first₁ {n} k) = let h : sound ≡ wrong n = once sound (wrong n) j k in cc
one_answer₁ {x = x} once single (right₁ {z} j r) (right₁ {z = w} k s) = ap given (single z w r s)

pub one_answer₂ : {A B : Type 0} {Judged : A → Verdict → Type 0} {Right : A → A → B → Type 0} {x y : A} {o p : Outcome B}
    → ((a : A) (v w : Verdict) → Judged a v → Judged a w → v ≡ w)
    → ((z w : B) → Right x y z → Right x y w → z ≡ w)
    → Answered₂ Judged Right x y o → Answered₂ Judged Right x y p → o ≡ p
one_answer₂ {x = x} once single (first₂ {n} j) (first₂ {n = m} k) = let h : wrong n ≡ wrong m = once x (wrong n) (wrong m) j k in cc
one_answer₂ {x = x} once single (first₂ {n} j) (second₂ k l) = let h : wrong n ≡ sound = once x (wrong n) sound j k in cc
one_answer₂ {x = x} once single (first₂ {n} j) (right₂ k l r) = let h : wrong n ≡ sound = once x (wrong n) sound j k in cc
one_answer₂ {x = x} once single (second₂ j i) (first₂ {n} k) = let h : sound ≡ wrong n = once x sound (wrong n) j k in cc
one_answer₂ {y = y} once single (second₂ {n} j i) (second₂ {n = m} k l) = let h : wrong n ≡ wrong m = once y (wrong n) (wrong m) i l in cc
one_answer₂ {y = y} once single (second₂ {n} j i) (right₂ k l r) = let h : wrong n ≡ sound = once y (wrong n) sound i l in cc
one_answer₂ {x = x} once single (right₂ j i r) (first₂ {n} k) = let h : sound ≡ wrong n = once x sound (wrong n) j k in cc
one_answer₂ {y = y} once single (right₂ j i r) (second₂ {n} k l) = let h : sound ≡ wrong n = once y sound (wrong n) i l in cc
one_answer₂ once single (right₂ {z} j i r) (right₂ {z = w} k l s) = ap given (single z w r s)

-- Only the answers to sound operands count.
sound_answer : {A B : Type 0} {Judged : A → Verdict → Type 0} {Right : A → A → B → Type 0} {x y : A} {o : Outcome B}
    → Answered₂ Judged Right x y o → Answered₂ Judged (λ x y z. Judged x sound × Judged y sound × Right x y z) x y o
sound_answer (first₂ h) = first₂ h
sound_answer (second₂ h k) = second₂ h k
sound_answer (right₂ h k r) = right₂ h k (h, k, r)

pub one_sound_answer : {A B : Type 0} {Judged : A → Verdict → Type 0} {Right : A → A → B → Type 0} {x y : A} {o p : Outcome B}
    → ((a : A) (v w : Verdict) → Judged a v → Judged a w → v ≡ w)
    → (Judged x sound → Judged y sound → (z w : B) → Right x y z → Right x y w → z ≡ w)
    → Answered₂ Judged Right x y o → Answered₂ Judged Right x y p → o ≡ p
one_sound_answer once single h k =
    one_answer₂ once (λ z w r s. single r.0 r.1 z w r.2 s.2) (sound_answer h) (sound_answer k)

-- One verdict on a bare operand, and one right bare answer.
pub judged_bare_once : (F : Format) (x : Pair) (v w : Verdict) → JudgedBare F x v → JudgedBare F x w → v ≡ w
judged_bare_once F x v w (bare_five h) (bare_five k) = refl
judged_bare_once F x v w (bare_five h) (bare_good k) = absurd (h k)
judged_bare_once F x v w (bare_good h) (bare_five k) = absurd (k h)
judged_bare_once F x v w (bare_good h) (bare_good k) = refl

pub hull_once : (F : Format) (R : Fraction → Type 0) (z w : Pair) → HullOf F R z → HullOf F R w → z ≡ w
hull_once F R z w h k = canonical_unique F z w h.canonical k.canonical (hull_unique h.hull k.hull)

-- The statements of bare operations have one outcome each.
pub bare₁_once : (F : Format) (op : Unary) (x : Pair) {o p : Outcome Pair} → Bare₁ F op x o → Bare₁ F op x p → o ≡ p
bare₁_once F op x = one_answer₁ (judged_bare_once F x) (hull_once F (Result₁ op (set_of F x)))

pub bare₂_once : (F : Format) (op : Operation) (x y : Pair) {o p : Outcome Pair} → Bare₂ F op x y o → Bare₂ F op x y p → o ≡ p
bare₂_once F op x y = one_answer₂ (judged_bare_once F) (hull_once F (Result₂ op (set_of F x) (set_of F y)))
