-- A request and a codec that are answered, bare and decorated: [1, 1] + [1, 1] = [2, 2], and [1, 1] in the other byte order.
use mathlib.Core.Bool.{true}
use mathlib.Core.Path.{refl}
use mathlib.Core.List.{List, ◌∷◌, ◌++◌}
use Prim.Native.Nat.{ℕ}
use native.Mathlib.Omega.{arith}
use lib.Dec.{lit≤}
use Rattle.patterns.specs.Format.{binary64, infinity, sign_bit}
use Rattle.patterns.specs.Value.{value, magnitude, plus, minus, opposite}
use Rattle.meaning.specs.Fraction.{◌⊕◌, ◌⊗◌}
use Rattle.meaning.specs.Points.{add}
use Rattle.meaning.specs.Results.{Result₂, point}
use Rattle.meaning.specs.Pairs.{Bare, Canonical, minus_infinity, end_of, set_of}
use Rattle.meaning.specs.Decorations.{Com}
use Rattle.meaning.specs.Statement.{DecPair, given, no_refusal, sound, HullOf, RightDec₂, right₁, right₂, Decorated₂, Agrees, decorated_good}
use Rattle.meaning.specs.Bytes.{ByteOrder, big_endian, little_endian, bytes_good, JudgedDecBytes, dec_bytes_good, canonical_ends, ReadDecorated, write_pair, write_decorated}
use Rattle.meaning.specs.Calls.{passed}
use Rattle.meaning.specs.Forms.{bare_form, decorated_form}
use Rattle.meaning.specs.Requests.{binary, operation_number, zeros, bare_size, decorated_size, first_operand, BareRequest, DecoratedRequest, Recoded, Codec}
use Rattle.meaning.specs.Exactness.{ExactPair, ExactHullOf}
use Rattle.meaning.specs.ExactRequests.{exact_size, write_exact, ExactRequest}
use Rattle.theorem3.specs.Answer.{adding}
use Rattle.cases.specs.Table.{only, one, two, decorated_by}
use Rattle.cases.specs.ExactTable.{flagged}
use Rattle.cases.proofs.ExactTests.{exact_hull_tested}
use Rattle.cases.proofs.RowTests.{arithmetic_hull}
use Rattle.cases.proofs.DecoratedTests.{decorated_tested}
use Rattle.meaning.proofs.CalledLaws.{called_by}
use Rattle.request_laws.proofs.WrongCalls.{Shown, shown_at}

one_and_one : Bare binary64 (only one) × Bare binary64 (only one) × HullOf binary64 (Result₂ (point add) (set_of binary64 (only one)) (set_of binary64 (only one))) (only two)
unfolding infinity sign_bit value magnitude plus minus opposite ◌⊕◌ ◌⊗◌ minus_infinity end_of set_of
one_and_one = arithmetic_hull binary64 adding (only one) (only one) (only two) tt

abbrev exact_two : ExactPair
exact_two = flagged (only two) true true

exactly_two : ExactHullOf binary64 (Result₂ (point add) (set_of binary64 (only one)) (set_of binary64 (only one))) exact_two
unfolding infinity sign_bit value magnitude plus minus opposite ◌⊕◌ ◌⊗◌ minus_infinity end_of set_of
exactly_two = (exact_hull_tested binary64 adding (only one) (only one) exact_two tt).2

one_canonical : Canonical binary64 (only one)
unfolding sign_bit
one_canonical = record { bare = one_and_one.0; lower_zero = λ e. omega arith; upper_zero = λ e. omega arith }

abbrev bare_sum : List ℕ
bare_sum = operation_number (binary (point add)) ∷ (write_pair big_endian (only one) ++ write_pair big_endian (only one))

bare_sum_lem : BareRequest binary64 bare_sum (zeros bare_size) no_refusal (write_pair big_endian (only two))
bare_sum_lem =
    called_by (given (write_pair big_endian (only two)))
    (passed refl
    (passed refl
    (passed (record { asked = binary (point add); asks = record { is = refl } })
    (record {
      asked = binary (point add);
      asks = record { is = refl };
      outcome =
          right₂ (bytes_good one_canonical) (bytes_good one_canonical)
          (record { answer = only two; right = one_and_one.2; written = refl });
    }))))

pub bare_shown : Shown (BareRequest binary64) big_endian (first_operand bare_size)
bare_shown = shown_at 0 bare_sum (zeros bare_size) (write_pair big_endian (only two)) bare_sum_lem refl refl refl refl

-- The same with the exactness of each end.
exact_sum : ExactRequest binary64 bare_sum (zeros exact_size) no_refusal (write_exact exact_two)
exact_sum =
    called_by (given (write_exact exact_two))
    (passed refl
    (passed refl
    (passed (lit≤ tt, lit≤ tt)
    (record {
      asked = binary (point add);
      asks = record { is = refl };
      outcome =
          right₂ (bytes_good one_canonical) (bytes_good one_canonical)
          (record { answer = exact_two; right = exactly_two; written = refl });
    }))))

pub exact_shown : Shown (ExactRequest binary64) big_endian (first_operand bare_size)
exact_shown = shown_at 0 bare_sum (zeros exact_size) (write_exact exact_two) exact_sum refl refl refl refl

-- The same with decorations.
abbrev pub common : ℕ → DecPair
common b = decorated_by (only b) Com

abbrev SoundSum : DecPair → DecPair → DecPair → Type 0
SoundSum x y z = Agrees binary64 x × Agrees binary64 y × RightDec₂ binary64 (point add) x y z

sound_sum : {x y z : DecPair} → Decorated₂ binary64 (point add) x y (given z) → SoundSum x y z
sound_sum (right₂ (decorated_good _ h) (decorated_good _ k) r) = (h, k, r)

commonly : SoundSum (common one) (common one) (common two)
unfolding infinity sign_bit value magnitude plus minus opposite ◌⊕◌ ◌⊗◌ minus_infinity end_of set_of
commonly = sound_sum (decorated_tested binary64 adding (common one) (common one) (common two) tt)

one_sound : (o : ByteOrder) → JudgedDecBytes binary64 o (write_decorated o (common one)) sound
one_sound big_endian = dec_bytes_good Com (record { is = refl }) (canonical_ends one_canonical) commonly.0
one_sound little_endian = dec_bytes_good Com (record { is = refl }) (canonical_ends one_canonical) commonly.0

one_read : (o : ByteOrder) → ReadDecorated o (write_decorated o (common one)) (common one)
one_read big_endian = record { ends = refl; byte = record { is = refl } }
one_read little_endian = record { ends = refl; byte = record { is = refl } }

abbrev pub decorated_sum : List ℕ
decorated_sum = operation_number (binary (point add)) ∷ (write_decorated big_endian (common one) ++ write_decorated big_endian (common one))

pub decorated_sum_lem : DecoratedRequest binary64 decorated_sum (zeros decorated_size) no_refusal (write_decorated big_endian (common two))
decorated_sum_lem =
    called_by (given (write_decorated big_endian (common two)))
    (passed refl
    (passed refl
    (passed (record { asked = binary (point add); asks = record { is = refl } })
    (record {
      asked = binary (point add);
      asks = record { is = refl };
      outcome =
          right₂ (one_sound big_endian) (one_sound big_endian)
          (record {
            x = common one;
            y = common one;
            read_x = one_read big_endian;
            read_y = one_read big_endian;
            right = record { answer = common two; right = commonly.2; written = refl };
          });
    }))))

pub decorated_shown : Shown (DecoratedRequest binary64) big_endian (first_operand decorated_size)
decorated_shown = shown_at 0 decorated_sum (zeros decorated_size) (write_decorated big_endian (common two)) decorated_sum_lem refl refl refl refl

-- A codec's operand is its whole input.
abbrev pub whole : List ℕ → List ℕ
whole input = input

-- [1, 1] is recoded. The byte of an end that weighs most, which tells, is the last one in little endian.
bare_one : (from to : ByteOrder) → Recoded binary64 bare_form from to (write_pair from (only one)) (given (write_pair to (only one)))
bare_one big_endian to = right₁ (bytes_good one_canonical) (record { answer = only one; right = refl; written = refl })
bare_one little_endian to = right₁ (bytes_good one_canonical) (record { answer = only one; right = refl; written = refl })

decorated_one : (from to : ByteOrder) → Recoded binary64 decorated_form from to (write_decorated from (common one)) (given (write_decorated to (common one)))
decorated_one from to = right₁ (one_sound from) (record { answer = common one; right = one_read from; written = refl })

pub bare_shown_big : Shown (Codec binary64 bare_form little_endian big_endian) big_endian whole
bare_shown_big =
    shown_at 0 (write_pair little_endian (only one)) (zeros bare_size) (write_pair big_endian (only one))
    (called_by (given (write_pair big_endian (only one))) (passed refl (passed refl (bare_one little_endian big_endian)))) refl refl refl refl

pub bare_shown_little : Shown (Codec binary64 bare_form big_endian little_endian) little_endian whole
bare_shown_little =
    shown_at 7 (write_pair big_endian (only one)) (zeros bare_size) (write_pair little_endian (only one))
    (called_by (given (write_pair little_endian (only one))) (passed refl (passed refl (bare_one big_endian little_endian)))) refl refl refl refl

pub decorated_shown_big : Shown (Codec binary64 decorated_form little_endian big_endian) big_endian whole
decorated_shown_big =
    shown_at 0 (write_decorated little_endian (common one)) (zeros decorated_size) (write_decorated big_endian (common one))
    (called_by (given (write_decorated big_endian (common one))) (passed refl (passed refl (decorated_one little_endian big_endian)))) refl refl refl refl

pub decorated_shown_little : Shown (Codec binary64 decorated_form big_endian little_endian) little_endian whole
decorated_shown_little =
    shown_at 7 (write_decorated big_endian (common one)) (zeros decorated_size) (write_decorated little_endian (common one))
    (called_by (given (write_decorated little_endian (common one))) (passed refl (passed refl (decorated_one big_endian little_endian)))) refl refl refl refl
