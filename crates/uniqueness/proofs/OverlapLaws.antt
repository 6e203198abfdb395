-- Two valid sets have exactly one state of overlap, and the statements of overlap one outcome each.
use mathlib.Core.Path.{◌≡◌, refl, sym, ◌∙◌, ap}
use mathlib.Core.Logic.{inl, inr, ⊎_elim}
use Prim.Native.Nat.{ℕ}
use Rattle.patterns.specs.Format.{Format}
use Rattle.meaning.specs.Sets.{End, at, unbounded, Set, empty, span, Ordered, ordered, Valid, valid_empty, valid_span}
use Rattle.meaning.specs.Pairs.{Pair, NaNs, set_of}
use Rattle.meaning.specs.Statement.{Outcome, sound, JudgedBare, bare_good, DecPair, Ends, JudgedDecorated, decorated_good}
use Rattle.meaning.specs.Overlap.{State, both_empty, first_empty, second_empty, state_number, number, plus_inf, as_lower, as_upper, Less, less_numbers, from_minus, across, OverlapOf, OverlapNumber, DecoratedOverlap, nai_state, interval_state, BareOverlap, DecOverlap}
use Rattle.meaning.proofs.FractionLaws.{lt_not_le}
use Rattle.meaning.proofs.PairLaws.{set_valid}
use Rattle.meaning.proofs.Unique.{one_sound_answer, judged_bare_once}
use Rattle.uniqueness.proofs.StateLaws.{complete, exclusive}
use Rattle.uniqueness.proofs.ExtendedOrder.{extended}
use Rattle.uniqueness.proofs.VerdictLaws.{judged_decorated_once}

-- The ends of a valid span are in order as extended numbers.
in_order_lem : (a b : End) → Ordered a b → Less (as_upper b) (as_lower a) → ⊥
in_order_lem (at a) (at b) (ordered h) (less_numbers k) = lt_not_le k h
in_order_lem unbounded (at b) h k = extended.irreflexive (number b) (extended.transitive k from_minus)
in_order_lem unbounded unbounded h k = extended.irreflexive plus_inf (extended.transitive k across)
in_order_lem (at a) unbounded h k = elim k [ ]

-- Two sets have a state, and two valid sets only one.
pub overlap_exists : (X Y : Set) → (s : State) × OverlapOf X Y s
overlap_exists empty empty = (both_empty, refl)
overlap_exists empty (span c d) = (first_empty, refl)
overlap_exists (span a b) empty = (second_empty, refl)
overlap_exists (span a b) (span c d) = complete extended (as_lower a) (as_upper b) (as_lower c) (as_upper d)

pub overlap_unique : {X Y : Set} → Valid X → Valid Y → {s t : State} → OverlapOf X Y s → OverlapOf X Y t → s ≡ t
overlap_unique valid_empty valid_empty h k = h ∙ sym k
overlap_unique valid_empty (valid_span cd) h k = h ∙ sym k
overlap_unique (valid_span ab) valid_empty h k = h ∙ sym k
overlap_unique (valid_span {lower = a} {upper = b} ab) (valid_span {lower = c} {upper = d} cd) h k =
    exclusive extended (in_order_lem a b ab) (in_order_lem c d cd) h k

-- A bare overlap has one number, and a decorated one too.
pub number_unique : {X Y : Set} → Valid X → Valid Y → {m n : ℕ} → OverlapNumber X Y m → OverlapNumber X Y n → m ≡ n
number_unique X Y h k = h.is ∙ ap state_number (overlap_unique X Y h.holds k.holds) ∙ sym k.is

interval_valid : (F : Format) {p : Pair} → Ends F p → (NaNs F p → ⊥) → Valid (set_of F p)
interval_valid F {p} ends not_nai = ⊎_elim (set_valid F p) (λ n. absurd (not_nai n)) ends

module _ (F : Format) (x y : DecPair) (endsX : Ends F x.pair) (endsY : Ends F y.pair) where
  pub decorated_number_unique : {m n : ℕ} → DecoratedOverlap F x y m → DecoratedOverlap F x y n → m ≡ n
  decorated_number_unique (nai_state h) (nai_state k) = refl
  decorated_number_unique (nai_state h) (interval_state k _) = absurd (k h)
  decorated_number_unique (interval_state h _) (nai_state k) = absurd (h k)
  decorated_number_unique (interval_state not_nai h) (interval_state _ k) =
      number_unique (interval_valid F endsX (λ n. not_nai (inl n))) (interval_valid F endsY (λ n. not_nai (inr n))) h k

sound_bare : {F : Format} {x : Pair} → JudgedBare F x sound → Valid (set_of F x)
sound_bare {F} {x} (bare_good h) = set_valid F x h

sound_ends : {F : Format} {x : DecPair} → JudgedDecorated F x sound → Ends F x.pair
sound_ends (decorated_good h _) = h

-- The statements of overlap have one outcome each.
pub bare_overlap_once : (F : Format) (x y : Pair) {o p : Outcome ℕ} → BareOverlap F x y o → BareOverlap F x y p → o ≡ p
bare_overlap_once F x y h k =
    one_sound_answer (judged_bare_once F) (λ i j m n. number_unique (sound_bare i) (sound_bare j)) h k

pub dec_overlap_once : (F : Format) (x y : DecPair) {o p : Outcome ℕ} → DecOverlap F x y o → DecOverlap F x y p → o ≡ p
dec_overlap_once F x y h k =
    one_sound_answer (judged_decorated_once F) (λ i j m n. decorated_number_unique F x y (sound_ends i) (sound_ends j)) h k
