-- Overlap by keys: whole numbers in the place of ends, ordered as the ends are.
use mathlib.Core.Path.{◌≡◌, subst₂}
use Prim.Native.Nat.{ℕ, ◌<◌}
use native.Mathlib.Omega.{arith}
use Rattle.meaning.specs.Overlap.{State, both_empty, first_empty, second_empty, before, meets, overlaps, starts, contained_by, finishes, equals, finished_by, contains, started_by, overlapped_by, met_by, after, Conditions}
use Rattle.uniqueness.specs.Order.{Compared, less, same, more, Keys}

compared : {m n : ℕ} → Dec (m < n) → Dec (n < m) → Compared ◌<◌ ◌≡◌ m n
compared (yes h) k = less h
compared (no h) (yes k) = more k
compared (no h) (no k) = same (omega arith)

-- A state of keys is the state of what they stand for.
module _ {K A : Type 0} {ltᵏ eqᵏ : K → K → Type 0} {lt eq : A → A → Type 0} {Keyed : K → A → Type 0} (keys : Keys ltᵏ eqᵏ lt eq Keyed) where
  open keys use {keeps_less, keeps_same}

  module _ {k l m n : K} {a b c d : A} (ka : Keyed k a) (lb : Keyed l b) (mc : Keyed m c) (nd : Keyed n d) where
    pub by_keys : (s : State) → Conditions ltᵏ eqᵏ s k l m n → Conditions lt eq s a b c d
    by_keys both_empty h = h
    by_keys first_empty h = h
    by_keys second_empty h = h
    by_keys before h = keeps_less lb mc h
    by_keys meets h = (keeps_less ka lb h.0, keeps_same lb mc h.1, keeps_less mc nd h.2)
    by_keys overlaps h = (keeps_less ka mc h.0, keeps_less mc lb h.1, keeps_less lb nd h.2)
    by_keys starts h = (keeps_same ka mc h.0, keeps_less lb nd h.1)
    by_keys contained_by h = (keeps_less mc ka h.0, keeps_less lb nd h.1)
    by_keys finishes h = (keeps_less mc ka h.0, keeps_same lb nd h.1)
    by_keys equals h = (keeps_same ka mc h.0, keeps_same lb nd h.1)
    by_keys finished_by h = (keeps_less ka mc h.0, keeps_same lb nd h.1)
    by_keys contains h = (keeps_less ka mc h.0, keeps_less nd lb h.1)
    by_keys started_by h = (keeps_same ka mc h.0, keeps_less nd lb h.1)
    by_keys overlapped_by h = (keeps_less mc ka h.0, keeps_less ka nd h.1, keeps_less nd lb h.2)
    by_keys met_by h = (keeps_less mc nd h.0, keeps_same ka nd h.1, keeps_less ka lb h.2)
    by_keys after h = keeps_less nd ka h

-- A map that keeps order and equality makes each k a key of f k.
pub map_keys : {K A : Type 0} {ltᵏ eqᵏ : K → K → Type 0} {lt eq : A → A → Type 0} (f : K → A)
    → ((k m : K) → ltᵏ k m → lt (f k) (f m))
    → ((k m : K) → eqᵏ k m → eq (f k) (f m))
    → Keys ltᵏ eqᵏ lt eq (λ k x. f k ≡ x)
map_keys {lt = lt} {eq = eq} f order equality = record {
  keeps_less = λ p q h. subst₂ lt p q (order _ _ h);
  keeps_same = λ p q h. subst₂ eq p q (equality _ _ h);
}
